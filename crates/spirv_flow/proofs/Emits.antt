-- Each construct, from what the calls that write its parts ensure.
use Rattle.std.proofs.Common.{◌≡◌, ℕ, ◌+◌, ◌*◌, ◌^◌, ◌<◌, ◌≤◌, List, [], ◌∷◌, ◌++◌, Option, Some, None, Bool, true, false, refl, sym, ap, subst, arith}
use Rattle.std.specs.Prelude.{unwrap_or, is_some, slice_get, IsTrue}
use Rattle.kept_values.specs.Tables.{dirty_in, IsEmpty}
use Rattle.shader_tree.specs.declared.node.Node.{Node}
use Rattle.shader_tree.specs.declared.node.Node.TheVariants as node
use Rattle.shader_tree.specs.declared.node.Expr.TheVariants as expr
use Rattle.shader_tree.specs.Costs.{words_in, ids_in}
use Rattle.shader_tree.specs.Nodes.{AWord, ATruth, a_truth, a_word, has, is_of_sort}
use Rattle.shader_tree.specs.Placed.{placed_in, is_placed, is_switch}
use Rattle.shader_tree.specs.Terms.{Term, term_at, term_for, term_within}
use Rattle.shader_tree.specs.Terms as term
use Rattle.spirv_words.specs.Roles.{Body}
use Rattle.spirv_words.specs.Operations.{Op, op_of}
use Rattle.spirv_words.specs.Sections.{section_of_op}
use Rattle.spirv_words.specs.Text.{Instr}
use Rattle.spirv_symbols.specs.declared.symbol.TypeSymbol.TheVariants as symbol
use Rattle.spirv_emit.specs.Begun.{IsBegun}
use Rattle.spirv_emit.specs.Blocks.{Ends, Begins}
use Rattle.spirv_emit.specs.Code as code
use Rattle.spirv_emit.specs.Emission.{next_of, words_left, ids_left}
use Rattle.spirv_emit.specs.declared.emitter.Emitter.{Emitter as Emission}
use Rattle.spirv_emit.specs.Growing.{Grows, Completes}
use Rattle.spirv_emit.specs.Lanes.{Site}
use Rattle.spirv_emit.specs.Steps.{Takes, TakesRow}
use Rattle.spirv_emit.specs.Values.{Flushed, type_of_term}
use Rattle.spirv_flow.specs.declared.around.Around.{Around}
use Rattle.spirv_flow.specs.Emitting.{IsFit, MayEmit, DidEmit, Leads}
use Rattle.spirv_flow.specs.Heads.{Measures, Jumps, Closes, Chooses, OpensGuard, OpensChoice, OpensLoop, ClosesLoop, OpensSwitch, OpensAway, ClosesAway}
use Rattle.spirv_flow.specs.Layout.{ArePlain, branch, leave}
use Rattle.spirv_flow.specs.Lowers.{Lowers, marks}
use Rattle.spirv_flow.proofs.Composing.{IsGrowth}
use Rattle.spirv_flow.proofs.Pieces.{Front, Flush, front, flush}
use Rattle.spirv_flow.proofs.Constructs.{Body as BodyOf, AwayFront, away_front, lowers_guard, lowers_choice, lowers_loop, lowers_switch, lowers_case, lowers_default, lowers_both, lowers_break, lowers_continue, lowers_return}
use Rattle.spirv_emit.proofs.Lists.{and_left, and_right}
use Rattle.spirv_flow.proofs.Fits.{guard_fit, then_fit, switch_fit, loop_fit, case_fit, default_fit, choice_fit, fit_stays}
use Rattle.spirv_flow.proofs.Marked.{paid_words, paid_ids, no_marks_in, any_place}

-- STRAIGHT CODE, as spirv_emit says it.
plain_section : (o : Option Op) (os : List ℕ) → code.section_by o os ≡ Some Body → section_of_op o os ≡ Body
plain_section None os h = absurd (cc h)
plain_section (Some op) os h = cc h

pub plain_code : (seg : List Instr) → code.ArePlain seg → ArePlain seg
plain_code [] h = tt
plain_code (i ∷ is) h = ((h.0.0, plain_section (op_of i.op) i.operands h.0.1), plain_code is h.1)

-- THE TYPE of a node's value.
truth_by : (f : ℕ → Term) (n : Option Node) → IsTrue (is_of_sort ATruth n) → type_of_term (term_for f n) ≡ symbol.Truth
truth_by f None h = absurd (cc h)
truth_by f (Some (node.Expr (expr.Compare how a b))) h = refl
truth_by f (Some (node.Expr (expr.Both a b))) h = refl
truth_by f (Some (node.Expr e)) h = absurd (cc h)
truth_by f (Some (node.Stmt s)) h = absurd (cc h)

pub truth_type : (nodes : List Node) (id : ℕ) → IsTrue (has nodes (a_truth id)) → type_of_term (term_at nodes id) ≡ symbol.Truth
unfolding term_at term_within
truth_type nodes id h = truth_by (term_within id nodes) (slice_get nodes id) h

word_by : (f : ℕ → Term) (n : Option Node) → IsTrue (is_of_sort AWord n) → type_of_term (term_for f n) ≡ symbol.Word
word_by f None h = absurd (cc h)
word_by f (Some (node.Expr (expr.Compare how a b))) h = absurd (cc h)
word_by f (Some (node.Expr (expr.Both a b))) h = absurd (cc h)
word_by f (Some (node.Expr e)) h = refl
word_by f (Some (node.Stmt s)) h = absurd (cc h)

pub word_type : (nodes : List Node) (id : ℕ) → IsTrue (has nodes (a_word id)) → type_of_term (term_at nodes id) ≡ symbol.Word
unfolding term_at term_within
word_type nodes id h = word_by (term_within id nodes) (slice_get nodes id) h

-- THE LAWS of growth, as a record.
pub growth_of : ((a b c : Emission) (x y : List Instr) → Grows a b x → Grows b c y → Grows a c (x ++ y))
    → ((a b : Emission) (x : List Instr) (z : Site) → Grows a b x → Completes b z → Completes a z)
    → ((a b : Emission) (r : ℕ) → Takes a b r → Grows a b []) → ((a b : Emission) (first count : ℕ) → TakesRow a b first count → Grows a b [])
    → IsGrowth
growth_of on back takes row = record { on = on; back = back; taken = takes; row = row }

-- CODE OF SOME KIND was added.
pub record Grown (a b : Emission) : Type 0 where
  pub seg : List Instr
  pub grows : Grows a b seg

grown : (a b : Emission) (seg : List Instr) → Grows a b seg → Grown a b
grown a b seg g = record { seg = seg; grows = g }

module _ (growth : IsGrowth) where
  on : (a b c : Emission) → Grown a b → Grown b c → Grown a c
  on a b c g h = grown a c (g.seg ++ h.seg) (growth.on a b c g.seg h.seg g.grows h.grows)

  taken : (a b : Emission) (r : ℕ) → Takes a b r → Grown a b
  taken a b r h = grown a b [] (growth.taken a b r h)

  ended : (a b : Emission) (seg : List Instr) → Ends a b seg → Grown a b
  ended a b seg h = grown a b seg h.grows

  begun : (a b : Emission) (l : ℕ) → Begins a b l → Grown a b
  begun a b l h = grown a b _ h.grows

  measured : (a b : Emission) (x : Term) (r : ℕ) → Measures a b x r → Grown a b
  measured a b x r m = on a m.mid b (grown a m.mid m.emitted.gives.seg m.emitted.gives.grows) (grown m.mid b m.flushed.gives.seg m.flushed.gives.grows)

  chosen : (a b : Emission) (r y n m : ℕ) → Chooses a b r y n m → Grown a b
  chosen a b r y n m h = on a h.merged b (grown a h.merged _ h.merges.grows)
      (on h.merged h.chosen b (grown h.merged h.chosen _ h.chooses.grows) (begun h.chosen b y h.begins))

  jumped : (a b : Emission) (to l : ℕ) → Jumps a b to l → Grown a b
  jumped a b to l h = on a h.mid b (grown a h.mid _ h.ends.grows) (begun h.mid b l h.begins)

  pub closed : (a b : Emission) (to l : ℕ) → Closes a b to l → Grown a b
  closed a b to l h = on a h.mid b (grown a h.mid h.flushed.gives.seg h.flushed.gives.grows) (jumped h.mid b to l h.jumps)

  -- the pieces of code in front
  front_of : (a b : Emission) (x : Term) (r : ℕ) (m : Measures a b x r) → Front a b x (m.emitted.gives.seg ++ m.flushed.gives.seg) r
  front_of a b x r m = front growth a m.mid b x r m.emitted m.flushed (plain_code m.emitted.gives.seg m.emitted.gives.plain)
      (plain_code m.flushed.gives.seg m.flushed.gives.plain)

  flush_of : (a b : Emission) (f : Flushed a b) → Flush a b f.gives.seg
  flush_of a b f = flush growth a b f (plain_code f.gives.seg f.gives.plain)

  -- WHAT A STATEMENT'S PART NEEDS, behind the code in front of it.
  part : (a b : Emission) (around inner : Around) (mark mark' : ℕ) (x y : Term) → MayEmit a around mark x → IsFit a y → Grown a b → IsBegun b
      → IsTrue (placed_in (is_some inner.renew) (is_some inner.leave) true y) → mark' + marks y ≤ next_of b → mark' + marks y < 2 ^ 32
      → words_in y ≤ words_left b + 2 * marks y → ids_in y ≤ ids_left b + marks y → MayEmit b inner mark' y
  part a b around inner mark mark' x y may fits g begun placed labels short words ids = record {
    begun = begun;
    fit = fit_stays a b g.seg g.grows y fits;
    placed = placed;
    labels = labels;
    short = short;
    words = words;
    ids = ids;
  }

  -- A GUARD.
  guard_grown : (a b : Emission) (e : Term) (m : ℕ) → OpensGuard a b e m → Grown a b
  guard_grown a b e m o = on a o.measured b (measured a o.measured e o.truth o.measures)
      (on o.measured o.one b (taken o.measured o.one o.inside o.takes_inside)
      (on o.one o.two b (taken o.one o.two m o.takes_merge) (chosen o.two b o.truth o.inside m m o.chooses)))

  pub guard_part : (a b : Emission) (around : Around) (mark : ℕ) (e x : Term) (m : ℕ) → MayEmit a around mark (term.Guard e x) → OpensGuard a b e m
      → IsBegun b → words_left a ≤ words_left b + words_in e + 9 → ids_left a ≤ ids_left b + ids_in e + 2 → MayEmit b around mark x
  guard_part a b around mark e x m may o begun words ids =
      let l = is_some around.renew in
      let t = is_some around.leave in
      let g = guard_grown a b e m o in
      let n = no_marks_in l t x may.placed in
      let w = may.words in
      let i = may.ids in
      let k = may.labels in
      let s = may.short in
      let up = g.grows.next in
      part a b around around mark mark (term.Guard e x) x may (guard_fit a e x may.fit).1 g begun (any_place l t x may.placed)
      (omega (arith, n, k, up)) (omega (arith, n, s)) (omega (arith, n, w, words)) (omega (arith, n, i, ids))

  body_of : (b c d : Emission) (brk cont mark : ℕ) (l t : Bool) (x : Term) → Lowers b c brk cont mark l t x → (f : Flushed c d) → IsEmpty b.kept
      → BodyOf b c d brk cont mark l t x f.gives.seg
  body_of b c d brk cont mark l t x h f e = record { lowers = h; flush = flush_of c d f; begun = e }

  pub guard_did : (a b c d : Emission) (around : Around) (mark : ℕ) (e x : Term) (m : ℕ) → type_of_term e ≡ symbol.Truth
      → MayEmit a around mark (term.Guard e x) → OpensGuard a b e m → words_left a ≤ words_left b + words_in e + 9
      → ids_left a ≤ ids_left b + ids_in e + 2 → DidEmit b c around mark x → Closes c d m m → IsBegun d
      → words_left c ≤ words_left d + 4 → ids_left c ≤ ids_left d → DidEmit a d around mark (term.Guard e x)
  guard_did a b c d around mark e x m type may o words ids did k begun words' ids' =
      let l = is_some around.renew in
      let t = is_some around.leave in
      let brk = unwrap_or around.leave 0 in
      let cont = unwrap_or around.renew 0 in
      let n = no_marks_in l t x may.placed in
      let h = o.chooses in
      let w = did.words in
      let i = did.ids in
      record {
        lowers = lowers_guard growth a o.measured o.one o.two h.merged h.chosen b c k.mid k.jumps.mid d brk cont mark l t e x
            (o.measures.emitted.gives.seg ++ o.measures.flushed.gives.seg) k.flushed.gives.seg o.truth o.inside m type n
            (front_of a o.measured e o.truth o.measures) o.measures.flushed.clean o.takes_inside o.takes_merge h.merges h.chooses h.begins
            (body_of b c k.mid brk cont mark l t x did.lowers k.flushed h.begins.empty) k.jumps.ends k.jumps.begins;
        begun = begun;
        words = omega (arith, n, words, w, words');
        ids = omega (arith, n, ids, i, ids');
      }

  -- A CHOICE.
  choice_grown : (a b : Emission) (e : Term) (n m : ℕ) → OpensChoice a b e n m → Grown a b
  choice_grown a b e n m o = on a o.measured b (measured a o.measured e o.truth o.measures)
      (on o.measured o.one b (taken o.measured o.one o.first o.takes_first)
      (on o.one o.two b (taken o.one o.two n o.takes_second)
      (on o.two o.three b (taken o.two o.three m o.takes_merge) (chosen o.three b o.truth o.first n m o.chooses))))

  pub first_part : (a b : Emission) (around : Around) (mark : ℕ) (e x y : Term) (n m : ℕ) → MayEmit a around mark (term.If e x y)
      → OpensChoice a b e n m
      → IsBegun b → words_left a ≤ words_left b + words_in e + 9 → ids_left a ≤ ids_left b + ids_in e + 3 → MayEmit b around mark x
  first_part a b around mark e x y n m may o begun words ids =
      let l = is_some around.renew in
      let t = is_some around.leave in
      let g = choice_grown a b e n m o in
      let px = and_left (placed_in l t false x) (placed_in l t false y) may.placed in
      let z = no_marks_in l t x px in
      let w = may.words in
      let i = may.ids in
      let k = may.labels in
      let s = may.short in
      let up = g.grows.next in
      part a b around around mark mark (term.If e x y) x may (choice_fit a e x y may.fit).1.0 g begun (any_place l t x px)
      (omega (arith, z, k, up)) (omega (arith, z, s)) (omega (arith, z, w, words)) (omega (arith, z, i, ids))

  pub second_part : (a b c d : Emission) (around : Around) (mark : ℕ) (e x y : Term) (n m : ℕ) → MayEmit a around mark (term.If e x y)
      → OpensChoice a b e n m → words_left a ≤ words_left b + words_in e + 9 → ids_left a ≤ ids_left b + ids_in e + 3
      → DidEmit b c around mark x → Closes c d m n → IsBegun d
      → words_left c ≤ words_left d + 4 → ids_left c ≤ ids_left d → MayEmit d around mark y
  second_part a b c d around mark e x y n m may o words ids did j begun words' ids' =
      let l = is_some around.renew in
      let t = is_some around.leave in
      let g = on a b d (choice_grown a b e n m o) (on b c d (grown b c _ did.lowers.written.grows) (closed c d m n j)) in
      let px = and_left (placed_in l t false x) (placed_in l t false y) may.placed in
      let py = and_right (placed_in l t false x) (placed_in l t false y) may.placed in
      let zx = no_marks_in l t x px in
      let zy = no_marks_in l t y py in
      let w = may.words in
      let i = may.ids in
      let k = may.labels in
      let s = may.short in
      let dw = did.words in
      let di = did.ids in
      let up = g.grows.next in
      part a d around around mark mark (term.If e x y) y may (choice_fit a e x y may.fit).1.1 g begun (any_place l t y py)
      (omega (arith, zy, k, up)) (omega (arith, zy, s)) (omega (arith, zx, zy, w, words, dw, words'))
      (omega (arith, zx, zy, i, ids, di, ids'))

  pub choice_did : (a b c d p q : Emission) (around : Around) (mark : ℕ) (e x y : Term) (n m : ℕ) → type_of_term e ≡ symbol.Truth
      → MayEmit a around mark (term.If e x y) → OpensChoice a b e n m → words_left a ≤ words_left b + words_in e + 9
      → ids_left a ≤ ids_left b + ids_in e + 3 → DidEmit b c around mark x → Closes c d m n
      → words_left c ≤ words_left d + 4 → ids_left c ≤ ids_left d → DidEmit d p around mark y → Closes p q m m → IsBegun q
      → words_left p ≤ words_left q + 4 → ids_left p ≤ ids_left q → DidEmit a q around mark (term.If e x y)
  choice_did a b c d p q around mark e x y n m type may o words ids did j words' ids' did' k begun words2 ids2 =
      let l = is_some around.renew in
      let t = is_some around.leave in
      let brk = unwrap_or around.leave 0 in
      let cont = unwrap_or around.renew 0 in
      let zx = no_marks_in l t x (and_left (placed_in l t false x) (placed_in l t false y) may.placed) in
      let zy = no_marks_in l t y (and_right (placed_in l t false x) (placed_in l t false y) may.placed) in
      let h = o.chooses in
      let w = did.words in
      let i = did.ids in
      let w' = did'.words in
      let i' = did'.ids in
      record {
        lowers = lowers_choice growth a o.measured o.one o.two o.three h.merged h.chosen b c j.mid j.jumps.mid d p k.mid k.jumps.mid q brk cont mark l
            t e x y
            (o.measures.emitted.gives.seg ++ o.measures.flushed.gives.seg) j.flushed.gives.seg k.flushed.gives.seg o.truth o.first n m type zx zy
            (front_of a o.measured e o.truth o.measures) o.measures.flushed.clean o.takes_first o.takes_second o.takes_merge h.merges h.chooses
            h.begins
            (body_of b c j.mid brk cont mark l t x did.lowers j.flushed h.begins.empty) j.jumps.ends j.jumps.begins
            (body_of d p k.mid brk cont mark l t y did'.lowers k.flushed j.jumps.begins.empty) k.jumps.ends k.jumps.begins;
        begun = begun;
        words = omega (arith, zx, zy, words, w, words', w', words2);
        ids = omega (arith, zx, zy, ids, i, ids', i', ids2);
      }

  -- A LOOP.
  loop_grown : (a b : Emission) (h c m : ℕ) → OpensLoop a b h c m → Grown a b
  loop_grown a b h c m o = on a o.stored b (grown a o.stored o.flushed.gives.seg o.flushed.gives.grows)
      (on o.stored o.one b (taken o.stored o.one h o.takes_header)
      (on o.one o.two b (taken o.one o.two o.inside o.takes_inside)
      (on o.two o.three b (taken o.two o.three c o.takes_next)
      (on o.three o.four b (taken o.three o.four m o.takes_merge)
      (on o.four o.entered b (jumped o.four o.entered h h o.enters)
      (on o.entered o.merged b (grown o.entered o.merged _ o.merges.grows) (jumped o.merged b o.inside o.inside o.begins)))))))

  abbrev pub turning : ℕ → ℕ → Around
  turning m c = record { leave = Some m; renew = Some c }

  pub loop_part : (a b : Emission) (around : Around) (mark : ℕ) (x : Term) (h c m : ℕ) → MayEmit a around mark (term.Loop x) → OpensLoop a b h c m
      → IsBegun b → words_left a ≤ words_left b + 12 → ids_left a ≤ ids_left b + 4 → MayEmit b (turning m c) mark x
  loop_part a b around mark x h c m may o begun words ids =
      let g = loop_grown a b h c m o in
      let n = no_marks_in true true x may.placed in
      let w = may.words in
      let i = may.ids in
      let k = may.labels in
      let s = may.short in
      let up = g.grows.next in
      part a b around (turning m c) mark mark (term.Loop x) x may (loop_fit a x may.fit) g begun (any_place true true x may.placed)
      (omega (arith, n, k, up)) (omega (arith, n, s)) (omega (arith, n, w, words)) (omega (arith, n, i, ids))

  pub loop_did : (a b c d : Emission) (around : Around) (mark : ℕ) (x : Term) (h n m : ℕ) → MayEmit a around mark (term.Loop x)
      → OpensLoop a b h n m → words_left a ≤ words_left b + 12 → ids_left a ≤ ids_left b + 4
      → DidEmit b c (turning m n) mark x → ClosesLoop c d h n m → IsBegun d
      → words_left c ≤ words_left d + 8 → ids_left c ≤ ids_left d → DidEmit a d around mark (term.Loop x)
  loop_did a b c d around mark x h n m may o words ids did k begun words' ids' =
      let l = is_some around.renew in
      let t = is_some around.leave in
      let brk = unwrap_or around.leave 0 in
      let cont = unwrap_or around.renew 0 in
      let z = no_marks_in true true x may.placed in
      let w = did.words in
      let i = did.ids in
      let j = k.closes in
      record {
        lowers = lowers_loop growth a o.stored o.one o.two o.three o.four o.enters.mid o.entered o.merged o.begins.mid b c j.mid j.jumps.mid k.mid
            k.jumps.mid d
            brk cont mark l t x o.flushed.gives.seg j.flushed.gives.seg h o.inside n m z (flush_of a o.stored o.flushed) o.takes_header
            o.takes_inside o.takes_next o.takes_merge o.enters.ends o.enters.begins o.merges o.begins.ends o.begins.begins
            (body_of b c j.mid m n mark true true x did.lowers j.flushed o.begins.begins.empty) j.jumps.ends j.jumps.begins k.jumps.ends
            k.jumps.begins;
        begun = begun;
        words = omega (arith, z, words, w, words');
        ids = omega (arith, z, ids, i, ids');
      }

  -- A SWITCH.
  switch_grown : (a b : Emission) (e x : Term) (m first : ℕ) → OpensSwitch a b e x m first → Grown a b
  switch_grown a b e x m first o = on a o.measured b (measured a o.measured e o.on o.measures)
      (on o.measured o.one b (taken o.measured o.one o.inside o.takes_inside)
      (on o.one o.two b (taken o.one o.two m o.takes_merge)
      (on o.two o.row b (grown o.two o.row [] (growth.row o.two o.row first (marks x) o.takes_row))
      (on o.row o.merged b (grown o.row o.merged _ o.merges.grows)
      (on o.merged o.chosen b (grown o.merged o.chosen _ o.chooses.grows) (begun o.chosen b o.inside o.begins))))))

  abbrev pub leaving : Around → ℕ → Around
  leaving around m = record { leave = Some m; renew = around.renew }

  -- the labels that were taken in a row are below the next
  row_below : (a b : Emission) (e x : Term) (m first : ℕ) → OpensSwitch a b e x m first → first + marks x ≤ next_of b
  row_below a b e x m first o =
      let g = on o.row o.merged b (grown o.row o.merged _ o.merges.grows)
      (on o.merged o.chosen b (grown o.merged o.chosen _ o.chooses.grows) (begun o.chosen b o.inside o.begins)) in
      let up = g.grows.next in let r = o.takes_row.next in omega (arith, up, r)

  pub switch_part : (a b : Emission) (around : Around) (mark : ℕ) (e x : Term) (m first : ℕ) → MayEmit a around mark (term.Switch e x)
      → OpensSwitch a b e x m first → first + marks x < 2 ^ 32
      → IsBegun b → words_left a ≤ words_left b + words_in e + 8 + 2 * marks x → ids_left a ≤ ids_left b + ids_in e + 2 + marks x
      → MayEmit b (leaving around m) first x
  switch_part a b around mark e x m first may o short begun words ids =
      let l = is_some around.renew in
      let w = may.words in
      let i = may.ids in
      part a b around (leaving around m) mark first (term.Switch e x) x may (switch_fit a e x may.fit).1 (switch_grown a b e x m first o) begun
      (and_right (is_switch x) (placed_in l true true x) may.placed) (row_below a b e x m first o) short
      (omega (arith, w, words)) (omega (arith, i, ids))

  pub switch_did : (a b c d : Emission) (around : Around) (mark : ℕ) (e x : Term) (m first : ℕ) → type_of_term e ≡ symbol.Word
      → MayEmit a around mark (term.Switch e x) → OpensSwitch a b e x m first
      → words_left a ≤ words_left b + words_in e + 8 + 2 * marks x → ids_left a ≤ ids_left b + ids_in e + 2 + marks x
      → DidEmit b c (leaving around m) first x → Closes c d m m → IsBegun d
      → words_left c ≤ words_left d + 4 → ids_left c ≤ ids_left d → DidEmit a d around mark (term.Switch e x)
  switch_did a b c d around mark e x m first type may o words ids did k begun words' ids' =
      let l = is_some around.renew in
      let t = is_some around.leave in
      let brk = unwrap_or around.leave 0 in
      let cont = unwrap_or around.renew 0 in
      let w = did.words in
      let i = did.ids in
      record {
        lowers = lowers_switch growth a o.measured o.one o.two o.row o.merged o.chosen b c k.mid k.jumps.mid d brk cont first mark l t e x
            (o.measures.emitted.gives.seg ++ o.measures.flushed.gives.seg) k.flushed.gives.seg o.on o.inside m type
            (front_of a o.measured e o.on o.measures) o.measures.flushed.clean o.takes_inside o.takes_merge o.takes_row o.merges o.chooses o.begins
            (body_of b c k.mid m cont first l true x did.lowers k.flushed o.begins.empty) k.jumps.ends k.jumps.begins;
        begun = begun;
        words = omega (arith, words, w, words');
        ids = omega (arith, ids, i, ids');
      }

  -- WHAT LEADS AWAY.
  away_of : (a b : Emission) (n m : ℕ) (o : OpensAway a b n m) → AwayFront growth a o.found o.flushed.gives.seg o.truth
  away_of a b n m o = away_front growth a o.stored o.found o.flushed.gives.seg o.truth (flush_of a o.stored o.flushed) o.holds

  away_clean : (a b : Emission) (n m : ℕ) (o : OpensAway a b n m) → dirty_in o.found.kept ≡ []
  away_clean a b n m o = subst (λ t. dirty_in t ≡ []) (sym o.holds.kept) o.flushed.clean

  pub break_did : (a b c d : Emission) (around : Around) (mark k n m : ℕ) → around.leave ≡ Some k → MayEmit a around mark term.Break
      → OpensAway a b n m → words_left a ≤ words_left b + 9 → ids_left a ≤ ids_left b + 3 → Ends b c (branch k ∷ [])
      → words_left b ≤ words_left c + 2 → ids_left c ≡ ids_left b
      → ClosesAway c d n m → IsBegun d → words_left c ≤ words_left d + 6 → ids_left d ≡ ids_left c → DidEmit a d around mark term.Break
  break_did a b c d around mark k n m e may o words ids ends words' ids' q begun words2 ids2 =
      let brk = unwrap_or around.leave 0 in
      let h = o.chooses in
      let to : brk ≡ k = ap (λ w. unwrap_or w 0) e in
      record {
        lowers = lowers_break growth a o.found o.one o.two o.three h.merged h.chosen b c q.mid q.jumps.mid d brk (unwrap_or around.renew 0) mark
            (is_some around.renew) (is_some around.leave) o.flushed.gives.seg o.truth o.inside m n (ap is_some e)
            (away_of a b n m o) (away_clean a b n m o) o.takes_inside o.takes_merge o.takes_next h.merges h.chooses h.begins
            (subst (λ l. Ends b c (branch l ∷ [])) (sym to) ends) q.begins q.jumps.ends q.jumps.begins;
        begun = begun;
        words = omega (arith, words, words', words2);
        ids = omega (arith, ids, ids', ids2);
      }

  pub continue_did : (a b c d : Emission) (around : Around) (mark k n m : ℕ) → around.renew ≡ Some k → MayEmit a around mark term.Continue
      → OpensAway a b n m → words_left a ≤ words_left b + 9 → ids_left a ≤ ids_left b + 3 → Ends b c (branch k ∷ [])
      → words_left b ≤ words_left c + 2 → ids_left c ≡ ids_left b
      → ClosesAway c d n m → IsBegun d → words_left c ≤ words_left d + 6 → ids_left d ≡ ids_left c → DidEmit a d around mark term.Continue
  continue_did a b c d around mark k n m e may o words ids ends words' ids' q begun words2 ids2 =
      let cont = unwrap_or around.renew 0 in
      let h = o.chooses in
      let to : cont ≡ k = ap (λ w. unwrap_or w 0) e in
      record {
        lowers = lowers_continue growth a o.found o.one o.two o.three h.merged h.chosen b c q.mid q.jumps.mid d (unwrap_or around.leave 0) cont mark
            (is_some around.renew) (is_some around.leave) o.flushed.gives.seg o.truth o.inside m n (ap is_some e)
            (away_of a b n m o) (away_clean a b n m o) o.takes_inside o.takes_merge o.takes_next h.merges h.chooses h.begins
            (subst (λ l. Ends b c (branch l ∷ [])) (sym to) ends) q.begins q.jumps.ends q.jumps.begins;
        begun = begun;
        words = omega (arith, words, words', words2);
        ids = omega (arith, ids, ids', ids2);
      }

  pub return_did : (a b c d : Emission) (around : Around) (mark n m : ℕ) → MayEmit a around mark term.Return
      → OpensAway a b n m → words_left a ≤ words_left b + 9 → ids_left a ≤ ids_left b + 3 → Ends b c (leave ∷ [])
      → words_left b ≤ words_left c + 1 → ids_left c ≡ ids_left b
      → ClosesAway c d n m → IsBegun d → words_left c ≤ words_left d + 6 → ids_left d ≡ ids_left c → DidEmit a d around mark term.Return
  return_did a b c d around mark n m may o words ids ends words' ids' q begun words2 ids2 =
      let h = o.chooses in
      record {
        lowers = lowers_return growth a o.found o.one o.two o.three h.merged h.chosen b c q.mid q.jumps.mid d (unwrap_or around.leave 0)
            (unwrap_or around.renew 0) mark (is_some around.renew) (is_some around.leave) o.flushed.gives.seg o.truth o.inside m n
            (away_of a b n m o) o.takes_inside o.takes_merge o.takes_next h.merges h.chooses h.begins ends q.begins q.jumps.ends q.jumps.begins;
        begun = begun;
        words = omega (arith, words, words', words2);
        ids = omega (arith, ids, ids', ids2);
      }

  -- CHAINS.
  pub then_part : (a : Emission) (around : Around) (mark : ℕ) (x y : Term) → MayEmit a around mark (term.Then x y) → MayEmit a around mark x
  then_part a around mark x y may =
      let l = is_some around.renew in
      let t = is_some around.leave in
      let k = may.labels in
      let s = may.short in
      let w = may.words in
      let i = may.ids in
      let pw = paid_words y in
      let pi = paid_ids y in
      record {
        begun = may.begun;
        fit = (then_fit a x y may.fit).0;
        placed = and_left (placed_in l t true x) (placed_in l t true y) may.placed;
        labels = omega (arith, k);
        short = omega (arith, s);
        words = omega (arith, w, pw);
        ids = omega (arith, i, pi);
      }

  pub then_leads : (a b : Emission) (around : Around) (mark : ℕ) (x y : Term) → MayEmit a around mark (term.Then x y) → DidEmit a b around mark x
      → Leads a b around mark (mark + marks x) (term.Then x y) y
  then_leads a b around mark x y may did =
      let l = is_some around.renew in
      let t = is_some around.leave in
      let brk = unwrap_or around.leave 0 in
      let cont = unwrap_or around.renew 0 in
      let g = did.lowers.written.grows in
      let k = may.labels in
      let s = may.short in
      let w = may.words in
      let i = may.ids in
      let dw = did.words in
      let di = did.ids in
      let up = g.next in
      record {
        may = part a b around around mark (mark + marks x) (term.Then x y) y may (then_fit a x y may.fit).1 (grown a b _ g) did.begun
            (and_right (placed_in l t true x) (placed_in l t true y) may.placed)
            (omega (arith, k, up)) (omega (arith, s)) (omega (arith, w, dw)) (omega (arith, i, di));
        marks' = omega arith;
        words = omega (arith, dw);
        ids = omega (arith, di);
        lowers = λ e h. lowers_both growth a b e brk cont mark l t x y (omega (arith, k)) did.lowers h;
      }

  pub case_leads : (a b : Emission) (around : Around) (mark v : ℕ) (x : Term) → MayEmit a around mark (term.Case v x) → Closes a b mark mark
      → IsBegun b
      → words_left a ≤ words_left b + 4 → ids_left a ≤ ids_left b → Leads a b around mark (mark + 1) (term.Case v x) x
  case_leads a b around mark v x may q begun words ids =
      let l = is_some around.renew in
      let t = is_some around.leave in
      let brk = unwrap_or around.leave 0 in
      let cont = unwrap_or around.renew 0 in
      let g = closed a b mark mark q in
      let k = may.labels in
      let s = may.short in
      let w = may.words in
      let i = may.ids in
      let up = g.grows.next in
      record {
        may = part a b around around mark (mark + 1) (term.Case v x) x may (case_fit a v x may.fit) g begun may.placed
            (omega (arith, k, up)) (omega (arith, s)) (omega (arith, w, words)) (omega (arith, i, ids));
        marks' = omega arith;
        words = omega (arith, words);
        ids = omega (arith, ids);
        lowers = λ e h. lowers_case growth a q.mid q.jumps.mid b e brk cont mark l t v x q.flushed.gives.seg (omega (arith, k))
            (flush_of a q.mid q.flushed) q.jumps.ends q.jumps.begins h;
      }

  pub default_leads : (a b : Emission) (around : Around) (mark : ℕ) (x : Term) → MayEmit a around mark (term.Default x) → Closes a b mark mark
      → IsBegun b
      → words_left a ≤ words_left b + 4 → ids_left a ≤ ids_left b → Leads a b around mark (mark + 1) (term.Default x) x
  default_leads a b around mark x may q begun words ids =
      let l = is_some around.renew in
      let t = is_some around.leave in
      let brk = unwrap_or around.leave 0 in
      let cont = unwrap_or around.renew 0 in
      let g = closed a b mark mark q in
      let k = may.labels in
      let s = may.short in
      let w = may.words in
      let i = may.ids in
      let up = g.grows.next in
      record {
        may = part a b around around mark (mark + 1) (term.Default x) x may (default_fit a x may.fit) g begun may.placed
            (omega (arith, k, up)) (omega (arith, s)) (omega (arith, w, words)) (omega (arith, i, ids));
        marks' = omega arith;
        words = omega (arith, words);
        ids = omega (arith, ids);
        lowers = λ e h. lowers_default growth a q.mid q.jumps.mid b e brk cont mark l t x q.flushed.gives.seg (omega (arith, k))
            (flush_of a q.mid q.flushed) q.jumps.ends q.jumps.begins h;
      }

-- THE ROOT stands in no loop and no switch.
abbrev pub nowhere : Around
nowhere = record { leave = None; renew = None }

pub root_may : (a : Emission) (x : Term) → IsBegun a → IsFit a x → IsTrue (is_placed x) → words_in x ≤ words_left a → ids_in x ≤ ids_left a
    → MayEmit a nowhere 0 x
root_may a x begun fits placed words ids =
    let n = no_marks_in false false x placed in
    record {
      begun = begun;
      fit = fits;
      placed = any_place false false x placed;
      labels = omega (arith, n);
      short = omega (arith, n);
      words = omega (arith, words);
      ids = omega (arith, ids);
    }
