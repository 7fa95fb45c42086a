-- Each construct's blocks, from what the calls that wrote them ensure.
use Rattle.std.proofs.Common.{◌≡◌, ℕ, ◌+◌, ◌≤◌, inl, inr, ⊎_elim, List, [], ◌∷◌, ◌++◌, Option, Some, None, Bool, true, refl, sym, ap, ◌∙◌, subst, arith, append_assoc, append-nil}
use Rattle.std.specs.Prelude.{unwrap_or, map}
use Rattle.kept_values.specs.Tables.{IsEmpty}
use Rattle.shader_tree.specs.Shape.{OpensLoop, OpensSwitch, ClosesIt, cases_in, shape}
use Rattle.shader_tree.specs.Terms.{Term}
use Rattle.shader_tree.specs.Terms as term
use Rattle.shader_tree.specs.Values.{IsWord, IsTruth}
use Rattle.spirv_words.specs.Blocks.{flow_of}
use Rattle.spirv_words.specs.Definitions.{results}
use Rattle.spirv_words.specs.Globals.{Places}
use Rattle.spirv_words.specs.Operations.{OpSwitch}
use Rattle.spirv_words.specs.Text.{Instr, instruction}
use Rattle.spirv_symbols.specs.declared.symbol.Symbol.TheVariants.{True}
use Rattle.spirv_symbols.specs.declared.symbol.TypeSymbol.TheVariants as symbol
use Rattle.spirv_words.specs.Values.{Truth}
use Rattle.spirv_emit.specs.Code.{IsOf, CoversKept, behind}
use Rattle.spirv_emit.specs.Emission.{next_of}
use Rattle.spirv_emit.specs.declared.emitter.Emitter.{Emitter as Emission}
use Rattle.spirv_emit.specs.Growing.{Grows, Completes}
use Rattle.spirv_emit.specs.Lanes.{Site}
use Rattle.spirv_emit.specs.Linked.{IsLinked, StandsIn}
use Rattle.spirv_emit.specs.ModuleShape.{Seen, shape_of}
use Rattle.spirv_emit.specs.Values.{type_of_term}
use Rattle.spirv_emit.specs.Blocks.{Ends, Begins}
use Rattle.spirv_emit.specs.Steps.{Takes, TakesRow, Named}
use Rattle.spirv_flow.specs.Labels.{labels_of}
use Rattle.spirv_flow.specs.Layout.{Layout, Straight, Both, Guarded, Chosen, Looped, Switched, CaseAt, DefaultAt, Breaks, Continues, Returns, label, branch, merge, loop_merge, choose, leave, switch, cases, default, first_of, pairs, code_of}
use Rattle.spirv_flow.specs.Lowering.{IsBody}
use Rattle.spirv_flow.specs.Pieces.{Always}
use Rattle.spirv_flow.specs.Lowers.{Holds, IsClean, LoweredIn, IsTaken, Written, Lowers, marks, cases_of, default_of, times, AtMost}
use Rattle.spirv_flow.specs.Shapes.{values, shape_in}
use Rattle.spirv_flow.proofs.Composing.{IsGrowth, times_results, covers_behind, behind_append, typed_both, written_on, written_taken, written_end, written_label, one_id, joined, no_marks, with_marks, any_marks, both_marks, is_it, case_once}
use Rattle.spirv_flow.proofs.Shapes.{in_front, behind as behind_code, between, behind_quiet, before_quiet, both_seen, closed, switch_values}
use Rattle.spirv_flow.proofs.Pieces.{Piece, Results, Front, Flush, piece_once}
use Rattle.spirv_flow.proofs.Taken.{AllLabels, IsMark, Later, later_by, later_then, later_same, widen, labels_both, labels_mapped, labels_plain, labels_last, guard_labels, choice_labels, loop_labels, switch_labels, away_labels, no_mark}

-- A BODY in blocks of its own.
pub record Body (a b c : Emission) (brk cont first : ℕ) (l t : Bool) (x : Term) (back : List Instr) : Type 0 where
  pub lowers : Lowers a b brk cont first l t x
  pub flush : Flush b c back
  pub begun : IsEmpty a.kept

-- a front, two labels that were taken behind it, and a body
pub two_labels : (id n0 n2 n9 i m tf tb all : ℕ) → i ≡ n2 → m ≡ n2 + 1 → n0 ≤ n2 → n2 + 1 + 1 ≤ n9 → all ≡ tf + is_it i id + is_it m id + tb
    → AtMost id n0 n2 0 0 tf → AtMost id (n2 + 1 + 1) n9 0 0 tb → AtMost id n0 n9 0 0 all
two_labels id n0 n2 n9 i m tf tb all ei em l k e a b =
    let j1 = joined id n0 n2 (n2 + 1) tf (is_it i id) (tf + is_it i id) l (omega arith) refl a (one_id id n2 i ei) in
    let j2 = joined id n0 (n2 + 1) (n2 + 1 + 1) (tf + is_it i id) (is_it m id) (tf + is_it i id + is_it m id) (omega (arith, l)) (omega arith) refl j1
    (one_id id (n2 + 1) m em) in
    joined id n0 (n2 + 1 + 1) n9 (tf + is_it i id + is_it m id) tb all (omega (arith, l)) k e j2 b

-- three labels that were taken behind a front
pub three_taken : (id n0 n2 n5 i m n tf all : ℕ) → i ≡ n2 → m ≡ n2 + 1 → n ≡ n2 + 2 → n0 ≤ n2 → n5 ≡ n2 + 3 → all ≡ tf + is_it i id + is_it m id +
    is_it n id
    → AtMost id n0 n2 0 0 tf → AtMost id n0 n5 0 0 all
three_taken id n0 n2 n5 i m n tf all ei em en l k e a =
    let s1 = tf + is_it i id in
    let s2 = s1 + is_it m id in
    let j1 = joined id n0 n2 (n2 + 1) tf (is_it i id) s1 l (omega arith) refl a (one_id id n2 i ei) in
    let j2 = joined id n0 (n2 + 1) (n2 + 1 + 1) s1 (is_it m id) s2 (omega (arith, l)) (omega arith) refl j1 (one_id id (n2 + 1) m em) in
    let j3 = joined id n0 (n2 + 1 + 1) (n2 + 1 + 1 + 1) s2 (is_it n id) all (omega (arith, l)) (omega arith) e j2
    (one_id id (n2 + 1 + 1) n (omega (arith, en))) in
    let up : n2 + 1 + 1 + 1 ≡ n5 = omega (arith, k) in
    subst (λ x. AtMost id n0 x 0 0 all) up j3

module _ (growth : IsGrowth) where
  -- the head of a selection: a merge and a branch on the truth in front of it
  choose_known : (a b c : Emission) (x : List Instr) (r y n : ℕ) → Written a b x → Results a b x r symbol.Truth → Ends b c (choose r y n ∷ [])
      → Written a c (x ++ (choose r y n ∷ []))
  choose_known a b c x r y n w k e = record {
    grows = growth.on a b c x (choose r y n ∷ []) w.grows e.grows;
    known = λ z full globals known cg ck kept.
        let back = growth.back b c (choose r y n ∷ []) z e.grows full in
        let first = w.known z back globals known cg ck kept in
        record {
          typed = typed_both z.names globals known x (choose r y n ∷ []) first.typed ((k.result z back globals known cg ck kept, tt), tt);
          kept = subst (λ t. CoversKept z.names t (behind globals known (x ++ (choose r y n ∷ [])))) (sym e.kept)
              (subst (λ l. CoversKept z.names b.kept l) (sym (behind_append z.names globals known x (choose r y n ∷ []))) first.kept);
        };
  }

  merge_written : (a b : Emission) (m : ℕ) → Ends a b (merge m ∷ []) → Written a b (merge m ∷ [])
  merge_written a b m h = written_end a b (merge m) h (λ names known. tt) (λ globals known. refl)

  branch_written : (a b : Emission) (l : ℕ) → Ends a b (branch l ∷ []) → Written a b (branch l ∷ [])
  branch_written a b l h = written_end a b (branch l) h (λ names known. tt) (λ globals known. refl)

  merged_result : (a b c : Emission) (x : List Instr) (r m : ℕ) → (w : Grows b c (merge m ∷ [])) → Results a b x r symbol.Truth
      → Results a c (x ++ (merge m ∷ [])) r symbol.Truth
  merged_result a b c x r m w k = record {
    result = λ z full globals known cg ck kept.
        let back = growth.back b c (merge m ∷ []) z w full in
        subst (λ l. IsOf z.names l symbol.Truth r) (sym (behind_append z.names globals known x (merge m ∷ [])))
        (k.result z back globals known cg ck kept);
  }

  pub selection_head : (a b c d : Emission) (x : List Instr) (r y n m : ℕ) → Piece a b x → Results a b x r symbol.Truth → Written b c (merge m ∷ [])
      → Ends c d (choose r y n ∷ [])
      → Written a d (x ++ (merge m ∷ choose r y n ∷ []))
  selection_head a b c d x r y n m p k w e =
      let first = written_on growth a b c x (merge m ∷ []) p.written w in
      let all = choose_known a c d (x ++ (merge m ∷ [])) r y n first (merged_result a b c x r m w.grows k) e in
      subst (λ l. Written a d l) (append_assoc x (merge m ∷ []) (choose r y n ∷ [])) all

  -- a branch and a label behind it
  pub jump_written : (a b c : Emission) (to l : ℕ) → Ends a b (branch to ∷ []) → Begins b c l → Written a c (branch to ∷ label l ∷ [])
  jump_written a b c to l e h = written_on growth a b c (branch to ∷ []) (label l ∷ []) (branch_written a b to e) (written_label b c l h)

  body_written : (a b c : Emission) (brk cont first : ℕ) (l t : Bool) (x : Term) (back : List Instr) → (h : Body a b c brk cont first l t x back)
      → Written a c (code_of h.lowers.layout brk cont ++ back)
  body_written a b c brk cont first l t x back h = written_on growth a b c (code_of h.lowers.layout brk cont) back h.lowers.written
      h.flush.piece.written

  body_in : (a b c d : Emission) (brk cont first : ℕ) (l t : Bool) (x : Term) (back rest : List Instr) → (h : Body a b c brk cont first l t x back)
      → Grows c d rest
      → (z : Site) → Completes d z → IsBody z.machine (Holds z) IsClean IsEmpty (λ y u v. LoweredIn z x y u v) h.lowers.layout back
  body_in a b c d brk cont first l t x back rest h g z w =
      let at_c = growth.back c d rest z g w in
      record {
        begun = a.kept;
        ended = b.kept;
        last = c.kept;
        is_begun = h.begun;
        lowers = h.lowers.law z (growth.back b c back z h.flush.piece.written.grows at_c);
        passes = h.flush.law z at_c;
        is_clean = h.flush.clean;
      }

  body_shows : (a b c d : Emission) (brk cont first : ℕ) (l t : Bool) (x : Term) (back rest : List Instr)
      → (h : Body a b c brk cont first l t x back) → Grows c d rest → (z : Site) (places : Places) → Completes d z → IsLinked z places
      → StandsIn z (code_of h.lowers.layout brk cont ++ back)
      → shape_in z.machine.code places (Both h.lowers.layout (Straight back)) ≡ map Seen (shape x)
  body_shows a b c d brk cont first l t x back rest h g z places w linked here =
      let at_c = growth.back c d rest z g w in
      let code = code_of h.lowers.layout brk cont in
      before_quiet (shape_in z.machine.code places h.lowers.layout) (shape_of z.machine.code places back) (map Seen (shape x))
      (h.lowers.shows z places (growth.back b c back z h.flush.piece.written.grows at_c) linked (in_front z code back here))
      (h.flush.piece.quiet z places at_c linked (behind_code z code back here))

  body_once : (id : ℕ) (a b c : Emission) (brk cont first : ℕ) (l t : Bool) (x : Term) (back : List Instr) → marks x ≡ 0
      → (h : Body a b c brk cont first l t x back)
      → AtMost id (next_of a) (next_of c) 0 0 (times id (results (code_of h.lowers.layout brk cont ++ back)))
  body_once id a b c brk cont first l t x back e h =
      let code = code_of h.lowers.layout brk cont in
      joined id (next_of a) (next_of b) (next_of c) (times id (results code)) (times id (results back)) (times id (results (code ++ back)))
      h.lowers.written.grows.next h.flush.piece.written.grows.next (times_results id code back)
      (no_marks id (next_of a) (next_of b) first (marks x) (times id (results code)) e (h.lowers.once id))
      (piece_once b c back h.flush.piece.written.grows h.flush.piece.plain id)

  -- the labels of a body, and those of cases that stand directly in it
  body_marks : (a b c : Emission) (brk cont first : ℕ) (l t : Bool) (x : Term) (back : List Instr) → (h : Body a b c brk cont first l t x back)
      → AllLabels (IsMark a c first (marks x)) (code_of h.lowers.layout brk cont ++ back)
  body_marks a b c brk cont first l t x back h =
      let P = IsMark a c first (marks x) in
      let rest = later_by b c back h.flush.piece.written.grows in
      labels_both P (code_of h.lowers.layout brk cont) back
      (labels_mapped (IsMark a b first (marks x)) P (code_of h.lowers.layout brk cont)
      (λ id m. ⊎_elim (λ own. inl (widen a a b c id (later_same a) rest own)) (λ mark. inr mark) m) h.lowers.labels)
      (labels_plain P back h.flush.piece.plain)

  body_labels : (a b c : Emission) (brk cont first : ℕ) (l t : Bool) (x : Term) (back : List Instr) → marks x ≡ 0
      → (h : Body a b c brk cont first l t x back)
      → AllLabels (IsTaken a c) (code_of h.lowers.layout brk cont ++ back)
  body_labels a b c brk cont first l t x back e h =
      labels_mapped (IsMark a c first (marks x)) (IsTaken a c) (code_of h.lowers.layout brk cont ++ back)
      (λ id m. no_mark a c first (marks x) id e m) (body_marks a b c brk cont first l t x back h)

  -- A GUARD.
  guard_list : (x body tail : List Instr) (a b c : Instr) → (x ++ (a ∷ b ∷ [])) ++ (c ∷ (body ++ tail)) ≡ x ++ (a ∷ b ∷ c ∷ (body ++ tail))
  guard_list x body tail a b c = append_assoc x (a ∷ b ∷ []) (c ∷ (body ++ tail))

  pub lowers_guard : (e0 e2 e3 e4 e5 e6 e7 e8 e9 e10 e11 : Emission) (brk cont first : ℕ) (l t : Bool) (e x : Term) (front back : List Instr)
      (r i m : ℕ)
      → type_of_term e ≡ symbol.Truth → marks x ≡ 0 → Front e0 e2 e front r → IsClean e2.kept → Takes e2 e3 i → Takes e3 e4 m
      → Ends e4 e5 (merge m ∷ []) → Ends e5 e6 (choose r i m ∷ [])
      → Begins e6 e7 i → Body e7 e8 e9 brk cont first l t x back → Ends e9 e10 (branch m ∷ []) → Begins e10 e11 m
      → Lowers e0 e11 brk cont first l t (term.Guard e x)
  lowers_guard e0 e2 e3 e4 e5 e6 e7 e8 e9 e10 e11 brk cont first l t e x front back r i m type unmarked f clean ti tm em ec bi body eb bm =
      let code = code_of body.lowers.layout brk cont ++ back in
      let last = branch m ∷ label m ∷ [] in
      let labels = written_on growth e2 e3 e4 [] [] (written_taken growth e2 e3 i ti) (written_taken growth e3 e4 m tm) in
      let merged = written_on growth e2 e4 e5 [] (merge m ∷ []) labels (merge_written e4 e5 m em) in
      let known : Results e0 e2 front r symbol.Truth =
      record {
        result = λ z w globals known cg ck kept. subst (λ s. IsOf z.names (behind globals known front) s r) type
            (f.known.result z w globals known cg ck kept);
      } in
      let head = selection_head e0 e2 e5 e6 front r i m m f.piece known merged ec in
      let tail = jump_written e9 e10 e11 m m eb bm in
      let inner = written_on growth e7 e9 e11 code last (body_written e7 e8 e9 brk cont first l t x back body) tail in
      let rest = written_on growth e6 e7 e11 (label i ∷ []) (code ++ last) (written_label e6 e7 i bi) inner in
      let whole = subst (λ c. Written e0 e11 c) (guard_list front code last (merge m) (choose r i m) (label i))
      (written_on growth e0 e6 e11 (front ++ (merge m ∷ choose r i m ∷ [])) (label i ∷ (code ++ last)) head rest) in
      record {
        layout = Both (Straight front) (Guarded r i m (Both body.lowers.layout (Straight back)));
        placed = (f.piece.plain, (body.lowers.placed, body.flush.piece.plain));
        cases' = refl;
        default' = refl;
        written = whole;
        once = λ id.
            let n0 = next_of e0 in
            let n2 = next_of e2 in
            let n9 = next_of e9 in
            let tf = times id (results front) in
            let tb = times id (results code) in
            let all = times id (results (front ++ (merge m ∷ choose r i m ∷ label i ∷ (code ++ last)))) in
            let same : next_of e7 ≡ n2 + 1 + 1 = omega (
              arith,
              ti.next,
              tm.next,
              ap (λ s. s.next) em.symbols,
              ap (λ s. s.next) ec.symbols,
              ap
                  (λ s. s.next) bi.symbols,
            ) in
            let end : next_of e11 ≡ n9 = ap (λ s. s.next) bm.symbols ∙ ap (λ s. s.next) eb.symbols in
            let grown = (body_written e7 e8 e9 brk cont first l t x back body).grows.next in
            let a1 = piece_once e0 e2 front f.piece.written.grows f.piece.plain id in
            let a4 = subst (λ k. AtMost id k n9 0 0 tb) same (body_once id e7 e8 e9 brk cont first l t x back unmarked body) in
            let split = times_results id front (merge m ∷ choose r i m ∷ label i ∷ (code ++ last)) in
            let split2 = times_results id code last in
            any_marks id n0 (next_of e11) first 0 all (subst (λ k. AtMost id n0 k 0 0 all) (sym end)
            (two_labels id n0 n2 n9 i m tf tb all ti.result (tm.result ∙ ti.next) f.piece.written.grows.next (omega (arith, grown, same))
            (omega (arith, split, split2)) a1 a4));
        labels = λ id h. inl (guard_labels e0 e2 e3 e4 e7 e9 e11 front code r i m f.piece.plain (later_by e0 e2 front f.piece.written.grows) ti tm
            (later_then e4 e5 e7 (merge m ∷ []) em.grows (later_then e5 e6 e7 (choose r i m ∷ []) ec.grows
            (later_by e6 e7 (label i ∷ []) bi.grows)))
            (body_labels e7 e8 e9 brk cont first l t x back unmarked body)
            (later_by e7 e9 code (body_written e7 e8 e9 brk cont first l t x back body).grows) (later_by e9 e11 last tail.grows) id h);
        law = λ z w.
            let at9 = growth.back e9 e11 last z tail.grows w in
            let at2 = growth.back e2 e11 (merge m ∷ choose r i m ∷ label i ∷ (code ++ last)) z
            (growth.on e2 e6 e11 (merge m ∷ choose r i m ∷ []) (label i ∷ (code ++ last))
            (growth.on e2 e5 e6 (merge m ∷ []) (choose r i m ∷ []) merged.grows ec.grows) rest.grows) w in
            record {
              front = front;
              back = back;
              r = r;
              inside = i;
              merge = m;
              body = body.lowers.layout;
              layout = refl;
              clean = e2.kept;
              tests = λ s u v here holds is. f.law z at2 s u (IsTruth v) here holds is;
              is_clean = clean;
              is_body = body_in e7 e8 e9 e11 brk cont first l t x back last body tail.grows z w;
              behind = bm.empty;
            };
        shows = λ z places w linked here.
            let at2 = growth.back e2 e11 (merge m ∷ choose r i m ∷ label i ∷ (code ++ last)) z
            (growth.on e2 e6 e11 (merge m ∷ choose r i m ∷ []) (label i ∷ (code ++ last))
            (growth.on e2 e5 e6 (merge m ∷ []) (choose r i m ∷ []) merged.grows ec.grows) rest.grows) w in
            behind_quiet (shape_of z.machine.code places front)
            (shape_in z.machine.code places (Both body.lowers.layout (Straight back))) (map Seen (shape x))
            (f.piece.quiet z places at2 linked (in_front z front (merge m ∷ choose r i m ∷ label i ∷ (code ++ last)) here))
            (body_shows e7 e8 e9 e11 brk cont first l t x back last body tail.grows z places w linked
            (between z front (merge m ∷ choose r i m ∷ label i ∷ []) code last here));
      }

  -- TWO STATEMENTS, and none.
  both_taken : (a b c : Emission) (first p q : ℕ) (x y : List Instr) → Later a b → Later b c → AllLabels (IsMark a b first p) x
      → AllLabels (IsMark b c (first + p) q) y → AllLabels (IsMark a c first (p + q)) (x ++ y)
  both_taken a b c first p q x y g h i j =
      let P = IsMark a c first (p + q) in
      labels_both P x y
      (labels_mapped (IsMark a b first p) P x
      (λ id m. ⊎_elim (λ own. inl (widen a a b c id (later_same a) h own)) (λ mark. inr (mark.0, omega (arith, mark.1))) m) i)
      (labels_mapped (IsMark b c (first + p) q) P y
      (λ id m. ⊎_elim (λ own. inl (widen a b c c id g (later_same c) own))
      (λ mark. inr (omega (arith, mark.0), omega (arith, mark.1))) m) j)

  pub lowers_both : (a b c : Emission) (brk cont first : ℕ) (l t : Bool) (x y : Term) → first + marks x + marks y ≤ next_of a
      → Lowers a b brk cont first l t x → Lowers b c brk cont (first + marks x) l t y → Lowers a c brk cont first l t (term.Then x y)
  lowers_both a b c brk cont first l t x y older g h = record {
    layout = Both g.layout h.layout;
    placed = (g.placed, h.placed);
    cases' = rw (g.cases', h.cases') refl;
    default' = rw (g.default', h.default') refl;
    written = written_on growth a b c (code_of g.layout brk cont) (code_of h.layout brk cont) g.written h.written;
    once = λ id. both_marks id (next_of a) (next_of b) (next_of c) first (marks x) (marks y) (times id (results (code_of g.layout brk cont)))
        (times id (results (code_of h.layout brk cont)))
        (times id (results (code_of g.layout brk cont ++ code_of h.layout brk cont))) g.written.grows.next h.written.grows.next older
        (times_results id (code_of g.layout brk cont) (code_of h.layout brk cont)) (g.once id) (h.once id);
    labels = λ id i. both_taken a b c first (marks x) (marks y) (code_of g.layout brk cont) (code_of h.layout brk cont)
        (later_by a b (code_of g.layout brk cont) g.written.grows) (later_by b c (code_of h.layout brk cont) h.written.grows) g.labels h.labels id i;
    law = λ z w. (b.kept, g.layout, h.layout, refl, g.law z (growth.back b c (code_of h.layout brk cont) z h.written.grows w), h.law z w);
    shows = λ z places w linked here.
        both_seen (shape_in z.machine.code places g.layout) (shape_in z.machine.code places h.layout) (shape x) (shape y)
        (g.shows z places (growth.back b c (code_of h.layout brk cont) z h.written.grows w) linked
        (in_front z (code_of g.layout brk cont) (code_of h.layout brk cont) here))
        (h.shows z places w linked (behind_code z (code_of g.layout brk cont) (code_of h.layout brk cont) here));
  }

  pub lowers_nothing : (a : Emission) (brk cont first : ℕ) (l t : Bool) → Grows a a [] → Lowers a a brk cont first l t term.Nothing
  lowers_nothing a brk cont first l t g = record {
    layout = Straight [];
    placed = tt;
    cases' = refl;
    default' = refl;
    written = record { grows = g; known = λ z w globals known cg ck kept. record { typed = tt; kept = kept } };
    once = λ id. inl refl;
    labels = λ id h. absurd h;
    law = λ z w. (refl, refl);
    shows = λ z places w linked here. refl;
  }

  -- A CASE and a default.
  mark_once : (id : ℕ) (a b c d e : Emission) (brk cont first : ℕ) (l t : Bool) (x : Term) (front : List Instr) → first + marks x + 1 ≤ next_of a
      → Flush a b front → Ends b c (branch first ∷ [])
      → Begins c d first → (h : Lowers d e brk cont (first + 1) l t x)
      → AtMost id (next_of a) (next_of e) first (marks x + 1)
      (times id (results ((front ++ (branch first ∷ label first ∷ [])) ++ code_of h.layout brk cont)))
  mark_once id a b c d e brk cont first l t x front older f eb bl h =
      let code = code_of h.layout brk cont in
      let same : next_of d ≡ next_of b = ap (λ s. s.next) bl.symbols ∙ ap (λ s. s.next) eb.symbols in
      case_once id (next_of a) (next_of b) (next_of e) first (marks x) (times id (results front)) (times id (results code))
      (times id (results ((front ++ (branch first ∷ label first ∷ [])) ++ code)))
      older f.piece.written.grows.next (omega (arith, same, h.written.grows.next))
      (omega (arith, times_results id (front ++ (branch first ∷ label first ∷ [])) code, times_results id front (branch first ∷ label first ∷ [])))
      (piece_once a b front f.piece.written.grows f.piece.plain id)
      (subst (λ n. AtMost id n (next_of e) (first + 1) (marks x) (times id (results code))) same (h.once id))

  mark_labels : (a b c d e : Emission) (brk cont first : ℕ) (l t : Bool) (x : Term) (front : List Instr) → Flush a b front
      → Ends b c (branch first ∷ []) → Begins c d first
      → (h : Lowers d e brk cont (first + 1) l t x)
      → AllLabels (IsMark a e first (marks x + 1)) ((front ++ (branch first ∷ label first ∷ [])) ++ code_of h.layout brk cont)
  mark_labels a b c d e brk cont first l t x front f eb bl h =
      let P = IsMark a e first (marks x + 1) in
      let code = code_of h.layout brk cont in
      let mark = branch first ∷ label first ∷ [] in
      let to_d = later_then a b d front f.piece.written.grows (later_then b c d (branch first ∷ []) eb.grows
      (later_by c d (label first ∷ []) bl.grows)) in
      labels_both P (front ++ mark) code
      (labels_both P front mark (labels_plain P front f.piece.plain) (labels_last P first (inr (omega arith, omega arith))))
      (labels_mapped (IsMark d e (first + 1) (marks x)) P code
      (λ id m. ⊎_elim (λ own. inl (widen a d e e id to_d (later_same e) own))
      (λ own. inr (omega (arith, own.0), omega (arith, own.1))) m) h.labels)

  mark_written : (a b c d e : Emission) (brk cont first : ℕ) (l t : Bool) (x : Term) (front : List Instr) → Flush a b front
      → Ends b c (branch first ∷ []) → Begins c d first
      → (h : Lowers d e brk cont (first + 1) l t x) → Written a e ((front ++ (branch first ∷ label first ∷ [])) ++ code_of h.layout brk cont)
  mark_written a b c d e brk cont first l t x front f eb bl h =
      let mark = branch first ∷ label first ∷ [] in
      written_on growth a d e (front ++ mark) (code_of h.layout brk cont) (written_on growth a b d front mark f.piece.written
      (jump_written b c d first first eb bl)) h.written

  mark_shows : (a b c d e : Emission) (brk cont first : ℕ) (l t : Bool) (x : Term) (front : List Instr) → Flush a b front
      → Ends b c (branch first ∷ []) → Begins c d first
      → (h : Lowers d e brk cont (first + 1) l t x) (z : Site) (places : Places) → Completes e z → IsLinked z places
      → StandsIn z ((front ++ (branch first ∷ label first ∷ [])) ++ code_of h.layout brk cont)
      → (shape_of z.machine.code places front ++ []) ++ shape_in z.machine.code places h.layout ≡ map Seen (shape x)
  mark_shows a b c d e brk cont first l t x front f eb bl h z places w linked here =
      let mark = branch first ∷ label first ∷ [] in
      let code = code_of h.layout brk cont in
      let at_d = growth.back d e code z h.written.grows w in
      let at_b = growth.back b d mark z (jump_written b c d first first eb bl).grows at_d in
      behind_quiet (shape_of z.machine.code places front ++ []) (shape_in z.machine.code places h.layout) (map Seen (shape x))
      (before_quiet (shape_of z.machine.code places front) [] []
      (f.piece.quiet z places at_b linked (in_front z front mark (in_front z (front ++ mark) code here))) refl)
      (h.shows z places w linked (behind_code z (front ++ mark) code here))

  pub lowers_case : (a b c d e : Emission) (brk cont first : ℕ) (l t : Bool) (v : ℕ) (x : Term) (front : List Instr) → first + marks x + 1 ≤ next_of a
      → Flush a b front → Ends b c (branch first ∷ [])
      → Begins c d first → Lowers d e brk cont (first + 1) l t x → Lowers a e brk cont first l t (term.Case v x)
  lowers_case a b c d e brk cont first l t v x front older f eb bl h = record {
    layout = Both (Both (Straight front) (CaseAt v first)) h.layout;
    placed = ((f.piece.plain, tt), h.placed);
    cases' = ap (λ cs. record { value = v; label = first } ∷ cs) h.cases';
    default' = h.default';
    written = mark_written a b c d e brk cont first l t x front f eb bl h;
    once = λ id. mark_once id a b c d e brk cont first l t x front older f eb bl h;
    labels = λ id i. mark_labels a b c d e brk cont first l t x front f eb bl h id i;
    law = λ z w.
        let at_d = growth.back d e (code_of h.layout brk cont) z h.written.grows w in (
          front,
          first,
          h.layout,
          refl,
          record {
            clean = b.kept;
            begun = d.kept;
            passes = f.law z (growth.back b d (branch first ∷ label first ∷ []) z (jump_written b c d first first eb bl).grows at_d);
            is_clean = f.clean;
            is_begun = bl.empty;
            lowers = h.law z w;
          },
        );
    shows = λ z places w linked here. mark_shows a b c d e brk cont first l t x front f eb bl h z places w linked here;
  }

  pub lowers_default : (a b c d e : Emission) (brk cont first : ℕ) (l t : Bool) (x : Term) (front : List Instr) → first + marks x + 1 ≤ next_of a
      → Flush a b front → Ends b c (branch first ∷ [])
      → Begins c d first → Lowers d e brk cont (first + 1) l t x → Lowers a e brk cont first l t (term.Default x)
  lowers_default a b c d e brk cont first l t x front older f eb bl h = record {
    layout = Both (Both (Straight front) (DefaultAt first)) h.layout;
    placed = ((f.piece.plain, tt), h.placed);
    cases' = h.cases';
    default' = refl;
    written = mark_written a b c d e brk cont first l t x front f eb bl h;
    once = λ id. mark_once id a b c d e brk cont first l t x front older f eb bl h;
    labels = λ id i. mark_labels a b c d e brk cont first l t x front f eb bl h id i;
    law = λ z w.
        let at_d = growth.back d e (code_of h.layout brk cont) z h.written.grows w in (
          front,
          first,
          h.layout,
          refl,
          record {
            clean = b.kept;
            begun = d.kept;
            passes = f.law z (growth.back b d (branch first ∷ label first ∷ []) z (jump_written b c d first first eb bl).grows at_d);
            is_clean = f.clean;
            is_begun = bl.empty;
            lowers = h.law z w;
          },
        );
    shows = λ z places w linked here. mark_shows a b c d e brk cont first l t x front f eb bl h z places w linked here;
  }

  -- A LOOP.
  pub four_labels : (id n0 n1 n9 h i c m tf tb all : ℕ) → h ≡ n1 → i ≡ n1 + 1 → c ≡ n1 + 2 → m ≡ n1 + 3 → n0 ≤ n1 → n1 + 4 ≤ n9
      → all ≡ tf + is_it h id + is_it i id + is_it c id + is_it m id + tb → AtMost id n0 n1 0 0 tf → AtMost id (n1 + 4) n9 0 0 tb
      → AtMost id n0 n9 0 0 all
  four_labels id n0 n1 n9 h i c m tf tb all eh ei ec em l k e a b =
      let s1 = tf + is_it h id in
      let s2 = s1 + is_it i id in
      let s3 = s2 + is_it c id in
      let s4 = s3 + is_it m id in
      let j1 = joined id n0 n1 (n1 + 1) tf (is_it h id) s1 l (omega arith) refl a (one_id id n1 h eh) in
      let j2 = joined id n0 (n1 + 1) (n1 + 1 + 1) s1 (is_it i id) s2 (omega (arith, l)) (omega arith) refl j1 (one_id id (n1 + 1) i ei) in
      let j3 = joined id n0 (n1 + 1 + 1) (n1 + 1 + 1 + 1) s2 (is_it c id) s3 (omega (arith, l)) (omega arith) refl j2
      (one_id id (n1 + 1 + 1) c (omega (arith, ec))) in
      let j4 = joined id n0 (n1 + 1 + 1 + 1) (n1 + 1 + 1 + 1 + 1) s3 (is_it m id) s4 (omega (arith, l)) (omega arith) refl j3
      (one_id id (n1 + 1 + 1 + 1) m (omega (arith, em))) in
      let up : n1 + 1 + 1 + 1 + 1 ≡ n1 + 4 = omega arith in
      joined id n0 (n1 + 4) n9 s4 tb all (omega (arith, l)) k e (subst (λ x. AtMost id n0 x 0 0 s4) up j4) b

  pub lowers_loop : (e0 e1 e2 e3 e4 e5 e6 e7 e8 e9 e10 e11 e12 e13 e14 e15 e16 : Emission) (brk cont first : ℕ) (l t : Bool) (x : Term)
      (front back : List Instr) (h i c m : ℕ) → marks x ≡ 0
      → Flush e0 e1 front → Takes e1 e2 h → Takes e2 e3 i → Takes e3 e4 c → Takes e4 e5 m → Ends e5 e6 (branch h ∷ []) → Begins e6 e7 h
      → Ends e7 e8 (loop_merge m c ∷ []) → Ends e8 e9 (branch i ∷ [])
      → Begins e9 e10 i → Body e10 e11 e12 m c first true true x back → Ends e12 e13 (branch c ∷ []) → Begins e13 e14 c → Ends e14 e15 (branch h ∷ [])
      → Begins e15 e16 m
      → Lowers e0 e16 brk cont first l t (term.Loop x)
  lowers_loop e0 e1 e2 e3 e4 e5 e6 e7 e8 e9 e10 e11 e12 e13 e14 e15 e16 brk cont first l t x front back h i c m unmarked f th ti tc tm eh bh el ei bi
      body ec bc eb bm =
      let code = code_of body.lowers.layout m c ++ back in
      let last = branch c ∷ label c ∷ branch h ∷ label m ∷ [] in
      let rest = branch h ∷ label h ∷ loop_merge m c ∷ branch i ∷ label i ∷ (code ++ last) in
      let tail = written_on growth e12 e14 e16 (branch c ∷ label c ∷ []) (branch h ∷ label m ∷ []) (jump_written e12 e13 e14 c c ec bc)
      (jump_written e14 e15 e16 h m eb bm) in
      let inner = written_on growth e10 e12 e16 code last (body_written e10 e11 e12 m c first true true x back body) tail in
      let entry = written_on growth e8 e10 e16 (branch i ∷ label i ∷ []) (code ++ last) (jump_written e8 e9 e10 i i ei bi) inner in
      let merged = written_end e7 e8 (loop_merge m c) el (λ names known. tt) (λ globals known. refl) in
      let header = written_on growth e7 e8 e16 (loop_merge m c ∷ []) (branch i ∷ label i ∷ (code ++ last)) merged entry in
      let begin = written_on growth e5 e7 e16 (branch h ∷ label h ∷ []) (loop_merge m c ∷ branch i ∷ label i ∷ (code ++ last))
      (jump_written e5 e6 e7 h h eh bh) header in
      let labels = written_on growth e1 e3 e5 [] [] (written_on growth e1 e2 e3 [] [] (written_taken growth e1 e2 h th)
      (written_taken growth e2 e3 i ti))
      (written_on growth e3 e4 e5 [] [] (written_taken growth e3 e4 c tc) (written_taken growth e4 e5 m tm)) in
      let behind = written_on growth e1 e5 e16 [] rest labels begin in
      record {
        layout = Both (Straight front) (Looped h i c m (Both body.lowers.layout (Straight back)));
        placed = (f.piece.plain, (body.lowers.placed, body.flush.piece.plain));
        cases' = refl;
        default' = refl;
        written = written_on growth e0 e1 e16 front rest f.piece.written behind;
        once = λ id.
            let n0 = next_of e0 in
            let n1 = next_of e1 in
            let n12 = next_of e12 in
            let tf = times id (results front) in
            let tb = times id (results code) in
            let all = times id (results (front ++ rest)) in
            let same : next_of e10 ≡ n1 + 4 = omega (
              arith,
              th.next,
              ti.next,
              tc.next,
              tm.next,
              ap (λ s. s.next) eh.symbols,
              ap (λ s. s.next) bh.symbols,
              ap (λ s. s.next) el.symbols,
              ap (λ s. s.next) ei.symbols,
              ap (λ s. s.next) bi.symbols,
            ) in
            let end : next_of e16 ≡ n12 = ap (λ s. s.next) bm.symbols ∙
            (ap (λ s. s.next) eb.symbols ∙ (ap (λ s. s.next) bc.symbols ∙ ap (λ s. s.next) ec.symbols)) in
            let grown = (body_written e10 e11 e12 m c first true true x back body).grows.next in
            let a1 = piece_once e0 e1 front f.piece.written.grows f.piece.plain id in
            let a4 = subst (λ k. AtMost id k n12 0 0 tb) same (body_once id e10 e11 e12 m c first true true x back unmarked body) in
            any_marks id n0 (next_of e16) first 0 all (subst (λ k. AtMost id n0 k 0 0 all) (sym end)
            (four_labels id n0 n1 n12 h i c m tf tb all th.result (ti.result ∙ th.next) (omega (arith, tc.result, ti.next, th.next))
            (omega (arith, tm.result, tc.next, ti.next, th.next))
            f.piece.written.grows.next (omega (arith, grown, same)) (omega (arith, times_results id front rest, times_results id code last)) a1 a4));
        labels = λ id j. inl (loop_labels e0 e1 e2 e3 e4 e5 e10 e12 e16 front code h i c m f.piece.plain
            (later_by e0 e1 front f.piece.written.grows) th ti tc tm
            (later_then e5 e6 e10 (branch h ∷ []) eh.grows (later_then e6 e7 e10 (label h ∷ []) bh.grows
            (later_then e7 e8 e10 (loop_merge m c ∷ []) el.grows (later_then e8 e9 e10 (branch i ∷ []) ei.grows
            (later_by e9 e10 (label i ∷ []) bi.grows)))))
            (body_labels e10 e11 e12 m c first true true x back unmarked body)
            (later_by e10 e12 code (body_written e10 e11 e12 m c first true true x back body).grows) (later_by e12 e16 last tail.grows) id j);
        law = λ z w. record {
          front = front;
          back = back;
          header = h;
          inside = i;
          continue = c;
          merge = m;
          body = body.lowers.layout;
          layout = refl;
          clean = e1.kept;
          passes = f.law z (growth.back e1 e16 rest z behind.grows w);
          is_clean = f.clean;
          is_body = body_in e10 e11 e12 e16 m c first true true x back last body tail.grows z w;
          behind = bm.empty;
        };
        shows = λ z places w linked here.
            behind_quiet (shape_of z.machine.code places front)
            (Seen OpensLoop ∷ (shape_in z.machine.code places (Both body.lowers.layout (Straight back)) ++ Seen ClosesIt ∷ []))
            (map Seen (shape (term.Loop x)))
            (f.piece.quiet z places (growth.back e1 e16 rest z behind.grows w) linked (in_front z front rest here))
            (closed OpensLoop (shape_in z.machine.code places (Both body.lowers.layout (Straight back))) (shape x)
            (body_shows e10 e11 e12 e16 m c first true true x back last body tail.grows z places w linked
            (between z front (branch h ∷ label h ∷ loop_merge m c ∷ branch i ∷ label i ∷ []) code last here)));
      }

  -- A CHOICE.
  pub three_labels : (id n0 n2 n9 n9' n14 i j m tf tb tc all : ℕ) → i ≡ n2 → j ≡ n2 + 1 → m ≡ n2 + 2 → n0 ≤ n2 → n2 + 3 ≤ n9 → n9 ≡ n9' → n9' ≤ n14
      → all ≡ tf + is_it i id + is_it j id + is_it m id + tb + tc → AtMost id n0 n2 0 0 tf → AtMost id (n2 + 3) n9 0 0 tb → AtMost id n9' n14 0 0 tc
      → AtMost id n0 n14 0 0 all
  three_labels id n0 n2 n9 n9' n14 i j m tf tb tc all ei ej em l k same k' e a b c =
      let s1 = tf + is_it i id in
      let s2 = s1 + is_it j id in
      let s3 = s2 + is_it m id in
      let j1 = joined id n0 n2 (n2 + 1) tf (is_it i id) s1 l (omega arith) refl a (one_id id n2 i ei) in
      let j2 = joined id n0 (n2 + 1) (n2 + 1 + 1) s1 (is_it j id) s2 (omega (arith, l)) (omega arith) refl j1 (one_id id (n2 + 1) j ej) in
      let j3 = joined id n0 (n2 + 1 + 1) (n2 + 1 + 1 + 1) s2 (is_it m id) s3 (omega (arith, l)) (omega arith) refl j2
      (one_id id (n2 + 1 + 1) m (omega (arith, em))) in
      let up : n2 + 1 + 1 + 1 ≡ n2 + 3 = omega arith in
      let j4 = joined id n0 (n2 + 3) n9 s3 tb (s3 + tb) (omega (arith, l)) k refl (subst (λ x. AtMost id n0 x 0 0 s3) up j3) b in
      joined id n0 n9' n14 (s3 + tb) tc all (omega (arith, l, k, same)) k' e (subst (λ x. AtMost id n0 x 0 0 (s3 + tb)) same j4) c

  pub lowers_choice : (e0 e2 e3 e4 e5 e6 e7 e8 e9 e10 e11 e12 e13 e14 e15 e16 : Emission) (brk cont first : ℕ) (l t : Bool) (e x y : Term)
      (front back back' : List Instr) (r i j m : ℕ)
      → type_of_term e ≡ symbol.Truth → marks x ≡ 0 → marks y ≡ 0 → Front e0 e2 e front r → IsClean e2.kept → Takes e2 e3 i → Takes e3 e4 j
      → Takes e4 e5 m → Ends e5 e6 (merge m ∷ [])
      → Ends e6 e7 (choose r i j ∷ []) → Begins e7 e8 i → Body e8 e9 e10 brk cont first l t x back → Ends e10 e11 (branch m ∷ []) → Begins e11 e12 j
      → Body e12 e13 e14 brk cont first l t y back' → Ends e14 e15 (branch m ∷ []) → Begins e15 e16 m → Lowers e0 e16 brk cont first l t
      (term.If e x y)
  lowers_choice e0 e2 e3 e4 e5 e6 e7 e8 e9 e10 e11 e12 e13 e14 e15 e16 brk cont first l t e x y front back back' r i j m type ux uy f clean ti tj tm
      em ec bi body eb bj body' eb' bm =
      let code = code_of body.lowers.layout brk cont ++ back in
      let code' = code_of body'.lowers.layout brk cont ++ back' in
      let last = branch m ∷ label m ∷ [] in
      let second = branch m ∷ label j ∷ (code' ++ last) in
      let all_code = merge m ∷ choose r i j ∷ label i ∷ (code ++ second) in
      let labels = written_on growth e2 e4 e5 [] [] (written_on growth e2 e3 e4 [] [] (written_taken growth e2 e3 i ti)
      (written_taken growth e3 e4 j tj)) (written_taken growth e4 e5 m tm) in
      let merged = written_on growth e2 e5 e6 [] (merge m ∷ []) labels (merge_written e5 e6 m em) in
      let known : Results e0 e2 front r symbol.Truth =
      record {
        result = λ z w globals known cg ck kept. subst (λ s. IsOf z.names (behind globals known front) s r) type
            (f.known.result z w globals known cg ck kept);
      } in
      let head = selection_head e0 e2 e6 e7 front r i j m f.piece known merged ec in
      let tail = jump_written e14 e15 e16 m m eb' bm in
      let inner' = written_on growth e12 e14 e16 code' last (body_written e12 e13 e14 brk cont first l t y back' body') tail in
      let mid = written_on growth e10 e12 e16 (branch m ∷ label j ∷ []) (code' ++ last) (jump_written e10 e11 e12 m j eb bj) inner' in
      let inner = written_on growth e8 e10 e16 code second (body_written e8 e9 e10 brk cont first l t x back body) mid in
      let rest = written_on growth e7 e8 e16 (label i ∷ []) (code ++ second) (written_label e7 e8 i bi) inner in
      let whole = subst (λ c. Written e0 e16 c) (guard_list front code second (merge m) (choose r i j) (label i))
      (written_on growth e0 e7 e16 (front ++ (merge m ∷ choose r i j ∷ [])) (label i ∷ (code ++ second)) head rest) in
      record {
        layout = Both (Straight front) (Chosen r i j m (Both body.lowers.layout (Straight back)) (Both body'.lowers.layout (Straight back')));
        placed = (f.piece.plain, ((body.lowers.placed, body.flush.piece.plain), (body'.lowers.placed, body'.flush.piece.plain)));
        cases' = refl;
        default' = refl;
        written = whole;
        once = λ id.
            let n0 = next_of e0 in
            let n2 = next_of e2 in
            let n10 = next_of e10 in
            let n14 = next_of e14 in
            let tf = times id (results front) in
            let tb = times id (results code) in
            let tc = times id (results code') in
            let all = times id (results (front ++ all_code)) in
            let same : next_of e8 ≡ n2 + 3 = omega (
              arith,
              ti.next,
              tj.next,
              tm.next,
              ap (λ s. s.next) em.symbols,
              ap (λ s. s.next) ec.symbols,
              ap
                  (λ s. s.next) bi.symbols,
            ) in
            let between : n10 ≡ next_of e12 = sym (ap (λ s. s.next) bj.symbols ∙ ap (λ s. s.next) eb.symbols) in
            let end : next_of e16 ≡ n14 = ap (λ s. s.next) bm.symbols ∙ ap (λ s. s.next) eb'.symbols in
            let grown = (body_written e8 e9 e10 brk cont first l t x back body).grows.next in
            let a1 = piece_once e0 e2 front f.piece.written.grows f.piece.plain id in
            let a4 = subst (λ k. AtMost id k n10 0 0 tb) same (body_once id e8 e9 e10 brk cont first l t x back ux body) in
            let a5 = body_once id e12 e13 e14 brk cont first l t y back' uy body' in
            any_marks id n0 (next_of e16) first 0 all (subst (λ k. AtMost id n0 k 0 0 all) (sym end)
            (three_labels id n0 n2 n10 (next_of e12) n14 i j m tf tb tc all ti.result (tj.result ∙ ti.next)
            (omega (arith, tm.result, tj.next, ti.next)) f.piece.written.grows.next
            (omega (arith, grown, same)) between (body_written e12 e13 e14 brk cont first l t y back' body').grows.next
            (omega (arith, times_results id front all_code, times_results id code second, times_results id code' last)) a1 a4 a5));
        labels = λ id h. inl (choice_labels e0 e2 e3 e4 e5 e8 e10 e12 e14 e16 front code code' r i j m f.piece.plain
            (later_by e0 e2 front f.piece.written.grows) ti tj tm
            (later_then e5 e6 e8 (merge m ∷ []) em.grows (later_then e6 e7 e8 (choose r i j ∷ []) ec.grows
            (later_by e7 e8 (label i ∷ []) bi.grows)))
            (body_labels e8 e9 e10 brk cont first l t x back ux body)
            (later_by e8 e10 code (body_written e8 e9 e10 brk cont first l t x back body).grows)
            (later_then e10 e11 e12 (branch m ∷ []) eb.grows (later_by e11 e12 (label j ∷ []) bj.grows))
            (body_labels e12 e13 e14 brk cont first l t y back' uy body')
            (later_by e12 e14 code' (body_written e12 e13 e14 brk cont first l t y back' body').grows) (later_by e14 e16 last tail.grows) id h);
        law = λ z w.
            let at2 = growth.back e2 e16 all_code z
            (growth.on e2 e7 e16 (merge m ∷ choose r i j ∷ []) (label i ∷ (code ++ second))
            (growth.on e2 e6 e7 (merge m ∷ []) (choose r i j ∷ []) merged.grows ec.grows) rest.grows) w in
            record {
              front = front;
              first_back = back;
              second_back = back';
              r = r;
              first_label = i;
              second_label = j;
              merge = m;
              first = body.lowers.layout;
              second = body'.lowers.layout;
              layout = refl;
              clean = e2.kept;
              tests = λ s u v here holds is. f.law z at2 s u (IsTruth v) here holds is;
              is_clean = clean;
              is_first = body_in e8 e9 e10 e16 brk cont first l t x back second body mid.grows z w;
              is_second = body_in e12 e13 e14 e16 brk cont first l t y back' last body' tail.grows z w;
              behind = bm.empty;
            };
        shows = λ z places w linked here.
            let at2 = growth.back e2 e16 all_code z
            (growth.on e2 e7 e16 (merge m ∷ choose r i j ∷ []) (label i ∷ (code ++ second))
            (growth.on e2 e6 e7 (merge m ∷ []) (choose r i j ∷ []) merged.grows ec.grows) rest.grows) w in
            let head = merge m ∷ choose r i j ∷ label i ∷ [] in
            let a = shape_in z.machine.code places (Both body.lowers.layout (Straight back)) in
            let b = shape_in z.machine.code places (Both body'.lowers.layout (Straight back')) in
            behind_quiet (shape_of z.machine.code places front) (a ++ b) (map Seen (shape (term.If e x y)))
            (f.piece.quiet z places at2 linked (in_front z front all_code here))
            (both_seen a b (shape x) (shape y)
            (body_shows e8 e9 e10 e16 brk cont first l t x back second body mid.grows z places w linked (between z front head code second here))
            (body_shows e12 e13 e14 e16 brk cont first l t y back' last body' tail.grows z places w linked
            (between z code (branch m ∷ label j ∷ []) code' last (behind_code z head (code ++ second) (behind_code z front all_code here)))));
      }

  -- A SWITCH. The labels of its cases were taken in a row.
  written_row : (a b : Emission) (first count : ℕ) → TakesRow a b first count → Written a b []
  written_row a b first count h = record {
    grows = growth.row a b first count h;
    known = λ z w globals known cg ck kept. record { typed = tt; kept = subst (λ t. CoversKept z.names t known) (sym h.kept) kept };
  }

  abbrev pub choice : ℕ → ℕ → Term → ℕ → Instr
  choice r m x first = instruction OpSwitch (r ∷ unwrap_or (default_of x first) m ∷ pairs (cases_of x first))

  switch_known : (a b c : Emission) (code : List Instr) (r m first : ℕ) (x : Term) → Written a b code → Results a b code r symbol.Word
      → Ends b c (choice r m x first ∷ [])
      → Written a c (code ++ (choice r m x first ∷ []))
  switch_known a b c code r m first x w k e =
      let i = choice r m x first in
      record {
        grows = growth.on a b c code (i ∷ []) w.grows e.grows;
        known = λ z full globals known cg ck kept.
            let back = growth.back b c (i ∷ []) z e.grows full in
            let before = w.known z back globals known cg ck kept in
            record {
              typed = typed_both z.names globals known code (i ∷ []) before.typed ((k.result z back globals known cg ck kept, tt), tt);
              kept = subst (λ t. CoversKept z.names t (behind globals known (code ++ (i ∷ [])))) (sym e.kept)
                  (subst (λ l. CoversKept z.names b.kept l) (sym (behind_append z.names globals known code (i ∷ []))) before.kept);
            };
      }

  merged_word : (a b c : Emission) (x : List Instr) (r m : ℕ) → (w : Grows b c (merge m ∷ [])) → Results a b x r symbol.Word
      → Results a c (x ++ (merge m ∷ [])) r symbol.Word
  merged_word a b c x r m w k = record {
    result = λ z full globals known cg ck kept.
        let back = growth.back b c (merge m ∷ []) z w full in
        subst (λ l. IsOf z.names l symbol.Word r) (sym (behind_append z.names globals known x (merge m ∷ [])))
        (k.result z back globals known cg ck kept);
  }

  -- the instruction is that of the layout
  choice_is : (r m first : ℕ) (x : Term) (l : Layout) (back : List Instr) → cases l ≡ cases_of x first → default l ≡ default_of x first
      → choice r m x first ≡ switch r m (Both l (Straight back))
  choice_is r m first x l back c d =
      let e : cases (Both l (Straight back)) ≡ cases_of x first = append-nil (cases l) ∙ c in
      let f : default (Both l (Straight back)) ≡ default_of x first = first_none (default l) ∙ d in
      rw (e, f) refl where
        first_none : (o : Option ℕ) → first_of o None ≡ o
        first_none None = refl
        first_none (Some n) = refl

  pub row_labels : (id n0 n2 n9 i m first count tf tb all : ℕ) → i ≡ n2 → m ≡ n2 + 1 → first ≡ n2 + 2 → n0 ≤ n2 → first + count ≤ n9
      → all ≡ tf + is_it i id + is_it m id + tb
      → AtMost id n0 n2 0 0 tf → AtMost id first n9 0 0 tb → AtMost id n0 n9 0 0 all
  row_labels id n0 n2 n9 i m first count tf tb all ei em ef l k e a b =
      let up : first ≡ n2 + 1 + 1 = omega (arith, ef) in
      two_labels id n0 n2 n9 i m tf tb all ei em l (omega (arith, k, ef)) e a (subst (λ x. AtMost id x n9 0 0 tb) up b)

  pub lowers_switch : (e0 e2 e3 e4 e5 e6 e7 e8 e9 e10 e11 e12 : Emission) (brk cont first out : ℕ) (l t : Bool) (on x : Term)
      (front back : List Instr) (r i m : ℕ)
      → type_of_term on ≡ symbol.Word → Front e0 e2 on front r → IsClean e2.kept → Takes e2 e3 i → Takes e3 e4 m → TakesRow e4 e5 first (marks x)
      → Ends e5 e6 (merge m ∷ [])
      → Ends e6 e7 (choice r m x first ∷ []) → Begins e7 e8 i → Body e8 e9 e10 m cont first l true x back → Ends e10 e11 (branch m ∷ [])
      → Begins e11 e12 m
      → Lowers e0 e12 brk cont out l t (term.Switch on x)
  lowers_switch e0 e2 e3 e4 e5 e6 e7 e8 e9 e10 e11 e12 brk cont first out l t on x front back r i m type f clean ti tm row em ec bi body eb bm =
      let code = code_of body.lowers.layout m cont ++ back in
      let last = branch m ∷ label m ∷ [] in
      let own = choice r m x first in
      let labels = written_on growth e2 e4 e5 [] [] (written_on growth e2 e3 e4 [] [] (written_taken growth e2 e3 i ti)
      (written_taken growth e3 e4 m tm)) (written_row e4 e5 first (marks x) row) in
      let merged = written_on growth e2 e5 e6 [] (merge m ∷ []) labels (merge_written e5 e6 m em) in
      let known : Results e0 e2 front r symbol.Word =
      record {
        result = λ z w globals known cg ck kept. subst (λ s. IsOf z.names (behind globals known front) s r) type
            (f.known.result z w globals known cg ck kept);
      } in
      let before = written_on growth e0 e2 e6 front (merge m ∷ []) f.piece.written merged in
      let head = subst (λ c. Written e0 e7 c) (append_assoc front (merge m ∷ []) (own ∷ []))
      (switch_known e0 e6 e7 (front ++ (merge m ∷ [])) r m first x before (merged_word e0 e2 e6 front r m merged.grows known) ec) in
      let tail = jump_written e10 e11 e12 m m eb bm in
      let inner = written_on growth e8 e10 e12 code last (body_written e8 e9 e10 m cont first l true x back body) tail in
      let rest = written_on growth e7 e8 e12 (label i ∷ []) (code ++ last) (written_label e7 e8 i bi) inner in
      let same_choice = choice_is r m first x body.lowers.layout back body.lowers.cases' body.lowers.default' in
      let written_own = subst (λ c. Written e0 e12 c) (guard_list front code last (merge m) own (label i))
      (written_on growth e0 e7 e12 (front ++ (merge m ∷ own ∷ [])) (label i ∷ (code ++ last)) head rest) in
      let whole = subst (λ c. Written e0 e12 (front ++ (merge m ∷ c ∷ label i ∷ (code ++ last)))) same_choice written_own in
      record {
        layout = Both (Straight front) (Switched r i m (Both body.lowers.layout (Straight back)));
        placed = (f.piece.plain, (body.lowers.placed, body.flush.piece.plain));
        cases' = refl;
        default' = refl;
        written = whole;
        once = λ id.
            let n0 = next_of e0 in
            let n2 = next_of e2 in
            let n10 = next_of e10 in
            let tf = times id (results front) in
            let tb = times id (results code) in
            let all_code = merge m ∷ switch r m (Both body.lowers.layout (Straight back)) ∷ label i ∷ (code ++ last) in
            let all = times id (results (front ++ all_code)) in
            let start : next_of e8 ≡ first + marks x = ap (λ s. s.next) bi.symbols ∙
            (ap (λ s. s.next) ec.symbols ∙ (ap (λ s. s.next) em.symbols ∙ row.next)) in
            let end : next_of e12 ≡ n10 = ap (λ s. s.next) bm.symbols ∙ ap (λ s. s.next) eb.symbols in
            let lowered = body.lowers in
            let c1 = code_of lowered.layout m cont in
            let b1 = with_marks id (next_of e8) (next_of e9) first (marks x) (times id (results c1)) (omega (arith, start)) lowered.written.grows.next
            (lowered.once id) in
            let b2 = joined id first (next_of e9) n10 (times id (results c1)) (times id (results back)) tb
            (omega (arith, start, lowered.written.grows.next)) body.flush.piece.written.grows.next
            (times_results id c1 back) b1 (piece_once e9 e10 back body.flush.piece.written.grows body.flush.piece.plain id) in
            let a1 = piece_once e0 e2 front f.piece.written.grows f.piece.plain id in
            any_marks id n0 (next_of e12) out 0 all (subst (λ k. AtMost id n0 k 0 0 all) (sym end)
            (row_labels id n0 n2 n10 i m first (marks x) tf tb all ti.result (tm.result ∙ ti.next) (omega (arith, row.result, tm.next, ti.next))
            f.piece.written.grows.next
            (omega (arith, start, lowered.written.grows.next, body.flush.piece.written.grows.next))
            (omega (arith, times_results id front all_code, times_results id code last)) a1 b2));
        labels = λ id h. inl (switch_labels e0 e2 e3 e4 e5 e8 e10 e12 front code i m first (marks x)
            (switch r m (Both body.lowers.layout (Straight back))) refl f.piece.plain (later_by e0 e2 front f.piece.written.grows) ti tm row
            (later_then e5 e6 e8 (merge m ∷ []) em.grows (later_then e6 e7 e8 (own ∷ []) ec.grows
            (later_by e7 e8 (label i ∷ []) bi.grows)))
            (body_marks e8 e9 e10 m cont first l true x back body)
            (later_by e8 e10 code (body_written e8 e9 e10 m cont first l true x back body).grows) (later_by e10 e12 last tail.grows) id h);
        law = λ z w.
            let at2 = growth.back e2 e12 (merge m ∷ own ∷ label i ∷ (code ++ last)) z
            (growth.on e2 e7 e12 (merge m ∷ own ∷ []) (label i ∷ (code ++ last)) (growth.on e2 e6 e7 (merge m ∷ []) (own ∷ []) merged.grows ec.grows)
            rest.grows) w in
            record {
              front = front;
              back = back;
              r = r;
              inside = i;
              merge = m;
              body = body.lowers.layout;
              layout = refl;
              clean = e2.kept;
              measures = λ s u v here holds is. f.law z at2 s u (IsWord v) here holds is;
              is_clean = clean;
              is_body = body_in e8 e9 e10 e12 m cont first l true x back last body tail.grows z w;
              behind = bm.empty;
            };
        shows = λ z places w linked here.
            let at2 = growth.back e2 e12 (merge m ∷ own ∷ label i ∷ (code ++ last)) z
            (growth.on e2 e7 e12 (merge m ∷ own ∷ []) (label i ∷ (code ++ last)) (growth.on e2 e6 e7 (merge m ∷ []) (own ∷ []) merged.grows ec.grows)
            rest.grows) w in
            let in_body = Both body.lowers.layout (Straight back) in
            let head = merge m ∷ switch r m in_body ∷ label i ∷ [] in
            let inside = shape_in z.machine.code places in_body in
            behind_quiet (shape_of z.machine.code places front) (Seen (OpensSwitch (values (cases in_body))) ∷ (inside ++ Seen ClosesIt ∷ []))
            (map Seen (shape (term.Switch on x)))
            (f.piece.quiet z places at2 linked (in_front z front (head ++ (code ++ last)) here))
            (ap (λ vs. Seen (OpensSwitch vs) ∷ (inside ++ Seen ClosesIt ∷ [])) (switch_values body.lowers.layout back x first body.lowers.cases')
            ∙ closed (OpensSwitch (cases_in x)) inside (shape x)
            (body_shows e8 e9 e10 e12 m cont first l true x back last body tail.grows z places w linked (between z front head code last here)));
      }

  -- AWAY. A break, a continue and a return stand under a truth that always holds.
  pub record AwayFront (a b : Emission) (code : List Instr) (r : ℕ) : Type 0 where
    pub piece : Piece a b code
    pub known : Results a b code r symbol.Truth
    pub law : (z : Site) → Completes b z → Always z.machine (Holds z) code a.kept b.kept r

  -- what waits was stored, and the id of the constant that always holds was found
  pub away_front : (a b c : Emission) (code : List Instr) (r : ℕ) → Flush a b code → Named b c True r → AwayFront a c code r
  away_front a b c code r f h =
      let same : code ++ [] ≡ code = append-nil code in
      let grows = subst (λ l. Grows a c l) same (growth.on a b c code [] f.piece.written.grows h.grows) in
      record {
        piece = record {
          plain = f.piece.plain;
          written = record {
            grows = grows;
            known = λ z w globals known cg ck kept.
                let k = f.piece.written.known z (growth.back b c [] z h.grows w) globals known cg ck kept in
                record { typed = k.typed; kept = subst (λ t. CoversKept z.names t (behind globals known code)) (sym h.kept) k.kept };
          };
          quiet = λ z places w linked here. f.piece.quiet z places (growth.back b c [] z h.grows w) linked here;
        };
        known = record {
          result = λ z w globals known cg ck kept. covers_behind z.names z.frame.context globals known code cg ck True symbol.Truth r
              (w.has True r h.has) refl;
        };
        law = λ z w s t here holds.
            let k = f.law z (growth.back b c [] z h.grows w) s t here holds in
            record {
              arrives = record { to = k.to; goes = k.goes; place = k.place; holds = subst (λ u. Holds z u k.to t) (sym h.kept) k.holds };
              value = k.holds.mirrors.knows True r (Truth true) (w.has True r h.has) refl;
            };
      }

  away : (e0 e2 e3 e4 e5 e6 e7 e8 e9 e10 e11 e12 : Emission) (front : List Instr) (r i m n : ℕ) (leads : Instr) → results (leads ∷ []) ≡ []
      → AwayFront e0 e2 front r → Takes e2 e3 i → Takes e3 e4 m
      → Takes e4 e5 n → Ends e5 e6 (merge m ∷ []) → Ends e6 e7 (choose r i m ∷ []) → Begins e7 e8 i → Written e8 e9 (leads ∷ [])
      → next_of e9 ≡ next_of e8 → Begins e9 e10 n
      → Ends e10 e11 (branch m ∷ []) → Begins e11 e12 m
      → Written e0 e12 (front ++ (merge m ∷ choose r i m ∷ label i ∷ ((leads ∷ label n ∷ []) ++ (branch m ∷ label m ∷ []))))
      × ((id : ℕ) → AtMost id (next_of e0) (next_of e12) 0 0
      (times id (results (front ++ (merge m ∷ choose r i m ∷ label i ∷ ((leads ∷ label n ∷ []) ++ (branch m ∷ label m ∷ [])))))))
      × Grows e2 e12 (merge m ∷ choose r i m ∷ label i ∷ ((leads ∷ label n ∷ []) ++ (branch m ∷ label m ∷ [])))
  away e0 e2 e3 e4 e5 e6 e7 e8 e9 e10 e11 e12 front r i m n leads none f ti tm tn em ec bi wl same bn eb bm =
      let code = leads ∷ label n ∷ [] in
      let last = branch m ∷ label m ∷ [] in
      let all_code = merge m ∷ choose r i m ∷ label i ∷ (code ++ last) in
      let labels = written_on growth e2 e4 e5 [] [] (written_on growth e2 e3 e4 [] [] (written_taken growth e2 e3 i ti)
      (written_taken growth e3 e4 m tm)) (written_taken growth e4 e5 n tn) in
      let merged = written_on growth e2 e5 e6 [] (merge m ∷ []) labels (merge_written e5 e6 m em) in
      let head = selection_head e0 e2 e6 e7 front r i m m f.piece f.known merged ec in
      let tail = jump_written e10 e11 e12 m m eb bm in
      let under = written_on growth e8 e9 e10 (leads ∷ []) (label n ∷ []) wl (written_label e9 e10 n bn) in
      let inner = written_on growth e8 e10 e12 code last under tail in
      let rest = written_on growth e7 e8 e12 (label i ∷ []) (code ++ last) (written_label e7 e8 i bi) inner in (
        subst (λ c. Written e0 e12 c) (guard_list front code last (merge m) (choose r i m) (label i))
            (written_on growth e0 e7 e12 (front ++ (merge m ∷ choose r i m ∷ [])) (label i ∷ (code ++ last)) head rest),
        (λ id.
            let n0 = next_of e0 in
            let n2 = next_of e2 in
            let tf = times id (results front) in
            let all = times id (results (front ++ all_code)) in
            let end : next_of e12 ≡ n2 + 3 = omega (
              arith,
              ti.next,
              tm.next,
              tn.next,
              ap (λ s. s.next) em.symbols,
              ap (λ s. s.next) ec.symbols,
              ap (λ s. s.next) bi.symbols,
              same,
              ap (λ s. s.next) bn.symbols,
              ap (λ s. s.next) eb.symbols,
              ap (λ s. s.next) bm.symbols,
            ) in
            let quiet : times id (results (leads ∷ [])) ≡ 0 = ap (times id) none in
            let split : times id (results (front ++ all_code)) ≡ tf + times id (results all_code) = times_results id front all_code in
            let inside : times id (results all_code) ≡ is_it i id + (times id (results (leads ∷ [])) + (is_it n id + (is_it m id + 0))) =
            ap (λ q. is_it i id + q) (times_results id (leads ∷ []) (label n ∷ last)) in
            three_taken id n0 n2 (next_of e12) i m n tf all ti.result (tm.result ∙ ti.next) (omega (arith, tn.result, tm.next, ti.next))
            f.piece.written.grows.next end
            (omega (arith, split, inside, quiet)) (piece_once e0 e2 front f.piece.written.grows f.piece.plain id)),
        growth.on e2 e7 e12 (merge m ∷ choose r i m ∷ []) (label i ∷ (code ++ last))
            (growth.on e2 e6 e7 (merge m ∷ []) (choose r i m ∷ []) merged.grows ec.grows) rest.grows,
      )

  away_taken : (e0 e2 e3 e4 e5 e6 e7 e8 e9 e10 e11 e12 : Emission) (front : List Instr) (r i m n : ℕ) (leads : Instr)
      → labels_of (flow_of leads) ≡ [] → AwayFront e0 e2 front r → Takes e2 e3 i → Takes e3 e4 m
      → Takes e4 e5 n → Ends e5 e6 (merge m ∷ []) → Ends e6 e7 (choose r i m ∷ []) → Begins e7 e8 i → Written e8 e9 (leads ∷ [])
      → Begins e9 e10 n → Ends e10 e11 (branch m ∷ []) → Begins e11 e12 m
      → AllLabels (IsTaken e0 e12) (front ++ (merge m ∷ choose r i m ∷ label i ∷ ((leads ∷ label n ∷ []) ++ (branch m ∷ label m ∷ []))))
  away_taken e0 e2 e3 e4 e5 e6 e7 e8 e9 e10 e11 e12 front r i m n leads none f ti tm tn em ec bi wl bn eb bm =
      away_labels e0 e2 e3 e4 e5 e12 front r i m n leads none f.piece.plain (later_by e0 e2 front f.piece.written.grows) ti tm tn
      (later_then e5 e6 e12 (merge m ∷ []) em.grows (later_then e6 e7 e12 (choose r i m ∷ []) ec.grows
      (later_then e7 e8 e12 (label i ∷ []) bi.grows (later_then e8 e9 e12 (leads ∷ []) wl.grows
      (later_then e9 e10 e12 (label n ∷ []) bn.grows (later_then e10 e11 e12 (branch m ∷ []) eb.grows
      (later_by e11 e12 (label m ∷ []) bm.grows)))))))

  pub lowers_break : (e0 e2 e3 e4 e5 e6 e7 e8 e9 e10 e11 e12 : Emission) (brk cont first : ℕ) (l t : Bool) (front : List Instr) (r i m n : ℕ)
      → t ≡ true → AwayFront e0 e2 front r → IsClean e2.kept
      → Takes e2 e3 i → Takes e3 e4 m → Takes e4 e5 n → Ends e5 e6 (merge m ∷ []) → Ends e6 e7 (choose r i m ∷ []) → Begins e7 e8 i
      → Ends e8 e9 (branch brk ∷ []) → Begins e9 e10 n
      → Ends e10 e11 (branch m ∷ []) → Begins e11 e12 m → Lowers e0 e12 brk cont first l t term.Break
  lowers_break e0 e2 e3 e4 e5 e6 e7 e8 e9 e10 e11 e12 brk cont first l t front r i m n e f clean ti tm tn em ec bi el bn eb bm =
      let written = written_end e8 e9 (branch brk) el (λ names known. tt) (λ globals known. refl) in
      let a = away e0 e2 e3 e4 e5 e6 e7 e8 e9 e10 e11 e12 front r i m n (branch brk) refl f ti tm tn em ec bi written (ap (λ s. s.next) el.symbols) bn
      eb bm in
      record {
        layout = Both (Straight front) (Guarded r i m (Breaks n));
        placed = (f.piece.plain, e);
        cases' = refl;
        default' = refl;
        written = a.0;
        once = λ id. any_marks id (next_of e0) (next_of e12) first 0
            (times id (results (code_of (Both (Straight front) (Guarded r i m (Breaks n))) brk cont))) (a.1 id);
        labels = λ id h. inl (away_taken e0 e2 e3 e4 e5 e6 e7 e8 e9 e10 e11 e12 front r i m n (branch brk) refl f ti tm tn em ec bi written bn eb bm id h);
        law = λ z w.
            let at2 = growth.back e2 e12 (merge m ∷ choose r i m ∷ label i ∷ ((branch brk ∷ label n ∷ []) ++ (branch m ∷ label m ∷ []))) z a.2 w in
            (front, r, i, m, n, refl, record { clean = e2.kept; always = f.law z at2; is_clean = clean; behind = bm.empty });
        shows = λ z places w linked here.
            let rest = merge m ∷ choose r i m ∷ label i ∷ ((branch brk ∷ label n ∷ []) ++ (branch m ∷ label m ∷ [])) in
            before_quiet (shape_of z.machine.code places front) [] []
            (f.piece.quiet z places (growth.back e2 e12 rest z a.2 w) linked (in_front z front rest here)) refl;
      }

  pub lowers_continue : (e0 e2 e3 e4 e5 e6 e7 e8 e9 e10 e11 e12 : Emission) (brk cont first : ℕ) (l t : Bool) (front : List Instr) (r i m n : ℕ)
      → l ≡ true → AwayFront e0 e2 front r → IsClean e2.kept
      → Takes e2 e3 i → Takes e3 e4 m → Takes e4 e5 n → Ends e5 e6 (merge m ∷ []) → Ends e6 e7 (choose r i m ∷ []) → Begins e7 e8 i
      → Ends e8 e9 (branch cont ∷ []) → Begins e9 e10 n
      → Ends e10 e11 (branch m ∷ []) → Begins e11 e12 m → Lowers e0 e12 brk cont first l t term.Continue
  lowers_continue e0 e2 e3 e4 e5 e6 e7 e8 e9 e10 e11 e12 brk cont first l t front r i m n e f clean ti tm tn em ec bi el bn eb bm =
      let written = written_end e8 e9 (branch cont) el (λ names known. tt) (λ globals known. refl) in
      let a = away e0 e2 e3 e4 e5 e6 e7 e8 e9 e10 e11 e12 front r i m n (branch cont) refl f ti tm tn em ec bi written (ap (λ s. s.next) el.symbols)
      bn eb bm in
      record {
        layout = Both (Straight front) (Guarded r i m (Continues n));
        placed = (f.piece.plain, e);
        cases' = refl;
        default' = refl;
        written = a.0;
        once = λ id. any_marks id (next_of e0) (next_of e12) first 0
            (times id (results (code_of (Both (Straight front) (Guarded r i m (Continues n))) brk cont))) (a.1 id);
        labels = λ id h. inl (away_taken e0 e2 e3 e4 e5 e6 e7 e8 e9 e10 e11 e12 front r i m n (branch cont) refl f ti tm tn em ec bi written bn eb bm id h);
        law = λ z w.
            let at2 = growth.back e2 e12 (merge m ∷ choose r i m ∷ label i ∷ ((branch cont ∷ label n ∷ []) ++ (branch m ∷ label m ∷ []))) z a.2 w in
            (front, r, i, m, n, refl, record { clean = e2.kept; always = f.law z at2; is_clean = clean; behind = bm.empty });
        shows = λ z places w linked here.
            let rest = merge m ∷ choose r i m ∷ label i ∷ ((branch cont ∷ label n ∷ []) ++ (branch m ∷ label m ∷ [])) in
            before_quiet (shape_of z.machine.code places front) [] []
            (f.piece.quiet z places (growth.back e2 e12 rest z a.2 w) linked (in_front z front rest here)) refl;
      }

  pub lowers_return : (e0 e2 e3 e4 e5 e6 e7 e8 e9 e10 e11 e12 : Emission) (brk cont first : ℕ) (l t : Bool) (front : List Instr) (r i m n : ℕ)
      → AwayFront e0 e2 front r
      → Takes e2 e3 i → Takes e3 e4 m → Takes e4 e5 n → Ends e5 e6 (merge m ∷ []) → Ends e6 e7 (choose r i m ∷ []) → Begins e7 e8 i
      → Ends e8 e9 (leave ∷ []) → Begins e9 e10 n
      → Ends e10 e11 (branch m ∷ []) → Begins e11 e12 m → Lowers e0 e12 brk cont first l t term.Return
  lowers_return e0 e2 e3 e4 e5 e6 e7 e8 e9 e10 e11 e12 brk cont first l t front r i m n f ti tm tn em ec bi el bn eb bm =
      let written = written_end e8 e9 (leave) el (λ names known. tt) (λ globals known. refl) in
      let a = away e0 e2 e3 e4 e5 e6 e7 e8 e9 e10 e11 e12 front r i m n (leave) refl f ti tm tn em ec bi written (ap (λ s. s.next) el.symbols) bn eb
      bm in
      record {
        layout = Both (Straight front) (Guarded r i m (Returns n));
        placed = (f.piece.plain, tt);
        cases' = refl;
        default' = refl;
        written = a.0;
        once = λ id. any_marks id (next_of e0) (next_of e12) first 0
            (times id (results (code_of (Both (Straight front) (Guarded r i m (Returns n))) brk cont))) (a.1 id);
        labels = λ id h. inl (away_taken e0 e2 e3 e4 e5 e6 e7 e8 e9 e10 e11 e12 front r i m n leave refl f ti tm tn em ec bi written bn eb bm id h);
        law = λ z w.
            let at2 = growth.back e2 e12 (merge m ∷ choose r i m ∷ label i ∷ ((leave ∷ label n ∷ []) ++ (branch m ∷ label m ∷ []))) z a.2 w in
            (front, r, i, m, n, refl, e2.kept, f.law z at2);
        shows = λ z places w linked here.
            let rest = merge m ∷ choose r i m ∷ label i ∷ ((leave ∷ label n ∷ []) ++ (branch m ∷ label m ∷ [])) in
            before_quiet (shape_of z.machine.code places front) [] []
            (f.piece.quiet z places (growth.back e2 e12 rest z a.2 w) linked (in_front z front rest here)) refl;
      }
