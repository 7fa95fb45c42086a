-- The instructions of a program that breaks no rule on structure are those of a nested statement.
use Rattle.std.proofs.Common.{◌≡◌, ℕ, zero, suc, ◌+◌, ◌-◌, ◌<◌, ◌≤◌, inl, inr, List, [], ◌∷◌, ◌++◌, length, take, Bool, true, false, not, ◌||◌, ◌&&◌, if◌then◌else◌, Option, Some, None, refl, sym, ap, ◌∙◌, subst, arith, append_assoc, length-append}
use Rattle.std.specs.Prelude.{slice_get, is_some, is_none, nat_eq, nat_lt}
use Rattle.std.specs.Option.{option_map}
use Rattle.std.proofs.lemmas.Bool.{cases_lt}
use Rattle.std.proofs.lemmas.Bool.Decides.{nat_tests}
use Rattle.std.proofs.lemmas.List.{append-nil, length-take, take_all}
use Rattle.std.proofs.lemmas.Option.{slice_get_within}
use Rattle.word_base.specs.declared.rule.Rule.TheVariants.{S1, S3, S4, S5, S6, S7, S8, S9, M3}
use Rattle.word_base.specs.Rules.{broken}
use Rattle.tpf_decode.specs.Profiles.{Base}
use Rattle.tpf_decode.specs.Opcodes.{meaning_of, form_of, form_of_meaning}
use Rattle.tpf_decode.specs.declared.meaning.Meaning.{Meaning}
use Rattle.tpf_decode.specs.declared.meaning.Meaning.TheVariants as meaning
use Rattle.tpf_program.specs.declared.instruction.Instruction.{Instruction}
use Rattle.tpf_program.specs.Cases.{is_any_case}
use Rattle.tpf_program.specs.Ends.{Part, Opens, Closes, Within, part_of, has, means, is_if, is_loop, is_switch, is_loop_or_switch, is_opening, is_else, is_default, is_case_of, last_below, is_same, is_direct}
use Rattle.tpf_program.specs.Nesting.{inner, inner_is, has_before, depth, is_in, is_label, is_end_of_switch, is_return, is_wrong_end, is_wrong_else, is_wrong_leap, is_wrong_label, is_second_default, is_second_case, is_too_early, walk_at, walk_by, walk_from, open_from, where_none, last_from, nesting_refusals}
use Rattle.tpf_program.specs.Program.{Shader}
use Rattle.tpf_program.specs.Spelling.{Item, Declares, Types, Does, Lists, Skips, SpellsItems, instructions_in, Spells}
use Rattle.shader_check.specs.Nested.{openings, first_number, without_first, part_of_any, passed}
use Rattle.shader_check.specs.Statements.{Statement, Nothing, Then, Plain, If, IfElse, Loop, Switch, Label, flattened, labels, Where, outside_all, in_if, in_loop, in_switch, IsSound, stands_in, is_end_of_if, is_end_of_loop, same_label, AreDistinct, BeginsWithLabel, HaveMeanings, IsNested}
use Rattle.shader_check.proofs.NestedCounts.{openings_next}
use Rattle.shader_check.proofs.NestedEnds.{last_is}
use Rattle.shader_check.proofs.NestedFinds.{inner_is_first, depth_is_length, innermost_is_first}
use Rattle.shader_check.proofs.NestedKept.{IsLast, last_told, not_before, same_self}
use Rattle.shader_check.proofs.NestedRules.{loop_opens, leave_opens}
use Rattle.shader_check.proofs.Paths.{Met, Path, Top, In, front, part, places, within, where_at, IsMet, BeginsSome, IsReady, IsSoundPath, Seen, SeenAt, IsSeenPath, path_later, opening_at, in_loops, in_leaves, depth_at, depth_few, direct_switch, push, push_front, push_places, push_sound, push_seen, mark_sound, mark_seen}
use Rattle.shader_check.proofs.SoundFacts.{both_none, not_broken}
use Rattle.shader_check.proofs.Walk.{front_more}

-- an instruction that breaks no rule
pub record IsUnbroken (code : List Instruction) (q : ℕ) (m : Meaning) (i : Instruction) : Type 0 where
  pub ends : is_wrong_end Base code (inner Base code q) m ≡ false
  pub elses : is_wrong_else Base code q (inner Base code q) m ≡ false
  pub leaps : is_wrong_leap Base code q m ≡ false
  pub labelled : is_wrong_label Base code (inner Base code q) m ≡ false
  pub defaults : is_second_default Base code q (inner Base code q) m ≡ false
  pub cases : is_second_case Base code q (inner Base code q) m i.o0.x ≡ false
  pub early : is_too_early Base code q (inner Base code q) m ≡ false
  pub deep : (is_opening m && nat_eq (depth Base code q) 64) ≡ false

unbroken : (code : List Instruction) (q : ℕ) (m : Meaning) (i : Instruction) → walk_at Base code q (inner Base code q) m i ≡ [] → IsUnbroken code q m i
unbroken code q m i h =
    let p = i.place in
    let n = inner Base code q in
    let a = broken (is_wrong_end Base code n m) S1 p in
    let b = broken (is_wrong_else Base code q n m) S3 p in
    let c = broken (is_wrong_leap Base code q m) S4 p in
    let d = broken (is_wrong_label Base code n m) S5 p in
    let e = broken (is_second_default Base code q n m) S6 p in
    let f = broken (is_second_case Base code q n m i.o0.x) S7 p in
    let g = broken (is_too_early Base code q n m) S8 p in
    let k = broken (is_opening m && nat_eq (depth Base code q) 64) M3 p in
    let r7 = both_none (a ++ b ++ c ++ d ++ e ++ f ++ g) k h in
    let r6 = both_none (a ++ b ++ c ++ d ++ e ++ f) g r7.0 in
    let r5 = both_none (a ++ b ++ c ++ d ++ e) f r6.0 in
    let r4 = both_none (a ++ b ++ c ++ d) e r5.0 in
    let r3 = both_none (a ++ b ++ c) d r4.0 in
    let r2 = both_none (a ++ b) c r3.0 in
    let r1 = both_none a b r2.0 in
    record {
      ends = not_broken _ S1 p r1.0;
      elses = not_broken _ S3 p r1.1;
      leaps = not_broken _ S4 p r2.1;
      labelled = not_broken _ S5 p r3.1;
      defaults = not_broken _ S6 p r4.1;
      cases = not_broken _ S7 p r5.1;
      early = not_broken _ S8 p r6.1;
      deep = not_broken _ M3 p r7.1;
    }

below_most : (d : ℕ) → d < 64 → nat_lt d 64 ≡ true
below_most d h = grind (arith, nat_tests, h)

not_true : (b : Bool) → not b ≡ false → b ≡ true
not_true true h = refl
not_true false h = absurd (cc)

and_last : (a b : Bool) → a ≡ true → (a && b) ≡ false → b ≡ false
and_last true b h k = k
and_last false b h k = absurd (cc)

or_false : (a b : Bool) → (a || b) ≡ false → (a ≡ false) × (b ≡ false)
or_false true b h = absurd (cc)
or_false false b h = (refl, h)

both_true : (a b : Bool) → (a && b) ≡ true → (a ≡ true) × (b ≡ true)
both_true true b h = (refl, h)
both_true false b h = absurd (cc)

-- the instructions in front of q, as statements
pub record IsAt (code : List Instruction) (q : ℕ) (p : Path) : Type 0 where
  pub flat : take q code ≡ front p
  pub open_at : openings code q ≡ places p
  pub sound : IsSoundPath p
  pub seen : IsSeenPath code q p

pub record At (code : List Instruction) (q : ℕ) : Type 0 where
  pub path : Path
  pub is_at : IsAt code q path

module _ (code : List Instruction) (q : ℕ) (i : Instruction) (at : slice_get code q ≡ Some i) where
  there : q < length code
  there = slice_get_within code q i at

  next_flat : take (q + 1) code ≡ take q code ++ i ∷ []
  next_flat = front_more code q i at

  next_open : (m : Option Meaning) → meaning_of Base i.code ≡ m → openings code (q + 1) ≡ passed (part_of_any m) q (openings code q)
  next_open m e = openings_next code q i at ∙ ap (λ m. passed (part_of_any m) q (openings code q)) e

  length_front : (p : Path) → IsAt code q p → q ≡ length (front p)
  length_front p h =
      let l : length (take q code) ≡ q = length-take q code ∙ omega (arith, there) in
      sym l ∙ ap (length {A = Instruction}) h.flat

  inner_at : (around : Path) (opening : Instruction) (met : Option Met) (done : Statement) → IsAt code q (In around opening met done) → inner Base code q ≡ Some (length (front around))
  inner_at around opening met done h = inner_is_first code q ∙ ap first_number h.open_at

  inner_top : (done : Statement) → IsAt code q (Top done) → inner Base code q ≡ None
  inner_top done h = inner_is_first code q ∙ ap first_number h.open_at

  sort_at : (around : Path) (opening : Instruction) (met : Option Met) (done : Statement) → IsAt code q (In around opening met done) → (sort : Meaning → Bool)
      → inner_is Base sort code (inner Base code q) ≡ means Base sort opening
  sort_at around opening met done h sort =
      ap (inner_is Base sort code) (inner_at around opening met done h) ∙ ap (has (means Base sort)) (opening_at code q around opening (part met done) h.flat)

  -- a mark that stands before q, directly in the construct
  some_below : (test : ℕ → Bool) (u : ℕ) → is_some (last_below test u) ≡ true → (m : ℕ) × IsLast test u m
  some_below test u h = by_last (last_below test u) refl h
    where
      by_last : (x : Option ℕ) → last_below test u ≡ x → is_some x ≡ true → (m : ℕ) × IsLast test u m
      by_last None e h = absurd (cc)
      by_last (Some m) e h = (m, last_told test u m e)

  stays_below : (test : ℕ → Bool) (u m : ℕ) → m < u → test m ≡ true → is_some (last_below test u) ≡ false → ⊥
  stays_below test zero m l e h = absurd (omega (arith, l))
  stays_below test (suc u) m l e h = by_test (test u) refl h (stays_below test u m)
    where
      by_test : (b : Bool) → test u ≡ b → is_some (if b then Some u else last_below test u) ≡ false → (m < u → test m ≡ true → is_some (last_below test u) ≡ false → ⊥) → ⊥
      by_test true k h next = absurd (cc)
      by_test false k h next = elim (cases_lt m u) [
        | inl s ↦ next s e h
        | inr s ↦ let z : m ≡ u = omega (arith, s, l) in let y : test u ≡ true = subst (λ x. test x ≡ true) z e in absurd (cc)
      ]

  seen_has : (n : ℕ) (test : Instruction → Bool) (j : Instruction) → Seen code q n j → test j ≡ true → has_before Base test code (Some n) q ≡ false → ⊥
  seen_has n test j (SeenAt m l e k) t h =
      stays_below (is_direct Base true test code (Some n)) q m l
      (ap (λ x. has test x && is_same (inner Base code m) (Some n)) e ∙ (ap (λ x. test j && is_same x (Some n)) k ∙ (ap (λ b. test j && b) (same_self n) ∙ ap (λ b. b && true) t))) h

  -- what stands directly in a switch stands behind a label
  ready_at : (p : Path) → IsAt code q p → (m : Meaning) → IsUnbroken code q m i → is_label m ≡ false → is_end_of_switch m ≡ false → IsReady p
  ready_at (Top done) h m u a b = λ d. absurd (cc)
  ready_at (In around opening met done) h m u a b = λ d.
      let n = length (front around) in
      let s : means Base is_switch opening ≡ true = sym (direct_switch (meaning_of Base opening.code) (where_at around)) ∙ d in
      let x : inner_is Base is_switch code (inner Base code q) ≡ true = sort_at around opening met done h is_switch ∙ s in
      let y : not (is_label m || is_end_of_switch m) ≡ true = ap (λ b. not (b || is_end_of_switch m)) a ∙ ap not b in
      let z = and_last (inner_is Base is_switch code (inner Base code q) && not (is_label m || is_end_of_switch m)) (not (has_before Base (means Base is_label) code (inner Base code q) q))
      (ap (λ b. b && not (is_label m || is_end_of_switch m)) x ∙ y) u.early in
      let w : has_before Base (means Base is_label) code (Some n) q ≡ true =
      ap (λ x. has_before Base (means Base is_label) code x q) (sym (inner_at around opening met done h)) ∙ not_true (has_before Base (means Base is_label) code (inner Base code q) q) z in
      let f = some_below (is_direct Base true (means Base is_label) code (Some n)) q w in
      by_met met s h.sound.1.is_met (behind f.0 f.1) (length_front (In around opening met done) h) (h.sound.1.begins d)
    where
      behind : (m : ℕ) → IsLast (is_direct Base true (means Base is_label) code (Some (length (front around)))) q m → length (front around) + 1 < q
      behind m l = elim (cases_lt (length (front around)) m) [
        | inl s ↦ omega (arith, s, l.below)
        | inr s ↦ let e = not_before code (means Base is_label) m (length (front around)) s in let k = l.holds in absurd (cc)
      ]

      by_done : (xs : List Instruction) → length (front around) + 1 < q → q ≡ length (front around ++ (opening ∷ xs)) → BeginsWithLabel xs → BeginsSome xs
      by_done [] l e k = absurd (omega (arith, l, e, length-append (front around) (opening ∷ [])))
      by_done (x ∷ xs) l e k = k

      no_if_switch : (m : Option Meaning) → has is_if m ≡ true → has is_switch m ≡ true → ⊥
      no_if_switch None a b = absurd (cc)
      no_if_switch (Some meaning.If) a b = absurd (cc)
      no_if_switch (Some m) a b = absurd (cc)

      by_met : (met : Option Met) → means Base is_switch opening ≡ true → IsMet (where_at around) opening met → length (front around) + 1 < q
          → q ≡ length (front around ++ (opening ∷ part met done)) → BeginsWithLabel (flattened done) → BeginsSome (flattened done)
      by_met None s k l e b = by_done (flattened done) l e b
      by_met (Some w) s k l e b = absurd (no_if_switch (meaning_of Base opening.code) k.0 s)

  -- AN INSTRUCTION BY ITSELF
  stays_open : (p : Path) → IsAt code q p → (m : Option Meaning) → meaning_of Base i.code ≡ m → part_of_any m ≡ Within → openings code (q + 1) ≡ places p
  stays_open p h m e w = next_open m e ∙ (ap (λ x. passed x q (openings code q)) w ∙ h.open_at)

  alone : (p : Path) → IsAt code q p → (m : Option Meaning) → meaning_of Base i.code ≡ m → part_of_any m ≡ Within → IsReady p → IsSound (where_at p) (Plain i) → At code (q + 1)
  alone p h m e w r k = record {
    path = push p (Plain i);
    is_at = record {
      flat = next_flat ∙ (ap (λ l. l ++ i ∷ []) h.flat ∙ sym (push_front p (Plain i)));
      open_at = stays_open p h m e w ∙ sym (push_places p (Plain i));
      sound = push_sound p (Plain i) h.sound r k refl;
      seen = push_seen code (q + 1) p (Plain i) (path_later code q p h.seen) refl;
    };
  }

  plain : (p : Path) → IsAt code q p → (m : Meaning) → meaning_of Base i.code ≡ Some m → IsUnbroken code q m i → part_of m ≡ Within → is_label m ≡ false → is_end_of_switch m ≡ false
      → stands_in (where_at p) m ≡ true → At code (q + 1)
  plain p h m e u w a b s = alone p h (Some m) e w (ready_at p h m u a b) (ap (λ x. Rattle.shader_check.specs.Statements.stands (where_at p) x) e ∙ s)

  may_leave : (p : Path) → IsAt code q p → not (is_in Base is_loop_or_switch code q) ≡ false → (where_at p).leaves ≡ true
  may_leave p h k =
      sym (in_leaves code q p [] (h.flat ∙ sym (append-nil (front p))))
      ∙ (sym (ap is_some (innermost_is_first code is_loop_or_switch leave_opens q ∙ ap (Rattle.shader_check.specs.Nested.first_of is_loop_or_switch code) h.open_at)) ∙ not_true (is_in Base is_loop_or_switch code q) k)

  may_renew : (p : Path) → IsAt code q p → not (is_in Base is_loop code q) ≡ false → (where_at p).loops ≡ true
  may_renew p h k =
      sym (in_loops code q p [] (h.flat ∙ sym (append-nil (front p))))
      ∙ (sym (ap is_some (innermost_is_first code is_loop loop_opens q ∙ ap (Rattle.shader_check.specs.Nested.first_of is_loop code) h.open_at)) ∙ not_true (is_in Base is_loop code q) k)

  -- AN OPENING
  opens : (p : Path) → IsAt code q p → (m : Meaning) → meaning_of Base i.code ≡ Some m → IsUnbroken code q m i → part_of m ≡ Opens → is_opening m ≡ true → is_label m ≡ false → is_end_of_switch m ≡ false → At code (q + 1)
  opens p h m e u w o a b =
      let d : depth Base code q ≡ (where_at p).depth = depth_is_length code q ∙ (ap (length {A = ℕ}) h.open_at ∙ depth_at p) in
      let n = and_last (is_opening m) (nat_eq (depth Base code q) 64) o u.deep in
      let few : (where_at p).depth < 64 = grind (arith, nat_tests, n, d, depth_few p h.sound) in
      record {
        path = In p i None Nothing;
        is_at = record {
          flat = next_flat ∙ ap (λ l. l ++ i ∷ []) h.flat;
          open_at = next_open (Some m) e ∙ (ap (λ x. passed x q (openings code q)) w ∙ (ap (λ n. n ∷ openings code q) (length_front p h) ∙ ap (λ l. length (front p) ∷ l) h.open_at));
          sound = (
            h.sound,
            record {
              is_met = ap (has is_opening) e ∙ o;
              few = few;
              ready = ready_at p h m u a b;
              sound = tt;
              begins = λ d. tt;
              distinct = λ d. tt;
            },
          );
          seen = (path_later code q p h.seen, record { middle = λ m k. absurd (cc); marks = λ k j z. absurd (cc) });
        };
      }

  -- AN END
  closed : (around : Path) (opening : Instruction) (met : Option Met) (done : Statement) → IsAt code q (In around opening met done) → (m : Meaning) → meaning_of Base i.code ≡ Some m → part_of m ≡ Closes
      → (s : Statement) → flattened s ≡ opening ∷ (part met done ++ i ∷ []) → labels s ≡ [] → IsSound (where_at around) s → At code (q + 1)
  closed around opening met done h m e w s f l k = record {
    path = push around s;
    is_at = record {
      flat =
          next_flat ∙ (ap (λ x. x ++ i ∷ []) h.flat ∙ (append_assoc (front around) (opening ∷ part met done) (i ∷ [])
          ∙ (ap (λ x. front around ++ x) (sym f) ∙ sym (push_front around s))));
      open_at =
          next_open (Some m) e ∙ (ap (λ x. passed x q (openings code q)) w ∙ (ap without_first h.open_at ∙ sym (push_places around s)));
      sound = push_sound around s h.sound.0 h.sound.1.ready k l;
      seen = push_seen code (q + 1) around s (path_later code q around h.seen.0) l;
    };
  }

  is_within : (sort : Meaning → Bool) (by : Where → Where) → ((m : Option Meaning) → has sort m ≡ true → (w : Where) → within m w ≡ by w) → (w : Where) (opening : Instruction) (s : Statement)
      → means Base sort opening ≡ true → IsSound (within (meaning_of Base opening.code) w) s → IsSound (by w) s
  is_within sort by f w opening s h k = subst (λ x. IsSound x s) (f (meaning_of Base opening.code) h w) k

  if_within : (m : Option Meaning) → has is_if m ≡ true → (w : Where) → within m w ≡ in_if w
  if_within None h w = refl
  if_within (Some meaning.If) h w = refl
  if_within (Some m) h w = absurd (cc)

  loop_within : (m : Option Meaning) → has is_loop m ≡ true → (w : Where) → within m w ≡ in_loop w
  loop_within None h w = absurd (cc)
  loop_within (Some meaning.Loop) h w = refl
  loop_within (Some m) h w = absurd (cc)

  switch_within : (m : Option Meaning) → has is_switch m ≡ true → (w : Where) → within m w ≡ in_switch w
  switch_within None h w = absurd (cc)
  switch_within (Some meaning.Switch) h w = refl
  switch_within (Some m) h w = absurd (cc)

  not_both : (sort : Meaning → Bool) → ((m : Meaning) → is_if m ≡ true → sort m ≡ true → ⊥) → (m : Option Meaning) → has is_if m ≡ true → has sort m ≡ true → ⊥
  not_both sort f None a b = absurd (cc)
  not_both sort f (Some m) a b = f m a b

  if_or_loop : (m : Meaning) → is_if m ≡ true → is_loop m ≡ true → ⊥
  if_or_loop meaning.If a b = absurd (cc)
  if_or_loop m a b = absurd (cc)

  if_or_switch : (m : Meaning) → is_if m ≡ true → is_switch m ≡ true → ⊥
  if_or_switch meaning.If a b = absurd (cc)
  if_or_switch m a b = absurd (cc)

  end_if : (p : Path) → IsAt code q p → meaning_of Base i.code ≡ Some meaning.EndIf → IsUnbroken code q meaning.EndIf i → At code (q + 1)
  end_if (Top done) h e u = let k : inner_is Base is_if code (inner Base code q) ≡ false = ap (inner_is Base is_if code) (inner_top done h) in let z = not_true _ u.ends in absurd (cc)
  end_if (In around opening None done) h e u =
      let s : means Base is_if opening ≡ true = sym (sort_at around opening None done h is_if) ∙ not_true (inner_is Base is_if code (inner Base code q)) u.ends in
      closed around opening None done h meaning.EndIf e refl (If opening done i) refl refl
      (s, ap (has is_end_of_if) e, below_most _ h.sound.1.few, is_within is_if in_if if_within (where_at around) opening done s h.sound.1.sound)
  end_if (In around opening (Some m) done) h e u =
      let s : means Base is_if opening ≡ true = h.sound.1.is_met.0 in
      closed around opening (Some m) done h meaning.EndIf e refl (IfElse opening m.body m.middle done i)
      (ap (λ l. opening ∷ l) (sym (append_assoc (flattened m.body) (m.middle ∷ flattened done) (i ∷ [])))) refl
      (s, h.sound.1.is_met.1, ap (has is_end_of_if) e, below_most _ h.sound.1.few, h.sound.1.is_met.2, is_within is_if in_if if_within (where_at around) opening done s h.sound.1.sound)

  end_loop : (p : Path) → IsAt code q p → meaning_of Base i.code ≡ Some meaning.EndLoop → IsUnbroken code q meaning.EndLoop i → At code (q + 1)
  end_loop (Top done) h e u = let k : inner_is Base is_loop code (inner Base code q) ≡ false = ap (inner_is Base is_loop code) (inner_top done h) in let z = not_true _ u.ends in absurd (cc)
  end_loop (In around opening None done) h e u =
      let s : means Base is_loop opening ≡ true = sym (sort_at around opening None done h is_loop) ∙ not_true (inner_is Base is_loop code (inner Base code q)) u.ends in
      closed around opening None done h meaning.EndLoop e refl (Loop opening done i) refl refl
      (s, ap (has is_end_of_loop) e, below_most _ h.sound.1.few, is_within is_loop in_loop loop_within (where_at around) opening done s h.sound.1.sound)
  end_loop (In around opening (Some m) done) h e u =
      let s : means Base is_loop opening ≡ true = sym (sort_at around opening (Some m) done h is_loop) ∙ not_true (inner_is Base is_loop code (inner Base code q)) u.ends in
      absurd (not_both is_loop if_or_loop (meaning_of Base opening.code) h.sound.1.is_met.0 s)

  end_switch : (p : Path) → IsAt code q p → meaning_of Base i.code ≡ Some meaning.EndSwitch → IsUnbroken code q meaning.EndSwitch i → At code (q + 1)
  end_switch (Top done) h e u = let k : inner_is Base is_switch code (inner Base code q) ≡ false = ap (inner_is Base is_switch code) (inner_top done h) in let z = not_true _ u.ends in absurd (cc)
  end_switch (In around opening None done) h e u =
      let s : means Base is_switch opening ≡ true = sym (sort_at around opening None done h is_switch) ∙ not_true (inner_is Base is_switch code (inner Base code q)) u.ends in
      let d = direct_switch (meaning_of Base opening.code) (where_at around) ∙ s in
      closed around opening None done h meaning.EndSwitch e refl (Switch opening done i) refl refl
      (s, ap (has is_end_of_switch) e, below_most _ h.sound.1.few, is_within is_switch in_switch switch_within (where_at around) opening done s h.sound.1.sound, h.sound.1.begins d, h.sound.1.distinct d)
  end_switch (In around opening (Some m) done) h e u =
      let s : means Base is_switch opening ≡ true = sym (sort_at around opening (Some m) done h is_switch) ∙ not_true (inner_is Base is_switch code (inner Base code q)) u.ends in
      absurd (not_both is_switch if_or_switch (meaning_of Base opening.code) h.sound.1.is_met.0 s)

  -- AN ELSE
  alternative : (p : Path) → IsAt code q p → meaning_of Base i.code ≡ Some meaning.Else → IsUnbroken code q meaning.Else i → At code (q + 1)
  alternative (Top done) h e u =
      let k : inner_is Base is_if code (inner Base code q) ≡ false = ap (inner_is Base is_if code) (inner_top done h) in
      let z = not_true _ (or_false (not (inner_is Base is_if code (inner Base code q))) _ u.elses).0 in absurd (cc)
  alternative (In around opening (Some m) done) h e u =
      let z = (or_false (not (inner_is Base is_if code (inner Base code q))) (has_before Base (means Base is_else) code (inner Base code q) q) u.elses).1 in
      absurd (seen_has (length (front around)) (means Base is_else) m.middle (h.seen.1.middle m refl) h.sound.1.is_met.1
      (ap (λ x. has_before Base (means Base is_else) code x q) (sym (inner_at around opening (Some m) done h)) ∙ z))
  alternative (In around opening None done) h e u =
      let z = (or_false (not (inner_is Base is_if code (inner Base code q))) (has_before Base (means Base is_else) code (inner Base code q) q) u.elses).0 in
      let s : means Base is_if opening ≡ true = sym (sort_at around opening None done h is_if) ∙ not_true (inner_is Base is_if code (inner Base code q)) z in
      let m : Met = record { body = done; middle = i } in
      let l = path_later code q (In around opening None done) h.seen in
      record {
        path = In around opening (Some m) Nothing;
        is_at = record {
          flat = next_flat ∙ (ap (λ x. x ++ i ∷ []) h.flat ∙ append_assoc (front around) (opening ∷ flattened done) (i ∷ []));
          open_at = stays_open (In around opening None done) h (Some meaning.Else) e refl;
          sound = (
            h.sound.0,
            record {
              is_met = (s, ap (has is_else) e, is_within is_if in_if if_within (where_at around) opening done s h.sound.1.sound);
              few = h.sound.1.few;
              ready = h.sound.1.ready;
              sound = tt;
              begins = λ d. tt;
              distinct = λ d. tt;
            },
          );
          seen = (
            l.0,
            record {
              middle = λ w k. subst (λ x. Seen code (q + 1) (length (front around)) x.middle) (same_met m w k) (SeenAt q (omega arith) at (inner_at around opening None done h));
              marks = λ k j y. absurd (cc);
            },
          );
        };
      }
    where
      same_met : (m w : Met) → Some m ≡ Some w → m ≡ w
      same_met m w k = cc

  -- A LABEL
  label : (p : Path) → IsAt code q p → (m : Meaning) → meaning_of Base i.code ≡ Some m → IsUnbroken code q m i → part_of m ≡ Within → is_label m ≡ true
      → ((n : ℕ) → inner Base code q ≡ Some n → (j : Instruction) → Seen code q n j → same_label j i ≡ false) → At code (q + 1)
  label (Top done) h m e u w l f =
      let k : inner_is Base is_switch code (inner Base code q) ≡ false = ap (inner_is Base is_switch code) (inner_top done h) in
      let z = not_true _ (and_last (is_label m) (not (inner_is Base is_switch code (inner Base code q))) l u.labelled) in absurd (cc)
  label (In around opening met done) h m e u w l f =
      let n = inner_at around opening met done h in
      let s : means Base is_switch opening ≡ true = sym (sort_at around opening met done h is_switch)
      ∙ not_true (inner_is Base is_switch code (inner Base code q)) (and_last (is_label m) (not (inner_is Base is_switch code (inner Base code q))) l u.labelled) in
      record {
        path = push (In around opening met done) (Label i);
        is_at = record {
          flat = next_flat ∙ (ap (λ x. x ++ i ∷ []) h.flat ∙ sym (push_front (In around opening met done) (Label i)));
          open_at = stays_open (In around opening met done) h (Some m) e w;
          sound = mark_sound around opening met done i h.sound (direct_switch (meaning_of Base opening.code) (where_at around) ∙ s) (ap (has is_label) e ∙ l)
              (λ k j x. f (length (front around)) n j (h.seen.1.marks k j x));
          seen = mark_seen code q around opening met done i h.seen at n;
        };
      }

  false_or : (a b : Bool) → (a ≡ true → ⊥) → (b ≡ true → ⊥) → (a || b) ≡ false
  false_or true b f g = absurd (f refl)
  false_or false true f g = absurd (g refl)
  false_or false false f g = refl

  a_default : (p : Path) → IsAt code q p → meaning_of Base i.code ≡ Some meaning.Default → IsUnbroken code q meaning.Default i → At code (q + 1)
  a_default p h e u = label p h meaning.Default e u refl refl (λ n k j s.
      false_or (means Base is_default j && means Base is_default i) (means Base is_any_case j && is_case_of Base j.o0.x i)
      (λ z. seen_has n (means Base is_default) j s (both_true (means Base is_default j) (means Base is_default i) z).0 (ap (λ x. has_before Base (means Base is_default) code x q) (sym k) ∙ u.defaults))
      (λ z. no_case j (both_true (means Base is_any_case j) (is_case_of Base j.o0.x i) z).1))
    where
      no_case : (j : Instruction) → is_case_of Base j.o0.x i ≡ true → ⊥
      no_case j z =
          let y : is_case_of Base j.o0.x i ≡ false = ap (has (Rattle.tpf_program.specs.Ends.is_case j.o0.x i.o0.x)) e in absurd (cc)

  a_case : (p : Path) → IsAt code q p → meaning_of Base i.code ≡ Some meaning.Case → IsUnbroken code q meaning.Case i → At code (q + 1)
  a_case p h e u = label p h meaning.Case e u refl refl (λ n k j s.
      false_or (means Base is_default j && means Base is_default i) (means Base is_any_case j && is_case_of Base j.o0.x i)
      (λ z. no_default (both_true (means Base is_default j) (means Base is_default i) z).1)
      (λ z. seen_has n (is_case_of Base i.o0.x) j s
      (same_case j (meaning_of Base j.code) refl (both_true (means Base is_any_case j) (is_case_of Base j.o0.x i) z).0 (both_true (means Base is_any_case j) (is_case_of Base j.o0.x i) z).1)
      (ap (λ x. has_before Base (is_case_of Base i.o0.x) code x q) (sym k) ∙ u.cases)))
    where
      no_default : means Base is_default i ≡ true → ⊥
      no_default z = let y : means Base is_default i ≡ false = ap (has is_default) e in absurd (cc)

      value : (w : ℕ) → is_case_of Base w i ≡ nat_eq i.o0.x w
      value w = ap (has (Rattle.tpf_program.specs.Ends.is_case w i.o0.x)) e

      same_case : (j : Instruction) (m : Option Meaning) → meaning_of Base j.code ≡ m → has is_any_case m ≡ true → is_case_of Base j.o0.x i ≡ true → is_case_of Base i.o0.x j ≡ true
      same_case j None k a b = absurd (cc)
      same_case j (Some meaning.Case) k a b =
          let x : nat_eq i.o0.x j.o0.x ≡ true = sym (value j.o0.x) ∙ b in
          let y : i.o0.x ≡ j.o0.x = grind (arith, nat_tests, x) in
          ap (has (Rattle.tpf_program.specs.Ends.is_case i.o0.x j.o0.x)) k ∙ grind (arith, nat_tests, y)
      same_case j (Some m) k a b = absurd (cc)

  -- ANY INSTRUCTION
  pub step : (p : Path) → IsAt code q p → (m : Option Meaning) → is_some m ≡ true → meaning_of Base i.code ≡ m → walk_by Base code q m i ≡ [] → At code (q + 1)
  step p h None k e w = absurd (cc)
  step p h (Some meaning.If) k e w = opens p h meaning.If e (unbroken code q meaning.If i w) refl refl refl refl
  step p h (Some meaning.Loop) k e w = opens p h meaning.Loop e (unbroken code q meaning.Loop i w) refl refl refl refl
  step p h (Some meaning.Switch) k e w = opens p h meaning.Switch e (unbroken code q meaning.Switch i w) refl refl refl refl
  step p h (Some meaning.EndIf) k e w = end_if p h e (unbroken code q meaning.EndIf i w)
  step p h (Some meaning.EndLoop) k e w = end_loop p h e (unbroken code q meaning.EndLoop i w)
  step p h (Some meaning.EndSwitch) k e w = end_switch p h e (unbroken code q meaning.EndSwitch i w)
  step p h (Some meaning.Else) k e w = alternative p h e (unbroken code q meaning.Else i w)
  step p h (Some meaning.Case) k e w = a_case p h e (unbroken code q meaning.Case i w)
  step p h (Some meaning.Default) k e w = a_default p h e (unbroken code q meaning.Default i w)
  step p h (Some meaning.Break) k e w = let u = unbroken code q meaning.Break i w in plain p h meaning.Break e u refl refl refl (may_leave p h u.leaps)
  step p h (Some meaning.BreakIf) k e w = let u = unbroken code q meaning.BreakIf i w in plain p h meaning.BreakIf e u refl refl refl (may_leave p h u.leaps)
  step p h (Some meaning.Continue) k e w = let u = unbroken code q meaning.Continue i w in plain p h meaning.Continue e u refl refl refl (may_renew p h u.leaps)
  step p h (Some meaning.ContinueIf) k e w = let u = unbroken code q meaning.ContinueIf i w in plain p h meaning.ContinueIf e u refl refl refl (may_renew p h u.leaps)
  step p h (Some m) k e w = plain p h m e (unbroken code q m i w) refl refl refl refl

-- ALL INSTRUCTIONS
each_walk : (code : List Instruction) (q : ℕ) (is : List Instruction) → walk_from Base code q is ≡ [] → (n : ℕ) (i : Instruction) → slice_get is n ≡ Some i
    → walk_by Base code (q + n) (meaning_of Base i.code) i ≡ []
each_walk code q [] h n i e = absurd (cc)
each_walk code q (j ∷ is) h zero i e =
    let k : j ≡ i = cc in
    let z : q + zero ≡ q = omega arith in
    ap (λ x. walk_by Base code x (meaning_of Base i.code) i) z
    ∙ (ap (λ x. walk_by Base code q (meaning_of Base x.code) x) (sym k) ∙ (both_none (walk_by Base code q (meaning_of Base j.code) j) (walk_from Base code (q + 1) is) h).0)
each_walk code q (j ∷ is) h (suc n) i e =
    let z : q + suc n ≡ q + 1 + n = omega arith in
    ap (λ x. walk_by Base code x (meaning_of Base i.code) i) z ∙ each_walk code (q + 1) is (both_none (walk_by Base code q (meaning_of Base j.code) j) (walk_from Base code (q + 1) is) h).1 n i e

get : (xs : List Instruction) (n : ℕ) → n < length xs → (i : Instruction) × (slice_get xs n ≡ Some i)
get [] n l = absurd (omega (arith, l))
get (i ∷ xs) zero l = (i, refl)
get (i ∷ xs) (suc n) l = get xs n (omega (arith, l))

module _ (code : List Instruction) (known : (n : ℕ) (i : Instruction) → slice_get code n ≡ Some i → is_some (meaning_of Base i.code) ≡ true) (walked : walk_from Base code 0 code ≡ []) where
  along_list : (q : ℕ) → q ≤ length code → At code q
  along_list zero l = record { path = Top Nothing; is_at = record { flat = refl; open_at = refl; sound = tt; seen = tt } }
  along_list (suc q) l =
      let g = get code q (omega (arith, l)) in
      let h = along_list q (omega (arith, l)) in
      let e : q + 1 ≡ suc q = omega arith in
      let z : q ≡ 0 + q = omega arith in
      let w : walk_by Base code q (meaning_of Base g.0.code) g.0 ≡ [] = ap (λ x. walk_by Base code x (meaning_of Base g.0.code) g.0) z ∙ each_walk code 0 code walked q g.0 g.1 in
      subst (At code) e (step code q g.0 g.1 h.path h.is_at (meaning_of Base g.0.code) (known q g.0 g.1) refl w)

module _ (p : Shader) (known : (n : ℕ) (i : Instruction) → slice_get p.instructions n ≡ Some i → is_some (meaning_of Base i.code) ≡ true) (sound : nesting_refusals Base p ≡ []) where
  abbrev code : List Instruction
  code = p.instructions

  parts : (walk_from Base code 0 code ≡ []) × (last_from Base p.words code 0 code ≡ [])
  parts =
      let k = both_none (walk_from Base code 0 code ++ where_none (walk_from Base code 0 code) (open_from Base code 0 code)) (last_from Base p.words code 0 code) sound in
      ((both_none (walk_from Base code 0 code) (where_none (walk_from Base code 0 code) (open_from Base code 0 code)) k.0).0, k.1)

  some_code : (xs : List Instruction) → last_from Base p.words code 0 xs ≡ [] → 0 < length xs
  some_code [] h = absurd (cc)
  some_code (i ∷ xs) h = omega arith

  pub are_nested : IsNested p
  are_nested =
      let l = some_code code parts.1 in
      let q = length code - 1 in
      let g = get code q (omega (arith, l)) in
      let s = last_is p.words code g.0 q g.1 (omega (arith, l)) in
      let b = both_true (means Base is_return g.0) (is_none (inner Base code q)) (not_true (means Base is_return g.0 && is_none (inner Base code q)) (not_broken _ S9 g.0.place (sym s ∙ parts.1))) in
      let h = along_list code known parts.0 q (omega (arith, l)) in
      at_top h.path h.is_at g.0 g.1 b.0 b.1 (omega (arith, l))
    where
      none_inner : (x : Option ℕ) → is_none x ≡ true → x ≡ None
      none_inner None h = refl
      none_inner (Some n) h = absurd (cc)

      at_top : (path : Path) → IsAt code (length code - 1) path → (i : Instruction) → slice_get code (length code - 1) ≡ Some i → means Base is_return i ≡ true
          → is_none (inner Base code (length code - 1)) ≡ true → length code - 1 + 1 ≡ length code → IsNested p
      at_top (Top done) h i at r n e = record {
        front = done;
        last = i;
        flat = sym (take_all (length code) code (omega arith)) ∙ (ap (λ n. take n code) (sym e) ∙ (front_more code (length code - 1) i at ∙ ap (λ l. l ++ i ∷ []) h.flat));
        sound = h.sound;
        returns = r;
      }
      at_top (In around opening met done) h i at r n e =
          let z : inner Base code (length code - 1) ≡ Some (length (front around)) = inner_is_first code (length code - 1) ∙ ap first_number h.open_at in
          let y = none_inner (inner Base code (length code - 1)) n in absurd (cc)

-- what words spell has meanings
formed : (code : ℕ) → is_some (form_of Base code) ≡ is_some (meaning_of Base code)
unfolding form_of
formed code = by_meaning (meaning_of Base code)
  where
    by_meaning : (m : Option Meaning) → is_some (option_map form_of_meaning m) ≡ is_some m
    by_meaning None = refl
    by_meaning (Some m) = refl

each_item : (at : ℕ) (items : List Item) (words : List ℕ) → SpellsItems Base at items words → (n : ℕ) (i : Instruction) → slice_get (instructions_in items) n ≡ Some i
    → is_some (meaning_of Base i.code) ≡ true
each_item at [] words h n i e = absurd (cc)
each_item at (Declares d ∷ xs) words h n i e = each_item (at + length h.0) xs h.1 h.4 n i e
each_item at (Types d view ∷ xs) words h n i e = each_item (at + length h.0) xs h.1 h.4 n i e
each_item at (Lists place values ∷ xs) words h n i e = each_item (at + length h.0) xs h.1 h.4 n i e
each_item at (Skips kind values ∷ xs) words h n i e = each_item (at + length h.0) xs h.1 h.4 n i e
each_item at (Does j ∷ xs) words h zero i e = let k : j ≡ i = cc in ap (λ x. is_some (meaning_of Base x.code)) (sym k) ∙ (sym (formed j.code) ∙ h.3.1.form)
each_item at (Does j ∷ xs) words h (suc n) i e = each_item (at + length h.0) xs h.1 h.4 n i e

pub have_meanings : (p : Shader) (tokens : List ℕ) → Spells Base p tokens → HaveMeanings p
have_meanings p tokens s n i e = each_item 2 s.items s.body s.parts n i (ap (λ l. slice_get l n) (sym s.instructions) ∙ e)
