-- The first rule that declarations break, or what instructions use.
use Rattle.std.proofs.Common.{◌≡◌, ℕ, zero, suc, ◌+◌, ◌<◌, ◌≤◌, inl, inr, List, [], ◌∷◌, ◌++◌, take, drop, Bool, true, false, not, ◌||◌, if◌then◌else◌, Option, Some, None, refl, sym, ap, ◌∙◌, subst, arith}
use Rattle.std.specs.Prelude.{slice_get, flat_map, nat_lt, nat_le, min, length, replicate}
use Rattle.std.specs.List.{list_any, sum_by}
use Rattle.std.proofs.lemmas.Bool.{cases_lt}
use Rattle.std.proofs.lemmas.Bool.Decides.{nat_tests}
use Rattle.std.proofs.lemmas.List.{drop_all, take_all}
use Rattle.std.proofs.lemmas.List.Sums.{sum_by_push}
use Rattle.std.proofs.lemmas.Option.{slice_get_within}
use Rattle.word_base.specs.declared.rule.Refusal.{Refusal}
use Rattle.word_base.specs.declared.rule.Rule.{Rule}
use Rattle.word_base.specs.declared.rule.Rule.TheVariants.{L1, L2, L3, L4, L7}
use Rattle.word_base.specs.Rules.{broken, first, refusal}
use Rattle.tpf_decode.specs.Profiles.{Base}
use Rattle.tpf_decode.specs.Opcodes.{meaning_of}
use Rattle.tpf_program.specs.declared.declaration.Declaration.{Declaration}
use Rattle.tpf_program.specs.declared.declaration.Declaration.TheVariants.{Group}
use Rattle.tpf_program.specs.declared.declaration.Declared.{Declared}
use Rattle.tpf_program.specs.declared.instruction.Instruction.{Instruction}
use Rattle.tpf_program.specs.Declarations.{same_thing, is_within, is_past_limit, has_sizes, first_past, shared_bytes, register_count, declares_group, refusals_at, refusals_from}
use Rattle.tpf_program.specs.Program.{AreApart, AreInOrder, Shader}
use Rattle.tpf_program.specs.Uses.{refusals_by, up_to, use_refusals}
use Rattle.shader_check.specs.declared.things.Things.{Things}
use Rattle.shader_check.specs.FirstRefusals.{is_of_declarations, is_passed, or_refusal, passes_some, rule_at, rule_behind, thing_refusals}
use Rattle.shader_check.specs.Things.{looked_up, nothing, number_of, or_later, used_before, with_thing}
use Rattle.shader_check.proofs.FirstUses.{broken_by, Found, finds, uses_stand, StandsAt, At}
use Rattle.shader_check.proofs.Least.{first_append, same_place, joined}
use Rattle.shader_check.proofs.Orders.{phase_of, Late, late_none, late_joined, first_wins, last_wins}
use Rattle.shader_check.proofs.Sums.{Keeps, same_passed, keeps_more}
use Rattle.shader_check.proofs.Tables.{Lists, again, lists_more, lists_none}
use Rattle.shader_check.proofs.Walk.{at_index, front_more}

-- ONE DECLARATION: of the rules that are broken at one place the one with the lowest number counts.
at_place : (a b c e : Bool) (place : ℕ)
    → first (broken a L1 place ++ broken b L2 place ++ broken c L3 place ++ broken e L7 place) ≡ or_later (rule_at a b c e) place None
at_place false false false false place = refl
at_place false false false true place = refl
at_place false false true false place = refl
at_place false false true true place = rw (same_place place) refl
at_place false true false false place = refl
at_place false true false true place = rw (same_place place) refl
at_place false true true false place = rw (same_place place) refl
at_place false true true true place = rw (same_place place) rw (same_place place) refl
at_place true false false false place = refl
at_place true false false true place = rw (same_place place) refl
at_place true false true false place = rw (same_place place) refl
at_place true false true true place = rw (same_place place) rw (same_place place) refl
at_place true true false false place = rw (same_place place) refl
at_place true true false true place = rw (same_place place) rw (same_place place) refl
at_place true true true false place = rw (same_place place) rw (same_place place) refl
at_place true true true true place = rw (same_place place) rw (same_place place) rw (same_place place) refl

late_rule : (a b c e : Bool) (place low : ℕ) → low ≤ place → Late 6 low (or_later (rule_at a b c e) place None)
late_rule true b c e place low l = record { each = λ q h. let k : refusal L1 place ≡ q = cc in (sym (ap phase_of k), omega (arith, l, ap (λ x. x.place) k)) }
late_rule false true c e place low l = record { each = λ q h. let k : refusal L2 place ≡ q = cc in (sym (ap phase_of k), omega (arith, l, ap (λ x. x.place) k)) }
late_rule false false true e place low l = record { each = λ q h. let k : refusal L3 place ≡ q = cc in (sym (ap phase_of k), omega (arith, l, ap (λ x. x.place) k)) }
late_rule false false false true place low l = record { each = λ q h. let k : refusal L7 place ≡ q = cc in (sym (ap phase_of k), omega (arith, l, ap (λ x. x.place) k)) }
late_rule false false false false place low l = late_none 6 low

module _ (p : Shader) where
  -- declarations behind a place break rules behind it
  late_declarations : (low : ℕ) (before ds : List Declared) → ((n : ℕ) (d : Declared) → slice_get ds n ≡ Some d → low ≤ d.place) → Late 6 low (first (refusals_from 0 p before ds))
  late_declarations low before [] h = late_none 6 low
  late_declarations low before (d ∷ ds) h =
      subst (Late 6 low) (sym (first_append (refusals_at 0 p before d) (refusals_from 0 p (before ++ d ∷ []) ds)))
      (late_joined 6 low _ _
      (subst (Late 6 low) (sym (at_place _ _ _ _ d.place)) (late_rule _ _ _ _ d.place low (h 0 d refl)))
      (late_declarations low (before ++ d ∷ []) ds (λ n e k. h (suc n) e k)))

same_past : (before : List Declared) (bytes registers : ℕ) (what : Declaration)
    → Keeps (sum_by (λ d. shared_bytes d.what) before) bytes → Keeps (sum_by (λ d. register_count d.what) before) registers
    → is_past_limit 0 before what ≡ passes_some bytes registers what
same_past before bytes registers what h k =
    ap (λ t. not (is_within what) || (t || first_past 4096 0 register_count before what))
    (same_passed 32768 (sum_by (λ d. shared_bytes d.what) before) bytes (shared_bytes what) (omega arith) h)
    ∙ ap (λ t. not (is_within what) || (is_passed 32768 bytes (shared_bytes what) || t))
    (same_passed 4096 (sum_by (λ d. register_count d.what) before) registers (register_count what) (omega arith) k)

-- the first so many declarations are those up to a place
pub up_front : (ds : List Declared) (k place : ℕ) → ((n : ℕ) (d : Declared) → n < k → slice_get ds n ≡ Some d → d.place ≤ place)
    → ((n : ℕ) (d : Declared) → k ≤ n → slice_get ds n ≡ Some d → place < d.place) → up_to place ds ≡ take k ds
up_front [] zero place f g = refl
up_front [] (suc k) place f g = refl
up_front (d ∷ ds) zero place f g =
    let b : nat_le d.place place ≡ false = grind (arith, nat_tests, g 0 d (omega arith) refl) in
    ap (λ b. if b then d ∷ up_to place ds else up_to place ds) b ∙ up_front ds zero place (λ n e l h. absurd (omega (arith, l))) (λ n e l h. g (suc n) e (omega arith) h)
up_front (d ∷ ds) (suc k) place f g =
    let b : nat_le d.place place ≡ true = grind (arith, nat_tests, f 0 d (omega arith) refl) in
    ap (λ b. if b then d ∷ up_to place ds else up_to place ds) b
    ∙ ap (λ l. d ∷ l) (up_front ds k place (λ n e l h. f (suc n) e (omega (arith, l)) h) (λ n e l h. g (suc n) e (omega (arith, l)) h))

pub any_false : {X : Type 0} (test : X → Bool) (xs : List X) (n : ℕ) (x : X) → list_any test xs ≡ false → slice_get xs n ≡ Some x → test x ≡ false
any_false test [] n x h e = absurd (cc)
any_false test (y ∷ xs) zero x h e = let k : y ≡ x = cc in by_test (test y) (ap test k) h
  where
    by_test : (b : Bool) → b ≡ test x → (b || list_any test xs) ≡ false → test x ≡ false
    by_test true k h = absurd (cc)
    by_test false k h = sym k
any_false test (y ∷ xs) (suc n) x h e = by_test (test y) h (λ k. any_false test xs n x k e)
  where
    by_test : (b : Bool) → (b || list_any test xs) ≡ false → (list_any test xs ≡ false → test x ≡ false) → test x ≡ false
    by_test true h next = absurd (cc)
    by_test false h next = next h

pub record Answer (p : Shader) (o : Option Refusal) : Type 0 where
  pub first : o ≡ first (thing_refusals p)
  pub phase : is_of_declarations o ≡ true

-- what has to be known of a program
pub record Ordered (p : Shader) : Type 0 where
  pub untyped : p.typed ≡ []
  pub declarations : AreInOrder (λ d. d.place) p.words p.declarations
  pub instructions : AreInOrder (λ i. i.place) p.words p.instructions
  pub apart : AreApart p.declarations p.instructions

module _ (p : Shader) (o : Ordered p) where
  abbrev ds : List Declared
  ds = p.declarations

  abbrev is : List Instruction
  is = p.instructions

  abbrev fronts : ℕ → Type 0
  fronts k = (n : ℕ) (d : Declared) → n < k → slice_get ds n ≡ Some d → list_any (λ i. nat_lt i.place d.place) is ≡ false

  -- so many declarations are passed, which break no rule
  pub record Passed (k bytes registers : ℕ) (t : Things) : Type 0 where
    pub lists : Lists (take k ds) t
    pub rest : first (refusals_from 0 p (take k ds) (drop k ds)) ≡ first (refusals_from 0 p [] ds)
    pub front : fronts k
    pub bytes_kept : Keeps (sum_by (λ d. shared_bytes d.what) (take k ds)) bytes
    pub registers_kept : Keeps (sum_by (λ d. register_count d.what) (take k ds)) registers

  uses_are : first (use_refusals Base p) ≡ first (flat_map (broken_by ds) is)
  uses_are = ap (λ typed. first (flat_map (λ i. refusals_by typed (up_to i.place ds) (meaning_of Base i.code) i) is)) o.untyped

  -- behind the declarations
  abbrev found_there : Option Refusal
  found_there = first (refusals_from 0 p [] ds ++ broken (not (list_any (λ d. declares_group d.what) ds)) L4 p.words)

  whole : first (thing_refusals p) ≡ joined found_there (first (flat_map (broken_by ds) is))
  whole = first_append (refusals_from 0 p [] ds ++ broken (not (list_any (λ d. declares_group d.what) ds)) L4 p.words) (use_refusals Base p) ∙ ap (joined found_there) uses_are

  is_six : (q : Refusal) → phase_of q ≡ 6 → is_of_declarations (Some q) ≡ true
  is_six q h = grind (arith, nat_tests, h)

  closing : (r : Refusal) (t : Things) → found_there ≡ Some r → phase_of r ≡ 6 → ((n : ℕ) (i : Instruction) → slice_get is n ≡ Some i → i.place ≡ r.place → ⊥)
      → Found ds r.place is (used_before t r.place is) → (s : Refusal) → Some s ≡ or_refusal (used_before t r.place is) r → Answer p (Some s)
  closing r t h six none f s e = by_used (used_before t r.place is) refl e
    where
      by_used : (u : Option Refusal) → used_before t r.place is ≡ u → Some s ≡ or_refusal u r → Answer p (Some s)
      by_used (Some q) k e =
          let g = f.some q k in
          let z : s ≡ q = cc in
          record {
            first =
                ap Some z ∙ sym (whole ∙ (ap (λ a. joined a (first (flat_map (broken_by ds) is))) h ∙ (ap (joined (Some r)) g.0
                ∙ last_wins 6 q (Some r) (omega arith) g.1 (record { each = λ x y. let w : r ≡ x = cc in (sym (ap phase_of w) ∙ six, omega (arith, g.2, ap (λ v. v.place) w)) }))));
            phase = ap (λ x. is_of_declarations (Some x)) z ∙ is_six q g.1;
          }
      by_used None k e =
          let late = f.none k in
          let z : s ≡ r = cc in
          record {
            first =
                ap Some z ∙ sym (whole ∙ (ap (λ a. joined a (first (flat_map (broken_by ds) is))) h
                ∙ first_wins 6 r (first (flat_map (broken_by ds) is)) (omega arith) six (record { each = λ q y. let w = late.each q y in (w.0, later q w.1 (uses_stand ds is q y)) })));
            phase = ap (λ x. is_of_declarations (Some x)) z ∙ is_six r six;
          }
        where
          later : (q : Refusal) → r.place ≤ q.place → StandsAt ds is q.place → r.place + 1 ≤ q.place
          later q l (At n i y w) = elim (cases_lt r.place q.place) [ inl m ↦ omega (arith, m) | inr m ↦ absurd (none n i y (omega (arith, w, l, m))) ]

  module _ (k bytes registers : ℕ) (t : Things) (h : Passed k bytes registers t) where
    -- an instruction sees so many, where it stands before what follows them
    sees : (end : ℕ) → ((n : ℕ) (d : Declared) → k ≤ n → slice_get ds n ≡ Some d → end ≤ d.place)
        → (n : ℕ) (i : Instruction) → slice_get is n ≡ Some i → i.place < end → up_to i.place ds ≡ take k ds
    sees end g n i e l =
        up_front ds k i.place
        (λ m d b c. let z = any_false (λ j. nat_lt j.place d.place) is n i (h.front m d b c) e in grind (arith, nat_tests, z))
        (λ m d b c. omega (arith, l, g m d b c))

    found : (end : ℕ) → ((n : ℕ) (d : Declared) → k ≤ n → slice_get ds n ≡ Some d → end ≤ d.place) → Found ds end is (used_before t end is)
    found end g = finds ds (take k ds) t end p.words h.lists is o.instructions (sees end g)

    module _ (d : Declared) (at : slice_get ds k ≡ Some d) (earliest : ℕ) (ahead : list_any (λ i. nat_lt i.place d.place) is ≡ nat_lt earliest d.place) where
      here : first (refusals_at 0 p (take k ds) d) ≡ or_later (rule_behind t earliest bytes registers d) d.place None
      here =
          let again_here = list_any (λ e. same_thing e.what d.what) (take k ds) in
          let known = (looked_up t (number_of d.what)).declared in
          let late = nat_lt earliest d.place in
          let past = is_past_limit 0 (take k ds) d.what in
          let unsized = not (has_sizes d.what) in
          at_place again_here (list_any (λ i. nat_lt i.place d.place) is) past unsized d.place
          ∙ (ap (λ b. or_later (rule_at again_here b past unsized) d.place None) ahead
          ∙ (ap (λ b. or_later (rule_at b late past unsized) d.place None) (sym (again (take k ds) t h.lists d.what))
          ∙ ap (λ b. or_later (rule_at known late b unsized) d.place None) (same_past (take k ds) bytes registers d.what h.bytes_kept h.registers_kept)))

      next : first (refusals_from 0 p [] ds) ≡ joined (first (refusals_at 0 p (take k ds) d)) (first (refusals_from 0 p (take (k + 1) ds) (drop (k + 1) ds)))
      next =
          sym h.rest ∙ (ap (λ l. first (refusals_from 0 p (take k ds) l)) (at_index ds k d at)
          ∙ (first_append (refusals_at 0 p (take k ds) d) (refusals_from 0 p (take k ds ++ d ∷ []) (drop (k + 1) ds))
          ∙ ap (λ l. joined (first (refusals_at 0 p (take k ds) d)) (first (refusals_from 0 p l (drop (k + 1) ds)))) (sym (front_more ds k d at))))

      -- where it breaks none it is passed
      none_broken : rule_behind t earliest bytes registers d ≡ None → (nat_lt earliest d.place ≡ false) × (is_within d.what ≡ true)
      none_broken e = by_again (looked_up t (number_of d.what)).declared (nat_lt earliest d.place) (passes_some bytes registers d.what) refl e
        where
          within : (w : Bool) → is_within d.what ≡ w → (not w || (is_passed 32768 bytes (shared_bytes d.what) || is_passed 4096 registers (register_count d.what))) ≡ false → is_within d.what ≡ true
          within true z y = z
          within false z y = absurd (cc)

          by_again : (a b c : Bool) → passes_some bytes registers d.what ≡ c → rule_at a b c (not (has_sizes d.what)) ≡ None → (b ≡ false) × (is_within d.what ≡ true)
          by_again true b c z e = absurd (cc)
          by_again false true c z e = absurd (cc)
          by_again false false true z e = absurd (cc)
          by_again false false false z e = (refl, within (is_within d.what) refl z)

      pub passed_on : rule_behind t earliest bytes registers d ≡ None → (more_bytes more_registers : ℕ)
          → more_bytes ≡ min (bytes + shared_bytes d.what) 18446744073709551615 → more_registers ≡ min (registers + register_count d.what) 18446744073709551615
          → Passed (k + 1) more_bytes more_registers (with_thing t d.what)
      passed_on e more_bytes more_registers b r =
          let n = none_broken e in record {
            lists = subst (λ l. Lists l (with_thing t d.what)) (sym (front_more ds k d at)) (lists_more (take k ds) t h.lists d n.1);
            rest = sym (next ∙ ap (λ x. joined x (first (refusals_from 0 p (take (k + 1) ds) (drop (k + 1) ds)))) (here ∙ ap (λ x. or_later x d.place None) e));
            front = λ m f l c. elim (cases_lt m k) [
              | inl s ↦ h.front m f s c
              | inr s ↦
                  let z : Some f ≡ Some d = sym c ∙ (ap (slice_get ds) (omega (arith, s, l)) ∙ at) in
                  let y : d ≡ f = cc in
                  ap (λ x. list_any (λ i. nat_lt i.place x.place) is) (sym y) ∙ (ahead ∙ n.0)
            ];
            bytes_kept =
                subst (λ n. Keeps n more_bytes) (sym (ap (sum_by (λ d. shared_bytes d.what)) (front_more ds k d at) ∙ sum_by_push (λ d. shared_bytes d.what) (take k ds) d))
                (keeps_more (sum_by (λ d. shared_bytes d.what) (take k ds)) bytes (shared_bytes d.what) more_bytes h.bytes_kept b);
            registers_kept =
                subst (λ n. Keeps n more_registers) (sym (ap (sum_by (λ d. register_count d.what)) (front_more ds k d at) ∙ sum_by_push (λ d. register_count d.what) (take k ds) d))
                (keeps_more (sum_by (λ d. register_count d.what) (take k ds)) registers (register_count d.what) more_registers h.registers_kept r);
          }

      -- where it breaks one, that is the first of the declarations
      after_it : (n : ℕ) (e : Declared) → slice_get (drop (k + 1) ds) n ≡ Some e → d.place + 1 ≤ e.place
      after_it n e c = let m = o.declarations.ascend k (k + 1 + n) d e (omega arith) at (sym (get_drop ds (k + 1) n) ∙ c) in omega (arith, m)
        where
          get_drop : (xs : List Declared) (m n : ℕ) → slice_get (drop m xs) n ≡ slice_get xs (m + n)
          get_drop xs zero n = let z : n ≡ zero + n = omega arith in ap (slice_get xs) z
          get_drop [] (suc m) n = refl
          get_drop (x ∷ xs) (suc m) n = let z : suc (m + n) ≡ suc m + n = omega arith in get_drop xs m n ∙ ap (slice_get (x ∷ xs)) z

      from_it : (n : ℕ) (e : Declared) → k ≤ n → slice_get ds n ≡ Some e → d.place ≤ e.place
      from_it n e l c = elim (cases_lt k n) [
        | inl s ↦ let m = o.declarations.ascend k n d e s at c in omega (arith, m)
        | inr s ↦
            let z : Some d ≡ Some e = sym at ∙ (ap (slice_get ds) (omega (arith, s, l)) ∙ c) in
            let y : d ≡ e = cc in
            omega (arith, ap (λ x. x.place) y)
      ]

      pub stops : (rule : Rule) → rule_behind t earliest bytes registers d ≡ Some rule → (s : Refusal)
          → Some s ≡ or_refusal (used_before t d.place is) (refusal rule d.place) → Answer p (Some s)
      stops rule e s u =
          let z : first (refusals_at 0 p (take k ds) d) ≡ Some (refusal rule d.place) = here ∙ ap (λ x. or_later x d.place None) e in
          let six : phase_of (refusal rule d.place) ≡ 6 =
          ((subst (Late 6 d.place) (sym (at_place _ _ _ _ d.place)) (late_rule _ _ _ _ d.place d.place (omega arith))).each (refusal rule d.place) z).0 in
          let all : first (refusals_from 0 p [] ds) ≡ Some (refusal rule d.place) =
          next ∙ (ap (λ x. joined x (first (refusals_from 0 p (take (k + 1) ds) (drop (k + 1) ds)))) z
          ∙ first_wins 6 (refusal rule d.place) (first (refusals_from 0 p (take (k + 1) ds) (drop (k + 1) ds))) (omega arith) six (late_declarations p (d.place + 1) (take (k + 1) ds) (drop (k + 1) ds) after_it)) in
          let there : found_there ≡ Some (refusal rule d.place) =
          first_append (refusals_from 0 p [] ds) (broken (not (list_any (λ d. declares_group d.what) ds)) L4 p.words)
          ∙ (ap (λ x. joined x (first (broken (not (list_any (λ d. declares_group d.what) ds)) L4 p.words))) all
          ∙ first_wins 6 (refusal rule d.place) (first (broken (not (list_any (λ d. declares_group d.what) ds)) L4 p.words)) (omega arith) six
          (missing (not (list_any (λ d. declares_group d.what) ds)) (o.declarations.inside k d at))) in
          closing (refusal rule d.place) t there six (λ n i c y. o.apart k n d i at c (sym y)) (found d.place from_it) s u
        where
          missing : (b : Bool) → d.place < p.words → Late 6 (d.place + 1) (first (broken b L4 p.words))
          missing true l = record { each = λ q h. let k : refusal L4 p.words ≡ q = cc in (sym (ap phase_of k), omega (arith, l, ap (λ x. x.place) k)) }
          missing false l = late_none 6 (d.place + 1)

    -- all declarations are passed
    module _ (all : length ds ≤ k) where
      no_more : (n : ℕ) (d : Declared) → k ≤ n → slice_get ds n ≡ Some d → p.words ≤ d.place
      no_more n d l c = absurd (omega (arith, l, all, slice_get_within ds n d c))

      every_one : (b : Bool) → (looked_up t 4372).declared ≡ b → list_any (λ d. declares_group d.what) ds ≡ b
      every_one b e =
          sym (ap (list_any (λ d. declares_group d.what)) (take_all k ds all))
          ∙ (same_group (take k ds) ∙ (sym (again (take k ds) t h.lists (Group 0 0 0)) ∙ e))
        where
          group_thing : (what : Declaration) → declares_group what ≡ same_thing what (Group 0 0 0)
          group_thing (Group x y z) = refl
          group_thing what = refl

          same_group : (xs : List Declared) → list_any (λ d. declares_group d.what) xs ≡ list_any (λ e. same_thing e.what (Group 0 0 0)) xs
          same_group [] = refl
          same_group (d ∷ xs) = ap (λ b. b || list_any (λ d. declares_group d.what) xs) (group_thing d.what) ∙ ap (λ b. same_thing d.what (Group 0 0 0) || b) (same_group xs)

      no_declaration : first (refusals_from 0 p [] ds) ≡ None
      no_declaration = sym h.rest ∙ ap (λ l. first (refusals_from 0 p (take k ds) l)) (drop_all k ds all)

      there_is : (b : Bool) → (looked_up t 4372).declared ≡ b → found_there ≡ first (broken (not b) L4 p.words)
      there_is b e =
          first_append (refusals_from 0 p [] ds) (broken (not (list_any (λ d. declares_group d.what) ds)) L4 p.words)
          ∙ (ap (λ x. joined x (first (broken (not (list_any (λ d. declares_group d.what) ds)) L4 p.words))) no_declaration
          ∙ ap (λ b. first (broken (not b) L4 p.words)) (every_one b e))

      pub without_group : (looked_up t 4372).declared ≡ false → (s : Refusal) → Some s ≡ or_refusal (used_before t p.words is) (refusal L4 p.words) → Answer p (Some s)
      without_group e s u =
          closing (refusal L4 p.words) t (there_is false e) refl (λ n i c y. let m = o.instructions.inside n i c in omega (arith, m, y)) (found p.words no_more) s u

      pub with_group : (looked_up t 4372).declared ≡ true → Answer p (used_before t p.words is)
      with_group e = by_used (used_before t p.words is) refl (found p.words no_more)
        where
          none_there : first (thing_refusals p) ≡ first (flat_map (broken_by ds) is)
          none_there = whole ∙ ap (λ x. joined x (first (flat_map (broken_by ds) is))) (there_is true e)

          nothing : (x : Option Refusal) → first (flat_map (broken_by ds) is) ≡ x → Late 6 p.words (first (flat_map (broken_by ds) is)) → None ≡ x
          nothing None k l = refl
          nothing (Some q) k l = absurd (outside (uses_stand ds is q k) (l.each q k).1)
            where
              outside : StandsAt ds is q.place → p.words ≤ q.place → ⊥
              outside (At n i y w) m = let z = o.instructions.inside n i y in omega (arith, z, w, m)

          by_used : (u : Option Refusal) → used_before t p.words is ≡ u → Found ds p.words is (used_before t p.words is) → Answer p (used_before t p.words is)
          by_used (Some q) k f =
              let g = f.some q k in
              record { first = k ∙ sym (none_there ∙ g.0); phase = ap is_of_declarations k ∙ is_six q g.1 }
          by_used None k f =
              record { first = k ∙ (nothing (first (flat_map (broken_by ds) is)) refl (f.none k) ∙ sym none_there); phase = ap is_of_declarations k }

  pub none_passed : (t : Things) → t ≡ record { entries = replicate 4374 nothing; temps = 0 } → Passed 0 0 0 t
  none_passed t e = record {
    lists = subst (Lists []) (sym e) lists_none;
    rest = refl;
    front = λ n d l c. absurd (omega (arith, l));
    bytes_kept = inl refl;
    registers_kept = inl refl;
  }

-- where the first instruction stands, what stands before a place is told by it
pub told_by_first : (words : ℕ) (is : List Instruction) (i : Instruction) → AreInOrder (λ i. i.place) words is → slice_get is 0 ≡ Some i
    → (place : ℕ) → list_any (λ j. nat_lt j.place place) is ≡ nat_lt i.place place
told_by_first words [] i o e place = absurd (cc)
told_by_first words (j ∷ is) i o e place =
    let k : j ≡ i = cc in
    by_test (nat_lt j.place place) refl (none_before is (λ n x h. o.ascend 0 (suc n) j x (omega arith) refl h)) ∙ ap (λ x. nat_lt x.place place) k
  where
    none_before : (xs : List Instruction) → ((n : ℕ) (x : Instruction) → slice_get xs n ≡ Some x → j.place < x.place) → nat_lt j.place place ≡ false → list_any (λ x. nat_lt x.place place) xs ≡ false
    none_before [] h l = refl
    none_before (x ∷ xs) h l =
        let b : nat_lt x.place place ≡ false = grind (arith, nat_tests, h 0 x refl, l) in
        ap (λ b. b || list_any (λ x. nat_lt x.place place) xs) b ∙ none_before xs (λ n y k. h (suc n) y k) l

    by_test : (b : Bool) → nat_lt j.place place ≡ b → (nat_lt j.place place ≡ false → list_any (λ x. nat_lt x.place place) is ≡ false) → (b || list_any (λ x. nat_lt x.place place) is) ≡ nat_lt j.place place
    by_test true l f = sym l
    by_test false l f = f l ∙ sym l
