-- What follows where no rule is broken: what is declared, and what is used.
use Rattle.std.proofs.Common.{◌≡◌, ℕ, zero, suc, ◌+◌, ◌<◌, ◌≤◌, List, [], ◌∷◌, ◌++◌, length, take, Bool, true, false, not, ◌||◌, ◌&&◌, if◌then◌else◌, Some, None, refl, sym, ap, ◌∙◌, subst, arith, append_assoc}
use Rattle.std.specs.Prelude.{slice_get, flat_map, nat_lt, nat_le}
use Rattle.std.specs.List.{list_any, sum_by}
use Rattle.std.proofs.lemmas.Bool.Decides.{nat_tests}
use Rattle.std.proofs.lemmas.List.{append-nil, take_all}
use Rattle.std.proofs.lemmas.List.Sums.{sum_by_push}
use Rattle.word_base.specs.declared.rule.Refusal.{Refusal}
use Rattle.word_base.specs.declared.rule.Rule.{Rule}
use Rattle.word_base.specs.declared.rule.Rule.TheVariants.{L1, L2, L3, L4, L5, L6, L7, L8}
use Rattle.word_base.specs.Rules.{broken, first}
use Rattle.tpf_decode.specs.Profiles.{Base}
use Rattle.tpf_decode.specs.Opcodes.{meaning_of}
use Rattle.tpf_decode.specs.declared.meaning.Meaning.{Meaning}
use Rattle.tpf_program.specs.declared.declaration.Declaration.{Declaration}
use Rattle.tpf_program.specs.declared.declaration.Declared.{Declared}
use Rattle.tpf_program.specs.declared.instruction.Instruction.{Instruction}
use Rattle.tpf_program.specs.Declarations.{same_thing, is_within, is_past_limit, has_sizes, first_past, shared_bytes, register_count, declares_group, refusals_at, refusals_from, declaration_refusals}
use Rattle.tpf_program.specs.Nesting.{nesting_refusals}
use Rattle.tpf_program.specs.Program.{Shader}
use Rattle.tpf_program.specs.Uses.{Use, is_missing, is_past, is_other_view, refusals_by, up_to, uses, use_refusals}
use Rattle.shader_check.specs.Checked.{IsChecked}
use Rattle.shader_check.specs.Facts.{AreDeclared, AreUsed}
use Rattle.shader_check.proofs.FirstThings.{any_false}
use Rattle.shader_check.proofs.Walk.{front_more, in_front}

pub none_first : (xs : List Refusal) → first xs ≡ None → xs ≡ []
none_first [] h = refl
none_first (x ∷ xs) h = absurd (cc)

-- LISTS without refusals
pub both_none : {X : Type 0} (xs ys : List X) → (xs ++ ys) ≡ [] → (xs ≡ []) × (ys ≡ [])
both_none [] ys h = (refl, h)
both_none (x ∷ xs) ys h = absurd (cc)

pub not_broken : (b : Bool) (rule : Rule) (place : ℕ) → broken b rule place ≡ [] → b ≡ false
not_broken true rule place h = absurd (cc)
not_broken false rule place h = refl

not_true : (b : Bool) → not b ≡ false → b ≡ true
not_true true h = refl
not_true false h = absurd (cc)

or_false : (a b : Bool) → (a || b) ≡ false → (a ≡ false) × (b ≡ false)
or_false true b h = absurd (cc)
or_false false b h = (refl, h)

each_none : {X Y : Type 0} (f : X → List Y) (xs : List X) → flat_map f xs ≡ [] → (n : ℕ) (x : X) → slice_get xs n ≡ Some x → f x ≡ []
each_none f [] h n x e = absurd (cc)
each_none f (y ∷ xs) h zero x e = let k : y ≡ x = cc in ap f (sym k) ∙ (both_none (f y) (flat_map f xs) h).0
each_none f (y ∷ xs) h (suc n) x e = each_none f xs (both_none (f y) (flat_map f xs) h).1 n x e

module _ (p : Shader) where
  -- DECLARATIONS
  at_each : (before ds : List Declared) → refusals_from 0 p before ds ≡ [] → (n : ℕ) (d : Declared) → slice_get ds n ≡ Some d → refusals_at 0 p (before ++ take n ds) d ≡ []
  at_each before [] h n d e = absurd (cc)
  at_each before (f ∷ ds) h zero d e =
      let k : f ≡ d = cc in
      ap (λ l. refusals_at 0 p l d) (append-nil before) ∙ (ap (refusals_at 0 p before) (sym k) ∙ (both_none (refusals_at 0 p before f) (refusals_from 0 p (before ++ f ∷ []) ds) h).0)
  at_each before (f ∷ ds) h (suc n) d e =
      ap (λ l. refusals_at 0 p l d) (sym (append_assoc before (f ∷ []) (take n ds)))
      ∙ at_each (before ++ f ∷ []) ds (both_none (refusals_at 0 p before f) (refusals_from 0 p (before ++ f ∷ []) ds) h).1 n d e

  pub record IsSoundAt (before : List Declared) (d : Declared) : Type 0 where
    pub new : list_any (λ e. same_thing e.what d.what) before ≡ false
    pub early : list_any (λ i. nat_lt i.place d.place) p.instructions ≡ false
    pub limited : is_past_limit 0 before d.what ≡ false
    pub sized : has_sizes d.what ≡ true

  sound_at : (before : List Declared) (d : Declared) → refusals_at 0 p before d ≡ [] → IsSoundAt before d
  sound_at before d h =
      let a = broken (list_any (λ e. same_thing e.what d.what) before) L1 d.place in
      let b = broken (list_any (λ i. nat_lt i.place d.place) p.instructions) L2 d.place in
      let c = broken (is_past_limit 0 before d.what) L3 d.place in
      let e = broken (not (has_sizes d.what)) L7 d.place in
      let k = both_none (a ++ b ++ c) e h in
      let l = both_none (a ++ b) c k.0 in
      let m = both_none a b l.0 in
      record {
        new = not_broken _ L1 d.place m.0;
        early = not_broken _ L2 d.place m.1;
        limited = not_broken _ L3 d.place l.1;
        sized = not_true (has_sizes d.what) (not_broken _ L7 d.place k.1);
      }

  module _ (sound : IsChecked p) where
    abbrev ds : List Declared
    ds = p.declarations

    parts : (declaration_refusals 0 p ≡ []) × (use_refusals Base p ≡ []) × (nesting_refusals Base p ≡ [])
    parts =
        let k = both_none (declaration_refusals 0 p) (use_refusals Base p ++ nesting_refusals Base p) sound in
        let l = both_none (use_refusals Base p) (nesting_refusals Base p) k.1 in (k.0, l.0, l.1)

    pub structure : nesting_refusals Base p ≡ []
    structure = parts.2

    declared : (refusals_from 0 p [] ds ≡ []) × (broken (not (list_any (λ d. declares_group d.what) ds)) L4 p.words ≡ [])
    declared = both_none (refusals_from 0 p [] ds) (broken (not (list_any (λ d. declares_group d.what) ds)) L4 p.words) parts.0

    each : (n : ℕ) (d : Declared) → slice_get ds n ≡ Some d → IsSoundAt (take n ds) d
    each n d e = sound_at (take n ds) d (at_each [] ds declared.0 n d e)

    limits : (before : List Declared) (what : Declaration) → is_past_limit 0 before what ≡ false
        → (is_within what ≡ true) × (first_past 32768 0 shared_bytes before what ≡ false) × (first_past 4096 0 register_count before what ≡ false)
    limits before what h =
        let k = or_false (not (is_within what)) (first_past 32768 0 shared_bytes before what || first_past 4096 0 register_count before what) h in
        let l = or_false (first_past 32768 0 shared_bytes before what) (first_past 4096 0 register_count before what) k.1 in
        (not_true (is_within what) k.0, l.0, l.1)

    one_more : (limit s m : ℕ) → s ≤ limit → (nat_le (0 + s) limit && nat_lt limit (0 + s + m)) ≡ false → s + m ≤ limit
    one_more limit s m l h = grind (arith, nat_tests, l, h)

    get : (xs : List Declared) (n : ℕ) → n < length xs → (d : Declared) × (slice_get xs n ≡ Some d)
    get [] n l = absurd (omega (arith, l))
    get (d ∷ xs) zero l = (d, refl)
    get (d ∷ xs) (suc n) l = get xs n (omega (arith, l))

    sums : (limit : ℕ) (measure : Declaration → ℕ) → ((n : ℕ) (d : Declared) → slice_get ds n ≡ Some d → first_past limit 0 measure (take n ds) d.what ≡ false)
        → (n : ℕ) → n ≤ length ds → sum_by (λ d. measure d.what) (take n ds) ≤ limit
    sums limit measure f zero l = omega arith
    sums limit measure f (suc n) l =
        let g = get ds n (omega (arith, l)) in
        let k = one_more limit (sum_by (λ d. measure d.what) (take n ds)) (measure g.0.what) (sums limit measure f n (omega (arith, l))) (f n g.0 g.1) in
        let z : suc n ≡ n + 1 = omega arith in
        let e : sum_by (λ d. measure d.what) (take (suc n) ds) ≡ sum_by (λ d. measure d.what) (take n ds) + measure g.0.what =
        ap (λ n. sum_by (λ d. measure d.what) (take n ds)) z ∙ (ap (sum_by (λ d. measure d.what)) (front_more ds n g.0 g.1) ∙ sum_by_push (λ d. measure d.what) (take n ds) g.0) in
        omega (arith, e, k)

    whole_sum : (limit : ℕ) (measure : Declaration → ℕ) → ((n : ℕ) (d : Declared) → slice_get ds n ≡ Some d → first_past limit 0 measure (take n ds) d.what ≡ false)
        → sum_by (λ d. measure d.what) ds ≤ limit
    whole_sum limit measure f =
        subst (λ l. sum_by (λ d. measure d.what) l ≤ limit) (take_all (length ds) ds (omega arith)) (sums limit measure f (length ds) (omega arith))

    front_of : (m n : ℕ) (d : Declared) (i : Instruction) → slice_get ds m ≡ Some d → slice_get p.instructions n ≡ Some i → d.place ≤ i.place
    front_of m n d i e k = let z = any_false (λ j. nat_lt j.place d.place) p.instructions n i (each m d e).early k in grind (arith, nat_tests, z)

    pub are_declared : AreDeclared p
    are_declared = record {
      group = not_true (list_any (λ d. declares_group d.what) ds) (not_broken _ L4 p.words declared.1);
      once = λ m n d e l h k. any_false (λ x. same_thing x.what e.what) (take n ds) m d (each n e k).new (in_front ds n m d l h);
      in_front = front_of;
      within = λ n d e. (limits (take n ds) d.what (each n d e).limited).0;
      sized = λ n d e. (each n d e).sized;
      shared = whole_sum 32768 shared_bytes (λ n d e. (limits (take n ds) d.what (each n d e).limited).1);
      registers = whole_sum 4096 register_count (λ n d e. (limits (take n ds) d.what (each n d e).limited).2);
    }

    -- USES: an instruction sees all declarations
    up_all : (place : ℕ) (xs : List Declared) → ((n : ℕ) (d : Declared) → slice_get xs n ≡ Some d → d.place ≤ place) → up_to place xs ≡ xs
    up_all place [] h = refl
    up_all place (d ∷ xs) h =
        let b : nat_le d.place place ≡ true = grind (arith, nat_tests, h 0 d refl) in
        ap (λ b. if b then d ∷ up_to place xs else up_to place xs) b ∙ ap (λ l. d ∷ l) (up_all place xs (λ n e k. h (suc n) e k))

    pub are_used : AreUsed p
    are_used = record { each = λ n i m k u at e there. by_meaning n i m k u at e there }
      where
        by_meaning : (n : ℕ) (i : Instruction) (m : Meaning) (k : ℕ) (u : Use) → slice_get p.instructions n ≡ Some i → meaning_of Base i.code ≡ Some m → slice_get (uses m i) k ≡ Some u
            → (is_missing ds u ≡ false) × (is_past ds u ≡ false) × (is_other_view p.typed ds m u ≡ false)
        by_meaning n i m k u at e there =
            let z : refusals_by p.typed ds (Some m) i ≡ [] =
            ap (λ x. refusals_by p.typed ds x i) (sym e) ∙ (ap (λ l. refusals_by p.typed l (meaning_of Base i.code) i) (sym (up_all i.place ds (λ x d y. front_of x n d i y at)))
            ∙ each_none (λ i. refusals_by p.typed (up_to i.place ds) (meaning_of Base i.code) i) p.instructions parts.1 n i at) in
            let us = uses m i in
            let a = broken (list_any (is_missing ds) us) L5 i.place in
            let b = broken (list_any (is_past ds) us) L6 i.place in
            let c = broken (list_any (is_other_view p.typed ds m) us) L8 i.place in
            let x = both_none (a ++ b) c z in
            let y = both_none a b x.0 in (
              any_false (is_missing ds) us k u (not_broken _ L5 i.place y.0) there,
              any_false (is_past ds) us k u (not_broken _ L6 i.place y.1) there,
              any_false (is_other_view p.typed ds m) us k u (not_broken _ L8 i.place x.1) there,
            )
