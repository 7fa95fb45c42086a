-- What a record breaks, and that what stands behind it comes later.
use Rattle.std.proofs.Common.{◌≡◌, ℕ, ◌+◌, ◌*◌, ◌<◌, ◌≤◌, ◌⊎◌, inl, inr, ⊎_elim, Bool, true, false, min, List, ◌++◌, length, Option, Some, None, refl, sym, subst, arith}
use Rattle.std.specs.Prelude.{Contains, ◌&&◌, not, nat_lt}
use Rattle.std.proofs.lemmas.Bool.Decides.{nat_tests}
use Rattle.std.proofs.lemmas.List.Elements.{Contains-append_left, Contains-append_right, Contains-append_cases}
use Rattle.word_base.specs.declared.rule.Rule.{Rule}
use Rattle.word_base.specs.declared.rule.Rule.TheVariants.{G2, G3}
use Rattle.word_base.specs.declared.rule.Refusal.{Refusal}
use Rattle.word_base.specs.Rules.{Order, key_by, is_below, order_of, comes_before, refusal, broken}
use Rattle.root_signature.specs.Layout.{word, words_from, is_whole}
use Rattle.root_signature.specs.Refusals.{missing, unknown}
use Rattle.root_signature.specs.Bests.{IsBest}
use Rattle.root_signature.proofs.Bests.{itself, none_in, the_one, one_in, is_best, best_one}

later_by : (o p : Order) (a b : ℕ) → o.phase ≡ 9 → p.phase ≡ 9 → (a < b) ⊎ ((a ≡ b) × (o.number ≤ p.number)) → is_below (key_by p b) (key_by o a) ≡ false
later_by o p a b h k w = grind (arith, nat_tests)

-- a refusal at a later place, or at the same one with no lower number
pub later : (r q : Refusal) → (order_of r.rule).phase ≡ 9 → (order_of q.rule).phase ≡ 9
    → (r.place < q.place) ⊎ ((r.place ≡ q.place) × ((order_of r.rule).number ≤ (order_of q.rule).number)) → comes_before q r ≡ false
later r q h k w = later_by (order_of r.rule) (order_of q.rule) r.place q.place h k w

pub broken_in : (t : Bool) (rule : Rule) (place : ℕ) (q : Refusal) → Contains (broken t rule place) q → (t ≡ true) × (q ≡ refusal rule place)
broken_in true rule place q h = (refl, sym (the_one (refusal rule place) q h))
broken_in false rule place q h = absurd (none_in q h)

pub is_broken_there : (t : Bool) (rule : Rule) (place : ℕ) → t ≡ true → Contains (broken t rule place) (refusal rule place)
is_broken_there true rule place e = one_in (refusal rule place)
is_broken_there false rule place e = absurd cc

-- a word that is missing in a record, and a type that is unknown
pub record Lacks (content : List ℕ) (at words : ℕ) (q : Refusal) : Type 0 where
  pub few : words_from content at < words
  pub refused : q ≡ refusal G2 (min (at + 4 * words_from content at) 4294967295)

pub record Unknown (content : List ℕ) (at last : ℕ) (q : Refusal) : Type 0 where
  pub there : 0 < words_from content at
  pub above : last < word content at
  pub refused : q ≡ refusal G3 at

pub in_missing : (content : List ℕ) (at words : ℕ) (q : Refusal) → Contains (missing content at words) q → Lacks content at words q
in_missing content at words q h = record { few = few_of (e.0); refused = e.1 } where
  e : (not (is_whole content at words) ≡ true) × (q ≡ refusal G2 (min (at + 4 * words_from content at) 4294967295))
  e = broken_in (not (is_whole content at words)) G2 (min (at + 4 * words_from content at) 4294967295) q h

  few_of : not (is_whole content at words) ≡ true → words_from content at < words
  few_of e = grind (arith, nat_tests)

pub in_unknown : (content : List ℕ) (at last : ℕ) (q : Refusal) → Contains (unknown content at last) q → Unknown content at last q
in_unknown content at last q h = record { there = there_of e.0; above = above_of e.0; refused = e.1 } where
  e : ((is_whole content at 1 && nat_lt last (word content at)) ≡ true) × (q ≡ refusal G3 at)
  e = broken_in (is_whole content at 1 && nat_lt last (word content at)) G3 at q h

  there_of : (is_whole content at 1 && nat_lt last (word content at)) ≡ true → 0 < words_from content at
  there_of e = grind (arith, nat_tests)

  above_of : (is_whole content at 1 && nat_lt last (word content at)) ≡ true → last < word content at
  above_of e = grind (arith, nat_tests)

abbrev pub record_list : List ℕ → ℕ → ℕ → ℕ → List Refusal
record_list content at words last = missing content at words ++ unknown content at last

pub in_record : (content : List ℕ) (at words last : ℕ) (q : Refusal) → Contains (record_list content at words last) q → Lacks content at words q ⊎ Unknown content at last q
in_record content at words last q h = ⊎_elim (λ m. inl (in_missing content at words q m)) (λ m. inr (in_unknown content at last q m))
    (Contains-append_cases (missing content at words) (unknown content at last) q h)

-- where a record ends that has a word
pub words_fit : (content : List ℕ) (at : ℕ) → 0 < words_from content at → at + 4 * words_from content at ≤ length content
unfolding words_from
words_fit content at h = omega arith

pub nothing_broken : (content : List ℕ) (at words last : ℕ) → words ≤ words_from content at → word content at ≤ last → (q : Refusal) → Contains (record_list content at words last) q → ⊥
nothing_broken content at words last w l q h = ⊎_elim
    (λ (m : Lacks content at words q). absurd (omega (arith, m.few)))
    (λ (m : Unknown content at last q). absurd (omega (arith, m.above))) (in_record content at words last q h)

-- a type that is unknown stands before a word that is missing
pub type_first : (content : List ℕ) (at words last : ℕ) → length content ≤ 16777216 → 0 < words_from content at → last < word content at
    → IsBest (Contains (record_list content at words last)) (Some (refusal G3 at))
type_first content at words last small h l =
    is_best (Contains (record_list content at words last)) (Some (refusal G3 at)) refl
    (λ r e. subst (Contains (record_list content at words last)) (same e) (Contains-append_right (missing content at words) (unknown content at last) (refusal G3 at) there))
    (λ q m. ⊎_elim (λ (w : Lacks content at words q). subst (λ x. comes_before x (refusal G3 at) ≡ false) (sym w.refused) before)
    (λ (w : Unknown content at last q). subst (λ x. comes_before x (refusal G3 at) ≡ false) (sym w.refused) itself)
    (in_record content at words last q m)) where
      same : {r : Refusal} → Some (refusal G3 at) ≡ Some r → refusal G3 at ≡ r
      same {r} e = cc

      test : (is_whole content at 1 && nat_lt last (word content at)) ≡ true
      test = grind (arith, nat_tests)

      there : Contains (unknown content at last) (refusal G3 at)
      there = is_broken_there (is_whole content at 1 && nat_lt last (word content at)) G3 at test

      itself : comes_before (refusal G3 at) (refusal G3 at) ≡ false
      itself = later (refusal G3 at) (refusal G3 at) refl refl (inr (refl, omega arith))

      before : comes_before (refusal G2 (min (at + 4 * words_from content at) 4294967295)) (refusal G3 at) ≡ false
      before = later (refusal G3 at) (refusal G2 (min (at + 4 * words_from content at) 4294967295)) refl refl (inl (omega (arith, words_fit content at h)))

abbrev lacking : List ℕ → ℕ → Refusal
lacking content at = refusal G2 (min (at + 4 * words_from content at) 4294967295)

-- a word that is missing, where no type is unknown
pub missing_first : (content : List ℕ) (at words last : ℕ) → words_from content at < words → (0 < words_from content at → word content at ≤ last)
    → IsBest (Contains (record_list content at words last)) (Some (lacking content at))
missing_first content at words last few known =
    is_best (Contains (record_list content at words last)) (Some (lacking content at)) refl
    (λ r e. subst (Contains (record_list content at words last)) (same e) (Contains-append_left (missing content at words) (unknown content at last) (lacking content at) there))
    (λ q m. ⊎_elim (λ (w : Lacks content at words q). subst (λ x. comes_before x (lacking content at) ≡ false) (sym w.refused) (itself (lacking content at)))
    (λ (w : Unknown content at last q). absurd (omega (arith, known w.there, w.above)))
    (in_record content at words last q m)) where
      same : {r : Refusal} → Some (lacking content at) ≡ Some r → (lacking content at) ≡ r
      same {r} e = cc

      test : not (is_whole content at words) ≡ true
      test = grind (arith, nat_tests)

      there : Contains (missing content at words) (lacking content at)
      there = is_broken_there (not (is_whole content at words)) G2 (min (at + 4 * words_from content at) 4294967295) test

-- What a record breaks comes before what a record behind it breaks.
pub behind : (content : List ℕ) (at words last next more limit : ℕ) → length content ≤ 16777216 → at + 4 * words ≤ next → 0 < words
    → (r q : Refusal) → Contains (record_list content at words last) r → Contains (record_list content next more limit) q → comes_before q r ≡ false
behind content at words last next more limit small far some r q m n =
    ⊎_elim
    (λ (v : Lacks content at words r). ⊎_elim
    (λ (w : Lacks content next more q). subst2 v.refused w.refused (later (refusal G2 (min (at + 4 * words_from content at) 4294967295)) (refusal G2 (min (next + 4 * words_from content next) 4294967295)) refl refl (lacks_lacks v.few)))
    (λ (w : Unknown content next limit q). subst2 v.refused w.refused (later (refusal G2 (min (at + 4 * words_from content at) 4294967295)) (refusal G3 next) refl refl (lacks_unknown v.few w.there)))
    (in_record content next more limit q n))
    (λ (v : Unknown content at last r). ⊎_elim
    (λ (w : Lacks content next more q). subst2 v.refused w.refused (later (refusal G3 at) (refusal G2 (min (next + 4 * words_from content next) 4294967295)) refl refl (unknown_lacks v.there)))
    (λ (w : Unknown content next limit q). subst2 v.refused w.refused (later (refusal G3 at) (refusal G3 next) refl refl (inl (omega arith))))
    (in_record content next more limit q n))
    (in_record content at words last r m) where
      subst2 : {a b : Refusal} → r ≡ a → q ≡ b → comes_before b a ≡ false → comes_before q r ≡ false
      subst2 {a} {b} e f h = subst (λ x. comes_before q x ≡ false) (sym e) (subst (λ x. comes_before x a ≡ false) (sym f) h)

      lacks_lacks : words_from content at < words → (min (at + 4 * words_from content at) 4294967295 < min (next + 4 * words_from content next) 4294967295)
          ⊎ ((min (at + 4 * words_from content at) 4294967295 ≡ min (next + 4 * words_from content next) 4294967295) × (2 ≤ 2))
      lacks_lacks f = grind arith

      lacks_unknown : words_from content at < words → 0 < words_from content next → (min (at + 4 * words_from content at) 4294967295 < next)
          ⊎ ((min (at + 4 * words_from content at) 4294967295 ≡ next) × (2 ≤ 3))
      lacks_unknown f t = grind (arith, words_fit content next t)

      unknown_lacks : 0 < words_from content at → (at < min (next + 4 * words_from content next) 4294967295) ⊎ ((at ≡ min (next + 4 * words_from content next) 4294967295) × (3 ≤ 2))
      unknown_lacks t = inl (omega (arith, words_fit content at t))

pub best_broken : (t : Bool) (rule : Rule) (place : ℕ) (best : Option Refusal) → (order_of rule).phase ≡ 9 → (t ≡ true → best ≡ Some (refusal rule place))
    → (t ≡ false → best ≡ None) → IsBest (Contains (broken t rule place)) best
best_broken true rule place best n h k = subst (IsBest (Contains (broken true rule place))) (sym (h refl)) (best_one (refusal rule place) n)
best_broken false rule place best n h k = subst (IsBest (Contains (broken false rule place))) (sym (k refl)) (λ q m. none_in q m)
