-- The rules that are broken by what is used, one use after the other.
use Rattle.std.proofs.Common.{◌≡◌, List, [], ◌∷◌, ◌++◌, Bool, true, false, ◌||◌, ap, refl, sym, ◌∙◌}
use Rattle.std.proofs.lemmas.List.Folds.{list_any-append}
use Rattle.tpf_decode.specs.declared.meaning.Meaning.{Meaning}
use Rattle.tpf_program.specs.Uses.{Use}
use Rattle.shader_check.specs.declared.things.Things.{Things}
use Rattle.shader_check.specs.declared.things.Faults.{Faults}
use Rattle.shader_check.specs.Things.{fault_at, faults_of, both_faults, is_absent, is_behind, is_other}

abbrev a_fault : Bool → Bool → Bool → Faults
a_fault a b c = record { missing = a; past = b; other = c }

same_faults : (a b c x y z : Bool) → a ≡ x → b ≡ y → c ≡ z → a_fault a b c ≡ a_fault x y z
same_faults a b c x y z p q r = ap (λ t. a_fault t b c) p ∙ (ap (λ t. a_fault x t c) q ∙ ap (λ t. a_fault x y t) r)

or_none : (a : Bool) → (a || false) ≡ a
or_none true = refl
or_none false = refl

module _ (t : Things) (meaning : Meaning) where
  pub one_fault : (u : Use) → fault_at t meaning u ≡ faults_of t meaning (u ∷ [])
  one_fault u = sym (same_faults _ _ _ _ _ _ (or_none (is_absent t u)) (or_none (is_behind t u)) (or_none (is_other t meaning u)))

  pub two_faults : (u v : Use) → both_faults (fault_at t meaning u) (fault_at t meaning v) ≡ faults_of t meaning (u ∷ v ∷ [])
  two_faults u v =
      sym (same_faults _ _ _ _ _ _ (ap (λ b. is_absent t u || b) (or_none (is_absent t v)))
      (ap (λ b. is_behind t u || b) (or_none (is_behind t v))) (ap (λ b. is_other t meaning u || b) (or_none (is_other t meaning v))))

  pub more_faults : (us vs : List Use) → both_faults (faults_of t meaning us) (faults_of t meaning vs) ≡ faults_of t meaning (us ++ vs)
  more_faults us vs =
      sym (same_faults _ _ _ _ _ _ (list_any-append (is_absent t) us vs) (list_any-append (is_behind t) us vs) (list_any-append (is_other t meaning) us vs))
