-- The rules on declarations and uses come before those on structure.
use Rattle.std.proofs.Common.{◌≡◌, true, Option, Some, None, refl, sym, ap, ◌∙◌, arith, append_assoc}
use Rattle.word_base.proofs.Truths.{equal_numbers}
use Rattle.word_base.specs.declared.rule.Refusal.{Refusal}
use Rattle.word_base.specs.Rules.{first}
use Rattle.tpf_decode.specs.Profiles.{Base}
use Rattle.tpf_program.specs.Declarations.{declaration_refusals}
use Rattle.tpf_program.specs.Nesting.{nesting_refusals}
use Rattle.tpf_program.specs.Program.{Shader}
use Rattle.tpf_program.specs.Uses.{use_refusals}
use Rattle.shader_check.specs.Checked.{checked_refusals}
use Rattle.shader_check.specs.FirstRefusals.{is_of_declarations, thing_refusals}
use Rattle.shader_check.proofs.Least.{first_append, joined}
use Rattle.shader_check.proofs.NestedWalks.{late_nesting}
use Rattle.shader_check.proofs.Orders.{phase_of, Late, later_phase, stays}

module _ (p : Shader) where
  both : first (checked_refusals p) ≡ joined (first (thing_refusals p)) (first (nesting_refusals Base p))
  both = ap first (sym (append_assoc (declaration_refusals 0 p) (use_refusals Base p) (nesting_refusals Base p))) ∙ first_append (thing_refusals p) (nesting_refusals Base p)

  pub things_first : (r : Refusal) → Some r ≡ first (thing_refusals p) → is_of_declarations (Some r) ≡ true → Some r ≡ first (checked_refusals p)
  things_first r h k = sym (both ∙ (ap (λ o. joined o (first (nesting_refusals Base p))) (sym h) ∙ by_later (first (nesting_refusals Base p)) (late_nesting p)))
    where
      six : phase_of r ≡ 6
      six = equal_numbers (phase_of r) 6 k

      by_later : (o : Option Refusal) → Late 7 0 o → joined (Some r) o ≡ Some r
      by_later None l = refl
      by_later (Some q) l = stays r q (later_phase r q (omega (arith, six)) (omega (arith, six, (l.each q refl).0)))

  pub structure_later : None ≡ first (thing_refusals p) → first (nesting_refusals Base p) ≡ first (checked_refusals p)
  structure_later h = sym (both ∙ ap (λ o. joined o (first (nesting_refusals Base p))) (sym h))
