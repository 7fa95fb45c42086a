-- A case has at least three words.
use Rattle.std.proofs.Common.{◌≡◌, ℕ, ◌*◌, ◌≤◌, Bool, true, false, List, [], ◌∷◌, ◌++◌, length, Option, Some, None, refl, ap, ◌∙◌, subst, arith, length-append}
use Rattle.std.specs.Prelude.{if◌then◌else◌, option_map}
use Rattle.std.proofs.lemmas.List.Sums.{sum_by-cons}
use Rattle.tpf_decode.specs.Profiles.{Base}
use Rattle.tpf_decode.specs.Declarations.{layout_of, roles_at, roles_by}
use Rattle.tpf_decode.specs.Opcodes.{form_of, form_of_meaning, meaning_of}
use Rattle.tpf_decode.specs.Roles.{is_immediate}
use Rattle.tpf_decode.specs.Tokens.{Literal, fixed_of}
use Rattle.tpf_decode.specs.Spelling.{SpellsFixed, SpellsOperands}
use Rattle.tpf_decode.specs.declared.argument.Argument.{Argument}
use Rattle.tpf_decode.specs.declared.argument.Kind.{Kind}
use Rattle.tpf_decode.specs.declared.argument.Kind.TheVariants.{Immediate}
use Rattle.tpf_decode.specs.declared.argument.Role.TheVariants as role
use Rattle.tpf_decode.specs.declared.meaning.Meaning.{Meaning}
use Rattle.tpf_decode.specs.declared.meaning.Meaning.TheVariants.{Case}
use Rattle.tpf_program.specs.declared.instruction.Instruction.{Instruction}
use Rattle.tpf_program.specs.Cases.{is_any_case}
use Rattle.tpf_program.specs.Ends.{has, means, count}
use Rattle.tpf_program.specs.Spelling.{arguments, Item, Declares, Types, Does, Lists, Skips, SpellsInstruction, SpellsItem, instructions_in}

literal_words : (four : Bool) (slot x y z w : ℕ) (words : List ℕ) → SpellsFixed (Literal four) slot x y z w words → 1 ≤ length words
literal_words true slot x y z w words h = omega (arith, ap length h.1)
literal_words false slot x y z w words h = omega (arith, ap length h.1.0)

immediate_words : (kind : Kind) (token slot x y z w : ℕ) (words : List ℕ) → is_immediate kind ≡ true → SpellsFixed (fixed_of kind token) slot x y z w words → 1 ≤ length words
immediate_words Immediate token slot x y z w words h s = literal_words _ slot x y z w words s
immediate_words other token slot x y z w words h s = cc

operand_words : (code : ℕ) (args : List Argument) (words : List ℕ) → SpellsOperands Base code (role.Literal ∷ []) args words → 2 ≤ length words
operand_words code [] words h = absurd h
operand_words code (a ∷ args) words h =
    let o = h.3 in
    let one = immediate_words a.kind o.token a.slot a.x a.y a.z a.w o.rest.fixed o.head.allowed o.rest.fixed_is in
    omega (arith, one, ap length h.2, length-append h.0 h.1, ap length o.parts, length-append o.extended o.behind, ap length o.rest.parts, length-append o.rest.fixed o.rest.element)

meant : (o : Option Meaning) → has is_any_case o ≡ true → o ≡ Some Case
meant None h = cc
meant (Some Case) h = refl
meant (Some other) h = cc

case_roles : (code : ℕ) → meaning_of Base code ≡ Some Case → roles_at Base code ≡ role.Literal ∷ []
unfolding form_of
case_roles code h = ap (λ o. roles_by (option_map form_of_meaning o) (layout_of Base code)) h

pub case_words : (i : Instruction) (words : List ℕ) → SpellsInstruction Base i words → means Base is_any_case i ≡ true → 3 ≤ length words
case_words i words s h =
    let r = case_roles i.code (meant (meaning_of Base i.code) h) in
    let two = operand_words i.code (arguments i) s.spelled.operands (subst (λ roles. SpellsOperands Base i.code roles (arguments i) s.spelled.operands) r s.spelled.roles) in
    omega (arith, two, ap length s.spelled.parts, length-append s.spelled.head (s.spelled.operands ++ []), length-append s.spelled.operands [], ap length s.spelled.tokens.parts)

-- so the cases of a part have three times their number of words
pub cases_fit : (x : Item) (at : ℕ) (words : List ℕ) → SpellsItem Base at x words → 3 * count Base is_any_case (instructions_in (x ∷ [])) ≤ length words
cases_fit (Declares d) at words h = omega arith
cases_fit (Types d view) at words h = omega arith
cases_fit (Lists place values) at words h = omega arith
cases_fit (Skips kind values) at words h = omega arith
cases_fit (Does i) at words h = by_test (means Base is_any_case i) refl
  where
    one : (b : Bool) → means Base is_any_case i ≡ b → count Base is_any_case (i ∷ []) ≡ (if b then 1 else 0)
    one b e = sum_by-cons (λ i. if means Base is_any_case i then 1 else 0) i [] ∙ (omega arith ∙ ap (λ t. if t then 1 else 0) e)

    by_test : (b : Bool) → means Base is_any_case i ≡ b → 3 * count Base is_any_case (i ∷ []) ≤ length words
    by_test true e = omega (arith, case_words i words h.1 e, one true e)
    by_test false e = omega (arith, one false e)
