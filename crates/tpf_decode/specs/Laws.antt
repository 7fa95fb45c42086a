-- What holds of spelled words and of their refusals, as callers use it.
use Rattle.std.specs.Prelude.{◌≡◌, ℕ, ◌+◌, ◌<◌, ◌≤◌, nat_eq, false, List, ◌++◌, length, slice_range, Some, None}
use Rattle.word_base.specs.declared.rule.Refusal.{Refusal}
use Rattle.word_base.specs.Rules.{first}
use Rattle.tpf_decode.specs.declared.argument.Argument.{Argument}
use Rattle.tpf_decode.specs.declared.argument.Role.{Role}
use Rattle.tpf_decode.specs.declared.extent.Extent.{Extent}
use Rattle.tpf_decode.specs.Profiles.{Profile}
use Rattle.tpf_decode.specs.Spelling.{SpellsOperand, Spells}
use Rattle.tpf_decode.specs.Refusals.{Rest, nothing, IsOrderly, operand_faults, operands_faults, cut_faults, faults_with, IsExtent}

-- Two operands whose words begin alike are the same, and end at one place.
abbrev pub WordsTellOperand : Type 0
WordsTellOperand =
    (profile : Profile) (code : ℕ) (role : Role) (a b : Argument) (ws vs xs ys : List ℕ)
    → SpellsOperand profile code role a ws → SpellsOperand profile code role b vs → ws ++ xs ≡ vs ++ ys → (a ≡ b) × (xs ≡ ys)

-- A spelled operand breaks no rule: what stands behind it is tested.
abbrev pub PassesOperand : Type 0
PassesOperand =
    (profile : Profile) (code : ℕ) (role : Role) (a : Argument) (rest : Rest) (at : ℕ) (words more : List ℕ)
    → SpellsOperand profile code role a words → operand_faults profile code role rest at (words ++ more) ≡ rest (at + length words) more

-- What is refused of an operand alone is the first refusal, whatever is tested behind it.
abbrev pub RefusesOperand : Type 0
RefusesOperand =
    (profile : Profile) (code : ℕ) (role : Role) (rest : Rest) (at : ℕ) (words : List ℕ) (r : Refusal) → IsOrderly rest
    → first (operand_faults profile code role nothing at words) ≡ Some r → first (operand_faults profile code role rest at words) ≡ Some r

-- Operands and an orderly rest behind them are an orderly rest.
abbrev pub OperandsAreOrderly : Type 0
OperandsAreOrderly =
    (profile : Profile) (code : ℕ) (roles : List Role) (rest : Rest) → IsOrderly rest → IsOrderly (operands_faults profile code roles rest)

-- Two instructions or declarations whose words begin alike are the same, and end at one place.
abbrev pub WordsTellInstruction : Type 0
WordsTellInstruction =
    (profile : Profile) (code controls other_code other_controls : ℕ) (left right : List Argument) (further other_further ws vs xs ys : List ℕ)
    → Spells profile code controls left further ws → Spells profile other_code other_controls right other_further vs → ws ++ xs ≡ vs ++ ys
    → (code ≡ other_code) × (controls ≡ other_controls) × (left ≡ right) × (further ≡ other_further) × (xs ≡ ys)

-- Where an opcode's tokens break no rule, what stands behind them is tested.
abbrev pub PassesHead : Type 0
PassesHead =
    (profile : Profile) (rest : ℕ → Rest) (words : List ℕ) (n at : ℕ) (e : Extent) → at < n → n ≤ length words
    → first (cut_faults profile at (slice_range words at n)) ≡ None → IsExtent profile words n at e → nat_eq e.code 53 ≡ false
    → faults_with profile rest at (slice_range words at n) ≡ rest e.code e.first (slice_range words e.first e.end)

-- What is refused of an opcode's tokens is the first refusal, whatever is tested behind them.
abbrev pub RefusesHead : Type 0
RefusesHead =
    (profile : Profile) (rest : ℕ → Rest) (at : ℕ) (words : List ℕ) (r : Refusal) → ((code : ℕ) → IsOrderly (rest code))
    → first (cut_faults profile at words) ≡ Some r → first (faults_with profile rest at words) ≡ Some r
