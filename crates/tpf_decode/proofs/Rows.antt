-- The opcode table in its parts.
use Rattle.std.proofs.Common.{◌≡◌, ℕ, List, [], ◌∷◌, ◌++◌, Option, Some, None, true, false, nat_eq, refl, ap, ◌∙◌}
use Rattle.std.specs.Prelude.{if◌then◌else◌, ◌&&◌}
use Rattle.std.specs.Option.{option_or}
use Rattle.tpf_decode.specs.declared.meaning.Meaning.{Meaning}
use Rattle.tpf_decode.specs.Profiles.{Profile, Base, includes}
use Rattle.tpf_decode.specs.Opcodes.{Opcode, meaning_in, meaning_of, opcode_table, arithmetic_rows, memory_rows, flow_rows, typed_rows}

-- what the first of two lists of rows says, or else the second
meaning_in-append : (profile : Profile) (code : ℕ) (xs ys : List Opcode)
    → meaning_in profile code (xs ++ ys) ≡ option_or (meaning_in profile code xs) (meaning_in profile code ys)
meaning_in-append profile code [] ys = refl
meaning_in-append profile code (row ∷ xs) ys =
    elim (includes profile row.since && nat_eq row.code code) as (λ b.
    (if b then Some row.meaning else meaning_in profile code (xs ++ ys)) ≡ option_or (if b then Some row.meaning else meaning_in profile code xs) (meaning_in profile code ys)) [
      | true ↦ refl
      | false ↦ meaning_in-append profile code xs ys
    ]

or_none : (o : Option Meaning) → option_or o None ≡ o
or_none None = refl
or_none (Some meaning) = refl

-- the rows of the base profile
pub in_parts : (code : ℕ) → meaning_of Base code ≡ option_or (meaning_in Base code arithmetic_rows) (option_or (meaning_in Base code memory_rows) (meaning_in Base code flow_rows))
unfolding meaning_of opcode_table
in_parts code =
    let a = meaning_in-append Base code arithmetic_rows (memory_rows ++ (flow_rows ++ typed_rows)) in
    let m = meaning_in-append Base code memory_rows (flow_rows ++ typed_rows) in
    let f = meaning_in-append Base code flow_rows typed_rows in
    a ∙ ap (option_or (meaning_in Base code arithmetic_rows)) (m ∙ ap (option_or (meaning_in Base code memory_rows)) (f ∙ or_none (meaning_in Base code flow_rows)))
