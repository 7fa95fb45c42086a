-- The first of refusals that are found one after the other.
use Rattle.std.specs.Prelude.{ℕ, nat_eq, nat_le, nat_lt, ◌+◌, ◌&&◌, ◌||◌, not, if◌then◌else◌, Bool, true, List, ◌++◌}
use Rattle.std.specs.Prelude.{Option, Some, None}
use Rattle.word_base.specs.declared.rule.Refusal.{Refusal}
use Rattle.word_base.specs.declared.rule.Rule.{Rule}
use Rattle.word_base.specs.declared.rule.Rule.TheVariants.{L1, L2, L3, L7}
use Rattle.word_base.specs.Rules.{order_of}
use Rattle.tpf_decode.specs.Profiles.{Base}
use Rattle.tpf_program.specs.declared.declaration.Declaration.{Declaration}
use Rattle.tpf_program.specs.declared.declaration.Declared.{Declared}
use Rattle.tpf_program.specs.Declarations.{is_within, has_sizes, shared_bytes, register_count, declaration_refusals}
use Rattle.tpf_program.specs.Program.{Shader}
use Rattle.tpf_program.specs.Uses.{use_refusals}
use Rattle.shader_check.specs.declared.things.Things.{Things}
use Rattle.shader_check.specs.Things.{looked_up, number_of}

-- what is refused is refused by a rule on declarations and on what is used
abbrev pub is_of_declarations : Option Refusal → Bool
is_of_declarations None = true
is_of_declarations (Some r) = nat_eq (order_of r.rule).phase 6

-- a sum that was within its limit passes it by what is added
abbrev pub is_passed : ℕ → ℕ → ℕ → Bool
is_passed limit taken more = nat_le taken limit && nat_lt limit (taken + more)

-- behind so many bytes of shared memory and so many registers a declaration passes a limit
abbrev pub passes_some : ℕ → ℕ → Declaration → Bool
passes_some bytes registers what =
    not (is_within what)
    || (is_passed 32768 bytes (shared_bytes what) || is_passed 4096 registers (register_count what))

-- the first of the rules that a declaration breaks: declared again, late, past a limit, of a wrong size
abbrev pub rule_at : Bool → Bool → Bool → Bool → Option Rule
rule_at again late past unsized =
    if again then Some L1 else if late then Some L2 else if past then Some L3 else if unsized then Some L7 else None

-- the first of the rules that a declaration breaks behind others, of which that is kept and which take so many bytes
-- and registers, where an instruction stands at that least place
abbrev pub rule_behind : Things → ℕ → ℕ → ℕ → Declared → Option Rule
rule_behind t earliest bytes registers d =
    rule_at (looked_up t (number_of d.what)).declared (nat_lt earliest d.place)
    (passes_some bytes registers d.what) (not (has_sizes d.what))

-- what comes first, or else that
abbrev pub or_refusal : Option Refusal → Refusal → Option Refusal
or_refusal None r = Some r
or_refusal (Some q) r = Some q

-- the broken rules on declarations and on what is used
abbrev pub thing_refusals : Shader → List Refusal
thing_refusals p = declaration_refusals 0 p ++ use_refusals Base p
