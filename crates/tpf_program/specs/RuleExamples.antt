-- Programs that break rules on declarations, on what is used, and on structure.
use Rattle.std.specs.Prelude.{◌≡◌, ℕ, zero, suc, false, List, [], ◌∷◌, ◌++◌, length, map, Some, refl}
use Rattle.word_base.specs.declared.event.Room.TheVariants as room
use Rattle.word_base.specs.declared.rule.Refusal.{Refusal}
use Rattle.word_base.specs.declared.rule.Rule.TheVariants.{L1, L2, L3, L5, L6, L8, S1, S2, S3, S4, S5, S6, S7, S8, S9, M3}
use Rattle.word_base.specs.Rules.{refusal, first}
use Rattle.tpf_decode.specs.declared.argument.Kind.TheVariants as kind
use Rattle.tpf_decode.specs.declared.argument.Select.TheVariants.{Mask, Swizzle}
use Rattle.tpf_decode.specs.Profiles.{Base, Typed}
use Rattle.tpf_decode.specs.Opcodes.{meaning_of, opcode_table}
use Rattle.tpf_program.specs.declared.declaration.Declaration.TheVariants.{Group, Indexable, Temps, Uav}
use Rattle.tpf_program.specs.declared.declaration.ViewKind.TheVariants as view
use Rattle.tpf_program.specs.declared.instruction.Instruction.{Instruction}
use Rattle.tpf_program.specs.Declarations.{declaration_refusals}
use Rattle.tpf_program.specs.Nesting.{nesting_refusals}
use Rattle.tpf_program.specs.Program.{Shader}
use Rattle.tpf_program.specs.Spelling.{nothing}
use Rattle.tpf_program.specs.Uses.{use_refusals}
use Rattle.tpf_program.specs.ExampleParts.{slot_of, literal, r0_to, instruction, bare, declared, placed, placed_from, program_at, program_of}

-- WHAT IS USED: a register without any declaration, and one past it; a raw store to a structured view; and all as it should be.
abbrev pub moving : ℕ → Instruction
moving slot = instruction 54 0 (slot_of kind.Temp slot (Mask 1)) (literal 7) nothing nothing

abbrev pub storing : Instruction
storing = instruction 166 0 (slot_of kind.Uav 2 (Mask 1)) (literal 0) (literal 7) nothing

pub undeclared : use_refusals Base (program_of [] (moving 0 ∷ bare 62 ∷ [])) ≡ refusal L5 2 ∷ []
unfolding meaning_of opcode_table
undeclared = refl

pub past : use_refusals Base (program_of (Temps 3 ∷ []) (moving 2 ∷ moving 3 ∷ bare 62 ∷ [])) ≡ refusal L6 4 ∷ []
unfolding meaning_of opcode_table
past = refl

pub structured : use_refusals Base (program_of (Uav 2 (view.Structured 8) false false ∷ []) (storing ∷ bare 62 ∷ [])) ≡ refusal L8 3 ∷ []
unfolding meaning_of opcode_table
structured = refl

pub raw : use_refusals Base (program_of (Uav 2 view.Raw false false ∷ []) (storing ∷ bare 62 ∷ [])) ≡ []
unfolding meaning_of opcode_table
raw = refl

-- WHAT IS DECLARED LATER does not count: dcl_temps 1 behind mov r0.x, l(7); dcl_temps 0 before it and dcl_temps 5 behind; dcl_uav_raw u2
-- before store_raw u2.x, l(0), l(7) and dcl_uav_structured u2, 8 behind. Each rule that is broken, and the first of them.
-- (00050050 E 0400009B 1 1 1 05000036 00100012 0 00004001 7 02000068 1 0100003E)
abbrev pub registers_later : Shader
registers_later = program_at 14 (declared 2 (Group 1 1 1) ∷ declared 11 (Temps 1) ∷ []) (placed 6 (moving 0) ∷ placed 13 (bare 62) ∷ [])

-- (00050050 10 02000068 0 0400009B 1 1 1 05000036 00100012 0 00004001 7 02000068 5 0100003E)
abbrev pub registers_twice : Shader
registers_twice =
    program_at 16 (declared 2 (Temps 0) ∷ declared 4 (Group 1 1 1) ∷ declared 13 (Temps 5) ∷ []) (placed 8 (moving 0) ∷ placed 15 (bare 62) ∷ [])

-- (00050050 15 0300009D 0011E000 2 0400009B 1 1 1 070000A6 0011E012 2 00004001 0 00004001 7 0400009E 0011E000 2 8 0100003E)
abbrev pub view_twice : Shader
view_twice =
    program_at 21 (declared 2 (Uav 2 view.Raw false false) ∷ declared 5 (Group 1 1 1) ∷ declared 16 (Uav 2 (view.Structured 8) false false) ∷ [])
    (placed 9 storing ∷ placed 20 (bare 62) ∷ [])

abbrev pub all_refusals : Shader → List Refusal
all_refusals p = declaration_refusals 0 p ++ (use_refusals Base p ++ nesting_refusals Base p)

pub broken_later : all_refusals registers_later ≡ refusal L2 11 ∷ refusal L5 6 ∷ []
unfolding meaning_of opcode_table
broken_later = refl

pub first_later : first (all_refusals registers_later) ≡ Some (refusal L5 6)
unfolding meaning_of opcode_table
first_later = refl

pub broken_twice : all_refusals registers_twice ≡ refusal L1 13 ∷ refusal L2 13 ∷ refusal L6 8 ∷ []
unfolding meaning_of opcode_table
broken_twice = refl

pub first_twice : first (all_refusals registers_twice) ≡ Some (refusal L6 8)
unfolding meaning_of opcode_table
first_twice = refl

pub broken_views : all_refusals view_twice ≡ refusal L1 16 ∷ refusal L2 16 ∷ []
unfolding meaning_of opcode_table
broken_views = refl

pub first_view : first (all_refusals view_twice) ≡ Some (refusal L1 16)
unfolding meaning_of opcode_table
first_view = refl

-- TYPED VIEWS: a raw store to a typed view, and a typed load from one; one register more in front of all that are declared.
abbrev pub of_typed_view : Instruction → Shader
of_typed_view i = record (program_of (Uav 2 (view.Structured 4) false false ∷ Temps 1 ∷ []) (i ∷ [])) { typed = room.Uav 2 ∷ [] }

pub raw_on_typed : use_refusals Typed (of_typed_view storing) ≡ refusal L8 4 ∷ []
unfolding meaning_of opcode_table
raw_on_typed = refl

pub typed_on_typed : use_refusals Typed (of_typed_view (instruction 163 0 (r0_to 15) (literal 0) (slot_of kind.Uav 2 (Swizzle 0xE4)) nothing)) ≡ []
unfolding meaning_of opcode_table
typed_on_typed = refl

pub most_registers : declaration_refusals 0 (program_of (Indexable 0 4096 4 ∷ Group 1 1 1 ∷ []) []) ≡ []
most_registers = refl

pub one_more : declaration_refusals 1 (program_of (Indexable 0 4096 4 ∷ Group 1 1 1 ∷ []) []) ≡ refusal L3 2 ∷ []
one_more = refl

-- STRUCTURE: instructions alone, by their opcodes.
abbrev pub refusals_of : List ℕ → List Refusal
refusals_of codes = nesting_refusals Base (program_at (length codes) [] (placed_from 0 (map bare codes)))

-- `endif` alone, as the last
pub end_alone : refusals_of (21 ∷ []) ≡ refusal S1 0 ∷ refusal S9 0 ∷ []
unfolding meaning_of opcode_table
end_alone = refl

-- loop, break, endif, endloop, ret
pub wrong_end : refusals_of (48 ∷ 2 ∷ 21 ∷ 62 ∷ []) ≡ refusal S1 2 ∷ []
unfolding meaning_of opcode_table
wrong_end = refl

-- a loop that is never closed, with a break in it
pub never_closed : refusals_of (48 ∷ 2 ∷ 62 ∷ []) ≡ refusal S2 0 ∷ refusal S9 2 ∷ []
unfolding meaning_of opcode_table
never_closed = refl

-- if, else, else, endif, ret
pub second_else : refusals_of (31 ∷ 18 ∷ 18 ∷ 21 ∷ 62 ∷ []) ≡ refusal S3 2 ∷ []
unfolding meaning_of opcode_table
second_else = refl

-- a switch in a loop, with a continue in it, a case, a default and a break; a break and a continue outside
pub leaps : refusals_of (48 ∷ 76 ∷ 6 ∷ 7 ∷ 10 ∷ 2 ∷ 23 ∷ 22 ∷ 2 ∷ 7 ∷ 62 ∷ []) ≡ refusal S4 8 ∷ refusal S4 9 ∷ []
unfolding meaning_of opcode_table
leaps = refl

-- switch, nop, case, default, default, case, endswitch, default, ret
pub labels : refusals_of (76 ∷ 58 ∷ 6 ∷ 10 ∷ 10 ∷ 6 ∷ 23 ∷ 10 ∷ 62 ∷ [])
    ≡ refusal S8 1 ∷ refusal S6 4 ∷ refusal S7 5 ∷ refusal S5 7 ∷ []
unfolding meaning_of opcode_table
labels = refl

-- no instruction
pub nothing_there : refusals_of [] ≡ refusal S9 0 ∷ []
nothing_there = refl

-- 65 openings, of which the last is one too many, and their ends
abbrev pub many : ℕ → ℕ → List ℕ → List ℕ
many zero code rest = rest
many (suc n) code rest = code ∷ many n code rest

pub too_deep : refusals_of (many 65 31 (many 65 21 (62 ∷ []))) ≡ refusal M3 64 ∷ []
unfolding meaning_of opcode_table
too_deep = refl
