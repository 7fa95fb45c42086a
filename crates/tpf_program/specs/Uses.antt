-- The rules on what instructions use: it is declared before them, and views are of the kind that an instruction asks for. (Direct3D 11
-- functional specification: declarations of registers and of resources; Shader Model 5 assembly: raw, structured and typed views.)
use Rattle.std.specs.Prelude.{ℕ, nat_eq, nat_le, not, ◌&&◌, Bool, true, false, List, [], ◌∷◌, ◌++◌, filter, flat_map, length, take, Option, Some, None}
use Rattle.std.specs.List.{list_any}
use Rattle.word_base.specs.declared.event.Room.{Room}
use Rattle.word_base.specs.declared.rule.Refusal.{Refusal}
use Rattle.word_base.specs.declared.rule.Rule.TheVariants.{L5, L6, L8}
use Rattle.word_base.specs.Rules.{broken}
use Rattle.tpf_decode.specs.declared.argument.Argument.{Argument}
use Rattle.tpf_decode.specs.declared.argument.Kind.{Kind}
use Rattle.tpf_decode.specs.declared.argument.Kind.TheVariants as kind
use Rattle.tpf_decode.specs.declared.argument.Relative.{Relative}
use Rattle.tpf_decode.specs.declared.meaning.Meaning.{Meaning}
use Rattle.tpf_decode.specs.declared.meaning.Meaning.TheVariants.{LoadRaw, LoadStructured, LoadTyped, StoreRaw, StoreStructured, StoreTyped, Measures, Allocates, Consumes}
use Rattle.tpf_decode.specs.Profiles.{Profile}
use Rattle.tpf_decode.specs.Opcodes.{meaning_of, form_of_meaning, roles_of}
use Rattle.tpf_program.specs.declared.declaration.Declaration.{Declaration}
use Rattle.tpf_program.specs.declared.declaration.Declaration.TheVariants.{Constants, Resource, Uav, Shared, Input, Temps, Indexable, ImmediateConstants}
use Rattle.tpf_program.specs.declared.declaration.Declared.{Declared}
use Rattle.tpf_program.specs.declared.instruction.Instruction.{Instruction}
use Rattle.tpf_program.specs.Declarations.{same_id}
use Rattle.tpf_program.specs.Ends.{has}
use Rattle.tpf_program.specs.Program.{Shader}
use Rattle.tpf_program.specs.Sizes.{Addressing, Bytes, Structures, Words, addressing_declared, temps_of}
use Rattle.tpf_program.specs.Spelling.{operands}

-- a thing that an operand names: its kind and its slot
pub record Use : Type 0 where
  pub kind : Kind
  pub slot : ℕ

abbrev pub use_of : Kind → ℕ → Use
use_of k slot = record { kind = k; slot = slot }

-- what is added to an index is named too: of x#, of a constant buffer, and of the immediate constants
abbrev pub is_indexed : Kind → Bool
is_indexed kind.Indexable = true
is_indexed kind.Constant = true
is_indexed kind.ImmediateConstant = true
is_indexed other = false

abbrev pub added_uses : Bool → Option Relative → List Use
added_uses true (Some r) = use_of r.kind r.slot ∷ []
added_uses indexed relative = []

abbrev pub operand_uses : Argument → List Use
operand_uses a = use_of a.kind a.slot ∷ added_uses (is_indexed a.kind) a.relative

-- an instruction has as many operands as what it does has roles
abbrev pub uses : Meaning → Instruction → List Use
uses meaning i = flat_map operand_uses (take (length (roles_of (form_of_meaning meaning))) (operands i))

-- immediates and the null operand name nothing
abbrev pub is_thing : Kind → Bool
is_thing kind.Immediate = false
is_thing kind.Null = false
is_thing other = true

abbrev pub declares : Declaration → Kind → ℕ → Bool
declares (Temps count) kind.Temp slot = true
declares (Indexable s count components) kind.Indexable slot = nat_eq s slot
declares (Constants s size) kind.Constant slot = nat_eq s slot
declares (ImmediateConstants vectors) kind.ImmediateConstant slot = true
declares (Resource s v) kind.Resource slot = nat_eq s slot
declares (Uav s v coherent ordered) kind.Uav slot = nat_eq s slot
declares (Shared s k) kind.Shared slot = nat_eq s slot
declares (Input id select) k slot = same_id id k
declares what k slot = false

abbrev pub is_declared : List Declared → Use → Bool
is_declared ds u = list_any (λ d. declares d.what u.kind u.slot) ds

-- used and not declared
abbrev pub is_missing : List Declared → Use → Bool
is_missing ds u = is_thing u.kind && not (is_declared ds u)

-- a register r# at or past those that are declared
abbrev pub is_temp_of : ℕ → Kind → ℕ → Bool
is_temp_of temps kind.Temp slot = nat_le temps slot
is_temp_of temps other slot = false

abbrev pub is_past : List Declared → Use → Bool
is_past ds u = is_declared ds u && is_temp_of (temps_of ds) u.kind u.slot

-- the ways by which an instruction reaches a view
abbrev pub is_bytes : Addressing → Bool
is_bytes Bytes = true
is_bytes other = false

abbrev pub is_structures : Addressing → Bool
is_structures (Structures stride) = true
is_structures other = false

abbrev pub is_words : Addressing → Bool
is_words Words = true
is_words other = false

-- An instruction on a view of another kind: by bytes, by structures, beside which alone counters stand, or by words. Atomics reach each
-- kind, and bufinfo measures those of bytes and of structures.
abbrev pub differs : Meaning → Addressing → Bool
differs LoadRaw way = not (is_bytes way)
differs StoreRaw way = not (is_bytes way)
differs LoadStructured way = not (is_structures way)
differs StoreStructured way = not (is_structures way)
differs Allocates way = not (is_structures way)
differs Consumes way = not (is_structures way)
differs LoadTyped way = not (is_words way)
differs StoreTyped way = not (is_words way)
differs Measures way = is_words way
differs meaning way = false

abbrev pub is_other_view : List Room → List Declared → Meaning → Use → Bool
is_other_view typed ds meaning u = list_any (λ d. has (differs meaning) (addressing_declared typed u.kind u.slot d.what)) ds

-- the broken rules of an instruction with that meaning which names these things, where this is declared before it
abbrev pub refusals_for : List Room → List Declared → Meaning → List Use → ℕ → List Refusal
refusals_for typed ds meaning us place =
    broken (list_any (is_missing ds) us) L5 place
    ++ broken (list_any (is_past ds) us) L6 place
    ++ broken (list_any (is_other_view typed ds meaning) us) L8 place

abbrev pub refusals_by : List Room → List Declared → Option Meaning → Instruction → List Refusal
refusals_by typed ds None i = []
refusals_by typed ds (Some meaning) i = refusals_for typed ds meaning (uses meaning i) i.place

-- the declarations that do not stand behind a place; since no two parts have one place, those before the instruction there
abbrev pub up_to : ℕ → List Declared → List Declared
up_to place ds = filter (λ d. nat_le d.place place) ds

-- the broken rules of all instructions
abbrev pub use_refusals : Profile → Shader → List Refusal
use_refusals profile p = flat_map (λ i. refusals_by p.typed (up_to i.place p.declarations) (meaning_of profile i.code) i) p.instructions
