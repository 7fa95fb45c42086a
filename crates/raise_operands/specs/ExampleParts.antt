-- Programs as trees, for the examples: the statements of their instructions, and stores of what they leave.
use Rattle.std.specs.Prelude.{ℕ, List, [], ◌∷◌, ◌++◌, map}
use Rattle.word_base.specs.declared.event.Room.TheVariants.{Uav}
use Rattle.word_base.specs.declared.event.Event.TheVariants as event
use Rattle.tpf_decode.specs.declared.argument.Argument.{Argument}
use Rattle.tpf_decode.specs.declared.argument.Kind.TheVariants as kind
use Rattle.tpf_decode.specs.declared.argument.Select.TheVariants.{Mask, Swizzle}
use Rattle.tpf_program.specs.declared.instruction.Instruction.{Instruction}
use Rattle.tpf_program.specs.ExampleParts.{slot_of, setting_of}
use Rattle.tpf_program.specs.Program.{Shader}
use Rattle.shader_tree.specs.ExampleParts.{Log, log, AtEnd, log_in, no_ids}
use Rattle.shader_tree.specs.Lane.{start, step}
use Rattle.shader_tree.specs.Terms.{Term, Word, Store}
use Rattle.raise_operands.specs.Raising.{chained, source, statement_of}
use Rattle.raise_operands.specs.Vectors.{spaces_of}

-- four words
abbrev pub literals : ℕ → ℕ → ℕ → ℕ → Argument
literals x y z w =
    record (slot_of kind.Immediate 0 (Swizzle 0)) { x = x; y = y; z = z; w = w }

-- components of a register that are written, and all four in their order
abbrev pub to : ℕ → ℕ → Argument
to slot mask = slot_of kind.Temp slot (Mask mask)

abbrev pub from : ℕ → Argument
from slot = slot_of kind.Temp slot (Swizzle 0xE4)

abbrev pub of_five : ℕ → Argument → Argument → Argument → Argument → Argument → Instruction
of_five code o0 o1 o2 o3 o4 =
    record { place = 0; length = 1; code = code; controls = 0; count = 5; o0 = o0; o1 = o1; o2 = o2; o3 = o3; o4 = o4 }

-- a store of a component of a source
abbrev pub stored : Shader → Argument → ℕ → Term
stored p a c = Store (Uav 0) (Word c) (source (spaces_of p) 0 a c)

-- the tree of a program: the instructions, and then stores of x and y
abbrev pub tree_of : Shader → List Instruction → Argument → Term
tree_of p is a = chained (map (statement_of p) is ++ (stored p a 0 ∷ stored p a 1 ∷ []))

abbrev pub logged : Shader → Term → Log
logged p root = log_in 99 (step (spaces_of p) (setting_of no_ids (λ room. 9))) [] (start root)

abbrev pub leaves : ℕ → ℕ → Log
leaves x y = log (event.Store (Uav 0) 0 x ∷ event.Store (Uav 0) 1 y ∷ []) (AtEnd 0)
