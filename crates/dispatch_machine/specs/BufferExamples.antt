-- A dispatch with a constant buffer, computed.
use Rattle.std.specs.Prelude.{◌≡◌, ℕ, true, false, List, [], ◌∷◌, Some, refl}
use Rattle.word_base.specs.declared.event.Room.TheVariants as room
use Rattle.word_base.specs.Settings.{axes}
use Rattle.tpf_decode.specs.Opcodes.{meaning_of, opcode_table}
use Rattle.tpf_decode.specs.declared.argument.Kind.TheVariants as kind
use Rattle.tpf_decode.specs.declared.argument.Select.TheVariants.{Mask, One}
use Rattle.tpf_program.specs.declared.declaration.Declaration.TheVariants as declaration
use Rattle.tpf_program.specs.declared.declaration.ViewKind.TheVariants as view
use Rattle.tpf_program.specs.ExampleParts.{slot_of, literal, instruction, bare, program_of}
use Rattle.tpf_program.specs.Program.{Shader}
use Rattle.tpf_program.specs.Spelling.{nothing}
use Rattle.binding_map.specs.declared.register.Register.TheVariants.{Constant, Uav}
use Rattle.binding_map.specs.declared.register.Place.TheVariants.{Bound, Push}
use Rattle.binding_map.specs.Bindings.{Binding, binding}
use Rattle.dispatch_machine.specs.Dispatch.{Dispatch}
use Rattle.dispatch_machine.specs.RunExamples.{views, where_zero}
use Rattle.dispatch_machine.specs.RowExamples.{run, words_of, ended}

-- A DISPATCH of three groups of one lane, with the words 1 to 4 in b0. Each lane stores the third of them in word 1 of u0.
abbrev pub one_buffer : Shader
one_buffer = program_of (declaration.Constants 0 1 ∷ declaration.Uav 0 view.Raw false false ∷ declaration.Group 1 1 1 ∷ [])
    (instruction 166 0 (slot_of kind.Uav 0 (Mask 1)) (literal 4) (slot_of kind.Constant 0 (One 2)) nothing ∷  -- store_raw u0.x, l(4), cb0[0].z
    bare 62 ∷ [])

abbrev pub b0_bound : List Binding
b0_bound = binding (Constant 0) (Bound 0 0) ∷ binding (Uav 0) (Bound 0 1) ∷ []

abbrev pub b0_pushed : List Binding
b0_pushed = binding (Constant 0) (Push 0 4) ∷ binding (Uav 0) (Bound 0 0) ∷ []

abbrev pub with_buffer : Dispatch
with_buffer = record {
  groups = axes 3 1 1;
  constants = λ slot. where_zero slot (1 ∷ 2 ∷ 3 ∷ 4 ∷ []);
  memory = record { views = views; shared = λ group slot. [] };
}

pub buffer_words : words_of (room.Uav 0) (run one_buffer with_buffer 4 (2 ∷ 0 ∷ 2 ∷ [])) ≡ Some (0 ∷ 3 ∷ [])
unfolding meaning_of opcode_table
buffer_words = refl

pub buffer_ends : ended (0 ∷ 1 ∷ 2 ∷ []) (run one_buffer with_buffer 4 (2 ∷ 0 ∷ 2 ∷ [])) ≡ Some (false ∷ false ∷ true ∷ [])
unfolding meaning_of opcode_table
buffer_ends = refl
