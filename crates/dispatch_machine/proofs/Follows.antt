-- The lane of a program that returns at once, and that of the smallest module.
use Rattle.tpf_decode.specs.Profiles.{Base}
use Rattle.std.proofs.Common.{◌≡◌, ℕ, List, [], ◌∷◌, refl}
use Rattle.std.specs.Prelude.{IsTrue}
use Rattle.std.proofs.lemmas.Bool.{eqb-true}
use Rattle.word_base.specs.Lanes.{Ends}
use Rattle.word_base.specs.Settings.{Setting}
use Rattle.tpf_program.specs.declared.instruction.Instruction.{Instruction}
use Rattle.tpf_decode.specs.Opcodes.{meaning_of, opcode_table}
use Rattle.tpf_program.specs.Program.{Shader}
use Rattle.dispatch_machine.specs.RunExamples.{returns}
use Rattle.tpf_program.specs.Bytecode as bytecode
use Rattle.spirv_words.specs.Smallest.{smallest}
use Rattle.spirv_words.specs.Lane as lane
use Rattle.binding_map.specs.Bindings.{Binding}
use Rattle.binding_map.specs.Places.{places_of}

pub left_ends : (p : Shader) (setting : Setting) (i : Instruction) → p.instructions ≡ i ∷ [] → IsTrue (returns i) → bytecode.step Base p setting bytecode.start ≡ Ends
unfolding meaning_of opcode_table
left_ends p setting i h r = let e = eqb-true i.code 62 r in rw (h, e) refl

pub right_ends : (x y z : ℕ) (p : Shader) (bindings : List Binding) (setting : Setting)
    → lane.lane (smallest 0x00010300 x y z) (places_of bindings) setting (lane.start (smallest 0x00010300 x y z) (places_of bindings) setting) ≡ Ends
right_ends x y z p bindings setting = refl
