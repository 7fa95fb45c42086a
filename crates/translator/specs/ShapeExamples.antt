-- The shape of a program with a loop and a switch in it, and of a module that has it.
use Rattle.tpf_decode.specs.Profiles.{Base}
use Rattle.std.specs.Prelude.{◌≡◌, false, List, [], ◌∷◌, map, refl}
use Rattle.word_base.specs.declared.event.Act.TheVariants.{Sub}
use Rattle.word_base.specs.declared.event.Room.TheVariants as room
use Rattle.tpf_decode.specs.declared.argument.Kind.TheVariants as kind
use Rattle.tpf_decode.specs.declared.argument.Select.TheVariants.{Bare, Mask}
use Rattle.tpf_program.specs.declared.declaration.Declaration.TheVariants as declaration
use Rattle.tpf_program.specs.declared.declaration.ViewKind.TheVariants as view
use Rattle.tpf_program.specs.ExampleParts.{slot_of, literal, r0, r0_to, instruction, bare, program_of}
use Rattle.tpf_program.specs.FlowExamples.{turning}
use Rattle.tpf_decode.specs.Opcodes.{meaning_of, opcode_table}
use Rattle.tpf_program.specs.Program.{Shader}
use Rattle.tpf_program.specs.Spelling.{nothing}
use Rattle.spirv_words.specs.Broken.{Sorts, label, goto, select_to, leave}
use Rattle.spirv_words.specs.Operations.{OpAccessChain, OpBranch, OpBranchConditional, OpCompositeConstruct, OpCompositeExtract, OpConstantFalse, OpDecorate, OpFunction, OpFunctionEnd, OpLabel, OpLoopMerge, OpReturn, OpSelectionMerge, OpStore, OpSwitch, OpTypeInt, OpTypePointer, OpTypeStruct, OpVariable}
use Rattle.spirv_words.specs.Text.{Instr, Module, instruction as spirv}
use Rattle.binding_map.specs.declared.register.Register.TheVariants.{Counter}
use Rattle.binding_map.specs.declared.register.Place.TheVariants.{Bound}
use Rattle.shader_tree.specs.Shape.{Item, OpensLoop, OpensSwitch, ClosesIt, Stores, Changes}
use Rattle.raise_program.specs.ProgramShape.{program_shape}
use Rattle.spirv_emit.specs.ModuleShape.{Seen, Hidden, module_shape}
use Rattle.spirv_setup.specs.SharedPlaces.{places_in}
use Rattle.dispatch_machine.specs.RunExamples.{u0_bound}
use Rattle.dispatch_machine.specs.ModuleRunExamples.{module_of, word_of_view, store, choose_by, broken_alone}

abbrev pub one_store : List Item
one_store = OpensLoop ∷ OpensSwitch (1 ∷ 3 ∷ 4 ∷ []) ∷ ClosesIt ∷ Stores (room.Uav 0) ∷ ClosesIt ∷ []

pub of_program : program_shape Base turning u0_bound ≡ one_store
unfolding meaning_of opcode_table
of_program = refl

-- without a place for u0 its store is left out
pub without_place : program_shape Base turning [] ≡ OpensLoop ∷ OpensSwitch (1 ∷ 3 ∷ 4 ∷ []) ∷ ClosesIt ∷ ClosesIt ∷ []
unfolding meaning_of opcode_table
without_place = refl

-- A store with the mask xz is two stores; a consume without a place for its counter is nothing, and with one it is a step of it.
pub two_stores : program_shape Base (program_of [] (instruction 166 0 (slot_of kind.Uav 0 (Mask 5)) (literal 0) (r0 1) nothing ∷ [])) u0_bound
    ≡ Stores (room.Uav 0) ∷ Stores (room.Uav 0) ∷ []
unfolding meaning_of opcode_table
two_stores = refl

pub one_step : program_shape Base (program_of [] (instruction 179 0 (r0_to 1) (slot_of kind.Uav 3 Bare) nothing nothing ∷ [])) (record { register = Counter 3; place = Bound 0 1 } ∷ [])
    ≡ Changes (room.Counter 3) Sub ∷ []
unfolding meaning_of opcode_table
one_step = refl

-- A module: a buffer 20 of words, a loop with header 30 and merge block 32, in it a switch of the values 1, 3 and 4 with merge block 36,
-- and behind the switch a store to the buffer through two access chains. The selection with merge block 41 is no switch.
abbrev pub looping : List Instr
looping =
    spirv OpDecorate (20 ∷ 34 ∷ 0 ∷ []) ∷ spirv OpDecorate (20 ∷ 33 ∷ 0 ∷ []) ∷ spirv OpTypeInt (5 ∷ 32 ∷ 0 ∷ []) ∷
    spirv OpTypePointer (16 ∷ 12 ∷ 5 ∷ []) ∷ spirv OpVariable (13 ∷ 20 ∷ 12 ∷ []) ∷
    spirv OpFunction (2 ∷ 1 ∷ 0 ∷ 3 ∷ []) ∷ spirv OpLabel (4 ∷ []) ∷ spirv OpVariable (14 ∷ 21 ∷ 7 ∷ []) ∷
    spirv OpBranch (30 ∷ []) ∷
    spirv OpLabel (30 ∷ []) ∷ spirv OpLoopMerge (32 ∷ 31 ∷ 0 ∷ []) ∷ spirv OpBranch (33 ∷ []) ∷
    spirv OpLabel (33 ∷ []) ∷ spirv OpStore (21 ∷ 15 ∷ []) ∷ spirv OpSelectionMerge (36 ∷ 0 ∷ []) ∷
    spirv OpSwitch (40 ∷ 36 ∷ 1 ∷ 34 ∷ 3 ∷ 35 ∷ 4 ∷ 35 ∷ []) ∷
    spirv OpLabel (34 ∷ []) ∷ spirv OpBranch (35 ∷ []) ∷ spirv OpLabel (35 ∷ []) ∷ spirv OpBranch (36 ∷ []) ∷
    spirv OpLabel (36 ∷ []) ∷ spirv OpSelectionMerge (41 ∷ 0 ∷ []) ∷ spirv OpBranchConditional (42 ∷ 43 ∷ 41 ∷ []) ∷
    spirv OpLabel (43 ∷ []) ∷ spirv OpAccessChain (19 ∷ 45 ∷ 20 ∷ 17 ∷ []) ∷ spirv OpAccessChain (16 ∷ 44 ∷ 45 ∷ 18 ∷
    []) ∷ spirv OpStore (44 ∷ 15 ∷ []) ∷ spirv OpBranch (41 ∷ []) ∷
    spirv OpLabel (41 ∷ []) ∷ spirv OpBranch (31 ∷ []) ∷ spirv OpLabel (31 ∷ []) ∷ spirv OpBranch (30 ∷ []) ∷
    spirv OpLabel (32 ∷ []) ∷ spirv OpReturn [] ∷ spirv OpFunctionEnd [] ∷ []

pub of_module : module_shape (record { version = 0x00010300; bound = 50; code = looping }) (places_in turning u0_bound) ≡ map Seen one_store
of_module = refl

-- A program that stores one word, and a module of two stores: one through a pointer that is put into a struct and taken out again, and one
-- behind a branch that is never taken. Both are counted.
abbrev pub storing : Shader
storing = program_of (declaration.Uav 0 view.Raw false false ∷ declaration.Group 1 1 1 ∷ [])
    (instruction 166 0 (slot_of kind.Uav 0 (Mask 1)) (literal 0) (literal 7) nothing ∷ bare 62 ∷ [])

abbrev pub hiding : Module
hiding = module_of 1 [] [] (spirv OpConstantFalse (4 ∷ 40 ∷ []) ∷ spirv OpTypeStruct (41 ∷ 14 ∷ []) ∷ [])
    (word_of_view 50 6 ∷ spirv OpCompositeConstruct (41 ∷ 51 ∷ 50 ∷ []) ∷ spirv OpCompositeExtract (14 ∷ 52 ∷ 51 ∷ 0 ∷
    []) ∷ store 52 10 ∷ select_to 22 ∷ choose_by 40 21 22 ∷
    label 21 ∷ word_of_view 53 6 ∷ store 53 10 ∷ goto 22 ∷
    label 22 ∷ leave ∷ [])

pub of_storing : program_shape Base storing u0_bound ≡ Stores (room.Uav 0) ∷ []
unfolding meaning_of opcode_table
of_storing = refl

pub of_hiding : module_shape hiding (places_in storing u0_bound) ≡ Hidden ∷ Seen (Stores (room.Uav 0)) ∷ []
of_hiding = refl

-- It has not the form either: a pointer is no part of a composite.
pub hiding_has_no_form : broken_alone hiding ≡ Sorts ∷ []
hiding_has_no_form = refl
