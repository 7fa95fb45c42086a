-- Small modules that have the form, and for each condition modules that break this one alone.
use Rattle.std.specs.Prelude.{◌≡◌, List, [], ◌∷◌, ◌++◌, refl}
use Rattle.spirv_words.specs.StorageClass.{Function, Private}
use Rattle.spirv_words.specs.Decoration.{Block}
use Rattle.spirv_words.specs.Enumerants.{GLCompute, Version13, Version14, main_text}
use Rattle.spirv_words.specs.Operations.{OpDecorate, OpEntryPoint, OpIAdd, OpLoad, OpStore, OpTypeBool, OpTypeInt, OpTypePointer, OpTypeRuntimeArray, OpULessThan, OpVariable}
use Rattle.spirv_words.specs.Text.{Instr, Module, instruction}
use Rattle.spirv_words.specs.Smallest.{smallest}
use Rattle.word_base.specs.Settings.{axes}
use Rattle.spirv_words.specs.Variables.{nothing_wanted}
use Rattle.spirv_words.specs.Broken.{Header, Sections, SingleDefinition, DistinctTypes, Sorts, LocalResults, Blocks, Merges, Branches, Variables, SwitchOrder, broken_in, broken, shader, shader_of, label, goto, choose, select_to, loop_to, switch_to, leave}

pub smallest_has_form : broken_in Version13 (axes 8 4 1) nothing_wanted (smallest Version13 8 4 1) ≡ []
smallest_has_form = refl

-- A loop with a break in a selection, and a switch with two cases and its default between them.
abbrev pub turns : List Instr
turns =
    goto 21 ∷
    label 21 ∷ loop_to 24 23 ∷ goto 22 ∷
    label 22 ∷ select_to 26 ∷ choose 25 26 ∷
    label 25 ∷ goto 24 ∷
    label 26 ∷ goto 23 ∷
    label 23 ∷ goto 21 ∷
    label 24 ∷ []

abbrev pub cases : List Instr
cases =
    select_to 33 ∷ switch_to 31 (0 ∷ 30 ∷ 1 ∷ 32 ∷ []) ∷
    label 30 ∷ goto 31 ∷
    label 31 ∷ goto 32 ∷
    label 32 ∷ goto 33 ∷
    label 33 ∷ leave ∷ []

pub control_flow_has_form : broken (shader (turns ++ cases)) ≡ []
control_flow_has_form = refl

-- a variable of the function, written with the sum of its word and 1
abbrev pub counts : Module
counts =
    shader_of [] [] (instruction OpVariable (9 ∷ 40 ∷ Function ∷ 6 ∷ []) ∷ [])
    (instruction OpLoad (5 ∷ 41 ∷ 40 ∷ []) ∷ instruction OpIAdd (5 ∷ 42 ∷ 41 ∷ 7 ∷ []) ∷
    instruction OpStore (40 ∷ 42 ∷ []) ∷ leave ∷ [])

pub memory_has_form : broken counts ≡ []
memory_has_form = refl

-- Header: another version than the one that is asked for, and one that is neither 1.3 nor 1.4.
pub other_version : broken_in Version14 (axes 8 4 1) nothing_wanted (smallest Version13 8 4 1) ≡ Header ∷ []
other_version = refl

pub unknown_version : broken_in 0x00010500 (axes 8 4 1) nothing_wanted (smallest 0x00010500 8 4 1) ≡ Header ∷ []
unknown_version = refl

-- Sections: another group, a decoration behind a type, a second entry point, a type in the function.
pub other_group : broken_in Version13 (axes 8 4 2) nothing_wanted (smallest Version13 8 4 1) ≡ Sections ∷ []
other_group = refl

pub late_decoration : broken (shader_of [] (instruction OpDecorate (5 ∷ Block ∷ []) ∷ []) [] (leave ∷ [])) ≡
    Sections ∷ []
late_decoration = refl

pub second_entry : broken (shader_of (instruction OpEntryPoint (GLCompute ∷ 1 ∷ main_text) ∷ []) [] []
    (leave ∷ [])) ≡ Sections ∷ []
second_entry = refl

pub local_type : broken (shader_of [] [] [] (instruction OpTypeRuntimeArray (50 ∷ 5 ∷ []) ∷ leave ∷ [])) ≡ Sections ∷ []
local_type = refl

-- Single definition: one id defined twice, one used in front of its definition, one at the bound, a label that nothing defines.
pub twice : broken (shader (instruction OpIAdd (5 ∷ 40 ∷ 6 ∷ 7 ∷ []) ∷ instruction OpIAdd (5 ∷ 40 ∷ 6 ∷ 7 ∷ []) ∷
    leave ∷ [])) ≡ SingleDefinition ∷ []
twice = refl

pub early : broken (shader (instruction OpIAdd (5 ∷ 41 ∷ 40 ∷ 7 ∷ []) ∷ instruction OpIAdd (5 ∷ 40 ∷ 6 ∷ 7 ∷ []) ∷
    leave ∷ [])) ≡ SingleDefinition ∷ []
early = refl

pub past_the_bound : broken (shader (instruction OpIAdd (5 ∷ 100 ∷ 6 ∷ 7 ∷ []) ∷ leave ∷ [])) ≡ SingleDefinition ∷ []
past_the_bound = refl

pub unknown_name : broken (shader_of (instruction OpDecorate (60 ∷ Block ∷ []) ∷ []) [] [] (leave ∷ [])) ≡
    SingleDefinition ∷ []
unknown_name = refl

-- Distinct types: truths twice. Two arrays of the same words are allowed.
pub two_truths : broken (shader_of [] (instruction OpTypeBool (50 ∷ []) ∷ []) [] (leave ∷ [])) ≡ DistinctTypes ∷ []
two_truths = refl

pub two_arrays : broken (shader_of [] (instruction OpTypeRuntimeArray (50 ∷ 5 ∷ []) ∷
    instruction OpTypeRuntimeArray (51 ∷ 5 ∷ []) ∷ []) [] (leave ∷ [])) ≡ []
two_arrays = refl

-- Sorts: a sum with a truth, a truth stored in a word, a comparison that makes a word, words of 16 bits, a variable of another class.
pub sum_of_truth : broken (shader (instruction OpIAdd (5 ∷ 40 ∷ 6 ∷ 8 ∷ []) ∷ leave ∷ [])) ≡ Sorts ∷ []
sum_of_truth = refl

pub stored_truth : broken (shader_of [] [] (instruction OpVariable (9 ∷ 40 ∷ Function ∷ 6 ∷ []) ∷ [])
    (instruction OpStore (40 ∷ 8 ∷ []) ∷ leave ∷ [])) ≡ Sorts ∷ []
stored_truth = refl

pub compared_word : broken (shader (instruction OpULessThan (5 ∷ 40 ∷ 6 ∷ 7 ∷ []) ∷ leave ∷ [])) ≡ Sorts ∷ []
compared_word = refl

pub short_words : broken (shader_of [] (instruction OpTypeInt (50 ∷ 16 ∷ 0 ∷ []) ∷ []) [] (leave ∷ [])) ≡ Sorts ∷ []
short_words = refl

pub other_class : broken (shader_of [] (instruction OpVariable (9 ∷ 50 ∷ Private ∷ 6 ∷ []) ∷ []) [] (leave ∷ [])) ≡
    Sorts ∷ []
other_class = refl

-- Local results: a sum that is used in another block, and one with a decoration.
pub used_elsewhere : broken (shader (instruction OpIAdd (5 ∷ 40 ∷ 6 ∷ 7 ∷ []) ∷ goto 21 ∷ label 21 ∷ instruction OpIAdd (5 ∷ 41 ∷ 40 ∷ 7 ∷ []) ∷ leave ∷ [])) ≡ LocalResults ∷ []
used_elsewhere = refl

pub decorated : broken (shader_of (instruction OpDecorate (40 ∷ Block ∷ []) ∷ []) [] []
    (instruction OpIAdd (5 ∷ 40 ∷ 6 ∷ 7 ∷ []) ∷ leave ∷ [])) ≡ LocalResults ∷ []
decorated = refl

-- Blocks: one without an end, one with two, a variable behind another instruction, one in the second block.
pub endless : broken (shader (instruction OpIAdd (5 ∷ 40 ∷ 6 ∷ 7 ∷ []) ∷ [])) ≡ Blocks ∷ []
endless = refl

pub two_ends : broken (shader (leave ∷ leave ∷ [])) ≡ Blocks ∷ []
two_ends = refl

pub late_variable : broken (shader (instruction OpIAdd (5 ∷ 40 ∷ 6 ∷ 7 ∷ []) ∷
    instruction OpVariable (9 ∷ 41 ∷ Function ∷ 6 ∷ []) ∷ leave ∷ [])) ≡ Blocks ∷ []
late_variable = refl

pub second_block : broken (shader (goto 21 ∷ label 21 ∷ instruction OpVariable (9 ∷ 41 ∷ Function ∷ 6 ∷ []) ∷
    leave ∷ [])) ≡ Blocks ∷ []
second_block = refl

-- Merges: a choice without one, two constructs with one merge block, a continue block behind the merge block, and a switch behind a loop
-- merge.
pub no_merge : broken (shader (choose 21 22 ∷ label 21 ∷ goto 22 ∷ label 22 ∷ leave ∷ [])) ≡ Merges ∷ []
no_merge = refl

pub one_merge_for_two : broken (shader (select_to 23 ∷ choose 21 23 ∷ label 21 ∷ select_to 23 ∷ choose 22 23 ∷
    label 22 ∷ goto 23 ∷ label 23 ∷ leave ∷ [])) ≡ Merges ∷ []
one_merge_for_two = refl

pub continue_behind_merge :
    broken (shader (goto 21 ∷ label 21 ∷ loop_to 22 23 ∷ goto 22 ∷ label 22 ∷ goto 23 ∷ label 23 ∷ leave ∷ [])) ≡
    Merges ∷ []
continue_behind_merge = refl

pub loop_merge_of_switch : broken (shader (goto 21 ∷ label 21 ∷ loop_to 23 22 ∷ switch_to 23 (0 ∷ 22 ∷ []) ∷
    label 22 ∷ goto 21 ∷ label 23 ∷ leave ∷ [])) ≡ Merges ∷ []
loop_merge_of_switch = refl

-- Branches: one back to a block that is no loop's header, one back in front of the continue block, one into a selection, one out of a loop
-- to the merge block of the switch around it.
pub back_to_no_loop : broken (shader (goto 21 ∷ label 21 ∷ goto 21 ∷ [])) ≡ Branches ∷ []
back_to_no_loop = refl

pub back_too_early : broken (shader (goto 21 ∷ label 21 ∷ loop_to 24 23 ∷ goto 22 ∷ label 22 ∷ goto 21 ∷ label 23 ∷
    goto 21 ∷ label 24 ∷ leave ∷ [])) ≡ Branches ∷ []
back_too_early = refl

pub into_selection :
    broken (shader (goto 22 ∷ label 21 ∷ select_to 23 ∷ choose 22 23 ∷ label 22 ∷ goto 23 ∷ label 23 ∷ leave ∷ [])) ≡
    Branches ∷ []
into_selection = refl

pub out_of_loop : broken (shader (
    select_to 30 ∷ switch_to 30 (0 ∷ 21 ∷ []) ∷
    label 21 ∷ goto 22 ∷
    label 22 ∷ loop_to 25 24 ∷ goto 23 ∷
    label 23 ∷ goto 30 ∷
    label 24 ∷ goto 22 ∷
    label 25 ∷ goto 30 ∷
    label 30 ∷ leave ∷ [])) ≡ Branches ∷ []
out_of_loop = refl

-- Switch order: the targets turned, and a case that passes over the default.
pub turned : broken (shader (
    select_to 33 ∷ switch_to 33 (0 ∷ 32 ∷ 1 ∷ 30 ∷ []) ∷
    label 30 ∷ goto 32 ∷
    label 32 ∷ goto 33 ∷
    label 33 ∷ leave ∷ [])) ≡ SwitchOrder ∷ []
turned = refl

pub over_the_default : broken (shader (
    select_to 33 ∷ switch_to 31 (0 ∷ 30 ∷ 1 ∷ 32 ∷ []) ∷
    label 30 ∷ goto 32 ∷
    label 31 ∷ goto 32 ∷
    label 32 ∷ goto 33 ∷
    label 33 ∷ leave ∷ [])) ≡ SwitchOrder ∷ []
over_the_default = refl

-- Variables without an initializer, and of a class that no module has (UniformConstant 0).
pub no_initializer : broken (shader_of [] [] (instruction OpVariable (9 ∷ 40 ∷ Function ∷ []) ∷ []) (leave ∷ [])) ≡
    Variables ∷ []
no_initializer = refl

pub no_such_class : broken (shader_of [] (instruction OpTypePointer (50 ∷ 0 ∷ 5 ∷ []) ∷
    instruction OpVariable (50 ∷ 51 ∷ 0 ∷ []) ∷ []) [] (leave ∷ [])) ≡ Variables ∷ []
no_such_class = refl
