-- A module whose ids are no words: it has the form, and it has no text. (As bytes its ids would all read as 1.)
use Rattle.std.specs.Prelude.{◌≡◌, ◌+◌, ◌*◌, ◌^◌, nat_lt, false, [], ◌∷◌, ◌++◌, refl}
use Rattle.std.specs.List.{list_all}
use Rattle.word_base.specs.Settings.{axes}
use Rattle.spirv_words.specs.Enumerants.{GLCompute, GLSL450, LocalSize, Logical, Shader, Version13, main_text}
use Rattle.spirv_words.specs.Operations.{OpCapability, OpEntryPoint, OpExecutionMode, OpFunction, OpFunctionEnd, OpLabel, OpMemoryModel, OpReturn, OpTypeFunction, OpTypeVoid}
use Rattle.spirv_words.specs.Text.{Module, instruction, header_of, words_of_code}
use Rattle.spirv_words.specs.Variables.{nothing_wanted}
use Rattle.spirv_words.specs.Broken.{broken_in}

abbrev pub wide : Module
wide = record {
  version = Version13;
  bound = 5 * 2 ^ 32;
  code =
      instruction OpCapability (Shader ∷ []) ∷
      instruction OpMemoryModel (Logical ∷ GLSL450 ∷ []) ∷
      instruction OpEntryPoint (GLCompute ∷ (2 ^ 32 + 1) ∷ main_text) ∷
      instruction OpExecutionMode ((2 ^ 32 + 1) ∷ LocalSize ∷ 8 ∷ 4 ∷ 1 ∷ []) ∷
      instruction OpTypeVoid ((2 * 2 ^ 32 + 1) ∷ []) ∷
      instruction OpTypeFunction ((3 * 2 ^ 32 + 1) ∷ (2 * 2 ^ 32 + 1) ∷ []) ∷
      instruction OpFunction ((2 * 2 ^ 32 + 1) ∷ (2 ^ 32 + 1) ∷ 0 ∷ (3 * 2 ^ 32 + 1) ∷ []) ∷
      instruction OpLabel ((4 * 2 ^ 32 + 1) ∷ []) ∷
      instruction OpReturn [] ∷
      instruction OpFunctionEnd [] ∷ [];
}

pub wide_has_form : broken_in Version13 (axes 8 4 1) nothing_wanted wide ≡ []
wide_has_form = refl

pub wide_numbers : list_all (λ w. nat_lt w (2 ^ 32)) (header_of wide ++ words_of_code wide.code) ≡ false
wide_numbers = refl
