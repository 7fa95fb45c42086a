-- The smallest module: a compute shader that returns at once, with its thread group's size.
use Rattle.std.specs.Prelude.{◌≡◌, ℕ, [], ◌∷◌, ◌++◌, refl}
use Rattle.spirv_words.specs.Enumerants.{GLCompute, GLSL450, LocalSize, Logical, Shader, main_text}
use Rattle.spirv_words.specs.Operations.{OpCapability, OpEntryPoint, OpExecutionMode, OpFunction, OpFunctionEnd, OpLabel, OpMemoryModel, OpReturn, OpTypeFunction, OpTypeVoid}
use Rattle.spirv_words.specs.Text.{Module, instruction, header_of, words_of_code}

-- The ids are 1 for the function `main`, 2 for void, 3 for the function's type and 4 for its block.
abbrev pub smallest : ℕ → ℕ → ℕ → ℕ → Module
smallest version x y z = record {
  version = version;
  bound = 5;
  code =
      instruction OpCapability (Shader ∷ []) ∷
      instruction OpMemoryModel (Logical ∷ GLSL450 ∷ []) ∷
      instruction OpEntryPoint (GLCompute ∷ 1 ∷ main_text) ∷
      instruction OpExecutionMode (1 ∷ LocalSize ∷ x ∷ y ∷ z ∷ []) ∷
      instruction OpTypeVoid (2 ∷ []) ∷
      instruction OpTypeFunction (3 ∷ 2 ∷ []) ∷
      instruction OpFunction (2 ∷ 1 ∷ 0 ∷ 3 ∷ []) ∷
      instruction OpLabel (4 ∷ []) ∷
      instruction OpReturn [] ∷
      instruction OpFunctionEnd [] ∷ [];
}

-- its words, by hand
pub smallest_words : header_of (smallest 0x00010300 8 4 1) ++ words_of_code (smallest 0x00010300 8 4 1).code ≡
    0x07230203 ∷ 0x00010300 ∷ 0 ∷ 5 ∷ 0 ∷
    0x00020011 ∷ 1 ∷
    0x0003000E ∷ 0 ∷ 1 ∷
    0x0005000F ∷ 5 ∷ 1 ∷ 0x6E69616D ∷ 0 ∷
    0x00060010 ∷ 1 ∷ 17 ∷ 8 ∷ 4 ∷ 1 ∷
    0x00020013 ∷ 2 ∷
    0x00030021 ∷ 3 ∷ 2 ∷
    0x00050036 ∷ 2 ∷ 1 ∷ 0 ∷ 3 ∷
    0x000200F8 ∷ 4 ∷
    0x000100FD ∷
    0x00010038 ∷ []
smallest_words = refl
