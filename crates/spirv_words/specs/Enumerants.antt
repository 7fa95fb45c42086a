-- Further numbers with names: versions, and those of modes, models, scopes and semantics (SPIR-V specification, unified1, sections 2.3, 3.3
-- to 3.6, 3.25, 3.27 and 3.31), and the instructions of GLSL.std.450 (SPIR-V extended instructions for GLSL).
use Rattle.std.specs.Prelude.{ℕ, List, [], ◌∷◌}

abbrev pub MagicNumber : ℕ
MagicNumber = 0x07230203

abbrev pub Version13 : ℕ
Version13 = 0x00010300

abbrev pub Version14 : ℕ
Version14 = 0x00010400

abbrev pub Shader : ℕ
Shader = 1

abbrev pub Logical : ℕ
Logical = 0

abbrev pub GLSL450 : ℕ
GLSL450 = 1

abbrev pub GLCompute : ℕ
GLCompute = 5

abbrev pub LocalSize : ℕ
LocalSize = 17

-- scopes
abbrev pub DeviceScope : ℕ
DeviceScope = 1

abbrev pub WorkgroupScope : ℕ
WorkgroupScope = 2

-- memory semantics: an order, with the memories that are ordered
abbrev pub AcquireRelease : ℕ
AcquireRelease = 0x8

abbrev pub UniformMemory : ℕ
UniformMemory = 0x40

abbrev pub WorkgroupMemory : ℕ
WorkgroupMemory = 0x100

-- the words of `GLSL.std.450` and of `main`, each ended by a zero byte and filled up with zero bytes
abbrev pub glsl_text : List ℕ
glsl_text = 0x4C534C47 ∷ 0x6474732E ∷ 0x3035342E ∷ 0 ∷ []

abbrev pub main_text : List ℕ
main_text = 0x6E69616D ∷ 0 ∷ []

abbrev pub FindILsb : ℕ
FindILsb = 73

abbrev pub FindSMsb : ℕ
FindSMsb = 74

abbrev pub FindUMsb : ℕ
FindUMsb = 75
