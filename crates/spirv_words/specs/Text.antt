-- A module and its text, a list of words (SPIR-V specification, unified1, section 2.3, Physical Layout).
use Rattle.std.specs.Prelude.{◌≡◌, ℕ, ◌+◌, ◌*◌, nat_eq, nat_lt, Bool, false, ◌&&◌, ◌||◌, List, [], ◌∷◌, ◌++◌, length, flat_map, Option, Some, None, IsTrue}
use Rattle.std.specs.List.{list_all}
use Rattle.word_base.specs.Words.{AreWords}
use Rattle.spirv_words.specs.Enumerants.{MagicNumber, Version13, Version14}
use Rattle.spirv_words.specs.Operations.{Op, number_of, layout_of, op_of}
use Rattle.spirv_words.specs.Layouts.{fits}

-- an instruction: its number and the words behind its first
pub record Instr : Type 0 where
  pub op : ℕ
  pub operands : List ℕ

abbrev pub instr : ℕ → List ℕ → Instr
instr op operands = record { op = op; operands = operands }

-- the instruction of that name, and whether one has that name
abbrev pub instruction : Op → List ℕ → Instr
instruction op operands = instr (number_of op) operands

abbrev pub is_op : Op → Instr → Bool
is_op op i = nat_eq i.op (number_of op)

-- A module. Its version is the header's second word.
pub record Module : Type 0 where
  pub version : ℕ
  pub bound : ℕ
  pub code : List Instr

-- the first word has the number of words in its high half and the instruction's number in its low half
abbrev pub words_of_instr : Instr → List ℕ
words_of_instr i = (65536 * (length i.operands + 1) + i.op) ∷ i.operands

abbrev pub words_of_code : List Instr → List ℕ
words_of_code code = flat_map words_of_instr code

-- the magic number, the version, no generator, the bound of the ids, and a word that is 0
abbrev pub header_of : Module → List ℕ
header_of m = MagicNumber ∷ m.version ∷ 0 ∷ m.bound ∷ 0 ∷ []

-- An instruction is one of the table, with operands that fit, and has at most 65,535 words.
abbrev pub fits_op : Option Op → List ℕ → Bool
fits_op None operands = false
fits_op (Some op) operands = fits (layout_of op) operands

abbrev pub is_instr : Instr → Bool
is_instr i = fits_op (op_of i.op) i.operands && nat_lt (length i.operands) 65535

abbrev pub IsInstr : Instr → Type 0
IsInstr i = IsTrue (is_instr i)

-- the versions 1.3 and 1.4
abbrev pub is_version : ℕ → Bool
is_version version = nat_eq version Version13 || nat_eq version Version14

-- These words are the module's text: its header, of either version, and then its instructions one after the other. Each is a number below
-- 2 ^ 32, so that the bytes of the text have this one module.
pub record IsTextOf (m : Module) (text : List ℕ) : Type 0 where
  pub words : AreWords text
  pub version : IsTrue (is_version m.version)
  pub is_text : text ≡ header_of m ++ words_of_code m.code
  pub instructions : IsTrue (list_all is_instr m.code)
