-- Which operands fit the parts of an instruction (SPIR-V specification, unified1, section 3, Instructions).
use Rattle.std.specs.Prelude.{◌≡◌, ℕ, nat_eq, if◌then◌else◌, Bool, true, false, ◌&&◌, ◌||◌, not, List, [], ◌∷◌, refl}
use Rattle.std.specs.List.{list_all}
use Rattle.word_base.specs.Words.{bytes_of_word}
use Rattle.spirv_words.specs.Roles.{Part, ResultType, Result, Use, Name, Literal, Text, OptionalUse, OptionalLiteral, Uses, Names, Literals, Targets}
use Rattle.spirv_words.specs.Operations.{OpEntryPoint, OpIAdd, OpSwitch, layout_of}

-- A text is ended by a zero byte and filled up with zero bytes to a whole word (section 2.2.1, Literal).
abbrev pub is_zero_filled : List ℕ → Bool
is_zero_filled [] = false
is_zero_filled (byte ∷ rest) = if nat_eq byte 0 then list_all (nat_eq 0) rest else is_zero_filled rest

abbrev pub ends_text : ℕ → Bool
ends_text word = is_zero_filled (bytes_of_word word)

abbrev pub has_no_zero : ℕ → Bool
has_no_zero word = list_all (λ byte. not (nat_eq byte 0)) (bytes_of_word word)

-- a word, or a text, or pairs stand in front, and what follows meets a test
abbrev pub has_word : (List ℕ → Bool) → List ℕ → Bool
has_word test [] = false
has_word test (word ∷ rest) = test rest

abbrev pub has_text : (List ℕ → Bool) → List ℕ → Bool
has_text test [] = false
has_text test (word ∷ rest) = (ends_text word && test rest) || (has_no_zero word && has_text test rest)

abbrev pub are_pairs : List ℕ → Bool
are_pairs [] = true
are_pairs (value ∷ []) = false
are_pairs (value ∷ label ∷ rest) = are_pairs rest

abbrev pub has_part : Part → (List ℕ → Bool) → List ℕ → Bool
has_part ResultType test words = has_word test words
has_part Result test words = has_word test words
has_part Use test words = has_word test words
has_part Name test words = has_word test words
has_part Literal test words = has_word test words
has_part Text test words = has_text test words
has_part OptionalUse test words = test words || has_word test words
has_part OptionalLiteral test words = test words || has_word test words
has_part Uses test words = true
has_part Names test words = true
has_part Literals test words = true
has_part Targets test words = are_pairs words

-- these words are operands of those parts
abbrev pub fits : List Part → List ℕ → Bool
fits [] [] = true
fits [] (word ∷ rest) = false
fits (part ∷ parts) words = has_part part (fits parts) words

-- Examples: a sum of two values; one operand too many; a text; a text with a byte behind its end; a case without its label.
pub sum_fits : fits (layout_of OpIAdd) (1 ∷ 9 ∷ 7 ∷ 8 ∷ []) ≡ true
sum_fits = refl

pub sum_of_three : fits (layout_of OpIAdd) (1 ∷ 9 ∷ 6 ∷ 7 ∷ 8 ∷ []) ≡ false
sum_of_three = refl

pub main_fits : fits (layout_of OpEntryPoint) (5 ∷ 1 ∷ 0x6E69616D ∷ 0 ∷ []) ≡ true
main_fits = refl

pub main_without_end : fits (layout_of OpEntryPoint) (5 ∷ 1 ∷ 0x6E69616D ∷ []) ≡ false
main_without_end = refl

pub behind_the_end : fits (layout_of OpEntryPoint) (5 ∷ 1 ∷ 0x6E69616D ∷ 0x100 ∷ []) ≡ false
behind_the_end = refl

pub half_a_case : fits (layout_of OpSwitch) (9 ∷ 4 ∷ 1 ∷ 5 ∷ 2 ∷ []) ≡ false
half_a_case = refl
