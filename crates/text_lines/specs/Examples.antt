-- Lines, parts and numbers, computed.
use Rattle.std.specs.Prelude.{◌≡◌, true, false, [], ◌∷◌, Some, None, codes, refl}
use Rattle.std.specs.Fmt.{decimal, digits}
use Rattle.std.specs.Str.Lines.{lines}
use Rattle.text_lines.specs.Lines.{is_line, joined, is_passed, has_outer_space}
use Rattle.text_lines.specs.Numbers.{number_of}
use Rattle.text_lines.specs.Parts.{parts, is_word, unspaced}

-- A CR stands before the LF of the first line, another one in the middle of the third, and the last line has no LF.
pub of_a_text : lines (codes "u0 1 4\r\n\n# a\rb\nt0") ≡ codes "u0 1 4" ∷ [] ∷ codes "# a\rb" ∷ codes "t0" ∷ []
of_a_text = refl

-- Behind the last LF stands no line, and a last line without one keeps its CR.
pub of_an_end : lines (codes "a\n") ≡ codes "a" ∷ []
of_an_end = refl

pub of_a_return : lines (codes "a\r") ≡ codes "a\r" ∷ []
of_a_return = refl

pub of_nothing : lines [] ≡ []
of_nothing = refl

pub of_joined : joined (codes "a b" ∷ [] ∷ codes "c" ∷ []) ≡ codes "a b\n\nc\n"
of_joined = refl

pub no_line : is_line (codes "a\r") ≡ false
no_line = refl

-- An empty line and a comment are passed over; a line of a space, and a mark behind a space, are not.
pub passes_empty : is_passed [] 35 ≡ true
passes_empty = refl

pub passes_comment : is_passed (codes "#u0 1 4") 35 ≡ true
passes_comment = refl

pub other_mark : is_passed (codes "#u0 1 4") 59 ≡ false
other_mark = refl

pub one_space : is_passed (codes " #") 35 ≡ false
one_space = refl

-- spaces around a line, and in it
pub in_front : has_outer_space (codes " u0 1 4") ≡ true
in_front = refl

pub at_end : has_outer_space (codes "u0 1 4 ") ≡ true
at_end = refl

pub inside : has_outer_space (codes "u0  1 4") ≡ false
inside = refl

pub empty_line : has_outer_space [] ≡ false
empty_line = refl

pub spaced : parts (codes "counter07   1 0004") ≡ codes "counter07" ∷ codes "1" ∷ codes "0004" ∷ []
spaced = refl

pub behind : unspaced (codes "  a b ") ≡ codes "a b "
behind = refl

pub spaces_alone : parts (codes "  ") ≡ []
spaces_alone = refl

pub no_word : is_word (codes "a b") ≡ false
no_word = refl

-- leading zeros, ten digits and eleven, and what is no digit
pub zeros : number_of (codes "0004") ≡ Some 4
zeros = refl

pub ten_digits : number_of (codes "4294967296") ≡ Some 4294967296
ten_digits = refl

pub eleven_digits : number_of (codes "00000000004") ≡ None
eleven_digits = refl

pub no_digits : number_of [] ≡ None
no_digits = refl

pub sign : number_of (codes "+4") ≡ None
sign = refl

pub written : decimal 4096 ≡ codes "4096"
unfolding digits
written = refl
