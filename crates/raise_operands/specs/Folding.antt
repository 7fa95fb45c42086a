-- Words that are added, computed and chosen: of literals alone they are literals.
use Rattle.std.specs.Prelude.{ℕ, ◌+◌, ◌%◌, ◌^◌, nat_eq, if◌then◌else◌, Option, Some, None}
use Rattle.word_base.specs.declared.arithmetic.Unary.{Unary}
use Rattle.word_base.specs.declared.arithmetic.Unary.TheVariants.{Mov}
use Rattle.word_base.specs.declared.arithmetic.Binary.{Binary}
use Rattle.word_base.specs.declared.arithmetic.Binary.TheVariants.{Iadd}
use Rattle.word_base.specs.declared.arithmetic.Ternary.{Ternary}
use Rattle.word_base.specs.declared.arithmetic.Paired.{Paired}
use Rattle.word_base.specs.Alu.{unary, binary, ternary, inserted_field, pair}
use Rattle.shader_tree.specs.declared.node.Comparison.TheVariants.{Unequal}
use Rattle.shader_tree.specs.Terms.{Term, Word, One, Two, Three, Insert, First, Second, Pick, Compare}

-- the word of a term that is a literal
abbrev pub literal : Term → Option ℕ
literal (Word w) = Some w
literal other = None

-- a word and a number, added modulo 2 ^ 32
abbrev pub added_by : Option ℕ → Term → ℕ → Term
added_by (Some w) a n = Word ((w + n) % 2 ^ 32)
added_by None a n = if nat_eq n 0 then a else Two Iadd a (Word n)

abbrev pub added : Term → ℕ → Term
added a n = added_by (literal a) a n

-- operations; a move is its word
abbrev pub unary_by : Option ℕ → Unary → Term → Term
unary_by (Some x) op a = Word (unary op x)
unary_by None op a = One op a

abbrev pub unary_of : Unary → Term → Term
unary_of Mov a = a
unary_of op a = unary_by (literal a) op a

abbrev pub binary_by : Option ℕ → Option ℕ → Binary → Term → Term → Term
binary_by (Some x) (Some y) op a b = Word (binary op x y)
binary_by x y op a b = Two op a b

abbrev pub binary_of : Binary → Term → Term → Term
binary_of op a b = binary_by (literal a) (literal b) op a b

abbrev pub ternary_by : Option ℕ → Option ℕ → Option ℕ → Ternary → Term → Term → Term → Term
ternary_by (Some x) (Some y) (Some z) op a b c = Word (ternary op x y z)
ternary_by x y z op a b c = Three op a b c

abbrev pub ternary_of : Ternary → Term → Term → Term → Term
ternary_of op a b c = ternary_by (literal a) (literal b) (literal c) op a b c

abbrev pub insert_by : Option ℕ → Option ℕ → Option ℕ → Option ℕ → Term → Term → Term → Term → Term
insert_by (Some w) (Some o) (Some x) (Some y) a b c d = Word (inserted_field w o x y)
insert_by w o x y a b c d = Insert a b c d

abbrev pub insert_of : Term → Term → Term → Term → Term
insert_of a b c d = insert_by (literal a) (literal b) (literal c) (literal d) a b c d

abbrev pub first_by : Option ℕ → Option ℕ → Paired → Term → Term → Term
first_by (Some x) (Some y) op a b = Word (pair op x y).first
first_by x y op a b = First op a b

abbrev pub first_of : Paired → Term → Term → Term
first_of op a b = first_by (literal a) (literal b) op a b

abbrev pub second_by : Option ℕ → Option ℕ → Paired → Term → Term → Term
second_by (Some x) (Some y) op a b = Word (pair op x y).second
second_by x y op a b = Second op a b

abbrev pub second_of : Paired → Term → Term → Term
second_of op a b = second_by (literal a) (literal b) op a b

-- the first of two words where a word is 0, and else the second
abbrev pub chosen_by : Option ℕ → Term → Term → Term → Term
chosen_by (Some x) on a b = if nat_eq x 0 then a else b
chosen_by None on a b = Pick (Compare Unequal on (Word 0)) b a

abbrev pub chosen : Term → Term → Term → Term
chosen on a b = chosen_by (literal on) on a b
