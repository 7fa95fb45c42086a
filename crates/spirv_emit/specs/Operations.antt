-- What single instructions and short sequences give, by the values of their operands.
use Rattle.word_base.specs.Alu.{all_ones, difference, truth_word}
use Rattle.std.specs.Prelude.{ℕ, ◌+◌, ◌*◌, ◌%◌, nat_eq, ◌^◌, nat_lt, if◌then◌else◌, List, [], ◌∷◌, Option, Some, None, Ok, Err, option_map}
use Rattle.spirv_words.specs.Operations.{Op, Row, op_of, row_of}
use Rattle.spirv_words.specs.Values.{Value, Word, Truth, Got, both, and_then, word_of, truth_of, extracted}
use Rattle.spirv_words.specs.Meanings.{Class, Unary, Binary, Ternary, Quaternary, OfTruth, OfTruths, class_of, extended}
use Rattle.spirv_emit.specs.Values.{Meaning}

-- the row of an instruction's number
abbrev pub row_at : ℕ → Option Row
row_at n = option_map row_of (op_of n)

-- what an instruction on words and truths gives
abbrev pub computed : Class → List Value → Got Value
computed (Unary f) (x ∷ []) = and_then (word_of (Some x)) f
computed (Binary f) (x ∷ y ∷ []) = and_then (both (word_of (Some x)) (word_of (Some y))) (λ p. f p.0 p.1)
computed (Ternary f) (x ∷ y ∷ z ∷ []) =
    and_then (both (word_of (Some x)) (both (word_of (Some y)) (word_of (Some z)))) (λ p. f p.0 p.1.0 p.1.1)
computed (Quaternary f) (x ∷ y ∷ z ∷ w ∷ []) =
    and_then (both (both (word_of (Some x)) (word_of (Some y))) (both (word_of (Some z)) (word_of (Some w))))
    (λ p. f p.0.0 p.0.1 p.1.0 p.1.1)
computed (OfTruth f) (x ∷ []) = and_then (truth_of (Some x)) (λ a. Ok (Truth (f a)))
computed (OfTruths f) (x ∷ y ∷ []) =
    and_then (both (truth_of (Some x)) (truth_of (Some y))) (λ p. Ok (Truth (f p.0 p.1)))
computed class vs = Err 8

abbrev pub computed_by : Option Op → List Value → Got Value
computed_by None vs = Err 8
computed_by (Some op) vs = computed (class_of op) vs

abbrev pub one_value : Got Value → Got (List Value)
one_value g = and_then g (λ v. Ok (v ∷ []))

abbrev pub calc : ℕ → Meaning
calc n z t vs = one_value (computed_by (op_of n) vs)

-- OpSelect, an extended instruction, and a part of a composite
abbrev pub chosen : List Value → Got Value
chosen (c ∷ x ∷ y ∷ []) =
    and_then (both (truth_of (Some c)) (both (word_of (Some x)) (word_of (Some y))))
    (λ p. Ok (Word (if p.0 then p.1.0 else p.1.1)))
chosen vs = Err 8

abbrev pub choosing : Meaning
choosing z t vs = one_value (chosen vs)

abbrev pub found : ℕ → List Value → Got Value
found n (x ∷ []) = and_then (word_of (Some x)) (extended n)
found n vs = Err 8

abbrev pub finding : ℕ → Meaning
finding n z t vs = one_value (found n vs)

abbrev pub part : ℕ → List Value → Got Value
part k (c ∷ []) = extracted (k ∷ []) c
part k vs = Err 8

abbrev pub taking : ℕ → Meaning
taking k z t vs = one_value (part k vs)

-- OPERATIONS OF THE TREE, on words below 2 ^ 32.
abbrev pub short : ℕ → Got (List Value) → Got (List Value)
short x g = if nat_lt x (2 ^ 32) then g else Err 0

abbrev pub on_word : (ℕ → ℕ) → Meaning
on_word f z t (x ∷ []) = and_then (word_of (Some x)) (λ a. short a (Ok (Word (f a) ∷ [])))
on_word f z t vs = Err 8

abbrev pub on_words : (ℕ → ℕ → Value) → Meaning
on_words f z t (x ∷ y ∷ []) =
    and_then (both (word_of (Some x)) (word_of (Some y))) (λ p. short p.0 (short p.1 (Ok (f p.0 p.1 ∷ []))))
on_words f z t vs = Err 8

abbrev pub on_three : (ℕ → ℕ → ℕ → ℕ) → Meaning
on_three f z t (x ∷ y ∷ u ∷ []) =
    and_then (both (word_of (Some x)) (both (word_of (Some y)) (word_of (Some u))))
    (λ p. short p.0 (short p.1.0 (short p.1.1 (Ok (Word (f p.0 p.1.0 p.1.1) ∷ [])))))
on_three f z t vs = Err 8

abbrev pub on_four : (ℕ → ℕ → ℕ → ℕ → ℕ) → Meaning
on_four f z t (x ∷ y ∷ u ∷ w ∷ []) =
    and_then (both (both (word_of (Some x)) (word_of (Some y))) (both (word_of (Some u)) (word_of (Some w))))
    (λ p. short p.0.0 (short p.0.1 (short p.1.0 (short p.1.1 (Ok (Word (f p.0.0 p.0.1 p.1.0 p.1.1) ∷ []))))))
on_four f z t vs = Err 8

-- SHORT SEQUENCES. The instruction on a word and the lowest five bits of another:
abbrev pub on_cut : ℕ → Meaning
on_cut n z t (x ∷ y ∷ []) = and_then (word_of (Some y)) (λ w. calc n z t (x ∷ Word (w % 32) ∷ []))
on_cut n z t vs = Err 8

-- the truth that the instruction gives, as a word
abbrev pub as_word : ℕ → Meaning
as_word n z t (x ∷ y ∷ []) =
    and_then (computed_by (op_of n) (x ∷ y ∷ []))
    (λ v. and_then (truth_of (Some v)) (λ b. Ok (Word (truth_word b) ∷ [])))
as_word n z t vs = Err 8

-- the second of two words where the instruction holds of them, in this order or the other, and else the first
abbrev pub second_where : ℕ → Meaning
second_where n z t (x ∷ y ∷ []) =
    and_then (computed_by (op_of n) (x ∷ y ∷ [])) (λ c. one_value (chosen (c ∷ y ∷ x ∷ [])))
second_where n z t vs = Err 8

abbrev pub second_unless : ℕ → Meaning
second_unless n z t (x ∷ y ∷ []) =
    and_then (computed_by (op_of n) (y ∷ x ∷ [])) (λ c. one_value (chosen (c ∷ y ∷ x ∷ [])))
second_unless n z t vs = Err 8

-- the number of the bit that the extended instruction finds, counted from above
abbrev pub from_above : ℕ → Meaning
from_above n z t vs =
    and_then (found n vs)
    (λ v. and_then (word_of (Some v))
    (λ w. Ok (Word (if nat_eq w all_ones then all_ones else difference 31 w) ∷ [])))

-- the second instruction on what the first, a shift, gives: of so many bits from the lowest one on
abbrev pub on_field : ℕ → ℕ → Meaning
on_field s n z t (w ∷ o ∷ x ∷ []) =
    and_then (both (word_of (Some w)) (word_of (Some o))) (λ p.
    and_then (computed_by (op_of s) (x ∷ Word (p.1 % 32) ∷ [])) (λ v. calc n z t (v ∷ Word 0 ∷ Word (p.0 % 32) ∷ [])))
on_field s n z t vs = Err 8

-- a quotient or rest, 0xFFFFFFFF where the divisor is 0
abbrev pub divided : ℕ → Meaning
divided n z t (x ∷ y ∷ []) =
    and_then (word_of (Some y)) (λ w.
    and_then (computed_by (op_of n) (x ∷ Word (if nat_eq w 0 then 1 else w) ∷ [])) (λ v.
    and_then (word_of (Some v)) (λ q. Ok (Word (if nat_eq w 0 then all_ones else q) ∷ []))))
divided n z t vs = Err 8

-- one of the two words that the instruction gives
abbrev pub part_of : ℕ → ℕ → Meaning
part_of n k z t (x ∷ y ∷ []) = and_then (computed_by (op_of n) (x ∷ y ∷ [])) (λ v. one_value (part k (v ∷ [])))
part_of n k z t vs = Err 8

-- a sum with a product, and the second word where the first is not 0, else the third
abbrev pub sum_of_product : Meaning
sum_of_product z t (x ∷ y ∷ u ∷ []) =
    and_then (both (word_of (Some x)) (both (word_of (Some y)) (word_of (Some u))))
    (λ p. Ok (Word ((p.0 * p.1.0 % 2 ^ 32 + p.1.1) % 2 ^ 32) ∷ []))
sum_of_product z t vs = Err 8

abbrev pub second_of_nonzero : Meaning
second_of_nonzero z t (x ∷ y ∷ u ∷ []) =
    and_then (both (word_of (Some x)) (both (word_of (Some y)) (word_of (Some u))))
    (λ p. Ok (Word (if nat_eq p.0 0 then p.1.1 else p.1.0) ∷ []))
second_of_nonzero z t vs = Err 8
