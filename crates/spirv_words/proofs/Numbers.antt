-- The numbers of instructions.
use Rattle.std.proofs.Common.{◌≡◌, ℕ, ◌<◌, Bool, true, false, if◌then◌else◌, List, [], ◌∷◌, ◌++◌, Option, Some, None, nat_eq, nat_lt, length, arith, refl, sym, ap, ◌∙◌}
use Rattle.std.proofs.lemmas.Bool.{eqb-true, ltb-true, and_parts}
use Rattle.std.proofs.lemmas.List.{append_assoc}
use Rattle.spirv_words.specs.Operations.{Op, OpCapability, number_of, all_ops, op_among, op_of}
use Rattle.spirv_words.specs.Text.{instr, fits_op, IsInstr}

-- one step of a look-up
by_test : (n : ℕ) (o op : Op) (rest : Option Op) (b : Bool)
    → nat_eq (number_of o) n ≡ b → (rest ≡ Some op → number_of op ≡ n) → (if b then Some o else rest) ≡ Some op → number_of op ≡ n
by_test n o op rest true h ih e = let same : o ≡ op = cc in ap number_of (sym same) ∙ eqb-true (number_of o) n h
by_test n o op rest false h ih e = ih e

-- what a look-up finds has that number
pub named_number : (ops : List Op) (n : ℕ) (op : Op) → op_among ops n ≡ Some op → number_of op ≡ n
named_number [] n op e = absurd cc
named_number (o ∷ os) n op e = by_test n o op (op_among os n) (nat_eq (number_of o) n) refl (named_number os n op) e

pub number_below : (op : Op) → number_of op < 256
number_below OpCapability = omega arith
number_below op = omega arith

pub op_again : (op : Op) → op_of (number_of op) ≡ Some op
op_again OpCapability = refl
op_again op = refl

pub short_number : (n : ℕ) (op : Op) → op_of n ≡ Some op → n < 256
short_number n op e = grind (arith, named_number all_ops n op e, number_below op)

-- a first word and those behind it, written one after the other
pub joined : (xs : List ℕ) (w : ℕ) (ys : List ℕ) → (xs ++ w ∷ []) ++ ys ≡ xs ++ w ∷ ys
joined xs w ys = append_assoc xs (w ∷ []) ys

pub found : (n : ℕ) (op : Op) → op_of n ≡ Some op → number_of op ≡ n
found n op e = named_number all_ops n op e

-- the number and the length of an instruction of the table
fits_number : (n : ℕ) (o : Option Op) (operands : List ℕ) → op_of n ≡ o → fits_op o operands ≡ true → n < 256
fits_number n None operands e h = absurd cc
fits_number n (Some op) operands e h = short_number n op e

-- an instruction's number and its operands, from the test that it is one
pub number_is_short : (op : ℕ) (operands : List ℕ) → IsInstr (instr op operands) → op < 256
number_is_short op operands h = fits_number op (op_of op) operands refl (and_parts (fits_op (op_of op) operands) (nat_lt (length operands) 65535) h).0

pub operands_are_short : (op : ℕ) (operands : List ℕ) → IsInstr (instr op operands) → length operands < 65535
operands_are_short op operands h = ltb-true (length operands) 65535 (and_parts (fits_op (op_of op) operands) (nat_lt (length operands) 65535) h).1
