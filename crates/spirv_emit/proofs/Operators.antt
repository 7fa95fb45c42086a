-- The operations of the tree by what their instructions give.
use Rattle.std.proofs.Common.{◌≡◌, ℕ, zero, suc, ◌+◌, ◌-◌, ◌*◌, ◌/◌, ◌%◌, ◌^◌, ◌<◌, ◌≤◌, List, [], ◌∷◌, refl, sym, ap, ◌∙◌, subst, arith}
use Rattle.std.specs.Prelude.{Ok, nat_lt, nat_eq, nat_le, min, max, Bool, true, false, not, if◌then◌else◌}
use Rattle.std.proofs.lemmas.Bool.Decides.{nat_tests}
use Rattle.std.proofs.lemmas.Nat.{mul-lt}
use Rattle.word_base.specs.Bits.{zeros_above}
use Rattle.word_base.specs.Alu.{all_ones, difference, complement, truth_word, first_high, unary, binary, ternary, inserted_field, with_bits, pair, widened}
use Rattle.word_base.specs.declared.arithmetic.Unary.{Unary}
use Rattle.word_base.specs.declared.arithmetic.Unary.TheVariants as one
use Rattle.word_base.specs.declared.arithmetic.Binary.{Binary}
use Rattle.word_base.specs.declared.arithmetic.Binary.TheVariants as two
use Rattle.word_base.specs.declared.arithmetic.Ternary.{Ternary}
use Rattle.word_base.specs.declared.arithmetic.Ternary.TheVariants as three
use Rattle.word_base.specs.declared.arithmetic.Paired.{Paired}
use Rattle.word_base.specs.declared.arithmetic.Paired.TheVariants as paired
use Rattle.shader_tree.specs.Values.{Words}
use Rattle.spirv_words.specs.Values.{Value, Word, Got}
use Rattle.spirv_words.specs.Meanings.{highest_one}
use Rattle.spirv_emit.specs.Emission.{Emission}
use Rattle.spirv_emit.specs.Lanes.{Site}
use Rattle.spirv_emit.specs.Operations.{calc, on_word, on_words, on_three, on_four, on_cut, as_word, second_where, second_unless, from_above, on_field, divided, part_of}
use Rattle.spirv_emit.specs.Values.{a_word, Meaning, Gives}
use Rattle.spirv_emit.proofs.Fields.{unsigned, signed}
use Rattle.spirv_emit.proofs.Giving.{weaker}
use Rattle.spirv_emit.proofs.Groups.{insert_by}
use Rattle.spirv_emit.proofs.Values.{by_one, by_two, by_three, by_four, cut}

abbrev the_list : List Value → Got (List Value)
the_list ws = Ok ws

-- AN OPERATION by what its code gives on words.
abbrev pub OnOne : Meaning → (ℕ → ℕ) → Type 0
OnOne F f = (z : Site) (t : Words) (x : ℕ) → x < 2 ^ 32 → F z t (Word x ∷ []) ≡ Ok (Word (f x) ∷ [])

abbrev pub OnTwo : Meaning → (ℕ → ℕ → ℕ) → Type 0
OnTwo F f = (z : Site) (t : Words) (x y : ℕ) → x < 2 ^ 32 → y < 2 ^ 32 → F z t (Word x ∷ Word y ∷ []) ≡ Ok (Word (f x y) ∷ [])

abbrev pub OnThree : Meaning → (ℕ → ℕ → ℕ → ℕ) → Type 0
OnThree F f =
    (z : Site) (t : Words) (x y w : ℕ) → x < 2 ^ 32 → y < 2 ^ 32 → w < 2 ^ 32
    → F z t (Word x ∷ Word y ∷ Word w ∷ []) ≡ Ok (Word (f x y w) ∷ [])

module _ (a b : Emission) (F : Meaning) where
  pub one_by : (x r : ℕ) (op o : Unary) → op ≡ o → OnOne F (unary o) → Gives a b (a_word x ∷ []) (a_word r ∷ []) F
      → Gives a b (a_word x ∷ []) (a_word r ∷ []) (on_word (unary op))
  one_by x r op o e h g =
      subst (λ o. Gives a b (a_word x ∷ []) (a_word r ∷ []) (on_word (unary o))) (sym e)
      (weaker a b _ _ F (on_word (unary o)) (λ z w t ht vs ws q. by_one F z t (unary o) (h z t) vs ws q) g)

  pub two_by : (x y r : ℕ) (op o : Binary) → op ≡ o → OnTwo F (binary o) → Gives a b (a_word x ∷ a_word y ∷ []) (a_word r ∷ []) F
      → Gives a b (a_word x ∷ a_word y ∷ []) (a_word r ∷ []) (on_words (λ x y. Word (binary op x y)))
  two_by x y r op o e h g =
      subst (λ o. Gives a b (a_word x ∷ a_word y ∷ []) (a_word r ∷ []) (on_words (λ x y. Word (binary o x y)))) (sym e)
      (weaker a b _ _ F (on_words (λ x y. Word (binary o x y))) (λ z w t ht vs ws q. by_two F z t (λ x y. Word (binary o x y)) (h z t) vs ws q) g)

  pub three_by : (x y w r : ℕ) (op o : Ternary) → op ≡ o → OnThree F (ternary o) → Gives a b (a_word x ∷ a_word y ∷ a_word w ∷ []) (a_word r ∷ []) F
      → Gives a b (a_word x ∷ a_word y ∷ a_word w ∷ []) (a_word r ∷ []) (on_three (ternary op))
  three_by x y w r op o e h g =
      subst (λ o. Gives a b (a_word x ∷ a_word y ∷ a_word w ∷ []) (a_word r ∷ []) (on_three (ternary o))) (sym e)
      (weaker a b _ _ F (on_three (ternary o)) (λ z u t ht vs ws q. by_three F z t (ternary o) (h z t) vs ws q) g)

  pub first_by : (x y r : ℕ) (op o : Paired) → op ≡ o → OnTwo F (λ x y. (pair o x y).first) → Gives a b (a_word x ∷ a_word y ∷ []) (a_word r ∷ []) F
      → Gives a b (a_word x ∷ a_word y ∷ []) (a_word r ∷ []) (on_words (λ x y. Word (pair op x y).first))
  first_by x y r op o e h g =
      subst (λ o. Gives a b (a_word x ∷ a_word y ∷ []) (a_word r ∷ []) (on_words (λ x y. Word (pair o x y).first))) (sym e)
      (weaker a b _ _ F (on_words (λ x y. Word (pair o x y).first)) (λ z w t ht vs ws q. by_two F z t (λ x y. Word (pair o x y).first)
      (h z t) vs ws q) g)

  pub second_by : (x y r : ℕ) (op o : Paired) → op ≡ o → OnTwo F (λ x y. (pair o x y).second) → Gives a b (a_word x ∷ a_word y ∷ []) (a_word r ∷ []) F
      → Gives a b (a_word x ∷ a_word y ∷ []) (a_word r ∷ []) (on_words (λ x y. Word (pair op x y).second))
  second_by x y r op o e h g =
      subst (λ o. Gives a b (a_word x ∷ a_word y ∷ []) (a_word r ∷ []) (on_words (λ x y. Word (pair o x y).second))) (sym e)
      (weaker a b _ _ F (on_words (λ x y. Word (pair o x y).second)) (λ z w t ht vs ws q. by_two F z t (λ x y. Word (pair o x y).second)
      (h z t) vs ws q) g)

  pub insert_as : (w o i v r : ℕ) → ((z : Site) (t : Words) (x y u q : ℕ) → x < 2 ^ 32 → y < 2 ^ 32 → u < 2 ^ 32 → q < 2 ^ 32
      → F z t (Word x ∷ Word y ∷ Word u ∷ Word q ∷ []) ≡ Ok (Word (inserted_field x y u q) ∷ []))
      → Gives a b (a_word w ∷ a_word o ∷ a_word i ∷ a_word v ∷ []) (a_word r ∷ []) F
      → Gives a b (a_word w ∷ a_word o ∷ a_word i ∷ a_word v ∷ []) (a_word r ∷ []) (on_four inserted_field)
  insert_as w o i v r h g =
      weaker a b _ _ F (on_four inserted_field) (λ z u t ht vs ws q. by_four F z t inserted_field (h z t) vs ws q) g

-- ONE WORD.
zeros_at_most : (n a : ℕ) → zeros_above n a ≤ n
unfolding zeros_above
zeros_at_most zero a = omega arith
zeros_at_most (suc n) a = by (nat_lt a (2 ^ n)) (zeros_at_most n a) where
  by : (b : Bool) → zeros_above n a ≤ n → (if b then zeros_above n a + 1 else 0) ≤ suc n
  by true h = omega (arith, h)
  by false h = omega arith

zeros_few : (n a : ℕ) → 0 < a → zeros_above (suc n) a ≤ n
unfolding zeros_above
zeros_few zero a p = by (nat_lt a 1) refl where
  by : (b : Bool) → nat_lt a 1 ≡ b → (if b then 0 + 1 else 0) ≤ 0
  by true e = grind (arith, nat_tests, e, p)
  by false e = omega arith
zeros_few (suc n) a p = by (nat_lt a (2 ^ suc n)) (zeros_few n a p) where
  by : (b : Bool) → zeros_above (suc n) a ≤ n → (if b then zeros_above (suc n) a + 1 else 0) ≤ suc n
  by true h = omega (arith, h)
  by false h = omega arith

-- the number of the highest bit, counted from above
from_top : (y : ℕ) → (if nat_eq (highest_one y) all_ones then all_ones else difference 31 (highest_one y)) ≡ first_high y
from_top y = by (nat_eq y 0) refl where
  by : (b : Bool) → nat_eq y 0 ≡ b
      → (if nat_eq (if b then all_ones else 31 - zeros_above 32 y) all_ones then all_ones else difference 31
      (if b then all_ones else 31 - zeros_above 32 y))
      ≡ (if b then all_ones else zeros_above 32 y)
  by true e = refl
  by false e =
      let few = zeros_few 31 y (grind (arith, nat_tests, e)) in
      let k = 31 - zeros_above 32 y in
      let small : k ≤ 31 = omega arith in
      let no' : nat_eq k all_ones ≡ false = grind (arith, nat_tests, small) in
      let d : difference 31 k ≡ zeros_above 32 y = omega (arith, few) in
      ap (λ b. if b then all_ones else difference 31 k) no' ∙ d

pub ineg : OnOne (λ z t vs. calc 130 z t (Word 0 ∷ vs)) (unary one.Ineg)
ineg z t x h = refl

pub firstbit_hi : OnOne (from_above 75) (unary one.FirstbitHi)
firstbit_hi z t x h = ap (λ n. Ok (Word n ∷ [])) (from_top x)

pub firstbit_shi : OnOne (from_above 74) (unary one.FirstbitShi)
firstbit_shi z t x h = by (nat_lt x (2 ^ 31)) where
  by : (b : Bool) → Ok (Word (let y = if b then highest_one x else highest_one (complement x) in if nat_eq y all_ones then all_ones else difference 31
      y) ∷ [])
      ≡ the_list (Word (if b then first_high x else first_high (complement x)) ∷ [])
  by true = ap (λ n. Ok (Word n ∷ [])) (from_top x)
  by false = ap (λ n. Ok (Word n ∷ [])) (from_top (complement x))

-- TWO WORDS.
five : (y : ℕ) → nat_lt (y % 32) 32 ≡ true
five y = let lt : y % 32 < 32 = omega arith in grind (arith, nat_tests, lt)

pub ishl : OnTwo (on_cut 196) (binary two.Ishl)
ishl z t x y h k = rw (five y) refl

pub ishr : OnTwo (on_cut 195) (binary two.Ishr)
ishr z t x y h k = rw (five y) refl

pub ushr : OnTwo (on_cut 194) (binary two.Ushr)
ushr z t x y h k = rw (five y) refl

pub ine : OnTwo (as_word 171) (binary two.Ine)
ine z t x y h k = by (nat_eq x y) where
  by : (b : Bool) → Ok (Word (truth_word (not b)) ∷ []) ≡ the_list (Word (if b then 0 else all_ones) ∷ [])
  by true = refl
  by false = refl

greater : (x y : ℕ) → (if nat_lt x y then y else x) ≡ max x y
greater x y = by (nat_lt x y) refl where
  by : (b : Bool) → nat_lt x y ≡ b → (if b then y else x) ≡ max x y
  by true e = let lt : x < y = grind (arith, nat_tests, e) in omega (arith, lt)
  by false e = let le : y ≤ x = grind (arith, nat_tests, e) in omega (arith, le)

lesser : (x y : ℕ) → (if nat_lt y x then y else x) ≡ min x y
lesser x y = by (nat_lt y x) refl where
  by : (b : Bool) → nat_lt y x ≡ b → (if b then y else x) ≡ min x y
  by true e = let lt : y < x = grind (arith, nat_tests, e) in omega (arith, lt)
  by false e = let le : x ≤ y = grind (arith, nat_tests, e) in omega (arith, le)

pub umax : OnTwo (second_where 176) (binary two.Umax)
umax z t x y h k = ap (λ n. Ok (Word n ∷ [])) (greater x y)

pub umin : OnTwo (second_unless 176) (binary two.Umin)
umin z t x y h k = ap (λ n. Ok (Word n ∷ [])) (lesser x y)

-- THREE AND FOUR.
pub product_is : (x y w : ℕ) → the_list (Word ((x * y % 2 ^ 32 + w) % 2 ^ 32) ∷ []) ≡ Ok (Word ((x * y + w) % 2 ^ 32) ∷ [])
product_is x y w = ap (λ n. the_list (Word n ∷ [])) (omega arith)

in_word : (w : ℕ) → nat_le (0 + w % 32) 32 ≡ true
in_word w = let le : 0 + w % 32 ≤ 32 = omega arith in grind (arith, nat_tests, le)

pub ubfe : OnThree (on_field 194 203) (ternary three.Ubfe)
ubfe z t w o x h k l = rw (five o, in_word w) (ap (λ n. Ok (Word n ∷ [])) (unsigned (w % 32) (o % 32) x l))

pub ibfe : OnThree (on_field 195 202) (ternary three.Ibfe)
ibfe z t w o x h k l = rw (five o, in_word w) (ap (λ n. Ok (Word n ∷ [])) (signed (w % 32) (o % 32) x (omega arith) (omega arith) l))

-- the width of a field that ends with the word at the latest
counted : (w o : ℕ) → w < 32 → o < 32 → (c : ℕ) → c ≡ (if nat_lt w (difference 32 o) then w else difference 32 o) → o + c ≡ min (o + w) 32
counted w o h k c e = by (nat_lt w (difference 32 o)) refl e where
  rest : difference 32 o ≡ 32 - o
  rest = omega (arith, k)

  by : (b : Bool) → nat_lt w (difference 32 o) ≡ b → c ≡ (if b then w else difference 32 o) → o + c ≡ min (o + w) 32
  by true q e = let lt : w < difference 32 o = grind (arith, nat_tests, q) in omega (arith, lt, rest, e)
  by false q e = let le : difference 32 o ≤ w = grind (arith, nat_tests, q) in omega (arith, le, rest, e, k)

pub inserted : (z : Site) (t : Words) (w o i v : ℕ) → w < 2 ^ 32 → o < 2 ^ 32 → i < 2 ^ 32 → v < 2 ^ 32
    → insert_by z t (Word w ∷ Word o ∷ Word i ∷ Word v ∷ []) ≡ Ok (Word (inserted_field w o i v) ∷ [])
inserted z t w o i v h k l m =
    let c = if nat_lt (w % 32) (difference 32 (o % 32)) then w % 32 else difference 32 (o % 32) in
    let e : o % 32 + c ≡ min (o % 32 + w % 32) 32 = counted (w % 32) (o % 32) (omega arith) (omega arith) c refl in
    let fits : nat_le (o % 32 + c) 32 ≡ true = (let le : o % 32 + c ≤ 32 = omega (arith, e) in grind (arith, nat_tests, le)) in
    rw (cut w, cut o, fits) (ap (λ n. Ok (Word (with_bits (o % 32) n i v) ∷ [])) e)

-- TWO RESULTS.
product_short : (x y : ℕ) → x < 2 ^ 32 → y < 2 ^ 32 → x * y / 2 ^ 32 % 2 ^ 32 ≡ x * y / 2 ^ 32
product_short x y h k = let lt = mul-lt x y (2 ^ 32) (2 ^ 32) h k in omega (arith, lt)

pub umul_first : OnTwo (part_of 151 1) (λ x y. (pair paired.Umul x y).first)
umul_first z t x y h k = ap (λ n. Ok (Word n ∷ [])) (product_short x y h k)

pub imul_first : OnTwo (part_of 152 1) (λ x y. (pair paired.Imul x y).first)
imul_first z t x y h k =
    let n = widened x * widened y % 2 ^ 64 in
    let e : n / 2 ^ 32 % 2 ^ 32 ≡ n / 2 ^ 32 = omega arith in
    ap (λ n. Ok (Word n ∷ [])) e

pub uaddc_second : OnTwo (part_of 149 1) (λ x y. (pair paired.Uaddc x y).second)
uaddc_second z t x y h k =
    let e : (x + y) / 2 ^ 32 % 2 ^ 32 ≡ (x + y) / 2 ^ 32 = omega (arith, h, k) in
    ap (λ n. Ok (Word n ∷ [])) e

pub imul_second : OnTwo (part_of 152 0) (λ x y. (pair paired.Imul x y).second)
imul_second z t x y h k = refl

pub usubb_second : OnTwo (part_of 150 1) (λ x y. (pair paired.Usubb x y).second)
usubb_second z t x y h k = refl

above_zero : (y : ℕ) → nat_eq y 0 ≡ false → nat_lt 0 y ≡ true
above_zero y e = let p : 0 < y = grind (arith, nat_tests, e) in grind (arith, nat_tests, p)

pub udiv_first : OnTwo (divided 134) (λ x y. (pair paired.Udiv x y).first)
udiv_first z t x y h k = by (nat_eq y 0) refl where
  by : (b : Bool) → nat_eq y 0 ≡ b → divided 134 z t (Word x ∷ Word y ∷ []) ≡ Ok (Word (pair paired.Udiv x y).first ∷ [])
  by true e = rw e refl
  by false e = rw (e, above_zero y e) refl

pub udiv_second : OnTwo (divided 137) (λ x y. (pair paired.Udiv x y).second)
udiv_second z t x y h k = by (nat_eq y 0) refl where
  by : (b : Bool) → nat_eq y 0 ≡ b → divided 137 z t (Word x ∷ Word y ∷ []) ≡ Ok (Word (pair paired.Udiv x y).second ∷ [])
  by true e = rw e refl
  by false e = rw (e, above_zero y e) refl
