-- Values that were got, and what operations of the tree and sequences of instructions compute.
use Rattle.std.proofs.Common.{◌≡◌, ℕ, zero, suc, ◌/◌, ◌%◌, ◌^◌, ◌<◌, List, [], ◌∷◌, Some, refl, ap, ◌∙◌, arith}
use Rattle.std.specs.Prelude.{Ok, Err, nat_lt, min, Bool, true, false, if◌then◌else◌}
use Rattle.std.proofs.lemmas.Bool.Decides.{nat_tests}
use Rattle.word_base.specs.Bits.{bit_by_bit}
use Rattle.word_base.specs.Alu.{and_of}
use Rattle.shader_tree.specs.Values.{Words}
use Rattle.spirv_words.specs.Values.{Value, Word, Truth, NoParts, Part, AtLocal, AtRoom, AtConstants, AtPush, AtInput, Got, both, word_of, truth_of}
use Rattle.spirv_emit.specs.Lanes.{Site}
use Rattle.spirv_emit.specs.Values.{Meaning}
use Rattle.spirv_emit.specs.Operations.{short, on_word, on_words, on_three, on_four}
use Rattle.spirv_emit.proofs.Giving.{and_then_ok}

pub word_is : (v : Value) (w : ℕ) → word_of (Some v) ≡ Ok w → v ≡ Word w
word_is (Word x) w e = ap Word (cc e)
word_is (Truth b) w e = absurd (cc e)
word_is NoParts w e = absurd (cc e)
word_is (Part v others) w e = absurd (cc e)
word_is (AtLocal v x) w e = absurd (cc e)
word_is (AtRoom r x) w e = absurd (cc e)
word_is (AtConstants s x) w e = absurd (cc e)
word_is (AtPush x) w e = absurd (cc e)
word_is (AtInput k x) w e = absurd (cc e)

pub truth_is : (v : Value) (b : Bool) → truth_of (Some v) ≡ Ok b → v ≡ Truth b
truth_is (Truth x) w e = ap Truth (cc e)
truth_is (Word b) w e = absurd (cc e)
truth_is NoParts w e = absurd (cc e)
truth_is (Part v others) w e = absurd (cc e)
truth_is (AtLocal v x) w e = absurd (cc e)
truth_is (AtRoom r x) w e = absurd (cc e)
truth_is (AtConstants s x) w e = absurd (cc e)
truth_is (AtPush x) w e = absurd (cc e)
truth_is (AtInput k x) w e = absurd (cc e)

abbrev left : {X Y : Type 0} → Got (X × Y) → Got X
left (Ok p) = Ok p.0
left (Err n) = Err n

abbrev right : {X Y : Type 0} → Got (X × Y) → Got Y
right (Ok p) = Ok p.1
right (Err n) = Err n

pub both_ok : {X Y : Type 0} (p : Got X) (q : Got Y) (r : X × Y) → both p q ≡ Ok r → (p ≡ Ok r.0) × (q ≡ Ok r.1)
both_ok (Ok x) (Ok y) r e = (ap left e, ap right e)
both_ok (Ok x) (Err n) r e = absurd (cc e)
both_ok (Err n) (Ok y) r e = absurd (cc e)
both_ok (Err n) (Err k) r e = absurd (cc e)

-- a number that is short, and what follows
short_ok : (x : ℕ) (g : Got (List Value)) (ws : List Value) → short x g ≡ Ok ws → (x < 2 ^ 32) × (g ≡ Ok ws)
short_ok x g ws e = by (nat_lt x (2 ^ 32)) refl e where
  by : (b : Bool) → nat_lt x (2 ^ 32) ≡ b → (if b then g else Err 0) ≡ Ok ws → (x < 2 ^ 32) × (g ≡ Ok ws)
  by true q e = (grind (arith, nat_tests, q), e)
  by false q e = absurd (cc e)

-- OPERATIONS by what they give on words.
module _ (F : Meaning) (z : Site) (t : Words) where
  pub by_one : (f : ℕ → ℕ) → ((x : ℕ) → x < 2 ^ 32 → F z t (Word x ∷ []) ≡ Ok (Word (f x) ∷ []))
      → (vs ws : List Value) → on_word f z t vs ≡ Ok ws → F z t vs ≡ Ok ws
  by_one f h [] ws e = absurd (cc e)
  by_one f h (v ∷ u ∷ vs) ws e = absurd (cc e)
  by_one f h (v ∷ []) ws e =
      let g = and_then_ok (word_of (Some v)) _ ws e in
      let a = short_ok g.0 _ ws g.2 in
      ap (λ v. F z t (v ∷ [])) (word_is v g.0 g.1) ∙ (h g.0 a.0 ∙ a.1)

  pub by_two : (f : ℕ → ℕ → Value) → ((x y : ℕ) → x < 2 ^ 32 → y < 2 ^ 32 → F z t (Word x ∷ Word y ∷ []) ≡ Ok (f x y ∷ []))
      → (vs ws : List Value) → on_words f z t vs ≡ Ok ws → F z t vs ≡ Ok ws
  by_two f h [] ws e = absurd (cc e)
  by_two f h (v ∷ []) ws e = absurd (cc e)
  by_two f h (v ∷ u ∷ w ∷ vs) ws e = absurd (cc e)
  by_two f h (v ∷ u ∷ []) ws e =
      let g = and_then_ok (both (word_of (Some v)) (word_of (Some u))) _ ws e in
      let p = both_ok (word_of (Some v)) (word_of (Some u)) g.0 g.1 in
      let a = short_ok g.0.0 _ ws g.2 in
      let b = short_ok g.0.1 _ ws a.1 in
      ap (λ v. F z t (v ∷ u ∷ [])) (word_is v g.0.0 p.0) ∙ (ap (λ u. F z t (Word g.0.0 ∷ u ∷ [])) (word_is u g.0.1 p.1) ∙
      (h g.0.0 g.0.1 a.0 b.0 ∙ b.1))

  pub by_three : (f : ℕ → ℕ → ℕ → ℕ)
      → ((x y w : ℕ) → x < 2 ^ 32 → y < 2 ^ 32 → w < 2 ^ 32 → F z t (Word x ∷ Word y ∷ Word w ∷ []) ≡ Ok (Word (f x y w) ∷ []))
      → (vs ws : List Value) → on_three f z t vs ≡ Ok ws → F z t vs ≡ Ok ws
  by_three f h [] ws e = absurd (cc e)
  by_three f h (v ∷ []) ws e = absurd (cc e)
  by_three f h (v ∷ u ∷ []) ws e = absurd (cc e)
  by_three f h (v ∷ u ∷ w ∷ x ∷ vs) ws e = absurd (cc e)
  by_three f h (v ∷ u ∷ w ∷ []) ws e =
      let g = and_then_ok (both (word_of (Some v)) (both (word_of (Some u)) (word_of (Some w)))) _ ws e in
      let p = both_ok (word_of (Some v)) (both (word_of (Some u)) (word_of (Some w))) g.0 g.1 in
      let q = both_ok (word_of (Some u)) (word_of (Some w)) g.0.1 p.1 in
      let a = short_ok g.0.0 _ ws g.2 in
      let b = short_ok g.0.1.0 _ ws a.1 in
      let c = short_ok g.0.1.1 _ ws b.1 in
      ap (λ v. F z t (v ∷ u ∷ w ∷ [])) (word_is v g.0.0 p.0)
      ∙ (ap (λ u. F z t (Word g.0.0 ∷ u ∷ w ∷ [])) (word_is u g.0.1.0 q.0)
      ∙ (ap (λ w. F z t (Word g.0.0 ∷ Word g.0.1.0 ∷ w ∷ [])) (word_is w g.0.1.1 q.1)
      ∙ (h g.0.0 g.0.1.0 g.0.1.1 a.0 b.0 c.0 ∙ c.1)))

  pub by_four : (f : ℕ → ℕ → ℕ → ℕ → ℕ)
      → ((x y u w : ℕ) → x < 2 ^ 32 → y < 2 ^ 32 → u < 2 ^ 32 → w < 2 ^ 32
      → F z t (Word x ∷ Word y ∷ Word u ∷ Word w ∷ []) ≡ Ok (Word (f x y u w) ∷ []))
      → (vs ws : List Value) → on_four f z t vs ≡ Ok ws → F z t vs ≡ Ok ws
  by_four f h [] ws e = absurd (cc e)
  by_four f h (v ∷ []) ws e = absurd (cc e)
  by_four f h (v ∷ u ∷ []) ws e = absurd (cc e)
  by_four f h (v ∷ u ∷ w ∷ []) ws e = absurd (cc e)
  by_four f h (v ∷ u ∷ w ∷ x ∷ y ∷ vs) ws e = absurd (cc e)
  by_four f h (v ∷ u ∷ w ∷ x ∷ []) ws e =
      let l = both (word_of (Some v)) (word_of (Some u)) in
      let r = both (word_of (Some w)) (word_of (Some x)) in
      let g = and_then_ok (both l r) _ ws e in
      let o = both_ok l r g.0 g.1 in
      let p = both_ok (word_of (Some v)) (word_of (Some u)) g.0.0 o.0 in
      let q = both_ok (word_of (Some w)) (word_of (Some x)) g.0.1 o.1 in
      let a = short_ok g.0.0.0 _ ws g.2 in
      let b = short_ok g.0.0.1 _ ws a.1 in
      let c = short_ok g.0.1.0 _ ws b.1 in
      let d = short_ok g.0.1.1 _ ws c.1 in
      ap (λ v. F z t (v ∷ u ∷ w ∷ x ∷ [])) (word_is v g.0.0.0 p.0)
      ∙ (ap (λ u. F z t (Word g.0.0.0 ∷ u ∷ w ∷ x ∷ [])) (word_is u g.0.0.1 p.1)
      ∙ (ap (λ w. F z t (Word g.0.0.0 ∷ Word g.0.0.1 ∷ w ∷ x ∷ [])) (word_is w g.0.1.0 q.0)
      ∙ (ap (λ x. F z t (Word g.0.0.0 ∷ Word g.0.0.1 ∷ Word g.0.1.0 ∷ x ∷ [])) (word_is x g.0.1.1 q.1)
      ∙ (h g.0.0.0 g.0.0.1 g.0.1.0 g.0.1.1 a.0 b.0 c.0 d.0 ∙ d.1))))

-- the lowest five bits are what `and 31` leaves
none_right : (n a : ℕ) → bit_by_bit min n a 0 ≡ 0
unfolding bit_by_bit
none_right zero a = refl
none_right (suc n) a = let e = none_right n (a / 2) in omega (arith, e)

one_bit : (y : ℕ) → bit_by_bit min 28 y 1 ≡ y % 2
unfolding bit_by_bit
one_bit y = let e = none_right 27 (y / 2) in omega (arith, e)

two_bits : (y : ℕ) → bit_by_bit min 29 y 3 ≡ y % 4
unfolding bit_by_bit
two_bits y = let e = one_bit (y / 2) in omega (arith, e)

three_bits : (y : ℕ) → bit_by_bit min 30 y 7 ≡ y % 8
unfolding bit_by_bit
three_bits y = let e = two_bits (y / 2) in omega (arith, e)

four_bits : (y : ℕ) → bit_by_bit min 31 y 15 ≡ y % 16
unfolding bit_by_bit
four_bits y = let e = three_bits (y / 2) in omega (arith, e)

pub cut : (y : ℕ) → and_of y 31 ≡ y % 32
unfolding bit_by_bit
cut y = let e = four_bits (y / 2) in omega (arith, e)
