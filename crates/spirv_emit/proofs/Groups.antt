-- Short sequences of instructions.
use Rattle.std.proofs.Common.{◌≡◌, ℕ, ◌%◌, List, [], ◌∷◌, Some, refl, ap, ◌∙◌, arith}
use Rattle.std.specs.Prelude.{Ok, nat_eq, if◌then◌else◌}
use Rattle.word_base.specs.Alu.{all_ones}
use Rattle.spirv_words.specs.Operations.{op_of}
use Rattle.spirv_words.specs.Values.{Value, Word, both, word_of, truth_of}
use Rattle.shader_tree.specs.Values.{Words}
use Rattle.spirv_symbols.specs.declared.symbol.Symbol.{Symbol}
use Rattle.spirv_symbols.specs.declared.symbol.Symbol.TheVariants.{Constant}
use Rattle.spirv_symbols.specs.declared.symbol.TypeSymbol.{TypeSymbol}
use Rattle.spirv_symbols.specs.declared.symbol.TypeSymbol.TheVariants as symbol
use Rattle.spirv_symbols.specs.Tables.{Has}
use Rattle.spirv_emit.specs.Begun.{IsBegun}
use Rattle.spirv_emit.specs.Code.{type_of_symbol}
use Rattle.spirv_emit.specs.Emission.{Emission}
use Rattle.spirv_emit.specs.Growing.{Same, Grows}
use Rattle.spirv_emit.specs.Joins.{given, always, joined, only}
use Rattle.spirv_emit.specs.Lanes.{Site, meaning}
use Rattle.spirv_emit.specs.Operations.{computed_by, calc, chosen, choosing, found, finding, part, taking, on_cut, as_word, second_where, second_unless, from_above, on_field, divided, part_of, sum_of_product, second_of_nonzero}
use Rattle.spirv_emit.specs.Values.{Slot, slot, a_word, a_truth, a_pair, Meaning, Gives}
use Rattle.spirv_emit.proofs.Giving.{and_then_ok, nothing_gives, then', only_gives, weaker, named_gives}
use Rattle.spirv_emit.proofs.Growth.{grows_same}
use Rattle.spirv_emit.proofs.Room.{has_below}
use Rattle.spirv_emit.proofs.Values.{word_is, truth_is, both_ok, cut}

-- WHERE PIECES BEGIN: with what is given, and with constants that are there.
same_itself : (a : Emission) → Same a a
same_itself a = record { frame = refl; limit = refl; capacity = refl; limits = refl }

pub itself : (a : Emission) → Grows a a []
itself a = grows_same a a (same_itself a) refl refl (omega arith)

pub start : (a : Emission) (xs : List Slot) → Gives a a xs xs given
start a xs = nothing_gives a a xs (grows_same a a (same_itself a) refl refl (omega arith)) refl

pub fixed : (a : Emission) (s : Symbol) (r : ℕ) (v : Value) (type : TypeSymbol) → meaning s r ≡ Some v → type_of_symbol a.frame.context s ≡ Some type
    → IsBegun a → Has a.symbols.entries s r → Gives a a [] (slot r type ∷ []) (always v)
fixed a s r v type m e h has = named_gives a a s r v type m e (record {
  grows = grows_same a a (same_itself a) refl refl (omega arith);
  has = has;
  below = has_below a.frame.context a.symbols s r h.table has;
  kept = refl;
})

pub constant : (a : Emission) (w k : ℕ) → IsBegun a → Has a.symbols.entries (Constant w) k → Gives a a [] (a_word k ∷ []) (always (Word w))
constant a w k h has = fixed a (Constant w) k (Word w) symbol.Word refl refl h has

-- with the constants behind what is given
pub with_constant : (a b : Emission) (xs ys : List Slot) (f : Meaning) (w k : ℕ) → IsBegun b → Has b.symbols.entries (Constant w) k
    → Gives a b xs ys f
    → Gives a b xs (a_word k ∷ ys) (joined f [] (always (Word w)))
with_constant a b xs ys f w k h has p = then' a b b xs ys [] (a_word k ∷ []) f (always (Word w)) [] p (constant b w k h has) refl

-- ON THE LOWEST FIVE BITS.
abbrev cut_by : ℕ → Meaning
cut_by n = only (0 ∷ []) (joined (joined (joined given [] (always (Word 31))) (2 ∷ 0 ∷ []) (calc 199)) (2 ∷ 0 ∷ []) (calc n))

cut_is : (n : ℕ) (z : Site) (t : Words) (vs ws : List Value) → on_cut n z t vs ≡ Ok ws → cut_by n z t vs ≡ Ok ws
cut_is n z t [] ws e = absurd (cc e)
cut_is n z t (x ∷ []) ws e = absurd (cc e)
cut_is n z t (x ∷ y ∷ u ∷ vs) ws e = absurd (cc e)
cut_is n z t (x ∷ y ∷ []) ws e =
    let g = and_then_ok (word_of (Some y)) _ ws e in
    let h = and_then_ok (computed_by (op_of n) (x ∷ Word (g.0 % 32) ∷ [])) _ ws g.2 in
    let q = word_is y g.0 g.1 in
    rw (q, cut g.0, h.1) h.2

pub cuts : (a b c : Emission) (n x y k m r : ℕ) → IsBegun a → Has a.symbols.entries (Constant 31) k
    → Gives a b (a_word y ∷ a_word k ∷ []) (a_word m ∷ []) (calc 199) → Gives b c (a_word x ∷ a_word m ∷ []) (a_word r ∷ []) (calc n)
    → Gives a c (a_word x ∷ a_word y ∷ []) (a_word r ∷ []) (on_cut n)
cuts a b c n x y k m r h has one two =
    let xs = a_word x ∷ a_word y ∷ [] in
    let p = with_constant a a xs xs given 31 k h has (start a xs) in
    let q = then' _ _ _ _ _ _ _ _ _ (2 ∷ 0 ∷ []) p one refl in
    let s = then' _ _ _ _ _ _ _ _ _ (2 ∷ 0 ∷ []) q two refl in
    weaker a c xs (a_word r ∷ []) (cut_by n) (on_cut n) (λ z w t ht vs ws e. cut_is n z t vs ws e) (only_gives _ _ _ _ _ _ (0 ∷ []) s refl)

-- A TRUTH AS A WORD.
abbrev truth_by : ℕ → Meaning
truth_by n =
    only (0 ∷ []) (joined (joined (joined (joined given [] (always (Word all_ones))) [] (always (Word 0))) (2 ∷ 3 ∷ []) (calc n)) (0 ∷ 2 ∷ 1 ∷ [])
    choosing)

truth_word_is : (n : ℕ) (z : Site) (t : Words) (vs ws : List Value) → as_word n z t vs ≡ Ok ws → truth_by n z t vs ≡ Ok ws
truth_word_is n z t [] ws e = absurd (cc e)
truth_word_is n z t (x ∷ []) ws e = absurd (cc e)
truth_word_is n z t (x ∷ y ∷ u ∷ vs) ws e = absurd (cc e)
truth_word_is n z t (x ∷ y ∷ []) ws e =
    let g = and_then_ok (computed_by (op_of n) (x ∷ y ∷ [])) _ ws e in
    let h = and_then_ok (truth_of (Some g.0)) _ ws g.2 in
    let q = truth_is g.0 h.0 h.1 in
    rw (g.1, q) h.2

pub truth_words : (a b c : Emission) (n x y o k m r : ℕ) → IsBegun a → Has a.symbols.entries (Constant all_ones) o → Has a.symbols.entries
    (Constant 0) k
    → Gives a b (a_word x ∷ a_word y ∷ []) (a_truth m ∷ []) (calc n) → Gives b c (a_truth m ∷ a_word o ∷ a_word k ∷ []) (a_word r ∷ []) choosing
    → Gives a c (a_word x ∷ a_word y ∷ []) (a_word r ∷ []) (as_word n)
truth_words a b c n x y o k m r h ho hk one two =
    let xs = a_word x ∷ a_word y ∷ [] in
    let p = with_constant _ _ _ _ _ 0 k h hk (with_constant a a xs xs given all_ones o h ho (start a xs)) in
    let q = then' _ _ _ _ _ _ _ _ _ (2 ∷ 3 ∷ []) p one refl in
    let s = then' _ _ _ _ _ _ _ _ _ (0 ∷ 2 ∷ 1 ∷ []) q two refl in
    weaker a c xs (a_word r ∷ []) (truth_by n) (as_word n) (λ z w t ht vs ws e. truth_word_is n z t vs ws e) (only_gives _ _ _ _ _ _ (0 ∷ []) s refl)

-- THE SECOND OF TWO WORDS where an instruction holds of them.
abbrev where_by : List ℕ → ℕ → Meaning
where_by ps n = only (0 ∷ []) (joined (joined given ps (calc n)) (0 ∷ 2 ∷ 1 ∷ []) choosing)

where_is : (n : ℕ) (z : Site) (t : Words) (vs ws : List Value) → second_where n z t vs ≡ Ok ws → where_by (0 ∷ 1 ∷ []) n z t vs ≡ Ok ws
where_is n z t [] ws e = absurd (cc e)
where_is n z t (x ∷ []) ws e = absurd (cc e)
where_is n z t (x ∷ y ∷ u ∷ vs) ws e = absurd (cc e)
where_is n z t (x ∷ y ∷ []) ws e =
    let g = and_then_ok (computed_by (op_of n) (x ∷ y ∷ [])) _ ws e in
    let h = and_then_ok (chosen (g.0 ∷ y ∷ x ∷ [])) _ ws g.2 in
    rw (g.1, h.1) h.2

unless_is : (n : ℕ) (z : Site) (t : Words) (vs ws : List Value) → second_unless n z t vs ≡ Ok ws → where_by (1 ∷ 0 ∷ []) n z t vs ≡ Ok ws
unless_is n z t [] ws e = absurd (cc e)
unless_is n z t (x ∷ []) ws e = absurd (cc e)
unless_is n z t (x ∷ y ∷ u ∷ vs) ws e = absurd (cc e)
unless_is n z t (x ∷ y ∷ []) ws e =
    let g = and_then_ok (computed_by (op_of n) (y ∷ x ∷ [])) _ ws e in
    let h = and_then_ok (chosen (g.0 ∷ y ∷ x ∷ [])) _ ws g.2 in
    rw (g.1, h.1) h.2

module _ (a b c : Emission) (n x y m r : ℕ) (two : Gives b c (a_truth m ∷ a_word y ∷ a_word x ∷ []) (a_word r ∷ []) choosing) where
  pub seconds_where : Gives a b (a_word x ∷ a_word y ∷ []) (a_truth m ∷ []) (calc n) → Gives a c (a_word x ∷ a_word y ∷ []) (a_word r ∷ [])
      (second_where n)
  seconds_where one =
      let xs = a_word x ∷ a_word y ∷ [] in
      let q = then' _ _ _ _ _ _ _ _ _ (0 ∷ 1 ∷ []) (start a xs) one refl in
      let s = then' _ _ _ _ _ _ _ _ _ (0 ∷ 2 ∷ 1 ∷ []) q two refl in
      weaker a c xs (a_word r ∷ []) (where_by (0 ∷ 1 ∷ []) n) (second_where n) (λ z w t ht vs ws e. where_is n z t vs ws e)
      (only_gives _ _ _ _ _ _ (0 ∷ []) s refl)

  pub seconds_unless : Gives a b (a_word y ∷ a_word x ∷ []) (a_truth m ∷ []) (calc n) → Gives a c (a_word x ∷ a_word y ∷ []) (a_word r ∷ [])
      (second_unless n)
  seconds_unless one =
      let xs = a_word x ∷ a_word y ∷ [] in
      let q = then' _ _ _ _ _ _ _ _ _ (1 ∷ 0 ∷ []) (start a xs) one refl in
      let s = then' _ _ _ _ _ _ _ _ _ (0 ∷ 2 ∷ 1 ∷ []) q two refl in
      weaker a c xs (a_word r ∷ []) (where_by (1 ∷ 0 ∷ []) n) (second_unless n) (λ z w t ht vs ws e. unless_is n z t vs ws e)
      (only_gives _ _ _ _ _ _ (0 ∷ []) s refl)

-- THE FIRST BIT, counted from above.
abbrev above_by : ℕ → Meaning
above_by n =
    only (0 ∷ []) (joined (joined (joined (joined (joined (joined given [] (always (Word 31))) [] (always (Word all_ones)))
    (2 ∷ []) (finding n)) (2 ∷ 0 ∷ []) (calc 130)) (1 ∷ 2 ∷ []) (calc 170)) (0 ∷ 3 ∷ 1 ∷ []) choosing)

above_is : (n : ℕ) (z : Site) (t : Words) (vs ws : List Value) → from_above n z t vs ≡ Ok ws → above_by n z t vs ≡ Ok ws
above_is n z t [] ws e = absurd (cc e)
above_is n z t (x ∷ y ∷ vs) ws e = absurd (cc e)
above_is n z t (x ∷ []) ws e =
    let g = and_then_ok (found n (x ∷ [])) _ ws e in
    let h = and_then_ok (word_of (Some g.0)) _ ws g.2 in
    let q = word_is g.0 h.0 h.1 in
    rw (g.1, q) h.2

pub aboves : (a b c d e : Emission) (n x k o f s m r : ℕ) → IsBegun a → Has a.symbols.entries (Constant 31) k → Has a.symbols.entries
    (Constant all_ones) o
    → Gives a b (a_word x ∷ []) (a_word f ∷ []) (finding n) → Gives b c (a_word k ∷ a_word f ∷ []) (a_word s ∷ []) (calc 130)
    → Gives c d (a_word f ∷ a_word o ∷ []) (a_truth m ∷ []) (calc 170) → Gives d e (a_truth m ∷ a_word o ∷ a_word s ∷ []) (a_word r ∷ []) choosing
    → Gives a e (a_word x ∷ []) (a_word r ∷ []) (from_above n)
aboves a b c d e n x k o f s m r h hk ho one two three four =
    let xs = a_word x ∷ [] in
    let p = with_constant _ _ _ _ _ all_ones o h ho (with_constant a a xs xs given 31 k h hk (start a xs)) in
    let q = then' _ _ _ _ _ _ _ _ _ (2 ∷ []) p one refl in
    let u = then' _ _ _ _ _ _ _ _ _ (2 ∷ 0 ∷ []) q two refl in
    let v = then' _ _ _ _ _ _ _ _ _ (1 ∷ 2 ∷ []) u three refl in
    let w = then' _ _ _ _ _ _ _ _ _ (0 ∷ 3 ∷ 1 ∷ []) v four refl in
    weaker a e xs (a_word r ∷ []) (above_by n) (from_above n) (λ z w t ht vs ws e. above_is n z t vs ws e) (only_gives _ _ _ _ _ _ (0 ∷ []) w refl)

-- A FIELD.
abbrev field_by : ℕ → ℕ → Meaning
field_by s n =
    only (0 ∷ []) (joined (joined (joined (joined (joined (joined given [] (always (Word 31))) [] (always (Word 0)))
    (2 ∷ 1 ∷ []) (calc 199)) (4 ∷ 2 ∷ []) (calc 199)) (6 ∷ 0 ∷ []) (calc s)) (0 ∷ 3 ∷ 2 ∷ []) (calc n))

field_is : (s n : ℕ) (z : Site) (t : Words) (vs ws : List Value) → on_field s n z t vs ≡ Ok ws → field_by s n z t vs ≡ Ok ws
field_is s n z t [] ws e = absurd (cc e)
field_is s n z t (x ∷ []) ws e = absurd (cc e)
field_is s n z t (x ∷ y ∷ []) ws e = absurd (cc e)
field_is s n z t (w ∷ o ∷ x ∷ v ∷ vs) ws e = absurd (cc e)
field_is s n z t (w ∷ o ∷ x ∷ []) ws e =
    let g = and_then_ok (both (word_of (Some w)) (word_of (Some o))) _ ws e in
    let p = both_ok (word_of (Some w)) (word_of (Some o)) g.0 g.1 in
    let h = and_then_ok (computed_by (op_of s) (x ∷ Word (g.0.1 % 32) ∷ [])) _ ws g.2 in
    let i = and_then_ok (computed_by (op_of n) (h.0 ∷ Word 0 ∷ Word (g.0.0 % 32) ∷ [])) _ ws h.2 in
    let q = word_is w g.0.0 p.0 in
    let r = word_is o g.0.1 p.1 in
    let words : field_by s n z t (Word g.0.0 ∷ Word g.0.1 ∷ x ∷ []) ≡ Ok ws = rw (cut g.0.0, cut g.0.1, h.1, i.1) i.2 in
    ap (λ w. field_by s n z t (w ∷ o ∷ x ∷ [])) q ∙ (ap (λ o. field_by s n z t (Word g.0.0 ∷ o ∷ x ∷ [])) r ∙ words)

pub fields : (a b c d e : Emission) (s n w o x k m wc oc l r : ℕ) → IsBegun a → Has a.symbols.entries (Constant 31) k → Has a.symbols.entries
    (Constant 0) m
    → Gives a b (a_word w ∷ a_word k ∷ []) (a_word wc ∷ []) (calc 199) → Gives b c (a_word o ∷ a_word k ∷ []) (a_word oc ∷ []) (calc 199)
    → Gives c d (a_word x ∷ a_word oc ∷ []) (a_word l ∷ []) (calc s) → Gives d e (a_word l ∷ a_word m ∷ a_word wc ∷ []) (a_word r ∷ []) (calc n)
    → Gives a e (a_word w ∷ a_word o ∷ a_word x ∷ []) (a_word r ∷ []) (on_field s n)
fields a b c d e s n w o x k m wc oc l r h hk hm one two three four =
    let xs = a_word w ∷ a_word o ∷ a_word x ∷ [] in
    let p = with_constant _ _ _ _ _ 0 m h hm (with_constant a a xs xs given 31 k h hk (start a xs)) in
    let q = then' _ _ _ _ _ _ _ _ _ (2 ∷ 1 ∷ []) p one refl in
    let u = then' _ _ _ _ _ _ _ _ _ (4 ∷ 2 ∷ []) q two refl in
    let v = then' _ _ _ _ _ _ _ _ _ (6 ∷ 0 ∷ []) u three refl in
    let y = then' _ _ _ _ _ _ _ _ _ (0 ∷ 3 ∷ 2 ∷ []) v four refl in
    weaker a e xs (a_word r ∷ []) (field_by s n) (on_field s n) (λ z w t ht vs ws e. field_is s n z t vs ws e)
    (only_gives _ _ _ _ _ _ (0 ∷ []) y refl)

-- A QUOTIENT OR REST.
abbrev quotient_by : ℕ → Meaning
quotient_by n =
    only (0 ∷ []) (joined
    (joined (joined (joined (joined (joined (joined given [] (always (Word 0))) [] (always (Word 1))) [] (always (Word all_ones)))
    (4 ∷ 2 ∷ []) (calc 170)) (0 ∷ 2 ∷ 5 ∷ []) choosing) (5 ∷ 0 ∷ []) (calc n)) (2 ∷ 3 ∷ 0 ∷ []) choosing)

quotient_is : (n : ℕ) (z : Site) (t : Words) (vs ws : List Value) → divided n z t vs ≡ Ok ws → quotient_by n z t vs ≡ Ok ws
quotient_is n z t [] ws e = absurd (cc e)
quotient_is n z t (x ∷ []) ws e = absurd (cc e)
quotient_is n z t (x ∷ y ∷ u ∷ vs) ws e = absurd (cc e)
quotient_is n z t (x ∷ y ∷ []) ws e =
    let g = and_then_ok (word_of (Some y)) _ ws e in
    let h = and_then_ok (computed_by (op_of n) (x ∷ Word (if nat_eq g.0 0 then 1 else g.0) ∷ [])) _ ws g.2 in
    let i = and_then_ok (word_of (Some h.0)) _ ws h.2 in
    let q = word_is y g.0 g.1 in
    let r = word_is h.0 i.0 i.1 in
    rw (q, h.1, r) i.2

pub quotients : (a b c d e : Emission) (n x y k l o m v q r : ℕ) → IsBegun a → Has a.symbols.entries (Constant 0) k → Has a.symbols.entries
    (Constant 1) l
    → Has a.symbols.entries (Constant all_ones) o → Gives a b (a_word y ∷ a_word k ∷ []) (a_truth m ∷ []) (calc 170)
    → Gives b c (a_truth m ∷ a_word l ∷ a_word y ∷ []) (a_word v ∷ []) choosing → Gives c d (a_word x ∷ a_word v ∷ []) (a_word q ∷ []) (calc n)
    → Gives d e (a_truth m ∷ a_word o ∷ a_word q ∷ []) (a_word r ∷ []) choosing → Gives a e (a_word x ∷ a_word y ∷ []) (a_word r ∷ []) (divided n)
quotients a b c d e n x y k l o m v q r h hk hl ho one two three four =
    let xs = a_word x ∷ a_word y ∷ [] in
    let p = with_constant _ _ _ _ _ all_ones o h ho (with_constant _ _ _ _ _ 1 l h hl (with_constant a a xs xs given 0 k h hk (start a xs))) in
    let s = then' _ _ _ _ _ _ _ _ _ (4 ∷ 2 ∷ []) p one refl in
    let t = then' _ _ _ _ _ _ _ _ _ (0 ∷ 2 ∷ 5 ∷ []) s two refl in
    let u = then' _ _ _ _ _ _ _ _ _ (5 ∷ 0 ∷ []) t three refl in
    let w = then' _ _ _ _ _ _ _ _ _ (2 ∷ 3 ∷ 0 ∷ []) u four refl in
    weaker a e xs (a_word r ∷ []) (quotient_by n) (divided n) (λ z w t ht vs ws e. quotient_is n z t vs ws e) (only_gives _ _ _ _ _ _ (0 ∷ []) w refl)

-- ONE OF TWO WORDS that an instruction gives.
abbrev part_by : ℕ → ℕ → Meaning
part_by n k = only (0 ∷ []) (joined (joined given (0 ∷ 1 ∷ []) (calc n)) (0 ∷ []) (taking k))

part_is : (n k : ℕ) (z : Site) (t : Words) (vs ws : List Value) → part_of n k z t vs ≡ Ok ws → part_by n k z t vs ≡ Ok ws
part_is n k z t [] ws e = absurd (cc e)
part_is n k z t (x ∷ []) ws e = absurd (cc e)
part_is n k z t (x ∷ y ∷ u ∷ vs) ws e = absurd (cc e)
part_is n k z t (x ∷ y ∷ []) ws e =
    let g = and_then_ok (computed_by (op_of n) (x ∷ y ∷ [])) _ ws e in
    let h = and_then_ok (part k (g.0 ∷ [])) _ ws g.2 in
    rw (g.1, h.1) h.2

pub parts : (a b c : Emission) (n k x y m r : ℕ) → Gives a b (a_word x ∷ a_word y ∷ []) (a_pair m ∷ []) (calc n)
    → Gives b c (a_pair m ∷ []) (a_word r ∷ []) (taking k) → Gives a c (a_word x ∷ a_word y ∷ []) (a_word r ∷ []) (part_of n k)
parts a b c n k x y m r one two =
    let xs = a_word x ∷ a_word y ∷ [] in
    let q = then' _ _ _ _ _ _ _ _ _ (0 ∷ 1 ∷ []) (start a xs) one refl in
    let s = then' _ _ _ _ _ _ _ _ _ (0 ∷ []) q two refl in
    weaker a c xs (a_word r ∷ []) (part_by n k) (part_of n k) (λ z w t ht vs ws e. part_is n k z t vs ws e) (only_gives _ _ _ _ _ _ (0 ∷ []) s refl)

-- A WORD WITH A FIELD of another: the width and the offset cut, and no bits past the last.
abbrev pub insert_by : Meaning
insert_by =
    only (0 ∷ []) (joined (joined (joined (joined (joined (joined (joined (joined given [] (always (Word 31))) [] (always (Word 32)))
    (2 ∷ 1 ∷ []) (calc 199)) (4 ∷ 2 ∷ []) (calc 199)) (2 ∷ 0 ∷ []) (calc 130)) (2 ∷ 0 ∷ []) (calc 176)) (0 ∷ 3 ∷ 1 ∷ []) choosing)
    (10 ∷ 9 ∷ 3 ∷ 0 ∷ []) (calc 201))

pub inserts : (a b c d e f g : Emission) (w o i v k m wc oc s l q r : ℕ) → IsBegun a → Has a.symbols.entries (Constant 31) k → Has a.symbols.entries
    (Constant 32) m
    → Gives a b (a_word w ∷ a_word k ∷ []) (a_word wc ∷ []) (calc 199) → Gives b c (a_word o ∷ a_word k ∷ []) (a_word oc ∷ []) (calc 199)
    → Gives c d (a_word m ∷ a_word oc ∷ []) (a_word s ∷ []) (calc 130) → Gives d e (a_word wc ∷ a_word s ∷ []) (a_truth l ∷ []) (calc 176)
    → Gives e f (a_truth l ∷ a_word wc ∷ a_word s ∷ []) (a_word q ∷ []) choosing
    → Gives f g (a_word v ∷ a_word i ∷ a_word oc ∷ a_word q ∷ []) (a_word r ∷ []) (calc 201)
    → Gives a g (a_word w ∷ a_word o ∷ a_word i ∷ a_word v ∷ []) (a_word r ∷ []) insert_by
inserts a b c d e f g w o i v k m wc oc s l q r h hk hm one two three four five six =
    let xs = a_word w ∷ a_word o ∷ a_word i ∷ a_word v ∷ [] in
    let p = with_constant _ _ _ _ _ 32 m h hm (with_constant a a xs xs given 31 k h hk (start a xs)) in
    let p1 = then' _ _ _ _ _ _ _ _ _ (2 ∷ 1 ∷ []) p one refl in
    let p2 = then' _ _ _ _ _ _ _ _ _ (4 ∷ 2 ∷ []) p1 two refl in
    let p3 = then' _ _ _ _ _ _ _ _ _ (2 ∷ 0 ∷ []) p2 three refl in
    let p4 = then' _ _ _ _ _ _ _ _ _ (2 ∷ 0 ∷ []) p3 four refl in
    let p5 = then' _ _ _ _ _ _ _ _ _ (0 ∷ 3 ∷ 1 ∷ []) p4 five refl in
    let p6 = then' _ _ _ _ _ _ _ _ _ (10 ∷ 9 ∷ 3 ∷ 0 ∷ []) p5 six refl in
    only_gives _ _ _ _ _ _ (0 ∷ []) p6 refl

-- ZERO LESS A WORD.
abbrev pub negative : Meaning
negative = only (0 ∷ []) (joined (joined given [] (always (Word 0))) (0 ∷ 1 ∷ []) (calc 130))

pub negatives : (a b : Emission) (x k r : ℕ) → IsBegun a → Has a.symbols.entries (Constant 0) k
    → Gives a b (a_word k ∷ a_word x ∷ []) (a_word r ∷ []) (calc 130) → Gives a b (a_word x ∷ []) (a_word r ∷ []) negative
negatives a b x k r h has one =
    let xs = a_word x ∷ [] in
    let p = with_constant a a xs xs given 0 k h has (start a xs) in
    only_gives _ _ _ _ _ _ (0 ∷ []) (then' _ _ _ _ _ _ _ _ _ (0 ∷ 1 ∷ []) p one refl) refl

-- A PRODUCT AND A SUM.
abbrev product_by : Meaning
product_by = only (0 ∷ []) (joined (joined given (0 ∷ 1 ∷ []) (calc 132)) (0 ∷ 3 ∷ []) (calc 128))

product_is : (z : Site) (t : Words) (vs ws : List Value) → sum_of_product z t vs ≡ Ok ws → product_by z t vs ≡ Ok ws
product_is z t [] ws e = absurd (cc e)
product_is z t (x ∷ []) ws e = absurd (cc e)
product_is z t (x ∷ y ∷ []) ws e = absurd (cc e)
product_is z t (x ∷ y ∷ u ∷ v ∷ vs) ws e = absurd (cc e)
product_is z t (x ∷ y ∷ u ∷ []) ws e =
    let g = and_then_ok (both (word_of (Some x)) (both (word_of (Some y)) (word_of (Some u)))) _ ws e in
    let p = both_ok (word_of (Some x)) (both (word_of (Some y)) (word_of (Some u))) g.0 g.1 in
    let q = both_ok (word_of (Some y)) (word_of (Some u)) g.0.1 p.1 in
    ap (λ x. product_by z t (x ∷ y ∷ u ∷ [])) (word_is x g.0.0 p.0)
    ∙ (ap (λ y. product_by z t (Word g.0.0 ∷ y ∷ u ∷ [])) (word_is y g.0.1.0 q.0)
    ∙ (ap (λ u. product_by z t (Word g.0.0 ∷ Word g.0.1.0 ∷ u ∷ [])) (word_is u g.0.1.1 q.1) ∙ g.2))

pub products : (a b c : Emission) (x y u m r : ℕ) → Gives a b (a_word x ∷ a_word y ∷ []) (a_word m ∷ []) (calc 132)
    → Gives b c (a_word m ∷ a_word u ∷ []) (a_word r ∷ []) (calc 128) → Gives a c (a_word x ∷ a_word y ∷ a_word u ∷ []) (a_word r ∷ []) sum_of_product
products a b c x y u m r one two =
    let xs = a_word x ∷ a_word y ∷ a_word u ∷ [] in
    let p = then' _ _ _ _ _ _ _ _ _ (0 ∷ 1 ∷ []) (start a xs) one refl in
    let q = then' _ _ _ _ _ _ _ _ _ (0 ∷ 3 ∷ []) p two refl in
    weaker a c xs (a_word r ∷ []) product_by sum_of_product (λ z w t ht vs ws e. product_is z t vs ws e) (only_gives _ _ _ _ _ _ (0 ∷ []) q refl)

-- THE SECOND OF TWO where a word is not 0.
abbrev nonzero_by : Meaning
nonzero_by = only (0 ∷ []) (joined (joined (joined given [] (always (Word 0))) (1 ∷ 0 ∷ []) (calc 170)) (0 ∷ 4 ∷ 3 ∷ []) choosing)

nonzero_is : (z : Site) (t : Words) (vs ws : List Value) → second_of_nonzero z t vs ≡ Ok ws → nonzero_by z t vs ≡ Ok ws
nonzero_is z t [] ws e = absurd (cc e)
nonzero_is z t (x ∷ []) ws e = absurd (cc e)
nonzero_is z t (x ∷ y ∷ []) ws e = absurd (cc e)
nonzero_is z t (x ∷ y ∷ u ∷ v ∷ vs) ws e = absurd (cc e)
nonzero_is z t (x ∷ y ∷ u ∷ []) ws e =
    let g = and_then_ok (both (word_of (Some x)) (both (word_of (Some y)) (word_of (Some u)))) _ ws e in
    let p = both_ok (word_of (Some x)) (both (word_of (Some y)) (word_of (Some u))) g.0 g.1 in
    let q = both_ok (word_of (Some y)) (word_of (Some u)) g.0.1 p.1 in
    ap (λ x. nonzero_by z t (x ∷ y ∷ u ∷ [])) (word_is x g.0.0 p.0)
    ∙ (ap (λ y. nonzero_by z t (Word g.0.0 ∷ y ∷ u ∷ [])) (word_is y g.0.1.0 q.0)
    ∙ (ap (λ u. nonzero_by z t (Word g.0.0 ∷ Word g.0.1.0 ∷ u ∷ [])) (word_is u g.0.1.1 q.1) ∙ g.2))

pub nonzeros : (a b c : Emission) (x y u k m r : ℕ) → IsBegun a → Has a.symbols.entries (Constant 0) k
    → Gives a b (a_word x ∷ a_word k ∷ []) (a_truth m ∷ []) (calc 170) → Gives b c (a_truth m ∷ a_word u ∷ a_word y ∷ []) (a_word r ∷ []) choosing
    → Gives a c (a_word x ∷ a_word y ∷ a_word u ∷ []) (a_word r ∷ []) second_of_nonzero
nonzeros a b c x y u k m r h has one two =
    let xs = a_word x ∷ a_word y ∷ a_word u ∷ [] in
    let p = with_constant a a xs xs given 0 k h has (start a xs) in
    let q = then' _ _ _ _ _ _ _ _ _ (1 ∷ 0 ∷ []) p one refl in
    let s = then' _ _ _ _ _ _ _ _ _ (0 ∷ 4 ∷ 3 ∷ []) q two refl in
    weaker a c xs (a_word r ∷ []) nonzero_by second_of_nonzero (λ z w t ht vs ws e. nonzero_is z t vs ws e) (only_gives _ _ _ _ _ _ (0 ∷ []) s refl)
