-- The words of registers that targets name: what two writes leave, and what a write leaves of a word that is read.
use Rattle.std.proofs.Common.{◌≡◌, ℕ, Bool, true, false, refl, sym, ap, ◌∙◌}
use Rattle.std.specs.Prelude.{nat_eq, if◌then◌else◌, ◌&&◌}
use Rattle.std.proofs.lemmas.Bool.{eqb-true, and_parts, false≢true, false_from_ne_true, eq-eqb}
use mathlib.Core.Path.{fun_ext}
use Rattle.word_base.specs.Registers.{Registers}
use Rattle.tpf_program.specs.Writes.{Target, InTemp, InElement, Nowhere, with_word}
use Rattle.shader_tree.specs.declared.node.Space.TheVariants.{Temps, Indexable}
use Rattle.raise_operands.specs.Vectors.{Vector, Outside, At, Indexed, meets}

abbrev pub same_cell : Target → ℕ → Target → ℕ → Bool
same_cell (InTemp n) c (InTemp m) d = nat_eq n m && nat_eq c d
same_cell (InElement s n) c (InElement z m) d = nat_eq s z && (nat_eq n m && nat_eq c d)
same_cell one c other d = false

-- the word of a target
abbrev pub cell : Registers → Target → ℕ → ℕ
cell r (InTemp n) c = r.temp n c
cell r (InElement s n) c = r.indexable s n c
cell r Nowhere c = 0

-- A test that is false in one order of its numbers is false in the other.
turned : (n m c d : ℕ) → (nat_eq n m && nat_eq c d) ≡ false → (nat_eq m n && nat_eq d c) ≡ false
turned n m c d e =
    false_from_ne_true _ (λ h. let k = and_parts (nat_eq m n) (nat_eq d c) h in
    false≢true (sym e ∙ ap (λ x. nat_eq n x && nat_eq c d) (eqb-true m n k.0) ∙ ap (λ x. nat_eq n n && nat_eq c x) (eqb-true d c k.1) ∙ ap
    (λ b. b && nat_eq c c) (eq-eqb n n refl) ∙ eq-eqb c c refl))

turned_three : (s z n m c d : ℕ) → (nat_eq s z && (nat_eq n m && nat_eq c d)) ≡ false → (nat_eq z s && (nat_eq m n && nat_eq d c)) ≡ false
turned_three s z n m c d e =
    false_from_ne_true _ (λ h. let k = and_parts (nat_eq z s) (nat_eq m n && nat_eq d c) h in
    let f : (nat_eq n m && nat_eq c d) ≡ false = sym (ap (λ b. b && (nat_eq n m && nat_eq c d)) (eq-eqb s z (sym (eqb-true z s k.0)))) ∙ e in
    false≢true (sym (turned n m c d f) ∙ k.1))

-- WHAT A WRITE LEAVES of another word
chosen_out : (b : Bool) (x y : ℕ) → b ≡ false → (if b then x else y) ≡ y
chosen_out true x y e = absurd (false≢true (sym e))
chosen_out false x y e = refl

pub unchanged : (one other : Target) (c d x : ℕ) (r : Registers) → same_cell one c other d ≡ false → cell (with_word one c x r) other d ≡ cell r other
    d
unchanged (InTemp n) (InTemp m) c d x r e = chosen_out (nat_eq m n && nat_eq d c) x (r.temp m d) (turned n m c d e)
unchanged (InTemp n) (InElement z m) c d x r e = refl
unchanged (InTemp n) Nowhere c d x r e = refl
unchanged (InElement s n) (InTemp m) c d x r e = refl
unchanged (InElement s n) (InElement z m) c d x r e =
    chosen_out (nat_eq z s && (nat_eq m n && nat_eq d c)) x (r.indexable z m d) (turned_three s z n m c d e)
unchanged (InElement s n) Nowhere c d x r e = refl
unchanged Nowhere other c d x r e = refl

-- TWO WRITES of different words, in any order
either_way : (a b : Bool) (x y z : ℕ) → (a ≡ true → b ≡ true → ⊥) → (if a then x else (if b then y else z)) ≡ (if b then y else (if a then x else z))
either_way true true x y z h = absurd (h refl refl)
either_way true false x y z h = refl
either_way false true x y z h = refl
either_way false false x y z h = refl

not_both : (n m c d s e : ℕ) → (nat_eq n m && nat_eq c d) ≡ false → (nat_eq s n && nat_eq e c) ≡ true → (nat_eq s m && nat_eq e d) ≡ true → ⊥
not_both n m c d s e f h k =
    let p = and_parts (nat_eq s n) (nat_eq e c) h in
    let q = and_parts (nat_eq s m) (nat_eq e d) k in
    let n_is : n ≡ m = sym (eqb-true s n p.0) ∙ eqb-true s m q.0 in
    let c_is : c ≡ d = sym (eqb-true e c p.1) ∙ eqb-true e d q.1 in
    false≢true (sym f ∙ (ap (λ b. b && nat_eq c d) (eq-eqb n m n_is) ∙ eq-eqb c d c_is))

not_both_three : (a z n m c d s i e : ℕ) → (nat_eq a z && (nat_eq n m && nat_eq c d)) ≡ false → (nat_eq s a && (nat_eq i n && nat_eq e c)) ≡ true
    → (nat_eq s z && (nat_eq i m && nat_eq e d)) ≡ true → ⊥
not_both_three a z n m c d s i e f h k =
    let p = and_parts (nat_eq s a) (nat_eq i n && nat_eq e c) h in
    let q = and_parts (nat_eq s z) (nat_eq i m && nat_eq e d) k in
    let a_is : a ≡ z = sym (eqb-true s a p.0) ∙ eqb-true s z q.0 in
    not_both n m c d i e (sym (ap (λ b. b && (nat_eq n m && nat_eq c d)) (eq-eqb a z a_is)) ∙ f) p.1 q.1

pub commute : (one other : Target) (c d x y : ℕ) (r : Registers) → same_cell one c other d ≡ false
    → with_word one c x (with_word other d y r) ≡ with_word other d y (with_word one c x r)
commute (InTemp n) (InTemp m) c d x y r e =
    ap (λ f. record { temp = f; indexable = r.indexable })
    (fun_ext (λ s. fun_ext (λ k. either_way (nat_eq s n && nat_eq k c) (nat_eq s m && nat_eq k d) x y (r.temp s k) (not_both n m c d s k e))))
commute (InTemp n) (InElement z m) c d x y r e = refl
commute (InTemp n) Nowhere c d x y r e = refl
commute (InElement s n) (InTemp m) c d x y r e = refl
commute (InElement a n) (InElement z m) c d x y r e =
    ap (λ f. record { temp = r.temp; indexable = f })
    (fun_ext (λ s. fun_ext (λ i. fun_ext (λ k.
    either_way (nat_eq s a && (nat_eq i n && nat_eq k c)) (nat_eq s z && (nat_eq i m && nat_eq k d)) x y (r.indexable s i k)
    (not_both_three a z n m c d s i k e)))))
commute (InElement s n) Nowhere c d x y r e = refl
commute Nowhere (InTemp m) c d x y r e = refl
commute Nowhere (InElement z m) c d x y r e = refl
commute Nowhere Nowhere c d x y r e = refl

-- WHICH TARGET A VECTOR MAY BE
pub data Covers : Vector → Target → Type 0 where
  outside : Covers Outside Nowhere
  temp : {n : ℕ} → Covers (At Temps n) (InTemp n)
  element : {s n : ℕ} → Covers (At (Indexable s) n) (InElement s n)
  indexed : {s n : ℕ} → Covers (Indexed (Indexable s)) (InElement s n)
  past : {s : ℕ} → Covers (Indexed (Indexable s)) Nowhere

-- where vectors do not meet, their targets are different words
dropped : (s z n m c d : ℕ) → (nat_eq s z && nat_eq c d) ≡ false → (nat_eq s z && (nat_eq n m && nat_eq c d)) ≡ false
dropped s z n m c d e =
    false_from_ne_true _ (λ h. let k = and_parts (nat_eq s z) (nat_eq n m && nat_eq c d) h in
    let l = and_parts (nat_eq n m) (nat_eq c d) k.1 in
    false≢true (sym e ∙ (ap (λ b. b && nat_eq c d) k.0 ∙ l.1)))

pub apart : {v w : Vector} {one other : Target} → Covers v one → Covers w other → (c d : ℕ) → meets v c w d ≡ false → same_cell one c other d ≡ false
apart outside k c d e = refl
apart temp outside c d e = refl
apart temp temp c d e = e
apart temp element c d e = refl
apart temp indexed c d e = refl
apart temp past c d e = refl
apart element outside c d e = refl
apart element temp c d e = refl
apart element element c d e = e
apart (element {s = s} {n = n}) (indexed {s = z} {n = m}) c d e = dropped s z n m c d e
apart element past c d e = refl
apart indexed outside c d e = refl
apart indexed temp c d e = refl
apart (indexed {s = s} {n = n}) (element {s = z} {n = m}) c d e = dropped s z n m c d e
apart (indexed {s = s} {n = n}) (indexed {s = z} {n = m}) c d e = dropped s z n m c d e
apart indexed past c d e = refl
apart past k c d e = refl
