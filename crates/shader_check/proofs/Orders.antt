-- Refusals of one phase, the places of which ascend: the first that is found is the first of all.
use Rattle.std.proofs.Common.{◌≡◌, ℕ, ◌+◌, ◌<◌, ◌≤◌, Option, Some, None, Bool, true, false, refl, sym, ap, ◌∙◌, arith}
use Rattle.std.specs.Prelude.{nat_le, if◌then◌else◌}
use Rattle.std.proofs.lemmas.Bool.Decides.{nat_tests}
use Rattle.word_base.specs.declared.rule.Refusal.{Refusal}
use Rattle.word_base.specs.Rules.{Key, Order, order_of, key_by, key_of, is_below, comes_before}
use Rattle.shader_check.proofs.Least.{joined}

abbrev pub phase_of : Refusal → ℕ
phase_of r = (order_of r.rule).phase

abbrev a_key : ℕ → ℕ → ℕ → Key
a_key phase place number = record { phase = phase; first = place; second = number }

late_key : (o : Order) (place : ℕ) → 4 ≤ o.phase → key_by o place ≡ a_key o.phase place o.number
late_key o place h =
    let b : nat_le o.phase 3 ≡ false = grind (arith, nat_tests, h) in
    ap (λ b. if b then (record { phase = o.phase; first = o.number; second = place }) else a_key o.phase place o.number) b

below_by_place : (n p q a b : ℕ) → p < q → is_below (a_key n q b) (a_key n p a) ≡ false
below_by_place n p q a b h = grind (arith, nat_tests, h)

below_by_phase : (m n p q a b : ℕ) → m < n → is_below (a_key n q b) (a_key m p a) ≡ false
below_by_phase m n p q a b h = grind (arith, nat_tests, h)

below_by_number : (n p a b : ℕ) → a ≤ b → is_below (a_key n p b) (a_key n p a) ≡ false
below_by_number n p a b h = grind (arith, nat_tests, h)

above_by_number : (n p a b : ℕ) → b < a → is_below (a_key n p b) (a_key n p a) ≡ true
above_by_number n p a b h = grind (arith, nat_tests, h)

keys : (r q : Refusal) → 4 ≤ phase_of r → 4 ≤ phase_of q
    → comes_before q r ≡ is_below (a_key (phase_of q) q.place (order_of q.rule).number) (a_key (phase_of r) r.place (order_of r.rule).number)
keys r q h k = ap (λ x. is_below x (key_of r)) (late_key (order_of q.rule) q.place k) ∙ ap (is_below (a_key (phase_of q) q.place (order_of q.rule).number)) (late_key (order_of r.rule) r.place h)

-- something of a later place, of a later phase, or of a greater number at the same place, does not come before
pub later_place : (r q : Refusal) (n : ℕ) → 4 ≤ n → phase_of r ≡ n → phase_of q ≡ n → r.place < q.place → comes_before q r ≡ false
later_place r q n l h k m =
    keys r q (omega (arith, l, h)) (omega (arith, l, k))
    ∙ (ap (λ x. is_below (a_key x q.place (order_of q.rule).number) (a_key (phase_of r) r.place (order_of r.rule).number)) (k ∙ sym h)
    ∙ below_by_place (phase_of r) r.place q.place (order_of r.rule).number (order_of q.rule).number m)

pub later_phase : (r q : Refusal) → 4 ≤ phase_of r → phase_of r < phase_of q → comes_before q r ≡ false
later_phase r q h m =
    keys r q h (omega (arith, h, m)) ∙ below_by_phase (phase_of r) (phase_of q) r.place q.place (order_of r.rule).number (order_of q.rule).number m

pub later_number : (r q : Refusal) (n : ℕ) → 4 ≤ n → phase_of r ≡ n → phase_of q ≡ n → r.place ≡ q.place → (order_of r.rule).number ≤ (order_of q.rule).number → comes_before q r ≡ false
later_number r q n l h k s m =
    keys r q (omega (arith, l, h)) (omega (arith, l, k))
    ∙ (ap (λ x. is_below (a_key x q.place (order_of q.rule).number) (a_key (phase_of r) r.place (order_of r.rule).number)) (k ∙ sym h)
    ∙ (ap (λ x. is_below (a_key (phase_of r) x (order_of q.rule).number) (a_key (phase_of r) r.place (order_of r.rule).number)) (sym s)
    ∙ below_by_number (phase_of r) r.place (order_of r.rule).number (order_of q.rule).number m))

pub earlier_number : (r q : Refusal) (n : ℕ) → 4 ≤ n → phase_of r ≡ n → phase_of q ≡ n → r.place ≡ q.place → (order_of q.rule).number < (order_of r.rule).number → comes_before q r ≡ true
earlier_number r q n l h k s m =
    keys r q (omega (arith, l, h)) (omega (arith, l, k))
    ∙ (ap (λ x. is_below (a_key x q.place (order_of q.rule).number) (a_key (phase_of r) r.place (order_of r.rule).number)) (k ∙ sym h)
    ∙ (ap (λ x. is_below (a_key (phase_of r) x (order_of q.rule).number) (a_key (phase_of r) r.place (order_of r.rule).number)) (sym s)
    ∙ above_by_number (phase_of r) r.place (order_of r.rule).number (order_of q.rule).number m))

pub stays : (r q : Refusal) → comes_before q r ≡ false → joined (Some r) (Some q) ≡ Some r
stays r q h = ap (λ b. Some (if b then q else r)) h

pub yields : (r q : Refusal) → comes_before q r ≡ true → joined (Some r) (Some q) ≡ Some q
yields r q h = ap (λ b. Some (if b then q else r)) h

-- what is refused, if something is, is of that phase, and its place is not below that one
pub record Late (n low : ℕ) (o : Option Refusal) : Type 0 where
  pub each : (q : Refusal) → o ≡ Some q → (phase_of q ≡ n) × (low ≤ q.place)

pub late_none : (n low : ℕ) → Late n low None
late_none n low = record { each = λ q h. absurd (cc) }

pub late_less : (n low high : ℕ) (o : Option Refusal) → low ≤ high → Late n high o → Late n low o
late_less n low high o l h = record { each = λ q e. let k = h.each q e in (k.0, omega (arith, l, k.1)) }

pub late_joined : (n low : ℕ) (o p : Option Refusal) → Late n low o → Late n low p → Late n low (joined o p)
late_joined n low None p h k = k
late_joined n low (Some r) None h k = h
late_joined n low (Some r) (Some s) h k = record { each = λ q e. by_test q (comes_before s r) e }
  where
    by_test : (q : Refusal) (b : Bool) → Some (if b then s else r) ≡ Some q → (phase_of q ≡ n) × (low ≤ q.place)
    by_test q true e = k.each q e
    by_test q false e = h.each q e

pub first_wins : (n : ℕ) (r : Refusal) (o : Option Refusal) → 4 ≤ n → phase_of r ≡ n → Late n (r.place + 1) o → joined (Some r) o ≡ Some r
first_wins n r None l h k = refl
first_wins n r (Some q) l h k = let e = k.each q refl in stays r q (later_place r q n l h e.0 (omega (arith, e.1)))

-- what comes later yields to what stands before it
pub last_wins : (n : ℕ) (r : Refusal) (o : Option Refusal) → 4 ≤ n → phase_of r ≡ n → Late n (r.place + 1) o → joined o (Some r) ≡ Some r
last_wins n r None l h k = refl
last_wins n r (Some q) l h k = let e = k.each q refl in yields q r (before e.0 (omega (arith, e.1)))
  where
    below_true : (m p q a b : ℕ) → q < p → is_below (a_key m q b) (a_key m p a) ≡ true
    below_true m p q a b h = grind (arith, nat_tests, h)

    before : phase_of q ≡ n → r.place < q.place → comes_before r q ≡ true
    before e m =
        keys q r (omega (arith, l, e)) (omega (arith, l, h))
        ∙ (ap (λ x. is_below (a_key x r.place (order_of r.rule).number) (a_key (phase_of q) q.place (order_of q.rule).number)) (h ∙ sym e)
        ∙ below_true (phase_of q) q.place r.place (order_of q.rule).number (order_of r.rule).number m)
