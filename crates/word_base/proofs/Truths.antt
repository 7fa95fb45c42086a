-- Truths and numbers that are compared, for every crate.
use Rattle.std.proofs.Common.{◌≡◌, ℕ, ◌<◌, ◌≤◌, Bool, true, false, refl, arith}
use Rattle.std.specs.Prelude.{◌≢◌, nat_eq, nat_lt, nat_le, ◌&&◌, ◌||◌, not}
use Rattle.std.proofs.lemmas.Bool.Decides.{nat_tests}

-- NUMBERS that are compared
pub equals : (n : ℕ) → nat_eq n n ≡ true
equals n = grind (arith, nat_tests)

pub equal_numbers : (m n : ℕ) → nat_eq m n ≡ true → m ≡ n
equal_numbers m n h = grind (arith, nat_tests)

pub unequal_numbers : (m n : ℕ) → nat_eq m n ≡ false → m ≢ n
unequal_numbers m n h e = grind (arith, nat_tests)

pub below_numbers : (m n : ℕ) → nat_lt m n ≡ true → m < n
below_numbers m n h = grind (arith, nat_tests)

pub at_most_numbers : (m n : ℕ) → nat_le m n ≡ true → m ≤ n
at_most_numbers m n h = grind (arith, nat_tests)

-- TRUTHS put together
pub both : (a b : Bool) → a ≡ true → b ≡ true → (a && b) ≡ true
both true b h k = k
both false b h k = h

pub split_both : (a b : Bool) → (a && b) ≡ true → (a ≡ true) × (b ≡ true)
split_both true b h = (refl, h)
split_both false b h = absurd cc

pub first_fails : (a b : Bool) → a ≡ false → (a && b) ≡ false
first_fails true b h = absurd cc
first_fails false b h = refl

pub second_fails : (a b : Bool) → b ≡ false → (a && b) ≡ false
second_fails true b h = h
second_fails false b h = refl

pub or_left : (a b : Bool) → a ≡ true → (a || b) ≡ true
or_left true b h = refl
or_left false b h = absurd cc

pub or_right : (a b : Bool) → b ≡ true → (a || b) ≡ true
or_right true b h = refl
or_right false b h = h

pub neither : (a b : Bool) → a ≡ false → b ≡ false → (a || b) ≡ false
neither true b h k = absurd cc
neither false b h k = k

pub split_neither : (a b : Bool) → (a || b) ≡ false → (a ≡ false) × (b ≡ false)
split_neither true b h = absurd cc
split_neither false b h = (refl, h)

pub not_false : (a : Bool) → not a ≡ false → a ≡ true
not_false true h = refl
not_false false h = absurd cc

pub or_nothing : (a : Bool) → (a || false) ≡ a
or_nothing true = refl
or_nothing false = refl

pub and_all : (a : Bool) → (a && true) ≡ a
and_all true = refl
and_all false = refl
