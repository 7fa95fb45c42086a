-- Numbers of calls.
use Rattle.std.proofs.Common.{◌≡◌, ℕ, ◌<◌, ◌≤◌, ◌^◌, suc, List, [], ◌∷◌, get_or, false, nat_eq, refl, arith}
use Rattle.std.specs.List.{list_any}
use Rattle.std.proofs.lemmas.Bool.Decides.{nat_tests}

other : (m n : ℕ) → m < n → nat_eq m n ≡ false
other m n h = grind (arith, nat_tests)

-- a number past the last value of 64 bits stands in no list of such values
pub none_past : (xs : List ℕ) (n : ℕ) → 2 ^ 64 ≤ n → ((k : ℕ) → get_or xs k 0 < 2 ^ 64) → list_any (λ m. nat_eq m n) xs ≡ false
none_past [] n h below = refl
none_past (x ∷ xs) n h below =
    let first : x < n = (let b = below 0 in omega (arith, b, h)) in
    rw (other x n first) (none_past xs n h (λ k. below (suc k)))
