-- Sums that stay at the greatest number where they do not fit.
use Rattle.std.proofs.Common.{◌≡◌, ℕ, ◌+◌, ◌<◌, ◌≤◌, ◌⊎◌, arith}
use Rattle.std.proofs.lemmas.Bool.Decides.{nat_tests}
use Rattle.std.specs.Prelude.{nat_le, nat_lt, ◌&&◌, min}
use Rattle.shader_check.specs.FirstRefusals.{is_passed}

-- a sum as it is kept: itself, or past each limit
abbrev pub Keeps : ℕ → ℕ → Type 0
Keeps sum taken = (taken ≡ sum) ⊎ ((40000 < taken) × (40000 < sum))

pub same_passed : (limit sum taken more : ℕ) → limit ≤ 40000 → Keeps sum taken
    → (nat_le (0 + sum) limit && nat_lt limit (0 + sum + more)) ≡ is_passed limit taken more
same_passed limit sum taken more h k = grind (arith, nat_tests, h, k)

-- one more number
pub keeps_more : (sum taken more result : ℕ) → Keeps sum taken → result ≡ min (taken + more) 18446744073709551615 → Keeps (sum + more) result
keeps_more sum taken more result k e = grind (arith, k, e)
