-- Which registers an entry of a root signature covers. The registers of the three kinds stand in one row: cb# at their
-- numbers, t# from 2 ^ 32 on, u# from 2 * 2 ^ 32 on.
use Rattle.std.specs.Prelude.{◌≡◌, ℕ, ◌+◌, ◌-◌, ◌*◌, ◌^◌, nat_eq, nat_le, if◌then◌else◌, ◌&&◌, Bool, true, false, refl}
use Rattle.root_signature.specs.declared.covers.Covers.{Covers}
use Rattle.root_signature.specs.declared.covers.Covers.TheVariants.{Constants, Cbv, Srv, Uav}

abbrev pub constants_row : ℕ → ℕ
constants_row slot = slot

abbrev pub resource_row : ℕ → ℕ
resource_row slot = 2 ^ 32 + slot

abbrev pub uav_row : ℕ → ℕ
uav_row slot = 2 * 2 ^ 32 + slot

-- the last register of so many from the base on, where 0xFFFFFFFF of them reach to the last of all
abbrev pub last_of : ℕ → ℕ → ℕ
last_of base count = if nat_eq count 0xFFFFFFFF then 0xFFFFFFFF else base + count - 1

-- the first and the last register of an entry
abbrev pub lowest : Covers → ℕ
lowest (Constants register first count) = constants_row register
lowest (Cbv base count) = constants_row base
lowest (Srv base count) = resource_row base
lowest (Uav base count) = uav_row base

abbrev pub highest : Covers → ℕ
highest (Constants register first count) = constants_row register
highest (Cbv base count) = constants_row (last_of base count)
highest (Srv base count) = resource_row (last_of base count)
highest (Uav base count) = uav_row (last_of base count)

-- whether an entry covers a register of the row
abbrev pub is_covered : Covers → ℕ → Bool
is_covered c register = nat_le (lowest c) register && nat_le register (highest c)

-- The registers from the lowest to the highest of an entry, with the byte of its record.
pub record Span : Type 0 where
  pub place : ℕ
  pub low : ℕ
  pub high : ℕ

abbrev pub span : ℕ → Covers → Span
span place c = record { place = place; low = lowest c; high = highest c }

-- whether two of them have a register in common
abbrev pub overlaps : Span → Span → Bool
overlaps a b = nat_le a.low b.high && nat_le b.low a.high

-- the root constants of an entry, in words
abbrev pub push_words : Covers → ℕ
push_words (Constants register first count) = count
push_words (Cbv base count) = 0
push_words (Srv base count) = 0
push_words (Uav base count) = 0

-- Examples: an unbounded range from t0 on reaches to the last t#, and not to u0; root constants of no words cover their
-- register.
pub unbounded : is_covered (Srv 0 0xFFFFFFFF) (resource_row 0xFFFFFFFF) ≡ true
unbounded = refl

pub other_kind : overlaps (span 0 (Srv 0 0xFFFFFFFF)) (span 8 (Uav 0 1)) ≡ false
other_kind = refl

pub no_words : overlaps (span 0 (Constants 3 0 0)) (span 8 (Cbv 2 2)) ≡ true
no_words = refl
