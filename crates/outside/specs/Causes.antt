-- What a call may leave behind: a count of faults, and bytes where they are told.
use Rattle.std.specs.Prelude.{◌≡◌, ℕ, ◌+◌, ◌-◌, ◌<◌, ◌≤◌, ◌^◌, ◌⊎◌, min, List, [], ◌∷◌, ◌++◌, Option, Some, None, Result, Ok, Err, OnOk, OnErr, length, take, refl}

-- The count rose, or stands at the last value of its 64 bits.
abbrev pub Rose : ℕ → ℕ → Type 0
Rose before now = min (before + 1) (2 ^ 64 - 1) ≤ now

-- A call that succeeds leaves the count. One that fails raised it, or failed for that other reason. The count never falls, and stays
-- below 2 ^ 64.
pub record HasCauseOr {T E : Type 0} (other : Type 0) (before now : ℕ) (result : Result T E) : Type 0 where
  pub later : before ≤ now
  pub within : before < 2 ^ 64 → now < 2 ^ 64
  pub kept : OnOk result (now ≡ before)
  pub failed : OnErr result (Rose before now ⊎ other)

-- a call leaves the count, or fails and raised it
pub record HasCause {T E : Type 0} (before now : ℕ) (result : Result T E) : Type 0 where
  pub later : before ≤ now
  pub within : before < 2 ^ 64 → now < 2 ^ 64
  pub kept : OnOk result (now ≡ before)
  pub failed : OnErr result (Rose before now)

-- where bytes are told: those before the call, and these behind them
abbrev pub Gained : Option (List ℕ) → Option (List ℕ) → List ℕ → Type 0
Gained None new bytes = new ≡ None
Gained (Some old) new bytes = new ≡ Some (old ++ bytes)

-- some of these bytes from their front on
abbrev pub GainedPart : Option (List ℕ) → Option (List ℕ) → List ℕ → Type 0
GainedPart old new bytes = (n : ℕ) × (n ≤ length bytes) × Gained old new (take n bytes)

-- A write takes that many bytes of the piece from its front on, and not 0 of a piece that has some.
pub record TakesFront (old new : Option (List ℕ)) (n : ℕ) (piece : List ℕ) : Type 0 where
  pub within : n ≤ length piece
  pub some : 0 < length piece → 0 < n
  pub gained : Gained old new (take n piece)

-- a write takes a front of the piece, or fails and writes nothing
abbrev pub Takes : {E : Type 0} → Option (List ℕ) → List ℕ → Result ℕ E → Option (List ℕ) → Type 0
Takes old piece (Ok n) new = TakesFront old new n piece
Takes old piece (Err e) new = new ≡ old

-- Examples: two bytes behind one, and a sink that tells nothing.
pub two_behind_one : Gained (Some (1 ∷ [])) (Some (1 ∷ 2 ∷ 3 ∷ [])) (2 ∷ 3 ∷ [])
two_behind_one = refl

pub untold : Gained None None (2 ∷ 3 ∷ [])
untold = refl
