-- The search for the chunks of a tag.
use Rattle.std.specs.Prelude.{◌≡◌, ℕ, ◌+◌, ◌-◌, ◌<◌, List, [], ◌∷◌, Option, Some, None}
use Rattle.dxbc_container.specs.Layout.{count_of}
use Rattle.dxbc_container.specs.Refusals.{tagged_from}

-- the chunks of the tag from the one with that number on
abbrev pub tagged_on : List ℕ → ℕ → ℕ → List ℕ
tagged_on bytes tag i = tagged_from bytes tag i (count_of bytes - i)

-- from that number on no chunk has the tag, or this is the first that has it
abbrev pub IsNext : List ℕ → ℕ → ℕ → Option ℕ → Type 0
IsNext bytes tag i None = tagged_on bytes tag i ≡ []
IsNext bytes tag i (Some k) = (k < count_of bytes) × (tagged_on bytes tag i ≡ k ∷ tagged_on bytes tag (k + 1))
