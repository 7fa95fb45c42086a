-- Root signatures as callers see them: lists of entries.
use Rattle.std.specs.Prelude.{◌≡◌, ℕ, ◌+◌, ◌<◌, ◌≤◌, ◌^◌, true, List, map, sum, take, length, Some, slice_get}
use Rattle.dxbc_container.specs.Chunks.{IsSole}
use Rattle.root_signature.specs.declared.covers.Covers.{Covers}
use Rattle.root_signature.specs.declared.covers.Covers.TheVariants.{Constants, Cbv, Srv, Uav}
use Rattle.root_signature.specs.Layout.{rts0_tag}
use Rattle.root_signature.specs.Covers.{is_covered, push_words}
use Rattle.root_signature.specs.Covering.{covers_of}

-- the root constants of entries, in words
abbrev pub words_in : List Covers → ℕ
words_in entries = sum (map push_words entries)

-- An entry's registers are words. Descriptors and ranges have at least one, and none behind the last.
abbrev pub IsRun : ℕ → ℕ → Type 0
IsRun base count = (0 < count) × (base + count ≤ 2 ^ 32)

abbrev pub IsEntry : Covers → Type 0
IsEntry (Constants register first count) = register < 2 ^ 32
IsEntry (Cbv base count) = IsRun base count
IsEntry (Srv base count) = IsRun base count
IsEntry (Uav base count) = IsRun base count

-- No register is covered by two entries. Root constants are numbered one after the other, and are at most 64 words.
pub record IsSignature (entries : List Covers) : Type 0 where
  pub distinct : (i j : ℕ) (a b : Covers) → slice_get entries i ≡ Some a → slice_get entries j ≡ Some b
      → (register : ℕ) → is_covered a register ≡ true → is_covered b register ≡ true → i ≡ j
  pub numbered : (i register first count : ℕ) → slice_get entries i ≡ Some (Constants register first count)
      → first ≡ words_in (take i entries)
  pub few : words_in entries ≤ 64
  pub each : (i : ℕ) (a : Covers) → slice_get entries i ≡ Some a → IsEntry a
  pub counted : length entries < 2 ^ 32

-- the container's one chunk `RTS0` covers these, in this order
pub record Reads (bytes : List ℕ) (entries : List Covers) : Type 0 where
  pub start : ℕ
  pub content : List ℕ
  pub sole : IsSole bytes rts0_tag start content
  pub covers : entries ≡ covers_of content
