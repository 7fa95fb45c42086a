-- What the owner of a region owns and lends, at values of the row R.
use Rattle.std.specs.Prelude.{ℕ, ◌+◌, ◌*◌, ◌^◌, List, [], ◌∷◌, length, Option, Some, None}
use Rattle.std.specs.Mem.{type_size}
use base.Fraction.{full_share}
use base.Fml.{Lft, Fml, ftrue, ffalse, fsep, flt, froom}
use mir.Syntax.{Ty, ty_array}
use mir.Raw.{raw}
use denote.RattleType.{RattleType}
use denote.Memory.{lone, part_at, shared_of}
use denote.Sharing.{nothing, said, beside}
use denote.RawPtr.{Ptr, block_ptr, null_ptr}

module _ (R : RattleType) where
  -- a place at the byte o of the block b: its value, or room for one
  abbrev pub owns_place : ℕ → ℕ → Option R.Denot → Fml
  owns_place b o None = froom (raw (lone R.mir)) b o
  owns_place b o (Some x) = part_at R full_share x b o

  -- places side by side, the first at the byte o
  abbrev pub owns_row : ℕ → ℕ → List (Option R.Denot) → Fml
  owns_row b o [] = ftrue
  owns_row b o (place ∷ places) = fsep (owns_place b o place) (owns_row b (o + type_size R) places)

  -- together they take fewer than 2 ^ 63 bytes
  abbrev pub is_small : List (Option R.Denot) → Fml
  is_small places = flt (length places * type_size R) (2 ^ 63)

  -- the places of a region that begins at the address
  abbrev pub owns_places : Ptr → List (Option R.Denot) → Fml
  owns_places null_ptr places = ffalse
  owns_places (block_ptr b o) places = fsep (is_small places) (owns_row b o places)

  -- a `&` to a place reaches the value there, if there is one
  abbrev pub lends_place : ℕ → ℕ → Option R.Denot → Lft → Fml
  lends_place b o None = nothing
  lends_place b o (Some x) = shared_of R x b o

  abbrev pub lends_row : ℕ → ℕ → List (Option R.Denot) → Lft → Fml
  lends_row b o [] = nothing
  lends_row b o (place ∷ places) = beside (lends_place b o place) (lends_row b (o + type_size R) places)

  abbrev pub lends_places : Ptr → List (Option R.Denot) → Lft → Fml
  lends_places null_ptr places = said ffalse
  lends_places (block_ptr b o) places = beside (said (is_small places)) (lends_row b o places)

  -- what an allocator asks for to take a block of n places back
  abbrev pub may_free : (Ty → Ptr → Fml) → Ptr → ℕ → Fml
  may_free token first n = token (raw (ty_array (lone R.mir) n)) first
