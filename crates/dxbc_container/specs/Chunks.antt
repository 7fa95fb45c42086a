-- The chunks of a container.
use Rattle.std.specs.Prelude.{◌≡◌, ℕ, ◌+◌, ◌<◌, ◌≤◌, List, length, slice_range}
use Rattle.dxbc_container.specs.declared.part.Slice.{Slice}
use Rattle.dxbc_container.specs.declared.part.Tagged.{Tagged}
use Rattle.dxbc_container.specs.Layout.{shex_tag, total_of, count_of, place_of, offset_of, tag_of, size_of}
use Rattle.dxbc_container.specs.Refusals.{IsContainer}

-- the offsets of the chunks end in the container, and the container in the bytes
pub record HasTable (bytes : List ℕ) : Type 0 where
  pub fits : place_of (count_of bytes) ≤ total_of bytes
  pub within : total_of bytes ≤ length bytes

-- the chunk with that number ends in the container
pub record IsInside (bytes : List ℕ) (i : ℕ) : Type 0 where
  pub place : place_of i + 4 ≤ total_of bytes
  pub head : offset_of bytes i + 8 ≤ total_of bytes
  pub data_end : offset_of bytes i + 8 + size_of bytes i ≤ total_of bytes

-- The chunk with the number i, counted from 0, begins in the byte offset, has the tag, and holds these bytes.
pub record IsChunk (bytes : List ℕ) (i offset tag : ℕ) (content : List ℕ) : Type 0 where
  pub listed : i < count_of bytes
  pub begins : offset ≡ offset_of bytes i
  pub named : tag ≡ tag_of bytes i
  pub sized : length content ≡ size_of bytes i
  pub inside : offset + 8 + length content ≤ total_of bytes
  pub holds : content ≡ slice_range bytes (offset + 8) (offset + 8 + length content)

-- The container has one chunk of the tag; its data begin in the byte start, and are these bytes.
pub record IsSole (bytes : List ℕ) (tag start : ℕ) (content : List ℕ) : Type 0 where
  pub container : IsContainer bytes
  pub number : ℕ
  pub offset : ℕ
  pub behind : start ≡ offset + 8
  pub chunk : IsChunk bytes number offset tag content
  pub only : (j at : ℕ) (other : List ℕ) → IsChunk bytes j at tag other → j ≡ number

-- these are the data of the container's one chunk `SHEX`
pub record IsShex (bytes content : List ℕ) : Type 0 where
  pub start : ℕ
  pub sole : IsSole bytes shex_tag start content

-- the bytes of a part
abbrev pub content_of : List ℕ → Slice → List ℕ
content_of bytes part = slice_range bytes part.start (part.start + part.size)

-- A part lies in the bytes.
pub record IsPart (bytes : List ℕ) (part : Slice) : Type 0 where
  pub within : part.start + part.size ≤ length bytes
  pub sized : length (content_of bytes part) ≡ part.size

-- The chunk with the number i has the tag, and its data are this part of the bytes.
pub record IsTagged (bytes : List ℕ) (i : ℕ) (shown : Tagged) : Type 0 where
  pub behind : shown.part.start ≡ offset_of bytes i + 8
  pub lies : IsPart bytes shown.part
  pub chunk : IsChunk bytes i (offset_of bytes i) shown.tag (content_of bytes shown.part)

-- The container's one chunk of the tag has this part of the bytes as its data.
pub record IsSolePart (bytes : List ℕ) (tag : ℕ) (part : Slice) : Type 0 where
  pub lies : IsPart bytes part
  pub sole : IsSole bytes tag part.start (content_of bytes part)
