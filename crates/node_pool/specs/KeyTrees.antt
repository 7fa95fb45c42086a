-- A tree of keys, each where the bits of its path lead. The keys below one are named by their index, where 0 is none.
use Rattle.std.specs.Prelude.{◌≡◌, ◌≢◌, ℕ, zero, suc, ◌+◌, ◌*◌, ◌%◌, ◌^◌, ◌<◌, nat_lt, Bool, true, false, List, [], ◌∷◌, ◌++◌, length, Some, slice_get, slice_set, slice_index_or}
use Rattle.node_pool.specs.declared.key.Key.{Key}
use Rattle.node_pool.specs.declared.key_tree.Link.{Link}

-- The bits that lead to a key, from the highest on. Both factors are odd, so the paths of two keys of one kind differ.
abbrev pub path_of : Key → ℕ
path_of key = (key.kind * 0x85EBCA6B % 2 ^ 32 + key.number * 0x9E3779B1 % 2 ^ 32) % 2 ^ 32

-- whether the first bit is 0, and the bits behind it
abbrev pub goes_left : ℕ → Bool
goes_left path = nat_lt path (2 ^ 31)

abbrev pub behind : ℕ → ℕ
behind path = path * 2 % 2 ^ 32

abbrev pub link : ℕ → ℕ → Link
link left right = record { left = left; right = right }

abbrev pub side : Link → Bool → ℕ
side l true = l.left
side l false = l.right

abbrev pub with_side : Link → Bool → ℕ → Link
with_side l true key = link key l.right
with_side l false key = link l.left key

-- the key below the one at this index, on the side of the path
abbrev pub child : List Link → ℕ → ℕ → ℕ
child links at path = side (slice_index_or links at (link 0 0)) (goes_left path)

-- down from one key to another in n steps, after which the rest of the path is left
abbrev pub Walk : List Link → ℕ → ℕ → ℕ → ℕ → ℕ → Type 0
Walk links zero path at rest to = (path ≡ rest) × (at ≡ to)
Walk links (suc n) path at rest to =
    (child links at path ≢ 0) × Walk links n (behind path) (child links at path) rest to

pub record Leads (links : List Link) (path at to : ℕ) : Type 0 where
  pub steps : ℕ
  pub rest : ℕ
  pub walk : Walk links steps path at rest to

-- Links lead to later keys, and from the first key to each one by its own path.
pub record IsTree (keys : List Key) (links : List Link) : Type 0 where
  pub same : length links ≡ length keys
  pub later : (at path : ℕ) → child links at path ≢ 0
      → (at < child links at path) × (child links at path < length links)
  pub reached : (i : ℕ) (key : Key) → slice_get keys i ≡ Some key → Leads links (path_of key) 0 i

-- a place where nothing is yet, to which the key's path leads
pub record IsFree (links : List Link) (key : Key) (at path : ℕ) : Type 0 where
  pub steps : ℕ
  pub walk : Walk links steps (path_of key) 0 path at
  pub within : at < length links
  pub free : child links at path ≡ 0

-- the links with one more key below the one at this index
abbrev pub grown : List Link → ℕ → ℕ → List Link
grown links at path =
    slice_set links at (with_side (slice_index_or links at (link 0 0)) (goes_left path) (length links)) ++ link 0 0 ∷ []
