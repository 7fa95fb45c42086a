-- What a `&` to a region of words tells: that they are words.
use Rattle.std.proofs.Common.{ℕ, zero, suc, ◌+◌, ◌^◌, ◌<◌, List, [], ◌∷◌, Option, Some, None, arith}
use Rattle.std.specs.Mem.{type_size}
use Rattle.word_base.specs.Words.{AreWords}
use mir.Syntax.{w32}
use base.Fml.{Lft}
use denote.Builtin.{u32}
use denote.RawPtr.{Ptr, block_ptr, null_ptr}
use denote.Known.{Says, says_so, Says-never, Says-both, Says-second, uint_known}
use Rattle.node_pool.specs.Places.{AllHold, stored}
use Rattle.node_pool.specs.Regions.{lends_row, lends_places}
use Rattle.node_pool.specs.declared.region.Region.{Region}
use Rattle.node_pool.specs.contracts.region.Region as region

abbrev pub IsWord : ℕ → Type 0
IsWord word = word < 2 ^ 32

row_tells : (b o : ℕ) (places : List (Option ℕ)) (κ : Lft) → Says (lends_row u32 b o places κ) (AllHold IsWord places)
row_tells b o [] κ = says_so _ tt
row_tells b o (None ∷ places) κ = Says-second _ _ (row_tells b (o + type_size u32) places κ)
row_tells b o (Some x ∷ places) κ = Says-both _ _ ((uint_known w32).shared x b o κ) (row_tells b (o + type_size u32) places κ)

places_tell : (p : Ptr) (places : List (Option ℕ)) (κ : Lft) → Says (lends_places u32 p places κ) (AllHold IsWord places)
places_tell null_ptr places κ = Says-never _
places_tell (block_ptr b o) places κ = Says-second _ _ (row_tells b o places κ)

pub region_tells : (r : Region ℕ) (b o : ℕ) (κ : Lft) → Says ((region.the_row u32).shr_at r b o κ) (AllHold IsWord r.places)
region_tells r b o κ = Says-second _ _ (places_tell r.first r.places κ)

-- the items of a pool are what its places hold
pub words_stored : (n : ℕ) (places : List (Option ℕ)) → AllHold IsWord places → AreWords (stored n places)
words_stored zero places are k = omega arith
words_stored (suc n) [] are k = omega arith
words_stored (suc n) (None ∷ places) are k = words_stored n places are k
words_stored (suc n) (Some x ∷ places) are zero = are.0
words_stored (suc n) (Some x ∷ places) are (suc k) = words_stored n places are.1 k
