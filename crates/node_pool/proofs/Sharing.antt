-- Places can be lent as their values can.
use Prim.Native.Nat.{ℕ, ◌+◌}
use Rattle.std.specs.Prelude.{List, [], ◌∷◌, Option, Some, None}
use Rattle.std.specs.Mem.{type_size}
use seplogic.Ra.Ura.{Ura}
use base.Fml.{Lft, Incl, ftrue, ffalse}
use types.Logic.{Logic}
use denote.RattleType.{RattleType, RowLaws}
use denote.Param.Laws.{Laws}
use denote.RawPtr.{Ptr, block_ptr, null_ptr}
use denote.Sharing.{ShrLaws, said}
use denote.SharingLaws.{beside_shr_laws, nothing_shr_laws, said_shr_laws}
use denote.Shares.{Shares-less}
use denote.Struct.Lending.{Lends, Lends-both, Lends-nothing, Lends-said, Lends-false}
use Rattle.node_pool.specs.Regions.{owns_place, owns_row, owns_places, lends_place, lends_row, lends_places, is_small}

-- what a `&` holds can be copied and used at a shorter lifetime
module _ (R : RattleType) (L : RowLaws R) where
  place_laws : (b o : ℕ) (place : Option R.Denot) → ShrLaws (lends_place R b o place)
  place_laws b o None = nothing_shr_laws
  place_laws b o (Some x) = L x b o

  row_laws : (b o : ℕ) (places : List (Option R.Denot)) → ShrLaws (lends_row R b o places)
  row_laws b o [] = nothing_shr_laws
  row_laws b o (place ∷ places) = beside_shr_laws _ _ (place_laws b o place) (row_laws b (o + type_size R) places)

  pub lends_places_laws : (first : Ptr) (places : List (Option R.Denot)) → ShrLaws (lends_places R first places)
  lends_places_laws null_ptr places = said_shr_laws ffalse tt
  lends_places_laws (block_ptr b o) places = beside_shr_laws _ _ (said_shr_laws (is_small R places) tt) (row_laws b o places)

-- and is made of a borrow of what is owned
module _ {M : Type 1} {𝓤 : Ura M} (𝓛 : Logic 𝓤) (l : Lft) (R : RattleType) (L : Laws R) (within : Incl l R.lives) where
  Lends-place : (b o : ℕ) (place : Option R.Denot) → Lends 𝓛 (owns_place R b o place) (lends_place R b o place) l
  Lends-place b o None = Lends-nothing 𝓛 (owns_place R b o None) l
  Lends-place b o (Some x) = λ κ ts. Shares-less 𝓛 R R.lives l within (L.shares 𝓛) x κ ts b o

  Lends-row : (b o : ℕ) (places : List (Option R.Denot)) → Lends 𝓛 (owns_row R b o places) (lends_row R b o places) l
  Lends-row b o [] = Lends-nothing 𝓛 ftrue l
  Lends-row b o (place ∷ places) =
      let next = o + type_size R in
      Lends-both 𝓛 (owns_place R b o place) (owns_row R b next places) (lends_place R b o place) (lends_row R b next places) l (Lends-place b o place) (Lends-row b next places)

  pub Lends-places : (first : Ptr) (places : List (Option R.Denot)) → Lends 𝓛 (owns_places R first places) (lends_places R first places) l
  Lends-places null_ptr places = Lends-false 𝓛 (said ffalse) l
  Lends-places (block_ptr b o) places =
      Lends-both 𝓛 (is_small R places) (owns_row R b o places) (said (is_small R places)) (lends_row R b o places) l (Lends-said 𝓛 (is_small R places) tt l) (Lends-row b o places)
