-- A `&` to a region is made of a borrow of its places, and reaches each value.
use mathlib.Core.List.{[], ◌++◌}
use base.Fml.{Incl-trans}
use contract.BorrowLft.{meet_⊑_left}
use denote.RattleType.{RattleType}
use denote.RawPtr.{RawPtr}
use denote.Param.Laws.{Laws}
use denote.Param.Shared.{copy_shared}
use denote.Struct.Laws.{field_copy}
use denote.Struct.Lending.{of_Lends}
use Rattle.core.specs.contracts.marker.PhantomData as marker
use Rattle.node_pool.specs.contracts.region.Region as region
use Rattle.node_pool.proofs.region.Region.TheLaw.Statement.{statement}
use Rattle.node_pool.proofs.Sharing.{lends_places_laws, Lends-places}

pub shares : (R : RattleType) (L : Laws R) → statement R L
shares R L =
    let inside = Incl-trans (meet_⊑_left (R.lives ++ []) _) (meet_⊑_left R.lives []) in
    of_Lends (region.struct R) (region.the_codes R.Denot R.coded (marker.the_row RawPtr).coded) (region.the_heap R) (region.the_lent R)
    (λ r p. lends_places_laws R L.shr_laws r.first r.places) (copy_shared (marker.the_field RawPtr) (field_copy (marker.the_type RawPtr) tt), tt)
    (λ M 𝓤 𝓛 r p. Lends-places 𝓛 (region.the_row R).lives R L inside r.first r.places)
