-- What the walks of the functions on a region share.
--     start_had, start_made, owner_had, owner_made      a start is one pointer, and an owner takes no bytes
--     place_out, place_in, place_seen      one place is taken out of the row, put back, or seen
--     room_of_place, room_of_row, row_of_room      whatever they hold, places are room, and room is a row of empty places
use Rattle.std.proofs.Common.{◌≡◌, ℕ, zero, suc, ◌+◌, ◌*◌, ◌<◌, List, [], ◌∷◌, ◌++◌, length, set, get_or, replicate, refl, sym, subst, arith}
use native.Mathlib.Nat.{zero-mul, suc-mul}
use seplogic.Ra.Ura.{Ura}
use base.Fraction.{full_share}
use base.Logic.{ent, emp, sep}
use base.Fml.{Fml, Lft, ftrue, fsep, fat, froom}
use mir.Syntax.{Ty, ty_array}
use mir.Val.{Val, vstruct, vcons, vnil, of_list}
use types.Logic.{Logic, sem}
use types.Kit.{Item, Goal, Seq, Step, step, ‵, ◌⊛◌, some, ◌$◌, ◌∵◌, !, qed, by, move, keep, drop, use1, use2, pick, split, frame, fsplit, fjoin, fpick, fpack, feq_i, feq_l, rewrite, done}
use denote.RattleType.{RattleType, Valss}
use denote.Memory.{part_at}
use denote.RawPtr.{Ptr, RawPtr, ptr_val}
use denote.Shadow.{makes_shadow}
use denote.Steps.{nothing, peeks}
use denote.Laws.{Typed, Is, shows}
use denote.Struct.Declared as Declared
use denote.Struct.Tuple.{Tuple, tuple_type}
use denote.Struct.Struct.{Shape, Struct, within}
use denote.Struct.Owning.{shape}
use borrow.Table.OneValue.{part_in, part_out}
use Rattle.std.specs.Prelude.{Option, Some, None}
use Rattle.std.specs.Mem.{type_size}
use Rattle.core.proofs.mem.Param.{El, R, el_x, elτ, lawful}
use Rattle.std_alloc.proofs.RcSteps.{Good, word}
use Rattle.node_pool.specs.Places.{Holds}
use Rattle.node_pool.specs.Regions.{owns_place, owns_row, lends_place, lends_row}
use Rattle.node_pool.specs.contracts.region.Region as region
use Rattle.node_pool.specs.contracts.region.Start as start

module _ (E : El) where
  abbrev pub Place : Type 0
  Place = Option (el_x E)

  -- the bytes of one place
  abbrev pub width : ℕ
  width = type_size (R E)

  abbrev pub StartRow : RattleType
  StartRow = start.the_row (R E)

  abbrev pub RegionRow : RattleType
  RegionRow = region.the_row (R E)

  -- the one field that the machine sees of an owner
  abbrev pub Owner : RattleType
  Owner = Struct (shape (region.the_type (R E)))

abbrev one_pointer : Shape
one_pointer = record { name = []; args = []; types = []; fields = RawPtr ∷ [] }

abbrev Pointer : RattleType
Pointer = Struct one_pointer

-- a place that holds a value is one of the row
pub held_within : {X : Type 0} (cs : List (Option X)) (i : ℕ) → Holds cs i → i < length cs
held_within [] i h = let filled = h.1 in cc
held_within (c ∷ cs) zero h = omega arith
held_within (c ∷ cs) (suc i) h = omega (arith, held_within cs i h)

-- the machine value of an owner
abbrev pub no_bytes : Val
no_bytes = vstruct (vcons (vstruct vnil) vnil)

-- a struct's one field is what lies in it
as_field : {vs : List Val} (ws us : List Val) → vs ≡ vstruct (of_list (ws ++ [])) ∷ [] → ws ≡ us → vs ≡ vstruct (of_list (us ++ [])) ∷ []
as_field {vs} ws us e same = subst (λ (zs : List Val). vs ≡ vstruct (of_list (zs ++ [])) ∷ []) same e

pub owner_made : (E : El) {M : Type 1} {𝓤 : Ura M} (𝓛 : Logic 𝓤) → ent 𝓤 (emp 𝓤) (sem 𝓛 ((Owner E).own_val (tt, tt) (no_bytes ∷ [])))
owner_made E 𝓛 = makes_shadow 𝓛 ((Owner E).own_val (tt, tt) (no_bytes ∷ [])) (λ vss. (tt, ((λ uss. (tt, tt)), tt))) ((vstruct vnil ∷ [], tt), (refl, ((tt, (refl, tt)), tt)))

module _ {M : Type 1} {𝓤 : Ura M} {𝓛 : Logic 𝓤} {K : Type 0} {Γ : List (Item 𝓤)} {G : Goal 𝓤 𝓛.H} where
  pub start_had : K → (p : Ptr) (vs : List Val) → (vs ≡ word p ∷ [] → Seq K 𝓛 Γ G) → Seq K 𝓛 (‵ (Pointer.own_val (p, tt) vs) ∷ Γ) G
  start_had t p vs next = fpick t (λ vss. fsplit t $ feq_l t (λ whole. fsplit t $ feq_l t (λ only. drop t $ next (as_field _ _ whole only))))

  pub start_made : K → (p : Ptr) → Step K 𝓛 (‵ (Pointer.own_val (p, tt) (word p ∷ [])) ∷ Γ) G Γ G
  start_made t p = step (λ s.
      nothing t $ feq_i t (List Val) (ptr_val p ∷ []) (ptr_val p ∷ []) refl $ fjoin t $ feq_i t (List Val) (word p ∷ []) (word p ∷ []) refl $ fjoin t $
      fpack t (Valss (RawPtr ∷ [])) (within one_pointer (p, tt) (word p ∷ [])) (ptr_val p ∷ [], tt) $ s)

  pub owner_had : K → (E : El) (vs : List Val) → (vs ≡ no_bytes ∷ [] → Seq K 𝓛 Γ G) → Seq K 𝓛 (‵ ((Owner E).own_val (tt, tt) vs) ∷ Γ) G
  owner_had t E vs next =
      fpick t (λ vss. fsplit t $ feq_l t (λ whole. fsplit t $ fpick t (λ uss. fsplit t $ feq_l t (λ only. drop t $ drop t $ next (as_field _ _ whole only)))))

-- a tuple of three is made of its parts
pub three_made : {M : Type 1} {𝓤 : Ura M} (𝓛 : Logic 𝓤) (A B C : RattleType) (x : A.Denot × B.Denot × C.Denot) (u v w : Val)
    → ent 𝓤 (sep 𝓤 (sem 𝓛 (A.own_val x.0 (u ∷ []))) (sep 𝓤 (sem 𝓛 (B.own_val x.1 (v ∷ []))) (sem 𝓛 (C.own_val x.2 (w ∷ []))))) (sem 𝓛 ((Tuple (A ∷ B ∷ C ∷ [])).own_val x (vstruct (vcons u (vcons v (vcons w vnil))) ∷ [])))
three_made 𝓛 A B C x u v w =
    let made : Val = vstruct (vcons u (vcons v (vcons w vnil))) in
    qed 𝓛 (‵ (A.own_val x.0 (u ∷ [])) ∷ ‵ (B.own_val x.1 (v ∷ [])) ∷ ‵ (C.own_val x.2 (w ∷ [])) ∷ []) ∵
    nothing ! $ move ! (3 ∷ 0 ∷ []) $ fjoin ! $ move ! (2 ∷ 0 ∷ []) $ fjoin ! $ move ! (1 ∷ 0 ∷ []) $ fjoin ! $ feq_i ! (List Val) (made ∷ []) (made ∷ []) refl $ fjoin ! $
    fpack ! (Valss (A ∷ B ∷ C ∷ [])) (within (Declared.shape (tuple_type (A ∷ B ∷ C ∷ []))) (x.0, (x.1, (x.2, tt))) (made ∷ [])) (u ∷ [], (v ∷ [], (w ∷ [], tt))) $ done !

one_value : (τ : Ty) (vs : List Val) → Typed (τ ∷ []) vs → (v : Val) × ((vs ≡ v ∷ []) × Good τ v)
one_value τ [] typed = absurd typed
one_value τ (v ∷ []) typed = (v, (refl, typed.0))
one_value τ (v ∷ u ∷ us) typed = absurd typed.1

module _ (E : El) {M : Type 1} {𝓤 : Ura M} {𝓛 : Logic 𝓤} {K : Type 0} {Γ : List (Item 𝓤)} {G : Goal 𝓤 𝓛.H} where
  -- an argument of the parameter's type is one machine value of that type
  pub value_had : K → (x : el_x E) (vs : List Val) → ((v : Val) → vs ≡ v ∷ [] → Good (elτ E) v → Seq K 𝓛 (‵ (E.row.own_val x (v ∷ [])) ∷ Γ) G) → Seq K 𝓛 (‵ (E.row.own_val x vs) ∷ Γ) G
  value_had t x vs next = peeks t (R E) (Is (R E)) (shows 𝓛 (R E)) x vs (λ is.
      let found = one_value (elτ E) vs ((lawful E 𝓛).typed x vs is) in
      rewrite t 0 (λ (us : List Val). ‵ (E.row.own_val x us)) found.1.0 refl $ next found.0 found.1.0 found.1.1)

module _ (E : El) {M : Type 1} {𝓤 : Ura M} (𝓛 : Logic 𝓤) (b : ℕ) where
  open 𝓛 use {H}

  pub value_in : (o : ℕ) (x : el_x E) (v : Val) → ent 𝓤 (sep 𝓤 (H.at full_share (elτ E) b o v) (sem 𝓛 (E.row.own_val x (v ∷ [])))) (sem 𝓛 (owns_place (R E) b o (Some x)))
  value_in o x v = part_in 𝓛 (R E) refl full_share x b o v

  abbrev w : ℕ
  w = width E

  abbrev Own : ℕ → Place E → Fml
  Own = owns_place (R E) b

  abbrev Row : ℕ → List (Place E) → Fml
  Row = owns_row (R E) b

  first_at : (o : ℕ) → o ≡ zero * w + o
  first_at o = omega (arith, zero-mul w)

  next_at : (i o : ℕ) → i * w + (o + w) ≡ suc i * w + o
  next_at i o = omega (arith, suc-mul i w)

  -- all places but the i-th
  abbrev pub Others : ℕ → ℕ → List (Place E) → Fml
  Others o i [] = ftrue
  Others o zero (c ∷ cs) = Row (o + w) cs
  Others o (suc i) (c ∷ cs) = fsep (Own o c) (Others (o + w) i cs)

  pub place_out : (cs : List (Place E)) (i o : ℕ) → i < length cs → ent 𝓤 (sem 𝓛 (Row o cs)) (sep 𝓤 (sem 𝓛 (Own (i * w + o) (get_or cs i None))) (sem 𝓛 (Others o i cs)))
  place_out [] i o lt = absurd (omega arith)
  place_out (c ∷ cs) zero o lt = qed 𝓛 (‵ (Row o (c ∷ cs)) ∷ []) ∵ fsplit ! $ rewrite ! 0 (λ (k : ℕ). ‵ (Own k c)) (first_at o) refl $ done !
  place_out (c ∷ cs) (suc i) o lt = qed 𝓛 (‵ (Row o (c ∷ cs)) ∷ []) ∵ fsplit ! $ move ! (1 ∷ []) $
      use1 𝓛 (‵ (Own (i * w + (o + w)) (get_or cs i None)) ⊛ ‵ (Others (o + w) i cs)) (place_out cs i (o + w) (omega arith)) $ split ! $
      rewrite ! 0 (λ (k : ℕ). ‵ (Own k (get_or cs i None))) (next_at i o) refl $ move ! (2 ∷ 1 ∷ []) $ fjoin ! $ move ! (1 ∷ []) $ done !

  pub place_in : (cs : List (Place E)) (i o : ℕ) → i < length cs → (c : Place E) → ent 𝓤 (sep 𝓤 (sem 𝓛 (Own (i * w + o) c)) (sem 𝓛 (Others o i cs))) (sem 𝓛 (Row o (set cs i c)))
  place_in [] i o lt c = absurd (omega arith)
  place_in (d ∷ cs) zero o lt c = qed 𝓛 (‵ (Own (zero * w + o) c) ∷ ‵ (Others o zero (d ∷ cs)) ∷ []) ∵ rewrite ! 0 (λ (k : ℕ). ‵ (Own k c)) (sym (first_at o)) refl $ fjoin ! $ done !
  place_in (d ∷ cs) (suc i) o lt c = qed 𝓛 (‵ (Own (suc i * w + o) c) ∷ ‵ (Others o (suc i) (d ∷ cs)) ∷ []) ∵ rewrite ! 0 (λ (k : ℕ). ‵ (Own k c)) (sym (next_at i o)) refl $
      move ! (1 ∷ []) $ fsplit ! $ move ! (2 ∷ 1 ∷ []) $ use2 𝓛 (‵ (Row (o + w) (set cs i c))) (place_in cs i (o + w) (omega arith) c) $ move ! (1 ∷ 0 ∷ []) $ fjoin ! $ done !

  pub place_seen : (κ : Lft) (cs : List (Place E)) (i o : ℕ) → i < length cs → ent 𝓤 (sem 𝓛 (lends_row (R E) b o cs κ)) (sem 𝓛 (lends_place (R E) b (i * w + o) (get_or cs i None) κ))
  place_seen κ [] i o lt = absurd (omega arith)
  place_seen κ (c ∷ cs) zero o lt = qed 𝓛 (‵ (lends_row (R E) b o (c ∷ cs) κ) ∷ []) ∵ fsplit ! $ rewrite ! 0 (λ (k : ℕ). ‵ (lends_place (R E) b k c κ)) (first_at o) refl $ keep ! (0 ∷ []) $ done !
  place_seen κ (c ∷ cs) (suc i) o lt = qed 𝓛 (‵ (lends_row (R E) b o (c ∷ cs) κ) ∷ []) ∵ fsplit ! $ keep ! (1 ∷ []) $
      use1 𝓛 (‵ (lends_place (R E) b (i * w + (o + w)) (get_or cs i None) κ)) (place_seen κ cs i (o + w) (omega arith)) $
      rewrite ! 0 (λ (k : ℕ). ‵ (lends_place (R E) b k (get_or cs i None) κ)) (next_at i o) refl $ done !

  pub room_of_place : (o : ℕ) (c : Place E) → ent 𝓤 (sem 𝓛 (Own o c)) (H.room (elτ E) b o)
  room_of_place o None = 𝓛.laws.raw-room (elτ E) b o
  room_of_place o (Some x) = qed 𝓛 (‵ (part_at (R E) full_share x b o) ∷ []) ∵
      use1 𝓛 (some (λ (v : Val). ‵ (fat full_share (elτ E) b o v) ⊛ ‵ (E.row.own_val x (v ∷ [])))) (part_out 𝓛 (R E) refl full_share x b o) $ pick ! (λ v. split ! $
      keep ! (0 ∷ []) $ by ! (𝓛.laws.at_room (elτ E) b o v))

  pub room_of_row : (cs : List (Place E)) (o : ℕ) → ent 𝓤 (sem 𝓛 (Row o cs)) (H.room (ty_array (elτ E) (length cs)) b o)
  room_of_row [] o = 𝓛.laws.room_nil (elτ E) b o
  room_of_row (c ∷ cs) o = qed 𝓛 (‵ (Own o c) ∷ ‵ (Row (o + w) cs) ∷ []) ∵ use1 𝓛 (‵ (froom (elτ E) b o)) (room_of_place o c) $ move ! (1 ∷ []) $
      use1 𝓛 (‵ (froom (ty_array (elτ E) (length cs)) b (o + w))) (room_of_row cs (o + w)) $ move ! (1 ∷ []) $ by ! (𝓛.laws.room_cons (elτ E) (length cs) b o)

  pub row_of_room : (n o : ℕ) → ent 𝓤 (H.room (ty_array (elτ E) n) b o) (sem 𝓛 (Row o (replicate n None)))
  row_of_room zero o = qed 𝓛 (‵ (froom (ty_array (elτ E) 0) b o) ∷ []) ∵ keep ! [] $ done !
  row_of_room (suc n) o = qed 𝓛 (‵ (froom (ty_array (elτ E) (suc n)) b o) ∷ []) ∵
      use1 𝓛 (‵ (froom (elτ E) b o) ⊛ ‵ (froom (ty_array (elτ E) n) b (o + w))) (𝓛.laws.room_uncons (elτ E) n b o) $ split ! $
      use1 𝓛 (‵ (Own o None)) (𝓛.laws.room-raw (elτ E) b o) $ frame ! $ by ! (row_of_room n (o + w))
