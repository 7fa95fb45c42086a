-- Where access chains lead, by the types of variables.
use Rattle.std.proofs.Common.{◌≡◌, ℕ, ◌+◌, ◌-◌, ◌*◌, ◌/◌, [], ◌∷◌, refl, arith}
use Rattle.std.specs.Prelude.{Ok, nat_lt, true}
use Rattle.word_base.specs.declared.event.Room.{Room}
use Rattle.spirv_words.specs.StorageClass as storage
use Rattle.spirv_words.specs.Sorts.{sort_of_value}
use Rattle.spirv_words.specs.Values.{AtLocal, AtRoom, AtConstants, AtPush, AtInput}
use Rattle.spirv_words.specs.Globals.{Machine}
use Rattle.spirv_words.specs.Memory.{chained}
use Rattle.spirv_emit.specs.Lanes.{IsArray, IsPushBlock, IsView, IsVectors, IsTriple}

module _ (m : Machine) (id : ℕ) where
  pub local_chain : (n k : ℕ) → IsArray m.code storage.Function id n → nat_lt k n ≡ true
      → chained m (sort_of_value m.code id) (AtLocal id 0) (k ∷ []) ≡ Ok (AtLocal id k)
  local_chain n k h lt = let e : 0 + k * 1 ≡ k = omega arith in rw (h.pointer, h.array', h.element', lt, e) refl

  pub shared_chain : (n k : ℕ) (room : Room) → IsArray m.code storage.Workgroup id n → nat_lt k n ≡ true
      → chained m (sort_of_value m.code id) (AtRoom room 0) (k ∷ []) ≡ Ok (AtRoom room k)
  shared_chain n k room h lt = let e : 0 + k * 1 ≡ k = omega arith in rw (h.pointer, h.array', h.element', lt, e) refl

  pub triple_chain : (kind k : ℕ) → IsTriple m.code id → nat_lt k 3 ≡ true
      → chained m (sort_of_value m.code id) (AtInput kind 0) (k ∷ []) ≡ Ok (AtInput kind k)
  triple_chain kind k h lt = let e : 0 + k ≡ k = omega arith in rw (h.pointer, h.vector', lt, e) refl

  pub push_chain : (n k : ℕ) → IsPushBlock m.code id n → nat_lt k n ≡ true
      → chained m (sort_of_value m.code id) (AtPush 0) (0 ∷ k ∷ []) ≡ Ok (AtPush k)
  push_chain n k h lt = let e : 0 + 0 + k * 1 ≡ k = omega arith in rw (h.pointer, h.block', h.offset, h.array', h.stride, lt, e) refl

  pub vectors_chain : (slot n i j : ℕ) → IsVectors m.code id n → nat_lt i n ≡ true → nat_lt j 4 ≡ true
      → chained m (sort_of_value m.code id) (AtConstants slot 0) (0 ∷ i ∷ j ∷ []) ≡ Ok (AtConstants slot (i * 4 + j))
  vectors_chain slot n i j h lt k =
      let e : 0 + 0 + i * 4 + j ≡ i * 4 + j = omega arith in
      rw (h.pointer, h.block', h.offset, h.array', h.stride, lt, h.vector', k, e) refl

  pub view_chain : (room : Room) (k : ℕ) → IsView m.code id → nat_lt k (m.setting.extent room) ≡ true
      → chained m (sort_of_value m.code id) (AtRoom room 0) (0 ∷ k ∷ []) ≡ Ok (AtRoom room k)
  view_chain room k h lt =
      let e : 0 + 0 + k * 1 ≡ k = omega arith in
      let n : (m.setting.extent room - (0 + 0)) / 1 ≡ m.setting.extent room = omega arith in
      rw (h.pointer, h.block', h.offset, h.array', h.stride, n, lt, e) refl
