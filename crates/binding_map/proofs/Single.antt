-- What a map binds is found again: no two bindings have a register, a descriptor or a push constant word in common.
use Rattle.std.proofs.Common.{◌≡◌, ℕ, zero, suc, ◌+◌, Bool, true, false, ◌&&◌, cond, List, [], ◌∷◌, slice_get, Option, Some, None, refl, ap, sym, ◌∙◌, arith, nat_eq, nat_le, nat_lt, true≢false, find, filter_map}
use Rattle.std.specs.List.{cons_option}
use Rattle.std.specs.Option.{option_map}
use Rattle.word_base.specs.declared.event.Room.TheVariants as room
use Rattle.spirv_words.specs.Globals.{RoomPlace, SlotPlace, PushPlace, bound_room, bound_slot}
use Rattle.binding_map.specs.declared.register.Register.{Register}
use Rattle.binding_map.specs.declared.register.Register.TheVariants.{Constant, Resource, Uav, Counter}
use Rattle.binding_map.specs.declared.register.Place.{Place}
use Rattle.binding_map.specs.declared.register.Place.TheVariants.{Bound, Push}
use Rattle.binding_map.specs.Bindings.{Binding, binding, place_of, same_register, is_at, has_word, IsMap}
use Rattle.binding_map.specs.Places.{room_at, slot_at, push_at, places_of}
use Rattle.binding_map.proofs.Joined.{same_itself, unbound}

module _ {X Y : Type 0} (h : X → Option Y) (test : Y → Bool) where
  passes : (o : Option Y) (rest : List Y) (found : Option Y) → ((w : Y) → o ≡ Some w → test w ≡ true → ⊥) → find test rest ≡ found
      → find test (cons_option o rest) ≡ found
  passes None rest found apart e = e
  passes (Some w) rest found apart e = by (test w) refl
    where
      by : (b : Bool) → test w ≡ b → cond b (Some w) (find test rest) ≡ found
      by true t = absurd (apart w refl t)
      by false t = e

  -- the one item that gives what the test takes is found
  only : (xs : List X) (i : ℕ) (x : X) (y : Y) → slice_get xs i ≡ Some x → h x ≡ Some y → test y ≡ true
      → ((j : ℕ) (z : X) (w : Y) → slice_get xs j ≡ Some z → h z ≡ Some w → test w ≡ true → i ≡ j) → find test (filter_map h xs) ≡ Some y
  only [] i x y at_i gives t single = absurd cc
  only (z ∷ xs) zero x y at_i gives t single =
      let e : z ≡ x = cc in
      ap (λ v. find test (cons_option (h v) (filter_map h xs))) e ∙ (ap (λ o. find test (cons_option o (filter_map h xs))) gives
      ∙ ap (λ b. cond b (Some y) (find test (filter_map h xs))) t)
  only (z ∷ xs) (suc i) x y at_i gives t single =
      passes (h z) (filter_map h xs) (Some y) (λ w g s. absurd (omega (arith, single 0 z w refl g s)))
      (only xs i x y at_i gives t (λ j v w k g s. let e : suc i ≡ suc j = single (suc j) v w k g s in omega (arith, e)))

-- THE PLACE OF A REGISTER
pub same_is : (r s : Register) → same_register r s ≡ true → r ≡ s
same_is (Constant a) (Constant b) h = let e : a ≡ b = grind (arith, h) in ap Constant e
same_is (Constant a) (Resource b) h = absurd (true≢false (sym h))
same_is (Constant a) (Uav b) h = absurd (true≢false (sym h))
same_is (Constant a) (Counter b) h = absurd (true≢false (sym h))
same_is (Resource a) (Constant b) h = absurd (true≢false (sym h))
same_is (Resource a) (Resource b) h = let e : a ≡ b = grind (arith, h) in ap Resource e
same_is (Resource a) (Uav b) h = absurd (true≢false (sym h))
same_is (Resource a) (Counter b) h = absurd (true≢false (sym h))
same_is (Uav a) (Constant b) h = absurd (true≢false (sym h))
same_is (Uav a) (Resource b) h = absurd (true≢false (sym h))
same_is (Uav a) (Uav b) h = let e : a ≡ b = grind (arith, h) in ap Uav e
same_is (Uav a) (Counter b) h = absurd (true≢false (sym h))
same_is (Counter a) (Constant b) h = absurd (true≢false (sym h))
same_is (Counter a) (Resource b) h = absurd (true≢false (sym h))
same_is (Counter a) (Uav b) h = absurd (true≢false (sym h))
same_is (Counter a) (Counter b) h = let e : a ≡ b = grind (arith, h) in ap Counter e

found_by : (register : Register) (place : Place) (b : Binding) (bindings : List Binding)
    → (place_of bindings register ≡ Some place → (i : ℕ) × (slice_get bindings i ≡ Some (binding register place)))
    → (test : Bool) → same_register register b.register ≡ test
    → option_map (λ (c : Binding). c.place) (cond test (Some b) (find (λ c. same_register register c.register) bindings)) ≡ Some place
    → (i : ℕ) × (slice_get (b ∷ bindings) i ≡ Some (binding register place))
found_by register place b bindings rest true t e =
    let r : register ≡ b.register = same_is register b.register t in
    let q : b.place ≡ place = cc in
    (0, sym (ap (λ s. Some (binding s place)) r ∙ ap (λ s. Some (binding b.register s)) (sym q)))
found_by register place b bindings rest false t e = let r = rest e in (suc r.0, r.1)

pub found : (bindings : List Binding) (register : Register) (place : Place) → place_of bindings register ≡ Some place
    → (i : ℕ) × (slice_get bindings i ≡ Some (binding register place))
found [] register place h = absurd cc
found (b ∷ bindings) register place h = found_by register place b bindings (found bindings register place) (same_register register b.register) refl h

pub missing : (bindings : List Binding) (register : Register) → place_of bindings register ≡ None → (i : ℕ) (b : Binding)
    → slice_get bindings i ≡ Some b → b.register ≡ register → ⊥
missing bindings register none i b h e =
    true≢false (sym (same_itself register) ∙ (ap (same_register register) (sym e) ∙ unbound register bindings none i b h))

pub listed : (bindings : List Binding) (i : ℕ) (b : Binding) → IsMap bindings → slice_get bindings i ≡ Some b
    → place_of bindings b.register ≡ Some b.place
listed bindings i b m h = by (place_of bindings b.register) refl
  where
    by : (o : Option Place) → place_of bindings b.register ≡ o → o ≡ Some b.place
    by None e = absurd (missing bindings b.register e i b h refl)
    by (Some place) e =
        let f = found bindings b.register place e in
        let same : i ≡ f.0 = m.registers i f.0 b (binding b.register place) h f.1 refl in
        let q : Some b ≡ Some (binding b.register place) = sym h ∙ (ap (slice_get bindings) same ∙ f.1) in
        let r : b ≡ binding b.register place = cc in
        ap (λ (c : Binding). Some c.place) (sym r)

-- WHAT IS AT A DESCRIPTOR
itself : (m n : ℕ) → (nat_eq m m && nat_eq n n) ≡ true
itself m n = grind arith

abbrev holds_room : ℕ → ℕ → RoomPlace → Bool
holds_room set number p = nat_eq p.set set && nat_eq p.binding number

abbrev holds_slot : ℕ → ℕ → SlotPlace → Bool
holds_slot set number p = nat_eq p.set set && nat_eq p.binding number

same_room : (set number : ℕ) (q p : RoomPlace) → Some q ≡ Some p → holds_room set number p ≡ true → holds_room set number q ≡ true
same_room set number q p h t = let e : q ≡ p = cc in ap (holds_room set number) e ∙ t

same_slot : (set number : ℕ) (q p : SlotPlace) → Some q ≡ Some p → holds_slot set number p ≡ true → holds_slot set number q ≡ true
same_slot set number q p h t = let e : q ≡ p = cc in ap (holds_slot set number) e ∙ t

room_is_at : (register : Register) (place : Place) (p : RoomPlace) (set number : ℕ) → room_at register place ≡ Some p
    → holds_room set number p ≡ true → is_at place set number ≡ true
room_is_at (Constant slot) place p set number h t = absurd cc
room_is_at (Resource slot) (Bound s n) p set number h t = same_room set number (record { set = s; binding = n; room = room.Resource slot }) p h t
room_is_at (Resource slot) (Push f c) p set number h t = absurd cc
room_is_at (Uav slot) (Bound s n) p set number h t = same_room set number (record { set = s; binding = n; room = room.Uav slot }) p h t
room_is_at (Uav slot) (Push f c) p set number h t = absurd cc
room_is_at (Counter slot) (Bound s n) p set number h t = same_room set number (record { set = s; binding = n; room = room.Counter slot }) p h t
room_is_at (Counter slot) (Push f c) p set number h t = absurd cc

slot_is_at : (register : Register) (place : Place) (p : SlotPlace) (set number : ℕ) → slot_at register place ≡ Some p
    → holds_slot set number p ≡ true → is_at place set number ≡ true
slot_is_at (Constant slot) (Bound s n) p set number h t = same_slot set number (record { set = s; binding = n; slot = slot }) p h t
slot_is_at (Constant slot) (Push f c) p set number h t = absurd cc
slot_is_at (Resource slot) place p set number h t = absurd cc
slot_is_at (Uav slot) place p set number h t = absurd cc
slot_is_at (Counter slot) place p set number h t = absurd cc

pub room_found : (bindings : List Binding) (i : ℕ) (b : Binding) (p : RoomPlace) → IsMap bindings → slice_get bindings i ≡ Some b
    → room_at b.register b.place ≡ Some p → bound_room (places_of bindings) (Some p.set) (Some p.binding) ≡ Some p.room
room_found bindings i b p m h gives =
    ap (option_map (λ (q : RoomPlace). q.room)) (only (λ (c : Binding). room_at c.register c.place) (holds_room p.set p.binding) bindings i b p h gives (itself p.set p.binding)
    (λ j c q at_j given t. m.descriptors i j b c h at_j p.set p.binding
    (room_is_at b.register b.place p p.set p.binding gives (itself p.set p.binding)) (room_is_at c.register c.place q p.set p.binding given t)))

pub slot_found : (bindings : List Binding) (i : ℕ) (b : Binding) (p : SlotPlace) → IsMap bindings → slice_get bindings i ≡ Some b
    → slot_at b.register b.place ≡ Some p → bound_slot (places_of bindings) (Some p.set) (Some p.binding) ≡ Some p.slot
slot_found bindings i b p m h gives =
    ap (option_map (λ (q : SlotPlace). q.slot)) (only (λ (c : Binding). slot_at c.register c.place) (holds_slot p.set p.binding) bindings i b p h gives (itself p.set p.binding)
    (λ j c q at_j given t. m.descriptors i j b c h at_j p.set p.binding
    (slot_is_at b.register b.place p p.set p.binding gives (itself p.set p.binding)) (slot_is_at c.register c.place q p.set p.binding given t)))

-- WHAT HAS A PUSH CONSTANT WORD
abbrev holds_word : ℕ → PushPlace → Bool
holds_word word p = nat_le p.first word && nat_lt word (p.first + p.count)

same_push : (word : ℕ) (q p : PushPlace) → Some q ≡ Some p → holds_word word p ≡ true → holds_word word q ≡ true
same_push word q p h t = let e : q ≡ p = cc in ap (holds_word word) e ∙ t

push_has : (register : Register) (place : Place) (p : PushPlace) (word : ℕ) → push_at register place ≡ Some p
    → holds_word word p ≡ true → has_word place word ≡ true
push_has (Constant slot) (Push f c) p word h t = same_push word (record { first = f; count = c; slot = slot }) p h t
push_has (Constant slot) (Bound s n) p word h t = absurd cc
push_has (Resource slot) place p word h t = absurd cc
push_has (Uav slot) place p word h t = absurd cc
push_has (Counter slot) place p word h t = absurd cc

pub push_found : (bindings : List Binding) (i : ℕ) (b : Binding) (p : PushPlace) (word : ℕ) → IsMap bindings → slice_get bindings i ≡ Some b
    → push_at b.register b.place ≡ Some p → (nat_le p.first word && nat_lt word (p.first + p.count)) ≡ true
    → find (λ q. nat_le q.first word && nat_lt word (q.first + q.count)) (places_of bindings).pushes ≡ Some p
push_found bindings i b p word m h gives inside =
    only (λ (c : Binding). push_at c.register c.place) (holds_word word) bindings i b p h gives inside
    (λ j c q at_j given t. m.pushes i j b c h at_j word (push_has b.register b.place p word gives inside) (push_has c.register c.place q word given t))
