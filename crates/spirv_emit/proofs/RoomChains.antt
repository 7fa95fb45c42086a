-- Pointers to words of arrays of the lane and of rooms.
use Rattle.std.proofs.Common.{◌≡◌, ℕ, ◌+◌, ◌-◌, ◌*◌, ◌/◌, ◌<◌, inl, List, [], ◌∷◌, Some, refl, sym, ap, ◌∙◌, subst, arith, Bool, true, false}
use Rattle.std.specs.Prelude.{slice_get, nat_lt, Ok, Err}
use Rattle.std.proofs.lemmas.Bool.{ltb-true, lt-ltb}
use Rattle.word_base.specs.declared.event.Room.{Room}
use Rattle.word_base.specs.declared.event.Room.TheVariants as room
use Rattle.spirv_words.specs.StorageClass as storage
use Rattle.spirv_words.specs.Decoration.{ArrayStride, Offset}
use Rattle.spirv_words.specs.Ids.{ids_of}
use Rattle.spirv_words.specs.Text.{instr}
use Rattle.spirv_words.specs.Sorts.{Pointer, Array, RuntimeArray, Struct, Words, sort_of}
use Rattle.spirv_words.specs.Values.{Value, Word, Truth, NoParts, Part, AtLocal, AtRoom, AtConstants, AtPush, AtInput, Got}
use Rattle.spirv_words.specs.Memory.{chained}
use Rattle.spirv_words.specs.Globals.{Machine, decoration, member_decoration}
use Rattle.spirv_words.specs.Lane.{State, step, sets}
use Rattle.spirv_symbols.specs.declared.symbol.Access.{Access}
use Rattle.spirv_symbols.specs.declared.symbol.Symbol.{Symbol}
use Rattle.spirv_symbols.specs.declared.symbol.Symbol.TheVariants.{AType, Constant, Memory}
use Rattle.spirv_symbols.specs.declared.symbol.TypeSymbol.TheVariants as symbol
use Rattle.spirv_symbols.specs.declared.symbol.Access.TheVariants.{Plain, ReadOnly}
use Rattle.spirv_symbols.specs.Rows.{uav_access}
use Rattle.spirv_symbols.specs.Contexts.{declared_of}
use Rattle.spirv_symbols.specs.Contexts as context
use Rattle.spirv_symbols.specs.Tables.{Has}
use Rattle.spirv_symbols.specs.declared.symbol.TypeSymbol.{TypeSymbol}
use Rattle.spirv_emit.specs.Emission.{Emission}
use Rattle.spirv_emit.specs.Begun.{IsBegun}
use Rattle.spirv_emit.specs.Joins.{given, always, joined, only}
use Rattle.spirv_emit.specs.Code.{In, type_of_symbol}
use Rattle.spirv_emit.specs.Lanes.{Site, IsWhole, IsArray, IsView, HasMemorySort, meaning}
use Rattle.shader_tree.specs.Values.{Words as Words'}
use Rattle.shader_tree.specs.Holding.{HoldWords}
use Rattle.spirv_emit.specs.Growing.{Completes}
use Rattle.spirv_emit.specs.Linked.{StandsIn}
use Rattle.spirv_emit.specs.Rooms.{PointsTo, inside, placed, room_word, class_of}
use Rattle.spirv_emit.specs.Values.{Slot, slot, a_word, AreValues, Meaning, Gives}
use Rattle.spirv_emit.specs.Steps.{Adds}
use Rattle.spirv_emit.proofs.Links.{chain_room}
use Rattle.spirv_emit.proofs.Giving.{Leads, added_gives, added_here, named_gives, nothing_gives, then', leads_back, only_gives, only_leads, weaker, weaker_leads}
use Rattle.spirv_emit.proofs.Room.{has_below}
use Rattle.spirv_emit.proofs.Stores.{there_named}
use Rattle.spirv_emit.proofs.Forms.{acts}

-- where chains lead
local_chain : (m : Machine) (array element v k n : ℕ) → sort_of m.code array ≡ Array element n → sort_of m.code element ≡ Words → k < n
    → chained m (Pointer storage.Function array) (AtLocal v 0) (k ∷ []) ≡ Ok (AtLocal v k)
local_chain m array element v k n ha hw lt = let e : 0 + k * 1 ≡ k = omega arith in rw (ha, lt-ltb k n lt, hw, e) refl

shared_chain : (m : Machine) (array element : ℕ) (r : Room) (k n : ℕ) → sort_of m.code array ≡ Array element n → sort_of m.code element ≡ Words
    → k < n
    → chained m (Pointer storage.Workgroup array) (AtRoom r 0) (k ∷ []) ≡ Ok (AtRoom r k)
shared_chain m array element r k n ha hw lt = let e : 0 + k * 1 ≡ k = omega arith in rw (ha, lt-ltb k n lt, hw, e) refl

view_chain : (m : Machine) (block array element : ℕ) (r : Room) (k : ℕ) → sort_of m.code block ≡ Struct (array ∷ [])
    → sort_of m.code array ≡ RuntimeArray element
    → member_decoration m.code block 0 Offset ≡ Some 0 → decoration m.code array ArrayStride ≡ Some 4 → k < m.setting.extent r
    → chained m (Pointer storage.StorageBuffer block) (AtRoom r 0) (0 ∷ k ∷ []) ≡ Ok (AtRoom r k)
view_chain m block array element r k hb ha ho hs lt =
    let e : 0 + k * 1 ≡ k = omega arith in
    let n : (m.setting.extent r - 0) / 1 ≡ m.setting.extent r = omega arith in
    rw (hb, ho, ha, hs, n, lt-ltb k (m.setting.extent r) lt, e) refl

-- THE WORD of an array at an index inside it: the last value is the index. In a block its member comes first.
abbrev pub pointed : ℕ → (ℕ → Value) → List Value → Got (List Value)
pointed n make (p ∷ Word k ∷ []) = inside (nat_lt k n) (make k)
pointed n make vs = Err 1

abbrev pub pointing : (Site → ℕ) → (ℕ → Value) → Meaning
pointing size make z t vs = pointed (size z) make vs

abbrev pub pointed_in : ℕ → (ℕ → Value) → List Value → Got (List Value)
pointed_in n make (p ∷ member ∷ Word k ∷ []) = inside (nat_lt k n) (make k)
pointed_in n make vs = Err 1

abbrev pub pointing_in : (Site → ℕ) → (ℕ → Value) → Meaning
pointing_in size make z t vs = pointed_in (size z) make vs

record Pointed (n : ℕ) (make : ℕ → Value) (x : Value) (ws : List Value) : Type 0 where
  pub index : ℕ
  pub is : x ≡ Word index
  pub within : index < n
  pub made : ws ≡ make index ∷ []

when_inside : (b : Bool) (k n : ℕ) (make : ℕ → Value) (ws : List Value) → nat_lt k n ≡ b → inside b (make k) ≡ Ok ws → Pointed n make (Word k) ws
when_inside true k n make ws e h = record { index = k; is = refl; within = ltb-true k n e; made = sym (cc h) }
when_inside false k n make ws e h = absurd (cc h)

pointed_at : (n : ℕ) (make : ℕ → Value) (p x : Value) (ws : List Value) → pointed n make (p ∷ x ∷ []) ≡ Ok ws → Pointed n make x ws
pointed_at n make p (Word k) ws h = when_inside (nat_lt k n) k n make ws refl h
pointed_at n make p (Truth b) ws h = absurd (cc h)
pointed_at n make p NoParts ws h = absurd (cc h)
pointed_at n make p (Part x y) ws h = absurd (cc h)
pointed_at n make p (AtLocal x y) ws h = absurd (cc h)
pointed_at n make p (AtRoom x y) ws h = absurd (cc h)
pointed_at n make p (AtConstants x y) ws h = absurd (cc h)
pointed_at n make p (AtPush x) ws h = absurd (cc h)
pointed_at n make p (AtInput x y) ws h = absurd (cc h)

pointed_in_at : (n : ℕ) (make : ℕ → Value) (p q x : Value) (ws : List Value) → pointed_in n make (p ∷ q ∷ x ∷ []) ≡ Ok ws → Pointed n make x ws
pointed_in_at n make p q (Word k) ws h = when_inside (nat_lt k n) k n make ws refl h
pointed_in_at n make p q (Truth b) ws h = absurd (cc h)
pointed_in_at n make p q NoParts ws h = absurd (cc h)
pointed_in_at n make p q (Part x y) ws h = absurd (cc h)
pointed_in_at n make p q (AtLocal x y) ws h = absurd (cc h)
pointed_in_at n make p q (AtRoom x y) ws h = absurd (cc h)
pointed_in_at n make p q (AtConstants x y) ws h = absurd (cc h)
pointed_in_at n make p q (AtPush x) ws h = absurd (cc h)
pointed_in_at n make p q (AtInput x y) ws h = absurd (cc h)

-- AN ARRAY of words side by side, of the lane or of a group.
module _ (a d : Emission) (t r p i n : ℕ) (y : Symbol) (size : Site → ℕ) (type : Has a.symbols.entries y p)
    (h : Adds a d (instr 65 (t ∷ r ∷ p ∷ i ∷ [])) r) where
  pub array_chain_gives : Has a.symbols.entries (AType (symbol.WordPointer storage.Function)) t → meaning y p ≡ Some (AtLocal p 0)
      → ((z : Site) → Completes a z → IsArray z.machine.code storage.Function p (size z))
      → Gives a d (slot p (symbol.LocalPointer n) ∷ a_word i ∷ []) (slot r (symbol.WordPointer storage.Function) ∷ [])
      (pointing size (λ k. AtLocal p k))
  array_chain_gives has m array =
      added_gives a d (instr 65 (t ∷ r ∷ p ∷ i ∷ [])) r t (symbol.WordPointer storage.Function) (slot p (symbol.LocalPointer n) ∷ a_word i ∷ [])
      (pointing size (λ k. AtLocal p k)) refl has (refl, refl) h
      (λ z comp k is. (storage.Function, symbol.LocalPointer n, comp.has (AType (symbol.WordPointer storage.Function)) t has, is.0, (refl, is.1.0)))
      (inl refl) (λ z places is. refl)
      (λ z comp s u vs ws at v mir e. by z s vs ws comp.whole at (array z comp) (mir.knows y p (AtLocal p 0) (comp.has y p type) m) v e) where
        by : (z : Site) (s : State) (vs ws : List Value) → IsWhole z → slice_get z.machine.code s.place ≡ Some (instr 65 (t ∷ r ∷ p ∷ i ∷ []))
            → IsArray z.machine.code storage.Function p (size z) → s.values p ≡ Some (AtLocal p 0)
            → AreValues s.values (slot p (symbol.LocalPointer n) ∷ a_word i ∷ []) vs → pointed (size z) (λ k. AtLocal p k) vs ≡ Ok ws
            → (x : Value) × (ws ≡ x ∷ []) × (step z.machine s ≡ sets s r x)
        by z s [] ws whole at ar q v e = absurd v
        by z s (x ∷ []) ws whole at ar q v e = absurd v.1
        by z s (x ∷ w ∷ []) ws whole at ar q v e =
            let o = pointed_at (size z) (λ k. AtLocal p k) x w ws e in
            let word : s.values i ≡ Some (Word o.index) = v.1.0 ∙ ap Some o.is in (
              AtLocal p o.index,
              o.made,
              acts z s (instr 65 (t ∷ r ∷ p ∷ i ∷ [])) whole at
                  ∙ rw (q, word, ar.pointer, local_chain z.machine ar.array ar.element p o.index (size z) ar.array' ar.element' o.within) refl,
            )
        by z s (x ∷ w ∷ l ∷ vs) ws whole at ar q v e = absurd v.1.1

  pub shared_chain_gives : (room : Room) → Has a.symbols.entries (AType (symbol.WordPointer storage.Workgroup)) t → meaning y p ≡ Some (AtRoom room 0)
      → ((z : Site) → Completes a z → IsArray z.machine.code storage.Workgroup p (size z))
      → (g : Gives a d (slot p (symbol.SharedPointer n) ∷ a_word i ∷ []) (slot r (symbol.WordPointer storage.Workgroup) ∷ [])
      (pointing size (λ k. AtRoom room k))) × (g.seg ≡ instr 65 (t ∷ r ∷ p ∷ i ∷ []) ∷ [])
  shared_chain_gives room has m array =
      added_here a d (instr 65 (t ∷ r ∷ p ∷ i ∷ [])) r t (symbol.WordPointer storage.Workgroup) (slot p (symbol.SharedPointer n) ∷ a_word i ∷ [])
      (pointing size (λ k. AtRoom room k)) refl has (refl, refl) h
      (λ z comp k is. (
        storage.Workgroup,
        symbol.SharedPointer n,
        comp.has (AType (symbol.WordPointer storage.Workgroup)) t has,
        is.0,
        (refl, is.1.0),
      ))
      (inl refl) (λ z places is. refl)
      (λ z comp s u vs ws at v mir e. by z s vs ws comp.whole at (array z comp) (mir.knows y p (AtRoom room 0) (comp.has y p type) m) v e) where
        by : (z : Site) (s : State) (vs ws : List Value) → IsWhole z → slice_get z.machine.code s.place ≡ Some (instr 65 (t ∷ r ∷ p ∷ i ∷ []))
            → IsArray z.machine.code storage.Workgroup p (size z) → s.values p ≡ Some (AtRoom room 0)
            → AreValues s.values (slot p (symbol.SharedPointer n) ∷ a_word i ∷ []) vs → pointed (size z) (λ k. AtRoom room k) vs ≡ Ok ws
            → (x : Value) × (ws ≡ x ∷ []) × (step z.machine s ≡ sets s r x)
        by z s [] ws whole at ar q v e = absurd v
        by z s (x ∷ []) ws whole at ar q v e = absurd v.1
        by z s (x ∷ w ∷ []) ws whole at ar q v e =
            let o = pointed_at (size z) (λ k. AtRoom room k) x w ws e in
            let word : s.values i ≡ Some (Word o.index) = v.1.0 ∙ ap Some o.is in (
              AtRoom room o.index,
              o.made,
              acts z s (instr 65 (t ∷ r ∷ p ∷ i ∷ [])) whole at
                  ∙ rw (q, word, ar.pointer, shared_chain z.machine ar.array ar.element room o.index (size z) ar.array' ar.element' o.within) refl,
            )
        by z s (x ∷ w ∷ l ∷ vs) ws whole at ar q v e = absurd v.1.1

-- A VIEW or a counter.
module _ (a d : Emission) (t r p o i : ℕ) (access : Access) (room : Room) (h : Adds a d (instr 65 (t ∷ r ∷ p ∷ o ∷ i ∷ [])) r) where
  pub view_chain_gives : Has a.symbols.entries (Memory room) p → Has a.symbols.entries (Constant 0) o
      → Has a.symbols.entries (AType (symbol.WordPointer storage.StorageBuffer)) t → ((z : Site) → Completes a z → IsView z.machine.code p)
      → (g : Gives a d (slot p (symbol.ViewPointer access) ∷ a_word o ∷ a_word i ∷ []) (slot r (symbol.WordPointer storage.StorageBuffer) ∷ [])
      (pointing_in (λ z. z.machine.setting.extent room) (λ k. AtRoom room k))) × (g.seg ≡ instr 65 (t ∷ r ∷ p ∷ o ∷ i ∷ []) ∷ [])
  view_chain_gives type zero' has view =
      added_here a d (instr 65 (t ∷ r ∷ p ∷ o ∷ i ∷ [])) r t (symbol.WordPointer storage.StorageBuffer)
      (slot p (symbol.ViewPointer access) ∷ a_word o ∷ a_word i ∷ [])
      (pointing_in (λ z. z.machine.setting.extent room) (λ k. AtRoom room k)) refl has (refl, refl) h
      (λ z comp k is. (
        storage.StorageBuffer,
        symbol.ViewPointer access,
        comp.has (AType (symbol.WordPointer storage.StorageBuffer)) t has,
        is.0,
        (refl, comp.has (Constant 0) o zero', (is.1.0, (is.1.1.0, tt))),
      ))
      (inl refl) (λ z places is. refl)
      (λ z comp s u vs ws at v mir e.
      by z s vs ws comp.whole at (view z comp) (mir.knows (Memory room) p (AtRoom room 0) (comp.has (Memory room) p type) refl)
      (mir.knows (Constant 0) o (Word 0) (comp.has (Constant 0) o zero') refl) v e) where
        by : (z : Site) (s : State) (vs ws : List Value) → IsWhole z → slice_get z.machine.code s.place ≡ Some (instr 65 (t ∷ r ∷ p ∷ o ∷ i ∷ []))
            → IsView z.machine.code p → s.values p ≡ Some (AtRoom room 0) → s.values o ≡ Some (Word 0)
            → AreValues s.values (slot p (symbol.ViewPointer access) ∷ a_word o ∷ a_word i ∷ []) vs
            → pointed_in (z.machine.setting.extent room) (λ k. AtRoom room k) vs ≡ Ok ws
            → (x : Value) × (ws ≡ x ∷ []) × (step z.machine s ≡ sets s r x)
        by z s [] ws whole at ar q b v e = absurd v
        by z s (x ∷ []) ws whole at ar q b v e = absurd v.1
        by z s (x ∷ y ∷ []) ws whole at ar q b v e = absurd v.1.1
        by z s (x ∷ y ∷ w ∷ []) ws whole at ar q b v e =
            let g = pointed_in_at (z.machine.setting.extent room) (λ k. AtRoom room k) x y w ws e in
            let word : s.values i ≡ Some (Word g.index) = v.1.1.0 ∙ ap Some g.is in (
              AtRoom room g.index,
              g.made,
              acts z s (instr 65 (t ∷ r ∷ p ∷ o ∷ i ∷ [])) whole at
                  ∙ rw (
                    q,
                    b,
                    word,
                    ar.pointer,
                    view_chain z.machine ar.block ar.array ar.element room g.index ar.block' ar.array' ar.offset ar.stride
                        g.within,
                  ) refl,
            )
        by z s (x ∷ y ∷ w ∷ l ∷ vs) ws whole at ar q b v e = absurd v.1.1.1

-- THE PLACE of a room's word.
record Placed (n : ℕ) (r : Room) (vs ws : List Value) : Type 0 where
  pub index : ℕ
  pub is : vs ≡ Word index ∷ []
  pub within : index < n
  pub made : ws ≡ AtRoom r index ∷ []

when_placed : (b : Bool) (k n : ℕ) (r : Room) (ws : List Value) → nat_lt k n ≡ b → inside b (AtRoom r k) ≡ Ok ws → Placed n r (Word k ∷ []) ws
when_placed true k n r ws e h = record { index = k; is = refl; within = ltb-true k n e; made = sym (cc h) }
when_placed false k n r ws e h = absurd (cc h)

placed_at : (n : ℕ) (r : Room) (vs ws : List Value) → placed n r vs ≡ Ok ws → Placed n r vs ws
placed_at n r [] ws h = absurd (cc h)
placed_at n r (Word k ∷ []) ws h = when_placed (nat_lt k n) k n r ws refl h
placed_at n r (Truth b ∷ []) ws h = absurd (cc h)
placed_at n r (NoParts ∷ []) ws h = absurd (cc h)
placed_at n r (Part x y ∷ []) ws h = absurd (cc h)
placed_at n r (AtLocal x y ∷ []) ws h = absurd (cc h)
placed_at n r (AtRoom x y ∷ []) ws h = absurd (cc h)
placed_at n r (AtConstants x y ∷ []) ws h = absurd (cc h)
placed_at n r (AtPush x ∷ []) ws h = absurd (cc h)
placed_at n r (AtInput x y ∷ []) ws h = absurd (cc h)
placed_at n r (v ∷ w ∷ vs) ws h = absurd (other v h) where
  other : (v : Value) → placed n r (v ∷ w ∷ vs) ≡ Ok ws → ⊥
  other (Word k) h = absurd (cc h)
  other (Truth b) h = absurd (cc h)
  other NoParts h = absurd (cc h)
  other (Part x y) h = absurd (cc h)
  other (AtLocal x y) h = absurd (cc h)
  other (AtRoom x y) h = absurd (cc h)
  other (AtConstants x y) h = absurd (cc h)
  other (AtPush x) h = absurd (cc h)
  other (AtInput x y) h = absurd (cc h)

-- the variable, which is there, and the chain
module _ (a d : Emission) (r : Room) (p i q t : ℕ) (begun : IsBegun a) (has : Has a.symbols.entries (Memory r) p) where
  variable : (type : TypeSymbol) → type_of_symbol a.frame.context (Memory r) ≡ Some type
      → Gives a a (a_word i ∷ []) (slot p type ∷ a_word i ∷ []) (joined given [] (always (AtRoom r 0)))
  variable type e =
      let named = there_named a (Memory r) p has (has_below a.frame.context a.symbols (Memory r) p begun.table has) in
      let here = named_gives a a (Memory r) p (AtRoom r 0) type refl e named in
      then' a a a (a_word i ∷ []) (a_word i ∷ []) [] (slot p type ∷ []) given (always (AtRoom r 0)) []
      (nothing_gives a a (a_word i ∷ []) (named.grows) refl) here refl

  abbrev Led : ℕ → Type 0
  Led class =
      (g : Gives a d (a_word i ∷ []) (slot q (symbol.WordPointer class) ∷ []) (room_word r))
      × Leads a d (a_word i ∷ []) (slot q (symbol.WordPointer class) ∷ []) (room_word r) g r q

  -- a chain of one instruction from the variable leads to the room
  from_chain : (xs : List Slot) (class : ℕ) (f : Meaning) (is : List ℕ) (g : Gives a d xs (slot q (symbol.WordPointer class) ∷ []) f)
      → g.seg ≡ instr 65 (t ∷ q ∷ p ∷ is) ∷ [] → In (ids_of (instr 65 (t ∷ q ∷ p ∷ is))).results q
      → Leads a d xs (slot q (symbol.WordPointer class) ∷ []) f g r q
  from_chain xs class f is g e own z places comp linked here =
      chain_room z places r t q p is linked (comp.has (Memory r) p (g.grows.has (Memory r) p has)) (subst (StandsIn z) e here) own

  by_place : (z : Site) (t : Words') (vs ws : List Value) → Placed (z.machine.setting.extent r) r vs ws → (f : Meaning)
      → ((k : ℕ) → k < z.machine.setting.extent r → f z t (Word k ∷ []) ≡ Ok (AtRoom r k ∷ [])) → f z t vs ≡ Ok ws
  by_place z t vs ws k f h =
      subst (λ us. f z t us ≡ Ok ws) (sym k.is) (subst (λ us. f z t (Word k.index ∷ []) ≡ Ok us) (sym k.made) (h k.index k.within))

  pub shared_word : (x : ℕ) → r ≡ room.Shared x → Has a.symbols.entries (AType (symbol.WordPointer storage.Workgroup)) t
      → Adds a d (instr 65 (t ∷ q ∷ p ∷ i ∷ [])) q → Led storage.Workgroup
  shared_word x e pointer h =
      let n = context.size_of a.frame.context (Memory (room.Shared x)) in
      let size : Site → ℕ = λ z. z.machine.setting.extent r in
      let type : type_of_symbol a.frame.context (Memory r) ≡ Some (symbol.SharedPointer n) = ap (λ y. type_of_symbol a.frame.context (Memory y)) e in
      let one = variable (symbol.SharedPointer n) type in
      let chain = shared_chain_gives a d t q p i n (Memory r) size has h r pointer refl
      (λ z comp.
      let sort : HasMemorySort z.machine.code z.frame.context (room.Shared x) p =
      subst (λ y. HasMemorySort z.machine.code z.frame.context y p) e (comp.whole.sorts (Memory r) p (comp.has (Memory r) p has)) in
      let same : size z ≡ context.size_of z.frame.context (Memory (room.Shared x)) = ap (λ y. z.machine.setting.extent y) e ∙ comp.whole.fits.shared x
      in
      subst (IsArray z.machine.code storage.Workgroup p) (sym same) sort) in
      let f = joined given [] (always (AtRoom r 0)) in
      let two = then' a a d (a_word i ∷ []) (slot p (symbol.SharedPointer n) ∷ a_word i ∷ []) (slot p (symbol.SharedPointer n) ∷ a_word i ∷ [])
      (slot q (symbol.WordPointer storage.Workgroup) ∷ []) f (pointing size (λ k. AtRoom r k)) (0 ∷ 1 ∷ []) one chain.0 refl in
      let g = joined f (0 ∷ 1 ∷ []) (pointing size (λ k. AtRoom r k)) in
      let ptr = slot q (symbol.WordPointer storage.Workgroup) in
      let all = ptr ∷ slot p (symbol.SharedPointer n) ∷ a_word i ∷ [] in
      let three = only_gives a d (a_word i ∷ []) all (ptr ∷ []) g (0 ∷ []) two refl in
      let by : (z : Site) → Completes d z → (t : Words') → HoldWords t → (vs ws : List Value) → room_word r z t vs ≡ Ok ws
      → only (0 ∷ []) g z t vs ≡ Ok ws =
      λ z comp t hold vs ws e. by_place z t vs ws (placed_at (z.machine.setting.extent r) r vs ws e) (only (0 ∷ []) g) (λ k lt.
      let b : nat_lt k (z.machine.setting.extent r) ≡ true = lt-ltb k (z.machine.setting.extent r) lt in rw b refl) in (
        weaker a d (a_word i ∷ []) (ptr ∷ []) (only (0 ∷ []) g) (room_word r) by three,
        weaker_leads a d (a_word i ∷ []) (ptr ∷ []) (only (0 ∷ []) g) (room_word r) by three r q
            (only_leads a d (a_word i ∷ []) all (ptr ∷ []) g (0 ∷ []) two refl r q
            (leads_back a a d (a_word i ∷ []) (slot p (symbol.SharedPointer n) ∷ a_word i ∷ []) (slot p (symbol.SharedPointer n) ∷ a_word i ∷ [])
            (ptr ∷ []) f (pointing size (λ k. AtRoom r k)) (0 ∷ 1 ∷ []) one chain.0 refl r q
            (from_chain (slot p (symbol.SharedPointer n) ∷ a_word i ∷ []) storage.Workgroup (pointing size (λ k. AtRoom r k)) (i ∷ []) chain.0
            chain.1 (inl refl)))),
      )

  pub view_word : (o : ℕ) (access : Access) → Has a.symbols.entries (Constant 0) o → type_of_symbol a.frame.context (Memory r) ≡ Some
      (symbol.ViewPointer access)
      → ((z : Site) → Completes a z → IsView z.machine.code p) → Has a.symbols.entries (AType (symbol.WordPointer storage.StorageBuffer)) t
      → Adds a d (instr 65 (t ∷ q ∷ p ∷ o ∷ i ∷ [])) q → Led storage.StorageBuffer
  view_word o access zero' type view pointer h =
      let base = slot p (symbol.ViewPointer access) in let ptr = slot q (symbol.WordPointer storage.StorageBuffer) in
      let size : Site → ℕ = λ z. z.machine.setting.extent r in
      let one = variable (symbol.ViewPointer access) type in
      let f = joined given [] (always (AtRoom r 0)) in
      let member = named_gives a a (Constant 0) o (Word 0) symbol.Word refl refl
      (there_named a (Constant 0) o zero' (has_below a.frame.context a.symbols (Constant 0) o begun.table zero')) in
      let two = then' a a a (a_word i ∷ []) (base ∷ a_word i ∷ []) [] (a_word o ∷ []) f (always (Word 0)) [] one member refl in
      let g = joined f [] (always (Word 0)) in
      let chain = view_chain_gives a d t q p o i access r h has zero' pointer view in
      let three = then' a a d (a_word i ∷ []) (a_word o ∷ base ∷ a_word i ∷ []) (base ∷ a_word o ∷ a_word i ∷ []) (ptr ∷ []) g
      (pointing_in size (λ k. AtRoom r k)) (1 ∷ 0 ∷ 2 ∷ []) two chain.0 refl in
      let l = joined g (1 ∷ 0 ∷ 2 ∷ []) (pointing_in size (λ k. AtRoom r k)) in
      let all = ptr ∷ a_word o ∷ base ∷ a_word i ∷ [] in
      let four = only_gives a d (a_word i ∷ []) all (ptr ∷ []) l (0 ∷ []) three refl in
      let by : (z : Site) → Completes d z → (t : Words') → HoldWords t → (vs ws : List Value) → room_word r z t vs ≡ Ok ws
      → only (0 ∷ []) l z t vs ≡ Ok ws =
      λ z comp t hold vs ws e. by_place z t vs ws (placed_at (z.machine.setting.extent r) r vs ws e) (only (0 ∷ []) l) (λ k lt.
      let b : nat_lt k (z.machine.setting.extent r) ≡ true = lt-ltb k (z.machine.setting.extent r) lt in rw b refl) in (
        weaker a d (a_word i ∷ []) (ptr ∷ []) (only (0 ∷ []) l) (room_word r) by four,
        weaker_leads a d (a_word i ∷ []) (ptr ∷ []) (only (0 ∷ []) l) (room_word r) by four r q
            (only_leads a d (a_word i ∷ []) all (ptr ∷ []) l (0 ∷ []) three refl r q
            (leads_back a a d (a_word i ∷ []) (a_word o ∷ base ∷ a_word i ∷ []) (base ∷ a_word o ∷ a_word i ∷ []) (ptr ∷ []) g
            (pointing_in size (λ k. AtRoom r k)) (1 ∷ 0 ∷ 2 ∷ []) two chain.0 refl r q
            (from_chain (base ∷ a_word o ∷ a_word i ∷ []) storage.StorageBuffer (pointing_in size (λ k. AtRoom r k)) (o ∷ i ∷ []) chain.0 chain.1
            (inl refl)))),
      )

pointer_to : (a d : Emission) (r : Room) (i q : ℕ)
    (h : (g : Gives a d (a_word i ∷ []) (slot q (symbol.WordPointer (class_of r)) ∷ []) (room_word r))
    × Leads a d (a_word i ∷ []) (slot q (symbol.WordPointer (class_of r)) ∷ []) (room_word r) g r q) → PointsTo a d r i q
pointer_to a d r i q h = record { gives = h.0; leads = h.1 }

-- of each class
pub shared_gives : (a d : Emission) (r : Room) (p i q t : ℕ) → class_of r ≡ storage.Workgroup → IsBegun a → Has a.symbols.entries (Memory r) p
    → Has a.symbols.entries (AType (symbol.WordPointer storage.Workgroup)) t → Adds a d (instr 65 (t ∷ q ∷ p ∷ i ∷ [])) q → PointsTo a d r i q
shared_gives a d (room.Shared x) p i q t c begun has pointer h =
    pointer_to a d (room.Shared x) i q (shared_word a d (room.Shared x) p i q t begun has x refl pointer h)
shared_gives a d (room.Resource x) p i q t c begun has pointer h = absurd (cc c)
shared_gives a d (room.Uav x) p i q t c begun has pointer h = absurd (cc c)
shared_gives a d (room.Counter x) p i q t c begun has pointer h = absurd (cc c)

pub view_gives : (a d : Emission) (r : Room) (p i q t o : ℕ) → class_of r ≡ storage.StorageBuffer → IsBegun a → Has a.symbols.entries (Memory r) p
    → Has a.symbols.entries (Constant 0) o → Has a.symbols.entries (AType (symbol.WordPointer storage.StorageBuffer)) t
    → Adds a d (instr 65 (t ∷ q ∷ p ∷ o ∷ i ∷ [])) q → PointsTo a d r i q
view_gives a d (room.Shared x) p i q t o c begun has zero' pointer h = absurd (cc c)
view_gives a d (room.Resource x) p i q t o c begun has zero' pointer h =
    pointer_to a d (room.Resource x) i q
    (view_word a d (room.Resource x) p i q t begun has o ReadOnly zero' refl (λ z comp. comp.whole.sorts (Memory (room.Resource x)) p
    (comp.has _ p has)) pointer h)
view_gives a d (room.Uav x) p i q t o c begun has zero' pointer h =
    pointer_to a d (room.Uav x) i q
    (view_word a d (room.Uav x) p i q t begun has o (uav_access (declared_of a.frame.context (Memory (room.Uav x))).coherent) zero' refl
    (λ z comp. comp.whole.sorts (Memory (room.Uav x)) p (comp.has _ p has)) pointer h)
view_gives a d (room.Counter x) p i q t o c begun has zero' pointer h =
    pointer_to a d (room.Counter x) i q
    (view_word a d (room.Counter x) p i q t begun has o Plain zero' refl
    (λ z comp. comp.whole.sorts (Memory (room.Counter x)) p (comp.has _ p has)) pointer h)
