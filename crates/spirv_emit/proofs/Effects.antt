-- What the code of statements does: words that wait, and events.
use Rattle.std.proofs.Common.{◌≡◌, ℕ, ◌+◌, ◌<◌, [], ◌∷◌, Some, refl, sym, ap, ◌∙◌, true}
use Rattle.std.specs.Prelude.{slice_get, nat_lt, Ok, IsTrue}
use Rattle.std.proofs.lemmas.Bool.{lt-ltb}
use Rattle.word_base.specs.Lanes.{Asks}
use Rattle.word_base.specs.declared.event.Event.TheVariants as event
use Rattle.word_base.specs.declared.event.Room.{Room}
use Rattle.word_base.specs.declared.event.Room.TheVariants as room
use Rattle.kept_values.specs.declared.word.Word.TheVariants as kept
use Rattle.shader_tree.specs.Shape as shape
use Rattle.shader_tree.specs.Terms.{Term}
use Rattle.spirv_words.specs.Text.{instr}
use Rattle.spirv_words.specs.Sorts.{Words as AreWords, sort_of}
use Rattle.spirv_words.specs.Values.{Word, AtRoom}
use Rattle.spirv_words.specs.Memory.{takes_stores}
use Rattle.spirv_words.specs.Lane.{State, step, with_value, goes_to}
use Rattle.spirv_symbols.specs.declared.symbol.Symbol.TheVariants as symbols
use Rattle.spirv_symbols.specs.declared.symbol.TypeSymbol.TheVariants as symbol
use Rattle.spirv_symbols.specs.Tables.{Has}
use Rattle.spirv_emit.specs.Emission.{Emission}
use Rattle.spirv_emit.specs.Blocks.{Alters, Assigns, Meets, Sets, Loads, Stores}
use Rattle.spirv_emit.specs.Joins.{joined, only}
use Rattle.spirv_words.specs.StorageClass.{has_events}
use Rattle.spirv_emit.specs.Code.{is_loaded, is_stored}
use Rattle.spirv_emit.specs.Lanes.{Site, IsWhole}
use Rattle.spirv_emit.specs.Rooms.{PointsTo, class_of, room_word}
use Rattle.spirv_emit.specs.Steps.{Adds, Acts}
use Rattle.spirv_emit.specs.Values.{slot, a_word, Gives, valued}
use Rattle.spirv_emit.proofs.Forms.{acts}
use Rattle.spirv_emit.proofs.Giving.{then', leads_back, only_gives, only_leads}
use Rattle.spirv_emit.proofs.Links.{load_seen, store_seen}
use Rattle.spirv_emit.proofs.Stores.{event_meets, answer_meets, assigned_alters}

-- A SCRATCH WORD is set.
pub set_alters : (a b c : Emission) (n r : ℕ) (x : Term) → Gives a b [] (a_word r ∷ []) (valued x) → Assigns b c (kept.Scratch n) r
    → Alters a c (Sets n x)
set_alters a b c n r x g y =
    assigned_alters a b c (kept.Scratch n) r (valued x) g y (Sets n x) (λ z comp t u e. (e.0, (let v = e.1 in rw v refl), e.2))

-- THE LANE at the instructions on rooms.
module _ (z : Site) (s : State) (whole : IsWhole z) where
  load_step : (t r p i : ℕ) (q : Room) → slice_get z.machine.code s.place ≡ Some (instr 61 (t ∷ r ∷ p ∷ [])) → s.values p ≡ Some (AtRoom q i)
      → sort_of z.machine.code t ≡ AreWords → i < z.machine.setting.extent q
      → step z.machine s ≡ Asks (event.Load q i) (λ answer. with_value s r (Word answer))
  load_step t r p i q at hp ht lt =
      let b = lt-ltb i (z.machine.setting.extent q) lt in acts z s (instr 61 (t ∷ r ∷ p ∷ [])) whole at ∙ rw (hp, ht, b) refl

  store_step : (p x i w : ℕ) (q : Room) → slice_get z.machine.code s.place ≡ Some (instr 62 (p ∷ x ∷ [])) → s.values p ≡ Some (AtRoom q i)
      → s.values x ≡ Some (Word w) → takes_stores q ≡ Ok 0 → i < z.machine.setting.extent q
      → step z.machine s ≡ Asks (event.Store q i w) (λ answer. goes_to s (s.place + 1))
  store_step p x i w q at hp hx ht lt =
      let b = lt-ltb i (z.machine.setting.extent q) lt in acts z s (instr 62 (p ∷ x ∷ [])) whole at ∙ rw (hp, hx, b, ht) refl

-- pointers to words of rooms are of classes with events
loaded_class : (r : Room) → IsTrue (is_loaded (class_of r))
loaded_class (room.Shared x) = refl
loaded_class (room.Resource x) = refl
loaded_class (room.Uav x) = refl
loaded_class (room.Counter x) = refl

stored_class : (r : Room) → IsTrue (is_stored (class_of r))
stored_class (room.Shared x) = refl
stored_class (room.Resource x) = refl
stored_class (room.Uav x) = refl
stored_class (room.Counter x) = refl

pub event_class : (r : Room) → IsTrue (has_events (class_of r))
event_class (room.Shared x) = refl
event_class (room.Resource x) = refl
event_class (room.Uav x) = refl
event_class (room.Counter x) = refl

-- LOADS AND STORES.
pub load_meets : (a b c d e : Emission) (n at p r t : ℕ) (q : Room) (x : Term) → Gives a b [] (a_word at ∷ []) (valued x)
    → PointsTo b c q at p → Has c.symbols.entries (symbols.AType symbol.Word) t
    → Adds c d (instr 61 (t ∷ r ∷ p ∷ [])) r → Assigns d e (kept.Scratch n) r → Meets a e (shape.Loads q) (Loads n q x)
load_meets a b c d e n at p r t q x g to has add y =
    let h = to.gives in
    let ptr = slot p (symbol.WordPointer (class_of q)) in
    let f = joined (valued x) (0 ∷ []) (room_word q) in
    let two = then' a b c [] (a_word at ∷ []) (a_word at ∷ []) (ptr ∷ []) (valued x) (room_word q) (0 ∷ []) g h refl in
    let one = only_gives a c [] (ptr ∷ a_word at ∷ []) (ptr ∷ []) f (0 ∷ []) two refl in
    answer_meets a c d e (ptr ∷ []) (only (0 ∷ []) f) (instr 61 (t ∷ r ∷ p ∷ [])) r t n one add y refl (refl, refl) has
    (λ z comp k is. (comp.has (symbols.AType symbol.Word) t has, (class_of q, is.0, loaded_class q))) (shape.Loads q)
    (λ z places comp linked here is.
    let led = only_leads a c [] (ptr ∷ a_word at ∷ []) (ptr ∷ []) f (0 ∷ []) two refl q p
    (leads_back a b c [] (a_word at ∷ []) (a_word at ∷ []) (ptr ∷ []) (valued x) (room_word q) (0 ∷ []) g h refl q p to.leads) in
    load_seen z places t r p (class_of q) q is.0 (event_class q) (led z places comp linked here))
    (Loads n q x)
    (λ z comp s ev u l. (
      l.4,
      (
        AtRoom q l.0 ∷ [],
        (let v = l.1 in let b : nat_lt l.0 (z.machine.setting.extent q) ≡ true = lt-ltb l.0 (z.machine.setting.extent q) l.2 in rw (v, b) refl),
        λ s at vs. load_step z s comp.whole t r p l.0 q at vs.0
            (comp.whole.sorts (symbols.AType symbol.Word) t (comp.has (symbols.AType symbol.Word) t has)) l.2
            ∙ ap (λ y. Asks y (λ answer. with_value s r (Word answer))) (sym l.3),
      ),
    ))

pub store_meets : (a b c d e : Emission) (at v p : ℕ) (q : Room) (x y : Term) → Gives a b [] (a_word at ∷ []) (valued x)
    → Gives b c [] (a_word v ∷ []) (valued y)
    → PointsTo c d q at p → Acts d e (instr 62 (p ∷ v ∷ []))
    → Meets a e (shape.Stores q) (Stores q x y)
store_meets a b c d e at v p q x y g h to act =
    let k = to.gives in
    let ptr = slot p (symbol.WordPointer (class_of q)) in
    let f = joined (valued x) [] (valued y) in
    let two = then' a b c [] (a_word at ∷ []) [] (a_word v ∷ []) (valued x) (valued y) [] g h refl in
    let m = joined f (1 ∷ []) (room_word q) in
    let three = then' a c d [] (a_word v ∷ a_word at ∷ []) (a_word at ∷ []) (ptr ∷ []) f (room_word q) (1 ∷ []) two k refl in
    let four = only_gives a d [] (ptr ∷ a_word v ∷ a_word at ∷ []) (ptr ∷ a_word v ∷ []) m (0 ∷ 1 ∷ []) three refl in
    event_meets a d e (ptr ∷ a_word v ∷ []) (only (0 ∷ 1 ∷ []) m) (instr 62 (p ∷ v ∷ [])) four act refl (refl, refl)
    (λ z comp k is. ((class_of q, is.0, stored_class q), is.1.0)) (shape.Stores q)
    (λ z places comp linked here is.
    let led = only_leads a d [] (ptr ∷ a_word v ∷ a_word at ∷ []) (ptr ∷ a_word v ∷ []) m (0 ∷ 1 ∷ []) three refl q p
    (leads_back a c d [] (a_word v ∷ a_word at ∷ []) (a_word at ∷ []) (ptr ∷ []) f (room_word q) (1 ∷ []) two k refl q p to.leads) in
    store_seen z places p v (class_of q) q is.0 (event_class q) (led z places comp linked here))
    (Stores q x y)
    (λ z comp s ev u l. (
      l.7,
      (
        AtRoom q l.0 ∷ Word l.1 ∷ [],
        (let i = l.2 in let w = l.3 in let b : nat_lt l.0 (z.machine.setting.extent q) ≡ true = lt-ltb l.0 (z.machine.setting.extent q) l.4 in
            rw (i, w, b) refl),
        λ s at vs. store_step z s comp.whole p v l.0 l.1 q at vs.0 vs.1.0 l.5 l.4 ∙ ap (λ y. Asks y (λ answer. goes_to s (s.place + 1))) (sym l.6),
      ),
    ))
