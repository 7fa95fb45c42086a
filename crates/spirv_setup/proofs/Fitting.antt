-- A setting that fits a program and its map fits what is said of them.
use Rattle.std.proofs.Common.{◌≡◌, ℕ, zero, suc, ◌+◌, ◌-◌, ◌<◌, ◌≤◌, Bool, true, false, List, [], ◌∷◌, length, Some, None, refl, sym, ap, ◌∙◌, subst, arith}
use Rattle.std.specs.Prelude.{slice_get, slice_index, Option, find, nat_le, nat_lt, nat_eq, not, max, is_none, ◌&&◌, if◌then◌else◌}
use Rattle.std.specs.List.{filter_map, cons_option, list_any}
use Rattle.std.proofs.lemmas.Bool.Decides.{nat_tests}
use Rattle.word_base.specs.Words.{AreWords}
use Rattle.word_base.specs.declared.event.Room.TheVariants as room
use Rattle.tpf_program.specs.declared.declaration.Declaration.{Declaration}
use Rattle.tpf_program.specs.declared.declaration.Declaration.TheVariants.{Constants}
use Rattle.tpf_program.specs.declared.declaration.Declared.{Declared as Item}
use Rattle.tpf_program.specs.Extents.{steps_counter}
use Rattle.tpf_program.specs.Program.{Shader}
use Rattle.tpf_program.specs.Sizes.{vectors_declared, vectors_of}
use Rattle.spirv_words.specs.Globals.{Machine, PushPlace, push_word, pushed}
use Rattle.binding_map.specs.declared.register.Register.{Register}
use Rattle.binding_map.specs.declared.register.Register.TheVariants.{Constant, Counter}
use Rattle.binding_map.specs.declared.register.Place.{Place}
use Rattle.binding_map.specs.declared.register.Place.TheVariants.{Push as InPush}
use Rattle.binding_map.specs.Bindings.{Binding, binding, place_of, IsMap, IsPlaceFor}
use Rattle.binding_map.specs.Fits.{Fits}
use Rattle.binding_map.specs.Lookups.{FindsEach, LooksUp}
use Rattle.binding_map.specs.Places.{places_of}
use Rattle.spirv_symbols.specs.declared.symbol.Symbol.TheVariants.{Memory, Uniform}
use Rattle.spirv_symbols.specs.declared.declared.Declared.{Declared}
use Rattle.spirv_symbols.specs.declared.entry.Entry.{Entry}
use Rattle.spirv_symbols.specs.Contexts.{size_of}
use Rattle.spirv_emit.specs.declared.buffer.ConstantBuffer.{ConstantBuffer}
use Rattle.spirv_emit.specs.declared.emitter.Emitter.{Emitter as Emission}
use Rattle.spirv_emit.specs.Emission.{buffer_of}
use Rattle.spirv_emit.specs.Code.{In}
use Rattle.spirv_emit.specs.Growing.{globals_in}
use Rattle.spirv_emit.specs.Lanes.{FitsSetting}
use Rattle.spirv_setup.specs.Descriptions.{buffer_at, buffer_by, buffers_of}
use Rattle.shader_check.specs.Facts.{AreDeclared}
use Rattle.spirv_setup.specs.Premises.{IsDeclared}
use Rattle.spirv_setup.specs.Setup.{IsDescribed}
use Rattle.spirv_setup.specs.Variables.{has_register, variables}
use Rattle.binding_map.specs.Wanted.{push_end, push_words}
use Rattle.spirv_setup.proofs.Distinct.{bound_at, push_at, shared_at, thread_at, register_of, back}
use Rattle.spirv_setup.proofs.Looked.{buffer_vectors, vectors_at, words_at}
use Rattle.spirv_setup.proofs.Placed.{Which, OfRegister, OfPush, OfShared, OfThread, which, is_among}

-- NUMBERS AND LISTS
equal : (m n : ℕ) → nat_eq m n ≡ true → m ≡ n
equal m n e = grind (arith, nat_tests)

at_most : (m n : ℕ) → m ≤ n → nat_le m n ≡ true
at_most m n h = grind (arith, nat_tests)

below : (m n : ℕ) → m < n → nat_lt m n ≡ true
below m n h = grind (arith, nat_tests)

past_end : (ws : List ℕ) (k : ℕ) → length ws ≤ k → slice_index ws k ≡ 0
past_end [] k h = refl
past_end (w ∷ ws) zero h = absurd (omega (arith, h))
past_end (w ∷ ws) (suc k) h = past_end ws k (omega (arith, h))

-- A CONSTANT BUFFER that is bound is a declared one.
module _ (bindings : List Binding) (slot : ℕ) where
  one_buffer : (d : Declaration) (b : ConstantBuffer) → buffer_by bindings d ≡ Some b → nat_eq b.slot slot ≡ true
      → (b.vectors ≡ vectors_declared slot d) × (place_of bindings (Constant slot) ≡ Some b.place)
      × ((size : ℕ) × (d ≡ Constants slot size))
  one_buffer (Constants s size) b e t = by (place_of bindings (Constant s)) refl where
    by : (o : Option Place) → place_of bindings (Constant s) ≡ o
        → (b.vectors ≡ vectors_declared slot (Constants s size)) × (place_of bindings (Constant slot) ≡ Some b.place)
        × ((size' : ℕ) × (Constants s size ≡ Constants slot size'))
    by None q = absurd (cc (sym (ap (buffer_at s size) q) ∙ e))
    by (Some place) q =
        let r : Some (record { slot = s; vectors = size; place = place }) ≡ Some b = sym (ap (buffer_at s size) q) ∙ e in
        let same : record { slot = s; vectors = size; place = place } ≡ b = cc r in
        let n : s ≡ slot = ap (λ (x : ConstantBuffer). x.slot) same ∙ equal b.slot slot t in
        let own : nat_eq s slot ≡ true = ap (λ k. nat_eq k slot) (ap (λ (x : ConstantBuffer). x.slot) same) ∙ t in (
          sym (ap (λ (x : ConstantBuffer). x.vectors) same) ∙ sym (ap (λ b. if b then size else 0) own),
          ap (λ k. place_of bindings (Constant k)) (sym n) ∙ q ∙ ap (λ (x : ConstantBuffer). Some x.place) same,
          (size, ap (λ k. Constants k size) n),
        )
  one_buffer d b e t = absurd (cc e)

  some_buffer : (ds : List Item) (b : ConstantBuffer) → buffer_of (filter_map (λ d. buffer_by bindings d.what) ds) slot ≡ Some b
      → (k : ℕ) × (d : Item) × (slice_get ds k ≡ Some d) × (buffer_by bindings d.what ≡ Some b) × (nat_eq b.slot slot ≡ true)
  some_buffer [] b e = absurd (cc e)
  some_buffer (d ∷ ds) b e = by (buffer_by bindings d.what) refl e (some_buffer ds b) where
    next : ((k : ℕ) × (x : Item) × (slice_get ds k ≡ Some x) × (buffer_by bindings x.what ≡ Some b) × (nat_eq b.slot slot ≡ true))
        → (k : ℕ) × (x : Item) × (slice_get (d ∷ ds) k ≡ Some x) × (buffer_by bindings x.what ≡ Some b) × (nat_eq b.slot slot ≡ true)
    next r = (suc r.0, r.1, r.2, r.3, r.4)

    here : (x : ConstantBuffer) → buffer_by bindings d.what ≡ Some x → (t : Bool) → nat_eq x.slot slot ≡ t
        → (if nat_eq x.slot slot then Some x else buffer_of (filter_map (λ d. buffer_by bindings d.what) ds) slot) ≡ Some b
        → (buffer_of (filter_map (λ d. buffer_by bindings d.what) ds) slot ≡ Some b
        → (k : ℕ) × (x : Item) × (slice_get ds k ≡ Some x) × (buffer_by bindings x.what ≡ Some b) × (nat_eq b.slot slot ≡ true))
        → (k : ℕ) × (x : Item) × (slice_get (d ∷ ds) k ≡ Some x) × (buffer_by bindings x.what ≡ Some b) × (nat_eq b.slot slot ≡ true)
    here x q true t h f =
        let s : Some x ≡ Some b =
        sym (ap (λ b. if b then Some x else buffer_of (filter_map (λ (d : Item). buffer_by bindings d.what) ds) slot) t) ∙ h in
        let same : x ≡ b = cc s in (0, d, refl, q ∙ s, ap (λ (y : ConstantBuffer). nat_eq y.slot slot) (sym same) ∙ t)
    here x q false t h f =
        next (f (sym (ap (λ b. if b then Some x else buffer_of (filter_map (λ (d : Item). buffer_by bindings d.what) ds) slot) t) ∙ h))

    by : (o : Option ConstantBuffer) → buffer_by bindings d.what ≡ o
        → buffer_of (cons_option (buffer_by bindings d.what) (filter_map (λ d. buffer_by bindings d.what) ds)) slot ≡ Some b
        → (buffer_of (filter_map (λ d. buffer_by bindings d.what) ds) slot ≡ Some b
        → (k : ℕ) × (x : Item) × (slice_get ds k ≡ Some x) × (buffer_by bindings x.what ≡ Some b) × (nat_eq b.slot slot ≡ true))
        → (k : ℕ) × (x : Item) × (slice_get (d ∷ ds) k ≡ Some x) × (buffer_by bindings x.what ≡ Some b) × (nat_eq b.slot slot ≡ true)
    by None q h f =
        next (f (sym (ap (λ o. buffer_of (cons_option o (filter_map (λ (d : Item). buffer_by bindings d.what) ds)) slot) q) ∙ h))
    by (Some x) q h f =
        here x q (nat_eq x.slot slot) refl
        (sym (ap (λ o. buffer_of (cons_option o (filter_map (λ (d : Item). buffer_by bindings d.what) ds)) slot) q) ∙ h) f

-- PUSH CONSTANTS reach as far as those of each binding, and no further than 64 words.
max_left : (m n : ℕ) → m ≤ max m n
max_left m n = grind arith

max_right : (m n : ℕ) → n ≤ max m n
max_right m n = grind arith

max_under : (m n k : ℕ) → m ≤ k → n ≤ k → max m n ≤ k
max_under m n k h i = grind arith

pub end_under : (p : Shader) (bs : List Binding) (k : ℕ) (b : Binding) → slice_get bs k ≡ Some b → push_end p b.register b.place ≤ push_words p bs
end_under p [] k b g = absurd (cc g)
end_under p (x ∷ xs) zero b g =
    let e : push_end p x.register x.place ≡ push_end p b.register b.place = ap (λ (y : Binding). push_end p y.register y.place) (cc g) in
    let n = max_left (push_end p x.register x.place) (push_words p xs) in omega (arith, e, n)
end_under p (x ∷ xs) (suc k) b g =
    let n = max_right (push_end p x.register x.place) (push_words p xs) in omega (arith, n, end_under p xs k b g)

end_few : (p : Shader) (r : Register) (place : Place) → IsPlaceFor r place → push_end p r place ≤ 64
end_few p (Constant slot) (InPush first count) h = by (nat_lt 0 (vectors_of slot p.declarations) && nat_lt 0 count) where
  by : (b : Bool) → (if b then first + count else 0) ≤ 64
  by true = h
  by false = omega arith
end_few p r place h = omega arith

pub words_few : (p : Shader) (bs : List Binding) → ((k : ℕ) (b : Binding) → slice_get bs k ≡ Some b → IsPlaceFor b.register b.place) → push_words p bs ≤ 64
words_few p [] h = omega arith
words_few p (x ∷ xs) h =
    max_under (push_end p x.register x.place) (push_words p xs) 64 (end_few p x.register x.place (h 0 x refl))
    (words_few p xs (λ k b g. h (suc k) b g))

-- a constant buffer that is bound is declared, and bound there
pub buffer_declared : (p : Shader) (bindings : List Binding) → AreDeclared p → (slot : ℕ) (b : ConstantBuffer)
    → buffer_of (buffers_of p bindings) slot ≡ Some b
    → (b.vectors ≡ vectors_of slot p.declarations) × (place_of bindings (Constant slot) ≡ Some b.place) × (0 < vectors_of slot p.declarations)
    × (b.slot ≡ slot)
buffer_declared p bindings h slot b q =
    let r = some_buffer bindings slot p.declarations b q in
    let o = one_buffer bindings slot r.1.what b r.3 r.4 in
    let v = buffer_vectors p h slot r.0 r.1 o.2.0 r.2 o.2.1 in
    (o.0 ∙ v.0, o.1, v.1, equal b.slot slot r.4)

pub reaches : (p : Shader) (slot first count : ℕ) → 0 < vectors_of slot p.declarations → 0 < count
    → push_end p (Constant slot) (InPush first count) ≡ first + count
reaches p slot first count v c =
    ap (λ t. if t && nat_lt 0 count then first + count else 0) (below 0 (vectors_of slot p.declarations) v)
    ∙ ap (λ t. if t then first + count else 0) (below 0 count c)

-- THE SETTING
module _ (p : Shader) (bindings : List Binding) (h : IsDeclared p) (map : IsMap bindings) (finds : FindsEach bindings) (looks : LooksUp bindings)
    (e : Emission) (said : IsDescribed p bindings e) (es : List Entry) (globals : globals_in es ≡ variables p bindings) (m : Machine)
    (places : m.places ≡ places_of bindings) (fits : Fits p bindings m.setting) where
  counter_has : (slot : ℕ) → Which p bindings (Memory (room.Counter slot)) → m.setting.extent (room.Counter slot) ≡ 1
  counter_has slot (OfRegister k b at is) =
      let q = bound_at p b.register b.place (Memory (room.Counter slot)) is in
      let r : Some b.register ≡ Some (Counter slot) = sym (back b.register) ∙ ap register_of q.0 in
      let same : b.register ≡ Counter slot = cc r in
      let steps : list_any (steps_counter slot) p.instructions ≡ true = ap (has_register p) (sym same) ∙ q.1 in
      let there : is_none (place_of bindings (Counter slot)) ≡ false =
      ap is_none (ap (place_of bindings) (sym same) ∙ finds.registers k b at) in
      fits.rooms.extents (room.Counter slot)
      ∙ ap (λ t. if not t && list_any (steps_counter slot) p.instructions then 1 else 0) there
      ∙ ap (λ t. if t then 1 else 0) steps
  counter_has slot (OfPush is) = absurd (cc (push_at (push_words p bindings) (Memory (room.Counter slot)) is))
  counter_has slot (OfShared s is) = absurd (cc (shared_at p s (Memory (room.Counter slot)) is).0)
  counter_has slot (OfThread k d at is) = absurd (cc (thread_at d.what (Memory (room.Counter slot)) is).2)

  buffer_is : (slot : ℕ) (b : ConstantBuffer) → buffer_of e.frame.buffers.list slot ≡ Some b
      → (b.vectors ≡ vectors_of slot p.declarations) × (place_of bindings (Constant slot) ≡ Some b.place) × (0 < vectors_of slot p.declarations)
      × (b.slot ≡ slot)
  buffer_is slot b q = buffer_declared p bindings h.declared slot b (ap (λ l. buffer_of l slot) (sym said.buffers) ∙ q)

  push_there : (slot first count : ℕ) (b : ConstantBuffer) → buffer_of e.frame.buffers.list slot ≡ Some b → b.place ≡ InPush first count
      → (k : ℕ) × (slice_get bindings k ≡ Some (binding (Constant slot) (InPush first count))) × (0 < vectors_of slot p.declarations)
  push_there slot first count b q r =
      let t = buffer_is slot b q in
      let f = looks.found (Constant slot) (InPush first count) (t.1 ∙ ap (λ x. Some x) r) in (f.0, f.1, t.2)

  word_there : (slot first count w k : ℕ) → slice_get bindings k ≡ Some (binding (Constant slot) (InPush first count)) → w < count
      → push_word m (first + w) ≡ slice_index (m.setting.constants slot) w
  word_there slot first count w k at lt =
      let q : PushPlace = record { first = first; count = count; slot = slot } in
      let inside : (nat_le first (first + w) && nat_lt (first + w) (first + count)) ≡ true =
      ap (λ t. t && nat_lt (first + w) (first + count)) (at_most first (first + w) (omega arith))
      ∙ below (first + w) (first + count) (omega (arith, lt)) in
      let f = finds.pushes k (binding (Constant slot) (InPush first count)) q (first + w) at refl inside in
      let n : first + w - first ≡ w = omega arith in
      ap (λ l. pushed m.setting (first + w) (find (λ (x : PushPlace). nat_le x.first (first + w) && nat_lt (first + w) (x.first + x.count)) l.pushes)) places
      ∙ ap (pushed m.setting (first + w)) f ∙ ap (slice_index (m.setting.constants slot)) n

  pub setting_fits : (b : Bool) → FitsSetting (record e.frame { separate = b }) es m
  setting_fits b = record {
    given = record { immediates = subst AreWords (sym said.immediates) h.words; setting = fits.rooms.words };
    counters = λ slot id has.
        counter_has slot (which p bindings (Memory (room.Counter slot))
        (subst (λ l. In l (Memory (room.Counter slot))) globals (is_among es (Memory (room.Counter slot)) id refl has)));
    shared = λ slot.
        fits.rooms.extents (room.Shared slot) ∙ sym (words_at p bindings h.declared slot)
        ∙ sym (ap (λ (d : Declared). d.size) (said.variables (Memory (room.Shared slot))));
    vectors = λ slot x q.
        let t = buffer_is slot x q in
        let s : size_of e.frame.context (Uniform slot) ≡ vectors_of slot p.declarations =
        ap (λ (d : Declared). d.size) (said.variables (Uniform slot)) ∙ vectors_at p bindings h.declared slot in
        omega (arith, t.0, s);
    few = let n = words_few p bindings map.places in omega (arith, n, said.pushed);
    pushed = λ slot first count x q r w lt.
        let t = push_there slot first count x q r in
        let n = end_under p bindings t.0 (binding (Constant slot) (InPush first count)) t.1 in
        let f = reaches p slot first count t.2 (omega (arith, lt)) in
        (omega (arith, n, f, lt, said.pushed), word_there slot first count w t.0 t.1 lt);
    past = λ slot first count x q r w le.
        let t = push_there slot first count x q r in
        let n = fits.constants.bound t.0 (binding (Constant slot) (InPush first count)) t.1 t.2 in
        past_end (m.setting.constants slot) w (omega (arith, n, le));
  }
