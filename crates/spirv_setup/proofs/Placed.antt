-- Where a module's lane finds the variables of a program.
use Rattle.std.proofs.Common.{◌≡◌, ℕ, zero, suc, ◌<◌, ◌⊎◌, inl, inr, Bool, true, false, List, [], ◌∷◌, ◌++◌, Some, None, refl, sym, ap, ◌∙◌, subst, arith}
use Rattle.std.specs.Prelude.{slice_get, Option, filter, map, nat_lt, option_map}
use Rattle.std.specs.List.{range_with_len}
use Rattle.std.proofs.lemmas.Bool.Decides.{nat_tests}
use Rattle.word_base.specs.declared.event.Room.{Room}
use Rattle.word_base.specs.declared.event.Room.TheVariants as room
use Rattle.tpf_decode.specs.declared.argument.Kind.{Kind}
use Rattle.tpf_decode.specs.declared.argument.Kind.TheVariants.{ThreadId, GroupId, IdInGroup, FlatId}
use Rattle.tpf_program.specs.declared.declaration.Declaration.{Declaration}
use Rattle.tpf_program.specs.declared.declaration.Declaration.TheVariants.{Input as InputOf}
use Rattle.tpf_program.specs.declared.declaration.Declared.{Declared as Item}
use Rattle.tpf_program.specs.Program.{Shader}
use Rattle.tpf_program.specs.Sizes.{vectors_of}
use Rattle.spirv_words.specs.Globals.{Machine, Places, bound_room, bound_slot, is_built_in}
use Rattle.spirv_words.specs.BuiltIn.{GlobalInvocationId, WorkgroupId, LocalInvocationId, LocalInvocationIndex}
use Rattle.spirv_words.specs.StorageClass as storage
use Rattle.binding_map.specs.declared.register.Register.{Register}
use Rattle.binding_map.specs.declared.register.Register.TheVariants.{Constant, Resource, Uav, Counter}
use Rattle.binding_map.specs.declared.register.Place.{Place}
use Rattle.binding_map.specs.declared.register.Place.TheVariants.{Bound, Push as InPush}
use Rattle.binding_map.specs.Bindings.{Binding, binding, place_of}
use Rattle.binding_map.specs.Lookups.{FindsEach}
use Rattle.binding_map.specs.Places.{places_of}
use Rattle.spirv_symbols.specs.declared.symbol.Symbol.{Symbol}
use Rattle.spirv_symbols.specs.declared.symbol.Symbol.TheVariants.{Input, Memory, Uniform, Push}
use Rattle.spirv_symbols.specs.declared.declared.Declared.{Declared}
use Rattle.spirv_symbols.specs.declared.entry.Entry.{Entry}
use Rattle.spirv_symbols.specs.Contexts.{Context, declared_of, declared_among}
use Rattle.spirv_symbols.specs.Modules.{class_of}
use Rattle.spirv_symbols.specs.Starts.{IsFound}
use Rattle.spirv_symbols.specs.Tables.{Has}
use Rattle.spirv_symbols.specs.Wants.{HasPlaces}
use Rattle.spirv_emit.specs.Code.{In}
use Rattle.spirv_emit.specs.Growing.{is_global, globals_in}
use Rattle.spirv_setup.specs.Describing.{of_some}
use Rattle.spirv_setup.specs.Descriptions.{binding_in, descriptions, set_in}
use Rattle.spirv_setup.specs.Premises.{IsDeclared}
use Rattle.binding_map.specs.SharedSlots.{has_words}
use Rattle.spirv_setup.specs.Variables.{where_true, has_register, symbol_of, variable_at, bound_variables, push_variable, push_variables, shared_variables, thread_variables, variables}
use Rattle.binding_map.specs.Wanted.{built_in_of, input_of, push_words}
use Rattle.spirv_setup.proofs.Distinct.{in_split, in_mapped, bound_at, push_at, shared_at, thread_at}
use Rattle.spirv_setup.proofs.Looked.{resource_at, uav_at, counter_at, place_at}

-- A GLOBAL VARIABLE of a table is among those.
filtered : (x s : Symbol) (xs : List Symbol) → In (filter is_global xs) s → In (filter is_global (x ∷ xs)) s
filtered x s xs i = by (is_global x) refl where
  by : (b : Bool) → is_global x ≡ b → In (filter is_global (x ∷ xs)) s
  by true e = rw e (inr i)
  by false e = rw e i

first_in : (s : Symbol) (xs : List Symbol) → is_global s ≡ true → In (filter is_global (s ∷ xs)) s
first_in s xs g = rw g (inl refl)

among : (es : List Entry) (s : Symbol) (k id : ℕ) → is_global s ≡ true
    → slice_get es k ≡ Some (record { symbol = s; id = id }) → In (globals_in es) s
among [] s k id g h = absurd (cc h)
among (x ∷ xs) s zero id g h =
    let e : x ≡ record { symbol = s; id = id } = cc h in
    subst (λ (o : Entry). In (globals_in (o ∷ xs)) s) (sym e) (first_in s (map (λ (o : Entry). o.symbol) xs) g)
among (x ∷ xs) s (suc k) id g h = filtered x.symbol s (map (λ (o : Entry). o.symbol) xs) (among xs s k id g h)

pub is_among : (es : List Entry) (s : Symbol) (id : ℕ) → is_global s ≡ true → Has es s id → In (globals_in es) s
is_among es s id g h = among es s h.0 id g h.1

-- WHICH VARIABLE it is
pub data Which (p : Shader) (bindings : List Binding) (s : Symbol) : Type 0 where
  OfRegister : (k : ℕ) (b : Binding) (at : slice_get bindings k ≡ Some b) (is : variable_at p b.register b.place ≡ Some s) → Which p bindings s
  OfPush : (is : push_variable (push_words p bindings) ≡ Some s) → Which p bindings s
  OfShared : (slot : ℕ) (is : where_true (has_words p slot) (Memory (room.Shared slot)) ≡ Some s) → Which p bindings s
  OfThread : (k : ℕ) (d : Item) (at : slice_get p.declarations k ≡ Some d) (is : option_map (λ built_in. Input built_in) (input_of d.what) ≡ Some s) → Which p bindings s

module _ (p : Shader) (bindings : List Binding) (s : Symbol) where
  push_here : (t : Symbol) → push_variable (push_words p bindings) ≡ Some t → In (t ∷ []) s → Which p bindings s
  push_here t e (inl q) = OfPush (e ∙ ap (λ x. Some x) q)
  push_here t e (inr x) = absurd x

  push_which : (o : Option Symbol) → push_variable (push_words p bindings) ≡ o → In (of_some o) s → Which p bindings s
  push_which None e j = absurd j
  push_which (Some t) e j = push_here t e j

  last_which : In (shared_variables p) s ⊎ In (thread_variables p) s → Which p bindings s
  last_which (inl j) =
      let r = in_mapped (λ slot. where_true (has_words p slot) (Memory (room.Shared slot))) (range_with_len 0 64) s j in OfShared r.1 r.3
  last_which (inr j) =
      let r = in_mapped (λ d. option_map (λ built_in. Input built_in) (input_of d.what)) p.declarations s j in OfThread r.0 r.1 r.2 r.3

  later_which : In (push_variables (push_words p bindings)) s ⊎ In (shared_variables p ++ thread_variables p) s → Which p bindings s
  later_which (inl j) = push_which (push_variable (push_words p bindings)) refl j
  later_which (inr j) = last_which (in_split (shared_variables p) (thread_variables p) s j)

  first_which : In (bound_variables p bindings) s ⊎ In (push_variables (push_words p bindings) ++ (shared_variables p ++ thread_variables p)) s
      → Which p bindings s
  first_which (inl j) = let r = in_mapped (λ b. variable_at p b.register b.place) bindings s j in OfRegister r.0 r.1 r.2 r.3
  first_which (inr j) = later_which (in_split (push_variables (push_words p bindings)) (shared_variables p ++ thread_variables p) s j)

  pub which : In (variables p bindings) s → Which p bindings s
  which i =
      first_which (in_split (bound_variables p bindings) (push_variables (push_words p bindings) ++ (shared_variables p ++ thread_variables p)) s i)

positive : (n : ℕ) → nat_lt 0 n ≡ true → 0 < n
positive n e = grind (arith, nat_tests)

-- WHERE it is looked for
abbrev pub FoundAt : Places → Context → Symbol → Type 0
FoundAt places c (Input n) = is_built_in n ≡ true
FoundAt places c (Memory (room.Shared slot)) = Unit {0}
FoundAt places c (Memory room) =
    bound_room places (Some (declared_of c (Memory room)).set) (Some (declared_of c (Memory room)).binding) ≡ Some room
FoundAt places c (Uniform slot) =
    bound_slot places (Some (declared_of c (Uniform slot)).set) (Some (declared_of c (Uniform slot)).binding) ≡ Some slot
FoundAt places c s = Unit {0}

pub found_in : (c : Context) (m : Machine) (places : Places) (s : Symbol) → m.places ≡ places → FoundAt places c s → IsFound c m s
found_in c m places (Input n) e h = h
found_in c m places (Memory (room.Shared slot)) e h = tt
found_in c m places (Memory (room.Resource slot)) e h =
    ap (λ l. bound_room l (Some (declared_of c (Memory (room.Resource slot))).set) (Some (declared_of c (Memory (room.Resource slot))).binding)) e ∙ h
found_in c m places (Memory (room.Uav slot)) e h =
    ap (λ l. bound_room l (Some (declared_of c (Memory (room.Uav slot))).set) (Some (declared_of c (Memory (room.Uav slot))).binding)) e ∙ h
found_in c m places (Memory (room.Counter slot)) e h =
    ap (λ l. bound_room l (Some (declared_of c (Memory (room.Counter slot))).set) (Some (declared_of c (Memory (room.Counter slot))).binding)) e ∙ h
found_in c m places (Uniform slot) e h =
    ap (λ l. bound_slot l (Some (declared_of c (Uniform slot)).set) (Some (declared_of c (Uniform slot)).binding)) e ∙ h
found_in c m places s e h = tt

built_in_is : (k : Kind) (n : ℕ) → built_in_of k ≡ Some n → is_built_in n ≡ true
built_in_is ThreadId n e = let q : n ≡ GlobalInvocationId = cc (sym e) in ap is_built_in q
built_in_is GroupId n e = let q : n ≡ WorkgroupId = cc (sym e) in ap is_built_in q
built_in_is IdInGroup n e = let q : n ≡ LocalInvocationId = cc (sym e) in ap is_built_in q
built_in_is FlatId n e = let q : n ≡ LocalInvocationIndex = cc (sym e) in ap is_built_in q
built_in_is k n e = absurd (cc e)

input_is : (d : Declaration) (n : ℕ) → input_of d ≡ Some n → is_built_in n ≡ true
input_is (InputOf k select) n e = built_in_is k n e
input_is d n e = absurd (cc e)

-- EACH VARIABLE of a program is found where it is said to be.
module _ (p : Shader) (bindings : List Binding) (h : IsDeclared p) (c : Context)
    (said : (s : Symbol) → declared_of c s ≡ declared_among (descriptions p bindings) s) (finds : FindsEach bindings) where
  place_by : (s : Symbol) (d : Declared) (set binding : ℕ) → declared_among (descriptions p bindings) s ≡ d → d.set ≡ set → d.binding ≡ binding
      → ((declared_of c s).set ≡ set) × ((declared_of c s).binding ≡ binding)
  place_by s d set binding e a b =
      (ap (λ (x : Declared). x.set) (said s ∙ e) ∙ a, ap (λ (x : Declared). x.binding) (said s ∙ e) ∙ b)

  place_is : (r : Register) (set binding : ℕ) → has_register p r ≡ true → place_of bindings r ≡ Some (Bound set binding)
      → ((declared_of c (symbol_of r)).set ≡ set) × ((declared_of c (symbol_of r)).binding ≡ binding)
  place_is (Constant slot) set binding t q =
      place_by (Uniform slot) _ set binding (place_at p bindings h.declared slot (positive (vectors_of slot p.declarations) t)) (ap set_in q) (ap binding_in q)
  place_is (Resource slot) set binding t q =
      place_by (Memory (room.Resource slot)) _ set binding (resource_at p bindings h.declared slot t) (ap set_in q) (ap binding_in q)
  place_is (Uav slot) set binding t q =
      place_by (Memory (room.Uav slot)) _ set binding (uav_at p bindings h.declared slot t) (ap set_in q) (ap binding_in q)
  place_is (Counter slot) set binding t q =
      place_by (Memory (room.Counter slot)) _ set binding (counter_at p bindings h.declared slot (h.counters slot t)) (ap set_in q) (ap binding_in q)

  room_found : (r : Room) (x y set binding : ℕ) → (x ≡ set) × (y ≡ binding) → bound_room (places_of bindings) (Some set) (Some binding) ≡ Some r
      → bound_room (places_of bindings) (Some x) (Some y) ≡ Some r
  room_found r x y set binding t f =
      ap (λ n. bound_room (places_of bindings) (Some n) (Some y)) t.0 ∙ ap (λ n. bound_room (places_of bindings) (Some set) (Some n)) t.1 ∙ f

  slot_found : (r x y set binding : ℕ) → (x ≡ set) × (y ≡ binding) → bound_slot (places_of bindings) (Some set) (Some binding) ≡ Some r
      → bound_slot (places_of bindings) (Some x) (Some y) ≡ Some r
  slot_found r x y set binding t f =
      ap (λ n. bound_slot (places_of bindings) (Some n) (Some y)) t.0 ∙ ap (λ n. bound_slot (places_of bindings) (Some set) (Some n)) t.1 ∙ f

  register_found : (k : ℕ) (r : Register) (set number : ℕ) → slice_get bindings k ≡ Some (binding r (Bound set number)) → has_register p r ≡ true
      → FoundAt (places_of bindings) c (symbol_of r)
  register_found k (Constant slot) set number at t =
      slot_found slot _ _ set number (place_is (Constant slot) set number t (finds.registers k (binding (Constant slot) (Bound set number)) at))
      (finds.slots k (binding (Constant slot) (Bound set number)) (record { set = set; binding = number; slot = slot }) at refl)
  register_found k (Resource slot) set number at t =
      room_found (room.Resource slot) _ _ set number
      (place_is (Resource slot) set number t (finds.registers k (binding (Resource slot) (Bound set number)) at))
      (finds.rooms k (binding (Resource slot) (Bound set number)) (record { set = set; binding = number; room = room.Resource slot }) at refl)
  register_found k (Uav slot) set number at t =
      room_found (room.Uav slot) _ _ set number (place_is (Uav slot) set number t (finds.registers k (binding (Uav slot) (Bound set number)) at))
      (finds.rooms k (binding (Uav slot) (Bound set number)) (record { set = set; binding = number; room = room.Uav slot }) at refl)
  register_found k (Counter slot) set number at t =
      room_found (room.Counter slot) _ _ set number
      (place_is (Counter slot) set number t (finds.registers k (binding (Counter slot) (Bound set number)) at))
      (finds.rooms k (binding (Counter slot) (Bound set number)) (record { set = set; binding = number; room = room.Counter slot }) at refl)

  bound_found : (k : ℕ) (r : Register) (place : Place) (s : Symbol) → slice_get bindings k ≡ Some (binding r place) → variable_at p r place ≡ Some s
      → FoundAt (places_of bindings) c s
  bound_found k r (Bound set number) s at is =
      let b = bound_at p r (Bound set number) s is in
      subst (FoundAt (places_of bindings) c) b.0 (register_found k r set number at b.1)
  bound_found k r (InPush first count) s at is = absurd (cc is)

  pub variable_found : (s : Symbol) → Which p bindings s → FoundAt (places_of bindings) c s
  variable_found s (OfRegister k b at is) = bound_found k b.register b.place s at is
  variable_found s (OfPush is) = subst (FoundAt (places_of bindings) c) (push_at (push_words p bindings) s is) tt
  variable_found s (OfShared slot is) = subst (FoundAt (places_of bindings) c) (shared_at p slot s is).0 tt
  variable_found s (OfThread k d at is) =
      let r = thread_at d.what s is in subst (FoundAt (places_of bindings) c) r.2 (input_is d.what r.0 r.1)

  -- in each table with those global variables
  module _ (es : List Entry) (globals : globals_in es ≡ variables p bindings) where
    global_found : (s : Symbol) (x : ℕ) → Has es s x → is_global s ≡ true → FoundAt (places_of bindings) c s
    global_found s x has g = variable_found s (which p bindings s (subst (λ l. In l s) globals (is_among es s x g has)))

    pub all_found : (s : Symbol) (x : ℕ) → Has es s x → FoundAt (places_of bindings) c s
    all_found (Input n) x has = global_found (Input n) x has refl
    all_found (Memory (room.Resource slot)) x has = global_found (Memory (room.Resource slot)) x has refl
    all_found (Memory (room.Uav slot)) x has = global_found (Memory (room.Uav slot)) x has refl
    all_found (Memory (room.Counter slot)) x has = global_found (Memory (room.Counter slot)) x has refl
    all_found (Memory (room.Shared slot)) x has = tt
    all_found (Uniform slot) x has = global_found (Uniform slot) x has refl
    all_found s x has = tt

    -- and no two are at one place
    one_room : (r q : Room) (x y u v : ℕ) → bound_room (places_of bindings) (Some x) (Some y) ≡ Some r
        → bound_room (places_of bindings) (Some u) (Some v) ≡ Some q → x ≡ u → y ≡ v → r ≡ q
    one_room r q x y u v a b e f =
        let t : Some r ≡ Some q =
        sym a ∙ ap (λ n. bound_room (places_of bindings) (Some n) (Some y)) e ∙ ap (λ n. bound_room (places_of bindings) (Some u) (Some n)) f ∙ b in cc t

    one_slot : (r q x y u v : ℕ) → bound_slot (places_of bindings) (Some x) (Some y) ≡ Some r
        → bound_slot (places_of bindings) (Some u) (Some v) ≡ Some q → x ≡ u → y ≡ v → r ≡ q
    one_slot r q x y u v a b e f =
        let t : Some r ≡ Some q =
        sym a ∙ ap (λ n. bound_slot (places_of bindings) (Some n) (Some y)) e ∙ ap (λ n. bound_slot (places_of bindings) (Some u) (Some n)) f ∙ b in cc t

    -- the room of a view, and the slot of a constant buffer
    view_of : (s : Symbol) → class_of s ≡ Some storage.StorageBuffer → (r : Room) × (s ≡ Memory r)
        × ((x : ℕ) → Has es s x
        → bound_room (places_of bindings) (Some (declared_of c s).set) (Some (declared_of c s).binding) ≡ Some r)
    view_of (Memory (room.Resource slot)) k = (room.Resource slot, refl, λ x i. all_found (Memory (room.Resource slot)) x i)
    view_of (Memory (room.Uav slot)) k = (room.Uav slot, refl, λ x i. all_found (Memory (room.Uav slot)) x i)
    view_of (Memory (room.Counter slot)) k = (room.Counter slot, refl, λ x i. all_found (Memory (room.Counter slot)) x i)
    view_of (Memory (room.Shared slot)) k = absurd (cc k)
    view_of (Input n) k = absurd (cc k)
    view_of (Uniform slot) k = absurd (cc k)
    view_of Push k = absurd (cc k)
    view_of s k = absurd (cc k)

    buffer_of : (s : Symbol) → class_of s ≡ Some storage.Uniform → (slot : ℕ) × (s ≡ Uniform slot)
        × ((x : ℕ) → Has es s x
        → bound_slot (places_of bindings) (Some (declared_of c s).set) (Some (declared_of c s).binding) ≡ Some slot)
    buffer_of (Uniform slot) k = (slot, refl, λ x i. all_found (Uniform slot) x i)
    buffer_of (Memory (room.Resource slot)) k = absurd (cc k)
    buffer_of (Memory (room.Uav slot)) k = absurd (cc k)
    buffer_of (Memory (room.Counter slot)) k = absurd (cc k)
    buffer_of (Memory (room.Shared slot)) k = absurd (cc k)
    buffer_of (Input n) k = absurd (cc k)
    buffer_of Push k = absurd (cc k)
    buffer_of s k = absurd (cc k)

    pub has_places : HasPlaces c es
    has_places = record {
      buffers = λ s u x y i j k l e f.
          let a = view_of s k in let b = view_of u l in
          a.1 ∙ ap (λ r. Memory r) (one_room a.0 b.0 _ _ _ _ (a.2 x i) (b.2 y j) e f) ∙ sym b.1;
      uniforms = λ s u x y i j k l e f.
          let a = buffer_of s k in let b = buffer_of u l in
          a.1 ∙ ap (λ n. Uniform n) (one_slot a.0 b.0 _ _ _ _ (a.2 x i) (b.2 y j) e f) ∙ sym b.1;
      inputs = λ n x i. all_found (Input n) x i;
    }
