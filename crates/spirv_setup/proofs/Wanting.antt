-- The variables of a module are those that a program and its map want.
use Rattle.std.proofs.Common.{◌≡◌, ℕ, suc, ◌<◌, inl, inr, Bool, true, false, List, [], ◌∷◌, ◌++◌, Some, None, refl, sym, ap, ◌∙◌, arith, append-nil}
use Rattle.std.specs.Prelude.{slice_get, Option, filter, flat_map, map, nat_lt, nat_eq, option_map, if◌then◌else◌}
use Rattle.std.specs.List.{filter_map, cons_option, list_any, range_with_len}
use Rattle.std.proofs.lemmas.Grind.{flat_map-append}
use Rattle.std.proofs.lemmas.Bool.Decides.{nat_tests}
use Rattle.word_base.specs.declared.event.Room.TheVariants as room
use Rattle.tpf_program.specs.declared.declaration.Declared.{Declared as Item}
use Rattle.tpf_program.specs.Extents.{is_resource, is_uav, steps_counter, shared_extent}
use Rattle.tpf_program.specs.Program.{Shader}
use Rattle.tpf_program.specs.Sizes.{vectors_of}
use Rattle.spirv_words.specs.Globals.{Machine, filled_slots}
use Rattle.spirv_words.specs.Variables.{WantedBuffer}
use Rattle.binding_map.specs.declared.register.Register.{Register}
use Rattle.binding_map.specs.declared.register.Register.TheVariants.{Constant, Resource, Uav, Counter}
use Rattle.binding_map.specs.declared.register.Place.{Place}
use Rattle.binding_map.specs.declared.register.Place.TheVariants.{Bound, Push as InPush}
use Rattle.binding_map.specs.Bindings.{Binding, binding, place_of}
use Rattle.binding_map.specs.Lookups.{FindsEach}
use Rattle.binding_map.specs.Places.{places_of}
use Rattle.spirv_symbols.specs.declared.symbol.Symbol.{Symbol}
use Rattle.spirv_symbols.specs.declared.symbol.Symbol.TheVariants.{Input, Memory, Uniform, Push}
use Rattle.spirv_symbols.specs.declared.declared.Declared.{Declared}
use Rattle.spirv_symbols.specs.declared.entry.Entry.{Entry}
use Rattle.spirv_symbols.specs.Contexts.{Context, declared_of, declared_among, size_of}
use Rattle.spirv_symbols.specs.Starts as starts
use Rattle.spirv_symbols.specs.Wants as wants
use Rattle.spirv_symbols.specs.Wants.{buffer_in, uniform_in, shared_in, input_in, push_in, push_with, buffer_at, uniform_at}
use Rattle.spirv_emit.specs.Code.{In}
use Rattle.spirv_emit.specs.Growing.{is_global, globals_in}
use Rattle.spirv_setup.specs.Describing.{of_some}
use Rattle.spirv_setup.specs.Descriptions.{binding_in, descriptions, set_in}
use Rattle.spirv_setup.specs.Premises.{IsDeclared}
use Rattle.binding_map.specs.SharedSlots.{has_words, shared_slots}
use Rattle.spirv_setup.specs.Variables.{where_true, has_register, variable_at, bound_variables, push_variables, shared_variables, thread_variables, variables}
use Rattle.binding_map.specs.Wanted.{buffer_of, buffer_where, declares, declares_coherent, input_of, push_words, some_words, uniform_of, uniform_where, wanted_of}
use Rattle.spirv_setup.proofs.Distinct.{sort_at, in_bound_sort, push_sort, shared_sort, thread_sort}
use Rattle.spirv_setup.proofs.Looked.{resource_at, uav_at, counter_at, place_at, words_at}

-- WHAT IS GATHERED over a table, where only global variables count
module _ {X : Type 0} (f : Symbol → List X) where
  kept_first : (s : Symbol) (ss : List Symbol) → is_global s ≡ true → filter is_global (s ∷ ss) ≡ s ∷ filter is_global ss
  kept_first s ss e = rw e refl

  dropped_first : (s : Symbol) (ss : List Symbol) → is_global s ≡ false → filter is_global (s ∷ ss) ≡ filter is_global ss
  dropped_first s ss e = rw e refl

  pub from_globals : ((s : Symbol) → is_global s ≡ false → f s ≡ []) → (es : List Entry)
      → flat_map (λ e. f e.symbol) es ≡ flat_map f (globals_in es)
  from_globals none [] = refl
  from_globals none (x ∷ xs) = by (is_global x.symbol) refl (from_globals none xs) where
    by : (b : Bool) → is_global x.symbol ≡ b → flat_map (λ e. f e.symbol) xs ≡ flat_map f (globals_in xs)
        → f x.symbol ++ flat_map (λ e. f e.symbol) xs ≡ flat_map f (globals_in (x ∷ xs))
    by true e r =
        ap (λ l. f x.symbol ++ l) r ∙ sym (ap (flat_map f) (kept_first x.symbol (map (λ (o : Entry). o.symbol) xs) e))
    by false e r =
        ap (λ l. l ++ flat_map (λ (e : Entry). f e.symbol) xs) (none x.symbol e) ∙ r
        ∙ sym (ap (flat_map f) (dropped_first x.symbol (map (λ (o : Entry). o.symbol) xs) e))

  none_in : (ss : List Symbol) → ((s : Symbol) → In ss s → f s ≡ []) → flat_map f ss ≡ []
  none_in [] h = refl
  none_in (s ∷ ss) h =
      ap (λ l. l ++ flat_map f ss) (h s (inl refl)) ∙ none_in ss (λ t i. h t (inr i))

  one_more : (o : Option Symbol) (ss : List Symbol) → flat_map f (cons_option o ss) ≡ flat_map f (of_some o) ++ flat_map f ss
  one_more None ss = refl
  one_more (Some s) ss = ap (λ l. l ++ flat_map f ss) (sym (append-nil (f s)))

  listed : {Y : Type 0} (o : Option Y) (ys : List Y) → of_some o ++ ys ≡ cons_option o ys
  listed None ys = refl
  listed (Some y) ys = refl

  mapped : {Y : Type 0} (v : Y → Option Symbol) (k : Y → Option X) (ys : List Y)
      → ((i : ℕ) (y : Y) → slice_get ys i ≡ Some y → flat_map f (of_some (v y)) ≡ of_some (k y))
      → flat_map f (filter_map v ys) ≡ filter_map k ys
  mapped v k [] h = refl
  mapped v k (y ∷ ys) h =
      one_more (v y) (filter_map v ys) ∙ ap (λ l. l ++ flat_map f (filter_map v ys)) (h 0 y refl)
      ∙ ap (λ l. of_some (k y) ++ l) (mapped v k ys (λ i x g. h (suc i) x g)) ∙ listed (k y) (filter_map k ys)

  -- over the parts of the variables
  module _ (p : Shader) (bindings : List Binding) where
    four : flat_map f (variables p bindings)
        ≡ flat_map f (bound_variables p bindings)
        ++ (flat_map f (push_variables (push_words p bindings)) ++ (flat_map f (shared_variables p) ++ flat_map f (thread_variables p)))
    four =
        flat_map-append f (bound_variables p bindings) (push_variables (push_words p bindings) ++ (shared_variables p ++ thread_variables p))
        ∙ ap (λ l. flat_map f (bound_variables p bindings) ++ l)
        (flat_map-append f (push_variables (push_words p bindings)) (shared_variables p ++ thread_variables p)
        ∙ ap (λ l. flat_map f (push_variables (push_words p bindings)) ++ l) (flat_map-append f (shared_variables p) (thread_variables p)))

    -- where the variables of one sort count
    pub of_bound : ((s : Symbol) → 0 < sort_at s → f s ≡ []) → flat_map f (variables p bindings) ≡ flat_map f (bound_variables p bindings)
    of_bound h =
        four
        ∙ ap (λ l. flat_map f (bound_variables p bindings) ++ (l ++ (flat_map f (shared_variables p) ++ flat_map f (thread_variables p))))
        (none_in (push_variables (push_words p bindings)) (λ s i. h s (above (sort_at s) 1 (push_sort (push_words p bindings) s i) (omega arith))))
        ∙ ap (λ l. flat_map f (bound_variables p bindings) ++ (l ++ flat_map f (thread_variables p)))
        (none_in (shared_variables p) (λ s i. h s (above (sort_at s) 2 (shared_sort p s i) (omega arith))))
        ∙ ap (λ l. flat_map f (bound_variables p bindings) ++ l)
        (none_in (thread_variables p) (λ s i. h s (above (sort_at s) 3 (thread_sort p s i) (omega arith))))
        ∙ append-nil (flat_map f (bound_variables p bindings)) where
          above : (n k : ℕ) → n ≡ k → 0 < k → 0 < n
          above n k e lt = omega (arith, e, lt)

    pub of_shared : ((s : Symbol) (n : ℕ) → sort_at s ≡ n → (n ≡ 2 → ⊥) → f s ≡ []) → flat_map f (variables p bindings) ≡ flat_map f (shared_variables p)
    of_shared h =
        four
        ∙ ap (λ l. l ++ (flat_map f (push_variables (push_words p bindings)) ++ (flat_map f (shared_variables p) ++ flat_map f (thread_variables p))))
        (none_in (bound_variables p bindings) (λ s i. h s 0 (in_bound_sort p bindings s i) (λ e. cc e)))
        ∙ ap (λ l. l ++ (flat_map f (shared_variables p) ++ flat_map f (thread_variables p)))
        (none_in (push_variables (push_words p bindings)) (λ s i. h s 1 (push_sort (push_words p bindings) s i) (λ e. cc e)))
        ∙ ap (λ l. flat_map f (shared_variables p) ++ l) (none_in (thread_variables p) (λ s i. h s 3 (thread_sort p s i) (λ e. cc e)))
        ∙ append-nil (flat_map f (shared_variables p))

    pub of_threads : ((s : Symbol) (n : ℕ) → sort_at s ≡ n → (n ≡ 3 → ⊥) → f s ≡ []) → flat_map f (variables p bindings) ≡ flat_map f (thread_variables p)
    of_threads h =
        four
        ∙ ap (λ l. l ++ (flat_map f (push_variables (push_words p bindings)) ++ (flat_map f (shared_variables p) ++ flat_map f (thread_variables p))))
        (none_in (bound_variables p bindings) (λ s i. h s 0 (in_bound_sort p bindings s i) (λ e. cc e)))
        ∙ ap (λ l. l ++ (flat_map f (shared_variables p) ++ flat_map f (thread_variables p)))
        (none_in (push_variables (push_words p bindings)) (λ s i. h s 1 (push_sort (push_words p bindings) s i) (λ e. cc e)))
        ∙ ap (λ l. l ++ flat_map f (thread_variables p)) (none_in (shared_variables p) (λ s i. h s 2 (shared_sort p s i) (λ e. cc e)))

-- THE SLOTS of shared memory
slots_in : (test : ℕ → Bool) (ks : List ℕ)
    → flat_map starts.slot_in (filter_map (λ slot. where_true (test slot) (Memory (room.Shared slot))) ks) ≡ filter test ks
slots_in test [] = refl
slots_in test (k ∷ ks) = by (test k) refl (slots_in test ks) where
  by : (b : Bool) → test k ≡ b
      → flat_map starts.slot_in (filter_map (λ slot. where_true (test slot) (Memory (room.Shared slot))) ks) ≡ filter test ks
      → flat_map starts.slot_in (filter_map (λ slot. where_true (test slot) (Memory (room.Shared slot))) (k ∷ ks)) ≡ filter test (k ∷ ks)
  by true e r = rw e (ap (λ l. k ∷ l) r)
  by false e r = rw e r

slot_local : (s : Symbol) → is_global s ≡ false → starts.slot_in s ≡ []
slot_local (Memory room) e = absurd (cc e)
slot_local s e = refl

slot_sort : (s : Symbol) (n : ℕ) → sort_at s ≡ n → (n ≡ 2 → ⊥) → starts.slot_in s ≡ []
slot_sort (Memory (room.Shared slot)) n e h = absurd (h (sym e))
slot_sort s n e h = refl

same_filter : (f g : ℕ → Bool) (ks : List ℕ) → ((k : ℕ) → f k ≡ g k) → filter f ks ≡ filter g ks
same_filter f g [] h = refl
same_filter f g (k ∷ ks) h =
    ap (λ b. if b then k ∷ filter f ks else filter f ks) (h k)
    ∙ ap (λ l. if g k then k ∷ l else l) (same_filter f g ks h)

pub slots_here : (p : Shader) (bindings : List Binding) (es : List Entry) → globals_in es ≡ variables p bindings → shared_slots p ≡ starts.shared_slots es
slots_here p bindings es globals =
    sym (from_globals starts.slot_in slot_local es ∙ ap (flat_map starts.slot_in) globals ∙ of_shared starts.slot_in p bindings slot_sort
    ∙ slots_in (has_words p) (range_with_len 0 64))

pub slots_found : (p : Shader) (bindings : List Binding) (es : List Entry) (m : Machine) → globals_in es ≡ variables p bindings
    → m.places ≡ places_of bindings → ((slot : ℕ) → m.setting.extent (room.Shared slot) ≡ shared_extent slot p.declarations)
    → filled_slots m ≡ starts.shared_slots es
slots_found p bindings es m globals places extents =
    ap (λ l. filter (λ k. nat_lt 0 (m.setting.extent (room.Shared k))) l.shared) places
    ∙ same_filter (λ k. nat_lt 0 (m.setting.extent (room.Shared k))) (has_words p) (range_with_len 0 64) (λ k. ap (nat_lt 0) (extents k))
    ∙ slots_here p bindings es globals

-- WHAT IS WANTED
positive : (n : ℕ) → nat_lt 0 n ≡ true → 0 < n
positive n e = grind (arith, nat_tests)

buffer_local : (c : Context) (s : Symbol) → is_global s ≡ false → buffer_in c s ≡ []
buffer_local c (Memory room) e = absurd (cc e)
buffer_local c s e = refl

buffer_sort : (c : Context) (s : Symbol) → 0 < sort_at s → buffer_in c s ≡ []
buffer_sort c (Memory (room.Resource slot)) h = absurd (omega (arith, h))
buffer_sort c (Memory (room.Uav slot)) h = absurd (omega (arith, h))
buffer_sort c (Memory (room.Counter slot)) h = absurd (omega (arith, h))
buffer_sort c s h = refl

uniform_local : (c : Context) (s : Symbol) → is_global s ≡ false → uniform_in c s ≡ []
uniform_local c (Uniform slot) e = absurd (cc e)
uniform_local c s e = refl

uniform_sort : (c : Context) (s : Symbol) → 0 < sort_at s → uniform_in c s ≡ []
uniform_sort c (Uniform slot) h = absurd (omega (arith, h))
uniform_sort c s h = refl

shared_local : (c : Context) (s : Symbol) → is_global s ≡ false → shared_in c s ≡ []
shared_local c (Memory room) e = absurd (cc e)
shared_local c s e = refl

shared_other : (c : Context) (s : Symbol) (n : ℕ) → sort_at s ≡ n → (n ≡ 2 → ⊥) → shared_in c s ≡ []
shared_other c (Memory (room.Shared slot)) n e h = absurd (h (sym e))
shared_other c s n e h = refl

input_local : (s : Symbol) → is_global s ≡ false → input_in s ≡ []
input_local (Input built_in) e = absurd (cc e)
input_local s e = refl

input_other : (s : Symbol) (n : ℕ) → sort_at s ≡ n → (n ≡ 3 → ⊥) → input_in s ≡ []
input_other (Input built_in) n e h = absurd (h (sym e))
input_other s n e h = refl

wanted_buffer : (set binding : ℕ) (read_only coherent : Bool) → WantedBuffer
wanted_buffer set binding read_only coherent =
    record { set = set; binding = binding; is_read_only = read_only; is_coherent = coherent }

buffer_is : (d : Declared) (set binding : ℕ) (read_only coherent flag : Bool) → d.set ≡ set → d.binding ≡ binding → flag ≡ coherent
    → buffer_at d read_only flag ≡ record { set = set; binding = binding; is_read_only = read_only; is_coherent = coherent }
buffer_is d set binding read_only coherent flag a b c =
    ap (λ (n : ℕ). record { set = n; binding = d.binding; is_read_only = read_only; is_coherent = flag }) a
    ∙ ap (λ (n : ℕ). record { set = set; binding = n; is_read_only = read_only; is_coherent = flag }) b
    ∙ ap (λ (t : Bool). record { set = set; binding = binding; is_read_only = read_only; is_coherent = t }) c

module _ (p : Shader) (bindings : List Binding) (h : IsDeclared p) (c : Context)
    (said : (s : Symbol) → declared_of c s ≡ declared_among (descriptions p bindings) s) (finds : FindsEach bindings) where
  -- one register at a descriptor
  one_buffer : (b : Bool) (s : Symbol) (set binding : ℕ) (read_only coherent : Bool) (d : Declared) (flag : Bool) → buffer_in c s ≡ buffer_at d read_only flag ∷ []
      → (b ≡ true → (d.set ≡ set) × (d.binding ≡ binding) × (flag ≡ coherent))
      → flat_map (buffer_in c) (of_some (where_true b s)) ≡ of_some (buffer_where b set binding read_only coherent)
  one_buffer true s set binding read_only coherent d flag e q =
      let t = q refl in
      append-nil (buffer_in c s) ∙ e ∙ ap (λ x. x ∷ []) (buffer_is d set binding read_only coherent flag t.0 t.1 t.2)
  one_buffer false s set binding read_only coherent d flag e q = refl

  buffer_by : (k : ℕ) (r : Register) (place : Place) → slice_get bindings k ≡ Some (binding r place)
      → flat_map (buffer_in c) (of_some (variable_at p r place)) ≡ of_some (buffer_of p r place)
  buffer_by k (Constant slot) (InPush first count) g = refl
  buffer_by k (Resource slot) (InPush first count) g = refl
  buffer_by k (Uav slot) (InPush first count) g = refl
  buffer_by k (Counter slot) (InPush first count) g = refl
  buffer_by k (Constant slot) (Bound set number) g = no_buffer (has_register p (Constant slot)) where
    no_buffer : (b : Bool) → flat_map (buffer_in c) (of_some (where_true b (Uniform slot))) ≡ []
    no_buffer true = refl
    no_buffer false = refl
  buffer_by k (Resource slot) (Bound set number) g =
      let q = finds.registers k (binding (Resource slot) (Bound set number)) g in
      one_buffer (declares is_resource p slot) (Memory (room.Resource slot)) set number true false (declared_of c (Memory (room.Resource slot))) false refl
      (λ t. let e = said (Memory (room.Resource slot)) ∙ resource_at p bindings h.declared slot t in (
        ap (λ (x : Declared). x.set) e ∙ ap set_in q,
        ap (λ (x : Declared). x.binding) e ∙ ap binding_in q,
        refl,
      ))
  buffer_by k (Uav slot) (Bound set number) g =
      let q = finds.registers k (binding (Uav slot) (Bound set number)) g in
      one_buffer (declares is_uav p slot) (Memory (room.Uav slot)) set number false (declares declares_coherent p slot)
      (declared_of c (Memory (room.Uav slot))) (declared_of c (Memory (room.Uav slot))).coherent refl
      (λ t. let e = said (Memory (room.Uav slot)) ∙ uav_at p bindings h.declared slot t in (
        ap (λ (x : Declared). x.set) e ∙ ap set_in q,
        ap (λ (x : Declared). x.binding) e ∙ ap binding_in q,
        ap (λ (x : Declared). x.coherent) e,
      ))
  buffer_by k (Counter slot) (Bound set number) g =
      let q = finds.registers k (binding (Counter slot) (Bound set number)) g in
      one_buffer (list_any (steps_counter slot) p.instructions) (Memory (room.Counter slot)) set number false false
      (declared_of c (Memory (room.Counter slot))) false refl
      (λ t. let e = said (Memory (room.Counter slot)) ∙ counter_at p bindings h.declared slot (h.counters slot t) in (
        ap (λ (x : Declared). x.set) e ∙ ap set_in q,
        ap (λ (x : Declared). x.binding) e ∙ ap binding_in q,
        refl,
      ))

  uniform_is : (slot set number : ℕ) → 0 < vectors_of slot p.declarations → place_of bindings (Constant slot) ≡ Some (Bound set number)
      → uniform_at (declared_of c (Uniform slot)) ≡ record { set = set; binding = number; vectors = vectors_of slot p.declarations }
  uniform_is slot set number lt q =
      let e = said (Uniform slot) ∙ place_at p bindings h.declared slot lt in
      ap uniform_at e
      ∙ ap (λ (n : ℕ). record { set = n; binding = binding_in (place_of bindings (Constant slot)); vectors = vectors_of slot p.declarations }) (ap set_in q)
      ∙ ap (λ (n : ℕ). record { set = set; binding = n; vectors = vectors_of slot p.declarations }) (ap binding_in q)

  one_uniform : (slot set number : ℕ) (b : Bool) → nat_lt 0 (vectors_of slot p.declarations) ≡ b → place_of bindings (Constant slot) ≡ Some (Bound set number)
      → flat_map (uniform_in c) (of_some (where_true (nat_lt 0 (vectors_of slot p.declarations)) (Uniform slot)))
      ≡ of_some (uniform_where (vectors_of slot p.declarations) set number)
  one_uniform slot set number true e q =
      rw e (ap (λ x. x ∷ []) (uniform_is slot set number (positive (vectors_of slot p.declarations) e) q))
  one_uniform slot set number false e q = rw e refl

  uniform_by : (k : ℕ) (r : Register) (place : Place) → slice_get bindings k ≡ Some (binding r place)
      → flat_map (uniform_in c) (of_some (variable_at p r place)) ≡ of_some (uniform_of p r place)
  uniform_by k (Constant slot) (InPush first count) g = refl
  uniform_by k (Resource slot) (InPush first count) g = refl
  uniform_by k (Uav slot) (InPush first count) g = refl
  uniform_by k (Counter slot) (InPush first count) g = refl
  uniform_by k (Constant slot) (Bound set number) g =
      one_uniform slot set number (nat_lt 0 (vectors_of slot p.declarations)) refl (finds.registers k (binding (Constant slot) (Bound set number)) g)
  uniform_by k (Resource slot) (Bound set number) g = no_uniform (has_register p (Resource slot)) where
    no_uniform : (b : Bool) → flat_map (uniform_in c) (of_some (where_true b (Memory (room.Resource slot)))) ≡ []
    no_uniform true = refl
    no_uniform false = refl
  uniform_by k (Uav slot) (Bound set number) g = no_uniform (has_register p (Uav slot)) where
    no_uniform : (b : Bool) → flat_map (uniform_in c) (of_some (where_true b (Memory (room.Uav slot)))) ≡ []
    no_uniform true = refl
    no_uniform false = refl
  uniform_by k (Counter slot) (Bound set number) g = no_uniform (has_register p (Counter slot)) where
    no_uniform : (b : Bool) → flat_map (uniform_in c) (of_some (where_true b (Memory (room.Counter slot)))) ≡ []
    no_uniform true = refl
    no_uniform false = refl

  sizes_in : (test : ℕ → Bool) (ks : List ℕ)
      → flat_map (shared_in c) (filter_map (λ slot. where_true (test slot) (Memory (room.Shared slot))) ks)
      ≡ map (λ slot. shared_extent slot p.declarations) (filter test ks)
  sizes_in test [] = refl
  sizes_in test (k ∷ ks) = by (test k) refl (sizes_in test ks) where
    size : size_of c (Memory (room.Shared k)) ≡ shared_extent k p.declarations
    size = ap (λ (d : Declared). d.size) (said (Memory (room.Shared k))) ∙ words_at p bindings h.declared k

    by : (b : Bool) → test k ≡ b
        → flat_map (shared_in c) (filter_map (λ slot. where_true (test slot) (Memory (room.Shared slot))) ks)
        ≡ map (λ slot. shared_extent slot p.declarations) (filter test ks)
        → flat_map (shared_in c) (filter_map (λ slot. where_true (test slot) (Memory (room.Shared slot))) (k ∷ ks))
        ≡ map (λ slot. shared_extent slot p.declarations) (filter test (k ∷ ks))
    by true e r =
        rw e (ap (λ n. n ∷ flat_map (shared_in c) (filter_map (λ slot. where_true (test slot) (Memory (room.Shared slot))) ks)) size
        ∙ ap (λ l. shared_extent k p.declarations ∷ l) r)
    by false e r = rw e r

  one_input : (o : Option ℕ) → flat_map input_in (of_some (option_map (λ built_in. Input built_in) o)) ≡ of_some o
  one_input None = refl
  one_input (Some n) = refl

-- push constants
module _ (c : Context) where
  abbrev pushes : List Symbol → Option ℕ
  pushes [] = None
  pushes (s ∷ ss) = push_with c s (pushes ss)

  push_local : (s : Symbol) (x : Option ℕ) → is_global s ≡ false → push_with c s x ≡ x
  push_local Push x e = absurd (cc e)
  push_local s x e = refl

  push_other : (s : Symbol) (n : ℕ) (x : Option ℕ) → sort_at s ≡ n → (n ≡ 1 → ⊥) → push_with c s x ≡ x
  push_other Push n x e h = absurd (h (sym e))
  push_other s n x e h = refl

  push_first : (s : Symbol) (ss : List Symbol) → is_global s ≡ true → filter is_global (s ∷ ss) ≡ s ∷ filter is_global ss
  push_first s ss e = rw e refl

  push_rest : (s : Symbol) (ss : List Symbol) → is_global s ≡ false → filter is_global (s ∷ ss) ≡ filter is_global ss
  push_rest s ss e = rw e refl

  push_table : (es : List Entry) → push_in c es ≡ pushes (globals_in es)
  push_table [] = refl
  push_table (x ∷ xs) = by (is_global x.symbol) refl (push_table xs) where
    by : (b : Bool) → is_global x.symbol ≡ b → push_in c xs ≡ pushes (globals_in xs) → push_with c x.symbol (push_in c xs) ≡ pushes (globals_in (x ∷ xs))
    by true e r =
        ap (push_with c x.symbol) r ∙ sym (ap pushes (push_first x.symbol (map (λ (o : Entry). o.symbol) xs) e))
    by false e r =
        push_local x.symbol (push_in c xs) e ∙ r ∙ sym (ap pushes (push_rest x.symbol (map (λ (o : Entry). o.symbol) xs) e))

  push_pass : (ss rest : List Symbol) → ((s : Symbol) → In ss s → (x : Option ℕ) → push_with c s x ≡ x) → pushes (ss ++ rest) ≡ pushes rest
  push_pass [] rest h = refl
  push_pass (s ∷ ss) rest h = h s (inl refl) (pushes (ss ++ rest)) ∙ push_pass ss rest (λ t i. h t (inr i))

  module _ (p : Shader) (bindings : List Binding) (pushed : c.pushed ≡ push_words p bindings) where
    push_last : pushes (shared_variables p ++ thread_variables p) ≡ None
    push_last =
        push_pass (shared_variables p) (thread_variables p) (λ s i x. push_other s 2 x (shared_sort p s i) (λ e. cc e))
        ∙ (ap pushes (sym (append-nil (thread_variables p)))
        ∙ push_pass (thread_variables p) [] (λ s i x. push_other s 3 x (thread_sort p s i) (λ e. cc e)))

    push_some : (b : Bool) → pushes (of_some (if b then None else Some Push) ++ (shared_variables p ++ thread_variables p))
        ≡ (if b then None else Some (push_words p bindings))
    push_some true = push_last
    push_some false = ap (λ n. Some n) pushed

    pub push_wanted : (es : List Entry) → globals_in es ≡ variables p bindings → push_in c es ≡ some_words (push_words p bindings)
    push_wanted es globals =
        push_table es ∙ ap pushes globals
        ∙ push_pass (bound_variables p bindings) (push_variables (push_words p bindings) ++ (shared_variables p ++ thread_variables p))
        (λ s i x. push_other s 0 x (in_bound_sort p bindings s i) (λ e. cc e))
        ∙ push_some (nat_eq (push_words p bindings) 0)

-- ALL OF IT
pub all_wanted : (p : Shader) (bindings : List Binding) → IsDeclared p → (c : Context)
    → ((s : Symbol) → declared_of c s ≡ declared_among (descriptions p bindings) s) → FindsEach bindings → c.pushed ≡ push_words p bindings
    → (es : List Entry) → globals_in es ≡ variables p bindings → wants.wanted_of c es ≡ wanted_of p bindings
all_wanted p bindings h c said finds pushed es globals =
    let buffers = from_globals (buffer_in c) (buffer_local c) es ∙ ap (flat_map (buffer_in c)) globals
    ∙ of_bound (buffer_in c) p bindings (buffer_sort c)
    ∙ mapped (buffer_in c) (λ (b : Binding). variable_at p b.register b.place) (λ (b : Binding). buffer_of p b.register b.place) bindings
    (λ k b g. buffer_by p bindings h c said finds k b.register b.place g) in
    let uniforms = from_globals (uniform_in c) (uniform_local c) es ∙ ap (flat_map (uniform_in c)) globals
    ∙ of_bound (uniform_in c) p bindings (uniform_sort c)
    ∙ mapped (uniform_in c) (λ (b : Binding). variable_at p b.register b.place) (λ (b : Binding). uniform_of p b.register b.place) bindings
    (λ k b g. uniform_by p bindings h c said finds k b.register b.place g) in
    let shared = from_globals (shared_in c) (shared_local c) es ∙ ap (flat_map (shared_in c)) globals
    ∙ of_shared (shared_in c) p bindings (shared_other c) ∙ sizes_in p bindings h c said finds (has_words p) (range_with_len 0 64) in
    let inputs = from_globals input_in input_local es ∙ ap (flat_map input_in) globals ∙ of_threads input_in p bindings input_other
    ∙ mapped input_in (λ (d : Item). option_map (λ built_in. Input built_in) (input_of d.what)) (λ (d : Item). input_of d.what) p.declarations
    (λ k d g. one_input p bindings h c said finds (input_of d.what)) in
    rw (buffers, uniforms, push_wanted c p bindings pushed es globals, shared, inputs) refl
