-- What the tree of a program names is there.
use Rattle.std.proofs.Common.{◌≡◌, ℕ, suc, ◌<◌, inl, inr, Bool, true, false, List, [], ◌∷◌, ◌++◌, Some, None, refl, sym, ap, ◌∙◌, subst, arith}
use Rattle.std.specs.Prelude.{slice_get, Option, filter, map, not, nat_lt, nat_eq, is_none, option_map, ◌&&◌, if◌then◌else◌}
use Rattle.std.specs.List.{list_any, range_with_len}
use Rattle.std.proofs.lemmas.Bool.{and_parts}
use Rattle.std.proofs.lemmas.Bool.Decides.{nat_tests}
use Rattle.word_base.specs.declared.event.Room.{Room}
use Rattle.word_base.specs.declared.event.Room.TheVariants as room
use Rattle.tpf_decode.specs.declared.argument.Kind.{Kind}
use Rattle.tpf_decode.specs.declared.argument.Kind.TheVariants as kind
use Rattle.tpf_decode.specs.declared.argument.Kind.TheVariants.{ThreadId, GroupId, IdInGroup, FlatId}
use Rattle.tpf_program.specs.declared.declaration.Declaration.{Declaration}
use Rattle.tpf_program.specs.declared.declaration.Declaration.TheVariants.{Resource, Uav, Shared, Indexable, Input as InputOf}
use Rattle.tpf_program.specs.declared.declaration.Declared.{Declared as Item}
use Rattle.tpf_program.specs.Declarations.{same_id}
use Rattle.tpf_program.specs.Extents.{is_resource, is_uav, shared_extent}
use Rattle.tpf_program.specs.Program.{Shader}
use Rattle.tpf_program.specs.Sizes.{vectors_of, elements_of}
use Rattle.tpf_program.specs.Uses.{declares}
use Rattle.binding_map.specs.declared.register.Register.{Register}
use Rattle.binding_map.specs.declared.register.Register.TheVariants as register
use Rattle.binding_map.specs.declared.register.Place.{Place}
use Rattle.binding_map.specs.declared.register.Place.TheVariants.{Bound, Push as InPush}
use Rattle.binding_map.specs.Bindings.{Binding, binding, place_of, IsMap, IsPlaceFor}
use Rattle.binding_map.specs.Fits.{is_null_in}
use Rattle.binding_map.specs.Lookups.{LooksUp}
use Rattle.spirv_symbols.specs.declared.symbol.Symbol.{Symbol}
use Rattle.spirv_symbols.specs.declared.symbol.Symbol.TheVariants.{Input, Memory, Uniform, Push}
use Rattle.spirv_symbols.specs.declared.entry.Entry.{Entry}
use Rattle.spirv_emit.specs.Begun.{IsThere, built_in_of}
use Rattle.spirv_emit.specs.Code.{In}
use Rattle.spirv_emit.specs.Growing.{is_global, globals_in}
use Rattle.spirv_setup.specs.Describing.{of_some}
use Rattle.spirv_setup.specs.Named.{has_room, is_input}
use Rattle.spirv_setup.specs.Premises.{IsDeclared}
use Rattle.binding_map.specs.SharedSlots.{has_words}
use Rattle.spirv_setup.specs.Variables.{where_true, has_register, symbol_of, variable_at, bound_variables, push_variables, shared_variables, thread_variables, variables}
use Rattle.binding_map.specs.Wanted as wanted
use Rattle.binding_map.specs.Wanted.{input_of, push_end, push_words}
use Rattle.spirv_setup.proofs.Distinct.{mapped_in, range_here}
use Rattle.spirv_setup.proofs.Looked.{any_at, at_any, is_array, is_shared, array_declared, shared_declared, shared_below}

-- A VARIABLE of the list is in the table.
kept_first : (s : Symbol) (ss : List Symbol) → is_global s ≡ true → filter is_global (s ∷ ss) ≡ s ∷ filter is_global ss
kept_first s ss e = rw e refl

dropped_first : (s : Symbol) (ss : List Symbol) → is_global s ≡ false → filter is_global (s ∷ ss) ≡ filter is_global ss
dropped_first s ss e = rw e refl

there_later : (x : Entry) (xs : List Entry) (s : Symbol) → IsThere xs s → IsThere (x ∷ xs) s
there_later x xs s h = (h.0, (suc h.1.0, h.1.1))

pub in_table : (es : List Entry) (s : Symbol) → In (globals_in es) s → IsThere es s
in_table [] s i = absurd i
in_table (x ∷ xs) s i = by (is_global x.symbol) refl (in_table xs s) where
  first : In (x.symbol ∷ globals_in xs) s → (In (globals_in xs) s → IsThere xs s) → IsThere (x ∷ xs) s
  first (inl e) f = (x.id, (0, ap (λ (t : Symbol). Some (record { symbol = t; id = x.id })) e))
  first (inr j) f = there_later x xs s (f j)

  by : (b : Bool) → is_global x.symbol ≡ b → (In (globals_in xs) s → IsThere xs s) → IsThere (x ∷ xs) s
  by true e f = first (subst (λ l. In l s) (kept_first x.symbol (map (λ (o : Entry). o.symbol) xs) e) i) f
  by false e f = there_later x xs s (f (subst (λ l. In l s) (dropped_first x.symbol (map (λ (o : Entry). o.symbol) xs) e) i))

pub in_left : (xs ys : List Symbol) (s : Symbol) → In xs s → In (xs ++ ys) s
in_left [] ys s i = absurd i
in_left (x ∷ xs) ys s (inl e) = inl e
in_left (x ∷ xs) ys s (inr i) = inr (in_left xs ys s i)

pub in_right : (xs ys : List Symbol) (s : Symbol) → In ys s → In (xs ++ ys) s
in_right [] ys s i = i
in_right (x ∷ xs) ys s i = inr (in_right xs ys s i)

-- THREAD IDS
thread_is : (id k : Kind) → same_id id k ≡ true → wanted.built_in_of id ≡ Some (built_in_of k)
thread_is ThreadId ThreadId e = refl
thread_is GroupId GroupId e = refl
thread_is IdInGroup IdInGroup e = refl
thread_is FlatId FlatId e = refl
thread_is id k e = absurd (cc e)

input_is : (d : Declaration) (k : Kind) → is_input k d ≡ true → input_of d ≡ Some (built_in_of k)
input_is (InputOf id select) k e = thread_is id k e
input_is d k e = absurd (cc e)

-- TESTS of declarations in two forms
itself_same : (id k : Kind) → same_id id k ≡ true → same_id k k ≡ true
itself_same ThreadId ThreadId e = refl
itself_same GroupId GroupId e = refl
itself_same IdInGroup IdInGroup e = refl
itself_same FlatId FlatId e = refl
itself_same id k e = absurd (cc e)

resource_test : (slot : ℕ) (d : Declaration) → declares d kind.Resource slot ≡ true → is_resource slot d ≡ true
resource_test slot (Resource s v) e = e
resource_test slot (InputOf id select) e = absurd (cc (itself_same id kind.Resource e))
resource_test slot d e = absurd (cc e)

uav_test : (slot : ℕ) (d : Declaration) → declares d kind.Uav slot ≡ true → is_uav slot d ≡ true
uav_test slot (Uav s v coherent ordered) e = e
uav_test slot (InputOf id select) e = absurd (cc (itself_same id kind.Uav e))
uav_test slot d e = absurd (cc e)

shared_test : (slot : ℕ) (d : Declaration) → declares d kind.Shared slot ≡ true → is_shared slot d ≡ true
shared_test slot (Shared s k) e = e
shared_test slot (InputOf id select) e = absurd (cc (itself_same id kind.Shared e))
shared_test slot d e = absurd (cc e)

array_test : (slot : ℕ) (d : Declaration) → is_array slot d ≡ true → declares d kind.Indexable slot ≡ true
array_test slot (Indexable s count components) e = e
array_test slot d e = absurd (cc e)

other_test : (f g : Item → Bool) (ds : List Item) → ((d : Item) → f d ≡ true → g d ≡ true) → list_any f ds ≡ true → list_any g ds ≡ true
other_test f g ds h e = let r = any_at f ds e in at_any g ds r.0 r.1 r.2 (h r.1 r.3)

not_true : (b : Bool) → not b ≡ true → b ≡ false
not_true true e = absurd (cc e)
not_true false e = refl

positive : (n : ℕ) → 0 < n → nat_lt 0 n ≡ true
positive n h = grind (arith, nat_tests)

not_zero : (n : ℕ) → 0 < n → nat_eq n 0 ≡ false
not_zero n h = grind (arith, nat_tests)

-- REGISTERS at descriptors
module _ (p : Shader) (bindings : List Binding) (h : IsDeclared p) (m : IsMap bindings) (looks : LooksUp bindings) where
  bound_in : (r : Register) (place : Place) (k set number : ℕ) → has_register p r ≡ true → slice_get bindings k ≡ Some (binding r (Bound set number))
      → In (variables p bindings) (symbol_of r)
  bound_in r place k set number t at =
      in_left (bound_variables p bindings) (push_variables (push_words p bindings) ++ (shared_variables p ++ thread_variables p)) (symbol_of r)
      (mapped_in (λ (b : Binding). variable_at p b.register b.place) bindings k (binding r (Bound set number)) (symbol_of r) at
      (ap (λ b. where_true b (symbol_of r)) t))

  -- a register that is bound, and is no constant buffer
  view_in : (r : Register) → ((first count : ℕ) → IsPlaceFor r (InPush first count) → ⊥) → has_register p r ≡ true → is_none (place_of bindings r) ≡ false
      → In (variables p bindings) (symbol_of r)
  view_in r none t bound = by (place_of bindings r) refl where
    at_place : (place : Place) → place_of bindings r ≡ Some place → (k : ℕ) → slice_get bindings k ≡ Some (binding r place)
        → In (variables p bindings) (symbol_of r)
    at_place (Bound set number) e k at = bound_in r (Bound set number) k set number t at
    at_place (InPush first count) e k at = absurd (none first count (m.places k (binding r (InPush first count)) at))

    by : (o : Option Place) → place_of bindings r ≡ o → In (variables p bindings) (symbol_of r)
    by None e = absurd (cc (sym (ap is_none e) ∙ bound))
    by (Some place) e = let f = looks.found r place e in at_place place e f.0 f.1

  shared_in : (slot : ℕ) → list_any (λ d. declares d.what kind.Shared slot) p.declarations ≡ true → In (variables p bindings) (Memory (room.Shared slot))
  shared_in slot e =
      let t = other_test (λ (d : Item). declares d.what kind.Shared slot) (λ (d : Item). is_shared slot d.what) p.declarations
      (λ d q. shared_test slot d.what q) e in
      let lt = shared_declared p h.declared slot t in
      in_right (bound_variables p bindings) (push_variables (push_words p bindings) ++ (shared_variables p ++ thread_variables p)) (Memory (room.Shared slot))
      (in_right (push_variables (push_words p bindings)) (shared_variables p ++ thread_variables p) (Memory (room.Shared slot))
      (in_left (shared_variables p) (thread_variables p) (Memory (room.Shared slot))
      (mapped_in (λ slot. where_true (has_words p slot) (Memory (room.Shared slot))) (range_with_len 0 64) slot slot (Memory (room.Shared slot))
      (range_here 64 slot (shared_below p h.declared slot lt))
      (ap (λ b. where_true b (Memory (room.Shared slot))) (positive (shared_extent slot p.declarations) lt)))))

  pub room_in : (r : Room) → (has_room p r && not (is_null_in bindings r)) ≡ true → In (variables p bindings) (Memory r)
  room_in (room.Resource slot) e =
      let q = and_parts (has_room p (room.Resource slot)) (not (is_null_in bindings (room.Resource slot))) e in
      view_in (register.Resource slot) (λ first count x. x)
      (other_test (λ (d : Item). declares d.what kind.Resource slot) (λ (d : Item). is_resource slot d.what) p.declarations
      (λ d t. resource_test slot d.what t) q.0) (not_true (is_none (place_of bindings (register.Resource slot))) q.1)
  room_in (room.Uav slot) e =
      let q = and_parts (has_room p (room.Uav slot)) (not (is_null_in bindings (room.Uav slot))) e in
      view_in (register.Uav slot) (λ first count x. x)
      (other_test (λ (d : Item). declares d.what kind.Uav slot) (λ (d : Item). is_uav slot d.what) p.declarations
      (λ d t. uav_test slot d.what t) q.0) (not_true (is_none (place_of bindings (register.Uav slot))) q.1)
  room_in (room.Counter slot) e =
      let q = and_parts (has_room p (room.Counter slot)) (not (is_null_in bindings (room.Counter slot))) e in
      view_in (register.Counter slot) (λ first count x. x) q.0 (not_true (is_none (place_of bindings (register.Counter slot))) q.1)
  room_in (room.Shared slot) e =
      let q = and_parts (has_room p (room.Shared slot)) (not (is_null_in bindings (room.Shared slot))) e in shared_in slot q.0

  pub thread_in : (k : Kind) → list_any (λ d. is_input k d.what) p.declarations ≡ true → In (variables p bindings) (Input (built_in_of k))
  thread_in k e =
      let r = any_at (λ (d : Item). is_input k d.what) p.declarations e in
      in_right (bound_variables p bindings) (push_variables (push_words p bindings) ++ (shared_variables p ++ thread_variables p)) (Input (built_in_of k))
      (in_right (push_variables (push_words p bindings)) (shared_variables p ++ thread_variables p) (Input (built_in_of k))
      (in_right (shared_variables p) (thread_variables p) (Input (built_in_of k))
      (mapped_in (λ (d : Item). option_map (λ built_in. Input built_in) (input_of d.what)) p.declarations r.0 r.1 (Input (built_in_of k)) r.2
      (ap (option_map (λ built_in. Input built_in)) (input_is r.1.what k r.3)))))

  pub push_in : 0 < push_words p bindings → In (variables p bindings) Push
  push_in lt =
      in_right (bound_variables p bindings) (push_variables (push_words p bindings) ++ (shared_variables p ++ thread_variables p)) Push
      (in_left (push_variables (push_words p bindings)) (shared_variables p ++ thread_variables p) Push
      (subst (λ b. In (of_some (if b then None else Some Push)) Push) (sym (not_zero (push_words p bindings) lt)) (inl refl)))

  pub uniform_in : (slot k set number : ℕ) → 0 < vectors_of slot p.declarations → slice_get bindings k ≡ Some (binding (register.Constant slot) (Bound set number))
      → In (variables p bindings) (Uniform slot)
  uniform_in slot k set number lt at =
      bound_in (register.Constant slot) (Bound set number) k set number (positive (vectors_of slot p.declarations) lt) at

  pub array_in : (slot : ℕ) → 0 < elements_of slot p.declarations → list_any (λ d. declares d.what kind.Indexable slot) p.declarations ≡ true
  array_in slot lt =
      other_test (λ (d : Item). is_array slot d.what) (λ (d : Item). declares d.what kind.Indexable slot) p.declarations
      (λ d t. array_test slot d.what t) (array_declared p slot lt)
