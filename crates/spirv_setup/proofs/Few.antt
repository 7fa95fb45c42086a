-- There are few variables: at most two for each declaration, and at most one for each register there may be.
use Rattle.std.proofs.Common.{◌≡◌, ℕ, zero, suc, ◌+◌, ◌*◌, ◌<◌, ◌≤◌, ◌⊎◌, inl, inr, Bool, true, false, List, [], ◌∷◌, ◌++◌, length, Some, None, refl, sym, ap, ◌∙◌, subst, arith, length-append}
use Rattle.std.specs.Prelude.{slice_get, Option, filter, flat_map, is_some, map, nat_lt, nat_eq, if◌then◌else◌}
use Rattle.std.specs.List.{range_with_len}
use Rattle.std.proofs.lemmas.Bool.{and_parts}
use Rattle.std.proofs.lemmas.Bool.Decides.{nat_tests}
use Rattle.word_base.specs.declared.event.Room.TheVariants as room
use Rattle.tpf_decode.specs.declared.argument.Kind.{Kind}
use Rattle.tpf_decode.specs.declared.argument.Kind.TheVariants.{ThreadId, GroupId, IdInGroup, FlatId}
use Rattle.tpf_program.specs.declared.declaration.Declaration.{Declaration}
use Rattle.tpf_program.specs.declared.declaration.Declaration.TheVariants.{Constants, Resource, Uav, Shared, Input as InputOf}
use Rattle.tpf_program.specs.declared.declaration.Declared.{Declared as Item}
use Rattle.tpf_program.specs.Declarations.{has_structures, is_from_to, is_within}
use Rattle.tpf_program.specs.Extents.{is_resource, is_uav, shared_extent}
use Rattle.tpf_program.specs.Program.{Shader}
use Rattle.tpf_program.specs.Sizes.{vectors_of}
use Rattle.binding_map.specs.declared.register.Register.{Register}
use Rattle.binding_map.specs.declared.register.Register.TheVariants as register
use Rattle.binding_map.specs.Bindings.{Binding, IsMap}
use Rattle.spirv_symbols.specs.declared.symbol.Symbol.{Symbol}
use Rattle.spirv_symbols.specs.declared.symbol.Symbol.TheVariants.{Input, Memory, Uniform, Push}
use Rattle.spirv_symbols.specs.declared.entry.Entry.{Entry}
use Rattle.spirv_symbols.specs.Modules.{class_of, globals_of, interface, is_global as is_listed, passes}
use Rattle.spirv_words.specs.Sections.{listed_classes}
use Rattle.spirv_emit.specs.Growing.{is_global, globals_in}
use Rattle.spirv_emit.specs.Code.{In}
use Rattle.spirv_setup.specs.Premises.{Apart, IsDeclared}
use Rattle.spirv_setup.specs.Variables.{has_register, symbol_of, variables}
use Rattle.binding_map.specs.Wanted.{built_in_of, input_of, push_words}
use Rattle.spirv_setup.proofs.Distinct.{all_apart, bound_at, push_at, shared_at, thread_at}
use Rattle.spirv_setup.proofs.Looked.{any_at, is_shared, shared_has, vectors_declared_at}
use Rattle.spirv_setup.proofs.There.{in_left, in_right}
use Rattle.spirv_setup.proofs.Placed.{Which, OfRegister, OfPush, OfShared, OfThread, which}

-- A LIST without equal symbols is no longer than one that has them all.
abbrev without : (ys : List Symbol) (s : Symbol) → In ys s → List Symbol
without [] s i = []
without (y ∷ ys) s (inl e) = ys
without (y ∷ ys) s (inr i) = y ∷ without ys s i

shorter : (ys : List Symbol) (s : Symbol) (i : In ys s) → length ys ≡ suc (length (without ys s i))
shorter [] s i = absurd i
shorter (y ∷ ys) s (inl e) = refl
shorter (y ∷ ys) s (inr i) = ap suc (shorter ys s i)

still_in : (ys : List Symbol) (s t : Symbol) (i : In ys s) → In ys t → (s ≡ t → ⊥) → In (without ys s i) t
still_in [] s t i j d = absurd i
still_in (y ∷ ys) s t (inl e) (inl q) d = absurd (d (sym e ∙ q))
still_in (y ∷ ys) s t (inl e) (inr j) d = j
still_in (y ∷ ys) s t (inr i) (inl q) d = inl q
still_in (y ∷ ys) s t (inr i) (inr j) d = inr (still_in ys s t i j d)

no_longer : (xs ys : List Symbol) → Apart xs → ((s : Symbol) → In xs s → In ys s) → length xs ≤ length ys
no_longer [] ys a h = omega arith
no_longer (x ∷ xs) ys a h =
    let i = h x (inl refl) in
    let n = no_longer xs (without ys x i) a.1 (λ s j. still_in ys x s i (h s (inr j)) (λ e. a.0 (subst (In xs) (sym e) j))) in
    omega (arith, n, shorter ys x i)

in_flat : (f : Item → List Symbol) (ds : List Item) (k : ℕ) (d : Item) (s : Symbol) → slice_get ds k ≡ Some d → In (f d) s → In (flat_map f ds) s
in_flat f [] k d s g i = absurd (cc g)
in_flat f (x ∷ xs) zero d s g i =
    let same : x ≡ d = cc g in in_left (f x) (flat_map f xs) s (subst (λ (y : Item). In (f y) s) (sym same) i)
in_flat f (x ∷ xs) (suc k) d s g i = in_right (f x) (flat_map f xs) s (in_flat f xs k d s g i)

-- THE VARIABLES that a declaration may have
abbrev input_symbols : Option ℕ → List Symbol
input_symbols None = []
input_symbols (Some n) = Input n ∷ []

abbrev variables_by : Declaration → List Symbol
variables_by (Constants slot size) = Uniform slot ∷ []
variables_by (Resource slot view) = Memory (room.Resource slot) ∷ []
variables_by (Uav slot view coherent ordered) = Memory (room.Uav slot) ∷ Memory (room.Counter slot) ∷ []
variables_by (Shared slot kind) = Memory (room.Shared slot) ∷ []
variables_by (InputOf kind select) = input_symbols (built_in_of kind)
variables_by d = []

two_inputs : (o : Option ℕ) → length (input_symbols o) ≤ 2
two_inputs None = omega arith
two_inputs (Some n) = omega arith

two_most : (d : Declaration) → length (variables_by d) ≤ 2
two_most (Constants slot size) = omega arith
two_most (Resource slot view) = omega arith
two_most (Uav slot view coherent ordered) = omega arith
two_most (Shared slot kind) = omega arith
two_most (InputOf kind select) = two_inputs (built_in_of kind)
two_most d = omega arith

two_each : (ds : List Item) → length (flat_map (λ d. variables_by d.what) ds) ≤ 2 * length ds
two_each [] = omega arith
two_each (d ∷ ds) =
    omega (arith, length-append (variables_by d.what) (flat_map (λ (d : Item). variables_by d.what) ds), two_most d.what, two_each ds)

equal : (m n : ℕ) → nat_eq m n ≡ true → m ≡ n
equal m n e = grind (arith, nat_tests)

resource_of : (slot : ℕ) (d : Declaration) → is_resource slot d ≡ true → In (variables_by d) (Memory (room.Resource slot))
resource_of slot (Resource s view) e = inl (ap (λ n. Memory (room.Resource n)) (equal s slot e))
resource_of slot d e = absurd (cc e)

uav_of : (slot : ℕ) (d : Declaration) → is_uav slot d ≡ true → In (variables_by d) (Memory (room.Uav slot))
uav_of slot (Uav s view coherent ordered) e = inl (ap (λ n. Memory (room.Uav n)) (equal s slot e))
uav_of slot d e = absurd (cc e)

counter_of : (slot : ℕ) (d : Declaration) → is_uav slot d ≡ true → In (variables_by d) (Memory (room.Counter slot))
counter_of slot (Uav s view coherent ordered) e = inr (inl (ap (λ n. Memory (room.Counter n)) (equal s slot e)))
counter_of slot d e = absurd (cc e)

shared_of : (slot : ℕ) (d : Declaration) → is_shared slot d ≡ true → In (variables_by d) (Memory (room.Shared slot))
shared_of slot (Shared s kind) e = inl (ap (λ n. Memory (room.Shared n)) (equal s slot e))
shared_of slot d e = absurd (cc e)

input_in : (d : Declaration) (n : ℕ) → input_of d ≡ Some n → In (variables_by d) (Input n)
input_in (InputOf kind select) n e = subst (λ o. In (input_symbols o) (Input n)) (sym e) (inl refl)
input_in d n e = absurd (cc e)

module _ (p : Shader) (bindings : List Binding) (h : IsDeclared p) where
  positive : (n : ℕ) → nat_lt 0 n ≡ true → 0 < n
  positive n e = grind (arith, nat_tests)

  register_has : (r : Register) → has_register p r ≡ true → (k : ℕ) × (d : Item) × (slice_get p.declarations k ≡ Some d) × In (variables_by d.what) (symbol_of r)
  register_has (register.Constant slot) t =
      let r = vectors_declared_at p slot (positive (vectors_of slot p.declarations) t) in
      (r.0, r.1, r.2, subst (λ d. In (variables_by d) (Uniform slot)) (sym r.4) (inl refl))
  register_has (register.Resource slot) t =
      let r = any_at (λ (d : Item). is_resource slot d.what) p.declarations t in (r.0, r.1, r.2, resource_of slot r.1.what r.3)
  register_has (register.Uav slot) t =
      let r = any_at (λ (d : Item). is_uav slot d.what) p.declarations t in (r.0, r.1, r.2, uav_of slot r.1.what r.3)
  register_has (register.Counter slot) t =
      let r = any_at (λ (d : Item). is_uav slot d.what) p.declarations (h.counters slot t) in (r.0, r.1, r.2, counter_of slot r.1.what r.3)

  one_has : (s : Symbol) → Which p bindings s → (Push ≡ s) ⊎ ((k : ℕ) × (d : Item) × (slice_get p.declarations k ≡ Some d) × In (variables_by d.what) s)
  one_has s (OfRegister k b at is) =
      let q = bound_at p b.register b.place s is in
      inr (subst (λ s. (k : ℕ) × (d : Item) × (slice_get p.declarations k ≡ Some d) × In (variables_by d.what) s) q.0 (register_has b.register q.1))
  one_has s (OfPush is) = inl (push_at (push_words p bindings) s is)
  one_has s (OfShared slot is) =
      let q = shared_at p slot s is in
      let t = shared_has p slot (positive (shared_extent slot p.declarations) q.1) in
      let r = any_at (λ (d : Item). is_shared slot d.what) p.declarations t in
      inr (r.0, r.1, r.2, subst (In (variables_by r.1.what)) q.0 (shared_of slot r.1.what r.3))
  one_has s (OfThread k d at is) =
      let q = thread_at d.what s is in inr (k, d, at, subst (In (variables_by d.what)) q.2 (input_in d.what q.0 q.1))

  declared_in : (s : Symbol) → (Push ≡ s) ⊎ ((k : ℕ) × (d : Item) × (slice_get p.declarations k ≡ Some d) × In (variables_by d.what) s)
      → In (Push ∷ flat_map (λ d. variables_by d.what) p.declarations) s
  declared_in s (inl e) = inl e
  declared_in s (inr r) = inr (in_flat (λ (d : Item). variables_by d.what) p.declarations r.0 r.1 s r.2 r.3)

  pub two_a_declaration : IsMap bindings → length (variables p bindings) ≤ 2 * length p.declarations + 1
  two_a_declaration m =
      let n = no_longer (variables p bindings) (Push ∷ flat_map (λ (d : Item). variables_by d.what) p.declarations)
      (all_apart p bindings m h.declared) (λ s i. declared_in s (one_has s (which p bindings s i))) in
      omega (arith, n, two_each p.declarations)

-- ALL REGISTERS that there may be
in_range : (f : ℕ → Symbol) (a n k : ℕ) → k < n → In (map f (range_with_len a n)) (f (a + k))
in_range f a zero k lt = absurd (omega (arith, lt))
in_range f a (suc n) zero lt = let e : a ≡ a + 0 = omega arith in inl (ap f e)
in_range f a (suc n) (suc k) lt =
    let e : a + 1 + k ≡ a + suc k = omega arith in
    inr (subst (λ m. In (map f (range_with_len (a + 1) n)) (f m)) e (in_range f (a + 1) n k (omega (arith, lt))))

in_slots : (f : ℕ → Symbol) (n k : ℕ) → nat_lt k n ≡ true → In (map f (range_with_len 0 n)) (f k)
in_slots f n k t =
    let lt : k < n = grind (arith, nat_tests) in
    let e : 0 + k ≡ k = omega arith in subst (λ m. In (map f (range_with_len 0 n)) (f m)) e (in_range f 0 n k lt)

counted : (f : ℕ → Symbol) (a n : ℕ) → length (map f (range_with_len a n)) ≡ n
counted f a zero = refl
counted f a (suc n) = ap suc (counted f (a + 1) n)

abbrev resources : List Symbol
resources = map (λ n. Memory (room.Resource n)) (range_with_len 0 128)

abbrev uavs : List Symbol
uavs = map (λ n. Memory (room.Uav n)) (range_with_len 0 64)

abbrev counters : List Symbol
counters = map (λ n. Memory (room.Counter n)) (range_with_len 0 64)

abbrev uniforms : List Symbol
uniforms = map (λ n. Uniform n) (range_with_len 0 14)

abbrev shareds : List Symbol
shareds = map (λ n. Memory (room.Shared n)) (range_with_len 0 64)

abbrev others : List Symbol
others = Push ∷ Input 26 ∷ Input 27 ∷ Input 28 ∷ Input 29 ∷ []

abbrev every : List Symbol
every = resources ++ (uavs ++ (counters ++ (uniforms ++ (shareds ++ others))))

every_count : length every ≡ 339
every_count = omega (
  arith,
  length-append (map (λ n. Memory (room.Resource n)) (range_with_len 0 128)) (uavs ++ (counters ++ (uniforms ++ (shareds ++ others)))),
  length-append (map (λ n. Memory (room.Uav n)) (range_with_len 0 64)) (counters ++ (uniforms ++ (shareds ++ others))),
  length-append (map (λ n. Memory (room.Counter n)) (range_with_len 0 64)) (uniforms ++ (shareds ++ others)),
  length-append (map (λ n. Uniform n) (range_with_len 0 14)) (shareds ++ others),
  length-append (map (λ n. Memory (room.Shared n)) (range_with_len 0 64)) others,
  counted (λ n. Memory (room.Resource n)) 0 128,
  counted (λ n. Memory (room.Uav n)) 0 64,
  counted (λ n. Memory (room.Counter n)) 0 64,
  counted (λ n. Uniform n) 0 14,
  counted (λ n. Memory (room.Shared n)) 0 64,
)

resource_every : (slot : ℕ) → nat_lt slot 128 ≡ true → In every (Memory (room.Resource slot))
resource_every slot t =
    in_left resources (uavs ++ (counters ++ (uniforms ++ (shareds ++ others)))) (Memory (room.Resource slot))
    (in_slots (λ n. Memory (room.Resource n)) 128 slot t)

later_every : (s : Symbol) → In (uavs ++ (counters ++ (uniforms ++ (shareds ++ others)))) s → In every s
later_every s i = in_right resources (uavs ++ (counters ++ (uniforms ++ (shareds ++ others)))) s i

uav_every : (slot : ℕ) → nat_lt slot 64 ≡ true → In every (Memory (room.Uav slot))
uav_every slot t =
    later_every (Memory (room.Uav slot)) (in_left uavs (counters ++ (uniforms ++ (shareds ++ others))) (Memory (room.Uav slot))
    (in_slots (λ n. Memory (room.Uav n)) 64 slot t))

counter_every : (slot : ℕ) → nat_lt slot 64 ≡ true → In every (Memory (room.Counter slot))
counter_every slot t =
    later_every (Memory (room.Counter slot)) (in_right uavs (counters ++ (uniforms ++ (shareds ++ others))) (Memory (room.Counter slot))
    (in_left counters (uniforms ++ (shareds ++ others)) (Memory (room.Counter slot)) (in_slots (λ n. Memory (room.Counter n)) 64 slot t)))

last_every : (s : Symbol) → In (uniforms ++ (shareds ++ others)) s → In every s
last_every s i =
    later_every s (in_right uavs (counters ++ (uniforms ++ (shareds ++ others))) s (in_right counters (uniforms ++ (shareds ++ others)) s i))

uniform_every : (slot : ℕ) → nat_lt slot 14 ≡ true → In every (Uniform slot)
uniform_every slot t =
    last_every (Uniform slot) (in_left uniforms (shareds ++ others) (Uniform slot) (in_slots (λ n. Uniform n) 14 slot t))

shared_every : (slot : ℕ) → nat_lt slot 64 ≡ true → In every (Memory (room.Shared slot))
shared_every slot t =
    last_every (Memory (room.Shared slot)) (in_right uniforms (shareds ++ others) (Memory (room.Shared slot))
    (in_left shareds others (Memory (room.Shared slot)) (in_slots (λ n. Memory (room.Shared n)) 64 slot t)))

other_every : (s : Symbol) → In others s → In every s
other_every s i = last_every s (in_right uniforms (shareds ++ others) s (in_right shareds others s i))

one_every : (t s : Symbol) → In every t → In (t ∷ []) s → In every s
one_every t s i (inl e) = subst (In every) e i
one_every t s i (inr x) = absurd x

input_every : (k : Kind) (s : Symbol) → In (input_symbols (built_in_of k)) s → In every s
input_every ThreadId s i = one_every (Input 28) s (other_every (Input 28) (inr (inr (inr (inl refl))))) i
input_every GroupId s i = one_every (Input 26) s (other_every (Input 26) (inr (inl refl))) i
input_every IdInGroup s i = one_every (Input 27) s (other_every (Input 27) (inr (inr (inl refl)))) i
input_every FlatId s i = one_every (Input 29) s (other_every (Input 29) (inr (inr (inr (inr (inl refl)))))) i
input_every k s i = absurd i

two_every : (t u s : Symbol) → In every t → In every u → In (t ∷ u ∷ []) s → In every s
two_every t u s i j (inl e) = subst (In every) e i
two_every t u s i j (inr k) = one_every u s j k

declared_every : (d : Declaration) (s : Symbol) → is_within d ≡ true → In (variables_by d) s → In every s
declared_every (Constants slot size) s w i =
    one_every (Uniform slot) s (uniform_every slot (and_parts (nat_lt slot 14) (is_from_to 1 4096 size) w).0) i
declared_every (Resource slot view) s w i = one_every (Memory (room.Resource slot)) s (resource_every slot w) i
declared_every (Uav slot view coherent ordered) s w i =
    two_every (Memory (room.Uav slot)) (Memory (room.Counter slot)) s (uav_every slot w) (counter_every slot w) i
declared_every (Shared slot kind) s w i =
    one_every (Memory (room.Shared slot)) s (shared_every slot (and_parts (nat_lt slot 64) (has_structures kind) w).0) i
declared_every (InputOf kind select) s w i = input_every kind s i
declared_every d s w i = absurd i

module _ (p : Shader) (bindings : List Binding) (h : IsDeclared p) where
  among_every : (s : Symbol) → (Push ≡ s) ⊎ ((k : ℕ) × (d : Item) × (slice_get p.declarations k ≡ Some d) × In (variables_by d.what) s) → In every s
  among_every s (inl e) = other_every s (inl e)
  among_every s (inr r) = declared_every r.1.what s (h.declared.within r.0 r.1 r.2) r.3

  pub few_in_all : IsMap bindings → length (variables p bindings) ≤ 339
  few_in_all m =
      let n = no_longer (variables p bindings) every (all_apart p bindings m h.declared)
      (λ s i. among_every s (one_has p bindings h s (which p bindings s i))) in
      omega (arith, n, every_count)

-- THE INTERFACE of an entry point has no more.
listed_few : (classes : ℕ → Bool) (es : List Entry) → length (globals_of classes es) ≤ length (globals_in es)
listed_few classes [] = omega arith
listed_few classes (x ∷ xs) = by (class_of x.symbol) refl (listed_few classes xs) where
  passed : (c : ℕ) → class_of x.symbol ≡ Some c → length (globals_in (x ∷ xs)) ≡ suc (length (globals_in xs))
  passed c e = let g : is_global x.symbol ≡ true = ap is_some e in rw g refl

  left : class_of x.symbol ≡ None → length (globals_in (x ∷ xs)) ≡ length (globals_in xs)
  left e = let g : is_global x.symbol ≡ false = ap is_some e in rw g refl

  most : (b : Bool) → length (map (λ (e : Entry). e.id) (if b then x ∷ filter (is_listed classes) xs else filter (is_listed classes) xs))
      ≤ suc (length (globals_of classes xs))
  most true = omega arith
  most false = omega arith

  by : (o : Option ℕ) → class_of x.symbol ≡ o → length (globals_of classes xs) ≤ length (globals_in xs)
      → length (globals_of classes (x ∷ xs)) ≤ length (globals_in (x ∷ xs))
  by (Some c) e f = omega (arith, passed c e, most (is_listed classes x), f)
  by None e f =
      let g : is_listed classes x ≡ false = ap (passes classes) e in
      let t : length (globals_of classes (x ∷ xs)) ≡ length (globals_of classes xs) = rw g refl in omega (arith, left e, t, f)

pub interface_few : (version : ℕ) (es : List Entry) → length (interface version es) ≤ length (globals_in es)
interface_few version es = listed_few (listed_classes version) es
