-- What is looked up of each variable of a program.
use Rattle.std.proofs.Common.{◌≡◌, ℕ, zero, suc, ◌*◌, ◌/◌, ◌%◌, ◌<◌, ◌≤◌, Bool, true, false, List, [], ◌∷◌, Some, None, refl, sym, ap, ◌∙◌, subst, arith}
use Rattle.std.specs.Prelude.{slice_get, find, nat_eq, nat_lt, nat_le, ◌&&◌, ◌||◌, if◌then◌else◌}
use Rattle.std.specs.List.{list_any}
use Rattle.std.proofs.Math.Nat.{div-add-mod, mod-lt}
use Rattle.std.proofs.lemmas.Bool.{and_parts}
use Rattle.std.proofs.lemmas.Bool.Decides.{nat_tests}
use Rattle.word_base.specs.declared.event.Room.TheVariants as room
use Rattle.tpf_program.specs.declared.declaration.Declaration.{Declaration}
use Rattle.tpf_program.specs.declared.declaration.Declaration.TheVariants.{Constants, Resource, Uav, Shared, Indexable}
use Rattle.tpf_program.specs.declared.declaration.SharedKind.TheVariants as shared
use Rattle.tpf_program.specs.declared.declaration.Declared.{Declared as Item}
use Rattle.tpf_program.specs.Declarations.{is_within, has_sizes, has_structures, same_thing, is_from_to}
use Rattle.tpf_program.specs.Extents.{is_resource, is_uav, shared_words, words_declared, shared_extent}
use Rattle.tpf_program.specs.Program.{Shader}
use Rattle.tpf_program.specs.Sizes.{first_size, vectors_declared, vectors_of, elements_declared, elements_of}
use Rattle.shader_check.specs.Facts.{AreDeclared}
use Rattle.binding_map.specs.declared.register.Register.TheVariants as register
use Rattle.binding_map.specs.Bindings.{Binding, place_of}
use Rattle.spirv_symbols.specs.declared.symbol.Symbol.TheVariants.{Memory, Uniform, Elements}
use Rattle.spirv_symbols.specs.declared.declared.Declared.{Declared}
use Rattle.spirv_symbols.specs.Contexts.{declared_among}
use Rattle.spirv_setup.specs.Describing.{is_of}
use Rattle.spirv_setup.specs.Descriptions.{described, described_by, descriptions}
use Rattle.binding_map.specs.Wanted.{declares, declares_coherent}
use Rattle.spirv_setup.proofs.Found.{found_by, none_said, some_said}
use Rattle.spirv_setup.proofs.Said.{among_found, among_none}

-- WHICH DECLARATIONS say something of a variable, and what
abbrev pub is_buffer : ℕ → Declaration → Bool
is_buffer slot (Constants s size) = nat_eq s slot
is_buffer slot other = false

abbrev pub is_shared : ℕ → Declaration → Bool
is_shared slot (Shared s kind) = nat_eq s slot
is_shared slot other = false

abbrev pub is_array : ℕ → Declaration → Bool
is_array slot (Indexable s count components) = nat_eq s slot
is_array slot other = false

abbrev pub coherent_of : Declaration → Bool
coherent_of (Uav s view coherent ordered) = coherent
coherent_of other = false

equal : (m n : ℕ) → nat_eq m n ≡ true → m ≡ n
equal m n e = grind (arith, nat_tests)

-- one of that slot, or none
one_of : (b : Bool) (a s : Declared) → (b ≡ true → a ≡ s) → found_by b a ≡ found_by b s
one_of true a s h = ap (λ x. Some x) (h refl)
one_of false a s h = refl

module _ (bindings : List Binding) (slot : ℕ) where
  resource_said : (d : Declaration)
      → find (is_of (Memory (room.Resource slot))) (described_by bindings d)
      ≡ found_by (is_resource slot d) (described (Memory (room.Resource slot)) 0 (place_of bindings (register.Resource slot)) false)
  resource_said (Resource s view) = one_of (nat_eq s slot) _ _ (λ e.
      ap (λ n. described (Memory (room.Resource n)) 0 (place_of bindings (register.Resource n)) false) (equal s slot e))
  resource_said d = refl

  uav_said : (d : Declaration)
      → find (is_of (Memory (room.Uav slot))) (described_by bindings d)
      ≡ found_by (is_uav slot d) (described (Memory (room.Uav slot)) 0 (place_of bindings (register.Uav slot)) (coherent_of d))
  uav_said (Uav s view coherent ordered) = one_of (nat_eq s slot) _ _ (λ e.
      ap (λ n. described (Memory (room.Uav n)) 0 (place_of bindings (register.Uav n)) coherent) (equal s slot e))
  uav_said d = refl

  counter_said : (d : Declaration)
      → find (is_of (Memory (room.Counter slot))) (described_by bindings d)
      ≡ found_by (is_uav slot d) (described (Memory (room.Counter slot)) 0 (place_of bindings (register.Counter slot)) false)
  counter_said (Uav s view coherent ordered) = one_of (nat_eq s slot) _ _ (λ e.
      ap (λ n. described (Memory (room.Counter n)) 0 (place_of bindings (register.Counter n)) false) (equal s slot e))
  counter_said d = refl

  buffer_said : (d : Declaration)
      → find (is_of (Uniform slot)) (described_by bindings d)
      ≡ found_by (is_buffer slot d) (described (Uniform slot) (vectors_declared slot d) (place_of bindings (register.Constant slot)) false)
  buffer_said (Constants s size) = by (nat_eq s slot) refl where
    by : (b : Bool) → nat_eq s slot ≡ b
        → found_by (nat_eq s slot) (described (Uniform s) size (place_of bindings (register.Constant s)) false)
        ≡ found_by (nat_eq s slot)
        (described (Uniform slot) (if nat_eq s slot then size else 0) (place_of bindings (register.Constant slot)) false)
    by true e = rw e (ap (λ n. Some (described (Uniform n) size (place_of bindings (register.Constant n)) false)) (equal s slot e))
    by false e = rw e refl
  buffer_said d = refl

  shared_said : (d : Declaration)
      → find (is_of (Memory (room.Shared slot))) (described_by bindings d)
      ≡ found_by (is_shared slot d) (described (Memory (room.Shared slot)) (words_declared slot d) None false)
  shared_said (Shared s kind) = by (nat_eq s slot) refl where
    by : (b : Bool) → nat_eq s slot ≡ b
        → found_by (nat_eq s slot) (described (Memory (room.Shared s)) (shared_words kind) None false)
        ≡ found_by (nat_eq s slot) (described (Memory (room.Shared slot)) (if nat_eq s slot then shared_words kind else 0) None false)
    by true e = rw e (ap (λ n. Some (described (Memory (room.Shared n)) (shared_words kind) None false)) (equal s slot e))
    by false e = rw e refl
  shared_said d = refl

  array_said : (d : Declaration)
      → find (is_of (Elements slot)) (described_by bindings d)
      ≡ found_by (is_array slot d) (described (Elements slot) (4 * elements_declared slot d) None false)
  array_said (Indexable s count components) = by (nat_eq s slot) refl where
    by : (b : Bool) → nat_eq s slot ≡ b
        → found_by (nat_eq s slot) (described (Elements s) (4 * count) None false)
        ≡ found_by (nat_eq s slot) (described (Elements slot) (4 * (if nat_eq s slot then count else 0)) None false)
    by true e = rw e (ap (λ n. Some (described (Elements n) (4 * count) None false)) (equal s slot e))
    by false e = rw e refl
  array_said d = refl

-- WHERE A TEST HOLDS
pub any_at : (f : Item → Bool) (ds : List Item) → list_any f ds ≡ true → (k : ℕ) × (d : Item) × (slice_get ds k ≡ Some d) × (f d ≡ true)
any_at f [] h = absurd (cc h)
any_at f (d ∷ ds) h = by (f d) refl h (any_at f ds) where
  by : (b : Bool) → f d ≡ b → (f d || list_any f ds) ≡ true
      → (list_any f ds ≡ true → (k : ℕ) × (e : Item) × (slice_get ds k ≡ Some e) × (f e ≡ true))
      → (k : ℕ) × (e : Item) × (slice_get (d ∷ ds) k ≡ Some e) × (f e ≡ true)
  by true e q g = (0, d, refl, e)
  by false e q g = let r = g (sym (ap (λ b. b || list_any f ds) e) ∙ q) in (suc r.0, r.1, r.2, r.3)

or_true : (b : Bool) → (b || true) ≡ true
or_true true = refl
or_true false = refl

pub at_any : (f : Item → Bool) (ds : List Item) (k : ℕ) (d : Item) → slice_get ds k ≡ Some d → f d ≡ true → list_any f ds ≡ true
at_any f [] k d g h = absurd (cc g)
at_any f (x ∷ xs) zero d g h = let e : f x ≡ true = ap f (cc g) ∙ h in ap (λ b. b || list_any f xs) e
at_any f (x ∷ xs) (suc k) d g h = ap (λ b. f x || b) (at_any f xs k d g h) ∙ or_true (f x)

-- THE SIZE of what is declared once
module _ (test : Declaration → Bool) (size : Declaration → ℕ) (none : (d : Declaration) → test d ≡ false → size d ≡ 0) where
  pub unsized : (ds : List Item) → list_any (λ d. test d.what) ds ≡ false → first_size size ds ≡ 0
  unsized [] h = refl
  unsized (d ∷ ds) h = by (test d.what) refl h (unsized ds) where
    by : (b : Bool) → test d.what ≡ b → (test d.what || list_any (λ d. test d.what) ds) ≡ false
        → (list_any (λ d. test d.what) ds ≡ false → first_size size ds ≡ 0) → first_size size (d ∷ ds) ≡ 0
    by true e q f = absurd (cc (sym (ap (λ b. b || list_any (λ d. test d.what) ds) e) ∙ q))
    by false e q f =
        ap (λ n. if nat_eq n 0 then first_size size ds else n) (none d.what e) ∙ f (sym (ap (λ b. b || list_any (λ d. test d.what) ds) e) ∙ q)

  kept : (n : ℕ) (x : ℕ) → 0 < n → (if nat_eq n 0 then x else n) ≡ n
  kept n x h = by (nat_eq n 0) refl where
    by : (b : Bool) → nat_eq n 0 ≡ b → (if nat_eq n 0 then x else n) ≡ n
    by true e = absurd (omega (arith, h, equal n 0 e))
    by false e = ap (λ b. if b then x else n) e

  pub sized : (ds : List Item) (k : ℕ) (d : Item) → slice_get ds k ≡ Some d → 0 < size d.what
      → ((i : ℕ) (e : Item) → i < k → slice_get ds i ≡ Some e → test e.what ≡ false) → first_size size ds ≡ size d.what
  sized [] k d g h u = absurd (cc g)
  sized (x ∷ xs) zero d g h u =
      let e : x ≡ d = cc g in subst (λ (y : Item). first_size size (y ∷ xs) ≡ size d.what) (sym e) (kept (size d.what) (first_size size xs) h)
  sized (x ∷ xs) (suc k) d g h u =
      ap (λ n. if nat_eq n 0 then first_size size xs else n) (none x.what (u 0 x (omega arith) refl))
      ∙ sized xs k d g h (λ i e lt q. u (suc i) e (omega (arith, lt)) q)

-- one thing is declared once
module _ (p : Shader) (h : AreDeclared p) (test : Declaration → Bool)
    (same : (d e : Declaration) → test d ≡ true → test e ≡ true → same_thing d e ≡ true) where
  pub before : (k : ℕ) (d : Item) → slice_get p.declarations k ≡ Some d → test d.what ≡ true
      → (i : ℕ) (e : Item) → i < k → slice_get p.declarations i ≡ Some e → test e.what ≡ false
  before k d g t i e lt q = by (test e.what) refl where
    by : (b : Bool) → test e.what ≡ b → test e.what ≡ false
    by true r = absurd (cc (sym (same e.what d.what r t) ∙ h.once i k e d lt q g))
    by false r = r

slots : (m n slot : ℕ) → nat_eq m slot ≡ true → nat_eq n slot ≡ true → nat_eq m n ≡ true
slots m n slot a b = grind (arith, nat_tests)

buffer_same : (slot : ℕ) (d e : Declaration) → is_buffer slot d ≡ true → is_buffer slot e ≡ true → same_thing d e ≡ true
buffer_same slot (Constants s a) (Constants t b) x y = slots s t slot x y
buffer_same slot (Constants s a) e x y = absurd (cc y)
buffer_same slot d e x y = absurd (cc x)

shared_same : (slot : ℕ) (d e : Declaration) → is_shared slot d ≡ true → is_shared slot e ≡ true → same_thing d e ≡ true
shared_same slot (Shared s a) (Shared t b) x y = slots s t slot x y
shared_same slot (Shared s a) e x y = absurd (cc y)
shared_same slot d e x y = absurd (cc x)

array_same : (slot : ℕ) (d e : Declaration) → is_array slot d ≡ true → is_array slot e ≡ true → same_thing d e ≡ true
array_same slot (Indexable s a b) (Indexable t u v) x y = slots s t slot x y
array_same slot (Indexable s a b) e x y = absurd (cc y)
array_same slot d e x y = absurd (cc x)

uav_same : (slot : ℕ) (d e : Declaration) → is_uav slot d ≡ true → is_uav slot e ≡ true → same_thing d e ≡ true
uav_same slot (Uav s a b c) (Uav t u v w) x y = slots s t slot x y
uav_same slot (Uav s a b c) e x y = absurd (cc y)
uav_same slot d e x y = absurd (cc x)

-- declared sizes are not 0
both_parts : (a b : Bool) → (a && b) ≡ true → (a ≡ true) × (b ≡ true)
both_parts a b h = and_parts a b h

itself : (n : ℕ) → nat_eq n n ≡ true
itself n = grind (arith, nat_tests)

less : (m n : ℕ) → nat_lt m n ≡ true → m < n
less m n e = grind (arith, nat_tests)

at_least : (m n : ℕ) → nat_le m n ≡ true → m ≤ n
at_least m n e = grind (arith, nat_tests)

buffer_some : (slot : ℕ) (d : Declaration) → is_buffer slot d ≡ true → is_within d ≡ true → 0 < vectors_declared slot d
buffer_some slot (Constants s size) t w =
    let q = both_parts (nat_lt s 14) (is_from_to 1 4096 size) w in
    let r = both_parts (nat_le 1 size) (nat_le size 4096) q.1 in
    let n = at_least 1 size r.0 in
    subst (λ b. 0 < (if b then size else 0)) (sym t) (omega (arith, n))
buffer_some slot d t w = absurd (cc t)

array_some : (slot : ℕ) (d : Declaration) → is_array slot d ≡ true → is_within d ≡ true → 0 < elements_declared slot d
array_some slot (Indexable s count components) t w =
    let q = both_parts (nat_lt s 4096) (nat_le 1 count && is_from_to 1 4 components) w in
    let r = both_parts (nat_le 1 count) (is_from_to 1 4 components) q.1 in
    let n = at_least 1 count r.0 in
    subst (λ b. 0 < (if b then count else 0)) (sym t) (omega (arith, n))
array_some slot d t w = absurd (cc t)

buffer_none : (slot : ℕ) (d : Declaration) → is_buffer slot d ≡ false → vectors_declared slot d ≡ 0
buffer_none slot (Constants s size) h = ap (λ b. if b then size else 0) h
buffer_none slot d h = refl

shared_none : (slot : ℕ) (d : Declaration) → is_shared slot d ≡ false → words_declared slot d ≡ 0
shared_none slot (Shared s kind) h = ap (λ b. if b then shared_words kind else 0) h
shared_none slot d h = refl

array_none : (slot : ℕ) (d : Declaration) → is_array slot d ≡ false → elements_declared slot d ≡ 0
array_none slot (Indexable s count components) h = ap (λ b. if b then count else 0) h
array_none slot d h = refl

-- WHAT IS LOOKED UP
module _ (p : Shader) (bindings : List Binding) (h : AreDeclared p) where
  abbrev pub all : List Declared
  all = descriptions p bindings

  pub resource_at : (slot : ℕ) → declares is_resource p slot ≡ true
      → declared_among all (Memory (room.Resource slot))
      ≡ described (Memory (room.Resource slot)) 0 (place_of bindings (register.Resource slot)) false
  resource_at slot e =
      let r = some_said (Memory (room.Resource slot)) (described_by bindings) (is_resource slot)
      (λ d. described (Memory (room.Resource slot)) 0 (place_of bindings (register.Resource slot)) false) (resource_said bindings slot)
      p.declarations e in
      among_found all (Memory (room.Resource slot)) _ r.4

  pub counter_at : (slot : ℕ) → declares is_uav p slot ≡ true
      → declared_among all (Memory (room.Counter slot))
      ≡ described (Memory (room.Counter slot)) 0 (place_of bindings (register.Counter slot)) false
  counter_at slot e =
      let r = some_said (Memory (room.Counter slot)) (described_by bindings) (is_uav slot)
      (λ d. described (Memory (room.Counter slot)) 0 (place_of bindings (register.Counter slot)) false) (counter_said bindings slot)
      p.declarations e in
      among_found all (Memory (room.Counter slot)) _ r.4

  coherent_is : (slot k : ℕ) (d : Item) → slice_get p.declarations k ≡ Some d → is_uav slot d.what ≡ true
      → declares declares_coherent p slot ≡ coherent_of d.what
  coherent_is slot k d g t = by (declares declares_coherent p slot) refl where
    -- declares_coherent is both
    parts : (e : Declaration) → declares_coherent slot e ≡ true → (is_uav slot e ≡ true) × (coherent_of e ≡ true)
    parts (Uav s view coherent ordered) q = both_parts (nat_eq s slot) coherent q
    parts e q = absurd (cc q)

    joined : (e : Declaration) → is_uav slot e ≡ true → coherent_of e ≡ true → declares_coherent slot e ≡ true
    joined (Uav s view coherent ordered) a b = rw (a, b) refl
    joined e a b = absurd (cc a)

    only : (i : ℕ) (e : Item) → slice_get p.declarations i ≡ Some e → is_uav slot e.what ≡ true → coherent_of e.what ≡ true → coherent_of d.what ≡ true
    only i e q a b = grind (arith, before p h (is_uav slot) (uav_same slot) k d g t i e, before p h (is_uav slot) (uav_same slot) i e q a k d)

    by : (b : Bool) → declares declares_coherent p slot ≡ b → declares declares_coherent p slot ≡ coherent_of d.what
    by true q =
        let r = any_at (λ d. declares_coherent slot d.what) p.declarations q in
        let s = parts r.1.what r.3 in q ∙ sym (only r.0 r.1 r.2 s.0 s.1)
    by false q = q ∙ sym (no_coherent (coherent_of d.what) refl) where
      no_coherent : (b : Bool) → coherent_of d.what ≡ b → coherent_of d.what ≡ false
      no_coherent true r = absurd (cc (sym (at_any (λ d. declares_coherent slot d.what) p.declarations k d g (joined d.what t r)) ∙ q))
      no_coherent false r = r

  pub uav_at : (slot : ℕ) → declares is_uav p slot ≡ true
      → declared_among all (Memory (room.Uav slot))
      ≡ described (Memory (room.Uav slot)) 0 (place_of bindings (register.Uav slot)) (declares declares_coherent p slot)
  uav_at slot e =
      let r = some_said (Memory (room.Uav slot)) (described_by bindings) (is_uav slot)
      (λ d. described (Memory (room.Uav slot)) 0 (place_of bindings (register.Uav slot)) (coherent_of d)) (uav_said bindings slot)
      p.declarations e in
      among_found all (Memory (room.Uav slot)) _ r.4
      ∙ ap (λ b. described (Memory (room.Uav slot)) 0 (place_of bindings (register.Uav slot)) b) (sym (coherent_is slot r.0 r.1 r.2 r.3))

  pub vectors_at : (slot : ℕ) → (declared_among all (Uniform slot)).size ≡ vectors_of slot p.declarations
  vectors_at slot = by (list_any (λ d. is_buffer slot d.what) p.declarations) refl where
    v : Declaration → Declared
    v d = described (Uniform slot) (vectors_declared slot d) (place_of bindings (register.Constant slot)) false

    by : (b : Bool) → list_any (λ d. is_buffer slot d.what) p.declarations ≡ b
        → (declared_among all (Uniform slot)).size ≡ vectors_of slot p.declarations
    by true e =
        let r = some_said (Uniform slot) (described_by bindings) (is_buffer slot) v (buffer_said bindings slot) p.declarations e in
        ap (λ (d : Declared). d.size) (among_found all (Uniform slot) (v r.1.what) r.4)
        ∙ sym (sized (is_buffer slot) (vectors_declared slot) (buffer_none slot) p.declarations r.0 r.1 r.2
        (buffer_some slot r.1.what r.3 (h.within r.0 r.1 r.2)) (before p h (is_buffer slot) (buffer_same slot) r.0 r.1 r.2 r.3))
    by false e =
        ap (λ (d : Declared). d.size)
        (among_none all (Uniform slot) (none_said (Uniform slot) (described_by bindings) (is_buffer slot) v (buffer_said bindings slot) p.declarations e))
        ∙ sym (unsized (is_buffer slot) (vectors_declared slot) (buffer_none slot) p.declarations e)

  pub place_at : (slot : ℕ) → 0 < vectors_of slot p.declarations
      → declared_among all (Uniform slot)
      ≡ described (Uniform slot) (vectors_of slot p.declarations) (place_of bindings (register.Constant slot)) false
  place_at slot lt = by (list_any (λ d. is_buffer slot d.what) p.declarations) refl where
    v : Declaration → Declared
    v d = described (Uniform slot) (vectors_declared slot d) (place_of bindings (register.Constant slot)) false

    by : (b : Bool) → list_any (λ d. is_buffer slot d.what) p.declarations ≡ b
        → declared_among all (Uniform slot)
        ≡ described (Uniform slot) (vectors_of slot p.declarations) (place_of bindings (register.Constant slot)) false
    by true e =
        let r = some_said (Uniform slot) (described_by bindings) (is_buffer slot) v (buffer_said bindings slot) p.declarations e in
        among_found all (Uniform slot) (v r.1.what) r.4
        ∙ ap (λ n. described (Uniform slot) n (place_of bindings (register.Constant slot)) false)
        (sym (sized (is_buffer slot) (vectors_declared slot) (buffer_none slot) p.declarations r.0 r.1 r.2
        (buffer_some slot r.1.what r.3 (h.within r.0 r.1 r.2)) (before p h (is_buffer slot) (buffer_same slot) r.0 r.1 r.2 r.3)))
    by false e =
        let z = unsized (is_buffer slot) (vectors_declared slot) (buffer_none slot) p.declarations e in absurd (omega (arith, lt, z))

  pub elements_at : (slot : ℕ) → (declared_among all (Elements slot)).size ≡ 4 * elements_of slot p.declarations
  elements_at slot = by (list_any (λ d. is_array slot d.what) p.declarations) refl where
    v : Declaration → Declared
    v d = described (Elements slot) (4 * elements_declared slot d) None false

    by : (b : Bool) → list_any (λ d. is_array slot d.what) p.declarations ≡ b
        → (declared_among all (Elements slot)).size ≡ 4 * elements_of slot p.declarations
    by true e =
        let r = some_said (Elements slot) (described_by bindings) (is_array slot) v (array_said bindings slot) p.declarations e in
        ap (λ (d : Declared). d.size) (among_found all (Elements slot) (v r.1.what) r.4)
        ∙ ap (λ n. 4 * n) (sym (sized (is_array slot) (elements_declared slot) (array_none slot) p.declarations r.0 r.1 r.2
        (array_some slot r.1.what r.3 (h.within r.0 r.1 r.2)) (before p h (is_array slot) (array_same slot) r.0 r.1 r.2 r.3)))
    by false e =
        ap (λ (d : Declared). d.size)
        (among_none all (Elements slot) (none_said (Elements slot) (described_by bindings) (is_array slot) v (array_said bindings slot) p.declarations e))
        ∙ ap (λ n. 4 * n) (sym (unsized (is_array slot) (elements_declared slot) (array_none slot) p.declarations e))

-- shared memory that is declared has words
quarter_some : (n : ℕ) → 4 ≤ n → 0 < n / 4
quarter_some n h = let e = div-add-mod n 4 in let r : n % 4 < 4 = mod-lt n (omega arith) in omega (arith, h, e, r)

product_some : (a b : ℕ) → 0 < a → 0 < b → 0 < a * b
product_some zero b h k = absurd (omega (arith, h))
product_some (suc a) zero h k = absurd (omega (arith, k))
product_some (suc a) (suc b) h k = grind arith

shared_some : (slot : ℕ) (d : Declaration) → is_shared slot d ≡ true → is_within d ≡ true → has_sizes d ≡ true → 0 < words_declared slot d
shared_some slot (Shared s (shared.Raw bytes)) t w z =
    let q = both_parts (nat_eq (bytes % 4) 0) (nat_le 4 bytes) z in
    subst (λ b. 0 < (if b then bytes / 4 else 0)) (sym t) (quarter_some bytes (at_least 4 bytes q.1))
shared_some slot (Shared s (shared.Structured stride count)) t w z =
    let q = both_parts (nat_eq (stride % 4) 0) (nat_le 4 stride) z in
    let r = both_parts (nat_lt s 64) (nat_le 1 count) w in
    let n = at_least 1 count r.1 in
    subst (λ b. 0 < (if b then stride / 4 * count else 0)) (sym t)
    (product_some (stride / 4) count (quarter_some stride (at_least 4 stride q.1)) (omega (arith, n)))
shared_some slot d t w z = absurd (cc t)

pub words_at : (p : Shader) (bindings : List Binding) → AreDeclared p → (slot : ℕ)
    → (declared_among (descriptions p bindings) (Memory (room.Shared slot))).size ≡ shared_extent slot p.declarations
words_at p bindings h slot = by (list_any (λ d. is_shared slot d.what) p.declarations) refl where
  v : Declaration → Declared
  v d = described (Memory (room.Shared slot)) (words_declared slot d) None false

  by : (b : Bool) → list_any (λ d. is_shared slot d.what) p.declarations ≡ b
      → (declared_among (descriptions p bindings) (Memory (room.Shared slot))).size ≡ shared_extent slot p.declarations
  by true e =
      let r = some_said (Memory (room.Shared slot)) (described_by bindings) (is_shared slot) v (shared_said bindings slot) p.declarations e in
      ap (λ (d : Declared). d.size) (among_found (descriptions p bindings) (Memory (room.Shared slot)) (v r.1.what) r.4)
      ∙ sym (sized (is_shared slot) (words_declared slot) (shared_none slot) p.declarations r.0 r.1 r.2
      (shared_some slot r.1.what r.3 (h.within r.0 r.1 r.2) (h.sized r.0 r.1 r.2)) (before p h (is_shared slot) (shared_same slot) r.0 r.1 r.2 r.3))
  by false e =
      ap (λ (d : Declared). d.size)
      (among_none (descriptions p bindings) (Memory (room.Shared slot))
      (none_said (Memory (room.Shared slot)) (described_by bindings) (is_shared slot) v (shared_said bindings slot) p.declarations e))
      ∙ sym (unsized (is_shared slot) (words_declared slot) (shared_none slot) p.declarations e)

-- only slots below 64 have shared memory
pub shared_below : (p : Shader) → AreDeclared p → (slot : ℕ) → 0 < shared_extent slot p.declarations → slot < 64
shared_below p h slot lt = by (list_any (λ d. is_shared slot d.what) p.declarations) refl where
  below : (d : Declaration) → is_shared slot d ≡ true → is_within d ≡ true → slot < 64
  below (Shared s k) t w =
      let e = equal s slot t in let q = both_parts (nat_lt s 64) (has_structures k) w in let n = less s 64 q.0 in omega (arith, e, n)
  below d t w = absurd (cc t)

  by : (b : Bool) → list_any (λ d. is_shared slot d.what) p.declarations ≡ b → slot < 64
  by true e = let r = any_at (λ d. is_shared slot d.what) p.declarations e in below r.1.what r.3 (h.within r.0 r.1 r.2)
  by false e = let z = unsized (is_shared slot) (words_declared slot) (shared_none slot) p.declarations e in absurd (omega (arith, lt, z))

-- the vectors of a declared constant buffer
pub buffer_vectors : (p : Shader) → AreDeclared p → (slot k : ℕ) (d : Item) (size : ℕ) → slice_get p.declarations k ≡ Some d
    → d.what ≡ Constants slot size → (vectors_declared slot d.what ≡ vectors_of slot p.declarations) × (0 < vectors_of slot p.declarations)
buffer_vectors p h slot k d size g e =
    let own : nat_eq slot slot ≡ true = itself slot in
    let t : is_buffer slot d.what ≡ true = ap (is_buffer slot) e ∙ own in
    let lt = buffer_some slot d.what t (h.within k d g) in
    let s = sized (is_buffer slot) (vectors_declared slot) (buffer_none slot) p.declarations k d g lt
    (before p h (is_buffer slot) (buffer_same slot) k d g t) in
    (sym s, omega (arith, s, lt))

-- what is declared has words, and what has elements is declared
pub shared_declared : (p : Shader) → AreDeclared p → (slot : ℕ) → list_any (λ d. is_shared slot d.what) p.declarations ≡ true
    → 0 < shared_extent slot p.declarations
shared_declared p h slot e =
    first (any_at (λ (d : Item). is_shared slot d.what) p.declarations e) where
      first : ((k : ℕ) × (d : Item) × (slice_get p.declarations k ≡ Some d) × (is_shared slot d.what ≡ true)) → 0 < shared_extent slot p.declarations
      first r =
          let lt = shared_some slot r.1.what r.3 (h.within r.0 r.1 r.2) (h.sized r.0 r.1 r.2) in
          let s = sized (is_shared slot) (words_declared slot) (shared_none slot) p.declarations r.0 r.1 r.2 lt
          (before p h (is_shared slot) (shared_same slot) r.0 r.1 r.2 r.3) in
          omega (arith, s, lt)

pub array_declared : (p : Shader) (slot : ℕ) → 0 < elements_of slot p.declarations → list_any (λ d. is_array slot d.what) p.declarations ≡ true
array_declared p slot lt = by (list_any (λ d. is_array slot d.what) p.declarations) refl where
  by : (b : Bool) → list_any (λ d. is_array slot d.what) p.declarations ≡ b → list_any (λ d. is_array slot d.what) p.declarations ≡ true
  by true e = e
  by false e =
      let z = unsized (is_array slot) (elements_declared slot) (array_none slot) p.declarations e in absurd (omega (arith, lt, z))

pub vectors_declared_at : (p : Shader) (slot : ℕ) → 0 < vectors_of slot p.declarations
    → (k : ℕ) × (d : Item) × (slice_get p.declarations k ≡ Some d) × (size : ℕ) × (d.what ≡ Constants slot size)
vectors_declared_at p slot lt = by (list_any (λ d. is_buffer slot d.what) p.declarations) refl where
  form : (d : Declaration) → is_buffer slot d ≡ true → (size : ℕ) × (d ≡ Constants slot size)
  form (Constants s size) t = (size, ap (λ n. Constants n size) (equal s slot t))
  form d t = absurd (cc t)

  by : (b : Bool) → list_any (λ d. is_buffer slot d.what) p.declarations ≡ b
      → (k : ℕ) × (d : Item) × (slice_get p.declarations k ≡ Some d) × (size : ℕ) × (d.what ≡ Constants slot size)
  by true e = let r = any_at (λ (d : Item). is_buffer slot d.what) p.declarations e in let f = form r.1.what r.3 in (r.0, r.1, r.2, f.0, f.1)
  by false e =
      let z = unsized (is_buffer slot) (vectors_declared slot) (buffer_none slot) p.declarations e in absurd (omega (arith, lt, z))

pub shared_has : (p : Shader) (slot : ℕ) → 0 < shared_extent slot p.declarations → list_any (λ d. is_shared slot d.what) p.declarations ≡ true
shared_has p slot lt = by (list_any (λ d. is_shared slot d.what) p.declarations) refl where
  by : (b : Bool) → list_any (λ d. is_shared slot d.what) p.declarations ≡ b → list_any (λ d. is_shared slot d.what) p.declarations ≡ true
  by true e = e
  by false e =
      let z = unsized (is_shared slot) (words_declared slot) (shared_none slot) p.declarations e in absurd (omega (arith, lt, z))
