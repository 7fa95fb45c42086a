-- The variables of a program are named once each.
use Rattle.std.proofs.Common.{◌≡◌, ℕ, zero, suc, ◌+◌, ◌<◌, ◌⊎◌, inl, inr, Bool, true, false, List, [], ◌∷◌, ◌++◌, Some, None, refl, sym, ap, ◌∙◌, subst, arith}
use Rattle.std.specs.Prelude.{slice_get, Option, option_map, nat_eq, if◌then◌else◌}
use Rattle.std.specs.List.{filter_map, cons_option, range_with_len}
use Rattle.word_base.specs.declared.event.Room.TheVariants as room
use Rattle.tpf_decode.specs.declared.argument.Kind.{Kind}
use Rattle.tpf_decode.specs.declared.argument.Kind.TheVariants.{ThreadId, GroupId, IdInGroup, FlatId}
use Rattle.tpf_program.specs.declared.declaration.Declaration.{Declaration}
use Rattle.tpf_program.specs.declared.declaration.Declaration.TheVariants.{Input as InputOf}
use Rattle.tpf_program.specs.Declarations.{same_id, same_thing}
use Rattle.tpf_program.specs.Program.{Shader}
use Rattle.shader_check.specs.Facts.{AreDeclared}
use Rattle.spirv_words.specs.BuiltIn.{GlobalInvocationId, WorkgroupId, LocalInvocationId, LocalInvocationIndex}
use Rattle.binding_map.specs.declared.register.Register.{Register}
use Rattle.binding_map.specs.declared.register.Register.TheVariants.{Constant, Resource, Uav, Counter}
use Rattle.binding_map.specs.declared.register.Place.{Place}
use Rattle.binding_map.specs.declared.register.Place.TheVariants.{Bound, Push as InPush}
use Rattle.binding_map.specs.Bindings.{Binding, IsMap}
use Rattle.spirv_symbols.specs.declared.symbol.Symbol.{Symbol}
use Rattle.spirv_symbols.specs.declared.symbol.Symbol.TheVariants.{Input, Memory, Uniform, Push}
use Rattle.spirv_emit.specs.Code.{In}
use Rattle.spirv_emit.specs.Growing.{is_global}
use Rattle.spirv_emit.specs.Naming.{is_variable}
use Rattle.spirv_setup.specs.Describing.{of_some}
use Rattle.spirv_setup.specs.Premises.{Apart}
use Rattle.binding_map.specs.SharedSlots.{has_words}
use Rattle.spirv_setup.specs.Variables.{where_true, has_register, symbol_of, variable_at, bound_variables, push_variable, push_variables, shared_variables, thread_variables, variables}
use Rattle.binding_map.specs.Wanted.{built_in_of, input_of, push_words}

-- LISTS WITHOUT EQUAL SYMBOLS
pub in_split : (xs ys : List Symbol) (s : Symbol) → In (xs ++ ys) s → In xs s ⊎ In ys s
in_split [] ys s i = inr i
in_split (x ∷ xs) ys s (inl e) = inl (inl e)
in_split (x ∷ xs) ys s (inr i) = next (in_split xs ys s i) where
  next : In xs s ⊎ In ys s → In (x ∷ xs) s ⊎ In ys s
  next (inl j) = inl (inr j)
  next (inr j) = inr j

apart_append : (xs ys : List Symbol) → Apart xs → Apart ys → ((s : Symbol) → In xs s → In ys s → ⊥) → Apart (xs ++ ys)
apart_append [] ys a b h = b
apart_append (x ∷ xs) ys a b h =
    (λ i. first (in_split xs ys x i), apart_append xs ys a.1 b (λ s i j. h s (inr i) j)) where
      first : In xs x ⊎ In ys x → ⊥
      first (inl i) = a.0 i
      first (inr j) = h x (inl refl) j

module _ {X : Type 0} (f : X → Option Symbol) where
  pub in_mapped : (xs : List X) (s : Symbol) → In (filter_map f xs) s → (k : ℕ) × (x : X) × (slice_get xs k ≡ Some x) × (f x ≡ Some s)
  in_mapped [] s i = absurd i
  in_mapped (x ∷ xs) s i = by (f x) refl i (in_mapped xs s) where
    by : (o : Option Symbol) → f x ≡ o → In (cons_option (f x) (filter_map f xs)) s
        → (In (filter_map f xs) s → (k : ℕ) × (y : X) × (slice_get xs k ≡ Some y) × (f y ≡ Some s))
        → (k : ℕ) × (y : X) × (slice_get (x ∷ xs) k ≡ Some y) × (f y ≡ Some s)
    by None e j g = let r = g (subst (λ o. In (cons_option o (filter_map f xs)) s) e j) in (suc r.0, r.1, r.2, r.3)
    by (Some t) e j g = here (subst (λ o. In (cons_option o (filter_map f xs)) s) e j) where
      here : In (t ∷ filter_map f xs) s → (k : ℕ) × (y : X) × (slice_get (x ∷ xs) k ≡ Some y) × (f y ≡ Some s)
      here (inl q) = (0, x, refl, e ∙ ap (λ y. Some y) q)
      here (inr q) = let r = g q in (suc r.0, r.1, r.2, r.3)

  pub mapped_in : (xs : List X) (k : ℕ) (x : X) (s : Symbol) → slice_get xs k ≡ Some x → f x ≡ Some s → In (filter_map f xs) s
  mapped_in [] k x s g e = absurd (cc g)
  mapped_in (y ∷ ys) zero x s g e =
      let q : f y ≡ Some s = ap f (cc g) ∙ e in subst (λ o. In (cons_option o (filter_map f ys)) s) (sym q) (inl refl)
  mapped_in (y ∷ ys) (suc k) x s g e = further (f y) (mapped_in ys k x s g e) where
    further : (o : Option Symbol) → In (filter_map f ys) s → In (cons_option o (filter_map f ys)) s
    further None i = i
    further (Some t) i = inr i

  apart_mapped : (xs : List X)
      → ((i j : ℕ) (x y : X) (s : Symbol) → i < j → slice_get xs i ≡ Some x → slice_get xs j ≡ Some y → f x ≡ Some s → f y ≡ Some s → ⊥)
      → Apart (filter_map f xs)
  apart_mapped [] h = tt
  apart_mapped (x ∷ xs) h =
      by (f x) refl (apart_mapped xs (λ i j y z s lt. h (suc i) (suc j) y z s (omega (arith, lt)))) where
        by : (o : Option Symbol) → f x ≡ o → Apart (filter_map f xs) → Apart (cons_option (f x) (filter_map f xs))
        by None e a = subst (λ o. Apart (cons_option o (filter_map f xs))) (sym e) a
        by (Some t) e a = subst (λ o. Apart (cons_option o (filter_map f xs))) (sym e)
            (λ i. let r = in_mapped xs t i in h 0 (suc r.0) x r.1 t (omega arith) refl r.2 e r.3, a)

-- WHICH SORT of variable each is: bound, push constants, shared memory, a thread id.
abbrev pub sort_at : Symbol → ℕ
sort_at Push = 1
sort_at (Memory (room.Shared slot)) = 2
sort_at (Input built_in) = 3
sort_at s = 0

pub bound_at : (p : Shader) (r : Register) (place : Place) (s : Symbol) → variable_at p r place ≡ Some s
    → (symbol_of r ≡ s) × (has_register p r ≡ true)
bound_at p r (Bound set binding) s e = by (has_register p r) refl e where
  by : (b : Bool) → has_register p r ≡ b → where_true (has_register p r) (symbol_of r) ≡ Some s → (symbol_of r ≡ s) × (has_register p r ≡ true)
  by true q h = let t : Some (symbol_of r) ≡ Some s = sym (ap (λ b. where_true b (symbol_of r)) q) ∙ h in (cc t, q)
  by false q h = absurd (cc (sym (ap (λ b. where_true b (symbol_of r)) q) ∙ h))
bound_at p r (InPush first count) s e = absurd (cc e)

abbrev pub register_of : Symbol → Option Register
register_of (Uniform slot) = Some (Constant slot)
register_of (Memory (room.Resource slot)) = Some (Resource slot)
register_of (Memory (room.Uav slot)) = Some (Uav slot)
register_of (Memory (room.Counter slot)) = Some (Counter slot)
register_of s = None

pub back : (r : Register) → register_of (symbol_of r) ≡ Some r
back (Constant slot) = refl
back (Resource slot) = refl
back (Uav slot) = refl
back (Counter slot) = refl

same_register : (a b : Register) → symbol_of a ≡ symbol_of b → a ≡ b
same_register a b e = let q : Some a ≡ Some b = sym (back a) ∙ ap register_of e ∙ back b in cc q

bound_sort : (r : Register) → sort_at (symbol_of r) ≡ 0
bound_sort (Constant slot) = refl
bound_sort (Resource slot) = refl
bound_sort (Uav slot) = refl
bound_sort (Counter slot) = refl

bound_apart : (p : Shader) (bindings : List Binding) → IsMap bindings → Apart (bound_variables p bindings)
bound_apart p bindings m = apart_mapped (λ b. variable_at p b.register b.place) bindings
    (λ i j x y s lt g h e q.
    let a = bound_at p x.register x.place s e in let b = bound_at p y.register y.place s q in
    let n = m.registers i j x y g h (same_register x.register y.register (a.0 ∙ sym b.0)) in absurd (omega (arith, lt, n)))

-- shared memory
pub range_at : (a n k x : ℕ) → slice_get (range_with_len a n) k ≡ Some x → x ≡ a + k
range_at a zero k x e = absurd (cc e)
range_at a (suc n) zero x e = let q : a ≡ x = cc e in omega (arith, q)
range_at a (suc n) (suc k) x e = let q = range_at (a + 1) n k x e in omega (arith, q)

pub shared_at : (p : Shader) (slot : ℕ) (s : Symbol) → where_true (has_words p slot) (Memory (room.Shared slot)) ≡ Some s
    → (Memory (room.Shared slot) ≡ s) × (has_words p slot ≡ true)
shared_at p slot s e = by (has_words p slot) refl e where
  by : (b : Bool) → has_words p slot ≡ b → where_true (has_words p slot) (Memory (room.Shared slot)) ≡ Some s
      → (Memory (room.Shared slot) ≡ s) × (has_words p slot ≡ true)
  by true q h =
      let t : Some (Memory (room.Shared slot)) ≡ Some s = sym (ap (λ b. where_true b (Memory (room.Shared slot))) q) ∙ h in (cc t, q)
  by false q h = absurd (cc (sym (ap (λ b. where_true b (Memory (room.Shared slot))) q) ∙ h))

shared_apart : (p : Shader) → Apart (shared_variables p)
shared_apart p = apart_mapped (λ slot. where_true (has_words p slot) (Memory (room.Shared slot))) (range_with_len 0 64)
    (λ i j x y s lt g h e q.
    let a = shared_at p x s e in let b = shared_at p y s q in
    let same : x ≡ y = cc (a.0 ∙ sym b.0) in
    absurd (omega (arith, lt, same, range_at 0 64 i x g, range_at 0 64 j y h)))

-- thread ids
pub thread_at : (d : Declaration) (s : Symbol) → option_map (λ built_in. Input built_in) (input_of d) ≡ Some s
    → (n : ℕ) × (input_of d ≡ Some n) × (Input n ≡ s)
thread_at d s e = by (input_of d) refl e where
  by : (o : Option ℕ) → input_of d ≡ o → option_map (λ built_in. Input built_in) (input_of d) ≡ Some s
      → (n : ℕ) × (input_of d ≡ Some n) × (Input n ≡ s)
  by None q h = absurd (cc (sym (ap (option_map (λ built_in. Input built_in)) q) ∙ h))
  by (Some n) q h = let t : Some (Input n) ≡ Some s = sym (ap (option_map (λ built_in. Input built_in)) q) ∙ h in (n, q, cc t)

abbrev thread_of : ℕ → Kind
thread_of n = if nat_eq n 28 then ThreadId else if nat_eq n 26 then GroupId else if nat_eq n 27 then IdInGroup else FlatId

back_thread : (k : Kind) (n : ℕ) → built_in_of k ≡ Some n → (thread_of n ≡ k) × (same_id k k ≡ true)
back_thread ThreadId n e = let q : n ≡ GlobalInvocationId = cc (sym e) in (ap thread_of q, refl)
back_thread GroupId n e = let q : n ≡ WorkgroupId = cc (sym e) in (ap thread_of q, refl)
back_thread IdInGroup n e = let q : n ≡ LocalInvocationId = cc (sym e) in (ap thread_of q, refl)
back_thread FlatId n e = let q : n ≡ LocalInvocationIndex = cc (sym e) in (ap thread_of q, refl)
back_thread k n e = absurd (cc e)

same_thread : (k l : Kind) (n : ℕ) → built_in_of k ≡ Some n → built_in_of l ≡ Some n → same_id k l ≡ true
same_thread k l n e q =
    let a = back_thread k n e in let b = back_thread l n q in subst (λ m. same_id k m ≡ true) (sym a.0 ∙ b.0) a.1

same_input : (d e : Declaration) (n : ℕ) → input_of d ≡ Some n → input_of e ≡ Some n → same_thing d e ≡ true
same_input (InputOf k s) (InputOf l t) n a b = same_thread k l n a b
same_input (InputOf k s) e n a b = absurd (cc b)
same_input d e n a b = absurd (cc a)

thread_apart : (p : Shader) → AreDeclared p → Apart (thread_variables p)
thread_apart p h = apart_mapped (λ d. option_map (λ built_in. Input built_in) (input_of d.what)) p.declarations
    (λ i j x y s lt g k e q.
    let a = thread_at x.what s e in let b = thread_at y.what s q in
    let n : a.0 ≡ b.0 = cc (a.2 ∙ sym b.2) in
    let t = same_input x.what y.what a.0 a.1 (b.1 ∙ ap (λ m. Some m) (sym n)) in
    absurd (cc (sym t ∙ h.once i j x y lt g k)))

-- ALL OF THEM
push_apart : (n : ℕ) → Apart (push_variables n)
push_apart n = by (push_variable n) where
  by : (o : Option Symbol) → Apart (of_some o)
  by None = tt
  by (Some s) = (λ i. i, tt)

pub push_at : (n : ℕ) (s : Symbol) → push_variable n ≡ Some s → Push ≡ s
push_at n s e = by (nat_eq n 0) e where
  by : (b : Bool) → (if b then None else Some Push) ≡ Some s → Push ≡ s
  by true h = absurd (cc h)
  by false h = cc h

pub push_sort : (n : ℕ) (s : Symbol) → In (push_variables n) s → sort_at s ≡ 1
push_sort n s i = by (push_variable n) refl i where
  by : (o : Option Symbol) → push_variable n ≡ o → In (of_some o) s → sort_at s ≡ 1
  by None e j = absurd j
  by (Some t) e (inl q) = ap sort_at (sym (push_at n t e ∙ q))
  by (Some t) e (inr j) = absurd j

pub shared_sort : (p : Shader) (s : Symbol) → In (shared_variables p) s → sort_at s ≡ 2
shared_sort p s i =
    let r = in_mapped (λ slot. where_true (has_words p slot) (Memory (room.Shared slot))) (range_with_len 0 64) s i in
    ap sort_at (sym (shared_at p r.1 s r.3).0)

pub thread_sort : (p : Shader) (s : Symbol) → In (thread_variables p) s → sort_at s ≡ 3
thread_sort p s i =
    let r = in_mapped (λ d. option_map (λ built_in. Input built_in) (input_of d.what)) p.declarations s i in
    ap sort_at (sym (thread_at r.1.what s r.3).2)

pub in_bound_sort : (p : Shader) (bindings : List Binding) (s : Symbol) → In (bound_variables p bindings) s → sort_at s ≡ 0
in_bound_sort p bindings s i =
    let r = in_mapped (λ b. variable_at p b.register b.place) bindings s i in
    ap sort_at (sym (bound_at p r.1.register r.1.place s r.3).0) ∙ bound_sort r.1.register

pub all_apart : (p : Shader) (bindings : List Binding) → IsMap bindings → AreDeclared p → Apart (variables p bindings)
all_apart p bindings m h =
    apart_append (bound_variables p bindings) (push_variables n ++ (shared_variables p ++ thread_variables p)) (bound_apart p bindings m)
    (apart_append (push_variables n) (shared_variables p ++ thread_variables p) (push_apart n)
    (apart_append (shared_variables p) (thread_variables p) (shared_apart p) (thread_apart p h)
    (λ s i j. differ s 2 3 (shared_sort p s i) (thread_sort p s j) (omega arith)))
    (λ s i j. differ s 1 (later s j).0 (push_sort n s i) (later s j).1 (later s j).2))
    (λ s i j. differ s 0 (last s j).0 (in_bound_sort p bindings s i) (last s j).1 (last s j).2) where
      n : ℕ
      n = push_words p bindings

      differ : (s : Symbol) (a b : ℕ) → sort_at s ≡ a → sort_at s ≡ b → a < b → ⊥
      differ s a b e q lt = absurd (omega (arith, e, q, lt))

      later : (s : Symbol) → In (shared_variables p ++ thread_variables p) s → (k : ℕ) × (sort_at s ≡ k) × (1 < k)
      later s j = by (in_split (shared_variables p) (thread_variables p) s j) where
        by : In (shared_variables p) s ⊎ In (thread_variables p) s → (k : ℕ) × (sort_at s ≡ k) × (1 < k)
        by (inl i) = (2, shared_sort p s i, omega arith)
        by (inr i) = (3, thread_sort p s i, omega arith)

      last : (s : Symbol) → In (push_variables n ++ (shared_variables p ++ thread_variables p)) s → (k : ℕ) × (sort_at s ≡ k) × (0 < k)
      last s j = by (in_split (push_variables n) (shared_variables p ++ thread_variables p) s j) where
        by : In (push_variables n) s ⊎ In (shared_variables p ++ thread_variables p) s → (k : ℕ) × (sort_at s ≡ k) × (0 < k)
        by (inl i) = (1, push_sort n s i, omega arith)
        by (inr i) = let r = later s i in (r.0, r.1, omega (arith, r.2))

-- EACH IS A GLOBAL VARIABLE.
abbrev IsOne : Symbol → Type 0
IsOne s = (is_variable s ≡ true) × (is_global s ≡ true)

register_one : (r : Register) → IsOne (symbol_of r)
register_one (Constant slot) = (refl, refl)
register_one (Resource slot) = (refl, refl)
register_one (Uav slot) = (refl, refl)
register_one (Counter slot) = (refl, refl)

pub bound_one : (p : Shader) (r : Register) (place : Place) (s : Symbol) → variable_at p r place ≡ Some s → IsOne s
bound_one p r place s e = subst IsOne (bound_at p r place s e).0 (register_one r)

pub push_one : (n : ℕ) (s : Symbol) → push_variable n ≡ Some s → IsOne s
push_one n s e = subst IsOne (push_at n s e) (refl, refl)

pub shared_one : (p : Shader) (slot : ℕ) (s : Symbol) → where_true (has_words p slot) (Memory (room.Shared slot)) ≡ Some s → IsOne s
shared_one p slot s e = subst IsOne (shared_at p slot s e).0 (refl, refl)

pub thread_one : (d : Declaration) (s : Symbol) → option_map (λ built_in. Input built_in) (input_of d) ≡ Some s → IsOne s
thread_one d s e = subst IsOne (thread_at d s e).2 (refl, refl)

range_from : (a n k : ℕ) → k < n → slice_get (range_with_len a n) k ≡ Some (a + k)
range_from a zero k lt = absurd (omega (arith, lt))
range_from a (suc n) zero lt = let e : a ≡ a + 0 = omega arith in ap (λ m. Some m) e
range_from a (suc n) (suc k) lt =
    let e : a + 1 + k ≡ a + suc k = omega arith in range_from (a + 1) n k (omega (arith, lt)) ∙ ap (λ m. Some m) e

pub range_here : (n k : ℕ) → k < n → slice_get (range_with_len 0 n) k ≡ Some k
range_here n k lt = let e : 0 + k ≡ k = omega arith in range_from 0 n k lt ∙ ap (λ m. Some m) e
