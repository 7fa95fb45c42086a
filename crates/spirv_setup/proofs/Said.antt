-- What is said of variables, one after the other.
use Rattle.std.proofs.Common.{◌≡◌, ℕ, zero, suc, ◌+◌, ◌*◌, ◌<◌, ◌≤◌, inl, inr, Bool, true, false, List, [], ◌∷◌, ◌++◌, length, take, Some, None, refl, sym, ap, ◌∙◌, subst, arith, append_assoc, append-nil, length-append}
use Rattle.std.specs.Prelude.{find, flat_map, nat_eq, ◌&&◌, Contains, slice_get, slice_index_or, sum_by, Option, if◌then◌else◌}
use Rattle.std.specs.List.{filter_map, cons_option}
use Rattle.std.proofs.lemmas.Grind.{flat_map-append}
use Rattle.std.proofs.lemmas.List.Elements.{filter_map-append}
use Rattle.tpf_program.specs.declared.declaration.Declaration.{Declaration}
use Rattle.tpf_program.specs.declared.declaration.Declaration.TheVariants.{Constants, Resource, Uav, Shared, Indexable}
use Rattle.tpf_program.specs.declared.declaration.Declared.{Declared as Item}
use Rattle.binding_map.specs.declared.register.Place.{Place}
use Rattle.binding_map.specs.Bindings.{Binding}
use Rattle.std.specs.Option.{option_or}
use Rattle.std.proofs.lemmas.Bool.{eq-eqb, and_parts}
use Rattle.std.proofs.lemmas.Bool.Decides.{nat_tests}
use Rattle.std.proofs.lemmas.List.Folds.{find-append}
use Rattle.std.proofs.lemmas.List.Sums.{sum_by-cons}
use Rattle.spirv_symbols.specs.declared.symbol.Symbol.{Symbol}
use Rattle.spirv_symbols.specs.declared.declared.Declared.{Declared}
use Rattle.spirv_symbols.specs.Names.{key_of, is_symbol}
use Rattle.spirv_symbols.specs.Contexts.{Context, Declares, declared_among, undeclared, variables_of, with_declared}
use Rattle.spirv_emit.specs.declared.emitter.Emitter.{Emitter as Emission}
use Rattle.spirv_emit.specs.declared.buffer.ConstantBuffer.{ConstantBuffer}
use Rattle.spirv_emit.specs.Begun.{IsNew}
use Rattle.spirv_setup.specs.Describing.{Describes, is_of, of_some}
use Rattle.spirv_setup.specs.Descriptions.{binding_in, buffer_by, described, described_by, set_in}

-- SYMBOLS are told apart by their pairs of numbers.
pub is_itself : (s : Symbol) → is_symbol s s ≡ true
is_itself s =
    ap (λ b. b && nat_eq (key_of s).number (key_of s).number) (eq-eqb (key_of s).kind (key_of s).kind refl)
    ∙ eq-eqb (key_of s).number (key_of s).number refl

equal : (m n : ℕ) → nat_eq m n ≡ true → m ≡ n
equal m n e = grind (arith, nat_tests)

-- one that is another is told from each as that
pub as_other : (x a s : Symbol) → is_symbol a s ≡ true → is_symbol x a ≡ is_symbol x s
as_other x a s e =
    let p = and_parts (nat_eq (key_of a).kind (key_of s).kind) (nat_eq (key_of a).number (key_of s).number) e in
    ap (λ n. nat_eq (key_of x).kind n && nat_eq (key_of x).number (key_of a).number) (equal (key_of a).kind (key_of s).kind p.0)
    ∙ ap (λ n. nat_eq (key_of x).kind (key_of s).kind && nat_eq (key_of x).number n) (equal (key_of a).number (key_of s).number p.1)

found_as : (ds : List Declared) (a s : Symbol) → is_symbol a s ≡ true → find (is_of a) ds ≡ find (is_of s) ds
found_as [] a s e = refl
found_as (d ∷ ds) a s e =
    ap (λ b. if b then Some d else find (is_of a) ds) (as_other d.variable a s e)
    ∙ ap (λ o. if is_of s d then Some d else o) (found_as ds a s e)

contained : (ds : List Declared) (v : Symbol) (k : ℕ) → k < length (variables_of ds) → slice_index_or (variables_of ds) k v ≡ v
    → (d : Declared) × (find (is_of v) ds ≡ Some d)
contained [] v k lt e = absurd (omega (arith, lt))
contained (d ∷ ds) v zero lt e =
    let t : is_symbol d.variable v ≡ true = ap (λ s. is_symbol s v) e ∙ is_itself v in (d, ap (λ b. if b then Some d else find (is_of v) ds) t)
contained (d ∷ ds) v (suc k) lt e = by (is_of v d) refl (contained ds v k (omega (arith, lt)) e) where
  by : (b : Bool) → is_of v d ≡ b → ((f : Declared) × (find (is_of v) ds ≡ Some f)) → (f : Declared) × (find (is_of v) (d ∷ ds) ≡ Some f)
  by true q r = (d, ap (λ b. if b then Some d else find (is_of v) ds) q)
  by false q r = (r.0, ap (λ b. if b then Some d else find (is_of v) ds) q ∙ r.1)

-- what is looked up
pub among_found : (ds : List Declared) (s : Symbol) (d : Declared) → find (is_of s) ds ≡ Some d → declared_among ds s ≡ d
among_found [] s d e = absurd (cc e)
among_found (x ∷ xs) s d e = by (is_of s x) refl e (among_found xs s d) where
  by : (b : Bool) → is_of s x ≡ b → (if is_of s x then Some x else find (is_of s) xs) ≡ Some d
      → (find (is_of s) xs ≡ Some d → declared_among xs s ≡ d) → declared_among (x ∷ xs) s ≡ d
  by true q r f =
      let t : Some x ≡ Some d = sym (ap (λ b. if b then Some x else find (is_of s) xs) q) ∙ r in
      ap (λ b. if b then x else declared_among xs s) q ∙ cc t
  by false q r f =
      ap (λ b. if b then x else declared_among xs s) q ∙ f (sym (ap (λ b. if b then Some x else find (is_of s) xs) q) ∙ r)

pub among_none : (ds : List Declared) (s : Symbol) → find (is_of s) ds ≡ None → declared_among ds s ≡ undeclared s
among_none [] s e = refl
among_none (x ∷ xs) s e = by (is_of s x) refl e (among_none xs s) where
  by : (b : Bool) → is_of s x ≡ b → (if is_of s x then Some x else find (is_of s) xs) ≡ None
      → (find (is_of s) xs ≡ None → declared_among xs s ≡ undeclared s) → declared_among (x ∷ xs) s ≡ undeclared s
  by true q r f = absurd (cc (sym (ap (λ b. if b then Some x else find (is_of s) xs) q) ∙ r))
  by false q r f =
      ap (λ b. if b then x else declared_among xs s) q ∙ f (sym (ap (λ b. if b then Some x else find (is_of s) xs) q) ∙ r)

pub same_among : (xs ys : List Declared) (s : Symbol) → find (is_of s) xs ≡ find (is_of s) ys → declared_among xs s ≡ declared_among ys s
same_among xs ys s e = by (find (is_of s) ys) refl where
  by : (o : Option Declared) → find (is_of s) ys ≡ o → declared_among xs s ≡ declared_among ys s
  by None q = among_none xs s (e ∙ q) ∙ sym (among_none ys s q)
  by (Some d) q = among_found xs s d (e ∙ q) ∙ sym (among_found ys s d q)

-- WHAT IS SAID AGAIN changes nothing.
said_again : (ds : List Declared) (d : Declared) (s : Symbol) → Contains (variables_of ds) d.variable
    → find (is_of s) ds ≡ find (is_of s) (ds ++ d ∷ [])
said_again ds d s c = by (is_of s d) refl where
  or_none : (o : Option Declared) → o ≡ option_or o None
  or_none None = refl
  or_none (Some x) = refl

  or_some : (o : Option Declared) (x : Declared) → ((f : Declared) × (o ≡ Some f)) → o ≡ option_or o (Some x)
  or_some None x h = absurd (cc h.1)
  or_some (Some y) x h = refl

  by : (b : Bool) → is_of s d ≡ b → find (is_of s) ds ≡ find (is_of s) (ds ++ d ∷ [])
  by false e =
      or_none (find (is_of s) ds) ∙ ap (option_or (find (is_of s) ds)) (sym (ap (λ b. if b then Some d else None) e))
      ∙ sym (find-append (is_of s) ds (d ∷ []))
  by true e =
      let h = contained ds d.variable c.0 c.1 c.2 in
      or_some (find (is_of s) ds) d (h.0, sym (found_as ds d.variable s e) ∙ h.1)
      ∙ ap (option_or (find (is_of s) ds)) (sym (ap (λ b. if b then Some d else None) e)) ∙ sym (find-append (is_of s) ds (d ∷ []))

pub declares_found : (old new : Context) (d : Declared) (s : Symbol) → Declares old new d
    → find (is_of s) new.declared ≡ find (is_of s) (old.declared ++ d ∷ [])
declares_found old new d s (inl h) = ap (λ (c : Context). find (is_of s) c.declared) h.1 ∙ said_again old.declared d s h.0
declares_found old new d s (inr h) = ap (λ (c : Context). find (is_of s) c.declared) h.1

pub declares_count : (old new : Context) (d : Declared) → Declares old new d → length new.declared ≤ length old.declared + 1
declares_count old new d (inl h) = let e : length new.declared ≡ length old.declared = ap (λ (c : Context). length c.declared) h.1 in omega (arith, e)
declares_count old new d (inr h) =
    let e : length new.declared ≡ length (old.declared ++ d ∷ []) = ap (λ (c : Context). length c.declared) h.1 in
    omega (arith, e, length-append old.declared (d ∷ []))

pub declares_rest : (old new : Context) (d : Declared) → Declares old new d → new ≡ with_declared old new.declared
declares_rest old new d (inl h) = h.1 ∙ sym (ap (λ (c : Context). with_declared old c.declared) h.1)
declares_rest old new d (inr h) = h.1 ∙ sym (ap (λ (c : Context). with_declared old c.declared) h.1)

-- ONE AFTER THE OTHER
pub says_nothing : (a : Emission) → Describes a a [] []
says_nothing a = record {
  rest = refl;
  found = λ s. ap (find (is_of s)) (sym (append-nil a.frame.context.declared));
  count = omega arith;
  buffers = sym (append-nil a.frame.buffers.list);
  capacity = refl;
}

pub says_on : (a b c : Emission) (ds es : List Declared) (bs cs : List ConstantBuffer) → Describes a b ds bs → Describes b c es cs
    → Describes a c (ds ++ es) (bs ++ cs)
says_on a b c ds es bs cs h k = record {
  rest = k.rest ∙ ap (λ (e : Emission). record e {
    frame = record e.frame { context = with_declared e.frame.context c.frame.context.declared; buffers = c.frame.buffers };
  }) h.rest;
  found = λ s.
      k.found s ∙ find-append (is_of s) b.frame.context.declared es
      ∙ ap (λ o. option_or o (find (is_of s) es)) (h.found s)
      ∙ sym (find-append (is_of s) (a.frame.context.declared ++ ds) es)
      ∙ ap (find (is_of s)) (append_assoc a.frame.context.declared ds es);
  count = omega (arith, h.count, k.count, length-append ds es);
  buffers = k.buffers ∙ (ap (λ l. l ++ cs) h.buffers ∙ append_assoc a.frame.buffers.list bs cs);
  capacity = k.capacity ∙ h.capacity;
}

pub says_one : (a b : Emission) (d : Declared) → Declares a.frame.context b.frame.context d
    → b ≡ record a { frame = record a.frame { context = b.frame.context } } → Describes a b (d ∷ []) []
says_one a b d h e =
    let same : b.frame.buffers ≡ a.frame.buffers = ap (λ (x : Emission). x.frame.buffers) e in
    record {
      rest = e ∙ (ap (λ c. record a { frame = record a.frame { context = c } }) (declares_rest a.frame.context b.frame.context d h)
          ∙ ap (λ l. record a {
            frame = record a.frame { context = with_declared a.frame.context b.frame.context.declared; buffers = l };
          }) (sym same));
      found = λ s. declares_found a.frame.context b.frame.context d s h;
      count = declares_count a.frame.context b.frame.context d h;
      buffers = ap (λ l. l.list) same ∙ sym (append-nil a.frame.buffers.list);
      capacity = ap (λ l. l.capacity) same;
    }

pub adds_one : (a b : Emission) (x : ConstantBuffer) → b.frame.buffers.list ≡ a.frame.buffers.list ++ x ∷ []
    → b ≡ record a { frame = record a.frame { buffers = b.frame.buffers } } → b.frame.buffers.capacity ≡ a.frame.buffers.capacity
    → Describes a b [] (x ∷ [])
adds_one a b x l e c =
    let same : b.frame.context ≡ a.frame.context = ap (λ (y : Emission). y.frame.context) e in
    record {
      rest = e ∙ ap (λ c. record a { frame = record a.frame { context = c; buffers = b.frame.buffers } })
          (sym (ap (λ (c : Context). with_declared a.frame.context c.declared) same));
      found = λ s. ap (λ (c : Context). find (is_of s) c.declared) same ∙ ap (find (is_of s)) (sym (append-nil a.frame.context.declared));
      count = let n : length b.frame.context.declared ≡ length a.frame.context.declared = ap (λ (c : Context). length c.declared) same in
          omega (arith, n);
      buffers = l;
      capacity = c;
    }

pub said_one : (a b : Emission) (variable : Symbol) (size : ℕ) (place : Option Place) (coherent : Bool) (set binding : ℕ)
    → set ≡ set_in place → binding ≡ binding_in place
    → Declares a.frame.context b.frame.context
    (record { variable = variable; size = size; set = set; binding = binding; coherent = coherent })
    → b ≡ record a { frame = record a.frame { context = b.frame.context } } → Describes a b (described variable size place coherent ∷ []) []
said_one a b variable size place coherent set binding e q h rest =
    says_one a b (described variable size place coherent)
    (subst (λ n. Declares a.frame.context b.frame.context
    (record { variable = variable; size = size; set = set_in place; binding = n; coherent = coherent })) q
    (subst (λ n. Declares a.frame.context b.frame.context
    (record { variable = variable; size = size; set = n; binding = binding; coherent = coherent })) e h)) rest

pub new_on : (a b : Emission) (ds : List Declared) (bs : List ConstantBuffer) → Describes a b ds bs → IsNew a → IsNew b
new_on a b ds bs h n = subst IsNew (sym h.rest) (record { symbols = n.symbols; code = n.code; kept = n.kept })

pub capacity_on : (a b : Emission) (ds : List Declared) (bs : List ConstantBuffer) → Describes a b ds bs
    → b.frame.context.capacity ≡ a.frame.context.capacity
capacity_on a b ds bs h = ap (λ (e : Emission). e.frame.context.capacity) h.rest

-- ALL DECLARATIONS: at most two variables and one constant buffer each
few_said : (bindings : List Binding) (d : Declaration) → length (described_by bindings d) ≤ 2
few_said bindings (Constants slot size) = omega arith
few_said bindings (Resource slot view) = omega arith
few_said bindings (Uav slot view coherent ordered) = omega arith
few_said bindings (Shared slot kind) = omega arith
few_said bindings (Indexable slot count components) = omega arith
few_said bindings other = omega arith

pub said_few : (bindings : List Binding) (ds : List Item) → length (flat_map (λ d. described_by bindings d.what) ds) ≤ 2 * length ds
said_few bindings [] = omega arith
said_few bindings (d ∷ ds) =
    omega (
      arith,
      length-append (described_by bindings d.what) (flat_map (λ d. described_by bindings d.what) ds),
      few_said bindings d.what,
      said_few bindings ds,
    )

few_added : (o : Option ConstantBuffer) (xs : List ConstantBuffer) → length (cons_option o xs) ≤ length xs + 1
few_added None xs = omega arith
few_added (Some x) xs = omega arith

pub added_few : (bindings : List Binding) (ds : List Item) → length (filter_map (λ d. buffer_by bindings d.what) ds) ≤ length ds
added_few bindings [] = omega arith
added_few bindings (d ∷ ds) =
    omega (arith, few_added (buffer_by bindings d.what) (filter_map (λ d. buffer_by bindings d.what) ds), added_few bindings ds)

one_added : (o : Option ConstantBuffer) → cons_option o [] ≡ of_some o
one_added None = refl
one_added (Some x) = refl

item_suc : (xs : List Item) (k : ℕ) (x : Item) → slice_get xs k ≡ Some x → take (suc k) xs ≡ take k xs ++ x ∷ []
item_suc [] k x h = absurd (cc h)
item_suc (y ∷ ys) zero x h = cc h
item_suc (y ∷ ys) (suc k) x h = ap (λ l. y ∷ l) (item_suc ys k x h)

item_next : (xs : List Item) (k : ℕ) (x : Item) → slice_get xs k ≡ Some x → take (k + 1) xs ≡ take k xs ++ x ∷ []
item_next xs k x h = let e : k + 1 ≡ suc k = omega arith in ap (λ n. take n xs) e ∙ item_suc xs k x h

pub says_next : (a b c : Emission) (bindings : List Binding) (ds : List Item) (k : ℕ) (d : Item) → slice_get ds k ≡ Some d
    → Describes a b (flat_map (λ d. described_by bindings d.what) (take k ds)) (filter_map (λ d. buffer_by bindings d.what) (take k ds))
    → Describes b c (described_by bindings d.what) (of_some (buffer_by bindings d.what))
    → Describes a c (flat_map (λ d. described_by bindings d.what) (take (k + 1) ds)) (filter_map (λ d. buffer_by bindings d.what) (take (k + 1) ds))
says_next a b c bindings ds k d g h n =
    let e = item_next ds k d g in
    let said : flat_map (λ (d : Item). described_by bindings d.what) (take (k + 1) ds)
    ≡ flat_map (λ (d : Item). described_by bindings d.what) (take k ds) ++ described_by bindings d.what =
    ap (flat_map (λ (d : Item). described_by bindings d.what)) e ∙ flat_map-append (λ (d : Item). described_by bindings d.what) (take k ds) (d ∷ [])
    ∙ ap (λ l. flat_map (λ (d : Item). described_by bindings d.what) (take k ds) ++ l) (append-nil (described_by bindings d.what)) in
    let added : filter_map (λ (d : Item). buffer_by bindings d.what) (take (k + 1) ds)
    ≡ filter_map (λ (d : Item). buffer_by bindings d.what) (take k ds) ++ of_some (buffer_by bindings d.what) =
    ap (filter_map (λ (d : Item). buffer_by bindings d.what)) e ∙ filter_map-append (λ (d : Item). buffer_by bindings d.what) (take k ds) (d ∷ [])
    ∙ ap (λ l. filter_map (λ (d : Item). buffer_by bindings d.what) (take k ds) ++ l) (one_added (buffer_by bindings d.what)) in
    subst (λ l. Describes a c l (filter_map (λ d. buffer_by bindings d.what) (take (k + 1) ds))) (sym said)
    (subst (λ l. Describes a c (flat_map (λ d. described_by bindings d.what) (take k ds) ++ described_by bindings d.what) l) (sym added)
    (says_on a b c (flat_map (λ d. described_by bindings d.what) (take k ds)) (described_by bindings d.what)
    (filter_map (λ d. buffer_by bindings d.what) (take k ds)) (of_some (buffer_by bindings d.what)) h n))

-- a sum is at least each of its numbers
pub at_most : (f : Item → ℕ) (ds : List Item) (k : ℕ) (d : Item) → slice_get ds k ≡ Some d → f d ≤ sum_by f ds
at_most f [] k d g = absurd (cc g)
at_most f (x ∷ xs) zero d g = let e : f x ≡ f d = ap f (cc g) in omega (arith, e, sum_by-cons f x xs)
at_most f (x ∷ xs) (suc k) d g = omega (arith, at_most f xs k d g, sum_by-cons f x xs)

pub taken_few : {X : Type 0} (k : ℕ) (xs : List X) → k ≤ length xs → length (take k xs) ≡ k
taken_few zero xs h = refl
taken_few (suc k) [] h = absurd (omega (arith, h))
taken_few (suc k) (x ∷ xs) h = ap suc (taken_few k xs (omega (arith, h)))

-- the words of the immediate constant buffer
pub immediates_next : (a b c : Emission) (ws us : List ℕ) (w : ℕ)
    → b ≡ record a { frame = record a.frame { context = record a.frame.context { immediates = ws } } }
    → c ≡ record b { frame = record b.frame { context = record b.frame.context { immediates = b.frame.context.immediates ++ w ∷ [] } } }
    → us ≡ ws ++ w ∷ []
    → c ≡ record a { frame = record a.frame { context = record a.frame.context { immediates = us } } }
immediates_next a b c ws us w e q t =
    q ∙ ap (λ (x : Emission). record x {
      frame = record x.frame { context = record x.frame.context { immediates = x.frame.context.immediates ++ w ∷ [] } };
    }) e ∙ ap (λ l. record a { frame = record a.frame { context = record a.frame.context { immediates = l } } }) (sym t)
