-- What is declared of variables.
use Rattle.std.proofs.Common.{◌≡◌, ℕ, zero, suc, List, [], ◌∷◌, ◌++◌, false, map, Some, refl, sym, ap, ◌∙◌, arith}
use Rattle.std.specs.Prelude.{slice_get, Contains, cond}
use Rattle.node_pool.specs.declared.key.Key.{Key}
use Rattle.node_pool.specs.Keys.{AreDistinct}
use Rattle.spirv_symbols.specs.declared.symbol.Symbol.{Symbol}
use Rattle.spirv_symbols.specs.declared.declared.Declared.{Declared}
use Rattle.spirv_symbols.specs.Names.{key_of, is_symbol}
use Rattle.spirv_symbols.specs.Contexts.{context_of, with_declared, declared_among, undeclared, variables_of}
use Rattle.spirv_symbols.proofs.NamesLaws.{single, is_itself, differs}
use Rattle.spirv_symbols.proofs.EntriesLaws.{contained, index_get}

pub map_get : {X Y : Type 0} (f : X → Y) (xs : List X) (k : ℕ) (x : X) → slice_get xs k ≡ Some x → slice_get (map f xs) k ≡ Some (f x)
map_get f [] k x h = absurd (cc h)
map_get f (z ∷ zs) zero x h = let e : z ≡ x = cc h in ap (λ y. Some (f y)) e
map_get f (z ∷ zs) (suc k) x h = map_get f zs k x h

pub get_map : {X Y : Type 0} (f : X → Y) (xs : List X) (k : ℕ) (y : Y) → slice_get (map f xs) k ≡ Some y → (x : X) × (slice_get xs k ≡ Some x) ×
    (f x ≡ y)
get_map f [] k y h = absurd (cc h)
get_map f (z ∷ zs) zero y h = (z, refl, cc h)
get_map f (z ∷ zs) (suc k) y h = get_map f zs k y h

-- the one that is found by its key
pub declared_here : (keys : List Key) (ds : List Declared) (s : Symbol) (k : ℕ) (d : Declared) → AreDistinct keys → keys ≡ map key_of
    (variables_of ds)
    → slice_get keys k ≡ Some (key_of s) → slice_get ds k ≡ Some d → d ≡ declared_among ds s
declared_here keys ds s k d a e h i = here ds k (λ i j x p q. a i j x (ap (λ l. slice_get l i) e ∙ p) (ap (λ l. slice_get l j) e ∙ q))
    (ap (λ l. slice_get l k) (sym e) ∙ h) i where
      here : (ds : List Declared) (k : ℕ) → AreDistinct (map key_of (variables_of ds)) → slice_get (map key_of (variables_of ds)) k ≡ Some (key_of s)
          → slice_get ds k ≡ Some d → d ≡ declared_among ds s
      here [] k a h i = absurd (cc i)
      here (b ∷ bs) zero a h i =
          let t : b.variable ≡ s = let z : key_of b.variable ≡ key_of s = cc h in single b.variable s z in
          let f : b ≡ d = cc i in
          sym f ∙ sym (ap (λ y. cond y b (declared_among bs s)) (ap (λ (z : Symbol). is_symbol z s) t ∙ is_itself s))
      here (b ∷ bs) (suc k) a h i =
          let t : is_symbol b.variable s ≡ false = differs b.variable s (λ e. let z = a 0 (suc k) (key_of s) (ap (λ (z : Symbol). Some (key_of z)) e) h in
          absurd (omega (arith, z))) in
          here bs k (λ i j x p q. let z = a (suc i) (suc j) x p q in omega (arith, z)) h i
          ∙ sym (ap (λ y. cond y b (declared_among bs s)) t)

pub not_declared : (keys : List Key) (ds : List Declared) (s : Symbol) → keys ≡ map key_of (variables_of ds) → (Contains keys (key_of s) → ⊥)
    → undeclared s ≡ declared_among ds s
not_declared keys ds s e a =
    none ds (λ k d h i. a
    (contained keys k (key_of s) (ap (λ l. slice_get l k) e ∙ map_get key_of (variables_of ds) k s
    (map_get (λ (d : Declared). d.variable) ds k d h ∙ ap (λ (z : Symbol). Some z) i)))) where
      none : (ds : List Declared) → ((k : ℕ) (d : Declared) → slice_get ds k ≡ Some d → d.variable ≡ s → ⊥) → undeclared s ≡ declared_among ds s
      none [] f = refl
      none (b ∷ bs) f =
          none bs (λ k d h i. f (suc k) d h i)
          ∙ sym (ap (λ y. cond y b (declared_among bs s)) (differs b.variable s (λ e. f 0 b refl e)))

pub variable_contained : (keys : List Key) (ds : List Declared) (s : Symbol) (k : ℕ) → keys ≡ map key_of (variables_of ds) → slice_get keys k ≡ Some
    (key_of s)
    → Contains (variables_of ds) s
variable_contained keys ds s k e h =
    let r = get_map key_of (variables_of ds) k (key_of s) (ap (λ l. slice_get l k) (sym e) ∙ h) in
    contained (variables_of ds) k s (r.1 ∙ ap (λ (z : Symbol). Some z) (single r.0 s r.2))

pub variable_absent : (keys : List Key) (ds : List Declared) (s : Symbol) → keys ≡ map key_of (variables_of ds) → (Contains keys (key_of s) → ⊥)
    → Contains (variables_of ds) s → ⊥
variable_absent keys ds s e a h =
    a (contained keys h.0 (key_of s) (ap (λ l. slice_get l h.0) e ∙ map_get key_of (variables_of ds) h.0 s
    (index_get (variables_of ds) h.0 s h.1 h.2)))

pub joined : (ds ds' : List Declared) (d : Declared) (capacity capacity' registers pushed : ℕ) (ws : List ℕ) (room : ℕ) → ds' ≡ ds ++ d ∷ []
    → capacity' ≡ capacity
    → context_of ds' capacity' registers pushed ws room ≡ with_declared (context_of ds capacity registers pushed ws room) (ds ++ d ∷ [])
joined ds ds' d capacity capacity' registers pushed ws room e f =
    ap (λ l. context_of l capacity' registers pushed ws room) e ∙ ap (λ n. context_of (ds ++ d ∷ []) n registers pushed ws room) f
