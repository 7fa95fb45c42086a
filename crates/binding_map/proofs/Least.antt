-- The first of refusals by one rule of phase 10 is the one at the least place.
use Rattle.std.proofs.Common.{◌≡◌, ℕ, ◌+◌, Bool, true, false, List, [], ◌∷◌, ◌++◌, map, filter, take, slice_get, Option, Some, None, refl, ap, sym, ◌∙◌, nat_lt, nat_eq, arith, ◌||◌, ◌&&◌, if◌then◌else◌}
use Rattle.std.specs.Option.{option_map}
use Rattle.std.proofs.lemmas.List.Elements.{filter-append}
use Rattle.std.proofs.lemmas.List.{map-append, append-nil}
use Rattle.word_base.specs.declared.rule.Rule.TheVariants.{B1}
use Rattle.word_base.specs.Rules.{first, earlier, refusal}
use Rattle.tpf_program.specs.declared.declaration.Declared.{Declared}
use Rattle.binding_map.specs.Bindings.{Binding}
use Rattle.binding_map.specs.Completeness.{is_unbound, lesser_place}
use Rattle.binding_map.proofs.Marked.{next_item}

-- the least of some places
abbrev pub least : List ℕ → Option ℕ
least [] = None
least (p ∷ places) = Some (lesser_place (least places) p)

and_false : (b : Bool) → (b && false) ≡ false
and_false true = refl
and_false false = refl

chosen : (p q : ℕ) (b : Bool) → (if b || (nat_eq q p && false) then refusal B1 q else refusal B1 p) ≡ refusal B1 (if b then q else p)
chosen p q true = refl
chosen p q false = ap (λ c. if c then refusal B1 q else refusal B1 p) (and_false (nat_eq q p))

one_earlier : (p : ℕ) (q : Option ℕ) → earlier (refusal B1 p) (option_map (refusal B1) q) ≡ refusal B1 (lesser_place q p)
one_earlier p None = refl
one_earlier p (Some q) = chosen p q (nat_lt q p)

-- as a refusal the least place is the first of all
pub first_is : (places : List ℕ) → first (map (refusal B1) places) ≡ option_map (refusal B1) (least places)
first_is [] = refl
first_is (p ∷ places) = ap (λ q. Some (earlier (refusal B1 p) q)) (first_is places) ∙ ap Some (one_earlier p (least places))

swapped : (a p : ℕ) (q : Option ℕ) → lesser_place (Some (lesser_place q p)) a ≡ lesser_place (Some (lesser_place q a)) p
swapped a p None = grind arith
swapped a p (Some q) = grind arith

least_more : (places : List ℕ) (p : ℕ) → least (places ++ p ∷ []) ≡ Some (lesser_place (least places) p)
least_more [] p = refl
least_more (a ∷ places) p = ap (λ q. Some (lesser_place q a)) (least_more places p) ∙ ap Some (swapped a p (least places))

-- the places of the constant buffers without a binding
abbrev pub unbound_places : List Binding → List Declared → List ℕ
unbound_places bindings ds = map (λ d. d.place) (filter (λ d. is_unbound bindings d.what) ds)

places_more : (bindings : List Binding) (ds : List Declared) (d : Declared)
    → unbound_places bindings (ds ++ d ∷ []) ≡ unbound_places bindings ds ++ (if is_unbound bindings d.what then d.place ∷ [] else [])
places_more bindings ds d =
    ap (map (λ e. e.place)) (filter-append (λ e. is_unbound bindings e.what) ds (d ∷ []))
    ∙ (map-append (λ e. e.place) (filter (λ e. is_unbound bindings e.what) ds) (if is_unbound bindings d.what then d ∷ [] else [])
    ∙ ap (λ l. unbound_places bindings ds ++ l) (by (is_unbound bindings d.what)))
  where
    by : (b : Bool) → map (λ e. e.place) (if b then d ∷ [] else []) ≡ (if b then d.place ∷ [] else [])
    by true = refl
    by false = refl

module _ (bindings : List Binding) (ds : List Declared) (n : ℕ) (d : Declared) (h : slice_get ds n ≡ Some d) where
  -- the least place up to a declaration that lacks a binding, and up to another one
  pub least_with : is_unbound bindings d.what ≡ true
      → least (unbound_places bindings (take (n + 1) ds)) ≡ Some (lesser_place (least (unbound_places bindings (take n ds))) d.place)
  least_with e =
      ap (λ l. least (unbound_places bindings l)) (next_item ds n d h)
      ∙ (ap least (places_more bindings (take n ds) d ∙ ap (λ b. unbound_places bindings (take n ds) ++ (if b then d.place ∷ [] else [])) e)
      ∙ least_more (unbound_places bindings (take n ds)) d.place)

  pub least_without : is_unbound bindings d.what ≡ false
      → least (unbound_places bindings (take (n + 1) ds)) ≡ least (unbound_places bindings (take n ds))
  least_without e =
      ap (λ l. least (unbound_places bindings l)) (next_item ds n d h)
      ∙ ap least (places_more bindings (take n ds) d ∙ (ap (λ b. unbound_places bindings (take n ds) ++ (if b then d.place ∷ [] else [])) e
      ∙ append-nil (unbound_places bindings (take n ds))))

refusals_are : (bindings : List Binding) (ds : List Declared)
    → map (λ d. refusal B1 d.place) (filter (λ d. is_unbound bindings d.what) ds) ≡ map (refusal B1) (unbound_places bindings ds)
refusals_are bindings ds = by (filter (λ d. is_unbound bindings d.what) ds)
  where
    by : (es : List Declared) → map (λ d. refusal B1 d.place) es ≡ map (refusal B1) (map (λ d. d.place) es)
    by [] = refl
    by (e ∷ es) = ap (λ l. refusal B1 e.place ∷ l) (by es)

pub first_unbound : (bindings : List Binding) (ds : List Declared)
    → option_map (refusal B1) (least (unbound_places bindings ds)) ≡ first (map (λ d. refusal B1 d.place) (filter (λ d. is_unbound bindings d.what) ds))
first_unbound bindings ds = sym (ap first (refusals_are bindings ds) ∙ first_is (unbound_places bindings ds))
