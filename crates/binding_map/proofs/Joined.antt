-- A map with one more binding is a map.
use Rattle.std.proofs.Common.{◌≡◌, ℕ, suc, zero, ◌<◌, ◌^◌, Bool, true, false, cond, List, [], ◌∷◌, ◌++◌, length, slice_get, Option, Some, None, refl, ap, sym, ◌∙◌, subst, ◌⊎◌, inl, inr, arith, length-append, nat_eq, true≢false, find, ⊎_elim}
use Rattle.std.specs.Option.{option_map}
use Rattle.binding_map.specs.declared.register.Register.{Register}
use Rattle.binding_map.specs.declared.register.Register.TheVariants.{Constant, Resource, Uav, Counter}
use Rattle.binding_map.specs.declared.register.Place.{Place}
use Rattle.binding_map.specs.Bindings.{Binding, binding, place_of, same_register, is_at, has_word, slot_of, IsPlaceFor, IsMap}
use Rattle.binding_map.specs.Joins.{MayJoin}

-- an item of a list and one more
pub at_end : {X : Type 0} (xs : List X) (last x : X) (i : ℕ) → slice_get (xs ++ last ∷ []) i ≡ Some x
    → (slice_get xs i ≡ Some x) ⊎ ((i ≡ length xs) × (x ≡ last))
at_end [] last x zero h = inr (refl, cc)
at_end [] last x (suc i) h = absurd cc
at_end (y ∷ xs) last x zero h = inl h
at_end (y ∷ xs) last x (suc i) h = ⊎_elim inl (λ r. inr (ap suc r.0, r.1)) (at_end xs last x i h)

pub same_number : (n : ℕ) → nat_eq n n ≡ true
same_number n = grind arith

pub same_itself : (r : Register) → same_register r r ≡ true
same_itself (Constant slot) = same_number slot
same_itself (Resource slot) = same_number slot
same_itself (Uav slot) = same_number slot
same_itself (Counter slot) = same_number slot

-- a register without a place is that of no binding
first_half : (test : Bool) (b : Binding) (rest : Option Binding) → option_map (λ c. c.place) (cond test (Some b) rest) ≡ None → test ≡ false
first_half true b rest h = absurd cc
first_half false b rest h = refl

other_half : (test : Bool) (b : Binding) (rest : Option Binding) → option_map (λ c. c.place) (cond test (Some b) rest) ≡ None
    → option_map (λ c. c.place) rest ≡ None
other_half true b rest h = absurd cc
other_half false b rest h = h

pub unbound : (r : Register) (bindings : List Binding) → place_of bindings r ≡ None → (i : ℕ) (a : Binding) → slice_get bindings i ≡ Some a
    → same_register r a.register ≡ false
unbound r [] none i a h = absurd cc
unbound r (b ∷ bindings) none zero a h =
    let e : b ≡ a = cc in
    subst (λ c. same_register r c.register ≡ false) e
    (first_half (same_register r b.register) b (find (λ c. same_register r c.register) bindings) none)
unbound r (b ∷ bindings) none (suc i) a h =
    unbound r bindings (other_half (same_register r b.register) b (find (λ c. same_register r c.register) bindings) none) i a h

module _ (bindings : List Binding) (last : Binding) where
  -- what no two bindings have in common, and no binding has in common with one more
  single : (Share : Binding → Binding → Type 0)
      → ((i j : ℕ) (a b : Binding) → slice_get bindings i ≡ Some a → slice_get bindings j ≡ Some b → Share a b → i ≡ j)
      → ((i : ℕ) (a : Binding) → slice_get bindings i ≡ Some a → Share a last → ⊥)
      → ((i : ℕ) (a : Binding) → slice_get bindings i ≡ Some a → Share last a → ⊥)
      → (i j : ℕ) (a b : Binding) → slice_get (bindings ++ last ∷ []) i ≡ Some a → slice_get (bindings ++ last ∷ []) j ≡ Some b
      → Share a b → i ≡ j
  single Share old left right i j a b at_i at_j share = by (at_end bindings last a i at_i) (at_end bindings last b j at_j)
    where
      by : (slice_get bindings i ≡ Some a) ⊎ ((i ≡ length bindings) × (a ≡ last))
          → (slice_get bindings j ≡ Some b) ⊎ ((j ≡ length bindings) × (b ≡ last)) → i ≡ j
      by (inl x) (inl y) = old i j a b x y share
      by (inl x) (inr y) = absurd (left i a x (subst (Share a) y.1 share))
      by (inr x) (inl y) = absurd (right j b y (subst (λ c. Share c b) x.1 share))
      by (inr x) (inr y) = x.0 ∙ sym y.0

  -- what holds of each, and of one more
  each : (P : Binding → Type 0) → ((i : ℕ) (a : Binding) → slice_get bindings i ≡ Some a → P a) → P last
      → (i : ℕ) (a : Binding) → slice_get (bindings ++ last ∷ []) i ≡ Some a → P a
  each P old new i a h =
      elim (at_end bindings last a i h) [
        | inl x ↦ old i a x
        | inr x ↦ subst P (sym x.1) new
      ]

differ : (r s : Register) → same_register r s ≡ false → r ≡ s → ⊥
differ r s h e = true≢false (sym (same_itself r) ∙ (ap (same_register r) e ∙ h))

pub joined : (bindings : List Binding) (register : Register) (place : Place) → IsMap bindings → MayJoin bindings register place
    → IsMap (bindings ++ binding register place ∷ [])
joined bindings register place m j =
    let last = binding register place in
    let apart : (i : ℕ) (a : Binding) → slice_get bindings i ≡ Some a → register ≡ a.register → ⊥ =
    λ i a h. differ register a.register (unbound register bindings j.absent i a h) in
    record {
      registers = single bindings last (λ a b. a.register ≡ b.register) m.registers (λ i a h e. apart i a h (sym e)) apart;
      descriptors = λ i k a b x y set number s t.
          single bindings last (λ c d. (is_at c.place set number ≡ true) × (is_at d.place set number ≡ true))
          (λ i k a b x y e. m.descriptors i k a b x y set number e.0 e.1)
          (λ i a h e. j.descriptor i a h set number e.0 e.1) (λ i a h e. j.descriptor i a h set number e.1 e.0) i k a b x y (s, t);
      pushes = λ i k a b x y word s t.
          single bindings last (λ c d. (has_word c.place word ≡ true) × (has_word d.place word ≡ true))
          (λ i k a b x y e. m.pushes i k a b x y word e.0 e.1)
          (λ i a h e. j.push i a h word e.0 e.1) (λ i a h e. j.push i a h word e.1 e.0) i k a b x y (s, t);
      slots = each bindings last (λ a. slot_of a.register < 2 ^ 32) m.slots j.is_word;
      places = each bindings last (λ a. IsPlaceFor a.register a.place) m.places j.suits;
      few = omega (arith, j.few, length-append bindings (last ∷ []));
    }
