-- Items of lists by recursion, and tests that each of them passes.
use Rattle.std.proofs.Common.{◌≡◌, ℕ, ◌<◌, ◌≤◌, ◌⊎◌, inl, inr, ⊎_elim, List, [], ◌∷◌, ◌++◌, map, Bool, true, false, refl, sym, subst, arith}
use Rattle.std.specs.Prelude.{nat_eq, nat_lt, nat_le, ◌&&◌, ◌||◌, not, cond, IsTrue}
use Rattle.std.specs.Bool.{beq}
use Rattle.std.specs.List.{list_any, list_all}
use Rattle.std.proofs.lemmas.Bool.Decides.{nat_tests}

abbrev pub Has : {X : Type 0} → List X → X → Type 0
Has [] x = ⊥
Has (y ∷ ys) x = (x ≡ y) ⊎ Has ys x

pub has_either : {X : Type 0} (xs ys : List X) (x : X) → Has (xs ++ ys) x → Has xs x ⊎ Has ys x
has_either [] ys x h = inr h
has_either (z ∷ xs) ys x (inl e) = inl (inl e)
has_either (z ∷ xs) ys x (inr h) = ⊎_elim (λ i. inl (inr i)) (λ i. inr i) (has_either xs ys x h)

pub has_left : {X : Type 0} (xs ys : List X) (x : X) → Has xs x → Has (xs ++ ys) x
has_left [] ys x h = absurd h
has_left (z ∷ xs) ys x (inl e) = inl e
has_left (z ∷ xs) ys x (inr h) = inr (has_left xs ys x h)

pub has_right : {X : Type 0} (xs ys : List X) (x : X) → Has ys x → Has (xs ++ ys) x
has_right [] ys x h = h
has_right (z ∷ xs) ys x h = inr (has_right xs ys x h)

pub has_mapped : {X Y : Type 0} (f : X → Y) (xs : List X) (y : Y) → Has (map f xs) y → (x : X) × Has xs x × (y ≡ f x)
has_mapped f [] y h = absurd h
has_mapped f (x ∷ xs) y (inl e) = (x, inl refl, e)
has_mapped f (x ∷ xs) y (inr h) = let w = has_mapped f xs y h in (w.0, inr w.1, w.2)

-- tests in one
pub both : (a b : Bool) → IsTrue a → IsTrue b → IsTrue (a && b)
both true b p q = q
both false b p q = p

pub first_holds : (a b : Bool) → IsTrue (a && b) → IsTrue a
first_holds true b p = refl
first_holds false b p = p

pub second_holds : (a b : Bool) → IsTrue (a && b) → IsTrue b
second_holds true b p = p
second_holds false b p = absurd (grind arith)

pub either_first : (a b : Bool) → IsTrue a → IsTrue (a || b)
either_first true b p = refl
either_first false b p = absurd (grind arith)

pub either_second : (a b : Bool) → IsTrue b → IsTrue (a || b)
either_second true b p = refl
either_second false b p = p

pub by_either : {P : Type 0} (a b : Bool) → (IsTrue a → P) → (IsTrue b → P) → IsTrue (a || b) → P
by_either true b f g h = f refl
by_either false b f g h = g h

pub implied : (a b : Bool) → (IsTrue a → IsTrue b) → IsTrue (not a || b)
implied true b f = f refl
implied false b f = refl

pub same_test : (a b : Bool) → (IsTrue a → IsTrue b) → (IsTrue b → IsTrue a) → IsTrue (beq a b)
same_test true true f g = refl
same_test true false f g = f refl
same_test false true f g = g refl
same_test false false f g = refl

pub no_truth : IsTrue false → ⊥
no_truth h = grind arith

pub when_true : (b x y : Bool) → b ≡ true → IsTrue x → IsTrue (cond b x y)
when_true true x y e h = h
when_true false x y e h = absurd (no_truth e)

pub when_false : (b x y : Bool) → b ≡ false → IsTrue y → IsTrue (cond b x y)
when_false true x y e h = absurd (no_truth (sym e))
when_false false x y e h = h

-- tests of each item, and of some item
pub each_passes : {X : Type 0} (f : X → Bool) (xs : List X) → ((x : X) → Has xs x → IsTrue (f x)) → IsTrue (list_all f xs)
each_passes f [] h = refl
each_passes f (x ∷ xs) h = both (f x) (list_all f xs) (h x (inl refl)) (each_passes f xs (λ y i. h y (inr i)))

pub passes_each : {X : Type 0} (f : X → Bool) (xs : List X) → IsTrue (list_all f xs) → (x : X) → Has xs x → IsTrue (f x)
passes_each f [] h x i = absurd i
passes_each f (y ∷ ys) h x (inl e) = subst (λ z. IsTrue (f z)) (sym e) (first_holds (f y) (list_all f ys) h)
passes_each f (y ∷ ys) h x (inr i) = passes_each f ys (second_holds (f y) (list_all f ys) h) x i

pub some_passes : {X : Type 0} (f : X → Bool) (xs : List X) (x : X) → Has xs x → IsTrue (f x) → IsTrue (list_any f xs)
some_passes f [] x i h = absurd i
some_passes f (y ∷ ys) x (inl e) h = either_first (f y) (list_any f ys) (subst (λ z. IsTrue (f z)) e h)
some_passes f (y ∷ ys) x (inr i) h = either_second (f y) (list_any f ys) (some_passes f ys x i h)

-- tests of numbers
pub lt_true : (a b : ℕ) → a < b → IsTrue (nat_lt a b)
lt_true a b h = grind (arith, nat_tests)

pub le_true : (a b : ℕ) → a ≤ b → IsTrue (nat_le a b)
le_true a b h = grind (arith, nat_tests)

pub eq_true : (a b : ℕ) → a ≡ b → IsTrue (nat_eq a b)
eq_true a b h = grind (arith, nat_tests)

pub is_lt : (a b : ℕ) → IsTrue (nat_lt a b) → a < b
is_lt a b h = grind (arith, nat_tests)

pub is_eq : (a b : ℕ) → IsTrue (nat_eq a b) → a ≡ b
is_eq a b h = grind (arith, nat_tests)
