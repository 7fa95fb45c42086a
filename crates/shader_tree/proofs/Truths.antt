-- What holds of truths and of items of lists.
use Rattle.std.proofs.Common.{◌≡◌, ℕ, zero, suc, ◌<◌, Bool, true, false, IsTrue, List, [], ◌∷◌, ◌++◌, length, Some, refl, arith}
use Rattle.std.specs.Prelude.{◌&&◌, take, slice_get}

pub split : (a b : Bool) → IsTrue (a && b) → IsTrue a × IsTrue b
split true b h = (refl, h)
split false b h = absurd (cc h)

pub join : (a b : Bool) → IsTrue a → IsTrue b → IsTrue (a && b)
join true b h k = k
join false b h k = absurd (cc h)

pub get_more : {X : Type 0} (xs ys : List X) (i : ℕ) (x : X) → slice_get xs i ≡ Some x → slice_get (xs ++ ys) i ≡ Some x
get_more [] ys i x h = absurd (cc h)
get_more (y ∷ xs) ys zero x h = h
get_more (y ∷ xs) ys (suc i) x h = get_more xs ys i x h

pub get_last : {X : Type 0} (xs : List X) (x : X) → slice_get (xs ++ x ∷ []) (length xs) ≡ Some x
get_last [] x = refl
get_last (y ∷ xs) x = get_last xs x

-- an item in front of a place
pub get_before : {X : Type 0} (xs : List X) (n i : ℕ) (x : X) → slice_get (take n xs) i ≡ Some x → (i < n) × (slice_get xs i ≡ Some x)
get_before [] zero i x h = absurd (cc h)
get_before [] (suc n) i x h = absurd (cc h)
get_before (y ∷ xs) zero i x h = absurd (cc h)
get_before (y ∷ xs) (suc n) zero x h = (omega arith, h)
get_before (y ∷ xs) (suc n) (suc i) x h = let r = get_before xs n i x h in (omega (arith, r.0), r.1)

-- there is an item at a place below the length
pub get_below : {X : Type 0} (xs : List X) (i : ℕ) → i < length xs → (x : X) × (slice_get xs i ≡ Some x)
get_below [] i h = absurd (omega (arith, h))
get_below (y ∷ xs) zero h = (y, refl)
get_below (y ∷ xs) (suc i) h = get_below xs i (omega (arith, h))
