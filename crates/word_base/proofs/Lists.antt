-- Places in lists, and what holds of each thing in one, for every crate.
use Rattle.std.proofs.Common.{◌≡◌, ℕ, zero, suc, ◌+◌, List, [], ◌∷◌, ◌++◌, length, Some, refl, ap, ◌∙◌, subst, arith}
use Rattle.std.specs.Prelude.{slice_get, take, drop, map}
use Rattle.std.proofs.lemmas.List.{drop_more, take_more}
use Rattle.std.proofs.lemmas.Option.{slice_get_within, get_or_from_slice_get}
use Rattle.word_base.specs.Lists.{Each}

-- PLACES
pub get_front : {X : Type 0} (xs ys : List X) (k : ℕ) (x : X) → slice_get xs k ≡ Some x → slice_get (xs ++ ys) k ≡ Some x
get_front [] ys k x h = absurd cc
get_front (a ∷ xs) ys zero x h = h
get_front (a ∷ xs) ys (suc k) x h = get_front xs ys k x h

pub get_behind : {X : Type 0} (xs ys : List X) (k : ℕ) → slice_get (xs ++ ys) (length xs + k) ≡ slice_get ys k
get_behind [] ys k = let e : 0 + k ≡ k = omega arith in ap (slice_get ys) e
get_behind (a ∷ xs) ys k =
    let e : suc (length xs) + k ≡ suc (length xs + k) = omega arith in
    ap (slice_get (a ∷ xs ++ ys)) e ∙ get_behind xs ys k

pub get_last : {X : Type 0} (xs : List X) (x : X) → slice_get (xs ++ x ∷ []) (length xs) ≡ Some x
get_last [] x = refl
get_last (a ∷ xs) x = get_last xs x

pub get_mapped : {X Y : Type 0} (f : X → Y) (xs : List X) (k : ℕ) (x : X) → slice_get xs k ≡ Some x → slice_get (map f xs) k ≡ Some (f x)
get_mapped f [] k x h = absurd cc
get_mapped f (a ∷ xs) zero x h = let e : a ≡ x = cc in ap (λ y. Some (f y)) e
get_mapped f (a ∷ xs) (suc k) x h = get_mapped f xs k x h

-- one more of the front, and the rest from there on
pub take_next : {X : Type 0} (xs : List X) (k : ℕ) (x : X) → slice_get xs k ≡ Some x → take (k + 1) xs ≡ take k xs ++ x ∷ []
take_next xs k x h =
    take_more xs k x (slice_get_within xs k x h) ∙ ap (λ y. take k xs ++ y ∷ []) (get_or_from_slice_get xs k x x h)

pub drop_at : {X : Type 0} (xs : List X) (k : ℕ) (x : X) → slice_get xs k ≡ Some x → drop k xs ≡ x ∷ drop (k + 1) xs
drop_at xs k x h =
    drop_more xs k x (slice_get_within xs k x h) ∙ ap (λ y. y ∷ drop (k + 1) xs) (get_or_from_slice_get xs k x x h)

-- EACH THING
pub each_append : {X : Type 0} (P : X → Type 0) (xs ys : List X) → Each P xs → Each P ys → Each P (xs ++ ys)
each_append P [] ys h k = k
each_append P (x ∷ xs) ys h k = (h.0, each_append P xs ys h.1 k)

pub each_weaker : {X : Type 0} (P Q : X → Type 0) (xs : List X) → ((x : X) → P x → Q x) → Each P xs → Each Q xs
each_weaker P Q [] f h = h
each_weaker P Q (x ∷ xs) f h = (f x h.0, each_weaker P Q xs f h.1)

pub each_at : {X : Type 0} (P : X → Type 0) (xs : List X) (k : ℕ) (x : X) → Each P xs → slice_get xs k ≡ Some x → P x
each_at P [] k x h e = absurd cc
each_at P (y ∷ xs) zero x h e = let s : y ≡ x = cc in subst P s h.0
each_at P (y ∷ xs) (suc k) x h e = each_at P xs k x h.1 e
