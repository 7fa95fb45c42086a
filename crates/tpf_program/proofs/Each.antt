-- A list that is gone over by its indices.
use Rattle.std.proofs.Common.{◌≡◌, ℕ, ◌+◌, List, [], ◌∷◌, ◌++◌, take, drop, false, Some, refl, sym, ap, ◌∙◌, arith}
use Rattle.std.specs.Prelude.{slice_get, nat_eq}
use Rattle.std.proofs.lemmas.Bool.Decides.{nat_tests}
use Rattle.std.proofs.lemmas.List.{drop_more, take_more}
use Rattle.std.proofs.lemmas.Option.{slice_get_within, get_or_from_slice_get}
use Rattle.tpf_program.specs.declared.declaration.Declaration.{Declaration}
use Rattle.tpf_program.specs.declared.declaration.Declared.{Declared}
use Rattle.tpf_program.specs.Sizes.{first_size}

pub at_index : {X : Type 0} (xs : List X) (i : ℕ) (x : X) → slice_get xs i ≡ Some x → drop i xs ≡ x ∷ drop (i + 1) xs
at_index xs i x h = drop_more xs i x (slice_get_within xs i x h) ∙ ap (λ y. y ∷ drop (i + 1) xs) (get_or_from_slice_get xs i x x h)

pub front_more : {X : Type 0} (xs : List X) (i : ℕ) (x : X) → slice_get xs i ≡ Some x → take (i + 1) xs ≡ take i xs ++ x ∷ []
front_more xs i x h = take_more xs i x (slice_get_within xs i x h) ∙ ap (λ y. take i xs ++ y ∷ []) (get_or_from_slice_get xs i x x h)

-- a function of what is left, as of the whole list
left : {X Y : Type 0} (f : List X → Y) (xs : List X) (i : ℕ) (x : X) → slice_get xs i ≡ Some x → f (drop i xs) ≡ f xs → f (x ∷ drop (i + 1) xs) ≡ f xs
left f xs i x h k = sym (ap f (at_index xs i x h)) ∙ k

-- at a declaration with a size the first size is found; behind one without it is still to come
pub size_here : (size : Declaration → ℕ) (ds : List Declared) (i : ℕ) (d : Declared) → slice_get ds i ≡ Some d → (size d.what ≡ 0 → ⊥)
    → first_size size (drop i ds) ≡ first_size size ds → size d.what ≡ first_size size ds
size_here size ds i d h n k =
    let e : nat_eq (size d.what) 0 ≡ false = grind (arith, nat_tests, n) in
    let f : first_size size (d ∷ drop (i + 1) ds) ≡ size d.what = rw e refl in
    sym f ∙ left (first_size size) ds i d h k

pub size_later : (size : Declaration → ℕ) (ds : List Declared) (i : ℕ) (d : Declared) → slice_get ds i ≡ Some d → size d.what ≡ 0
    → first_size size (drop i ds) ≡ first_size size ds → first_size size (drop (i + 1) ds) ≡ first_size size ds
size_later size ds i d h n k =
    let f : first_size size (d ∷ drop (i + 1) ds) ≡ first_size size (drop (i + 1) ds) = rw n refl in
    sym f ∙ left (first_size size) ds i d h k
