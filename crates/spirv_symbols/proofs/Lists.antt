-- Lists, by their first elements.
use Rattle.std.proofs.Common.{◌≡◌, ℕ, zero, suc, ◌+◌, ◌≤◌, List, [], ◌∷◌, ◌++◌, length, take, map, Bool, true, false, Some, refl, sym, ap, ◌∙◌, arith, append_assoc, length-append}
use Rattle.std.specs.Prelude.{slice_get, filter, flat_map, cond}
use Rattle.std.proofs.lemmas.Grind.{flat_map-append}
use Rattle.spirv_symbols.proofs.EntriesLaws.{append_none}

take_suc : {X : Type 0} (xs : List X) (k : ℕ) (x : X) → slice_get xs k ≡ Some x → take (suc k) xs ≡ take k xs ++ x ∷ []
take_suc [] k x h = absurd (cc h)
take_suc (y ∷ ys) zero x h = cc h
take_suc (y ∷ ys) (suc k) x h = ap (λ l. y ∷ l) (take_suc ys k x h)

pub take_next : {X : Type 0} (xs : List X) (k : ℕ) (x : X) → slice_get xs k ≡ Some x → take (k + 1) xs ≡ take k xs ++ x ∷ []
take_next xs k x h = let e : k + 1 ≡ suc k = omega arith in ap (λ n. take n xs) e ∙ take_suc xs k x h

pub take_rest : {X : Type 0} (xs : List X) (k : ℕ) → (ys : List X) × (xs ≡ take k xs ++ ys)
take_rest xs zero = (xs, refl)
take_rest [] (suc k) = ([], refl)
take_rest (x ∷ xs) (suc k) = let r = take_rest xs k in (r.0, ap (λ l. x ∷ l) r.1)

pub take_all : {X : Type 0} (xs : List X) (k : ℕ) → length xs ≤ k → take k xs ≡ xs
take_all [] zero h = refl
take_all [] (suc k) h = refl
take_all (x ∷ xs) zero h = absurd (omega (arith, h))
take_all (x ∷ xs) (suc k) h = ap (λ l. x ∷ l) (take_all xs k (omega (arith, h)))

-- what is made of each element, and of those that pass a test
module _ {X Y : Type 0} (f : X → List Y) where
  pub each_next : (xs : List X) (k : ℕ) (x : X) (before now after : List Y) → slice_get xs k ≡ Some x
      → now ≡ before ++ flat_map f (take k xs) → after ≡ now ++ f x → after ≡ before ++ flat_map f (take (k + 1) xs)
  each_next xs k x before now after h p q =
      q ∙ ap (λ l. l ++ f x) p ∙ append_assoc before (flat_map f (take k xs)) (f x)
      ∙ ap (λ l. before ++ l)
      (sym (ap (flat_map f) (take_next xs k x h) ∙ flat_map-append f (take k xs) (x ∷ []) ∙ ap (λ l. flat_map f (take k xs) ++ l)
      (append_none (f x))))

  pub each_room : (xs : List X) (k : ℕ) (x : X) → slice_get xs k ≡ Some x → length (flat_map f (take k xs)) + length (f x) ≤ length (flat_map f xs)
  each_room xs k x h =
      let r = take_rest xs (k + 1) in
      let a = ap (λ l. length (flat_map f l)) r.1 in
      let b = ap length (flat_map-append f (take (k + 1) xs) r.0) in
      let c = length-append (flat_map f (take (k + 1) xs)) (flat_map f r.0) in
      let d = ap (λ l. length (flat_map f l)) (take_next xs k x h) in
      let e = ap length (flat_map-append f (take k xs) (x ∷ [])) in
      let g = length-append (flat_map f (take k xs)) (flat_map f (x ∷ [])) in
      let i = ap length (append_none (f x)) in
      omega (arith, a, b, c, d, e, g, i)

  abbrev pub passed : (X → Bool) → X → List Y
  passed test x = cond (test x) (f x) []

  passed_step : (b : Bool) (x : X) (xs : List X) → flat_map f (cond b (x ∷ xs) xs) ≡ cond b (f x) [] ++ flat_map f xs
  passed_step true x xs = refl
  passed_step false x xs = refl

  pub filter_each : (test : X → Bool) (xs : List X) → flat_map f (filter test xs) ≡ flat_map (passed test) xs
  filter_each test [] = refl
  filter_each test (x ∷ xs) = passed_step (test x) x (filter test xs) ∙ ap (λ l. passed test x ++ l) (filter_each test xs)

pub map_each : {X Y Z : Type 0} (f : Y → List Z) (g : X → Y) (xs : List X) → flat_map f (map g xs) ≡ flat_map (λ x. f (g x)) xs
map_each f g [] = refl
map_each f g (x ∷ xs) = ap (λ l. f (g x) ++ l) (map_each f g xs)
