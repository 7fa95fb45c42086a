-- Elements of lists, and properties of all of them.
use Rattle.std.proofs.Common.{◌≡◌, ℕ, zero, suc, ◌+◌, ◌<◌, ◌⊎◌, ⊎_elim, inl, inr, Bool, true, false, List, [], ◌∷◌, ◌++◌, length, take, Some, refl, sym, ap, ◌∙◌, subst, arith}
use Rattle.std.specs.Prelude.{slice_get, filter, cond}
use Rattle.std.proofs.lemmas.List.Elements.{filter-append}
use Rattle.spirv_symbols.specs.Orders.{Among, Same, Each, Ordered}
use Rattle.spirv_symbols.proofs.EntriesLaws.{append_none}
use Rattle.spirv_symbols.proofs.Lists.{take_next}

module _ {X : Type 0} where
  -- ELEMENTS
  pub among_left : (xs ys : List X) (x : X) → Among xs x → Among (xs ++ ys) x
  among_left [] ys x h = absurd h
  among_left (z ∷ zs) ys x (inl e) = inl e
  among_left (z ∷ zs) ys x (inr h) = inr (among_left zs ys x h)

  pub among_right : (xs ys : List X) (x : X) → Among ys x → Among (xs ++ ys) x
  among_right [] ys x h = h
  among_right (z ∷ zs) ys x h = inr (among_right zs ys x h)

  pub among_either : (xs ys : List X) (x : X) → Among (xs ++ ys) x → Among xs x ⊎ Among ys x
  among_either [] ys x h = inr h
  among_either (z ∷ zs) ys x (inl e) = inl (inl e)
  among_either (z ∷ zs) ys x (inr h) = ⊎_elim (λ a. inl (inr a)) inr (among_either zs ys x h)

  among_cond : (b : Bool) (z : X) (zs : List X) (x : X) → Among zs x → Among (cond b (z ∷ zs) zs) x
  among_cond true z zs x h = inr h
  among_cond false z zs x h = h

  pub among_kept : (t : X → Bool) (xs : List X) (x : X) → Among xs x → t x ≡ true → Among (filter t xs) x
  among_kept t [] x h e = absurd h
  among_kept t (z ∷ zs) x (inl q) e = subst (λ b. Among (cond b (z ∷ filter t zs) (filter t zs)) x) (sym (ap t q ∙ e)) (inl q)
  among_kept t (z ∷ zs) x (inr h) e = among_cond (t z) z (filter t zs) x (among_kept t zs x h e)

  among_was : (t : X → Bool) (b : Bool) (z : X) (ys zs : List X) (x : X) → t z ≡ b → (Among ys x → Among zs x × (t x ≡ true))
      → Among (cond b (z ∷ ys) ys) x → Among (z ∷ zs) x × (t x ≡ true)
  among_was t true z ys zs x e f (inl q) = (inl q, sym (ap t q) ∙ e)
  among_was t true z ys zs x e f (inr h) = let r = f h in (inr r.0, r.1)
  among_was t false z ys zs x e f h = let r = f h in (inr r.0, r.1)

  pub among_filter : (t : X → Bool) (xs : List X) (x : X) → Among (filter t xs) x → Among xs x × (t x ≡ true)
  among_filter t [] x h = absurd h
  among_filter t (z ∷ zs) x h = among_was t (t z) z (filter t zs) zs x refl (among_filter t zs x) h

  pub among_get : (xs : List X) (x : X) → Among xs x → (k : ℕ) × (slice_get xs k ≡ Some x)
  among_get [] x h = absurd h
  among_get (z ∷ zs) x (inl e) = (0, ap Some e)
  among_get (z ∷ zs) x (inr h) = let r = among_get zs x h in (suc r.0, r.1)

  pub get_among : (xs : List X) (k : ℕ) (x : X) → slice_get xs k ≡ Some x → Among xs x
  get_among [] k x h = absurd (cc h)
  get_among (z ∷ zs) zero x h = inl (cc h)
  get_among (z ∷ zs) (suc k) x h = inr (get_among zs k x h)

  -- THE SAME ELEMENTS
  pub same_self : (xs : List X) → Same xs xs
  same_self xs = record { there = λ x h. h; back = λ x h. h }

  pub same_on : (xs ys zs : List X) → Same xs ys → Same ys zs → Same xs zs
  same_on xs ys zs a b = record { there = λ x h. b.there x (a.there x h); back = λ x h. a.back x (b.back x h) }

  -- ALL ELEMENTS
  pub each_left : (P : X → Type 0) (xs ys : List X) → Each P (xs ++ ys) → Each P xs
  each_left P [] ys h = tt
  each_left P (x ∷ xs) ys h = (h.0, each_left P xs ys h.1)

  pub each_append : (P : X → Type 0) (xs ys : List X) → Each P xs → Each P ys → Each P (xs ++ ys)
  each_append P [] ys a b = b
  each_append P (x ∷ xs) ys a b = (a.0, each_append P xs ys a.1 b)

  pub each_weaker : (P Q : X → Type 0) (xs : List X) → ((x : X) → P x → Q x) → Each P xs → Each Q xs
  each_weaker P Q [] f h = tt
  each_weaker P Q (x ∷ xs) f h = (f x h.0, each_weaker P Q xs f h.1)

  pub each_of : (P : X → Type 0) (xs : List X) → ((x : X) → Among xs x → P x) → Each P xs
  each_of P [] f = tt
  each_of P (x ∷ xs) f = (f x (inl refl), each_of P xs (λ y h. f y (inr h)))

  pub each_at : (P : X → Type 0) (xs : List X) (x : X) → Each P xs → Among xs x → P x
  each_at P [] x e h = absurd h
  each_at P (z ∷ zs) x e (inl q) = subst P q e.0
  each_at P (z ∷ zs) x e (inr h) = each_at P zs x e.1 h

  each_cond : (P : X → Type 0) (b : Bool) (x : X) (xs : List X) → (b ≡ true → P x) → Each P xs → Each P (cond b (x ∷ xs) xs)
  each_cond P true x xs f h = (f refl, h)
  each_cond P false x xs f h = h

  pub each_kept : (P Q : X → Type 0) (t : X → Bool) → ((x : X) → t x ≡ true → P x → Q x) → (xs : List X) → Each P xs → Each Q (filter t xs)
  each_kept P Q t f [] h = tt
  each_kept P Q t f (x ∷ xs) h = each_cond Q (t x) x (filter t xs) (λ e. f x e h.0) (each_kept P Q t f xs h.1)

  pub passes : (t : X → Bool) (xs : List X) → Each (λ x. t x ≡ true) (filter t xs)
  passes t xs = each_kept (λ _. Unit {0}) (λ x. t x ≡ true) t (λ x e _. e) xs (each_of (λ _. Unit {0}) xs (λ _ _. tt))

  -- ORDER
  ordered_cond : (S : X → X → Type 0) (b : Bool) (x : X) (xs : List X) → (b ≡ true → Each (S x) xs) → Ordered S xs → Ordered S (cond b (x ∷ xs) xs)
  ordered_cond S true x xs f h = (f refl, h)
  ordered_cond S false x xs f h = h

  pub ordered_kept : (R S : X → X → Type 0) (t : X → Bool) → ((x y : X) → t x ≡ true → t y ≡ true → R x y → S x y) → (xs : List X) → Ordered R xs
      → Ordered S (filter t xs)
  ordered_kept R S t f [] h = tt
  ordered_kept R S t f (x ∷ xs) h =
      ordered_cond S (t x) x (filter t xs) (λ e. each_kept (R x) (S x) t (λ y d r. f x y e d r) xs h.0) (ordered_kept R S t f xs h.1)

  pub ordered_append : (R : X → X → Type 0) (xs ys : List X) → Ordered R xs → Ordered R ys → Each (λ x. Each (R x) ys) xs → Ordered R (xs ++ ys)
  ordered_append R [] ys a b c = b
  ordered_append R (x ∷ xs) ys a b c = (each_append (R x) xs ys a.0 c.0, ordered_append R xs ys a.1 b c.1)

  pub ordered_weaker : (R S : X → X → Type 0) (xs : List X) → ((x y : X) → R x y → S x y) → Ordered R xs → Ordered S xs
  ordered_weaker R S [] f h = tt
  ordered_weaker R S (x ∷ xs) f h = (each_weaker (R x) (S x) xs (f x) h.0, ordered_weaker R S xs f h.1)

  -- WALKS over those that pass a test
  pub picked : (t : X → Bool) (xs : List X) (k : ℕ) (x : X) → slice_get xs k ≡ Some x → t x ≡ true → filter t (take (k + 1) xs) ≡ filter t
      (take k xs) ++ x ∷ []
  picked t xs k x h e =
      ap (filter t) (take_next xs k x h) ∙ filter-append t (take k xs) (x ∷ []) ∙ ap (λ b. filter t (take k xs) ++ cond b (x ∷ []) []) e

  pub passed_by : (t : X → Bool) (xs : List X) (k : ℕ) (x : X) → slice_get xs k ≡ Some x → t x ≡ false → filter t (take (k + 1) xs) ≡ filter t
      (take k xs)
  passed_by t xs k x h e =
      ap (filter t) (take_next xs k x h) ∙ filter-append t (take k xs) (x ∷ []) ∙ ap (λ b. filter t (take k xs) ++ cond b (x ∷ []) []) e
      ∙ append_none (filter t (take k xs))

  more_cond : (b : Bool) (x : X) (xs ys : List X) → length xs < length ys → length (cond b (x ∷ xs) xs) < length (cond b (x ∷ ys) ys)
  more_cond true x xs ys h = omega (arith, h)
  more_cond false x xs ys h = h

  pub room_for_one : (t : X → Bool) (xs : List X) (k : ℕ) (x : X) → slice_get xs k ≡ Some x → t x ≡ true → length (filter t (take k xs)) < length
      (filter t xs)
  room_for_one t [] k x h e = absurd (cc h)
  room_for_one t (y ∷ ys) zero x h e =
      let q : y ≡ x = cc h in
      subst (λ b. 0 < length (cond b (y ∷ filter t ys) (filter t ys))) (sym (ap t q ∙ e)) (omega arith)
  room_for_one t (y ∷ ys) (suc k) x h e = more_cond (t y) y (filter t (take k ys)) (filter t ys) (room_for_one t ys k x h e)
