-- Numbers below four, words of vectors, and what holds of each element of a list.
use Rattle.std.proofs.Common.{◌≡◌, ℕ, ◌+◌, ◌*◌, ◌/◌, ◌%◌, ◌<◌, Bool, true, false, List, [], ◌∷◌, ◌++◌, map, refl, sym, ap, subst, ◌∙◌, ◌⊎◌, inl, inr, ⊎_elim, arith}
use Rattle.std.specs.Prelude.{filter, if◌then◌else◌}
use Rattle.std.specs.List.{list_any}
use Rattle.shader_tree.specs.Walks.{Each}
use Rattle.std.proofs.lemmas.Bool.{or_parts, cases_eq, false≢true}

-- a number below four is one of four
pub fours : (P : ℕ → Type 0) (c : ℕ) → c < 4 → P 0 → P 1 → P 2 → P 3 → P c
fours P c h p0 p1 p2 p3 =
    ⊎_elim (λ e. subst P (sym e) p0) (λ n0. ⊎_elim (λ e. subst P (sym e) p1) (λ n1. ⊎_elim (λ e. subst P (sym e) p2)
    (λ n2. let e : c ≡ 3 = grind arith in subst P (sym e) p3) (cases_eq c 2)) (cases_eq c 1)) (cases_eq c 0)

-- where a component of a vector is
pub quotient_of : (n c : ℕ) → c < 4 → (4 * n + c) / 4 ≡ n
quotient_of n c h = omega arith

pub rest_of : (n c : ℕ) → c < 4 → (4 * n + c) % 4 ≡ c
rest_of n c h = omega arith

pub by_test : {X : Type 0} (P : X → Type 0) (b : Bool) (x y : X) → (b ≡ true → P x) → (b ≡ false → P y) → P (if b then x else y)
by_test P true x y h k = h refl
by_test P false x y h k = k refl

-- LISTS. What holds of each element, of each and all that stand behind it, and membership.
abbrev pub Pairs : {X : Type 0} → (X → X → Type 0) → List X → Type 0
Pairs R [] = Unit {0}
Pairs R (x ∷ xs) = Each (R x) xs × Pairs R xs

abbrev pub In : ℕ → List ℕ → Type 0
In d [] = ⊥
In d (x ∷ xs) = (d ≡ x) ⊎ In d xs

pub each_append : {X : Type 0} (P : X → Type 0) (xs ys : List X) → Each P xs → Each P ys → Each P (xs ++ ys)
each_append P [] ys h k = k
each_append P (x ∷ xs) ys h k = (h.0, each_append P xs ys h.1 k)

pub each_map : {X Y : Type 0} (P : Y → Type 0) (f : X → Y) (xs : List X) → Each (λ x. P (f x)) xs → Each P (map f xs)
each_map P f [] h = tt
each_map P f (x ∷ xs) h = (h.0, each_map P f xs h.1)

pub each_from : {X : Type 0} (P Q : X → Type 0) (xs : List X) → ((x : X) → P x → Q x) → Each P xs → Each Q xs
each_from P Q [] f h = tt
each_from P Q (x ∷ xs) f h = (f x h.0, each_from P Q xs f h.1)

pub pairs_append : {X : Type 0} (R : X → X → Type 0) (xs ys : List X) → Pairs R xs → Pairs R ys → Each (λ x. Each (R x) ys) xs → Pairs R (xs ++ ys)
pairs_append R [] ys h k l = k
pairs_append R (x ∷ xs) ys h k l = (each_append (R x) xs ys h.0 l.0, pairs_append R xs ys h.1 k l.1)

pub pairs_map : {X Y : Type 0} (R : Y → Y → Type 0) (f : X → Y) (xs : List X) → Pairs (λ x y. R (f x) (f y)) xs → Pairs R (map f xs)
pairs_map R f [] h = tt
pairs_map R f (x ∷ xs) h = (each_map (R (f x)) f xs h.0, pairs_map R f xs h.1)

-- of those that a list has
pub each_in : (P : ℕ → Type 0) (xs : List ℕ) → ((d : ℕ) → In d xs → P d) → Each P xs
each_in P [] f = tt
each_in P (x ∷ xs) f = (f x (inl refl), each_in P xs (λ d h. f d (inr h)))

pub of_each : (P : ℕ → Type 0) (xs : List ℕ) (d : ℕ) → In d xs → Each P xs → P d
of_each P [] d h k = absurd h
of_each P (x ∷ xs) d (inl e) k = subst P (sym e) k.0
of_each P (x ∷ xs) d (inr h) k = of_each P xs d h k.1

-- numbers that ascend, and those of them below four
abbrev pub Ascends : List ℕ → Type 0
Ascends cs = Pairs (λ c d. c < d) cs

pub pairs_in : (R : ℕ → ℕ → Type 0) (xs : List ℕ) → Ascends xs → ((c d : ℕ) → In c xs → In d xs → c < d → R c d) → Pairs R xs
pairs_in R [] h f = tt
pairs_in R (x ∷ xs) h f =
    (each_in (R x) xs (λ d k. f x d (inl refl) (inr k) (of_each (λ e. x < e) xs d k h.0)), pairs_in R xs h.1 (λ c d k l. f c d (inr k) (inr l)))

each_kept : (P : ℕ → Type 0) (b : Bool) (x : ℕ) (xs : List ℕ) → P x → Each P xs → Each P (if b then x ∷ xs else xs)
each_kept P true x xs h k = (h, k)
each_kept P false x xs h k = k

filter_each : (P : ℕ → Type 0) (t : ℕ → Bool) (xs : List ℕ) → Each P xs → Each P (filter t xs)
filter_each P t [] h = tt
filter_each P t (x ∷ xs) h = each_kept P (t x) x (filter t xs) h.0 (filter_each P t xs h.1)

pairs_kept : (R : ℕ → ℕ → Type 0) (b : Bool) (x : ℕ) (xs : List ℕ) → Each (R x) xs → Pairs R xs → Pairs R (if b then x ∷ xs else xs)
pairs_kept R true x xs h k = (h, k)
pairs_kept R false x xs h k = k

filter_pairs : (R : ℕ → ℕ → Type 0) (t : ℕ → Bool) (xs : List ℕ) → Pairs R xs → Pairs R (filter t xs)
filter_pairs R t [] h = tt
filter_pairs R t (x ∷ xs) h = pairs_kept R (t x) x (filter t xs) (filter_each (R x) t xs h.0) (filter_pairs R t xs h.1)

abbrev pub AreComponents : List ℕ → Type 0
AreComponents cs = Ascends cs × Each (λ c. c < 4) cs

pub components : (t : ℕ → Bool) → AreComponents (filter t (0 ∷ 1 ∷ 2 ∷ 3 ∷ []))
components t = (
  filter_pairs (λ c d. c < d) t (0 ∷ 1 ∷ 2 ∷ 3 ∷ [])
      ((omega arith, (omega arith, (omega arith, tt))), ((omega arith, (omega arith, tt)), ((omega arith, tt), (tt, tt)))),
  filter_each (λ c. c < 4) t (0 ∷ 1 ∷ 2 ∷ 3 ∷ []) (omega arith, (omega arith, (omega arith, (omega arith, tt)))),
)

-- a test that no element passes
pub none_in : (f : ℕ → Bool) (xs : List ℕ) (d : ℕ) → In d xs → list_any f xs ≡ false → f d ≡ false
none_in f [] d h e = absurd h
none_in f (x ∷ xs) d (inl p) e = ap f p ∙ (or_parts (f x) (list_any f xs) e).0
none_in f (x ∷ xs) d (inr h) e = none_in f xs d h (or_parts (f x) (list_any f xs) e).1

pub in_left : (xs ys : List ℕ) (d : ℕ) → In d xs → In d (xs ++ ys)
in_left [] ys d h = absurd h
in_left (x ∷ xs) ys d (inl e) = inl e
in_left (x ∷ xs) ys d (inr h) = inr (in_left xs ys d h)

pub in_right : (xs ys : List ℕ) (d : ℕ) → In d ys → In d (xs ++ ys)
in_right [] ys d h = h
in_right (x ∷ xs) ys d h = inr (in_right xs ys d h)

in_kept : (b : Bool) (d x : ℕ) (xs : List ℕ) → In d xs → In d (if b then x ∷ xs else xs)
in_kept true d x xs h = inr h
in_kept false d x xs h = h

in_front : (b : Bool) (d x : ℕ) (xs : List ℕ) → b ≡ true → d ≡ x → In d (if b then x ∷ xs else xs)
in_front true d x xs e p = inl p
in_front false d x xs e p = absurd (false≢true e)

pub in_filter : (t : ℕ → Bool) (xs : List ℕ) (d : ℕ) → In d xs → t d ≡ true → In d (filter t xs)
in_filter t [] d h e = absurd h
in_filter t (x ∷ xs) d (inl p) e = in_front (t x) d x (filter t xs) (ap t (sym p) ∙ e) p
in_filter t (x ∷ xs) d (inr h) e = in_kept (t x) d x (filter t xs) (in_filter t xs d h e)

split_kept : (b : Bool) (d x : ℕ) (xs : List ℕ) → In d (if b then x ∷ xs else xs) → ((b ≡ true) × (d ≡ x)) ⊎ In d xs
split_kept true d x xs (inl e) = inl (refl, e)
split_kept true d x xs (inr h) = inr h
split_kept false d x xs h = inr h

pub of_filter : (t : ℕ → Bool) (xs : List ℕ) (d : ℕ) → In d (filter t xs) → t d ≡ true
of_filter t [] d h = absurd h
of_filter t (x ∷ xs) d h =
    ⊎_elim (λ p. ap t p.1 ∙ p.0) (λ k. of_filter t xs d k) (split_kept (t x) d x (filter t xs) h)
