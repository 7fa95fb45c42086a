-- Parts that stand one behind the other.
use Rattle.std.proofs.Common.{◌≡◌, ℕ, zero, suc, ◌<◌, ◌≤◌, List, [], ◌∷◌, ◌++◌, length, Some, sym, ap, ◌∙◌, subst, arith, inl, inr, ◌⊎◌}
use Rattle.std.specs.Prelude.{slice_get}
use Rattle.std.proofs.lemmas.Option.{slice_get_within}
use Rattle.tpf_decode.specs.Profiles.{Base}
use Rattle.tpf_program.specs.declared.declaration.Declared.{Declared}
use Rattle.tpf_program.specs.declared.instruction.Instruction.{Instruction}
use Rattle.tpf_program.specs.Program.{AreApart, AreBefore, AreInOrder}
use Rattle.tpf_program.specs.Spelling.{Item, Declares, Types, Does, Lists, Skips, SpellsItem, declarations_in, instructions_in}
use Rattle.tpf_program.proofs.CaseLists.{last_or}
use Rattle.tpf_program.proofs.SameItems.{no_typed}

-- one more part
pub in_order_more : {X : Type 0} (place : X → ℕ) (words : ℕ) (xs : List X) (x : X) → AreInOrder place words xs → AreBefore place xs (place x) → 2 ≤ place x → place x < words
    → AreInOrder place words (xs ++ x ∷ [])
in_order_more place words xs x o before behind inside = record {
  ascend = λ i j a b l e f. pair i j a b l (last_or xs x a i e) (last_or xs x b j f);
  behind = λ i a e. low i a (last_or xs x a i e);
  inside = λ i a e. high i a (last_or xs x a i e);
} where
  pair : (i j : ℕ) (a b : _) → i < j → (slice_get xs i ≡ Some a) ⊎ ((i ≡ length xs) × (x ≡ a)) → (slice_get xs j ≡ Some b) ⊎ ((j ≡ length xs) × (x ≡ b)) → place a < place b
  pair i j a b l (inl e) (inl f) = o.ascend i j a b l e f
  pair i j a b l (inl e) (inr f) = subst (λ y. place a < place y) f.1 (before i a e)
  pair i j a b l (inr e) (inl f) = absurd (omega (arith, l, e.0, slice_get_within xs j b f))
  pair i j a b l (inr e) (inr f) = absurd (omega (arith, l, e.0, f.0))

  low : (i : ℕ) (a : _) → (slice_get xs i ≡ Some a) ⊎ ((i ≡ length xs) × (x ≡ a)) → 2 ≤ place a
  low i a (inl e) = o.behind i a e
  low i a (inr e) = subst (λ y. 2 ≤ place y) e.1 behind

  high : (i : ℕ) (a : _) → (slice_get xs i ≡ Some a) ⊎ ((i ≡ length xs) × (x ≡ a)) → place a < words
  high i a (inl e) = o.inside i a e
  high i a (inr e) = subst (λ y. place y < words) e.1 inside

-- none
pub in_order_none : {X : Type 0} (place : X → ℕ) (words : ℕ) → AreInOrder place words []
in_order_none place words = record { ascend = λ i j a b l e f. cc; behind = λ i a e. cc; inside = λ i a e. cc }

-- a declaration more behind the instructions, and an instruction more behind the declarations
pub declared_apart : (ds : List Declared) (is : List Instruction) (d : Declared) → AreApart ds is → AreBefore (λ i. i.place) is d.place → AreApart (ds ++ d ∷ []) is
declared_apart ds is d apart before i j a x e f = by_part (last_or ds d a i e)
  where
    by_part : (slice_get ds i ≡ Some a) ⊎ ((i ≡ length ds) × (d ≡ a)) → a.place ≡ x.place → ⊥
    by_part (inl h) p = apart i j a x h f p
    by_part (inr h) p = omega (arith, before j x f, ap (λ d. d.place) h.1, p)

pub done_apart : (ds : List Declared) (is : List Instruction) (y : Instruction) → AreApart ds is → AreBefore (λ d. d.place) ds y.place → AreApart ds (is ++ y ∷ [])
done_apart ds is y apart before i j a x e f = by_part (last_or is y x j f)
  where
    by_part : (slice_get is j ≡ Some x) ⊎ ((j ≡ length is) × (y ≡ x)) → a.place ≡ x.place → ⊥
    by_part (inl h) p = apart i j a x e h p
    by_part (inr h) p = omega (arith, before i a e, ap (λ i. i.place) h.1, p)

-- A part stands where it is spelled.
pub declared_at : (at : ℕ) (x : Item) (words : List ℕ) → SpellsItem Base at x words → (k : ℕ) (d : Declared) → slice_get (declarations_in (x ∷ [])) k ≡ Some d → d.place ≡ at
declared_at at (Declares e) words h zero d g = let s : e ≡ d = cc in ap (λ d. d.place) (sym s) ∙ h.0
declared_at at (Declares e) words h (suc k) d g = cc
declared_at at (Types e view) words h k d g = absurd (no_typed e.what view words h.1)
declared_at at (Does i) words h k d g = cc
declared_at at (Lists place values) words h zero d g = let s : place ≡ d.place = cc in sym s ∙ h.0
declared_at at (Lists place values) words h (suc k) d g = cc
declared_at at (Skips kind values) words h k d g = cc

pub done_at : (at : ℕ) (x : Item) (words : List ℕ) → SpellsItem Base at x words → (k : ℕ) (i : Instruction) → slice_get (instructions_in (x ∷ [])) k ≡ Some i → i.place ≡ at
done_at at (Declares d) words h k i g = cc
done_at at (Types d view) words h k i g = cc
done_at at (Does j) words h zero i g = let s : j ≡ i = cc in ap (λ i. i.place) (sym s) ∙ h.0
done_at at (Does j) words h (suc k) i g = cc
done_at at (Lists place values) words h k i g = cc
done_at at (Skips kind values) words h k i g = cc

-- what is in two lists joined is in one of them
joined_or : {X : Type 0} (xs ys : List X) (x : X) (k : ℕ) → slice_get (xs ++ ys) k ≡ Some x → (slice_get xs k ≡ Some x) ⊎ ((j : ℕ) × (slice_get ys j ≡ Some x))
joined_or [] ys x k e = inr (k, e)
joined_or (y ∷ xs) ys x zero e = inl e
joined_or (y ∷ xs) ys x (suc k) e = joined_or xs ys x k e

pub places_more : {X : Type 0} (place : X → ℕ) (xs ys zs : List X) (at end : ℕ) → ys ≡ xs ++ zs → at < end → ((k : ℕ) (x : X) → slice_get xs k ≡ Some x → place x < at)
    → ((k : ℕ) (x : X) → slice_get zs k ≡ Some x → place x ≡ at) → (k : ℕ) (x : X) → slice_get ys k ≡ Some x → place x < end
places_more place xs ys zs at end e l before here k x g = by_part (joined_or xs zs x k (ap (λ l. slice_get l k) (sym e) ∙ g))
  where
    by_part : (slice_get xs k ≡ Some x) ⊎ ((j : ℕ) × (slice_get zs j ≡ Some x)) → place x < end
    by_part (inl h) = omega (arith, l, before k x h)
    by_part (inr h) = omega (arith, l, here h.0 x h.1)
