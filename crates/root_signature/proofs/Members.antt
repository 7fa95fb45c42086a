-- Members of lists that are mapped or taken.
use Rattle.std.proofs.Common.{◌≡◌, ℕ, zero, suc, ◌+◌, ◌<◌, List, [], ◌∷◌, ◌++◌, length, get_or, map, take, drop, refl, ap, ◌∙◌, subst, arith}
use Rattle.std.specs.Prelude.{Contains}
use Rattle.std.proofs.Math.Seq.{take-append_seam}
use Rattle.std.proofs.Math.ListN.{get_or-map}
use Rattle.std.proofs.lemmas.List.{length-map, take-append-drop, map-append, take_more}
use Rattle.std.proofs.lemmas.List.Elements.{Contains-append_left}
use Rattle.root_signature.specs.declared.covers.Entry.{Entry}
use Rattle.root_signature.specs.Covering.{span_of, spans_of}

pub mapped : {X Y : Type 0} (f : X → Y) (xs : List X) (x : X) → Contains xs x → Contains (map f xs) (f x)
mapped f xs x h = (h.0, omega (arith, h.1, length-map xs f), get_or-map f xs h.0 x ∙ ap f h.2)

pub from_mapped : {X Y : Type 0} (f : X → Y) (xs : List X) (y : Y) → Contains (map f xs) y → (x : X) × (Contains xs x × (f x ≡ y))
from_mapped f [] y h = absurd (omega (arith, h.1))
from_mapped {X} {Y} f (x ∷ xs) y h = at h.0 h.1 h.2 (from_mapped f xs y) where
  at : (k : ℕ) → k < length (map f (x ∷ xs)) → get_or (map f (x ∷ xs)) k y ≡ y → (Contains (map f xs) y → (z : X) × (Contains xs z × (f z ≡ y))) → (z : X) × (Contains (x ∷ xs) z × (f z ≡ y))
  at zero l e r = (x, ((0, omega arith, refl), e))
  at (suc k) l e r =
      let w : (z : X) × (Contains xs z × (f z ≡ y)) = r (k, omega (arith, l), e) in
      (w.0, ((suc w.1.0.0, omega (arith, w.1.0.1), w.1.0.2), w.1.1))

pub taken : {X : Type 0} (xs : List X) (n : ℕ) (x : X) → Contains (take n xs) x → Contains xs x
taken xs n x h = subst (λ ys. Contains ys x) (take-append-drop n xs) (Contains-append_left (take n xs) (drop n xs) x h)

-- the spans with one more entry
pub spans_more : (xs : List Entry) (i : ℕ) (d : Entry) → i < length xs → spans_of (take (i + 1) xs) ≡ spans_of (take i xs) ++ span_of (get_or xs i d) ∷ []
spans_more xs i d l = ap spans_of (take_more xs i d l) ∙ map-append span_of (take i xs) (get_or xs i d ∷ [])

-- a slice that was written back whole
pub written : {X : Type 0} (n : ℕ) (xs ys : List X) → n ≡ length xs → take n (xs ++ ys) ≡ xs
written n xs ys e = ap (λ m. take m (xs ++ ys)) e ∙ take-append_seam xs ys
