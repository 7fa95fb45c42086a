-- Ranges of words.
use Rattle.std.proofs.Common.{◌≡◌, ℕ, suc, ◌+◌, ◌-◌, ◌<◌, ◌≤◌, List, [], ◌∷◌, ◌++◌, length, take, drop, ap, ◌∙◌, arith}
use Rattle.std.specs.Prelude.{slice_range, slice_index}
use Rattle.std.proofs.Math.Seq.{drop-cons, take-add}
use Rattle.std.proofs.lemmas.List.{drop-drop, length-take, length-drop}

-- an empty range
pub range_none : (words : List ℕ) (at : ℕ) → slice_range words at at ≡ []
range_none words at =
    let e : at - at ≡ 0 = omega arith in
    ap (λ k. take k (drop at words)) e

-- the first word of a range, and the others
pub range_cons : (words : List ℕ) (at end : ℕ) → at < end → end ≤ length words → slice_range words at end ≡ slice_index words at ∷ slice_range words (at + 1) end
range_cons words at end h k =
    let l : at < length words = omega arith in
    let e : end - at ≡ suc (end - (at + 1)) = omega arith in
    let g : suc at ≡ at + 1 = omega arith in
    ap (λ n. take n (drop at words)) e ∙ (ap (take (suc (end - (at + 1)))) (drop-cons words at 0 l) ∙ ap (λ n. slice_index words at ∷ take (end - (at + 1)) (drop n words)) g)

-- a range of one word
pub range_one : (words : List ℕ) (at : ℕ) → at < length words → slice_range words at (at + 1) ≡ slice_index words at ∷ []
range_one words at h =
    range_cons words at (at + 1) (omega arith) (omega arith) ∙ ap (λ l. slice_index words at ∷ l) (range_none words (at + 1))

-- two ranges, one behind the other
pub range_split : (words : List ℕ) (at middle end : ℕ) → at ≤ middle → middle ≤ end → slice_range words at end ≡ slice_range words at middle ++ slice_range words middle end
range_split words at middle end h k =
    let e : end - at ≡ (middle - at) + (end - middle) = omega arith in
    let g : at + (middle - at) ≡ middle = omega arith in
    ap (λ n. take n (drop at words)) e ∙ (take-add (middle - at) (end - middle) (drop at words)
    ∙ ap (λ l. take (middle - at) (drop at words) ++ take (end - middle) l) (drop-drop (middle - at) at words ∙ ap (λ n. drop n words) g))

pub length-range : (words : List ℕ) (at end : ℕ) → end ≤ length words → length (slice_range words at end) ≡ end - at
length-range words at end h = omega (arith, length-take (end - at) (drop at words), length-drop at words)
