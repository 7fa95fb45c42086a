-- Lists in pieces.
use Rattle.std.proofs.Common.{◌≡◌, Option, ℕ, ◌+◌, ◌-◌, ◌*◌, ◌≤◌, List, [], ◌∷◌, ◌++◌, length, take, drop, refl, sym}
use Rattle.std.proofs.Common.{ap, ◌∙◌, subst, arith, length-append, length-drop}
use Rattle.std.proofs.Math.Seq.{take-add}
use Rattle.std.proofs.lemmas.List.{take_rest, take-append-drop, length-take-le}
use Rattle.word_base.specs.Words.{bytes_of, bytes_of_word}
use Rattle.outside.specs.Causes.{Gained, GainedPart}
use Rattle.outside.proofs.Lasting.{gained_twice}
use Rattle.compiler_cli.proofs.Fronts.{part_before, part_behind}

-- the rest of a slice, as code writes it
pub rest_is : (xs : List ℕ) (n k : ℕ) → take n xs ++ take k (take (length xs - n) (drop n xs)) ≡ take (n + k) xs
rest_is xs n k = ap (λ ys. take n xs ++ take k ys) (take_rest xs n) ∙ sym (take-add n k xs)

-- a range of a slice
pub range_is : (xs : List ℕ) (n end : ℕ) → n ≤ end → take n xs ++ take (end - n) (drop n xs) ≡ take end xs
range_is xs n end h = let e : n + (end - n) ≡ end = omega arith in sym (take-add n (end - n) xs) ∙ ap (λ m. take m xs) e

pub range_length : (xs : List ℕ) (n end : ℕ) → n ≤ end → end ≤ length xs → length (take (end - n) (drop n xs)) ≡ end - n
range_length xs n end h k = let d : length (drop n xs) ≡ length xs - n = length-drop n xs in length-take-le (end - n)
    (drop n xs) (omega (arith, d, h, k))

-- ---- the bytes of words

pub bytes_length : (words : List ℕ) → length (bytes_of words) ≡ 4 * length words
bytes_length [] = refl
bytes_length (x ∷ words) =
    let l : length (bytes_of_word x ++ bytes_of words) ≡ 4 + length (bytes_of words) = length-append (bytes_of_word x)
    (bytes_of words) in
    omega (arith, l, bytes_length words)

-- ---- bytes written one piece after the other

pub gained_piece : (old mid new : Option (List ℕ)) (bytes piece : List ℕ) (n count : ℕ)
    → take count piece ≡ take count (drop n bytes) → Gained old mid (take n bytes) → Gained mid new (take count piece)
    → Gained old new (take (n + count) bytes)
gained_piece old mid new bytes piece n count filled g h =
    subst (Gained old new) (sym (take-add n count bytes))
    (gained_twice old mid new (take n bytes) (take count (drop n bytes)) g (subst (Gained mid new) filled h))

pub part_piece : (old mid new : Option (List ℕ)) (bytes piece : List ℕ) (n count : ℕ)
    → take count piece ≡ take count (drop n bytes) → Gained old mid (take n bytes)
    → GainedPart mid new (take count piece)
    → GainedPart old new bytes
part_piece old mid new bytes piece n count filled g h =
    let part : GainedPart mid new (take count (drop n bytes)) = subst (GainedPart mid new) filled h in
    let rest : GainedPart mid new (take count (drop n bytes) ++ drop count (drop n bytes)) =
    part_before mid new (take count (drop n bytes)) (drop count (drop n bytes)) part in
    let behind : GainedPart mid new (drop n bytes) = subst (GainedPart mid new)
    (take-append-drop count (drop n bytes)) rest in
    subst (GainedPart old new) (take-append-drop n bytes)
    (part_behind old mid new (take n bytes) (drop n bytes) g behind)
