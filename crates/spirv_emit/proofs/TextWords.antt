-- The words of a finished module are words, where all that the emitter holds are.
use Rattle.std.proofs.Common.{ℕ, zero, suc, List, [], ◌∷◌, ◌++◌, arith}
use Rattle.std.specs.Prelude.{take, drop}
use Rattle.word_base.specs.Words.{AreWords}
use Rattle.spirv_emit.specs.Finished.{text_of}

behind : (n : ℕ) (xs : List ℕ) → AreWords xs → AreWords (drop n xs)
behind zero xs are = are
behind (suc n) [] are = are
behind (suc n) (x ∷ xs) are = behind n xs (λ k. are (suc k))

in_front : (n : ℕ) (xs : List ℕ) → AreWords xs → AreWords (take n xs)
in_front zero xs are k = omega arith
in_front (suc n) [] are k = omega arith
in_front (suc n) (x ∷ xs) are zero = are 0
in_front (suc n) (x ∷ xs) are (suc k) = in_front n xs (λ i. are (suc i)) k

joined : (xs ys : List ℕ) → AreWords xs → AreWords ys → AreWords (xs ++ ys)
joined [] ys a b k = b k
joined (x ∷ xs) ys a b zero = a 0
joined (x ∷ xs) ys a b (suc k) = joined xs ys (λ i. a (suc i)) b k

pub text_words : (body : ℕ) (xs : List ℕ) → AreWords xs → AreWords (text_of body xs)
text_words body xs are = joined (drop body xs) (take body xs) (behind body xs are) (in_front body xs are)
