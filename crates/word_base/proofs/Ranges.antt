-- The words of bytes are words.
use Rattle.std.proofs.Common.{ℕ, zero, suc, ◌<◌, ◌^◌, List, [], ◌∷◌, arith}
use Rattle.std.specs.Prelude.{slice_index}
use Rattle.word_base.specs.Words.{words_of, AreBytes, AreWords}

none : (k : ℕ) → slice_index [] k < 2 ^ 32
none k = omega arith

pub words_are : (bytes : List ℕ) → AreBytes bytes → AreWords (words_of bytes)
words_are [] h k = none k
words_are (a ∷ []) h k = none k
words_are (a ∷ b ∷ []) h k = none k
words_are (a ∷ b ∷ c ∷ []) h k = none k
words_are (a ∷ b ∷ c ∷ d ∷ rest) h zero = omega (arith, h 0, h 1, h 2, h 3)
words_are (a ∷ b ∷ c ∷ d ∷ rest) h (suc k) = words_are rest (λ i. h (suc (suc (suc (suc i))))) k
