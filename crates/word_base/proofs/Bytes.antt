-- Words are their bytes.
use Rattle.std.proofs.Common.{◌≡◌, ℕ, zero, suc, ◌+◌, ◌*◌, ◌/◌, ◌%◌, ◌<◌, ◌≤◌, ◌^◌, List, [], ◌∷◌, length, refl, sym, ap, ◌∙◌, arith}
use Rattle.std.specs.Prelude.{slice_index}
use Rattle.word_base.specs.Words.{word_at, words_of, bytes_of, AreWords, AreBytes}

one_word : (w : ℕ) → w < 2 ^ 32 → w % 256 + 256 * (w / 256 % 256) + 65536 * (w / 65536 % 256) + 16777216 * (w / 16777216 % 256) ≡ w
one_word w h = omega arith

pub words_back : (words : List ℕ) → AreWords words → words_of (bytes_of words) ≡ words
words_back [] h = refl
words_back (w ∷ ws) h = rw (one_word w (h 0)) (ap (λ l. w ∷ l) (words_back ws (λ k. h (suc k))))

-- the bytes of a word of four bytes
lowest : (a b c d : ℕ) → a < 256 → (a + 256 * b + 65536 * c + 16777216 * d) % 256 ≡ a
lowest a b c d ha = omega arith

second : (a b c d : ℕ) → a < 256 → b < 256 → (a + 256 * b + 65536 * c + 16777216 * d) / 256 % 256 ≡ b
second a b c d ha hb = omega arith

third : (a b c d : ℕ) → a < 256 → b < 256 → c < 256 → (a + 256 * b + 65536 * c + 16777216 * d) / 65536 % 256 ≡ c
third a b c d ha hb hc = omega arith

highest : (a b c d : ℕ) → a < 256 → b < 256 → c < 256 → d < 256 → (a + 256 * b + 65536 * c + 16777216 * d) / 16777216 % 256 ≡ d
highest a b c d ha hb hc hd = omega arith

pub bytes_back : (bytes : List ℕ) (n : ℕ) → AreBytes bytes → length bytes ≡ 4 * n → bytes_of (words_of bytes) ≡ bytes
bytes_back [] n h e = refl
bytes_back (a ∷ []) n h e = absurd (omega arith)
bytes_back (a ∷ b ∷ []) n h e = absurd (omega arith)
bytes_back (a ∷ b ∷ c ∷ []) n h e = absurd (omega arith)
bytes_back (a ∷ b ∷ c ∷ d ∷ rest) zero h e = absurd (omega arith)
bytes_back (a ∷ b ∷ c ∷ d ∷ rest) (suc n) h e =
    rw (lowest a b c d (h 0), second a b c d (h 0) (h 1), third a b c d (h 0) (h 1) (h 2), highest a b c d (h 0) (h 1) (h 2) (h 3))
    (ap (λ l. a ∷ (b ∷ (c ∷ (d ∷ l)))) (bytes_back rest n (λ k. h (suc (suc (suc (suc k))))) (omega arith)))

pub bytes_length : (words : List ℕ) → length (bytes_of words) ≡ 4 * length words
bytes_length [] = refl
bytes_length (w ∷ ws) = omega (arith, bytes_length ws)

pub words_length : (bytes : List ℕ) → length (words_of bytes) ≡ length bytes / 4
words_length [] = refl
words_length (a ∷ []) = refl
words_length (a ∷ b ∷ []) = refl
words_length (a ∷ b ∷ c ∷ []) = refl
words_length (a ∷ b ∷ c ∷ d ∷ rest) = omega (arith, words_length rest)

-- the bytes behind the first four
behind : (a b c d : ℕ) (rest : List ℕ) (m n : ℕ) → m ≡ suc (suc (suc (suc n))) → slice_index (a ∷ b ∷ c ∷ d ∷ rest) m ≡ slice_index rest n
behind a b c d rest m n e = ap (slice_index (a ∷ b ∷ c ∷ d ∷ rest)) e

word_behind : (a b c d : ℕ) (rest : List ℕ) (i : ℕ) → word_at (a ∷ b ∷ c ∷ d ∷ rest) (suc i) ≡ word_at rest i
word_behind a b c d rest i =
    let p = behind a b c d rest (4 * suc i) (4 * i) (omega arith) in
    let q = behind a b c d rest (4 * suc i + 1) (4 * i + 1) (omega arith) in
    let r = behind a b c d rest (4 * suc i + 2) (4 * i + 2) (omega arith) in
    let s = behind a b c d rest (4 * suc i + 3) (4 * i + 3) (omega arith) in
    omega (arith, p, q, r, s)

pub word_of : (bytes : List ℕ) (i : ℕ) → 4 * i + 4 ≤ length bytes → slice_index (words_of bytes) i ≡ word_at bytes i
word_of [] i h = absurd (omega arith)
word_of (a ∷ []) i h = absurd (omega arith)
word_of (a ∷ b ∷ []) i h = absurd (omega arith)
word_of (a ∷ b ∷ c ∷ []) i h = absurd (omega arith)
word_of (a ∷ b ∷ c ∷ d ∷ rest) zero h = refl
word_of (a ∷ b ∷ c ∷ d ∷ rest) (suc i) h = word_of rest i (omega arith) ∙ sym (word_behind a b c d rest i)
