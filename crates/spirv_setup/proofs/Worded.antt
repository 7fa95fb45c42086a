-- The immediate constants of a spelled program are words.
use Rattle.std.proofs.Common.{ℕ, zero, suc, ◌+◌, ◌<◌, ◌^◌, List, [], ◌∷◌, ◌++◌, length, sym, subst, arith}
use Rattle.std.specs.Prelude.{slice_index}
use Rattle.word_base.specs.Words.{AreWords}
use Rattle.tpf_decode.specs.Profiles.{Base}
use Rattle.tpf_program.specs.Program.{Shader}
use Rattle.tpf_program.specs.Spelling.{Item, Declares, Types, Does, Lists, Skips, SpellsItems, Spells, constants_in}

-- each number of a list is a word
AllWords : List ℕ → Type 0
AllWords [] = Unit {0}
AllWords (w ∷ words) = (w < 2 ^ 32) × AllWords words

all_words : (words : List ℕ) → AreWords words → AllWords words
unfolding AllWords
all_words [] h = tt
all_words (w ∷ words) h = (h 0, all_words words (λ k. shifted k))
  where
    shifted : (k : ℕ) → slice_index words k < 2 ^ 32
    shifted k = h (suc k)

word_of : (words : List ℕ) → AllWords words → (k : ℕ) → slice_index words k < 2 ^ 32
unfolding AllWords
word_of [] h k = omega arith
word_of (w ∷ words) h zero = h.0
word_of (w ∷ words) h (suc k) = word_of words h.1 k

words_left : (xs ys : List ℕ) → AllWords (xs ++ ys) → AllWords xs
unfolding AllWords
words_left [] ys h = tt
words_left (x ∷ xs) ys h = (h.0, words_left xs ys h.1)

words_right : (xs ys : List ℕ) → AllWords (xs ++ ys) → AllWords ys
unfolding AllWords
words_right [] ys h = h
words_right (x ∷ xs) ys h = words_right xs ys h.1

words_both : (xs ys : List ℕ) → AllWords xs → AllWords ys → AllWords (xs ++ ys)
unfolding AllWords
words_both [] ys h k = k
words_both (x ∷ xs) ys h k = (h.0, words_both xs ys h.1 k)

items_listed : (at : ℕ) (items : List Item) (words : List ℕ) → SpellsItems Base at items words → AllWords words
    → AllWords (constants_in items)
unfolding AllWords
items_listed at [] words s h = tt
items_listed at (Declares d ∷ xs) words s h =
    items_listed (at + length s.0) xs s.1 s.4 (words_right s.0 s.1 (subst AllWords s.2 h))
items_listed at (Types d view ∷ xs) words s h =
    items_listed (at + length s.0) xs s.1 s.4 (words_right s.0 s.1 (subst AllWords s.2 h))
items_listed at (Does i ∷ xs) words s h =
    items_listed (at + length s.0) xs s.1 s.4 (words_right s.0 s.1 (subst AllWords s.2 h))
items_listed at (Skips kind values ∷ xs) words s h =
    items_listed (at + length s.0) xs s.1 s.4 (words_right s.0 s.1 (subst AllWords s.2 h))
items_listed at (Lists place values ∷ xs) words s h =
    let w = subst AllWords s.2 h in
    words_both values (constants_in xs) (subst AllWords s.3.1.parts (words_left s.0 s.1 w)).1.1
    (items_listed (at + length s.0) xs s.1 s.4 (words_right s.0 s.1 w))

pub constants_are : (p : Shader) (tokens : List ℕ) → AreWords tokens → Spells Base p tokens → AreWords p.constants
unfolding AllWords
constants_are p tokens h s =
    let w = words_left s.body s.ignored ((subst AllWords s.whole (all_words tokens h)).1.1) in
    word_of p.constants (subst AllWords (sym s.constants) (items_listed 2 s.items s.body s.parts w))
