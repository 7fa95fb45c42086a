-- The instructions of a program that words spell are together at most as long as these words, without the two tokens in
-- front.
use Rattle.std.proofs.Common.{◌≡◌, ℕ, ◌+◌, ◌≤◌, List, [], ◌∷◌, ◌++◌, length, ap, ◌∙◌, arith, length-append}
use Rattle.std.proofs.lemmas.List.Sums.{sum_by-cons}
use Rattle.tpf_decode.specs.Profiles.{Profile, Base}
use Rattle.tpf_program.specs.Program.{Shader}
use Rattle.raise_program.specs.TreeOf.{lengths}
use Rattle.tpf_program.specs.Spelling.{Item, Declares, Types, Does, Lists, Skips, SpellsItems, Spells, instructions_in}

abbrev AreShort : Profile → ℕ → List Item → List ℕ → Type 0
AreShort profile at xs words = SpellsItems profile at xs words → lengths (instructions_in xs) ≤ length words

longer : (front rest words : List ℕ) (n : ℕ) → words ≡ front ++ rest → n ≤ length rest → n ≤ length words
longer front rest words n e h = let k = ap length e ∙ length-append front rest in omega (arith, k, h)

longer_by : (front rest words : List ℕ) (m n k : ℕ) → words ≡ front ++ rest → m ≡ length front → n ≤ length rest → k ≡ m + n → k ≤ length words
longer_by front rest words m n k e f h g = let l = ap length e ∙ length-append front rest in omega (arith, l, h, f, g)

short : (profile : Profile) (at : ℕ) (xs : List Item) (words : List ℕ) → AreShort profile at xs words
short profile at [] words h = omega arith
short profile at (Declares d ∷ xs) words h = longer h.0 h.1 words _ h.2 (short profile (at + length h.0) xs h.1 h.4)
short profile at (Types d view ∷ xs) words h = longer h.0 h.1 words _ h.2 (short profile (at + length h.0) xs h.1 h.4)
short profile at (Does i ∷ xs) words h =
    longer_by h.0 h.1 words i.length _ (lengths (i ∷ instructions_in xs)) h.2 h.3.1.size (short profile (at + length h.0) xs h.1 h.4)
    (sum_by-cons (λ i. i.length) i (instructions_in xs))
short profile at (Lists place values ∷ xs) words h = longer h.0 h.1 words _ h.2 (short profile (at + length h.0) xs h.1 h.4)
short profile at (Skips kind values ∷ xs) words h = longer h.0 h.1 words _ h.2 (short profile (at + length h.0) xs h.1 h.4)

pub lengths_few : (p : Shader) (tokens : List ℕ) → Spells Base p tokens → lengths p.instructions + 2 ≤ p.words
lengths_few p tokens h =
    let few = short Base 2 h.items h.body h.parts in let same = ap lengths h.instructions in omega (arith, few, same, h.count)
