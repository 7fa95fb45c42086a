-- A program has as many words as its declarations, its immediate constants and its instructions take, or more.
use Rattle.std.proofs.Common.{◌≡◌, ℕ, ◌+◌, ◌<◌, ◌≤◌, List, [], ◌∷◌, ◌++◌, length, ap, ◌∙◌, arith, length-append}
use Rattle.std.specs.Prelude.{sum_by}
use Rattle.std.proofs.lemmas.List.Sums.{sum_by-cons}
use Rattle.tpf_decode.specs.Profiles.{Profile, Base}
use Rattle.tpf_decode.specs.declared.argument.Argument.{Argument}
use Rattle.tpf_decode.specs.Spelling as token
use Rattle.tpf_program.specs.Program.{Shader}
use Rattle.tpf_program.specs.declared.instruction.Instruction.{Instruction}
use Rattle.tpf_program.specs.Spelling.{Item, Declares, Types, Does, Lists, Skips, SpellsItems, Spells, declarations_in, instructions_in, constants_in}

lengths : List Instruction → ℕ
lengths code = sum_by (λ i. i.length) code

lengths-cons : (i : Instruction) (code : List Instruction) → lengths (i ∷ code) ≡ i.length + lengths code
unfolding lengths
lengths-cons i code = sum_by-cons (λ i. i.length) i code

-- a declaration has a word
spelled_some : (profile : Profile) (code controls : ℕ) (operands : List Argument) (further words : List ℕ)
    → token.Spells profile code controls operands further words → 0 < length words
spelled_some profile code controls operands further words h =
    let e = ap length h.parts ∙ length-append h.head (h.operands ++ further) in let f = ap length h.tokens.parts in omega (arith, e, f)

abbrev taken : List Item → ℕ
taken xs = length (declarations_in xs) + length (constants_in xs) + lengths (instructions_in xs)

joined : (front rest words : List ℕ) → words ≡ front ++ rest → length words ≡ length front + length rest
joined front rest words e = ap length e ∙ length-append front rest

counted : (profile : Profile) (at : ℕ) (xs : List Item) (words : List ℕ) → SpellsItems profile at xs words → taken xs ≤ length words
unfolding lengths
counted profile at [] words h = omega arith
counted profile at (Declares d ∷ xs) words h =
    let n = counted profile (at + length h.0) xs h.1 h.4 in let s = h.3.1.spelled in
    omega (arith, n, joined h.0 h.1 words h.2, spelled_some profile h.3.1.code h.3.1.controls h.3.1.arguments h.3.1.further h.0 s)
counted profile at (Types d view ∷ xs) words h =
    let n = counted profile (at + length h.0) xs h.1 h.4 in let s = h.3.1.spelled in
    omega (arith, n, joined h.0 h.1 words h.2, spelled_some profile h.3.1.code h.3.1.controls h.3.1.arguments h.3.1.further h.0 s)
counted profile at (Does i ∷ xs) words h =
    let n = counted profile (at + length h.0) xs h.1 h.4 in
    omega (arith, n, joined h.0 h.1 words h.2, h.3.1.size, lengths-cons i (instructions_in xs))
counted profile at (Lists place values ∷ xs) words h =
    let n = counted profile (at + length h.0) xs h.1 h.4 in let v = ap length h.3.1.parts in
    omega (arith, n, joined h.0 h.1 words h.2, v, length-append values (constants_in xs))
counted profile at (Skips kind values ∷ xs) words h =
    let n = counted profile (at + length h.0) xs h.1 h.4 in omega (arith, n, joined h.0 h.1 words h.2)

pub parts_few : (p : Shader) (tokens : List ℕ) → Spells Base p tokens
    → length p.declarations + length p.constants + sum_by (λ i. i.length) p.instructions + 2 ≤ p.words
unfolding lengths
parts_few p tokens h =
    let n = counted Base 2 h.items h.body h.parts in let d = ap length h.declarations in let c = ap length h.constants in
    let i = ap lengths h.instructions in omega (arith, n, d, c, i, h.count)
