-- The lines that are written to the stream of errors.
use Rattle.std.specs.Prelude.{◌≡◌, ℕ, List, ◌++◌, flat_map, codes, refl}
use Rattle.std.specs.Borrow.{Bor}
use Rattle.std.specs.Fmt.{decimal, digits}
use Rattle.word_base.specs.declared.rule.Refusal.{Refusal}
use Rattle.word_base.specs.declared.rule.Rule.TheVariants.{C1, M1}
use Rattle.word_base.specs.Rules.{name_of, refusal, text_of}

abbrev pub refusal_line : Refusal → List ℕ
refusal_line r =
    codes "vkd3d-compiler: "
    ++ (name_of r.rule ++ (codes " at " ++ (decimal r.place ++ (codes ": " ++ (text_of r.rule ++ codes "\n")))))

abbrev pub usage_line : List ℕ
usage_line = codes "vkd3d-compiler: wrong words\n"

abbrev pub fault_line : List ℕ
fault_line = codes "vkd3d-compiler: outside fault\n"

abbrev pub memory_line : List ℕ
memory_line = codes "vkd3d-compiler: no memory\n"

-- the parts of a line, one after the other
abbrev pub joined : List (Bor (List ℕ)) → List ℕ
joined pieces = flat_map (λ p. p.now) pieces

-- Examples: an empty input, and one of a byte too many.
pub empty_input : refusal_line (refusal C1 0) ≡ codes "vkd3d-compiler: C1 at 0: container shorter than 32 bytes\n"
unfolding digits
empty_input = refl

pub too_large : refusal_line (refusal M1 16777216) ≡ codes "vkd3d-compiler: M1 at 16777216: file too large\n"
unfolding digits
too_large = refl
