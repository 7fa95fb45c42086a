use Rattle.std.proofs.Common.{◌≡◌, List, [], ◌∷◌, ◌++◌, length, Some, refl, ap, ◌∙◌}
use Rattle.std.specs.Prelude.{slice_get}
use Rattle.tpf_program.specs.declared.instruction.Instruction.{Instruction}
use Rattle.shader_check.specs.Statements.{flattened}
use Rattle.raise_program.proofs.Strides.{program_of_words}
use Rattle.raise_program.proofs.trees.program_word_laws.Goals as goal

last_there : (xs : List Instruction) (i : Instruction) → slice_get (xs ++ i ∷ []) (length xs) ≡ Some i
last_there [] i = refl
last_there (x ∷ xs) i = last_there xs i

pub returns-clause-program : goal.returns-clause-program
returns-clause-program c = λ p tokens checked sound.
    let laws = c.checked_laws.ensures in
    let nested = laws.nested p (laws.known p tokens checked.spelled) sound in
    let at = ap (λ is. slice_get is (length (flattened nested.front))) nested.flat ∙ last_there (flattened nested.front) nested.last in
    let i = c.program_laws.ensures.in_program p tokens checked (length (flattened nested.front)) nested.last at in
    program_of_words p i.words (laws.declared p sound)

pub returns-clause-instructions : goal.returns-clause-instructions
returns-clause-instructions c = λ p tokens checked k i at. (c.program_laws.ensures.in_program p tokens checked k i at).immediates
