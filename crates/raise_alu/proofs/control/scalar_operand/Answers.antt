use Rattle.std.proofs.Common.{sym, ap, subst, ◌∙◌}
use Rattle.shader_tree.specs.Terms.{Term, term_at}
use Rattle.raise_operands.specs.Raises.{RaisesScalar}
use Rattle.raise_operands.specs.Raising.{scalar_front, scalar_word}
use Rattle.raise_alu.proofs.Enough.{same_item}
use Rattle.raise_alu.proofs.control.scalar_operand.Goals as goal

pub scalar_of-requires-clause-few : goal.scalar_of-requires-clause-few
scalar_of-requires-clause-few c = c.count_laws.ensures.few _ (c.requires.scalar _ c.instruction-instruction.ensures).spaces

pub scalar_of-requires-clause-range : goal.scalar_of-requires-clause-range
scalar_of-requires-clause-range c = (c.requires.scalar _ c.instruction-instruction.ensures).o0

pub returns-clause-front : goal.returns-clause-front
unfolding scalar_front
returns-clause-front c = λ x e.
    let same = same_item c.args.program.now.shader.instructions c.args.i _ x c.instruction-instruction.ensures e in
    let m = c.scalar_of.ensures in
    record { extends = m.grows.extends; sorted = m.front.sorted; term = m.front.term ∙ ap (λ y. scalar_front c.args.program.now.shader y) same }

pub returns-clause-word : goal.returns-clause-word
unfolding scalar_word
returns-clause-word c = λ x e.
    let same = same_item c.args.program.now.shader.instructions c.args.i _ x c.instruction-instruction.ensures e in
    let m = c.scalar_of.ensures in
    record { extends = m.grows.extends; sorted = m.word.sorted; term = m.word.term ∙ ap (λ y. scalar_word c.args.program.now.shader y) same }

pub returns-clause-raises : goal.returns-clause-raises
unfolding scalar_front scalar_word
returns-clause-raises c = λ x e.
    let p = c.args.program.now.shader in
    let same = same_item p.instructions c.args.i _ x c.instruction-instruction.ensures e in
    let front = c.scalar_of.ensures.front.term ∙ ap (λ y. scalar_front p y) same in
    let word = c.scalar_of.ensures.word.term ∙ ap (λ y. scalar_word p y) same in
    let owed = c.raised_laws.ensures.scalar _ x (c.requires.scalar x e) in
    let P : Term → Type 0 = λ y. RaisesScalar p x y (scalar_word p x) in
    let Q : Term → Type 0 = λ y. RaisesScalar p x (term_at c.scalar_of.new.tree.nodes c.scalar_of.result.front) y in
    subst Q (sym word) (subst P (sym front) owed)
