use Rattle.std.proofs.Common.{sym, ap, subst, arith, ◌∙◌}
use Rattle.tpf_program.specs.declared.instruction.Instruction.{Instruction}
use Rattle.shader_tree.specs.Terms.{Term}
use Rattle.raise_operands.specs.Raises.{Raises}
use Rattle.raise_operands.specs.Raising.{statement_of}
use Rattle.raise_alu.proofs.Enough.{same_item, words_of_it}
use Rattle.raise_alu.proofs.raising.expressions.Goals as goal

pub statement_of-requires-clause-raisable : goal.statement_of-requires-clause-raisable
statement_of-requires-clause-raisable c = c.requires.raisable _ c.instruction.ensures

pub statement_of-requires-clause-room : goal.statement_of-requires-clause-room
statement_of-requires-clause-room c = c.requires.room _ c.instruction.ensures

pub returns-clause-makes : goal.returns-clause-makes
returns-clause-makes c = λ x e.
    let same = same_item c.args.program.now.shader.instructions c.args.i _ x c.instruction.ensures e in
    let m = c.statement_of.ensures in
    record { extends = m.grows.extends; sorted = m.makes.sorted; term = m.makes.term ∙ ap (λ y. statement_of c.args.program.now.shader y) same }

pub returns-clause-few : goal.returns-clause-few
returns-clause-few c = λ x e.
    let same = same_item c.args.program.now.shader.instructions c.args.i _ x c.instruction.ensures e in
    let r = c.requires.raisable x e in
    let long = words_of_it _ x r.long in
    let l = ap (λ (y : Instruction). y.length) same in
    omega (arith, c.statement_of.ensures.grows.few, l, long)

pub returns-clause-raises : goal.returns-clause-raises
returns-clause-raises c = λ x e.
    let same = same_item c.args.program.now.shader.instructions c.args.i _ x c.instruction.ensures e in
    let t = c.statement_of.ensures.makes.term ∙ ap (λ y. statement_of c.args.program.now.shader y) same in
    let owed = c.raised_laws.ensures.statement _ x (c.requires.raisable x e) in
    let P : Term → Type 0 = λ y. Raises c.args.program.now.shader x y in
    subst P (sym t) owed
