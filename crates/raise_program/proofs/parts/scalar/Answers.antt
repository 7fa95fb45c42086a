use Rattle.raise_operands.specs.Raises.{IsScalar}
use Rattle.raise_program.proofs.Grown.{grown_by, of_it}
use Rattle.raise_program.proofs.parts.scalar.Goals as goal

pub scalar_operand-requires-clause-scalar : goal.scalar_operand-requires-clause-scalar
scalar_operand-requires-clause-scalar c =
    of_it c.args.program.now.shader c.args.at.number c.args.at.instruction (IsScalar c.args.program.now.shader) c.requires.at.there
    c.requires.at.may.scalar

pub returns-clause-grows : goal.returns-clause-grows
returns-clause-grows c =
    let m = c.scalar_operand.ensures.front c.args.at.instruction c.requires.at.there in
    grown_by c.args.tree.now c.scalar_operand.new.tree 21 m.extends c.scalar_operand.ensures.rest c.scalar_operand.ensures.few

pub returns-clause-front : goal.returns-clause-front
returns-clause-front c =
    let m = c.scalar_operand.ensures.front c.args.at.instruction c.requires.at.there in record { sorted = m.sorted; term = m.term }

pub returns-clause-word : goal.returns-clause-word
returns-clause-word c =
    let m = c.scalar_operand.ensures.word c.args.at.instruction c.requires.at.there in record { sorted = m.sorted; term = m.term }
