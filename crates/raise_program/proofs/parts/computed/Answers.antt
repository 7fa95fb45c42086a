use Rattle.std.proofs.Common.{◌+◌, ◌*◌, ◌≤◌, length, arith}
use Rattle.tpf_program.specs.declared.instruction.Instruction.{Instruction}
use Rattle.raise_operands.specs.Raises.{IsRaisable}
use Rattle.raise_program.proofs.Grown.{grown_by, of_it}
use Rattle.raise_program.proofs.parts.computed.Goals as goal

pub expressions-requires-clause-raisable : goal.expressions-requires-clause-raisable
expressions-requires-clause-raisable c =
    of_it c.args.program.now.shader c.args.at.number c.args.at.instruction (IsRaisable c.args.program.now.shader) c.requires.at.there
    (c.requires.at.may.raisable c.requires.goes_on c.requires.computes)

pub expressions-requires-clause-room : goal.expressions-requires-clause-room
expressions-requires-clause-room c =
    of_it c.args.program.now.shader c.args.at.number c.args.at.instruction
    (λ (x : Instruction). length c.args.tree.now.nodes + 16 * x.length ≤ c.args.tree.now.capacity) c.requires.at.there c.requires.room

pub returns-clause-grows : goal.returns-clause-grows
returns-clause-grows c =
    let m = c.expressions.ensures.makes c.args.at.instruction c.requires.at.there in
    let f = c.expressions.ensures.few c.args.at.instruction c.requires.at.there in
    grown_by c.args.tree.now c.expressions.new.tree _ m.extends c.expressions.ensures.rest (omega (arith, f))

pub returns-clause-makes : goal.returns-clause-makes
returns-clause-makes c =
    let m = c.expressions.ensures.makes c.args.at.instruction c.requires.at.there in record { sorted = m.sorted; term = m.term }
