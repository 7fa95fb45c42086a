use Rattle.std.proofs.Common.{◌+◌, ◌*◌, ◌≤◌, length, arith}
use Rattle.tpf_program.specs.declared.instruction.Instruction.{Instruction}
use Rattle.raise_views.specs.Guards.{IsGuardable}
use Rattle.raise_program.proofs.Grown.{grown_by, of_it}
use Rattle.raise_program.proofs.parts.reaching.Goals as goal

pub guarded-requires-clause-guardable : goal.guarded-requires-clause-guardable
guarded-requires-clause-guardable c =
    of_it c.args.program.now.shader c.args.at.number c.args.at.instruction (IsGuardable c.args.program.now.shader) c.requires.at.there
    (c.requires.at.may.guardable c.requires.guards)

pub guarded-requires-clause-room : goal.guarded-requires-clause-room
guarded-requires-clause-room c =
    of_it c.args.program.now.shader c.args.at.number c.args.at.instruction
    (λ (x : Instruction). length c.args.tree.now.nodes + 16 * x.length ≤ c.args.tree.now.capacity) c.requires.at.there c.requires.room

pub returns-clause-grows : goal.returns-clause-grows
returns-clause-grows c =
    let m = c.guarded.ensures.makes c.args.at.instruction c.requires.at.there in
    let f = c.guarded.ensures.few c.args.at.instruction c.requires.at.there in
    grown_by c.args.tree.now c.guarded.new.tree _ m.extends c.guarded.ensures.rest (omega (arith, f))

pub returns-clause-makes : goal.returns-clause-makes
returns-clause-makes c =
    let m = c.guarded.ensures.makes c.args.at.instruction c.requires.at.there in record { sorted = m.sorted; term = m.term }
