use Rattle.std.proofs.Common.{sym, ap, arith, ◌∙◌}
use Rattle.raise_operands.specs.Raising.{raised, statement_of}
use Rattle.raise_operands.specs.Vectors.{spaces_of}
use Rattle.raise_alu.proofs.Enough.{enough_of}
use Rattle.raise_alu.proofs.raising.statement_of.Goals as goal

pub raised-requires-clause-few : goal.raised-requires-clause-few
raised-requires-clause-few c = c.count_laws.ensures.few _ c.requires.raisable.spaces

pub raised-requires-clause-room : goal.raised-requires-clause-room
raised-requires-clause-room c =
    let e = sym c.instruction_meaning.ensures ∙ c.in-Some.is in
    let n = enough_of c.count_laws.ensures _ c.in-Some.meaning c.args.instruction e c.requires.raisable.computes c.requires.raisable.long in
    omega (arith, n, c.requires.room)

pub returns-in-Some-clause-grows : goal.returns-in-Some-clause-grows
returns-in-Some-clause-grows c =
    let e = sym c.instruction_meaning.ensures ∙ c.in-Some.is in
    let n = enough_of c.count_laws.ensures _ c.in-Some.meaning c.args.instruction e c.requires.raisable.computes c.requires.raisable.long in
    c.growing_laws.ensures.grows_more _ _ _ _ c.raised.ensures.grows (omega (arith, n))

pub returns-in-Some-clause-makes : goal.returns-in-Some-clause-makes
unfolding statement_of
returns-in-Some-clause-makes c =
    let e = sym c.instruction_meaning.ensures ∙ c.in-Some.is in
    c.growing_laws.ensures.as_term _ _ _ _ _ c.raised.ensures.makes (ap (λ o. raised (spaces_of c.args.program.now.shader) o c.args.instruction)
    (sym e))
