use Rattle.raise_operands.proofs.Raisable.{raisable, scalar_raisable}
use Rattle.raise_operands.proofs.laws.raisable_laws.Goals as goal

pub returns-clause-statement : goal.returns-clause-statement
returns-clause-statement c p tokens h k i at computes =
    raisable p tokens h.spelled h.words h.size h.declared h.used k i at (c.spelled_laws.ensures.operands p tokens h.words h.spelled k i at) computes

pub returns-clause-scalar : goal.returns-clause-scalar
returns-clause-scalar c p tokens h k i at =
    scalar_raisable p tokens h.spelled h.words h.size h.declared h.used k i at (c.spelled_laws.ensures.operands p tokens h.words h.spelled k i at)
