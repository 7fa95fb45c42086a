use Rattle.raise_operands.proofs.Raisable.{in_program}
use Rattle.raise_operands.proofs.laws.program_laws.Goals as goal

pub returns : goal.returns
returns c = record {
  in_program = λ p tokens h k i at.
      in_program p tokens h.spelled h.words h.size h.declared h.used k i at (c.spelled_laws.ensures.operands p tokens h.words h.spelled k i at);
}
