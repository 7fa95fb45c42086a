use Rattle.raise_program.proofs.Known.{guarded_or_computed}
use Rattle.raise_program.proofs.LongEnough.{computed_of, long_of}
use Rattle.raise_program.proofs.raising.may_raise_laws.Goals as goal

pub returns : goal.returns
returns c = λ p h k i e. record {
  known = c.checked_laws.ensures.known p h.tokens h.checked.spelled k i e;
  scalar = c.raisable_laws.ensures.scalar p h.tokens h.checked k i e;
  guardable = λ g. c.guardable_laws.ensures p h.tokens h.checked k i e g;
  raisable = λ g n. c.raisable_laws.ensures.statement p h.tokens h.checked k i e (computed_of _ (guarded_or_computed i.code g) n);
  long = long_of c.count_laws.ensures _ i (c.program_laws.ensures.in_program p h.tokens h.checked k i e).long;
}
