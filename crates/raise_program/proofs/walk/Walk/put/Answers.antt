use Rattle.raise_program.proofs.Kept.{stack_on}
use Rattle.raise_program.proofs.walk.Walk.put.Goals as goal

pub returns-clause-walk : goal.returns-clause-walk
returns-clause-walk c = record {
  here = c.stmt-self.ensures.makes;
  around = stack_on c.growing_laws.ensures _ _ c.stmt-self.ensures.grows.extends _ _ c.requires.walk.around;
}
