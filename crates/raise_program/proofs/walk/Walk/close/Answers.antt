use Rattle.raise_program.proofs.Kept.{entered}
use Rattle.raise_program.proofs.walk.Walk.close.Goals as goal

pub returns-clause-walk : goal.returns-clause-walk
returns-clause-walk c = record {
  here = c.stmt-self.ensures.makes;
  around = entered c.growing_laws.ensures _ _ c.stmt-self.ensures.grows.extends _ _ _ _ _
      (record { behind = c.requires.walk.here; other = tt }) c.requires.walk.around c.enter.ensures.around;
}
