use Rattle.raise_program.proofs.Moves.{move_stays, settles}
use Rattle.raise_program.proofs.SameSteps.{is_spot, same_step}
use Rattle.raise_program.proofs.Following.{follows}
use Rattle.raise_program.proofs.Leaving.{some_left, some_renewed}
use Rattle.raise_program.proofs.laws.spot_laws.Goals as goal

pub returns-clause-stands : goal.returns-clause-stands
returns-clause-stands c = is_spot

pub returns-clause-moves : goal.returns-clause-moves
returns-clause-moves c = move_stays

pub returns-clause-settles : goal.returns-clause-settles
returns-clause-settles c = λ x. let s = settles x in (s.n, s.to, s.moves, s.settled)

pub returns-clause-steps : goal.returns-clause-steps
returns-clause-steps c = same_step

pub returns-clause-follows : goal.returns-clause-follows
returns-clause-follows c = follows

pub returns-clause-breaks : goal.returns-clause-breaks
returns-clause-breaks c = some_left

pub returns-clause-continues : goal.returns-clause-continues
returns-clause-continues c = some_renewed
