use Rattle.dispatch_machine.specs.declared.lane.Next.TheVariants as next
use Rattle.dispatch_machine.proofs.FoundRuns.{exactly, ended_again, wrong_again}
use Rattle.dispatch_machine.proofs.laws.lane_laws.Goals as goal

pub returns-clause-event : goal.returns-clause-event
returns-clause-event g c = λ step fuel k s e at. exactly step fuel s (next.Event e) k at

pub returns-clause-ended : goal.returns-clause-ended
returns-clause-ended g c = λ step fuel k s at. exactly step fuel s next.Ended k at

pub returns-clause-wrong : goal.returns-clause-wrong
returns-clause-wrong g c = λ step fuel k s w at. exactly step fuel s (next.Wrong w) k at

pub returns-clause-spinning : goal.returns-clause-spinning
returns-clause-spinning g c = λ step fuel k s at. exactly step fuel s next.Spinning k at

pub returns-clause-ended_again : goal.returns-clause-ended_again
returns-clause-ended_again g c = ended_again

pub returns-clause-wrong_again : goal.returns-clause-wrong_again
returns-clause-wrong_again g c = wrong_again
