use Rattle.raise_program.proofs.Advancing.{advances}
use Rattle.raise_program.proofs.laws.advance_laws.Goals as goal

pub returns : goal.returns
returns c = λ p nested g setting parts last x scratch turns u h m w s. advances p nested g setting parts u last x scratch turns h m w s
