use Rattle.raise_views.proofs.Naming.{quiet_changed, quiet_shape}
use Rattle.raise_views.proofs.laws.quiet_laws.Goals as goal

pub returns-clause-changed : goal.returns-clause-changed
returns-clause-changed c = quiet_changed

pub returns-clause-shown : goal.returns-clause-shown
returns-clause-shown c = quiet_shape
