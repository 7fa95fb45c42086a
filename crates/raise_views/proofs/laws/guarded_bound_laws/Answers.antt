use Rattle.raise_views.proofs.Bounding.{bounded_statement}
use Rattle.raise_views.proofs.laws.guarded_bound_laws.Goals as goal

pub returns : goal.returns
returns c p is_null i words within = bounded_statement c.bound_laws.ensures p words is_null i within
