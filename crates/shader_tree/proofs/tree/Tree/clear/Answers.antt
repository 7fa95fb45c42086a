use Rattle.std.proofs.Common.{subst, sym}
use Rattle.std.specs.Prelude.{None}
use Rattle.shader_tree.proofs.Making.{IsInvariant, none}
use Rattle.shader_tree.proofs.tree.Tree.clear.Goals as goal

pub invariant_of-self : goal.invariant_of-self
invariant_of-self c = subst (λ p. IsInvariant p.list None) (sym c.clear.ensures) none
