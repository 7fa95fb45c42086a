use Rattle.std.proofs.Common.{subst, sym}
use Rattle.std.specs.Prelude.{None}
use Rattle.shader_tree.proofs.Making.{IsInvariant, none}
use Rattle.shader_tree.proofs.tree.Tree.make.Goals as goal

pub invariant_of-result : goal.invariant_of-result
invariant_of-result c = subst (λ p. IsInvariant p.list None) (sym c.in_ok-nodes.ensures) none
