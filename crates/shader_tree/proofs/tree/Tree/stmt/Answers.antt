use Rattle.std.proofs.Common.{refl, subst, sym, ap}
use Rattle.std.specs.Prelude.{IsTrue}
use Rattle.shader_tree.specs.declared.node.Node.TheVariants as node
use Rattle.shader_tree.specs.Nodes.{fits}
use Rattle.shader_tree.specs.Terms.{Adds}
use Rattle.shader_tree.proofs.Making.{added, adds}
use Rattle.shader_tree.proofs.tree.Tree.stmt.Goals as goal

pub invariant_of-self : goal.invariant_of-self
invariant_of-self c =
    let seen = sym (ap (λ t. t.nodes) c.self.view_is) in
    let f = subst (λ l. IsTrue (fits l (node.Stmt c.args.s))) seen c.requires.fits in
    added _ _ (node.Stmt c.args.s) _ c.self.invariant f refl c.push.ensures.list

pub returns-clause-adds : goal.returns-clause-adds
returns-clause-adds c =
    let seen = sym (ap (λ t. t.nodes) c.self.view_is) in
    let f = subst (λ l. IsTrue (fits l (node.Stmt c.args.s))) seen c.requires.fits in
    let last = adds _ _ (node.Stmt c.args.s) _ c.self.invariant.0 f c.push.ensures.list c.push.ensures.id in
    subst (λ l. Adds l c.push.new.self.list (node.Stmt c.args.s) c.push.result) (sym seen) last
