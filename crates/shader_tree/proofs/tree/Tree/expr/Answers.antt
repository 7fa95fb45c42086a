use Rattle.std.proofs.Common.{◌≡◌, [], ◌∷◌, ◌++◌, subst, sym, ap}
use Rattle.std.specs.Prelude.{IsTrue}
use Rattle.shader_tree.specs.declared.node.Node.TheVariants as node
use Rattle.shader_tree.specs.Nodes.{fits, is_short}
use Rattle.shader_tree.specs.Terms.{Adds}
use Rattle.shader_tree.proofs.Making.{added, adds}
use Rattle.shader_tree.proofs.tree.Tree.expr.Goals as goal

pub invariant_of-self : goal.invariant_of-self
invariant_of-self c =
    let seen = sym (ap (λ t. t.nodes) c.self.view_is) in
    let f = subst (λ l. IsTrue (fits l (node.Expr c.args.e))) seen c.requires.fits in
    let is = c.node_of.ensures.node in
    let list = subst (λ n. c.push.new.self.list ≡ c.self.inside.nodes.list ++ n ∷ []) is c.push.ensures.list in
    added _ _ (node.Expr c.args.e) _ c.self.invariant f (subst (λ n. IsTrue (is_short n)) is c.node_of.ensures.literal) list

pub returns-clause-adds : goal.returns-clause-adds
returns-clause-adds c =
    let seen = sym (ap (λ t. t.nodes) c.self.view_is) in
    let f = subst (λ l. IsTrue (fits l (node.Expr c.args.e))) seen c.requires.fits in
    let list = subst (λ n. c.push.new.self.list ≡ c.self.inside.nodes.list ++ n ∷ []) c.node_of.ensures.node c.push.ensures.list in
    let last = adds _ _ (node.Expr c.args.e) _ c.self.invariant.0 f list c.push.ensures.id in
    subst (λ l. Adds l c.push.new.self.list (node.Expr c.args.e) c.push.result) (sym seen) last
