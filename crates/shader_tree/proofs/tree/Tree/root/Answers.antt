use Rattle.std.proofs.Common.{subst, sym, ap}
use Rattle.shader_tree.specs.Holding.{OfWords}
use Rattle.shader_tree.specs.Terms.{term_at}
use Rattle.shader_tree.proofs.LiteralLemmas.{of_words}
use Rattle.shader_tree.proofs.tree.Tree.root.Goals as goal

pub returns-clause-literals : goal.returns-clause-literals
returns-clause-literals c =
    let seen = sym (ap (λ t. t.nodes) c.self.view_is) in
    let here = of_words _ c.in-Some.root c.self.invariant.2 in
    subst (λ l. OfWords (term_at l c.in-Some.root)) (sym seen) here
