use Rattle.std.proofs.Common.{sym, ◌∙◌}
use Rattle.shader_tree.specs.Terms.{term_at}
use Rattle.shader_tree.specs.Nodes.{AStatement, a_statement}
use Rattle.raise_views.proofs.Growing.{answered_is, as_term, both, same_term}
use Rattle.raise_views.proofs.parts.answered.Goals as goal

pub stmt-requires-clause-fits : goal.stmt-requires-clause-fits
stmt-requires-clause-fits c =
    both _ _ c.zeroed-first.ensures.makes.sorted (c.zeroed-first.ensures.grows.extends.names (a_statement c.tested-next.result)
    c.tested-next.ensures.makes.sorted)

pub returns-clause-makes : goal.returns-clause-makes
returns-clause-makes c =
    let next = same_term _ _ AStatement _ c.zeroed-first.ensures.grows.extends c.tested-next.ensures.makes.sorted ∙ c.tested-next.ensures.makes.term
    in
    as_term _ _ _ _ _ c.stmt.ensures.makes (answered_is c.args.reach c.args.c c.args.scratch _ _ (term_at c.args.tree.now.nodes c.args.body)
    (sym c.is_known.ensures ∙ c.if-is_known.false) c.zeroed-first.ensures.makes.term next)
