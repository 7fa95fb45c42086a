use Rattle.std.proofs.Common.{ap, ◌∙◌}
use Rattle.shader_tree.specs.Terms.{Term, Default}
use Rattle.raise_program.proofs.Grown.{one}
use Rattle.raise_program.proofs.Kept.{put_is, walk_on, walk_itself, walk_itself_kept, node_itself}
use Rattle.raise_program.proofs.raising.visit_default.Goals as goal

pub stmt-statement-requires-clause-fits : goal.stmt-statement-requires-clause-fits
stmt-statement-requires-clause-fits c = one _ c.stmt-next.ensures.makes.sorted

pub put-requires-clause-walk : goal.put-requires-clause-walk
put-requires-clause-walk c =
    let l = c.growing_laws.ensures in
    let later = l.extends_on _ _ _ c.stmt-next.ensures.grows.extends c.stmt-statement.ensures.grows.extends in
    walk_itself_kept _ _ _ (walk_on l _ _ later _ _ c.requires.walk)

pub put-requires-clause-statement : goal.put-requires-clause-statement
put-requires-clause-statement c = node_itself _ _ _ _ c.stmt-statement.ensures.makes

pub returns-clause-walk : goal.returns-clause-walk
returns-clause-walk c =
    let l = c.growing_laws.ensures in
    let later = l.extends_on _ _ _ c.stmt-next.ensures.grows.extends c.stmt-statement.ensures.grows.extends in
    put_is _ _ _ _ _ _ c.put.ensures.walk
    (c.stmt-statement.ensures.makes.term ∙ ap (λ (t : Term). Default t) c.stmt-next.ensures.makes.term)
    (walk_itself _ _ _ (walk_on l _ _ later _ _ c.requires.walk))
