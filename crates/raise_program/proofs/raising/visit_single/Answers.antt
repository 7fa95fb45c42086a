use Rattle.raise_program.proofs.Kept.{put_is, walk_on, walk_itself, walk_itself_kept, node_itself}
use Rattle.raise_program.proofs.raising.visit_single.Goals as goal

pub put-requires-clause-walk : goal.put-requires-clause-walk
put-requires-clause-walk c =
    walk_itself_kept _ _ _ (walk_on c.growing_laws.ensures _ _ c.alone-statement.ensures.grows.extends _ _ c.requires.walk)

pub put-requires-clause-statement : goal.put-requires-clause-statement
put-requires-clause-statement c = node_itself _ _ _ _ c.alone-statement.ensures.makes

pub returns-clause-walk : goal.returns-clause-walk
returns-clause-walk c =
    let walk = walk_on c.growing_laws.ensures _ _ c.alone-statement.ensures.grows.extends _ _ c.requires.walk in
    put_is _ _ _ _ _ _ c.put.ensures.walk c.alone-statement.ensures.makes.term (walk_itself _ _ _ walk)
