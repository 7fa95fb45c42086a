use Rattle.raise_views.proofs.Joining.{joined_four}
use Rattle.raise_views.proofs.joins.are_joined.Goals as goal

pub returns : goal.returns
returns c =
    rw (c.is_any-any.ensures, c.are_inside-inside.ensures, c.is_index_known-known.ensures)
    (joined_four c.args.reach c.args.words c.args.word c.args.x c.args.y c.args.z c.args.w c.requires.way c.requires.word)
