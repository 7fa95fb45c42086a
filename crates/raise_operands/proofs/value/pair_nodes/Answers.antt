use Rattle.shader_tree.specs.Nodes.{a_word}
use Rattle.raise_operands.proofs.Growing.{both}
use Rattle.raise_operands.proofs.value.pair_nodes.Goals as goal

pub expr-second-requires-clause-fits : goal.expr-second-requires-clause-fits
expr-second-requires-clause-fits c =
    let names = c.expr-first.ensures.grows.extends.names in
    both _ _ (names (a_word c.args.a) c.requires.a) (names (a_word c.args.b) c.requires.b)
