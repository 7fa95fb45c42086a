use Rattle.raise_operands.proofs.Begun.{followed_same, then_none}
use Rattle.raise_operands.proofs.Growing.{as_step, step_on, step_on_itself}
use Rattle.raise_operands.proofs.index.vector_place.Goals as goal

pub indexed_place-requires-clause-front : goal.indexed_place-requires-clause-front
indexed_place-requires-clause-front c = step_on_itself _ _ _ _ c.index.ensures.grows.extends c.requires.front

pub returns-in-Literal-clause-operand : goal.returns-in-Literal-clause-operand
returns-in-Literal-clause-operand c = c.known_place.ensures.operand _

pub returns-in-Literal-clause-front : goal.returns-in-Literal-clause-front
returns-in-Literal-clause-front c =
    as_step _ _ _ _ (step_on _ _ _ _ c.index.ensures.grows.extends c.requires.front) (then_none _ _ c.known_place.ensures.nothing)

pub returns-in-Node-clause-front : goal.returns-in-Node-clause-front
returns-in-Node-clause-front c =
    let front = step_on _ _ _ _ c.index.ensures.grows.extends c.requires.front in
    as_step _ _ _ _ c.indexed_place.ensures.front (followed_same _ _ _ front.term)
