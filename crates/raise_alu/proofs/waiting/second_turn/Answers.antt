use Rattle.std.proofs.Common.{◌∙◌}
use Rattle.raise_alu.proofs.Waited.{second_outside}
use Rattle.raise_alu.proofs.waiting.second_turn.Goals as goal

pub turn-requires-clause-outside : goal.turn-requires-clause-outside
turn-requires-clause-outside c = λ e.
    c.second_is_late-waits.ensures ∙ second_outside c.args.meaning c.args.operands.now c.args.c e
