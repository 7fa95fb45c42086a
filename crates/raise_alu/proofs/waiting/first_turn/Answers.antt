use Rattle.std.proofs.Common.{◌∙◌}
use Rattle.raise_alu.proofs.Waited.{first_outside}
use Rattle.raise_alu.proofs.waiting.first_turn.Goals as goal

pub turn-requires-clause-outside : goal.turn-requires-clause-outside
turn-requires-clause-outside c = λ e.
    c.first_is_read-waits.ensures ∙ first_outside c.args.meaning c.args.operands.now c.args.c e
