use Rattle.std.proofs.Common.{sym, arith, ◌∙◌}
use Rattle.raise_operands.specs.Raising.{target, write_by}
use Rattle.raise_operands.specs.Vectors.{spaces_of}
use Rattle.raise_views.specs.Giving.{given_word}
use Rattle.raise_views.specs.Guarding.{has_result}
use Rattle.raise_views.proofs.Growing.{as_step, grows_same}
use Rattle.raise_views.proofs.Joining.{results_are, results_count, same_writes}
use Rattle.raise_views.proofs.events.results.Goals as goal

pub writes-requires-clause-room : goal.writes-requires-clause-room
writes-requires-clause-room c =
    omega (arith, results_count c.args.meaning c.args.given c.args.os.now (sym c.has_result.ensures ∙ c.if-has_result.true), c.requires.room)

pub returns-then-has_result-clause-grows : goal.returns-then-has_result-clause-grows
returns-then-has_result-clause-grows c =
    grows_same _ _ _ _ c.writes.ensures.grows (results_count c.args.meaning c.args.given c.args.os.now (sym c.has_result.ensures ∙ c.if-has_result.true))

pub returns-then-has_result-clause-makes : goal.returns-then-has_result-clause-makes
returns-then-has_result-clause-makes c =
    let g = spaces_of c.args.program.now.shader in
    let o = c.requires.operands.o0 in
    as_step _ _ _ _ c.writes.ensures.makes
    (same_writes g _ _ 0 _ (given_word c.args.given) _ o.number o.argument
    ∙ results_are (has_result c.args.meaning) c.args.os.now.instruction.o0 (λ c'. write_by (target g c.args.os.now.instruction.o0) g 0 c'
    (given_word c.args.given c')) _ (sym c.has_result.ensures ∙ c.if-has_result.true))
