use Rattle.std.proofs.Common.{◌+◌, ◌*◌, subst, arith}
use Rattle.std.specs.Prelude.{Contains}
use Rattle.root_signature.specs.Bests.{IsBest}
use Rattle.root_signature.proofs.Records.{record_list}
use Rattle.root_signature.proofs.Tables.{table_broken, table_sound}
use Rattle.root_signature.proofs.refusals.table_refusal.Goals as goal

pub returns-then-run-count : goal.returns-then-run-count
returns-then-run-count c =
    table_broken c.args.content.now c.args.known.now c.args.start c.args.count c.record_refusal.result c.requires.small c.requires.runs
    c.number_at-run.result c.number_at-run.ensures (omega arith)
    (subst (λ w. IsBest (Contains (record_list c.args.content.now (c.args.start + 4 * w * c.number_at-run.result) w 3)) c.record_refusal.result)
    c.range_words-words.ensures.count c.record_refusal.ensures)

pub returns-else-run-count : goal.returns-else-run-count
returns-else-run-count c =
    table_sound c.args.content.now c.args.known.now c.args.start c.args.count c.requires.runs c.number_at-run.result c.number_at-run.ensures (omega (arith, c.if-run-count.false))
