use Rattle.std.proofs.Common.{sym, subst, ap, ◌∙◌}
use Rattle.std.specs.Prelude.{Contains}
use Rattle.root_signature.specs.Covering.{spans_of}
use Rattle.root_signature.specs.Refusals.{listed_refusals, IsCoveredTwice}
use Rattle.root_signature.specs.Bests.{IsBest, AreNinth, merged}
use Rattle.root_signature.specs.Parts.{AreParts}
use Rattle.root_signature.proofs.Bests.{ninth, merged_ninth}
use Rattle.root_signature.proofs.Together.{together, without_words}
use Rattle.root_signature.proofs.reader.read_parts.Goals as goal

pub returns-then-content-lt12 : goal.returns-then-content-lt12
returns-then-content-lt12 c =
    subst (λ entries. AreParts c.args.content.now entries c.head_refusal.result) (sym c.new.ensures.items)
    (without_words c.args.content.now c.head_refusal.result c.if-content-lt12.true c.head_refusal.ensures)

pub merged-requires-2-clause-first : goal.merged-requires-2-clause-first
merged-requires-2-clause-first c = ninth (Contains (listed_refusals c.args.content.now)) c.listed_refusal-listed.result c.listed_refusal-listed.ensures

pub merged-requires-2-clause-second : goal.merged-requires-2-clause-second
merged-requires-2-clause-second c =
    subst AreNinth (sym c.merged.ensures)
    (merged_ninth c.in_ok-entries.field-0.again c.in_ok-overlap.overlap c.in_ok-entries.ensures.found.ready.phase
    (ninth (IsCoveredTwice (spans_of c.deref-3.result.now)) c.in_ok-overlap.overlap c.in_ok-overlap.ensures))

pub returns : goal.returns
returns c =
    subst (AreParts c.args.content.now c.in_ok-entries.field-0.entries.items) (sym (c.merged-2.ensures ∙ ap (merged c.listed_refusal-listed.result) c.merged.ensures))
    (together c.args.content.now c.listed_refusal-listed.result c.in_ok-entries.field-0.again c.in_ok-overlap.overlap c.in_ok-entries.field-0.entries.items c.in_ok-entries.field-0.marks.items
    c.listed_refusal-listed.ensures c.in_ok-entries.ensures.found
    (subst (λ entries. IsBest (IsCoveredTwice (spans_of entries)) c.in_ok-overlap.overlap) c.deref-3.ensures.value c.in_ok-overlap.ensures) c.in_ok-entries.ensures.room)
