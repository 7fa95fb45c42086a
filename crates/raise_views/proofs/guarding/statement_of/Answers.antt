use Rattle.std.proofs.Common.{sym, ap, ◌∙◌}
use Rattle.binding_map.specs.Fits.{is_null_in}
use Rattle.raise_operands.specs.Raising.{chained}
use Rattle.raise_operands.specs.Vectors.{spaces_of}
use Rattle.raise_views.specs.Guarding.{raised, results, statement_of, statements, work_by}
use Rattle.raise_views.proofs.Growing.{as_term}
use Rattle.raise_views.proofs.guarding.statement_of.Goals as goal

pub returns-clause-makes : goal.returns-clause-makes
unfolding statement_of
returns-clause-makes c =
    let m = c.in-Some.meaning in
    let p = c.args.program.now.shader in
    let i = c.args.instruction in
    let null = is_null_in c.args.bindings.now in
    let e = sym c.instruction_meaning.ensures ∙ c.in-Some.is in
    let same = c.is_null-null.ensures ∙ ap null c.room_by.ensures in
    as_term _ _ _ _ _ c.raised.ensures.makes
    (ap (λ b. chained (statements (spaces_of p) i (work_by m b p i) (results m i))) same ∙ ap (λ o. raised o null p i) (sym e))
