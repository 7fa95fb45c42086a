use Rattle.std.proofs.Common.{◌∷◌, [], ◌++◌, subst, sym, arith}
use Rattle.root_signature.specs.Covering.{span_of}
use Rattle.root_signature.specs.Overlaps.{Overlapping}
use Rattle.root_signature.proofs.Overlapped.{meets, passes_by}
use Rattle.root_signature.proofs.overlaps.meet.Goals as goal

pub mark-requires-clause-inside : goal.mark-requires-clause-inside
mark-requires-clause-inside c = λ p. omega (arith, c.requires.size, c.first_from-to.ensures.bound)

pub returns-then-not-is_met : goal.returns-then-not-is_met
returns-then-not-is_met c = λ spans some h.
    passes_by c.args.rows.now spans c.args.marks.now c.mark.new.marks c.args.best (span_of c.args.entry) c.first_from-from.result c.first_from-to.result h some
    c.requires.has_row c.requires.some c.mark.ensures
    (λ k l. omega (arith, c.first_from-from.ensures.before k l, c.lowest.ensures))
    (λ k l m. omega (arith, c.first_from-from.ensures.behind k l m, c.lowest.ensures))
    (λ k l. omega (arith, c.first_from-to.ensures.before k l, c.highest.ensures))
    (λ k l m. omega (arith, c.first_from-to.ensures.behind k l m, c.highest.ensures))
    c.first_from-to.ensures.bound (c.is_any_marked-is_met.ensures.unmarked c.if-not-is_met.true)

pub returns : goal.returns
returns c = λ spans some h.
    subst (λ best. Overlapping c.args.rows.now (spans ++ span_of c.args.entry ∷ []) c.mark.new.marks best) (sym c.merged.ensures)
    (let w = c.is_any_marked-is_met.ensures.marked c.if-not-is_met.false in
    meets c.args.rows.now spans c.args.marks.now c.mark.new.marks c.args.best (span_of c.args.entry) c.first_from-from.result c.first_from-to.result h some
    c.requires.has_row c.requires.some c.mark.ensures
    (λ k l. omega (arith, c.first_from-from.ensures.before k l, c.lowest.ensures))
    (λ k l m. omega (arith, c.first_from-from.ensures.behind k l m, c.lowest.ensures))
    (λ k l. omega (arith, c.first_from-to.ensures.before k l, c.highest.ensures))
    (λ k l m. omega (arith, c.first_from-to.ensures.behind k l m, c.highest.ensures))
    c.first_from-to.ensures.bound w.0 w.1 w.2 w.3)
