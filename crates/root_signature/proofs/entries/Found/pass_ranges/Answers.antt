use Rattle.std.proofs.Common.{◌++◌, ◌+◌, ◌*◌, Some, refl, sym, subst, ap, ◌∙◌}
use Rattle.word_base.specs.declared.rule.Rule.TheVariants.{G4}
use Rattle.word_base.specs.Rules.{refusal}
use Rattle.root_signature.specs.Bests.{merged}
use Rattle.root_signature.specs.Covering.{table_covered}
use Rattle.root_signature.specs.Thinning.{IsReady, FindsIn}
use Rattle.root_signature.proofs.Bests.{merged_ninth}
use Rattle.root_signature.proofs.Finding.{finds_bare, finds_again}
use Rattle.root_signature.proofs.entries.Found.pass_ranges.Goals as goal

pub returns-then-first-run-clause-found : goal.returns-then-first-run-clause-found
returns-then-first-run-clause-found c = λ every words h.
    subst (FindsIn c.args.content.now (every ++ table_covered c.args.content.now c.args.at c.args.run) words c.args.self.now.entries.items c.args.self.now.marks.items)
    (sym (c.merged-self.ensures ∙ ap (λ n. merged c.args.self.now.again (Some (refusal G4 (c.args.at + 4 * n * c.number_at-first.result)))) c.range_words-step.ensures.count))
    (finds_again c.args.content.now every words c.args.self.now.entries.items c.args.self.now.marks.items c.args.self.now.again c.args.bare.now c.args.at c.args.run c.number_at-first.result
    h c.requires.runs c.number_at-first.ensures c.requires.marked c.if-first-run.true)

pub returns-else-first-run-clause-found : goal.returns-else-first-run-clause-found
returns-else-first-run-clause-found c = λ every words h.
    finds_bare c.args.content.now every words c.args.self.now.entries.items c.args.self.now.marks.items c.args.self.now.again c.args.bare.now c.args.at c.args.run c.number_at-first.result
    h c.requires.runs c.number_at-first.ensures c.requires.marked c.if-first-run.false

pub returns-then-first-run-clause-ready : goal.returns-then-first-run-clause-ready
returns-then-first-run-clause-ready c =
    subst (IsReady c.args.content.now c.args.self.now.marks.items) (sym c.merged-self.ensures)
    (record {
      are = c.requires.ready.are;
      whole = c.requires.ready.whole;
      size = c.requires.ready.size;
      phase = merged_ninth c.args.self.now.again (Some (refusal G4 (c.args.at + 4 * c.range_words-step.result * c.number_at-first.result))) c.requires.ready.phase refl;
    })
