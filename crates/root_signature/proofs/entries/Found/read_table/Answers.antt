use Rattle.std.proofs.Common.{◌≡◌, ℕ, ◌+◌, ◌*◌, ◌≤◌, ◌++◌, length, subst, sym, ap, arith}
use Rattle.root_signature.specs.Layout.{range_words}
use Rattle.root_signature.specs.Covering.{table_covered}
use Rattle.root_signature.specs.Runs.{Marks}
use Rattle.root_signature.specs.Thinning.{FindsIn}
use Rattle.root_signature.proofs.Finding.{found_more, finds_marked}
use Rattle.root_signature.proofs.Members.{written}
use Rattle.root_signature.proofs.entries.Found.read_table.Goals as goal

pub loop-j-preserved : goal.loop-j-preserved
loop-j-preserved c = record {
  found = λ every words h.
      found_more c.args.content.now every words c.read_ranges.new.self.entries.items c.read_ranges.new.self.marks.items c.read_ranges.new.self.again c.args.start c.loop-j.j c.in_ok-j.field-0
      (subst (λ w. FindsIn c.args.content.now ((every ++ table_covered c.args.content.now c.args.start c.loop-j.j)
      ++ table_covered c.args.content.now (c.args.start + 4 * w * c.loop-j.j) c.in_ok-j.field-0) words c.read_ranges.new.self.entries.items c.read_ranges.new.self.marks.items
      c.read_ranges.new.self.again) c.range_words-step.ensures.count
      (c.in_ok-j.ensures.found (every ++ table_covered c.args.content.now c.args.start c.loop-j.j) words (c.loop-j.invariant.found every words h)));
  ready = c.in_ok-j.ensures.ready;
  room = omega (arith, c.in_ok-j.ensures.room, c.loop-j.invariant.room);
  within = omega (arith, c.in_ok-j.ensures.most, c.loop-j-test.true);
}

same : (j count : ℕ) → j ≤ count → count ≤ j → j ≡ count
same j count l m = omega arith

pub returns-clause-found : goal.returns-clause-found
returns-clause-found c = λ every words h.
    let marks : Marks (4 * range_words c.args.content.now) c.args.start c.args.count c.loop-j.self.marks.items c.mark.new.marks =
    subst (λ old. Marks (4 * range_words c.args.content.now) c.args.start c.args.count old c.mark.new.marks) c.deref_mut.ensures.value
    (subst (λ w. Marks (4 * w) c.args.start c.args.count c.deref_mut.result.now c.mark.new.marks) c.range_words-step.ensures.count c.mark.ensures) in
    subst (λ left. FindsIn c.args.content.now (every ++ table_covered c.args.content.now c.args.start c.args.count) words c.loop-j.self.entries.items left c.loop-j.self.again)
    (sym (written c.loop-j.self.marks.len c.mark.new.marks _ (omega (arith, marks.size, c.deref_mut.ensures.len, ap length c.deref_mut.ensures.value))))
    (finds_marked c.args.content.now c.loop-j.self.marks.items c.mark.new.marks c.loop-j.self.again c.args.start c.args.count marks c.requires.inside every words c.loop-j.self.entries.items
    (subst (λ n. FindsIn c.args.content.now (every ++ table_covered c.args.content.now c.args.start n) words c.loop-j.self.entries.items c.loop-j.self.marks.items c.loop-j.self.again)
    (same c.loop-j.j c.args.count c.loop-j.invariant.within c.loop-j-test.false) (c.loop-j.invariant.found every words h)))
