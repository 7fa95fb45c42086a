use Rattle.std.proofs.Common.{◌∙◌, ap, sym, is_ok}
use Rattle.outside.proofs.Listing.{values, at_place, place_is, source_kept, added_by}
use Rattle.outside.proofs.files.Files.add.Goals as goal
use Rattle.outside.proofs.files.Files.add.Goals.{in-Ok-push, in-Err}

pub returns-in-Some-clause-ok : goal.returns-in-Some-clause-ok
returns-in-Some-clause-ok c =
    let p = place_is c.args.self.now.files c.args.name.now c.in-Some.place c.in-Some.ensures.place in
    c.replace.ensures ∙ rw c.in-Ok.ensures.items (ap (λ files. values files c.args.self.now.reading) (sym (at_place c.args.self.now.files c.args.name.now c.args.bytes.now c.in-Some.place p.0 p.1)))

pub invariant_of-self : goal.invariant_of-self
invariant_of-self c = source_kept (is_ok c.push.result) c.self.inside.source c.self.inside.list.items _ c.push.new.self.items c.self.inside.replaced.items c.self.inside.at c.self.invariant c.push.ensures.items

pub returns-clause-ok : goal.returns-clause-ok
returns-clause-ok c = elim c.match-push.branch [
  | in-Ok-push w ↦ rw w.result-is (added_by c.args.self.now c.self.inside.list.items c.push.new.self.items c.self.inside.source c.self.inside.replaced.items c.args.name.now _ c.args.bytes.now _ c.self.inside.at c.self.view_is c.self.invariant c.in_default-find.ensures.place w.in-Ok-push.ensures.items c.in-Ok-from_str.ensures.ok c.in-Ok.ensures.items)
  | in-Err w ↦ rw w.result-is tt
]
