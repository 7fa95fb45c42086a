use Rattle.std.proofs.Common.{◌<◌, length, ap, sym, ◌∙◌, subst}
use Rattle.outside.specs.declared.files.Source.TheVariants.{Listed}
use Rattle.outside.specs.Held.{FilesValue}
use Rattle.outside.proofs.Listing.{replaced_now, replaced_other}
use Rattle.outside.proofs.files.Files.replace.Goals as goal
use Rattle.outside.proofs.files.Files.replace.Goals.{in_default-via-in-Listed+else-reading-place, in_default-via-in_default}

pub returns-in-Listed : goal.returns-in-Listed
returns-in-Listed c =
    let within : c.args.place < length c.self.inside.list.items = subst (λ (v : FilesValue). c.args.place < length v.files) (sym c.self.view_is) c.requires in
    rw (c.replace-old.ensures.after, c.replace-old.ensures.value)
    (replaced_now _ _ c.self.inside.source c.self.inside.replaced.items _ _ _ _ _ c.index_mut.result.now c.self.view_is (c.in-Listed.is ∙ ap Listed c.if-reading-place.true) within c.index_mut.ensures.value c.behind-self.view_is)

pub returns-in_default : goal.returns-in_default
returns-in_default c =
    let within : c.args.place < length c.self.inside.list.items = subst (λ (v : FilesValue). c.args.place < length v.files) (sym c.self.view_is) c.requires in
    elim c.in_default.branch [
      | in_default-via-in-Listed+else-reading-place w ↦
          w.self-is ∙ rw c.replace-old.ensures.after
          (replaced_other _ _ c.self.inside.source c.self.inside.replaced.items _ _ _ _ _ c.index_mut.result.now c.self.view_is (λ r e h. w.if-reading-place.false (let same = w.in-Listed.is in cc)) within c.index_mut.ensures.value c.behind-self.view_is)
      | in_default-via-in_default w ↦
          w.self-is ∙ rw c.replace-old.ensures.after
          (replaced_other _ _ c.self.inside.source c.self.inside.replaced.items _ _ _ _ _ c.index_mut.result.now c.self.view_is (λ r e h. w.in_default.not-Listed r e) within c.index_mut.ensures.value c.behind-self.view_is)
    ]
