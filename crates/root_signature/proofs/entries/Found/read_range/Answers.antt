use Rattle.std.proofs.Common.{◌≡◌, ℕ, ◌≤◌, ◌+◌, ◌*◌, List, ◌++◌, ◌∷◌, [], Option, length, set, sym, subst, ap, ◌∙◌, inl, inr, arith, refl}
use Rattle.std.proofs.lemmas.List.{append-nil}
use Rattle.word_base.specs.declared.rule.Refusal.{Refusal}
use Rattle.root_signature.specs.declared.covers.Entry.{Entry}
use Rattle.root_signature.specs.declared.entries.Found.{Found}
use Rattle.root_signature.specs.Layout.{range_words}
use Rattle.root_signature.specs.Covering.{range_covered}
use Rattle.root_signature.specs.Thinning.{FindsIn}
use Rattle.root_signature.proofs.Whole.{some_words}
use Rattle.root_signature.proofs.Finding.{finds_read, IsSmall}
use Rattle.root_signature.proofs.entries.Found.read_range.Goals as goal
use Rattle.root_signature.proofs.entries.Found.read_range.Goals.{in-Some+in_ok-push, in_default}

read_by : (content : List ℕ) (every : List Entry) (words : ℕ) (entries next more : List Entry) (marks left : List ℕ) (again later : Option Refusal) (at : ℕ)
    → next ≡ entries ++ more → left ≡ marks → later ≡ again → FindsIn content every words entries marks again → at + 4 * range_words content * 1 ≤ length content
    → more ≡ range_covered content at → IsSmall more
    → FindsIn content (every ++ range_covered content at) words next (set left at 1) later
read_by content every words entries next more marks left again later at e f g h fits r small =
    subst (λ x. FindsIn content (every ++ range_covered content at) words x (set left at 1) later) (sym e)
    (subst (λ x. FindsIn content (every ++ range_covered content at) words (entries ++ more) (set x at 1) later) (sym f)
    (subst (FindsIn content (every ++ range_covered content at) words (entries ++ more) (set marks at 1)) (sym g)
    (finds_read content every words entries more marks again at h (omega (arith, fits)) (some_words content) (sym r) small)))

pub returns-clause-found : goal.returns-clause-found
returns-clause-found c =
    elim c.match-range_entry.branch [
      | in-Some+in_ok-push w ↦ λ every words h.
          read_by c.args.content.now every words c.args.self.now.entries.items c.match-range_entry.self.entries.items (w.in-Some.entry ∷ []) c.args.self.now.marks.items
          c.match-range_entry.self.marks.items c.args.self.now.again c.match-range_entry.self.again c.args.at
          (ap (λ (f : Found). f.entries.items) w.self-is ∙ w.in_ok-push.ensures.entries) (ap (λ (f : Found). f.marks.items) w.self-is ∙ ap (λ m. m.items) w.in_ok-push.ensures.marks)
          (ap (λ (f : Found). f.again) w.self-is ∙ w.in_ok-push.ensures.again) h c.requires.inside w.in-Some.ensures.entry
          (inr (w.in-Some.entry, (refl, w.in-Some.ensures.some)))
      | in_default w ↦ λ every words h.
          read_by c.args.content.now every words c.args.self.now.entries.items c.match-range_entry.self.entries.items [] c.args.self.now.marks.items
          c.match-range_entry.self.marks.items c.args.self.now.again c.match-range_entry.self.again c.args.at
          (ap (λ (f : Found). f.entries.items) w.self-is ∙ sym (append-nil c.args.self.now.entries.items)) (ap (λ (f : Found). f.marks.items) w.self-is)
          (ap (λ (f : Found). f.again) w.self-is) h c.requires.inside w.in_default.ensures.entry (inl refl)
    ]
