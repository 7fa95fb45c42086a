use Rattle.std.proofs.Common.{◌≡◌, ℕ, ◌+◌, ◌*◌, ◌++◌, List, Option, subst, sym, arith}
use Rattle.word_base.specs.declared.rule.Refusal.{Refusal}
use Rattle.root_signature.specs.declared.covers.Entry.{Entry}
use Rattle.root_signature.specs.Layout.{range_words, range_at}
use Rattle.root_signature.specs.Covering.{range_covered}
use Rattle.root_signature.specs.Thinning.{FindsIn}
use Rattle.root_signature.proofs.entries.Found.read_ranges.Goals as goal

alone : (content : List ℕ) (every : List Entry) (words : ℕ) (entries : List Entry) (marks : List ℕ) (again : Option Refusal) (at : ℕ)
    → FindsIn content (every ++ range_covered content at) words entries marks again → FindsIn content (every ++ range_covered content (range_at content at 0)) words entries marks again
alone content every words entries marks again at h =
    subst (λ x. FindsIn content (every ++ range_covered content x) words entries marks again) (sym (first at (4 * range_words content))) h where
      first : (a s : ℕ) → a + s * 0 ≡ a
      first a s = omega arith

pub returns-then-run-eq0-clause-found : goal.returns-then-run-eq0-clause-found
returns-then-run-eq0-clause-found c = λ every words h.
    alone c.args.content.now every words c.read_range.new.self.entries.items c.read_range.new.self.marks.items c.read_range.new.self.again c.args.at
    (c.in_ok-read_range.ensures.found every words h)
