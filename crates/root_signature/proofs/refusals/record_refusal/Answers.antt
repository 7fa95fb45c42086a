use Rattle.std.proofs.Common.{◌≡◌, ◌+◌, ◌*◌, ◌<◌, ◌≤◌, min, sym, ap, ◌∙◌, subst, arith}
use Rattle.std.specs.Prelude.{Contains}
use Rattle.root_signature.proofs.Records.{record_list, type_first, missing_first}
use Rattle.word_base.specs.declared.rule.Rule.TheVariants.{G2}
use Rattle.word_base.specs.Rules.{refusal}
use Rattle.root_signature.specs.Layout.{word, words_from}
use Rattle.root_signature.specs.Bests.{IsLeast}
use Rattle.root_signature.proofs.refusals.record_refusal.Goals.{else-there-gt0-via-then-there-gt0+else-word-last, else-there-gt0-via-else-there-gt0}
use Rattle.root_signature.proofs.refusals.record_refusal.Goals as goal

pub returns-then-word-last : goal.returns-then-word-last
returns-then-word-last c =
    type_first c.args.content.now c.args.at c.args.words c.args.last c.requires.small (omega (arith, c.words_from-there.ensures.count)) (omega (arith, c.word.ensures))

pub returns-then-there-words : goal.returns-then-there-words
returns-then-there-words c =
    subst (IsLeast (Contains (record_list c.args.content.now c.args.at c.args.words c.args.last))) same
    (missing_first c.args.content.now c.args.at c.args.words c.args.last (omega (arith, c.words_from-there.ensures.count, c.if-there-words.true)) known) where
      same : refusal G2 (min (c.args.at + 4 * words_from c.args.content.now c.args.at) 4294967295) ≡ c.missing.result
      same = sym (c.missing.ensures ∙ ap (λ n. refusal G2 (min (c.args.at + 4 * n) 4294967295)) c.words_from-there.ensures.count)

      known : 0 < words_from c.args.content.now c.args.at → word c.args.content.now c.args.at ≤ c.args.last
      known h = elim c.else-there-gt0.branch [
        | else-there-gt0-via-then-there-gt0+else-word-last w ↦ omega (arith, w.if-word-last, w.word.ensures)
        | else-there-gt0-via-else-there-gt0 w ↦ absurd (omega (arith, h, w.if-there-gt0, c.words_from-there.ensures.count))
      ]
