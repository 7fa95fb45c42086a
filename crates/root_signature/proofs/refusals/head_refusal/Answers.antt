use Rattle.std.proofs.Common.{◌≡◌, ℕ, ◌+◌, ◌*◌, ◌<◌, ◌≤◌, true, false, List, Some, None, subst, sym, ap, ◌∙◌, arith, min, refl}
use Rattle.std.proofs.lemmas.Bool.Decides.{nat_tests}
use Rattle.word_base.specs.declared.rule.Rule.TheVariants.{G2}
use Rattle.word_base.specs.Rules.{refusal}
use Rattle.root_signature.specs.Layout.{words_from, is_whole}
use Rattle.root_signature.proofs.Heads.{wrong_first, right_version}
use Rattle.root_signature.proofs.refusals.head_refusal.Goals as goal

few : (content : List ℕ) → words_from content 0 < 6 → is_whole content 0 6 ≡ true → ⊥
few content l e = grind (arith, nat_tests)

many : (content : List ℕ) → 6 ≤ words_from content 0 → is_whole content 0 6 ≡ false → ⊥
many content l e = grind (arith, nat_tests)

pub returns-then-is_wrong_version : goal.returns-then-is_wrong_version
returns-then-is_wrong_version c = wrong_first c.args.content.now (sym c.is_wrong_version.ensures ∙ c.if-is_wrong_version.true)

pub returns-then-there-lt6 : goal.returns-then-there-lt6
returns-then-there-lt6 c =
    right_version c.args.content.now (Some c.missing.result) (sym c.is_wrong_version.ensures ∙ c.if-is_wrong_version.false)
    (λ t. ap (λ r. Some r) (c.missing.ensures ∙ ap (λ n. refusal G2 (min (0 + 4 * n) 4294967295)) c.words_from-there.ensures.count))
    (λ t. absurd (few c.args.content.now (subst (λ n. n < 6) c.words_from-there.ensures.count c.if-there-lt6.true) t))

pub returns : goal.returns
returns c =
    right_version c.args.content.now None (sym c.is_wrong_version.ensures ∙ c.if-is_wrong_version.false)
    (λ t. absurd (many c.args.content.now (subst (λ n. 6 ≤ n) c.words_from-there.ensures.count c.if-there-lt6.false) t)) (λ t. refl)
