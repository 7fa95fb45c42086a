use Rattle.std.proofs.Common.{◌≡◌, Bool, true, false, Some, None, sym, ap, ◌∙◌, refl}
use Rattle.word_base.specs.declared.rule.Rule.TheVariants.{G5}
use Rattle.word_base.specs.Rules.{refusal}
use Rattle.root_signature.specs.Layout.{record_at}
use Rattle.root_signature.specs.Refusals.{is_passing}
use Rattle.root_signature.proofs.Records.{best_broken}
use Rattle.root_signature.proofs.refusals.push_refusal.Goals as goal

differ : (t : Bool) → t ≡ false → t ≡ true → ⊥
differ t e f = cc

pub returns-then-not-is_passing : goal.returns-then-not-is_passing
returns-then-not-is_passing c =
    best_broken (is_passing c.args.content.now c.args.i) G5 (record_at c.args.content.now c.args.i) None refl
    (λ t. absurd cc) (λ t. refl)

pub returns : goal.returns
returns c =
    best_broken (is_passing c.args.content.now c.args.i) G5 (record_at c.args.content.now c.args.i) (Some (refusal G5 c.read_parameter.result.record_at)) refl
    (λ t. ap (λ n. Some (refusal G5 n)) c.read_parameter.ensures.pointed) (λ t. absurd (differ (is_passing c.args.content.now c.args.i) t (sym c.is_passing.ensures.test ∙ c.if-not-is_passing.false)))
