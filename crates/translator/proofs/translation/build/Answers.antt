use Rattle.std.proofs.Common.{◌≡◌, []}
use Rattle.std.proofs.lemmas.Result.{on_ok_weaker}
use Rattle.word_base.specs.Rules.{IsSound}
use Rattle.binding_map.specs.Completeness.{binding_refusals}
use Rattle.translator.specs.Input.{IsBroken, given}
use Rattle.translator.proofs.translation.build.Goals as goal

pub returns-clause-sound : goal.returns-clause-sound
returns-clause-sound c =
    on_ok_weaker {P = binding_refusals c.read.new.self.program c.args.bindings.now ≡ []}
    {Q = IsSound (IsBroken c.args.work.now.words c.args.bytes.now (given c.args.bindings.now))} c.write.result
    (λ bound. c.in_ok-read.ensures.read.sound (given c.args.bindings.now) bound) c.write.ensures.bound
