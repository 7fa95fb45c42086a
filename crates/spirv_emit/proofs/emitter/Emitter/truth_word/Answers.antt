use Rattle.spirv_emit.proofs.Groups.{truth_words}
use Rattle.spirv_emit.proofs.emitter.Emitter.truth_word.Goals as goal

pub returns-clause-gives : goal.returns-clause-gives
returns-clause-gives c =
    truth_words c.args.self.now _ _ c.args.op c.args.a c.args.b c.ones-ones.result c.zero-zero.result _ _ c.requires.begun c.ones-ones.ensures
    c.zero-zero.ensures
    c.compare-truth.ensures.gives c.choose.ensures.gives
