use Rattle.spirv_emit.proofs.Groups.{nonzeros}
use Rattle.spirv_emit.proofs.emitter.Emitter.second_of_nonzero.Goals as goal

pub returns-clause-gives : goal.returns-clause-gives
returns-clause-gives c =
    nonzeros c.args.self.now _ _ c.args.a c.args.b c.args.c c.zero-zero.result _ _ c.requires.begun c.zero-zero.ensures
    c.compare-none.ensures.gives c.choose.ensures.gives
