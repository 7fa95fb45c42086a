use Rattle.spirv_emit.proofs.Groups.{products}
use Rattle.spirv_emit.proofs.emitter.Emitter.product_and_sum.Goals as goal

pub returns-clause-gives : goal.returns-clause-gives
returns-clause-gives c =
    products c.args.self.now _ _ c.args.a c.args.b c.args.c _ _ c.two_words-product.ensures.gives c.two_words.ensures.gives
