use Rattle.std.proofs.Common.{refl}
use Rattle.word_base.specs.declared.arithmetic.Ternary.TheVariants as three
use Rattle.spirv_emit.specs.Operations.{on_field, sum_of_product, second_of_nonzero}
use Rattle.spirv_emit.proofs.Operators.{three_by, product_is, ubfe, ibfe}
use Rattle.spirv_emit.proofs.emitter.Emitter.operate_three.Goals as goal

pub returns-in-Imad-clause-gives : goal.returns-in-Imad-clause-gives
returns-in-Imad-clause-gives c =
    three_by c.args.self.now _ sum_of_product c.args.a c.args.b c.args.c _ c.args.op three.Imad c.in-Imad.is (λ z t x y w h k l. product_is x y w)
    c.product_and_sum.ensures.gives

pub returns-in-Umad-clause-gives : goal.returns-in-Umad-clause-gives
returns-in-Umad-clause-gives c =
    three_by c.args.self.now _ sum_of_product c.args.a c.args.b c.args.c _ c.args.op three.Umad c.in-Umad.is (λ z t x y w h k l. product_is x y w)
    c.product_and_sum-in-Umad.ensures.gives

pub returns-in-Movc-clause-gives : goal.returns-in-Movc-clause-gives
returns-in-Movc-clause-gives c =
    three_by c.args.self.now _ second_of_nonzero c.args.a c.args.b c.args.c _ c.args.op three.Movc c.in-Movc.is (λ z t x y w h k l. refl)
    c.second_of_nonzero.ensures.gives

pub returns-in-Ubfe-clause-gives : goal.returns-in-Ubfe-clause-gives
returns-in-Ubfe-clause-gives c = three_by c.args.self.now _ (on_field 194 203) c.args.a c.args.b c.args.c _ c.args.op three.Ubfe c.in-Ubfe.is ubfe
    c.field.ensures.gives

pub returns-in-Ibfe-clause-gives : goal.returns-in-Ibfe-clause-gives
returns-in-Ibfe-clause-gives c =
    three_by c.args.self.now _ (on_field 195 202) c.args.a c.args.b c.args.c _ c.args.op three.Ibfe c.in-Ibfe.is ibfe c.field-in-Ibfe.ensures.gives
