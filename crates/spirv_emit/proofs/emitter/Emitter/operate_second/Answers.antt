use Rattle.std.proofs.Common.{refl}
use Rattle.word_base.specs.declared.arithmetic.Paired.TheVariants as paired
use Rattle.spirv_emit.specs.Operations.{divided, part_of}
use Rattle.spirv_emit.proofs.Operators.{second_by, imul_second, udiv_second, uaddc_second, usubb_second}
use Rattle.spirv_emit.proofs.emitter.Emitter.operate_second.Goals as goal

pub returns-in-Imul-clause-gives : goal.returns-in-Imul-clause-gives
returns-in-Imul-clause-gives c = second_by c.args.self.now _ (part_of 152 0) c.args.a c.args.b _ c.args.op paired.Imul c.in-Imul.is imul_second
    c.part_of.ensures.gives

pub returns-in-Umul-clause-gives : goal.returns-in-Umul-clause-gives
returns-in-Umul-clause-gives c = second_by c.args.self.now _ (part_of 151 0) c.args.a c.args.b _ c.args.op paired.Umul c.in-Umul.is
    (λ z t x y h k. refl) c.part_of-in-Umul.ensures.gives

pub returns-in-Udiv-clause-gives : goal.returns-in-Udiv-clause-gives
returns-in-Udiv-clause-gives c = second_by c.args.self.now _ (divided 137) c.args.a c.args.b _ c.args.op paired.Udiv c.in-Udiv.is udiv_second
    c.divide.ensures.gives

pub returns-in-Uaddc-clause-gives : goal.returns-in-Uaddc-clause-gives
returns-in-Uaddc-clause-gives c = second_by c.args.self.now _ (part_of 149 1) c.args.a c.args.b _ c.args.op paired.Uaddc c.in-Uaddc.is uaddc_second
    c.part_of-in-Uaddc.ensures.gives

pub returns-in-Usubb-clause-gives : goal.returns-in-Usubb-clause-gives
returns-in-Usubb-clause-gives c = second_by c.args.self.now _ (part_of 150 1) c.args.a c.args.b _ c.args.op paired.Usubb c.in-Usubb.is usubb_second
    c.part_of-in-Usubb.ensures.gives
