use Rattle.std.proofs.Common.{refl}
use Rattle.word_base.specs.declared.arithmetic.Paired.TheVariants as paired
use Rattle.spirv_emit.specs.Operations.{divided, part_of}
use Rattle.spirv_emit.proofs.Operators.{first_by, imul_first, umul_first, udiv_first}
use Rattle.spirv_emit.proofs.emitter.Emitter.operate_first.Goals as goal

pub returns-in-Imul-clause-gives : goal.returns-in-Imul-clause-gives
returns-in-Imul-clause-gives c = first_by c.args.self.now _ (part_of 152 1) c.args.a c.args.b _ c.args.op paired.Imul c.in-Imul.is imul_first
    c.part_of.ensures.gives

pub returns-in-Umul-clause-gives : goal.returns-in-Umul-clause-gives
returns-in-Umul-clause-gives c = first_by c.args.self.now _ (part_of 151 1) c.args.a c.args.b _ c.args.op paired.Umul c.in-Umul.is umul_first
    c.part_of-in-Umul.ensures.gives

pub returns-in-Udiv-clause-gives : goal.returns-in-Udiv-clause-gives
returns-in-Udiv-clause-gives c = first_by c.args.self.now _ (divided 134) c.args.a c.args.b _ c.args.op paired.Udiv c.in-Udiv.is udiv_first
    c.divide.ensures.gives

pub returns-in-Uaddc-clause-gives : goal.returns-in-Uaddc-clause-gives
returns-in-Uaddc-clause-gives c = first_by c.args.self.now _ (part_of 149 0) c.args.a c.args.b _ c.args.op paired.Uaddc c.in-Uaddc.is
    (λ z t x y h k. refl) c.part_of-in-Uaddc.ensures.gives

pub returns-in-Usubb-clause-gives : goal.returns-in-Usubb-clause-gives
returns-in-Usubb-clause-gives c = first_by c.args.self.now _ (part_of 150 0) c.args.a c.args.b _ c.args.op paired.Usubb c.in-Usubb.is
    (λ z t x y h k. refl) c.part_of-in-Usubb.ensures.gives
