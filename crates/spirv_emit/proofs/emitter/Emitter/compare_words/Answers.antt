use Rattle.std.proofs.Common.{refl}
use Rattle.shader_tree.specs.declared.node.Comparison.TheVariants as compared
use Rattle.spirv_emit.specs.Operations.{calc}
use Rattle.spirv_emit.proofs.Arms.{compare_by}
use Rattle.spirv_emit.proofs.emitter.Emitter.compare_words.Goals as goal

pub returns-in-Equal-clause-gives : goal.returns-in-Equal-clause-gives
returns-in-Equal-clause-gives c = compare_by c.args.self.now _ (calc 170) c.args.a c.args.b _ c.args.how compared.Equal c.in-Equal.is
    (λ z t x y. refl) c.compare.ensures.gives

pub returns-in-Unequal-clause-gives : goal.returns-in-Unequal-clause-gives
returns-in-Unequal-clause-gives c = compare_by c.args.self.now _ (calc 171) c.args.a c.args.b _ c.args.how compared.Unequal c.in-Unequal.is
    (λ z t x y. refl) c.compare-in-Unequal.ensures.gives

pub returns-in-ULess-clause-gives : goal.returns-in-ULess-clause-gives
returns-in-ULess-clause-gives c = compare_by c.args.self.now _ (calc 176) c.args.a c.args.b _ c.args.how compared.ULess c.in-ULess.is
    (λ z t x y. refl) c.compare-in-ULess.ensures.gives

pub returns-in-SLess-clause-gives : goal.returns-in-SLess-clause-gives
returns-in-SLess-clause-gives c = compare_by c.args.self.now _ (calc 177) c.args.a c.args.b _ c.args.how compared.SLess c.in-SLess.is
    (λ z t x y. refl) c.compare-in-SLess.ensures.gives

pub returns-in-UAtLeast-clause-gives : goal.returns-in-UAtLeast-clause-gives
returns-in-UAtLeast-clause-gives c = compare_by c.args.self.now _ (calc 174) c.args.a c.args.b _ c.args.how compared.UAtLeast c.in-UAtLeast.is
    (λ z t x y. refl) c.compare-in-UAtLeast.ensures.gives

pub returns-in-SAtLeast-clause-gives : goal.returns-in-SAtLeast-clause-gives
returns-in-SAtLeast-clause-gives c = compare_by c.args.self.now _ (calc 175) c.args.a c.args.b _ c.args.how compared.SAtLeast c.in-SAtLeast.is
    (λ z t x y. refl) c.compare-in-SAtLeast.ensures.gives
