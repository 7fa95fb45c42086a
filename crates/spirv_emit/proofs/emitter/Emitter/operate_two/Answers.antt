use Rattle.std.proofs.Common.{refl}
use Rattle.word_base.specs.declared.arithmetic.Binary.TheVariants as two
use Rattle.spirv_emit.specs.Operations.{calc, on_cut, as_word, second_where, second_unless}
use Rattle.spirv_emit.proofs.Operators.{two_by, ishl, ishr, ushr, ine, umax, umin}
use Rattle.spirv_emit.proofs.emitter.Emitter.operate_two.Goals as goal

pub returns-in-Iadd-clause-gives : goal.returns-in-Iadd-clause-gives
returns-in-Iadd-clause-gives c = two_by c.args.self.now _ (calc 128) c.args.a c.args.b _ c.args.op two.Iadd c.in-Iadd.is (λ z t x y h k. refl)
    c.two_words.ensures.gives

pub returns-in-And-clause-gives : goal.returns-in-And-clause-gives
returns-in-And-clause-gives c = two_by c.args.self.now _ (calc 199) c.args.a c.args.b _ c.args.op two.And c.in-And.is (λ z t x y h k. refl)
    c.two_words-in-And.ensures.gives

pub returns-in-Or-clause-gives : goal.returns-in-Or-clause-gives
returns-in-Or-clause-gives c = two_by c.args.self.now _ (calc 197) c.args.a c.args.b _ c.args.op two.Or c.in-Or.is (λ z t x y h k. refl)
    c.two_words-in-Or.ensures.gives

pub returns-in-Xor-clause-gives : goal.returns-in-Xor-clause-gives
returns-in-Xor-clause-gives c = two_by c.args.self.now _ (calc 198) c.args.a c.args.b _ c.args.op two.Xor c.in-Xor.is (λ z t x y h k. refl)
    c.two_words-in-Xor.ensures.gives

pub returns-in-Ishl-clause-gives : goal.returns-in-Ishl-clause-gives
returns-in-Ishl-clause-gives c = two_by c.args.self.now _ (on_cut 196) c.args.a c.args.b _ c.args.op two.Ishl c.in-Ishl.is ishl c.shift.ensures.gives

pub returns-in-Ishr-clause-gives : goal.returns-in-Ishr-clause-gives
returns-in-Ishr-clause-gives c = two_by c.args.self.now _ (on_cut 195) c.args.a c.args.b _ c.args.op two.Ishr c.in-Ishr.is ishr
    c.shift-in-Ishr.ensures.gives

pub returns-in-Ushr-clause-gives : goal.returns-in-Ushr-clause-gives
returns-in-Ushr-clause-gives c = two_by c.args.self.now _ (on_cut 194) c.args.a c.args.b _ c.args.op two.Ushr c.in-Ushr.is ushr
    c.shift-in-Ushr.ensures.gives

pub returns-in-Ieq-clause-gives : goal.returns-in-Ieq-clause-gives
returns-in-Ieq-clause-gives c = two_by c.args.self.now _ (as_word 170) c.args.a c.args.b _ c.args.op two.Ieq c.in-Ieq.is (λ z t x y h k. refl)
    c.truth_word.ensures.gives

pub returns-in-Ine-clause-gives : goal.returns-in-Ine-clause-gives
returns-in-Ine-clause-gives c = two_by c.args.self.now _ (as_word 171) c.args.a c.args.b _ c.args.op two.Ine c.in-Ine.is ine
    c.truth_word-in-Ine.ensures.gives

pub returns-in-Ige-clause-gives : goal.returns-in-Ige-clause-gives
returns-in-Ige-clause-gives c = two_by c.args.self.now _ (as_word 175) c.args.a c.args.b _ c.args.op two.Ige c.in-Ige.is (λ z t x y h k. refl)
    c.truth_word-in-Ige.ensures.gives

pub returns-in-Ilt-clause-gives : goal.returns-in-Ilt-clause-gives
returns-in-Ilt-clause-gives c = two_by c.args.self.now _ (as_word 177) c.args.a c.args.b _ c.args.op two.Ilt c.in-Ilt.is (λ z t x y h k. refl)
    c.truth_word-in-Ilt.ensures.gives

pub returns-in-Uge-clause-gives : goal.returns-in-Uge-clause-gives
returns-in-Uge-clause-gives c = two_by c.args.self.now _ (as_word 174) c.args.a c.args.b _ c.args.op two.Uge c.in-Uge.is (λ z t x y h k. refl)
    c.truth_word-in-Uge.ensures.gives

pub returns-in-Ult-clause-gives : goal.returns-in-Ult-clause-gives
returns-in-Ult-clause-gives c = two_by c.args.self.now _ (as_word 176) c.args.a c.args.b _ c.args.op two.Ult c.in-Ult.is (λ z t x y h k. refl)
    c.truth_word-in-Ult.ensures.gives

pub returns-in-Imax-clause-gives : goal.returns-in-Imax-clause-gives
returns-in-Imax-clause-gives c = two_by c.args.self.now _ (second_where 177) c.args.a c.args.b _ c.args.op two.Imax c.in-Imax.is (λ z t x y h k. refl)
    c.second_where.ensures.gives

pub returns-in-Imin-clause-gives : goal.returns-in-Imin-clause-gives
returns-in-Imin-clause-gives c = two_by c.args.self.now _ (second_unless 177) c.args.a c.args.b _ c.args.op two.Imin c.in-Imin.is
    (λ z t x y h k. refl) c.second_unless.ensures.gives

pub returns-in-Umax-clause-gives : goal.returns-in-Umax-clause-gives
returns-in-Umax-clause-gives c = two_by c.args.self.now _ (second_where 176) c.args.a c.args.b _ c.args.op two.Umax c.in-Umax.is umax
    c.second_where-in-Umax.ensures.gives

pub returns-in-Umin-clause-gives : goal.returns-in-Umin-clause-gives
returns-in-Umin-clause-gives c = two_by c.args.self.now _ (second_unless 176) c.args.a c.args.b _ c.args.op two.Umin c.in-Umin.is umin
    c.second_unless-in-Umin.ensures.gives
