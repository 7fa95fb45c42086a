use Rattle.std.proofs.Common.{refl, [], ◌∷◌}
use Rattle.word_base.specs.declared.arithmetic.Unary.TheVariants as one
use Rattle.spirv_emit.specs.Joins.{given}
use Rattle.spirv_emit.specs.Operations.{calc, from_above, finding}
use Rattle.spirv_emit.specs.Values.{a_word}
use Rattle.spirv_emit.proofs.Groups.{start, negative, negatives}
use Rattle.spirv_emit.proofs.Operators.{one_by, firstbit_hi, firstbit_shi}
use Rattle.spirv_emit.proofs.emitter.Emitter.operate_one.Goals as goal

pub returns-in-Mov-clause-gives : goal.returns-in-Mov-clause-gives
returns-in-Mov-clause-gives c =
    one_by c.args.self.now _ given c.args.a _ c.args.op one.Mov c.in-Mov.is (λ z t x h. refl) (start c.args.self.now (a_word c.args.a ∷ []))

pub returns-in-Ineg-clause-gives : goal.returns-in-Ineg-clause-gives
returns-in-Ineg-clause-gives c =
    one_by c.args.self.now _ negative c.args.a _ c.args.op one.Ineg c.in-Ineg.is (λ z t x h. refl)
    (negatives c.args.self.now _ c.args.a c.zero-zero.result _ c.requires.begun c.zero-zero.ensures c.two_words.ensures.gives)

pub returns-in-Not-clause-gives : goal.returns-in-Not-clause-gives
returns-in-Not-clause-gives c = one_by c.args.self.now _ (calc 200) c.args.a _ c.args.op one.Not c.in-Not.is (λ z t x h. refl)
    c.one_word.ensures.gives

pub returns-in-Bfrev-clause-gives : goal.returns-in-Bfrev-clause-gives
returns-in-Bfrev-clause-gives c = one_by c.args.self.now _ (calc 204) c.args.a _ c.args.op one.Bfrev c.in-Bfrev.is (λ z t x h. refl)
    c.one_word-in-Bfrev.ensures.gives

pub returns-in-Countbits-clause-gives : goal.returns-in-Countbits-clause-gives
returns-in-Countbits-clause-gives c = one_by c.args.self.now _ (calc 205) c.args.a _ c.args.op one.Countbits c.in-Countbits.is (λ z t x h. refl)
    c.one_word-in-Countbits.ensures.gives

pub returns-in-FirstbitHi-clause-gives : goal.returns-in-FirstbitHi-clause-gives
returns-in-FirstbitHi-clause-gives c = one_by c.args.self.now _ (from_above 75) c.args.a _ c.args.op one.FirstbitHi c.in-FirstbitHi.is firstbit_hi
    c.bit_from_above.ensures.gives

pub returns-in-FirstbitLo-clause-gives : goal.returns-in-FirstbitLo-clause-gives
returns-in-FirstbitLo-clause-gives c = one_by c.args.self.now _ (finding 73) c.args.a _ c.args.op one.FirstbitLo c.in-FirstbitLo.is (λ z t x h. refl)
    c.find_bit.ensures.gives

pub returns-in-FirstbitShi-clause-gives : goal.returns-in-FirstbitShi-clause-gives
returns-in-FirstbitShi-clause-gives c = one_by c.args.self.now _ (from_above 74) c.args.a _ c.args.op one.FirstbitShi c.in-FirstbitShi.is firstbit_shi
    c.bit_from_above-in-FirstbitShi.ensures.gives
