use Rattle.std.proofs.Common.{refl}
use Rattle.spirv_words.specs.Values.{Word}
use Rattle.spirv_symbols.specs.declared.symbol.Symbol.TheVariants.{Constant}
use Rattle.spirv_symbols.specs.declared.symbol.TypeSymbol.TheVariants as type
use Rattle.spirv_emit.proofs.Giving.{named_gives}
use Rattle.spirv_emit.proofs.emitter.Emitter.constant.Goals as goal

pub returns-clause-gives : goal.returns-clause-gives
returns-clause-gives c = named_gives c.args.self.now _ (Constant c.args.word) c.named.result (Word c.args.word) type.Word refl refl
    c.named.ensures.named
