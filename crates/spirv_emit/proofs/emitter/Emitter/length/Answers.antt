use Rattle.std.proofs.Common.{subst, sym, [], ◌∷◌}
use Rattle.spirv_symbols.specs.Tables.{Has}
use Rattle.spirv_symbols.specs.declared.symbol.Symbol.TheVariants.{Memory}
use Rattle.spirv_emit.specs.Reads.{extent_of}
use Rattle.spirv_emit.specs.Values.{Gives, a_word}
use Rattle.spirv_emit.proofs.Buffers.{counter_length}
use Rattle.spirv_emit.proofs.emitter.Emitter.length.Goals as goal

pub returns-in-Counter-clause-gives : goal.returns-in-Counter-clause-gives
returns-in-Counter-clause-gives c =
    subst (λ r. Gives c.args.self.now c.args.self.now [] (a_word c.one.result ∷ []) (extent_of r)) (sym c.in-Counter.is)
    (counter_length c.args.self.now c.in-Counter.field-0 c.one.result c.requires.there.0 c.requires.begun
    (subst (λ r. Has c.args.self.now.symbols.entries (Memory r) c.requires.there.0) c.in-Counter.is c.requires.there.1) c.one.ensures)
