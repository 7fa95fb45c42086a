use Rattle.std.proofs.Common.{◌≡◌, false}
use Rattle.spirv_emit.specs.Growing.{is_global}
use Rattle.spirv_emit.proofs.Ordered.{each_at, index_at, needs_at, puts_more}
use Rattle.spirv_emit.proofs.naming.put_all.Goals as goal

pub put-requires-clause-needs : goal.put-requires-clause-needs
put-requires-clause-needs c =
    needs_at c.args.context.now c.args.symbols.now c.loop-symbol.symbols c.args.all.now c.loop-symbol.symbol-index _ c.requires.order
    (index_at c.args.all.now c.loop-symbol.symbol-index _ c.loop-symbol-test.true) c.loop-symbol.invariant

pub loop-symbol-preserved : goal.loop-symbol-preserved
loop-symbol-preserved c =
    let i = index_at c.args.all.now c.loop-symbol.symbol-index _ c.loop-symbol-test.true in
    puts_more c.growth_laws.ensures.on c.args.context.now c.args.symbols.now c.loop-symbol.symbols c.put.new.self c.args.all.now
    c.loop-symbol.symbol-index _ c.put.result i (each_at (λ s. is_global s ≡ false) c.args.all.now c.loop-symbol.symbol-index _ c.requires.locals i)
    c.loop-symbol.invariant c.put.ensures
