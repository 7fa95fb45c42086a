use Rattle.std.proofs.Common.{arith}
use Rattle.spirv_emit.proofs.Saves.{nothing_from, nothing_on}
use Rattle.spirv_emit.proofs.emitter.Emitter.flush.Goals as goal

pub loop-init : goal.loop-init
loop-init c = (nothing_from c.args.self.now, c.requires, omega arith, omega arith, omega arith)

pub loop-preserved : goal.loop-preserved
loop-preserved c =
    let i = c.loop.invariant in let s = c.save.ensures in (
      nothing_on c.args.self.now c.loop.self c.save.new.self i.0 s.saves.gives,
      s.begun,
      omega (arith, i.2, s.saves.count),
      omega
          (arith, i.3, s.words),
      omega (arith, i.4, s.ids),
    )
