use Rattle.std.proofs.Common.{◌≡◌, ◌+◌, ◌≤◌}
use Rattle.spirv_emit.specs.Begun.{IsBegun}
use Rattle.spirv_emit.specs.Emission.{next_of, words_left, ids_left}
use Rattle.spirv_emit.specs.Steps.{TakesRow}
use Rattle.spirv_emit.proofs.emitter.Emitter.fresh_labels.Given as goal

abbrev pub invariant-loop : goal.invariant-loop
invariant-loop l =
    TakesRow l.fn.self l.self (next_of l.fn.self) l.counter × IsBegun l.self × (words_left l.self ≡ words_left l.fn.self)
    × (ids_left l.fn.self ≤ ids_left l.self + l.counter)
