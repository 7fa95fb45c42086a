use Rattle.std.proofs.Common.{◌≡◌, ◌+◌, ◌≤◌, [], length}
use Rattle.kept_values.specs.Tables.{dirty_in}
use Rattle.spirv_emit.specs.Begun.{IsBegun}
use Rattle.spirv_emit.specs.Emission.{words_left, ids_left}
use Rattle.spirv_emit.specs.Values.{Gives, nothing}
use Rattle.spirv_emit.proofs.emitter.Emitter.flush.Given as goal

abbrev pub invariant-loop : goal.invariant-loop
invariant-loop l =
    Gives l.fn.self l.self [] [] nothing × IsBegun l.self × (length (dirty_in l.self.kept) + l.counter ≡ length (dirty_in l.fn.self.kept))
    × (words_left l.fn.self ≤ words_left l.self) × (ids_left l.fn.self ≤ ids_left l.self)
