use Rattle.std.proofs.Common.{◌≡◌, length}
use Rattle.kept_values.proofs.numbers.zeros.Given as goal

abbrev pub invariant-loop : goal.invariant-loop
invariant-loop l = (length l.pool.list ≡ l.counter) × (l.pool.capacity ≡ l.count)
