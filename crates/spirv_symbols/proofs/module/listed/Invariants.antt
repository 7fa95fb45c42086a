use Rattle.std.proofs.Common.{◌≡◌, ◌≤◌, take, length}
use Rattle.spirv_symbols.specs.Modules.{interface}
use Rattle.spirv_symbols.proofs.module.listed.Given as goal

abbrev pub invariant-loop-k : goal.invariant-loop-k
invariant-loop-k l = record {
  count : l.count ≡ length (interface l.version (take l.k l.symbols.entries));
  few : l.count ≤ l.k;
}
