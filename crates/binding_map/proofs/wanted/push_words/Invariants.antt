use Rattle.std.proofs.Common.{◌≡◌, take}
use Rattle.binding_map.specs.Wanted.{push_words}
use Rattle.binding_map.proofs.wanted.push_words.Given as goal

abbrev pub invariant-loop-i : goal.invariant-loop-i
invariant-loop-i l = l.words ≡ push_words l.program.shader (take l.i l.bindings)
