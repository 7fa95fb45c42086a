use Rattle.std.proofs.Common.{◌≡◌, ◌<◌, ℕ, drop, get_or}
use Rattle.text_lines.specs.Parts.{parts}
use Rattle.text_lines.proofs.parts.behind_spaces.Given as goal

abbrev pub invariant-loop-i : goal.invariant-loop-i
invariant-loop-i l = record {
  parts : parts (drop l.i l.line) ≡ parts l.line;
  spaces : (k : ℕ) → k < l.i → get_or l.line k 0 ≡ 32;
}
