use Rattle.std.proofs.Common.{◌≡◌, ℕ, ◌+◌, ◌*◌, ◌-◌, ◌<◌, drop, length}
use Rattle.std.specs.Prelude.{slice_index}
use Rattle.translator.specs.Pieces.{byte_of}
use Rattle.translator.specs.Shown.{module_words}
use Rattle.translator.proofs.view.ModuleView.fill_words.Given as goal

-- The words in front of a number are the module's, and the bytes behind them the piece's own.
abbrev pub invariant-loop-i : goal.invariant-loop-i
invariant-loop-i l = record {
  long : length l.piece ≡ length l.fn.piece;
  front : (k : ℕ) → k < 4 * (l.i - l.first) → slice_index l.piece k ≡ byte_of (module_words l.self) (4 * l.first + k);
  rest : drop (4 * (l.i - l.first)) l.piece ≡ drop (4 * (l.i - l.first)) l.fn.piece;
}
