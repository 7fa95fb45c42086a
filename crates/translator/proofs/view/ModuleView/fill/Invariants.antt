use Rattle.std.proofs.Common.{◌≡◌, ℕ, ◌+◌, ◌<◌, drop, length}
use Rattle.std.specs.Prelude.{slice_index}
use Rattle.translator.specs.Pieces.{byte_of}
use Rattle.translator.specs.Shown.{module_words}
use Rattle.translator.proofs.view.ModuleView.fill.Given as goal

-- The bytes up to a place are the module's, and those behind the piece's own.
abbrev pub invariant-loop-n : goal.invariant-loop-n
invariant-loop-n l = record {
  long : length l.piece ≡ length l.fn.piece;
  front : (k : ℕ) → k < l.n → slice_index l.piece k ≡ byte_of (module_words l.self) (l.at + k);
  rest : drop l.n l.piece ≡ drop l.n l.fn.piece;
}
