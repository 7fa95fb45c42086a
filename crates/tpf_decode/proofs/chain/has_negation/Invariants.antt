use Rattle.std.proofs.Common.{◌≡◌}
use Rattle.std.specs.Prelude.{slice_range}
use Rattle.std.specs.List.{list_any}
use Rattle.word_base.specs.Words.{words_of}
use Rattle.tpf_decode.specs.Tokens.{is_negation}
use Rattle.tpf_decode.proofs.chain.has_negation.Given as goal

abbrev pub invariant-loop-place : goal.invariant-loop-place
invariant-loop-place l = list_any is_negation (slice_range (words_of l.bytes) l.place l.end) ≡ list_any is_negation (slice_range (words_of l.bytes) l.start l.end)
