use Rattle.std.proofs.Common.{◌+◌, ◌-◌, cond}
use Rattle.word_base.specs.Words.{words_of}
use Rattle.tpf_decode.proofs.Chains.{Walked}
use Rattle.tpf_decode.proofs.chain.chain_end.Given as goal

abbrev pub invariant-loop-more : goal.invariant-loop-more
invariant-loop-more l = Walked l.of (words_of l.bytes) l.follows l.more l.start l.place l.end

abbrev pub decreases-loop-more : goal.decreases-loop-more
decreases-loop-more l = l.end - l.place + cond l.more 1 0
