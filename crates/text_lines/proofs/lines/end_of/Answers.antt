use Rattle.std.proofs.Common.{eqb, length, sym, arith}
use Rattle.std.proofs.lemmas.List.Sums.{position_or_len_is}
use Rattle.text_lines.proofs.lines.end_of.Goals as goal

pub returns-then-bytes-i-clause-place : goal.returns-then-bytes-i-clause-place
returns-then-bytes-i-clause-place c = sym (position_or_len_is (λ b. eqb b c.args.byte) c.args.bytes.now c.loop-i.i 0 (omega arith) c.loop-i.invariant (λ _. grind arith))

pub returns-clause-place : goal.returns-clause-place
returns-clause-place c =
    sym (position_or_len_is (λ b. eqb b c.args.byte) c.args.bytes.now (length c.args.bytes.now) 0 (omega arith) (λ k lt. c.loop-i.invariant k (omega (arith, lt)))
    (λ lt. absurd (omega (arith, lt))))
