use Rattle.std.proofs.Common.{length, arith}
use Rattle.text_lines.proofs.Cut.{behind_the_spaces}
use Rattle.text_lines.proofs.parts.behind_spaces.Goals as goal

pub returns-then-line-i-ne32-clause-line : goal.returns-then-line-i-ne32-clause-line
returns-then-line-i-ne32-clause-line c =
    behind_the_spaces c.args.line.now c.loop-i.i (omega arith) c.loop-i.invariant.spaces (λ lt e. grind arith)

pub returns-clause-line : goal.returns-clause-line
returns-clause-line c =
    behind_the_spaces c.args.line.now (length c.args.line.now) (omega arith) (λ k lt. c.loop-i.invariant.spaces k (omega (arith, lt)))
    (λ lt. absurd (omega (arith, lt)))
