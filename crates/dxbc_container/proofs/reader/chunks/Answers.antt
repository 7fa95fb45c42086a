use Rattle.std.proofs.Common.{sym, ap, arith, rules}
use Rattle.word_base.specs.Rules.{first}
use Rattle.dxbc_container.proofs.Firsts.{all_inside, one_outside}
use Rattle.dxbc_container.proofs.reader.chunks.Goals as goal

pub returns-then-is_outside-clause-refused : goal.returns-then-is_outside-clause-refused
returns-then-is_outside-clause-refused c =
    one_outside c.args.bytes.now c.loop-i.i c.in_ok-count.ensures.refused (omega (arith, c.in_ok-count.ensures.count)) c.loop-i.invariant (search rules)

pub returns-clause-refused : goal.returns-clause-refused
returns-clause-refused c =
    sym (ap first (all_inside c.args.bytes.now c.in_ok-count.ensures.refused (λ k h. c.loop-i.invariant k (omega (arith, c.in_ok-count.ensures.count)))))

pub returns-clause-sound : goal.returns-clause-sound
returns-clause-sound c =
    all_inside c.args.bytes.now c.in_ok-count.ensures.refused (λ k h. c.loop-i.invariant k (omega (arith, c.in_ok-count.ensures.count)))
