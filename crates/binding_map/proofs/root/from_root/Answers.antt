use Rattle.std.proofs.Common.{refl, arith}
use Rattle.binding_map.proofs.Covered.{next_grows, may_next, may_end, ends}
use Rattle.binding_map.proofs.root.from_root.Goals as goal

pub cover-requires : goal.cover-requires
cover-requires c =
    may_next c.args.root.now c.args.program.now.shader c.of-registers.result c.of-registers.ensures c.len-i-end.ensures.signature
    (record { bindings = c.empty.result; next = 0 }) c.loop-i.growing c.empty.ensures refl c.loop-i.i c.at.result c.at.ensures c.loop-i.invariant

pub loop-i-preserved : goal.loop-i-preserved
loop-i-preserved c =
    next_grows c.args.root.now c.args.program.now.shader c.of-registers.result c.of-registers.ensures c.len-i-end.ensures.signature
    (record { bindings = c.empty.result; next = 0 }) c.loop-i.growing c.loop-i.i c.at.result c.at.ensures c.loop-i.invariant c.cover.new.self c.in_ok-cover.ensures

pub bind_run-requires-clause-grow : goal.bind_run-requires-clause-grow
bind_run-requires-clause-grow c =
    may_end c.args.root.now c.args.program.now.shader c.of-registers.result c.of-registers.ensures c.len-i-end.ensures.signature
    (record { bindings = c.empty.result; next = 0 }) c.loop-i.growing c.empty.ensures refl c.loop-i.i (omega arith) c.loop-i.invariant

pub returns : goal.returns
returns c =
    ends c.args.root.now c.args.program.now.shader c.of-registers.result c.of-registers.ensures c.len-i-end.ensures.signature
    (record { bindings = c.empty.result; next = 0 }) c.loop-i.growing c.bind_run.new.self c.empty.ensures refl c.loop-i.i (omega arith)
    c.loop-i.invariant c.in_ok-bind_run.ensures
