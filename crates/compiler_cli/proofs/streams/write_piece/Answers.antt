use Rattle.std.proofs.Common.{arith, subst, ◌∙◌, length}
use Rattle.outside.specs.Causes.{Gained}
use Rattle.compiler_cli.proofs.Parts.{rest_is, range_length}
use Rattle.compiler_cli.proofs.streams.write_piece.Goals as goal

pub loop-done-preserved : goal.loop-done-preserved
loop-done-preserved g c =
    let rest = range_length c.args.piece.now c.loop-done.done (length c.args.piece.now) c.loop-done.invariant.within (omega arith) in
    record {
      within = omega (arith, rest, c.in_ok-done.ensures.bytes.within, c.loop-done.invariant.within);
      gained = subst (Gained (g.K.Sink.written c.args.sink.now) (g.K.Sink.written c.write.new.self)) (rest_is c.args.piece.now c.loop-done.done c.in_ok-done.field-0) (c.outside_laws.ensures.gained_twice _ _ _ _ _ c.loop-done.invariant.gained c.in_ok-done.ensures.bytes.gained);
      same = c.in_ok-done.ensures.cause.kept ∙ c.loop-done.invariant.same;
      kept = c.write.ensures.kept ∙ c.loop-done.invariant.kept;
      nothing = λ e. absurd (let s = c.in_ok-done.ensures.bytes.some (omega (arith, rest, c.loop-done-test.true)) in omega (arith, e, s));
    }
