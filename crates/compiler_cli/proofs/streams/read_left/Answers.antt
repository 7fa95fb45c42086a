use Rattle.std.proofs.Common.{ℕ, subst, arith}
use Rattle.std.proofs.lemmas.Grind.{common_steps}
use Rattle.outside.specs.Told.{Fills}
use Rattle.compiler_cli.proofs.Arrived.{came_full, came_to_end}
use Rattle.compiler_cli.proofs.streams.read_left.Goals as goal

pub returns-then-count-eq0-clause-whole : goal.returns-then-count-eq0-clause-whole
returns-then-count-eq0-clause-whole g c =
    let len = c.loop-piece.bytes.ok.0 in
    let told = subst (λ (n : ℕ). Fills (g.D.Desk.told c.loop-piece.desk).left (g.D.Desk.told c.read.new.self).left n c.read.new.piece) c.if-count-eq0.true c.in-Ok.ensures.desk.bytes in
    came_to_end (g.D.Desk.told c.args.desk.now).left (g.D.Desk.told c.loop-piece.desk).left (g.D.Desk.told c.read.new.self).left c.loop-piece.bytes.items c.read.new.piece c.loop-piece.invariant.came told (grind (arith, common_steps)) (omega (arith, len, c.loop-piece.invariant.within))

pub returns-clause-whole : goal.returns-clause-whole
returns-clause-whole g c =
    let len = c.loop-piece.bytes.ok.0 in
    came_full (g.D.Desk.told c.args.desk.now).left (g.D.Desk.told c.loop-piece.desk).left c.loop-piece.bytes.items c.loop-piece.invariant.came (omega (arith, len, c.loop-piece.invariant.within, c.len.ensures, c.loop-piece-test.false))
