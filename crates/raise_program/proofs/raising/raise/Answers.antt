use Rattle.std.proofs.Common.{◌≡◌, ◌<◌, ◌≤◌, ℕ, ◌-◌, length, ap, subst, arith}
use Rattle.binding_map.specs.Fits.{is_null_in}
use Rattle.shader_tree.specs.Trees.{Grown}
use Rattle.raise_program.specs.Walking.{StandsAt}
use Rattle.raise_program.proofs.Kept.{walk_itself_kept}
use Rattle.raise_program.proofs.Lengths.{lengths_few}
use Rattle.raise_program.proofs.Stands.{lengths_from, next_lengths, stands_allowed, stands_first, stands_next}
use Rattle.raise_program.proofs.raising.raise.Goals as goal

pub visit-requires-clause-at : goal.visit-requires-clause-at
visit-requires-clause-at c = record {
  there = c.instruction-instruction.ensures;
  may = c.may_raise_laws.ensures c.args.program.now.shader c.requires.program _ _ c.instruction-instruction.ensures;
}

pub visit-requires-clause-walk : goal.visit-requires-clause-walk
visit-requires-clause-walk c = walk_itself_kept _ _ _ c.loop-number.invariant.walk'

pub visit-requires-clause-allows : goal.visit-requires-clause-allows
visit-requires-clause-allows c =
    let p = c.args.program.now.shader in
    let many : c.loop-number.number ≤ length p.instructions - 1 = omega (arith, c.loop-number.auto.number, c.instructions-number.ensures.count) in
    stands_allowed c.growing_laws.ensures (is_null_in c.args.bindings.now) p c.requires.program.nested c.args.tree.now c.loop-number.tree c.loop-number.walk
    c.loop-number.number c.loop-number.invariant c.instruction-instruction.result c.instruction-instruction.ensures (omega (arith, c.loop-number-test.true)) many

pub visit-requires-clause-room : goal.visit-requires-clause-room
visit-requires-clause-room c =
    let p = c.args.program.now.shader in
    let many : c.loop-number.number ≤ length p.instructions - 1 = omega (arith, c.loop-number.auto.number, c.instructions-number.ensures.count) in
    let above : 0 < c.loop-number.number = omega (arith, c.loop-number-test.true) in
    let next = next_lengths p c.requires.program.nested c.loop-number.number c.instruction-instruction.result c.instruction-instruction.ensures above many in
    let few = lengths_few p c.requires.program.tokens c.requires.program.checked.spelled in
    let all = lengths_from p (c.loop-number.number - 1) in
    let none = ap length c.requires.cleared in
    omega (arith, next, few, all, none, c.loop-number.invariant.grows.few, c.loop-number.invariant.grows.capacity, c.requires.room)

pub loop-number-preserved : goal.loop-number-preserved
loop-number-preserved c =
    let p = c.args.program.now.shader in
    let many : c.loop-number.number ≤ length p.instructions - 1 = omega (arith, c.loop-number.auto.number, c.instructions-number.ensures.count) in
    stands_next c.growing_laws.ensures (is_null_in c.args.bindings.now) p c.requires.program.nested c.args.tree.now c.loop-number.tree c.loop-number.walk
    c.loop-number.number c.loop-number.invariant c.instruction-instruction.result c.instruction-instruction.ensures (omega (arith, c.loop-number-test.true)) many
    c.visit.new.tree c.visit.new.walk c.visit.ensures.grows c.visit.ensures.walk

pub returns-clause-raised : goal.returns-clause-raised
returns-clause-raised c =
    let p = c.args.program.now.shader in
    let zero : c.loop-number.number ≡ 0 = omega (arith, c.loop-number-test.false) in
    let P : ℕ → Type 0 = λ n. StandsAt (is_null_in c.args.bindings.now) p c.args.tree.now c.loop-number.tree c.loop-number.walk n in
    stands_first c.growing_laws.ensures (is_null_in c.args.bindings.now) p c.requires.program.nested c.args.tree.now c.loop-number.tree c.loop-number.walk
    c.loop-number.number (subst P zero c.loop-number.invariant) c.set_root.new.self c.set_root.ensures

pub returns-clause-few : goal.returns-clause-few
returns-clause-few c =
    let p = c.args.program.now.shader in
    let few = lengths_few p c.requires.program.tokens c.requires.program.checked.spelled in
    let all = lengths_from p c.loop-number.number in
    let none = ap length c.requires.cleared in
    let same = ap length (ap (λ (t : Grown). t.nodes) c.set_root.ensures) in
    omega (arith, few, all, none, same, c.loop-number.invariant.grows.few)
