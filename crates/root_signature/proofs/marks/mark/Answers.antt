use Rattle.std.proofs.Common.{◌≡◌, ℕ, ◌+◌, ◌-◌, ◌*◌, ◌<◌, ◌≤◌, ◌⊎◌, length, get_or, subst, sym, arith, min, max}
use Rattle.std.proofs.Math.Nat.{mul-le-mul_left}
use Rattle.root_signature.specs.Runs.{Marking}
use Rattle.root_signature.proofs.Marked.{more_written, more_passed, none_yet, all_marked}
use Rattle.root_signature.proofs.marks.mark.Goals as goal
use Rattle.root_signature.proofs.marks.mark.Goals.{then-run-left, else-run-left}

reached : (j run left m n : ℕ) → m ≡ min run left → n ≡ max m 1 → (j + n ≤ j + 1) ⊎ (j + n ≤ j + run)
reached j run left m n e f = grind (arith)

inside : (step start count j n : ℕ) → j < count → (0 < count → start + step * (count - 1) < n) → start + step * j < n
inside step start count j n l h = omega (arith, h (omega arith), mul-le-mul_left {m = j} {n = count - 1} step (omega arith))

pub loop-j-init : goal.loop-j-init
loop-j-init c = none_yet c.args.step c.args.start c.args.count c.args.marks.now

pub loop-j-preserved : goal.loop-j-preserved
loop-j-preserved c =
    let there : c.args.start + c.args.step * c.loop-j.j < length c.loop-j.marks =
    inside c.args.step c.args.start c.args.count c.loop-j.j (length c.loop-j.marks) (omega arith) (λ p. omega (arith, c.requires.inside p, c.loop-j.invariant.size)) in
    let reach : (c.loop-j.j + c.max-j.result ≤ c.loop-j.j + 1) ⊎ (c.loop-j.j + c.max-j.result ≤ c.loop-j.j + get_or c.loop-j.marks (c.args.start + c.args.step * c.loop-j.j) 0) =
    reached c.loop-j.j (get_or c.loop-j.marks (c.args.start + c.args.step * c.loop-j.j) 0) (c.args.count - c.loop-j.j) c.min.result c.max-j.result c.min.ensures c.max-j.ensures in
    elim c.if-run-left.branch [
      | then-run-left w ↦
          subst (λ marks. Marking c.args.step c.args.start c.args.count (c.loop-j.j + c.max-j.result) c.args.marks.now marks) (sym w.marks-is)
          (more_written c.args.step c.args.start c.args.count c.loop-j.j c.args.marks.now c.loop-j.marks c.loop-j.invariant c.requires.marks c.requires.step
          (omega arith) there (c.loop-j.j + c.max-j.result) (omega arith) (omega arith) reach)
      | else-run-left w ↦
          subst (λ marks. Marking c.args.step c.args.start c.args.count (c.loop-j.j + c.max-j.result) c.args.marks.now marks) (sym w.marks-is)
          (more_passed c.args.step c.args.start c.args.count c.loop-j.j c.args.marks.now c.loop-j.marks c.loop-j.invariant c.requires.marks c.requires.step
          (omega arith) there (c.loop-j.j + c.max-j.result) (omega arith) (omega arith) reach (omega (arith, w.if-run-left.false)))
    ]

pub returns : goal.returns
returns c = all_marked c.args.step c.args.start c.args.count c.loop-j.j c.args.marks.now c.loop-j.marks c.requires.marks (omega (arith, c.loop-j-test.false)) c.loop-j.invariant
