use Rattle.std.proofs.Common.{◌≡◌, ℕ, ◌*◌, ◌-◌, ◌≤◌, length, min, sym, ap, ◌∙◌, subst, arith}
use Rattle.std.proofs.Math.Nat.{min-le_left, min-le_right}
use Rattle.translator.specs.Shown.{module_words}
use Rattle.translator.proofs.ViewBytes.{filled}
use Rattle.translator.proofs.view.ModuleView.fill.Goals as goal

pub returns-clause-front : goal.returns-clause-front
returns-clause-front c =
    let ws = module_words c.args.self.now in
    let n = c.min-count.result in
    let left : ℕ = 4 * length ws - c.args.at in
    let e : n ≡ min (length c.args.piece.now) left =
    c.min-count.ensures ∙ ap (λ l. min (length c.args.piece.now) (4 * l - c.args.at)) c.len.ensures.len in
    let a : n ≤ length c.args.piece.now = subst (λ m. m ≤ length c.args.piece.now) (sym e) (min-le_left (length c.args.piece.now) left) in
    let b : n ≤ left = subst (λ m. m ≤ left) (sym e) (min-le_right (length c.args.piece.now) left) in
    filled ws c.loop-n.piece c.args.at n (omega (arith, a, c.loop-n.invariant.long)) (omega (arith, b, c.requires))
    (λ k l. c.loop-n.invariant.front k (omega (arith, l, c.loop-n-test.false)))
