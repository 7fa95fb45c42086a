use Rattle.std.proofs.Common.{◌≡◌, length, Some, sym, ap, ◌∙◌, arith}
use Rattle.shader_tree.specs.Shape.{cases_in}
use Rattle.shader_tree.specs.Terms.{term_at}
use Rattle.spirv_flow.specs.Lowers.{default_of}
use Rattle.spirv_flow.proofs.Marked.{choice_ends, default_below, other_label}
use Rattle.spirv_flow.proofs.marks.put_choice.Goals.{in-Some, in-None}
use Rattle.spirv_flow.proofs.marks.put_choice.Goals as goal

pub overflow_add-other : goal.overflow_add-other
overflow_add-other c =
    let x = term_at c.args.tree.now.nodes c.args.cases in
    let e : default_of x 0 ≡ Some c.in-Some.k = sym (ap (λ m. m.other) c.requires.counted) ∙ c.in-Some.is in
    let l = default_below 0 c.in-Some.k x e in let s = c.requires.short in omega (arith, l, s)

pub returns-clause-ends : goal.returns-clause-ends
returns-clause-ends c =
    let x = term_at c.args.tree.now.nodes c.args.cases in
    let known : c.args.marks.other ≡ default_of x 0 = ap (λ m. m.other) c.requires.counted in
    let other : c.match-marks.other ≡ other_label c.args.first c.args.merge (default_of x 0) =
    elim c.match-marks.branch [
      | in-Some w ↦ w.other-is ∙ ap (other_label c.args.first c.args.merge) (sym w.in-Some.is ∙ known)
      | in-None w ↦ w.other-is ∙ ap (other_label c.args.first c.args.merge) (sym w.in-None.is ∙ known)
    ] in
    let cases : c.args.marks.cases ≡ length (cases_in x) = let e = ap (λ m. m.cases) c.requires.counted in omega (arith, e) in
    choice_ends c.args.emitter.now c.switch.new.self c.put_cases.new.emitter c.args.on c.args.merge c.args.first c.match-marks.other
    c.args.marks.cases x
    c.switch.ensures.adds c.put_cases.ensures.puts.lengthens cases other c.requires.few
