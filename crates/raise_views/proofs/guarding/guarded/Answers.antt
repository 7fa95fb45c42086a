use Rattle.std.proofs.Common.{sym, ap, subst, arith, ◌∙◌}
use Rattle.tpf_program.specs.declared.instruction.Instruction.{Instruction}
use Rattle.binding_map.specs.Fits.{is_null_in}
use Rattle.shader_tree.specs.Terms.{Term}
use Rattle.raise_views.specs.Guarding.{statement_of}
use Rattle.raise_views.specs.Guards.{Guards}
use Rattle.raise_views.proofs.Worked.{least_words, same_item}
use Rattle.raise_views.proofs.guarding.guarded.Goals as goal

pub statement_of-requires-clause-guardable : goal.statement_of-requires-clause-guardable
statement_of-requires-clause-guardable c = c.requires.guardable _ c.instruction.ensures

pub returns-clause-guards : goal.returns-clause-guards
returns-clause-guards c = λ x e.
    let p = c.args.program.now.shader in
    let null = is_null_in c.args.bindings.now in
    let same = same_item p.instructions c.args.i _ x c.instruction.ensures e in
    let t = c.statement_of.ensures.makes.term ∙ ap (λ y. statement_of null p y) same in
    let owed = c.guarded_laws.ensures c.args.bindings.now p x (c.requires.guardable x e) in
    let P : Term → Type 0 = λ y. Guards null p x y in
    subst P (sym t) owed

pub returns-clause-few : goal.returns-clause-few
returns-clause-few c = λ x e.
    let p = c.args.program.now.shader in
    let same = same_item p.instructions c.args.i _ x c.instruction.ensures e in
    let long = least_words _ x (c.requires.guardable x e).there.long in
    let l = ap (λ (y : Instruction). y.length) same in
    omega (arith, c.statement_of.ensures.grows.few, l, long)
