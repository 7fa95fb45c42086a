use Rattle.std.proofs.Common.{◌≡◌, ap, subst, arith}
use Rattle.std.specs.Prelude.{IsTrue}
use Rattle.shader_tree.specs.Costs.{words_in, ids_in}
use Rattle.shader_tree.specs.Placed.{is_placed}
use Rattle.shader_tree.specs.Terms.{term_at}
use Rattle.spirv_flow.specs.Emitting.{FitsTree, root_by, root_of}
use Rattle.spirv_flow.proofs.Emits.{root_may}
use Rattle.spirv_flow.proofs.Opened.{opened_fit}
use Rattle.spirv_flow.proofs.emit.emit_tree.Goals as goal

pub emit-requires-clause-may : goal.emit-requires-clause-may
emit-requires-clause-may c =
    let ns = c.args.tree.now.nodes in
    let r = c.root-root.result in
    let q = c.requires in
    let o = c.open in
    let e : root_of c.args.tree.now ≡ term_at ns r = ap (root_by ns) c.root-root.ensures.root in
    let fits = subst (λ x. FitsTree c.args.emitter.now x) e q.fits in
    let placed = subst (λ x. IsTrue (is_placed x)) e q.placed in
    let words = ap words_in e in
    let ids = ap ids_in e in
    let w = q.words in
    let i = q.ids in
    let w' = o.ensures.words in
    let i' = o.ensures.ids in
    let fit = opened_fit c.growth_laws.ensures.kept c.args.emitter.now o.new.self ns o.ensures.opened r fits c.root-root.ensures.literals in
    root_may o.new.self (term_at ns r) o.ensures.begun fit placed (omega (arith, words, w, w')) (omega (arith, ids, i, i'))
