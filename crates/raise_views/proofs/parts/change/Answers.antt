use Rattle.std.proofs.Common.{ap, ◌∙◌}
use Rattle.shader_tree.specs.Nodes.{AWord, a_word}
use Rattle.shader_tree.specs.Terms.{Atomic, term_at}
use Rattle.raise_views.specs.Reaching.{place}
use Rattle.raise_views.proofs.Growing.{as_term, same_term, three}
use Rattle.raise_views.proofs.parts.change.Goals as goal

pub stmt-requires-clause-fits : goal.stmt-requires-clause-fits
stmt-requires-clause-fits c =
    let e = c.place-word.ensures.grows.extends in
    three _ _ _ c.place-word.ensures.makes.sorted (e.names (a_word c.args.a) c.requires.a) (e.names (a_word c.args.b) c.requires.b)

pub returns-clause-makes : goal.returns-clause-makes
returns-clause-makes c =
    let e = c.place-word.ensures.grows.extends in
    let a = same_term _ _ AWord _ e c.requires.a in
    let b = same_term _ _ AWord _ e c.requires.b in
    let r = c.args.reach in
    let new = c.place-word.new.tree.nodes in
    as_term _ _ _ _ _ c.stmt.ensures.makes
    (ap (λ x. Atomic 12 r.room x c.args.kind (term_at new c.args.a) (term_at new c.args.b)) c.place-word.ensures.makes.term
    ∙ (ap (λ x. Atomic 12 r.room (place r 0) c.args.kind x (term_at new c.args.b)) a
    ∙ ap (λ x. Atomic 12 r.room (place r 0) c.args.kind (term_at c.args.tree.now.nodes c.args.a) x) b))
