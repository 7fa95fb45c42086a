use Rattle.std.proofs.Common.{sym, ap, arith, ◌∙◌}
use Rattle.shader_tree.specs.Terms.{Guard}
use Rattle.raise_operands.specs.Building.{step_of}
use Rattle.raise_operands.specs.Raising.{source}
use Rattle.raise_operands.specs.Vectors.{spaces_of}
use Rattle.raise_views.specs.Reaching.{index_of, index_test, words_of}
use Rattle.raise_views.proofs.Growing.{as_step, at_most, extends_on, grows_on, step_itself, step_on}
use Rattle.raise_views.proofs.Joining.{followed_is, stores_apart_is, stores_joined_is, stores_stand}
use Rattle.raise_views.proofs.joins.stores.Goals as goal

pub then-requires-clause-front : goal.then-requires-clause-front
then-requires-clause-front c =
    step_itself _ _ _ (step_on _ _ _ _ (extends_on _ _ _ c.stores_bare-body.ensures.grows.extends c.together-part.ensures.grows.extends)
    c.requires.front)

pub returns-then-stand_together-clause-grows : goal.returns-then-stand_together-clause-grows
returns-then-stand_together-clause-grows c =
    let b = grows_on _ _ _ _ _ _ c.stores_bare-body.ensures.grows c.together-part.ensures.grows (at_most _ _) in
    grows_on _ _ _ _ _ _ b c.then.ensures.grows (omega arith)

pub returns-then-stand_together-clause-makes : goal.returns-then-stand_together-clause-makes
returns-then-stand_together-clause-makes c =
    let r = c.args.reach in
    let g = spaces_of c.args.program.now.shader in
    let f = source g c.args.from.place.number c.args.from.argument in
    let old = step_of c.args.tree.now.nodes c.args.front in
    let e = stores_stand r c.args.mask _ _ _ _ c.stored-x.ensures c.stored-y.ensures c.stored-z.ensures c.stored-w.ensures ∙
    (sym c.stand_together.ensures ∙ c.if-stand_together.true) in
    let s = step_on _ _ _ _ (extends_on _ _ _ c.stores_bare-body.ensures.grows.extends c.together-part.ensures.grows.extends) c.requires.front in
    let b = c.together-part.ensures.makes.term ∙ ap (λ q. Guard (index_test (words_of r.address.way) r.room (index_of r.address)) q)
    c.stores_bare-body.ensures.makes.term in
    as_step _ _ _ _ c.then.ensures.makes (followed_is _ _ _ _ s.term b ∙ stores_joined_is r c.args.mask f old e)

pub returns-else-stand_together-clause-makes : goal.returns-else-stand_together-clause-makes
returns-else-stand_together-clause-makes c =
    let r = c.args.reach in
    let g = spaces_of c.args.program.now.shader in
    let f = source g c.args.from.place.number c.args.from.argument in
    let old = step_of c.args.tree.now.nodes c.args.front in
    let e = stores_stand r c.args.mask _ _ _ _ c.stored-x.ensures c.stored-y.ensures c.stored-z.ensures c.stored-w.ensures ∙
    (sym c.stand_together.ensures ∙ c.if-stand_together.false) in
    as_step _ _ _ _ c.stores_apart.ensures.makes (stores_apart_is r c.args.mask f old e)
