use Rattle.std.proofs.Common.{sym, ap, arith, ◌∙◌}
use Rattle.tpf_program.specs.Values.{selected}
use Rattle.shader_tree.specs.Terms.{Guard}
use Rattle.raise_views.specs.Reaching.{index_of, index_test, words_of}
use Rattle.raise_views.proofs.Growing.{as_step, extends_on, grows_on, step_itself, step_on}
use Rattle.raise_views.proofs.Joining.{followed_is, loads_apart_is, loads_joined_is, loads_stand}
use Rattle.raise_views.proofs.joins.loads.Goals as goal

pub then-requires-clause-front : goal.then-requires-clause-front
then-requires-clause-front c =
    step_itself _ _ _ (step_on _ _ _ _ (extends_on _ _ _ c.loads_bare-body.ensures.grows.extends c.together-part.ensures.grows.extends)
    c.zeros-front.ensures.makes)

pub returns-then-stand_together-clause-grows : goal.returns-then-stand_together-clause-grows
returns-then-stand_together-clause-grows c =
    let a = grows_on _ _ _ _ _ 44 c.zeros-front.ensures.grows c.loads_bare-body.ensures.grows (omega arith) in
    let b = grows_on _ _ _ _ _ 50 a c.together-part.ensures.grows (omega arith) in
    grows_on _ _ _ _ _ _ b c.then.ensures.grows (omega arith)

pub returns-then-stand_together-clause-makes : goal.returns-then-stand_together-clause-makes
returns-then-stand_together-clause-makes c =
    let r = c.args.reach in
    let f = selected c.args.select in
    let e = loads_stand r c.args.to f _ _ _ _ c.loaded-x.ensures c.loaded-y.ensures c.loaded-z.ensures c.loaded-w.ensures ∙
    (sym c.stand_together.ensures ∙ c.if-stand_together.true) in
    let s = step_on _ _ _ _ (extends_on _ _ _ c.loads_bare-body.ensures.grows.extends c.together-part.ensures.grows.extends)
    c.zeros-front.ensures.makes in
    let b = c.together-part.ensures.makes.term ∙ ap (λ q. Guard (index_test (words_of r.address.way) r.room (index_of r.address)) q)
    c.loads_bare-body.ensures.makes.term in
    as_step _ _ _ _ c.then.ensures.makes (followed_is _ _ _ _ s.term b ∙ loads_joined_is r c.args.to f _ e)

pub returns-else-stand_together-clause-makes : goal.returns-else-stand_together-clause-makes
returns-else-stand_together-clause-makes c =
    let r = c.args.reach in
    let f = selected c.args.select in
    let e = loads_stand r c.args.to f _ _ _ _ c.loaded-x.ensures c.loaded-y.ensures c.loaded-z.ensures c.loaded-w.ensures ∙
    (sym c.stand_together.ensures ∙ c.if-stand_together.false) in
    as_step _ _ _ _ c.loads_apart.ensures.makes (loads_apart_is r c.args.to f _ e)
