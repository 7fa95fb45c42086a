use Rattle.raise_program.proofs.parts.tested.Goals as goal

pub returns-clause-front : goal.returns-clause-front
returns-clause-front c =
    let l = c.growing_laws.ensures in
    let later = l.extends_on _ _ _ c.expr-zero.ensures.grows.extends c.expr-truth.ensures.grows.extends in
    l.node_on _ _ _ _ _ later c.scalar-scalar.ensures.front

pub returns-clause-truth : goal.returns-clause-truth
returns-clause-truth c =
    let l = c.growing_laws.ensures in
    let word = (l.node_on _ _ _ _ _ c.expr-zero.ensures.grows.extends c.scalar-scalar.ensures.word).term in
    let zero = c.expr-zero.ensures.makes.term in
    let how = c.comparison.ensures in
    l.as_term _ _ _ _ _ c.expr-truth.ensures.makes (cc (word, zero, how))
