use Rattle.std.proofs.Common.{refl, sym, ap, ◌∙◌, None}
use Rattle.raise_operands.specs.Building.{seen}
use Rattle.raise_operands.proofs.Begun.{keeping, many, vector_is}
use Rattle.raise_operands.proofs.Growing.{as_step, kept_on, step_on, step_on_itself}
use Rattle.raise_operands.proofs.index.indexed_place.Goals as goal

pub followed-front-requires-clause-a : goal.followed-front-requires-clause-a
followed-front-requires-clause-a c = step_on_itself _ _ _ _ c.keep_index-statement.ensures.grows.extends c.requires.front

pub returns-in-Indexed-clause-operand : goal.returns-in-Indexed-clause-operand
returns-in-Indexed-clause-operand c = record {
  place = record { inside = tt; kept = kept_on _ _ _ _ _ _ c.followed-front.ensures.grows.extends c.keep_index-statement.ensures.kept };
  vector = vector_is _ c.args.argument.now _ None c.requires.unknown (sym (ap seen c.in-Indexed.is) ∙ c.vector_by-vector.ensures.vector);
  few = rw c.requires.kind (many _ c.args.argument.now c.args.argument.now.relative refl c.requires.unknown);
  select = c.requires.select;
}

pub returns-in-Indexed-clause-front : goal.returns-in-Indexed-clause-front
returns-in-Indexed-clause-front c =
    let front = step_on _ _ _ _ c.keep_index-statement.ensures.grows.extends c.requires.front in
    let f = front.term in
    let made = c.keep_index-statement.ensures.makes.term in
    let index = c.requires.index.term in
    let v = sym c.vector_by-vector.ensures.vector ∙ ap seen c.in-Indexed.is in
    let keep = keeping _ c.args.number c.args.argument.now c.in-Indexed.space c.requires.unknown v in
    as_step _ _ _ _ c.followed-front.ensures.makes (cc (f, made, index, keep))
