use Rattle.std.proofs.Common.{◌∷◌, Some, length, ap, ◌∙◌, arith}
use Rattle.raise_program.specs.declared.walk.Construct.{Construct}
use Rattle.raise_program.specs.Walking.{stack}
use Rattle.raise_program.proofs.Kept.{halves}
use Rattle.raise_program.proofs.walk.Walk.halve.Goals as goal

pub returns-clause-walk : goal.returns-clause-walk
returns-clause-walk c = record {
  here = c.stmt-self.ensures.makes;
  around = halves c.growing_laws.ensures _ _ c.stmt-self.ensures.grows.extends _ _ _ c.innermost-construct.result _ _ c.requires.walk.around
      c.innermost-construct.ensures.around c.requires.walk.here
      (c.enter.ensures.around ∙ ap (λ id. record { behind = c.innermost-construct.result.behind; other = Some id } ∷ stack c.innermost-construct.new.self)
      c.innermost-construct.ensures.here);
}

pub enter-requires : goal.enter-requires
enter-requires c =
    let e = ap (length {A = Construct}) c.innermost-construct.ensures.around in omega (arith, e, c.requires.few)
