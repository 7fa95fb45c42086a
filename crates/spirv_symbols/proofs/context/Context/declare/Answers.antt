use Rattle.std.proofs.Common.{Some, inl, inr, refl, sym, ap, ◌∙◌, subst}
use Rattle.std.specs.Prelude.{Contains}
use Rattle.node_pool.specs.declared.key.Key.{Key}
use Rattle.spirv_symbols.specs.Contexts.{Context, Declares, context_of}
use Rattle.spirv_symbols.proofs.ContextsLaws.{variable_contained, variable_absent, joined}
use Rattle.spirv_symbols.proofs.context.Context.declare.Goals as goal

pub returns-in-Some : goal.returns-in-Some
returns-in-Some c =
    subst (λ (t : Context). Declares t t c.args.declared) c.self.view_is
    (inl (
      variable_contained c.self.inside.keys.list c.self.inside.declared.list c.args.declared.variable c.in-Some.field-0 c.self.invariant.keys
          (c.in-Some.ensures.found ∙ ap (λ (k : Key). Some k) c.key-name.ensures),
      refl,
    ))

pub returns-in-None : goal.returns-in-None
returns-in-None c =
    subst (λ (t : Context). Declares t (context_of c.push.new.self.list c.push.new.self.capacity c.self.inside.registers c.self.inside.pushed
    c.self.inside.immediates.list c.self.inside.immediates.capacity) c.args.declared) c.self.view_is
    (inr (
      variable_absent c.self.inside.keys.list c.self.inside.declared.list c.args.declared.variable c.self.invariant.keys
          (λ h. c.in-None.ensures.absent (subst (λ (k : Key). Contains c.self.inside.keys.list k) (sym c.key-name.ensures) h)),
      joined c.self.inside.declared.list c.push.new.self.list c.args.declared c.self.inside.declared.capacity c.push.new.self.capacity
          c.self.inside.registers c.self.inside.pushed c.self.inside.immediates.list c.self.inside.immediates.capacity c.push.ensures.list
          c.push.ensures.capacity,
    ))
