use Rattle.std.proofs.Common.{Some, sym, ap, ◌∙◌, subst}
use Rattle.std.specs.Prelude.{Contains}
use Rattle.node_pool.specs.declared.key.Key.{Key}
use Rattle.spirv_symbols.specs.Contexts.{Context, declared_of}
use Rattle.spirv_symbols.proofs.ContextsLaws.{declared_here, not_declared}
use Rattle.spirv_symbols.proofs.context.Context.declared_of.Goals as goal

pub returns-in-Some : goal.returns-in-Some
returns-in-Some c =
    declared_here c.self.inside.keys.list c.self.inside.declared.list c.args.variable c.in-Some.i c.get.result c.key_laws.ensures.distinct
    c.self.invariant.keys (c.in-Some.ensures.found ∙ ap (λ (k : Key). Some k) c.key.ensures) c.get.ensures
    ∙ ap (λ (t : Context). declared_of t c.args.variable) c.self.view_is

pub returns-in-None : goal.returns-in-None
returns-in-None c =
    not_declared c.self.inside.keys.list c.self.inside.declared.list c.args.variable c.self.invariant.keys
    (λ h. c.in-None.ensures.absent (subst (λ (k : Key). Contains c.self.inside.keys.list k) (sym c.key.ensures) h))
    ∙ ap (λ (t : Context). declared_of t c.args.variable) c.self.view_is
