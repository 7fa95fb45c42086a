use Rattle.std.proofs.Common.{sym, ◌∙◌, arith}
use Rattle.std.proofs.lemmas.Option.{slice_get_within}
use Rattle.binding_map.specs.Bindings.{binding}
use Rattle.binding_map.specs.Lines.{binding_of}
use Rattle.binding_map.proofs.TextRules.{shared, unshared, none_before}
use Rattle.binding_map.proofs.text.is_named.Goals as goal

pub returns-then-is_shared-clause-again : goal.returns-then-is_shared-clause-again
returns-then-is_shared-clause-again c =
    let b = binding c.at-register.result.0 c.at-register.result.1 in
    record { place = c.loop-i.i; a = b; there = c.at-register.ensures; shares = shared b (binding_of c.args.named) (sym c.is_shared.ensures ∙ c.if-is_shared.true) }

pub loop-i-preserved : goal.loop-i-preserved
loop-i-preserved c =
    let b = binding c.at-register.result.0 c.at-register.result.1 in
    none_before c.args.bindings.now (binding_of c.args.named) c.loop-i.i c.loop-i.invariant b c.at-register.ensures
    (unshared b (binding_of c.args.named) (sym c.is_shared.ensures ∙ c.if-is_shared.false))

pub returns-clause-first : goal.returns-clause-first
returns-clause-first c named =
    c.loop-i.invariant named.place named.a (omega (arith, slice_get_within c.args.bindings.now named.place named.a named.there)) named.there named.shares
