use Rattle.std.proofs.Common.{Some, refl, ap, ◌∙◌}
use Rattle.std.specs.Prelude.{map, option_map}
use Rattle.std.proofs.lemmas.Option.{slice_get-map}
use Rattle.spirv_symbols.specs.declared.symbol.Symbol.TheVariants.{Constant}
use Rattle.spirv_emit.proofs.Ordered.{puts_more}
use Rattle.spirv_emit.proofs.immediates.put_constants.Goals as goal

pub loop-i-preserved : goal.loop-i-preserved
loop-i-preserved c =
    puts_more c.growth_laws.ensures.on c.args.context.now c.args.symbols.now c.loop-i.symbols c.put.new.self
    (map (λ w. Constant w) c.args.context.now.immediates) c.loop-i.i (Constant c.immediate-word.result) c.put.result
    (slice_get-map (λ w. Constant w) c.args.context.now.immediates c.loop-i.i ∙ ap (option_map (λ w. Constant w)) c.immediate-word.ensures) refl
    c.loop-i.invariant c.put.ensures
