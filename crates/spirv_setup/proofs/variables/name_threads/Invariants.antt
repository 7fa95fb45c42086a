use Rattle.std.proofs.Common.{take}
use Rattle.std.specs.Prelude.{option_map}
use Rattle.std.specs.List.{filter_map}
use Rattle.spirv_symbols.specs.declared.symbol.Symbol.TheVariants.{Input}
use Rattle.spirv_setup.specs.Naming.{NamesAll}
use Rattle.binding_map.specs.Wanted.{input_of}
use Rattle.spirv_setup.proofs.variables.name_threads.Given as goal

abbrev pub invariant-loop-i : goal.invariant-loop-i
invariant-loop-i l =
    NamesAll l.initial.emitter l.emitter
    (filter_map (λ d. option_map (λ built_in. Input built_in) (input_of d.what)) (take l.i l.program.shader.declarations))
