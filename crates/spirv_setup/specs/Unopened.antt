-- What a tree names is there before the function is opened for it: all but the registers r#, which come with that.
use Rattle.std.specs.Prelude.{◌≡◌}
use Rattle.shader_tree.specs.declared.node.Space.TheVariants as space
use Rattle.shader_tree.specs.Terms.{Term}
use Rattle.shader_tree.specs.Walks.{Each, rooms_in, spaces_in, threads_in}
use Rattle.spirv_symbols.specs.declared.symbol.Symbol.TheVariants.{Input, Memory}
use Rattle.spirv_emit.specs.Begun.{IsThere, IsSpaceThere, built_in_of}
use Rattle.spirv_emit.specs.declared.emitter.Emitter.{Emitter as Emission}

pub record AreThere (e : Emission) (x : Term) : Type 0 where
  pub spaces : Each (λ s. (s ≡ space.Temps → ⊥) → IsSpaceThere e s) (spaces_in x)
  pub rooms : Each (λ room. IsThere e.symbols.entries (Memory room)) (rooms_in x)
  pub threads : Each (λ k. IsThere e.symbols.entries (Input (built_in_of k))) (threads_in x)
