-- What the clauses of `emit_laws` of spirv_emit say.
use Rattle.std.specs.Prelude.{ℕ, List, [], ◌++◌}
use Rattle.spirv_words.specs.Text.{Instr}
use Rattle.spirv_emit.specs.declared.emitter.Emitter.{Emitter as Emission}
use Rattle.spirv_emit.specs.Growing.{Grows, Completes}
use Rattle.spirv_emit.specs.Lanes.{Site}
use Rattle.spirv_emit.specs.Steps.{Takes, TakesRow}

pub record EmitClauses : Type 0 where
  pub on : (a b c : Emission) (x y : List Instr) → Grows a b x → Grows b c y → Grows a c (x ++ y)
  pub back : (a b : Emission) (x : List Instr) (z : Site) → Grows a b x → Completes b z → Completes a z
  pub takes : (a b : Emission) (r : ℕ) → Takes a b r → Grows a b []
  pub takes_row : (a b : Emission) (first count : ℕ) → TakesRow a b first count → Grows a b []
