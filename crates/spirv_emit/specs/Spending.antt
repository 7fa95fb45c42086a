-- What a statement needs so that its code can be written, and what is spent for it.
use Rattle.std.specs.Prelude.{◌+◌, ◌≤◌}
use Rattle.shader_tree.specs.Costs.{words_in, ids_in}
use Rattle.shader_tree.specs.Terms.{Term}
use Rattle.spirv_emit.specs.Begun.{IsBegun, Names}
use Rattle.spirv_emit.specs.Emission.{Emission, words_left, ids_left}

-- What the statement names is there, and there is room for what its nodes cost.
pub record IsReady (e : Emission) (t : Term) : Type 0 where
  pub begun : IsBegun e
  pub names : Names e t
  pub words : words_in t ≤ words_left e
  pub ids : ids_in t ≤ ids_left e

-- At most what its nodes cost was used.
pub record Spends (old new : Emission) (t : Term) : Type 0 where
  pub begun : IsBegun new
  pub words : words_left old ≤ words_left new + words_in t
  pub ids : ids_left old ≤ ids_left new + ids_in t
