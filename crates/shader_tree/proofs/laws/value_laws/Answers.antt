use Rattle.shader_tree.proofs.ReadLemmas.{values_alike}
use Rattle.shader_tree.proofs.laws.value_laws.Goals as goal

pub returns : goal.returns
returns c = values_alike
