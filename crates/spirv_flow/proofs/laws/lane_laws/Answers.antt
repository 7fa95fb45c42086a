use Rattle.spirv_flow.proofs.Alike as alike
use Rattle.spirv_flow.proofs.Labels.{single_labels}
use Rattle.spirv_flow.proofs.laws.lane_laws.Goals as goal

-- src/laws.rt
pub returns : goal.returns
returns c = record {
  labels = λ code f d. single_labels code f d;
  same = λ z old new x h s w full single here holds sound. alike.same z old new x h s w full single here holds sound;
  turns = λ z old new x h s w full single here holds sound events answers u d m n. alike.turns z old new x h s w full single here holds sound events
      answers u d m n;
}
