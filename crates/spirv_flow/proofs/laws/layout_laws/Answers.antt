use Rattle.spirv_flow.proofs.Whole.{structured}
use Rattle.spirv_flow.proofs.laws.layout_laws.Goals as goal

-- src/laws.rt
pub returns : goal.returns
returns c = record { structured = λ front x f p d. structured front x f p d }
