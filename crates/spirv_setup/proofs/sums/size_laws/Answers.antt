use Rattle.spirv_setup.proofs.SizedFrame.{frame_sized}
use Rattle.spirv_setup.proofs.sums.size_laws.Goals as goal

pub returns : goal.returns
returns x = λ p bindings e separate h map su. frame_sized p bindings h map (x.binding_laws.ensures.looks_up bindings) e su.described separate
