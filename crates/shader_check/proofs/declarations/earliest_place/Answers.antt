use Rattle.shader_check.proofs.FirstThings.{told_by_first}
use Rattle.shader_check.proofs.declarations.earliest_place.Goals as goal

pub returns : goal.returns
returns c = λ place l. told_by_first c.args.program.now.shader.words c.args.program.now.shader.instructions c.instruction.result c.requires.order c.instruction.ensures place
