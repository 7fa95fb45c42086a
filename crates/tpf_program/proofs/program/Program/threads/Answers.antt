use Rattle.tpf_program.proofs.Threads.{at_group, at_other}
use Rattle.tpf_program.proofs.program.Program.threads.Goals as goal

pub returns-in-Group : goal.returns-in-Group
returns-in-Group c =
    at_group c.args.self.now.shader.declarations c.loop-i.i c.declaration.result c.in-Group.x c.in-Group.y c.in-Group.z c.declaration.ensures c.in-Group.is c.loop-i.invariant

pub loop-i-preserved : goal.loop-i-preserved
loop-i-preserved c = at_other c.args.self.now.shader.declarations c.loop-i.i c.declaration.result c.declaration.ensures c.in_default.not-Group c.loop-i.invariant
