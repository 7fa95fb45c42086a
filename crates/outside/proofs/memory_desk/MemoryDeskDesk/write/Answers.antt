use Rattle.std.proofs.Common.{◌-◌, length}
use Rattle.outside.proofs.Wrote.{wrote}
use Rattle.outside.proofs.memory_desk.MemoryDeskDesk.write.Goals as goal

pub returns-clause-desk : goal.returns-clause-desk
returns-clause-desk c =
    rw (← c.self.view_is, c.add.ensures)
    (let outputs = c.self.inside.outputs in
    let files = c.self.inside.files in
    wrote (record { files = files.files; reading = files.reading; outputs = outputs.list; spare = outputs.spare; room = outputs.room; counts = c.self.inside.plan })
    c.args.piece.now (outputs.room - length c.args.piece.now) c.fails.new.self)
