use Rattle.compiler_cli.proofs.Runs.{came_whole}
use Rattle.compiler_cli.proofs.run.read_bindings.Goals as goal

pub returns-in-Text-clause-whole : goal.returns-in-Text-clause-whole
returns-in-Text-clause-whole g c =
    rw c.in-Text.is (came_whole (λ b. b.items) (g.D.Desk.told c.args.desk.now).files c.in-Text.name.now
    (g.D.Desk.told c.read_file.new.desk).left c.read_file.result c.read_file.ensures.whole)

pub returns-in-Signature-clause-whole : goal.returns-in-Signature-clause-whole
returns-in-Signature-clause-whole g c =
    rw c.in-Signature.is (came_whole (λ b. b.items) (g.D.Desk.told c.args.desk.now).files c.in-Signature.name.now
    (g.D.Desk.told c.read_file-in-Signature.new.desk).left c.read_file-in-Signature.result
    c.read_file-in-Signature.ensures.whole)
