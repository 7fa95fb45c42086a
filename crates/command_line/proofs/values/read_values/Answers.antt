use Rattle.std.proofs.Common.{rules}
use Rattle.outside.specs.Texts.{texts_of}
use Rattle.command_line.proofs.Matches.{found, fails}
use Rattle.command_line.proofs.values.read_values.Goals as goal

pub returns-in-Ok : goal.returns-in-Ok
returns-in-Ok c = found (texts_of c.args.words.now) _ c.in-Ok.ensures.fails (search rules)

pub returns : goal.returns
returns c = fails (texts_of c.args.words.now) c.in-Err.error c.in-Err.ensures.fails (search rules)
