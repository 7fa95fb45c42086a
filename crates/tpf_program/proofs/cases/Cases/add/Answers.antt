use Rattle.tpf_program.proofs.CaseLists.{previous_more}
use Rattle.tpf_program.proofs.cases.Cases.add.Goals as goal

pub returns-clause-stands : goal.returns-clause-stands
returns-clause-stands c = record {
  levels = record { openings = c.pass-previous.ensures.levels.openings; closings = c.pass-previous.ensures.levels.closings };
  last = c.pass-previous.ensures.last;
  previous = rw (c.push.ensures.list, c.pass-previous.ensures.previous)
      (previous_more c.args.code.now.list c.args.instruction c.args.self.now.previous.list c.pass-previous.result c.requires.stands.previous c.pass-previous.ensures.before);
}
