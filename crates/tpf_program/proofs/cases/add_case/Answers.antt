use Rattle.std.proofs.Common.{sym, ◌∙◌, refl}
use Rattle.tpf_program.proofs.CaseTable.{found, added}
use Rattle.tpf_program.proofs.cases.add_case.Goals as goal

pub returns-in-Some-clause-last : goal.returns-in-Some-clause-last
returns-in-Some-clause-last c =
    rw (c.set.ensures.list, c.len.ensures.len)
    (found c.args.code.now.list c.args.case c.args.keys.now.list c.args.last.now.list c.requires.last (record { kind = c.args.depth; number = c.args.case.o0.x }) c.requires.case c.requires.depth refl
    c.in-Some.k c.key_laws.ensures.distinct c.in-Some.ensures.found)

pub returns-in-Some-clause-before : goal.returns-in-Some-clause-before
returns-in-Some-clause-before c = sym c.get-before.ensures ∙ c.requires.last.known c.in-Some.k (record { kind = c.args.depth; number = c.args.case.o0.x }) c.in-Some.ensures.found

pub returns-in-None-clause-last : goal.returns-in-None-clause-last
returns-in-None-clause-last c =
    rw (c.add.ensures.list, c.push.ensures.list, c.len-in-None.ensures.len)
    (added c.args.code.now.list c.args.case c.args.keys.now.list c.args.last.now.list c.requires.last (record { kind = c.args.depth; number = c.args.case.o0.x }) c.requires.case c.requires.depth refl
    c.in-None.ensures.absent)

pub returns-in-None-clause-before : goal.returns-in-None-clause-before
returns-in-None-clause-before c = sym (c.requires.last.others (record { kind = c.args.depth; number = c.args.case.o0.x }) c.in-None.ensures.absent)
