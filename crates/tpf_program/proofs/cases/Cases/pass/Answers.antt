use Rattle.std.proofs.Common.{sym, ◌∙◌, arith}
use Rattle.tpf_decode.specs.Opcodes.{meaning_of}
use Rattle.tpf_decode.specs.Profiles.{Base}
use Rattle.tpf_program.specs.Ends.{is_closing, is_opening}
use Rattle.tpf_program.proofs.CaseTable.{opens_step, closes_step, other_step, few_counted, without_case}
use Rattle.tpf_program.proofs.cases.Cases.pass.Goals as goal

pub overflow_add-self : goal.overflow_add-self
overflow_add-self c = omega (arith, few_counted is_opening c.args.code.now.list, c.requires.stands.levels.openings, c.requires.few)

pub overflow_add-self-in-Closes : goal.overflow_add-self-in-Closes
overflow_add-self-in-Closes c = omega (arith, few_counted is_closing c.args.code.now.list, c.requires.stands.levels.closings, c.requires.few)

pub returns-in-Opens-clause-last : goal.returns-in-Opens-clause-last
returns-in-Opens-clause-last c =
    without_case c.args.code.now.list c.args.instruction c.args.self.now.keys.list c.args.self.now.last.list c.requires.stands.last
    (opens_step (meaning_of Base c.args.instruction.code) (sym c.in-Opens.is ∙ c.step_at.ensures)).2

pub returns-in-Closes-clause-last : goal.returns-in-Closes-clause-last
returns-in-Closes-clause-last c =
    without_case c.args.code.now.list c.args.instruction c.args.self.now.keys.list c.args.self.now.last.list c.requires.stands.last
    (closes_step (meaning_of Base c.args.instruction.code) (sym c.in-Closes.is ∙ c.step_at.ensures)).2

pub returns-in-Other-clause-last : goal.returns-in-Other-clause-last
returns-in-Other-clause-last c =
    without_case c.args.code.now.list c.args.instruction c.args.self.now.keys.list c.args.self.now.last.list c.requires.stands.last
    (other_step (meaning_of Base c.args.instruction.code) (sym c.in-Other.is ∙ c.step_at.ensures)).2
