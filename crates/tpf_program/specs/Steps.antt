-- What an instruction is for the cases behind it.
use Rattle.std.specs.Prelude.{Option, Some, None}
use Rattle.tpf_decode.specs.declared.meaning.Meaning.{Meaning}
use Rattle.tpf_decode.specs.declared.meaning.Meaning.TheVariants as meaning
use Rattle.tpf_program.specs.declared.cases.Step.{Step}
use Rattle.tpf_program.specs.declared.cases.Step.TheVariants as step

abbrev pub step_for : Meaning → Step
step_for meaning.Case = step.Case
step_for meaning.If = step.Opens
step_for meaning.Loop = step.Opens
step_for meaning.Switch = step.Opens
step_for meaning.EndIf = step.Closes
step_for meaning.EndLoop = step.Closes
step_for meaning.EndSwitch = step.Closes
step_for other = step.Other

abbrev pub step_of : Option Meaning → Step
step_of None = step.Other
step_of (Some meaning) = step_for meaning
