-- The values and the command of the code, as the values and the job of the definitions.
use Rattle.std.specs.Prelude.{ℕ, List, Option, option_map}
use Rattle.std.specs.Borrow.{Bor}
use Rattle.command_line.specs.declared.command.Command.{Command}
use Rattle.command_line.specs.declared.command.BindingChoice.{BindingChoice}
use Rattle.command_line.specs.declared.command.BindingChoice.TheVariants.{Default, Text, Signature}
use Rattle.command_line.specs.declared.values.Given.{Given}
use Rattle.command_line.specs.Command.{Values}
use Rattle.command_line.specs.Job.{Choice, Job, DefaultMap, TextOf, SignatureOf}

abbrev pub shown : Option (Bor (List ℕ)) → Option (List ℕ)
shown = option_map (λ s. s.now)

abbrev pub values_shown : Given → Values
values_shown g = record {
  source = shown g.source;
  target = shown g.target;
  output = shown g.output;
  bindings = shown g.bindings;
  root_signature = shown g.root_signature;
  simulate = shown g.simulate;
  sample = shown g.sample;
  spirv_version = shown g.spirv_version;
  input = shown g.input;
}

abbrev pub choice_shown : BindingChoice → Choice
choice_shown Default = DefaultMap
choice_shown (Text name) = TextOf name.now
choice_shown (Signature name) = SignatureOf name.now

abbrev pub job_shown : Command → Job
job_shown c =
    record { input = c.input.now; output = c.output.now; choice = choice_shown c.bindings; version = c.version }
