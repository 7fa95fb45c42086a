use Rattle.std.proofs.Common.{◌≡◌, ℕ, subst}
use Rattle.word_base.specs.Words.{bytes_of}
use Rattle.tpf_program.specs.Program.{Shader}
use Rattle.binding_map.specs.Defaults.{default_map}
use Rattle.command_line.specs.Shown.{choice_shown, job_shown}
use Rattle.translator.specs.Accepted.{IsRead}
use Rattle.translator.specs.Shown.{module_words}
use Rattle.compiler_cli.specs.Output.{IsMapOf}
use Rattle.compiler_cli.specs.Run.{outside as seen}
use Rattle.compiler_cli.proofs.JobRules.{first_of_input, first_of_map, module_of, none_of_all, not_mapped, refused}
use Rattle.compiler_cli.proofs.translating.translate_in.Goals as goal

pub returns-in-Err : goal.returns-in-Err
returns-in-Err g c =
    let input = c.args.input.now in
    refused (job_shown c.args.command) input c.args.file.now
    (seen (g.D.Desk.told c.args.desk.now) (g.O.Sink.written c.args.out.now) (g.O.Sink.faults c.args.out.now))
    c.in-Err.refusal
    (first_of_input (choice_shown c.args.command.bindings) input c.args.file.now c.requires.taken
    (c.input_laws.ensures.sound input) c.in-Err.refusal
    (c.input_laws.ensures.first input c.args.work.now.words c.requires.room c.in-Err.refusal
    (c.in-Err.ensures.refused default_map)))

pub returns-in-Err-map_for : goal.returns-in-Err-map_for
returns-in-Err-map_for g c =
    let input = c.args.input.now in
    let p = c.read.new.self.program in
    let read : IsRead c.args.work.now.words input p = c.in_default.ensures.read in
    not_mapped (job_shown c.args.command) input c.args.file.now
    (seen (g.D.Desk.told c.args.desk.now) (g.O.Sink.written c.args.out.now) (g.O.Sink.faults c.args.out.now))
    c.in-Err-map_for.failure c.requires.taken (c.input_laws.ensures.sound input p read.read read.checked)
    c.in-Err-map_for.ensures.hindered

pub returns-in-Ok-deliver : goal.returns-in-Ok-deliver
returns-in-Ok-deliver g c =
    let choice = choice_shown c.args.command.bindings in
    let input = c.args.input.now in
    let file = c.args.file.now in
    let p = c.read.new.self.program in
    let bindings = c.in-Ok.bindings in
    let read : IsRead c.args.work.now.words input p = c.in_default.ensures.read in
    let gives : IsMapOf choice file p bindings =
    subst (λ (x : Shader). IsMapOf choice file x bindings) c.program.ensures c.in-Ok.ensures.map in
    record {
      output = bytes_of (module_words c.in-Ok-translate_read.view);
      sound = none_of_all choice input file c.requires.taken (c.input_laws.ensures.single input)
          (c.signature_laws.ensures.single file) (c.input_laws.ensures.sound input p read.read read.checked)
          c.in-Ok.ensures.sound p read.read read.checked bindings gives c.in-Ok-translate_read.ensures.bound;
      made = module_of choice c.args.command.version input file p bindings (module_words c.in-Ok-translate_read.view)
          read.read gives (c.in-Ok-translate_read.ensures.means c.args.work.now.words input read);
      written = c.in-Ok-deliver.ensures.0;
      left = c.in-Ok-deliver.ensures.1;
    }

pub returns-in-Ok-translate_read : goal.returns-in-Ok-translate_read
returns-in-Ok-translate_read g c =
    let choice = choice_shown c.args.command.bindings in
    let input = c.args.input.now in
    let file = c.args.file.now in
    let p = c.read.new.self.program in
    let bindings = c.in-Ok.bindings in
    let read : IsRead c.args.work.now.words input p = c.in_default.ensures.read in
    let gives : IsMapOf choice file p bindings =
    subst (λ (x : Shader). IsMapOf choice file x bindings) c.program.ensures c.in-Ok.ensures.map in
    record {
      output = bytes_of (module_words c.in-Ok-translate_read.view);
      sound = none_of_all choice input file c.requires.taken (c.input_laws.ensures.single input)
          (c.signature_laws.ensures.single file) (c.input_laws.ensures.sound input p read.read read.checked)
          c.in-Ok.ensures.sound p read.read read.checked bindings gives c.in-Ok-translate_read.ensures.bound;
      made = module_of choice c.args.command.version input file p bindings (module_words c.in-Ok-translate_read.view)
          read.read gives (c.in-Ok-translate_read.ensures.means c.args.work.now.words input read);
      cause = c.in-Err-deliver.ensures.1;
      written = c.in-Err-deliver.ensures.0;
    }

pub returns : goal.returns
returns g c =
    let choice = choice_shown c.args.command.bindings in
    let input = c.args.input.now in
    let file = c.args.file.now in
    let p = c.read.new.self.program in
    let bindings = c.in-Ok.bindings in
    let read : IsRead c.args.work.now.words input p = c.in_default.ensures.read in
    let gives : IsMapOf choice file p bindings =
    subst (λ (x : Shader). IsMapOf choice file x bindings) c.program.ensures c.in-Ok.ensures.map in
    refused (job_shown c.args.command) input file
    (seen (g.D.Desk.told c.args.desk.now) (g.O.Sink.written c.args.out.now) (g.O.Sink.faults c.args.out.now))
    c.in-Err-translate_read.refusal
    (first_of_map choice input file c.requires.taken (c.input_laws.ensures.single input)
    (c.signature_laws.ensures.single file) (c.input_laws.ensures.sound input p read.read read.checked)
    c.in-Ok.ensures.sound p read.read read.checked bindings gives c.in-Err-translate_read.refusal
    c.in-Err-translate_read.ensures.refused)
