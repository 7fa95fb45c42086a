use Rattle.std.proofs.Common.{◌-◌, sym, ap, ◌∙◌}
use Rattle.word_base.specs.Words.{words_of}
use Rattle.tpf_program.specs.Faults.{early_of}
use Rattle.tpf_program.proofs.Ahead.{early_there}
use Rattle.tpf_program.proofs.fault.rule_at.Goals as goal

pub returns : goal.returns
returns c =
    c.rule_of_token.ensures
    ∙ (ap (early_of (c.args.n - c.args.at)) c.word.ensures ∙ sym (early_there (words_of c.args.bytes.now) c.args.at c.args.n c.requires.inside c.requires.words))
