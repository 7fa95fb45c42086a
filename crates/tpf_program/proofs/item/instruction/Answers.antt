use Rattle.std.proofs.Common.{None, false, refl, ap, ◌∙◌, length}
use Rattle.word_base.specs.Words.{words_of}
use Rattle.tpf_decode.specs.Tokens.{length_of}
use Rattle.tpf_decode.specs.declared.argument.Kind.TheVariants.{Temp}
use Rattle.tpf_decode.specs.declared.argument.Select.TheVariants.{Bare}
use Rattle.tpf_program.proofs.Pieces.{instruction_spelled}
use Rattle.tpf_program.proofs.item.instruction.Goals as goal

pub returns-clause-spelled : goal.returns-clause-spelled
returns-clause-spelled c =
    let o = c.in_ok-places in (
      refl,
      instruction_spelled (words_of c.args.bytes.now) c.args.n c.args.at o.field-0-1 c.field.result _ c.args.extent c.args.form o.places
          (record { kind = Temp; select = Bare; negate = false; slot = 0; index = 0; relative = None; x = 0; y = 0; z = 0; w = 0 })
          c.requires.words c.requires.extent c.requires.other c.requires.layout c.requires.form o.ensures.place.0 o.ensures.place.1 o.ensures.spelled
          (c.field.ensures ∙ ap length_of c.word.ensures) (ap length c.roles-roles.ensures),
    )
