use Rattle.std.proofs.Common.{None, false, refl}
use Rattle.word_base.specs.Words.{words_of}
use Rattle.tpf_decode.specs.declared.argument.Kind.TheVariants.{Temp}
use Rattle.tpf_decode.specs.declared.argument.Select.TheVariants.{Bare}
use Rattle.tpf_program.proofs.Pieces.{declaration_spelled}
use Rattle.tpf_program.proofs.item.declaration.Goals as goal

pub returns-clause-spelled : goal.returns-clause-spelled
returns-clause-spelled c =
    let o = c.in_ok-places in (
      refl,
      declaration_spelled (words_of c.args.bytes.now) c.args.n c.args.at o.place c.args.extent c.args.layout o.places
          (record { kind = Temp; select = Bare; negate = false; slot = 0; index = 0; relative = None; x = 0; y = 0; z = 0; w = 0 })
          c.declare-what.result c.requires.words c.requires.extent c.requires.other c.requires.layout o.ensures.place.0 o.ensures.place.1 o.ensures.spelled c.declare-what.ensures,
    )
