use Rattle.std.proofs.Common.{ap, arith}
use Rattle.std.proofs.lemmas.List.{length-append}
use Rattle.std.specs.Prelude.{length, map}
use Rattle.spirv_words.specs.Text.{words_of_code}
use Rattle.spirv_symbols.specs.declared.symbol.Section.TheVariants.{Types, Declarations}
use Rattle.spirv_symbols.specs.Sections.{section_code, decorations_of, code_of}
use Rattle.spirv_symbols.specs.Orders.{entry_for}
use Rattle.spirv_symbols.proofs.Lengths.{section_short, decorations_short, constants_short, constants_words}
use Rattle.library_tests.proofs.symbols.put_front.Goals as goal

pub put_decorations-requires : goal.put_decorations-requires
put_decorations-requires x = record { room = omega (arith, x.requires.room, decorations_short x.args.context.now x.args.symbols.now.entries) }

pub put_section-requires-clause-room : goal.put_section-requires-clause-room
put_section-requires-clause-room x =
    let c = x.args.context.now in
    let es = x.args.symbols.now.entries in
    let d = x.put_decorations.ensures in
    omega (
      arith,
      x.requires.room,
      decorations_short c es,
      section_short c es Types,
      d.capacity,
      ap length d.list,
      length-append x.args.words.now.list (words_of_code (decorations_of c es)),
    )

pub put-requires : goal.put-requires
put-requires x =
    let c = x.args.context.now in
    let es = x.args.symbols.now.entries in
    let d = x.put_decorations.ensures in
    let t = x.put_section.ensures in
    record {
      room = omega (
        arith,
        x.requires.room,
        decorations_short c es,
        section_short c es Types,
        constants_short c x.args.symbols.now x.take_from.new.self.list x.requires.stands x.take_from.ensures.sorted,
        d.capacity,
        t.capacity,
        ap length d.list,
        ap length t.list,
        length-append x.args.words.now.list (words_of_code (decorations_of c es)),
        length-append x.put_decorations.new.words.list (words_of_code (section_code c Types es)),
      );
    }

pub put_section-requires-2-clause-room : goal.put_section-requires-2-clause-room
put_section-requires-2-clause-room x =
    let c = x.args.context.now in
    let es = x.args.symbols.now.entries in
    let cs = x.take_from.new.self.list in
    let d = x.put_decorations.ensures in
    let t = x.put_section.ensures in
    let k = x.put.ensures in
    omega (
      arith,
      x.requires.room,
      decorations_short c es,
      section_short c es Types,
      section_short c es Declarations,
      constants_short c x.args.symbols.now cs x.requires.stands x.take_from.ensures.sorted,
      constants_words c es cs,
      d.capacity,
      t.capacity,
      k.capacity,
      ap length d.list,
      ap length t.list,
      ap length (k.list c),
      length-append x.args.words.now.list (words_of_code (decorations_of c es)),
      length-append x.put_decorations.new.words.list (words_of_code (section_code c Types es)),
      length-append x.put_section.new.words.list (words_of_code (code_of c es (map entry_for cs))),
    )
