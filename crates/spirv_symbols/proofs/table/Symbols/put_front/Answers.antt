use Rattle.std.proofs.Common.{ap, arith, length}
use Rattle.std.proofs.lemmas.List.{length-append}
use Rattle.spirv_words.specs.Text.{words_of_code}
use Rattle.spirv_symbols.specs.declared.symbol.Section.TheVariants.{Imports, Types}
use Rattle.spirv_symbols.specs.Sections.{section_code, decorations_of}
use Rattle.spirv_symbols.specs.Modules.{models}
use Rattle.spirv_symbols.specs.ModuleWords.{kind_of}
use Rattle.spirv_symbols.proofs.Lengths.{front_long}
use Rattle.spirv_symbols.proofs.table.Symbols.put_front.Goals as goal

pub put-requires-2 : goal.put-requires-2
put-requires-2 x =
    let c = x.args.context.now in
    let es = x.args.self.now.entries in
    let k = kind_of x.args.kind in
    record {
      room = omega (
        arith,
        x.requires.room,
        front_long c k es x.args.constants.now.list,
        x.put.ensures.count,
        x.put.ensures.capacity,
        x.put_section.ensures.capacity,
        x.put_models.ensures.capacity,
        x.put_decorations.ensures.capacity,
        x.put_section-2.ensures.capacity,
        ap length x.put_section.ensures.list,
        ap length x.put_models.ensures.list,
        ap length x.put_decorations.ensures.list,
        ap length x.put_section-2.ensures.list,
        length-append x.put.new.words.list (words_of_code (section_code c Imports es)),
        length-append x.put_section.new.words.list
            (words_of_code (models k es)),
        length-append x.put_models.new.words.list (words_of_code (decorations_of c es)),
        length-append x.put_decorations.new.words.list
            (words_of_code (section_code c Types es)),
      );
    }
