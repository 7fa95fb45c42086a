use Rattle.std.proofs.Common.{arith}
use Rattle.std.proofs.lemmas.Option.{slice_get-get_or}
use Rattle.spirv_symbols.specs.declared.row.Part.TheVariants.{Own}
use Rattle.spirv_symbols.proofs.Parts.{part_front, part_back, word_within}
use Rattle.spirv_symbols.proofs.row.part_at.Goals as goal

pub overflow_cast-k : goal.overflow_cast-k
overflow_cast-k c =
    let h = word_within c.args.row.now.parts c.args.row.now.gathers c.args.context.now.immediates c.args.row.now.count c.args.k c.requires.few
    c.if-k-count.false c.requires.within in
    omega (arith, h, c.room_laws.ensures.within, c.room_laws.ensures.short)

pub returns-then-k-count : goal.returns-then-k-count
returns-then-k-count c =
    part_front c.args.row.now.parts c.args.row.now.gathers c.args.context.now.immediates c.args.row.now.count c.args.k _ c.if-k-count.true
    (slice_get-get_or c.args.row.now.parts c.args.k Own (omega (arith, c.requires.few, c.if-k-count.true)))

pub returns-else-k-count : goal.returns-else-k-count
returns-else-k-count c =
    part_back c.args.row.now.parts c.args.row.now.gathers c.args.context.now.immediates c.args.row.now.count c.args.k c.immediate-word.result
    c.requires.few c.if-k-count.false c.requires.within c.immediate-word.ensures
