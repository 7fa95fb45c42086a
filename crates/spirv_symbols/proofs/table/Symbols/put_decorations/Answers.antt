use Rattle.std.proofs.Common.{◌∙◌, arith}
use Rattle.spirv_symbols.proofs.Puts.{decorations_next, decorations_room}
use Rattle.spirv_symbols.proofs.table.Symbols.put_decorations.Goals as goal

pub put_marks-requires : goal.put_marks-requires
put_marks-requires c = record {
  room =
      decorations_room c.args.context.now c.args.self.now.entries c.loop-k.k c.loop-k.words.capacity c.entry-entry.result c.row_of.result.marks
      c.args.words.now.list c.loop-k.words.list c.entry-entry.ensures c.row_of.ensures.marks c.loop-k.invariant.list
      (omega (arith, c.requires.room, c.loop-k.invariant.capacity));
}

pub loop-k-preserved : goal.loop-k-preserved
loop-k-preserved c = record {
  list = decorations_next c.args.context.now c.args.self.now.entries c.loop-k.k c.entry-entry.result c.row_of.result.marks c.args.words.now.list
      c.loop-k.words.list c.put_marks.new.words.list c.entry-entry.ensures c.row_of.ensures.marks c.loop-k.invariant.list c.put_marks.ensures.list;
  capacity = c.put_marks.ensures.capacity ∙ c.loop-k.invariant.capacity;
}
