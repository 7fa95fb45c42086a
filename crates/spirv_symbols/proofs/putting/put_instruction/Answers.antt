use Rattle.std.proofs.Common.{◌+◌, ◌*◌, ◌∷◌, [], ap, ◌∙◌, arith, length, length-append}
use Rattle.spirv_symbols.specs.RowValues.{parts_of}
use Rattle.spirv_symbols.specs.Rows.{operand}
use Rattle.spirv_symbols.specs.Tables.{id_of}
use Rattle.spirv_symbols.proofs.Puts.{operand_next, operand_room}
use Rattle.spirv_symbols.proofs.putting.put_instruction.Goals as goal

pub push-requires-in-loop-k : goal.push-requires-in-loop-k
push-requires-in-loop-k c =
    operand_room (operand (id_of c.args.symbols.now.entries) c.args.entry.id) (parts_of c.args.context.now c.row_of-row.result) c.loop-k.k
    c.loop-k.words.capacity c.push.new.self.list c.loop-k.words.list (omega (arith, c.loop-k-test.true, c.part_count-count.ensures))
    (omega (
      arith,
      c.requires.room,
      ap length c.push.ensures.list,
      length-append c.args.words.now.list
          ((65536 * (c.part_count-count.result + 1) + c.row_of-row.result.op) ∷ []),
      c.push.ensures.capacity,
      c.loop-k.invariant.capacity,
      ap length c.row_of-row.ensures.parts,
    )) c.loop-k.invariant.list

pub loop-k-preserved : goal.loop-k-preserved
loop-k-preserved c = record {
  list = operand_next (operand (id_of c.args.symbols.now.entries) c.args.entry.id) (parts_of c.args.context.now c.row_of-row.result) c.loop-k.k
      c.operand.result c.part_at.result c.push.new.self.list c.loop-k.words.list c.push-in-loop-k.new.self.list c.part_at.ensures c.operand.ensures
      c.loop-k.invariant.list c.push-in-loop-k.ensures.list;
  capacity = c.push-in-loop-k.ensures.capacity ∙ c.loop-k.invariant.capacity;
}
