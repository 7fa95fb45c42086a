use Rattle.std.proofs.Common.{arith}
use Rattle.spirv_symbols.proofs.Growing.{fewer, put_there, put_new}
use Rattle.spirv_symbols.proofs.table.Symbols.put.Goals as goal

pub add-requires-clause-free : goal.add-requires-clause-free
add-requires-clause-free c = omega (
  arith,
  fewer c.args.context.now c.args.self.now.entries c.args.self.now.next c.requires.stands.table
      c.requires.stands.some,
  c.requires.room,
)

pub returns-in-Some : goal.returns-in-Some
returns-in-Some c = put_there c.args.context.now c.args.self.now c.args.symbol c.in-Some.id c.requires.stands c.in-Some.ensures.found

pub returns-in-None : goal.returns-in-None
returns-in-None c = put_new c.args.context.now c.args.self.now c.add.new.self c.args.symbol c.add.result c.requires.stands c.in-None.ensures.absent
    c.requires.needs c.add.ensures
