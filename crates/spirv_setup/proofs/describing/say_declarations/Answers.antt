use Rattle.std.proofs.Common.{length, take, ap, arith}
use Rattle.std.proofs.lemmas.List.{length-append}
use Rattle.std.specs.List.{filter_map}
use Rattle.tpf_program.specs.Declarations.{shared_bytes, register_count}
use Rattle.tpf_program.specs.declared.declaration.Declared.{Declared}
use Rattle.spirv_setup.specs.Descriptions.{buffer_by}
use Rattle.spirv_setup.proofs.Said.{new_on, capacity_on, said_few, added_few, taken_few, at_most, says_next}
use Rattle.spirv_setup.proofs.describing.say_declarations.Goals as goal

pub say_declaration-requires-clause-new : goal.say_declaration-requires-clause-new
say_declaration-requires-clause-new c = new_on c.args.emitter.now c.loop-i.emitter _ _ c.loop-i.invariant c.requires.new

pub say_declaration-requires-clause-shared : goal.say_declaration-requires-clause-shared
say_declaration-requires-clause-shared c =
    let n = at_most (λ (d : Declared). shared_bytes d.what) c.args.program.now.shader.declarations c.loop-i.i c.declaration-declared.result
    c.declaration-declared.ensures in
    omega (arith, n, c.requires.declared.shared)

pub say_declaration-requires-clause-registers : goal.say_declaration-requires-clause-registers
say_declaration-requires-clause-registers c =
    let n = at_most (λ (d : Declared). register_count d.what) c.args.program.now.shader.declarations c.loop-i.i c.declaration-declared.result
    c.declaration-declared.ensures in
    omega (arith, n, c.requires.declared.registers)

pub say_declaration-requires-clause-room : goal.say_declaration-requires-clause-room
say_declaration-requires-clause-room c =
    let ds = take c.loop-i.i c.args.program.now.shader.declarations in
    let few = said_few c.args.bindings.now ds in
    let none = ap length c.requires.none in
    let lt = c.loop-i-test.true in
    let n = taken_few c.loop-i.i c.args.program.now.shader.declarations (omega (arith, lt, c.declarations-i-end.ensures)) in
    omega (
      arith,
      few,
      none,
      lt,
      n,
      c.declarations-i-end.ensures,
      c.loop-i.invariant.count,
      c.requires.room,
      capacity_on c.args.emitter.now c.loop-i.emitter _ _ c.loop-i.invariant,
    )

pub say_declaration-requires-clause-buffers : goal.say_declaration-requires-clause-buffers
say_declaration-requires-clause-buffers c =
    let ds = take c.loop-i.i c.args.program.now.shader.declarations in
    let few = added_few c.args.bindings.now ds in
    let none = ap length c.requires.empty in
    let lt = c.loop-i-test.true in
    let n = taken_few c.loop-i.i c.args.program.now.shader.declarations (omega (arith, lt, c.declarations-i-end.ensures)) in
    let all = ap length c.loop-i.invariant.buffers in
    omega (
      arith,
      few,
      none,
      lt,
      n,
      all,
      c.declarations-i-end.ensures,
      c.requires.buffers,
      c.loop-i.invariant.capacity,
      length-append c.args.emitter.now.frame.buffers.list (filter_map (λ (d : Declared). buffer_by c.args.bindings.now d.what) ds),
    )

pub loop-i-preserved : goal.loop-i-preserved
loop-i-preserved c =
    says_next c.args.emitter.now c.loop-i.emitter c.say_declaration.new.emitter c.args.bindings.now c.args.program.now.shader.declarations
    c.loop-i.i c.declaration-declared.result c.declaration-declared.ensures c.loop-i.invariant c.say_declaration.ensures
