use Rattle.std.proofs.Common.{◌*◌, arith}
use Rattle.tpf_program.specs.Sizes.{temps_of}
use Rattle.spirv_setup.specs.Descriptions.{descriptions, buffers_of}
use Rattle.binding_map.specs.Wanted.{push_words}
use Rattle.spirv_setup.proofs.Ready.{temps_few, all_described, said_sizes, declared_kept, immediates_kept, buffers_kept}
use Rattle.spirv_setup.proofs.setup.describe.Goals as goal

pub overflow_mul-temps : goal.overflow_mul-temps
overflow_mul-temps c =
    let n = temps_few c.args.program.now.shader.declarations in
    omega (arith, n, c.requires.declared.declared.registers, c.temps.ensures)

pub returns-clause-described : goal.returns-clause-described
returns-clause-described c =
    all_described c.args.program.now.shader c.args.bindings.now c.args.emitter.now c.say_immediates.new.emitter c.say_declarations.new.emitter
    c.requires.room.unsaid c.say_declarations.ensures
    (said_sizes c.args.program.now.shader c.args.bindings.now c.args.emitter.now c.set_sizes.new.self c.say_immediates.new.emitter
    c.temps.result c.push_words-pushed.result c.temps.ensures c.push_words-pushed.ensures.words c.set_sizes.ensures c.say_immediates.ensures)

pub returns-clause-declared : goal.returns-clause-declared
returns-clause-declared c =
    declared_kept c.args.emitter.now c.say_immediates.new.emitter c.say_declarations.new.emitter (descriptions c.args.program.now.shader c.args.bindings.now)
    (buffers_of c.args.program.now.shader c.args.bindings.now) (4 * temps_of c.args.program.now.shader.declarations)
    (push_words c.args.program.now.shader c.args.bindings.now) c.args.program.now.shader.constants c.say_declarations.ensures
    (said_sizes c.args.program.now.shader c.args.bindings.now c.args.emitter.now c.set_sizes.new.self c.say_immediates.new.emitter
    c.temps.result c.push_words-pushed.result c.temps.ensures c.push_words-pushed.ensures.words c.set_sizes.ensures c.say_immediates.ensures)

pub returns-clause-immediates : goal.returns-clause-immediates
returns-clause-immediates c =
    immediates_kept c.args.emitter.now c.say_immediates.new.emitter c.say_declarations.new.emitter (descriptions c.args.program.now.shader c.args.bindings.now)
    (buffers_of c.args.program.now.shader c.args.bindings.now) (4 * temps_of c.args.program.now.shader.declarations)
    (push_words c.args.program.now.shader c.args.bindings.now) c.args.program.now.shader.constants c.say_declarations.ensures
    (said_sizes c.args.program.now.shader c.args.bindings.now c.args.emitter.now c.set_sizes.new.self c.say_immediates.new.emitter
    c.temps.result c.push_words-pushed.result c.temps.ensures c.push_words-pushed.ensures.words c.set_sizes.ensures c.say_immediates.ensures)

pub returns-clause-buffers : goal.returns-clause-buffers
returns-clause-buffers c =
    buffers_kept c.args.emitter.now c.say_immediates.new.emitter c.say_declarations.new.emitter (descriptions c.args.program.now.shader c.args.bindings.now)
    (buffers_of c.args.program.now.shader c.args.bindings.now) (4 * temps_of c.args.program.now.shader.declarations)
    (push_words c.args.program.now.shader c.args.bindings.now) c.args.program.now.shader.constants c.say_declarations.ensures
    (said_sizes c.args.program.now.shader c.args.bindings.now c.args.emitter.now c.set_sizes.new.self c.say_immediates.new.emitter
    c.temps.result c.push_words-pushed.result c.temps.ensures c.push_words-pushed.ensures.words c.set_sizes.ensures c.say_immediates.ensures)
