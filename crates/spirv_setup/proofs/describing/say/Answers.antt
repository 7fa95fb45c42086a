use Rattle.spirv_setup.proofs.Said.{said_one}
use Rattle.spirv_setup.proofs.describing.say.Goals as goal

pub returns : goal.returns
returns c =
    said_one c.args.emitter.now c.declare.new.self c.args.variable c.args.size c.args.place c.args.coherent c.set_and_binding-set.result.0
    c.set_and_binding-set.result.1 c.set_and_binding-set.ensures.set c.set_and_binding-set.ensures.binding c.declare.ensures.declares
    c.declare.ensures.rest
