use Rattle.spirv_emit.proofs.Assigning.{put_assigns, stored_assigns, own_variable}
use Rattle.spirv_emit.proofs.emitter.Emitter.assign.Goals as goal

pub returns-then-holds-clause-assigns : goal.returns-then-holds-clause-assigns
returns-then-holds-clause-assigns c = put_assigns c.args.self.now c.put.new.self c.args.word c.args.id c.put.ensures.put

pub returns-clause-assigns : goal.returns-clause-assigns
returns-clause-assigns c =
    stored_assigns c.args.self.now c.store_word.new.self c.args.word c.args.id c.requires.own c.in-None.ensures.absent
    (c.store_word.ensures.stores _ (own_variable c.args.word c.requires.own))
