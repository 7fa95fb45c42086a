use Rattle.spirv_emit.proofs.Assigning.{own_variable}
use Rattle.spirv_emit.proofs.RoomWaiting.{last_variable}
use Rattle.spirv_emit.proofs.Saves.{word_saves}
use Rattle.spirv_emit.proofs.emitter.Emitter.save.Goals as goal

pub store_word-requires-clause-own : goal.store_word-requires-clause-own
store_word-requires-clause-own c =
    let w = c.in-Some in last_variable c.args.self.now w.word w.id c.requires.begun w.ensures.last

pub returns-in-Some-clause-saves : goal.returns-in-Some-clause-saves
returns-in-Some-clause-saves c =
    let a = c.args.self.now in let w = c.in-Some in
    let own = last_variable a w.word w.id c.requires.begun w.ensures.last in
    word_saves a c.take_waiting.new.self c.store_word.new.self w.word w.id c.requires.begun own w.ensures.last w.ensures.popped
    (c.store_word.ensures.stores _ (own_variable w.word own))
