use Rattle.spirv_emit.proofs.Groups.{insert_by, inserts}
use Rattle.spirv_emit.proofs.Operators.{insert_as, inserted}
use Rattle.spirv_emit.proofs.emitter.Emitter.insert.Goals as goal

pub returns-clause-gives : goal.returns-clause-gives
returns-clause-gives c =
    insert_as c.args.self.now _ insert_by c.args.width c.args.offset c.args.inserted c.args.base _ inserted
    (inserts c.args.self.now _ _ _ _ _ _ c.args.width c.args.offset c.args.inserted c.args.base c.thirty_one-thirty_one.result
    c.thirty_two-thirty_two.result _ _ _ _ _ _
    c.requires.begun c.thirty_one-thirty_one.ensures c.thirty_two-thirty_two.ensures c.two_words-width.ensures.gives c.two_words-offset.ensures.gives
    c.two_words-rest.ensures.gives c.compare-fits.ensures.gives c.choose-count.ensures.gives c.four_words.ensures.gives)
