use Rattle.std.proofs.Common.{refl}
use Rattle.spirv_emit.proofs.Room.{kept_begun, kept_words, kept_ids}
use Rattle.spirv_emit.proofs.emitter.Emitter.keep.Goals as goal

pub returns-clause-begun : goal.returns-clause-begun
returns-clause-begun c =
    kept_begun c.args.self.now _ c.args.word c.args.id refl refl refl c.keep.ensures.keeps c.keep.ensures.comes c.keep.ensures.elements
    c.requires.below c.requires.begun

pub returns-clause-words : goal.returns-clause-words
returns-clause-words c = kept_words c.args.self.now _ c.args.word c.args.id refl refl refl c.keep.ensures.keeps c.keep.ensures.comes
    c.keep.ensures.elements

pub returns-clause-ids : goal.returns-clause-ids
returns-clause-ids c = kept_ids c.args.self.now _ c.args.word c.args.id refl refl refl c.keep.ensures.keeps c.keep.ensures.comes
    c.keep.ensures.elements
