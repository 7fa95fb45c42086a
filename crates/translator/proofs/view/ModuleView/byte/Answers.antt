use Rattle.translator.specs.Shown.{module_words}
use Rattle.translator.proofs.ViewBytes.{byte_taken}
use Rattle.translator.proofs.view.ModuleView.byte.Goals as goal

pub returns : goal.returns
returns c = byte_taken (module_words c.args.self.now) c.args.place c.word-word.result c.word-word.ensures
