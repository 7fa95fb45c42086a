-- What a view shows: the words and the tree of the module that its workspace holds.
use Rattle.std.specs.Prelude.{ℕ, List}
use Rattle.shader_tree.specs.Trees.{Grown}
use Rattle.translator.specs.declared.view.ModuleView.{ModuleView}

abbrev pub module_words : ModuleView → List ℕ
module_words v = v.work.now.text

abbrev pub module_tree : ModuleView → Grown
module_tree v = v.work.now.tree
