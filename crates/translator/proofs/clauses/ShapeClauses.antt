-- What the clauses of `shape_laws` of spirv_flow say.
use Rattle.std.specs.Prelude.{◌≡◌, ◌++◌, List, false, map}
use Rattle.spirv_words.specs.Globals.{Places}
use Rattle.spirv_words.specs.Text.{Instr, Module}
use Rattle.shader_tree.specs.Shape.{shape}
use Rattle.shader_tree.specs.Terms.{Term}
use Rattle.spirv_symbols.specs.declared.entry.Entry.{Entry}
use Rattle.spirv_symbols.specs.declared.numbered.Numbered.{Numbered}
use Rattle.spirv_symbols.specs.Contexts.{Context}
use Rattle.spirv_symbols.specs.Modules.{Kind, front}
use Rattle.spirv_symbols.specs.ModuleWords.{head}
use Rattle.spirv_emit.specs.declared.emitter.Emitter.{Emitter as Emission}
use Rattle.spirv_emit.specs.Growing.{Completes}
use Rattle.spirv_emit.specs.Lanes.{Site}
use Rattle.spirv_emit.specs.Linked.{IsLinked}
use Rattle.spirv_emit.specs.ModuleShape.{Seen, module_shape}
use Rattle.spirv_flow.specs.Fronts.{whole}
use Rattle.spirv_flow.specs.Lowers.{Lowers}
use Rattle.spirv_flow.specs.Shapes.{HasNoItems}

pub record ShapeClauses : Type 0 where
  pub shown : (z : Site) (places : Places) (m : Module) (front : List Instr) (old new : Emission) (x : Term)
      (h : Lowers old new 0 0 0 false false x) → Completes new z → IsLinked z places → HasNoItems front
      → m.code ≡ z.machine.code → z.machine.code ≡ whole front h.layout
      → module_shape m places ≡ map Seen (shape x)
  pub front : (c : Context) (kind : Kind) (es : List Entry) (cs : List Numbered)
      → HasNoItems (front c kind es cs ++ head c es)
