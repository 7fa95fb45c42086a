-- What contracts see of the parts of a workspace.
use Rattle.std.specs.Prelude.{ℕ}
use Rattle.tpf_program.specs.Program.{Shader}
use Rattle.shader_tree.specs.Trees.{Grown}
use Rattle.spirv_emit.specs.declared.emitter.Emitter.{Emitter}
use Rattle.spirv_emit.specs.Finished.{text_of}
use Rattle.translator.specs.Held.{Held}

abbrev pub held : ℕ → Shader → Grown → Emitter → ℕ → Held
held words program tree e body = record {
  words = words;
  nodes = tree.capacity;
  ids = e.symbols.limit;
  output = e.code.capacity;
  program = program;
  text = text_of body e.code.list;
  tree = tree;
}
