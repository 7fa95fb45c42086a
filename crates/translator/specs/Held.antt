-- What contracts see of a workspace, and of the module that it holds.
use Rattle.std.specs.Prelude.{◌≡◌, ℕ, ◌+◌, ◌*◌, ◌≤◌, List, [], None}
use Rattle.tpf_program.specs.Program.{Shader}
use Rattle.shader_tree.specs.Trees.{Grown, grown}

-- The words of the longest program that there is room for; how many nodes, ids and module words there is room for; the
-- program that was read; and the words and the tree of the module that is held.
pub record Held : Type 0 where
  pub words : ℕ
  pub nodes : ℕ
  pub ids : ℕ
  pub output : ℕ
  pub program : Shader
  pub text : List ℕ
  pub tree : Grown

-- THE ROOM of a workspace for programs of so many words.
pub record HasRooms (words : ℕ) (h : Held) : Type 0 where
  pub words' : h.words ≡ words
  pub short : words ≤ 65536
  pub nodes : h.nodes ≤ 16 * words + 256
  pub ids : h.ids ≤ 48 * words + 4096
  pub output : h.output ≤ 256 * words + 8192

-- the same room
pub record SameRooms (old new : Held) : Type 0 where
  pub words : new.words ≡ old.words
  pub nodes : new.nodes ≡ old.nodes
  pub ids : new.ids ≡ old.ids
  pub output : new.output ≡ old.output

-- no module is held, as when the workspace was made
pub record IsUnused (h : Held) : Type 0 where
  pub text : h.text ≡ []
  pub tree : h.tree ≡ grown [] h.nodes None
