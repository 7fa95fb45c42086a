-- WHAT THE RAISED TREE OF A PROGRAM IS: where its statements stand, what it names, and what it costs.
use Rattle.std.specs.Prelude.{◌≡◌, ℕ, ◌+◌, ◌<◌, ◌≤◌, not, ◌&&◌, IsTrue, List, sum_by}
use Rattle.binding_map.specs.Bindings.{Binding}
use Rattle.binding_map.specs.Fits.{is_null_in}
use Rattle.tpf_decode.specs.Profiles.{Base}
use Rattle.tpf_program.specs.Program.{Shader}
use Rattle.tpf_program.specs.declared.instruction.Instruction.{Instruction}
use Rattle.shader_tree.specs.Costs.{Affords}
use Rattle.shader_tree.specs.Placed.{is_placed}
use Rattle.shader_tree.specs.Shape.{shape}
use Rattle.shader_tree.specs.Terms.{Term}
use Rattle.shader_tree.specs.Values.{size_of}
use Rattle.shader_tree.specs.Walks.{Each, changed_in, rooms_in, spaces_in, threads_in, written_in}
use Rattle.raise_operands.specs.Bounds.{IsBounded}
use Rattle.raise_operands.specs.Raises.{HasThread, is_register}
use Rattle.raise_operands.specs.Vectors.{spaces_of}
use Rattle.raise_views.specs.Guards.{has_room, is_resource}
use Rattle.raise_program.specs.ProgramShape.{program_shape}

-- It names thread ids that the program declares, spaces that have words, and rooms of the program that are not null; it
-- writes registers alone, and changes no read-only view.
pub record NamesOf (p : Shader) (bindings : List Binding) (x : Term) : Type 0 where
  pub threads : Each (HasThread p) (threads_in x)
  pub spaces : Each (λ space. 0 < size_of (spaces_of p) space) (spaces_in x)
  pub rooms : Each (λ room. IsTrue (has_room p room && not (is_null_in bindings room))) (rooms_in x)
  pub written : Each (λ space. IsTrue (is_register space)) (written_in x)
  pub changed : Each (λ room. IsTrue (not (is_resource room))) (changed_in x)

-- how many words instructions have
abbrev pub lengths : List Instruction → ℕ
lengths code = sum_by (λ i. i.length) code

-- It keeps within bounds, its sums are at most 256 words and 48 ids for each word of the program's instructions, which
-- are words of the program, behind two others; and it has the program's shape.
pub record IsTreeOf (p : Shader) (bindings : List Binding) (x : Term) : Type 0 where
  pub placed : IsTrue (is_placed x)
  pub names : NamesOf p bindings x
  pub bounded : IsBounded x
  pub affords : Affords (lengths p.instructions) x
  pub short : lengths p.instructions + 2 ≤ p.words
  pub shape' : shape x ≡ program_shape Base p bindings
