-- What the tree of a program names: thread ids that it declares, spaces that have words, and rooms that it has and that
-- are not null.
use Rattle.std.specs.Prelude.{◌<◌, not, ◌&&◌, Bool, false, List, IsTrue}
use Rattle.std.specs.List.{list_any}
use Rattle.word_base.specs.declared.event.Room.{Room}
use Rattle.word_base.specs.declared.event.Room.TheVariants as room
use Rattle.tpf_decode.specs.declared.argument.Kind.{Kind}
use Rattle.tpf_decode.specs.declared.argument.Kind.TheVariants as kind
use Rattle.tpf_program.specs.declared.declaration.Declaration.{Declaration}
use Rattle.tpf_program.specs.declared.declaration.Declaration.TheVariants.{Input}
use Rattle.tpf_program.specs.Declarations.{same_id}
use Rattle.tpf_program.specs.Extents.{steps_counter}
use Rattle.tpf_program.specs.Program.{Shader}
use Rattle.tpf_program.specs.Sizes.{temps_of, elements_of, vectors_of}
use Rattle.tpf_program.specs.Uses.{declares}
use Rattle.binding_map.specs.Bindings.{Binding}
use Rattle.binding_map.specs.Fits.{is_null_in}
use Rattle.shader_tree.specs.Terms.{Term}
use Rattle.shader_tree.specs.Values.{Spaces, size_of}
use Rattle.shader_tree.specs.Walks.{Each, rooms_in, spaces_in, threads_in}

-- what a lane of the program's tree is given
abbrev pub spaces_of : Shader → Spaces
spaces_of p = record {
  temps = temps_of p.declarations;
  elements = λ slot. elements_of slot p.declarations;
  vectors = λ slot. vectors_of slot p.declarations;
  immediates = p.constants;
}

abbrev pub is_input : Kind → Declaration → Bool
is_input kind (Input id select) = same_id id kind
is_input kind other = false

-- a view or shared memory that it declares, or the counter of a view that it steps
abbrev pub has_room : Shader → Room → Bool
has_room p (room.Resource slot) = list_any (λ d. declares d.what kind.Resource slot) p.declarations
has_room p (room.Uav slot) = list_any (λ d. declares d.what kind.Uav slot) p.declarations
has_room p (room.Counter slot) = list_any (steps_counter slot) p.instructions
has_room p (room.Shared slot) = list_any (λ d. declares d.what kind.Shared slot) p.declarations

pub record IsNamed (p : Shader) (bindings : List Binding) (x : Term) : Type 0 where
  pub threads : Each (λ k. IsTrue (list_any (λ d. is_input k d.what) p.declarations)) (threads_in x)
  pub spaces : Each (λ space. 0 < size_of (spaces_of p) space) (spaces_in x)
  pub rooms : Each (λ room. IsTrue (has_room p room && not (is_null_in bindings room))) (rooms_in x)
