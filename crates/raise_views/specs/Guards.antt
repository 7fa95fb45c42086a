-- What a guarded instruction owes, and what has to hold of it.
use Rattle.std.specs.Prelude.{◌≡◌, ◌<◌, not, Bool, true, false, ◌&&◌, IsTrue}
use Rattle.std.specs.List.{list_any}
use Rattle.word_base.specs.declared.event.Room.{Room}
use Rattle.word_base.specs.declared.event.Room.TheVariants as room
use Rattle.word_base.specs.Registers.{Registers}
use Rattle.word_base.specs.Settings.{Setting}
use Rattle.tpf_decode.specs.Profiles.{Base}
use Rattle.tpf_decode.specs.Opcodes.{meaning_of}
use Rattle.tpf_decode.specs.declared.argument.Kind.TheVariants as kind
use Rattle.tpf_program.specs.Bytecode.{plan, result}
use Rattle.tpf_program.specs.Extents.{FitsRooms, steps_counter}
use Rattle.tpf_program.specs.Holding.{HoldWords}
use Rattle.tpf_program.specs.Program.{Shader}
use Rattle.tpf_program.specs.Uses.{declares}
use Rattle.tpf_program.specs.declared.instruction.Instruction.{Instruction}
use Rattle.shader_tree.specs.Costs.{Affords}
use Rattle.shader_tree.specs.Plans.{Performs}
use Rattle.shader_tree.specs.Shape.{shape}
use Rattle.shader_tree.specs.Terms.{Term}
use Rattle.shader_tree.specs.Values.{size_of}
use Rattle.shader_tree.specs.Walks.{Each, holds_no, is_flow, changed_in, rooms_in, spaces_in, threads_in, written_in}
use Rattle.raise_operands.specs.Raises.{HasThread, IsInProgram, is_register}
use Rattle.raise_operands.specs.Vectors.{spaces_of}
use Rattle.raise_views.specs.Guarding.{is_guarded, shape_of}

pub record IsGuardable (p : Shader) (i : Instruction) : Type 0 where
  pub guards : is_guarded (meaning_of Base i.code) ≡ true
  pub there : IsInProgram p i

-- the program has the room: a view or shared memory that it declares, or the counter of a view that it steps
abbrev pub has_room : Shader → Room → Bool
has_room p (room.Resource slot) = list_any (λ d. declares d.what kind.Resource slot) p.declarations
has_room p (room.Uav slot) = list_any (λ d. declares d.what kind.Uav slot) p.declarations
has_room p (room.Counter slot) = list_any (steps_counter slot) p.instructions
has_room p (room.Shared slot) = list_any (λ d. declares d.what kind.Shared slot) p.declarations

abbrev pub is_resource : Room → Bool
is_resource (room.Resource slot) = true
is_resource other = false

-- WHAT THE STATEMENT OWES. From the registers of the instruction, under a setting that fits the program and its null
-- rooms, it makes the events of the instruction's plan under every list of answers, leaves the instruction's registers,
-- and goes on behind itself. What makes events in it is what the shape counts; it holds no control flow but selections,
-- names what the program has and no null room, writes registers alone and changes no read-only view, and costs what the
-- length of the instruction affords.
pub record Guards (is_null : Room → Bool) (p : Shader) (i : Instruction) (x : Term) : Type 0 where
  pub performs :
      (setting : Setting) (r : Registers) → FitsRooms is_null p setting → HoldWords r
      → Performs (spaces_of p) setting x r (plan Base p setting r i) (λ answers. result Base p setting r i answers)
  pub shape' : shape x ≡ shape_of is_null i
  pub no_flow : IsTrue (holds_no is_flow x)
  pub threads : Each (HasThread p) (threads_in x)
  pub spaces : Each (λ space. 0 < size_of (spaces_of p) space) (spaces_in x)
  pub rooms : Each (λ room. IsTrue (has_room p room && not (is_null room))) (rooms_in x)
  pub written : Each (λ space. IsTrue (is_register space)) (written_in x)
  pub changed : Each (λ room. IsTrue (not (is_resource room))) (changed_in x)
  pub affords : Affords i.length x
