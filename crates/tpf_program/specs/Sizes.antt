-- The sizes of what a program declares: of the declarations of a slot the first size that is not 0 counts, and of those of a view the
-- first one. (Direct3D 11 functional specification: dcl_temps, dcl_indexableTemp, dcl_constantbuffer, and the declarations of views.)
use Rattle.std.specs.Prelude.{ℕ, nat_eq, if◌then◌else◌, Bool, true, false, List, [], ◌∷◌, Option, Some, None}
use Rattle.std.specs.List.{list_any}
use Rattle.word_base.specs.declared.event.Room.{Room}
use Rattle.word_base.specs.declared.event.Room.TheVariants as room
use Rattle.tpf_program.specs.declared.declaration.ViewKind.{ViewKind}
use Rattle.tpf_program.specs.declared.declaration.ViewKind.TheVariants as view
use Rattle.tpf_program.specs.declared.declaration.SharedKind.{SharedKind}
use Rattle.tpf_program.specs.declared.declaration.SharedKind.TheVariants as shared
use Rattle.tpf_program.specs.declared.declaration.Declaration.{Declaration}
use Rattle.tpf_program.specs.declared.declaration.Declaration.TheVariants.{Constants, Resource, Uav, Shared, Temps, Indexable}
use Rattle.tpf_program.specs.declared.declaration.Declared.{Declared}
use Rattle.tpf_decode.specs.declared.argument.Kind.{Kind}
use Rattle.tpf_decode.specs.declared.argument.Kind.TheVariants as kind

-- the first number that is not 0 among those of the declarations
abbrev pub first_size : (Declaration → ℕ) → List Declared → ℕ
first_size size [] = 0
first_size size (d ∷ rest) = if nat_eq (size d.what) 0 then first_size size rest else size d.what

-- the registers r#
abbrev pub temps_declared : Declaration → ℕ
temps_declared (Temps count) = count
temps_declared other = 0

abbrev pub temps_of : List Declared → ℕ
temps_of ds = first_size temps_declared ds

-- the elements of an array x#
abbrev pub elements_declared : ℕ → Declaration → ℕ
elements_declared slot (Indexable s count components) = if nat_eq s slot then count else 0
elements_declared slot other = 0

abbrev pub elements_of : ℕ → List Declared → ℕ
elements_of slot ds = first_size (elements_declared slot) ds

-- the vectors of a constant buffer, 0 for one that is not declared
abbrev pub vectors_declared : ℕ → Declaration → ℕ
vectors_declared slot (Constants s size) = if nat_eq s slot then size else 0
vectors_declared slot other = 0

abbrev pub vectors_of : ℕ → List Declared → ℕ
vectors_of slot ds = first_size (vectors_declared slot) ds

-- How the words of a view are reached: by bytes, by structures of that many bytes, or by words, as those of a typed view.
pub data Addressing : Type 0 where
  Bytes : Addressing
  Structures : (stride : ℕ) → Addressing
  Words : Addressing

-- a view that is among the typed ones
abbrev pub is_view : Kind → ℕ → Room → Bool
is_view kind.Resource slot (room.Resource s) = nat_eq s slot
is_view kind.Uav slot (room.Uav s) = nat_eq s slot
is_view k slot other = false

abbrev pub is_typed : List Room → Kind → ℕ → Bool
is_typed typed k slot = list_any (is_view k slot) typed

abbrev pub of_view : Bool → ViewKind → Addressing
of_view true v = Words
of_view false view.Raw = Bytes
of_view false (view.Structured stride) = Structures stride

abbrev pub of_shared : SharedKind → Addressing
of_shared (shared.Raw bytes) = Bytes
of_shared (shared.Structured stride count) = Structures stride

abbrev pub where_slot : ℕ → ℕ → Addressing → Option Addressing
where_slot s slot a = if nat_eq s slot then Some a else None

abbrev pub addressing_declared : List Room → Kind → ℕ → Declaration → Option Addressing
addressing_declared typed kind.Resource slot (Resource s v) = where_slot s slot (of_view (is_typed typed kind.Resource slot) v)
addressing_declared typed kind.Uav slot (Uav s v coherent ordered) = where_slot s slot (of_view (is_typed typed kind.Uav slot) v)
addressing_declared typed kind.Shared slot (Shared s k) = where_slot s slot (of_shared k)
addressing_declared typed k slot other = None

abbrev pub or_addressing : Option Addressing → Addressing → Addressing
or_addressing None a = a
or_addressing (Some b) a = b

-- a view that is not declared counts as one of bytes; no program that is read names one
abbrev pub addressing_of : List Room → Kind → ℕ → List Declared → Addressing
addressing_of typed k slot [] = Bytes
addressing_of typed k slot (d ∷ rest) = or_addressing (addressing_declared typed k slot d.what) (addressing_of typed k slot rest)
