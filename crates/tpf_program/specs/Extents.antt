-- The settings that fit a program. A view without a binding is null, and its counter too.
use Rattle.std.specs.Prelude.{◌≡◌, ℕ, ◌*◌, ◌/◌, ◌<◌, ◌^◌, nat_eq, not, ◌&&◌, ◌||◌, if◌then◌else◌, Bool, false, List}
use Rattle.std.specs.Bool.{MatchBool}
use Rattle.std.specs.List.{list_any}
use Rattle.word_base.specs.declared.event.Room.{Room}
use Rattle.word_base.specs.declared.event.Room.TheVariants as room
use Rattle.word_base.specs.Settings.{Setting, HoldsWords}
use Rattle.tpf_program.specs.declared.declaration.SharedKind.{SharedKind}
use Rattle.tpf_program.specs.declared.declaration.SharedKind.TheVariants as shared
use Rattle.tpf_program.specs.declared.declaration.Declaration.{Declaration}
use Rattle.tpf_program.specs.declared.declaration.Declaration.TheVariants.{Resource, Uav, Shared}
use Rattle.tpf_program.specs.declared.declaration.Declared.{Declared}
use Rattle.tpf_program.specs.declared.instruction.Instruction.{Instruction}
use Rattle.tpf_program.specs.Program.{Shader}
use Rattle.tpf_program.specs.Sizes.{first_size}

abbrev pub is_resource : ℕ → Declaration → Bool
is_resource slot (Resource s view) = nat_eq s slot
is_resource slot other = false

abbrev pub is_uav : ℕ → Declaration → Bool
is_uav slot (Uav s view coherent ordered) = nat_eq s slot
is_uav slot other = false

-- a counter is there exactly where `imm_atomic_alloc` or `imm_atomic_consume` names it
abbrev pub steps_counter : ℕ → Instruction → Bool
steps_counter slot i = (nat_eq i.code 178 || nat_eq i.code 179) && nat_eq i.o1.slot slot

-- the words of a g#
abbrev pub shared_words : SharedKind → ℕ
shared_words (shared.Raw bytes) = bytes / 4
shared_words (shared.Structured stride count) = stride / 4 * count

abbrev pub words_declared : ℕ → Declaration → ℕ
words_declared slot (Shared s kind) = if nat_eq s slot then shared_words kind else 0
words_declared slot other = 0

-- the words of a slot of shared memory: of those that its declarations give the first that is not 0, and 0 without one
abbrev pub shared_extent : ℕ → List Declared → ℕ
shared_extent slot ds = first_size (words_declared slot) ds

-- the length that a room may have: below 2 ^ 30 for a declared view, 1 for a counter, what is declared for shared memory, and 0 for
-- what is not there or is null
abbrev pub IsExtent : (Room → Bool) → Shader → Room → ℕ → Type 0
IsExtent is_null p (room.Resource slot) n =
    MatchBool (not (is_null (room.Resource slot)) && list_any (λ d. is_resource slot d.what) p.declarations) (n < 2 ^ 30) (n ≡ 0)
IsExtent is_null p (room.Uav slot) n =
    MatchBool (not (is_null (room.Uav slot)) && list_any (λ d. is_uav slot d.what) p.declarations) (n < 2 ^ 30) (n ≡ 0)
IsExtent is_null p (room.Counter slot) n =
    n ≡ (if not (is_null (room.Counter slot)) && list_any (steps_counter slot) p.instructions then 1 else 0)
IsExtent is_null p (room.Shared slot) n = n ≡ shared_extent slot p.declarations

pub record FitsRooms (is_null : Room → Bool) (p : Shader) (setting : Setting) : Type 0 where
  pub words : HoldsWords setting
  pub extents : (room : Room) → IsExtent is_null p room (setting.extent room)
