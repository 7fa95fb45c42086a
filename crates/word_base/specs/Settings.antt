-- What a lane is given beside the answers to its events.
use Rattle.std.specs.Prelude.{ℕ, ◌<◌, ◌^◌, List}
use Rattle.word_base.specs.declared.event.Ids.{Ids}
use Rattle.word_base.specs.declared.event.Room.{Room}
use Rattle.word_base.specs.Words.{AreWords}

-- Numbers along the three axes: the threads of a group, the groups of a dispatch, or where a thread or group stands among them.
pub record Axes : Type 0 where
  pub x : ℕ
  pub y : ℕ
  pub z : ℕ

abbrev pub axes : ℕ → ℕ → ℕ → Axes
axes x y z = record { x = x; y = y; z = z }

-- The lane's numbers, the words of the constant buffer at each slot, and the length in words of each room: 0 for a room that is not
-- there.
pub record Setting : Type 0 where
  pub ids : Ids
  pub constants : ℕ → List ℕ
  pub extent : Room → ℕ

-- each number of a lane is a word
pub record AreIds (ids : Ids) : Type 0 where
  pub group_x : ids.group_x < 2 ^ 32
  pub group_y : ids.group_y < 2 ^ 32
  pub group_z : ids.group_z < 2 ^ 32
  pub x : ids.x < 2 ^ 32
  pub y : ids.y < 2 ^ 32
  pub z : ids.z < 2 ^ 32
  pub flat : ids.flat < 2 ^ 32
  pub thread_x : ids.thread_x < 2 ^ 32
  pub thread_y : ids.thread_y < 2 ^ 32
  pub thread_z : ids.thread_z < 2 ^ 32

-- settings hold words alone
pub record HoldsWords (setting : Setting) : Type 0 where
  pub ids : AreIds setting.ids
  pub constants : (slot : ℕ) → AreWords (setting.constants slot)
  pub extent : (room : Room) → setting.extent room < 2 ^ 32
