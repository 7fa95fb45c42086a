-- Dispatches of a program, the numbers of their lanes, and what their lanes share. (Direct3D 11: Dispatch; Shader Model 5 assembly: the
-- thread ids, sync, the atomic instructions.)
use Rattle.std.specs.Prelude.{ℕ, ◌+◌, ◌*◌, ◌/◌, ◌%◌, ◌<◌, ◌≤◌, nat_eq, if◌then◌else◌, Bool, true, false, ◌&&◌, ◌||◌, List, [], ◌∷◌, ◌++◌, length, slice_index, slice_set}
use Rattle.std.specs.List.{list_all}
use Rattle.word_base.specs.declared.event.Event.{Event}
use Rattle.word_base.specs.declared.event.Event.TheVariants.{Load, Store, Atomic, Barrier}
use Rattle.word_base.specs.declared.event.Ids.{Ids}
use Rattle.word_base.specs.declared.event.Room.{Room}
use Rattle.word_base.specs.declared.event.Room.TheVariants.{Resource, Uav, Counter, Shared}
use Rattle.word_base.specs.Alu.{act}
use Rattle.word_base.specs.Settings.{Axes, axes, Setting}
use Rattle.word_base.specs.Words.{AreWords}
use Rattle.std.specs.List.{range_with_len}
use Rattle.dispatch_machine.specs.Runs.{Machine}

-- Words of rooms: of the shared memory of each group by its number, and of all other rooms once.
pub record Memory : Type 0 where
  pub views : Room → List ℕ
  pub shared : ℕ → ℕ → List ℕ

-- The numbers of groups, the words of constant buffers by slot, and the memory at the start.
pub record Dispatch : Type 0 where
  pub groups : Axes
  pub constants : ℕ → List ℕ
  pub memory : Memory

-- the words of a room for a lane of a group
abbrev pub room_words : Memory → ℕ → Room → List ℕ
room_words m group (Shared slot) = m.shared group slot
room_words m group room = m.views room

-- LANES are numbered group by group. The group's number counts along x, then y, then z, and so does the lane's number in its group.
abbrev pub group_size : Axes → ℕ
group_size t = t.x * t.y * t.z

abbrev pub lanes_of : Axes → Dispatch → ℕ
lanes_of t d = d.groups.x * d.groups.y * d.groups.z * group_size t

abbrev pub group_of_lane : Axes → ℕ → ℕ
group_of_lane t lane = lane / group_size t

abbrev pub flat_of : Axes → ℕ → ℕ
flat_of t lane = lane % group_size t

-- where a number stands that counts along x, then y, then z
abbrev pub standing : Axes → ℕ → Axes
standing a n = axes (n % a.x) (n / a.x % a.y) (n / a.x / a.y)

abbrev pub ids_at : Axes → Axes → Axes → ℕ → Ids
ids_at t group thread flat = record {
  group_x = group.x;
  group_y = group.y;
  group_z = group.z;
  x = thread.x;
  y = thread.y;
  z = thread.z;
  flat = flat;
  thread_x = group.x * t.x + thread.x;
  thread_y = group.y * t.y + thread.y;
  thread_z = group.z * t.z + thread.z;
}

abbrev pub ids_of : Axes → Dispatch → ℕ → Ids
ids_of t d lane = ids_at t (standing d.groups (group_of_lane t lane)) (standing t (flat_of t lane)) (flat_of t lane)

-- what the dispatch gives a lane, where groups have those threads
abbrev pub setting_of : Axes → Dispatch → ℕ → Setting
setting_of t d lane = record {
  ids = ids_of t d lane;
  constants = d.constants;
  extent = λ room. length (room_words d.memory (group_of_lane t lane) room);
}

-- A dispatch for groups of threads: 1 to 65,535 groups along each axis, words in memory, and for each lane a setting that fits, so that
-- rooms and constant buffers have the lengths that are declared or asked for.
pub record IsDispatch (t : Axes) (fits : Setting → Type 0) (d : Dispatch) : Type 0 where
  pub x : (1 ≤ d.groups.x) × (d.groups.x ≤ 65535)
  pub y : (1 ≤ d.groups.y) × (d.groups.y ≤ 65535)
  pub z : (1 ≤ d.groups.z) × (d.groups.z ≤ 65535)
  pub views : (room : Room) → AreWords (d.memory.views room)
  pub shared : (group slot : ℕ) → AreWords (d.memory.shared group slot)
  pub settings : (lane : ℕ) → lane < lanes_of t d → fits (setting_of t d lane)

abbrev pub AreLanes : Axes → Dispatch → List ℕ → Type 0
AreLanes t d [] = Unit {0}
AreLanes t d (lane ∷ picks) = (lane < lanes_of t d) × AreLanes t d picks

-- WHAT LANES SHARE, which is the value of a run: the memory, and for each lane its events with their answers, and whether it waits at a
-- barrier or has ended.
pub record Logged : Type 0 where
  pub event : Event
  pub answer : ℕ

pub record Shares : Type 0 where
  pub memory : Memory
  pub log : ℕ → List Logged
  pub waits : ℕ → Bool
  pub has_ended : ℕ → Bool

abbrev pub at_start : Dispatch → Shares
at_start d = record { memory = d.memory; log = λ lane. []; waits = λ lane. false; has_ended = λ lane. false }

-- a load and an atomic are answered with the word that is there; 0 stands for no answer
abbrev pub answer_of : Memory → ℕ → Event → ℕ
answer_of m group (Load room word) = slice_index (room_words m group room) word
answer_of m group (Atomic room word kind a b) = slice_index (room_words m group room) word
answer_of m group other = 0

abbrev pub same_room : Room → Room → Bool
same_room (Resource a) (Resource b) = nat_eq a b
same_room (Uav a) (Uav b) = nat_eq a b
same_room (Counter a) (Counter b) = nat_eq a b
same_room (Shared a) (Shared b) = nat_eq a b
same_room a b = false

abbrev pub with_views : Memory → Room → List ℕ → Memory
with_views m room words = record { views = λ r. if same_room r room then words else m.views r; shared = m.shared }

abbrev pub with_room : Memory → ℕ → Room → List ℕ → Memory
with_room m group (Shared slot) words = record {
  views = m.views;
  shared = λ g s. if nat_eq g group && nat_eq s slot then words else m.shared g s;
}
with_room m group room words = with_views m room words

abbrev pub with_memory_word : Memory → ℕ → Room → ℕ → ℕ → Memory
with_memory_word m group room word value = with_room m group room (slice_set (room_words m group room) word value)

abbrev pub memory_after : Memory → ℕ → Event → Memory
memory_after m group (Store room word value) = with_memory_word m group room word value
memory_after m group (Atomic room word kind a b) =
    with_memory_word m group room word (act kind (slice_index (room_words m group room) word) a b)
memory_after m group other = m

-- A barrier makes its lane wait; where every lane of the group waits, all of them go on.
abbrev pub is_barrier : Event → Bool
is_barrier (Barrier scope classes) = true
is_barrier other = false

abbrev pub set_at : {X : Type 0} → (ℕ → X) → ℕ → X → ℕ → X
set_at f k x i = if nat_eq i k then x else f i

abbrev pub all_wait : Axes → ℕ → (ℕ → Bool) → Bool
all_wait t group waits = list_all waits (range_with_len (group * group_size t) (group_size t))

abbrev pub released : Axes → ℕ → (ℕ → Bool) → ℕ → Bool
released t group waits lane = if nat_eq (group_of_lane t lane) group then false else waits lane

abbrev pub meeting : Axes → ℕ → (ℕ → Bool) → ℕ → Bool
meeting t group waits = if all_wait t group waits then released t group waits else waits

abbrev pub waits_after : Axes → (ℕ → Bool) → ℕ → Event → ℕ → Bool
waits_after t waits lane e = if is_barrier e then meeting t (group_of_lane t lane) (set_at waits lane true) else waits

abbrev pub shares_after : Axes → Shares → ℕ → Event → Shares
shares_after t c lane e = record {
  memory = memory_after c.memory (group_of_lane t lane) e;
  log = set_at c.log lane (c.log lane ++ record { event = e; answer = answer_of c.memory (group_of_lane t lane) e } ∷ []);
  waits = waits_after t c.waits lane e;
  has_ended = c.has_ended;
}

abbrev pub shared_machine : Axes → Machine Shares
shared_machine t = record {
  is_idle = λ c lane. c.waits lane || c.has_ended lane;
  answer = λ c lane e. answer_of c.memory (group_of_lane t lane) e;
  happens = shares_after t;
  ended = λ c lane. record { memory = c.memory; log = c.log; waits = c.waits; has_ended = set_at c.has_ended lane true };
}
