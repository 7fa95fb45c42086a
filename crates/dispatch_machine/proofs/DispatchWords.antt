-- What the lanes of a dispatch share holds words, and keeps holding them by events of words.
use Rattle.std.proofs.Common.{ℕ, zero, suc, ◌<◌, ◌^◌, Bool, true, false, List, [], ◌∷◌, arith}
use Rattle.std.specs.Prelude.{nat_eq, ◌&&◌, if◌then◌else◌, slice_set}
use Rattle.word_base.specs.declared.event.Event.{Event}
use Rattle.word_base.specs.declared.event.Event.TheVariants.{Load, Store, Atomic, Fence, Barrier}
use Rattle.word_base.specs.declared.event.Room.{Room}
use Rattle.word_base.specs.declared.event.Room.TheVariants.{Resource, Uav, Counter, Shared}
use Rattle.word_base.specs.Words.{AreWords}
use Rattle.word_base.specs.Settings.{Axes}
use Rattle.tpf_program.specs.Holding.{IsEventOfWords}
use Rattle.dispatch_machine.specs.Dispatch.{Memory, room_words, answer_of, same_room, with_views, with_room, memory_after, group_of_lane, shared_machine}
use Rattle.dispatch_machine.proofs.WordLaws.{ActsOnWords}
use Rattle.dispatch_machine.proofs.SameValues.{Keeps}

pub record HoldsWords (m : Memory) : Type 0 where
  pub views : (room : Room) → AreWords (m.views room)
  pub shared : (group slot : ℕ) → AreWords (m.shared group slot)

either : (b : Bool) (x y : List ℕ) → AreWords x → AreWords y → AreWords (if b then x else y)
either true x y h k = h
either false x y h k = k

set_words : (words : List ℕ) (place value : ℕ) → AreWords words → value < 2 ^ 32 → AreWords (slice_set words place value)
set_words [] place value h l k = h k
set_words (x ∷ words) zero value h l zero = l
set_words (x ∷ words) zero value h l (suc k) = h (suc k)
set_words (x ∷ words) (suc place) value h l zero = h zero
set_words (x ∷ words) (suc place) value h l (suc k) = set_words words place value (λ n. h (suc n)) l k

room_holds : (m : Memory) (group : ℕ) (room : Room) → HoldsWords m → AreWords (room_words m group room)
room_holds m group (Resource slot) h = h.views (Resource slot)
room_holds m group (Uav slot) h = h.views (Uav slot)
room_holds m group (Counter slot) h = h.views (Counter slot)
room_holds m group (Shared slot) h = h.shared group slot

views_hold : (m : Memory) (room : Room) (words : List ℕ) → HoldsWords m → AreWords words → HoldsWords (with_views m room words)
views_hold m room words h k = record { views = λ r. either (same_room r room) words (m.views r) k (h.views r); shared = h.shared }

with_room_holds : (m : Memory) (group : ℕ) (room : Room) (words : List ℕ) → HoldsWords m → AreWords words → HoldsWords (with_room m group room words)
with_room_holds m group (Resource slot) words h k = views_hold m (Resource slot) words h k
with_room_holds m group (Uav slot) words h k = views_hold m (Uav slot) words h k
with_room_holds m group (Counter slot) words h k = views_hold m (Counter slot) words h k
with_room_holds m group (Shared slot) words h k =
    record { views = h.views; shared = λ g s. either (nat_eq g group && nat_eq s slot) words (m.shared g s) k (h.shared g s) }

memory_holds : ActsOnWords → (m : Memory) (group : ℕ) (e : Event) → HoldsWords m → IsEventOfWords e → HoldsWords (memory_after m group e)
memory_holds acts m group (Load room word) h k = h
memory_holds acts m group (Store room word value) h k = with_room_holds m group room _ h (set_words _ word value (room_holds m group room h) k.1)
memory_holds acts m group (Atomic room word kind a b) h k =
    with_room_holds m group room _ h
    (set_words _ word _ (room_holds m group room h) (acts kind _ a b (room_holds m group room h word) k.1 k.2))
memory_holds acts m group (Fence scope classes) h k = h
memory_holds acts m group (Barrier scope classes) h k = h

answer_word : (m : Memory) (group : ℕ) (e : Event) → HoldsWords m → answer_of m group e < 2 ^ 32
answer_word m group (Load room word) h = room_holds m group room h word
answer_word m group (Store room word value) h = omega arith
answer_word m group (Atomic room word kind a b) h = room_holds m group room h word
answer_word m group (Fence scope classes) h = omega arith
answer_word m group (Barrier scope classes) h = omega arith

pub keeps_words : ActsOnWords → (t : Axes) → Keeps (shared_machine t) (λ c. HoldsWords c.memory) IsEventOfWords
keeps_words acts t = record {
  answer = λ c lane e h. answer_word c.memory (group_of_lane t lane) e h;
  happens = λ c lane e h k. memory_holds acts c.memory (group_of_lane t lane) e h k;
  ended = λ c lane h. h;
}
