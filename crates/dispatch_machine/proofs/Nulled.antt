-- There is a dispatch with a null view, whose counter is bound, a constant buffer at a descriptor, and root constants.
use Rattle.std.proofs.Common.{◌≡◌, ℕ, zero, suc, ◌<◌, ◌^◌, Bool, true, false, [], ◌∷◌, length, refl, subst, arith}
use Rattle.std.specs.Prelude.{nat_eq, if◌then◌else◌, slice_index}
use Rattle.word_base.specs.declared.event.Room.{Room}
use Rattle.word_base.specs.declared.event.Room.TheVariants as room
use Rattle.word_base.specs.Settings.{Setting, AreIds}
use Rattle.word_base.specs.Words.{AreWords}
use Rattle.tpf_program.specs.Declarations.{threads_in}
use Rattle.tpf_program.specs.Extents.{IsExtent}
use Rattle.binding_map.specs.Examples.{given, given_map, given_extent, given_setting}
use Rattle.binding_map.specs.Fits.{Fits, is_null_in}
use Rattle.dispatch_machine.specs.Dispatch.{IsDispatch, setting_of, ids_of}
use Rattle.dispatch_machine.specs.NullExamples.{given_views, with_null}
use Rattle.dispatch_machine.proofs.Summed.{no_words, words_where}

abbrev setting : ℕ → Setting
setting lane = setting_of (threads_in given.declarations) with_null lane

-- the lengths of its rooms are those of the setting of the example
same : (lane : ℕ) (r : Room) → given_extent r ≡ (setting lane).extent r
same lane (room.Resource slot) = refl
same lane (room.Uav slot) = by (nat_eq 1 slot)
  where
    by : (b : Bool) → (if b then 2 else 0) ≡ length {A = ℕ} (if b then 0 ∷ 0 ∷ [] else [])
    by true = refl
    by false = refl
same lane (room.Counter slot) = by (nat_eq 0 slot)
  where
    by : (b : Bool) → (if b then 1 else 0) ≡ length {A = ℕ} (if b then 7 ∷ [] else [])
    by true = refl
    by false = refl
same lane (room.Shared slot) = refl

ids : (lane : ℕ) → lane < 1 → AreIds (ids_of (threads_in given.declarations) with_null lane)
ids lane h = record {
  group_x = omega arith;
  group_y = omega arith;
  group_z = omega arith;
  x = omega arith;
  y = omega arith;
  z = omega arith;
  flat = omega arith;
  thread_x = omega arith;
  thread_y = omega arith;
  thread_z = omega arith;
}

settings : Fits given given_map given_setting → (lane : ℕ) → lane < 1 → Fits given given_map (setting lane)
settings f lane h = record {
  rooms = record {
    words = record {
      ids = ids lane h;
      constants = f.rooms.words.constants;
      extent = λ r. subst (λ n. n < 2 ^ 32) (same lane r) (f.rooms.words.extent r);
    };
    extents = λ r. subst (λ n. IsExtent (is_null_in given_map) given r n) (same lane r) (f.rooms.extents r);
  };
  constants = record { bound = f.constants.bound; undeclared = f.constants.undeclared };
}

two : (k : ℕ) → slice_index (0 ∷ 0 ∷ []) k < 2 ^ 32
two zero = omega arith
two (suc zero) = omega arith
two (suc (suc k)) = omega arith

one : (k : ℕ) → slice_index (7 ∷ []) k < 2 ^ 32
one zero = omega arith
one (suc k) = omega arith

views : (r : Room) → AreWords (given_views r)
views (room.Resource slot) = no_words
views (room.Uav slot) = words_where (nat_eq 1 slot) (0 ∷ 0 ∷ []) two
views (room.Counter slot) = words_where (nat_eq 0 slot) (7 ∷ []) one
views (room.Shared slot) = no_words

pub is_dispatch : Fits given given_map given_setting → IsDispatch (threads_in given.declarations) (Fits given given_map) with_null
is_dispatch f = record {
  x = (omega arith, omega arith);
  y = (omega arith, omega arith);
  z = (omega arith, omega arith);
  views = views;
  shared = λ group slot. no_words;
  settings = settings f;
}
