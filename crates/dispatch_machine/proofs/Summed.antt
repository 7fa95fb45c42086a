-- There is a dispatch of the program that adds in shared memory, and its run has a value.
use Rattle.tpf_decode.specs.Profiles.{Base}
use Rattle.std.proofs.Common.{◌≡◌, ℕ, zero, suc, ◌<◌, ◌≤◌, ◌^◌, Bool, true, false, List, [], ◌∷◌, length, Option, Some, None, refl, subst, arith}
use Rattle.std.specs.Prelude.{nat_eq, if◌then◌else◌, not, cond, is_none, ◌&&◌, ◌||◌, slice_get, slice_index, option_map}
use Rattle.std.specs.Bool.{MatchBool}
use Rattle.word_base.specs.declared.event.Room.{Room}
use Rattle.word_base.specs.declared.event.Room.TheVariants.{Resource, Uav, Counter, Shared}
use Rattle.word_base.specs.Settings.{AreIds}
use Rattle.word_base.specs.Words.{AreWords}
use Rattle.tpf_program.specs.Declarations.{threads_in}
use Rattle.tpf_program.specs.Extents.{IsExtent}
use Rattle.tpf_decode.specs.Opcodes.{meaning_of, opcode_table}
use Rattle.binding_map.specs.declared.register.Register.TheVariants.{Uav as uav}
use Rattle.binding_map.specs.declared.register.Place.{Place}
use Rattle.binding_map.specs.declared.register.Place.TheVariants.{Bound}
use Rattle.binding_map.specs.Bindings.{Binding, binding}
use Rattle.binding_map.specs.Fits.{Fits, HoldsConstants, is_null_in}
use Rattle.dispatch_machine.specs.Dispatch.{IsDispatch, Shares, setting_of, ids_of}
use Rattle.dispatch_machine.specs.RunExamples.{summing, one_group, views, run_of, in_turns}
use Rattle.dispatch_machine.specs.SameRuns.{ProgramRuns}
use Rattle.dispatch_machine.specs.RunExamples.{u0_bound}
use Rattle.dispatch_machine.proofs.Computed.{run_of_program}

-- u0 has a place and two words, and any other view has neither
abbrev is_null : Bool → Place → Bool
is_null there place = is_none (option_map (λ (b : Binding). b.place) (cond there (Some (binding (uav 0) place)) None))

abbrev view_length : Bool → ℕ
view_length b = length {A = ℕ} (if b then 0 ∷ 0 ∷ [] else [])

by_slot : (a b : Bool) (place : Place) → a ≡ b → MatchBool (not (is_null a place) && (b || false)) (view_length b < 2 ^ 30) (view_length b ≡ 0)
by_slot true true place e = omega arith
by_slot true false place e = absurd (cc)
by_slot false true place e = absurd (cc)
by_slot false false place e = refl

pub view_extent : (slot : ℕ) (place : Place)
    → MatchBool (not (is_null (nat_eq slot 0) place) && (nat_eq 0 slot || false)) (view_length (nat_eq 0 slot) < 2 ^ 30) (view_length (nat_eq 0 slot) ≡ 0)
view_extent slot place = by_slot (nat_eq slot 0) (nat_eq 0 slot) place (grind arith)

shared_extent : (b : Bool) → length {A = ℕ} (if b then 0 ∷ [] else []) ≡ (if nat_eq (if b then 1 else 0) 0 then 0 else (if b then 1 else 0))
shared_extent true = refl
shared_extent false = refl

extent : (lane : ℕ) (room : Room) → IsExtent (is_null_in u0_bound) summing room ((setting_of (threads_in summing.declarations) one_group lane).extent room)
extent lane (Resource slot) = refl
extent lane (Uav slot) = view_extent slot (Bound 0 0)
extent lane (Counter slot) = refl
extent lane (Shared slot) = shared_extent (nat_eq 0 slot)

pub short : (b : Bool) (words : List ℕ) → length words ≤ 2 → length {A = ℕ} (if b then words else []) < 2 ^ 32
short true words h = omega arith
short false words h = omega arith

extent_word : (lane : ℕ) (room : Room) → (setting_of (threads_in summing.declarations) one_group lane).extent room < 2 ^ 32
extent_word lane (Resource slot) = omega arith
extent_word lane (Uav slot) = short (nat_eq 0 slot) (0 ∷ 0 ∷ []) (omega arith)
extent_word lane (Counter slot) = omega arith
extent_word lane (Shared slot) = short (nat_eq 0 slot) (0 ∷ []) (omega arith)

ids : (lane : ℕ) → lane < 2 → AreIds (ids_of (threads_in summing.declarations) one_group lane)
ids lane h = record {
  group_x = omega arith;
  group_y = omega arith;
  group_z = omega arith;
  x = omega arith;
  y = omega arith;
  z = omega arith;
  flat = omega arith;
  thread_x = omega arith;
  thread_y = omega arith;
  thread_z = omega arith;
}

pub no_words : AreWords []
no_words k = omega arith

zeros : (k : ℕ) → slice_index (0 ∷ 0 ∷ []) k < 2 ^ 32
zeros zero = omega arith
zeros (suc zero) = omega arith
zeros (suc (suc k)) = omega arith

zero_word : (k : ℕ) → slice_index (0 ∷ []) k < 2 ^ 32
zero_word zero = omega arith
zero_word (suc k) = omega arith

pub words_where : (b : Bool) (words : List ℕ) → AreWords words → AreWords (if b then words else [])
words_where true words h = h
words_where false words h = no_words

pub view_words : (room : Room) → AreWords (views room)
view_words (Resource slot) = no_words
view_words (Uav slot) = words_where (nat_eq 0 slot) (0 ∷ 0 ∷ []) zeros
view_words (Counter slot) = no_words
view_words (Shared slot) = no_words

is_u0 : (k : ℕ) (b : Binding) → slice_get u0_bound k ≡ Some b → HoldsConstants summing (setting_of (threads_in summing.declarations) one_group 0) b.register b.place
is_u0 zero b h =
    let e : record { register = uav 0; place = Bound 0 0 } ≡ b = cc in
    subst (λ c. HoldsConstants summing (setting_of (threads_in summing.declarations) one_group 0) c.register c.place) e tt
is_u0 (suc k) b h = absurd (cc)

fits : (lane : ℕ) → lane < 2 → Fits summing u0_bound (setting_of (threads_in summing.declarations) one_group lane)
fits lane h = record {
  rooms = record {
    words = record { ids = ids lane h; constants = λ slot. no_words; extent = extent_word lane };
    extents = extent lane;
  };
  constants = record { bound = is_u0; undeclared = λ slot e. refl };
}

-- a group of two lanes, with two words in u0 and one in g0
pub is_dispatch : IsDispatch (threads_in summing.declarations) (Fits summing u0_bound) one_group
is_dispatch = record {
  x = (omega arith, omega arith);
  y = (omega arith, omega arith);
  z = (omega arith, omega arith);
  views = view_words;
  shared = λ group slot. words_where (nat_eq 0 slot) (0 ∷ []) zero_word;
  settings = fits;
}

found : (o : Option Shares) → option_map (λ c. c.has_ended 1) o ≡ Some true → (value : Shares) × (o ≡ Some value)
found None h = absurd (cc)
found (Some value) h = (value, refl)

-- the run in turns has a value, in which the second lane has ended
pub has_run : (value : Shares) × ProgramRuns Base summing one_group in_turns value
unfolding meaning_of opcode_table
has_run =
    let v = found (run_of in_turns) refl in (
      v.0,
      run_of_program summing one_group 8 in_turns v.0 v.1,
    )
