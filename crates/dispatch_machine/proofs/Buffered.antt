-- There are dispatches with a constant buffer, at a descriptor and in push constants.
use Rattle.std.proofs.Common.{◌≡◌, ℕ, zero, suc, ◌<◌, ◌^◌, Bool, true, false, List, [], ◌∷◌, Some, refl, subst, arith}
use Rattle.std.specs.Prelude.{nat_eq, if◌then◌else◌, slice_get, slice_index}
use Rattle.word_base.specs.declared.event.Room.{Room}
use Rattle.word_base.specs.declared.event.Room.TheVariants.{Resource, Uav, Counter, Shared}
use Rattle.word_base.specs.Settings.{AreIds, Setting}
use Rattle.word_base.specs.Words.{AreWords}
use Rattle.tpf_program.specs.Declarations.{threads_in}
use Rattle.tpf_program.specs.Extents.{IsExtent}
use Rattle.tpf_program.specs.Sizes.{vectors_of}
use Rattle.binding_map.specs.declared.register.Register.TheVariants.{Constant, Uav as uav}
use Rattle.binding_map.specs.declared.register.Place.{Place}
use Rattle.binding_map.specs.declared.register.Place.TheVariants.{Bound, Push}
use Rattle.binding_map.specs.Bindings.{Binding, binding}
use Rattle.binding_map.specs.Fits.{Fits, HoldsConstants, is_null_in}
use Rattle.dispatch_machine.specs.Dispatch.{IsDispatch, setting_of, ids_of}
use Rattle.dispatch_machine.specs.BufferExamples.{one_buffer, b0_bound, b0_pushed, with_buffer}
use Rattle.dispatch_machine.proofs.Summed.{no_words, words_where, view_words, view_extent, short}

four : (k : ℕ) → slice_index (1 ∷ 2 ∷ 3 ∷ 4 ∷ []) k < 2 ^ 32
four zero = omega arith
four (suc zero) = omega arith
four (suc (suc zero)) = omega arith
four (suc (suc (suc zero))) = omega arith
four (suc (suc (suc (suc k)))) = omega arith

words : (slot : ℕ) → AreWords (with_buffer.constants slot)
words slot = words_where (nat_eq 0 slot) (1 ∷ 2 ∷ 3 ∷ 4 ∷ []) four

ids : (lane : ℕ) → lane < 3 → AreIds (ids_of (threads_in one_buffer.declarations) with_buffer lane)
ids lane h = record {
  group_x = omega arith;
  group_y = omega arith;
  group_z = omega arith;
  x = omega arith;
  y = omega arith;
  z = omega arith;
  flat = omega arith;
  thread_x = omega arith;
  thread_y = omega arith;
  thread_z = omega arith;
}

abbrev setting : ℕ → Setting
setting lane = setting_of (threads_in one_buffer.declarations) with_buffer lane

extent_word : (lane : ℕ) (room : Room) → (setting lane).extent room < 2 ^ 32
extent_word lane (Resource slot) = omega arith
extent_word lane (Uav slot) = short (nat_eq 0 slot) (0 ∷ 0 ∷ []) (omega arith)
extent_word lane (Counter slot) = omega arith
extent_word lane (Shared slot) = omega arith

abbrev vectors : Bool → ℕ
vectors b = if nat_eq (if b then 1 else 0) 0 then 0 else (if b then 1 else 0)

abbrev held : Bool → List ℕ
held b = if b then 1 ∷ 2 ∷ 3 ∷ 4 ∷ [] else []

none_by : (b : Bool) → vectors b ≡ 0 → held b ≡ []
none_by true h = absurd (cc)
none_by false h = refl

undeclared : (slot : ℕ) → vectors_of slot one_buffer.declarations ≡ 0 → with_buffer.constants slot ≡ []
undeclared slot h = none_by (nat_eq 0 slot) h

-- b0 at that place, and u0 at that binding
module _ (place : Place) (n : ℕ) (holds : (lane : ℕ) → HoldsConstants one_buffer (setting lane) (Constant 0) place) where
  abbrev bindings : List Binding
  bindings = binding (Constant 0) place ∷ binding (uav 0) (Bound 0 n) ∷ []

  extent : (lane : ℕ) (room : Room) → IsExtent (is_null_in bindings) one_buffer room ((setting lane).extent room)
  extent lane (Resource slot) = refl
  extent lane (Uav slot) = view_extent slot (Bound 0 n)
  extent lane (Counter slot) = refl
  extent lane (Shared slot) = refl

  is_bound : (lane k : ℕ) (b : Binding) → slice_get bindings k ≡ Some b → HoldsConstants one_buffer (setting lane) b.register b.place
  is_bound lane zero b h =
      let e : binding (Constant 0) place ≡ b = cc in subst (λ c. HoldsConstants one_buffer (setting lane) c.register c.place) e (holds lane)
  is_bound lane (suc zero) b h =
      let e : binding (uav 0) (Bound 0 n) ≡ b = cc in subst (λ c. HoldsConstants one_buffer (setting lane) c.register c.place) e tt
  is_bound lane (suc (suc k)) b h = absurd (cc)

  is_dispatch : IsDispatch (threads_in one_buffer.declarations) (Fits one_buffer bindings) with_buffer
  is_dispatch = record {
    x = (omega arith, omega arith);
    y = (omega arith, omega arith);
    z = (omega arith, omega arith);
    views = view_words;
    shared = λ group slot. no_words;
    settings = λ lane h. record {
      rooms = record { words = record { ids = ids lane h; constants = words; extent = extent_word lane }; extents = extent lane };
      constants = record { bound = is_bound lane; undeclared = undeclared };
    };
  }

pub at_descriptor : IsDispatch (threads_in one_buffer.declarations) (Fits one_buffer b0_bound) with_buffer
at_descriptor = is_dispatch (Bound 0 0) 1 (λ lane. omega arith)

pub in_push_words : IsDispatch (threads_in one_buffer.declarations) (Fits one_buffer b0_pushed) with_buffer
in_push_words = is_dispatch (Push 0 4) 0 (λ lane declared. refl)
