-- The setting of the examples fits its program under its bindings.
use Rattle.std.proofs.Common.{◌≡◌, ℕ, zero, suc, ◌<◌, ◌^◌, Bool, true, false, ◌||◌, List, [], ◌∷◌, slice_get, Some, refl, subst, arith, nat_eq, ◌&&◌, not, cond, is_none, None, if◌then◌else◌}
use Rattle.std.specs.Bool.{MatchBool}
use Rattle.std.specs.Option.{option_map}
use Rattle.word_base.specs.declared.event.Room.{Room}
use Rattle.word_base.specs.declared.event.Room.TheVariants as room
use Rattle.word_base.specs.Words.{AreWords}
use Rattle.tpf_program.specs.Extents.{IsExtent}
use Rattle.tpf_program.specs.Sizes.{vectors_of}
use Rattle.binding_map.specs.declared.register.Register.TheVariants.{Constant, Uav, Counter}
use Rattle.binding_map.specs.declared.register.Place.TheVariants.{Bound, Push}
use Rattle.binding_map.specs.Bindings.{Binding, binding}
use Rattle.binding_map.specs.Examples.{given, given_map, given_extent, given_setting}
use Rattle.binding_map.specs.Fits.{is_null_in, Fits, HoldsConstants}

no_words : AreWords []
no_words k = omega arith

four_words : AreWords (1 ∷ 2 ∷ 3 ∷ 4 ∷ [])
four_words zero = omega arith
four_words (suc zero) = omega arith
four_words (suc (suc zero)) = omega arith
four_words (suc (suc (suc zero))) = omega arith
four_words (suc (suc (suc (suc k)))) = omega arith

two_words : AreWords (5 ∷ 6 ∷ [])
two_words zero = omega arith
two_words (suc zero) = omega arith
two_words (suc (suc k)) = omega arith

constant_words : (slot : ℕ) → AreWords (given_setting.constants slot)
constant_words slot = by (nat_eq 0 slot) (nat_eq 1 slot)
  where
    by : (a b : Bool) → AreWords (if a then 1 ∷ 2 ∷ 3 ∷ 4 ∷ [] else if b then 5 ∷ 6 ∷ [] else [])
    by true b = four_words
    by false true = two_words
    by false false = no_words

extent_words : (r : Room) → given_extent r < 2 ^ 32
extent_words (room.Resource slot) = omega arith
extent_words (room.Uav slot) = by (nat_eq 1 slot)
  where
    by : (a : Bool) → (if a then 2 else 0) < 2 ^ 32
    by true = omega arith
    by false = omega arith
extent_words (room.Counter slot) = by (nat_eq 0 slot)
  where
    by : (a : Bool) → (if a then 1 else 0) < 2 ^ 32
    by true = omega arith
    by false = omega arith
extent_words (room.Shared slot) = omega arith

abbrev size : Bool → ℕ → ℕ
size a n = if a then n else 0

abbrev buffer : Bool → List ℕ → List ℕ → List ℕ
buffer a words others = if a then words else others

-- no words for a buffer that is not declared
undeclared : (slot : ℕ) → vectors_of slot given.declarations ≡ 0 → given_setting.constants slot ≡ []
undeclared slot h = by (nat_eq 0 slot) (nat_eq 1 slot) h
  where
    by : (a b : Bool) → (if nat_eq (size a 1) 0 then (if nat_eq (size b 2) 0 then 0 else size b 2) else size a 1) ≡ 0
        → buffer a (1 ∷ 2 ∷ 3 ∷ 4 ∷ []) (buffer b (5 ∷ 6 ∷ []) []) ≡ []
    by true b h = absurd cc
    by false true h = absurd cc
    by false false h = refl

turned : (m n : ℕ) → nat_eq m n ≡ nat_eq n m
turned m n = grind arith

abbrev is_null : Bool → Binding → Bool
is_null there entry = is_none (option_map (λ (b : Binding). b.place) (cond there (Some entry) None))

extents : (r : Room) → IsExtent (is_null_in given_map) given r (given_extent r)
extents (room.Resource slot) = refl
extents (room.Uav slot) = by (nat_eq 0 slot) (nat_eq 1 slot) (nat_eq slot 1) (turned 1 slot)
  where
    by : (a b c : Bool) → b ≡ c → MatchBool (not (is_null c (binding (Uav 1) (Bound 0 1))) && (a || (b || false))) (size b 2 < 2 ^ 30) (size b 2 ≡ 0)
    by true true true e = omega arith
    by true true false e = absurd cc
    by true false true e = absurd cc
    by true false false e = refl
    by false true true e = omega arith
    by false true false e = absurd cc
    by false false true e = absurd cc
    by false false false e = refl
extents (room.Counter slot) = by (nat_eq 0 slot) (nat_eq slot 0) (turned 0 slot)
  where
    by : (a b : Bool) → a ≡ b → size a 1 ≡ size (not (is_null b (binding (Counter 0) (Bound 0 2))) && (a || false)) 1
    by true true e = refl
    by true false e = absurd cc
    by false true e = absurd cc
    by false false e = refl
extents (room.Shared slot) = refl

item : (a b : Binding) → Some a ≡ Some b → a ≡ b
item a b h = cc

held : (a : Binding) → HoldsConstants given given_setting a.register a.place → (b : Binding) → Some a ≡ Some b
    → HoldsConstants given given_setting b.register b.place
held a holds b h = subst (λ c. HoldsConstants given given_setting c.register c.place) (item a b h) holds

holds : (k : ℕ) (b : Binding) → slice_get given_map k ≡ Some b → HoldsConstants given given_setting b.register b.place
holds zero b h = held (binding (Constant 0) (Bound 0 0)) (omega arith) b h
holds (suc zero) b h = held (binding (Constant 1) (Push 0 2)) (λ declared. refl) b h
holds (suc (suc zero)) b h = held (binding (Uav 1) (Bound 0 1)) tt b h
holds (suc (suc (suc zero))) b h = held (binding (Counter 0) (Bound 0 2)) tt b h
holds (suc (suc (suc (suc k)))) b h = absurd cc

pub fits : Fits given given_map given_setting
fits = record {
  rooms = record {
    words = record {
      ids = record {
        group_x = omega arith;
        group_y = omega arith;
        group_z = omega arith;
        x = omega arith;
        y = omega arith;
        z = omega arith;
        flat = omega arith;
        thread_x = omega arith;
        thread_y = omega arith;
        thread_z = omega arith;
      };
      constants = constant_words;
      extent = extent_words;
    };
    extents = extents;
  };
  constants = record { bound = holds; undeclared = undeclared };
}
