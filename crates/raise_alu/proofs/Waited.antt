-- A vector that is outside is read by none, so nothing of it waits.
use Rattle.std.proofs.Common.{◌≡◌, ℕ, Bool, true, false, List, [], ◌∷◌, refl}
use Rattle.std.specs.Prelude.{◌&&◌, ◌||◌}
use Rattle.std.specs.List.{list_any}
use Rattle.tpf_decode.specs.declared.meaning.Meaning.{Meaning}
use Rattle.raise_operands.specs.declared.operand.Operand.{Operand}
use Rattle.raise_operands.specs.declared.operand.Operands.{Operands}
use Rattle.raise_alu.specs.Waits.{is_read, are_read, begun_sources, of_four, first_reads, first_is_read, second_reads, second_is_read, second_is_late}
use Rattle.raise_operands.specs.Building.{seen, known_target}
use Rattle.raise_operands.specs.Vectors.{Vector, Outside, meets}
use Rattle.raise_operands.specs.Vectors as Vectors

none_read : (c d : ℕ) (os : List Operand) → list_any (is_read Outside c d) os ≡ false
none_read c d [] = refl
none_read c d (o ∷ os) = none_read c d os

never : (a b : Bool) → b ≡ false → (a && b) ≡ false
never true b e = e
never false b e = refl

none_of_four : (f : ℕ → Bool) → ((d : ℕ) → f d ≡ false) → of_four f ≡ false
none_of_four f h = rw (h 0, h 1, h 2, h 3) refl

read_outside : (m : Meaning) (os : Operands) (to : Vector) (c d : ℕ) → to ≡ Outside → are_read m os to c d ≡ false
read_outside m os to c d e = rw e (none_read c d (begun_sources m os))

pub first_outside : (m : Meaning) (os : Operands) (c : ℕ) → seen (known_target os.o0) ≡ Outside → first_is_read m os c ≡ false
first_outside m os c e = none_of_four (first_reads m os c) (λ d. never _ _ (read_outside m os _ c d e))

second_read_outside : (m : Meaning) (os : Operands) (c : ℕ) → seen (known_target os.o1) ≡ Outside → second_is_read m os c ≡ false
second_read_outside m os c e = none_of_four (second_reads m os c) (λ d. never _ _ (read_outside m os _ c d e))

no_meeting : (one other : Vector) (c d : ℕ) → other ≡ Outside → meets one c other d ≡ false
no_meeting Outside other c d e = refl
no_meeting (Vectors.At space n) other c d e = rw e refl
no_meeting (Vectors.Indexed space) other c d e = rw e refl

neither : (a b : Bool) → a ≡ false → b ≡ false → (a || b) ≡ false
neither a b h k = rw (h, k) refl

pub second_outside : (m : Meaning) (os : Operands) (c : ℕ) → seen (known_target os.o1) ≡ Outside → second_is_late m os c ≡ false
second_outside m os c e =
    neither _ _ (second_read_outside m os c e) (never _ _ (never _ _ (no_meeting (seen (known_target os.o0)) _ c c e)))
