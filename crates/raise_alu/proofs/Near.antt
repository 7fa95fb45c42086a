-- Where no source may name the register of a vector, none reads a component of it.
use Rattle.std.proofs.Common.{◌≡◌, ℕ, Bool, true, false, ◌&&◌, ◌||◌, List, [], ◌∷◌, refl}
use Rattle.std.specs.Prelude.{nat_eq, nat_lt}
use Rattle.std.specs.List.{list_any}
use Rattle.tpf_decode.specs.declared.meaning.Meaning.{Meaning}
use Rattle.raise_operands.specs.declared.operand.Operand.{Operand}
use Rattle.raise_operands.specs.declared.operand.Operands.{Operands}
use Rattle.raise_operands.specs.Building.{seen, known_target}
use Rattle.raise_operands.specs.Vectors.{Vector, Outside, At, Indexed, same_space, meets}
use Rattle.raise_alu.specs.Computing.{writes_first, writes_second}
use Rattle.raise_alu.specs.Waits.{begun_sources, is_near, is_read, are_read, shares, of_four, first_reads, first_is_read, second_reads, second_is_read}

far : (s e k : Bool) → (s && (e && true)) ≡ false → (s && (e && k)) ≡ false
far true true k h = absurd (cc h)
far true false k h = refl
far false e k h = refl

apart : (s k : Bool) → (s && true) ≡ false → (s && k) ≡ false
apart true k h = absurd (cc h)
apart false k h = refl

away : (x y : Vector) (c d : ℕ) → meets x 0 y 0 ≡ false → meets x c y d ≡ false
away (At space n) (At other m) c d h = far (same_space space other) (nat_eq n m) (nat_eq c d) h
away (At space n) (Indexed other) c d h = apart (same_space space other) (nat_eq c d) h
away (Indexed space) (At other m) c d h = apart (same_space space other) (nat_eq c d) h
away (Indexed space) (Indexed other) c d h = apart (same_space space other) (nat_eq c d) h
away (At space n) Outside c d h = refl
away (Indexed space) Outside c d h = refl
away Outside y c d h = refl

neither : (a b : Bool) → (a || b) ≡ false → (a ≡ false) × (b ≡ false)
neither true b h = absurd (cc h)
neither false b h = (refl, h)

none : (a b : Bool) → a ≡ false → b ≡ false → (a || b) ≡ false
none true b h k = absurd (cc h)
none false b h k = k

unread : (sources : List Operand) (to : Vector) (c d : ℕ) → list_any (is_near to) sources ≡ false → list_any (is_read to c d) sources ≡ false
unread [] to c d h = refl
unread (o ∷ os) to c d h =
    let q = neither (is_near to o) (list_any (is_near to) os) h in
    none (is_read to c d o) (list_any (is_read to c d) os) (away to (seen o.place.vector) c _ q.0) (unread os to c d q.1)

lost : (a b : Bool) → b ≡ false → (a && b) ≡ false
lost true b h = h
lost false b h = refl

four : (f : ℕ → Bool) → ((d : ℕ) → f d ≡ false) → of_four f ≡ false
four f h = none (f 0) (f 1 || (f 2 || f 3)) (h 0) (none (f 1) (f 2 || f 3) (h 1) (none (f 2) (f 3) (h 2) (h 3)))

pub unread_first : (m : Meaning) (os : Operands) (c : ℕ) → shares m os (seen (known_target os.o0)) ≡ false → first_is_read m os c ≡ false
unread_first m os c h =
    four (first_reads m os c)
    (λ d. lost ((nat_lt c d && writes_first m os.instruction d) || writes_second m os.instruction d) (are_read m os (seen (known_target os.o0)) c d)
    (unread (begun_sources m os) (seen (known_target os.o0)) c d h))

pub unread_second : (m : Meaning) (os : Operands) (c : ℕ) → shares m os (seen (known_target os.o1)) ≡ false → second_is_read m os c ≡ false
unread_second m os c h =
    four (second_reads m os c)
    (λ d. lost (nat_lt c d && writes_second m os.instruction d) (are_read m os (seen (known_target os.o1)) c d)
    (unread (begun_sources m os) (seen (known_target os.o1)) c d h))
