-- What a setting that fits gives: null rooms have no words, counters that are there have one, and shared memory has the
-- words that are declared. An instruction that steps a counter is one by its opcode.
use Rattle.std.proofs.Common.{◌≡◌, ℕ, zero, suc, ◌≤◌, Bool, true, false, List, [], ◌∷◌, Some, refl, sym, ap, subst, ◌∙◌, ◌⊎◌, inl, inr, arith}
use Rattle.std.specs.Prelude.{nat_eq, not, if◌then◌else◌, ◌&&◌, ◌||◌, slice_get}
use Rattle.std.specs.Bool.{MatchBool}
use Rattle.std.specs.List.{list_any}
use Rattle.std.proofs.lemmas.Bool.{and_parts, eq-eqb, eqb-true, false≢true}
use Rattle.word_base.specs.declared.event.Room.{Room}
use Rattle.word_base.specs.declared.event.Room.TheVariants as room
use Rattle.word_base.specs.Settings.{Setting}
use Rattle.tpf_decode.specs.Opcodes.{Opcode, meaning_in, meaning_of, opcode_table}
use Rattle.tpf_decode.specs.Profiles.{Base, includes}
use Rattle.tpf_decode.specs.declared.meaning.Meaning.{Meaning}
use Rattle.tpf_decode.specs.declared.meaning.Meaning.TheVariants.{Allocates, Consumes}
use Rattle.tpf_program.specs.Extents.{FitsRooms, steps_counter}
use Rattle.tpf_program.specs.Program.{Shader}
use Rattle.tpf_program.specs.declared.instruction.Instruction.{Instruction}
use Rattle.raise_views.specs.Guarding.{known_words}

-- THE OPCODES of a meaning
abbrev pub codes_for : (Meaning → Bool) → List Opcode → List ℕ
codes_for test [] = []
codes_for test (row ∷ rows) = if includes Base row.since && test row.meaning then row.code ∷ codes_for test rows else codes_for test rows

abbrev pub In : ℕ → List ℕ → Type 0
In n [] = ⊥
In n (m ∷ ms) = (n ≡ m) ⊎ In n ms

in_more : (b : Bool) (n m : ℕ) (ms : List ℕ) → In n ms → In n (if b then m ∷ ms else ms)
in_more true n m ms h = inr h
in_more false n m ms h = h

in_first : (b : Bool) (n m : ℕ) (ms : List ℕ) → b ≡ true → n ≡ m → In n (if b then m ∷ ms else ms)
in_first true n m ms e h = inl h
in_first false n m ms e h = absurd (false≢true e)

pub code_among : (test : Meaning → Bool) (code : ℕ) (rows : List Opcode) (m : Meaning) → meaning_in Base code rows ≡ Some m → test m ≡ true
    → In code (codes_for test rows)
code_among test code [] m h e = absurd (cc h)
code_among test code (row ∷ rows) m h e = by_row (includes Base row.since && nat_eq row.code code) refl h (λ k. code_among test code rows m k e)
  where
    by_row : (b : Bool) → (includes Base row.since && nat_eq row.code code) ≡ b → (if b then Some row.meaning else meaning_in Base code rows) ≡ Some m
        → (meaning_in Base code rows ≡ Some m → In code (codes_for test rows)) → In code (codes_for test (row ∷ rows))
    by_row true q k f =
        let p = and_parts (includes Base row.since) (nat_eq row.code code) q in
        let same : row.meaning ≡ m = cc k in
        let t : test row.meaning ≡ true = ap test same ∙ e in
        in_first (includes Base row.since && test row.meaning) code row.code (codes_for test rows) (rw (p.0, t) refl)
        (sym (eqb-true row.code code p.1))
    by_row false q k f = in_more (includes Base row.since && test row.meaning) code row.code (codes_for test rows) (f k)

abbrev pub steps : Meaning → Bool
steps Allocates = true
steps Consumes = true
steps other = false

step_codes : codes_for steps opcode_table ≡ 178 ∷ 179 ∷ []
unfolding opcode_table
step_codes = refl

step_code : (code : ℕ) (m : Meaning) → meaning_of Base code ≡ Some m → steps m ≡ true → (nat_eq code 178 || nat_eq code 179) ≡ true
unfolding meaning_of
step_code code m h e = among (subst (In code) step_codes (code_among steps code opcode_table m h e))
  where
    first : (a b : Bool) → a ≡ true → (a || b) ≡ true
    first true b q = refl
    first false b q = absurd (false≢true q)

    second : (a b : Bool) → b ≡ true → (a || b) ≡ true
    second true b q = refl
    second false b q = q

    among : In code (178 ∷ 179 ∷ []) → (nat_eq code 178 || nat_eq code 179) ≡ true
    among (inl q) = first (nat_eq code 178) (nat_eq code 179) (eq-eqb code 178 q)
    among (inr (inl q)) = second (nat_eq code 178) (nat_eq code 179) (eq-eqb code 179 q)
    among (inr (inr q)) = absurd q

pub steps_it : (i : Instruction) (m : Meaning) → meaning_of Base i.code ≡ Some m → steps m ≡ true → steps_counter i.o1.slot i ≡ true
steps_it i m h e = rw (step_code i.code m h e) (eq-eqb i.o1.slot i.o1.slot refl)

-- what one element passes, some of the list does
pub any_at : {X : Type 0} (f : X → Bool) (xs : List X) (n : ℕ) (x : X) → slice_get xs n ≡ Some x → f x ≡ true → list_any f xs ≡ true
any_at f [] n x h e = absurd (cc h)
any_at f (y ∷ ys) zero x h e = let same : y ≡ x = cc h in front (f y) (list_any f ys) (ap f same ∙ e)
  where
    front : (a b : Bool) → a ≡ true → (a || b) ≡ true
    front true b q = refl
    front false b q = absurd (false≢true q)
any_at f (y ∷ ys) (suc n) x h e = rest (f y) (list_any f ys) (any_at f ys n x h e)
  where
    rest : (a b : Bool) → b ≡ true → (a || b) ≡ true
    rest true b q = refl
    rest false b q = q

-- THE EXTENTS
no_words : (b c : Bool) (P Q : Type 0) → b ≡ true → MatchBool (not b && c) P Q → Q
no_words true c P Q e h = h
no_words false c P Q e h = absurd (false≢true e)

no_word : (b c : Bool) (n : ℕ) → b ≡ true → n ≡ (if not b && c then 1 else 0) → n ≡ 0
no_word true c n e h = h
no_word false c n e h = absurd (false≢true e)

one_word : (b c : Bool) (n : ℕ) → b ≡ false → c ≡ true → n ≡ (if not b && c then 1 else 0) → n ≡ 1
one_word false true n e f h = h
one_word true c n e f h = absurd (false≢true (sym e))
one_word false false n e f h = absurd (false≢true f)

module _ (is_null : Room → Bool) (shared : (slot : ℕ) → is_null (room.Shared slot) ≡ false) (p : Shader) (s : Setting) (fits : FitsRooms is_null p s)
  where
    pub null_extent : (rm : Room) → is_null rm ≡ true → s.extent rm ≡ 0
    null_extent (room.Resource slot) e = no_words (is_null (room.Resource slot)) _ _ _ e (fits.extents (room.Resource slot))
    null_extent (room.Uav slot) e = no_words (is_null (room.Uav slot)) _ _ _ e (fits.extents (room.Uav slot))
    null_extent (room.Counter slot) e = no_word (is_null (room.Counter slot)) _ _ e (fits.extents (room.Counter slot))
    null_extent (room.Shared slot) e = absurd (false≢true (sym (shared slot) ∙ e))

    pub counter_extent : (slot : ℕ) → is_null (room.Counter slot) ≡ false → list_any (steps_counter slot) p.instructions ≡ true
        → s.extent (room.Counter slot) ≡ 1
    counter_extent slot e h = one_word (is_null (room.Counter slot)) (list_any (steps_counter slot) p.instructions) _ e h
        (fits.extents (room.Counter slot))

    pub known_extent : (rm : Room) → known_words p rm ≤ s.extent rm
    known_extent (room.Resource slot) = omega arith
    known_extent (room.Uav slot) = omega arith
    known_extent (room.Counter slot) = omega arith
    known_extent (room.Shared slot) = let e = fits.extents (room.Shared slot) in omega arith
