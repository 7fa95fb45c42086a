-- An instruction of the base profile that goes on to the next computes, or it reads a length, makes an event or
-- synchronises; one that computes makes no event.
use Rattle.std.proofs.Common.{◌≡◌, ℕ, Bool, true, false, ◌⊎◌, inl, inr, ⊎_elim, List, [], ◌∷◌, Option, Some, None, refl, subst, sym}
use Rattle.std.specs.Prelude.{nat_eq, if◌then◌else◌, ◌&&◌, ◌||◌}
use Rattle.word_base.specs.declared.event.Room.{Room}
use Rattle.tpf_decode.specs.Profiles.{Base, includes}
use Rattle.tpf_decode.specs.Opcodes.{Opcode, meaning_in, meaning_of, opcode_table}
use Rattle.tpf_decode.specs.declared.meaning.Meaning.{Meaning}
use Rattle.tpf_decode.specs.declared.meaning.Meaning.TheVariants as meaning
use Rattle.tpf_program.specs.declared.instruction.Instruction.{Instruction}
use Rattle.tpf_program.specs.Bytecode.{plan_by}
use Rattle.tpf_program.specs.Program.{Shader}
use Rattle.tpf_program.specs.Values.{Context}
use Rattle.shader_tree.specs.Terms.{Term}
use Rattle.raise_operands.specs.Raises.{is_computed}
use Rattle.raise_operands.specs.Raising as computing
use Rattle.raise_views.specs.Guarding as guarding
use Rattle.raise_views.specs.Guarding.{is_guarded}
use Rattle.raise_program.specs.Parts.{plain_of}
use Rattle.raise_program.specs.Raised.{goes_on}
use Rattle.raise_program.proofs.Unmarked.{split}

abbrev is_raised : Option Meaning → Bool
is_raised m = if goes_on m then is_guarded m || is_computed m else true

abbrev is_known : Opcode → Bool
is_known row = if includes Base row.since then is_raised (Some row.meaning) else true

abbrev are_known : List Opcode → Bool
are_known [] = true
are_known (row ∷ rows) = is_known row && are_known rows

by_row : (here same : Bool) (m : Meaning) (rest : Option Meaning) → (if here then is_raised (Some m) else true) ≡ true → is_raised rest ≡ true
    → is_raised (if here && same then Some m else rest) ≡ true
by_row true true m rest h k = h
by_row true false m rest h k = k
by_row false same m rest h k = k

in_rows : (code : ℕ) (rows : List Opcode) → are_known rows ≡ true → is_raised (meaning_in Base code rows) ≡ true
in_rows code [] h = refl
in_rows code (row ∷ rows) h =
    let s = split (is_known row) (are_known rows) h in
    by_row (includes Base row.since) (nat_eq row.code code) row.meaning (meaning_in Base code rows) s.0 (in_rows code rows s.1)

all_known : are_known opcode_table ≡ true
unfolding opcode_table
all_known = refl

known : (code : ℕ) → is_raised (meaning_of Base code) ≡ true
unfolding meaning_of
known code = in_rows code opcode_table all_known

either : (m : Option Meaning) (b : Bool) → is_guarded m ≡ b → is_raised m ≡ true → goes_on m ≡ true
    → (is_guarded m ≡ true) ⊎ ((is_guarded m ≡ false) × (is_computed m ≡ true))
either m true e h g = inl e
either m false e h g =
    let k : (is_guarded m || is_computed m) ≡ true = subst (λ b. (if b then is_guarded m || is_computed m else true) ≡ true) g h in
    let l : is_computed m ≡ true = subst (λ b. (b || is_computed m) ≡ true) e k in
    inr (e, l)

pub guarded_or_computed : (code : ℕ) → goes_on (meaning_of Base code) ≡ true
    → (is_guarded (meaning_of Base code) ≡ true) ⊎ ((is_guarded (meaning_of Base code) ≡ false) × (is_computed (meaning_of Base code) ≡ true))
guarded_or_computed code g = either (meaning_of Base code) (is_guarded (meaning_of Base code)) refl (known code) g

pub none_planned : (k : Context) (m : Option Meaning) (i : Instruction) → is_computed m ≡ true → plan_by k m i ≡ []
none_planned k None i h = refl
none_planned k (Some (meaning.One op)) i h = refl
none_planned k (Some (meaning.Two op)) i h = refl
none_planned k (Some (meaning.Three op)) i h = refl
none_planned k (Some meaning.Inserts) i h = refl
none_planned k (Some (meaning.Pair op)) i h = refl
none_planned k (Some meaning.Swaps) i h = refl
none_planned k (Some meaning.Nop) i h = refl
none_planned k (Some m) i h = absurd (cc)

-- the statement of an instruction that goes on, by its kind
pub by_kind : (is_null : Room → Bool) (p : Shader) (P : Term → Type 0) (i : Instruction) → goes_on (meaning_of Base i.code) ≡ true
    → (is_guarded (meaning_of Base i.code) ≡ true → P (guarding.statement_of is_null p i))
    → (is_computed (meaning_of Base i.code) ≡ true → P (computing.statement_of p i)) → P (plain_of is_null p i)
by_kind is_null p P i g f h = ⊎_elim
    (λ e. subst (λ b. P (if b then guarding.statement_of is_null p i else computing.statement_of p i)) (sym e) (f e))
    (λ e. subst (λ b. P (if b then guarding.statement_of is_null p i else computing.statement_of p i)) (sym e.0) (h e.1))
    (guarded_or_computed i.code g)
