-- The operands of a spelled program name words and select in range.
use Rattle.std.proofs.Common.{◌≡◌, ℕ, zero, suc, ◌+◌, ◌<◌, ◌^◌, List, [], ◌∷◌, ◌++◌, length, take, drop, Some, Bool, true, false, nat_eq, sym, ap, ◌∙◌, subst, arith}
use Rattle.std.specs.Prelude.{slice_index, slice_get, if◌then◌else◌}
use Rattle.word_base.specs.Words.{AreWords, field_of}
use Rattle.tpf_decode.specs.declared.argument.Argument.{Argument}
use Rattle.tpf_decode.specs.declared.argument.Kind.{Kind}
use Rattle.tpf_decode.specs.declared.argument.Kind.TheVariants as kind
use Rattle.tpf_decode.specs.declared.argument.Select.{Select}
use Rattle.tpf_decode.specs.declared.argument.Select.TheVariants.{Bare, Mask, Swizzle, One}
use Rattle.tpf_decode.specs.declared.argument.Role.{Role}
use Rattle.tpf_decode.specs.Profiles.{Base}
use Rattle.tpf_decode.specs.Tokens.{count_of, mode_of, select_of, selection_by, Fixed, Literal, Slot, Nothing, fixed_of}
use Rattle.tpf_decode.specs.Declarations.{roles_at}
use Rattle.tpf_decode.specs.Spelling.{SpellsFixed, SpellsOperand, SpellsOperands}
use Rattle.tpf_program.specs.declared.instruction.Instruction.{Instruction}
use Rattle.tpf_program.specs.Program.{Shader}
use Rattle.tpf_program.specs.Holding.{IsOfWords, SelectsInRange, IsWellSpelled}
use Rattle.tpf_program.specs.Spelling.{nothing, nothings, operands, arguments, SpellsInstruction, Item, Declares, Types, Does, Lists, Skips, SpellsItems, Spells, instructions_in}

-- each number of a list is a word
AllWords : List ℕ → Type 0
AllWords [] = Unit {0}
AllWords (w ∷ words) = (w < 2 ^ 32) × AllWords words

all_words : (words : List ℕ) → AreWords words → AllWords words
unfolding AllWords
all_words [] h = tt
all_words (w ∷ words) h = (h 0, all_words words (λ k. shifted k))
  where
    shifted : (k : ℕ) → slice_index words k < 2 ^ 32
    shifted k = h (suc k)

words_left : (xs ys : List ℕ) → AllWords (xs ++ ys) → AllWords xs
unfolding AllWords
words_left [] ys h = tt
words_left (x ∷ xs) ys h = (h.0, words_left xs ys h.1)

words_right : (xs ys : List ℕ) → AllWords (xs ++ ys) → AllWords ys
unfolding AllWords
words_right [] ys h = h
words_right (x ∷ xs) ys h = words_right xs ys h.1

-- what an operand has
record IsGood (a : Argument) : Type 0 where
  words : IsOfWords a
  selects : SelectsInRange a.select

AllGood : List Argument → Type 0
AllGood [] = Unit {0}
AllGood (a ∷ arguments) = IsGood a × AllGood arguments

field_below : (token : ℕ) → (field_of token 7 4 < 16) × (field_of token 11 4 < 256) × (field_of token 5 4 < 4)
field_below token = (omega arith, omega arith, omega arith)

selection_good : (mode token : ℕ) → SelectsInRange (selection_by mode token)
selection_good mode token = by_tests (nat_eq mode 0) (nat_eq mode 1)
  where
    by_tests : (a b : Bool) → SelectsInRange (if a then Mask (field_of token 7 4) else if b then Swizzle (field_of token 11 4) else One (field_of token 5 4))
    by_tests true b = (field_below token).0
    by_tests false true = (field_below token).1
    by_tests false false = (field_below token).2

four_good : (b : Bool) (s : Select) → SelectsInRange s → SelectsInRange (if b then s else Bare)
four_good true s h = h
four_good false s h = tt

select_good : (k : Kind) (token : ℕ) → SelectsInRange (select_of k token)
select_good kind.Immediate token = four_good (nat_eq (count_of token) 2) (Swizzle 228) (omega arith)
select_good k token = four_good (nat_eq (count_of token) 2) (selection_by (mode_of token) token) (selection_good (mode_of token) token)

fixed_good : (fixed : Fixed) (slot x y z w : ℕ) (words : List ℕ) → SpellsFixed fixed slot x y z w words → AllWords words → (x < 2 ^ 32) × (y < 2 ^ 32) × (z < 2 ^ 32) × (w < 2 ^ 32)
unfolding AllWords
fixed_good (Literal true) slot x y z w words s h = let a = subst AllWords s.1 h in (a.0, a.1.0, a.1.1.0, a.1.1.1.0)
fixed_good (Literal false) slot x y z w words s h = let a = subst AllWords s.1.0 h in (a.0, omega (arith, a.0, s.1.1), omega (arith, a.0, s.1.2), omega (arith, a.0, s.1.3))
fixed_good Slot slot x y z w words s h = (omega (arith, s.1.x_is), omega (arith, s.1.y_is), omega (arith, s.1.z_is), omega (arith, s.1.w_is))
fixed_good Nothing slot x y z w words s h = (omega (arith, s.2.x_is), omega (arith, s.2.y_is), omega (arith, s.2.z_is), omega (arith, s.2.w_is))

operand_good : (code : ℕ) (role : Role) (a : Argument) (words : List ℕ) → SpellsOperand Base code role a words → AllWords words → IsGood a
unfolding AllWords
operand_good code role a words s h =
    let b = words_right s.extended s.behind (subst AllWords s.parts h).1 in
    let f = words_left s.rest.fixed s.rest.element (subst AllWords s.rest.parts b) in
    let w = fixed_good (fixed_of a.kind s.token) a.slot a.x a.y a.z a.w s.rest.fixed s.rest.fixed_is f in
    record {
      words = record { x = w.0; y = w.1; z = w.2; w = w.3 };
      selects = subst SelectsInRange (sym s.head.select) (select_good a.kind s.token);
    }

operands_good : (code : ℕ) (roles : List Role) (arguments : List Argument) (words : List ℕ) → SpellsOperands Base code roles arguments words → AllWords words → AllGood arguments
unfolding AllGood
operands_good code [] [] words s h = tt
operands_good code [] (a ∷ arguments) words s h = absurd s
operands_good code (role ∷ roles) [] words s h = absurd s
operands_good code (role ∷ roles) (a ∷ arguments) words s h =
    let w = subst AllWords s.2 h in
    (operand_good code role a s.0 s.3 (words_left s.0 s.1 w), operands_good code roles arguments s.1 s.4 (words_right s.0 s.1 w))

nothing_good : IsGood nothing
nothing_good = record { words = record { x = omega arith; y = omega arith; z = omega arith; w = omega arith }; selects = tt }

nothings_good : (n : ℕ) (list : List Argument) → AllGood list → AllGood (drop n list)
unfolding AllGood
nothings_good zero list h = h
nothings_good (suc n) [] h = tt
nothings_good (suc n) (a ∷ list) h = nothings_good n list h.1

five_good : AllGood nothings
unfolding AllGood
five_good = (nothing_good, (nothing_good, (nothing_good, (nothing_good, (nothing_good, tt)))))

joined_good : (n : ℕ) (list : List Argument) → AllGood (take n list) → AllGood (drop n list) → AllGood list
unfolding AllGood
joined_good zero list h k = k
joined_good (suc n) [] h k = tt
joined_good (suc n) (a ∷ list) h k = (h.0, joined_good n list h.1 k)

well_spelled : (i : Instruction) → AllGood (operands i) → IsWellSpelled i
unfolding AllGood
well_spelled i h = record {
  words = record { o0 = h.0.words; o1 = h.1.0.words; o2 = h.1.1.0.words; o3 = h.1.1.1.0.words; o4 = h.1.1.1.1.0.words };
  o0 = h.0.selects;
  o1 = h.1.0.selects;
  o2 = h.1.1.0.selects;
  o3 = h.1.1.1.0.selects;
  o4 = h.1.1.1.1.0.selects;
}

instruction_good : (i : Instruction) (words : List ℕ) → SpellsInstruction Base i words → AllWords words → IsWellSpelled i
instruction_good i words s h =
    let w = words_left s.spelled.operands [] (words_right s.spelled.head (s.spelled.operands ++ []) (subst AllWords s.spelled.parts h)) in
    let a = operands_good i.code (roles_at Base i.code) (arguments i) s.spelled.operands s.spelled.roles w in
    well_spelled i (joined_good i.count (operands i) a (subst AllGood (sym s.others) (nothings_good i.count nothings five_good)))

items_good : (at : ℕ) (items : List Item) (words : List ℕ) → SpellsItems Base at items words → AllWords words → (k : ℕ) (i : Instruction) → slice_get (instructions_in items) k ≡ Some i → IsWellSpelled i
items_good at [] words s h k i e = cc
items_good at (Declares d ∷ xs) words s h k i e =
    items_good (at + length s.0) xs s.1 s.4 (words_right s.0 s.1 (subst AllWords s.2 h)) k i e
items_good at (Types d view ∷ xs) words s h k i e =
    items_good (at + length s.0) xs s.1 s.4 (words_right s.0 s.1 (subst AllWords s.2 h)) k i e
items_good at (Lists place values ∷ xs) words s h k i e =
    items_good (at + length s.0) xs s.1 s.4 (words_right s.0 s.1 (subst AllWords s.2 h)) k i e
items_good at (Skips kind values ∷ xs) words s h k i e =
    items_good (at + length s.0) xs s.1 s.4 (words_right s.0 s.1 (subst AllWords s.2 h)) k i e
items_good at (Does j ∷ xs) words s h zero i e =
    let n : j ≡ i = cc in
    subst IsWellSpelled n (instruction_good j s.0 s.3.1 (words_left s.0 s.1 (subst AllWords s.2 h)))
items_good at (Does j ∷ xs) words s h (suc k) i e =
    items_good (at + length s.0) xs s.1 s.4 (words_right s.0 s.1 (subst AllWords s.2 h)) k i e

pub program_good : (p : Shader) (tokens : List ℕ) → AreWords tokens → Spells Base p tokens → (k : ℕ) (i : Instruction) → slice_get p.instructions k ≡ Some i → IsWellSpelled i
unfolding AllWords
program_good p tokens h s k i e =
    let w = words_left s.body s.ignored ((subst AllWords s.whole (all_words tokens h)).1.1) in
    items_good 2 s.items s.body s.parts w k i (ap (λ l. slice_get l k) (sym s.instructions) ∙ e)
