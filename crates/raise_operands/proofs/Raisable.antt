-- The instructions of a program that is spelled and breaks no rule can be raised.
use Rattle.std.proofs.Common.{◌≡◌, ℕ, zero, suc, ◌+◌, ◌%◌, ◌<◌, ◌≤◌, ◌^◌, true, false, List, [], ◌∷◌, ◌++◌, length, take, Option, Some, None, refl, sym, ap, subst, ◌∙◌, arith, length-append}
use Rattle.std.specs.Prelude.{slice_get, is_some, option_map, ◌&&◌, not, nat_eq, nat_le}
use Rattle.std.specs.List.{list_any}
use Rattle.std.proofs.lemmas.Bool.{and_parts, eqb-true, false≢true}
use Rattle.word_base.specs.declared.event.Room.{Room}
use Rattle.tpf_decode.specs.Declarations.{is_known, layout_of, declaration_table}
use Rattle.tpf_program.specs.declared.declaration.Declaration.{Declaration}
use Rattle.tpf_program.specs.declared.declaration.Declaration.TheVariants as declaration
use Rattle.tpf_program.specs.declared.declaration.ViewKind.TheVariants as view'
use Rattle.word_base.specs.Words.{AreWords}
use Rattle.tpf_decode.specs.Opcodes.{meaning_of, form_of, form_of_meaning, opcode_table}
use Rattle.tpf_decode.specs.Profiles.{Base}
use Rattle.tpf_decode.specs.Spelling.{is_vectors}
use Rattle.tpf_decode.specs.declared.meaning.Meaning.{Meaning}
use Rattle.tpf_program.specs.Declarations.{declaration_refusals}
use Rattle.tpf_program.specs.Holding.{IsWellSpelled}
use Rattle.tpf_program.specs.Program.{Shader}
use Rattle.tpf_program.specs.Spelling.{Item, Declares, Types, Does, Lists, Skips, SpellsItems, Spells, SpellsInstruction, SpellsTyped, constants_in, instructions_in, operands, typed_in}
use Rattle.tpf_program.specs.Uses.{use_refusals, is_missing, operand_uses}
use Rattle.tpf_program.specs.declared.instruction.Instruction.{Instruction}
use Rattle.shader_tree.specs.Walks.{Each}
use Rattle.raise_operands.specs.Raises.{AreSmall, AddsInRange, IsInProgram, IsRaisable, IsScalar, is_computed}
use Rattle.raise_operands.specs.Vectors.{spaces_of}
use Rattle.raise_operands.proofs.Basics.{each_append}
use Rattle.raise_operands.proofs.Checked.{names, few_declared, few_temps, few_elements, few_vectors}
use Rattle.raise_operands.proofs.Lengths.{each_operand, count_is, is_long, in_range, types_taken}

-- WORDS, one by one
abbrev pub Below : List ℕ → Type 0
Below ws = Each (λ w. w < 2 ^ 32) ws

pub below : (ws : List ℕ) → AreWords ws → Below ws
below [] h = tt
below (w ∷ ws) h = (h 0, below ws (λ n. h (suc n)))

are_words : (ws : List ℕ) → Below ws → AreWords ws
are_words [] h n = omega arith
are_words (w ∷ ws) h zero = h.0
are_words (w ∷ ws) h (suc n) = are_words ws h.1 n

pub below_left : (xs ys : List ℕ) → Below (xs ++ ys) → Below xs
below_left [] ys h = tt
below_left (x ∷ xs) ys h = (h.0, below_left xs ys h.1)

pub below_right : (xs ys : List ℕ) → Below (xs ++ ys) → Below ys
below_right [] ys h = h
below_right (x ∷ xs) ys h = below_right xs ys h.1

-- IMMEDIATE CONSTANTS are whole vectors of words
record Listed (values words : List ℕ) : Type 0 where
  whole : length values % 4 ≡ 0
  few : length values ≤ length words
  below' : Below values

whole_of : (n : ℕ) → is_vectors n ≡ true → n % 4 ≡ 0
whole_of n e = eqb-true (n % 4) 0 (and_parts (nat_eq (n % 4) 0) (not (nat_eq n 0) && nat_le n 16384) e).0

later : (xs front rest words : List ℕ) → words ≡ front ++ rest → Listed xs rest → Listed xs words
later xs front rest words e h =
    record {
      whole = h.whole;
      few = let l : length words ≡ length (front ++ rest) = ap length e in let n = length-append front rest in let f =
          h.few in omega arith;
      below' = h.below';
    }

listed : (at : ℕ) (items : List Item) (words : List ℕ) → SpellsItems Base at items words → Below words → Listed (constants_in items) words
listed at [] words h b = record { whole = refl; few = omega arith; below' = tt }
listed at (Declares d ∷ xs) words h b = later (constants_in xs) h.0 h.1 words h.2
    (listed (at + length h.0) xs h.1 h.4 (below_right h.0 h.1 (subst Below h.2 b)))
listed at (Types d view ∷ xs) words h b = later (constants_in xs) h.0 h.1 words h.2
    (listed (at + length h.0) xs h.1 h.4 (below_right h.0 h.1 (subst Below h.2 b)))
listed at (Does i ∷ xs) words h b = later (constants_in xs) h.0 h.1 words h.2
    (listed (at + length h.0) xs h.1 h.4 (below_right h.0 h.1 (subst Below h.2 b)))
listed at (Skips kind values ∷ xs) words h b = later (constants_in xs) h.0 h.1 words h.2
    (listed (at + length h.0) xs h.1 h.4 (below_right h.0 h.1 (subst Below h.2 b)))
listed at (Lists place values ∷ xs) words h b =
    let rest = listed (at + length h.0) xs h.1 h.4 (below_right h.0 h.1 (subst Below h.2 b)) in
    let custom = h.3.1 in
    let front = subst Below custom.parts (below_left h.0 h.1 (subst Below h.2 b)) in
    let l : length words ≡ length (h.0 ++ h.1) = ap length h.2 in
    let n = length-append h.0 h.1 in
    let m : length h.0 ≡ length (custom.token ∷ (length values + 2) ∷ values) = ap length custom.parts in
    let k = length-append values (constants_in xs) in
    let w = whole_of (length values) (custom.vectors refl) in
    let v = rest.whole in
    let f = rest.few in
    record { whole = omega arith; few = omega arith; below' = each_append (λ x. x < 2 ^ 32) values (constants_in xs) front.1.1 rest.below' }

-- NO TYPED VIEW is spelled without typed views
unknown : (code n : ℕ) → code ≡ n → is_known Base n ≡ false → is_known Base code ≡ true → ⊥
unknown code n e f h = false≢true (sym (ap (λ m. is_known Base m) e ∙ f) ∙ h)

no_resource : is_known Base 88 ≡ false
unfolding form_of layout_of meaning_of declaration_table opcode_table
no_resource = refl

no_uav : is_known Base 156 ≡ false
unfolding form_of layout_of meaning_of declaration_table opcode_table
no_uav = refl

not_typed : (what : Declaration) (view : Room) (words : List ℕ) → SpellsTyped Base what view words → ⊥
not_typed (declaration.Resource slot (view'.Structured stride)) view words h = unknown h.code 88 h.declared.0 no_resource h.spelled.tokens.known
not_typed (declaration.Uav slot (view'.Structured stride) coherent ordered) view words h = unknown h.code 156 h.declared.0 no_uav
    h.spelled.tokens.known
not_typed other view words h = absurd h.declared

none_typed : (at : ℕ) (items : List Item) (words : List ℕ) → SpellsItems Base at items words → typed_in items ≡ []
none_typed at [] words h = refl
none_typed at (Declares d ∷ xs) words h = none_typed (at + length h.0) xs h.1 h.4
none_typed at (Types d view ∷ xs) words h = absurd (not_typed d.what view h.0 h.3.1)
none_typed at (Does i ∷ xs) words h = none_typed (at + length h.0) xs h.1 h.4
none_typed at (Lists place values ∷ xs) words h = none_typed (at + length h.0) xs h.1 h.4
none_typed at (Skips kind values ∷ xs) words h = none_typed (at + length h.0) xs h.1 h.4

-- AN INSTRUCTION is spelled
found : (at : ℕ) (items : List Item) (words : List ℕ) → SpellsItems Base at items words → (k : ℕ) (i : Instruction)
    → slice_get (instructions_in items) k ≡ Some i → (ws : List ℕ) × SpellsInstruction Base i ws
found at [] words h k i e = absurd (cc e)
found at (Declares d ∷ xs) words h k i e = found (at + length h.0) xs h.1 h.4 k i e
found at (Types d view ∷ xs) words h k i e = found (at + length h.0) xs h.1 h.4 k i e
found at (Lists place values ∷ xs) words h k i e = found (at + length h.0) xs h.1 h.4 k i e
found at (Skips kind values ∷ xs) words h k i e = found (at + length h.0) xs h.1 h.4 k i e
found at (Does j ∷ xs) words h zero i e = let same : j ≡ i = cc e in (h.0, subst (λ x. SpellsInstruction Base x h.0) same h.3.1)
found at (Does j ∷ xs) words h (suc k) i e = found (at + length h.0) xs h.1 h.4 k i e

means : (o : Option Meaning) → is_some (option_map form_of_meaning o) ≡ true → is_some o ≡ true
means None h = h
means (Some m) h = refl

has_meaning : (i : Instruction) (words : List ℕ) → SpellsInstruction Base i words → is_some (meaning_of Base i.code) ≡ true
unfolding form_of
has_meaning i words h = means (meaning_of Base i.code) h.form

module _ (p : Shader) (tokens : List ℕ) (spelled : Spells Base p tokens) (words : AreWords tokens) (size : p.words ≤ 65536)
    (declared : declaration_refusals 0 p ≡ []) (used : use_refusals Base p ≡ []) where
  constants : Listed (constants_in spelled.items) spelled.body
  constants =
      let b = subst Below spelled.whole (below tokens words) in
      listed 2 spelled.items spelled.body spelled.parts (below_left spelled.body spelled.ignored b.1.1)

  small : AreSmall (spaces_of p)
  small =
      let few = few_declared p declared in
      let same : length p.constants ≡ length (constants_in spelled.items) = ap length spelled.constants in
      let n = constants.few in
      let c = spelled.count in
      let w = constants.whole in
      record {
        temps = let l = few_temps p few in omega arith;
        elements = λ slot. let l = few_elements p slot few in omega arith;
        vectors = λ slot. let l = few_vectors p slot few in omega arith;
        immediates = omega arith;
        whole = omega arith;
      }

  constant_words : AreWords p.constants
  constant_words = subst AreWords (sym spelled.constants) (are_words (constants_in spelled.items) constants.below')

  module _ (k : ℕ) (i : Instruction) (at : slice_get p.instructions k ≡ Some i) (well : IsWellSpelled i) where
    spelling : (ws : List ℕ) × SpellsInstruction Base i ws
    spelling = found 2 spelled.items spelled.body spelled.parts k i (ap (λ is. slice_get is k) (sym spelled.instructions) ∙ at)

    ranges : Each (λ a. AddsInRange a.relative) (operands i)
    ranges = in_range i spelling.0 spelling.1 (meaning_of Base i.code) refl (has_meaning i spelling.0 spelling.1)

    all_named : Each (λ a. list_any (is_missing p.declarations) (operand_uses a) ≡ false) (operands i)
    all_named =
        let e = count_is i spelling.0 spelling.1 (meaning_of Base i.code) refl (has_meaning i spelling.0 spelling.1) in
        each_operand (λ a. list_any (is_missing p.declarations) (operand_uses a) ≡ false) i spelling.1.others refl
        (subst (λ n. Each (λ a. list_any (is_missing p.declarations) (operand_uses a) ≡ false) (take n (operands i))) (sym e)
        (names p k i (meaning_of Base i.code) used at refl (has_meaning i spelling.0 spelling.1)))

    pub raisable : is_computed (meaning_of Base i.code) ≡ true → IsRaisable p i
    raisable c = record {
      computes = c;
      long = is_long i spelling.0 spelling.1 (meaning_of Base i.code) refl (has_meaning i spelling.0 spelling.1);
      names = all_named;
      spaces = small;
      words = constant_words;
      o0 = record { select = well.o0; relative = ranges.0 };
      o1 = record { select = well.o1; relative = ranges.1.0 };
      o2 = record { select = well.o2; relative = ranges.1.1.0 };
      o3 = record { select = well.o3; relative = ranges.1.1.1.0 };
      o4 = record { select = well.o4; relative = ranges.1.1.1.1.0 };
    }

    pub scalar_raisable : IsScalar p i
    scalar_raisable = record { names = all_named.0; spaces = small; words = constant_words; o0 = record { select = well.o0; relative = ranges.0 } }

    pub in_program : IsInProgram p i
    in_program = record {
      long = is_long i spelling.0 spelling.1 (meaning_of Base i.code) refl (has_meaning i spelling.0 spelling.1);
      names = all_named;
      spaces = small;
      words = constant_words;
      range = record {
        o0 = record { select = well.o0; relative = ranges.0 };
        o1 = record { select = well.o1; relative = ranges.1.0 };
        o2 = record { select = well.o2; relative = ranges.1.1.0 };
        o3 = record { select = well.o3; relative = ranges.1.1.1.0 };
        o4 = record { select = well.o4; relative = ranges.1.1.1.1.0 };
      };
      types = types_taken i spelling.0 spelling.1 (meaning_of Base i.code) refl (has_meaning i spelling.0 spelling.1);
      immediates = well.words;
      typed = spelled.typed ∙ none_typed 2 spelled.items spelled.body spelled.parts;
      number = k;
      there = at;
    }
