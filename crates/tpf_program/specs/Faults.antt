-- The broken rules of the words of a whole program: of its head, and of each part that is reached from the one before.
use Rattle.std.specs.Prelude.{◌≡◌, ℕ, zero, suc, ◌+◌, ◌-◌, ◌<◌, Contains, nat_eq, if◌then◌else◌, List, [], ◌∷◌, ◌++◌, length, slice_index, slice_range, Option, Some, None, is_some, refl, not}
use Rattle.word_base.specs.declared.rule.Rule.{Rule}
use Rattle.word_base.specs.declared.rule.Rule.TheVariants.{K3, K4, K11, K12, K14, K15}
use Rattle.word_base.specs.declared.rule.Refusal.{Refusal}
use Rattle.word_base.specs.Rules.{refusal, first}
use Rattle.tpf_decode.specs.Profiles.{Profile, Base}
use Rattle.tpf_decode.specs.Tokens.{opcode_of, length_of}
use Rattle.tpf_decode.specs.Opcodes.{opcode_table, meaning_of, form_of}
use Rattle.tpf_decode.specs.Declarations.{is_known, layout_of, declaration_table}
use Rattle.tpf_decode.specs.Refusals.{breaks, first_rule, is_wrong_length, is_custom, is_custom_data, header_faults, instruction_faults}

-- How many words the part has that begins with these, by its own length; 0 where that is wrong, so that nothing behind is reached.
abbrev pub part_size : List ℕ → ℕ
part_size [] = 0
part_size (token ∷ words) =
    if is_custom_data token then (if is_custom token words then slice_index words 0 else 0)
    else if is_wrong_length (length words + 1) token then 0 else length_of token

-- the broken rules of the words from a place on, of which the first so many belong to the part before
unfoldable pub body_faults : Profile → ℕ → ℕ → List ℕ → List Refusal
body_faults profile passed at [] = []
body_faults profile (suc passed) at (word ∷ words) = body_faults profile passed (at + 1) words
body_faults profile zero at (word ∷ words) =
    instruction_faults profile at (word ∷ words)
    ++ (if nat_eq (part_size (word ∷ words)) 0 then [] else body_faults profile (part_size (word ∷ words) - 1) (at + 1) words)

-- Where the head breaks a rule, the parts are not tested.
unfoldable pub program_faults : Profile → List ℕ → List Refusal
program_faults profile words =
    header_faults words
    ++ (if is_some (first (header_faults words)) then [] else body_faults profile 0 2 (slice_range words 2 (slice_index words 1)))

-- Parts lead from a place of a program of n words to another, each by its own length.
abbrev pub Leads : List ℕ → ℕ → ℕ → ℕ → ℕ → Type 0
Leads words n zero at place = at ≡ place
Leads words n (suc parts) at place =
    (0 < part_size (slice_range words at n)) × Leads words n parts (at + part_size (slice_range words at n)) place

-- a place in the program to which parts lead from behind its head
pub record IsReached (words : List ℕ) (n place : ℕ) : Type 0 where
  pub inside : place < n
  pub parts : ℕ
  pub leads : Leads words n parts 2 place

-- a rule that the part at a place breaks which is reached, where the head breaks none
pub record IsBrokenInside (profile : Profile) (words : List ℕ) (r : Refusal) : Type 0 where
  pub head : header_faults words ≡ []
  pub place : ℕ
  pub reached : IsReached words (slice_index words 1) place
  pub is_broken : Contains (instruction_faults profile place (slice_range words place (slice_index words 1))) r

-- The rules of an opcode token that come before a missing word at its place, where it has so many words up to the program's end.
abbrev pub early_of : ℕ → ℕ → Option Rule
early_of left token =
    if is_custom_data token then None
    else first_rule (breaks (is_wrong_length left token) K3 ∷ breaks (not (is_known Base (opcode_of token))) K4 ∷ [])

abbrev pub early_rule : List ℕ → Option Rule
early_rule [] = None
early_rule (token ∷ words) = early_of (length words + 1) token

-- the rules that spelled words may break: those on flags of opcode tokens
abbrev pub IsLate : Rule → Type 0
IsLate K12 = Unit {0}
IsLate K14 = Unit {0}
IsLate K15 = Unit {0}
IsLate other = ⊥

-- Example: a word is missing at the end of `mov`, where the next token names more words than there are; that comes first.
pub next_token_first :
    first (program_faults Base (
    0x00050050 ∷ 14 ∷ 0x02000068 ∷ 1 ∷ 0x0400009B ∷ 1 ∷ 1 ∷ 1 ∷ 0x04000036 ∷ 0x00100012 ∷ 0 ∷ 0x0010000A ∷ 0 ∷ 0x0100003E ∷ []
    )) ≡ Some (refusal K3 12)
unfolding program_faults body_faults form_of meaning_of opcode_table layout_of declaration_table
next_token_first = refl

-- Example: the same at the end of the program, where nothing follows.
pub missing_at_the_end :
    first (program_faults Base (
    0x00050050 ∷ 12 ∷ 0x02000068 ∷ 1 ∷ 0x0400009B ∷ 1 ∷ 1 ∷ 1 ∷ 0x04000036 ∷ 0x00100012 ∷ 0 ∷ 0x0010000A ∷ []
    )) ≡ Some (refusal K11 12)
unfolding program_faults body_faults form_of meaning_of opcode_table layout_of declaration_table
missing_at_the_end = refl
