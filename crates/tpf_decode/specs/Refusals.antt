-- The rules of tokens: which are broken, each with its place, a word's number counted from the program's first word. Of the lists
-- here the refusal that counts is the `first`.
use Rattle.std.specs.Prelude.{◌≡◌, ℕ, ◌+◌, ◌-◌, ◌<◌, ◌≤◌, nat_eq, nat_lt, nat_le, ◌&&◌, ◌||◌, not, if◌then◌else◌, Bool, true, false, List, [], ◌∷◌, ◌++◌, length, take, drop, slice_index, slice_range, Option, Some, None, Result, Ok, Err, refl}
use Rattle.tpf_decode.specs.declared.argument.Kind.{Kind}
use Rattle.tpf_decode.specs.declared.argument.Role.{Role}
use Rattle.tpf_decode.specs.declared.chain.Extended.{Extended}
use Rattle.tpf_decode.specs.declared.chain.Extended.TheVariants.{Opcode, Operand}
use Rattle.tpf_decode.specs.declared.extent.Extent.{Extent}
use Rattle.tpf_decode.specs.Profiles.{Profile, Base}
use Rattle.tpf_decode.specs.Tokens.{opcode_of, controls_of, length_of, class_of, follows, has_flag, is_opcode_extension, kind_of, has_selection, fixed_of, fixed_count, element_of, immediate_count, has_relative, is_modifier}
use Rattle.tpf_decode.specs.Opcodes.{form_of, is_result, meaning_of, opcode_table}
use Rattle.tpf_decode.specs.Declarations.{is_known, layout_of, roles_at, declaration_table}
use Rattle.tpf_decode.specs.Roles.{is_allowed, takes, is_declaration, has_indices, is_relative, index_count, may_negate}
use Rattle.tpf_decode.specs.Spelling.{is_vectors, further_words, SpellsHead, SpellsCustom}
use Rattle.word_base.specs.declared.rule.Rule.{Rule}
use Rattle.word_base.specs.declared.rule.Rule.TheVariants.{K1, K2, M2, K3, K4, K5, K6, K7, K8, K9, K10, K11, K12, K13, K14, K15}
use Rattle.word_base.specs.declared.rule.Refusal.{Refusal}
use Rattle.word_base.specs.Rules.{refusal, broken, first, order_of}
use Rattle.word_base.specs.Words.{field_of}

-- tests of one place, each with the rule that it breaks, and the rule of the first that holds
pub record Test : Type 0 where
  pub holds : Bool
  pub rule : Rule

abbrev pub breaks : Bool → Rule → Test
breaks holds rule = record { holds = holds; rule = rule }

abbrev pub broken_at : ℕ → List Test → List Refusal
broken_at place [] = []
broken_at place (test ∷ tests) = broken test.holds test.rule place ++ broken_at place tests

abbrev pub first_rule : List Test → Option Rule
first_rule [] = None
first_rule (test ∷ tests) = if test.holds then Some test.rule else first_rule tests

-- the refusal of a call, if it is one
abbrev pub refusal_of : {X : Type 0} → Result X Refusal → Option Refusal
refusal_of (Ok x) = None
refusal_of (Err r) = Some r

-- The program's first words: the version token of cs_5_0, and the number of its words, both included.
abbrev pub header_faults : List ℕ → List Refusal
header_faults words =
    broken (not (nat_eq (slice_index words 0) 0x00050050)) K1 0
    ++ (broken (nat_lt (slice_index words 1) 2 || nat_lt (length words) (slice_index words 1)) K2 1
    ++ broken (nat_lt 65536 (slice_index words 1)) M2 1)

-- what is tested behind some words, by the place and the words that are left
abbrev pub Rest : Type 0
Rest = ℕ → List ℕ → List Refusal

abbrev pub nothing : Rest
nothing at words = []

-- So many words of the instruction are wanted, and the rest is tested behind them; the end is refused where they are not there.
abbrev pub behind_words : ℕ → Rest → Rest
behind_words count rest at words =
    if nat_lt (length words) count then refusal K11 (at + length words) ∷ []
    else rest (at + count) (drop count words)

-- Refusals of tokens, all of them at that place or behind it; and tests of a rest that gives such refusals alone.
abbrev pub StandsFrom : ℕ → List Refusal → Type 0
StandsFrom at [] = Unit {0}
StandsFrom at (r ∷ refusals) = ((order_of r.rule).phase ≡ 5) × (at ≤ r.place) × StandsFrom at refusals

abbrev pub IsOrderly : Rest → Type 0
IsOrderly rest = (at : ℕ) (words : List ℕ) → StandsFrom at (rest at words)

-- no word is left
abbrev pub no_more : Rest
no_more at [] = []
no_more at (word ∷ words) = refusal K11 at ∷ []

-- which extended tokens are taken, and the rule that refuses the others
abbrev pub is_taken : Extended → ℕ → Bool
is_taken Opcode token = is_opcode_extension token
is_taken (Operand negatable) token = is_modifier negatable token

abbrev pub rule_of : Extended → Rule
rule_of Opcode = K5
rule_of (Operand negatable) = K10

-- Extended tokens, where the token before says that one follows, and what stands behind them.
abbrev pub chain_faults : Extended → Bool → Rest → Rest
chain_faults of false rest at words = rest at words
chain_faults of true rest at [] = refusal K11 at ∷ []
chain_faults of true rest at (token ∷ words) =
    broken (not (is_taken of token)) (rule_of of) at ++ chain_faults of (follows token) rest (at + 1) words

-- A length of 0, or one that passes the words up to the program's end.
abbrev pub is_wrong_length : ℕ → ℕ → Bool
is_wrong_length left token = nat_eq (length_of token) 0 || nat_lt left (length_of token)

-- saturate on an instruction whose first operand is a destination
abbrev pub saturates : Profile → ℕ → Bool
saturates profile token = is_result (form_of profile (opcode_of token)) && has_flag token 13

-- a sync that asks for nothing, or for the scopes of views in the group and in all groups
abbrev pub has_wrong_sync : ℕ → Bool
has_wrong_sync token =
    nat_eq (opcode_of token) 190 && (nat_eq (field_of token 14 11) 0 || (has_flag token 13 && has_flag token 14))

-- a global flag other than refactoring allowed, raw and structured buffers, and skip optimization
abbrev pub has_wrong_flags : ℕ → Bool
has_wrong_flags token =
    nat_eq (opcode_of token) 106 && not (nat_eq (field_of token 13 12) 0 && nat_eq (field_of token 23 16) 0)

-- The tests of an opcode token that has so many words up to the program's end, itself included.
abbrev pub head_tests : Profile → ℕ → ℕ → List Test
head_tests profile left token =
    breaks (is_wrong_length left token) K3 ∷
    breaks (not (is_known profile (opcode_of token))) K4 ∷
    breaks (saturates profile token) K12 ∷
    breaks (has_wrong_sync token) K14 ∷
    breaks (has_wrong_flags token) K15 ∷
    []

-- The opcode's tokens of an instruction or a declaration, by its first word and the others up to the program's end, and what
-- stands behind the tokens up to the instruction's own end.
abbrev pub head_faults : Profile → Rest → ℕ → ℕ → List ℕ → List Refusal
head_faults profile rest at token words =
    broken_at at (head_tests profile (length words + 1) token)
    ++ chain_faults Opcode (follows token) rest (at + 1) (take (length_of token - 1) words)

-- Custom data of a known class with a length that the program has room for; of the immediate constant buffer whole vectors.
abbrev pub is_custom_size : ℕ → ℕ → ℕ → Bool
is_custom_size class size room =
    nat_le class 3 && (nat_le 2 size && (nat_le size room && (not (nat_eq class 3) || is_vectors (size - 2))))

abbrev pub is_custom : ℕ → List ℕ → Bool
is_custom token [] = false
is_custom token (size ∷ words) = is_custom_size (class_of token) size (length words + 2)

abbrev pub is_custom_data : ℕ → Bool
is_custom_data token = nat_eq (opcode_of token) 53

-- what begins at a place, with these words up to the program's end
abbrev pub faults_with : Profile → (ℕ → Rest) → Rest
faults_with profile rest at [] = []
faults_with profile rest at (token ∷ words) =
    if is_custom_data token then broken (not (is_custom token words)) K13 at
    else head_faults profile (rest (opcode_of token)) at token words

-- the rules of its opcode's tokens alone
abbrev pub cut_faults : Profile → Rest
cut_faults profile = faults_with profile (λ code. nothing)

-- an operand's type, where the number is one
abbrev pub allows : Profile → ℕ → Role → Option Kind → Bool
allows profile code role None = false
allows profile code role (Some kind) = is_allowed profile code role kind

-- The selection is one, and is as the role asks where the type is allowed.
abbrev pub selects : Profile → ℕ → Role → Option Kind → ℕ → Bool
selects profile code role None token = has_selection token
selects profile code role (Some kind) token =
    has_selection token && (not (is_allowed profile code role kind) || takes code role kind token)

abbrev pub indexes : Bool → Option Kind → ℕ → Bool
indexes declares None token = true
indexes declares (Some kind) token = has_indices declares kind token

-- The tests of an operand token.
abbrev pub token_tests : Profile → ℕ → Role → Option Kind → ℕ → List Test
token_tests profile code role kind token =
    breaks (not (selects profile code role kind token)) K6 ∷
    breaks (not (allows profile code role kind)) K7 ∷
    breaks (not (indexes (is_declaration profile code) kind token)) K8 ∷
    []

abbrev pub place_count : Option Kind → ℕ
place_count None = 0
place_count (Some kind) = index_count kind

-- a relative operand, where the index has one: it is tested by this rule and by the words that it needs
abbrev pub relative_faults : Bool → Rest → Rest
relative_faults false rest at words = rest at words
relative_faults true rest at [] = refusal K11 at ∷ []
relative_faults true rest at (token ∷ words) =
    broken (not (is_relative token)) K9 at ++ behind_words (place_count (kind_of token)) rest (at + 1) words

abbrev pub element_faults : Option ℕ → Rest → Rest
element_faults None rest = rest
element_faults (Some representation) rest =
    behind_words (immediate_count representation) (relative_faults (has_relative representation) rest)

-- what stands behind an operand's tokens; of an unknown type nothing is said, since the type is refused
abbrev pub behind_faults : Option Kind → ℕ → Rest → Rest
behind_faults None token rest = nothing
behind_faults (Some kind) token rest = behind_words (fixed_count (fixed_of kind token)) (element_faults (element_of kind token) rest)

-- an operand in a role of an opcode, which begins at a place, with the words from there to the instruction's end
abbrev pub operand_faults : Profile → ℕ → Role → Rest → Rest
operand_faults profile code role rest at [] = refusal K11 at ∷ []
operand_faults profile code role rest at (token ∷ words) =
    broken_at at (token_tests profile code role (kind_of token) token)
    ++ chain_faults (Operand (may_negate profile code role)) (follows token) (behind_faults (kind_of token) token rest) (at + 1) words

abbrev pub operands_faults : Profile → ℕ → List Role → Rest → Rest
operands_faults profile code [] rest = rest
operands_faults profile code (role ∷ roles) rest = operand_faults profile code role (operands_faults profile code roles rest)

-- a whole instruction or declaration, or a block of custom data
abbrev pub instruction_faults : Profile → Rest
instruction_faults profile =
    faults_with profile (λ code. operands_faults profile code (roles_at profile code) (behind_words (further_words (layout_of profile code)) no_more))

-- What `cut` gives of the thing at a place of a program of n words.
abbrev pub IsCut : Bool → Profile → List ℕ → ℕ → Extent → Type 0
IsCut true profile words at e =
    (e.first ≡ at + 1) × SpellsCustom (class_of (slice_index words at)) (slice_range words (at + 2) e.end) (slice_range words at e.end)
IsCut false profile words at e = SpellsHead profile e.code e.controls (e.end - at) (slice_range words at e.first)

pub record IsExtent (profile : Profile) (words : List ℕ) (n at : ℕ) (e : Extent) : Type 0 where
  pub code_is : e.code ≡ opcode_of (slice_index words at)
  pub controls_are : e.controls ≡ controls_of (slice_index words at)
  pub begins : at < e.first
  pub order : e.first ≤ e.end
  pub ends : e.end ≤ n
  pub spelled : IsCut (nat_eq e.code 53) profile words at e

-- Examples: two instructions whose words are all there, and one of each kind that is refused.
pub quotient : instruction_faults Base 13 (0x0E00004E ∷ 0x00100032 ∷ 0 ∷ 0x0000D000 ∷ 0x00004002 ∷ 7 ∷ 7 ∷ 0 ∷ 0 ∷ 0x00004002 ∷ 0 ∷ 3 ∷ 0 ∷ 0 ∷ 0x0100003E ∷ []) ≡ []
unfolding form_of meaning_of opcode_table layout_of declaration_table
quotient = refl

pub relative_source : instruction_faults Base 28 (0x08000036 ∷ 0x00100012 ∷ 1 ∷ 0x0620300A ∷ 1 ∷ 3 ∷ 0x0010000A ∷ 0 ∷ []) ≡ []
unfolding form_of meaning_of opcode_table layout_of declaration_table
relative_source = refl

pub negated_move : first (instruction_faults Base 8 (0x06000036 ∷ 0x00100012 ∷ 0 ∷ 0x8010001A ∷ 0x41 ∷ 0 ∷ 0x0100003E ∷ [])) ≡ Some (refusal K10 12)
unfolding form_of meaning_of opcode_table layout_of declaration_table
negated_move = refl

pub float_add : first (instruction_faults Base 6 (0x01000000 ∷ [])) ≡ Some (refusal K4 6)
unfolding form_of meaning_of opcode_table layout_of declaration_table
float_add = refl

pub past_the_end : first (instruction_faults Base 6 (0x0200003E ∷ [])) ≡ Some (refusal K3 6)
unfolding form_of meaning_of opcode_table layout_of declaration_table
past_the_end = refl

pub left_over : first (instruction_faults Base 6 (0x0200003E ∷ 0 ∷ [])) ≡ Some (refusal K11 7)
unfolding form_of meaning_of opcode_table layout_of declaration_table
left_over = refl
