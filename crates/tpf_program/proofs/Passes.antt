-- What is spelled breaks no rule but those on flags of the opcode token.
use Rattle.std.proofs.Common.{◌≡◌, ℕ, ◌+◌, ◌-◌, ◌<◌, ◌≤◌, List, [], ◌∷◌, ◌++◌, length, take, drop, Bool, true, false, not, ◌&&◌, ◌||◌, nat_eq, refl, sym, ap, ◌∙◌, arith, append-nil, length-append}
use Rattle.std.specs.Prelude.{nat_lt, nat_le, if◌then◌else◌}
use Rattle.std.proofs.lemmas.Bool.Decides.{nat_tests}
use Rattle.word_base.specs.declared.rule.Rule.{Rule}
use Rattle.word_base.specs.declared.rule.Rule.TheVariants.{K3, K4, K11, K12, K13, K14, K15}
use Rattle.word_base.specs.Rules.{broken, refusal}
use Rattle.tpf_decode.specs.declared.argument.Argument.{Argument}
use Rattle.tpf_decode.specs.declared.chain.Extended.TheVariants.{Opcode}
use Rattle.tpf_decode.specs.Profiles.{Base}
use Rattle.tpf_decode.specs.Tokens.{opcode_of, length_of, follows}
use Rattle.tpf_decode.specs.Declarations.{is_known, layout_of, roles_at}
use Rattle.tpf_decode.specs.Spelling.{SpellsCustom, further_words, is_vectors}
use Rattle.tpf_decode.specs.Spelling as token
use Rattle.tpf_decode.specs.Refusals.{Test, breaks, broken_at, no_more, behind_words, chain_faults, is_wrong_length, saturates, has_wrong_sync, has_wrong_flags, head_faults, is_custom, is_custom_size, is_custom_data, instruction_faults}
use Rattle.tpf_decode.proofs.Chains.{taken_pass, leads_of}
use Rattle.tpf_program.specs.Reading.{parts_faults}
use Rattle.tpf_program.proofs.Tables.{custom_unknown}
use Rattle.tpf_program.proofs.Parts.{operands_pass}
use Rattle.tpf_program.proofs.Pieces.{taken_front}

-- the tests of an opcode token that spelled words may fail
abbrev pub late_tests : ℕ → List Test
late_tests token = breaks (saturates Base token) K12 ∷ breaks (has_wrong_sync token) K14 ∷ breaks (has_wrong_flags token) K15 ∷ []

not_custom : (code : ℕ) → is_known Base code ≡ true → nat_eq code 53 ≡ false
not_custom code h = by_test (nat_eq code 53) refl
  where
    by_test : (b : Bool) → b ≡ nat_eq code 53 → b ≡ false
    by_test false e = refl
    by_test true e =
        let c : code ≡ 53 = grind (arith, nat_tests) in
        let n : true ≡ false = sym h ∙ (ap (is_known Base) c ∙ custom_unknown) in
        cc

drop_all : (words : List ℕ) → drop (length words) words ≡ []
drop_all [] = refl
drop_all (w ∷ words) = drop_all words

-- the further words are there, and no more
further_pass : (count at : ℕ) (further : List ℕ) → length further ≡ count → behind_words count no_more at further ≡ []
further_pass count at further e =
    let t : nat_lt (length further) count ≡ false = grind (arith, nat_tests) in
    ap (λ b. if b then refusal K11 (at + length further) ∷ [] else no_more (at + count) (drop count further)) t
    ∙ (ap (λ n. no_more (at + count) (drop n further)) (sym e) ∙ ap (no_more (at + count)) (drop_all further))

two_false : (a b : Bool) (r s : Rule) (at : ℕ) (tests : List Test) → a ≡ false → b ≡ false → broken_at at (breaks a r ∷ breaks b s ∷ tests) ≡ broken_at at tests
two_false a b r s at tests h k = rw (h, k) refl

length_right : (token size left : ℕ) → length_of token ≡ size → 0 < size → size ≤ left → is_wrong_length left token ≡ false
length_right token size left e h k = grind (arith, nat_tests)

-- a spelled part is no custom data, and its length is right
pub token_tests_pass : (code controls : ℕ) (arguments : List Argument) (further words more : List ℕ) (s : token.Spells Base code controls arguments further words)
    → (is_custom_data s.tokens.token ≡ false) × (is_wrong_length (length ((s.tokens.extended ++ (s.operands ++ further)) ++ more) + 1) s.tokens.token ≡ false)
token_tests_pass code controls arguments further words more s =
    let t = s.tokens.token in
    let behind = s.tokens.extended ++ (s.operands ++ further) in
    let all : words ≡ t ∷ behind = s.parts ∙ ap (λ h. h ++ (s.operands ++ further)) s.tokens.parts in
    let left : length (behind ++ more) + 1 ≡ length words + length more = omega (arith, ap length all, length-append behind more) in (
      ap (λ c. nat_eq c 53) s.tokens.code_is ∙ not_custom code s.tokens.known,
      length_right t (length words) (length (behind ++ more) + 1) s.tokens.size_is (omega (arith, ap length all)) (omega (arith, left)),
    )

-- an instruction or a declaration
pub instruction_pass : (code controls at : ℕ) (arguments : List Argument) (further words more : List ℕ) (s : token.Spells Base code controls arguments further words)
    → instruction_faults Base at (words ++ more) ≡ broken_at at (late_tests s.tokens.token)
instruction_pass code controls at arguments further words more s =
    let t = s.tokens.token in
    let ext = s.tokens.extended in
    let behind = s.operands ++ further in
    let all : words ≡ t ∷ (ext ++ behind) = s.parts ∙ ap (λ h. h ++ behind) s.tokens.parts in
    let known : not (is_known Base (opcode_of t)) ≡ false = ap (λ c. not (is_known Base c)) s.tokens.code_is ∙ ap not s.tokens.known in
    let passed = token_tests_pass code controls arguments further words more s in
    let rest = parts_faults (opcode_of t) in
    let size : length_of t - 1 ≡ length (ext ++ behind) = omega (arith, s.tokens.size_is, ap length all) in
    let none : chain_faults Opcode (follows t) rest (at + 1) (ext ++ behind) ≡ [] =
    taken_pass Opcode (follows t) false rest ext behind (at + 1) (leads_of (follows t) ext s.tokens.chain) s.tokens.types
    ∙ (ap (λ c. parts_faults c (at + 1 + length ext) behind) s.tokens.code_is
    ∙ (operands_pass Base code (roles_at Base code) arguments (behind_words (further_words (layout_of Base code)) no_more) (at + 1 + length ext) s.operands further s.roles
    ∙ further_pass (further_words (layout_of Base code)) (at + 1 + length ext + length s.operands) further s.rest)) in
    ap (λ l. instruction_faults Base at (l ++ more)) all
    ∙ (ap (λ b. if b then broken (not (is_custom t (ext ++ behind ++ more))) K13 at else head_faults Base rest at t (ext ++ behind ++ more)) passed.0
    ∙ (ap (λ l. l ++ chain_faults Opcode (follows t) rest (at + 1) (take (length_of t - 1) (ext ++ behind ++ more)))
    (two_false (is_wrong_length (length (ext ++ behind ++ more) + 1) t) (not (is_known Base (opcode_of t))) K3 K4 at (late_tests t) passed.1 known)
    ∙ (ap (λ l. broken_at at (late_tests t) ++ chain_faults Opcode (follows t) rest (at + 1) l) (taken_front (ext ++ behind) more (length_of t - 1) size)
    ∙ (ap (λ l. broken_at at (late_tests t) ++ l) none ∙ append-nil (broken_at at (late_tests t))))))

-- custom data
sound_size : (kind size room : ℕ) → kind ≤ 3 → 2 ≤ size → size ≤ room → (kind ≡ 3 → is_vectors (size - 2) ≡ true) → is_custom_size kind size room ≡ true
sound_size kind size room a b c v = by_test (nat_eq kind 3) refl
  where
    by_test : (t : Bool) → t ≡ nat_eq kind 3 → (nat_le kind 3 && (nat_le 2 size && (nat_le size room && (not t || is_vectors (size - 2))))) ≡ true
    by_test true e =
        let three : kind ≡ 3 = grind (arith, nat_tests) in
        let x : nat_le kind 3 ≡ true = grind (arith, nat_tests) in
        let y : nat_le 2 size ≡ true = grind (arith, nat_tests) in
        let z : nat_le size room ≡ true = grind (arith, nat_tests) in
        rw (x, y, z, v three) refl
    by_test false e =
        let x : nat_le kind 3 ≡ true = grind (arith, nat_tests) in
        let y : nat_le 2 size ≡ true = grind (arith, nat_tests) in
        let z : nat_le size room ≡ true = grind (arith, nat_tests) in
        rw (x, y, z) refl

pub custom_sound : (kind : ℕ) (values words more : List ℕ) (s : SpellsCustom kind values words) → (is_custom_data s.token ≡ true) × (is_custom s.token ((length values + 2) ∷ (values ++ more)) ≡ true)
custom_sound kind values words more s =
    let t = s.token in
    let size = length values + 2 in
    let back : size - 2 ≡ length values = omega arith in
    let fits : size ≤ length (values ++ more) + 2 = omega (arith, length-append values more) in
    let least : 2 ≤ size = omega arith in (
      ap (λ c. nat_eq c 53) s.code,
      ap (λ k. is_custom_size k size (length (values ++ more) + 2)) s.kind_is
          ∙ sound_size kind size (length (values ++ more) + 2) s.known least fits (λ three. ap is_vectors back ∙ s.vectors three),
    )

pub custom_pass : (kind at : ℕ) (values words more : List ℕ) → SpellsCustom kind values words → instruction_faults Base at (words ++ more) ≡ []
custom_pass kind at values words more s =
    let t = s.token in
    let size = length values + 2 in
    let p = custom_sound kind values words more s in
    ap (λ l. instruction_faults Base at (l ++ more)) s.parts
    ∙ (ap (λ b. if b then broken (not (is_custom t (size ∷ (values ++ more)))) K13 at else head_faults Base (parts_faults (opcode_of t)) at t (size ∷ (values ++ more))) p.0
    ∙ ap (λ b. broken (not b) K13 at) p.1)
