-- The refusals of an opcode's tokens.
use Rattle.std.proofs.Common.{◌≡◌, ◌≢◌, ℕ, nat_eq, ◌+◌, ◌-◌, ◌<◌, ◌≤◌, List, [], ◌∷◌, length, take, drop, None, Bool, true, false, not, ◌&&◌, ◌||◌, refl, sym, ap, ◌∙◌, subst, arith}
use Rattle.std.specs.Prelude.{slice_range, slice_index, nat_le}
use Rattle.std.proofs.lemmas.List.{take-take}
use Rattle.word_base.specs.declared.rule.Rule.{Rule}
use Rattle.word_base.specs.declared.rule.Rule.TheVariants.{K3, K4, K12, K14, K15}
use Rattle.word_base.specs.Rules.{first}
use Rattle.tpf_decode.specs.declared.chain.Extended.TheVariants.{Opcode}
use Rattle.std.proofs.lemmas.Bool.Decides.{nat_tests}
use Rattle.std.specs.List.{list_all}
use Rattle.tpf_decode.specs.declared.extent.Extent.{Extent}
use Rattle.tpf_decode.specs.Profiles.{Profile}
use Rattle.tpf_decode.specs.Tokens.{follows, length_of, class_of, opcode_of, controls_of}
use Rattle.tpf_decode.specs.Declarations.{is_known}
use Rattle.tpf_decode.specs.Spelling.{IsChain, is_vectors}
use Rattle.tpf_decode.specs.Refusals.{Rest, IsOrderly, nothing, Test, breaks, first_rule, is_wrong_length, saturates, has_wrong_sync, has_wrong_flags, head_tests, head_faults, chain_faults, is_taken, is_custom, is_custom_size, IsCut, IsExtent}
use Rattle.tpf_decode.proofs.Ranges.{range_cons, length-range}
use Rattle.tpf_decode.proofs.Order.{IsRising, by_rule, first_of_tests}
use Rattle.tpf_decode.proofs.Chains.{chain_orderly, nothing_orderly}

head_rising : (profile : Profile) (left token : ℕ) → IsRising 0 (head_tests profile left token)
head_rising profile left token =
    (refl, omega arith, (refl, omega arith, (refl, omega arith, (refl, omega arith, (refl, omega arith, tt)))))

-- the first refusal of an opcode's tokens
pub first_of_head : (profile : Profile) (rest : Rest) (at token : ℕ) (words : List ℕ) → IsOrderly rest
    → first (head_faults profile rest at token words) ≡ by_rule (first_rule (head_tests profile (length words + 1) token)) at (first (chain_faults Opcode (follows token) rest (at + 1) (take (length_of token - 1) words)))
first_of_head profile rest at token words o =
    first_of_tests 0 at (head_tests profile (length words + 1) token) (chain_faults Opcode (follows token) rest (at + 1) (take (length_of token - 1) words))
    (head_rising profile (length words + 1) token)
    (chain_orderly Opcode (follows token) rest o (take (length_of token - 1) words) (at + 1))

-- the same of the words of a program
pub first_in_program : (profile : Profile) (words : List ℕ) (n at token : ℕ) → at < n → n ≤ length words
    → first (head_faults profile nothing at token (slice_range words (at + 1) n)) ≡ by_rule (first_rule (head_tests profile (n - at) token)) at (first (chain_faults Opcode (follows token) nothing (at + 1) (take (length_of token - 1) (slice_range words (at + 1) n))))
first_in_program profile words n at token h k =
    let e : length (slice_range words (at + 1) n) + 1 ≡ n - at = omega (arith, length-range words (at + 1) n k) in
    first_of_head profile nothing at token (slice_range words (at + 1) n) nothing_orderly
    ∙ ap (λ left. by_rule (first_rule (head_tests profile left token)) at (first (chain_faults Opcode (follows token) nothing (at + 1) (take (length_of token - 1) (slice_range words (at + 1) n))))) e

length_fits : (left token : ℕ) → is_wrong_length left token ≡ false → (0 < length_of token) × (length_of token ≤ left)
length_fits left token h = (grind (arith, nat_tests), grind (arith, nat_tests))

two_false : (a b : Bool) (r s : Rule) (tests : List Test) → first_rule (breaks a r ∷ breaks b s ∷ tests) ≡ None → (a ≡ false) × (b ≡ false)
two_false true b r s tests h = cc
two_false false true r s tests h = cc
two_false false false r s tests h = (refl, refl)

not_false : (b : Bool) → not b ≡ false → b ≡ true
not_false true h = refl
not_false false h = cc

both_false : (profile : Profile) (left token : ℕ) → first_rule (head_tests profile left token) ≡ None → (is_wrong_length left token ≡ false) × (not (is_known profile (opcode_of token)) ≡ false)
both_false profile left token h =
    two_false (is_wrong_length left token) (not (is_known profile (opcode_of token))) K3 K4
    (breaks (saturates profile token) K12 ∷ breaks (has_wrong_sync token) K14 ∷ breaks (has_wrong_flags token) K15 ∷ []) h

-- an opcode token that breaks no rule has a length that fits, and a known opcode
pub sound_length : (profile : Profile) (left token : ℕ) → first_rule (head_tests profile left token) ≡ None → (0 < length_of token) × (length_of token ≤ left)
sound_length profile left token h = length_fits left token (both_false profile left token h).0

sound_code : (profile : Profile) (left token : ℕ) → first_rule (head_tests profile left token) ≡ None → is_known profile (opcode_of token) ≡ true
sound_code profile left token h = not_false (is_known profile (opcode_of token)) (both_false profile left token h).1

-- the words of an instruction behind its first
pub words_behind : (words : List ℕ) (n at size : ℕ) → 0 < size → size ≤ n - at → take (size - 1) (slice_range words (at + 1) n) ≡ slice_range words (at + 1) (at + size)
words_behind words n at size h k =
    let e : size - 1 ≡ at + size - (at + 1) = omega arith in
    take-take (size - 1) (n - (at + 1)) (drop (at + 1) words) (omega arith) ∙ ap (λ m. take m (drop (at + 1) words)) e

-- what an opcode's tokens spell
pub head_spelled : (profile : Profile) (words : List ℕ) (n at : ℕ) (e : Extent) → at < n → n ≤ length words → opcode_of (slice_index words at) ≢ 53
    → first_rule (head_tests profile (n - at) (slice_index words at)) ≡ None
    → e.code ≡ opcode_of (slice_index words at) → e.controls ≡ controls_of (slice_index words at) → e.end ≡ at + length_of (slice_index words at)
    → at + 1 ≤ e.first → e.first ≤ e.end → IsChain (follows (slice_index words at)) (slice_range words (at + 1) e.first)
    → list_all (is_taken Opcode) (slice_range words (at + 1) e.first) ≡ true → IsExtent profile words n at e
head_spelled profile words n at e h k other none code controls size from upto chain types =
    let l = sound_length profile (n - at) (slice_index words at) none in
    record {
      code_is = code;
      controls_are = controls;
      begins = omega arith;
      order = upto;
      ends = omega (arith, l.1);
      spelled = subst (λ b. IsCut b profile words at e) (not_custom e.code (λ c. other (sym code ∙ c))) (record {
        token = slice_index words at;
        extended = slice_range words (at + 1) e.first;
        parts = range_cons words at e.first (omega arith) (omega (arith, l.1));
        code_is = sym code;
        known = ap (is_known profile) code ∙ sound_code profile (n - at) (slice_index words at) none;
        controls_are = sym controls;
        size_is = omega arith;
        chain = chain;
        types = types;
      });
    }
  where
    not_custom : (code : ℕ) → code ≢ 53 → false ≡ nat_eq code 53
    not_custom code h = grind (arith, nat_tests)

-- custom data, by its length
pub custom_size : (words : List ℕ) (n at token : ℕ) → at + 1 < n → n ≤ length words
    → is_custom token (slice_range words (at + 1) n) ≡ is_custom_size (class_of token) (slice_index words (at + 1)) (n - at)
custom_size words n at token h k =
    let e : length (slice_range words (at + 1 + 1) n) + 2 ≡ n - at = omega (arith, length-range words (at + 1 + 1) n k) in
    ap (is_custom token) (range_cons words (at + 1) n h k) ∙ ap (is_custom_size (class_of token) (slice_index words (at + 1))) e

pub no_size : (words : List ℕ) (n at token : ℕ) → n - at < 2 → is_custom token (slice_range words (at + 1) n) ≡ false
no_size words n at token h =
    let e : n - (at + 1) ≡ 0 = omega arith in
    ap (λ m. is_custom token (take m (drop (at + 1) words))) e

pub custom_bounds : (class size room : ℕ) → is_custom_size class size room ≡ true → (class ≤ 3) × (2 ≤ size) × (size ≤ room)
custom_bounds class size room h = (grind (arith, nat_tests), grind (arith, nat_tests), grind (arith, nat_tests))

last_of_four : (a b c d : Bool) → (a && (b && (c && d))) ≡ true → d ≡ true
last_of_four true true true d h = h
last_of_four true true false d h = cc
last_of_four true false c d h = cc
last_of_four false b c d h = cc

pub custom_vectors : (class size room : ℕ) → is_custom_size class size room ≡ true → class ≡ 3 → is_vectors (size - 2) ≡ true
custom_vectors class size room h e =
    let f : nat_eq class 3 ≡ true = grind (arith, nat_tests) in
    sym (ap (λ b. not b || is_vectors (size - 2)) f)
    ∙ last_of_four (nat_le class 3) (nat_le 2 size) (nat_le size room) (not (nat_eq class 3) || is_vectors (size - 2)) h

custom_parts : (words : List ℕ) (at end : ℕ) → at + 1 < end → end ≤ length words → end ≡ at + slice_index words (at + 1)
    → slice_range words at end ≡ slice_index words at ∷ (length (slice_range words (at + 2) end) + 2) ∷ slice_range words (at + 2) end
custom_parts words at end h k e =
    let two : at + 1 + 1 ≡ at + 2 = omega arith in
    let size : slice_index words (at + 1) ≡ length (slice_range words (at + 2) end) + 2 = omega (arith, length-range words (at + 2) end k) in
    range_cons words at end (omega arith) k
    ∙ ap (λ l. slice_index words at ∷ l) (range_cons words (at + 1) end h k
    ∙ (ap (λ m. slice_index words (at + 1) ∷ slice_range words m end) two ∙ ap (λ m. m ∷ slice_range words (at + 2) end) size))

-- what custom data spells
pub custom_spelled : (profile : Profile) (words : List ℕ) (n at : ℕ) (e : Extent) → at + 1 < n → n ≤ length words → opcode_of (slice_index words at) ≡ 53
    → is_custom_size (class_of (slice_index words at)) (slice_index words (at + 1)) (n - at) ≡ true
    → e.code ≡ opcode_of (slice_index words at) → e.controls ≡ controls_of (slice_index words at) → e.first ≡ at + 1 → e.end ≡ at + slice_index words (at + 1)
    → IsExtent profile words n at e
custom_spelled profile words n at e h k custom sound code controls first_is size =
    let b = custom_bounds (class_of (slice_index words at)) (slice_index words (at + 1)) (n - at) sound in
    let m : length (slice_range words (at + 2) e.end) ≡ slice_index words (at + 1) - 2 = omega (arith, length-range words (at + 2) e.end (omega (arith, b.2)), b.1) in
    record {
      code_is = code;
      controls_are = controls;
      begins = omega arith;
      order = omega (arith, b.1);
      ends = omega (arith, b.2);
      spelled = subst (λ t. IsCut t profile words at e) (sym (ap (λ m. nat_eq m 53) (code ∙ custom))) (
        first_is,
        record {
          token = slice_index words at;
          parts = custom_parts words at e.end (omega (arith, b.1)) (omega (arith, b.2)) size;
          code = custom;
          kind_is = refl;
          known = b.0;
          vectors = λ three. ap is_vectors m ∙ custom_vectors (class_of (slice_index words at)) (slice_index words (at + 1)) (n - at) sound three;
        },
      );
    }

-- where the opcode token itself breaks no rule
pub head_in_program : (profile : Profile) (words : List ℕ) (n at token : ℕ) → at < n → n ≤ length words → first_rule (head_tests profile (n - at) token) ≡ None
    → first (head_faults profile nothing at token (slice_range words (at + 1) n)) ≡ first (chain_faults Opcode (follows token) nothing (at + 1) (slice_range words (at + 1) (at + length_of token)))
head_in_program profile words n at token h k none =
    let l = sound_length profile (n - at) token none in
    first_in_program profile words n at token h k
    ∙ (ap (λ o. by_rule o at (first (chain_faults Opcode (follows token) nothing (at + 1) (take (length_of token - 1) (slice_range words (at + 1) n))))) none
    ∙ ap (λ ws. first (chain_faults Opcode (follows token) nothing (at + 1) ws)) (words_behind words n at (length_of token) l.0 l.1))
