-- The rules of an opcode token that come before a missing word at its place.
use Rattle.std.proofs.Common.{◌≡◌, ℕ, ◌+◌, ◌-◌, ◌<◌, ◌≤◌, List, [], ◌∷◌, ◌++◌, length, take, Some, None, Bool, true, false, not, nat_eq, refl, sym, ap, ◌∙◌, subst, arith, append_assoc}
use Rattle.std.specs.Prelude.{slice_index, slice_range, if◌then◌else◌}
use Rattle.word_base.specs.declared.rule.Rule.{Rule}
use Rattle.word_base.specs.declared.rule.Rule.TheVariants.{K3, K4, K11, K12, K13, K14, K15}
use Rattle.word_base.specs.declared.rule.Refusal.{Refusal}
use Rattle.word_base.specs.Rules.{broken, refusal, first}
use Rattle.tpf_decode.specs.declared.chain.Extended.TheVariants.{Opcode}
use Rattle.tpf_decode.specs.Profiles.{Base}
use Rattle.tpf_decode.specs.Tokens.{opcode_of, length_of, follows}
use Rattle.tpf_decode.specs.Declarations.{is_known}
use Rattle.tpf_decode.specs.Refusals.{StandsFrom, Test, broken_at, breaks, first_rule, chain_faults, is_wrong_length, saturates, has_wrong_sync, has_wrong_flags, head_tests, head_faults, is_custom, is_custom_data}
use Rattle.tpf_decode.proofs.Order.{NotBefore, NotBefore-append, behind_place, same_place, by_rule, first_of_tests, StandsFrom-append}
use Rattle.tpf_decode.proofs.Chains.{chain_orderly}
use Rattle.tpf_decode.proofs.Ranges.{range_cons, length-range}
use Rattle.tpf_program.specs.Reading.{parts_faults}
use Rattle.tpf_program.specs.Faults.{part_size, body_faults, early_of, early_rule}
use Rattle.tpf_program.proofs.Behind.{parts_orderly}
use Rattle.tpf_program.proofs.Bounds.{head_rising}
use Rattle.tpf_program.proofs.Reach.{body_orderly}

-- what stands behind an opcode token, in the part and behind it
chain_at : ℕ → ℕ → List ℕ → List Refusal
chain_at at token words = chain_faults Opcode (follows token) (parts_faults (opcode_of token)) (at + 1) (take (length_of token - 1) words)

later_at : ℕ → ℕ → List ℕ → List Refusal
later_at at token words = if nat_eq (part_size (token ∷ words)) 0 then [] else body_faults Base (part_size (token ∷ words) - 1) (at + 1) words

chain_stands : (at token : ℕ) (words : List ℕ) → StandsFrom (at + 1) (chain_at at token words)
unfolding chain_at
chain_stands at token words = chain_orderly Opcode (follows token) (parts_faults (opcode_of token)) (parts_orderly (opcode_of token)) (take (length_of token - 1) words) (at + 1)

later_stands : (at token : ℕ) (words : List ℕ) → StandsFrom (at + 1) (later_at at token words)
unfolding later_at
later_stands at token words = by_test (nat_eq (part_size (token ∷ words)) 0) (body_orderly (part_size (token ∷ words) - 1) (at + 1) words)
  where
    by_test : (b : Bool) → StandsFrom (at + 1) (body_faults Base (part_size (token ∷ words) - 1) (at + 1) words) → StandsFrom (at + 1) (if b then [] else body_faults Base (part_size (token ∷ words) - 1) (at + 1) words)
    by_test true h = tt
    by_test false h = h

body_custom : (at token : ℕ) (words : List ℕ) → is_custom_data token ≡ true → body_faults Base 0 at (token ∷ words) ≡ broken (not (is_custom token words)) K13 at ++ later_at at token words
unfolding body_faults later_at
body_custom at token words c =
    ap (λ b. (if b then broken (not (is_custom token words)) K13 at else head_faults Base (parts_faults (opcode_of token)) at token words) ++ later_at at token words) c

body_head : (at token : ℕ) (words : List ℕ) → is_custom_data token ≡ false
    → body_faults Base 0 at (token ∷ words) ≡ broken_at at (head_tests Base (length words + 1) token) ++ (chain_at at token words ++ later_at at token words)
unfolding body_faults later_at chain_at
body_head at token words c =
    ap (λ b. (if b then broken (not (is_custom token words)) K13 at else head_faults Base (parts_faults (opcode_of token)) at token words) ++ later_at at token words) c
    ∙ append_assoc (broken_at at (head_tests Base (length words + 1) token)) (chain_at at token words) (later_at at token words)

two_rules : (a b : Bool) (rule : Rule) (tests : List Test) → first_rule (breaks a K3 ∷ breaks b K4 ∷ []) ≡ Some rule → first_rule (breaks a K3 ∷ breaks b K4 ∷ tests) ≡ Some rule
two_rules true b rule tests h = h
two_rules false true rule tests h = h
two_rules false false rule tests h = cc

-- a rule that comes early is the first from its place on
pub early_first : (at : ℕ) (words : List ℕ) (rule : Rule) → early_rule words ≡ Some rule → first (body_faults Base 0 at words) ≡ Some (refusal rule at)
early_first at [] rule h = cc
early_first at (token ∷ words) rule h = by_test (is_custom_data token) refl h
  where
    by_test : (b : Bool) → is_custom_data token ≡ b
        → (if b then None else first_rule (breaks (is_wrong_length (length words + 1) token) K3 ∷ breaks (not (is_known Base (opcode_of token))) K4 ∷ [])) ≡ Some rule → first (body_faults Base 0 at (token ∷ words)) ≡ Some (refusal rule at)
    by_test true c h = cc
    by_test false c h =
        let behind = chain_at at token words ++ later_at at token words in
        let t = two_rules (is_wrong_length (length words + 1) token) (not (is_known Base (opcode_of token))) rule
        (breaks (saturates Base token) K12 ∷ breaks (has_wrong_sync token) K14 ∷ breaks (has_wrong_flags token) K15 ∷ []) h in
        ap first (body_head at token words c)
        ∙ (first_of_tests 0 at (head_tests Base (length words + 1) token) behind (head_rising (length words + 1) token)
        (StandsFrom-append (at + 1) (chain_at at token words) (later_at at token words) (chain_stands at token words) (later_stands at token words))
        ∙ ap (λ o. by_rule o at (first behind)) t)

no_rules : (a b : Bool) → first_rule (breaks a K3 ∷ breaks b K4 ∷ []) ≡ None → (a ≡ false) × (b ≡ false)
no_rules true b h = cc
no_rules false true h = cc
no_rules false false h = (refl, refl)

tests_behind : (at : ℕ) (a b c d e : Bool) → a ≡ false → b ≡ false → NotBefore (refusal K11 at) (broken_at at (breaks a K3 ∷ breaks b K4 ∷ breaks c K12 ∷ breaks d K14 ∷ breaks e K15 ∷ []))
tests_behind at true b c d e h k = cc
tests_behind at false true c d e h k = cc
tests_behind at false false c d e h k =
    NotBefore-append (refusal K11 at) (broken c K12 at) (broken d K14 at ++ (broken e K15 at ++ [])) (same_place K11 K12 at c refl refl (omega arith))
    (NotBefore-append (refusal K11 at) (broken d K14 at) (broken e K15 at ++ []) (same_place K11 K14 at d refl refl (omega arith))
    (NotBefore-append (refusal K11 at) (broken e K15 at) [] (same_place K11 K15 at e refl refl (omega arith)) tt))

-- without one, nothing from the place on comes before a missing word there
pub none_early : (at : ℕ) (words : List ℕ) → early_rule words ≡ None → NotBefore (refusal K11 at) (body_faults Base 0 at words)
unfolding body_faults
none_early at [] h = tt
none_early at (token ∷ words) h = by_test (is_custom_data token) refl h
  where
    by_test : (b : Bool) → is_custom_data token ≡ b
        → (if b then None else first_rule (breaks (is_wrong_length (length words + 1) token) K3 ∷ breaks (not (is_known Base (opcode_of token))) K4 ∷ [])) ≡ None → NotBefore (refusal K11 at) (body_faults Base 0 at (token ∷ words))
    by_test true c h =
        subst (NotBefore (refusal K11 at)) (sym (body_custom at token words c))
        (NotBefore-append (refusal K11 at) (broken (not (is_custom token words)) K13 at) (later_at at token words)
        (same_place K11 K13 at (not (is_custom token words)) refl refl (omega arith)) (behind_place K11 at (later_at at token words) refl (later_stands at token words)))
    by_test false c h =
        let t = no_rules (is_wrong_length (length words + 1) token) (not (is_known Base (opcode_of token))) h in
        subst (NotBefore (refusal K11 at)) (sym (body_head at token words c))
        (NotBefore-append (refusal K11 at) (broken_at at (head_tests Base (length words + 1) token)) (chain_at at token words ++ later_at at token words)
        (tests_behind at (is_wrong_length (length words + 1) token) (not (is_known Base (opcode_of token))) (saturates Base token) (has_wrong_sync token) (has_wrong_flags token) t.0 t.1)
        (NotBefore-append (refusal K11 at) (chain_at at token words) (later_at at token words)
        (behind_place K11 at (chain_at at token words) refl (chain_stands at token words)) (behind_place K11 at (later_at at token words) refl (later_stands at token words))))

-- the token at a place, and the words that it has
pub early_there : (words : List ℕ) (at n : ℕ) → at < n → n ≤ length words → early_rule (slice_range words at n) ≡ early_of (n - at) (slice_index words at)
early_there words at n h k =
    let e : length (slice_range words (at + 1) n) + 1 ≡ n - at = omega (arith, length-range words (at + 1) n k) in
    ap early_rule (range_cons words at n h k) ∙ ap (λ m. early_of m (slice_index words at)) e
