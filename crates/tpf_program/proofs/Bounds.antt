-- What is refused of a part stands before its end, but for a missing word, which stands there.
use Rattle.std.proofs.Common.{◌≡◌, ℕ, zero, suc, ◌+◌, ◌-◌, ◌<◌, ◌≤◌, ◌⊎◌, inl, inr, List, [], ◌∷◌, ◌++◌, length, take, drop, Option, Some, None, Bool, true, false, not, refl, subst, arith}
use Rattle.std.specs.Prelude.{nat_lt, slice_index_or, if◌then◌else◌}
use Rattle.std.proofs.lemmas.Bool.Decides.{nat_tests}
use Rattle.std.proofs.lemmas.List.{length-take, length-drop}
use Rattle.word_base.specs.declared.rule.Rule.{Rule}
use Rattle.word_base.specs.declared.rule.Rule.TheVariants.{K9, K11}
use Rattle.word_base.specs.declared.rule.Refusal.{Refusal}
use Rattle.word_base.specs.Rules.{broken, order_of, refusal}
use Rattle.tpf_decode.specs.declared.argument.Kind.{Kind}
use Rattle.tpf_decode.specs.declared.argument.Role.{Role}
use Rattle.tpf_decode.specs.declared.chain.Extended.{Extended}
use Rattle.tpf_decode.specs.declared.chain.Extended.TheVariants.{Opcode, Operand}
use Rattle.tpf_decode.specs.Profiles.{Base}
use Rattle.tpf_decode.specs.Tokens.{length_of, follows, kind_of, fixed_of, fixed_count, element_of, has_relative, immediate_count}
use Rattle.tpf_decode.specs.Roles.{may_negate, is_relative}
use Rattle.tpf_decode.specs.Declarations.{layout_of, roles_at}
use Rattle.tpf_decode.specs.Spelling.{further_words}
use Rattle.tpf_decode.specs.Refusals.{Rest, Test, broken_at, no_more, behind_words, is_taken, rule_of, chain_faults, token_tests, place_count, relative_faults, element_faults, behind_faults, operand_faults, operands_faults, head_tests, head_faults}
use Rattle.tpf_decode.proofs.Order.{IsRising}
use Rattle.tpf_decode.proofs.Chains.{phase_of}
use Rattle.tpf_program.specs.Reading.{parts_faults}

abbrev pub IsWithin : ℕ → Refusal → Type 0
IsWithin end r = ((order_of r.rule).phase ≡ 5) × ((r.place < end) ⊎ ((r.place ≡ end) × (r.rule ≡ K11)))

abbrev pub AreWithin : ℕ → List Refusal → Type 0
AreWithin end [] = Unit {0}
AreWithin end (r ∷ rs) = IsWithin end r × AreWithin end rs

abbrev pub IsBounded : ℕ → Rest → Type 0
IsBounded end rest = (at : ℕ) (words : List ℕ) → at + length words ≡ end → AreWithin end (rest at words)

within_append : (end : ℕ) (ps qs : List Refusal) → AreWithin end ps → AreWithin end qs → AreWithin end (ps ++ qs)
within_append end [] qs h k = k
within_append end (p ∷ ps) qs h k = (h.0, within_append end ps qs h.1 k)

within_broken : (end : ℕ) (t : Bool) (rule : Rule) (at : ℕ) → (order_of rule).phase ≡ 5 → at < end → AreWithin end (broken t rule at)
within_broken end true rule at h k = ((h, inl k), tt)
within_broken end false rule at h k = tt

within_tests : (end at low : ℕ) (tests : List Test) → IsRising low tests → at < end → AreWithin end (broken_at at tests)
within_tests end at low [] r h = tt
within_tests end at low (test ∷ tests) r h =
    within_append end (broken test.holds test.rule at) (broken_at at tests) (within_broken end test.holds test.rule at r.0 h) (within_tests end at (order_of test.rule).number tests r.2 h)

no_more_bounded : (end : ℕ) → IsBounded end no_more
no_more_bounded end at [] e = tt
no_more_bounded end at (w ∷ words) e = ((refl, inl (omega arith)), tt)

words_bounded : (end count : ℕ) (rest : Rest) → IsBounded end rest → IsBounded end (behind_words count rest)
words_bounded end count rest h at words e = by_test (nat_lt (length words) count) refl
  where
    by_test : (b : Bool) → b ≡ nat_lt (length words) count → AreWithin end (if b then refusal K11 (at + length words) ∷ [] else rest (at + count) (drop count words))
    by_test true s = ((refl, inr (e, refl)), tt)
    by_test false s =
        let l : count ≤ length words = grind (arith, nat_tests) in
        h (at + count) (drop count words) (omega (arith, length-drop count words))

relative_bounded : (end : ℕ) (b : Bool) (rest : Rest) → IsBounded end rest → IsBounded end (relative_faults b rest)
relative_bounded end false rest h at words e = h at words e
relative_bounded end true rest h at [] e = let n : at ≡ end = omega arith in ((refl, inr (n, refl)), tt)
relative_bounded end true rest h at (token ∷ words) e =
    within_append end (broken (not (is_relative token)) K9 at) (behind_words (place_count (kind_of token)) rest (at + 1) words)
    (within_broken end (not (is_relative token)) K9 at refl (omega arith)) (words_bounded end (place_count (kind_of token)) rest h (at + 1) words (omega arith))

element_bounded : (end : ℕ) (o : Option ℕ) (rest : Rest) → IsBounded end rest → IsBounded end (element_faults o rest)
element_bounded end None rest h at words e = h at words e
element_bounded end (Some r) rest h at words e = words_bounded end (immediate_count r) (relative_faults (has_relative r) rest) (relative_bounded end (has_relative r) rest h) at words e

behind_bounded : (end : ℕ) (kind : Option Kind) (token : ℕ) (rest : Rest) → IsBounded end rest → IsBounded end (behind_faults kind token rest)
behind_bounded end None token rest h at words e = tt
behind_bounded end (Some k) token rest h at words e =
    words_bounded end (fixed_count (fixed_of k token)) (element_faults (element_of k token) rest) (element_bounded end (element_of k token) rest h) at words e

chain_bounded : (end : ℕ) (of : Extended) (more : Bool) (rest : Rest) → IsBounded end rest → (words : List ℕ) (at : ℕ) → at + length words ≡ end → AreWithin end (chain_faults of more rest at words)
chain_bounded end of false rest h words at e = h at words e
chain_bounded end of true rest h [] at e = let n : at ≡ end = omega arith in ((refl, inr (n, refl)), tt)
chain_bounded end of true rest h (token ∷ words) at e =
    within_append end (broken (not (is_taken of token)) (rule_of of) at) (chain_faults of (follows token) rest (at + 1) words)
    (within_broken end (not (is_taken of token)) (rule_of of) at (phase_of of) (omega arith)) (chain_bounded end of (follows token) rest h words (at + 1) (omega arith))

operand_bounded : (end code : ℕ) (role : Role) (rest : Rest) → IsBounded end rest → IsBounded end (operand_faults Base code role rest)
operand_bounded end code role rest h at [] e = let n : at ≡ end = omega arith in ((refl, inr (n, refl)), tt)
operand_bounded end code role rest h at (token ∷ words) e =
    let tests = token_tests Base code role (kind_of token) token in
    let behind = behind_faults (kind_of token) token rest in
    within_append end (broken_at at tests) (chain_faults (Operand (may_negate Base code role)) (follows token) behind (at + 1) words)
    (within_tests end at 0 tests (refl, omega arith, (refl, omega arith, (refl, omega arith, tt))) (omega arith))
    (chain_bounded end (Operand (may_negate Base code role)) (follows token) behind (behind_bounded end (kind_of token) token rest h) words (at + 1) (omega arith))

operands_bounded : (end code : ℕ) (roles : List Role) (rest : Rest) → IsBounded end rest → IsBounded end (operands_faults Base code roles rest)
operands_bounded end code [] rest h at words e = h at words e
operands_bounded end code (role ∷ roles) rest h at words e = operand_bounded end code role (operands_faults Base code roles rest) (operands_bounded end code roles rest h) at words e

parts_bounded : (end code : ℕ) → IsBounded end (parts_faults code)
parts_bounded end code at words e =
    operands_bounded end code (roles_at Base code) (behind_words (further_words (layout_of Base code)) no_more)
    (words_bounded end (further_words (layout_of Base code)) no_more (no_more_bounded end)) at words e

pub head_rising : (left token : ℕ) → IsRising 0 (head_tests Base left token)
head_rising left token = (refl, omega arith, (refl, omega arith, (refl, omega arith, (refl, omega arith, (refl, omega arith, tt)))))

pub head_bounded : (at token code : ℕ) (words : List ℕ) → 0 < length_of token → length_of token ≤ length words + 1 → AreWithin (at + length_of token) (head_faults Base (parts_faults code) at token words)
head_bounded at token code words h k =
    let end = at + length_of token in
    let e : at + 1 + length (take (length_of token - 1) words) ≡ end = omega (arith, length-take (length_of token - 1) words) in
    within_append end (broken_at at (head_tests Base (length words + 1) token)) (chain_faults Opcode (follows token) (parts_faults code) (at + 1) (take (length_of token - 1) words))
    (within_tests end at 0 (head_tests Base (length words + 1) token) (head_rising (length words + 1) token) (omega arith))
    (chain_bounded end Opcode (follows token) (parts_faults code) (parts_bounded end code) (take (length_of token - 1) words) (at + 1) e)

-- what is said of all is said of one of them
pub one_within : (end : ℕ) (rs : List Refusal) (k : ℕ) (r : Refusal) → AreWithin end rs → k < length rs → slice_index_or rs k r ≡ r → IsWithin end r
one_within end [] k r h l e = absurd (omega (arith, l))
one_within end (q ∷ rs) zero r h l e = subst (IsWithin end) e h.0
one_within end (q ∷ rs) (suc k) r h l e = one_within end rs k r h.1 (omega (arith, l)) e
