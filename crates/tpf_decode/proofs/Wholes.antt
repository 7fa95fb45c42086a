-- Whole operands: their refusals, in order.
use Rattle.std.proofs.Common.{◌≡◌, ℕ, ◌+◌, ◌<◌, ◌≤◌, List, [], ◌∷◌, length, drop, Option, Some, None, Bool, true, false, not, ◌&&◌, ◌||◌, refl, sym, ap, ◌∙◌, arith}
use Rattle.std.specs.Prelude.{slice_range, slice_index, nat_lt, if◌then◌else◌}
use Rattle.std.specs.List.{list_all}
use Rattle.word_base.specs.declared.rule.Rule.{Rule}
use Rattle.word_base.specs.declared.rule.Rule.TheVariants.{K6, K7, K8, K9, K11}
use Rattle.word_base.specs.declared.rule.Refusal.{Refusal}
use Rattle.word_base.specs.Rules.{broken, refusal, first}
use Rattle.tpf_decode.specs.declared.argument.Kind.{Kind}
use Rattle.tpf_decode.specs.declared.argument.Role.{Role}
use Rattle.tpf_decode.specs.declared.argument.Argument.{Argument}
use Rattle.tpf_decode.specs.declared.chain.Extended.{Extended}
use Rattle.tpf_decode.specs.declared.chain.Extended.TheVariants.{Operand}
use Rattle.tpf_decode.specs.Profiles.{Profile}
use Rattle.tpf_decode.specs.Tokens.{follows, kind_of, has_selection, select_of, fixed_of, fixed_count, element_of, has_relative, immediate_count}
use Rattle.tpf_decode.specs.Roles.{may_negate, is_relative, is_allowed, takes, has_indices, is_declaration}
use Rattle.tpf_decode.specs.Spelling.{IsChain, SpellsToken}
use Rattle.tpf_decode.specs.Refusals.{Rest, nothing, IsOrderly, is_taken, rule_of, chain_faults, breaks, broken_at, first_rule, selects, allows, indexes, token_tests, behind_words, place_count, relative_faults, element_faults, behind_faults, operand_faults}
use Rattle.tpf_decode.proofs.Ranges.{range_cons}
use Rattle.tpf_decode.proofs.Order.{IsRising, by_rule, first_of_tests, first_broken, behind_place, StandsFrom-append, StandsFrom-broken, StandsFrom-tests, stands_earlier}
use Rattle.tpf_decode.proofs.Chains.{chain_orderly, first_of_chain, nothing_orderly, leads_of, first_behind}
use Rattle.tpf_decode.proofs.Operands.{words_orderly}

relative_orderly : (b : Bool) (rest : Rest) → IsOrderly rest → IsOrderly (relative_faults b rest)
relative_orderly false rest o at words = o at words
relative_orderly true rest o at [] = (refl, omega arith, tt)
relative_orderly true rest o at (token ∷ words) =
    StandsFrom-append at (broken (not (is_relative token)) K9 at) (behind_words (place_count (kind_of token)) rest (at + 1) words)
    (StandsFrom-broken (not (is_relative token)) K9 at refl)
    (stands_earlier at (at + 1) (behind_words (place_count (kind_of token)) rest (at + 1) words) (omega arith) (words_orderly (place_count (kind_of token)) rest o words (at + 1)))

element_orderly : (representation : Option ℕ) (rest : Rest) → IsOrderly rest → IsOrderly (element_faults representation rest)
element_orderly None rest o at words = o at words
element_orderly (Some r) rest o at words = words_orderly (immediate_count r) (relative_faults (has_relative r) rest) (relative_orderly (has_relative r) rest o) words at

pub behind_orderly : (kind : Option Kind) (token : ℕ) (rest : Rest) → IsOrderly rest → IsOrderly (behind_faults kind token rest)
behind_orderly None token rest o at words = tt
behind_orderly (Some k) token rest o at words =
    words_orderly (fixed_count (fixed_of k token)) (element_faults (element_of k token) rest) (element_orderly (element_of k token) rest o) words at

token_rising : (profile : Profile) (code : ℕ) (role : Role) (kind : Option Kind) (token : ℕ) → IsRising 0 (token_tests profile code role kind token)
token_rising profile code role kind token = (refl, omega arith, (refl, omega arith, (refl, omega arith, tt)))

pub operand_orderly : (profile : Profile) (code : ℕ) (role : Role) (rest : Rest) → IsOrderly rest → IsOrderly (operand_faults profile code role rest)
operand_orderly profile code role rest o at [] = (refl, omega arith, tt)
operand_orderly profile code role rest o at (token ∷ words) =
    StandsFrom-append at (broken_at at (token_tests profile code role (kind_of token) token))
    (chain_faults (Operand (may_negate profile code role)) (follows token) (behind_faults (kind_of token) token rest) (at + 1) words)
    (StandsFrom-tests at 0 (token_tests profile code role (kind_of token) token) (token_rising profile code role (kind_of token) token))
    (stands_earlier at (at + 1) (chain_faults (Operand (may_negate profile code role)) (follows token) (behind_faults (kind_of token) token rest) (at + 1) words) (omega arith)
    (chain_orderly (Operand (may_negate profile code role)) (follows token) (behind_faults (kind_of token) token rest) (behind_orderly (kind_of token) token rest o) words (at + 1)))

-- the first refusal of an operand, by its token
pub first_of_operand : (profile : Profile) (code : ℕ) (role : Role) (rest : Rest) (at token : ℕ) (words : List ℕ) → IsOrderly rest
    → first (operand_faults profile code role rest at (token ∷ words)) ≡ by_rule (first_rule (token_tests profile code role (kind_of token) token)) at (first (chain_faults (Operand (may_negate profile code role)) (follows token) (behind_faults (kind_of token) token rest) (at + 1) words))
first_of_operand profile code role rest at token words o =
    first_of_tests 0 at (token_tests profile code role (kind_of token) token)
    (chain_faults (Operand (may_negate profile code role)) (follows token) (behind_faults (kind_of token) token rest) (at + 1) words)
    (token_rising profile code role (kind_of token) token)
    (chain_orderly (Operand (may_negate profile code role)) (follows token) (behind_faults (kind_of token) token rest) (behind_orderly (kind_of token) token rest o) words (at + 1))

-- a chain that is refused is refused whatever stands behind it
pub refused_chain : (of : Extended) (more : Bool) (rest : Rest) → IsOrderly rest → (words : List ℕ) (at : ℕ) (r : Refusal) → Some r ≡ first (chain_faults of more nothing at words)
    → first (chain_faults of more rest at words) ≡ Some r
refused_chain of false rest o words at r h = cc
refused_chain of true rest o [] at r h = sym h
refused_chain of true rest o (token ∷ words) at r h =
    first_of_chain of rest o token words at
    ∙ by_test (is_taken of token) (first (chain_faults of (follows token) nothing (at + 1) words)) (first (chain_faults of (follows token) rest (at + 1) words))
    (h ∙ first_of_chain of nothing nothing_orderly token words at) (refused_chain of (follows token) rest o words (at + 1) r)
  where
    by_test : (b : Bool) (m n : Option Refusal) → Some r ≡ (if not b then Some (refusal (rule_of of) at) else m) → (Some r ≡ m → n ≡ Some r)
        → (if not b then Some (refusal (rule_of of) at) else n) ≡ Some r
    by_test true m n e k = k e
    by_test false m n e k = sym e

-- a chain that is taken
pub passed_chain : (of : Extended) (more : Bool) (rest : Rest) (words : List ℕ) (start place end : ℕ) → start ≤ place → place ≤ end → end ≤ length words
    → IsChain more (slice_range words start place) → list_all (is_taken of) (slice_range words start place) ≡ true
    → chain_faults of more rest start (slice_range words start end) ≡ rest place (slice_range words place end)
passed_chain of more rest words start place end h k l chain taken =
    first_behind of words more false start place end rest
    (record { from = h; upto = k; leads = leads_of more (slice_range words start place) chain; taken = taken }) l refl

three_none : (a b c : Bool) (r s t : Rule) → first_rule (breaks a r ∷ breaks b s ∷ breaks c t ∷ []) ≡ None → (a ≡ false) × (b ≡ false) × (c ≡ false)
three_none true b c r s t h = cc
three_none false true c r s t h = cc
three_none false false true r s t h = cc
three_none false false false r s t h = (refl, refl, refl)

not_false : (b : Bool) → not b ≡ false → b ≡ true
not_false true h = refl
not_false false h = cc

all_hold : (selected allowed taken : Bool) → (selected && (not allowed || taken)) ≡ true → allowed ≡ true → (selected ≡ true) × (taken ≡ true)
all_hold true true true h k = (refl, refl)
all_hold true true false h k = cc
all_hold true false taken h k = cc
all_hold false allowed taken h k = cc

-- what an operand token that breaks no rule spells
pub token_spelled : (profile : Profile) (code : ℕ) (role : Role) (token : ℕ) (kind : Kind) (a : Argument) → kind_of token ≡ Some kind → first_rule (token_tests profile code role (Some kind) token) ≡ None
    → a.kind ≡ kind → a.select ≡ select_of kind token → SpellsToken profile code role a token
token_spelled profile code role token kind a k none same select =
    let t = three_none (not (selects profile code role (Some kind) token)) (not (allows profile code role (Some kind))) (not (indexes (is_declaration profile code) (Some kind) token)) K6 K7 K8 none in
    let allowed = not_false (is_allowed profile code role kind) t.1 in
    let held = all_hold (has_selection token) (is_allowed profile code role kind) (takes code role kind token) (not_false (selects profile code role (Some kind) token) t.0) allowed in
    record {
      kind = k ∙ ap (λ x. Some x) (sym same);
      allowed = ap (is_allowed profile code role) same ∙ allowed;
      selection = held.0;
      taken = ap (λ x. takes code role x token) same ∙ held.1;
      select = select ∙ ap (λ x. select_of x token) (sym same);
      indices = ap (λ x. has_indices (is_declaration profile code) x token) same ∙ not_false (has_indices (is_declaration profile code) kind token) t.2;
    }

-- the same of the words of a program
pub first_in_operand : (profile : Profile) (code : ℕ) (role : Role) (rest : Rest) (words : List ℕ) (at end token : ℕ) → IsOrderly rest → at < end → end ≤ length words → token ≡ slice_index words at
    → first (operand_faults profile code role rest at (slice_range words at end)) ≡ by_rule (first_rule (token_tests profile code role (kind_of token) token)) at (first (chain_faults (Operand (may_negate profile code role)) (follows token) (behind_faults (kind_of token) token rest) (at + 1) (slice_range words (at + 1) end)))
first_in_operand profile code role rest words at end token o h k e =
    ap (λ l. first (operand_faults profile code role rest at l)) (range_cons words at end h k ∙ ap (λ t. t ∷ slice_range words (at + 1) end) (sym e))
    ∙ first_of_operand profile code role rest at token (slice_range words (at + 1) end) o

-- where the token breaks no rule, the first refusal stands behind it
pub behind_sound_token : (profile : Profile) (code : ℕ) (role : Role) (rest : Rest) (words : List ℕ) (at end token : ℕ) (kind : Kind) → IsOrderly rest → at < end → end ≤ length words → token ≡ slice_index words at
    → kind_of token ≡ Some kind → first_rule (token_tests profile code role (Some kind) token) ≡ None
    → first (operand_faults profile code role rest at (slice_range words at end)) ≡ first (chain_faults (Operand (may_negate profile code role)) (follows token) (behind_faults (Some kind) token rest) (at + 1) (slice_range words (at + 1) end))
behind_sound_token profile code role rest words at end token kind o h k e t none =
    first_in_operand profile code role rest words at end token o h k e
    ∙ (ap (λ x. by_rule (first_rule (token_tests profile code role x token)) at (first (chain_faults (Operand (may_negate profile code role)) (follows token) (behind_faults x token rest) (at + 1) (slice_range words (at + 1) end)))) t
    ∙ ap (λ x. by_rule x at (first (chain_faults (Operand (may_negate profile code role)) (follows token) (behind_faults (Some kind) token rest) (at + 1) (slice_range words (at + 1) end)))) none)

pub chosen_first : (o : Option Rule) (at : ℕ) (m n : Option Refusal) (r : Refusal) → by_rule o at m ≡ Some r → (m ≡ Some r → n ≡ Some r) → by_rule o at n ≡ Some r
chosen_first None at m n r h k = k h
chosen_first (Some rule) at m n r h k = h

-- what stands behind an operand's tokens is refused whatever follows
words_refused : (count : ℕ) (rest more : Rest) (words : List ℕ) (at : ℕ) (r : Refusal) → ((n : ℕ) (ws : List ℕ) → first (rest n ws) ≡ Some r → first (more n ws) ≡ Some r)
    → first (behind_words count rest at words) ≡ Some r → first (behind_words count more at words) ≡ Some r
words_refused count rest more words at r k h = by_test (nat_lt (length words) count) h
  where
    by_test : (b : Bool) → first (if b then refusal K11 (at + length words) ∷ [] else rest (at + count) (drop count words)) ≡ Some r → first (if b then refusal K11 (at + length words) ∷ [] else more (at + count) (drop count words)) ≡ Some r
    by_test true h = h
    by_test false h = k (at + count) (drop count words) h

nothing_refused : (r : Refusal) (rest : Rest) (at : ℕ) (words : List ℕ) → first (nothing at words) ≡ Some r → first (rest at words) ≡ Some r
nothing_refused r rest at words h = cc

relative_refused : (b : Bool) (rest : Rest) → IsOrderly rest → (at : ℕ) (words : List ℕ) (r : Refusal) → first (relative_faults b nothing at words) ≡ Some r → first (relative_faults b rest at words) ≡ Some r
relative_refused false rest o at words r h = cc
relative_refused true rest o at [] r h = h
relative_refused true rest o at (token ∷ words) r h =
    let count = place_count (kind_of token) in
    first_broken (not (is_relative token)) K9 at (behind_words count rest (at + 1) words) (behind_place K9 at (behind_words count rest (at + 1) words) refl (words_orderly count rest o words (at + 1)))
    ∙ by_test (not (is_relative token)) (first (behind_words count nothing (at + 1) words)) (first (behind_words count rest (at + 1) words))
    (sym (first_broken (not (is_relative token)) K9 at (behind_words count nothing (at + 1) words) (behind_place K9 at (behind_words count nothing (at + 1) words) refl (words_orderly count nothing nothing_orderly words (at + 1)))) ∙ h)
    (words_refused count nothing rest words (at + 1) r (nothing_refused r rest))
  where
    by_test : (b : Bool) (m n : Option Refusal) → (if b then Some (refusal K9 at) else m) ≡ Some r → (m ≡ Some r → n ≡ Some r) → (if b then Some (refusal K9 at) else n) ≡ Some r
    by_test true m n e k = e
    by_test false m n e k = k e

element_refused : (o : Option ℕ) (rest : Rest) → IsOrderly rest → (at : ℕ) (words : List ℕ) (r : Refusal) → first (element_faults o nothing at words) ≡ Some r → first (element_faults o rest at words) ≡ Some r
element_refused None rest o at words r h = cc
element_refused (Some n) rest o at words r h =
    words_refused (immediate_count n) (relative_faults (has_relative n) nothing) (relative_faults (has_relative n) rest) words at r
    (λ m ws. relative_refused (has_relative n) rest o m ws r) h

behind_refused : (kind : Option Kind) (token : ℕ) (rest : Rest) → IsOrderly rest → (at : ℕ) (words : List ℕ) (r : Refusal) → first (behind_faults kind token nothing at words) ≡ Some r → first (behind_faults kind token rest at words) ≡ Some r
behind_refused None token rest o at words r h = cc
behind_refused (Some k) token rest o at words r h =
    words_refused (fixed_count (fixed_of k token)) (element_faults (element_of k token) nothing) (element_faults (element_of k token) rest) words at r
    (λ m ws. element_refused (element_of k token) rest o m ws r) h

-- the same of a chain, where what stands behind it differs
chain_refused : (of : Extended) (more : Bool) (rest other : Rest) → IsOrderly rest → IsOrderly other → (r : Refusal) → ((n : ℕ) (ws : List ℕ) → first (rest n ws) ≡ Some r → first (other n ws) ≡ Some r)
    → (words : List ℕ) (at : ℕ) → first (chain_faults of more rest at words) ≡ Some r → first (chain_faults of more other at words) ≡ Some r
chain_refused of false rest other o p r k words at h = k at words h
chain_refused of true rest other o p r k [] at h = h
chain_refused of true rest other o p r k (token ∷ words) at h =
    first_of_chain of other p token words at
    ∙ by_test (not (is_taken of token)) (first (chain_faults of (follows token) rest (at + 1) words)) (first (chain_faults of (follows token) other (at + 1) words))
    (sym (first_of_chain of rest o token words at) ∙ h) (chain_refused of (follows token) rest other o p r k words (at + 1))
  where
    by_test : (b : Bool) (m n : Option Refusal) → (if b then Some (refusal (rule_of of) at) else m) ≡ Some r → (m ≡ Some r → n ≡ Some r) → (if b then Some (refusal (rule_of of) at) else n) ≡ Some r
    by_test true m n e k = e
    by_test false m n e k = k e

-- what is refused of an operand is refused before the rest
pub operand_refused : (profile : Profile) (code : ℕ) (role : Role) (rest : Rest) (at : ℕ) (words : List ℕ) (r : Refusal) → IsOrderly rest
    → first (operand_faults profile code role nothing at words) ≡ Some r → first (operand_faults profile code role rest at words) ≡ Some r
operand_refused profile code role rest at [] r o h = h
operand_refused profile code role rest at (token ∷ words) r o h =
    let of = Operand (may_negate profile code role) in
    let kind = kind_of token in
    first_of_operand profile code role rest at token words o
    ∙ chosen_first (first_rule (token_tests profile code role kind token)) at
    (first (chain_faults of (follows token) (behind_faults kind token nothing) (at + 1) words)) (first (chain_faults of (follows token) (behind_faults kind token rest) (at + 1) words)) r
    (sym (first_of_operand profile code role nothing at token words nothing_orderly) ∙ h)
    (chain_refused of (follows token) (behind_faults kind token nothing) (behind_faults kind token rest) (behind_orderly kind token nothing nothing_orderly) (behind_orderly kind token rest o) r
    (λ n ws. behind_refused kind token rest o n ws r) words (at + 1))
