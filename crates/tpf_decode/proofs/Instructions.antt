-- Instructions as wholes.
use Rattle.std.proofs.Common.{◌≡◌, ℕ, ◌+◌, ◌-◌, ◌<◌, ◌≤◌, List, [], ◌∷◌, ◌++◌, length, take, Option, Some, None, Bool, true, false, not, nat_eq, refl, sym, ap, ◌∙◌, subst, arith, append_assoc}
use Rattle.std.specs.Prelude.{slice_range, slice_index, if◌then◌else◌}
use Rattle.std.specs.List.{list_all}
use Rattle.word_base.specs.declared.rule.Rule.{Rule}
use Rattle.word_base.specs.declared.rule.Rule.TheVariants.{K13}
use Rattle.word_base.specs.declared.rule.Refusal.{Refusal}
use Rattle.word_base.specs.Rules.{broken, first}
use Rattle.tpf_decode.specs.declared.argument.Role.{Role}
use Rattle.tpf_decode.specs.declared.argument.Argument.{Argument}
use Rattle.tpf_decode.specs.declared.chain.Extended.TheVariants.{Opcode}
use Rattle.tpf_decode.specs.declared.extent.Extent.{Extent}
use Rattle.tpf_decode.specs.Profiles.{Profile}
use Rattle.tpf_decode.specs.Tokens.{follows, length_of, opcode_of, controls_of}
use Rattle.tpf_decode.specs.Declarations.{layout_of, roles_at}
use Rattle.tpf_decode.specs.Spelling.{IsChain, SpellsHead, SpellsOperands, Spells, further_words}
use Rattle.tpf_decode.specs.Refusals.{Rest, nothing, IsOrderly, first_rule, is_taken, head_tests, head_faults, chain_faults, is_custom, is_custom_data, faults_with, cut_faults, operands_faults, IsCut, IsExtent}
use Rattle.tpf_decode.proofs.Ranges.{range_cons, length-range}
use Rattle.tpf_decode.proofs.Order.{by_rule, no_tests}
use Rattle.tpf_decode.proofs.Chains.{nothing_orderly}
use Rattle.tpf_decode.proofs.Heads.{first_of_head, sound_length, words_behind}
use Rattle.tpf_decode.proofs.Wholes.{chosen_first, refused_chain, passed_chain, operand_orderly}
use Rattle.tpf_decode.proofs.Same.{chain_same, operand_same}

-- what an opcode's tokens refuse is refused whatever stands behind them
head_refused : (profile : Profile) (rest : Rest) (at token : ℕ) (words : List ℕ) (r : Refusal) → IsOrderly rest → first (head_faults profile nothing at token words) ≡ Some r → first (head_faults profile rest at token words) ≡ Some r
head_refused profile rest at token words r o h =
    let tests = head_tests profile (length words + 1) token in
    let ws = take (length_of token - 1) words in
    first_of_head profile rest at token words o
    ∙ chosen_first (first_rule tests) at (first (chain_faults Opcode (follows token) nothing (at + 1) ws)) (first (chain_faults Opcode (follows token) rest (at + 1) ws)) r
    (sym (first_of_head profile nothing at token words nothing_orderly) ∙ h)
    (λ k. refused_chain Opcode (follows token) rest o ws (at + 1) r (sym k))

pub cut_refused : (profile : Profile) (rest : ℕ → Rest) (at : ℕ) (words : List ℕ) (r : Refusal) → ((code : ℕ) → IsOrderly (rest code)) → first (cut_faults profile at words) ≡ Some r → first (faults_with profile rest at words) ≡ Some r
cut_refused profile rest at [] r o h = cc
cut_refused profile rest at (token ∷ words) r o h = by_test (is_custom_data token) h
  where
    by_test : (b : Bool) → first (if b then broken (not (is_custom token words)) K13 at else head_faults profile nothing at token words) ≡ Some r
        → first (if b then broken (not (is_custom token words)) K13 at else head_faults profile (rest (opcode_of token)) at token words) ≡ Some r
    by_test true h = h
    by_test false h = head_refused profile (rest (opcode_of token)) at token words r (o (opcode_of token)) h

both_none : (o : Option Rule) (at : ℕ) (m : Option Refusal) → by_rule o at m ≡ None → (o ≡ None) × (m ≡ None)
both_none None at m h = (refl, h)
both_none (Some rule) at m h = cc

-- what a head spells stands at its place
head_there : (profile : Profile) (code controls size : ℕ) (words : List ℕ) (at first : ℕ) → at < first → first ≤ length words → SpellsHead profile code controls size (slice_range words at first)
    → IsChain (follows (slice_index words at)) (slice_range words (at + 1) first) × (list_all (is_taken Opcode) (slice_range words (at + 1) first) ≡ true) × (length_of (slice_index words at) ≡ size)
head_there profile code controls size words at first h k s =
    let e : s.token ∷ s.extended ≡ slice_index words at ∷ slice_range words (at + 1) first = sym s.parts ∙ range_cons words at first h k in
    let t : s.token ≡ slice_index words at = cc in
    let l : s.extended ≡ slice_range words (at + 1) first = cc in (
      subst (λ x. IsChain (follows x) (slice_range words (at + 1) first)) t (subst (λ x. IsChain (follows s.token) x) l s.chain),
      ap (list_all (is_taken Opcode)) (sym l) ∙ s.types,
      ap length_of (sym t) ∙ s.size_is,
    )

pub cut_passed : (profile : Profile) (rest : ℕ → Rest) (words : List ℕ) (n at : ℕ) (e : Extent) → at < n → n ≤ length words → first (cut_faults profile at (slice_range words at n)) ≡ None → IsExtent profile words n at e → nat_eq e.code 53 ≡ false
    → faults_with profile rest at (slice_range words at n) ≡ rest e.code e.first (slice_range words e.first e.end)
cut_passed profile rest words n at e h k none s other =
    let token = slice_index words at in
    let ws = slice_range words (at + 1) n in
    let custom : is_custom_data token ≡ false = ap (λ c. nat_eq c 53) (sym s.code_is) ∙ other in
    let m : first (head_faults profile nothing at token ws) ≡ None =
    sym (ap (λ b. first (if b then broken (not (is_custom token ws)) K13 at else head_faults profile nothing at token ws)) custom)
    ∙ (sym (ap (λ l. first (cut_faults profile at l)) (range_cons words at n h k)) ∙ none) in
    let left : length ws + 1 ≡ n - at = omega (arith, length-range words (at + 1) n k) in
    let t = both_none (first_rule (head_tests profile (length ws + 1) token)) at (first (chain_faults Opcode (follows token) nothing (at + 1) (take (length_of token - 1) ws)))
    (sym (first_of_head profile nothing at token ws nothing_orderly) ∙ m) in
    let l = sound_length profile (n - at) token (ap (λ x. first_rule (head_tests profile x token)) (sym left) ∙ t.0) in
    let head : SpellsHead profile e.code e.controls (e.end - at) (slice_range words at e.first) = subst (λ b. IsCut b profile words at e) other s.spelled in
    let c = head_there profile e.code e.controls (e.end - at) words at e.first s.begins (omega (arith, s.order, s.ends)) head in
    let size : at + length_of token ≡ e.end = omega (arith, c.2, s.begins, s.order) in
    ap (faults_with profile rest at) (range_cons words at n h k)
    ∙ (ap (λ b. if b then broken (not (is_custom token ws)) K13 at else head_faults profile (rest (opcode_of token)) at token ws) custom
    ∙ (ap (λ qs. qs ++ chain_faults Opcode (follows token) (rest (opcode_of token)) (at + 1) (take (length_of token - 1) ws)) (no_tests at (head_tests profile (length ws + 1) token) t.0)
    ∙ (ap (chain_faults Opcode (follows token) (rest (opcode_of token)) (at + 1)) (words_behind words n at (length_of token) l.0 l.1 ∙ ap (slice_range words (at + 1)) size)
    ∙ (passed_chain Opcode (follows token) (rest (opcode_of token)) words (at + 1) e.first e.end (omega (arith, s.begins)) s.order (omega (arith, s.ends)) c.0 c.1
    ∙ ap (λ x. rest x e.first (slice_range words e.first e.end)) (sym s.code_is)))))

pub head_same : (profile : Profile) (code controls size d k s : ℕ) (ws vs xs ys : List ℕ) → SpellsHead profile code controls size ws → SpellsHead profile d k s vs → ws ++ xs ≡ vs ++ ys
    → (code ≡ d) × (controls ≡ k) × (size ≡ s) × (ws ≡ vs) × (xs ≡ ys)
head_same profile code controls size d k s ws vs xs ys h g p =
    let e : h.token ∷ (h.extended ++ xs) ≡ g.token ∷ (g.extended ++ ys) = ap (λ l. l ++ xs) (sym h.parts) ∙ (p ∙ ap (λ l. l ++ ys) g.parts) in
    let t : h.token ≡ g.token = cc in
    let l : h.extended ++ xs ≡ g.extended ++ ys = cc in
    let c = chain_same (follows g.token) h.extended g.extended xs ys (subst (λ x. IsChain (follows x) h.extended) t h.chain) g.chain l in (
      sym h.code_is ∙ (ap opcode_of t ∙ g.code_is),
      sym h.controls_are ∙ (ap controls_of t ∙ g.controls_are),
      sym h.size_is ∙ (ap length_of t ∙ g.size_is),
      h.parts ∙ (ap (λ x. x ∷ h.extended) t ∙ (ap (λ x. g.token ∷ x) c.0 ∙ sym g.parts)),
      c.1,
    )

pub operands_same : (profile : Profile) (code : ℕ) (roles : List Role) (left right : List Argument) (ws vs xs ys : List ℕ) → SpellsOperands profile code roles left ws → SpellsOperands profile code roles right vs → ws ++ xs ≡ vs ++ ys
    → (left ≡ right) × (xs ≡ ys)
operands_same profile code [] [] [] ws vs xs ys h k p = (refl, ap (λ l. l ++ xs) (sym h) ∙ (p ∙ ap (λ l. l ++ ys) k))
operands_same profile code [] [] (b ∷ bs) ws vs xs ys h k p = absurd k
operands_same profile code [] (a ∷ arguments) right ws vs xs ys h k p = absurd h
operands_same profile code (role ∷ roles) [] right ws vs xs ys h k p = absurd h
operands_same profile code (role ∷ roles) (a ∷ arguments) [] ws vs xs ys h k p = absurd k
operands_same profile code (role ∷ roles) (a ∷ arguments) (b ∷ bs) ws vs xs ys h k p =
    let e : h.0 ++ (h.1 ++ xs) ≡ k.0 ++ (k.1 ++ ys) =
    sym (append_assoc h.0 h.1 xs) ∙ (ap (λ l. l ++ xs) (sym h.2) ∙ (p ∙ (ap (λ l. l ++ ys) k.2 ∙ append_assoc k.0 k.1 ys))) in
    let s = operand_same profile code role a b h.0 k.0 (h.1 ++ xs) (k.1 ++ ys) h.3 k.3 e in
    let t = operands_same profile code roles arguments bs h.1 k.1 xs ys h.4 k.4 s.1 in
    (ap (λ x. x ∷ arguments) s.0 ∙ ap (λ l. b ∷ l) t.0, t.1)

-- lists of one length that begin alike are the same
pub front_same : (ws vs xs ys : List ℕ) → length ws ≡ length vs → ws ++ xs ≡ vs ++ ys → (ws ≡ vs) × (xs ≡ ys)
front_same [] [] xs ys e p = (refl, p)
front_same [] (v ∷ vs) xs ys e p = absurd (omega arith)
front_same (w ∷ ws) [] xs ys e p = absurd (omega arith)
front_same (w ∷ ws) (v ∷ vs) xs ys e p =
    let q : w ≡ v = cc in
    let r : ws ++ xs ≡ vs ++ ys = cc in
    let s = front_same ws vs xs ys (omega arith) r in
    (ap (λ n. n ∷ ws) q ∙ ap (λ l. v ∷ l) s.0, s.1)

-- two instructions or declarations that are the same
pub instruction_same : (profile : Profile) (code controls d k : ℕ) (left right : List Argument) (f g ws vs xs ys : List ℕ) → Spells profile code controls left f ws → Spells profile d k right g vs → ws ++ xs ≡ vs ++ ys
    → (code ≡ d) × (controls ≡ k) × (left ≡ right) × (f ≡ g) × (xs ≡ ys)
instruction_same profile code controls d k left right f g ws vs xs ys a b p =
    let regroup : (h o t m : List ℕ) → (h ++ (o ++ t)) ++ m ≡ h ++ (o ++ (t ++ m)) = λ h o t m. append_assoc h (o ++ t) m ∙ ap (λ l. h ++ l) (append_assoc o t m) in
    let e : a.head ++ (a.operands ++ (f ++ xs)) ≡ b.head ++ (b.operands ++ (g ++ ys)) =
    sym (regroup a.head a.operands f xs) ∙ (ap (λ l. l ++ xs) (sym a.parts) ∙ (p ∙ (ap (λ l. l ++ ys) b.parts ∙ regroup b.head b.operands g ys))) in
    let h = head_same profile code controls (length ws) d k (length vs) a.head b.head (a.operands ++ (f ++ xs)) (b.operands ++ (g ++ ys)) a.tokens b.tokens e in
    let o = operands_same profile code (roles_at profile code) left right a.operands b.operands (f ++ xs) (g ++ ys) a.roles
    (subst (λ c. SpellsOperands profile c (roles_at profile c) right b.operands) (sym h.0) b.roles) h.4 in
    let n : length f ≡ length g = a.rest ∙ (ap (λ c. further_words (layout_of profile c)) h.0 ∙ sym b.rest) in
    let r = front_same f g xs ys n o.1 in
    (h.0, h.1, o.0, r.0, r.1)

pub operands_orderly : (profile : Profile) (code : ℕ) (roles : List Role) (rest : Rest) → IsOrderly rest → IsOrderly (operands_faults profile code roles rest)
operands_orderly profile code [] rest o at words = o at words
operands_orderly profile code (role ∷ roles) rest o at words = operand_orderly profile code role (operands_faults profile code roles rest) (operands_orderly profile code roles rest o) at words
