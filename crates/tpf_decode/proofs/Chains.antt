-- Chains of extended tokens.
use Rattle.std.proofs.Common.{◌≡◌, ℕ, ◌+◌, ◌<◌, ◌≤◌, List, [], ◌∷◌, ◌++◌, length, Some, Bool, true, false, not, ◌&&◌, refl, sym, ap, ◌∙◌, subst, arith}
use Rattle.std.specs.Prelude.{if◌then◌else◌, slice_range, slice_index}
use Rattle.std.specs.List.{list_all}
use Rattle.std.proofs.lemmas.Bool.Decides.{nat_tests}
use Rattle.word_base.specs.declared.rule.Rule.TheVariants.{K11}
use Rattle.word_base.specs.Rules.{broken, order_of, refusal, first}
use Rattle.tpf_decode.specs.declared.chain.Extended.{Extended}
use Rattle.tpf_decode.specs.declared.chain.Extended.TheVariants.{Opcode, Operand}
use Rattle.tpf_decode.specs.Tokens.{follows}
use Rattle.tpf_decode.specs.Spelling.{IsChain}
use Rattle.tpf_decode.specs.Refusals.{Rest, nothing, StandsFrom, IsOrderly, is_taken, rule_of, chain_faults}
use Rattle.tpf_decode.proofs.Ranges.{range_none, range_cons, range_one, range_split, length-range}
use Rattle.tpf_decode.proofs.Order.{first_broken, behind_place, stands_earlier, StandsFrom-append, StandsFrom-broken}

-- Each token follows, and this says whether another one does.
abbrev pub Leads : Bool → List ℕ → Bool → Type 0
Leads more [] last = more ≡ last
Leads false (token ∷ tokens) last = ⊥
Leads true (token ∷ tokens) last = Leads (follows token) tokens last

pub leads_further : (more : Bool) (tokens : List ℕ) (token : ℕ) → Leads more tokens true → Leads more (tokens ++ token ∷ []) (follows token)
leads_further true [] token h = refl
leads_further false [] token h = cc
leads_further false (t ∷ tokens) token h = h
leads_further true (t ∷ tokens) token h = leads_further (follows t) tokens token h

pub chain_of : (more : Bool) (tokens : List ℕ) → Leads more tokens false → IsChain more tokens
chain_of false [] h = tt
chain_of true [] h = cc
chain_of false (t ∷ tokens) h = h
chain_of true (t ∷ tokens) h = chain_of (follows t) tokens h

pub leads_of : (more : Bool) (tokens : List ℕ) → IsChain more tokens → Leads more tokens false
leads_of false [] h = refl
leads_of true [] h = absurd h
leads_of false (t ∷ tokens) h = h
leads_of true (t ∷ tokens) h = leads_of (follows t) tokens h

pub phase_of : (of : Extended) → (order_of (rule_of of)).phase ≡ 5
phase_of Opcode = refl
phase_of (Operand negatable) = refl

pub chain_orderly : (of : Extended) (more : Bool) (rest : Rest) → IsOrderly rest → (words : List ℕ) (at : ℕ) → StandsFrom at (chain_faults of more rest at words)
chain_orderly of false rest h words at = h at words
chain_orderly of true rest h [] at = (refl, omega arith, tt)
chain_orderly of true rest h (token ∷ words) at =
    StandsFrom-append at (broken (not (is_taken of token)) (rule_of of) at) (chain_faults of (follows token) rest (at + 1) words)
    (StandsFrom-broken (not (is_taken of token)) (rule_of of) at (phase_of of))
    (stands_earlier at (at + 1) (chain_faults of (follows token) rest (at + 1) words) (omega arith) (chain_orderly of (follows token) rest h words (at + 1)))

-- the first refusal of a chain that goes on
pub first_of_chain : (of : Extended) (rest : Rest) → IsOrderly rest → (token : ℕ) (words : List ℕ) (at : ℕ)
    → first (chain_faults of true rest at (token ∷ words)) ≡ (if not (is_taken of token) then Some (refusal (rule_of of) at) else first (chain_faults of (follows token) rest (at + 1) words))
first_of_chain of rest h token words at =
    first_broken (not (is_taken of token)) (rule_of of) at (chain_faults of (follows token) rest (at + 1) words)
    (behind_place (rule_of of) at (chain_faults of (follows token) rest (at + 1) words) (phase_of of) (chain_orderly of (follows token) rest h words (at + 1)))

-- tokens that are all taken are passed over
pub taken_pass : (of : Extended) (more last : Bool) (rest : Rest) (tokens words : List ℕ) (at : ℕ) → Leads more tokens last → list_all (is_taken of) tokens ≡ true
    → chain_faults of more rest at (tokens ++ words) ≡ chain_faults of last rest (at + length tokens) words
taken_pass of more last rest [] words at h k =
    let e : at + 0 ≡ at = omega arith in
    ap (λ b. chain_faults of b rest at words) h ∙ ap (λ n. chain_faults of last rest n words) (sym e)
taken_pass of false last rest (token ∷ tokens) words at h k = absurd h
taken_pass of true last rest (token ∷ tokens) words at h k =
    let t : is_taken of token ≡ true = grind (arith, nat_tests) in
    let l : list_all (is_taken of) tokens ≡ true = grind (arith, nat_tests) in
    let e : at + 1 + length tokens ≡ at + length (token ∷ tokens) = omega arith in
    ap (λ b. broken (not b) (rule_of of) at ++ chain_faults of (follows token) rest (at + 1) (tokens ++ words)) t
    ∙ (taken_pass of (follows token) last rest tokens words (at + 1) h l ∙ ap (λ n. chain_faults of last rest n words) e)

pub list_all-append : (p : ℕ → Bool) (xs ys : List ℕ) → list_all p (xs ++ ys) ≡ list_all p xs && list_all p ys
list_all-append p [] ys = refl
list_all-append p (x ∷ xs) ys =
    elim (p x) as (λ b. (b && list_all p (xs ++ ys)) ≡ ((b && list_all p xs) && list_all p ys)) [ true ↦ list_all-append p xs ys | false ↦ refl ]

-- The tokens from one place to another are a chain that is taken, and `more` says whether it goes on.
pub record Walked (of : Extended) (words : List ℕ) (follows more : Bool) (start place end : ℕ) : Type 0 where
  pub from : start ≤ place
  pub upto : place ≤ end
  pub leads : Leads follows (slice_range words start place) more
  pub taken : list_all (is_taken of) (slice_range words start place) ≡ true

pub walked_none : (of : Extended) (words : List ℕ) (more : Bool) (start end : ℕ) → start ≤ end → Walked of words more more start start end
walked_none of words more start end h = record {
  from = omega arith;
  upto = h;
  leads = subst (λ l. Leads more l more) (sym (range_none words start)) refl;
  taken = ap (list_all (is_taken of)) (range_none words start);
}

pub walked_further : (of : Extended) (words : List ℕ) (more : Bool) (start place end token : ℕ) → Walked of words more true start place end → place < end → end ≤ length words
    → token ≡ slice_index words place → is_taken of token ≡ true → Walked of words more (follows token) start (place + 1) end
walked_further of words more start place end token w h k e t =
    let s : slice_range words start (place + 1) ≡ slice_range words start place ++ token ∷ [] =
    range_split words start place (place + 1) w.from (omega arith)
    ∙ ap (λ l. slice_range words start place ++ l) (range_one words place (omega arith) ∙ ap (λ x. x ∷ []) (sym e)) in
    record {
      from = omega (arith, w.from);
      upto = omega arith;
      leads = subst (λ l. Leads more l (follows token)) (sym s) (leads_further more (slice_range words start place) token w.leads);
      taken = ap (list_all (is_taken of)) s
          ∙ (list_all-append (is_taken of) (slice_range words start place) (token ∷ [])
          ∙ (ap (λ b. b && (is_taken of token && true)) w.taken ∙ ap (λ b. b && true) t));
    }

-- what is refused is refused behind them
pub walked_faults : (of : Extended) (words : List ℕ) (more last : Bool) (start place end : ℕ) (rest : Rest) → Walked of words more last start place end → end ≤ length words
    → chain_faults of more rest start (slice_range words start end) ≡ chain_faults of last rest place (slice_range words place end)
walked_faults of words more last start place end rest w h =
    let e : start + length (slice_range words start place) ≡ place = omega (arith, length-range words start place (omega (arith, w.upto)), w.from) in
    ap (chain_faults of more rest start) (range_split words start place end w.from w.upto)
    ∙ (taken_pass of more last rest (slice_range words start place) (slice_range words place end) start w.leads w.taken
    ∙ ap (λ n. chain_faults of last rest n (slice_range words place end)) e)

-- A walk ends at the instruction's end, at a token that is not taken, or behind the last token.
pub first_at_end : (of : Extended) (words : List ℕ) (more last : Bool) (start place end : ℕ) (rest : Rest) → Walked of words more last start place end → end ≤ length words
    → last ≡ true → place ≡ end → first (chain_faults of more rest start (slice_range words start end)) ≡ Some (refusal K11 end)
first_at_end of words more last start place end rest w h t e =
    ap first (walked_faults of words more last start place end rest w h)
    ∙ (ap (λ b. first (chain_faults of b rest place (slice_range words place end))) t
    ∙ (ap (λ n. first (chain_faults of true rest n (slice_range words n end))) e
    ∙ ap (λ l. first (chain_faults of true rest end l)) (range_none words end)))

pub first_not_taken : (of : Extended) (words : List ℕ) (more last : Bool) (start place end token : ℕ) (rest : Rest) → IsOrderly rest → Walked of words more last start place end → end ≤ length words
    → last ≡ true → place < end → token ≡ slice_index words place → is_taken of token ≡ false → first (chain_faults of more rest start (slice_range words start end)) ≡ Some (refusal (rule_of of) place)
first_not_taken of words more last start place end token rest o w h t l e n =
    ap first (walked_faults of words more last start place end rest w h)
    ∙ (ap (λ b. first (chain_faults of b rest place (slice_range words place end))) t
    ∙ (ap (λ l. first (chain_faults of true rest place l)) (range_cons words place end l h)
    ∙ (first_of_chain of rest o (slice_index words place) (slice_range words (place + 1) end) place
    ∙ ap (λ b. if not b then Some (refusal (rule_of of) place) else first (chain_faults of (follows (slice_index words place)) rest (place + 1) (slice_range words (place + 1) end)))
    (ap (is_taken of) (sym e) ∙ n))))

pub first_behind : (of : Extended) (words : List ℕ) (more last : Bool) (start place end : ℕ) (rest : Rest) → Walked of words more last start place end → end ≤ length words
    → last ≡ false → chain_faults of more rest start (slice_range words start end) ≡ rest place (slice_range words place end)
first_behind of words more last start place end rest w h t =
    walked_faults of words more last start place end rest w h ∙ ap (λ b. chain_faults of b rest place (slice_range words place end)) t

pub nothing_orderly : IsOrderly nothing
nothing_orderly at words = tt
