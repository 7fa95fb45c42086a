-- The parts of a program that are reached.
use Rattle.std.proofs.Common.{◌≡◌, ℕ, zero, suc, ◌+◌, ◌-◌, ◌<◌, ◌≤◌, List, [], ◌∷◌, ◌++◌, length, take, None, Bool, true, false, not, nat_eq, refl, sym, ap, ◌∙◌, arith, append-nil}
use Rattle.std.specs.Prelude.{slice_index, slice_range, if◌then◌else◌}
use Rattle.std.proofs.lemmas.Bool.Decides.{nat_tests}
use Rattle.word_base.specs.declared.rule.Rule.TheVariants.{K13}
use Rattle.word_base.specs.declared.rule.Refusal.{Refusal}
use Rattle.word_base.specs.Rules.{broken, first}
use Rattle.tpf_decode.specs.declared.argument.Argument.{Argument}
use Rattle.tpf_decode.specs.declared.chain.Extended.TheVariants.{Opcode}
use Rattle.tpf_decode.specs.Profiles.{Base}
use Rattle.tpf_decode.specs.Tokens.{opcode_of, length_of, follows}
use Rattle.tpf_decode.specs.Spelling.{SpellsCustom}
use Rattle.tpf_decode.specs.Spelling as token
use Rattle.tpf_decode.specs.Refusals.{StandsFrom, broken_at, chain_faults, is_wrong_length, head_tests, head_faults, is_custom, is_custom_data, instruction_faults}
use Rattle.tpf_decode.proofs.Order.{StandsFrom-append, StandsFrom-broken, StandsFrom-tests, stands_earlier}
use Rattle.tpf_decode.proofs.Chains.{chain_orderly}
use Rattle.tpf_decode.proofs.Ranges.{range_split, length-range}
use Rattle.tpf_program.specs.Spelling.{arguments, Item, Declares, Types, Does, Lists, Skips, SpellsItem}
use Rattle.tpf_program.specs.Reading.{parts_faults}
use Rattle.tpf_program.specs.Faults.{part_size, body_faults}
use Rattle.tpf_program.proofs.SameItems.{no_typed}
use Rattle.tpf_program.proofs.Behind.{parts_orderly}
use Rattle.tpf_program.proofs.Items.{item_some}
use Rattle.tpf_program.proofs.Bounds.{head_rising}
use Rattle.tpf_program.proofs.Passes.{token_tests_pass, custom_sound}

-- words of the part before are passed over
passed_over : (front back : List ℕ) (at : ℕ) → body_faults Base (length front) at (front ++ back) ≡ body_faults Base 0 (at + length front) back
unfolding body_faults
passed_over [] back at = let e : at ≡ at + 0 = omega arith in ap (λ n. body_faults Base 0 n back) e
passed_over (w ∷ front) back at =
    let e : at + 1 + length front ≡ at + length (w ∷ front) = omega arith in
    passed_over front back (at + 1) ∙ ap (λ n. body_faults Base 0 n back) e

-- a part with its own length, and those behind it
pub part_and_rest : (front back : List ℕ) (at : ℕ) → 0 < length front → part_size (front ++ back) ≡ length front
    → body_faults Base 0 at (front ++ back) ≡ instruction_faults Base at (front ++ back) ++ body_faults Base 0 (at + length front) back
unfolding body_faults
part_and_rest [] back at h e = absurd (omega arith)
part_and_rest (w ∷ front) back at h e =
    let words = w ∷ (front ++ back) in
    let t : nat_eq (part_size words) 0 ≡ false = grind (arith, nat_tests) in
    let n : part_size words - 1 ≡ length front = omega (arith, e) in
    let m : at + 1 + length front ≡ at + length (w ∷ front) = omega arith in
    ap (λ b. instruction_faults Base at words ++ (if b then [] else body_faults Base (part_size words - 1) (at + 1) (front ++ back))) t
    ∙ ap (λ l. instruction_faults Base at words ++ l) (ap (λ k. body_faults Base k (at + 1) (front ++ back)) n
    ∙ (passed_over front back (at + 1) ∙ ap (λ k. body_faults Base 0 k back) m))

pub part_alone : (words : List ℕ) (at : ℕ) → part_size words ≡ 0 → body_faults Base 0 at words ≡ instruction_faults Base at words
unfolding body_faults
part_alone [] at e = refl
part_alone (w ∷ words) at e =
    ap (λ n. instruction_faults Base at (w ∷ words) ++ (if nat_eq n 0 then [] else body_faults Base (n - 1) (at + 1) words)) e ∙ append-nil (instruction_faults Base at (w ∷ words))

-- spelled parts have their own length
spelled_size : (code controls : ℕ) (arguments : List Argument) (further words more : List ℕ) → token.Spells Base code controls arguments further words → part_size (words ++ more) ≡ length words
spelled_size code controls arguments further words more s =
    let t = s.tokens.token in
    let behind = s.tokens.extended ++ (s.operands ++ further) in
    let all : words ≡ t ∷ behind = s.parts ∙ ap (λ h. h ++ (s.operands ++ further)) s.tokens.parts in
    let p = token_tests_pass code controls arguments further words more s in
    ap (λ l. part_size (l ++ more)) all
    ∙ (ap (λ b. if b then (if is_custom t (behind ++ more) then slice_index (behind ++ more) 0 else 0) else if is_wrong_length (length (behind ++ more) + 1) t then 0 else length_of t) p.0
    ∙ (ap (λ b. if b then 0 else length_of t) p.1 ∙ s.tokens.size_is))

custom_size : (kind : ℕ) (values words more : List ℕ) → SpellsCustom kind values words → part_size (words ++ more) ≡ length words
custom_size kind values words more s =
    let t = s.token in
    let p = custom_sound kind values words more s in
    ap (λ l. part_size (l ++ more)) s.parts
    ∙ (ap (λ b. if b then (if is_custom t ((length values + 2) ∷ (values ++ more)) then length values + 2 else 0) else if is_wrong_length (length ((length values + 2) ∷ (values ++ more)) + 1) t then 0 else length_of t) p.0
    ∙ (ap (λ b. if b then length values + 2 else 0) p.1 ∙ omega (arith, ap length s.parts)))

pub item_size : (at : ℕ) (x : Item) (words more : List ℕ) → SpellsItem Base at x words → part_size (words ++ more) ≡ length words
item_size at (Declares d) words more h = spelled_size h.1.code h.1.controls h.1.arguments h.1.further words more h.1.spelled
item_size at (Types d view) words more h = absurd (no_typed d.what view words h.1)
item_size at (Does i) words more h = spelled_size i.code i.controls (arguments i) [] words more h.1.spelled
item_size at (Lists place values) words more h = custom_size 3 values words more h.1
item_size at (Skips kind values) words more h = custom_size kind values words more h.1

pub none_first : (rs : List Refusal) → None ≡ first rs → rs ≡ []
none_first [] h = refl
none_first (r ∷ rs) h = cc

-- a part that breaks no rule is passed over
pub part_passed : (words : List ℕ) (at end n : ℕ) (x : Item) → at < end → end ≤ n → n ≤ length words → SpellsItem Base at x (slice_range words at end) → None ≡ first (instruction_faults Base at (slice_range words at n))
    → body_faults Base 0 at (slice_range words at n) ≡ body_faults Base 0 end (slice_range words end n)
part_passed words at end n x h k fits s none =
    let front = slice_range words at end in
    let back = slice_range words end n in
    let e = range_split words at end n (omega arith) k in
    let m : at + length front ≡ end = omega (arith, length-range words at end (omega arith)) in
    ap (body_faults Base 0 at) e
    ∙ (part_and_rest front back at (item_some at x front s) (item_size at x front back s)
    ∙ (ap (λ l. l ++ body_faults Base 0 (at + length front) back) (sym (ap (instruction_faults Base at) e) ∙ none_first (instruction_faults Base at (slice_range words at n)) none)
    ∙ ap (λ p. body_faults Base 0 p back) m))

-- All refusals from a place on stand there or behind.
instruction_orderly : (at : ℕ) (words : List ℕ) → StandsFrom at (instruction_faults Base at words)
instruction_orderly at [] = tt
instruction_orderly at (token ∷ words) = by_test (is_custom_data token)
  where
    by_test : (b : Bool) → StandsFrom at (if b then broken (not (is_custom token words)) K13 at else head_faults Base (parts_faults (opcode_of token)) at token words)
    by_test true = StandsFrom-broken (not (is_custom token words)) K13 at refl
    by_test false =
        let tests = head_tests Base (length words + 1) token in
        let behind = chain_faults Opcode (follows token) (parts_faults (opcode_of token)) (at + 1) (take (length_of token - 1) words) in
        StandsFrom-append at (broken_at at tests) behind (StandsFrom-tests at 0 tests (head_rising (length words + 1) token))
        (stands_earlier at (at + 1) behind (omega arith) (chain_orderly Opcode (follows token) (parts_faults (opcode_of token)) (parts_orderly (opcode_of token)) (take (length_of token - 1) words) (at + 1)))

pub body_orderly : (passed at : ℕ) (words : List ℕ) → StandsFrom at (body_faults Base passed at words)
unfolding body_faults
body_orderly passed at [] = tt
body_orderly (suc passed) at (w ∷ words) = stands_earlier at (at + 1) (body_faults Base passed (at + 1) words) (omega arith) (body_orderly passed (at + 1) words)
body_orderly zero at (w ∷ words) =
    let size = part_size (w ∷ words) in
    let rest = body_faults Base (size - 1) (at + 1) words in
    StandsFrom-append at (instruction_faults Base at (w ∷ words)) (if nat_eq size 0 then [] else rest) (instruction_orderly at (w ∷ words))
    (by_test (nat_eq size 0) rest (stands_earlier at (at + 1) rest (omega arith) (body_orderly (size - 1) (at + 1) words)))
  where
    by_test : (b : Bool) (rest : List Refusal) → StandsFrom at rest → StandsFrom at (if b then [] else rest)
    by_test true rest h = tt
    by_test false rest h = h
