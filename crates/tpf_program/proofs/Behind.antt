-- What stands behind an opcode's tokens.
use Rattle.std.proofs.Common.{◌≡◌, ℕ, ◌+◌, ◌-◌, ◌<◌, ◌≤◌, List, [], ◌∷◌, length, Some, None, false, true, nat_eq, refl, sym, ap, ◌∙◌, arith}
use Rattle.std.specs.Prelude.{slice_range, slice_index, if◌then◌else◌, not}
use Rattle.word_base.specs.declared.rule.Rule.TheVariants.{K11, K13}
use Rattle.word_base.specs.declared.rule.Refusal.{Refusal}
use Rattle.word_base.specs.Rules.{broken, first, refusal}
use Rattle.tpf_decode.specs.declared.argument.Argument.{Argument}
use Rattle.tpf_decode.specs.declared.argument.Role.{Role}
use Rattle.tpf_decode.specs.declared.extent.Extent.{Extent}
use Rattle.tpf_decode.specs.Profiles.{Base}
use Rattle.tpf_decode.specs.Tokens.{opcode_of}
use Rattle.tpf_decode.specs.Declarations.{layout_of, roles_at}
use Rattle.tpf_decode.specs.Spelling.{further_words}
use Rattle.tpf_decode.specs.Refusals.{Rest, IsOrderly, no_more, behind_words, operands_faults, head_faults, faults_with, cut_faults, instruction_faults, is_custom, is_custom_data, IsExtent}
use Rattle.tpf_decode.proofs.Ranges.{range_split, range_none, range_cons, length-range}
use Rattle.tpf_decode.proofs.Operands.{behind_missing, behind_there, words_orderly}
use Rattle.tpf_decode.proofs.Instructions.{operands_orderly, cut_refused, cut_passed}
use Rattle.tpf_program.specs.Reading.{HasOperands, parts_faults}
use Rattle.tpf_program.proofs.Parts.{operands_pass}

no_more_orderly : IsOrderly no_more
no_more_orderly at [] = tt
no_more_orderly at (w ∷ words) = (refl, omega arith, tt)

pub parts_orderly : (code : ℕ) → IsOrderly (parts_faults code)
parts_orderly code at words =
    operands_orderly Base code (roles_at Base code) (behind_words (further_words (layout_of Base code)) no_more)
    (λ n ws. words_orderly (further_words (layout_of Base code)) no_more no_more_orderly ws n) at words

-- spelled operands are passed over
parts_behind : (code : ℕ) (roles : List Role) (places : List Argument) (words : List ℕ) (at place end : ℕ) → at ≤ place → place ≤ end → end ≤ length words → roles ≡ roles_at Base code
    → HasOperands code roles places (slice_range words at place)
    → parts_faults code at (slice_range words at end) ≡ behind_words (further_words (layout_of Base code)) no_more place (slice_range words place end)
parts_behind code roles places words at place end h k fits e s =
    let n : at + length (slice_range words at place) ≡ place = omega (arith, length-range words at place (omega arith)) in
    let rest = behind_words (further_words (layout_of Base code)) no_more in
    ap (λ l. operands_faults Base code l rest at (slice_range words at end)) (sym e)
    ∙ (ap (operands_faults Base code roles rest at) (range_split words at place end h k)
    ∙ (operands_pass Base code roles s.arguments rest at (slice_range words at place) (slice_range words place end) s.spelled
    ∙ ap (λ m. rest m (slice_range words place end)) n))

-- further words are missing, or words are left over, or all is there
pub parts_missing : (code : ℕ) (roles : List Role) (places : List Argument) (words : List ℕ) (at place end further : ℕ) → at ≤ place → place ≤ end → end ≤ length words → roles ≡ roles_at Base code
    → HasOperands code roles places (slice_range words at place) → further ≡ further_words (layout_of Base code) → end - place < further
    → first (parts_faults code at (slice_range words at end)) ≡ Some (refusal K11 end)
parts_missing code roles places words at place end further h k fits e s f l =
    ap first (parts_behind code roles places words at place end h k fits e s
    ∙ (ap (λ n. behind_words n no_more place (slice_range words place end)) (sym f) ∙ behind_missing words place end further no_more k fits l))

pub parts_left : (code : ℕ) (roles : List Role) (places : List Argument) (words : List ℕ) (at place end further : ℕ) → at ≤ place → place + further < end → end ≤ length words → roles ≡ roles_at Base code
    → HasOperands code roles places (slice_range words at place) → further ≡ further_words (layout_of Base code)
    → first (parts_faults code at (slice_range words at end)) ≡ Some (refusal K11 (place + further))
parts_left code roles places words at place end further h k fits e s f =
    ap first (parts_behind code roles places words at place end h (omega arith) fits e s
    ∙ (ap (λ n. behind_words n no_more place (slice_range words place end)) (sym f) ∙ (behind_there words place end further no_more (omega arith) fits
    ∙ ap (no_more (place + further)) (range_cons words (place + further) end k fits))))

pub parts_whole : (code : ℕ) (roles : List Role) (places : List Argument) (words : List ℕ) (at place end further : ℕ) → at ≤ place → place + further ≡ end → end ≤ length words → roles ≡ roles_at Base code
    → HasOperands code roles places (slice_range words at place) → further ≡ further_words (layout_of Base code)
    → first (parts_faults code at (slice_range words at end)) ≡ None
parts_whole code roles places words at place end further h k fits e s f =
    ap first (parts_behind code roles places words at place end h (omega arith) fits e s
    ∙ (ap (λ n. behind_words n no_more place (slice_range words place end)) (sym f) ∙ (behind_there words place end further no_more (omega arith) fits
    ∙ (ap (λ n. no_more n (slice_range words n end)) k ∙ ap (no_more end) (range_none words end)))))

-- what is refused of the tokens, of custom data, and behind the tokens
pub tokens_refused : (words : List ℕ) (n at : ℕ) (r : Refusal) → Some r ≡ first (cut_faults Base at (slice_range words at n)) → Some r ≡ first (instruction_faults Base at (slice_range words at n))
tokens_refused words n at r h = sym (cut_refused Base parts_faults at (slice_range words at n) r parts_orderly (sym h))

pub custom_sound : (words : List ℕ) (n at : ℕ) (e : Extent) → at < n → n ≤ length words → IsExtent Base words n at e → nat_eq e.code 53 ≡ true → None ≡ first (cut_faults Base at (slice_range words at n))
    → None ≡ first (instruction_faults Base at (slice_range words at n))
custom_sound words n at e h k s c none =
    let token = slice_index words at in
    let ws = slice_range words (at + 1) n in
    let custom : is_custom_data token ≡ true = ap (λ m. nat_eq m 53) (sym s.code_is) ∙ c in
    let either : (rest : ℕ → Rest) → faults_with Base rest at (slice_range words at n) ≡ broken (not (is_custom token ws)) K13 at =
    λ rest. ap (faults_with Base rest at) (range_cons words at n h k)
    ∙ ap (λ b. if b then broken (not (is_custom token ws)) K13 at else token_faults rest token ws) custom in
    none ∙ (ap first (either (λ code n words. [])) ∙ sym (ap first (either parts_faults)))
  where
    token_faults : (ℕ → Rest) → ℕ → List ℕ → List Refusal
    token_faults rest token ws = head_faults Base (rest (opcode_of token)) at token ws

pub tokens_passed : (words : List ℕ) (n at : ℕ) (e : Extent) → at < n → n ≤ length words → IsExtent Base words n at e → nat_eq e.code 53 ≡ false → None ≡ first (cut_faults Base at (slice_range words at n))
    → first (instruction_faults Base at (slice_range words at n)) ≡ first (parts_faults e.code e.first (slice_range words e.first e.end))
tokens_passed words n at e h k s other none = ap first (cut_passed Base parts_faults words n at e h k (sym none) s other)
