-- What is spelled is read.
use Rattle.std.proofs.Common.{◌≡◌, ℕ, ◌+◌, ◌<◌, ◌≤◌, List, ◌++◌, length, Some, None, Ok, Err, Result, IfOk, sym, ap, ◌∙◌, arith}
use Rattle.std.specs.Prelude.{slice_range}
use Rattle.std.proofs.lemmas.List.{length-append}
use Rattle.word_base.specs.declared.rule.Refusal.{Refusal}
use Rattle.word_base.specs.Rules.{first}
use Rattle.tpf_decode.specs.declared.argument.Argument.{Argument}
use Rattle.tpf_decode.specs.declared.argument.Role.{Role}
use Rattle.tpf_decode.specs.Profiles.{Profile}
use Rattle.tpf_decode.specs.Spelling.{SpellsOperand}
use Rattle.tpf_decode.specs.Refusals.{refusal_of, nothing, operand_faults}
use Rattle.tpf_decode.proofs.Ranges.{range_split, length-range}
use Rattle.tpf_decode.proofs.Spelled.{operand_pass}
use Rattle.tpf_decode.proofs.Same.{operand_same}

-- an answer that is right wherever it is one, and refuses only what breaks a rule, is the spelled operand
pub answer_read : (profile : Profile) (code : ℕ) (role : Role) (words : List ℕ) (at end : ℕ) (answer : Result (Argument × ℕ) Refusal) → end ≤ length words
    → refusal_of answer ≡ first (operand_faults profile code role nothing at (slice_range words at end))
    → IfOk answer (λ r. (at < r.1) × (r.1 ≤ end)) → IfOk answer (λ r. SpellsOperand profile code role r.0 (slice_range words at r.1))
    → (a : Argument) (front back : List ℕ) → SpellsOperand profile code role a front → slice_range words at end ≡ front ++ back → answer ≡ Ok (a, at + length front)
answer_read profile code role words at end (Err q) k refused within spelled a front back s e =
    let n : first (operand_faults profile code role nothing at (slice_range words at end)) ≡ None =
    ap (λ l. first (operand_faults profile code role nothing at l)) e ∙ ap first (operand_pass profile code role a nothing at front back s) in
    cc
answer_read profile code role words at end (Ok r) k refused within spelled a front back s e =
    let w = range_split words at r.1 end (omega (arith, within.0)) within.1 in
    let t = operand_same profile code role a r.0 front (slice_range words at r.1) back (slice_range words r.1 end) s spelled (sym e ∙ w) in
    let l : r.1 ≡ at + length front = omega (arith, within.0, within.1, length-range words at end k, length-range words r.1 end k, ap length e, length-append front back, ap length t.1) in
    ap (λ x. Ok (x, r.1)) (sym t.0) ∙ ap (λ n. Ok (a, n)) l

-- a refusal is none of a spelled operand
pub refusal_read : (profile : Profile) (code : ℕ) (role : Role) (words : List ℕ) (at end : ℕ) (answer : Result (Argument × ℕ) Refusal) (q : Refusal) → answer ≡ Err q
    → refusal_of answer ≡ first (operand_faults profile code role nothing at (slice_range words at end))
    → (a : Argument) (front back : List ℕ) → SpellsOperand profile code role a front → slice_range words at end ≡ front ++ back → answer ≡ Ok (a, at + length front)
refusal_read profile code role words at end answer q i refused a front back s e =
    let n : Some q ≡ None = ap refusal_of (sym i) ∙ (refused ∙ (ap (λ l. first (operand_faults profile code role nothing at l)) e ∙ ap first (operand_pass profile code role a nothing at front back s))) in
    cc
