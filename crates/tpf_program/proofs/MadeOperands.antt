-- Words that break no rule but those on flags spell operands.
use Rattle.std.proofs.Common.{◌≡◌, ℕ, ◌+◌, List, [], ◌∷◌, ◌++◌, length, Option, Some, None, Bool, true, false, not, refl, sym, ap, ◌∙◌, subst, arith, append_assoc, length-append}
use Rattle.std.specs.Prelude.{◌&&◌}
use Rattle.std.specs.List.{list_any, list_all}
use Rattle.word_base.specs.declared.rule.Rule.TheVariants.{K6, K7, K8}
use Rattle.word_base.specs.Rules.{broken}
use Rattle.tpf_decode.specs.declared.argument.Kind.{Kind}
use Rattle.tpf_decode.specs.declared.argument.Role.{Role}
use Rattle.tpf_decode.specs.declared.argument.Argument.{Argument}
use Rattle.tpf_decode.specs.declared.chain.Extended.{Extended}
use Rattle.tpf_decode.specs.declared.chain.Extended.TheVariants.{Opcode, Operand}
use Rattle.tpf_decode.specs.Profiles.{Base}
use Rattle.tpf_decode.specs.Tokens.{follows, kind_of, select_of, is_negation}
use Rattle.tpf_decode.specs.Roles.{is_declaration, may_negate}
use Rattle.tpf_decode.specs.Spelling.{IsChain, SpellsOperand, SpellsOperands}
use Rattle.tpf_decode.specs.Refusals.{Rest, broken_at, breaks, first_rule, is_taken, rule_of, chain_faults, selects, allows, indexes, token_tests, behind_faults, operand_faults, operands_faults}
use Rattle.tpf_decode.proofs.Wholes.{token_spelled}
use Rattle.tpf_program.specs.Faults.{IsLate}
use Rattle.tpf_program.proofs.Late.{AreLate}
use Rattle.tpf_program.proofs.Made.{Made, InTwo, late_split, not_broken, not_false, none_made, both_made, as_made, behind_made}

-- extended tokens
pub record IsTaken (of : Extended) (more : Bool) (front : List ℕ) : Type 0 where
  pub chain : IsChain more front
  pub taken : list_all (is_taken of) front ≡ true

not_late : (of : Extended) → IsLate (rule_of of) → ⊥
not_late Opcode h = h
not_late (Operand negatable) h = h

pub chain_made : (of : Extended) (more : Bool) (rest : Rest) (words : List ℕ) (at : ℕ) → AreLate (chain_faults of more rest at words) → Made (IsTaken of more) rest at words
chain_made of false rest words at h = none_made (IsTaken of false) rest at words (record { chain = tt; taken = refl }) h
chain_made of true rest [] at h = absurd h.0
chain_made of true rest (token ∷ words) at h =
    let s = late_split (broken (not (is_taken of token)) (rule_of of) at) (chain_faults of (follows token) rest (at + 1) words) h in
    let t = not_false (is_taken of token) (not_broken (not (is_taken of token)) (rule_of of) at (not_late of) s.0) in
    let m = chain_made of (follows token) rest words (at + 1) s.1 in
    let e : at + 1 + length m.front ≡ at + length (token ∷ m.front) = omega arith in
    record {
      front = token ∷ m.front;
      back = m.back;
      parts = ap (λ l. token ∷ l) m.parts;
      made = record { chain = m.made.chain; taken = ap (λ b. b && list_all (is_taken of) m.front) t ∙ m.made.taken };
      late = subst (λ n. AreLate (rest n m.back)) e m.late;
    }

-- operands
three_false : (a b c : Bool) (at : ℕ) → AreLate (broken_at at (breaks a K6 ∷ breaks b K7 ∷ breaks c K8 ∷ [])) → first_rule (breaks a K6 ∷ breaks b K7 ∷ breaks c K8 ∷ []) ≡ None
three_false true b c at h = absurd h.0
three_false false true c at h = absurd h.0
three_false false false true at h = absurd h.0
three_false false false false at h = refl

record IsToken (code : ℕ) (role : Role) (token : ℕ) : Type 0 where
  kind : Kind
  is : kind_of token ≡ Some kind
  sound : first_rule (token_tests Base code role (Some kind) token) ≡ None

token_made : (code : ℕ) (role : Role) (at token : ℕ) → AreLate (broken_at at (token_tests Base code role (kind_of token) token)) → IsToken code role token
token_made code role at token h = by_kind (kind_of token) refl h
  where
    no_kind : (a c : Bool) → AreLate (broken_at at (breaks a K6 ∷ breaks true K7 ∷ breaks c K8 ∷ [])) → ⊥
    no_kind true c h = h.0
    no_kind false c h = h.0

    by_kind : (o : Option Kind) → kind_of token ≡ o → AreLate (broken_at at (token_tests Base code role o token)) → IsToken code role token
    by_kind None e h = absurd (no_kind (not (selects Base code role None token)) (not (indexes (is_declaration Base code) None token)) h)
    by_kind (Some k) e h = record {
      kind = k;
      is = e;
      sound = three_false (not (selects Base code role (Some k) token)) (not (allows Base code role (Some k))) (not (indexes (is_declaration Base code) (Some k) token)) at h;
    }

pub record IsOperand (code : ℕ) (role : Role) (front : List ℕ) : Type 0 where
  pub argument : Argument
  pub spelled : SpellsOperand Base code role argument front

operand_made : (code : ℕ) (role : Role) (rest : Rest) (at : ℕ) (words : List ℕ) → AreLate (operand_faults Base code role rest at words) → Made (IsOperand code role) rest at words
operand_made code role rest at [] h = absurd h.0
operand_made code role rest at (token ∷ words) h =
    let of = Operand (may_negate Base code role) in
    let s = late_split (broken_at at (token_tests Base code role (kind_of token) token)) (chain_faults of (follows token) (behind_faults (kind_of token) token rest) (at + 1) words) h in
    let t = token_made code role at token s.0 in
    let c = chain_made of (follows token) (behind_faults (Some t.kind) token rest) words (at + 1)
    (subst (λ o. AreLate (chain_faults of (follows token) (behind_faults o token rest) (at + 1) words)) t.is s.1) in
    let b = behind_made t.kind (select_of t.kind token) (list_any is_negation c.front) token rest (at + 1 + length c.front) c.back c.late in
    let e : at + 1 + length c.front + length b.front ≡ at + length (token ∷ (c.front ++ b.front)) = omega (arith, length-append c.front b.front) in
    record {
      front = token ∷ (c.front ++ b.front);
      back = b.back;
      parts = ap (λ l. token ∷ l) (c.parts ∙ (ap (λ l. c.front ++ l) b.parts ∙ sym (append_assoc c.front b.front b.back)));
      made = record {
        argument = b.made.argument;
        spelled = record {
          token = token;
          extended = c.front;
          behind = b.front;
          parts = refl;
          head = token_spelled Base code role token t.kind b.made.argument t.is t.sound b.made.kind_is b.made.select_is;
          chain = c.made.chain;
          modifiers = c.made.taken;
          negate = b.made.negate_is;
          rest = b.made.spelled;
        };
      };
      late = subst (λ n. AreLate (rest n b.back)) e b.late;
    }

pub record AreOperands (code : ℕ) (roles : List Role) (front : List ℕ) : Type 0 where
  pub arguments : List Argument
  pub spelled : SpellsOperands Base code roles arguments front

pub operands_made : (code : ℕ) (roles : List Role) (rest : Rest) (at : ℕ) (words : List ℕ) → AreLate (operands_faults Base code roles rest at words) → Made (AreOperands code roles) rest at words
operands_made code [] rest at words h = none_made (AreOperands code []) rest at words (record { arguments = []; spelled = refl }) h
operands_made code (role ∷ roles) rest at words h =
    as_made (InTwo (IsOperand code role) (AreOperands code roles)) (AreOperands code (role ∷ roles)) rest at words
    (λ front t. record { arguments = t.first.argument ∷ t.second.arguments; spelled = (t.front, t.back, t.parts, t.first.spelled, t.second.spelled) })
    (both_made (IsOperand code role) (AreOperands code roles) (operands_faults Base code roles rest) rest at words
    (operand_made code role (operands_faults Base code roles rest) at words h) (operands_made code roles rest))
