-- What is spelled breaks no rule, and its words say what it is.
use Rattle.std.proofs.Common.{◌≡◌, ℕ, ◌+◌, List, [], ◌∷◌, ◌++◌, length, drop, Option, Some, None, Bool, true, false, not, ◌&&◌, ◌||◌, refl, sym, ap, ◌∙◌, arith, append_assoc}
use Rattle.std.specs.Prelude.{if◌then◌else◌, nat_lt}
use Rattle.std.specs.List.{list_all}
use Rattle.std.proofs.Math.Seq.{drop-append_seam}
use Rattle.std.proofs.lemmas.List.{length-append}
use Rattle.std.proofs.lemmas.Bool.Decides.{nat_tests}
use Rattle.word_base.specs.declared.rule.Rule.TheVariants.{K6, K7, K8, K9, K11}
use Rattle.word_base.specs.Rules.{broken, refusal}
use Rattle.tpf_decode.specs.declared.argument.Kind.{Kind}
use Rattle.tpf_decode.specs.declared.argument.Kind.TheVariants.{Temp, Indexable, Constant, ThreadId, GroupId, IdInGroup, FlatId}
use Rattle.tpf_decode.specs.declared.argument.Role.{Role}
use Rattle.tpf_decode.specs.declared.argument.Argument.{Argument}
use Rattle.tpf_decode.specs.declared.argument.Relative.{Relative}
use Rattle.tpf_decode.specs.declared.chain.Extended.{Extended}
use Rattle.tpf_decode.specs.declared.chain.Extended.TheVariants.{Operand}
use Rattle.tpf_decode.specs.Profiles.{Profile}
use Rattle.tpf_decode.specs.Tokens.{follows, kind_of, has_selection, Fixed, Literal, Slot, Nothing, fixed_of, fixed_count, element_of, has_immediate, has_relative, immediate_count}
use Rattle.tpf_decode.specs.Roles.{may_negate, is_relative_type, index_count, is_allowed, takes, has_indices, is_declaration}
use Rattle.tpf_decode.specs.Spelling.{IsChain, SpellsPlace, SpellsRelative, SpellsImmediate, SpellsAddend, SpellsElement, SpellsFixed, SpellsBehind, SpellsToken, SpellsOperand}
use Rattle.tpf_decode.specs.Refusals.{broken_at, Rest, is_taken, chain_faults, token_tests, behind_words, place_count, relative_faults, element_faults, behind_faults, operand_faults}
use Rattle.tpf_decode.proofs.Chains.{leads_of, taken_pass}
use Rattle.tpf_decode.proofs.Operands.{type_of_relative}

-- words that are wanted and there
words_pass : (count : ℕ) (rest : Rest) (at : ℕ) (front back : List ℕ) → length front ≡ count → behind_words count rest at (front ++ back) ≡ rest (at + length front) back
words_pass count rest at front back e =
    let l : length (front ++ back) ≡ length front + length back = length-append front back in
    let t : nat_lt (length (front ++ back)) count ≡ false = grind (arith, nat_tests) in
    ap (λ b. if b then refusal K11 (at + length (front ++ back)) ∷ [] else rest (at + count) (drop count (front ++ back))) t
    ∙ (ap (λ n. rest (at + n) (drop n (front ++ back))) (sym e) ∙ ap (rest (at + length front)) (drop-append_seam front back))

chain_pass : (of : Extended) (more : Bool) (rest : Rest) (tokens words : List ℕ) (at : ℕ) → IsChain more tokens → list_all (is_taken of) tokens ≡ true
    → chain_faults of more rest at (tokens ++ words) ≡ rest (at + length tokens) words
chain_pass of more rest tokens words at h k = taken_pass of more false rest tokens words at (leads_of more tokens h) k

length-place : (kind : Kind) (slot index : ℕ) (words : List ℕ) → is_relative_type kind ≡ true → SpellsPlace kind slot index words → length words ≡ index_count kind
length-place Temp slot index words h s = ap length s.0
length-place Indexable slot index words h s = ap length s
length-place Constant slot index words h s = ap length s
length-place ThreadId slot index words h s = ap length s.0
length-place GroupId slot index words h s = ap length s.0
length-place IdInGroup slot index words h s = ap length s.0
length-place FlatId slot index words h s = ap length s.0
length-place kind slot index words h s = cc

relative_pass : (relative : Relative) (rest : Rest) (at : ℕ) (words more : List ℕ) → SpellsRelative relative words → relative_faults true rest at (words ++ more) ≡ rest (at + length words) more
relative_pass relative rest at words more s =
    let n : length s.place ≡ index_count relative.kind =
    length-place relative.kind relative.slot relative.index s.place (type_of_relative s.token relative.kind s.form s.kind) s.indices in
    let e : at + 1 + length s.place ≡ at + length words = omega (arith, ap length s.parts) in
    ap (λ l. relative_faults true rest at (l ++ more)) s.parts
    ∙ (ap (λ b. broken (not b) K9 at ++ behind_words (place_count (kind_of s.token)) rest (at + 1) (s.place ++ more)) s.form
    ∙ (ap (λ o. behind_words (place_count o) rest (at + 1) (s.place ++ more)) s.kind
    ∙ (words_pass (index_count relative.kind) rest (at + 1) s.place more n ∙ ap (λ m. rest m more) e)))

addend_pass : (b : Bool) (relative : Option Relative) (rest : Rest) (at : ℕ) (words more : List ℕ) → SpellsAddend b relative words → relative_faults b rest at (words ++ more) ≡ rest (at + length words) more
addend_pass false relative rest at words more s =
    let e : at ≡ at + length words = omega (arith, ap length s.0) in
    ap (λ l. rest at (l ++ more)) s.0 ∙ ap (λ m. rest m more) e
addend_pass true None rest at words more s = absurd s
addend_pass true (Some r) rest at words more s = relative_pass r rest at words more s

length-immediate : (b : Bool) (index : ℕ) (words : List ℕ) → SpellsImmediate b index words → length words ≡ (if b then 1 else 0)
length-immediate true index words s = ap length s
length-immediate false index words s = ap length s.0

element_pass : (o : Option ℕ) (index : ℕ) (relative : Option Relative) (rest : Rest) (at : ℕ) (words more : List ℕ) → SpellsElement o index relative words
    → element_faults o rest at (words ++ more) ≡ rest (at + length words) more
element_pass None index relative rest at words more s =
    let e : at ≡ at + length words = omega (arith, ap length s.0) in
    ap (λ l. rest at (l ++ more)) s.0 ∙ ap (λ m. rest m more) e
element_pass (Some r) index relative rest at words more s =
    let e : at + length s.front + length s.back ≡ at + length words = omega (arith, ap length s.parts, length-append s.front s.back) in
    ap (λ l. element_faults (Some r) rest at (l ++ more)) s.parts
    ∙ (ap (element_faults (Some r) rest at) (append_assoc s.front s.back more)
    ∙ (words_pass (immediate_count r) (relative_faults (has_relative r) rest) at s.front (s.back ++ more) (length-immediate (has_immediate r) index s.front s.immediate)
    ∙ (addend_pass (has_relative r) relative rest (at + length s.front) s.back more s.addend ∙ ap (λ m. rest m more) e)))

length-fixed : (fixed : Fixed) (slot x y z w : ℕ) (words : List ℕ) → SpellsFixed fixed slot x y z w words → length words ≡ fixed_count fixed
length-fixed (Literal true) slot x y z w words s = ap length s.1
length-fixed (Literal false) slot x y z w words s = ap length s.1.0
length-fixed Slot slot x y z w words s = ap length s.0
length-fixed Nothing slot x y z w words s = ap length s.0

behind_pass : (token : ℕ) (a : Argument) (rest : Rest) (at : ℕ) (words more : List ℕ) → SpellsBehind token a words → behind_faults (Some a.kind) token rest at (words ++ more) ≡ rest (at + length words) more
behind_pass token a rest at words more s =
    let e : at + length s.fixed + length s.element ≡ at + length words = omega (arith, ap length s.parts, length-append s.fixed s.element) in
    ap (λ l. behind_faults (Some a.kind) token rest at (l ++ more)) s.parts
    ∙ (ap (behind_faults (Some a.kind) token rest at) (append_assoc s.fixed s.element more)
    ∙ (words_pass (fixed_count (fixed_of a.kind token)) (element_faults (element_of a.kind token) rest) at s.fixed (s.element ++ more)
    (length-fixed (fixed_of a.kind token) a.slot a.x a.y a.z a.w s.fixed s.fixed_is)
    ∙ (element_pass (element_of a.kind token) a.index a.relative rest (at + length s.fixed) s.element more s.element_is ∙ ap (λ m. rest m more) e)))

three_pass : (selected allowed taken indexed : Bool) → selected ≡ true → allowed ≡ true → taken ≡ true → indexed ≡ true
    → (not (selected && (not allowed || taken)) ≡ false) × (not allowed ≡ false) × (not indexed ≡ false)
three_pass true true true true h k l m = (refl, refl, refl)
three_pass false b c d h k l m = cc
three_pass true false c d h k l m = cc
three_pass true true false d h k l m = cc
three_pass true true true false h k l m = cc

token_pass : (profile : Profile) (code : ℕ) (role : Role) (a : Argument) (token at : ℕ) → SpellsToken profile code role a token → broken_at at (token_tests profile code role (kind_of token) token) ≡ []
token_pass profile code role a token at s =
    let allowed = is_allowed profile code role a.kind in
    let indexed = has_indices (is_declaration profile code) a.kind token in
    let t = three_pass (has_selection token) allowed (takes code role a.kind token) indexed s.selection s.allowed s.taken s.indices in
    ap (λ o. broken_at at (token_tests profile code role o token)) s.kind
    ∙ (ap (λ b. broken b K6 at ++ (broken (not allowed) K7 at ++ (broken (not indexed) K8 at ++ []))) t.0
    ∙ (ap (λ b. broken b K7 at ++ (broken (not indexed) K8 at ++ [])) t.1 ∙ ap (λ b. broken b K8 at ++ []) t.2))

-- an operand's words are passed over
pub operand_pass : (profile : Profile) (code : ℕ) (role : Role) (a : Argument) (rest : Rest) (at : ℕ) (words more : List ℕ) → SpellsOperand profile code role a words
    → operand_faults profile code role rest at (words ++ more) ≡ rest (at + length words) more
operand_pass profile code role a rest at words more s =
    let e : at + 1 + length s.extended + length s.behind ≡ at + length words = omega (arith, ap length s.parts, length-append s.extended s.behind) in
    ap (λ l. operand_faults profile code role rest at (l ++ more)) s.parts
    ∙ (ap (operand_faults profile code role rest at) (ap (λ l. s.token ∷ l) (append_assoc s.extended s.behind more))
    ∙ (ap (λ qs. qs ++ chain_faults (Operand (may_negate profile code role)) (follows s.token) (behind_faults (kind_of s.token) s.token rest) (at + 1) (s.extended ++ (s.behind ++ more))) (token_pass profile code role a s.token at s.head)
    ∙ (chain_pass (Operand (may_negate profile code role)) (follows s.token) (behind_faults (kind_of s.token) s.token rest) s.extended (s.behind ++ more) (at + 1) s.chain s.modifiers
    ∙ (ap (λ o. behind_faults o s.token rest (at + 1 + length s.extended) (s.behind ++ more)) s.head.kind
    ∙ (behind_pass s.token a rest (at + 1 + length s.extended) s.behind more s.rest ∙ ap (λ m. rest m more) e)))))
