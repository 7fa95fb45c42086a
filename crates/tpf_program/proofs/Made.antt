-- Words that break no rule but those on flags spell what stands behind an operand's tokens.
use Rattle.std.proofs.Common.{◌≡◌, ℕ, zero, suc, ◌+◌, ◌≤◌, List, [], ◌∷◌, ◌++◌, length, take, drop, Option, Some, None, Bool, true, false, not, refl, sym, ap, ◌∙◌, subst, arith, append_assoc, length-append}
use Rattle.std.specs.Prelude.{slice_index, nat_lt, if◌then◌else◌}
use Rattle.std.proofs.lemmas.Bool.Decides.{nat_tests}
use Rattle.std.proofs.lemmas.List.{length-take}
use Rattle.word_base.specs.declared.rule.Rule.{Rule}
use Rattle.word_base.specs.declared.rule.Rule.TheVariants.{K9, K11}
use Rattle.word_base.specs.declared.rule.Refusal.{Refusal}
use Rattle.word_base.specs.Rules.{broken, refusal}
use Rattle.tpf_decode.specs.declared.argument.Kind.{Kind}
use Rattle.tpf_decode.specs.declared.argument.Kind.TheVariants.{Temp, Indexable, Constant, ThreadId, GroupId, IdInGroup, FlatId}
use Rattle.tpf_decode.specs.declared.argument.Select.{Select}
use Rattle.tpf_decode.specs.declared.argument.Argument.{Argument}
use Rattle.tpf_decode.specs.declared.argument.Relative.{Relative}
use Rattle.tpf_decode.specs.Tokens.{kind_of, Fixed, Literal, Slot, Nothing, fixed_of, fixed_count, element_of, has_immediate, immediate_count, has_relative}
use Rattle.tpf_decode.specs.Roles.{is_relative, is_relative_by, is_relative_type, index_count}
use Rattle.tpf_decode.specs.Spelling.{SpellsPlace, component_of, SpellsImmediate, SpellsAddend, SpellsElement, SpellsFixed, SpellsBehind}
use Rattle.tpf_decode.specs.Refusals.{Rest, behind_words, place_count, relative_faults, element_faults, behind_faults}
use Rattle.tpf_decode.proofs.Operands.{type_of_relative}
use Rattle.tpf_program.specs.Faults.{IsLate}
use Rattle.tpf_program.proofs.Late.{AreLate}

-- words in front of which this holds, and behind which the rest breaks no other rule
pub record Made (holds : List ℕ → Type 0) (rest : Rest) (at : ℕ) (words : List ℕ) : Type 0 where
  pub front : List ℕ
  pub back : List ℕ
  pub parts : words ≡ front ++ back
  pub made : holds front
  pub late : AreLate (rest (at + length front) back)

-- words in two parts
pub record InTwo (left right : List ℕ → Type 0) (words : List ℕ) : Type 0 where
  pub front : List ℕ
  pub back : List ℕ
  pub parts : words ≡ front ++ back
  pub first : left front
  pub second : right back

pub late_split : (ps qs : List Refusal) → AreLate (ps ++ qs) → AreLate ps × AreLate qs
late_split [] qs h = (tt, h)
late_split (p ∷ ps) qs h = let t = late_split ps qs h.1 in ((h.0, t.0), t.1)

pub not_broken : (t : Bool) (rule : Rule) (at : ℕ) → (IsLate rule → ⊥) → AreLate (broken t rule at) → t ≡ false
not_broken true rule at n h = absurd (n h.0)
not_broken false rule at n h = refl

pub not_false : (b : Bool) → not b ≡ false → b ≡ true
not_false true h = refl
not_false false h = cc

pub none_made : (holds : List ℕ → Type 0) (rest : Rest) (at : ℕ) (words : List ℕ) → holds [] → AreLate (rest at words) → Made holds rest at words
none_made holds rest at words p h =
    let e : at ≡ at + 0 = omega arith in
    record { front = []; back = words; parts = refl; made = p; late = subst (λ n. AreLate (rest n words)) e h }

pub both_made : (left right : List ℕ → Type 0) (next rest : Rest) (at : ℕ) (words : List ℕ) → Made left next at words → ((n : ℕ) (ws : List ℕ) → AreLate (next n ws) → Made right rest n ws)
    → Made (InTwo left right) rest at words
both_made left right next rest at words m k =
    let n = k (at + length m.front) m.back m.late in
    let e : at + length m.front + length n.front ≡ at + length (m.front ++ n.front) = omega (arith, length-append m.front n.front) in
    record {
      front = m.front ++ n.front;
      back = n.back;
      parts = m.parts ∙ (ap (λ l. m.front ++ l) n.parts ∙ sym (append_assoc m.front n.front n.back));
      made = record { front = m.front; back = n.front; parts = refl; first = m.made; second = n.made };
      late = subst (λ i. AreLate (rest i n.back)) e n.late;
    }

pub as_made : (left right : List ℕ → Type 0) (rest : Rest) (at : ℕ) (words : List ℕ) → ((front : List ℕ) → left front → right front) → Made left rest at words → Made right rest at words
as_made left right rest at words k m = record { front = m.front; back = m.back; parts = m.parts; made = k m.front m.made; late = m.late }

cut_at : (n : ℕ) (words : List ℕ) → words ≡ take n words ++ drop n words
cut_at zero words = refl
cut_at (suc n) [] = refl
cut_at (suc n) (w ∷ words) = ap (λ l. w ∷ l) (cut_at n words)

pub words_made : (count : ℕ) (rest : Rest) (at : ℕ) (words : List ℕ) → AreLate (behind_words count rest at words) → Made (λ front. length front ≡ count) rest at words
words_made count rest at words h = by_test (nat_lt (length words) count) refl h
  where
    by_test : (b : Bool) → b ≡ nat_lt (length words) count → AreLate (if b then refusal K11 (at + length words) ∷ [] else rest (at + count) (drop count words)) → Made (λ front. length front ≡ count) rest at words
    by_test true e h = absurd h.0
    by_test false e h =
        let l : count ≤ length words = grind (arith, nat_tests) in
        let m : length (take count words) ≡ count = omega (arith, l, length-take count words) in
        record { front = take count words; back = drop count words; parts = cut_at count words; made = m; late = subst (λ n. AreLate (rest (at + n) (drop count words))) (sym m) h }

one_word : (front : List ℕ) → length front ≡ 1 → front ≡ slice_index front 0 ∷ []
one_word [] h = absurd (omega arith)
one_word (a ∷ []) h = refl
one_word (a ∷ b ∷ front) h = absurd (omega arith)

two_words : (front : List ℕ) → length front ≡ 2 → front ≡ slice_index front 0 ∷ slice_index front 1 ∷ []
two_words [] h = absurd (omega arith)
two_words (a ∷ []) h = absurd (omega arith)
two_words (a ∷ b ∷ []) h = refl
two_words (a ∷ b ∷ c ∷ front) h = absurd (omega arith)

four_words : (front : List ℕ) → length front ≡ 4 → front ≡ slice_index front 0 ∷ slice_index front 1 ∷ slice_index front 2 ∷ slice_index front 3 ∷ []
four_words [] h = absurd (omega arith)
four_words (a ∷ []) h = absurd (omega arith)
four_words (a ∷ b ∷ []) h = absurd (omega arith)
four_words (a ∷ b ∷ c ∷ []) h = absurd (omega arith)
four_words (a ∷ b ∷ c ∷ d ∷ []) h = refl
four_words (a ∷ b ∷ c ∷ d ∷ e ∷ front) h = absurd (omega arith)

pub no_words : (front : List ℕ) → length front ≡ 0 → front ≡ []
no_words [] h = refl
no_words (a ∷ front) h = absurd (omega arith)

-- relative operands
record IsPlace (kind : Kind) (front : List ℕ) : Type 0 where
  slot : ℕ
  index : ℕ
  indices : SpellsPlace kind slot index front

place_made : (kind : Kind) (front : List ℕ) → is_relative_type kind ≡ true → length front ≡ index_count kind → IsPlace kind front
place_made Temp front r h = record { slot = slice_index front 0; index = 0; indices = (one_word front h, refl) }
place_made Indexable front r h = record { slot = slice_index front 0; index = slice_index front 1; indices = two_words front h }
place_made Constant front r h = record { slot = slice_index front 0; index = slice_index front 1; indices = two_words front h }
place_made ThreadId front r h = record { slot = 0; index = 0; indices = (no_words front h, refl, refl) }
place_made GroupId front r h = record { slot = 0; index = 0; indices = (no_words front h, refl, refl) }
place_made IdInGroup front r h = record { slot = 0; index = 0; indices = (no_words front h, refl, refl) }
place_made FlatId front r h = record { slot = 0; index = 0; indices = (no_words front h, refl, refl) }
place_made kind front r h = cc

record HasKind (token : ℕ) : Type 0 where
  kind : Kind
  is : kind_of token ≡ Some kind

relative_kind : (token : ℕ) → is_relative token ≡ true → HasKind token
relative_kind token h = by_kind (kind_of token) refl h
  where
    by_kind : (o : Option Kind) → kind_of token ≡ o → is_relative_by o token ≡ true → HasKind token
    by_kind None e h = cc
    by_kind (Some k) e h = record { kind = k; is = e }

record IsAddend (b : Bool) (front : List ℕ) : Type 0 where
  relative : Option Relative
  spelled : SpellsAddend b relative front

relative_made : (b : Bool) (rest : Rest) (at : ℕ) (words : List ℕ) → AreLate (relative_faults b rest at words) → Made (IsAddend b) rest at words
relative_made false rest at words h = none_made (IsAddend false) rest at words (record { relative = None; spelled = (refl, refl) }) h
relative_made true rest at [] h = absurd h.0
relative_made true rest at (token ∷ words) h =
    let s = late_split (broken (not (is_relative token)) K9 at) (behind_words (place_count (kind_of token)) rest (at + 1) words) h in
    let r = not_false (is_relative token) (not_broken (not (is_relative token)) K9 at (λ x. x) s.0) in
    let k = relative_kind token r in
    let m = words_made (place_count (kind_of token)) rest (at + 1) words s.1 in
    let p = place_made k.kind m.front (type_of_relative token k.kind r k.is) (m.made ∙ ap place_count k.is) in
    let e : at + 1 + length m.front ≡ at + length (token ∷ m.front) = omega arith in
    record {
      front = token ∷ m.front;
      back = m.back;
      parts = ap (λ l. token ∷ l) m.parts;
      made = record {
        relative = Some (record { kind = k.kind; slot = p.slot; index = p.index; component = component_of k.kind token });
        spelled = record { token = token; place = m.front; parts = refl; form = r; kind = k.is; component = refl; indices = p.indices };
      };
      late = subst (λ n. AreLate (rest n m.back)) e m.late;
    }

-- the index behind the slot
record IsElement (o : Option ℕ) (front : List ℕ) : Type 0 where
  index : ℕ
  relative : Option Relative
  spelled : SpellsElement o index relative front

record IsImmediate (b : Bool) (front : List ℕ) : Type 0 where
  index : ℕ
  spelled : SpellsImmediate b index front

immediate_made : (b : Bool) (front : List ℕ) → length front ≡ (if b then 1 else 0) → IsImmediate b front
immediate_made true front h = record { index = slice_index front 0; spelled = one_word front h }
immediate_made false front h = record { index = 0; spelled = (no_words front h, refl) }

element_made : (o : Option ℕ) (rest : Rest) (at : ℕ) (words : List ℕ) → AreLate (element_faults o rest at words) → Made (IsElement o) rest at words
element_made None rest at words h = none_made (IsElement None) rest at words (record { index = 0; relative = None; spelled = (refl, refl, refl) }) h
element_made (Some r) rest at words h =
    as_made (InTwo (λ front. length front ≡ immediate_count r) (IsAddend (has_relative r))) (IsElement (Some r)) rest at words
    (λ front t.
    let i = immediate_made (has_immediate r) t.front t.first in
    record { index = i.index; relative = t.second.relative; spelled = record { front = t.front; back = t.back; parts = t.parts; immediate = i.spelled; addend = t.second.spelled } })
    (both_made (λ front. length front ≡ immediate_count r) (IsAddend (has_relative r)) (relative_faults (has_relative r) rest) rest at words
    (words_made (immediate_count r) (relative_faults (has_relative r) rest) at words h) (relative_made (has_relative r) rest))

-- the words directly behind an operand's tokens
record IsFixed (fixed : Fixed) (front : List ℕ) : Type 0 where
  slot : ℕ
  x : ℕ
  y : ℕ
  z : ℕ
  w : ℕ
  spelled : SpellsFixed fixed slot x y z w front

fixed_made : (fixed : Fixed) (front : List ℕ) → length front ≡ fixed_count fixed → IsFixed fixed front
fixed_made (Literal true) front h =
    record { slot = 0; x = slice_index front 0; y = slice_index front 1; z = slice_index front 2; w = slice_index front 3; spelled = (refl, four_words front h) }
fixed_made (Literal false) front h =
    record { slot = 0; x = slice_index front 0; y = slice_index front 0; z = slice_index front 0; w = slice_index front 0; spelled = (refl, (one_word front h, refl, refl, refl)) }
fixed_made Slot front h =
    record { slot = slice_index front 0; x = 0; y = 0; z = 0; w = 0; spelled = (one_word front h, record { x_is = refl; y_is = refl; z_is = refl; w_is = refl }) }
fixed_made Nothing front h =
    record { slot = 0; x = 0; y = 0; z = 0; w = 0; spelled = (no_words front h, refl, record { x_is = refl; y_is = refl; z_is = refl; w_is = refl }) }

pub record IsBehind (kind : Kind) (select : Select) (negate : Bool) (token : ℕ) (front : List ℕ) : Type 0 where
  pub argument : Argument
  pub kind_is : argument.kind ≡ kind
  pub select_is : argument.select ≡ select
  pub negate_is : argument.negate ≡ negate
  pub spelled : SpellsBehind token argument front

pub behind_made : (kind : Kind) (select : Select) (negate : Bool) (token : ℕ) (rest : Rest) (at : ℕ) (words : List ℕ) → AreLate (behind_faults (Some kind) token rest at words)
    → Made (IsBehind kind select negate token) rest at words
behind_made kind select negate token rest at words h =
    as_made (InTwo (λ front. length front ≡ fixed_count (fixed_of kind token)) (IsElement (element_of kind token))) (IsBehind kind select negate token) rest at words
    (λ front t.
    let f = fixed_made (fixed_of kind token) t.front t.first in
    record {
      argument = record { kind = kind; select = select; negate = negate; slot = f.slot; index = t.second.index; relative = t.second.relative; x = f.x; y = f.y; z = f.z; w = f.w };
      kind_is = refl;
      select_is = refl;
      negate_is = refl;
      spelled = record { fixed = t.front; element = t.back; parts = t.parts; fixed_is = f.spelled; element_is = t.second.spelled };
    })
    (both_made (λ front. length front ≡ fixed_count (fixed_of kind token)) (IsElement (element_of kind token)) (element_faults (element_of kind token) rest) rest at words
    (words_made (fixed_count (fixed_of kind token)) (element_faults (element_of kind token) rest) at words h) (element_made (element_of kind token) rest))
