-- Words that break no rule but those on flags spell an instruction or a declaration.
use Rattle.std.proofs.Common.{◌≡◌, ℕ, zero, suc, ◌+◌, ◌-◌, ◌<◌, ◌≤◌, List, [], ◌∷◌, ◌++◌, length, take, drop, Option, Some, None, Bool, true, false, not, ◌||◌, nat_eq, refl, sym, ap, ◌∙◌, subst, arith, append-nil}
use Rattle.std.specs.Prelude.{slice_index_or, is_some}
use Rattle.std.specs.List.{list_any}
use Rattle.std.proofs.lemmas.Bool.Decides.{nat_tests}
use Rattle.std.proofs.lemmas.List.{length-take}
use Rattle.word_base.specs.declared.rule.Rule.TheVariants.{K3, K4, K12, K14, K15}
use Rattle.word_base.specs.Rules.{first}
use Rattle.tpf_decode.specs.declared.argument.Argument.{Argument}
use Rattle.tpf_decode.specs.declared.chain.Extended.TheVariants.{Opcode}
use Rattle.tpf_decode.specs.declared.opcode.Form.{Form}
use Rattle.tpf_decode.specs.declared.declaration.Layout.{Layout}
use Rattle.tpf_decode.specs.Profiles.{Base}
use Rattle.tpf_decode.specs.Tokens.{opcode_of, controls_of, length_of, follows}
use Rattle.tpf_decode.specs.Opcodes.{form_of, roles_of}
use Rattle.tpf_decode.specs.Declarations.{is_known, layout_of, roles_at}
use Rattle.tpf_decode.specs.Spelling.{SpellsCustom, further_words, is_vectors}
use Rattle.tpf_decode.specs.Spelling as token
use Rattle.tpf_decode.specs.Refusals.{Test, broken_at, breaks, no_more, behind_words, chain_faults, is_wrong_length, saturates, has_wrong_sync, has_wrong_flags, head_tests, head_faults}
use Rattle.tpf_program.specs.declared.instruction.Instruction.{Instruction}
use Rattle.tpf_program.specs.Spelling.{nothing, nothings, named, IsDeclaredBy, Item, Declares, Does, SpellsItem}
use Rattle.tpf_program.specs.Reading.{parts_faults}
use Rattle.tpf_program.proofs.Tables.{is_declared_code, declared_code}
use Rattle.tpf_program.proofs.Parts.{operands_count}
use Rattle.tpf_program.proofs.Pieces.{few_roles, roles_of_form, taken_front, dropped_front, length-places, five}
use Rattle.tpf_program.proofs.SameItems.{declared_as}
use Rattle.tpf_program.proofs.Late.{AreLate}
use Rattle.tpf_program.proofs.Made.{late_split, not_false, words_made, no_words}
use Rattle.tpf_program.proofs.MadeOperands.{chain_made, operands_made}

-- An instruction or a declaration, and what stands behind it.
pub record IsPart (words : List ℕ) : Type 0 where
  pub code : ℕ
  pub controls : ℕ
  pub arguments' : List Argument
  pub further : List ℕ
  pub front : List ℕ
  pub back : List ℕ
  pub parts : words ≡ front ++ back
  pub known : is_known Base code ≡ true
  pub spelled : token.Spells Base code controls arguments' further front

two_false : (a b : Bool) (tests : List Test) (at : ℕ) → AreLate (broken_at at (breaks a K3 ∷ breaks b K4 ∷ tests)) → (a ≡ false) × (b ≡ false)
two_false true b tests at h = absurd h.0
two_false false true tests at h = absurd h.0
two_false false false tests at h = (refl, refl)

none_left : (at : ℕ) (words : List ℕ) → AreLate (no_more at words) → words ≡ []
none_left at [] h = refl
none_left at (w ∷ words) h = absurd h.0

pub halves : (n : ℕ) (words : List ℕ) → words ≡ take n words ++ drop n words
halves zero words = refl
halves (suc n) [] = refl
halves (suc n) (w ∷ words) = ap (λ l. w ∷ l) (halves n words)

pub part_made : (at token : ℕ) (words : List ℕ) → AreLate (head_faults Base (parts_faults (opcode_of token)) at token words) → IsPart (token ∷ words)
part_made at token words h =
    let code = opcode_of token in
    let inner = take (length_of token - 1) words in
    let tests = head_tests Base (length words + 1) token in
    let s = late_split (broken_at at tests) (chain_faults Opcode (follows token) (parts_faults code) (at + 1) inner) h in
    let t = two_false (is_wrong_length (length words + 1) token) (not (is_known Base code)) (breaks (saturates Base token) K12 ∷ breaks (has_wrong_sync token) K14 ∷ breaks (has_wrong_flags token) K15 ∷ []) at s.0 in
    let some : 0 < length_of token = grind (arith, nat_tests, t.0) in
    let fits : length_of token ≤ length words + 1 = grind (arith, nat_tests, t.0) in
    let c = chain_made Opcode (follows token) (parts_faults code) inner (at + 1) s.1 in
    let o = operands_made code (roles_at Base code) (behind_words (further_words (layout_of Base code)) no_more) (at + 1 + length c.front) c.back c.late in
    let f = words_made (further_words (layout_of Base code)) no_more (at + 1 + length c.front + length o.front) o.back o.late in
    let e : o.back ≡ f.front = f.parts ∙ (ap (λ l. f.front ++ l) (none_left (at + 1 + length c.front + length o.front + length f.front) f.back f.late) ∙ append-nil f.front) in
    let all : inner ≡ c.front ++ (o.front ++ f.front) = c.parts ∙ ap (λ l. c.front ++ l) (o.parts ∙ ap (λ l. o.front ++ l) e) in
    let size : length_of token ≡ length (token ∷ inner) = omega (arith, some, fits, length-take (length_of token - 1) words) in
    record {
      code = code;
      controls = controls_of token;
      arguments' = o.made.arguments;
      further = f.front;
      front = token ∷ inner;
      back = drop (length_of token - 1) words;
      parts = ap (λ l. token ∷ l) (halves (length_of token - 1) words);
      known = not_false (is_known Base code) t.1;
      spelled = record {
        head = token ∷ c.front;
        operands = o.front;
        parts = ap (λ l. token ∷ l) all;
        tokens = record {
          token = token;
          extended = c.front;
          parts = refl;
          code_is = refl;
          known = not_false (is_known Base code) t.1;
          controls_are = refl;
          size_is = size;
          chain = c.made.chain;
          types = c.made.taken;
        };
        roles = o.made.spelled;
        rest = f.made;
      };
    }

-- what is declared
AllOf : (ℕ → Type 0) → List ℕ → Type 0
AllOf holds [] = Unit {0}
AllOf holds (n ∷ ns) = holds n × AllOf holds ns

pick : (holds : ℕ → Type 0) (code : ℕ) (codes : List ℕ) → AllOf holds codes → list_any (λ k. nat_eq k code) codes ≡ true → holds code
unfolding AllOf
pick holds code [] h k = cc
pick holds code (n ∷ ns) h k = by_test (nat_eq n code) refl k h.0 (pick holds code ns h.1)
  where
    by_test : (b : Bool) → b ≡ nat_eq n code → (b || list_any (λ k. nat_eq k code) ns) ≡ true → holds n → (list_any (λ k. nat_eq k code) ns ≡ true → holds code) → holds code
    by_test true e k first next = let q : n ≡ code = grind (arith, nat_tests) in subst holds q first
    by_test false e k first next = next k

declared_back : (code controls : ℕ) (a : Argument) (further : List ℕ) → is_declared_code code ≡ true → IsDeclaredBy (declared_as code controls a further) code controls a further
unfolding declared_as AllOf
declared_back code controls a further h =
    pick (λ n. IsDeclaredBy (declared_as n controls a further) n controls a further) code
    (89 ∷ 95 ∷ 104 ∷ 105 ∷ 106 ∷ 155 ∷ 157 ∷ 158 ∷ 159 ∷ 160 ∷ 161 ∷ 162 ∷ []) (
      (refl, refl, refl),
      (
        (refl, refl, refl),
        (
          (refl, refl),
          (
            (refl, refl, refl, refl),
            (
              (refl, refl),
              (
                (refl, refl, refl, refl),
                (
                  (refl, refl, refl, refl),
                  (
                    (refl, refl, refl, refl, refl),
                    ((refl, refl, refl), ((refl, refl, refl, refl), ((refl, refl), ((refl, refl, refl), tt)))),
                  ),
                ),
              ),
            ),
          ),
        ),
      ),
    ) h

-- an item, and what stands behind it
pub record HasItem (at : ℕ) (words : List ℕ) : Type 0 where
  pub item : Item
  pub front : List ℕ
  pub back : List ℕ
  pub parts : words ≡ front ++ back
  pub spelled : SpellsItem Base at item front

declaration_made : (at : ℕ) (words : List ℕ) (p : IsPart words) → is_some (layout_of Base p.code) ≡ true → HasItem at words
declaration_made at words p h = record {
  item = Declares (record { place = at; what = declared_as p.code p.controls (named p.arguments') p.further });
  front = p.front;
  back = p.back;
  parts = p.parts;
  spelled = (
    refl,
    record {
      code = p.code;
      controls = p.controls;
      arguments = p.arguments';
      further = p.further;
      spelled = p.spelled;
      declared = declared_back p.code p.controls (named p.arguments') p.further (declared_code p.code h);
    },
  );
}

made_of : (at : ℕ) (code controls : ℕ) (list : List Argument) (front : List ℕ) → Instruction
made_of at code controls list front =
    let places = list ++ drop (length list) nothings in
    record {
      place = at;
      length = length front;
      code = code;
      controls = controls;
      count = length list;
      o0 = slice_index_or places 0 nothing;
      o1 = slice_index_or places 1 nothing;
      o2 = slice_index_or places 2 nothing;
      o3 = slice_index_or places 3 nothing;
      o4 = slice_index_or places 4 nothing;
    }

instruction_made : (at : ℕ) (words : List ℕ) (p : IsPart words) (f : Form) → form_of Base p.code ≡ Some f → layout_of Base p.code ≡ None → HasItem at words
unfolding made_of
instruction_made at words p f some none =
    let list = p.arguments' in
    let places = list ++ drop (length list) nothings in
    let n : length list ≡ length (roles_of f) = operands_count Base p.code (roles_at Base p.code) list p.spelled.operands p.spelled.roles ∙ ap length (roles_of_form p.code f some) in
    let few : length list ≤ 5 = omega (arith, n, few_roles f) in
    let all = five places nothing (length-places list nothings few) in
    let empty : p.further ≡ [] = no_words p.further (p.spelled.rest ∙ ap further_words none) in
    record {
      item = Does (made_of at p.code p.controls list p.front);
      front = p.front;
      back = p.back;
      parts = p.parts;
      spelled = (
        refl,
        record {
          spelled = subst (λ l. token.Spells Base p.code p.controls l [] p.front) (sym (sym (ap (take (length list)) all) ∙ taken_front list (drop (length list) nothings) (length list) refl))
              (subst (λ l. token.Spells Base p.code p.controls list l p.front) empty p.spelled);
          form = ap is_some some;
          size = refl;
          count = few;
          others = sym (ap (drop (length list)) all) ∙ dropped_front list (drop (length list) nothings) (length list) refl;
        },
      );
    }

pub known_item : (at : ℕ) (words : List ℕ) → IsPart words → HasItem at words
known_item at words p = by_tables (form_of Base p.code) (layout_of Base p.code) refl refl p.known
  where
    by_tables : (o : Option Form) (l : Option Layout) → o ≡ form_of Base p.code → l ≡ layout_of Base p.code → (is_some o || is_some l) ≡ true → HasItem at words
    by_tables o (Some l) e g h = declaration_made at words p (sym (ap is_some g))
    by_tables (Some f) None e g h = instruction_made at words p f (sym e) (sym g)
    by_tables None None e g h = cc
