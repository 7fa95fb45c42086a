-- Words that break no rule but those on flags spell a program.
use Rattle.std.proofs.Common.{◌≡◌, ℕ, zero, suc, ◌+◌, ◌-◌, ◌<◌, ◌≤◌, List, [], ◌∷◌, ◌++◌, length, take, drop, None, Bool, true, false, not, ◌&&◌, ◌||◌, nat_eq, refl, sym, ap, ◌∙◌, subst, arith, length-append}
use Rattle.std.specs.Prelude.{Contains, slice_index, slice_range, nat_lt, nat_le, is_some, if◌then◌else◌}
use Rattle.std.proofs.lemmas.Bool.Decides.{nat_tests}
use Rattle.std.proofs.lemmas.List.{length-take}
use Rattle.word_base.specs.declared.rule.Rule.TheVariants.{K1, K2, M2, K13}
use Rattle.word_base.specs.declared.rule.Refusal.{Refusal}
use Rattle.word_base.specs.Rules.{broken, first}
use Rattle.tpf_decode.specs.Profiles.{Base}
use Rattle.tpf_decode.specs.Tokens.{opcode_of, class_of}
use Rattle.tpf_decode.specs.Spelling.{SpellsCustom, is_vectors}
use Rattle.tpf_decode.specs.Refusals.{head_faults, is_custom, is_custom_size, is_custom_data, header_faults, instruction_faults}
use Rattle.tpf_decode.proofs.Ranges.{length-range}
use Rattle.tpf_program.specs.Program.{Shader}
use Rattle.tpf_program.specs.Spelling.{Item, Lists, Skips, SpellsItems, Spells, declarations_in, instructions_in, constants_in, typed_in}
use Rattle.tpf_program.specs.Reading.{parts_faults}
use Rattle.tpf_program.specs.Faults.{IsLate, part_size, body_faults, program_faults}
use Rattle.tpf_program.proofs.Items.{item_some}
use Rattle.tpf_program.proofs.Reach.{part_and_rest, item_size}
use Rattle.tpf_program.proofs.Walk.{head_told, head_sound, two_words}
use Rattle.tpf_program.proofs.Late.{AreLate}
use Rattle.tpf_program.proofs.Made.{late_split, not_broken, not_false}
use Rattle.tpf_program.proofs.Recovered.{HasItem, part_made, halves, known_item}

-- custom data
sizes : (kind size room : ℕ) → is_custom_size kind size room ≡ true → (kind ≤ 3) × (2 ≤ size) × (size ≤ room)
sizes kind size room h = (grind (arith, nat_tests), grind (arith, nat_tests), grind (arith, nat_tests))

last_of_four : (a b c d : Bool) → (a && (b && (c && d))) ≡ true → d ≡ true
last_of_four true true true d h = h
last_of_four true true false d h = cc
last_of_four true false c d h = cc
last_of_four false b c d h = cc

vectors : (kind size room : ℕ) → is_custom_size kind size room ≡ true → kind ≡ 3 → is_vectors (size - 2) ≡ true
vectors kind size room h e =
    let f : nat_eq kind 3 ≡ true = grind (arith, nat_tests) in
    sym (ap (λ b. not b || is_vectors (size - 2)) f) ∙ last_of_four (nat_le kind 3) (nat_le 2 size) (nat_le size room) (not (nat_eq kind 3) || is_vectors (size - 2)) h

custom_item : (at token size : ℕ) (words : List ℕ) → is_custom_data token ≡ true → is_custom_size (class_of token) size (length words + 2) ≡ true → HasItem at (token ∷ size ∷ words)
custom_item at token size words c h =
    let s = sizes (class_of token) size (length words + 2) h in
    let values = take (size - 2) words in
    let n : length values ≡ size - 2 = omega (arith, s.2, length-take (size - 2) words) in
    let m : size ≡ length values + 2 = omega (arith, n, s.1) in
    let code : opcode_of token ≡ 53 = grind (arith, nat_tests) in
    let spelled : SpellsCustom (class_of token) values (token ∷ size ∷ values) = record {
      token = token;
      parts = ap (λ k. token ∷ k ∷ values) m;
      code = code;
      kind_is = refl;
      known = s.0;
      vectors = λ three. ap is_vectors n ∙ vectors (class_of token) size (length words + 2) h three;
    } in
    by_kind (nat_eq (class_of token) 3) refl spelled
  where
    by_kind : (b : Bool) → b ≡ nat_eq (class_of token) 3 → SpellsCustom (class_of token) (take (size - 2) words) (token ∷ size ∷ take (size - 2) words) → HasItem at (token ∷ size ∷ words)
    by_kind true e spelled =
        let three : class_of token ≡ 3 = grind (arith, nat_tests) in
        record {
          item = Lists at (take (size - 2) words);
          front = token ∷ size ∷ take (size - 2) words;
          back = drop (size - 2) words;
          parts = ap (λ l. token ∷ size ∷ l) (halves (size - 2) words);
          spelled = (refl, subst (λ k. SpellsCustom k (take (size - 2) words) (token ∷ size ∷ take (size - 2) words)) three spelled);
        }
    by_kind false e spelled =
        let less : class_of token < 3 = grind (arith, nat_tests, spelled.known) in
        record {
          item = Skips (class_of token) (take (size - 2) words);
          front = token ∷ size ∷ take (size - 2) words;
          back = drop (size - 2) words;
          parts = ap (λ l. token ∷ size ∷ l) (halves (size - 2) words);
          spelled = (less, spelled);
        }

custom_made : (at token : ℕ) (words : List ℕ) → is_custom_data token ≡ true → is_custom token words ≡ true → HasItem at (token ∷ words)
custom_made at token [] c h = cc
custom_made at token (size ∷ words) c h = custom_item at token size words c h

item_made : (at token : ℕ) (words : List ℕ) → AreLate (instruction_faults Base at (token ∷ words)) → HasItem at (token ∷ words)
item_made at token words h = by_test (is_custom_data token) refl h
  where
    by_test : (b : Bool) → is_custom_data token ≡ b → AreLate (if b then broken (not (is_custom token words)) K13 at else head_faults Base (parts_faults (opcode_of token)) at token words) → HasItem at (token ∷ words)
    by_test true c h = custom_made at token words c (not_false (is_custom token words) (not_broken (not (is_custom token words)) K13 at (λ x. x) h))
    by_test false c h = known_item at (token ∷ words) (part_made at token words h)

-- all parts
record HasItems (at : ℕ) (words : List ℕ) : Type 0 where
  items : List Item
  spelled : SpellsItems Base at items words

items_made : (fuel at : ℕ) (words : List ℕ) → length words ≤ fuel → AreLate (body_faults Base 0 at words) → HasItems at words
unfolding body_faults
items_made fuel at [] l h = record { items = []; spelled = refl }
items_made zero at (token ∷ words) l h = absurd (omega (arith, l))
items_made (suc fuel) at (token ∷ words) l h =
    let size = part_size (token ∷ words) in
    let s = late_split (instruction_faults Base at (token ∷ words)) (if nat_eq size 0 then [] else body_faults Base (size - 1) (at + 1) words) h in
    let p = item_made at token words s.0 in
    let some = item_some at p.item p.front p.spelled in
    let e = ap (body_faults Base 0 at) p.parts ∙ part_and_rest p.front p.back at some (item_size at p.item p.front p.back p.spelled) in
    let t = late_split (instruction_faults Base at (p.front ++ p.back)) (body_faults Base 0 (at + length p.front) p.back) (subst AreLate e h) in
    let fewer : length p.back ≤ fuel = omega (arith, l, some, ap length p.parts, length-append p.front p.back) in
    let r = items_made fuel (at + length p.front) p.back fewer t.1 in
    record { items = p.item ∷ r.items; spelled = (p.front, p.back, p.parts, p.spelled, r.spelled) }

late_all : (rs : List Refusal) → ((r : Refusal) → Contains rs r → IsLate r.rule) → AreLate rs
late_all [] h = tt
late_all (a ∷ rs) h = (h a (0, omega arith, refl), late_all rs (λ r there. h r (suc there.0, omega (arith, there.1), there.2)))

no_head : (a b c : Bool) → AreLate (broken a K1 0 ++ (broken b K2 1 ++ broken c M2 1)) → broken a K1 0 ++ (broken b K2 1 ++ broken c M2 1) ≡ []
no_head true b c h = absurd h.0
no_head false true c h = absurd h.0
no_head false false true h = absurd h.0
no_head false false false h = refl

pub program_found : (tokens : List ℕ) → ((r : Refusal) → Contains (program_faults Base tokens) r → IsLate r.rule) → (p : Shader) × Spells Base p tokens × (p.words ≤ 65536)
unfolding program_faults
program_found tokens h =
    let all = late_all (program_faults Base tokens) h in
    let s = late_split (header_faults tokens) (if is_some (first (header_faults tokens)) then [] else body_faults Base 0 2 (slice_range tokens 2 (slice_index tokens 1))) all in
    let n = slice_index tokens 1 in
    let none = no_head (not (nat_eq (slice_index tokens 0) 0x00050050)) (nat_lt (slice_index tokens 1) 2 || nat_lt (length tokens) (slice_index tokens 1)) (nat_lt 65536 (slice_index tokens 1)) s.0 in
    let sound : None ≡ first (header_faults tokens) = sym (ap first none) in
    let k = head_told tokens n sound refl in
    let body = slice_range tokens 2 n in
    let late : AreLate (body_faults Base 0 2 body) = subst AreLate (head_sound tokens n sound refl) all in
    let m = items_made (length body) 2 body (omega arith) late in
    let p : Shader = record { words = n; declarations = declarations_in m.items; constants = constants_in m.items; instructions = instructions_in m.items; typed = typed_in m.items } in (
      p,
      record {
        items = m.items;
        body = body;
        ignored = drop n tokens;
        whole = two_words tokens n k.least k.fits ∙ ap (λ v. v ∷ n ∷ (body ++ drop n tokens)) k.version;
        count = omega (arith, length-range tokens 2 n k.fits, k.least);
        parts = m.spelled;
        declarations = refl;
        instructions = refl;
        constants = refl;
        typed = refl;
      },
      k.most,
    )
