-- A program is read part by part.
use Rattle.std.proofs.Common.{◌≡◌, ℕ, ◌+◌, ◌*◌, ◌-◌, ◌<◌, ◌≤◌, List, [], ◌∷◌, ◌++◌, length, take, drop, Some, None, refl, sym, ap, ◌∙◌, subst, arith, append_assoc, append-nil, length-append}
use Rattle.std.specs.Prelude.{slice_range, slice_index, zero, suc, is_some, nat_eq, nat_lt, ◌||◌, not, Bool, true, false, if◌then◌else◌}
use Rattle.std.proofs.lemmas.Bool.Decides.{nat_tests}
use Rattle.std.proofs.lemmas.List.Sums.{sum_by-append}
use Rattle.word_base.specs.declared.rule.Refusal.{Refusal}
use Rattle.word_base.specs.declared.rule.Rule.TheVariants.{K1, K2, M2}
use Rattle.word_base.specs.Rules.{first, refusal}
use Rattle.tpf_decode.specs.Profiles.{Base}
use Rattle.tpf_decode.specs.Refusals.{header_faults, instruction_faults}
use Rattle.tpf_decode.proofs.Ranges.{range_split, range_none, range_one, length-range}
use Rattle.tpf_program.specs.declared.declaration.Declared.{Declared}
use Rattle.tpf_program.specs.declared.instruction.Instruction.{Instruction}
use Rattle.tpf_program.specs.Program.{Shader}
use Rattle.tpf_program.specs.Spelling.{Item, Declares, Types, Does, Lists, Skips, SpellsItem, SpellsItems, Spells, listed, declarations_in, instructions_in, constants_in, typed_in}
use Rattle.tpf_program.specs.Faults.{body_faults, program_faults}
use Rattle.tpf_program.specs.Reading.{IsReadTo}
use Rattle.tpf_program.specs.Cases.{is_any_case}
use Rattle.tpf_program.specs.Ends.{count, means}
use Rattle.tpf_program.proofs.CaseWords.{cases_fit}
use Rattle.tpf_program.proofs.Ordered.{declared_at, done_at, places_more}
use Rattle.tpf_program.proofs.Reach.{none_first, part_passed}

pub record IsWalked (words : List ℕ) (n at : ℕ) (p : Shader) : Type 0 where
  pub count : p.words ≡ n
  pub begins : 2 ≤ at
  pub upto : at ≤ n
  pub read : IsReadTo words at p

-- one part more
items_more : (at : ℕ) (items : List Item) (x : Item) (front back : List ℕ) → SpellsItems Base at items front → SpellsItem Base (at + length front) x back → SpellsItems Base at (items ++ x ∷ []) (front ++ back)
items_more at [] x front back h k =
    let e : at + length front ≡ at = omega (arith, ap length h) in
    (back, [], ap (λ l. l ++ back) h ∙ sym (append-nil back), subst (λ n. SpellsItem Base n x back) e k, refl)
items_more at (y ∷ items) x front back h k =
    let e : at + length front ≡ at + length h.0 + length h.1 = omega (arith, ap length h.2, length-append h.0 h.1) in
    (h.0, h.1 ++ back, ap (λ l. l ++ back) h.2 ∙ append_assoc h.0 h.1 back, h.3, items_more (at + length h.0) items x h.1 back h.4 (subst (λ n. SpellsItem Base n x back) e k))

range_more : (words : List ℕ) (at end : ℕ) (items : List Item) (x : Item) → 2 ≤ at → at ≤ end → end ≤ length words → SpellsItems Base 2 items (slice_range words 2 at) → SpellsItem Base at x (slice_range words at end)
    → SpellsItems Base 2 (items ++ x ∷ []) (slice_range words 2 end)
range_more words at end items x h k fits s t =
    let e : at ≡ 2 + length (slice_range words 2 at) = omega (arith, length-range words 2 at (omega arith)) in
    subst (λ l. SpellsItems Base 2 (items ++ x ∷ []) l) (sym (range_split words 2 at end h k))
    (items_more 2 items x (slice_range words 2 at) (slice_range words at end) s (subst (λ n. SpellsItem Base n x (slice_range words at end)) e t))

declarations_joined : (xs ys : List Item) → declarations_in (xs ++ ys) ≡ declarations_in xs ++ declarations_in ys
declarations_joined [] ys = refl
declarations_joined (Declares d ∷ xs) ys = ap (λ l. d ∷ l) (declarations_joined xs ys)
declarations_joined (Types d view ∷ xs) ys = ap (λ l. d ∷ l) (declarations_joined xs ys)
declarations_joined (Does i ∷ xs) ys = declarations_joined xs ys
declarations_joined (Lists place values ∷ xs) ys = ap (λ l. listed place values ∷ l) (declarations_joined xs ys)
declarations_joined (Skips kind values ∷ xs) ys = declarations_joined xs ys

instructions_joined : (xs ys : List Item) → instructions_in (xs ++ ys) ≡ instructions_in xs ++ instructions_in ys
instructions_joined [] ys = refl
instructions_joined (Declares d ∷ xs) ys = instructions_joined xs ys
instructions_joined (Types d view ∷ xs) ys = instructions_joined xs ys
instructions_joined (Does i ∷ xs) ys = ap (λ l. i ∷ l) (instructions_joined xs ys)
instructions_joined (Lists place values ∷ xs) ys = instructions_joined xs ys
instructions_joined (Skips kind values ∷ xs) ys = instructions_joined xs ys

constants_joined : (xs ys : List Item) → constants_in (xs ++ ys) ≡ constants_in xs ++ constants_in ys
constants_joined [] ys = refl
constants_joined (Declares d ∷ xs) ys = constants_joined xs ys
constants_joined (Types d view ∷ xs) ys = constants_joined xs ys
constants_joined (Does i ∷ xs) ys = constants_joined xs ys
constants_joined (Lists place values ∷ xs) ys = ap (λ l. values ++ l) (constants_joined xs ys) ∙ sym (append_assoc values (constants_in xs) (constants_in ys))
constants_joined (Skips kind values ∷ xs) ys = constants_joined xs ys

typed_joined : (xs ys : List Item) → typed_in (xs ++ ys) ≡ typed_in xs ++ typed_in ys
typed_joined [] ys = refl
typed_joined (Declares d ∷ xs) ys = typed_joined xs ys
typed_joined (Types d view ∷ xs) ys = ap (λ l. view ∷ l) (typed_joined xs ys)
typed_joined (Does i ∷ xs) ys = typed_joined xs ys
typed_joined (Lists place values ∷ xs) ys = typed_joined xs ys
typed_joined (Skips kind values ∷ xs) ys = typed_joined xs ys

-- what a part adds to a program
pub record Adds (x : Item) (p q : Shader) : Type 0 where
  pub words : q.words ≡ p.words
  pub declarations : q.declarations ≡ p.declarations ++ declarations_in (x ∷ [])
  pub instructions : q.instructions ≡ p.instructions ++ instructions_in (x ∷ [])
  pub constants : q.constants ≡ p.constants ++ constants_in (x ∷ [])
  pub typed : q.typed ≡ p.typed ++ typed_in (x ∷ [])

few : (xs ys zs : List Declared) (at end : ℕ) → ys ≡ xs ++ zs → length xs ≤ at → length zs ≤ 1 → at < end → length ys ≤ end
few xs ys zs at end e h k l = omega (arith, ap length e, length-append xs zs)

few_instructions : (xs ys zs : List Instruction) (at end : ℕ) → ys ≡ xs ++ zs → length xs ≤ at → length zs ≤ 1 → at < end → length ys ≤ end
few_instructions xs ys zs at end e h k l = omega (arith, ap length e, length-append xs zs)

few_constants : (xs ys zs : List ℕ) (at end : ℕ) → ys ≡ xs ++ zs → length xs ≤ at → at + length zs ≤ end → length ys ≤ end
few_constants xs ys zs at end e h k = omega (arith, ap length e, length-append xs zs)

more_cases : (xs ys zs : List Instruction) (at end : ℕ) → ys ≡ xs ++ zs → 3 * count Base is_any_case xs ≤ at → at + 3 * count Base is_any_case zs ≤ end → 3 * count Base is_any_case ys ≤ end
more_cases xs ys zs at end e h k =
    omega (arith, h, k, ap (count Base is_any_case) e, sum_by-append (λ i. if means Base is_any_case i then 1 else 0) xs zs)

one_declared : (x : Item) → length (declarations_in (x ∷ [])) ≤ 1
one_declared (Declares d) = omega arith
one_declared (Types d view) = omega arith
one_declared (Does i) = omega arith
one_declared (Lists place values) = omega arith
one_declared (Skips kind values) = omega arith

one_instruction : (x : Item) → length (instructions_in (x ∷ [])) ≤ 1
one_instruction (Declares d) = omega arith
one_instruction (Types d view) = omega arith
one_instruction (Does i) = omega arith
one_instruction (Lists place values) = omega arith
one_instruction (Skips kind values) = omega arith

-- the words of a buffer are fewer than its own
few_words : (x : Item) (at : ℕ) (words : List ℕ) → SpellsItem Base at x words → length (constants_in (x ∷ [])) ≤ length words
few_words (Declares d) at words h = omega arith
few_words (Types d view) at words h = omega arith
few_words (Does i) at words h = omega arith
few_words (Skips kind values) at words h = omega arith
few_words (Lists place values) at words h = omega (arith, ap length h.1.parts, ap length (append-nil values))

pub part_read : (words : List ℕ) (at end : ℕ) (x : Item) (p q : Shader) → 2 ≤ at → at < end → end ≤ length words → IsReadTo words at p → SpellsItem Base at x (slice_range words at end) → Adds x p q
    → end ≤ p.words → p.words ≤ length words → None ≡ first (instruction_faults Base at (slice_range words at p.words)) → IsReadTo words end q
part_read words at end x p q h k fits r s a inside most none = record {
  items = r.items ++ x ∷ [];
  parts = range_more words at end r.items x h (omega arith) fits r.parts s;
  declarations = a.declarations ∙ (ap (λ l. l ++ declarations_in (x ∷ [])) r.declarations ∙ sym (declarations_joined r.items (x ∷ [])));
  instructions = a.instructions ∙ (ap (λ l. l ++ instructions_in (x ∷ [])) r.instructions ∙ sym (instructions_joined r.items (x ∷ [])));
  constants = a.constants ∙ (ap (λ l. l ++ constants_in (x ∷ [])) r.constants ∙ sym (constants_joined r.items (x ∷ [])));
  typed = a.typed ∙ (ap (λ l. l ++ typed_in (x ∷ [])) r.typed ∙ sym (typed_joined r.items (x ∷ [])));
  few_declarations = few p.declarations q.declarations (declarations_in (x ∷ [])) at end a.declarations r.few_declarations (one_declared x) k;
  few_instructions = few_instructions p.instructions q.instructions (instructions_in (x ∷ [])) at end a.instructions r.few_instructions (one_instruction x) k;
  few_constants = few_constants p.constants q.constants (constants_in (x ∷ [])) at end a.constants r.few_constants (omega (arith, few_words x at (slice_range words at end) s, length-range words at end fits));
  few_cases = more_cases p.instructions q.instructions (instructions_in (x ∷ [])) at end a.instructions r.few_cases (omega (arith, cases_fit x at (slice_range words at end) s, length-range words at end fits));
  declared = places_more (λ d. d.place) p.declarations q.declarations (declarations_in (x ∷ [])) at end a.declarations k r.declared (declared_at at x (slice_range words at end) s);
  done = places_more (λ i. i.place) p.instructions q.instructions (instructions_in (x ∷ [])) at end a.instructions k r.done (done_at at x (slice_range words at end) s);
  faults = subst (λ n. body_faults Base 0 2 (slice_range words 2 n) ≡ body_faults Base 0 end (slice_range words end n)) (sym a.words)
      (r.faults ∙ part_passed words at end p.words x k inside most s none);
}

-- the buffer's own words are two more than those that it lists
pub listed_size : (words : List ℕ) (at end place : ℕ) (values : List ℕ) → end ≤ length words → SpellsItem Base at (Lists place values) (slice_range words at end) → at + 2 + length values ≡ end
listed_size words at end place values fits s = omega (arith, ap length s.1.parts, length-range words at end fits)

-- the whole program
pub two_words : (words : List ℕ) (n : ℕ) → 2 ≤ n → n ≤ length words → words ≡ slice_index words 0 ∷ slice_index words 1 ∷ (slice_range words 2 n ++ drop n words)
two_words [] n h k = absurd (omega arith)
two_words (a ∷ []) n h k = absurd (omega arith)
two_words (a ∷ b ∷ words) n h k =
    let e : n ≡ suc (suc (n - 2)) = omega arith in
    ap (λ l. a ∷ b ∷ l) (taken words (n - 2) ∙ ap (λ m. take (n - 2) words ++ drop m (a ∷ b ∷ words)) (sym e))
  where
    taken : (words : List ℕ) (m : ℕ) → words ≡ take m words ++ drop m words
    taken words zero = refl
    taken [] (suc m) = refl
    taken (w ∷ words) (suc m) = ap (λ l. w ∷ l) (taken words m)

pub program_spelled : (words : List ℕ) (n at : ℕ) (p : Shader) → at ≡ n → slice_index words 0 ≡ 0x00050050 → n ≡ slice_index words 1 → n ≤ length words → IsWalked words n at p → Spells Base p words
program_spelled words n at p e version count fits w =
    record {
      items = w.read.items;
      body = slice_range words 2 at;
      ignored = drop at words;
      whole = two_words words at w.begins (omega arith)
          ∙ ap (λ v. v ∷ slice_index words 1 ∷ (slice_range words 2 at ++ drop at words)) version
          ∙ ap (λ k. 0x00050050 ∷ k ∷ (slice_range words 2 at ++ drop at words)) (sym count ∙ sym w.count);
      count = omega (arith, length-range words 2 at (omega arith), w.begins, w.count);
      parts = w.read.parts;
      declarations = w.read.declarations;
      instructions = w.read.instructions;
      constants = w.read.constants;
      typed = w.read.typed;
    }

pub none_walked : (words : List ℕ) (n : ℕ) → 2 ≤ n → IsWalked words n 2 (record { words = n; declarations = []; constants = []; instructions = []; typed = [] })
none_walked words n h = record {
  count = refl;
  begins = omega arith;
  upto = h;
  read = record {
    items = [];
    parts = range_none words 2;
    declarations = refl;
    instructions = refl;
    constants = refl;
    typed = refl;
    few_declarations = omega arith;
    few_instructions = omega arith;
    few_constants = omega arith;
    few_cases = omega arith;
    declared = λ k d e. cc;
    done = λ k i e. cc;
    faults = refl;
  };
}

-- one word more of a buffer
pub words_more : (words before old new : List ℕ) (start place end w : ℕ) → start ≤ place → place < end → end ≤ length words → old ≡ before ++ slice_range words start place → w ≡ slice_index words place
    → new ≡ old ++ w ∷ [] → new ≡ before ++ slice_range words start (place + 1)
words_more words before old new start place end w h k fits e f g =
    g ∙ (ap (λ l. l ++ w ∷ []) e ∙ (append_assoc before (slice_range words start place) (w ∷ [])
    ∙ ap (λ l. before ++ l) (ap (λ x. slice_range words start place ++ x ∷ []) f
    ∙ sym (range_split words start place (place + 1) h (omega arith) ∙ ap (λ l. slice_range words start place ++ l) (range_one words place (omega arith))))))

pub words_room : (words before old : List ℕ) (start place end capacity : ℕ) → start ≤ place → place < end → end ≤ length words → old ≡ before ++ slice_range words start place
    → length before + (end - start) ≤ capacity → length old < capacity
words_room words before old start place end capacity h k fits e room =
    omega (arith, room, ap length e, length-append before (slice_range words start place), length-range words start place (omega arith))

-- the head of a program, where it breaks no rule
pub record IsHead (words : List ℕ) (n : ℕ) : Type 0 where
  pub version : slice_index words 0 ≡ 0x00050050
  pub least : 2 ≤ n
  pub most : n ≤ 65536
  pub fits : n ≤ length words

none_of : (a b c : Bool) (r s t : Refusal) → first ((if a then r ∷ [] else []) ++ ((if b then s ∷ [] else []) ++ (if c then t ∷ [] else []))) ≡ None → (a ≡ false) × (b ≡ false) × (c ≡ false)
none_of true b c r s t h = cc
none_of false true c r s t h = cc
none_of false false true r s t h = cc
none_of false false false r s t h = (refl, refl, refl)

pub head_told : (words : List ℕ) (n : ℕ) → None ≡ first (header_faults words) → n ≡ slice_index words 1 → IsHead words n
head_told words n h e =
    let t = none_of (not (nat_eq (slice_index words 0) 0x00050050)) (nat_lt (slice_index words 1) 2 || nat_lt (length words) (slice_index words 1)) (nat_lt 65536 (slice_index words 1))
    (refusal K1 0) (refusal K2 1) (refusal M2 1) (sym h) in
    record {
      version = grind (arith, nat_tests, t.0);
      least = grind (arith, nat_tests, t.1);
      most = grind (arith, nat_tests, t.2);
      fits = grind (arith, nat_tests, t.1);
    }

-- the broken rules of a program whose head breaks none
pub head_sound : (words : List ℕ) (n : ℕ) → None ≡ first (header_faults words) → n ≡ slice_index words 1 → program_faults Base words ≡ body_faults Base 0 2 (slice_range words 2 n)
unfolding program_faults
head_sound words n h e =
    let none : header_faults words ≡ [] = none_first (header_faults words) h in
    ap (λ l. l ++ (if is_some (first l) then [] else body_faults Base 0 2 (slice_range words 2 (slice_index words 1)))) none
    ∙ ap (λ k. body_faults Base 0 2 (slice_range words 2 k)) (sym e)

pub head_refused : (words : List ℕ) (r : Refusal) → Some r ≡ first (header_faults words) → first (program_faults Base words) ≡ Some r
unfolding program_faults
head_refused words r h =
    ap (λ o. first (header_faults words ++ (if is_some o then [] else body_faults Base 0 2 (slice_range words 2 (slice_index words 1))))) (sym h)
    ∙ (ap first (append-nil (header_faults words)) ∙ sym h)

pub all_sound : (words : List ℕ) (n at : ℕ) (p : Shader) → at ≡ n → IsWalked words n at p → None ≡ first (header_faults words) → n ≡ slice_index words 1 → first (program_faults Base words) ≡ None
unfolding body_faults
all_sound words n at p e w h k =
    let f : body_faults Base 0 2 (slice_range words 2 n) ≡ body_faults Base 0 at (slice_range words at n) =
    subst (λ m. body_faults Base 0 2 (slice_range words 2 m) ≡ body_faults Base 0 at (slice_range words at m)) w.count w.read.faults in
    ap first (head_sound words n h k ∙ (f ∙ (ap (λ m. body_faults Base 0 at (slice_range words at m)) (sym e) ∙ ap (body_faults Base 0 at) (range_none words at))))

pub part_refused : (words : List ℕ) (n at : ℕ) (p : Shader) (r : Refusal) → IsWalked words n at p → None ≡ first (header_faults words) → n ≡ slice_index words 1
    → first (body_faults Base 0 at (slice_range words at p.words)) ≡ Some r → first (program_faults Base words) ≡ Some r
part_refused words n at p r w h k s =
    ap first (head_sound words n h k) ∙ (ap (λ m. first (body_faults Base 0 2 (slice_range words 2 m))) (sym w.count) ∙ (ap first w.read.faults ∙ s))
