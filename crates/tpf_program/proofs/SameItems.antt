-- Words spell one program.
use Rattle.std.proofs.Common.{◌≡◌, ℕ, zero, suc, ◌+◌, ◌≤◌, List, [], ◌∷◌, ◌++◌, length, take, drop, true, false, ◌⊎◌, inl, inr, refl, sym, ap, ◌∙◌, arith, length-append}
use Rattle.std.specs.Prelude.{slice_index, slice_index_or, nat_eq, is_some, if◌then◌else◌}
use Rattle.word_base.specs.declared.event.Room.{Room}
use Rattle.tpf_decode.specs.declared.argument.Argument.{Argument}
use Rattle.tpf_decode.specs.Profiles.{Base}
use Rattle.tpf_decode.specs.Tokens.{opcode_of, class_of, has_flag}
use Rattle.tpf_decode.specs.Opcodes.{form_of, meaning_of, opcode_table}
use Rattle.tpf_decode.specs.Declarations.{is_known}
use Rattle.tpf_decode.specs.Spelling.{SpellsCustom}
use Rattle.tpf_decode.specs.Spelling as token
use Rattle.tpf_decode.proofs.Instructions.{front_same, instruction_same}
use Rattle.tpf_program.specs.declared.declaration.ViewKind.TheVariants as view
use Rattle.tpf_program.specs.declared.declaration.SharedKind.TheVariants as shared
use Rattle.tpf_program.specs.declared.declaration.Declaration.{Declaration}
use Rattle.tpf_program.specs.declared.declaration.Declaration.TheVariants.{Flags, Constants, Resource, Uav, Shared, Input, Temps, Indexable, Group, ImmediateConstants}
use Rattle.tpf_program.specs.declared.declaration.Declared.{Declared}
use Rattle.tpf_program.specs.declared.instruction.Instruction.{Instruction}
use Rattle.tpf_program.specs.Spelling.{nothing, nothings, named, operands, arguments, IsDeclaredBy, IsTypedBy, SpellsDeclaration, SpellsTyped, SpellsInstruction}
use Rattle.tpf_program.proofs.Tables.{custom_unknown, typed_unknown}

same_length : (ws vs xs ys : List ℕ) → ws ++ xs ≡ vs ++ ys → xs ≡ ys → length ws ≡ length vs
same_length ws vs xs ys p q = omega (arith, ap length p, ap length q, length-append ws xs, length-append vs ys)

-- what an opcode declares, as a function
unfoldable pub declared_as : ℕ → ℕ → Argument → List ℕ → Declaration
declared_as code controls a further =
    if nat_eq code 106 then Flags controls
    else if nat_eq code 89 then Constants a.slot a.index
    else if nat_eq code 161 then Resource a.slot view.Raw
    else if nat_eq code 162 then Resource a.slot (view.Structured (slice_index further 0))
    else if nat_eq code 157 then Uav a.slot view.Raw (has_flag controls 16) false
    else if nat_eq code 158 then Uav a.slot (view.Structured (slice_index further 0)) (has_flag controls 16) (has_flag controls 23)
    else if nat_eq code 159 then Shared a.slot (shared.Raw (slice_index further 0))
    else if nat_eq code 160 then Shared a.slot (shared.Structured (slice_index further 0) (slice_index further 1))
    else if nat_eq code 95 then Input a.kind a.select
    else if nat_eq code 104 then Temps (slice_index further 0)
    else if nat_eq code 105 then Indexable (slice_index further 0) (slice_index further 1) (slice_index further 2)
    else Group (slice_index further 0) (slice_index further 1) (slice_index further 2)

told_as : (what : Declaration) (code controls : ℕ) (a : Argument) (further : List ℕ) → IsDeclaredBy what code controls a further → declared_as code controls a further ≡ what
unfolding declared_as
told_as (Flags flags) code controls a further h = rw (h.0, h.1) refl
told_as (Constants slot size) code controls a further h = rw (h.0, h.1, h.2) refl
told_as (Resource slot view.Raw) code controls a further h = rw (h.0, h.1) refl
told_as (Resource slot (view.Structured stride)) code controls a further h = rw (h.0, h.1, h.2) refl
told_as (Uav slot view.Raw coherent ordered) code controls a further h = rw (h.0, h.1, h.2, h.3) refl
told_as (Uav slot (view.Structured stride) coherent ordered) code controls a further h = rw (h.0, h.1, h.2, h.3, h.4) refl
told_as (Shared slot (shared.Raw bytes)) code controls a further h = rw (h.0, h.1, h.2) refl
told_as (Shared slot (shared.Structured stride count)) code controls a further h = rw (h.0, h.1, h.2, h.3) refl
told_as (Input kind select) code controls a further h = rw (h.0, h.1, h.2) refl
told_as (Temps count) code controls a further h = rw (h.0, h.1) refl
told_as (Indexable slot count components) code controls a further h = rw (h.0, h.1, h.2, h.3) refl
told_as (Group x y z) code controls a further h = rw (h.0, h.1, h.2, h.3) refl
told_as (ImmediateConstants vectors) code controls a further h = absurd h

-- no instruction has the opcode of a declaration
formless : (what : Declaration) (code controls : ℕ) (a : Argument) (further : List ℕ) → IsDeclaredBy what code controls a further → is_some (form_of Base code) ≡ false
unfolding form_of meaning_of opcode_table
formless (Flags flags) code controls a further h = rw h.0 refl
formless (Constants slot size) code controls a further h = rw h.0 refl
formless (Resource slot view.Raw) code controls a further h = rw h.0 refl
formless (Resource slot (view.Structured stride)) code controls a further h = rw h.0 refl
formless (Uav slot view.Raw coherent ordered) code controls a further h = rw h.0 refl
formless (Uav slot (view.Structured stride) coherent ordered) code controls a further h = rw h.0 refl
formless (Shared slot (shared.Raw bytes)) code controls a further h = rw h.0 refl
formless (Shared slot (shared.Structured stride count)) code controls a further h = rw h.0 refl
formless (Input kind select) code controls a further h = rw h.0 refl
formless (Temps count) code controls a further h = rw h.0 refl
formless (Indexable slot count components) code controls a further h = rw h.0 refl
formless (Group x y z) code controls a further h = rw h.0 refl
formless (ImmediateConstants vectors) code controls a further h = absurd h

pub declared_same : (d e : Declared) (at : ℕ) (ws vs xs ys : List ℕ) → d.place ≡ at → e.place ≡ at → SpellsDeclaration Base d.what ws → SpellsDeclaration Base e.what vs → ws ++ xs ≡ vs ++ ys → (d ≡ e) × (xs ≡ ys)
declared_same d e at ws vs xs ys h k a b p =
    let s = instruction_same Base a.code a.controls b.code b.controls a.arguments b.arguments a.further b.further ws vs xs ys a.spelled b.spelled p in
    let w : d.what ≡ e.what =
    sym (told_as d.what a.code a.controls (named a.arguments) a.further a.declared)
    ∙ (ap (λ n. declared_as n a.controls (named a.arguments) a.further) s.0
    ∙ (ap (λ n. declared_as b.code n (named a.arguments) a.further) s.1
    ∙ (ap (λ l. declared_as b.code b.controls (named l) a.further) s.2
    ∙ (ap (λ l. declared_as b.code b.controls (named b.arguments) l) s.3
    ∙ told_as e.what b.code b.controls (named b.arguments) b.further b.declared)))) in
    let q : d.place ≡ e.place = h ∙ sym k in
    let f : (n : ℕ) (x : Declaration) → Declared = λ n x. record { place = n; what = x } in
    (ap (λ n. f n d.what) q ∙ ap (λ x. f e.place x) w, s.4)

-- no typed view is declared in the base profile
typed_code : (what : Declaration) (view : Room) (code controls : ℕ) (a : Argument) → IsTypedBy what view code controls a → (code ≡ 88) ⊎ (code ≡ 156)
typed_code (Resource slot (view.Structured stride)) r code controls a h = inl h.0
typed_code (Uav slot (view.Structured stride) coherent ordered) r code controls a h = inr h.0
typed_code (Resource slot view.Raw) r code controls a h = absurd h
typed_code (Uav slot view.Raw coherent ordered) r code controls a h = absurd h
typed_code (Flags flags) r code controls a h = absurd h
typed_code (Constants slot size) r code controls a h = absurd h
typed_code (Shared slot kind) r code controls a h = absurd h
typed_code (Input kind select) r code controls a h = absurd h
typed_code (Temps count) r code controls a h = absurd h
typed_code (Indexable slot count components) r code controls a h = absurd h
typed_code (Group x y z) r code controls a h = absurd h
typed_code (ImmediateConstants vectors) r code controls a h = absurd h

pub no_typed : (what : Declaration) (view : Room) (words : List ℕ) → SpellsTyped Base what view words → ⊥
no_typed what view words h =
    let n : true ≡ false = sym h.spelled.tokens.known ∙ typed_unknown h.code (typed_code what view h.code h.controls (named h.arguments) h.declared) in
    cc

-- instructions, by their fields
length-first : (list : List Argument) (n : ℕ) → n ≤ length list → length (take n list) ≡ n
length-first list zero h = refl
length-first [] (suc n) h = absurd (omega arith)
length-first (a ∷ list) (suc n) h = omega (arith, length-first list n (omega arith))

first_and_rest : (list : List Argument) (n : ℕ) → list ≡ take n list ++ drop n list
first_and_rest list zero = refl
first_and_rest [] (suc n) = refl
first_and_rest (a ∷ list) (suc n) = ap (λ l. a ∷ l) (first_and_rest list n)

by_fields : (i j : Instruction) → i.place ≡ j.place → i.length ≡ j.length → i.code ≡ j.code → i.controls ≡ j.controls → i.count ≡ j.count
    → i.o0 ≡ j.o0 → i.o1 ≡ j.o1 → i.o2 ≡ j.o2 → i.o3 ≡ j.o3 → i.o4 ≡ j.o4 → i ≡ j
by_fields i j p l c k n a b d e f = fields i.place i.length i.code i.controls i.count i.o0 i.o1 i.o2 i.o3 i.o4 p l c k n a b d e f
  where
    fields : (p l c k n : ℕ) (a b d e f : Argument) → p ≡ j.place → l ≡ j.length → c ≡ j.code → k ≡ j.controls → n ≡ j.count
        → a ≡ j.o0 → b ≡ j.o1 → d ≡ j.o2 → e ≡ j.o3 → f ≡ j.o4 → record { place = p; length = l; code = c; controls = k; count = n; o0 = a; o1 = b; o2 = d; o3 = e; o4 = f } ≡ j
    fields p l c k n a b d e f hp hl hc hk hn ha hb hd he hf = rw (hp, hl, hc, hk, hn, ha, hb, hd, he, hf) refl

pub instructions_same : (i j : Instruction) (at : ℕ) (ws vs xs ys : List ℕ) → i.place ≡ at → j.place ≡ at → SpellsInstruction Base i ws → SpellsInstruction Base j vs → ws ++ xs ≡ vs ++ ys → (i ≡ j) × (xs ≡ ys)
instructions_same i j at ws vs xs ys h k a b p =
    let s = instruction_same Base i.code i.controls j.code j.controls (arguments i) (arguments j) [] [] ws vs xs ys a.spelled b.spelled p in
    let l : i.length ≡ j.length = a.size ∙ (same_length ws vs xs ys p s.4 ∙ sym b.size) in
    let n : i.count ≡ j.count = sym (length-first (operands i) i.count a.count) ∙ (ap length s.2 ∙ length-first (operands j) j.count b.count) in
    let o : operands i ≡ operands j =
    first_and_rest (operands i) i.count
    ∙ (ap (λ l. l ++ drop i.count (operands i)) s.2
    ∙ (ap (λ l. arguments j ++ l) (a.others ∙ (ap (λ m. drop m nothings) n ∙ sym b.others)) ∙ sym (first_and_rest (operands j) j.count))) in
    let nth = λ (m : ℕ) (l : List Argument). slice_index_or l m nothing in (
      by_fields i j (h ∙ sym k) l s.0 s.1 n (ap (nth 0) o) (ap (nth 1) o) (ap (nth 2) o) (ap (nth 3) o) (ap (nth 4) o),
      s.4,
    )

-- custom data, and what it is not
pub custom_same : (m n : ℕ) (values others ws vs xs ys : List ℕ) → SpellsCustom m values ws → SpellsCustom n others vs → ws ++ xs ≡ vs ++ ys → (m ≡ n) × (values ≡ others) × (xs ≡ ys)
custom_same m n values others ws vs xs ys a b p =
    let e : a.token ∷ (length values + 2) ∷ (values ++ xs) ≡ b.token ∷ (length others + 2) ∷ (others ++ ys) =
    ap (λ l. l ++ xs) (sym a.parts) ∙ (p ∙ ap (λ l. l ++ ys) b.parts) in
    let t : a.token ≡ b.token = cc in
    let l : length values + 2 ≡ length others + 2 = cc in
    let r : values ++ xs ≡ others ++ ys = cc in
    let s = front_same values others xs ys (omega (arith, l)) r in
    (sym a.kind_is ∙ (ap class_of t ∙ b.kind_is), s.0, s.1)

pub no_custom : (code controls n : ℕ) (left : List Argument) (further values ws vs xs ys : List ℕ) → token.Spells Base code controls left further ws → SpellsCustom n values vs → ws ++ xs ≡ vs ++ ys → ⊥
no_custom code controls n left further values ws vs xs ys a b p =
    let e : a.tokens.token ∷ ((a.tokens.extended ++ (a.operands ++ further)) ++ xs) ≡ b.token ∷ (((length values + 2) ∷ values) ++ ys) =
    ap (λ l. (l ++ (a.operands ++ further)) ++ xs) (sym a.tokens.parts) ∙ (ap (λ l. l ++ xs) (sym a.parts) ∙ (p ∙ ap (λ l. l ++ ys) b.parts)) in
    let t : a.tokens.token ≡ b.token = cc in
    let c : code ≡ 53 = sym a.tokens.code_is ∙ (ap opcode_of t ∙ b.code) in
    let n : true ≡ false = sym a.tokens.known ∙ (ap (is_known Base) c ∙ custom_unknown) in
    cc

pub no_both : (d : Declared) (i : Instruction) (ws vs xs ys : List ℕ) → SpellsDeclaration Base d.what ws → SpellsInstruction Base i vs → ws ++ xs ≡ vs ++ ys → ⊥
no_both d i ws vs xs ys a b p =
    let s = instruction_same Base a.code a.controls i.code i.controls a.arguments (arguments i) a.further [] ws vs xs ys a.spelled b.spelled p in
    let n : true ≡ false = sym b.form ∙ (ap (λ c. is_some (form_of Base c)) (sym s.0) ∙ formless d.what a.code a.controls (named a.arguments) a.further a.declared) in
    cc
