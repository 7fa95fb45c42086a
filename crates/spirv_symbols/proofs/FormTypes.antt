-- No type of a module stands there twice.
use Rattle.std.proofs.Common.{◌≡◌, ℕ, zero, suc, ◌<◌, ◌⊎◌, ⊎_elim, inl, inr, Bool, true, false, List, [], ◌∷◌, ◌++◌, map, Some, None, refl, sym, ap, ◌∙◌, arith}
use Rattle.std.specs.Prelude.{◌≢◌, slice_get, ◌&&◌, ◌||◌, not, nat_eq, cond, Option, filter, if◌then◌else◌}
use Rattle.std.specs.Cmp.Lexicographic.{pointwise}
use Rattle.std.specs.List.{list_all, list_any}
use Rattle.std.proofs.lemmas.List.Elements.{filter-append}
use Rattle.std.proofs.lemmas.Bool.{and_parts, eq-eqb}
use Rattle.std.proofs.lemmas.Bool.Decides.{eqb_tells}
use Rattle.word_base.specs.declared.event.Room.TheVariants.{Shared}
use Rattle.spirv_words.specs.Operations.{Op, op_of, row_of, OpFunctionEnd, OpTypeVoid, OpTypeBool, OpTypeInt, OpTypeVector, OpTypePointer, OpTypeFunction}
use Rattle.spirv_words.specs.Text.{Instr, instruction}
use Rattle.spirv_words.specs.Definitions.{is_once, is_single_type, behind_first, is_same_type, types_differ, has_distinct_types}
use Rattle.spirv_words.specs.Sections as sections
use Rattle.spirv_symbols.specs.declared.symbol.Access.TheVariants.{Plain, ReadOnly, Coherent}
use Rattle.spirv_symbols.specs.declared.symbol.Section.{Section}
use Rattle.spirv_symbols.specs.declared.symbol.Section.TheVariants.{Imports, Types, Declarations, Heads, Labels, Locals}
use Rattle.spirv_symbols.specs.declared.symbol.Symbol.{Symbol}
use Rattle.spirv_symbols.specs.declared.symbol.Symbol.TheVariants.{AType, Memory}
use Rattle.spirv_symbols.specs.declared.symbol.TypeSymbol.{TypeSymbol}
use Rattle.spirv_symbols.specs.declared.symbol.TypeSymbol.TheVariants.{Void, Procedure, Word, Truth, Triple, Quad, Words, PushWords, Vectors, View, VectorsBlock, PushBlock, WordPointer, TriplePointer, LocalPointer, SharedPointer, ViewPointer, VectorsPointer, PushPointer}
use Rattle.spirv_symbols.specs.declared.row.Marks.{Marks}
use Rattle.spirv_symbols.specs.declared.row.Marks.TheVariants.{Nothing, Stride, Block, Bound, BuiltIn}
use Rattle.spirv_symbols.specs.declared.numbered.Numbered.{Numbered}
use Rattle.spirv_symbols.specs.Contexts.{Context}
use Rattle.spirv_symbols.specs.Rows.{needs, section_of, instr_for, decorations_by, decorations_for}
use Rattle.spirv_symbols.specs.Rows as symbols
use Rattle.spirv_symbols.specs.Tables.{Table, Entry, entry, AreThere, IsTable, id_of, instr_of}
use Rattle.spirv_symbols.specs.Sections.{order, in_section, part_of, code_of, section_code, decorations_of}
use Rattle.spirv_symbols.specs.Orders.{Among, Each, Ordered, entry_for}
use Rattle.spirv_symbols.specs.Modules.{Kind, IsReady, IsBody, models, declarations, front, function, module_code}
use Rattle.spirv_symbols.proofs.Members.{among_filter, among_either, among_get, each_of, ordered_kept, ordered_append}
use Rattle.spirv_symbols.proofs.EntriesLaws.{append_none}
use Rattle.spirv_symbols.proofs.Ids.{found_id}
use Rattle.spirv_symbols.proofs.Lookups.{alike, constant_there}
use Rattle.spirv_symbols.proofs.Interfaces.{apart_entries}

abbrev is_type : Instr → Bool
is_type i = is_single_type (op_of i.op)

-- A LEFT INVERSE: the type of an instruction that stands once, by its number and its operands behind the result
abbrev by_class : ℕ → ℕ → TypeSymbol
by_class class n = if nat_eq class 7 then LocalPointer n else SharedPointer n

abbrev pointer_by : ℕ → Option Symbol → Option Symbol
pointer_by class (Some (AType Word)) = Some (AType (WordPointer class))
pointer_by class (Some (AType Triple)) = Some (AType TriplePointer)
pointer_by class (Some (AType (Words n))) = Some (AType (by_class class n))
pointer_by class (Some (AType (View access))) = Some (AType (ViewPointer access))
pointer_by class (Some (AType (VectorsBlock n))) = Some (AType (VectorsPointer n))
pointer_by class (Some (AType (PushBlock n))) = Some (AType (PushPointer n))
pointer_by class s = None

abbrev vector_by : ℕ → Option Symbol
vector_by n = if nat_eq n 3 then Some (AType Triple) else Some (AType Quad)

abbrev first_of : List ℕ → ℕ
first_of [] = 0
first_of (x ∷ xs) = x

abbrev second_of : List ℕ → ℕ
second_of [] = 0
second_of (x ∷ xs) = first_of xs

abbrev symbol_by : (ℕ → Option Symbol) → ℕ → List ℕ → Option Symbol
symbol_by known op rest =
    if nat_eq op 19 then Some (AType Void) else
    if nat_eq op 20 then Some (AType Truth) else
    if nat_eq op 21 then Some (AType Word) else
    if nat_eq op 33 then Some (AType Procedure) else
    if nat_eq op 23 then vector_by (second_of rest) else
    if nat_eq op 32 then pointer_by (first_of rest) (known (second_of rest)) else
    None

abbrev AreKnown : (ℕ → Option Symbol) → (Symbol → ℕ) → List Symbol → Type 0
AreKnown known ids ss = Each (λ u. known (ids u) ≡ Some u) ss

type_back : (c : Context) (ids : Symbol → ℕ) (t : TypeSymbol) (own : ℕ) (known : ℕ → Option Symbol) → is_type (instr_for c ids (AType t) own) ≡ true
    → AreKnown known ids (needs c (AType t)) → symbol_by known (instr_for c ids (AType t) own).op
    (behind_first (instr_for c ids (AType t) own).operands) ≡ Some (AType t)
type_back c ids Void own known e h = refl
type_back c ids Procedure own known e h = refl
type_back c ids Word own known e h = refl
type_back c ids Truth own known e h = refl
type_back c ids Triple own known e h = refl
type_back c ids Quad own known e h = refl
type_back c ids (WordPointer class) own known e h = ap (pointer_by class) h.0
type_back c ids TriplePointer own known e h = ap (pointer_by 1) h.0
type_back c ids (LocalPointer n) own known e h = ap (pointer_by 7) h.0
type_back c ids (SharedPointer n) own known e h = ap (pointer_by 4) h.0
type_back c ids (ViewPointer access) own known e h = ap (pointer_by 12) h.0
type_back c ids (VectorsPointer n) own known e h = ap (pointer_by 2) h.0
type_back c ids (PushPointer n) own known e h = ap (pointer_by 9) h.0
type_back c ids t own known e h = absurd (cc e)

back : (c : Context) (ids : Symbol → ℕ) (s : Symbol) (own : ℕ) (known : ℕ → Option Symbol) → is_type (instr_for c ids s own) ≡ true
    → AreKnown known ids (needs c s) → symbol_by known (instr_for c ids s own).op (behind_first (instr_for c ids s own).operands) ≡ Some s
back c ids (AType t) own known e h = type_back c ids t own known e h
back c ids (Memory (Shared slot)) own known e h = absurd (cc e)
back c ids (Memory room) own known e h = absurd (cc e)
back c ids s own known e h = absurd (cc e)

-- constants and bodies have no types
no_type : (c : Context) (ids : Symbol → ℕ) (s : Symbol) (own : ℕ) → ((t : TypeSymbol) → s ≡ AType t → ⊥) → is_type (instr_for c ids s own) ≡ false
no_type c ids (AType t) own d = absurd (d t refl)
no_type c ids (Memory (Shared slot)) own d = refl
no_type c ids (Memory room) own d = refl
no_type c ids s own d = refl

once_declares : (op : Op) (os : List ℕ) → is_once (row_of op).defines ≡ true → sections.is_body ((row_of op).section os) ≡ false
once_declares OpTypeVoid os e = refl
once_declares OpTypeBool os e = refl
once_declares OpTypeInt os e = refl
once_declares OpTypeVector os e = refl
once_declares OpTypePointer os e = refl
once_declares OpTypeFunction os e = refl
once_declares op os e = absurd (cc e)

body_type : (i : Instr) → sections.is_body (sections.section_of i) ≡ true → is_type i ≡ false
body_type i b = by (op_of i.op) b where
  by : (o : Option Op) → sections.is_body (sections.section_of_op o i.operands) ≡ true → is_single_type o ≡ false
  by None e = refl
  by (Some op) e = decide (is_once (row_of op).defines) refl where
    decide : (x : Bool) → is_once (row_of op).defines ≡ x → is_once (row_of op).defines ≡ false
    decide true d = absurd (cc (e, once_declares op i.operands d))
    decide false d = d

-- EQUAL OPERANDS
equal_numbers : (m n : ℕ) → nat_eq m n ≡ true → m ≡ n
equal_numbers m n e = ⊎_elim (λ d. d.1) (λ d. absurd (cc (e, d.0))) (eqb_tells m n)

equal_lists : (xs ys : List ℕ) → pointwise nat_eq xs ys ≡ true → xs ≡ ys
equal_lists [] [] e = refl
equal_lists [] (y ∷ ys) e = absurd (cc e)
equal_lists (x ∷ xs) [] e = absurd (cc e)
equal_lists (x ∷ xs) (y ∷ ys) e =
    let p = and_parts (nat_eq x y) (pointwise nat_eq xs ys) e in
    ap (λ z. z ∷ xs) (equal_numbers x y p.0) ∙ ap (λ l. y ∷ l) (equal_lists xs ys p.1)

-- what an id is of
abbrev symbol_at : List Entry → ℕ → Option Symbol
symbol_at [] x = None
symbol_at (e ∷ es) x = if nat_eq e.id x then Some e.symbol else symbol_at es x

known_at : (es : List Entry) (k x : ℕ) (s : Symbol) → slice_get es k ≡ Some (entry s x)
    → ((i j : ℕ) (e f : Entry) → i < j → slice_get es i ≡ Some e → slice_get es j ≡ Some f → e.id < f.id) → symbol_at es x ≡ Some s
known_at [] k x s h r = absurd (cc h)
known_at (e ∷ es) zero x s h r =
    let d : e ≡ entry s x = cc h in
    ap (λ (z : Entry). cond (nat_eq z.id x) (Some z.symbol) (symbol_at es x)) d ∙ ap (λ b. cond b (Some s) (symbol_at es x)) (eq-eqb x x refl)
known_at (e ∷ es) (suc k) x s h r =
    let lt = r 0 (suc k) e (entry s x) (omega arith) refl h in
    ap (λ b. cond b (Some e.symbol) (symbol_at es x)) (⊎_elim (λ d. absurd (omega (arith, d.1, lt))) (λ d. d.0) (eqb_tells e.id x))
    ∙ known_at es k x s h (λ i j f g l p q. r (suc i) (suc j) f g (omega (arith, l)) p q)

module _ (c : Context) (es : List Entry) (next : ℕ) (tb : IsTable c es next) where
  all_known : (ss : List Symbol) (n : ℕ) → AreThere es ss n → AreKnown (symbol_at es) (id_of es) ss
  all_known [] n h = tt
  all_known (u ∷ us) n h =
      (ap (symbol_at es) (found_id c es next u h.0.0 tb h.0.1) ∙ known_at es h.0.1.0 h.0.0 u h.0.1.1 tb.rises, all_known us n h.1)

  differ : (e f : Entry) → Among es e → Among es f → e.id ≢ f.id → is_type (instr_of c es e) ≡ true → is_type (instr_of c es f) ≡ true
      → is_same_type (instr_of c es e) (instr_of c es f) ≡ false
  differ e f h i d p q = by (is_same_type (instr_of c es e) (instr_of c es f)) refl where
    x : (k : ℕ) × (slice_get es k ≡ Some e)
    x = among_get es e h

    y : (k : ℕ) × (slice_get es k ≡ Some f)
    y = among_get es f i

    by : (b : Bool) → is_same_type (instr_of c es e) (instr_of c es f) ≡ b → is_same_type (instr_of c es e) (instr_of c es f) ≡ false
    by false s = s
    by true s =
        let z = and_parts (nat_eq (instr_of c es e).op (instr_of c es f).op) (pointwise nat_eq (behind_first (instr_of c es e).operands)
        (behind_first (instr_of c es f).operands)) s in
        let o = equal_numbers (instr_of c es e).op (instr_of c es f).op z.0 in
        let l = equal_lists (behind_first (instr_of c es e).operands) (behind_first (instr_of c es f).operands) z.1 in
        let a = back c (id_of es) e.symbol e.id (symbol_at es) p (all_known (needs c e.symbol) e.id (tb.founded x.0 e x.1)) in
        let b = back c (id_of es) f.symbol f.id (symbol_at es) q (all_known (needs c f.symbol) f.id (tb.founded y.0 f y.1)) in
        let both : symbol_by (symbol_at es) (instr_of c es e).op (behind_first (instr_of c es e).operands) ≡ symbol_by (symbol_at es)
        (instr_of c es f).op (behind_first (instr_of c es f).operands) =
        ap (λ n. symbol_by (symbol_at es) n (behind_first (instr_of c es e).operands)) o ∙ ap (symbol_by (symbol_at es) (instr_of c es f).op) l in
        let same : e.symbol ≡ f.symbol = cc (a, b, both) in
        let k = tb.single x.0 y.0 e f x.1 y.1 same in
        let one : e ≡ f = cc (x.1, y.1, k) in
        absurd (d (ap (λ (g : Entry). g.id) one))

  abbrev Apart : Instr → Instr → Type 0
  Apart i j = is_type i ≡ true → is_type j ≡ true → is_same_type i j ≡ false

  code_apart : (fs : List Entry) → ((e : Entry) → Among fs e → Among es e) → Ordered (λ e f. e.id ≢ f.id) fs → Ordered Apart (code_of c es fs)
  code_apart [] a o = tt
  code_apart (e ∷ fs) a o = (row fs (λ f h. a f (inr h)) o.0, code_apart fs (λ f h. a f (inr h)) o.1) where
    row : (gs : List Entry) → ((f : Entry) → Among gs f → Among es f) → Each (λ f. e.id ≢ f.id) gs → Each (Apart (instr_of c es e)) (code_of c es gs)
    row [] b k = tt
    row (g ∷ gs) b k = ((λ p q. differ e g (a e (inl refl)) (b g (inl refl)) k.0 p q), row gs (λ f h. b f (inr h)) k.1)

all_differ : (code : List Instr) → Ordered (λ i j. is_same_type i j ≡ false) code → types_differ code ≡ true
all_differ [] h = refl
all_differ (i ∷ is) h = ap (λ b. not b && types_differ is) (none is h.0) ∙ all_differ is h.1 where
  none : (js : List Instr) → Each (λ j. is_same_type i j ≡ false) js → list_any (is_same_type i) js ≡ false
  none [] k = refl
  none (j ∷ js) k = ap (λ b. b || list_any (is_same_type i) js) k.0 ∙ none js k.1

-- TYPES OF PARTS
none_kept : (code : List Instr) → ((i : Instr) → Among code i → is_type i ≡ false) → filter is_type code ≡ []
none_kept [] h = refl
none_kept (i ∷ is) h = ap (λ b. cond b (i ∷ filter is_type is) (filter is_type is)) (h i (inl refl)) ∙ none_kept is (λ j k. h j (inr k))

skip : (a b : List Instr) → filter is_type a ≡ [] → filter is_type (a ++ b) ≡ filter is_type b
skip a b h = filter-append is_type a b ∙ ap (λ l. l ++ filter is_type b) h

marks_none : (own : ℕ) (marks : Marks) → filter is_type (decorations_by own marks) ≡ []
marks_none own Nothing = refl
marks_none own (Stride bytes) = refl
marks_none own (Block Plain) = refl
marks_none own (Block ReadOnly) = refl
marks_none own (Block Coherent) = refl
marks_none own (Bound set binding) = refl
marks_none own (BuiltIn built_in) = refl

decorations_none : (c : Context) (es : List Entry) → filter is_type (decorations_of c es) ≡ []
decorations_none c [] = refl
decorations_none c (e ∷ es) =
    skip (decorations_for c e.symbol e.id) (decorations_of c es) (marks_none e.id (symbols.row_of c e.symbol).marks) ∙ decorations_none c es

type_place : (t : TypeSymbol) → (order (symbols.type_row t).section ≡ 1) ⊎ (order (symbols.type_row t).section ≡ 3)
type_place (Words n) = inr refl
type_place (PushWords n) = inr refl
type_place (Vectors n) = inr refl
type_place (VectorsBlock n) = inr refl
type_place (PushBlock n) = inr refl
type_place (LocalPointer n) = inr refl
type_place (SharedPointer n) = inr refl
type_place (VectorsPointer n) = inr refl
type_place (PushPointer n) = inr refl
type_place t = inl refl

code_none : (c : Context) (es fs : List Entry) → ((e : Entry) → Among fs e → (order (section_of c e.symbol) ≡ 1 → ⊥) ×
    (order (section_of c e.symbol) ≡ 3 → ⊥)) → filter is_type (code_of c es fs) ≡ []
code_none c es [] h = refl
code_none c es (f ∷ fs) h =
    let p = h f (inl refl) in
    ap (λ b. cond b (instr_of c es f ∷ filter is_type (code_of c es fs)) (filter is_type (code_of c es fs)))
    (no_type c (id_of es) f.symbol f.id (λ t d. ⊎_elim (λ o. p.0 (ap (λ s. order (section_of c s)) d ∙ o))
    (λ o. p.1 (ap (λ s. order (section_of c s)) d ∙ o)) (type_place t)))
    ∙ code_none c es fs (λ e i. h e (inr i))

code_join : (c : Context) (es a b : List Entry) → code_of c es (a ++ b) ≡ code_of c es a ++ code_of c es b
code_join c es [] b = refl
code_join c es (e ∷ a) b = ap (λ l. instr_of c es e ∷ l) (code_join c es a b)

body_none : (body : List Instr) → list_all (λ i. sections.is_body (sections.section_of i)) body ≡ true → filter is_type body ≡ []
body_none [] h = refl
body_none (i ∷ is) h =
    let p = and_parts (sections.is_body (sections.section_of i)) (list_all (λ i. sections.is_body (sections.section_of i)) is) h in
    ap (λ b. cond b (i ∷ filter is_type is) (filter is_type is)) (body_type i p.0) ∙ body_none is p.1

module _ (c : Context) (kind : Kind) (t : Table) (cs : List Numbered) (r : IsReady c t cs) (body : List Instr) (b : IsBody body) where
  abbrev es : List Entry
  es = t.entries

  abbrev ends : List Instr
  ends = body ++ instruction OpFunctionEnd [] ∷ []

  place : (section : Section) (e : Entry) → Among (part_of c section es) e → order (section_of c e.symbol) ≡ order section
  place section e h =
      let q = among_filter (in_section c section) es e h in
      ⊎_elim (λ y. y.1) (λ y. absurd (cc (q.1, y.0))) (eqb_tells (order (section_of c e.symbol)) (order section))

  section_none : (section : Section) → (order section ≡ 1 → ⊥) → (order section ≡ 3 → ⊥) → filter is_type (section_code c section es) ≡ []
  section_none section p q = code_none c es (part_of c section es) (λ e h. let o = place section e h in (λ d. p (sym o ∙ d), λ d. q (sym o ∙ d)))

  constants_none : filter is_type (code_of c es (map entry_for cs)) ≡ []
  constants_none = code_none c es (map entry_for cs) (λ e h. let o = (constant_there c es t.next r.stands.table cs r.sorted e h).1 in
      (λ d. omega (arith, d, o), λ d. omega (arith, d, o)))

  function_none : filter is_type (function c es body) ≡ []
  function_none =
      skip (section_code c Heads es) (section_code c Labels es ++ (section_code c Locals es ++ ends))
      (section_none Heads (λ d. omega (arith, d)) (λ d. omega (arith, d)))
      ∙ skip (section_code c Labels es) (section_code c Locals es ++ ends) (section_none Labels (λ d. omega (arith, d)) (λ d. omega (arith, d)))
      ∙ skip (section_code c Locals es) ends (section_none Locals (λ d. omega (arith, d)) (λ d. omega (arith, d)))
      ∙ skip body (instruction OpFunctionEnd [] ∷ []) (body_none body b)

  abbrev types : List Entry
  types = part_of c Types es ++ part_of c Declarations es

  front_types : filter is_type (front c kind es cs) ≡ filter is_type (code_of c es types)
  front_types =
      skip (section_code c Imports es) (models kind es ++ (decorations_of c es ++ declarations c es cs))
      (section_none Imports (λ d. omega (arith, d)) (λ d. omega (arith, d)))
      ∙ skip (models kind es) (decorations_of c es ++ declarations c es cs) refl
      ∙ skip (decorations_of c es) (declarations c es cs) (decorations_none c es)
      ∙ filter-append is_type (section_code c Types es) (code_of c es (map entry_for cs) ++ section_code c Declarations es)
      ∙ ap (λ l. filter is_type (section_code c Types es) ++ l) (skip (code_of c es (map entry_for cs)) (section_code c Declarations es)
      constants_none)
      ∙ sym (filter-append is_type (section_code c Types es) (section_code c Declarations es))
      ∙ ap (filter is_type) (sym (code_join c es (part_of c Types es) (part_of c Declarations es)))

  code_types : filter is_type (module_code c kind es cs body) ≡ filter is_type (code_of c es types)
  code_types =
      filter-append is_type (front c kind es cs) (function c es body)
      ∙ ap (λ l. filter is_type (front c kind es cs) ++ l) function_none
      ∙ append_none (filter is_type (front c kind es cs))
      ∙ front_types

  part_apart : (section : Section) → Ordered (λ e f. e.id ≢ f.id) (part_of c section es)
  part_apart section = ordered_kept (λ e f. e.id ≢ f.id) (λ e f. e.id ≢ f.id) (in_section c section) (λ e f _ _ n. n) es
      (apart_entries es r.stands.table.rises)

  types_apart : Ordered (λ e f. e.id ≢ f.id) types
  types_apart =
      ordered_append (λ e f. e.id ≢ f.id) (part_of c Types es) (part_of c Declarations es) (part_apart Types) (part_apart Declarations)
      (each_of (λ e. Each (λ f. e.id ≢ f.id) (part_of c Declarations es)) (part_of c Types es)
      (λ e h. each_of (λ f. e.id ≢ f.id) (part_of c Declarations es) (λ f k q.
      let z = ap (λ (g : Entry). order (section_of c g.symbol))
      (alike c es t.next r.stands.table f e (among_filter (in_section c Declarations) es f k).0 (among_filter (in_section c Types) es e h).0 q) in
      omega (arith, z, place Types e h, place Declarations f k))))

  pub types_hold : has_distinct_types (module_code c kind es cs body) ≡ true
  types_hold =
      ap types_differ code_types
      ∙ all_differ (filter is_type (code_of c es types))
      (ordered_kept (Apart c es t.next r.stands.table) (λ i j. is_same_type i j ≡ false) is_type (λ i j p q f. f p q) (code_of c es types)
      (code_apart c es t.next r.stands.table types (λ e h. ⊎_elim (λ i. (among_filter (in_section c Types) es e i).0)
      (λ i. (among_filter (in_section c Declarations) es e i).0) (among_either (part_of c Types es) (part_of c Declarations es) e h))
      types_apart))
