-- The sections of a module stand in their order.
use Rattle.std.proofs.Common.{◌≡◌, ℕ, ◌<◌, ⊎_elim, inl, inr, Bool, true, false, List, [], ◌∷◌, ◌++◌, map, refl, sym, ap, ◌∙◌, subst, arith, append_assoc}
use Rattle.std.specs.Prelude.{◌≢◌, slice_index, ◌&&◌, ◌||◌, not, nat_eq, cond}
use Rattle.std.specs.List.{list_all, list_any}
use Rattle.std.proofs.lemmas.Bool.{and_from, and_parts, eq-eqb}
use Rattle.std.proofs.lemmas.Bool.Decides.{eqb_tells}
use Rattle.word_base.specs.declared.event.Room.TheVariants.{Shared}
use Rattle.spirv_words.specs.Operations.{OpMemoryModel, OpEntryPoint, OpFunctionEnd, OpTypeVoid, OpTypeFunction}
use Rattle.spirv_words.specs.Text.{Instr, instruction, is_op}
use Rattle.spirv_words.specs.Ids.{declared}
use Rattle.spirv_words.specs.Sections as sections
use Rattle.spirv_words.specs.Sections.{is_body, is_declaration, is_decoration, is_instr, is_import, is_label, behind_all, behind_one, ends_function, is_function, is_void_function, has_rest, has_sections, at_front, is_main, is_mode}
use Rattle.spirv_symbols.specs.declared.symbol.Access.TheVariants.{Plain, ReadOnly, Coherent}
use Rattle.spirv_symbols.specs.declared.symbol.Section.{Section}
use Rattle.spirv_symbols.specs.declared.symbol.Section.TheVariants.{Imports, Types, Declarations, Locals}
use Rattle.spirv_symbols.specs.declared.symbol.Symbol.{Symbol}
use Rattle.spirv_symbols.specs.declared.symbol.Symbol.TheVariants.{AType, Import, Main, FirstLabel, Memory, Scratch, Register, Registers, Elements, ImmediateArray}
use Rattle.spirv_symbols.specs.declared.symbol.TypeSymbol.{TypeSymbol}
use Rattle.spirv_symbols.specs.declared.symbol.TypeSymbol.TheVariants.{Void, Procedure}
use Rattle.spirv_symbols.specs.declared.row.Marks.{Marks}
use Rattle.spirv_symbols.specs.declared.row.Marks.TheVariants.{Nothing, Stride, Block, Bound, BuiltIn}
use Rattle.spirv_symbols.specs.declared.numbered.Numbered.{Numbered}
use Rattle.spirv_symbols.specs.Contexts.{Context}
use Rattle.spirv_symbols.specs.Rows.{type_row, row_of, section_of, instr_for, decorations_by, decorations_for}
use Rattle.spirv_symbols.specs.Tables.{Table, Entry, entry, Has, id_of, instr_of}
use Rattle.spirv_symbols.specs.Sections.{order, in_section, part_of, code_of, section_code, decorations_of}
use Rattle.spirv_symbols.specs.Orders.{Among, Ordered, entry_for}
use Rattle.spirv_symbols.specs.Modules.{Kind, IsReady, IsBody, models, mode, declarations, front, function, module_code}
use Rattle.spirv_symbols.proofs.Members.{among_left, among_right, among_filter, among_kept, among_get, get_among, ordered_kept}
use Rattle.spirv_symbols.proofs.EachSymbol.{is_the_import}
use Rattle.spirv_symbols.proofs.Ids.{found_id}
use Rattle.spirv_symbols.proofs.Lookups.{constant_there, equal_tells}
use Rattle.spirv_symbols.proofs.Fronts.{declared_is}
use Rattle.spirv_symbols.proofs.Interfaces.{apart_entries}
use Rattle.spirv_symbols.proofs.FormAll.{all_append}
use Rattle.spirv_symbols.proofs.SymbolSorts.{first_need, second_need}
use Rattle.spirv_symbols.proofs.StartsWhole.{defines, function_is}

equals : (n : ℕ) → nat_eq n n ≡ true
equals n = eq-eqb n n refl

-- WHERE A SYMBOL'S INSTRUCTION MAY STAND
type_declares : (c : Context) (ids : Symbol → ℕ) (t : TypeSymbol) (own : ℕ) → is_declaration (sections.section_of (instr_for c ids (AType t) own)) ≡
    true
type_declares c ids Void own = refl
type_declares c ids t own = refl

declares : (c : Context) (ids : Symbol → ℕ) (s : Symbol) (own : ℕ) → 0 < order (section_of c s) → order (section_of c s) < 4
    → is_declaration (sections.section_of (instr_for c ids s own)) ≡ true
declares c ids (AType t) own lt le = type_declares c ids t own
declares c ids (Memory (Shared slot)) own lt le = refl
declares c ids (Memory room) own lt le = refl
declares c ids Import own lt le = absurd (omega (arith, lt))
declares c ids Main own lt le = absurd (omega (arith, le))
declares c ids FirstLabel own lt le = absurd (omega (arith, le))
declares c ids (Scratch n) own lt le = absurd (omega (arith, le))
declares c ids (Register k) own lt le = absurd (omega (arith, le))
declares c ids Registers own lt le = absurd (omega (arith, le))
declares c ids (Elements slot) own lt le = absurd (omega (arith, le))
declares c ids ImmediateArray own lt le = absurd (omega (arith, le))
declares c ids s own lt le = refl

no_local_type : (t : TypeSymbol) → order (type_row t).section ≡ 6 → ⊥
no_local_type Void d = omega (arith, d)
no_local_type t d = omega (arith, d)

in_body : (c : Context) (ids : Symbol → ℕ) (s : Symbol) (own : ℕ) → order (section_of c s) ≡ 6 → is_body (sections.section_of (instr_for c ids s own))
    ≡ true
in_body c ids (Scratch n) own d = refl
in_body c ids (Register k) own d = refl
in_body c ids Registers own d = refl
in_body c ids (Elements slot) own d = refl
in_body c ids ImmediateArray own d = refl
in_body c ids (AType t) own d = absurd (no_local_type t d)
in_body c ids (Memory (Shared slot)) own d = absurd (omega (arith, d))
in_body c ids (Memory room) own d = absurd (omega (arith, d))
in_body c ids s own d = absurd (omega (arith, d))

-- LISTS
pass_all : (test : Instr → Bool) (a b : List Instr) → list_all test a ≡ true → behind_all test (a ++ b) ≡ behind_all test b
pass_all test [] b h = refl
pass_all test (i ∷ a) b h =
    let p = and_parts (test i) (list_all test a) h in
    ap (λ x. cond x (behind_all test (a ++ b)) (i ∷ (a ++ b))) p.0 ∙ pass_all test a b p.1

stop_here : (test : Instr → Bool) (i : Instr) (b : List Instr) → test i ≡ false → behind_all test (i ∷ b) ≡ i ∷ b
stop_here test i b h = ap (λ x. cond x (behind_all test b) (i ∷ b)) h

stop_at : (test : Instr → Bool) (a : List Instr) (i : Instr) (b : List Instr) → list_all (λ j. not (test j)) a ≡ true → test i ≡ false
    → behind_all test (a ++ i ∷ b) ≡ a ++ i ∷ b
stop_at test [] i b h e = stop_here test i b e
stop_at test (j ∷ a) i b h e = stop_here test j (a ++ i ∷ b) (no (test j) (and_parts (not (test j)) (list_all (λ k. not (test k)) a) h).0) where
  no : (x : Bool) → not x ≡ true → x ≡ false
  no true e = absurd (cc e)
  no false e = refl

any_here : (test : Instr → Bool) (a : List Instr) (i : Instr) → Among a i → test i ≡ true → list_any test a ≡ true
any_here test [] i h e = absurd h
any_here test (j ∷ a) i (inl q) e = ap (λ b. b || list_any test a) (ap test q ∙ e)
any_here test (j ∷ a) i (inr h) e = or_true (test j) (list_any test a) (any_here test a i h e) where
  or_true : (x y : Bool) → y ≡ true → (x || y) ≡ true
  or_true true y e = refl
  or_true false y e = e

ends : (a : List Instr) → list_all (λ i. is_body (sections.section_of i)) a ≡ true → ends_function (a ++ instruction OpFunctionEnd [] ∷ []) ≡ true
ends [] h = refl
ends (i ∷ []) h = h
ends (i ∷ j ∷ a) h =
    let p = and_parts (is_body (sections.section_of i)) (list_all (λ i. is_body (sections.section_of i)) (j ∷ a)) h in
    and_from (is_body (sections.section_of i)) (ends_function (j ∷ (a ++ instruction OpFunctionEnd [] ∷ []))) p.0 (ends (j ∷ a) p.1)

code_all : (c : Context) (entries fs : List Entry) (test : Instr → Bool) → ((e : Entry) → Among fs e → test (instr_of c entries e) ≡ true)
    → list_all test (code_of c entries fs) ≡ true
code_all c entries [] test h = refl
code_all c entries (f ∷ fs) test h = and_from (test (instr_of c entries f)) (list_all test (code_of c entries fs)) (h f (inl refl))
    (code_all c entries fs test (λ e i. h e (inr i)))

code_among : (c : Context) (entries fs : List Entry) (e : Entry) → Among fs e → Among (code_of c entries fs) (instr_of c entries e)
code_among c entries [] e h = absurd h
code_among c entries (f ∷ fs) e (inl q) = inl (ap (instr_of c entries) q)
code_among c entries (f ∷ fs) e (inr h) = inr (code_among c entries fs e h)

marks_decorate : (own : ℕ) (marks : Marks) → list_all (λ i. is_decoration (sections.section_of i)) (decorations_by own marks) ≡ true
marks_decorate own Nothing = refl
marks_decorate own (Stride bytes) = refl
marks_decorate own (Block Plain) = refl
marks_decorate own (Block ReadOnly) = refl
marks_decorate own (Block Coherent) = refl
marks_decorate own (Bound set binding) = refl
marks_decorate own (BuiltIn built_in) = refl

all_decorate : (c : Context) (fs : List Entry) → list_all (λ i. is_decoration (sections.section_of i)) (decorations_of c fs) ≡ true
all_decorate c [] = refl
all_decorate c (e ∷ es) =
    all_append (λ i. is_decoration (sections.section_of i)) (decorations_for c e.symbol e.id) (decorations_of c es)
    (marks_decorate e.id (row_of c e.symbol).marks) (all_decorate c es)

-- an instruction of the declarations is no decoration
not_both : (i : Instr) → is_declaration (sections.section_of i) ≡ true → not (is_decoration (sections.section_of i)) ≡ true
not_both i h = by (sections.section_of i) h where
  by : (s : sections.Section) → is_declaration s ≡ true → not (is_decoration s) ≡ true
  by sections.Declaration h = refl
  by s h = absurd (cc h)

weaker : (p q : Instr → Bool) (a : List Instr) → ((i : Instr) → p i ≡ true → q i ≡ true) → list_all p a ≡ true → list_all q a ≡ true
weaker p q [] f h = refl
weaker p q (i ∷ a) f h = let x = and_parts (p i) (list_all p a) h in and_from (q i) (list_all q a) (f i x.0) (weaker p q a f x.1)

module _ (c : Context) (kind : Kind) (t : Table) (cs : List Numbered) (r : IsReady c t cs) (body : List Instr) (b : IsBody body) where
  abbrev es : List Entry
  es = t.entries

  abbrev code : List Instr
  code = module_code c kind es cs body

  abbrev head : Instr
  head = instr_of c es (entry Main r.main)

  abbrev label : Instr
  label = instr_of c es (entry FirstLabel r.label)

  abbrev rest : List Instr
  rest = label ∷ (section_code c Locals es ++ (body ++ instruction OpFunctionEnd [] ∷ []))

  order_of : (section : Section) (e : Entry) → Among (part_of c section es) e → order (section_of c e.symbol) ≡ order section
  order_of section e h =
      let q = among_filter (in_section c section) es e h in
      ⊎_elim (λ y. y.1) (λ y. absurd (cc (q.1, y.0))) (eqb_tells (order (section_of c e.symbol)) (order section))

  section_declares : (section : Section) → 0 < order section → order section < 4 → list_all (λ i. is_declaration (sections.section_of i))
      (section_code c section es) ≡ true
  section_declares section lt le = code_all c es (part_of c section es) (λ i. is_declaration (sections.section_of i)) (λ e h.
      let o = order_of section e h in declares c (id_of es) e.symbol e.id (omega (arith, o, lt)) (omega (arith, o, le)))

  all_declare : list_all (λ i. is_declaration (sections.section_of i)) (declarations c es cs) ≡ true
  all_declare =
      all_append (λ i. is_declaration (sections.section_of i)) (section_code c Types es)
      (code_of c es (map entry_for cs) ++ section_code c Declarations es) (section_declares Types (omega arith) (omega arith))
      (all_append (λ i. is_declaration (sections.section_of i)) (code_of c es (map entry_for cs)) (section_code c Declarations es)
      (code_all c es (map entry_for cs) (λ i. is_declaration (sections.section_of i)) (λ e h.
      let o = (constant_there c es t.next r.stands.table cs r.sorted e h).1 in declares c (id_of es) e.symbol e.id (omega (arith, o))
      (omega (arith, o))))
      (section_declares Declarations (omega arith) (omega arith)))

  -- the function
  body_ends : ends_function rest ≡ true
  body_ends =
      ap ends_function (ap (λ l. label ∷ l) (sym (append_assoc (section_code c Locals es) body (instruction OpFunctionEnd [] ∷ []))))
      ∙ ends (label ∷ (section_code c Locals es ++ body))
      (all_append (λ i. is_body (sections.section_of i)) (section_code c Locals es) body
      (code_all c es (part_of c Locals es) (λ i. is_body (sections.section_of i)) (λ e h. in_body c (id_of es) e.symbol e.id (order_of Locals e h)))
      b)

  type_among : (y : TypeSymbol) → order (type_row y).section ≡ 1 → Has es (AType y) (id_of es (AType y)) → Among (front c kind es cs)
      (instr_for c (id_of es) (AType y) (id_of es (AType y)))
  type_among y o h =
      inr (among_right (section_code c Imports es) _ _ (among_right (models kind es) _ _ (among_right (decorations_of c es) _ _
      (among_left (section_code c Types es) _ _
      (code_among c es (part_of c Types es) (entry (AType y) (id_of es (AType y)))
      (among_kept (in_section c Types) es (entry (AType y) (id_of es (AType y))) (get_among es h.0 _ h.1)
      (equal_tells (order (type_row y).section) 1 o)))))))

  void_there : Has es (AType Void) (id_of es (AType Void))
  void_there = first_need c es t.next r.stands.table code (defines c kind t cs r body b) Main (AType Void) (AType Procedure ∷ []) r.main r.has_main
      refl

  procedure_there : Has es (AType Procedure) (id_of es (AType Procedure))
  procedure_there = second_need c es t.next r.stands.table code (defines c kind t cs r body b) Main (AType Void) (AType Procedure) [] r.main
      r.has_main refl

  main_is : nat_eq r.main (id_of es Main) ≡ true
  main_is = eq-eqb r.main (id_of es Main) (sym (found_id c es t.next Main r.main r.stands.table r.has_main))

  void_function : is_void_function (declared code) (id_of es Main) head.operands ≡ true
  void_function =
      ap (λ l. is_void_function l (id_of es Main) head.operands) (declared_is c kind es t.next r.stands.table cs r.sorted r.main r.has_main body)
      ∙ and_from (nat_eq r.main (id_of es Main)) _ main_is
      (and_from (list_any (is_instr OpTypeVoid (id_of es (AType Void) ∷ [])) (front c kind es cs)) _
      (any_here (is_instr OpTypeVoid (id_of es (AType Void) ∷ [])) (front c kind es cs) _ (type_among Void refl void_there)
      (ap (λ b. b && true) (equals (id_of es (AType Void)))))
      (any_here (is_instr OpTypeFunction (id_of es (AType Procedure) ∷ id_of es (AType Void) ∷ [])) (front c kind es cs) _
      (type_among Procedure refl procedure_there)
      (and_from (nat_eq (id_of es (AType Procedure)) (id_of es (AType Procedure))) _ (equals (id_of es (AType Procedure)))
      (ap (λ b. b && true) (equals (id_of es (AType Void)))))))

  function_holds : is_function (declared code) (id_of es Main) (head ∷ rest) ≡ true
  function_holds = and_from (is_void_function (declared code) (id_of es Main) head.operands) _ void_function body_ends

  rest_holds : has_rest (declared code) (id_of es Main) ((decorations_of c es ++ declarations c es cs) ++ function c es body) ≡ true
  rest_holds =
      let pass : behind_all (λ i. is_decoration (sections.section_of i)) ((decorations_of c es ++ declarations c es cs) ++ function c es body) ≡
      declarations c es cs ++ head ∷ rest =
      ap (behind_all (λ i. is_decoration (sections.section_of i))) (append_assoc (decorations_of c es) (declarations c es cs) (function c es body))
      ∙ pass_all (λ i. is_decoration (sections.section_of i)) (decorations_of c es) (declarations c es cs ++ function c es body) (all_decorate c es)
      ∙ ap (λ l. behind_all (λ i. is_decoration (sections.section_of i)) (declarations c es cs ++ l)) (function_is c kind t cs r body b)
      ∙ stop_at (λ i. is_decoration (sections.section_of i)) (declarations c es cs) head rest
      (weaker (λ i. is_declaration (sections.section_of i)) (λ i. not (is_decoration (sections.section_of i))) (declarations c es cs) not_both
      all_declare) refl in
      let stop : behind_all (λ i. is_declaration (sections.section_of i)) (declarations c es cs ++ head ∷ rest) ≡ head ∷ rest =
      pass_all (λ i. is_declaration (sections.section_of i)) (declarations c es cs) (head ∷ rest) all_declare in
      ap (λ l. is_function (declared code) (id_of es Main) (behind_all (λ i. is_declaration (sections.section_of i)) l)) pass
      ∙ (ap (is_function (declared code) (id_of es Main)) stop ∙ function_holds)

  -- the front
  mode_holds : is_mode kind.threads (id_of es Main) (mode kind es) ≡ true
  mode_holds =
      and_from (nat_eq (id_of es Main) (id_of es Main)) _ (equals (id_of es Main))
      (and_from (nat_eq kind.threads.x kind.threads.x) _ (equals kind.threads.x)
      (and_from (nat_eq kind.threads.y kind.threads.y) _ (equals kind.threads.y)
      (ap (λ b. b && true) (equals kind.threads.z))))

  abbrev tail : List Instr
  tail = (models kind es ++ (decorations_of c es ++ declarations c es cs)) ++ function c es body

  abbrev behind_models : List Instr → Bool
  behind_models l =
      at_front (λ model b. is_instr OpMemoryModel (0 ∷ 1 ∷ []) model &&
      at_front (λ entry c. (is_op OpEntryPoint entry && is_main entry.operands) &&
      at_front (λ mode d. is_mode kind.threads (slice_index entry.operands 1) mode && has_rest (declared code) (slice_index entry.operands 1) d) c) b)
      l

  tail_holds : behind_models tail ≡ true
  tail_holds = and_from (is_mode kind.threads (id_of es Main) (mode kind es)) _ mode_holds rest_holds

  import_is : (x : ℕ) → is_import (instr_for c (id_of es) Import x) ≡ true
  import_is x = ap (λ b. b && true) (equals x)

  -- where there is no import, and where there is one
  imports_by : (l : List Entry) → ((e : Entry) → Among l e → e.symbol ≡ Import) → ((e f : Entry) (fs : List Entry) → l ≡ e ∷ f ∷ fs → ⊥)
      → behind_models (behind_one is_import (code_of c es l ++ tail)) ≡ true
  imports_by [] a u = tail_holds
  imports_by (e ∷ []) a u =
      ap (λ b. behind_models (cond b tail (instr_of c es e ∷ tail))) (ap (λ s. is_import (instr_for c (id_of es) s e.id)) (a e (inl refl)) ∙ import_is
      e.id) ∙ tail_holds
  imports_by (e ∷ f ∷ fs) a u = absurd (u e f fs refl)

  one_import : (e f : Entry) (fs : List Entry) → part_of c Imports es ≡ e ∷ f ∷ fs → ⊥
  one_import e f fs q =
      let s : (g : Entry) → Among (e ∷ f ∷ fs) g → g.symbol ≡ Import = λ g h. is_the_import c g.symbol
      (order_of Imports g (subst (λ l. Among l g) (sym q) h)) in
      let a = among_get es e (among_filter (in_section c Imports) es e (subst (λ l. Among l e) (sym q) (inl refl))).0 in
      let b = among_get es f (among_filter (in_section c Imports) es f (subst (λ l. Among l f) (sym q) (inr (inl refl)))).0 in
      let p = r.stands.table.single a.0 b.0 e f a.1 b.1 (s e (inl refl) ∙ sym (s f (inr (inl refl)))) in
      let same : e ≡ f = cc (a.1, b.1, p) in
      let o = subst (λ l. Ordered (λ (g : Entry) (h : Entry). g.id ≢ h.id) l) q
      (ordered_kept (λ g h. g.id ≢ h.id) (λ g h. g.id ≢ h.id) (in_section c Imports) (λ g h _ _ n. n) es (apart_entries es r.stands.table.rises)) in
      o.0.0 (ap (λ (g : Entry). g.id) same)

  pub sections_hold : has_sections kind.threads code ≡ true
  sections_hold =
      ap (λ l. behind_models (behind_one is_import l))
      (append_assoc (section_code c Imports es) (models kind es ++ (decorations_of c es ++ declarations c es cs)) (function c es body))
      ∙ imports_by (part_of c Imports es) (λ e h. is_the_import c e.symbol (order_of Imports e h)) one_import
