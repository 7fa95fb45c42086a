-- The entry point lists the variables that it is to list.
use Rattle.std.proofs.Common.{◌≡◌, ℕ, suc, ◌<◌, ⊎_elim, inl, inr, Bool, true, false, List, [], ◌∷◌, ◌++◌, map, Some, refl, sym, ap, ◌∙◌, arith, append_assoc}
use Rattle.std.specs.Prelude.{◌≢◌, slice_get, ◌&&◌, ◌||◌, not, nat_eq, filter}
use Rattle.std.specs.List.{list_all}
use Rattle.std.proofs.lemmas.Bool.{eq-eqb, and_parts}
use Rattle.std.proofs.lemmas.Bool.Decides.{eqb_tells}
use Rattle.spirv_words.specs.Operations.{OpEntryPoint, OpFunctionEnd}
use Rattle.spirv_words.specs.Text.{Instr, instruction, is_op}
use Rattle.spirv_words.specs.Ids.{contains}
use Rattle.spirv_words.specs.Definitions.{are_distinct}
use Rattle.spirv_words.specs.Sections.{listed, interface_of, variables_of, listed_classes, is_once_each, has_interface}
use Rattle.spirv_symbols.specs.declared.symbol.Access.TheVariants.{Plain, ReadOnly, Coherent}
use Rattle.spirv_symbols.specs.declared.symbol.Section.TheVariants.{Imports, Types, Declarations, Heads, Labels, Locals}
use Rattle.spirv_symbols.specs.declared.row.Marks.{Marks}
use Rattle.spirv_symbols.specs.declared.row.Marks.TheVariants.{Nothing, Stride, Block, Bound, BuiltIn}
use Rattle.spirv_symbols.specs.declared.numbered.Numbered.{Numbered}
use Rattle.spirv_symbols.specs.Contexts.{Context}
use Rattle.spirv_symbols.specs.Rows.{row_of, decorations_by, decorations_for}
use Rattle.spirv_symbols.specs.Tables.{Table, Entry, id_of, instr_of}
use Rattle.spirv_symbols.specs.Sections.{part_of, code_of, section_code, decorations_of}
use Rattle.spirv_symbols.specs.Orders.{Among, Ordered, Each, entry_for}
use Rattle.spirv_symbols.specs.Modules.{Kind, IsReady, IsBody, models, declarations, front, function, module_code, interface, is_global, globals_of}
use Rattle.spirv_symbols.proofs.Members.{among_get, ordered_kept, each_of}
use Rattle.spirv_symbols.proofs.EntriesLaws.{append_none}
use Rattle.spirv_symbols.proofs.EachSymbol.{no_entry}
use Rattle.spirv_symbols.proofs.DecorationLookups.{is_in_body, other_number}
use Rattle.spirv_symbols.proofs.GlobalVariables.{variables_are}

-- DISTINCT IDS
pub apart_entries : (es : List Entry) → ((j k : ℕ) (e f : Entry) → j < k → slice_get es j ≡ Some e → slice_get es k ≡ Some f → e.id < f.id)
    → Ordered (λ e f. e.id ≢ f.id) es
apart_entries [] r = tt
apart_entries (e ∷ es) r = (
  each_of (λ f. e.id ≢ f.id) es (λ f h q. let g = among_get es f h in absurd (omega (arith, q, r 0 (suc g.0) e f (omega arith) refl g.1))),
  apart_entries es (λ j k f g lt x y. r (suc j) (suc k) f g (omega (arith, lt)) x y),
)

contains_not : (xs : List ℕ) (x : ℕ) → Each (λ y. x ≢ y) xs → contains xs x ≡ false
contains_not [] x h = refl
contains_not (y ∷ ys) x h =
    ap (λ b. b || contains ys x) (⊎_elim (λ e. absurd (h.0 (sym e.1))) (λ e. e.0) (eqb_tells y x)) ∙ contains_not ys x h.1

pub distinct : (xs : List ℕ) → Ordered (λ x y. x ≢ y) xs → are_distinct xs ≡ true
distinct [] h = refl
distinct (x ∷ xs) h = ap (λ b. not b && are_distinct xs) (contains_not xs x h.0) ∙ distinct xs h.1

pub ids_apart : (es : List Entry) → Ordered (λ e f. e.id ≢ f.id) es → Ordered (λ x y. x ≢ y) (map (λ (e : Entry). e.id) es)
ids_apart [] h = tt
ids_apart (e ∷ es) h = (row e es h.0, ids_apart es h.1) where
  row : (e : Entry) (fs : List Entry) → Each (λ f. e.id ≢ f.id) fs → Each (λ y. e.id ≢ y) (map (λ (e : Entry). e.id) fs)
  row e [] h = tt
  row e (f ∷ fs) h = (h.0, row e fs h.1)

pub contains_here : (xs : List ℕ) (x : ℕ) → Among xs x → contains xs x ≡ true
contains_here [] x h = absurd h
contains_here (y ∷ ys) x (inl e) = ap (λ b. b || contains ys x) (eq-eqb y x e)
contains_here (y ∷ ys) x (inr h) = or_true (nat_eq y x) (contains ys x) (contains_here ys x h) where
  or_true : (a b : Bool) → b ≡ true → (a || b) ≡ true
  or_true true b e = refl
  or_true false b e = e

all_contained : (xs ys : List ℕ) → ((x : ℕ) → Among xs x → Among ys x) → list_all (contains ys) xs ≡ true
all_contained [] ys h = refl
all_contained (x ∷ xs) ys h = ap (λ b. b && list_all (contains ys) xs) (contains_here ys x (h x (inl refl))) ∙ all_contained xs ys
    (λ y i. h y (inr i))

once_each : (xs : List ℕ) → Ordered (λ x y. x ≢ y) xs → is_once_each xs xs ≡ true
once_each xs h =
    ap (λ b. b && (list_all (contains xs) xs && list_all (contains xs) xs)) (distinct xs h)
    ∙ ap (λ b. b && b) (all_contained xs xs (λ x i. i))

-- WHAT IS LISTED
interface_append : (a b : List Instr) → interface_of (a ++ b) ≡ interface_of a ++ interface_of b
interface_append [] b = refl
interface_append (i ∷ a) b = ap (λ l. listed i ++ l) (interface_append a b) ∙ sym (append_assoc (listed i) (interface_of a) (interface_of b))

nothing_front : (a b : List Instr) → interface_of a ≡ [] → interface_of (a ++ b) ≡ interface_of b
nothing_front a b h = interface_append a b ∙ ap (λ l. l ++ interface_of b) h

not_listed : (i : Instr) → is_op OpEntryPoint i ≡ false → listed i ≡ []
not_listed i h = rw (h) refl

code_lists : (c : Context) (entries es : List Entry) → interface_of (code_of c entries es) ≡ []
code_lists c entries [] = refl
code_lists c entries (e ∷ es) =
    ap (λ l. l ++ interface_of (code_of c entries es)) (not_listed (instr_of c entries e) (no_entry c (id_of entries) e.symbol e.id)) ∙ code_lists c
    entries es

marks_list : (own : ℕ) (marks : Marks) → interface_of (decorations_by own marks) ≡ []
marks_list own Nothing = refl
marks_list own (Stride bytes) = refl
marks_list own (Block Plain) = refl
marks_list own (Block ReadOnly) = refl
marks_list own (Block Coherent) = refl
marks_list own (Bound set binding) = refl
marks_list own (BuiltIn built_in) = refl

decorations_list : (c : Context) (es : List Entry) → interface_of (decorations_of c es) ≡ []
decorations_list c [] = refl
decorations_list c (e ∷ es) = nothing_front (decorations_for c e.symbol e.id) (decorations_of c es) (marks_list e.id (row_of c e.symbol).marks) ∙
    decorations_list c es

body_lists : (body : List Instr) → list_all is_in_body body ≡ true → interface_of body ≡ []
body_lists [] h = refl
body_lists (i ∷ is) h =
    let p = and_parts (is_in_body i) (list_all is_in_body is) h in
    ap (λ l. l ++ interface_of is) (not_listed i (other_number 15 (λ os. refl) i p.0)) ∙ body_lists is p.1

module _ (c : Context) (kind : Kind) (t : Table) (cs : List Numbered) (r : IsReady c t cs) (body : List Instr) (b : IsBody body) where
  abbrev es : List Entry
  es = t.entries

  abbrev ends : List Instr
  ends = body ++ instruction OpFunctionEnd [] ∷ []

  declarations_list : interface_of (declarations c es cs) ≡ []
  declarations_list =
      nothing_front (section_code c Types es) (code_of c es (map entry_for cs) ++ section_code c Declarations es)
      (code_lists c es (part_of c Types es))
      ∙ nothing_front (code_of c es (map entry_for cs)) (section_code c Declarations es) (code_lists c es (map entry_for cs))
      ∙ code_lists c es (part_of c Declarations es)

  function_lists : interface_of (function c es body) ≡ []
  function_lists =
      nothing_front (section_code c Heads es) (section_code c Labels es ++ (section_code c Locals es ++ ends)) (code_lists c es (part_of c Heads es))
      ∙ nothing_front (section_code c Labels es) (section_code c Locals es ++ ends) (code_lists c es (part_of c Labels es))
      ∙ nothing_front (section_code c Locals es) ends (code_lists c es (part_of c Locals es))
      ∙ nothing_front body (instruction OpFunctionEnd [] ∷ []) (body_lists body b)

  models_list : interface_of (models kind es) ≡ interface kind.version es
  models_list = append_none (interface kind.version es)

  pub lists : interface_of (module_code c kind es cs body) ≡ interface kind.version es
  lists =
      interface_append (front c kind es cs) (function c es body)
      ∙ ap (λ l. interface_of (front c kind es cs) ++ l) function_lists
      ∙ append_none (interface_of (front c kind es cs))
      ∙ nothing_front (section_code c Imports es) (models kind es ++ (decorations_of c es ++ declarations c es cs))
      (code_lists c es (part_of c Imports es))
      ∙ interface_append (models kind es) (decorations_of c es ++ declarations c es cs)
      ∙ ap (λ l. interface_of (models kind es) ++ l) (nothing_front (decorations_of c es) (declarations c es cs) (decorations_list c es) ∙
      declarations_list)
      ∙ append_none (interface_of (models kind es))
      ∙ models_list

  pub globals_apart : (classes : ℕ → Bool) → Ordered (λ x y. x ≢ y) (globals_of classes es)
  globals_apart classes =
      ids_apart (filter (is_global classes) es)
      (ordered_kept (λ e f. e.id ≢ f.id) (λ e f. e.id ≢ f.id) (is_global classes) (λ e f _ _ n. n) es (apart_entries es r.stands.table.rises))

  pub interface_holds : has_interface kind.version (module_code c kind es cs body) ≡ true
  interface_holds =
      ap (λ l. is_once_each l (variables_of (listed_classes kind.version) (module_code c kind es cs body))) lists
      ∙ ap (is_once_each (interface kind.version es)) (variables_are c kind es t.next r.stands.table cs r.sorted (listed_classes kind.version) r.main
      r.has_main body)
      ∙ once_each (interface kind.version es) (globals_apart (listed_classes kind.version))
