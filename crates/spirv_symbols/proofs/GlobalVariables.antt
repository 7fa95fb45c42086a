-- The global variables among the declarations of a module are those of the table, in its order.
use Rattle.std.proofs.Common.{◌≡◌, ℕ, ◌<◌, ⊎_elim, inl, inr, Bool, true, false, List, [], ◌∷◌, ◌++◌, map, refl, sym, ap, ◌∙◌, arith}
use Rattle.std.specs.Prelude.{◌≢◌, slice_index, cond, filter}
use Rattle.std.proofs.lemmas.List.{map-append}
use Rattle.std.proofs.lemmas.List.Elements.{filter-append}
use Rattle.std.proofs.lemmas.Bool.{eq-eqb}
use Rattle.std.proofs.lemmas.Bool.Decides.{eqb_tells}
use Rattle.word_base.specs.declared.event.Room.TheVariants.{Shared}
use Rattle.spirv_words.specs.Text.{Instr}
use Rattle.spirv_words.specs.Sections.{is_variable_of, variables_of}
use Rattle.spirv_symbols.specs.declared.symbol.Access.TheVariants.{Plain, ReadOnly, Coherent}
use Rattle.spirv_symbols.specs.declared.symbol.Section.{Section}
use Rattle.spirv_symbols.specs.declared.symbol.Section.TheVariants.{Imports, Types, Declarations, Heads, Labels, Locals}
use Rattle.spirv_symbols.specs.declared.symbol.Symbol.{Symbol}
use Rattle.spirv_symbols.specs.declared.symbol.Symbol.TheVariants.{AType, Main, Input, Memory, Uniform, Push, Scratch, Register, Registers, Elements, ImmediateArray}
use Rattle.spirv_symbols.specs.declared.symbol.TypeSymbol.{TypeSymbol}
use Rattle.spirv_symbols.specs.declared.symbol.TypeSymbol.TheVariants.{Void}
use Rattle.spirv_symbols.specs.declared.row.Marks.{Marks}
use Rattle.spirv_symbols.specs.declared.row.Marks.TheVariants.{Nothing, Stride, Block, Bound, BuiltIn}
use Rattle.spirv_symbols.specs.declared.numbered.Numbered.{Numbered}
use Rattle.spirv_symbols.specs.Contexts.{Context}
use Rattle.spirv_symbols.specs.Rows.{row_of, section_of, instr_for, decorations_by, decorations_for}
use Rattle.spirv_symbols.specs.Tables.{Entry, Has, IsTable, id_of, instr_of}
use Rattle.spirv_symbols.specs.Sections.{order, in_section, part_of, code_of, section_code, decorations_of}
use Rattle.spirv_symbols.specs.Orders.{Among, Sorts, entry_for}
use Rattle.spirv_symbols.specs.Sorted.{is_front}
use Rattle.spirv_symbols.specs.Modules.{Kind, models, declarations, front, module_code}
use Rattle.spirv_symbols.specs.Starts.{class_of, passes, is_global, globals_of}
use Rattle.spirv_symbols.proofs.Members.{among_filter}
use Rattle.spirv_symbols.proofs.Lookups.{constant_there}
use Rattle.spirv_symbols.proofs.Fronts.{declared_is}

abbrev second : Instr → ℕ
second i = slice_index i.operands 1

-- the variables of a list of instructions
abbrev pub picked_ids : (ℕ → Bool) → List Instr → List ℕ
picked_ids classes code = map second (filter (is_variable_of classes) code)

picked_append : (classes : ℕ → Bool) (a b : List Instr) → picked_ids classes (a ++ b) ≡ picked_ids classes a ++ picked_ids classes b
picked_append classes a b =
    ap (map second) (filter-append (is_variable_of classes) a b) ∙ map-append second (filter (is_variable_of classes) a)
    (filter (is_variable_of classes) b)

-- A SYMBOL in front of the function
type_global : (c : Context) (ids : Symbol → ℕ) (classes : ℕ → Bool) (t : TypeSymbol) (own : ℕ) → is_variable_of classes
    (instr_for c ids (AType t) own) ≡ false
type_global c ids classes Void own = refl
type_global c ids classes t own = refl

symbol_global : (c : Context) (ids : Symbol → ℕ) (classes : ℕ → Bool) (s : Symbol) (own : ℕ) → is_front (section_of c s) ≡ true
    → is_variable_of classes (instr_for c ids s own) ≡ passes classes (class_of s)
symbol_global c ids classes (AType t) own f = type_global c ids classes t own
symbol_global c ids classes (Memory (Shared slot)) own f = refl
symbol_global c ids classes (Memory room) own f = refl
symbol_global c ids classes (Scratch n) own f = absurd (cc f)
symbol_global c ids classes (Register k) own f = absurd (cc f)
symbol_global c ids classes Registers own f = absurd (cc f)
symbol_global c ids classes (Elements slot) own f = absurd (cc f)
symbol_global c ids classes ImmediateArray own f = absurd (cc f)
symbol_global c ids classes s own f = refl

-- a global variable has its id as its second operand, and stands among the declarations
second_of : (c : Context) (ids : Symbol → ℕ) (classes : ℕ → Bool) (s : Symbol) (own : ℕ) → passes classes (class_of s) ≡ true
    → second (instr_for c ids s own) ≡ own
second_of c ids classes (Input b) own f = refl
second_of c ids classes (Memory (Shared slot)) own f = refl
second_of c ids classes (Memory room) own f = refl
second_of c ids classes (Uniform slot) own f = refl
second_of c ids classes Push own f = refl
second_of c ids classes s own f = absurd (cc f)

pub global_section : (c : Context) (classes : ℕ → Bool) (s : Symbol) → passes classes (class_of s) ≡ true → order (section_of c s) ≡ 3
global_section c classes (Input b) f = refl
global_section c classes (Memory (Shared slot)) f = refl
global_section c classes (Memory room) f = refl
global_section c classes (Uniform slot) f = refl
global_section c classes Push f = refl
global_section c classes s f = absurd (cc f)

front_by : (n : ℕ) (section : Section) → order section ≡ n → n < 4 → is_front section ≡ true
front_by n Heads d lt = absurd (omega (arith, d, lt))
front_by n Labels d lt = absurd (omega (arith, d, lt))
front_by n Locals d lt = absurd (omega (arith, d, lt))
front_by n section d lt = refl

-- LISTS of entries in front of the function
module _ (c : Context) (entries : List Entry) (classes : ℕ → Bool) where
  step_ids : (b d : Bool) (i : Instr) (is : List Instr) (e : Entry) (es : List Entry) → b ≡ d → (d ≡ true → second i ≡ e.id)
      → map second is ≡ map (λ (e : Entry). e.id) es → map second (cond b (i ∷ is) is) ≡ map (λ (e : Entry). e.id) (cond d (e ∷ es) es)
  step_ids true true i is e es p f q = ap (λ x. x ∷ map second is) (f refl) ∙ ap (λ l. e.id ∷ l) q
  step_ids true false i is e es p f q = absurd (cc p)
  step_ids false true i is e es p f q = absurd (cc p)
  step_ids false false i is e es p f q = q

  entries_picked : (es : List Entry) → ((e : Entry) → Among es e → order (section_of c e.symbol) < 4)
      → picked_ids classes (code_of c entries es) ≡ globals_of classes es
  entries_picked [] h = refl
  entries_picked (e ∷ es) h =
      step_ids (is_variable_of classes (instr_of c entries e)) (is_global classes e) (instr_of c entries e)
      (filter (is_variable_of classes) (code_of c entries es)) e (filter (is_global classes) es)
      (symbol_global c (id_of entries) classes e.symbol e.id (front_by (order (section_of c e.symbol)) (section_of c e.symbol) refl (h e (inl refl))))
      (λ d. second_of c (id_of entries) classes e.symbol e.id d)
      (entries_picked es (λ f i. h f (inr i)))

  -- of a section that is not that of global variables there is none
  none_global : (es : List Entry) → ((e : Entry) → Among es e → order (section_of c e.symbol) ≢ 3) → globals_of classes es ≡ []
  none_global [] h = refl
  none_global (e ∷ es) h = by (is_global classes e) refl (none_global es (λ f i. h f (inr i))) where
    by : (b : Bool) → is_global classes e ≡ b → globals_of classes es ≡ [] → map (λ (e : Entry). e.id)
        (cond (is_global classes e) (e ∷ filter (is_global classes) es) (filter (is_global classes) es)) ≡ []
    by true d n = absurd (h e (inl refl) (global_section c classes e.symbol d))
    by false d n = ap (λ b. map (λ (e : Entry). e.id) (cond b (e ∷ filter (is_global classes) es) (filter (is_global classes) es))) d ∙ n

  -- in the section of global variables are all
  all_global : (es : List Entry) → globals_of classes (part_of c Declarations es) ≡ globals_of classes es
  all_global [] = refl
  all_global (e ∷ es) = by (in_section c Declarations e) refl (is_global classes e) refl (all_global es) where
    by : (a : Bool) → in_section c Declarations e ≡ a → (b : Bool) → is_global classes e ≡ b → globals_of classes (part_of c Declarations es) ≡
        globals_of classes es
        → globals_of classes (cond (in_section c Declarations e) (e ∷ part_of c Declarations es) (part_of c Declarations es)) ≡ globals_of classes
        (e ∷ es)
    by true p true q n =
        ap (λ a. globals_of classes (cond a (e ∷ part_of c Declarations es) (part_of c Declarations es))) p
        ∙ ap (λ b. map (λ (e : Entry). e.id) (cond b (e ∷ filter (is_global classes) (part_of c Declarations es))
        (filter (is_global classes) (part_of c Declarations es)))) q
        ∙ ap (λ l. e.id ∷ l) n
        ∙ sym (ap (λ b. map (λ (e : Entry). e.id) (cond b (e ∷ filter (is_global classes) es) (filter (is_global classes) es))) q)
    by true p false q n =
        ap (λ a. globals_of classes (cond a (e ∷ part_of c Declarations es) (part_of c Declarations es))) p
        ∙ ap (λ b. map (λ (e : Entry). e.id) (cond b (e ∷ filter (is_global classes) (part_of c Declarations es))
        (filter (is_global classes) (part_of c Declarations es)))) q
        ∙ n
        ∙ sym (ap (λ b. map (λ (e : Entry). e.id) (cond b (e ∷ filter (is_global classes) es) (filter (is_global classes) es))) q)
    by false p true q n = absurd (cc (p, eq-eqb (order (section_of c e.symbol)) 3 (global_section c classes e.symbol q)))
    by false p false q n =
        ap (λ a. globals_of classes (cond a (e ∷ part_of c Declarations es) (part_of c Declarations es))) p
        ∙ n
        ∙ sym (ap (λ b. map (λ (e : Entry). e.id) (cond b (e ∷ filter (is_global classes) es) (filter (is_global classes) es))) q)

-- THE WHOLE FRONT
marks_picked : (classes : ℕ → Bool) (own : ℕ) (marks : Marks) → picked_ids classes (decorations_by own marks) ≡ []
marks_picked classes own Nothing = refl
marks_picked classes own (Stride bytes) = refl
marks_picked classes own (Block Plain) = refl
marks_picked classes own (Block ReadOnly) = refl
marks_picked classes own (Block Coherent) = refl
marks_picked classes own (Bound set binding) = refl
marks_picked classes own (BuiltIn built_in) = refl

decorations_picked : (c : Context) (classes : ℕ → Bool) (es : List Entry) → picked_ids classes (decorations_of c es) ≡ []
decorations_picked c classes [] = refl
decorations_picked c classes (e ∷ es) =
    picked_append classes (decorations_for c e.symbol e.id) (decorations_of c es)
    ∙ ap (λ l. l ++ picked_ids classes (decorations_of c es)) (marks_picked classes e.id (row_of c e.symbol).marks) ∙ decorations_picked c classes es

module _ (c : Context) (kind : Kind) (entries : List Entry) (next : ℕ) (t : IsTable c entries next) (cs : List Numbered) (so : Sorts entries cs)
    (classes : ℕ → Bool) where
  in_order : (section : Section) (e : Entry) → Among (part_of c section entries) e → order (section_of c e.symbol) ≡ order section
  in_order section e h =
      let r = among_filter (in_section c section) entries e h in
      ⊎_elim (λ y. y.1) (λ y. absurd (cc (r.1, y.0))) (eqb_tells (order (section_of c e.symbol)) (order section))

  section_picked : (section : Section) → order section < 4 → picked_ids classes (section_code c section entries) ≡ globals_of classes
      (part_of c section entries)
  section_picked section lt = entries_picked c entries classes (part_of c section entries) (λ e h. omega (arith, in_order section e h, lt))

  section_none : (section : Section) → order section < 4 → order section ≢ 3 → picked_ids classes (section_code c section entries) ≡ []
  section_none section lt d = section_picked section lt ∙ none_global c entries classes (part_of c section entries)
      (λ e h q. d (sym (in_order section e h) ∙ q))

  constants_none : picked_ids classes (code_of c entries (map entry_for cs)) ≡ []
  constants_none =
      entries_picked c entries classes (map entry_for cs) (λ e h. omega (arith, (constant_there c entries next t cs so e h).1))
      ∙ none_global c entries classes (map entry_for cs) (λ e h q. absurd (omega (arith, q, (constant_there c entries next t cs so e h).1)))

  empty_front : (a b : List Instr) → picked_ids classes a ≡ [] → picked_ids classes (a ++ b) ≡ picked_ids classes b
  empty_front a b n = picked_append classes a b ∙ ap (λ l. l ++ picked_ids classes b) n

  pub front_picked : picked_ids classes (front c kind entries cs) ≡ globals_of classes entries
  front_picked =
      empty_front (section_code c Imports entries) (models kind entries ++ (decorations_of c entries ++ declarations c entries cs))
      (section_none Imports (omega arith) (λ q. omega (arith, q)))
      ∙ empty_front (models kind entries) (decorations_of c entries ++ declarations c entries cs) refl
      ∙ empty_front (decorations_of c entries) (declarations c entries cs) (decorations_picked c classes entries)
      ∙ empty_front (section_code c Types entries) (code_of c entries (map entry_for cs) ++ section_code c Declarations entries)
      (section_none Types (omega arith) (λ q. omega (arith, q)))
      ∙ empty_front (code_of c entries (map entry_for cs)) (section_code c Declarations entries) constants_none
      ∙ section_picked Declarations (omega arith) ∙ all_global c entries classes entries

  pub variables_are : (main : ℕ) → Has entries Main main → (body : List Instr) → variables_of classes (module_code c kind entries cs body) ≡
      globals_of classes entries
  variables_are main m body = ap (picked_ids classes) (declared_is c kind entries next t cs so main m body) ∙ front_picked
