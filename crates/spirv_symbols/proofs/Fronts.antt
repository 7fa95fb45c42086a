-- The declarations of a module are all that stands in front of its function.
use Rattle.std.proofs.Common.{◌≡◌, ℕ, zero, suc, ⊎_elim, inl, inr, Bool, true, false, List, [], ◌∷◌, ◌++◌, map, Some, None, refl, sym, ap, ◌∙◌, arith, append_assoc}
use Rattle.std.specs.Prelude.{slice_get, slice_index, ◌&&◌, nat_eq, cond, find, filter, option_and_then}
use Rattle.std.proofs.lemmas.Bool.{eq-eqb}
use Rattle.std.proofs.lemmas.Bool.Decides.{eqb_tells}
use Rattle.spirv_words.specs.Operations.{OpEntryPoint, OpFunction, OpFunctionEnd}
use Rattle.spirv_words.specs.Text.{Instr, instruction, is_op}
use Rattle.spirv_words.specs.Ids.{declared, in_front_of, is_function, is_entry, entry_function}
use Rattle.spirv_symbols.specs.declared.symbol.Access.TheVariants.{Plain, ReadOnly, Coherent}
use Rattle.spirv_symbols.specs.declared.symbol.Section.{Section}
use Rattle.spirv_symbols.specs.declared.symbol.Section.TheVariants.{Imports, Types, Declarations, Heads, Labels, Locals}
use Rattle.spirv_symbols.specs.declared.symbol.Symbol.{Symbol}
use Rattle.spirv_symbols.specs.declared.symbol.Symbol.TheVariants.{Main}
use Rattle.spirv_symbols.specs.declared.row.Marks.{Marks}
use Rattle.spirv_symbols.specs.declared.row.Marks.TheVariants.{Nothing, Stride, Block, Bound, BuiltIn}
use Rattle.spirv_symbols.specs.declared.numbered.Numbered.{Numbered}
use Rattle.spirv_symbols.specs.Contexts.{Context}
use Rattle.spirv_symbols.specs.Rows.{row_of, section_of, decorations_by, decorations_for}
use Rattle.spirv_symbols.specs.Tables.{Entry, entry, Has, IsTable, id_of, instr_of}
use Rattle.spirv_symbols.specs.Sections.{order, in_section, part_of, code_of, section_code, decorations_of}
use Rattle.spirv_symbols.specs.Orders.{Among, Sorts, entry_for}
use Rattle.spirv_symbols.specs.Modules.{Kind, models, declarations, front, function, module_code}
use Rattle.spirv_symbols.proofs.Members.{among_filter}
use Rattle.spirv_symbols.proofs.Ids.{found_id}
use Rattle.spirv_symbols.proofs.EachSymbol.{no_entry, no_function, is_head}
use Rattle.spirv_symbols.proofs.Lookups.{find_skip, find_append, front_of, constant_there}

-- A SECTION OF ONE ENTRY
none_kept : {X : Type 0} (test : X → Bool) (xs : List X) → ((j : ℕ) (y : X) → slice_get xs j ≡ Some y → test y ≡ true → ⊥) → filter test xs ≡ []
none_kept test [] h = refl
none_kept test (x ∷ xs) h = by (test x) refl (none_kept test xs (λ j y a b. h (suc j) y a b)) where
  by : (b : Bool) → test x ≡ b → filter test xs ≡ [] → cond (test x) (x ∷ filter test xs) (filter test xs) ≡ []
  by true e i = absurd (h 0 x refl e)
  by false e i = ap (λ b. cond b (x ∷ filter test xs) (filter test xs)) e ∙ i

one_kept : {X : Type 0} (test : X → Bool) (xs : List X) (k : ℕ) (x : X) → slice_get xs k ≡ Some x → test x ≡ true
    → ((j : ℕ) (y : X) → slice_get xs j ≡ Some y → test y ≡ true → j ≡ k) → filter test xs ≡ x ∷ []
one_kept test [] k x h e u = absurd (cc h)
one_kept test (z ∷ zs) zero x h e u =
    let d : z ≡ x = cc h in
    let n = none_kept test zs (λ j y a b. let q = u (suc j) y a b in absurd (omega (arith, q))) in
    ap (λ b. cond b (z ∷ filter test zs) (filter test zs)) (ap test d ∙ e) ∙ ap (λ l. z ∷ l) n ∙ ap (λ w. w ∷ []) d
one_kept test (z ∷ zs) (suc k) x h e u = by (test z) refl (one_kept test zs k x h e (λ j y a b. let q = u (suc j) y a b in omega (arith, q))) where
  by : (b : Bool) → test z ≡ b → filter test zs ≡ x ∷ [] → cond (test z) (z ∷ filter test zs) (filter test zs) ≡ x ∷ []
  by true d i = let q = u 0 z refl d in absurd (omega (arith, q))
  by false d i = ap (λ b. cond b (z ∷ filter test zs) (filter test zs)) d ∙ i

pub section_one : (c : Context) (section : Section) (s : Symbol) (entries : List Entry) (next id : ℕ) → IsTable c entries next → Has entries s id
    → order (section_of c s) ≡ order section → ((u : Symbol) → order (section_of c u) ≡ order section → u ≡ s)
    → section_code c section entries ≡ instr_of c entries (entry s id) ∷ []
section_one c section s entries next id t h d u =
    ap (map (instr_of c entries)) (one_kept (in_section c section) entries h.0 (entry s id) h.1 (eq-eqb (order (section_of c s)) (order section) d)
    (λ j y a b. let e = ⊎_elim (λ q. q.1) (λ q. absurd (cc (b, q.0))) (eqb_tells (order (section_of c y.symbol)) (order section)) in
    t.single j h.0 y (entry s id) a h.1 (u y.symbol e)))

-- TESTS that instructions of the front fail
abbrev Fails : (Instr → Bool) → List Instr → Type 0
Fails test code = find test code ≡ None

code_fails : (c : Context) (entries es : List Entry) (test : Instr → Bool) → ((e : Entry) → Among es e → test (instr_of c entries e) ≡ false)
    → Fails test (code_of c entries es)
code_fails c entries [] test h = refl
code_fails c entries (e ∷ es) test h =
    ap (λ b. cond b (Some (instr_of c entries e)) (find test (code_of c entries es))) (h e (inl refl)) ∙ code_fails c entries es test
    (λ f i. h f (inr i))

and_false : (b d : Bool) → b ≡ false → (b && d) ≡ false
and_false true d e = absurd (cc e)
and_false false d e = refl

marks_fail : (f own : ℕ) (marks : Marks) → Fails (is_function f) (decorations_by own marks)
marks_fail f own Nothing = refl
marks_fail f own (Stride bytes) = refl
marks_fail f own (Block Plain) = refl
marks_fail f own (Block ReadOnly) = refl
marks_fail f own (Block Coherent) = refl
marks_fail f own (Bound set binding) = refl
marks_fail f own (BuiltIn built_in) = refl

decorations_fail : (f : ℕ) (c : Context) (es : List Entry) → Fails (is_function f) (decorations_of c es)
decorations_fail f c [] = refl
decorations_fail f c (e ∷ es) =
    find_append (is_function f) (decorations_for c e.symbol e.id) (decorations_of c es) (marks_fail f e.id (row_of c e.symbol).marks)
    (decorations_fail f c es)

module _ (c : Context) (kind : Kind) (entries : List Entry) (next : ℕ) (t : IsTable c entries next) (cs : List Numbered) (so : Sorts entries cs)
    (main : ℕ) (m : Has entries Main main) (body : List Instr) where
  not_main : (f : ℕ) (e : Entry) → (order (section_of c e.symbol) ≡ 4 → ⊥) → is_function f (instr_of c entries e) ≡ false
  not_main f e d =
      and_false (is_op OpFunction (instr_of c entries e)) (nat_eq (slice_index (instr_of c entries e).operands 1) f)
      (no_function c (id_of entries) e.symbol e.id (λ q. d (ap (λ s. order (section_of c s)) q)))

  section_fails : (f : ℕ) (section : Section) → (order section ≡ 4 → ⊥) → Fails (is_function f) (section_code c section entries)
  section_fails f section d = code_fails c entries (part_of c section entries) (is_function f) (λ e h. not_main f e (λ q.
      let r = among_filter (in_section c section) entries e h in
      d (sym (⊎_elim (λ y. y.1) (λ y. absurd (cc (r.1, y.0))) (eqb_tells (order (section_of c e.symbol)) (order section))) ∙ q)))

  constants_fail : (f : ℕ) → Fails (is_function f) (code_of c entries (map entry_for cs))
  constants_fail f = code_fails c entries (map entry_for cs) (is_function f) (λ e h. not_main f e (λ q.
      let r = constant_there c entries next t cs so e h in
      absurd (omega (arith, q, r.1))))

  pub front_fails : (f : ℕ) → Fails (is_function f) (front c kind entries cs)
  front_fails f =
      find_append (is_function f) (section_code c Imports entries) (models kind entries ++ (decorations_of c entries ++ declarations c entries cs))
      (section_fails f Imports (λ q. omega (arith, q)))
      (find_append (is_function f) (models kind entries) (decorations_of c entries ++ declarations c entries cs) refl
      (find_append (is_function f) (decorations_of c entries) (declarations c entries cs) (decorations_fail f c entries)
      (find_append (is_function f) (section_code c Types entries) (code_of c entries (map entry_for cs) ++ section_code c Declarations entries)
      (section_fails f Types (λ q. omega (arith, q)))
      (find_append (is_function f) (code_of c entries (map entry_for cs)) (section_code c Declarations entries) (constants_fail f)
      (section_fails f Declarations (λ q. omega (arith, q)))))))

  pub heads : section_code c Heads entries ≡ instr_of c entries (entry Main main) ∷ []
  heads = section_one c Heads Main entries next main t m refl (is_head c)

  imports_fail : Fails (is_op OpEntryPoint) (section_code c Imports entries)
  imports_fail = code_fails c entries (part_of c Imports entries) (is_op OpEntryPoint) (λ e h. no_entry c (id_of entries) e.symbol e.id)

  abbrev behind_imports : List Instr
  behind_imports = (models kind entries ++ (decorations_of c entries ++ declarations c entries cs)) ++ function c entries body

  pub entry_is : entry_function (module_code c kind entries cs body) ≡ Some (id_of entries Main)
  entry_is =
      ap (λ code. option_and_then (λ (i : Instr). slice_get i.operands 1) (find (is_op OpEntryPoint) code))
      (append_assoc (section_code c Imports entries) (models kind entries ++ (decorations_of c entries ++ declarations c entries cs))
      (function c entries body))
      ∙ ap (option_and_then (λ (i : Instr). slice_get i.operands 1)) (find_skip (is_op OpEntryPoint) (section_code c Imports entries) behind_imports
      imports_fail)

  pub is_main : is_function (id_of entries Main) (instr_of c entries (entry Main main)) ≡ true
  is_main = eq-eqb main (id_of entries Main) (sym (found_id c entries next Main main t m))

  pub function_head : function c entries body
      ≡ instr_of c entries (entry Main main) ∷
      (section_code c Labels entries ++ (section_code c Locals entries ++ (body ++ instruction OpFunctionEnd [] ∷ [])))
  function_head = ap (λ l. l ++ (section_code c Labels entries ++ (section_code c Locals entries ++ (body ++ instruction OpFunctionEnd [] ∷ []))))
      heads

  -- all instructions in front of the function
  pub declared_is : declared (module_code c kind entries cs body) ≡ front c kind entries cs
  declared_is =
      ap (λ o. in_front_of (is_entry o) (module_code c kind entries cs body)) entry_is
      ∙ (ap (λ l. in_front_of (is_function (id_of entries Main)) (front c kind entries cs ++ l)) function_head
      ∙ front_of (is_function (id_of entries Main)) (front c kind entries cs)
      (section_code c Labels entries ++ (section_code c Locals entries ++ (body ++ instruction OpFunctionEnd [] ∷ [])))
      (instr_of c entries (entry Main main)) (front_fails (id_of entries Main)) is_main)
