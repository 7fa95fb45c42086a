-- The code of a function's blocks does its part for the form of its module, by what is proved of the symbols of tables.
use Rattle.std.proofs.Common.{◌≡◌, ℕ, ◌<◌, ◌≤◌, List, [], ◌∷◌, ◌++◌, true, refl, sym, subst}
use Rattle.std.specs.Prelude.{◌&&◌, IsTrue}
use Rattle.std.specs.List.{list_all}
use Rattle.std.proofs.lemmas.Bool.{and_parts}
use Rattle.spirv_words.specs.Definitions.{results, are_distinct, is_id, uses_follow, names_are_among, has_single_definitions, has_local_results}
use Rattle.spirv_words.specs.Operands.{is_sorted}
use Rattle.spirv_words.specs.Sorts.{sort_of}
use Rattle.spirv_words.specs.Text.{Instr}
use Rattle.spirv_symbols.specs.declared.numbered.Numbered.{Numbered}
use Rattle.spirv_symbols.specs.declared.symbol.Symbol.{Symbol}
use Rattle.spirv_symbols.specs.declared.symbol.Symbol.TheVariants.{AType}
use Rattle.spirv_symbols.specs.declared.symbol.TypeSymbol.{TypeSymbol}
use Rattle.spirv_symbols.specs.Contexts.{Context}
use Rattle.spirv_symbols.specs.Rows.{needs}
use Rattle.spirv_symbols.specs.Tables.{Table, Has, AreThere, id_of}
use Rattle.spirv_symbols.specs.Sorted.{Defines, id_of_type, sort_for}
use Rattle.spirv_symbols.specs.Modules.{Kind, IsReady, IsBody, HasIds, module_code}
use Rattle.spirv_flow.specs.Formed.{KeepsForm}
use Rattle.spirv_flow.specs.Fronts.{IsStructured}
use Rattle.spirv_flow.specs.Layout.{Layout, leave, code_of}
use Rattle.spirv_flow.proofs.Whole.{structured}
use Rattle.spirv_flow.proofs.FormGlobals.{typed_symbols, are_right}
use Rattle.spirv_flow.proofs.FormModule.{before, ending, parted, as_whole, is_front', local_results_hold}
use Rattle.spirv_flow.proofs.FormParts.{IsWritten, with_leave, stands_in_body, are_instructions, have_variables, has_ids, are_sorted}
use Rattle.spirv_flow.proofs.FormSorted.{Reads}

-- what is proved of tables and modules
pub record IsModule (c : Context) (kind : Kind) (t : Table) (cs : List Numbered) (bound : ℕ) : Type 0 where
  pub defines : (body : List Instr) → IsBody body → Defines c t.entries (module_code c kind t.entries cs body)
  pub sorts : (code : List Instr) (y : TypeSymbol) (x : ℕ) → Defines c t.entries code → Has t.entries (AType y) x
      → sort_of code x ≡ sort_for (id_of_type t.entries) y
  pub founded : (s : Symbol) (x : ℕ) → Has t.entries s x → AreThere t.entries (needs c s) x
  pub found : (s : Symbol) (x : ℕ) → Has t.entries s x → id_of t.entries s ≡ x
  pub apart : (s u : Symbol) (x : ℕ) → Has t.entries s x → Has t.entries u x → s ≡ u
  pub single : (body : List Instr) → HasIds t bound body → IsTrue (has_single_definitions bound (module_code c kind t.entries cs body))

-- a body that only leaves
pub leaves_ids : (t : Table) (bound : ℕ) → t.next ≤ bound → HasIds t bound (leave ∷ [])
leaves_ids t bound next = record {
  distinct = refl;
  bounds = refl;
  fresh = λ s x h. refl;
  uses = λ seen f. refl;
  names = λ xs f g. refl;
  next = next;
}

pub reads : (c : Context) (kind : Kind) (t : Table) (cs : List Numbered) (bound : ℕ) (laws : IsModule c kind t cs bound) (body : List Instr)
    → IsBody body → Reads c t.entries (module_code c kind t.entries cs body)
reads c kind t cs bound laws body b = record {
  defines = laws.defines body b;
  sorts = λ y x h. laws.sorts (module_code c kind t.entries cs body) y x (laws.defines body b) h;
  founded = laws.founded;
  found = laws.found;
  apart = laws.apart;
}

pub are_distinct_ids : (bound : ℕ) (code : List Instr) → IsTrue (has_single_definitions bound code) → are_distinct (results code) ≡ true
are_distinct_ids bound code h =
    let p = and_parts (are_distinct (results code) && list_all (is_id bound) (results code)) (uses_follow [] code && names_are_among (results code) code) h in
    (and_parts (are_distinct (results code)) (list_all (is_id bound) (results code)) p.0).0

module _ (c : Context) (kind : Kind) (t : Table) (cs : List Numbered) (bound : ℕ) (laws : IsModule c kind t cs bound) (ready : IsReady c t cs)
    (low high : ℕ) (x : Layout) (w : IsWritten t.entries low high (typed_symbols c (id_of_type t.entries) t.entries) x) (some : 0 < low)
    (le : high ≤ bound) (next : t.next ≤ bound) where
  abbrev body : List Instr
  body = with_leave (code_of x 0 0)

  abbrev code : List Instr
  code = module_code c kind t.entries cs body

  abbrev split : List Instr
  split = before c kind t cs ready ++ (body ++ ending)

  is_split : code ≡ split
  is_split = parted c kind t cs ready body

  in_function : IsBody body
  in_function = stands_in_body t.entries low high (typed_symbols c (id_of_type t.entries) t.entries) x w

  ids : HasIds t bound body
  ids = has_ids t.entries low high (typed_symbols c (id_of_type t.entries) t.entries) x w t bound refl some le next

  distinct : are_distinct (results code) ≡ true
  distinct = are_distinct_ids bound code (laws.single body ids)

  read_split : Reads c t.entries split
  read_split = subst (λ l. Reads c t.entries l) is_split (reads c kind t cs bound laws body in_function)

  distinct_split : are_distinct (results split) ≡ true
  distinct_split = subst (λ l. are_distinct (results l) ≡ true) is_split distinct

  sorts : IsTrue (list_all (is_sorted code) body)
  sorts =
      subst (λ l. IsTrue (list_all (is_sorted l) body)) (sym is_split)
      (are_sorted t.entries low high (typed_symbols c (id_of_type t.entries) t.entries) x w c (before c kind t cs ready) ending read_split
      (are_right c t.entries split read_split) distinct_split)

  alone : (b : List Instr) → b ≡ leave ∷ [] → IsTrue (has_single_definitions bound (module_code c kind t.entries cs b))
  alone b e = subst (λ l. IsTrue (has_single_definitions bound (module_code c kind t.entries cs l))) (sym e) (laws.single (leave ∷ []) (leaves_ids t bound next))

  local_results : IsTrue (has_local_results code)
  local_results =
      subst (λ l. IsTrue (has_local_results l)) (sym is_split)
      (local_results_hold c kind t cs ready bound alone low high (typed_symbols c (id_of_type t.entries) t.entries) x w distinct_split)

  structured' : IsStructured code
  structured' =
      let same = as_whole c kind t cs ready x in
      subst IsStructured (sym same)
      (structured (before c kind t cs ready) x (is_front' c kind t cs ready) w.placed (subst (λ l. are_distinct (results l) ≡ true) same distinct))

  pub keeps : KeepsForm c kind t cs bound body
  keeps = record {
    in_function = in_function;
    ids = ids;
    distinct = distinct;
    instructions = are_instructions t.entries low high (typed_symbols c (id_of_type t.entries) t.entries) x w;
    sorts = sorts;
    variables = have_variables t.entries low high (typed_symbols c (id_of_type t.entries) t.entries) x w code;
    local_results = local_results;
    structured = structured';
  }
