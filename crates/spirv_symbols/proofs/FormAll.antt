-- What holds of each instruction of a module holds of all: sorts, and what the body's instructions are to types.
use Rattle.std.proofs.Common.{◌≡◌, ℕ, ◌<◌, inl, inr, Bool, true, List, [], ◌∷◌, ◌++◌, map, refl, arith}
use Rattle.std.specs.List.{list_all}
use Rattle.std.proofs.lemmas.Bool.{and_from, and_parts}
use Rattle.spirv_words.specs.Operations.{OpCapability, OpFunctionEnd}
use Rattle.spirv_words.specs.Text.{Instr, instruction}
use Rattle.spirv_words.specs.Operands.{is_sorted}
use Rattle.spirv_words.specs.Definitions.{has_sorts}
use Rattle.spirv_symbols.specs.declared.symbol.Access.TheVariants.{Plain, ReadOnly, Coherent}
use Rattle.spirv_symbols.specs.declared.symbol.Section.{Section}
use Rattle.spirv_symbols.specs.declared.symbol.Section.TheVariants.{Imports, Types, Declarations, Heads, Labels, Locals}
use Rattle.spirv_symbols.specs.declared.symbol.Symbol.{Symbol}
use Rattle.spirv_symbols.specs.declared.row.Marks.{Marks}
use Rattle.spirv_symbols.specs.declared.row.Marks.TheVariants.{Nothing, Stride, Block, Bound, BuiltIn}
use Rattle.spirv_symbols.specs.declared.numbered.Numbered.{Numbered}
use Rattle.spirv_symbols.specs.Contexts.{Context}
use Rattle.spirv_symbols.specs.Rows.{row_of, needs, decorations_by, decorations_for}
use Rattle.spirv_symbols.specs.Tables.{Table, Entry, AreThere, instr_of}
use Rattle.spirv_symbols.specs.Sections.{in_section, part_of, code_of, section_code, decorations_of}
use Rattle.spirv_symbols.specs.Orders.{Among, entry_for}
use Rattle.spirv_symbols.specs.Modules.{Kind, IsReady, IsBody, models, declarations, front, function, module_code}
use Rattle.spirv_symbols.proofs.Members.{among_filter, among_get}
use Rattle.spirv_symbols.proofs.Lookups.{constant_there}
use Rattle.spirv_symbols.proofs.SymbolSorts.{is_right}
use Rattle.spirv_symbols.proofs.StartsWhole.{defines}

pub all_append : (p : Instr → Bool) (a b : List Instr) → list_all p a ≡ true → list_all p b ≡ true → list_all p (a ++ b) ≡ true
all_append p [] b h k = k
all_append p (i ∷ a) b h k = let q = and_parts (p i) (list_all p a) h in and_from (p i) (list_all p (a ++ b)) q.0 (all_append p a b q.1 k)

-- A test of all instructions of a module: of the fixed ones, of decorations, of the instructions of symbols, and of the body.
pub record Passes (c : Context) (entries : List Entry) (kind : Kind) (p : Instr → Bool) : Type 0 where
  pub capability : p (instruction OpCapability (1 ∷ [])) ≡ true
  pub models' : list_all p (models kind entries) ≡ true
  pub marks : (e : Entry) → Among entries e → list_all p (decorations_for c e.symbol e.id) ≡ true
  pub symbols : (e : Entry) → Among entries e → p (instr_of c entries e) ≡ true
  pub closing : p (instruction OpFunctionEnd []) ≡ true

module _ (c : Context) (kind : Kind) (t : Table) (cs : List Numbered) (r : IsReady c t cs) (p : Instr → Bool) (q : Passes c t.entries kind p) where
  abbrev es : List Entry
  es = t.entries

  code_passes : (fs : List Entry) → ((e : Entry) → Among fs e → Among es e) → list_all p (code_of c es fs) ≡ true
  code_passes [] h = refl
  code_passes (f ∷ fs) h = and_from (p (instr_of c es f)) (list_all p (code_of c es fs)) (q.symbols f (h f (inl refl)))
      (code_passes fs (λ e i. h e (inr i)))

  pub section_passes : (section : Section) → list_all p (section_code c section es) ≡ true
  section_passes section = code_passes (part_of c section es) (λ e i. (among_filter (in_section c section) es e i).0)

  pub constants_pass : list_all p (code_of c es (map entry_for cs)) ≡ true
  constants_pass = code_passes (map entry_for cs) (λ e i. (constant_there c es t.next r.stands.table cs r.sorted e i).0)

  decorations_pass : (fs : List Entry) → ((e : Entry) → Among fs e → Among es e) → list_all p (decorations_of c fs) ≡ true
  decorations_pass [] h = refl
  decorations_pass (f ∷ fs) h =
      all_append p (decorations_for c f.symbol f.id) (decorations_of c fs) (q.marks f (h f (inl refl))) (decorations_pass fs (λ e i. h e (inr i)))

  pub front_passes : list_all p (front c kind es cs) ≡ true
  front_passes =
      and_from (p (instruction OpCapability (1 ∷ []))) _ q.capability
      (all_append p (section_code c Imports es) (models kind es ++ (decorations_of c es ++ declarations c es cs)) (section_passes Imports)
      (all_append p (models kind es) (decorations_of c es ++ declarations c es cs) q.models'
      (all_append p (decorations_of c es) (declarations c es cs) (decorations_pass es (λ e i. i))
      (all_append p (section_code c Types es) (code_of c es (map entry_for cs) ++ section_code c Declarations es) (section_passes Types)
      (all_append p (code_of c es (map entry_for cs)) (section_code c Declarations es) constants_pass (section_passes Declarations))))))

  pub whole_passes : (body : List Instr) → list_all p body ≡ true → list_all p (module_code c kind es cs body) ≡ true
  whole_passes body b =
      all_append p (front c kind es cs) (function c es body) front_passes
      (all_append p (section_code c Heads es) (section_code c Labels es ++ (section_code c Locals es ++ (body ++ instruction OpFunctionEnd [] ∷ [])))
      (section_passes Heads)
      (all_append p (section_code c Labels es) (section_code c Locals es ++ (body ++ instruction OpFunctionEnd [] ∷ [])) (section_passes Labels)
      (all_append p (section_code c Locals es) (body ++ instruction OpFunctionEnd [] ∷ []) (section_passes Locals)
      (all_append p body (instruction OpFunctionEnd [] ∷ []) b (and_from (p (instruction OpFunctionEnd [])) true q.closing refl)))))

-- SORTS
marks_sorted : (code : List Instr) (own : ℕ) (marks : Marks) → list_all (is_sorted code) (decorations_by own marks) ≡ true
marks_sorted code own Nothing = refl
marks_sorted code own (Stride bytes) = refl
marks_sorted code own (Block Plain) = refl
marks_sorted code own (Block ReadOnly) = refl
marks_sorted code own (Block Coherent) = refl
marks_sorted code own (Bound set binding) = refl
marks_sorted code own (BuiltIn built_in) = refl

below_next : (entries : List Entry) (next : ℕ) (ss : List Symbol) (n : ℕ) → n < next → AreThere entries ss n → AreThere entries ss next
below_next entries next [] n lt h = tt
below_next entries next (s ∷ ss) n lt h = ((h.0.0, h.0.1, omega (arith, lt, h.0.2)), below_next entries next ss n lt h.1)

pub sorts_hold : (c : Context) (kind : Kind) (t : Table) (cs : List Numbered) (body : List Instr) → IsReady c t cs → IsBody body
    → list_all (is_sorted (module_code c kind t.entries cs body)) body ≡ true → has_sorts (module_code c kind t.entries cs body) ≡ true
sorts_hold c kind t cs body r b h =
    let code = module_code c kind t.entries cs body in
    whole_passes c kind t cs r (is_sorted code)
    (record {
      capability = refl;
      models' = refl;
      marks = λ e i. marks_sorted code e.id (row_of c e.symbol).marks;
      symbols = λ e i.
          let g = among_get t.entries e i in
          is_right c t.entries t.next r.stands.table code (defines c kind t cs r body b) e.symbol e.id
          (below_next t.entries t.next (needs c e.symbol) e.id (r.stands.table.below g.0 e g.1) (r.stands.table.founded g.0 e g.1));
      closing = refl;
    }) body h
