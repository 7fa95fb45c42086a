-- What stands in front of a function's blocks has no items.
use Rattle.std.proofs.Common.{◌≡◌, ℕ, inl, inr, List, [], ◌∷◌, ◌++◌, map, false, refl, ap, ◌∙◌}
use Rattle.std.specs.Prelude.{nat_eq}
use Rattle.std.specs.List.{list_any}
use Rattle.word_base.specs.declared.event.Room.TheVariants.{Resource, Uav, Counter, Shared}
use Rattle.shader_tree.specs.Walks.{Each}
use Rattle.spirv_words.specs.Blocks.{flow_of}
use Rattle.spirv_words.specs.Definitions.{results}
use Rattle.spirv_words.specs.Globals.{Places}
use Rattle.spirv_words.specs.Ids.{ids_of}
use Rattle.spirv_words.specs.Roles.{Flow}
use Rattle.spirv_words.specs.Text.{Instr}
use Rattle.spirv_symbols.specs.declared.entry.Entry.{Entry}
use Rattle.spirv_symbols.specs.declared.numbered.Numbered.{Numbered}
use Rattle.spirv_symbols.specs.declared.row.Marks.{Marks}
use Rattle.spirv_symbols.specs.declared.row.Marks.TheVariants.{Nothing, Stride, Block, Bound, BuiltIn}
use Rattle.spirv_symbols.specs.declared.symbol.Access.TheVariants.{Plain, ReadOnly, Coherent}
use Rattle.spirv_symbols.specs.declared.symbol.Section.TheVariants.{Imports, Types, Declarations, Heads, Labels, Locals}
use Rattle.spirv_symbols.specs.declared.symbol.Symbol.{Symbol}
use Rattle.spirv_symbols.specs.declared.symbol.Symbol.TheVariants.{AType, FirstLabel, Memory}
use Rattle.spirv_symbols.specs.declared.symbol.TypeSymbol.TheVariants.{Void}
use Rattle.spirv_symbols.specs.Contexts.{Context}
use Rattle.spirv_symbols.specs.Modules.{Kind, models, front}
use Rattle.spirv_symbols.specs.ModuleWords.{head}
use Rattle.spirv_symbols.specs.Orders.{entry_for}
use Rattle.spirv_symbols.specs.Rows.{instr_for, decorations_by, decorations_for}
use Rattle.spirv_symbols.specs.Sections.{code_of, part_of, section_code, decorations_of}
use Rattle.spirv_symbols.specs.Tables.{id_of}
use Rattle.spirv_emit.specs.Code.{In}
use Rattle.spirv_emit.specs.ModuleShape.{merge_by, flow_at, merges_of, marks_of, shape_of}
use Rattle.spirv_flow.specs.Shapes.{HasNoItems}
use Rattle.spirv_flow.proofs.Composing.{in_right}
use Rattle.spirv_flow.proofs.Shapes.{behind_quiet}

-- an instruction that names no merge block and has no item, unless it is a label that ends a loop or switch
abbrev IsSilent : Instr → Type 0
IsSilent i =
    ((next : Flow) → merge_by (flow_of i) next ≡ [])
    × ((code : List Instr) (places : Places) → ((l : ℕ) → In (ids_of i).results l → list_any (nat_eq l) (merges_of code) ≡ false)
    → marks_of code places i ≡ [])

in_left : (xs ys : List ℕ) (x : ℕ) → In xs x → In (xs ++ ys) x
in_left [] ys x h = absurd h
in_left (y ∷ xs) ys x (inl e) = inl e
in_left (y ∷ xs) ys x (inr h) = inr (in_left xs ys x h)

silent_merges : (is rest : List Instr) → Each IsSilent is → merges_of (is ++ rest) ≡ merges_of rest
silent_merges [] rest h = refl
silent_merges (i ∷ is) rest h = behind_none (h.0.0 (flow_at (is ++ rest))) (silent_merges is rest h.1) where
  behind_none : {a b c : List ℕ} → a ≡ [] → b ≡ c → a ++ b ≡ c
  behind_none {a} {b} {c} e f = ap (λ l. l ++ b) e ∙ f

silent_shape : (is code : List Instr) (places : Places) → Each IsSilent is
    → ((l : ℕ) → In (results is) l → list_any (nat_eq l) (merges_of code) ≡ false) → shape_of code places is ≡ []
silent_shape [] code places h f = refl
silent_shape (i ∷ is) code places h f =
    behind_quiet (marks_of code places i) (shape_of code places is) []
    (h.0.1 code places (λ l k. f l (in_left (ids_of i).results (results is) l k)))
    (silent_shape is code places h.1 (λ l k. f l (in_right (ids_of i).results (results is) l k)))

-- THE INSTRUCTIONS of symbols, and their decorations.
symbol_silent : (c : Context) (ids : Symbol → ℕ) (s : Symbol) (own : ℕ) → IsSilent (instr_for c ids s own)
symbol_silent c ids FirstLabel own = (λ next. refl, λ code places f. let e = f own (inl refl) in rw e refl)
symbol_silent c ids (AType Void) own = (λ next. refl, λ code places f. refl)
symbol_silent c ids (AType t) own = (λ next. refl, λ code places f. refl)
symbol_silent c ids (Memory (Shared slot)) own = (λ next. refl, λ code places f. refl)
symbol_silent c ids (Memory (Resource slot)) own = (λ next. refl, λ code places f. refl)
symbol_silent c ids (Memory (Uav slot)) own = (λ next. refl, λ code places f. refl)
symbol_silent c ids (Memory (Counter slot)) own = (λ next. refl, λ code places f. refl)
symbol_silent c ids s own = (λ next. refl, λ code places f. refl)

marks_silent : (own : ℕ) (marks : Marks) → Each IsSilent (decorations_by own marks)
marks_silent own Nothing = tt
marks_silent own (Stride bytes) = ((λ next. refl, λ code places f. refl), tt)
marks_silent own (Block Plain) = ((λ next. refl, λ code places f. refl), ((λ next. refl, λ code places f. refl), tt))
marks_silent own (Block ReadOnly) =
    ((λ next. refl, λ code places f. refl), ((λ next. refl, λ code places f. refl), ((λ next. refl, λ code places f. refl), tt)))
marks_silent own (Block Coherent) =
    ((λ next. refl, λ code places f. refl), ((λ next. refl, λ code places f. refl), ((λ next. refl, λ code places f. refl), tt)))
marks_silent own (Bound set binding) = ((λ next. refl, λ code places f. refl), ((λ next. refl, λ code places f. refl), tt))
marks_silent own (BuiltIn built_in) = ((λ next. refl, λ code places f. refl), tt)

-- THE SECTIONS
both : (xs ys : List Instr) → Each IsSilent xs → Each IsSilent ys → Each IsSilent (xs ++ ys)
both [] ys a b = b
both (x ∷ xs) ys a b = (a.0, both xs ys a.1 b)

part_silent : (c : Context) (entries part : List Entry) → Each IsSilent (code_of c entries part)
part_silent c entries [] = tt
part_silent c entries (e ∷ es) = (symbol_silent c (id_of entries) e.symbol e.id, part_silent c entries es)

decorations_silent : (c : Context) (entries : List Entry) → Each IsSilent (decorations_of c entries)
decorations_silent c [] = tt
decorations_silent c (e ∷ es) =
    both (decorations_for c e.symbol e.id) (decorations_of c es) (marks_silent e.id _) (decorations_silent c es)

module _ (c : Context) (kind : Kind) (es : List Entry) (cs : List Numbered) where
  models_silent : Each IsSilent (models kind es)
  models_silent =
      ((λ next. refl, λ code places f. refl), ((λ next. refl, λ code places f. refl), ((λ next. refl, λ code places f. refl), tt)))

  front_silent : Each IsSilent (front c kind es cs)
  front_silent = (
    (λ next. refl, λ code places f. refl),
    both (section_code c Imports es) _ (part_silent c es (part_of c Imports es))
        (both (models kind es) _ models_silent
        (both (decorations_of c es) _ (decorations_silent c es)
        (both (section_code c Types es) _ (part_silent c es (part_of c Types es))
        (both (code_of c es (map entry_for cs)) _ (part_silent c es (map entry_for cs))
        (part_silent c es (part_of c Declarations es)))))),
  )

  head_silent : Each IsSilent (head c es)
  head_silent =
      both (section_code c Heads es) _ (part_silent c es (part_of c Heads es))
      (both (section_code c Labels es) _ (part_silent c es (part_of c Labels es)) (part_silent c es (part_of c Locals es)))

  pub front_has_none : HasNoItems (front c kind es cs ++ head c es)
  front_has_none =
      let all = both (front c kind es cs) (head c es) front_silent head_silent in
      record {
        merges = λ rest. silent_merges (front c kind es cs ++ head c es) rest all;
        shows = λ code places f. silent_shape (front c kind es cs ++ head c es) code places all f;
      }
