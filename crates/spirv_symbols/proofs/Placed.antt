-- Where a module defines the ids of symbols.
use Rattle.std.proofs.Common.{◌≡◌, ℕ, ◌<◌, Bool, true, false, List, [], ◌∷◌, ◌++◌, map, Some, None, refl, sym, ◌∙◌, arith}
use Rattle.std.specs.Prelude.{◌≢◌, Option}
use Rattle.spirv_words.specs.Operations.{OpFunctionEnd}
use Rattle.spirv_words.specs.Text.{Instr, instruction}
use Rattle.spirv_words.specs.Ids.{ids_of, contains, definition}
use Rattle.spirv_symbols.specs.declared.symbol.Access.TheVariants.{Plain, ReadOnly, Coherent}
use Rattle.spirv_symbols.specs.declared.symbol.Section.{Section}
use Rattle.spirv_symbols.specs.declared.symbol.Section.TheVariants.{Imports, Types, Constants, Declarations, Heads, Labels, Locals}
use Rattle.spirv_symbols.specs.declared.row.Marks.{Marks}
use Rattle.spirv_symbols.specs.declared.row.Marks.TheVariants.{Nothing, Stride, Block, Bound, BuiltIn}
use Rattle.spirv_symbols.specs.declared.numbered.Numbered.{Numbered}
use Rattle.spirv_symbols.specs.Contexts.{Context}
use Rattle.spirv_symbols.specs.Rows.{row_of, section_of, decorations_by, decorations_for}
use Rattle.spirv_symbols.specs.Tables.{Entry, IsTable, instr_of}
use Rattle.spirv_symbols.specs.Sections.{order, code_of, section_code, decorations_of}
use Rattle.spirv_symbols.specs.Orders.{Among, Sorts, entry_for}
use Rattle.spirv_symbols.specs.Sorted.{is_front}
use Rattle.spirv_symbols.specs.Modules.{Kind, models, declarations, front, function, module_code}
use Rattle.spirv_symbols.proofs.Lookups.{find_stop, find_skip, find_append, here, elsewhere, constant_here, constant_elsewhere}

-- what defines nothing
marks_silent : (own x : ℕ) (marks : Marks) → definition (decorations_by own marks) x ≡ None
marks_silent own x Nothing = refl
marks_silent own x (Stride bytes) = refl
marks_silent own x (Block Plain) = refl
marks_silent own x (Block ReadOnly) = refl
marks_silent own x (Block Coherent) = refl
marks_silent own x (Bound set binding) = refl
marks_silent own x (BuiltIn built_in) = refl

abbrev defines : ℕ → Instr → Bool
defines x i = contains (ids_of i).results x

pub decorations_silent : (c : Context) (es : List Entry) (x : ℕ) → definition (decorations_of c es) x ≡ None
decorations_silent c [] x = refl
decorations_silent c (e ∷ es) x =
    find_append (defines x) (decorations_for c e.symbol e.id) (decorations_of c es) (marks_silent e.id x (row_of c e.symbol).marks)
    (decorations_silent c es x)

pub models_silent : (kind : Kind) (entries : List Entry) (x : ℕ) → definition (models kind entries) x ≡ None
models_silent kind entries x = refl

-- one part behind the other
stop : (a b : List Instr) (x : ℕ) (i : Instr) → definition a x ≡ Some i → definition (a ++ b) x ≡ Some i
stop a b x i h = find_stop (defines x) a b i h

skip : (a b : List Instr) (x : ℕ) → definition a x ≡ None → definition (a ++ b) x ≡ definition b x
skip a b x h = find_skip (defines x) a b h

both : (a b : List Instr) (x : ℕ) → definition a x ≡ None → definition b x ≡ None → definition (a ++ b) x ≡ None
both a b x h k = find_append (defines x) a b h k

module _ (c : Context) (kind : Kind) (entries : List Entry) (next : ℕ) (t : IsTable c entries next) (cs : List Numbered) (so : Sorts entries cs) where
  module _ (e : Entry) (h : Among entries e) where
    abbrev at : ℕ
    at = order (section_of c e.symbol)

    abbrev it : Instr
    it = instr_of c entries e

    abbrev part : Section → List Instr
    part section = section_code c section entries

    abbrev constants : List Instr
    constants = code_of c entries (map entry_for cs)

    out : (section : Section) (n : ℕ) → at ≡ n → (n ≡ order section → ⊥) → definition (part section) e.id ≡ None
    out section n d q = elsewhere c entries next t section e h (λ i. q (sym d ∙ i))

    no_constant : (n : ℕ) → at ≡ n → (n ≡ 2 → ⊥) → definition constants e.id ≡ None
    no_constant n d q = constant_elsewhere c entries next t cs so e h (λ i. q (sym d ∙ i))

    inside : (section : Section) → at ≡ order section → definition (part section) e.id ≡ Some it
    inside section d = here c entries next t section e h d

    declared_here : (section : Section) → at ≡ order section → is_front section ≡ true → at ≢ 0 → definition (declarations c entries cs) e.id ≡ Some
        it
    declared_here Imports d f q = absurd (q d)
    declared_here Types d f q = stop (part Types) (constants ++ part Declarations) e.id it (inside Types d)
    declared_here Constants d f q =
        skip (part Types) (constants ++ part Declarations) e.id (out Types 2 d (λ z. omega (arith, z)))
        ∙ stop constants (part Declarations) e.id it (constant_here c entries next t cs so e h d)
    declared_here Declarations d f q =
        skip (part Types) (constants ++ part Declarations) e.id (out Types 3 d (λ z. omega (arith, z)))
        ∙ (skip constants (part Declarations) e.id (no_constant 3 d (λ z. omega (arith, z))) ∙ inside Declarations d)
    declared_here Heads d f q = absurd (cc f)
    declared_here Labels d f q = absurd (cc f)
    declared_here Locals d f q = absurd (cc f)

    past_front : (i : Option Instr) → definition (part Imports) e.id ≡ None → definition (declarations c entries cs) e.id ≡ i
        → definition (front c kind entries cs) e.id ≡ i
    past_front i n d =
        skip (part Imports) (models kind entries ++ (decorations_of c entries ++ declarations c entries cs)) e.id n
        ∙ (skip (models kind entries) (decorations_of c entries ++ declarations c entries cs) e.id (models_silent kind entries e.id)
        ∙ (skip (decorations_of c entries) (declarations c entries cs) e.id (decorations_silent c entries e.id) ∙ d))

    front_by : (section : Section) → at ≡ order section → is_front section ≡ true → definition (front c kind entries cs) e.id ≡ Some it
    front_by Imports d f = stop (part Imports) (models kind entries ++ (decorations_of c entries ++ declarations c entries cs)) e.id it
        (inside Imports d)
    front_by Types d f = past_front (Some it) (out Imports 1 d (λ z. omega (arith, z))) (declared_here Types d f (λ z. omega (arith, d, z)))
    front_by Constants d f = past_front (Some it) (out Imports 2 d (λ z. omega (arith, z))) (declared_here Constants d f (λ z. omega (arith, d, z)))
    front_by Declarations d f = past_front (Some it) (out Imports 3 d (λ z. omega (arith, z)))
        (declared_here Declarations d f (λ z. omega (arith, d, z)))
    front_by Heads d f = absurd (cc f)
    front_by Labels d f = absurd (cc f)
    front_by Locals d f = absurd (cc f)

    pub in_front : is_front (section_of c e.symbol) ≡ true → definition (front c kind entries cs) e.id ≡ Some it
    in_front f = front_by (section_of c e.symbol) refl f

    behind : (n : ℕ) → at ≡ n → 3 < n → definition (front c kind entries cs) e.id ≡ None
    behind n d lt =
        past_front None (out Imports n d (λ z. omega (arith, z, lt)))
        (both (part Types) (constants ++ part Declarations) e.id (out Types n d (λ z. omega (arith, z, lt)))
        (both constants (part Declarations) e.id (no_constant n d (λ z. omega (arith, z, lt))) (out Declarations n d (λ z. omega (arith, z, lt)))))

    module _ (body : List Instr) where
      abbrev rest : List Instr
      rest = body ++ instruction OpFunctionEnd [] ∷ []

      function_by : (section : Section) → at ≡ order section → is_front section ≡ false → definition (function c entries body) e.id ≡ Some it
      function_by Imports d f = absurd (cc f)
      function_by Types d f = absurd (cc f)
      function_by Constants d f = absurd (cc f)
      function_by Declarations d f = absurd (cc f)
      function_by Heads d f = stop (part Heads) (part Labels ++ (part Locals ++ rest)) e.id it (inside Heads d)
      function_by Labels d f =
          skip (part Heads) (part Labels ++ (part Locals ++ rest)) e.id (out Heads 5 d (λ z. omega (arith, z)))
          ∙ stop (part Labels) (part Locals ++ rest) e.id it (inside Labels d)
      function_by Locals d f =
          skip (part Heads) (part Labels ++ (part Locals ++ rest)) e.id (out Heads 6 d (λ z. omega (arith, z)))
          ∙ (skip (part Labels) (part Locals ++ rest) e.id (out Labels 6 d (λ z. omega (arith, z)))
          ∙ stop (part Locals) rest e.id it (inside Locals d))

      whole_by : (section : Section) → at ≡ order section → definition (module_code c kind entries cs body) e.id ≡ Some it
      whole_by Imports d = stop (front c kind entries cs) (function c entries body) e.id it (front_by Imports d refl)
      whole_by Types d = stop (front c kind entries cs) (function c entries body) e.id it (front_by Types d refl)
      whole_by Constants d = stop (front c kind entries cs) (function c entries body) e.id it (front_by Constants d refl)
      whole_by Declarations d = stop (front c kind entries cs) (function c entries body) e.id it (front_by Declarations d refl)
      whole_by Heads d = skip (front c kind entries cs) (function c entries body) e.id (behind 4 d (omega arith)) ∙ function_by Heads d refl
      whole_by Labels d = skip (front c kind entries cs) (function c entries body) e.id (behind 5 d (omega arith)) ∙ function_by Labels d refl
      whole_by Locals d = skip (front c kind entries cs) (function c entries body) e.id (behind 6 d (omega arith)) ∙ function_by Locals d refl

      -- each id is defined by its entry's instruction
      pub in_whole : definition (module_code c kind entries cs body) e.id ≡ Some it
      in_whole = whole_by (section_of c e.symbol) refl
