-- What a module has of its symbols, as callers ask for it.
use Rattle.std.proofs.Common.{◌≡◌, ℕ, true, false, List, [], ◌∷◌, Some, None, refl, ap, ◌∙◌}
use Rattle.std.specs.Prelude.{slice_get, ◌&&◌, nat_eq, cond, find, option_and_then}
use Rattle.std.proofs.lemmas.Bool.{eq-eqb}
use Rattle.spirv_words.specs.Decoration as decorations
use Rattle.spirv_words.specs.Operations.{OpDecorate, OpMemberDecorate}
use Rattle.spirv_words.specs.Text.{Instr, instruction}
use Rattle.spirv_words.specs.Sorts.{sort_of}
use Rattle.spirv_words.specs.Ids.{type_of}
use Rattle.spirv_words.specs.Globals.{decorates, decorates_member, decoration, member_decoration}
use Rattle.spirv_words.specs.Lane.{is_glsl, is_glsl_import}
use Rattle.spirv_symbols.specs.declared.symbol.Access.{Access}
use Rattle.spirv_symbols.specs.declared.symbol.Access.TheVariants.{Plain, ReadOnly, Coherent}
use Rattle.spirv_symbols.specs.declared.symbol.Symbol.{Symbol}
use Rattle.spirv_symbols.specs.declared.symbol.Symbol.TheVariants.{AType, Import}
use Rattle.spirv_symbols.specs.declared.symbol.TypeSymbol.{TypeSymbol}
use Rattle.spirv_symbols.specs.declared.row.Marks.TheVariants.{Stride, Block}
use Rattle.spirv_symbols.specs.declared.numbered.Numbered.{Numbered}
use Rattle.spirv_symbols.specs.Contexts.{Context}
use Rattle.spirv_symbols.specs.Rows.{row_of, decorations_by}
use Rattle.spirv_symbols.specs.Tables.{Table, Has, Stands}
use Rattle.spirv_symbols.specs.Sorted.{Defines, id_of_type, sort_for, value_type}
use Rattle.spirv_symbols.specs.Modules.{Kind, IsReady, IsBody, module_code}
use Rattle.spirv_symbols.proofs.DecorationLookups.{aims, aims_member}
use Rattle.spirv_symbols.proofs.SymbolSorts.{sort_here, type_here}
use Rattle.spirv_symbols.proofs.StartsWhole.{declares}

equals : (n : ℕ) → nat_eq n n ≡ true
equals n = eq-eqb n n refl

pub sorts : (c : Context) (t : Table) (code : List Instr) (y : TypeSymbol) (x : ℕ) → Stands c t → Defines c t.entries code → Has t.entries (AType y) x
    → sort_of code x ≡ sort_for (id_of_type t.entries) y
sorts c t code y x st d h = sort_here c t.entries t.next st.table code d y x h

pub types : (c : Context) (t : Table) (code : List Instr) (s : Symbol) (y : TypeSymbol) (x : ℕ) → Stands c t → Defines c t.entries code
    → Has t.entries s x
    → value_type c s ≡ Some y → type_of code x ≡ Some (id_of_type t.entries y)
types c t code s y x st d h e = type_here c t.entries t.next st.table code d s y x h e

pub imports : (c : Context) (t : Table) (code : List Instr) (x : ℕ) → Stands c t → Defines c t.entries code → Has t.entries Import x
    → is_glsl code x ≡ true
imports c t code x st d h = ap (is_glsl_import x) (d.whole Import x h) ∙ ap (λ b. b && true) (equals x)

-- DECORATIONS
stride_by : (x bytes : ℕ) → option_and_then (λ (i : Instr). slice_get i.operands 2)
    (find (decorates x decorations.ArrayStride) (decorations_by x (Stride bytes))) ≡ Some bytes
stride_by x bytes =
    ap (λ t. option_and_then (λ (i : Instr). slice_get i.operands 2) (cond (t && true) (Some (instruction OpDecorate (x ∷ 6 ∷ bytes ∷ []))) None))
    (equals x)

pub offset_by : (x : ℕ) (access : Access)
    → option_and_then (λ (i : Instr). slice_get i.operands 3) (find (decorates_member x 0 decorations.Offset) (decorations_by x (Block access))) ≡
    Some 0
offset_by x Plain =
    ap (λ t. option_and_then (λ (i : Instr). slice_get i.operands 3) (cond (t && true) (Some (instruction OpMemberDecorate (x ∷ 0 ∷ 35 ∷ 0 ∷ [])))
    None)) (equals x)
offset_by x ReadOnly =
    ap (λ t. option_and_then (λ (i : Instr). slice_get i.operands 3) (cond (t && true) (Some (instruction OpMemberDecorate (x ∷ 0 ∷ 35 ∷ 0 ∷ [])))
    (cond (t && false) (Some (instruction OpMemberDecorate (x ∷ 0 ∷ 24 ∷ []))) None))) (equals x)
offset_by x Coherent =
    ap (λ t. option_and_then (λ (i : Instr). slice_get i.operands 3) (cond (t && true) (Some (instruction OpMemberDecorate (x ∷ 0 ∷ 35 ∷ 0 ∷ [])))
    (cond (t && false) (Some (instruction OpMemberDecorate (x ∷ 0 ∷ 23 ∷ []))) None))) (equals x)

module _ (c : Context) (kind : Kind) (t : Table) (cs : List Numbered) (body : List Instr) (s : Symbol) (x : ℕ) (r : IsReady c t cs) (b : IsBody body)
    (h : Has t.entries s x) where
  pub strides : (bytes : ℕ) → (row_of c s).marks ≡ Stride bytes → decoration (module_code c kind t.entries cs body) x decorations.ArrayStride ≡ Some
      bytes
  strides bytes e =
      ap (option_and_then (λ (i : Instr). slice_get i.operands 2))
      ((declares c kind t cs r body b).decorated s x (decorates x decorations.ArrayStride) h (aims x decorations.ArrayStride)
      ∙ ap (λ m. find (decorates x decorations.ArrayStride) (decorations_by x m)) e)
      ∙ stride_by x bytes

  pub offsets : (access : Access) → (row_of c s).marks ≡ Block access → member_decoration (module_code c kind t.entries cs body) x 0
      decorations.Offset ≡ Some 0
  offsets access e =
      ap (option_and_then (λ (i : Instr). slice_get i.operands 3))
      ((declares c kind t cs r body b).decorated s x (decorates_member x 0 decorations.Offset) h (aims_member x decorations.Offset)
      ∙ ap (λ m. find (decorates_member x 0 decorations.Offset) (decorations_by x m)) e)
      ∙ offset_by x access
