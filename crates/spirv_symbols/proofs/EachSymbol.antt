-- What is said of each symbol by itself, found by computation.
use Rattle.std.proofs.Common.{◌≡◌, ℕ, false, List, [], ◌∷◌, map, refl, ap, arith}
use Rattle.std.specs.Prelude.{length}
use Rattle.word_base.specs.declared.event.Room.TheVariants.{Shared}
use Rattle.spirv_words.specs.Operations.{OpEntryPoint, OpFunction}
use Rattle.spirv_words.specs.Text.{is_op}
use Rattle.spirv_words.specs.Ids.{Ids, ids_of}
use Rattle.spirv_symbols.specs.declared.symbol.Symbol.{Symbol}
use Rattle.spirv_symbols.specs.declared.symbol.Symbol.TheVariants.{AType, Constant, Immediates, Import, Main, FirstLabel, Memory}
use Rattle.spirv_symbols.specs.declared.symbol.TypeSymbol.{TypeSymbol}
use Rattle.spirv_symbols.specs.declared.symbol.TypeSymbol.TheVariants.{Void, View}
use Rattle.spirv_symbols.specs.declared.row.Part.TheVariants.{Of}
use Rattle.spirv_symbols.specs.Contexts.{Context}
use Rattle.spirv_symbols.specs.Rows.{type_row, needs, needs_in, section_of, operand, instr_for}
use Rattle.spirv_symbols.specs.Sections.{order}

-- IDS: an instruction defines the symbol's id and uses those of its needs
gathered_uses : (ids : Symbol → ℕ) (own : ℕ) (ws : List ℕ)
    → map (operand ids own) (map (λ w. Of (Constant w)) ws) ≡ map ids (needs_in (map (λ w. Of (Constant w)) ws))
gathered_uses ids own [] = refl
gathered_uses ids own (w ∷ ws) = ap (λ l. ids (Constant w) ∷ l) (gathered_uses ids own ws)

abbrev pub ids_for : Context → (Symbol → ℕ) → Symbol → ℕ → Ids
ids_for c ids s own = record { results = own ∷ []; uses = map ids (needs c s); names = [] }

pub ids_here : (c : Context) (ids : Symbol → ℕ) (s : Symbol) (own : ℕ) → ids_of (instr_for c ids s own) ≡ ids_for c ids s own
ids_here c ids (AType Void) own = refl
ids_here c ids (AType t) own = refl
ids_here c ids (Memory (Shared slot)) own = refl
ids_here c ids (Memory room) own = refl
ids_here c ids Immediates own =
    ap (λ xs. record { results = own ∷ []; uses = ids (AType (type_here c)) ∷ xs; names = [] }) (gathered_uses ids own c.immediates) where
      type_here : Context → TypeSymbol
      type_here c = Rattle.spirv_symbols.specs.declared.symbol.TypeSymbol.TheVariants.Words (length c.immediates)
ids_here c ids s own = refl

-- INSTRUCTIONS that symbols do not have
no_function_type : (c : Context) (ids : Symbol → ℕ) (t : TypeSymbol) (own : ℕ) → is_op OpFunction (instr_for c ids (AType t) own) ≡ false
no_function_type c ids Void own = refl
no_function_type c ids t own = refl

pub no_function : (c : Context) (ids : Symbol → ℕ) (s : Symbol) (own : ℕ) → (s ≡ Main → ⊥) → is_op OpFunction (instr_for c ids s own) ≡ false
no_function c ids Main own d = absurd (d refl)
no_function c ids (AType t) own d = no_function_type c ids t own
no_function c ids (Memory (Shared slot)) own d = refl
no_function c ids (Memory room) own d = refl
no_function c ids s own d = refl

no_entry_type : (c : Context) (ids : Symbol → ℕ) (t : TypeSymbol) (own : ℕ) → is_op OpEntryPoint (instr_for c ids (AType t) own) ≡ false
no_entry_type c ids Void own = refl
no_entry_type c ids t own = refl

pub no_entry : (c : Context) (ids : Symbol → ℕ) (s : Symbol) (own : ℕ) → is_op OpEntryPoint (instr_for c ids s own) ≡ false
no_entry c ids (AType t) own = no_entry_type c ids t own
no_entry c ids (Memory (Shared slot)) own = refl
no_entry c ids (Memory room) own = refl
no_entry c ids s own = refl

-- SECTIONS of one symbol
no_head_type : (t : TypeSymbol) → order (type_row t).section ≡ 4 → ⊥
no_head_type Void d = omega (arith, d)
no_head_type t d = omega (arith, d)

pub is_head : (c : Context) (s : Symbol) → order (section_of c s) ≡ 4 → s ≡ Main
is_head c Main d = refl
is_head c (AType t) d = absurd (no_head_type t d)
is_head c (Memory (Shared slot)) d = absurd (omega (arith, d))
is_head c (Memory room) d = absurd (omega (arith, d))
is_head c s d = absurd (omega (arith, d))

no_label_type : (t : TypeSymbol) → order (type_row t).section ≡ 5 → ⊥
no_label_type Void d = omega (arith, d)
no_label_type t d = omega (arith, d)

pub is_first_label : (c : Context) (s : Symbol) → order (section_of c s) ≡ 5 → s ≡ FirstLabel
is_first_label c FirstLabel d = refl
is_first_label c (AType t) d = absurd (no_label_type t d)
is_first_label c (Memory (Shared slot)) d = absurd (omega (arith, d))
is_first_label c (Memory room) d = absurd (omega (arith, d))
is_first_label c s d = absurd (omega (arith, d))

no_import_type : (t : TypeSymbol) → order (type_row t).section ≡ 0 → ⊥
no_import_type Void d = omega (arith, d)
no_import_type t d = omega (arith, d)

pub is_the_import : (c : Context) (s : Symbol) → order (section_of c s) ≡ 0 → s ≡ Import
is_the_import c Import d = refl
is_the_import c (AType t) d = absurd (no_import_type t d)
is_the_import c (Memory (Shared slot)) d = absurd (omega (arith, d))
is_the_import c (Memory room) d = absurd (omega (arith, d))
is_the_import c s d = absurd (omega (arith, d))
