-- The instructions of a module are instructions: their operands fit, and they are not too long.
use Rattle.std.proofs.Common.{◌≡◌, ℕ, suc, ◌<◌, true, List, [], ◌∷◌, map, refl, ap, arith}
use Rattle.std.specs.Prelude.{length, nat_lt}
use Rattle.std.specs.List.{list_all}
use Rattle.std.proofs.lemmas.Bool.{and_from, lt-ltb}
use Rattle.word_base.specs.declared.event.Room.TheVariants.{Resource, Uav, Counter, Shared}
use Rattle.spirv_words.specs.Text.{Instr, is_instr}
use Rattle.spirv_symbols.specs.declared.symbol.Access.TheVariants.{Plain, ReadOnly, Coherent}
use Rattle.spirv_symbols.specs.declared.symbol.Symbol.{Symbol}
use Rattle.spirv_symbols.specs.declared.symbol.Symbol.TheVariants.{AType, Constant, Immediates, Memory}
use Rattle.spirv_symbols.specs.declared.symbol.TypeSymbol.TheVariants.{Void, Procedure, Word, Truth, Triple, Quad, Pair, Words, PushWords, Vectors, RuntimeWords, View, VectorsBlock, PushBlock, WordPointer, TriplePointer, LocalPointer, SharedPointer, ViewPointer, VectorsPointer, PushPointer}
use Rattle.spirv_symbols.specs.declared.row.Part.TheVariants.{Of}
use Rattle.spirv_symbols.specs.declared.row.Marks.{Marks}
use Rattle.spirv_symbols.specs.declared.row.Marks.TheVariants.{Nothing, Stride, Block, Bound, BuiltIn}
use Rattle.spirv_symbols.specs.declared.numbered.Numbered.{Numbered}
use Rattle.spirv_symbols.specs.Contexts.{Context, IsSmall}
use Rattle.spirv_symbols.specs.Rows.{row_of, operand, decorations_by, instr_for}
use Rattle.spirv_symbols.specs.Tables.{Table, id_of}
use Rattle.spirv_symbols.specs.Modules.{Kind, IsReady, entry_point, interface, module_code}
use Rattle.spirv_symbols.proofs.FormAll.{whole_passes}

-- the operands of the composite of the immediate constants
as_many : (ids : Symbol → ℕ) (own : ℕ) (ws : List ℕ) → length (map (operand ids own) (map (λ w. Of (Constant w)) ws)) ≡ length ws
as_many ids own [] = refl
as_many ids own (w ∷ ws) = ap suc (as_many ids own ws)

short : (m n : ℕ) → m < n → nat_lt m n ≡ true
short m n h = lt-ltb m n h

symbol_fits : (c : Context) (ids : Symbol → ℕ) (s : Symbol) (x : ℕ) → IsSmall c → is_instr (instr_for c ids s x) ≡ true
symbol_fits c ids Immediates x h =
    short (suc (suc (length (map (operand ids x) (map (λ w. Of (Constant w)) c.immediates))))) 65535 (omega (arith, as_many ids x c.immediates, h))
symbol_fits c ids (Memory (Resource slot)) x h = refl
symbol_fits c ids (Memory (Uav slot)) x h = refl
symbol_fits c ids (Memory (Counter slot)) x h = refl
symbol_fits c ids (Memory (Shared slot)) x h = refl
symbol_fits c ids (AType Void) x h = refl
symbol_fits c ids (AType Procedure) x h = refl
symbol_fits c ids (AType Word) x h = refl
symbol_fits c ids (AType Truth) x h = refl
symbol_fits c ids (AType Triple) x h = refl
symbol_fits c ids (AType Quad) x h = refl
symbol_fits c ids (AType Pair) x h = refl
symbol_fits c ids (AType (Words n)) x h = refl
symbol_fits c ids (AType (PushWords n)) x h = refl
symbol_fits c ids (AType (Vectors n)) x h = refl
symbol_fits c ids (AType RuntimeWords) x h = refl
symbol_fits c ids (AType (View access)) x h = refl
symbol_fits c ids (AType (VectorsBlock n)) x h = refl
symbol_fits c ids (AType (PushBlock n)) x h = refl
symbol_fits c ids (AType (WordPointer class)) x h = refl
symbol_fits c ids (AType TriplePointer) x h = refl
symbol_fits c ids (AType (LocalPointer n)) x h = refl
symbol_fits c ids (AType (SharedPointer n)) x h = refl
symbol_fits c ids (AType (ViewPointer access)) x h = refl
symbol_fits c ids (AType (VectorsPointer n)) x h = refl
symbol_fits c ids (AType (PushPointer n)) x h = refl
symbol_fits c ids s x h = refl

marks_fit : (own : ℕ) (marks : Marks) → list_all is_instr (decorations_by own marks) ≡ true
marks_fit own Nothing = refl
marks_fit own (Stride bytes) = refl
marks_fit own (Block Plain) = refl
marks_fit own (Block ReadOnly) = refl
marks_fit own (Block Coherent) = refl
marks_fit own (Bound set binding) = refl
marks_fit own (BuiltIn built_in) = refl

pub instrs_hold : (c : Context) (kind : Kind) (t : Table) (cs : List Numbered) (body : List Instr) → IsReady c t cs → IsSmall c
    → length (interface kind.version t.entries) < 65000 → list_all is_instr body ≡ true → list_all is_instr (module_code c kind t.entries cs body) ≡
    true
instrs_hold c kind t cs body r small few h =
    whole_passes c kind t cs r is_instr
    (record {
      capability = refl;
      models' = and_from (is_instr (entry_point kind t.entries)) true (short (suc (suc (suc (suc (length (interface kind.version t.entries)))))) 65535
          (omega (arith, few))) refl;
      marks = λ e i. marks_fit e.id (row_of c e.symbol).marks;
      symbols = λ e i. symbol_fits c (id_of t.entries) e.symbol e.id small;
      closing = refl;
    }) body h
