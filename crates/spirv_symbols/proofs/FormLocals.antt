-- Each variable of a module is of a class that has a meaning, those of the function have a constant as initializer; with that the
-- variables of a module are the ones wanted.
use Rattle.std.proofs.Common.{◌≡◌, ℕ, true, List, [], ◌∷◌, refl, ap}
use Rattle.std.specs.Prelude.{◌&&◌, length}
use Rattle.std.specs.List.{list_all}
use Rattle.std.proofs.lemmas.Bool.{and_from}
use Rattle.word_base.specs.declared.event.Room.TheVariants.{Resource, Uav, Counter, Shared}
use Rattle.spirv_words.specs.Text.{Instr}
use Rattle.spirv_words.specs.Ids.{definition, declared}
use Rattle.spirv_words.specs.Operands.{is_constant_instr}
use Rattle.spirv_words.specs.Variables.{is_variable_well, has_variables, has_buffers, has_uniforms, has_push, has_inputs, are_shared, of_class}
use Rattle.spirv_symbols.specs.declared.symbol.Access.TheVariants.{Plain, ReadOnly, Coherent}
use Rattle.spirv_symbols.specs.declared.symbol.Symbol.{Symbol}
use Rattle.spirv_symbols.specs.declared.symbol.Symbol.TheVariants.{AType, Constant, Null, Immediates, Memory, Scratch, Register, Registers, Elements, ImmediateArray}
use Rattle.spirv_symbols.specs.declared.symbol.TypeSymbol.TheVariants.{Void, Procedure, Word, Truth, Triple, Quad, Pair, Words, PushWords, Vectors, RuntimeWords, View, VectorsBlock, PushBlock, WordPointer, TriplePointer, LocalPointer, SharedPointer, ViewPointer, VectorsPointer, PushPointer}
use Rattle.spirv_symbols.specs.declared.row.Marks.{Marks}
use Rattle.spirv_symbols.specs.declared.row.Marks.TheVariants.{Nothing, Stride, Block, Bound, BuiltIn}
use Rattle.spirv_symbols.specs.declared.numbered.Numbered.{Numbered}
use Rattle.spirv_symbols.specs.Contexts.{Context, size_of}
use Rattle.spirv_symbols.specs.Rows.{row_of, needs, decorations_by, instr_for}
use Rattle.spirv_symbols.specs.Tables.{Table, Entry, Has, IsTable, id_of}
use Rattle.spirv_symbols.specs.Modules.{Kind, IsReady, IsBody, module_code}
use Rattle.spirv_symbols.specs.Sorted.{Defines}
use Rattle.spirv_symbols.specs.Wants.{HasPlaces, wanted_of}
use Rattle.spirv_symbols.proofs.Members.{among_get}
use Rattle.spirv_symbols.proofs.SymbolSorts.{second_need}
use Rattle.spirv_symbols.proofs.StartsWhole.{defines, declares}
use Rattle.spirv_symbols.proofs.FormAll.{whole_passes}
use Rattle.spirv_symbols.proofs.FormVariables.{buffers_hold, uniforms_hold, push_holds, shared_hold, inputs_hold}

module _ (c : Context) (es : List Entry) (next : ℕ) (tb : IsTable c es next) (code : List Instr) (d : Defines c es code) where
  -- initializers
  word_well : (s : Symbol) (x : ℕ) → Has es s x → needs c s ≡ AType (WordPointer 7) ∷ Constant 0 ∷ [] → is_constant_instr
      (definition (declared code) (id_of es (Constant 0))) ≡ true
  word_well s x h e = ap is_constant_instr (d.front (Constant 0) (id_of es (Constant 0)) (second_need c es next tb code d s (AType (WordPointer 7))
      (Constant 0) [] x h e) refl)

  array_well : (s : Symbol) (n x : ℕ) → Has es s x → needs c s ≡ AType (LocalPointer n) ∷ Null n ∷ [] → is_constant_instr
      (definition (declared code) (id_of es (Null n))) ≡ true
  array_well s n x h e = ap is_constant_instr
      (d.front (Null n) (id_of es (Null n)) (second_need c es next tb code d s (AType (LocalPointer n)) (Null n) [] x h e) refl)

  symbol_well : (s : Symbol) (x : ℕ) → Has es s x → is_variable_well code (instr_for c (id_of es) s x) ≡ true
  symbol_well (Scratch n) x h = word_well (Scratch n) x h refl
  symbol_well (Register k) x h = word_well (Register k) x h refl
  symbol_well Registers x h = array_well Registers c.registers x h refl
  symbol_well (Elements slot) x h = array_well (Elements slot) (size_of c (Elements slot)) x h refl
  symbol_well ImmediateArray x h =
      ap is_constant_instr (d.front Immediates (id_of es Immediates)
      (second_need c es next tb code d ImmediateArray (AType (LocalPointer (length c.immediates))) Immediates [] x h refl) refl)
  symbol_well (Memory (Resource slot)) x h = refl
  symbol_well (Memory (Uav slot)) x h = refl
  symbol_well (Memory (Counter slot)) x h = refl
  symbol_well (Memory (Shared slot)) x h = refl
  symbol_well (AType Void) x h = refl
  symbol_well (AType Procedure) x h = refl
  symbol_well (AType Word) x h = refl
  symbol_well (AType Truth) x h = refl
  symbol_well (AType Triple) x h = refl
  symbol_well (AType Quad) x h = refl
  symbol_well (AType Pair) x h = refl
  symbol_well (AType (Words n)) x h = refl
  symbol_well (AType (PushWords n)) x h = refl
  symbol_well (AType (Vectors n)) x h = refl
  symbol_well (AType RuntimeWords) x h = refl
  symbol_well (AType (View access)) x h = refl
  symbol_well (AType (VectorsBlock n)) x h = refl
  symbol_well (AType (PushBlock n)) x h = refl
  symbol_well (AType (WordPointer class)) x h = refl
  symbol_well (AType TriplePointer) x h = refl
  symbol_well (AType (LocalPointer n)) x h = refl
  symbol_well (AType (SharedPointer n)) x h = refl
  symbol_well (AType (ViewPointer access)) x h = refl
  symbol_well (AType (VectorsPointer n)) x h = refl
  symbol_well (AType (PushPointer n)) x h = refl
  symbol_well s x h = refl

marks_well : (code : List Instr) (own : ℕ) (marks : Marks) → list_all (is_variable_well code) (decorations_by own marks) ≡ true
marks_well code own Nothing = refl
marks_well code own (Stride bytes) = refl
marks_well code own (Block Plain) = refl
marks_well code own (Block ReadOnly) = refl
marks_well code own (Block Coherent) = refl
marks_well code own (Bound set binding) = refl
marks_well code own (BuiltIn built_in) = refl

pub well_holds : (c : Context) (kind : Kind) (t : Table) (cs : List Numbered) (body : List Instr) → IsReady c t cs → IsBody body
    → list_all (is_variable_well (module_code c kind t.entries cs body)) body ≡ true
    → list_all (is_variable_well (module_code c kind t.entries cs body)) (module_code c kind t.entries cs body) ≡ true
well_holds c kind t cs body r b h =
    let code = module_code c kind t.entries cs body in
    whole_passes c kind t cs r (is_variable_well code)
    (record {
      capability = refl;
      models' = refl;
      marks = λ e i. marks_well code e.id (row_of c e.symbol).marks;
      symbols = λ e i.
          let g = among_get t.entries e i in
          symbol_well c t.entries t.next r.stands.table code (defines c kind t cs r body b) e.symbol e.id (g.0, g.1);
      closing = refl;
    }) body h

pub variables_hold : (c : Context) (kind : Kind) (t : Table) (cs : List Numbered) (body : List Instr) → IsReady c t cs → IsBody body
    → HasPlaces c t.entries
    → list_all (is_variable_well (module_code c kind t.entries cs body)) body ≡ true
    → has_variables (wanted_of c t.entries) (module_code c kind t.entries cs body) ≡ true
variables_hold c kind t cs body r b p h =
    let es = t.entries in
    let code = module_code c kind es cs body in
    let d = declares c kind t cs r body b in
    let tb = r.stands.table in
    let w = wanted_of c es in
    and_from (has_buffers code w.buffers && has_uniforms code w.uniforms) _
    (and_from (has_buffers code w.buffers) (has_uniforms code w.uniforms) (buffers_hold c es t.next tb code d p)
    (uniforms_hold c es t.next tb code d p))
    (and_from (has_push code w.push && are_shared code w.shared (of_class code 4)) _
    (and_from (has_push code w.push) (are_shared code w.shared (of_class code 4)) (push_holds c es t.next tb code d)
    (shared_hold c es t.next tb code d))
    (and_from (has_inputs code w.inputs) (list_all (is_variable_well code) code) (inputs_hold c es t.next tb code d p)
    (well_holds c kind t cs body r b h)))
