-- The sizes that are said of a program are those of some setting.
use Rattle.std.proofs.Common.{◌≡◌, ℕ, ◌/◌, ◌≤◌, Bool, true, false, List, [], ◌∷◌, Some, sym, ap, ◌∙◌, subst, arith}
use Rattle.std.specs.Prelude.{nat_eq, sum_by, if◌then◌else◌}
use Rattle.std.proofs.Math.Nat.{div-le_self}
use Rattle.std.proofs.lemmas.List.Sums.{sum_by-cons}
use Rattle.std.proofs.lemmas.Nat.{mul-le}
use Rattle.word_base.specs.Words.{AreWords}
use Rattle.word_base.specs.declared.event.Room.TheVariants as room
use Rattle.tpf_program.specs.declared.declaration.SharedKind.{SharedKind}
use Rattle.tpf_program.specs.declared.declaration.SharedKind.TheVariants as shared
use Rattle.tpf_program.specs.declared.declaration.Declaration.{Declaration}
use Rattle.tpf_program.specs.declared.declaration.Declaration.TheVariants.{Shared}
use Rattle.tpf_program.specs.declared.declaration.Declared.{Declared as Item}
use Rattle.tpf_program.specs.Declarations.{shared_bytes}
use Rattle.tpf_program.specs.Extents.{shared_extent, shared_words, words_declared}
use Rattle.tpf_program.specs.Program.{Shader}
use Rattle.tpf_program.specs.Sizes.{first_size, vectors_of}
use Rattle.binding_map.specs.declared.register.Register.TheVariants.{Constant}
use Rattle.binding_map.specs.declared.register.Place.TheVariants.{Push as InPush}
use Rattle.binding_map.specs.Bindings.{binding, Binding, IsMap}
use Rattle.binding_map.specs.Lookups.{LooksUp}
use Rattle.spirv_symbols.specs.declared.symbol.Symbol.TheVariants.{Memory, Uniform}
use Rattle.spirv_symbols.specs.declared.declared.Declared.{Declared}
use Rattle.spirv_symbols.specs.Contexts.{size_of}
use Rattle.spirv_emit.specs.declared.emitter.Emitter.{Emitter as Emission}
use Rattle.spirv_emit.specs.Emission.{buffer_of}
use Rattle.spirv_emit.specs.Sized.{IsSized}
use Rattle.spirv_setup.specs.Premises.{IsDeclared}
use Rattle.spirv_setup.specs.Setup.{IsDescribed}
use Rattle.spirv_setup.proofs.Fitting.{buffer_declared, end_under, reaches, words_few}
use Rattle.spirv_setup.proofs.Looked.{vectors_at, words_at}

-- SHARED MEMORY has no more words than its declarations have bytes.
kind_words : (slot : ℕ) (kind : SharedKind) → shared_words kind ≤ shared_bytes (Shared slot kind)
kind_words slot (shared.Raw bytes) = div-le_self bytes 4
kind_words slot (shared.Structured stride count) = let n : count ≤ count = omega arith in mul-le (stride / 4) count stride count (div-le_self stride 4) n

one_words : (slot : ℕ) (d : Declaration) → words_declared slot d ≤ shared_bytes d
one_words slot (Shared s kind) = by (nat_eq s slot) (kind_words s kind) where
  by : (b : Bool) → shared_words kind ≤ shared_bytes (Shared s kind) → (if b then shared_words kind else 0) ≤ shared_bytes (Shared s kind)
  by true h = h
  by false h = omega arith
one_words slot d = omega arith

first_under : (f g : Declaration → ℕ) → ((d : Declaration) → f d ≤ g d) → (ds : List Item) → first_size f ds ≤ sum_by (λ d. g d.what) ds
first_under f g le [] = omega arith
first_under f g le (d ∷ ds) = by (nat_eq (f d.what) 0) (first_under f g le ds) where
  by : (b : Bool) → first_size f ds ≤ sum_by (λ d. g d.what) ds → (if b then first_size f ds else f d.what) ≤ sum_by (λ d. g d.what) (d ∷ ds)
  by true h = let e = sum_by-cons (λ (d : Item). g d.what) d ds in omega (arith, h, e)
  by false h = let e = sum_by-cons (λ (d : Item). g d.what) d ds in omega (arith, le d.what, e)

extent_few : (p : Shader) (slot : ℕ) → IsDeclared p → shared_extent slot p.declarations ≤ 32768
extent_few p slot h =
    let n = first_under (words_declared slot) shared_bytes (one_words slot) p.declarations in omega (arith, n, h.declared.shared)

module _ (p : Shader) (bindings : List Binding) (h : IsDeclared p) (map : IsMap bindings) (looks : LooksUp bindings) (e : Emission)
    (said : IsDescribed p bindings e) where
  pub frame_sized : (b : Bool) → IsSized (record e.frame { separate = b })
  frame_sized b = record {
    immediates = subst AreWords (sym said.immediates) h.words;
    shared = λ slot.
        let s : size_of e.frame.context (Memory (room.Shared slot)) ≡ shared_extent slot p.declarations =
        ap (λ (d : Declared). d.size) (said.variables (Memory (room.Shared slot))) ∙ words_at p bindings h.declared slot in
        let n = extent_few p slot h in omega (arith, s, n);
    vectors = λ slot x q.
        let t = buffer_declared p bindings h.declared slot x (ap (λ l. buffer_of l slot) (sym said.buffers) ∙ q) in
        let s : size_of e.frame.context (Uniform slot) ≡ vectors_of slot p.declarations =
        ap (λ (d : Declared). d.size) (said.variables (Uniform slot)) ∙ vectors_at p bindings h.declared slot in
        omega (arith, t.0, s);
    few = let n = words_few p bindings map.places in omega (arith, n, said.pushed);
    pushed = λ slot first count x q r w lt.
        let t = buffer_declared p bindings h.declared slot x (ap (λ l. buffer_of l slot) (sym said.buffers) ∙ q) in
        let f = looks.found (Constant slot) (InPush first count) (t.1 ∙ ap (λ y. Some y) r) in
        let n = end_under p bindings f.0 (binding (Constant slot) (InPush first count)) f.1 in
        let m = reaches p slot first count t.2 (omega (arith, lt)) in omega (arith, n, m, lt, said.pushed);
  }
