-- Arrays of indexable registers that are named one after the other.
use Rattle.std.proofs.Common.{◌≡◌, ℕ, ◌+◌, Bool, true, false, List, [], ◌∷◌, take, Some, refl, sym, ap, ◌∙◌, subst, arith, length-append}
use Rattle.std.specs.Prelude.{slice_get, ◌||◌}
use Rattle.std.specs.List.{list_any}
use Rattle.std.proofs.lemmas.List.Folds.{list_any-append}
use Rattle.tpf_decode.specs.declared.argument.Kind.TheVariants as kind
use Rattle.tpf_program.specs.declared.declaration.Declared.{Declared}
use Rattle.tpf_program.specs.Uses.{declares}
use Rattle.spirv_symbols.specs.declared.symbol.Symbol.{Symbol}
use Rattle.spirv_symbols.specs.declared.symbol.Symbol.TheVariants.{Elements}
use Rattle.spirv_symbols.specs.Tables.{Table, Has, Extends}
use Rattle.spirv_emit.specs.Begun.{IsBegun, IsThere}
use Rattle.spirv_emit.specs.declared.emitter.Emitter.{Emitter as Emission}
use Rattle.spirv_setup.specs.Naming.{NamesArrays}
use Rattle.spirv_setup.proofs.Walked.{take_next}

pub arrays_none : (a : Emission) → IsBegun a → Extends a.symbols a.symbols → NamesArrays a a []
arrays_none a h x = record {
  rest = refl;
  extends = x;
  begun = h;
  globals = refl;
  there = λ slot e. absurd (cc e);
  words = omega arith;
  ids = omega arith;
}

module _ (on : (t u v : Table) → Extends t u → Extends u v → Extends t v)
    (kept : (t u : Table) (s : Symbol) (x : ℕ) → Extends t u → Has t.entries s x → Has u.entries s x) where
  pub arrays_next : (a b c : Emission) (ds : List Declared) (k : ℕ) (d : Declared) → slice_get ds k ≡ Some d
      → NamesArrays a b (take k ds) → NamesArrays b c (d ∷ []) → NamesArrays a c (take (k + 1) ds)
  arrays_next a b c ds k d g m n = subst (NamesArrays a c) (sym (take_next ds k d g)) (record {
    rest = n.rest ∙ ap (λ (e : Emission). record e { symbols = c.symbols }) m.rest;
    extends = on a.symbols b.symbols c.symbols m.extends n.extends;
    begun = n.begun;
    globals = n.globals ∙ m.globals;
    there = λ slot e. there slot (sym (list_any-append (λ d. declares d.what kind.Indexable slot) (take k ds) (d ∷ [])) ∙ e);
    words = omega (arith, m.words, n.words, length-append (take k ds) (d ∷ []));
    ids = omega (arith, m.ids, n.ids, length-append (take k ds) (d ∷ []));
  }) where
    there : (slot : ℕ)
        → (list_any (λ d. declares d.what kind.Indexable slot) (take k ds) || list_any (λ d. declares d.what kind.Indexable slot) (d ∷ [])) ≡ true
        → IsThere c.symbols.entries (Elements slot)
    there slot e = by (list_any (λ d. declares d.what kind.Indexable slot) (take k ds)) refl where
      by : (t : Bool) → list_any (λ d. declares d.what kind.Indexable slot) (take k ds) ≡ t → IsThere c.symbols.entries (Elements slot)
      by true q = let h = m.there slot q in (h.0, kept b.symbols c.symbols (Elements slot) h.0 n.extends h.1)
      by false q =
          n.there slot (sym (ap (λ t. t || list_any (λ d. declares d.what kind.Indexable slot) (d ∷ [])) q) ∙ e)
