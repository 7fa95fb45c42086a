-- The symbols of a table that are values, with the ids of their types.
use Rattle.std.proofs.Common.{◌≡◌, ℕ, zero, suc, ◌⊎◌, inl, inr, ⊎_elim, List, [], ◌∷◌, ◌++◌, Option, Some, None, refl, sym, ap, ◌∙◌, subst}
use Rattle.std.specs.Prelude.{slice_get}
use Rattle.std.proofs.lemmas.Option.{same_Some}
use Rattle.word_base.specs.declared.event.Room.TheVariants.{Shared}
use Rattle.spirv_words.specs.Text.{Instr}
use Rattle.spirv_words.specs.Ids.{type_of_instr}
use Rattle.spirv_symbols.specs.declared.symbol.Symbol.{Symbol}
use Rattle.spirv_symbols.specs.declared.symbol.Symbol.TheVariants.{AType, Import, Main, FirstLabel, Memory}
use Rattle.spirv_symbols.specs.declared.symbol.TypeSymbol.{TypeSymbol}
use Rattle.spirv_symbols.specs.declared.symbol.TypeSymbol.TheVariants.{Void}
use Rattle.spirv_symbols.specs.declared.row.Part.{Part}
use Rattle.spirv_symbols.specs.declared.row.Part.TheVariants.{Own, Of, Number}
use Rattle.spirv_symbols.specs.declared.entry.Entry.{Entry}
use Rattle.spirv_symbols.specs.Contexts.{Context}
use Rattle.spirv_symbols.specs.Rows.{row_of, needs_in, instr_for}
use Rattle.spirv_symbols.specs.Tables.{Has, AreThere, id_of, entry}
use Rattle.spirv_symbols.specs.Sorted.{id_of_type}
use Rattle.spirv_emit.specs.Code.{Typed, typed, In, type_in, type_of_symbol, Covers}
use Rattle.spirv_flow.proofs.FormKnown.{in_either}
use Rattle.spirv_flow.proofs.Composing.{in_right}
use Rattle.spirv_flow.proofs.FormNames.{in_front}
use Rattle.spirv_flow.proofs.FormSorted.{Reads, AreRight}

abbrev typed_at : (TypeSymbol → ℕ) → Option TypeSymbol → ℕ → List Typed
typed_at ids None x = []
typed_at ids (Some y) x = typed x (ids y) ∷ []

abbrev pub typed_symbols : Context → (TypeSymbol → ℕ) → List Entry → List Typed
typed_symbols c ids [] = []
typed_symbols c ids (e ∷ es) = typed_at ids (type_of_symbol c e.symbol) e.id ++ typed_symbols c ids es

-- the type of a symbol that is a value is one of its needs
type_there : (names : List Entry) (parts : List Part) (y : TypeSymbol) (b : ℕ) → type_in parts ≡ Some y → AreThere names (needs_in parts) b
    → (id : ℕ) × Has names (AType y) id
type_there names [] y b e h = absurd (cc)
type_there names (Own ∷ parts) y b e h = absurd (cc)
type_there names (Number n ∷ parts) y b e h = absurd (cc)
type_there names (Of (AType z) ∷ []) y b e h = absurd (cc)
type_there names (Of (AType z) ∷ Own ∷ parts) y b e h =
    (h.0.0, subst (λ u. Has names (AType u) h.0.0) (same_Some z y e) h.0.1)
type_there names (Of (AType z) ∷ Of s ∷ parts) y b e h = absurd (cc)
type_there names (Of (AType z) ∷ Number n ∷ parts) y b e h = absurd (cc)
type_there names (Of s ∷ parts) y b e h = absurd (cc)

by_first : (ids : Symbol → ℕ) (z y : TypeSymbol) → Some z ≡ Some y → Some (ids (AType z)) ≡ Some (ids (AType y))
by_first ids z y e = ap (λ u. Some (ids (AType u))) (same_Some z y e)

no_type : (c : Context) (t y : TypeSymbol) → type_of_symbol c (AType t) ≡ Some y → ⊥
no_type c Void y e = cc
no_type c t y e = cc

-- a symbol that has a type is the function, or its instruction says the type
says_type : (c : Context) (ids : Symbol → ℕ) (s : Symbol) (own : ℕ) (y : TypeSymbol) → type_of_symbol c s ≡ Some y
    → (y ≡ Void) ⊎ (type_of_instr (Some (instr_for c ids s own)) ≡ Some (ids (AType y)))
says_type c ids (AType t) own y e = absurd (no_type c t y e)
says_type c ids Main own y e = inl (sym (same_Some Void y e))
says_type c ids FirstLabel own y e = absurd (cc)
says_type c ids Import own y e = absurd (cc)
says_type c ids (Memory (Shared slot)) own y e = inr (by_first ids _ y e)
says_type c ids (Memory room) own y e = inr (by_first ids _ y e)
says_type c ids s own y e = inr (by_first ids _ y e)

in_typed : (ids : TypeSymbol → ℕ) (o : Option TypeSymbol) (x : ℕ) (p : Typed) → In (typed_at ids o x) p → (y : TypeSymbol) × (o ≡ Some y) × (p ≡ typed x (ids y))
in_typed ids None x p h = absurd h
in_typed ids (Some y) x p (inl e) = (y, refl, sym e)
in_typed ids (Some y) x p (inr h) = absurd h

module _ (c : Context) (names : List Entry) (code : List Instr) (m : Reads c names code) where
  abbrev ids : TypeSymbol → ℕ
  ids y = id_of_type names y

  own_type : (s : Symbol) (x : ℕ) (y : TypeSymbol) → Has names s x → type_of_symbol c s ≡ Some y → Has names (AType y) (ids y)
  own_type s x y h e =
      let t = type_there names (row_of c s).parts y x e (m.founded s x h) in
      subst (λ n. Has names (AType y) n) (sym (m.found (AType y) t.0 t.1)) t.1

  in_at : (es : List Entry) (s : Symbol) (x k : ℕ) (y : TypeSymbol) → slice_get es k ≡ Some (entry s x) → type_of_symbol c s ≡ Some y
      → In (typed_symbols c ids es) (typed x (ids y))
  in_at [] s x k y h e = absurd (cc)
  in_at (f ∷ es) s x zero y h e =
      let same : f ≡ entry s x = same_Some f (entry s x) h in
      in_front (typed_at ids (type_of_symbol c f.symbol) f.id) (typed_symbols c ids es) (typed x (ids y))
      (subst (λ (g : Entry). In (typed_at ids (type_of_symbol c g.symbol) g.id) (typed x (ids y))) (sym same)
      (subst (λ o. In (typed_at ids o x) (typed x (ids y))) (sym e) (inl refl)))
  in_at (f ∷ es) s x (suc k) y h e =
      in_right (typed_at ids (type_of_symbol c f.symbol) f.id) (typed_symbols c ids es) (typed x (ids y)) (in_at es s x k y h e)

  pub covers : Covers names c (typed_symbols c ids names)
  covers s y x h e = (ids y, own_type s x y h e, in_at names s x h.0 y h.1 e)

  from : (es : List Entry) (x t : ℕ) → In (typed_symbols c ids es) (typed x t)
      → (k : ℕ) × (s : Symbol) × (y : TypeSymbol) × (slice_get es k ≡ Some (entry s x)) × (type_of_symbol c s ≡ Some y) × (t ≡ ids y)
  from [] x t h = absurd h
  from (f ∷ es) x t h =
      ⊎_elim (λ own.
      let p = in_typed ids (type_of_symbol c f.symbol) f.id (typed x t) own in
      let same : f ≡ entry f.symbol x = ap (λ i. entry f.symbol i) (sym (ap (λ (q : Typed). q.id) p.2)) in
      (0, f.symbol, p.0, ap Some same, p.1, ap (λ (q : Typed). q.type') p.2))
      (λ later. let p = from es x t later in (suc p.0, p.1, p.2, p.3, p.4, p.5))
      (in_either (typed_at ids (type_of_symbol c f.symbol) f.id) (typed_symbols c ids es) (typed x t) h)

  pub of_symbols : (x t : ℕ) → In (typed_symbols c ids names) (typed x t) → (s : Symbol) × Has names s x
  of_symbols x t h = let p = from names x t h in (p.1, (p.0, p.3))

  pub are_right : AreRight names code (typed_symbols c ids names)
  are_right x t h =
      let p = from names x t h in
      let own : Has names p.1 x = (p.0, p.3) in
      ⊎_elim (λ v. inr (subst (λ n. Has names (AType Void) n) (ap ids (sym v) ∙ sym p.5)
      (subst (λ y. Has names (AType y) (ids Void)) v (subst (λ z. Has names (AType p.2) (ids z)) v (own_type p.1 x p.2 own p.4)))))
      (λ e. inl (ap type_of_instr (m.defines.whole p.1 x own) ∙ (e ∙ ap Some (sym p.5))))
      (says_type c (id_of names) p.1 x p.2 p.4)
