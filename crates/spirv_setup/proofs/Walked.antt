-- Variables that are named on a walk over a list, each once.
use Rattle.std.proofs.Common.{◌≡◌, ℕ, zero, suc, ◌+◌, ◌≤◌, inl, inr, true, List, [], ◌∷◌, ◌++◌, take, Some, None, refl, sym, ap, ◌∙◌, subst, arith, append_assoc, append-nil, length-append}
use Rattle.std.specs.Prelude.{slice_get, Option}
use Rattle.std.specs.List.{filter_map, cons_option}
use Rattle.spirv_symbols.specs.declared.symbol.Symbol.{Symbol}
use Rattle.spirv_symbols.specs.Tables.{Table, Extends}
use Rattle.spirv_emit.specs.Begun.{IsBegun}
use Rattle.spirv_emit.specs.Code.{In}
use Rattle.spirv_emit.specs.Emission.{words_left, ids_left}
use Rattle.spirv_emit.specs.declared.emitter.Emitter.{Emitter as Emission}
use Rattle.spirv_emit.specs.Growing.{globals_in, is_global}
use Rattle.spirv_emit.specs.Naming.{Names}
use Rattle.spirv_setup.specs.Describing.{of_some}
use Rattle.spirv_setup.specs.Naming.{MayName, NamesAll}
use Rattle.spirv_setup.specs.Premises.{Apart}

-- LISTS
in_back : (xs ys : List Symbol) (s : Symbol) → In ys s → In (xs ++ ys) s
in_back [] ys s i = i
in_back (x ∷ xs) ys s i = inr (in_back xs ys s i)

pub apart_next : (xs ys : List Symbol) (s : Symbol) → Apart (xs ++ s ∷ ys) → In xs s → ⊥
apart_next [] ys s a i = i
apart_next (x ∷ xs) ys s a (inl e) = a.0 (in_back xs (s ∷ ys) x (inl (sym e)))
apart_next (x ∷ xs) ys s a (inr i) = apart_next xs ys s a.1 i

take_suc : {X : Type 0} (xs : List X) (k : ℕ) (x : X) → slice_get xs k ≡ Some x → take (suc k) xs ≡ take k xs ++ x ∷ []
take_suc [] k x h = absurd (cc h)
take_suc (y ∷ ys) zero x h = cc h
take_suc (y ∷ ys) (suc k) x h = ap (λ l. y ∷ l) (take_suc ys k x h)

pub take_next : {X : Type 0} (xs : List X) (k : ℕ) (x : X) → slice_get xs k ≡ Some x → take (k + 1) xs ≡ take k xs ++ x ∷ []
take_next xs k x h = let e : k + 1 ≡ suc k = omega arith in ap (λ n. take n xs) e ∙ take_suc xs k x h

module _ {X : Type 0} (f : X → Option Symbol) where
  cons_append : (o : Option Symbol) (xs ys : List Symbol) → cons_option o (xs ++ ys) ≡ cons_option o xs ++ ys
  cons_append None xs ys = refl
  cons_append (Some s) xs ys = refl

  one_more : (o : Option Symbol) (ys : List Symbol) → cons_option o ys ≡ of_some o ++ ys
  one_more None ys = refl
  one_more (Some s) ys = refl

  mapped_append : (xs ys : List X) → filter_map f (xs ++ ys) ≡ filter_map f xs ++ filter_map f ys
  mapped_append [] ys = refl
  mapped_append (x ∷ xs) ys = ap (cons_option (f x)) (mapped_append xs ys) ∙ cons_append (f x) (filter_map f xs) (filter_map f ys)

  pub mapped_next : (xs : List X) (k : ℕ) (x : X) → slice_get xs k ≡ Some x
      → filter_map f (take (k + 1) xs) ≡ filter_map f (take k xs) ++ of_some (f x)
  mapped_next xs k x g =
      ap (filter_map f) (take_next xs k x g) ∙ mapped_append (take k xs) (x ∷ [])
      ∙ ap (λ l. filter_map f (take k xs) ++ l) (one_more (f x) [] ∙ append-nil (of_some (f x)))

  -- what is taken, the next, and the rest
  pub parted : (xs : List X) (k : ℕ) (x : X) → slice_get xs k ≡ Some x
      → (rest : List Symbol) × (filter_map f xs ≡ filter_map f (take k xs) ++ (of_some (f x) ++ rest))
  parted [] k x g = absurd (cc g)
  parted (y ∷ ys) zero x g =
      let q : f y ≡ f x = ap f (cc g) in
      (filter_map f ys, ap (λ o. cons_option o (filter_map f ys)) q ∙ one_more (f x) (filter_map f ys))
  parted (y ∷ ys) (suc k) x g =
      let r = parted ys k x g in
      (r.0, ap (cons_option (f y)) r.1 ∙ cons_append (f y) (filter_map f (take k ys)) (of_some (f x) ++ r.0))

-- NAMES
pub names_none : (a : Emission) (ss : List Symbol) → MayName a ss → Extends a.symbols a.symbols → NamesAll a a []
names_none a ss m x = record {
  rest = refl;
  extends = x;
  begun = m.begun;
  globals = sym (append-nil (globals_in a.symbols.entries));
  words = omega arith;
  ids = omega arith;
}

-- one that was not there
pub name_one : (on : (t u v : Table) → Extends t u → Extends u v → Extends t v) (a d : Emission) (s : Symbol) → MayName a (s ∷ [])
    → is_global s ≡ true → Names a d s → IsBegun d → words_left a ≤ words_left d + 43 → ids_left a ≤ ids_left d + 6 → NamesAll a d (s ∷ [])
name_one on a d s m g h begun words ids = record {
  rest = h.rest;
  extends = h.extends;
  begun = begun;
  globals = h.global g (λ i. apart_next (globals_in a.symbols.entries) [] s m.apart i);
  words = omega (arith, words);
  ids = omega (arith, ids);
}

-- PARTS, one behind the other
in_front : (us vs : List Symbol) (s : Symbol) → In us s → In (us ++ vs) s
in_front [] vs s i = absurd i
in_front (u ∷ us) vs s (inl e) = inl e
in_front (u ∷ us) vs s (inr i) = inr (in_front us vs s i)

apart_front : (us vs : List Symbol) → Apart (us ++ vs) → Apart us
apart_front [] vs h = tt
apart_front (u ∷ us) vs h = (λ i. h.0 (in_front us vs u i), apart_front us vs h.1)

pub may_front : (a : Emission) (xs ys : List Symbol) → MayName a (xs ++ ys) → MayName a xs
may_front a xs ys m = record {
  begun = m.begun;
  apart = apart_front (globals_in a.symbols.entries ++ xs) ys
      (subst Apart (sym (append_assoc (globals_in a.symbols.entries) xs ys)) m.apart);
  words = omega (arith, m.words, length-append xs ys);
  ids = omega (arith, m.ids, length-append xs ys);
}

pub may_back : (a b : Emission) (xs ys : List Symbol) → MayName a (xs ++ ys) → NamesAll a b xs → MayName b ys
may_back a b xs ys m n = record {
  begun = n.begun;
  apart = subst Apart (sym (append_assoc (globals_in a.symbols.entries) xs ys) ∙ ap (λ l. l ++ ys) (sym n.globals)) m.apart;
  words = omega (arith, m.words, n.words, length-append xs ys);
  ids = omega (arith, m.ids, n.ids, length-append xs ys);
}

pub names_on : (on : (t u v : Table) → Extends t u → Extends u v → Extends t v) (a b c : Emission) (xs ys : List Symbol)
    → NamesAll a b xs → NamesAll b c ys → NamesAll a c (xs ++ ys)
names_on on a b c xs ys m n = record {
  rest = n.rest ∙ ap (λ (e : Emission). record e { symbols = c.symbols }) m.rest;
  extends = on a.symbols b.symbols c.symbols m.extends n.extends;
  begun = n.begun;
  globals = n.globals ∙ (ap (λ l. l ++ ys) m.globals ∙ append_assoc (globals_in a.symbols.entries) xs ys);
  words = omega (arith, m.words, n.words, length-append xs ys);
  ids = omega (arith, m.ids, n.ids, length-append xs ys);
}

-- A WALK over a list, at one of its places
module _ {X : Type 0} (f : X → Option Symbol) (xs : List X) (k : ℕ) (x : X) (at : slice_get xs k ≡ Some x) (a b : Emission)
    (n : NamesAll a b (filter_map f (take k xs))) where
  pub may_at : MayName a (filter_map f xs) → MayName b (of_some (f x))
  may_at m =
      let r = parted f xs k x at in
      may_front b (of_some (f x)) r.0
      (may_back a b (filter_map f (take k xs)) (of_some (f x) ++ r.0) (subst (MayName a) r.1 m) n)

  pub named_at : (on : (t u v : Table) → Extends t u → Extends u v → Extends t v) (c : Emission) → NamesAll b c (of_some (f x))
      → NamesAll a c (filter_map f (take (k + 1) xs))
  named_at on c h =
      subst (NamesAll a c) (sym (mapped_next f xs k x at)) (names_on on a b c (filter_map f (take k xs)) (of_some (f x)) n h)
