-- The ids of every table.
use Rattle.std.proofs.Common.{◌≡◌, ℕ, zero, suc, ◌<◌, ◌≤◌, ◌⊎◌, ⊎_elim, inl, inr, List, [], ◌∷◌, length, Some, refl, sym, ap, ◌∙◌, subst, arith}
use Rattle.std.specs.Prelude.{slice_get, cond}
use Rattle.spirv_symbols.specs.declared.symbol.Symbol.{Symbol}
use Rattle.spirv_symbols.specs.Contexts.{Context}
use Rattle.spirv_symbols.specs.Names.{is_symbol}
use Rattle.spirv_symbols.specs.Rows.{needs}
use Rattle.spirv_symbols.specs.Tables.{Table, Entry, entry, empty_table, Has, AreThere, IsTable, Stands, Extends, Takes, id_of}
use Rattle.spirv_symbols.proofs.NamesLaws.{is_itself, differs}
use Rattle.spirv_symbols.proofs.EntriesLaws.{get_split, append_none}
use Rattle.spirv_symbols.proofs.Growing.{fewer}

by_order : (j k a b : ℕ) → (j < k → a < b) → (k < j → b < a) → a ≡ b → j ≡ k
by_order j k a b f g e = grind arith

module _ (context : Context) where
  pub place_of : (entries : List Entry) (next j k : ℕ) (e f : Entry) → IsTable context entries next → slice_get entries j ≡ Some e
      → slice_get entries k ≡ Some f
      → e.id ≡ f.id → j ≡ k
  place_of entries next j k e f t x y d =
      by_order j k e.id f.id (λ lt. t.rises j k e f lt x y) (λ lt. t.rises k j f e lt y x) d

  pub one_id : (entries : List Entry) (next : ℕ) (s : Symbol) (x y : ℕ) → IsTable context entries next → Has entries s x → Has entries s y → x ≡ y
  one_id entries next s x y t h i =
      let p = t.single h.0 i.0 (entry s x) (entry s y) h.1 i.1 refl in
      let e : entry s x ≡ entry s y = cc (h.1, i.1, p) in
      ap (λ (z : Entry). z.id) e

  pub one_symbol : (entries : List Entry) (next : ℕ) (s u : Symbol) (x : ℕ) → IsTable context entries next → Has entries s x → Has entries u x → s ≡ u
  one_symbol entries next s u x t h i =
      let p = place_of entries next h.0 i.0 (entry s x) (entry u x) t h.1 i.1 refl in
      let e : entry s x ≡ entry u x = cc (h.1, i.1, p) in
      ap (λ (z : Entry). z.symbol) e

  pub found_id : (entries : List Entry) (next : ℕ) (s : Symbol) (x : ℕ) → IsTable context entries next → Has entries s x → id_of entries s ≡ x
  found_id entries next s x t h = there entries h.0 (λ j k e f a b i. t.single j k e f a b i) h.1 where
    there : (es : List Entry) (k : ℕ) → ((j k : ℕ) (e f : Entry) → slice_get es j ≡ Some e → slice_get es k ≡ Some f → e.symbol ≡ f.symbol → j ≡ k)
        → slice_get es k ≡ Some (entry s x) → id_of es s ≡ x
    there [] k l h = absurd (cc h)
    there (e ∷ es) zero l h =
        let d : e ≡ entry s x = cc h in
        ap (λ (z : Entry). cond (is_symbol z.symbol s) z.id (id_of es s)) d ∙ ap (λ b. cond b x (id_of es s)) (is_itself s)
    there (e ∷ es) (suc k) l h =
        ap (λ b. cond b e.id (id_of es s)) (differs e.symbol s (λ d. let z = l 0 (suc k) e (entry s x) refl h d in absurd (omega (arith, z))))
        ∙ there es k (λ i j f g a b d. let z = l (suc i) (suc j) f g a b d in omega (arith, z)) h

pub bounds : (context : Context) (t : Table) (s : Symbol) (x : ℕ) → Stands context t → Has t.entries s x → (0 < x) × (x < t.next)
bounds context t s x st h = (st.table.positive h.0 (entry s x) h.1, st.table.below h.0 (entry s x) h.1)

nothing : (k : ℕ) (e : Entry) → slice_get [] k ≡ Some e → ⊥
nothing k e h = absurd (cc h)

pub none : (context : Context) (limit : ℕ) → Stands context (empty_table limit)
none context limit = record {
  table = record {
    positive = λ k e h. absurd (nothing k e h);
    rises = λ j k e f lt h i. absurd (nothing j e h);
    below = λ k e h. absurd (nothing k e h);
    single = λ j k e f h i d. absurd (nothing j e h);
    founded = λ k e h. absurd (nothing k e h);
  };
  some = omega arith;
}

pub later : (old new : Table) (s : Symbol) (x : ℕ) → Extends old new → Has new.entries s x → Has old.entries s x ⊎ (old.next ≤ x)
later old new s x e h =
    ⊎_elim (λ i. inl (h.0, i)) (λ r. inr (e.later r.0 (entry s x) r.2))
    (get_split old.entries e.more h.0 (entry s x) (subst (λ l. slice_get l h.0 ≡ Some (entry s x)) e.list h.1))

pub taken : (context : Context) (a b : Table) (r : ℕ) → Takes a b r → Stands context a → Stands context b × Extends a b
taken context a b r t st = (
  record {
    table = subst (λ l. IsTable context l b.next) (sym t.entries') (record {
      positive = st.table.positive;
      rises = st.table.rises;
      below = λ k e h. omega (arith, st.table.below k e h, t.next');
      single = st.table.single;
      founded = st.table.founded;
    });
    some = omega (arith, t.next', st.some);
  },
  record {
    more = [];
    list = t.entries' ∙ sym (append_none a.entries);
    later = λ k e h. absurd (nothing k e h);
    next' = omega (arith, t.next');
    limit' = t.limit';
  },
)

pub number : (context : Context) (t : Table) → Stands context t → length t.entries < t.next
number context t st = fewer context t.entries t.next st.table st.some

pub one_of : (context : Context) (t : Table) (s : Symbol) (x y : ℕ) → Stands context t → Has t.entries s x → Has t.entries s y → x ≡ y
one_of context t s x y st h i = one_id context t.entries t.next s x y st.table h i

pub symbol_of : (context : Context) (t : Table) (s u : Symbol) (x : ℕ) → Stands context t → Has t.entries s x → Has t.entries u x → s ≡ u
symbol_of context t s u x st h i = one_symbol context t.entries t.next s u x st.table h i

pub id_found : (context : Context) (t : Table) (s : Symbol) (x : ℕ) → Stands context t → Has t.entries s x → id_of t.entries s ≡ x
id_found context t s x st h = found_id context t.entries t.next s x st.table h

pub needs_there : (context : Context) (t : Table) (s : Symbol) (x : ℕ) → Stands context t → Has t.entries s x → AreThere t.entries (needs context s) x
needs_there context t s x st h = st.table.founded h.0 (entry s x) h.1
