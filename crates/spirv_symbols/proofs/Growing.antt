-- Growing the table.
use Rattle.std.proofs.Common.{◌≡◌, ℕ, zero, suc, ◌+◌, ◌<◌, ◌≤◌, ◌⊎◌, ⊎_elim, inl, inr, List, [], ◌∷◌, ◌++◌, length, Some, refl, sym, ap, ◌∙◌, subst, arith}
use Rattle.std.specs.Prelude.{slice_get}
use Rattle.std.proofs.lemmas.Option.{slice_get_within}
use Rattle.spirv_symbols.specs.declared.symbol.Symbol.{Symbol}
use Rattle.spirv_symbols.specs.declared.entry.Entry.{Entry}
use Rattle.spirv_symbols.specs.Contexts.{Context}
use Rattle.spirv_symbols.specs.Rows.{needs}
use Rattle.spirv_symbols.specs.Tables.{Table, entry, Has, Absent, AreThere, IsTable, Stands, Extends, Puts, Adds, weight}
use Rattle.spirv_symbols.proofs.EntriesLaws.{get_front, get_end, get_last, get_some, append_none}

-- A SYMBOL IS THERE
pub has_front : (entries more : List Entry) (s : Symbol) (id : ℕ) → Has entries s id → Has (entries ++ more) s id
has_front entries more s id h = (h.0, get_front entries more h.0 (entry s id) h.1)

pub there_front : (entries more : List Entry) (ss : List Symbol) (m n : ℕ) → m ≤ n → AreThere entries ss m → AreThere (entries ++ more) ss n
there_front entries more [] m n le h = tt
there_front entries more (s ∷ ss) m n le h = (
  (h.0.0, has_front entries more s h.0.0 h.0.1, omega (arith, le, h.0.2)),
  there_front entries more ss m n
      le h.1,
)

pub has_on : (a b : Table) (s : Symbol) (id : ℕ) → Extends a b → Has a.entries s id → Has b.entries s id
has_on a b s id x h = subst (λ l. Has l s id) (sym x.list) (has_front a.entries x.more s id h)

pub there_on : (a b : Table) (ss : List Symbol) (m n : ℕ) → m ≤ n → Extends a b → AreThere a.entries ss m → AreThere b.entries ss n
there_on a b ss m n le x h = subst (λ l. AreThere l ss n) (sym x.list) (there_front a.entries x.more ss m n le h)

pub there_append : (entries : List Entry) (ss us : List Symbol) (n : ℕ) → AreThere entries ss n → AreThere entries us n → AreThere entries
    (ss ++ us) n
there_append entries [] us n a b = b
there_append entries (s ∷ ss) us n a b = (a.0, there_append entries ss us n a.1 b)

pub there_left : (entries : List Entry) (ss us : List Symbol) (n : ℕ) → AreThere entries (ss ++ us) n → AreThere entries ss n
there_left entries [] us n h = tt
there_left entries (s ∷ ss) us n h = (h.0, there_left entries ss us n h.1)

pub there_right : (entries : List Entry) (ss us : List Symbol) (n : ℕ) → AreThere entries (ss ++ us) n → AreThere entries us n
there_right entries [] us n h = h
there_right entries (s ∷ ss) us n h = there_right entries ss us n h.1

-- ONE TABLE AND THE NEXT
none_more : (k : ℕ) (e : Entry) (next : ℕ) → slice_get [] k ≡ Some e → next ≤ e.id
none_more k e next h = absurd (cc h)

pub stays : (t : Table) → Extends t t
stays t = record { more = []; list = sym (append_none t.entries); later = λ k e h. none_more k e t.next h; next' = omega arith; limit' = refl }

-- THE TABLE
module _ (context : Context) where
  -- ids are above places
  pub above : (entries : List Entry) (next : ℕ) → IsTable context entries next → (k : ℕ) (e : Entry) → slice_get entries k ≡ Some e → k < e.id
  above entries next t zero e h = t.positive 0 e h
  above entries next t (suc k) e h =
      let p = get_some entries k (omega (arith, slice_get_within entries (suc k) e h)) in
      let lt = t.rises k (suc k) p.0 e (omega arith) p.1 h in
      omega (arith, above entries next t k p.0 p.1, lt)

  pub fewer : (entries : List Entry) (next : ℕ) → IsTable context entries next → 0 < next → length entries < next
  fewer entries next t some = by (length entries) refl where
    by : (n : ℕ) → length entries ≡ n → length entries < next
    by zero e = omega (arith, e, some)
    by (suc n) e =
        let p = get_some entries n (omega (arith, e)) in
        omega (arith, e, above entries next t n p.0 p.1, t.below n p.0 p.1)

  pub table_more : (entries : List Entry) (next : ℕ) (s : Symbol) → IsTable context entries next → 0 < next → Absent entries s → AreThere entries
      (needs context s) next
      → IsTable context (entries ++ entry s next ∷ []) (next + 1)
  table_more entries next s t some a n = record {
    positive = λ k e h. ⊎_elim (t.positive k e) (λ y. let i = ap (λ (z : Entry). z.id) y.1 in omega (arith, i, some))
        (get_last entries (entry s next) k e h);
    rises = λ j k e f lt x y. rising j k e f lt (get_last entries (entry s next) j e x) (get_last entries (entry s next) k f y);
    below = λ k e h. ⊎_elim (λ y. omega (arith, t.below k e y)) (λ y. let i = ap (λ (z : Entry). z.id) y.1 in omega (arith, i))
        (get_last entries (entry s next) k e h);
    single = λ j k e f x y same. alone j k e f same (get_last entries (entry s next) j e x) (get_last entries (entry s next) k f y);
    founded = λ k e h. ⊎_elim (λ y. there_front entries (entry s next ∷ []) (needs context e.symbol) e.id e.id (omega arith) (t.founded k e y))
        (λ y. subst (λ (z : Entry). AreThere (entries ++ entry s next ∷ []) (needs context z.symbol) z.id) y.1
        (there_front entries (entry s next ∷ []) (needs context s) next next (omega arith) n))
        (get_last entries (entry s next) k e h);
  } where
    rising : (j k : ℕ) (e f : Entry) → j < k → (slice_get entries j ≡ Some e) ⊎ ((j ≡ length entries) × (entry s next ≡ e))
        → (slice_get entries k ≡ Some f) ⊎ ((k ≡ length entries) × (entry s next ≡ f)) → e.id < f.id
    rising j k e f lt (inl x) (inl y) = t.rises j k e f lt x y
    rising j k e f lt (inl x) (inr y) = let i = ap (λ (z : Entry). z.id) y.1 in omega (arith, i, t.below j e x)
    rising j k e f lt (inr x) (inl y) = absurd (omega (arith, lt, x.0, slice_get_within entries k f y))
    rising j k e f lt (inr x) (inr y) = absurd (omega (arith, lt, x.0, y.0))

    here : (k : ℕ) (e : Entry) → slice_get entries k ≡ Some e → e.symbol ≡ s → ⊥
    here k e h i = a e.id (k, h ∙ ap (λ z. Some (entry z e.id)) i)

    alone : (j k : ℕ) (e f : Entry) → e.symbol ≡ f.symbol → (slice_get entries j ≡ Some e) ⊎ ((j ≡ length entries) × (entry s next ≡ e))
        → (slice_get entries k ≡ Some f) ⊎ ((k ≡ length entries) × (entry s next ≡ f)) → j ≡ k
    alone j k e f same (inl x) (inl y) = t.single j k e f x y same
    alone j k e f same (inl x) (inr y) = absurd (here j e x (same ∙ sym (ap (λ (z : Entry). z.symbol) y.1)))
    alone j k e f same (inr x) (inl y) = absurd (here k f y (sym same ∙ sym (ap (λ (z : Entry). z.symbol) x.1)))
    alone j k e f same (inr x) (inr y) = x.0 ∙ sym y.0

  pub weight_append : (xs ys : List Entry) → weight context (xs ++ ys) ≡ weight context xs + weight context ys
  weight_append [] ys = omega arith
  weight_append (x ∷ xs) ys = omega (arith, weight_append xs ys)

  -- ADDING
  pub put_there : (t : Table) (s : Symbol) (r : ℕ) → Stands context t → Has t.entries s r → Puts context t t s r
  put_there t s r st h = record {
    stands = st;
    extends = stays t;
    here = h;
    below = st.table.below h.0 (entry s r) h.1;
    ids = omega arith;
    words = omega arith;
    same = λ id i. refl;
    alone = λ a. absurd (a r h);
  }

  only : (s : Symbol) (next k : ℕ) (e : Entry) → slice_get (entry s next ∷ []) k ≡ Some e → next ≤ e.id
  only s next zero e h = let q : entry s next ≡ e = cc h in let i = ap (λ (z : Entry). z.id) q in omega (arith, i)
  only s next (suc k) e h = absurd (cc h)

  pub put_new : (a b : Table) (s : Symbol) (r : ℕ) → Stands context a → Absent a.entries s → AreThere a.entries (needs context s) a.next
      → Adds a b s r
      → Puts context a b s r
  put_new a b s r st ab n d =
      let e : b.entries ≡ a.entries ++ entry s a.next ∷ [] = d.entries' ∙ ap (λ x. a.entries ++ entry s x ∷ []) d.id in
      record {
        stands = record {
          table = subst (λ l. IsTable context l b.next) (sym e) (subst (λ x. IsTable context (a.entries ++ entry s a.next ∷ []) x) (sym d.next')
              (table_more a.entries a.next s st.table st.some ab n));
          some = omega (arith, d.next');
        };
        extends = record { more = entry s a.next ∷ []; list = e; later = only s a.next; next' = omega (arith, d.next'); limit' = d.limit' };
        here = subst (λ l. Has l s r) (sym d.entries') (length a.entries, get_end a.entries (entry s r));
        below = omega (arith, d.id, d.next');
        ids = omega (arith, d.next');
        words = omega (arith, ap (weight context) d.entries', weight_append a.entries (entry s r ∷ []));
        same = λ id h. absurd (ab id h);
        alone = λ _. (d.entries', d.next');
      }
