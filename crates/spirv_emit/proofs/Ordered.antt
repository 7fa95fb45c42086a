-- Symbols that are put into a table one behind the other.
use Rattle.std.proofs.Common.{◌≡◌, ℕ, zero, suc, ◌+◌, ◌<◌, ◌≤◌, ◌⊎◌, ⊎_elim, inl, inr, Bool, true, false, List, [], ◌∷◌, ◌++◌, length, take, Some, refl, sym, ap, ◌∙◌, subst, arith, length-append}
use Rattle.std.specs.Prelude.{slice_get, slice_index_or, filter, map}
use Rattle.shader_tree.specs.Walks.{Each}
use Rattle.spirv_symbols.specs.declared.symbol.Symbol.{Symbol}
use Rattle.spirv_symbols.specs.declared.symbol.Symbol.TheVariants.{AType}
use Rattle.spirv_symbols.specs.declared.symbol.TypeSymbol.TheVariants.{Word}
use Rattle.spirv_symbols.specs.declared.entry.Entry.{Entry}
use Rattle.spirv_symbols.specs.Contexts.{Context}
use Rattle.spirv_symbols.specs.Rows.{needs, total, words_of}
use Rattle.spirv_symbols.specs.Tables.{Table, Has, AreThere, Stands, Extends, Puts, entry, weight}
use Rattle.spirv_emit.specs.Begun.{IsBegun, IsThere}
use Rattle.spirv_emit.specs.Code.{In}
use Rattle.spirv_emit.specs.Emission.{Emission, next_of, words_left, ids_left}
use Rattle.spirv_emit.specs.Growing.{globals_in, is_global}
use Rattle.spirv_emit.specs.Naming.{AreReady, StandInOrder, PutsAll, Names}
use Rattle.spirv_emit.proofs.Locals.{put_local, put_global}
use Rattle.spirv_emit.proofs.Room.{has_below, there_on, table_words, table_ids, table_begun}

-- LISTS
take_suc : {X : Type 0} (xs : List X) (k : ℕ) (x : X) → slice_get xs k ≡ Some x → take (suc k) xs ≡ take k xs ++ x ∷ []
take_suc [] k x h = absurd (cc h)
take_suc (y ∷ ys) zero x h = cc h
take_suc (y ∷ ys) (suc k) x h = ap (λ l. y ∷ l) (take_suc ys k x h)

take_next : {X : Type 0} (xs : List X) (k : ℕ) (x : X) → slice_get xs k ≡ Some x → take (k + 1) xs ≡ take k xs ++ x ∷ []
take_next xs k x h = let e : k + 1 ≡ suc k = omega arith in ap (λ n. take n xs) e ∙ take_suc xs k x h

each_append : {X : Type 0} (P : X → Type 0) (xs ys : List X) → Each P xs → Each P ys → Each P (xs ++ ys)
each_append P [] ys p q = q
each_append P (x ∷ xs) ys p q = (p.0, each_append P xs ys p.1 q)

each_map : {X : Type 0} (P Q : X → Type 0) (xs : List X) → ((x : X) → P x → Q x) → Each P xs → Each Q xs
each_map P Q [] f p = tt
each_map P Q (x ∷ xs) f p = (f x p.0, each_map P Q xs f p.1)

pub each_at : {X : Type 0} (P : X → Type 0) (xs : List X) (k : ℕ) (x : X) → Each P xs → slice_get xs k ≡ Some x → P x
each_at P [] k x p h = absurd (cc h)
each_at P (y ∷ ys) zero x p h = let e : y ≡ x = cc h in subst P e p.0
each_at P (y ∷ ys) (suc k) x p h = each_at P ys k x p.1 h

each_in : (P : Symbol → Type 0) (xs : List Symbol) (x : Symbol) → Each P xs → In xs x → P x
each_in P [] x p h = absurd h
each_in P (y ∷ ys) x p (inl e) = subst P e p.0
each_in P (y ∷ ys) x p (inr h) = each_in P ys x p.1 h

total_append : (f : Symbol → ℕ) (xs ys : List Symbol) → total f (xs ++ ys) ≡ total f xs + total f ys
total_append f [] ys = omega arith
total_append f (x ∷ xs) ys = omega (arith, total_append f xs ys)

-- WHAT IS NEEDED is there, where what stands in front is.
module _ (P : Symbol → Type 0) (entries : List Entry) (c : Context) (there : (s : Symbol) → IsThere entries s → P s) where
  ready : (front ss : List Symbol) → Each P front → AreReady entries front ss → Each P ss
  ready front [] p h = tt
  ready front (s ∷ ss) p h = (⊎_elim (λ t. there s t) (λ i. each_in P front s p i) h.0, ready front ss p h.1)

  ready_at : (front all : List Symbol) (k : ℕ) (x : Symbol) → StandInOrder entries c front all → Each P front
      → slice_get all k ≡ Some x → Each P (take k all) → Each P (needs c x)
  ready_at front [] k x h p g q = absurd (cc g)
  ready_at front (y ∷ ys) zero x h p g q =
      let e : y ≡ x = cc g in subst (λ z. Each P (needs c z)) e (ready front (needs c y) p h.0)
  ready_at front (y ∷ ys) (suc k) x h p g q = ready_at (y ∷ front) ys k x h.1 (q.0, p) g q.1

  ready_last : (front below : List Symbol) (s : Symbol) → StandInOrder entries c front (below ++ s ∷ []) → Each P front → Each P below
      → Each P (needs c s)
  ready_last front [] s h p q = ready front (needs c s) p h.0
  ready_last front (y ∷ ys) s h p q = ready_last (y ∷ front) ys s h.1 (q.0, p) q.1

pub order_front : (entries : List Entry) (c : Context) (front below : List Symbol) (s : Symbol)
    → StandInOrder entries c front (below ++ s ∷ []) → StandInOrder entries c front below
order_front entries c front [] s h = tt
order_front entries c front (y ∷ ys) s h = (h.0, order_front entries c (y ∷ front) ys s h.1)

-- those that need only the type of words
pub only_words : (entries : List Entry) (c : Context) (front ss : List Symbol) → In front (AType Word)
    → Each (λ s. needs c s ≡ AType Word ∷ []) ss → StandInOrder entries c front ss
only_words entries c front [] i h = tt
only_words entries c front (s ∷ ss) i h =
    (subst (AreReady entries front) (sym h.0) (inr i, tt), only_words entries c (s ∷ front) ss (inr i) h.1)

are_there : (c : Context) (t : Table) (ss : List Symbol) → Stands c t → Each (IsThere t.entries) ss → AreThere t.entries ss t.next
are_there c t [] h p = tt
are_there c t (s ∷ ss) h p = ((p.0.0, p.0.1, has_below c t s p.0.0 h p.0.1), are_there c t ss h p.1)

pub needs_at : (c : Context) (a b : Table) (all : List Symbol) (k : ℕ) (x : Symbol) → StandInOrder a.entries c [] all
    → slice_get all k ≡ Some x → PutsAll c a b (take k all) → AreThere b.entries (needs c x) b.next
needs_at c a b all k x h g n =
    are_there c b (needs c x) n.stands
    (ready_at (IsThere b.entries) a.entries c (λ s t. there_on a b s n.extends t) [] all k x h tt g n.there)

pub needs_last : (c : Context) (a b : Table) (below : List Symbol) (s : Symbol) → StandInOrder a.entries c [] (below ++ s ∷ [])
    → PutsAll c a b below → AreThere b.entries (needs c s) b.next
needs_last c a b below s h n =
    are_there c b (needs c s) n.stands
    (ready_last (IsThere b.entries) a.entries c (λ s t. there_on a b s n.extends t) [] below s h tt n.there)

-- NONE, AND ONE MORE
pub puts_none : (c : Context) (a : Table) → Stands c a → Extends a a → PutsAll c a a []
puts_none c a h x = record { stands = h; extends = x; there = tt; globals = refl; ids = omega arith; words = omega arith }

module _ (on : (t u v : Table) → Extends t u → Extends u v → Extends t v) where
  pub puts_more : (c : Context) (a b d : Table) (all : List Symbol) (k : ℕ) (x : Symbol) (r : ℕ) → slice_get all k ≡ Some x
      → is_global x ≡ false → PutsAll c a b (take k all) → Puts c b d x r → PutsAll c a d (take (k + 1) all)
  puts_more c a b d all k x r g own n p = subst (PutsAll c a d) (sym (take_next all k x g)) (record {
    stands = p.stands;
    extends = on a b d n.extends p.extends;
    there = each_append (IsThere d.entries) (take k all) (x ∷ [])
        (each_map (IsThere b.entries) (IsThere d.entries) (take k all) (λ y h. there_on b d y p.extends h) n.there)
        ((r, p.here), tt);
    globals = put_local c b d x r p own ∙ n.globals;
    ids = omega (arith, p.ids, n.ids, length-append (take k all) (x ∷ []));
    words = omega (arith, p.words, n.words, total_append (words_of c) (take k all) (x ∷ []));
  })

-- THE LAST: a global variable that was not there is one more.
filtered : (x s : Symbol) (xs : List Symbol) → In (filter is_global xs) s → In (filter is_global (x ∷ xs)) s
filtered x s xs i = by (is_global x) refl where
  by : (b : Bool) → is_global x ≡ b → In (filter is_global (x ∷ xs)) s
  by true e = rw e (inr i)
  by false e = rw e i

first_in : (s : Symbol) (xs : List Symbol) → is_global s ≡ true → In (filter is_global (s ∷ xs)) s
first_in s xs g = rw g (inl refl)

is_among : (entries : List Entry) (s : Symbol) (k id : ℕ) → is_global s ≡ true → slice_get entries k ≡ Some (entry s id)
    → In (globals_in entries) s
is_among [] s k id g h = absurd (cc h)
is_among (x ∷ xs) s zero id g h =
    let e : x ≡ entry s id = cc h in subst (λ (o : Entry). In (globals_in (o ∷ xs)) s) (sym e) (first_in s (map (λ (o : Entry). o.symbol) xs) g)
is_among (x ∷ xs) s (suc k) id g h = filtered x.symbol s (map (λ (o : Entry). o.symbol) xs) (is_among xs s k id g h)

only_one : (s : Symbol) → is_global s ≡ true → filter is_global (s ∷ []) ≡ s ∷ []
only_one s g = rw g refl

pub last_named : (a d : Emission) (b : Table) (below : List Symbol) (s : Symbol) (r : ℕ)
    → ((t u v : Table) → Extends t u → Extends u v → Extends t v)
    → d ≡ record a { symbols = d.symbols } → PutsAll a.frame.context a.symbols b below → Puts a.frame.context b d.symbols s r → Names a d s
last_named a d b below s r on rest n p = record {
  rest = rest;
  extends = on a.symbols b d.symbols n.extends p.extends;
  here = (r, p.here);
  local = λ own. put_local a.frame.context b d.symbols s r p own ∙ n.globals;
  global = λ g new.
      put_global a.frame.context b d.symbols s r p
      (λ id h. new (subst (λ l. In l s) n.globals (is_among b.entries s h.0 id g h.1)))
      ∙ (ap (λ l. l ++ filter is_global (s ∷ [])) n.globals ∙ ap (λ l. globals_in a.symbols.entries ++ l) (only_one s g));
}

-- the room behind it
module _ (a d : Emission) (b : Table) (below : List Symbol) (s : Symbol) (r : ℕ) (frame : d.frame ≡ a.frame) (code : d.code ≡ a.code)
    (kept : d.kept ≡ a.kept) (extends : Extends a.symbols d.symbols) (n : PutsAll a.frame.context a.symbols b below)
    (p : Puts a.frame.context b d.symbols s r) where
  abbrev words : ℕ
  words = total (words_of a.frame.context) (below ++ s ∷ [])

  next : next_of d ≤ next_of a + (length below + 1)
  next = omega (arith, p.ids, n.ids)

  weights : weight a.frame.context d.symbols.entries ≤ weight a.frame.context a.symbols.entries + words
  weights = omega (arith, p.words, n.words, total_append (words_of a.frame.context) below (s ∷ []))

  pub behind_words : words_left a ≤ words_left d + words
  behind_words = table_words a d frame code kept words (length below + 1) p.stands extends next weights

  pub behind_ids : ids_left a ≤ ids_left d + (length below + 1)
  behind_ids = table_ids a d frame code kept words (length below + 1) p.stands extends next weights

  pub behind_begun : words ≤ words_left a → length below + 1 ≤ ids_left a → IsBegun a → IsBegun d
  behind_begun = table_begun a d frame code kept words (length below + 1) p.stands extends next weights

pub index_at : {X : Type 0} (xs : List X) (k : ℕ) (d : X) → k < length xs → slice_get xs k ≡ Some (slice_index_or xs k d)
index_at [] k d lt = absurd (omega (arith, lt))
index_at (x ∷ xs) zero d lt = refl
index_at (x ∷ xs) (suc k) d lt = index_at xs k d (omega (arith, lt))

-- behind symbols that are no global variables
pub names_behind : (a d : Emission) (b : Table) (ss : List Symbol) (s : Symbol)
    → ((t u v : Table) → Extends t u → Extends u v → Extends t v)
    → PutsAll a.frame.context a.symbols b ss → Names (record a { symbols = b }) d s → Names a d s
names_behind a d b ss s on n h = record {
  rest = h.rest;
  extends = on a.symbols b d.symbols n.extends h.extends;
  here = h.here;
  local = λ own. h.local own ∙ n.globals;
  global = λ g new. h.global g (λ i. new (subst (λ l. In l s) n.globals i)) ∙ ap (λ l. l ++ s ∷ []) n.globals;
}
