-- Keys and ids as entries.
use Rattle.std.proofs.Common.{◌≡◌, ℕ, zero, suc, ◌+◌, ◌<◌, ◌⊎◌, ⊎_elim, inl, inr, true, false, List, [], ◌∷◌, ◌++◌, length, Some, refl, sym, ap, ◌∙◌, subst, arith}
use Rattle.std.specs.Prelude.{slice_get, slice_index_or, cond, Contains}
use Rattle.std.proofs.lemmas.Option.{slice_get_within}
use Rattle.node_pool.specs.declared.key.Key.{Key}
use Rattle.node_pool.specs.Keys.{AreDistinct}
use Rattle.spirv_symbols.specs.declared.symbol.Symbol.{Symbol}
use Rattle.spirv_symbols.specs.Names.{key_of, symbol_at, is_symbol}
use Rattle.spirv_symbols.specs.declared.entry.Entry.{Entry}
use Rattle.spirv_symbols.specs.Tables.{table, entry, entries_of, Has, Absent, Adds, id_of}
use Rattle.spirv_symbols.proofs.NamesLaws.{back, is_itself, differs}

-- LISTS
pub get_front : {X : Type 0} (xs ys : List X) (k : ℕ) (x : X) → slice_get xs k ≡ Some x → slice_get (xs ++ ys) k ≡ Some x
get_front [] ys k x h = absurd (cc h)
get_front (z ∷ zs) ys zero x h = h
get_front (z ∷ zs) ys (suc k) x h = get_front zs ys k x h

pub get_end : {X : Type 0} (xs : List X) (x : X) → slice_get (xs ++ x ∷ []) (length xs) ≡ Some x
get_end [] x = refl
get_end (z ∷ zs) x = get_end zs x

pub get_split : {X : Type 0} (xs ys : List X) (k : ℕ) (y : X) → slice_get (xs ++ ys) k ≡ Some y
    → (slice_get xs k ≡ Some y) ⊎ ((j : ℕ) × (k ≡ length xs + j) × (slice_get ys j ≡ Some y))
get_split [] ys k y h = let e : k ≡ 0 + k = omega arith in inr (k, e, h)
get_split (z ∷ zs) ys zero y h = inl h
get_split (z ∷ zs) ys (suc k) y h =
    ⊎_elim inl (λ p. let e : suc k ≡ suc (length zs) + p.0 = omega (arith, p.1) in inr (p.0, e, p.2)) (get_split zs ys k y h)

pub get_last : {X : Type 0} (xs : List X) (x : X) (k : ℕ) (y : X) → slice_get (xs ++ x ∷ []) k ≡ Some y
    → (slice_get xs k ≡ Some y) ⊎ ((k ≡ length xs) × (x ≡ y))
get_last [] x zero y h = inr (refl, cc h)
get_last [] x (suc k) y h = absurd (cc h)
get_last (z ∷ zs) x zero y h = inl h
get_last (z ∷ zs) x (suc k) y h = ⊎_elim inl (λ e. inr (ap suc e.0, e.1)) (get_last zs x k y h)

pub get_some : {X : Type 0} (xs : List X) (k : ℕ) → k < length xs → (x : X) × (slice_get xs k ≡ Some x)
get_some [] k h = absurd (omega (arith, h))
get_some (z ∷ zs) zero h = (z, refl)
get_some (z ∷ zs) (suc k) h = get_some zs k (omega (arith, h))

pub get_index : {X : Type 0} (xs : List X) (k : ℕ) (y : X) → slice_get xs k ≡ Some y → slice_index_or xs k y ≡ y
get_index [] k y h = absurd (cc h)
get_index (z ∷ zs) zero y h = cc h
get_index (z ∷ zs) (suc k) y h = get_index zs k y h

pub index_get : {X : Type 0} (xs : List X) (k : ℕ) (y : X) → k < length xs → slice_index_or xs k y ≡ y → slice_get xs k ≡ Some y
index_get [] k y h e = absurd (omega (arith, h))
index_get (z ∷ zs) zero y h e = ap Some e
index_get (z ∷ zs) (suc k) y h e = index_get zs k y (omega (arith, h)) e

pub contained : {X : Type 0} (xs : List X) (k : ℕ) (y : X) → slice_get xs k ≡ Some y → Contains xs y
contained xs k y h = (k, slice_get_within xs k y h, get_index xs k y h)

pub append_none : {X : Type 0} (xs : List X) → xs ++ [] ≡ xs
append_none [] = refl
append_none (x ∷ xs) = ap (λ l. x ∷ l) (append_none xs)

-- ENTRIES
pub entry_there : (keys : List Key) (ids : List ℕ) (k : ℕ) (key : Key) (x : ℕ) → slice_get keys k ≡ Some key → slice_get ids k ≡ Some x
    → slice_get (entries_of keys ids) k ≡ Some (entry (symbol_at key) x)
entry_there [] ids k key x h i = absurd (cc h)
entry_there (c ∷ keys) [] k key x h i = absurd (cc i)
entry_there (c ∷ keys) (y ∷ ids) zero key x h i =
    let e : c ≡ key = cc h in let d : y ≡ x = cc i in ap (λ z. Some (entry (symbol_at z) y)) e ∙ ap (λ z. Some (entry (symbol_at key) z)) d
entry_there (c ∷ keys) (y ∷ ids) (suc k) key x h i = entry_there keys ids k key x h i

pub record KeyAt (keys : List Key) (ids : List ℕ) (k : ℕ) (e : Entry) : Type 0 where
  pub key : Key
  pub at : slice_get keys k ≡ Some key
  pub id : slice_get ids k ≡ Some e.id
  pub symbol : symbol_at key ≡ e.symbol

pub key_there : (keys : List Key) (ids : List ℕ) (k : ℕ) (e : Entry) → slice_get (entries_of keys ids) k ≡ Some e → KeyAt keys ids k e
key_there [] ids k e h = absurd (cc h)
key_there (c ∷ keys) [] k e h = absurd (cc h)
key_there (c ∷ keys) (y ∷ ids) zero e h =
    let d : entry (symbol_at c) y ≡ e = cc h in
    record { key = c; at = refl; id = ap (λ (z : Entry). Some z.id) d; symbol = ap (λ (z : Entry). z.symbol) d }
key_there (c ∷ keys) (y ∷ ids) (suc k) e h =
    let r = key_there keys ids k e h in record { key = r.key; at = r.at; id = r.id; symbol = r.symbol }

pub entries_length : (keys : List Key) (ids : List ℕ) → length keys ≡ length ids → length (entries_of keys ids) ≡ length keys
entries_length [] ids h = refl
entries_length (c ∷ keys) [] h = absurd (omega (arith, h))
entries_length (c ∷ keys) (y ∷ ids) h = ap suc (entries_length keys ids (omega (arith, h)))

pub entries_more : (keys : List Key) (ids : List ℕ) (c : Key) (y : ℕ) → length keys ≡ length ids
    → entries_of (keys ++ c ∷ []) (ids ++ y ∷ []) ≡ entries_of keys ids ++ entry (symbol_at c) y ∷ []
entries_more [] [] c y h = refl
entries_more [] (z ∷ ids) c y h = absurd (omega (arith, h))
entries_more (d ∷ keys) [] c y h = absurd (omega (arith, h))
entries_more (d ∷ keys) (z ∷ ids) c y h = ap (λ l. entry (symbol_at d) z ∷ l) (entries_more keys ids c y (omega (arith, h)))

-- every key is a symbol's
abbrev pub AreNames : List Key → Type 0
AreNames keys = (k : ℕ) (key : Key) → slice_get keys k ≡ Some key → key_of (symbol_at key) ≡ key

pub names_more : (keys : List Key) (s : Symbol) → AreNames keys → AreNames (keys ++ key_of s ∷ [])
names_more keys s n k key h =
    ⊎_elim (n k key) (λ e. subst (λ z. key_of (symbol_at z) ≡ z) e.1 (ap key_of (back s))) (get_last keys (key_of s) k key h)

-- a symbol that is found by its key
pub found_here : (keys : List Key) (ids : List ℕ) (s : Symbol) (k x : ℕ) → slice_get keys k ≡ Some (key_of s) → slice_get ids k ≡ Some x
    → Has (entries_of keys ids) s x
found_here keys ids s k x h i =
    (k, entry_there keys ids k (key_of s) x h i ∙ ap (λ z. Some (entry z x)) (back s))

pub not_here : (keys : List Key) (ids : List ℕ) (s : Symbol) → AreNames keys → (Contains keys (key_of s) → ⊥) → Absent (entries_of keys ids) s
not_here keys ids s n a id h =
    let r = key_there keys ids h.0 (entry s id) h.1 in
    a (contained keys h.0 (key_of s) (r.at ∙ ap Some (sym (n h.0 r.key r.at) ∙ ap key_of r.symbol)))

pub key_absent : (keys : List Key) (ids : List ℕ) (s : Symbol) → length keys ≡ length ids → Absent (entries_of keys ids) s → Contains keys (key_of s)
    → ⊥
key_absent keys ids s e a c =
    let x = get_some ids c.0 (omega (arith, e, c.1)) in
    a x.0 (found_here keys ids s c.0 x.0 (index_get keys c.0 (key_of s) c.1 c.2) x.1)

-- the first id of a symbol is its one id
pub first_id : (keys : List Key) (ids : List ℕ) (s : Symbol) (k x : ℕ) → AreDistinct keys → AreNames keys → slice_get keys k ≡ Some (key_of s)
    → slice_get ids k ≡ Some x → x ≡ id_of (entries_of keys ids) s
first_id [] ids s k x d n h i = absurd (cc h)
first_id (c ∷ keys) [] s k x d n h i = absurd (cc i)
first_id (c ∷ keys) (y ∷ ids) s zero x d n h i =
    let e : c ≡ key_of s = cc h in
    let t : is_symbol (symbol_at c) s ≡ true = ap (λ z. is_symbol (symbol_at z) s) e ∙ (ap (λ z. is_symbol z s) (back s) ∙ is_itself s) in
    let f : y ≡ x = cc i in
    sym f ∙ sym (ap (λ b. cond b y (id_of (entries_of keys ids) s)) t)
first_id (c ∷ keys) (y ∷ ids) s (suc k) x d n h i =
    let t : is_symbol (symbol_at c) s ≡ false =
    differs (symbol_at c) s (λ e. let z = d 0 (suc k) (key_of s) (ap Some (sym (n 0 c refl) ∙ ap key_of e)) h in absurd (omega (arith, z))) in
    first_id keys ids s k x (λ a b q u v. let z = d (suc a) (suc b) q u v in omega (arith, z)) (λ a q u. n (suc a) q u) h i
    ∙ sym (ap (λ b. cond b y (id_of (entries_of keys ids) s)) t)

-- a symbol that is added
pub added : (keys keys' : List Key) (ids ids' : List ℕ) (s : Symbol) (key : Key) (next limit limit' : ℕ) → length keys ≡ length ids → key ≡ key_of s
    → keys' ≡ keys ++ key ∷ [] → ids' ≡ ids ++ next ∷ [] → limit' ≡ limit
    → Adds (table (entries_of keys ids) next limit) (table (entries_of keys' ids') (next + 1) limit') s next
added keys keys' ids ids' s key next limit limit' h e p q r = record {
  entries' =
      ap (λ l. entries_of l ids') p ∙ ap (λ l. entries_of (keys ++ key ∷ []) l) q ∙ entries_more keys ids key next h
      ∙ ap (λ (z : Symbol). entries_of keys ids ++ entry z next ∷ []) (ap symbol_at e ∙ back s);
  id = refl;
  next' = refl;
  limit' = r;
}

pub no_id : (entries : List Entry) (s : Symbol) → Absent entries s → 0 ≡ id_of entries s
no_id [] s a = refl
no_id (e ∷ es) s a =
    no_id es s (λ id h. a id (suc h.0, h.1))
    ∙ sym (ap (λ b. cond b e.id (id_of es s)) (differs e.symbol s (λ i. a e.id (0, ap (λ z. Some (entry z e.id)) i))))
