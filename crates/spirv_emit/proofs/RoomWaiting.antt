-- Steps on the words that wait: what every emitter keeps, and the room that is left.
use Rattle.std.proofs.Common.{◌≡◌, ℕ, ◌+◌, ◌<◌, ◌≤◌, ◌⊎◌, ⊎_elim, inl, inr, List, [], ◌∷◌, ◌++◌, length, Some, refl, sym, ap, ◌∙◌, subst, arith}
use Rattle.std.specs.Prelude.{map, sum_by}
use Rattle.std.specs.List.{sum}
use Rattle.std.proofs.lemmas.List.Sums.{sum_by-cons, sum_by_push}
use Rattle.kept_values.specs.declared.word.Word.{Word as Kept}
use Rattle.kept_values.specs.declared.word.Word.TheVariants as kept
use Rattle.kept_values.specs.Tables.{Table, id_in, dirty_in, elements_in, Among, Puts, Pops, Drops, IsLast, IsEmpty}
use Rattle.spirv_words.specs.StorageClass as storage
use Rattle.spirv_symbols.specs.declared.symbol.Symbol.{Symbol}
use Rattle.spirv_symbols.specs.declared.symbol.Symbol.TheVariants.{AType, Constant}
use Rattle.spirv_symbols.specs.declared.symbol.TypeSymbol.TheVariants.{Word, WordPointer}
use Rattle.spirv_symbols.specs.Tables.{weight, Stands, Has, AreThere}
use Rattle.spirv_emit.specs.Begun.{IsBegun, IsThere, HasVariable, AreFixed}
use Rattle.spirv_emit.proofs.Room.{has_below}
use Rattle.spirv_emit.specs.Emission.{Emission, next_of, words_used, ids_used, words_left, ids_left, waiting_words, waiting_ids}

sum_map : (f : Kept → ℕ) (xs : List Kept) → sum (map f xs) ≡ sum_by f xs
sum_map f [] = refl
sum_map f (x ∷ xs) = sum_by-cons (λ n. n) (f x) (map f xs) ∙ (ap (λ n. f x + n) (sum_map f xs) ∙ sym (sum_by-cons f x xs))

-- only the words that are kept change
module _ (a b : Emission) (frame : b.frame ≡ a.frame) (symbols : b.symbols ≡ a.symbols) (code : b.code ≡ a.code) where
  rest : length b.code.list + weight b.frame.context b.symbols.entries ≡ length a.code.list + weight a.frame.context a.symbols.entries
  rest =
      ap (λ l. length l.list + weight b.frame.context b.symbols.entries) code
      ∙ ap (λ t. length a.code.list + weight b.frame.context t.entries) symbols
      ∙ ap (λ f. length a.code.list + weight f.context a.symbols.entries) frame

  capacity : b.code.capacity ≡ a.code.capacity
  capacity = ap (λ l. l.capacity) code

  limit : b.symbols.limit ≡ a.symbols.limit
  limit = ap (λ t. t.limit) symbols

  next : next_of b ≡ next_of a
  next = ap (λ t. t.next) symbols

  -- more waits
  pub more_words : (w : ℕ) → sum_by waiting_words (dirty_in b.kept) ≤ sum_by waiting_words (dirty_in a.kept) + w → words_left a ≤ words_left b + w
  unfolding words_left
  more_words w h = omega (arith, h, rest, capacity, sum_map waiting_words (dirty_in a.kept), sum_map waiting_words (dirty_in b.kept))

  pub more_ids : (w : ℕ) → sum_by waiting_ids (dirty_in b.kept) ≤ sum_by waiting_ids (dirty_in a.kept) + w → ids_left a ≤ ids_left b + w
  unfolding ids_left
  more_ids w h = omega (arith, h, next, limit, sum_map waiting_ids (dirty_in a.kept), sum_map waiting_ids (dirty_in b.kept))

  fit_words : (w : ℕ) → sum_by waiting_words (dirty_in b.kept) ≤ sum_by waiting_words (dirty_in a.kept) + w → w ≤ words_left a
      → words_used a ≤ a.code.capacity → words_used b ≤ b.code.capacity
  unfolding words_left
  fit_words w h l u = omega (arith, h, l, u, rest, capacity, sum_map waiting_words (dirty_in a.kept), sum_map waiting_words (dirty_in b.kept))

  fit_ids : (w : ℕ) → sum_by waiting_ids (dirty_in b.kept) ≤ sum_by waiting_ids (dirty_in a.kept) + w → w ≤ ids_left a
      → ids_used a ≤ a.symbols.limit → ids_used b ≤ b.symbols.limit
  unfolding ids_left
  fit_ids w h l u = omega (arith, h, l, u, next, limit, sum_map waiting_ids (dirty_in a.kept), sum_map waiting_ids (dirty_in b.kept))

  -- less waits
  pub less_words : (w : ℕ) → sum_by waiting_words (dirty_in a.kept) ≡ sum_by waiting_words (dirty_in b.kept) + w → words_used a ≤ a.code.capacity
      → words_left a + w ≤ words_left b
  unfolding words_left
  less_words w h u = omega (arith, h, u, rest, capacity, sum_map waiting_words (dirty_in a.kept), sum_map waiting_words (dirty_in b.kept))

  pub less_ids : (w : ℕ) → sum_by waiting_ids (dirty_in a.kept) ≡ sum_by waiting_ids (dirty_in b.kept) + w → ids_used a ≤ a.symbols.limit
      → ids_left a + w ≤ ids_left b
  unfolding ids_left
  less_ids w h u = omega (arith, h, u, next, limit, sum_map waiting_ids (dirty_in a.kept), sum_map waiting_ids (dirty_in b.kept))

  -- the same waits
  pub same_words : sum_by waiting_words (dirty_in b.kept) ≡ sum_by waiting_words (dirty_in a.kept) → words_left b ≡ words_left a
  unfolding words_left
  same_words h = omega (arith, h, rest, capacity, sum_map waiting_words (dirty_in a.kept), sum_map waiting_words (dirty_in b.kept))

  pub same_ids : sum_by waiting_ids (dirty_in b.kept) ≡ sum_by waiting_ids (dirty_in a.kept) → ids_left b ≡ ids_left a
  unfolding ids_left
  same_ids h = omega (arith, h, next, limit, sum_map waiting_ids (dirty_in a.kept), sum_map waiting_ids (dirty_in b.kept))

  pub waits_begun : (w k : ℕ) → sum_by waiting_words (dirty_in b.kept) ≤ sum_by waiting_words (dirty_in a.kept) + w → w ≤ words_left a
      → sum_by waiting_ids (dirty_in b.kept) ≤ sum_by waiting_ids (dirty_in a.kept) + k → k ≤ ids_left a
      → ((x : Kept) (id : ℕ) → id_in b.kept x ≡ Some id → id < next_of a)
      → elements_in b.kept ≡ [] → IsBegun a → IsBegun b
  waits_begun w k words fit ids few below stored h = record {
    table = subst (λ f. Stands f.context b.symbols) (sym frame) (subst (Stands a.frame.context) (sym symbols) h.table);
    kept = λ x id q. let lt = below x id q in omega (arith, lt, next);
    fixed = subst (λ t. AreFixed t.entries) (sym symbols) h.fixed;
    stored = stored;
    words' = fit_words w words fit h.words';
    ids' = fit_ids k ids few h.ids';
  }

-- WHAT IS LEFT by steps of the table.
pub puts_sum : (a b : Table) (w : Kept) (id : ℕ) (f : Kept → ℕ) → Puts a b w id → sum_by f (dirty_in b) ≤ sum_by f (dirty_in a) + f w
puts_sum a b w id f h = h.sum f

among_of : (xs : List ℕ) (n : ℕ) (k : Kept) → Among (map kept.Element xs) k → (m : ℕ) × (k ≡ kept.Element m)
among_of [] n k h = absurd h
among_of (x ∷ xs) n k (inl e) = (x, sym e)
among_of (x ∷ xs) n k (inr h) = among_of xs n k h

among_back : (xs ys : List Kept) (k : Kept) → Among ys k → Among (xs ++ ys) k
among_back [] ys k h = h
among_back (x ∷ xs) ys k h = inr (among_back xs ys k h)

-- no word of an array waits, where none of those that wait is one
pub none_wait : (t : Table) → ((n : ℕ) → Among (dirty_in t) (kept.Element n) → ⊥) → elements_in t ≡ []
unfolding dirty_in
none_wait t h = by t.elements.waiting refl where
  by : (xs : List ℕ) → t.elements.waiting ≡ xs → t.elements.waiting ≡ []
  by [] e = e
  by (x ∷ xs) e =
      absurd (h x (among_back (map kept.Scratch t.scratch.waiting) (map kept.Register t.registers.waiting ++ map kept.Element t.elements.waiting)
      (kept.Element x)
      (among_back (map kept.Register t.registers.waiting) (map kept.Element t.elements.waiting) (kept.Element x)
      (subst (λ l. Among (map kept.Element l) (kept.Element x)) (sym e) (inl refl)))))

among_either : (xs ys : List Kept) (k : Kept) → Among (xs ++ ys) k → Among xs k ⊎ Among ys k
among_either [] ys k h = inr h
among_either (x ∷ xs) ys k (inl e) = inl (inl e)
among_either (x ∷ xs) ys k (inr h) = ⊎_elim (λ a. inl (inr a)) inr (among_either xs ys k h)

among_none : (f : ℕ → Kept) (xs : List ℕ) (k : Kept) → ((m : ℕ) → f m ≡ k → ⊥) → Among (map f xs) k → ⊥
among_none f [] k ne h = h
among_none f (x ∷ xs) k ne (inl e) = ne x e
among_none f (x ∷ xs) k ne (inr h) = among_none f xs k ne h

pub none_waits : (t : Table) → elements_in t ≡ [] → (n : ℕ) → Among (dirty_in t) (kept.Element n) → ⊥
unfolding dirty_in
none_waits t e n h =
    ⊎_elim (λ a. among_none kept.Scratch t.scratch.waiting (kept.Element n) (λ m q. absurd (cc q)) a)
    (λ b. ⊎_elim (λ a. among_none kept.Register t.registers.waiting (kept.Element n) (λ m q. absurd (cc q)) a)
    (λ a. subst (λ l. Among (map kept.Element l) (kept.Element n)) e a)
    (among_either (map kept.Register t.registers.waiting) (map kept.Element t.elements.waiting) (kept.Element n) b))
    (among_either (map kept.Scratch t.scratch.waiting) (map kept.Register t.registers.waiting ++ map kept.Element t.elements.waiting) (kept.Element n)
    h)

no_variable : (w : Kept) (n : ℕ) → HasVariable w → kept.Element n ≡ w → ⊥
no_variable (kept.Scratch m) n h e = absurd (cc e)
no_variable (kept.Register m) n h e = absurd (cc e)
no_variable (kept.Element m) n h e = h

pub puts_stored : (a b : Emission) (w : Kept) (id : ℕ) → Puts a.kept b.kept w id → HasVariable w → IsBegun a → elements_in b.kept ≡ []
puts_stored a b w id h has g =
    none_wait b.kept (λ n i. ⊎_elim (λ q. no_variable w n has q) (λ j. none_waits a.kept g.stored n j) (h.dirty (kept.Element n) i))

pub pops_sum : (a b : Table) (w : Kept) (id : ℕ) (f : Kept → ℕ) → Pops a b w id → sum_by f (dirty_in a) ≡ sum_by f (dirty_in b) + f w
pops_sum a b w id f h = ap (sum_by f) h.dirty ∙ sum_by_push f (dirty_in b) w

among_front : (xs ys : List Kept) (k : Kept) → Among xs k → Among (xs ++ ys) k
among_front [] ys k h = absurd h
among_front (x ∷ xs) ys k (inl e) = inl e
among_front (x ∷ xs) ys k (inr h) = inr (among_front xs ys k h)

pub pops_among : (a b : Table) (w : Kept) (id : ℕ) → Pops a b w id → (k : Kept) → Among (dirty_in b) k → Among (dirty_in a) k
pops_among a b w id h k i = subst (λ l. Among l k) (sym h.dirty) (among_front (dirty_in b) (w ∷ []) k i)

among_end : (xs : List Kept) (w k : Kept) → Among (xs ++ w ∷ []) k → (k ≡ w) ⊎ Among xs k
among_end [] w k (inl e) = inl (sym e)
among_end [] w k (inr h) = absurd h
among_end (x ∷ xs) w k (inl e) = inr (inl e)
among_end (x ∷ xs) w k (inr h) = ⊎_elim inl (λ i. inr (inr i)) (among_end xs w k h)

pub pops_either : (a b : Table) (w : Kept) (id : ℕ) → Pops a b w id → (k : Kept) → Among (dirty_in a) k → (k ≡ w) ⊎ Among (dirty_in b) k
pops_either a b w id h k i = among_end (dirty_in b) w k (subst (λ l. Among l k) h.dirty i)

-- less or the same waits, and no id is new
module _ (a b : Emission) (frame : b.frame ≡ a.frame) (symbols : b.symbols ≡ a.symbols) (code : b.code ≡ a.code) where
  pub fewer_begun : ((f : Kept → ℕ) → sum_by f (dirty_in b.kept) ≤ sum_by f (dirty_in a.kept))
      → ((x : Kept) → Among (dirty_in b.kept) x → Among (dirty_in a.kept) x)
      → ((x : Kept) (id : ℕ) → id_in b.kept x ≡ Some id → id_in a.kept x ≡ Some id) → IsBegun a → IsBegun b
  fewer_begun sums among ids h =
      waits_begun a b frame symbols code 0 0 (let s = sums waiting_words in omega (arith, s)) (omega arith)
      (let s = sums waiting_ids in omega (arith, s)) (omega arith)
      (λ x id q. h.kept x id (ids x id q)) (none_wait b.kept (λ n i. none_waits a.kept h.stored n (among (kept.Element n) i))) h

  pub dropped_begun : Drops a.kept b.kept → IsBegun a → IsBegun b
  dropped_begun d = fewer_begun (λ f. let e = ap (sum_by f) d.dirty in omega (arith, e)) (λ x i. subst (λ l. Among l x) d.dirty i) left where
    left : (x : Kept) (id : ℕ) → id_in b.kept x ≡ Some id → id_in a.kept x ≡ Some id
    left (kept.Scratch n) id q = sym (d.scratch n) ∙ q
    left (kept.Register n) id q = sym (d.registers n) ∙ q
    left (kept.Element n) id q = absurd (cc (sym (d.elements n) ∙ q))

  pub popped_begun : (w : Kept) (i : ℕ) → Pops a.kept b.kept w i → IsBegun a → IsBegun b
  popped_begun w i p = fewer_begun (λ f. let e = pops_sum a.kept b.kept w i f p in omega (arith, e)) (pops_among a.kept b.kept w i p)
      (λ x id q. sym (p.ids x) ∙ q)

-- what constants of words and variables of words need is there
there_below : (e : Emission) (s : Symbol) → IsBegun e → IsThere e.symbols.entries s → (id : ℕ) × Has e.symbols.entries s id × (id < next_of e)
there_below e s h x = (x.0, x.1, has_below e.frame.context e.symbols s x.0 h.table x.1)

pub constant_needs : (e : Emission) → IsBegun e → AreThere e.symbols.entries (AType Word ∷ []) (next_of e)
constant_needs e h = (there_below e (AType Word) h h.fixed.word, tt)

pub variable_needs : (e : Emission) (ss : List Symbol) → ss ≡ AType (WordPointer storage.Function) ∷ Constant 0 ∷ [] → IsBegun e
    → AreThere e.symbols.entries ss (next_of e)
variable_needs e ss q h =
    subst (λ l. AreThere e.symbols.entries l (next_of e)) (sym q)
    (there_below e (AType (WordPointer storage.Function)) h h.fixed.local, (there_below e (Constant 0) h h.fixed.zero', tt))

pub emptied_begun : (a b : Emission) → b.frame ≡ a.frame → b.symbols ≡ a.symbols → b.code ≡ a.code → IsEmpty b.kept → dirty_in a.kept ≡ [] → IsBegun a
    → IsBegun b
emptied_begun a b frame symbols code h clean =
    fewer_begun a b frame symbols code (λ f. let e = ap (sum_by f) (h.dirty ∙ sym clean) in omega (arith, e))
    (λ x i. subst (λ l. Among l x) (h.dirty ∙ sym clean) i) (λ x id q. absurd (cc (sym (h.ids x) ∙ q)))

among_end' : (xs : List Kept) (w : Kept) → Among (xs ++ w ∷ []) w
among_end' [] w = inl refl
among_end' (y ∷ xs) w = inr (among_end' xs w)

-- the last word that waits is no array's
pub last_variable : (a : Emission) (w : Kept) (id : ℕ) → IsBegun a → IsLast a.kept w id → HasVariable w
last_variable a (kept.Scratch n) id h last = tt
last_variable a (kept.Register n) id h last = tt
last_variable a (kept.Element n) id h last =
    none_waits a.kept h.stored n
    (subst (λ l. Among l (kept.Element n)) (sym last.dirty) (among_end' last.rest (kept.Element n)))
