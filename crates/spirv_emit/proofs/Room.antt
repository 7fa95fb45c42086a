-- Steps of the writing: what every emitter keeps, and the room that is left.
use Rattle.std.proofs.Common.{◌≡◌, ℕ, zero, suc, ◌+◌, ◌<◌, ◌≤◌, ◌⊎◌, ⊎_elim, inl, inr, false, List, [], ◌∷◌, ◌++◌, length, Some, refl, sym, ap, ◌∙◌, subst, arith, length-append, append-nil}
use Rattle.std.specs.Prelude.{slice_get, map, IsTrue, nat_lt}
use Rattle.std.specs.List.{sum}
use Rattle.std.proofs.lemmas.Bool.Decides.{nat_tests}
use Rattle.kept_values.specs.declared.word.Word.{Word as Kept}
use Rattle.kept_values.specs.Tables.{id_in, dirty_in, elements_in, limits_in, Keeps, Comes}
use Rattle.spirv_words.specs.Text.{instr, is_instr, fits_op}
use Rattle.spirv_words.specs.Operations.{op_of}
use Rattle.spirv_symbols.specs.declared.symbol.Symbol.{Symbol}
use Rattle.spirv_symbols.specs.Contexts.{Context}
use Rattle.spirv_symbols.specs.Rows.{words_of}
use Rattle.spirv_symbols.specs.Tables.{Table, Has, IsTable, Stands, Extends, Puts, weight}
use Rattle.spirv_symbols.specs.Tables as symbols
use Rattle.spirv_emit.specs.Begun.{IsBegun, IsThere, AreFixed}
use Rattle.spirv_emit.specs.Emission.{Emission, next_of, words_used, ids_used, words_left, ids_left, waiting_words, waiting_ids}
use Rattle.spirv_emit.specs.Growing.{Same, is_global}
use Rattle.spirv_emit.specs.Steps.{Named}
use Rattle.spirv_emit.proofs.Lists.{and_right}
use Rattle.spirv_emit.proofs.Locals.{put_local}

pub id_room : (a : Emission) → 1 ≤ ids_left a → next_of a < a.symbols.limit
unfolding ids_left
id_room a h = omega (arith, h)

pub ids_room : (a : Emission) (n : ℕ) → n ≤ ids_left a → ids_used a ≤ a.symbols.limit → next_of a + n ≤ a.symbols.limit
unfolding ids_left
ids_room a n h k = omega (arith, h, k)

pub word_room : (a : Emission) (n : ℕ) → n ≤ words_left a → 1 ≤ n → length a.code.list + n ≤ a.code.capacity
unfolding words_left
word_room a n h k = omega (arith, h, k)

-- the table of symbols stands when ids are taken
pub stands_up : (c : Context) (t u : Table) → u.entries ≡ t.entries → t.next ≤ u.next → Stands c t → Stands c u
stands_up c t u e le h = record {
  table = subst (λ l. IsTable c l u.next) (sym e) (record {
    positive = h.table.positive;
    rises = h.table.rises;
    below = λ k x q. let lt = h.table.below k x q in omega (arith, lt, le);
    single = h.table.single;
    founded = h.table.founded;
  });
  some = omega (arith, h.some, le);
}

pub has_below : (c : Context) (t : Table) (s : Symbol) (id : ℕ) → Stands c t → Has t.entries s id → id < t.next
has_below c t s id h x = h.table.below x.0 _ x.1

-- WHAT IS KEPT: nothing of what was begun is lost when ids and words are used.
module _ (a b : Emission) (frame : b.frame ≡ a.frame) (entries : b.symbols.entries ≡ a.symbols.entries) (limit : b.symbols.limit ≡ a.symbols.limit)
    (capacity : b.code.capacity ≡ a.code.capacity) (kept : b.kept ≡ a.kept) where
  weights : weight b.frame.context b.symbols.entries ≡ weight a.frame.context a.symbols.entries
  weights = ap (λ l. weight b.frame.context l) entries ∙ ap (λ f. weight f.context a.symbols.entries) frame

  dirty : (f : Kept → ℕ) → sum (map f (dirty_in b.kept)) ≡ sum (map f (dirty_in a.kept))
  dirty f = ap (λ k. sum (map f (dirty_in k))) kept

  pub used_words : (n : ℕ) → length b.code.list ≤ length a.code.list + n → words_left a ≤ words_left b + n
  unfolding words_left
  used_words n code = omega (arith, code, weights, dirty waiting_words, capacity)

  fits_words : (n : ℕ) → length b.code.list ≤ length a.code.list + n → n ≤ words_left a → words_used a ≤ a.code.capacity
      → words_used b ≤ b.code.capacity
  unfolding words_left
  fits_words n code words h = omega (arith, code, words, h, weights, dirty waiting_words, capacity)

  fits_ids : (k : ℕ) → next_of b ≤ next_of a + k → k ≤ ids_left a → ids_used a ≤ a.symbols.limit → ids_used b ≤ b.symbols.limit
  unfolding ids_left
  fits_ids k next ids h = omega (arith, next, ids, h, dirty waiting_ids, limit)

  pub used_begun : (n k : ℕ) → length b.code.list ≤ length a.code.list + n → next_of a ≤ next_of b → next_of b ≤ next_of a + k
      → n ≤ words_left a → k ≤ ids_left a → IsBegun a → IsBegun b
  used_begun n k code up next words ids h = record {
    table = subst (λ f. Stands f.context b.symbols) (sym frame) (stands_up a.frame.context a.symbols b.symbols entries up h.table);
    kept = λ w id q. let lt = h.kept w id (subst (λ t. id_in t w ≡ Some id) kept q) in omega (arith, lt, up);
    fixed = subst AreFixed (sym entries) h.fixed;
    stored = ap elements_in kept ∙ h.stored;
    words' = fits_words n code words h.words';
    ids' = fits_ids k next ids h.ids';
  }

  pub used_ids : (k : ℕ) → next_of b ≤ next_of a + k → ids_left a ≤ ids_left b + k
  unfolding ids_left
  used_ids k next = omega (arith, next, dirty waiting_ids, limit)

  pub same_words : b.code.list ≡ a.code.list → words_left b ≡ words_left a
  unfolding words_left
  same_words code = let e : length b.code.list ≡ length a.code.list = ap length code in omega (arith, e, weights, dirty waiting_words, capacity)

  pub same_ids : next_of b ≡ next_of a → ids_left b ≡ ids_left a
  unfolding ids_left
  same_ids next = omega (arith, next, dirty waiting_ids, limit)

-- the words of an instruction behind others
pub grown : (xs ys os : List ℕ) (w : ℕ) → ys ≡ xs ++ w ∷ os → length ys ≡ length xs + (length os + 1)
grown xs ys os w e = let q : length ys ≡ length (xs ++ w ∷ os) = ap length e in omega (arith, q, length-append xs (w ∷ os))

-- instructions are short
pub is_short : (op : ℕ) (os : List ℕ) → IsTrue (is_instr (instr op os)) → length os < 65535
is_short op os h = let q = and_right (fits_op (op_of op) os) (nat_lt (length os) 65535) h in grind (arith, nat_tests, q)

-- SYMBOLS that were found or made.
get_front : {X : Type 0} (xs ys : List X) (k : ℕ) (y : X) → slice_get xs k ≡ Some y → slice_get (xs ++ ys) k ≡ Some y
get_front [] ys k y h = absurd (cc h)
get_front (x ∷ xs) ys zero y h = h
get_front (x ∷ xs) ys (suc k) y h = get_front xs ys k y h

get_split : {X : Type 0} (xs ys : List X) (k : ℕ) (y : X) → slice_get (xs ++ ys) k ≡ Some y → (slice_get xs k ≡ Some y) ⊎
    ((j : ℕ) × (slice_get ys j ≡ Some y))
get_split [] ys k y h = inr (k, h)
get_split (x ∷ xs) ys zero y h = inl h
get_split (x ∷ xs) ys (suc k) y h = get_split xs ys k y h

pub has_front : (t u : Table) (s : Symbol) (id : ℕ) → Extends t u → Has t.entries s id → Has u.entries s id
has_front t u s id x h = (
  h.0,
  subst (λ l. slice_get l h.0 ≡ Some (symbols.entry s id)) (sym x.list)
      (get_front t.entries x.more h.0 (symbols.entry s id) h.1),
)

pub has_back : (t u : Table) (s : Symbol) (id : ℕ) → Extends t u → Has u.entries s id → Has t.entries s id ⊎ (t.next ≤ id)
has_back t u s id x h =
    let e = symbols.entry s id in
    ⊎_elim (λ q. inl (h.0, q)) (λ q. inr (x.later q.0 e q.1)) (get_split t.entries x.more h.0 e (subst (λ l. slice_get l h.0 ≡ Some e) x.list h.1))

pub there_on : (t u : Table) (s : Symbol) → Extends t u → IsThere t.entries s → IsThere u.entries s
there_on t u s x h = (h.0, has_front t u s h.0 x h.1)

pub fixed_on : (t u : Table) → Extends t u → AreFixed t.entries → AreFixed u.entries
fixed_on t u x h = record {
  word = there_on t u _ x h.word;
  truth = there_on t u _ x h.truth;
  pair = there_on t u _ x h.pair;
  local = there_on t u _ x h.local;
  input = there_on t u _ x h.input;
  uniform = there_on t u _ x h.uniform;
  pushed = there_on t u _ x h.pushed;
  buffer = there_on t u _ x h.buffer;
  shared = there_on t u _ x h.shared;
  zero' = there_on t u _ x h.zero';
  one = there_on t u _ x h.one;
  four = there_on t u _ x h.four;
  thirty_one = there_on t u _ x h.thirty_one;
  thirty_two = there_on t u _ x h.thirty_two;
  ones = there_on t u _ x h.ones;
  extended = there_on t u _ x h.extended;
  holds = there_on t u _ x h.holds;
  main = there_on t u _ x h.main;
  label = there_on t u _ x h.label;
}

-- Only the table of symbols grew, by so many words and ids.
module _ (a b : Emission) (frame : b.frame ≡ a.frame) (code : b.code ≡ a.code) (kept : b.kept ≡ a.kept) (n k : ℕ)
    (stands : Stands a.frame.context b.symbols) (extends : Extends a.symbols b.symbols) (next : next_of b ≤ next_of a + k)
    (weights : weight a.frame.context b.symbols.entries ≤ weight a.frame.context a.symbols.entries + n) where
  table_weight : weight b.frame.context b.symbols.entries ≤ weight a.frame.context a.symbols.entries + n
  table_weight = subst (λ f. weight f.context b.symbols.entries ≤ weight a.frame.context a.symbols.entries + n) (sym frame) weights

  table_length : length b.code.list ≡ length a.code.list
  table_length = ap (λ p. length p.list) code

  table_capacity : b.code.capacity ≡ a.code.capacity
  table_capacity = ap (λ p. p.capacity) code

  table_dirty : (f : Kept → ℕ) → sum (map f (dirty_in b.kept)) ≡ sum (map f (dirty_in a.kept))
  table_dirty f = ap (λ k. sum (map f (dirty_in k))) kept

  pub table_words : words_left a ≤ words_left b + n
  unfolding words_left
  table_words = omega (arith, table_weight, table_length, table_capacity, table_dirty waiting_words)

  pub table_ids : ids_left a ≤ ids_left b + k
  unfolding ids_left
  table_ids = omega (arith, next, extends.limit', table_dirty waiting_ids)

  table_fits_words : n ≤ words_left a → words_used a ≤ a.code.capacity → words_used b ≤ b.code.capacity
  unfolding words_left
  table_fits_words l h = omega (arith, l, h, table_weight, table_length, table_capacity, table_dirty waiting_words)

  table_fits_ids : k ≤ ids_left a → ids_used a ≤ a.symbols.limit → ids_used b ≤ b.symbols.limit
  unfolding ids_left
  table_fits_ids l h = omega (arith, l, h, next, extends.limit', table_dirty waiting_ids)

  pub table_begun : n ≤ words_left a → k ≤ ids_left a → IsBegun a → IsBegun b
  table_begun words ids h = record {
    table = subst (λ f. Stands f.context b.symbols) (sym frame) stands;
    kept = λ w id q. let lt = h.kept w id (subst (λ t. id_in t w ≡ Some id) kept q) in omega (arith, lt, extends.next');
    fixed = fixed_on a.symbols b.symbols extends h.fixed;
    stored = ap elements_in kept ∙ h.stored;
    words' = table_fits_words words h.words';
    ids' = table_fits_ids ids h.ids';
  }

-- A symbol was found or made.
module _ (a b : Emission) (s : Symbol) (r : ℕ) (frame : b.frame ≡ a.frame) (code : b.code ≡ a.code) (kept : b.kept ≡ a.kept)
    (puts : Puts a.frame.context a.symbols b.symbols s r) where
  pub named_step : is_global s ≡ false → Named a b s r
  named_step own = record {
    grows = record {
      same = record { frame = frame; limit = puts.extends.limit'; capacity = ap (λ p. p.capacity) code; limits = ap limits_in kept };
      next = puts.extends.next';
      code = ap (λ p. p.list) code ∙ sym (append-nil a.code.list);
      instructions = refl;
      distinct = refl;
      has = λ y id h. has_front a.symbols b.symbols y id puts.extends h;
      later = λ y id h. has_back a.symbols b.symbols y id puts.extends h;
      globals = put_local a.frame.context a.symbols b.symbols s r puts own;
      fresh = λ id d. absurd d;
    };
    has = puts.here;
    below = puts.below;
    kept = kept;
  }

  pub named_words : words_left a ≤ words_left b + words_of a.frame.context s
  named_words = table_words a b frame code kept (words_of a.frame.context s) 1 puts.stands puts.extends puts.ids puts.words

  pub named_ids : ids_left a ≤ ids_left b + 1
  named_ids = table_ids a b frame code kept (words_of a.frame.context s) 1 puts.stands puts.extends puts.ids puts.words

  pub named_begun : words_of a.frame.context s ≤ words_left a → 1 ≤ ids_left a → IsBegun a → IsBegun b
  named_begun = table_begun a b frame code kept (words_of a.frame.context s) 1 puts.stands puts.extends puts.ids puts.words

-- WORDS OF THE LANE that got an id.
module _ (a b : Emission) (w : Kept) (id : ℕ) (frame : b.frame ≡ a.frame) (symbols : b.symbols ≡ a.symbols) (code : b.code ≡ a.code)
    (keeps : Keeps a.kept b.kept w id) (comes : Comes a.kept b.kept id) (same : elements_in b.kept ≡ elements_in a.kept) where
  kept_dirty : (f : Kept → ℕ) → sum (map f (dirty_in b.kept)) ≡ sum (map f (dirty_in a.kept))
  kept_dirty f = ap (λ l. sum (map f l)) keeps.dirty

  kept_used : words_used b ≡ words_used a
  kept_used = ap (λ n. n + sum (map waiting_words (dirty_in b.kept)))
      (ap (λ l. length l.list + weight b.frame.context b.symbols.entries) code ∙ ap (λ n. length a.code.list + n)
      (ap (λ t. weight b.frame.context t.entries) symbols ∙ ap (λ f. weight f.context a.symbols.entries) frame))
      ∙ ap (λ n. length a.code.list + weight a.frame.context a.symbols.entries + n) (kept_dirty waiting_words)

  kept_ids_used : ids_used b ≡ ids_used a
  kept_ids_used = ap (λ t. t.next + sum (map waiting_ids (dirty_in b.kept))) symbols ∙ ap (λ n. a.symbols.next + n) (kept_dirty waiting_ids)

  pub kept_words : words_left b ≡ words_left a
  unfolding words_left
  kept_words = let e : b.code.capacity ≡ a.code.capacity = ap (λ l. l.capacity) code in omega (arith, e, kept_used)

  pub kept_ids : ids_left b ≡ ids_left a
  unfolding ids_left
  kept_ids = let e : b.symbols.limit ≡ a.symbols.limit = ap (λ t. t.limit) symbols in omega (arith, e, kept_ids_used)

  pub kept_begun : id < next_of a → IsBegun a → IsBegun b
  kept_begun lt h =
      let e : next_of b ≡ next_of a = ap (λ t. t.next) symbols in
      let l : b.symbols.limit ≡ a.symbols.limit = ap (λ t. t.limit) symbols in
      let k : b.code.capacity ≡ a.code.capacity = ap (λ l. l.capacity) code in
      record {
        table = subst (λ f. Stands f.context b.symbols) (sym frame) (subst (Stands a.frame.context) (sym symbols) h.table);
        kept = λ v i q. ⊎_elim (λ o. let n = h.kept v i o in omega (arith, n, e)) (λ o. omega (arith, o, lt, e)) (comes v i q);
        fixed = subst (λ t. AreFixed t.entries) (sym symbols) h.fixed;
        stored = same ∙ h.stored;
        words' = omega (arith, h.words', kept_used, k);
        ids' = omega (arith, h.ids', kept_ids_used, l);
      }
