-- Walks down a tree of keys, and a tree with one more key.
use Rattle.std.proofs.Common.{◌≡◌, ℕ, zero, suc, ◌+◌, ◌<◌, ◌≤◌, ◌⊎◌, ⊎_elim, inl, inr, Bool, true, false, List, [], ◌∷◌, ◌++◌, length, get_or, set, Some, slice_get, refl, sym, ap, ◌∙◌, subst, arith, eqb, length-append, length-set}
use Rattle.std.specs.Prelude.{◌≢◌, ◌&&◌, Contains}
use Rattle.std.proofs.lemmas.Bool.Decides.{eqb_tells}
use Rattle.std.proofs.lemmas.List.{get_or-set_same, get_or-set_other, get_or_append_left}
use Rattle.std.proofs.lemmas.Option.{slice_get-get_or, slice_get_within, get_or_from_slice_get}
use Rattle.node_pool.specs.declared.key.Key.{Key}
use Rattle.node_pool.specs.declared.key_tree.Link.{Link}
use Rattle.node_pool.specs.Keys.{AreDistinct}
use Rattle.node_pool.specs.KeyTrees.{path_of, goes_left, behind, link, side, with_side, child, Walk, Leads, IsTree, IsFree, grown}

-- LISTS
-- an item of a list with one more is the last, or one of the others
pub at_end_or_before : {X : Type 0} (xs : List X) (y : X) (i : ℕ) (x : X) → slice_get (xs ++ y ∷ []) i ≡ Some x → (slice_get xs i ≡ Some x) ⊎ ((i ≡ length xs) × (y ≡ x))
at_end_or_before [] y zero x h = inr (refl, cc h)
at_end_or_before [] y (suc i) x h = absurd (cc h)
at_end_or_before (z ∷ zs) y zero x h = inl h
at_end_or_before (z ∷ zs) y (suc i) x h = ⊎_elim inl (λ e. inr (ap suc e.0, e.1)) (at_end_or_before zs y i x h)

pub no_item : {X : Type 0} (xs : List X) (x : X) → ((i : ℕ) → slice_get xs i ≡ Some x → ⊥) → Contains xs x → ⊥
no_item xs x none (i, lt, e) = none i (slice_get-get_or xs i x lt ∙ ap Some e)

-- SEEKING
-- Where a key does not stand at a place from which its path leads to it, it leads on.
further : (links : List Link) (n path at rest to : ℕ) → at ≢ to → Walk links n path at rest to → (child links at path ≢ 0) × Leads links (behind path) (child links at path) to
further links zero path at rest to differ w = absurd (differ w.1)
further links (suc n) path at rest to differ w = (w.0, record { steps = n; rest = rest; walk = w.1 })

-- wherever the key stands, the path leads there
abbrev pub LeadsTo : List Key → List Link → Key → ℕ → ℕ → Type 0
LeadsTo keys links key path at = (i : ℕ) → slice_get keys i ≡ Some key → Leads links path at i

elsewhere : (keys : List Key) (key other : Key) (at i : ℕ) → slice_get keys at ≡ Some other → other ≢ key → slice_get keys i ≡ Some key → at ≢ i
elsewhere keys key other at i h differ g e = differ (cc (h, g, e))

pub sought_on : (keys : List Key) (links : List Link) (key other : Key) (path at : ℕ) → slice_get keys at ≡ Some other → other ≢ key → LeadsTo keys links key path at → LeadsTo keys links key (behind path) (child links at path)
sought_on keys links key other path at h differ leads i g = let l = leads i g in (further links l.steps path at l.rest i (elsewhere keys key other at i h differ g) l.walk).1

pub sought_in_vain : (keys : List Key) (links : List Link) (key other : Key) (path at : ℕ) → slice_get keys at ≡ Some other → other ≢ key → LeadsTo keys links key path at → child links at path ≡ 0 → Contains keys key → ⊥
sought_in_vain keys links key other path at h differ leads none = no_item keys key (λ i g. let l = leads i g in (further links l.steps path at l.rest i (elsewhere keys key other at i h differ g) l.walk).0 none)

-- one more step at the end
pub walk_on : (links : List Link) (n path at rest to : ℕ) → Walk links n path at rest to → child links to rest ≢ 0 → Walk links (suc n) path at (behind rest) (child links to rest)
walk_on links zero path at rest to w some =
    let e : child links at path ≡ child links to rest = cc (w.0, w.1) in (subst (λ c. c ≢ 0) (sym e) some, (ap behind w.0, e))
walk_on links (suc n) path at rest to w some = (w.0, walk_on links n (behind path) (child links at path) rest to w.1 some)

-- ADDING
walk_kept : (old new : List Link) → ((at path : ℕ) → child old at path ≢ 0 → child new at path ≡ child old at path) → (n path at rest to : ℕ) → Walk old n path at rest to → Walk new n path at rest to
walk_kept old new kept zero path at rest to w = w
walk_kept old new kept (suc n) path at rest to w =
    let e = kept at path w.0 in (
      subst (λ c. c ≢ 0) (sym e) w.0,
      subst (λ c. Walk new n (behind path) c rest to) (sym e) (walk_kept old new kept n (behind path) (child old at path) rest to w.1),
    )

side_here : (l : Link) (b : Bool) (key : ℕ) → side (with_side l b key) b ≡ key
side_here l true key = refl
side_here l false key = refl

-- a side is the one that was set, or as before
side_there : (l : Link) (b c : Bool) (key : ℕ) → (side (with_side l b key) c ≡ side l c) ⊎ ((side (with_side l b key) c ≡ key) × (side l c ≡ side l b))
side_there l true true key = inr (refl, refl)
side_there l true false key = inl refl
side_there l false true key = inl refl
side_there l false false key = inr (refl, refl)

no_side : (b : Bool) → side (link 0 0) b ≡ 0
no_side true = refl
no_side false = refl

past_end : (links : List Link) (at : ℕ) → length links ≤ at → get_or links at (link 0 0) ≡ link 0 0
past_end [] at h = refl
past_end (l ∷ links) zero h = absurd (omega (arith, h))
past_end (l ∷ links) (suc at) h = past_end links at (omega (arith, h))

past_end_more : (links : List Link) (at : ℕ) → length links ≤ at → get_or (links ++ link 0 0 ∷ []) at (link 0 0) ≡ link 0 0
past_end_more [] zero h = refl
past_end_more [] (suc at) h = refl
past_end_more (l ∷ links) zero h = absurd (omega (arith, h))
past_end_more (l ∷ links) (suc at) h = past_end_more links at (omega (arith, h))

abbrev pub Was : List Link → ℕ → ℕ → ℕ → ℕ → Type 0
Was links at path i p =
    (child (grown links at path) i p ≡ child links i p)
    ⊎ ((i ≡ at) × (child (grown links at path) i p ≡ length links) × (child links i p ≡ child links at path))

set_at : (links : List Link) (at : ℕ) (l : Link) → at < length links → get_or (set links at l ++ link 0 0 ∷ []) at (link 0 0) ≡ l
set_at links at l within =
    get_or_append_left (set links at l) (link 0 0 ∷ []) (link 0 0) at (omega (arith, within, length-set links at l)) ∙ get_or-set_same links at l (link 0 0) within

set_beside : (links : List Link) (at i : ℕ) (l : Link) → i ≢ at → get_or (set links at l ++ link 0 0 ∷ []) i (link 0 0) ≡ get_or links i (link 0 0)
set_beside links at i l differ = ⊎_elim inside behind' (less_or_not i (length links)) where
  less_or_not : (a b : ℕ) → (a < b) ⊎ (b ≤ a)
  less_or_not a b = grind arith

  inside : i < length links → get_or (set links at l ++ link 0 0 ∷ []) i (link 0 0) ≡ get_or links i (link 0 0)
  inside h = get_or_append_left (set links at l) (link 0 0 ∷ []) (link 0 0) i (omega (arith, h, length-set links at l)) ∙ get_or-set_other links at i l (link 0 0) differ

  behind' : length links ≤ i → get_or (set links at l ++ link 0 0 ∷ []) i (link 0 0) ≡ get_or links i (link 0 0)
  behind' h = past_end_more (set links at l) i (omega (arith, h, length-set links at l)) ∙ sym (past_end links i h)

was_here : (links : List Link) (at path p : ℕ) → at < length links → Was links at path at p
was_here links at path p within =
    let e = ap (λ l. side l (goes_left p)) (set_at links at (with_side (get_or links at (link 0 0)) (goes_left path) (length links)) within) in
    ⊎_elim (λ s. inl (e ∙ s)) (λ s. inr (refl, e ∙ s.0, s.1)) (side_there (get_or links at (link 0 0)) (goes_left path) (goes_left p) (length links))

pub was : (links : List Link) (at path i p : ℕ) → at < length links → Was links at path i p
was links at path i p within = ⊎_elim
    (λ e. subst (λ j. Was links at path j p) (sym e.1) (was_here links at path p within))
    (λ d. inl (ap (λ l. side l (goes_left p)) (set_beside links at i (with_side (get_or links at (link 0 0)) (goes_left path) (length links)) d.1)))
    (eqb_tells i at)

kept : (links : List Link) (at path : ℕ) → at < length links → child links at path ≡ 0 → (i p : ℕ) → child links i p ≢ 0 → child (grown links at path) i p ≡ child links i p
kept links at path within free i p some = ⊎_elim (λ e. e) (λ e. absurd (some (e.2 ∙ free))) (was links at path i p within)

here : (links : List Link) (at path : ℕ) → at < length links → child (grown links at path) at path ≡ length links
here links at path within =
    ap (λ l. side l (goes_left path)) (set_at links at (with_side (get_or links at (link 0 0)) (goes_left path) (length links)) within)
    ∙ side_here (get_or links at (link 0 0)) (goes_left path) (length links)

pub length-grown : (links : List Link) (at path : ℕ) → length (grown links at path) ≡ length links + 1
length-grown links at path =
    length-append (set links at (with_side (get_or links at (link 0 0)) (goes_left path) (length links))) (link 0 0 ∷ [])
    ∙ ap (λ n. n + 1) (length-set links at (with_side (get_or links at (link 0 0)) (goes_left path) (length links)))

later_grown : (keys : List Key) (links : List Link) (at path : ℕ) → IsTree keys links → at < length links → (i p : ℕ) → child (grown links at path) i p ≢ 0 → (i < child (grown links at path) i p) × (child (grown links at path) i p < length (grown links at path))
later_grown keys links at path tree within i p some = ⊎_elim old new (was links at path i p within) where
  old : child (grown links at path) i p ≡ child links i p → (i < child (grown links at path) i p) × (child (grown links at path) i p < length (grown links at path))
  old e = let l = tree.later i p (subst (λ c. c ≢ 0) e some) in (omega (arith, e, l.0), omega (arith, e, l.1, length-grown links at path))

  new : (i ≡ at) × (child (grown links at path) i p ≡ length links) × (child links i p ≡ child links at path) → (i < child (grown links at path) i p) × (child (grown links at path) i p < length (grown links at path))
  new e = (omega (arith, e.0, e.1, within), omega (arith, e.1, length-grown links at path))

-- the tree with one more key at the free place for it
pub grown_tree : (keys : List Key) (links : List Link) (key : Key) (at path : ℕ) → IsTree keys links → IsFree links key at path → IsTree (keys ++ key ∷ []) (grown links at path)
grown_tree keys links key at path tree free = record {
  same = length-grown links at path ∙ ap (λ n. n + 1) tree.same ∙ sym (length-append keys (key ∷ []));
  later = later_grown keys links at path tree free.within;
  reached = λ i other h. ⊎_elim (old i other) (new i other) (at_end_or_before keys key i other h);
} where
  old : (i : ℕ) (other : Key) → slice_get keys i ≡ Some other → Leads (grown links at path) (path_of other) 0 i
  old i other h =
      let l = tree.reached i other h in
      record { steps = l.steps; rest = l.rest; walk = walk_kept links (grown links at path) (kept links at path free.within free.free) l.steps (path_of other) 0 l.rest i l.walk }

  last : Leads (grown links at path) (path_of key) 0 (length links)
  last =
      let w = walk_kept links (grown links at path) (kept links at path free.within free.free) free.steps (path_of key) 0 path at free.walk in
      let e = here links at path free.within in
      let some : child (grown links at path) at path ≢ 0 = λ z. absurd (omega (arith, e, z, free.within)) in
      record {
        steps = suc free.steps;
        rest = behind path;
        walk = subst (λ c. Walk (grown links at path) (suc free.steps) (path_of key) 0 (behind path) c) e (walk_on (grown links at path) free.steps (path_of key) 0 path at w some);
      }

  new : (i : ℕ) (other : Key) → (i ≡ length keys) × (key ≡ other) → Leads (grown links at path) (path_of other) 0 i
  new i other e =
      subst (λ k. Leads (grown links at path) (path_of k) 0 i) e.1 (subst (λ j. Leads (grown links at path) (path_of key) 0 j) (tree.same ∙ sym e.0) last)

child_of_one : (i p : ℕ) → child (link 0 0 ∷ []) i p ≡ 0
child_of_one zero p = no_side (goes_left p)
child_of_one (suc i) p = no_side (goes_left p)

one : (key : Key) → IsTree (key ∷ []) (link 0 0 ∷ [])
one key = record {
  same = refl;
  later = λ i p some. absurd (some (child_of_one i p));
  reached = reached;
} where
  reached : (i : ℕ) (other : Key) → slice_get (key ∷ []) i ≡ Some other → Leads (link 0 0 ∷ []) (path_of other) 0 i
  reached zero other h = record { steps = 0; rest = path_of other; walk = (refl, refl) }
  reached (suc i) other h = absurd (cc h)

empty : {X : Type 0} (xs : List X) → length xs ≡ 0 → xs ≡ []
empty [] h = refl
empty (x ∷ xs) h = absurd (omega (arith, h))

-- a tree of one key, where there was none
pub first_tree : (keys : List Key) (links new : List Link) (key : Key) → IsTree keys links → length links ≡ 0 → new ≡ links ++ link 0 0 ∷ [] → IsTree (keys ++ key ∷ []) new
first_tree keys links new key tree none e =
    let k = empty keys (sym tree.same ∙ none) in
    let l : new ≡ link 0 0 ∷ [] = e ∙ ap (λ x. x ++ link 0 0 ∷ []) (empty links none) in
    subst (λ x. IsTree (x ++ key ∷ []) new) (sym k) (subst (λ x. IsTree (key ∷ []) x) (sym l) (one key))

-- DISTINCT KEYS
pub distinct_more : (keys : List Key) (key : Key) → AreDistinct keys → (Contains keys key → ⊥) → AreDistinct (keys ++ key ∷ [])
distinct_more keys key distinct absent i j k h g = two (at_end_or_before keys key i k h) (at_end_or_before keys key j k g) where
  stands : (i : ℕ) → slice_get keys i ≡ Some key → ⊥
  stands i e = absent (i, slice_get_within keys i key e, get_or_from_slice_get keys i key key e)

  two : (slice_get keys i ≡ Some k) ⊎ ((i ≡ length keys) × (key ≡ k)) → (slice_get keys j ≡ Some k) ⊎ ((j ≡ length keys) × (key ≡ k)) → i ≡ j
  two (inl a) (inl b) = distinct i j k a b
  two (inl a) (inr b) = absurd (stands i (a ∙ ap Some (sym b.1)))
  two (inr a) (inl b) = absurd (stands j (b ∙ ap Some (sym a.1)))
  two (inr a) (inr b) = a.0 ∙ sym b.0

-- FOR THE LOOPS
-- the side of a link that was read
pub at_child : (links : List Link) (at path : ℕ) (l : Link) (next : ℕ) → slice_get links at ≡ Some l → next ≡ side l (goes_left path) → next ≡ child links at path
at_child links at path l next h e = e ∙ sym (ap (λ m. side m (goes_left path)) (get_or_from_slice_get links at l (link 0 0) h))

-- one step down leads to a later key
pub stepped : (keys : List Key) (links : List Link) (at path next : ℕ) → IsTree keys links → next ≡ child links at path → next ≢ 0 → (at < next) × (next < length links)
stepped keys links at path next tree e some =
    let l = tree.later at path (subst (λ c. c ≢ 0) e some) in (omega (arith, e, l.0), omega (arith, e, l.1))

same_word : (n : ℕ) → eqb n n ≡ true
same_word n = ⊎_elim (λ e. e.0) (λ e. absurd (e.1 refl)) (eqb_tells n n)

pub differ : (a b : Key) (r : Bool) → r ≡ (eqb a.kind b.kind && eqb a.number b.number) → r ≡ false → a ≢ b
differ a b r h wrong e =
    let same : (eqb a.kind a.kind && eqb a.number a.number) ≡ true = rw (same_word a.kind, same_word a.number) refl in
    let other : (eqb a.kind a.kind && eqb a.number a.number) ≡ false = subst (λ k. (eqb a.kind k.kind && eqb a.number k.number) ≡ false) (sym e) (sym h ∙ wrong) in
    absurd (cc (same, other))
