-- What the parts of guarded instructions cost: the sums of words and ids over their walks.
use Rattle.std.proofs.Common.{◌≡◌, ℕ, ◌+◌, ◌*◌, ◌≤◌, Bool, true, false, List, [], ◌∷◌, ◌++◌, map, Option, Some, None, arith}
use Rattle.std.specs.Prelude.{nat_eq, nat_lt, if◌then◌else◌, filter}
use Rattle.word_base.specs.declared.arithmetic.Binary.TheVariants as two
use Rattle.word_base.specs.declared.event.Act.{Act}
use Rattle.word_base.specs.declared.event.Room.{Room}
use Rattle.shader_tree.specs.Costs.{words_in, ids_in}
use Rattle.shader_tree.specs.Terms.{Term}
use Rattle.shader_tree.specs.Terms as term
use Rattle.raise_operands.specs.Folding.{literal, added_by}
use Rattle.raise_operands.specs.Laws.{OperandCostLaws, Spends, total}
use Rattle.raise_views.specs.declared.address.Reach.{Reach}
use Rattle.raise_views.specs.declared.address.Way.{Way}
use Rattle.raise_views.specs.declared.address.Way.TheVariants as way
use Rattle.raise_views.specs.Reaching.{answer_scratch, answered, at_byte, atomic_part, change, guarded, in_structure, index_of, index_test, is_known, keep, keep_by, keeps, known_or, load_of, load_part, loads, place_by, quarter, quarter_by, stand_together, store_of, store_part, stores, structure_by, structure_test, structures, sum_by, test, test_by, together, word_of, words_of, word_scratch, structure_scratch, zero_of}

more : (x : Term) (w n v m : ℕ) → Spends x w n → w ≤ v → n ≤ m → Spends x v m
more x w n v m h k l = let a = h.in_words in let b = h.in_ids in record { in_words = omega arith; in_ids = omega arith }

-- LISTS
pub total_append : (f : Term → ℕ) (xs ys : List Term) → total f (xs ++ ys) ≡ total f xs + total f ys
total_append f [] ys = omega arith
total_append f (x ∷ xs) ys = let e = total_append f xs ys in omega arith

pub record SpendsAll (xs : List Term) (words ids : ℕ) : Type 0 where
  pub in_words : total words_in xs ≤ words
  pub in_ids : total ids_in xs ≤ ids

-- so much for each component, and for four at most
unfoldable pub spent : List ℕ → ℕ → ℕ
spent [] b = 0
spent (c ∷ cs) b = b + spent cs b

pub all_map : (f : ℕ → Term) (cs : List ℕ) (w n : ℕ) → ((c : ℕ) → Spends (f c) w n) → SpendsAll (map f cs) (spent cs w) (spent cs n)
unfolding spent
all_map f [] w n h = record { in_words = omega arith; in_ids = omega arith }
all_map f (c ∷ cs) w n h =
    let a = h c in
    let r = all_map f cs w n h in
    let x = a.in_words in let y = a.in_ids in let z = r.in_words in let u = r.in_ids in record { in_words = omega arith; in_ids = omega arith }

-- at most four components
pub record Few (cs : List ℕ) : Type 0 where
  pub few : (b : ℕ) → spent cs b ≤ 4 * b

spent_if : (t : Bool) (c : ℕ) (cs : List ℕ) (b n : ℕ) → spent cs b ≤ n → spent (if t then c ∷ cs else cs) b ≤ b + n
unfolding spent
spent_if true c cs b n h = omega arith
spent_if false c cs b n h = omega arith

spent_filter : (t : ℕ → Bool) (cs : List ℕ) (b : ℕ) → spent (filter t cs) b ≤ spent cs b
unfolding spent
spent_filter t [] b = omega arith
spent_filter t (c ∷ cs) b = spent_if (t c) c (filter t cs) b (spent cs b) (spent_filter t cs b)

pub few_filter : (t : ℕ → Bool) → Few (filter t (0 ∷ 1 ∷ 2 ∷ 3 ∷ []))
unfolding spent
few_filter t = record { few = λ b. let h = spent_filter t (0 ∷ 1 ∷ 2 ∷ 3 ∷ []) b in omega arith }

pub few_none : Few []
unfolding spent
few_none = record { few = λ b. omega arith }

-- WORDS of addresses
known_spends : (n : ℕ) (o : Option ℕ) → Spends (known_or n o) 9 2
known_spends n (Some w) = record { in_words = omega arith; in_ids = omega arith }
known_spends n None = record { in_words = omega arith; in_ids = omega arith }

added_spends : (o : Option ℕ) (a : Term) (k w n : ℕ) → Spends a w n → Spends (added_by o a k) (16 + w) (3 + n)
added_spends (Some v) a k w n h = record { in_words = omega arith; in_ids = omega arith }
added_spends None a k w n h = by_zero (nat_eq k 0)
  where
    by_zero : (b : Bool) → Spends (if b then a else term.Two two.Iadd a (term.Word k)) (16 + w) (3 + n)
    by_zero true = more a w n (16 + w) (3 + n) h (omega arith) (omega arith)
    by_zero false = let x = h.in_words in let y = h.in_ids in record { in_words = omega arith; in_ids = omega arith }

pub structures_spend : (n : ℕ) (room : Room) → Spends (structures n room) 15 3
structures_spend n room = by_zero (nat_eq n 0)
  where
    by_zero : (b : Bool) → Spends (if b then term.Word 0 else term.Quotient (term.Length room) n) 15 3
    by_zero true = record { in_words = omega arith; in_ids = omega arith }
    by_zero false = record { in_words = omega arith; in_ids = omega arith }

-- WHAT IS KEPT
keep_spends : (n : ℕ) (x : Term) (w m : ℕ) → Spends x w m → Spends (keep n x) (8 + w) (1 + m)
keep_spends n x w m h = by_literal (literal x)
  where
    by_literal : (o : Option ℕ) → Spends (keep_by o n x) (8 + w) (1 + m)
    by_literal (Some v) = record { in_words = omega arith; in_ids = omega arith }
    by_literal None = let a = h.in_words in let b = h.in_ids in record { in_words = omega arith; in_ids = omega arith }

quarter_spends : (x : Term) (w m : ℕ) → Spends x w m → Spends (quarter x) (9 + w) (2 + m)
quarter_spends x w m h = by_literal (literal x)
  where
    by_literal : (o : Option ℕ) → Spends (quarter_by o x) (9 + w) (2 + m)
    by_literal (Some v) = record { in_words = omega arith; in_ids = omega arith }
    by_literal None = let a = h.in_words in let b = h.in_ids in record { in_words = omega arith; in_ids = omega arith }

pub byte_spends : (x : Term) (w m : ℕ) → Spends x w m → SpendsAll (keeps (at_byte x)) (17 + w) (3 + m)
byte_spends x w m h =
    let k = keep_spends word_scratch (quarter x) (9 + w) (2 + m) (quarter_spends x w m h) in
    let a = k.in_words in let b = k.in_ids in record { in_words = omega arith; in_ids = omega arith }

pub structure_spends : (n : ℕ) (x y : Term) (w m v l : ℕ) → Spends x w m → Spends y v l → SpendsAll (keeps (in_structure n x y)) (25 + (w + v))
    (4 + (m + l))
structure_spends n x y w m v l h k =
    let q = keep_spends word_scratch (quarter y) (9 + v) (2 + l) (quarter_spends y v l k) in
    let r = keep_spends structure_scratch x w m h in
    let a = q.in_words in let b = q.in_ids in let c = r.in_words in let d = r.in_ids in record { in_words = omega arith; in_ids = omega arith }

pub word_spends : (x : Term) (w m : ℕ) → Spends x w m → SpendsAll (keep word_scratch x ∷ term.Nothing ∷ []) (8 + w) (1 + m)
word_spends x w m h =
    let k = keep_spends word_scratch x w m h in let a = k.in_words in let b = k.in_ids in record { in_words = omega arith; in_ids = omega arith }

-- A WAY by bytes costs less than one by structures.
abbrev pub test_words : Way → ℕ
test_words (way.Structures n) = 71
test_words other = 37

abbrev pub test_ids : Way → ℕ
test_ids (way.Structures n) = 14
test_ids other = 7

abbrev pub place_words : Way → ℕ
place_words (way.Structures n) = 55
place_words other = 25

abbrev pub place_ids : Way → ℕ
place_ids (way.Structures n) = 11
place_ids other = 5

module _ (r : Reach) where
  component_spends : (c : ℕ) → Spends (word_of r.address c) 25 5
  component_spends c = added_spends (literal (known_or word_scratch r.address.word)) (known_or word_scratch r.address.word) c 9 2
      (known_spends word_scratch r.address.word)

  index_spends : (n : ℕ) → Spends (index_test n r.room (index_of r.address)) 30 6
  index_spends n =
      let i = known_spends structure_scratch r.address.index in
      let s = structures_spend n r.room in
      let a = i.in_words in let b = i.in_ids in let c = s.in_words in let d = s.in_ids in record { in_words = omega arith; in_ids = omega arith }

  inside_spends : (n c : ℕ) → Spends (structure_test n r.room (index_of r.address) (word_of r.address c)) 71 14
  inside_spends n c =
      let i = index_spends n in
      let w = component_spends c in
      let a = i.in_words in let b = i.in_ids in let x = w.in_words in let y = w.in_ids in record { in_words = omega arith; in_ids = omega arith }

  test_spends : (c : ℕ) (y : Way) → Spends (test_by y r.room r.address c) (test_words y) (test_ids y)
  test_spends c way.Bytes = let w = component_spends c in let x = w.in_words in let y = w.in_ids in
      record { in_words = omega arith; in_ids = omega arith }
  test_spends c way.Words = let w = known_spends word_scratch r.address.word in let x = w.in_words in let y = w.in_ids in
      record { in_words = omega arith; in_ids = omega arith }
  test_spends c (way.Structures n) = by_word (literal (word_of r.address c))
    where
      by_word : (o : Option ℕ) → Spends (structure_by o n r.room (index_of r.address) (word_of r.address c)) 71 14
      by_word None = inside_spends n c
      by_word (Some w) = inside (nat_lt w n)
        where
          inside : (b : Bool) → Spends (if b then index_test n r.room (index_of r.address) else structure_test n r.room (index_of r.address)
              (word_of r.address c)) 71 14
          inside true = more _ 30 6 71 14 (index_spends n) (omega arith) (omega arith)
          inside false = inside_spends n c

  place_spends : (c : ℕ) (y : Way) → Spends (place_by y r.address c) (place_words y) (place_ids y)
  place_spends c way.Bytes = component_spends c
  place_spends c way.Words = more _ 9 2 25 5 (known_spends word_scratch r.address.word) (omega arith) (omega arith)
  place_spends c (way.Structures n) = by_word (literal (word_of r.address c))
    where
      product : Spends (term.Product (index_of r.address) n) 18 4
      product = let i = known_spends structure_scratch r.address.index in let a = i.in_words in let b = i.in_ids in
          record { in_words = omega arith; in_ids = omega arith }

      by_word : (o : Option ℕ) → Spends (sum_by o (term.Product (index_of r.address) n) (word_of r.address c)) 55 11
      by_word (Some w) = more _ 34 7 55 11 (added_spends None (term.Product (index_of r.address) n) w 18 4 product) (omega arith) (omega arith)
      by_word None = let w = component_spends c in let x = w.in_words in let y = w.in_ids in let a = product.in_words in let b = product.in_ids in
          record { in_words = omega arith; in_ids = omega arith }

  guarded_spends : (c : ℕ) (body : Term) (w n : ℕ) → Spends body w n → Spends (guarded r c body) (14 + test_words r.address.way + w)
      (2 + test_ids r.address.way + n)
  guarded_spends c body w n h = by_known (is_known r c)
    where
      by_known : (b : Bool) → Spends (if b then body else term.Guard (test r c) body) (14 + test_words r.address.way + w)
          (2 + test_ids r.address.way + n)
      by_known true = more body w n _ _ h (omega arith) (omega arith)
      by_known false =
          let t = test_spends c r.address.way in
          let a = t.in_words in let b = t.in_ids in let x = h.in_words in let y = h.in_ids in record { in_words = omega arith; in_ids = omega arith }

  answered_spends : (c k : ℕ) (body : Term) (w n : ℕ) → Spends body w n → Spends (answered r c k body) (26 + test_words r.address.way + w)
      (4 + test_ids r.address.way + n)
  answered_spends c k body w n h = by_known (is_known r c)
    where
      by_known : (b : Bool) → Spends (if b then body else term.Then (term.Set k (term.Word 0)) (term.Guard (test r c) body))
          (26 + test_words r.address.way + w) (4 + test_ids r.address.way + n)
      by_known true = more body w n _ _ h (omega arith) (omega arith)
      by_known false =
          let t = test_spends c r.address.way in
          let a = t.in_words in let b = t.in_ids in let x = h.in_words in let y = h.in_ids in record { in_words = omega arith; in_ids = omega arith }

  load_spends : (d c : ℕ) → Spends (load_of r d c) (20 + place_words r.address.way) (3 + place_ids r.address.way)
  load_spends d c = let p = place_spends c r.address.way in let a = p.in_words in let b = p.in_ids in
      record { in_words = omega arith; in_ids = omega arith }

  pub store_spends : (v : ℕ → Term) (w n : ℕ) → ((c : ℕ) → Spends (v c) w n) → (c : ℕ) → Spends (store_of r v c) (10 + place_words r.address.way + w)
      (1 + place_ids r.address.way + n)
  store_spends v w n h c =
      let p = place_spends c r.address.way in
      let q = h c in
      let a = p.in_words in let b = p.in_ids in let x = q.in_words in let y = q.in_ids in record { in_words = omega arith; in_ids = omega arith }

  least_ways : (37 ≤ test_words r.address.way) × (7 ≤ test_ids r.address.way)
  least_ways = by_way r.address.way
    where
      by_way : (y : Way) → (37 ≤ test_words y) × (7 ≤ test_ids y)
      by_way way.Bytes = (omega arith, omega arith)
      by_way (way.Structures n) = (omega arith, omega arith)
      by_way way.Words = (omega arith, omega arith)

  module _ (costs : OperandCostLaws) where
    together_spends : (xs : List Term) (w n : ℕ) → SpendsAll xs w n → Spends (together r xs) (44 + w) (8 + n)
    together_spends xs w n h =
        let t = index_spends (words_of r.address.way) in
        let a = costs.chained_words xs in
        let b = costs.chained_ids xs in
        let x = h.in_words in let y = h.in_ids in let c = t.in_words in let d = t.in_ids in record { in_words = omega arith; in_ids = omega arith }

    -- FOUR LOADS, and four stores
    pub loads_spend : (ds : List ℕ) (select : ℕ → ℕ) → Few ds
        → SpendsAll (loads r ds select) (4 * (46 + test_words r.address.way + place_words r.address.way))
        (4 * (7 + test_ids r.address.way + place_ids r.address.way))
    loads_spend ds select few = by_one (stand_together r (map select ds))
      where
        by_one : (b : Bool)
            → SpendsAll (if b then map zero_of ds ++ together r (map (λ d. load_of r d (select d)) ds) ∷ [] else map (λ d. load_part r d (select d))
            ds)
            (4 * (46 + test_words r.address.way + place_words r.address.way)) (4 * (7 + test_ids r.address.way + place_ids r.address.way))
        by_one true =
            let l = least_ways in
            let z = all_map zero_of ds 12 2 (λ d. record { in_words = omega arith; in_ids = omega arith }) in
            let m = all_map (λ d. load_of r d (select d)) ds (20 + place_words r.address.way) (3 + place_ids r.address.way)
            (λ d. load_spends d (select d)) in
            let t = together_spends (map (λ d. load_of r d (select d)) ds) _ _ m in
            let u = total_append words_in (map zero_of ds) (together r (map (λ d. load_of r d (select d)) ds) ∷ []) in
            let v = total_append ids_in (map zero_of ds) (together r (map (λ d. load_of r d (select d)) ds) ∷ []) in
            let f = few.few 12 in
            let g = few.few 2 in
            let h = few.few (20 + place_words r.address.way) in
            let k = few.few (3 + place_ids r.address.way) in
            let a = z.in_words in let b = z.in_ids in let c = t.in_words in let d = t.in_ids in let l0 = l.0 in let l1 = l.1 in
            record { in_words = omega arith; in_ids = omega arith }
        by_one false =
            let m = all_map (λ d. load_part r d (select d)) ds (26 + test_words r.address.way + (20 + place_words r.address.way))
            (4 + test_ids r.address.way + (3 + place_ids r.address.way))
            (λ d. answered_spends (select d) (answer_scratch d) (load_of r d (select d)) _ _ (load_spends d (select d))) in
            let f = few.few (26 + test_words r.address.way + (20 + place_words r.address.way)) in
            let g = few.few (4 + test_ids r.address.way + (3 + place_ids r.address.way)) in
            let a = m.in_words in let b = m.in_ids in record { in_words = omega arith; in_ids = omega arith }

    pub stores_spend : (cs : List ℕ) (v : ℕ → Term) (w n : ℕ) → ((c : ℕ) → Spends (v c) w n) → Few cs
        → SpendsAll (stores r cs v) (4 * (24 + test_words r.address.way + place_words r.address.way + w))
        (4 * (3 + test_ids r.address.way + place_ids r.address.way + n))
    stores_spend cs v w n h few = by_one (stand_together r cs)
      where
        by_one : (b : Bool)
            → SpendsAll (if b then together r (map (store_of r v) cs) ∷ [] else map (λ c. store_part r c (v c)) cs)
            (4 * (24 + test_words r.address.way + place_words r.address.way + w)) (4 * (3 + test_ids r.address.way + place_ids r.address.way + n))
        by_one true =
            let l = least_ways in
            let m = all_map (store_of r v) cs (10 + place_words r.address.way + w) (1 + place_ids r.address.way + n) (store_spends v w n h) in
            let t = together_spends (map (store_of r v) cs) _ _ m in
            let f = few.few (10 + place_words r.address.way + w) in
            let g = few.few (1 + place_ids r.address.way + n) in
            let c = t.in_words in let d = t.in_ids in let l0 = l.0 in let l1 = l.1 in record { in_words = omega arith; in_ids = omega arith }
        by_one false =
            let m = all_map (λ c. store_part r c (v c)) cs (14 + test_words r.address.way + (10 + place_words r.address.way + w))
            (2 + test_ids r.address.way + (1 + place_ids r.address.way + n))
            (λ c. guarded_spends c (store_of r v c) _ _ (store_spends v w n h c)) in
            let f = few.few (14 + test_words r.address.way + (10 + place_words r.address.way + w)) in
            let g = few.few (2 + test_ids r.address.way + (1 + place_ids r.address.way + n)) in
            let a = m.in_words in let b = m.in_ids in record { in_words = omega arith; in_ids = omega arith }

  -- ONE ATOMIC
  change_spends : (kind : Act) (a b : Term) (w n v m : ℕ) → Spends a w n → Spends b v m → Spends (change r kind a b) (79 + (w + v)) (14 + (n + m))
  change_spends kind a b w n v m h k =
      let p = place_spends 0 r.address.way in
      let l = most_place r.address.way in
      let c = p.in_words in let d = p.in_ids in let x = h.in_words in let y = h.in_ids in let z = k.in_words in let u = k.in_ids in let l0 = l.0 in
      let l1 = l.1 in
      record { in_words = omega arith; in_ids = omega arith }
    where
      most_place : (y : Way) → (place_words y ≤ 55) × (place_ids y ≤ 11)
      most_place way.Bytes = (omega arith, omega arith)
      most_place (way.Structures n) = (omega arith, omega arith)
      most_place way.Words = (omega arith, omega arith)

  most_test : (y : Way) → (test_words y ≤ 71) × (test_ids y ≤ 14)
  most_test way.Bytes = (omega arith, omega arith)
  most_test (way.Structures n) = (omega arith, omega arith)
  most_test way.Words = (omega arith, omega arith)

  pub atomic_spends : (kind : Act) (a b : Term) (answers : Bool) (w n v m : ℕ) → Spends a w n → Spends b v m
      → SpendsAll (atomic_part r kind a b answers ∷ []) (176 + (w + v)) (32 + (n + m))
  atomic_spends kind a b true w n v m h k =
      let c = answered_spends 0 (answer_scratch 0) (change r kind a b) _ _ (change_spends kind a b w n v m h k) in
      let l = most_test r.address.way in
      let x = c.in_words in let y = c.in_ids in let l0 = l.0 in let l1 = l.1 in record { in_words = omega arith; in_ids = omega arith }
  atomic_spends kind a b false w n v m h k =
      let c = guarded_spends 0 (change r kind a b) _ _ (change_spends kind a b w n v m h k) in
      let l = most_test r.address.way in
      let x = c.in_words in let y = c.in_ids in let l0 = l.0 in let l1 = l.1 in record { in_words = omega arith; in_ids = omega arith }
