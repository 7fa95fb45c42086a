-- The statements of guarded instructions keep within bounds.
use Rattle.std.proofs.Common.{◌≡◌, ℕ, ◌+◌, ◌/◌, ◌-◌, ◌<◌, ◌^◌, Bool, true, false, List, [], ◌∷◌, ◌++◌, map, Option, Some, None, refl, sym, ap, arith}
use Rattle.std.specs.Prelude.{nat_eq, nat_lt, not, if◌then◌else◌, ◌&&◌}
use Rattle.std.proofs.lemmas.Bool.{and_from, false≢true, lt-ltb}
use Rattle.word_base.specs.declared.arithmetic.Binary.TheVariants as two
use Rattle.word_base.specs.declared.event.Act.{Act}
use Rattle.word_base.specs.declared.event.Act.TheVariants as act
use Rattle.word_base.specs.declared.event.Room.{Room}
use Rattle.tpf_decode.specs.Opcodes.{meaning_of}
use Rattle.tpf_decode.specs.Profiles.{Base}
use Rattle.tpf_decode.specs.declared.argument.Argument.{Argument}
use Rattle.tpf_decode.specs.declared.argument.Kind.{Kind}
use Rattle.tpf_decode.specs.declared.argument.Kind.TheVariants as kind
use Rattle.tpf_decode.specs.declared.argument.Select.{Select}
use Rattle.tpf_decode.specs.declared.argument.Select.TheVariants.{Bare, Mask, Swizzle, One}
use Rattle.tpf_decode.specs.declared.meaning.Meaning.{Meaning}
use Rattle.tpf_decode.specs.declared.meaning.Meaning.TheVariants.{LoadRaw, LoadStructured, StoreRaw, StoreStructured, Measures, Acts, Compares, Fetches, Exchanges, Allocates, Consumes, Syncs}
use Rattle.tpf_program.specs.Holding.{IsProgramOfWords, SelectsInRange}
use Rattle.tpf_program.specs.Program.{Shader}
use Rattle.tpf_program.specs.Sizes.{Addressing}
use Rattle.tpf_program.specs.Sizes as sizes
use Rattle.tpf_program.specs.Spelling.{operands}
use Rattle.tpf_program.specs.Values.{selected}
use Rattle.tpf_program.specs.Views.{room_of, words_by}
use Rattle.tpf_program.specs.Writes.{in_mask, masked, written, written_by}
use Rattle.tpf_program.specs.declared.instruction.Instruction.{Instruction}
use Rattle.shader_tree.specs.declared.node.Comparison.TheVariants.{ULess}
use Rattle.shader_tree.specs.Terms.{Term}
use Rattle.shader_tree.specs.Terms as term
use Rattle.shader_tree.specs.Walks.{Each, holds_no}
use Rattle.raise_operands.specs.Bounds.{BoundLaws, IsBounded, IsWithin, is_unbounded}
use Rattle.raise_operands.specs.Folding.{literal}
use Rattle.raise_operands.specs.Raising.{chained, indices, source}
use Rattle.raise_operands.specs.Vectors.{spaces_of}
use Rattle.raise_views.specs.declared.address.Address.{Address}
use Rattle.raise_views.specs.declared.address.Reach.{Reach}
use Rattle.raise_views.specs.declared.address.Way.{Way}
use Rattle.raise_views.specs.declared.address.Way.TheVariants as way
use Rattle.raise_views.specs.Guarding.{at_of, first_measure, given_by, keeps_by, measure_by, measured, parts_by, raised, reach_of, results, room_by, statement_of, statements, stride_of, sync_part, way_of, work_by, writes}
use Rattle.raise_views.specs.Reaching.{At, answer_scratch, answered, at_byte, at_word, atomic_part, change, guarded, in_structure, index_of, index_test, is_known, keep, keep_by, keeps, known_or, load_of, load_part, loads, paired_by, place, place_by, quarter, quarter_by, stand_together, store_of, store_part, stores, structure_by, structure_scratch, structure_test, structures, sum_by, test, test_by, together, word_of, word_scratch, words_of, zero_of}
use Rattle.raise_views.proofs.Fronts.{Below, below_of, mask_ascends, selected_below, written_ascends}
use Rattle.raise_views.proofs.Naming.{each_append}

below_is : (n m : ℕ) → n < m → not (not (nat_lt n m)) ≡ true
below_is n m h = ap (λ b. not (not b)) (lt-ltb n m h)

of_word : (w : ℕ) → w < 2 ^ 32 → IsBounded (term.Word w)
of_word w h = below_is w (2 ^ 32) h

zero' : IsBounded (term.Word 0)
zero' = of_word 0 (omega arith)

both : (a b : Term) → IsBounded a → IsBounded b → (holds_no is_unbounded a && holds_no is_unbounded b) ≡ true
both a b h k = and_from (holds_no is_unbounded a) (holds_no is_unbounded b) h k

of_set : (n : ℕ) (x : Term) → n < 18 → IsBounded x → IsBounded (term.Set n x)
of_set n x h k = and_from (not (not (nat_lt n 18))) (holds_no is_unbounded x) (below_is n 18 h) k

of_load : (n : ℕ) (room : Room) (x : Term) → n < 18 → IsBounded x → IsBounded (term.Load n room x)
of_load n room x h k = and_from (not (not (nat_lt n 18))) (holds_no is_unbounded x) (below_is n 18 h) k

of_atomic : (n : ℕ) (room : Room) (x : Term) (kind : Act) (a b : Term) → n < 18 → IsBounded x → IsBounded a → IsBounded b
    → IsBounded (term.Atomic n room x kind a b)
of_atomic n room x kind a b h k l m =
    and_from (not (not (nat_lt n 18))) (holds_no is_unbounded x && (holds_no is_unbounded a && holds_no is_unbounded b)) (below_is n 18 h)
    (and_from (holds_no is_unbounded x) (holds_no is_unbounded a && holds_no is_unbounded b) k (both a b l m))

abbrev AreFew : List ℕ → Type 0
AreFew cs = Below cs

each_map : (f : ℕ → Term) (cs : List ℕ) → AreFew cs → ((c : ℕ) → c < 4 → IsBounded (f c)) → Each IsBounded (map f cs)
each_map f [] h k = tt
each_map f (c ∷ cs) h k = (k c h.0, each_map f cs h.1 k)

few_masked : (s : Select) → AreFew (masked s)
few_masked s = below_of (masked s) (mask_ascends s)

few_written : (k : Kind) (s : Select) → AreFew (written_by k s)
few_written k s = below_of (written_by k s) (written_ascends k s)

-- numbers that are known are words
abbrev IsKnown : Option ℕ → Type 0
IsKnown None = Unit {0}
IsKnown (Some w) = w < 2 ^ 32

abbrev IsNarrow : Way → Type 0
IsNarrow (way.Structures words) = words < 2 ^ 32
IsNarrow other = Unit {0}

module _ (laws : BoundLaws) where
  known_of : (x : Term) (o : Option ℕ) → literal x ≡ o → IsBounded x → IsKnown o
  known_of x None e h = tt
  known_of x (Some w) e h = laws.known x w e h

  of_known : (n : ℕ) (o : Option ℕ) → IsKnown o → IsBounded (known_or n o)
  of_known n None h = refl
  of_known n (Some w) h = of_word w h

  of_keep : (n : ℕ) (x : Term) → n < 18 → IsBounded x → IsBounded (keep n x)
  of_keep n x l h = by_literal (literal x)
    where
      by_literal : (o : Option ℕ) → IsBounded (keep_by o n x)
      by_literal (Some w) = refl
      by_literal None = of_set n x l h

  of_quarter : (x : Term) → IsBounded x → IsBounded (quarter x)
  of_quarter x h = by_literal (literal x) refl
    where
      by_literal : (o : Option ℕ) → literal x ≡ o → IsBounded (quarter_by o x)
      by_literal (Some w) e = let l = laws.known x w e h in of_word (w / 4) (omega arith)
      by_literal None e = h

  of_structures : (n : ℕ) (room : Room) → IsBounded (structures n room)
  of_structures n room = by_zero (nat_eq n 0)
    where
      by_zero : (b : Bool) → IsBounded (if b then term.Word 0 else term.Quotient (term.Length room) n)
      by_zero true = zero'
      by_zero false = refl

  -- ADDRESSES
  record IsAt (at : At) : Type 0 where
    word' : IsBounded at.word
    index' : IsBounded at.index
    narrow : IsNarrow at.way

  keeps_at : (at : At) → IsAt at → Each IsBounded (keeps at)
  keeps_at at h = (of_keep word_scratch at.word (omega arith) h.word', (of_keep structure_scratch at.index (omega arith) h.index', tt))

  byte_at : (x : Term) → IsBounded x → IsAt (at_byte x)
  byte_at x h = record { word' = of_quarter x h; index' = zero'; narrow = tt }

  structure_at : (n : ℕ) (x y : Term) → n < 2 ^ 32 → IsBounded x → IsBounded y → IsAt (in_structure n x y)
  structure_at n x y l h k = record { word' = of_quarter y k; index' = h; narrow = l }

  word_at : (x : Term) → IsBounded x → IsAt (at_word x)
  word_at x h = record { word' = h; index' = zero'; narrow = tt }

  record IsReach (r : Reach) : Type 0 where
    word' : IsKnown r.address.word
    index' : IsKnown r.address.index
    narrow : IsNarrow r.address.way

  module _ (r : Reach) (h : IsReach r) where
    of_place_word : (c : ℕ) → c < 4 → IsBounded (word_of r.address c)
    of_place_word c l = laws.added (known_or word_scratch r.address.word) c (of_known word_scratch r.address.word h.word') (omega (arith, l))

    of_index : IsBounded (index_of r.address)
    of_index = of_known structure_scratch r.address.index h.index'

    of_index_test : (n : ℕ) → IsBounded (index_test n r.room (index_of r.address))
    of_index_test n = both (index_of r.address) (structures n r.room) of_index (of_structures n r.room)

    of_structure_test : (n c : ℕ) → n < 2 ^ 32 → c < 4 → IsBounded (structure_test n r.room (index_of r.address) (word_of r.address c))
    of_structure_test n c k l =
        both (index_test n r.room (index_of r.address)) (term.Compare ULess (word_of r.address c) (term.Word n)) (of_index_test n)
        (both (word_of r.address c) (term.Word n) (of_place_word c l) (of_word n k))

    of_test : (c : ℕ) → c < 4 → IsBounded (test r c)
    of_test c l = by_way r.address.way h.narrow
      where
        by_word : (o : Option ℕ) (n : ℕ) → n < 2 ^ 32 → IsBounded (structure_by o n r.room (index_of r.address) (word_of r.address c))
        by_word None n k = of_structure_test n c k l
        by_word (Some w) n k = inside (nat_lt w n)
          where
            inside : (b : Bool) → IsBounded (if b then index_test n r.room (index_of r.address) else structure_test n r.room
                (index_of r.address) (word_of r.address c))
            inside true = of_index_test n
            inside false = of_structure_test n c k l

        by_way : (y : Way) → IsNarrow y → IsBounded (test_by y r.room r.address c)
        by_way way.Bytes k = both (word_of r.address c) (term.Length r.room) (of_place_word c l) refl
        by_way (way.Structures n) k = by_word (literal (word_of r.address c)) n k
        by_way way.Words k = both (known_or word_scratch r.address.word) (term.Length r.room) (of_known word_scratch r.address.word h.word') refl

    of_place : (c : ℕ) → c < 4 → IsBounded (place r c)
    of_place c l = by_way r.address.way
      where
        by_word : (o : Option ℕ) (n : ℕ) → literal (word_of r.address c) ≡ o → IsBounded (sum_by o (term.Product (index_of r.address) n) (word_of r.address c))
        by_word (Some w) n e = laws.added (term.Product (index_of r.address) n) w of_index (laws.known (word_of r.address c) w e (of_place_word c l))
        by_word None n e = both (term.Product (index_of r.address) n) (word_of r.address c) of_index (of_place_word c l)

        by_way : (y : Way) → IsBounded (place_by y r.address c)
        by_way way.Bytes = of_place_word c l
        by_way (way.Structures n) = by_word (literal (word_of r.address c)) n refl
        by_way way.Words = of_known word_scratch r.address.word h.word'

    of_guarded : (c : ℕ) (body : Term) → c < 4 → IsBounded body → IsBounded (guarded r c body)
    of_guarded c body l k = by_known (is_known r c)
      where
        by_known : (b : Bool) → IsBounded (if b then body else term.Guard (test r c) body)
        by_known true = k
        by_known false = both (test r c) body (of_test c l) k

    of_answered : (c n : ℕ) (body : Term) → c < 4 → n < 18 → IsBounded body → IsBounded (answered r c n body)
    of_answered c n body l m k = by_known (is_known r c)
      where
        by_known : (b : Bool) → IsBounded (if b then body else term.Then (term.Set n (term.Word 0)) (term.Guard (test r c) body))
        by_known true = k
        by_known false =
            both (term.Set n (term.Word 0)) (term.Guard (test r c) body) (of_set n (term.Word 0) m zero') (both (test r c) body (of_test c l) k)

    of_together : (xs : List Term) → Each IsBounded xs → IsBounded (together r xs)
    of_together xs k = both (index_test (words_of r.address.way) r.room (index_of r.address)) (chained xs) (of_index_test (words_of r.address.way))
        (laws.chained xs k)

    module _ (ds : List ℕ) (few : AreFew ds) (select : ℕ → ℕ) (selects : (c : ℕ) → c < 4 → select c < 4) where
      one_load : (d : ℕ) → d < 4 → IsBounded (load_of r d (select d))
      one_load d l = of_load (answer_scratch d) r.room (place r (select d)) (omega (arith, l)) (of_place (select d) (selects d l))

      of_loads : Each IsBounded (loads r ds select)
      of_loads = by_one (stand_together r (map select ds))
        where
          by_one : (b : Bool)
              → Each IsBounded (if b then map zero_of ds ++ together r (map (λ d. load_of r d (select d)) ds) ∷ [] else map
              (λ d. load_part r d (select d)) ds)
          by_one true =
              each_append IsBounded (map zero_of ds) (together r (map (λ d. load_of r d (select d)) ds) ∷ [])
              (each_map zero_of ds few (λ d l. of_set (answer_scratch d) (term.Word 0) (omega (arith, l)) zero'))
              (of_together (map (λ d. load_of r d (select d)) ds) (each_map (λ d. load_of r d (select d)) ds few one_load), tt)
          by_one false = each_map (λ d. load_part r d (select d)) ds few
              (λ d l. of_answered (select d) (answer_scratch d) (load_of r d (select d)) (selects d l) (omega (arith, l)) (one_load d l))

    of_stores : (cs : List ℕ) → AreFew cs → (v : ℕ → Term) → ((c : ℕ) → c < 4 → IsBounded (v c)) → Each IsBounded (stores r cs v)
    of_stores cs few v k = by_one (stand_together r cs)
      where
        one : (c : ℕ) → c < 4 → IsBounded (store_of r v c)
        one c l = both (place r c) (v c) (of_place c l) (k c l)

        by_one : (b : Bool) → Each IsBounded (if b then together r (map (store_of r v) cs) ∷ [] else map (λ c. store_part r c (v c)) cs)
        by_one true = (of_together (map (store_of r v) cs) (each_map (store_of r v) cs few one), tt)
        by_one false = each_map (λ c. store_part r c (v c)) cs few (λ c l. of_guarded c (store_of r v c) l (one c l))

    of_change : (kind : Act) (a b : Term) → IsBounded a → IsBounded b → IsBounded (change r kind a b)
    of_change kind a b k l = of_atomic (answer_scratch 0) r.room (place r 0) kind a b (omega arith) (of_place 0 (omega arith)) k l

    of_atomics : (kind : Act) (a b : Term) (answers : Bool) → IsBounded a → IsBounded b → IsBounded (atomic_part r kind a b answers)
    of_atomics kind a b true k l = of_answered 0 (answer_scratch 0) (change r kind a b) (omega arith) (omega arith) (of_change kind a b k l)
    of_atomics kind a b false k l = of_guarded 0 (change r kind a b) (omega arith) (of_change kind a b k l)

  module _ (p : Shader) (words : IsProgramOfWords p) (is_null : Room → Bool) (i : Instruction) (w : Each (IsWithin p) (operands i)) where
    s1 : (c : ℕ) → c < 4 → IsBounded (source (spaces_of p) 1 i.o1 c)
    s1 c l = laws.source p 1 c i.o1 w.1.0 l

    s2 : (c : ℕ) → c < 4 → IsBounded (source (spaces_of p) 2 i.o2 c)
    s2 c l = laws.source p 2 c i.o2 w.1.1.0 l

    s3 : (c : ℕ) → c < 4 → IsBounded (source (spaces_of p) 3 i.o3 c)
    s3 c l = laws.source p 3 c i.o3 w.1.1.1.0 l

    s4 : (c : ℕ) → c < 4 → IsBounded (source (spaces_of p) 4 i.o4 c)
    s4 c l = laws.source p 4 c i.o4 w.1.1.1.1.0 l

    first : 0 < 4
    first = omega arith

    words_few : (a : Argument) (y : Addressing) → way_of p a ≡ y → words_by y < 2 ^ 32
    words_few a sizes.Bytes e = omega arith
    words_few a sizes.Words e = omega arith
    words_few a (sizes.Structures stride) e = let l = words.strides a.kind a.slot stride e in omega (arith, l)

    paired_is : (a : Argument) (y : Addressing) (n : ℕ) (o : Argument) → way_of p a ≡ y → ((c : ℕ) → c < 4 → IsBounded (source (spaces_of p) n o c))
        → IsAt (paired_by y (spaces_of p) n o)
    paired_is a sizes.Bytes n o e f = byte_at (source (spaces_of p) n o 0) (f 0 (omega arith))
    paired_is a (sizes.Structures stride) n o e f =
        structure_at (stride / 4) (source (spaces_of p) n o 0) (source (spaces_of p) n o 1) (words_few a (sizes.Structures stride) e)
        (f 0 (omega arith)) (f 1 (omega arith))
    paired_is a sizes.Words n o e f = word_at (source (spaces_of p) n o 0) (f 0 (omega arith))

    at_is : (m : Meaning) → IsAt (at_of m p i)
    at_is LoadStructured = structure_at (words_by (way_of p i.o3)) (source (spaces_of p) 1 i.o1 0) (source (spaces_of p) 2 i.o2 0)
        (words_few i.o3 (way_of p i.o3) refl) (s1 0 first) (s2 0 first)
    at_is StoreStructured = structure_at (words_by (way_of p i.o0)) (source (spaces_of p) 1 i.o1 0) (source (spaces_of p) 2 i.o2 0)
        (words_few i.o0 (way_of p i.o0) refl) (s1 0 first) (s2 0 first)
    at_is (Acts kind) = paired_is i.o0 (way_of p i.o0) 1 i.o1 refl s1
    at_is Compares = paired_is i.o0 (way_of p i.o0) 1 i.o1 refl s1
    at_is (Fetches kind) = paired_is i.o1 (way_of p i.o1) 2 i.o2 refl s2
    at_is Exchanges = paired_is i.o1 (way_of p i.o1) 2 i.o2 refl s2
    at_is other = byte_at (source (spaces_of p) 1 i.o1 0) (s1 0 first)

    reach_is : (m : Meaning) → IsReach (reach_of m p i)
    reach_is m =
        let a = at_is m in
        record { word' = known_of (at_of m p i).word _ refl a.word'; index' = known_of (at_of m p i).index _ refl a.index'; narrow = a.narrow }

    kept_is : (m : Meaning) → Each IsBounded (keeps_by m (at_of m p i))
    kept_is Allocates = tt
    kept_is Consumes = tt
    kept_is other = keeps_at (at_of other p i) (at_is other)

    counter_is : (room : Room) (kind : Act) → IsBounded (term.Atomic (answer_scratch 0) room (term.Word 0) kind (term.Word 1) (term.Word 0))
    counter_is room kind =
        of_atomic (answer_scratch 0) room (term.Word 0) kind (term.Word 1) (term.Word 0) (omega arith) zero' (of_word 1 (omega arith)) zero'

    parts_are : (m : Meaning) → Each IsBounded (parts_by m (spaces_of p) (reach_of m p i) i)
    parts_are LoadRaw = of_loads (reach_of LoadRaw p i) (reach_is LoadRaw) (written i.o0) (few_written i.o0.kind i.o0.select) (selected i.o2.select)
        (λ c l. selected_below i.o2.select c w.1.1.0.range.select l)
    parts_are LoadStructured = of_loads (reach_of LoadStructured p i) (reach_is LoadStructured) (written i.o0) (few_written i.o0.kind i.o0.select)
        (selected i.o3.select) (λ c l. selected_below i.o3.select c w.1.1.1.0.range.select l)
    parts_are StoreRaw = of_stores (reach_of StoreRaw p i) (reach_is StoreRaw) (masked i.o0.select) (few_masked i.o0.select)
        (source (spaces_of p) 2 i.o2) s2
    parts_are StoreStructured = of_stores (reach_of StoreStructured p i) (reach_is StoreStructured) (masked i.o0.select) (few_masked i.o0.select)
        (source (spaces_of p) 3 i.o3) s3
    parts_are (Acts kind) = (
      of_atomics (reach_of (Acts kind) p i) (reach_is (Acts kind)) kind (source (spaces_of p) 2 i.o2 0) (term.Word 0) false
          (s2 0 first) zero',
      tt,
    )
    parts_are Compares = (
      of_atomics (reach_of Compares p i) (reach_is Compares) act.CompareExchange (source (spaces_of p) 2 i.o2 0)
          (source (spaces_of p) 3 i.o3 0) false (s2 0 first) (s3 0 first),
      tt,
    )
    parts_are (Fetches kind) = (
      of_atomics (reach_of (Fetches kind) p i) (reach_is (Fetches kind)) kind (source (spaces_of p) 3 i.o3 0) (term.Word 0)
          true (s3 0 first) zero',
      tt,
    )
    parts_are Exchanges = (
      of_atomics (reach_of Exchanges p i) (reach_is Exchanges) act.CompareExchange (source (spaces_of p) 3 i.o3 0)
          (source (spaces_of p) 4 i.o4 0) true (s3 0 first) (s4 0 first),
      tt,
    )
    parts_are Allocates = (counter_is (reach_of Allocates p i).room act.Add, tt)
    parts_are Consumes = (counter_is (reach_of Consumes p i).room act.Sub, tt)
    parts_are other = tt

    -- WHAT IS WRITTEN
    given_is : (m : Meaning) (c : ℕ) → IsBounded (given_by m c)
    given_is LoadRaw c = refl
    given_is LoadStructured c = refl
    given_is Consumes c = both (term.Scratch (answer_scratch 0)) (term.Word (2 ^ 32 - 1)) refl (of_word (2 ^ 32 - 1) (omega arith))
    given_is other c = refl

    if_is : (b : Bool) (x y : Term) → IsBounded x → IsBounded y → IsBounded (if b then x else y)
    if_is true x y h k = h
    if_is false x y h k = k

    stride_few : (a : Argument) (y : Addressing) → way_of p a ≡ y → stride_of y < 2 ^ 32
    stride_few a sizes.Bytes e = omega arith
    stride_few a sizes.Words e = omega arith
    stride_few a (sizes.Structures stride) e = words.strides a.kind a.slot stride e

    measured_is : (null : Bool) (c : ℕ) → IsBounded (measured (way_of p i.o1) null c)
    measured_is null c =
        if_is (nat_eq c 0) (first_measure (way_of p i.o1) null) (if nat_eq c 1 then term.Word (stride_of (way_of p i.o1)) else term.Word 0)
        (start (way_of p i.o1))
        (if_is (nat_eq c 1) (term.Word (stride_of (way_of p i.o1))) (term.Word 0)
        (of_word (stride_of (way_of p i.o1)) (stride_few i.o1 (way_of p i.o1) refl)) zero')
      where
        start : (y : Addressing) → IsBounded (first_measure y null)
        start sizes.Words = zero'
        start sizes.Bytes = if_is null (term.Word 0) (term.Scratch (answer_scratch 0)) zero' refl
        start (sizes.Structures stride) = if_is null (term.Word 0) (term.Scratch (answer_scratch 0)) zero' refl

    written_is : (F : ℕ → Term) → ((c : ℕ) → IsBounded (F c)) → (cs : List ℕ) → AreFew cs → Each IsBounded (writes (spaces_of p) i F cs)
    written_is F h [] f = tt
    written_is F h (c ∷ cs) f = (laws.write p i.o0 0 c (F c) w.0 f.0 (h c), written_is F h cs f.1)

    few_results : (m : Meaning) → AreFew (results m i)
    few_results LoadRaw = few_written i.o0.kind i.o0.select
    few_results LoadStructured = few_written i.o0.kind i.o0.select
    few_results Measures = few_written i.o0.kind i.o0.select
    few_results (Fetches kind) = few_written i.o0.kind i.o0.select
    few_results Exchanges = few_written i.o0.kind i.o0.select
    few_results Allocates = few_written i.o0.kind i.o0.select
    few_results Consumes = few_written i.o0.kind i.o0.select
    few_results other = tt

    -- THE WHOLE
    indices_are : Each IsBounded (indices (spaces_of p) i)
    indices_are = (
      laws.keeps p 0 i.o0 w.0 (omega arith),
      (
        laws.keeps p 1 i.o1 w.1.0 (omega arith),
        (
          laws.keeps p 2 i.o2 w.1.1.0 (omega arith),
          (
            laws.keeps p 3 i.o3 w.1.1.1.0 (omega arith),
            (laws.keeps p 4 i.o4 w.1.1.1.1.0 (omega arith), tt),
          ),
        ),
      ),
    )

    all_are : (kept ps ws : List Term) → Each IsBounded kept → Each IsBounded ps → Each IsBounded ws
        → Each IsBounded (indices (spaces_of p) i ++ (kept ++ (ps ++ ws)))
    all_are kept ps ws h k l =
        each_append IsBounded (indices (spaces_of p) i) (kept ++ (ps ++ ws)) indices_are
        (each_append IsBounded kept (ps ++ ws) h (each_append IsBounded ps ws k l))

    measure_is : (y : Addressing) → Each IsBounded (measure_by y (room_of i.o1))
    measure_is sizes.Bytes = (of_set (answer_scratch 0) (term.Product (term.Length (room_of i.o1)) 4) (omega arith) refl, tt)
    measure_is (sizes.Structures stride) =
        (of_set (answer_scratch 0) (structures (stride / 4) (room_of i.o1)) (omega arith) (of_structures (stride / 4) (room_of i.o1)), tt)
    measure_is sizes.Words = tt

    statements_are : (m : Meaning) (null : Bool) → Each IsBounded (statements (spaces_of p) i (work_by m null p i) (results m i))
    statements_are Syncs null = all_are [] (sync_part i.controls) [] tt (refl, tt) tt
    statements_are Measures true = all_are [] []
        (writes (spaces_of p) i (λ c. measured (way_of p i.o1) true (selected i.o1.select c)) (written i.o0)) tt tt
        (written_is (λ c. measured (way_of p i.o1) true (selected i.o1.select c)) (λ c. measured_is true (selected i.o1.select c)) (written i.o0)
        (few_written i.o0.kind i.o0.select))
    statements_are Measures false = all_are (measure_by (way_of p i.o1) (room_of i.o1)) []
        (writes (spaces_of p) i (λ c. measured (way_of p i.o1) false (selected i.o1.select c)) (written i.o0)) (measure_is (way_of p i.o1)) tt
        (written_is (λ c. measured (way_of p i.o1) false (selected i.o1.select c)) (λ c. measured_is false (selected i.o1.select c)) (written i.o0)
        (few_written i.o0.kind i.o0.select))
    statements_are other true = all_are [] [] (writes (spaces_of p) i (λ c. term.Word 0) (results other i)) tt tt (written_is (λ c. term.Word 0) (λ c. zero') (results other i) (few_results other))
    statements_are other false = all_are (keeps_by other (at_of other p i)) (parts_by other (spaces_of p) (reach_of other p i) i)
        (writes (spaces_of p) i (given_by other) (results other i)) (kept_is other)
        (parts_are other) (written_is (given_by other) (given_is other) (results other i) (few_results other))

    raised_is : (m : Option Meaning) → IsBounded (raised m is_null p i)
    raised_is None = refl
    raised_is (Some m) = laws.chained (statements (spaces_of p) i (work_by m (is_null (room_by m i)) p i) (results m i))
        (statements_are m (is_null (room_by m i)))

    pub bounded_statement : IsBounded (statement_of is_null p i)
    unfolding statement_of
    bounded_statement = raised_is (meaning_of Base i.code)
