-- Statements of instructions keep within bounds.
use Rattle.std.proofs.Common.{◌≡◌, ℕ, ◌+◌, ◌*◌, ◌%◌, ◌<◌, ◌^◌, Bool, true, false, List, [], ◌∷◌, ◌++◌, map, Option, Some, None, refl, ap, subst, arith}
use Rattle.std.specs.Prelude.{nat_eq, nat_lt, not, if◌then◌else◌, ◌&&◌, slice_index}
use Rattle.std.proofs.lemmas.Bool.{and_from, lt-ltb, ltb-true}
use Rattle.word_base.specs.declared.arithmetic.Unary.{Unary}
use Rattle.word_base.specs.declared.arithmetic.Unary.TheVariants as one
use Rattle.word_base.specs.declared.arithmetic.Binary.{Binary}
use Rattle.word_base.specs.declared.arithmetic.Binary.TheVariants as two
use Rattle.word_base.specs.declared.arithmetic.Ternary.{Ternary}
use Rattle.word_base.specs.declared.arithmetic.Paired.{Paired}
use Rattle.word_base.specs.Alu.{unary, binary, ternary, inserted_field, pair}
use Rattle.word_base.specs.Words.{AreWords}
use Rattle.tpf_decode.specs.declared.argument.Argument.{Argument}
use Rattle.tpf_decode.specs.declared.argument.Kind.{Kind}
use Rattle.tpf_decode.specs.declared.argument.Kind.TheVariants as kind
use Rattle.tpf_decode.specs.declared.argument.Relative.{Relative}
use Rattle.tpf_decode.specs.declared.meaning.Meaning.{Meaning}
use Rattle.tpf_decode.specs.declared.meaning.Meaning.TheVariants.{One, Two, Three, Inserts, Pair, Swaps}
use Rattle.tpf_decode.specs.Opcodes.{meaning_of}
use Rattle.tpf_decode.specs.Profiles.{Base}
use Rattle.tpf_program.specs.Program.{Shader}
use Rattle.tpf_program.specs.Spelling.{operands}
use Rattle.tpf_program.specs.Values.{of_four, selected}
use Rattle.tpf_program.specs.declared.instruction.Instruction.{Instruction}
use Rattle.shader_tree.specs.declared.node.Space.{Space}
use Rattle.shader_tree.specs.declared.node.Space.TheVariants.{Temps, Indexable, Constant, ImmediateConstant}
use Rattle.shader_tree.specs.Terms.{Term}
use Rattle.shader_tree.specs.Terms as term
use Rattle.shader_tree.specs.Values.{Spaces}
use Rattle.shader_tree.specs.Walks.{Each, holds_no}
use Rattle.raise_operands.specs.Bounds.{IsBounded, IsWithin, is_unbounded}
use Rattle.raise_operands.specs.Folding.{literal, added_by, unary_of, unary_by, binary_by, ternary_by, insert_by, first_by, second_by, chosen_by}
use Rattle.raise_operands.specs.Raises.{AddsInRange, AreSmall}
use Rattle.raise_operands.specs.Raising.{Part, source, source_by, is_nothing, followed, chained_from, computed, computed_second, first_written, second_written, first_part, second_part, first_waits, second_waits, parts, target, target_by, write_by, now, behind, indices, raised, raised_by, statement_of}
use Rattle.raise_operands.specs.Vectors.{Vector, Outside, At, Indexed, spaces_of, vectors_in, vector_of, vector_by, word_of, known_word, vector_word, thread_word, named_word, relative_word, index_word, vector, keeps_by, keeps_index, inside}
use Rattle.raise_operands.proofs.Basics.{each_append, each_map}
use Rattle.raise_operands.proofs.Computed.{written_components}
use Rattle.raise_operands.proofs.Meaning.{four_below}
use Rattle.raise_operands.proofs.Sources.{selected_below}

-- what is computed of words are words
pub record Results : Type 0 where
  pub unary' : (op : Unary) (a : ℕ) → a < 2 ^ 32 → unary op a < 2 ^ 32
  pub binary' : (op : Binary) (a b : ℕ) → a < 2 ^ 32 → b < 2 ^ 32 → binary op a b < 2 ^ 32
  pub ternary' : (op : Ternary) (a b c : ℕ) → a < 2 ^ 32 → b < 2 ^ 32 → c < 2 ^ 32 → ternary op a b c < 2 ^ 32
  pub insert' : (width offset inserted base : ℕ) → base < 2 ^ 32 → inserted_field width offset inserted base < 2 ^ 32
  pub first' : (op : Paired) (a b : ℕ) → a < 2 ^ 32 → b < 2 ^ 32 → (pair op a b).first < 2 ^ 32
  pub second' : (op : Paired) (a b : ℕ) → a < 2 ^ 32 → b < 2 ^ 32 → (pair op a b).second < 2 ^ 32

below_is : (n m : ℕ) → n < m → not (not (nat_lt n m)) ≡ true
below_is n m h = ap (λ b. not (not b)) (lt-ltb n m h)

pub of_word : (w : ℕ) → w < 2 ^ 32 → IsBounded (term.Word w)
of_word w h = below_is w (2 ^ 32) h

pub of_set : (n : ℕ) (x : Term) → n < 18 → IsBounded x → IsBounded (term.Set n x)
of_set n x h k = and_from (not (not (nat_lt n 18))) (holds_no is_unbounded x) (below_is n 18 h) k

two_of : (a b : Term) → IsBounded a → IsBounded b → (holds_no is_unbounded a && holds_no is_unbounded b) ≡ true
two_of a b h k = and_from (holds_no is_unbounded a) (holds_no is_unbounded b) h k

three_of : (a b c : Term) → IsBounded a → IsBounded b → IsBounded c
    → (holds_no is_unbounded a && (holds_no is_unbounded b && holds_no is_unbounded c)) ≡ true
three_of a b c h k l = and_from (holds_no is_unbounded a) (holds_no is_unbounded b && holds_no is_unbounded c) h (two_of b c k l)

four_of : (a b c d : Term) → IsBounded a → IsBounded b → IsBounded c → IsBounded d
    → (holds_no is_unbounded a && (holds_no is_unbounded b && (holds_no is_unbounded c && holds_no is_unbounded d))) ≡ true
four_of a b c d h k l m =
    and_from (holds_no is_unbounded a) (holds_no is_unbounded b && (holds_no is_unbounded c && holds_no is_unbounded d)) h (three_of b c d k l m)

-- the word of a literal
word_below : (w : ℕ) → not (not (nat_lt w (2 ^ 32))) ≡ true → w < 2 ^ 32
word_below w h = ltb-true w (2 ^ 32) (twice (nat_lt w (2 ^ 32)) h)
  where
    twice : (b : Bool) → not (not b) ≡ true → b ≡ true
    twice true e = refl
    twice false e = absurd (cc e)

pub literal_below : (a : Term) (w : ℕ) → literal a ≡ Some w → IsBounded a → w < 2 ^ 32
literal_below (term.Word v) w e h = let same : v ≡ w = cc e in subst (λ x. x < 2 ^ 32) same (word_below v h)
literal_below other w e h = absurd (cc e)

-- WORDS THAT ARE ADDED, COMPUTED AND CHOSEN
pub bounded_added : (o : Option ℕ) (a : Term) (n : ℕ) → IsBounded a → n < 2 ^ 32 → IsBounded (added_by o a n)
bounded_added (Some w) a n h k = of_word ((w + n) % 2 ^ 32) (omega arith)
bounded_added None a n h k = by_zero (nat_eq n 0)
  where
    by_zero : (b : Bool) → IsBounded (if b then a else term.Two two.Iadd a (term.Word n))
    by_zero true = h
    by_zero false = two_of a (term.Word n) h (of_word n k)

-- CHAINS
bounded_followed : (a b : Term) → IsBounded a → IsBounded b → IsBounded (followed a b)
bounded_followed a b h k = first (is_nothing a) (is_nothing b)
  where
    first : (x y : Bool) → IsBounded (if x then b else if y then a else term.Then a b)
    first true y = k
    first false true = h
    first false false = two_of a b h k

pub bounded_chained : (xs : List Term) (a : Term) → IsBounded a → Each IsBounded xs → IsBounded (chained_from a xs)
bounded_chained [] a h k = h
bounded_chained (x ∷ xs) a h k = bounded_chained xs (followed a x) (bounded_followed a x h k.0) k.1

module _ (r : Results) where
  bounded_one : (o : Option ℕ) (op : Unary) (a : Term) → literal a ≡ o → IsBounded a → IsBounded (unary_by o op a)
  bounded_one (Some w) op a e h = of_word (unary op w) (r.unary' op w (literal_below a w e h))
  bounded_one None op a e h = h

  bounded_unary : (op : Unary) (a : Term) → IsBounded a → IsBounded (unary_of op a)
  bounded_unary one.Mov a h = h
  bounded_unary other a h = bounded_one (literal a) other a refl h

  bounded_binary : (o q : Option ℕ) (op : Binary) (a b : Term) → literal a ≡ o → literal b ≡ q → IsBounded a → IsBounded b
      → IsBounded (binary_by o q op a b)
  bounded_binary (Some v) (Some w) op a b d e h k = of_word (binary op v w) (r.binary' op v w (literal_below a v d h) (literal_below b w e k))
  bounded_binary None q op a b d e h k = two_of a b h k
  bounded_binary (Some v) None op a b d e h k = two_of a b h k

  bounded_ternary : (o q s : Option ℕ) (op : Ternary) (a b c : Term) → literal a ≡ o → literal b ≡ q → literal c ≡ s → IsBounded a → IsBounded b
      → IsBounded c → IsBounded (ternary_by o q s op a b c)
  bounded_ternary (Some u) (Some v) (Some w) op a b c d e f h k l =
      of_word (ternary op u v w) (r.ternary' op u v w (literal_below a u d h) (literal_below b v e k) (literal_below c w f l))
  bounded_ternary None q s op a b c d e f h k l = three_of a b c h k l
  bounded_ternary (Some u) None s op a b c d e f h k l = three_of a b c h k l
  bounded_ternary (Some u) (Some v) None op a b c d e f h k l = three_of a b c h k l

  bounded_insert : (o q s z : Option ℕ) (a b c d : Term) → literal d ≡ z → IsBounded a → IsBounded b → IsBounded c → IsBounded d
      → IsBounded (insert_by o q s z a b c d)
  bounded_insert (Some u) (Some v) (Some w) (Some x) a b c d e h k l m = of_word (inserted_field u v w x) (r.insert' u v w x (literal_below d x e m))
  bounded_insert None q s z a b c d e h k l m = four_of a b c d h k l m
  bounded_insert (Some u) None s z a b c d e h k l m = four_of a b c d h k l m
  bounded_insert (Some u) (Some v) None z a b c d e h k l m = four_of a b c d h k l m
  bounded_insert (Some u) (Some v) (Some w) None a b c d e h k l m = four_of a b c d h k l m

  bounded_first : (o q : Option ℕ) (op : Paired) (a b : Term) → literal a ≡ o → literal b ≡ q → IsBounded a → IsBounded b
      → IsBounded (first_by o q op a b)
  bounded_first (Some v) (Some w) op a b d e h k = of_word _ (r.first' op v w (literal_below a v d h) (literal_below b w e k))
  bounded_first None q op a b d e h k = two_of a b h k
  bounded_first (Some v) None op a b d e h k = two_of a b h k

  bounded_second : (o q : Option ℕ) (op : Paired) (a b : Term) → literal a ≡ o → literal b ≡ q → IsBounded a → IsBounded b
      → IsBounded (second_by o q op a b)
  bounded_second (Some v) (Some w) op a b d e h k = of_word _ (r.second' op v w (literal_below a v d h) (literal_below b w e k))
  bounded_second None q op a b d e h k = two_of a b h k
  bounded_second (Some v) None op a b d e h k = two_of a b h k

  bounded_chosen : (o : Option ℕ) (on a b : Term) → IsBounded on → IsBounded a → IsBounded b → IsBounded (chosen_by o on a b)
  bounded_chosen (Some w) on a b h k l = by_zero (nat_eq w 0)
    where
      by_zero : (q : Bool) → IsBounded (if q then a else b)
      by_zero true = k
      by_zero false = l
  bounded_chosen None on a b h k l =
      and_from (holds_no is_unbounded on && holds_no is_unbounded (term.Word 0)) (holds_no is_unbounded b && holds_no is_unbounded a)
      (two_of on (term.Word 0) h (of_word 0 (omega arith))) (two_of b a l k)

  module _ (p : Shader) (small : AreSmall (spaces_of p)) (constants : AreWords p.constants) where
    abbrev g : Spaces
    g = spaces_of p

    -- VECTORS: one that is known has few words in front of it, and r# has no index that is kept
    vectors_few : (space : Space) → vectors_in (spaces_of p) space < 2 ^ 30
    vectors_few Temps = small.temps
    vectors_few (Indexable slot) = small.elements slot
    vectors_few (Constant slot) = small.vectors slot
    vectors_few ImmediateConstant = let l = small.immediates in omega arith

    abbrev IsFew : Vector → Type 0
    IsFew Outside = Unit {0}
    IsFew (At space n) = n < 2 ^ 30
    IsFew (Indexed Temps) = ⊥
    IsFew (Indexed space) = Unit {0}

    few_at : (b : Bool) (space : Space) (n : ℕ) → nat_lt n (vectors_in (spaces_of p) space) ≡ b → IsFew (if b then At space n else Outside)
    few_at true space n e = let l = ltb-true n (vectors_in (spaces_of p) space) e in let m = vectors_few space in omega arith
    few_at false space n e = tt

    abbrev HasIndex : Space → Type 0
    HasIndex Temps = ⊥
    HasIndex space = Unit {0}

    few_found : (b : Bool) (space : Space) → HasIndex space → IsFew (if b then Indexed space else Outside)
    few_found true Temps h = absurd h
    few_found true (Indexable slot) h = tt
    few_found true (Constant slot) h = tt
    few_found true ImmediateConstant h = tt
    few_found false space h = tt

    few_of : (o : Option ℕ) (space : Space) → HasIndex space → IsFew (vector_of (spaces_of p) space o)
    few_of (Some n) space h = few_at (nat_lt n (vectors_in (spaces_of p) space)) space n refl
    few_of None space h = few_found (nat_lt 0 (vectors_in (spaces_of p) space)) space h

    few_by : (kind : Kind) (slot : ℕ) (o : Option ℕ) → IsFew (vector_by kind (spaces_of p) slot o)
    few_by kind.Temp slot o = few_at (nat_lt slot (spaces_of p).temps) Temps slot refl
    few_by kind.Indexable slot o = few_of o (Indexable slot) tt
    few_by kind.Constant slot o = few_of o (Constant slot) tt
    few_by kind.ImmediateConstant slot o = few_of o ImmediateConstant tt
    few_by other slot o = tt

    few_word : (n c : ℕ) → n < 2 ^ 30 → c < 4 → IsBounded (term.Word (4 * n + c))
    few_word n c h k = of_word (4 * n + c) (omega arith)

    bounded_known : (space : Space) (n c : ℕ) → n < 2 ^ 30 → c < 4 → IsBounded (known_word (spaces_of p) space n c)
    bounded_known ImmediateConstant n c h k = of_word (slice_index p.constants (4 * n + c)) (constants (4 * n + c))
    bounded_known Temps n c h k = few_word n c h k
    bounded_known (Indexable slot) n c h k = few_word n c h k
    bounded_known (Constant slot) n c h k = few_word n c h k

    bounded_start : (k c : ℕ) → c < 4 → IsBounded (word_of k c)
    bounded_start k c h = bounded_added None (term.Scratch (2 * k + 1)) c refl (omega arith)

    bounded_inside : (space : Space) (b : Bool) → b ≡ true → (not (not (nat_lt (vectors_in (spaces_of p) space) (2 ^ 32))) && b) ≡ true
    bounded_inside space b h =
        let l = vectors_few space in
        and_from (not (not (nat_lt (vectors_in (spaces_of p) space) (2 ^ 32)))) b (below_is (vectors_in (spaces_of p) space) (2 ^ 32) (omega arith)) h

    abbrev at_start : ℕ → ℕ → Bool
    at_start k c = holds_no is_unbounded (word_of k c) && holds_no is_unbounded (term.Word 0)

    start_or_none : (k c : ℕ) → c < 4 → at_start k c ≡ true
    start_or_none k c h = two_of (word_of k c) (term.Word 0) (bounded_start k c h) (of_word 0 (omega arith))

    bounded_vector : (k c : ℕ) (v : Vector) → IsFew v → c < 4 → IsBounded (vector_word (spaces_of p) k v c)
    bounded_vector k c Outside h l = of_word 0 (omega arith)
    bounded_vector k c (At space n) h l = bounded_known space n c h l
    bounded_vector k c (Indexed Temps) h l = absurd h
    bounded_vector k c (Indexed (Indexable slot)) h l = bounded_inside (Indexable slot) (at_start k c) (start_or_none k c l)
    bounded_vector k c (Indexed (Constant slot)) h l = bounded_inside (Constant slot) (at_start k c) (start_or_none k c l)
    bounded_vector k c (Indexed ImmediateConstant) h l = bounded_inside ImmediateConstant (at_start k c) (start_or_none k c l)

    bounded_thread : (kind : Kind) (c : ℕ) → IsBounded (thread_word kind c)
    bounded_thread kind c = below (nat_lt c 3)
      where
        below : (b : Bool) → IsBounded (if b then term.Thread kind c else term.Word 0)
        below true = refl
        below false = of_word 0 (omega arith)

    bounded_named : (kind : Kind) (k c : ℕ) (v : Vector) → IsFew v → c < 4 → IsBounded (named_word kind (spaces_of p) k v c)
    bounded_named kind.ThreadId k c v h l = bounded_thread kind.ThreadId c
    bounded_named kind.GroupId k c v h l = bounded_thread kind.GroupId c
    bounded_named kind.IdInGroup k c v h l = bounded_thread kind.IdInGroup c
    bounded_named kind.FlatId k c v h l = refl
    bounded_named other k c v h l = bounded_vector k c v h l

    -- INDICES
    bounded_relative : (r : Option Relative) → AddsInRange r → IsBounded (relative_word (spaces_of p) r)
    bounded_relative None h = of_word 0 (omega arith)
    bounded_relative (Some r) h = bounded_named r.kind 0 r.component (vector_by r.kind (spaces_of p) r.slot (Some r.index))
        (few_by r.kind r.slot (Some r.index)) h

    bounded_index : (a : Argument) → AddsInRange a.relative → a.index < 2 ^ 32 → IsBounded (index_word (spaces_of p) a)
    bounded_index a h k = bounded_added (literal (relative_word (spaces_of p) a.relative)) (relative_word (spaces_of p) a.relative) a.index
        (bounded_relative a.relative h) k

    known_inside : (space : Space) (k : ℕ) → holds_no is_unbounded (inside (spaces_of p) k space) ≡ true
    known_inside space k = let l = vectors_few space in below_is (vectors_in (spaces_of p) space) (2 ^ 32) (omega arith)

    bounded_keeps_by : (v : Vector) (k : ℕ) (x : Term) → k < 5 → IsBounded x → IsBounded (keeps_by v (spaces_of p) k x)
    bounded_keeps_by Outside k x l h = refl
    bounded_keeps_by (At space n) k x l h = refl
    bounded_keeps_by (Indexed space) k x l h =
        two_of (term.Set (2 * k) x)
        (term.Set (2 * k + 1) (term.Product (term.Pick (inside_of space k) (term.Scratch (2 * k)) (term.Word 0)) 4))
        (of_set (2 * k) x (omega (arith, l)) h)
        (of_set (2 * k + 1) (term.Product (term.Pick (inside_of space k) (term.Scratch (2 * k)) (term.Word 0)) 4) (omega (arith, l))
        (bounded_inside space (holds_no is_unbounded (term.Word 0)) (of_word 0 (omega arith))))
      where
        inside_of : Space → ℕ → Term
        inside_of space k = inside (spaces_of p) k space

    -- SOURCES AND WRITES
    bounded_source_by : (kind : Kind) (k c : ℕ) (a : Argument) → IsWithin p a → c < 4 → IsBounded (source_by kind (spaces_of p) k a c)
    bounded_source_by kind.Immediate k c a h l = of_word (of_four a.x a.y a.z a.w c) (four_below a.x a.y a.z a.w c h.words.x h.words.y h.words.z h.words.w)
    bounded_source_by other k c a h l = bounded_named other k (selected a.select c) (vector (spaces_of p) a)
        (few_by a.kind a.slot (literal (index_word (spaces_of p) a))) (selected_below a.select c h.range.select l)

    pub bounded_keeps : (k : ℕ) (a : Argument) → IsWithin p a → k < 5 → IsBounded (keeps_index (spaces_of p) k a)
    bounded_keeps k a h l = bounded_keeps_by (vector (spaces_of p) a) k (index_word (spaces_of p) a) l (bounded_index a h.range.relative h.index')

    pub bounded_source : (k c : ℕ) (a : Argument) → IsWithin p a → c < 4 → IsBounded (source (spaces_of p) k a c)
    bounded_source k c a h l = negated a.negate
      where
        negated : (b : Bool) → IsBounded (if b then unary_of one.Ineg (source_by a.kind (spaces_of p) k a c) else source_by a.kind (spaces_of p) k a c)
        negated true = bounded_unary one.Ineg (source_by a.kind (spaces_of p) k a c) (bounded_source_by a.kind k c a h l)
        negated false = bounded_source_by a.kind k c a h l

    bounded_at : (space : Space) (n c : ℕ) (x : Term) → n < 2 ^ 30 → c < 4 → IsBounded x → IsBounded (term.Write space (term.Word (4 * n + c)) x)
    bounded_at Temps n c x h l k = two_of (term.Word (4 * n + c)) x (few_word n c h l) k
    bounded_at (Indexable slot) n c x h l k = two_of (term.Word (4 * n + c)) x (few_word n c h l) k
    bounded_at (Constant slot) n c x h l k = two_of (term.Word (4 * n + c)) x (few_word n c h l) k
    bounded_at ImmediateConstant n c x h l k = two_of (term.Word (4 * n + c)) x (few_word n c h l) k

    bounded_found : (space : Space) (k c : ℕ) (x : Term) → IsFew (Indexed space) → c < 4 → IsBounded x → IsBounded (write_by (Indexed space) (spaces_of p) k c x)
    bounded_found Temps k c x h l q = absurd h
    bounded_found (Indexable slot) k c x h l q =
        and_from (holds_no is_unbounded (inside (spaces_of p) k (Indexable slot))) _ (known_inside (Indexable slot) k) (two_of (word_of k c) x (bounded_start k c l) q)
    bounded_found (Constant slot) k c x h l q =
        and_from (holds_no is_unbounded (inside (spaces_of p) k (Constant slot))) _ (known_inside (Constant slot) k) (two_of (word_of k c) x (bounded_start k c l) q)
    bounded_found ImmediateConstant k c x h l q =
        and_from (holds_no is_unbounded (inside (spaces_of p) k ImmediateConstant)) _ (known_inside ImmediateConstant k) (two_of (word_of k c) x (bounded_start k c l) q)

    bounded_into : (v : Vector) (k c : ℕ) (x : Term) → IsFew v → c < 4 → IsBounded x → IsBounded (write_by v (spaces_of p) k c x)
    bounded_into Outside k c x h l q = refl
    bounded_into (At space n) k c x h l q = bounded_at space n c x h l q
    bounded_into (Indexed space) k c x h l q = bounded_found space k c x h l q

    few_target : (kind : Kind) (v : Vector) → IsFew v → IsFew (target_by kind v)
    few_target kind.Temp v h = h
    few_target kind.Indexable v h = h
    few_target other v h = tt

    pub bounded_write : (a : Argument) (k c : ℕ) (x : Term) → c < 4 → IsBounded x → IsBounded (write_by (target (spaces_of p) a) (spaces_of p) k c x)
    bounded_write a k c x l h =
        bounded_into (target (spaces_of p) a) k c x
        (few_target a.kind (vector (spaces_of p) a) (few_by a.kind a.slot (literal (index_word (spaces_of p) a)))) l h

    bounded_now : (b : Bool) (n : ℕ) (x w : Term) → n < 18 → IsBounded x → IsBounded w → IsBounded (if b then term.Set n x else w)
    bounded_now true n x w l h k = of_set n x l h
    bounded_now false n x w l h k = k

    bounded_behind : (b : Bool) (w : Term) → IsBounded w → IsBounded (if b then w else term.Nothing)
    bounded_behind true w h = h
    bounded_behind false w h = refl

    module _ (i : Instruction) (d : Each (IsWithin p) (operands i)) where
      s1 : (c : ℕ) → c < 4 → IsBounded (source (spaces_of p) 1 i.o1 c)
      s1 c l = bounded_source 1 c i.o1 d.1.0 l

      s2 : (c : ℕ) → c < 4 → IsBounded (source (spaces_of p) 2 i.o2 c)
      s2 c l = bounded_source 2 c i.o2 d.1.1.0 l

      s3 : (c : ℕ) → c < 4 → IsBounded (source (spaces_of p) 3 i.o3 c)
      s3 c l = bounded_source 3 c i.o3 d.1.1.1.0 l

      s4 : (c : ℕ) → c < 4 → IsBounded (source (spaces_of p) 4 i.o4 c)
      s4 c l = bounded_source 4 c i.o4 d.1.1.1.1.0 l

      bounded_computed : (m : Meaning) (c : ℕ) → c < 4 → IsBounded (computed m (spaces_of p) i c)
      bounded_computed (One op) c l = bounded_unary op (source (spaces_of p) 1 i.o1 c) (s1 c l)
      bounded_computed (Two op) c l = bounded_binary _ _ op (source (spaces_of p) 1 i.o1 c) (source (spaces_of p) 2 i.o2 c) refl refl (s1 c l) (s2 c l)
      bounded_computed (Three op) c l =
          bounded_ternary _ _ _ op (source (spaces_of p) 1 i.o1 c) (source (spaces_of p) 2 i.o2 c) (source (spaces_of p) 3 i.o3 c) refl refl refl
          (s1 c l) (s2 c l) (s3 c l)
      bounded_computed Inserts c l =
          bounded_insert (literal (source (spaces_of p) 1 i.o1 c)) (literal (source (spaces_of p) 2 i.o2 c)) (literal (source (spaces_of p) 3 i.o3 c))
          (literal (source (spaces_of p) 4 i.o4 c))
          (source (spaces_of p) 1 i.o1 c) (source (spaces_of p) 2 i.o2 c) (source (spaces_of p) 3 i.o3 c) (source (spaces_of p) 4 i.o4 c) refl
          (s1 c l) (s2 c l) (s3 c l) (s4 c l)
      bounded_computed (Pair op) c l = bounded_first _ _ op (source (spaces_of p) 2 i.o2 c) (source (spaces_of p) 3 i.o3 c) refl refl (s2 c l) (s3 c l)
      bounded_computed Swaps c l =
          bounded_chosen (literal (source (spaces_of p) 2 i.o2 c)) (source (spaces_of p) 2 i.o2 c) (source (spaces_of p) 3 i.o3 c)
          (source (spaces_of p) 4 i.o4 c) (s2 c l) (s3 c l) (s4 c l)
      bounded_computed other c l = of_word 0 (omega arith)

      bounded_second_word : (m : Meaning) (c : ℕ) → c < 4 → IsBounded (computed_second m (spaces_of p) i c)
      bounded_second_word (Pair op) c l = bounded_second _ _ op (source (spaces_of p) 2 i.o2 c) (source (spaces_of p) 3 i.o3 c) refl refl (s2 c l) (s3 c l)
      bounded_second_word Swaps c l =
          bounded_chosen (literal (source (spaces_of p) 2 i.o2 c)) (source (spaces_of p) 2 i.o2 c) (source (spaces_of p) 4 i.o4 c)
          (source (spaces_of p) 3 i.o3 c) (s2 c l) (s4 c l) (s3 c l)
      bounded_second_word other c l = of_word 0 (omega arith)

      abbrev AreFew : List ℕ → Type 0
      AreFew cs = Each (λ c. c < 4) cs

      now_first : (m : Meaning) (cs : List ℕ) (ps : List Part) → AreFew cs → Each (λ x. IsBounded (now (spaces_of p) x)) ps
          → Each (λ x. IsBounded (now (spaces_of p) x)) (map (first_part m (spaces_of p) i) cs ++ ps)
      now_first m [] ps f h = h
      now_first m (c ∷ cs) ps f h = (
        bounded_now (first_waits m (spaces_of p) i c) (10 + c) (computed m (spaces_of p) i c)
            (write_by (target (spaces_of p) i.o0) (spaces_of p) 0 c (computed m (spaces_of p) i c)) (omega (arith, f.0)) (bounded_computed m c f.0)
            (bounded_write i.o0 0 c (computed m (spaces_of p) i c) f.0 (bounded_computed m c f.0)),
        now_first m cs ps f.1 h,
      )

      now_second : (m : Meaning) (cs : List ℕ) → AreFew cs → Each (λ x. IsBounded (now (spaces_of p) x)) (map (second_part m (spaces_of p) i) cs)
      now_second m [] f = tt
      now_second m (c ∷ cs) f = (
        bounded_now (second_waits m (spaces_of p) i c) (14 + c) (computed_second m (spaces_of p) i c)
            (write_by (target (spaces_of p) i.o1) (spaces_of p) 1 c (computed_second m (spaces_of p) i c)) (omega (arith, f.0)) (bounded_second_word m c f.0)
            (bounded_write i.o1 1 c (computed_second m (spaces_of p) i c) f.0 (bounded_second_word m c f.0)),
        now_second m cs f.1,
      )

      behind_first : (m : Meaning) (cs : List ℕ) (ps : List Part) → AreFew cs → Each (λ x. IsBounded (behind (spaces_of p) x)) ps
          → Each (λ x. IsBounded (behind (spaces_of p) x)) (map (first_part m (spaces_of p) i) cs ++ ps)
      behind_first m [] ps f h = h
      behind_first m (c ∷ cs) ps f h = (
        bounded_behind (first_waits m (spaces_of p) i c) (write_by (target (spaces_of p) i.o0) (spaces_of p) 0 c (term.Scratch (10 + c)))
            (bounded_write i.o0 0 c (term.Scratch (10 + c)) f.0 refl),
        behind_first m cs ps f.1 h,
      )

      behind_second : (m : Meaning) (cs : List ℕ) → AreFew cs → Each (λ x. IsBounded (behind (spaces_of p) x)) (map (second_part m (spaces_of p) i) cs)
      behind_second m [] f = tt
      behind_second m (c ∷ cs) f = (
        bounded_behind (second_waits m (spaces_of p) i c) (write_by (target (spaces_of p) i.o1) (spaces_of p) 1 c (term.Scratch (14 + c)))
            (bounded_write i.o1 1 c (term.Scratch (14 + c)) f.0 refl),
        behind_second m cs f.1,
      )

      few_first : (m : Meaning) → AreFew (first_written m i)
      few_first (One op) = (written_components i.o0.kind i.o0.select).1
      few_first (Two op) = (written_components i.o0.kind i.o0.select).1
      few_first (Three op) = (written_components i.o0.kind i.o0.select).1
      few_first Inserts = (written_components i.o0.kind i.o0.select).1
      few_first (Pair op) = (written_components i.o0.kind i.o0.select).1
      few_first Swaps = (written_components i.o0.kind i.o0.select).1
      few_first other = tt

      few_second : (m : Meaning) → AreFew (second_written m i)
      few_second (Pair op) = (written_components i.o1.kind i.o1.select).1
      few_second Swaps = (written_components i.o1.kind i.o1.select).1
      few_second other = tt

      bounded_indices : Each IsBounded (indices (spaces_of p) i)
      bounded_indices = (
        bounded_keeps 0 i.o0 d.0 (omega arith),
        (
          bounded_keeps 1 i.o1 d.1.0 (omega arith),
          (
            bounded_keeps 2 i.o2 d.1.1.0 (omega arith),
            (
              bounded_keeps 3 i.o3 d.1.1.1.0 (omega arith),
              (bounded_keeps 4 i.o4 d.1.1.1.1.0 (omega arith), tt),
            ),
          ),
        ),
      )

      bounded_raised_by : (m : Meaning) → IsBounded (raised_by m (spaces_of p) i)
      bounded_raised_by m =
          bounded_chained (indices (spaces_of p) i ++ (map (now (spaces_of p)) (parts m (spaces_of p) i) ++ map (behind (spaces_of p))
          (parts m (spaces_of p) i))) term.Nothing refl
          (each_append IsBounded (indices (spaces_of p) i) _ bounded_indices
          (each_append IsBounded (map (now (spaces_of p)) (parts m (spaces_of p) i)) (map (behind (spaces_of p)) (parts m (spaces_of p) i))
          (each_map IsBounded (now (spaces_of p)) (parts m (spaces_of p) i)
          (now_first m (first_written m i) (map (second_part m (spaces_of p) i) (second_written m i)) (few_first m) (now_second m (second_written m i) (few_second m))))
          (each_map IsBounded (behind (spaces_of p)) (parts m (spaces_of p) i)
          (behind_first m (first_written m i) (map (second_part m (spaces_of p) i) (second_written m i)) (few_first m)
          (behind_second m (second_written m i) (few_second m))))))

      bounded_raised : (m : Option Meaning) → IsBounded (raised (spaces_of p) m i)
      bounded_raised None = refl
      bounded_raised (Some m) = bounded_raised_by m

      pub bounded_statement : IsBounded (statement_of p i)
      unfolding statement_of
      bounded_statement = bounded_raised (meaning_of Base i.code)
