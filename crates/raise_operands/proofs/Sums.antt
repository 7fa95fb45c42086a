-- What statements of instructions cost: the sums of words and ids over their walks.
use Rattle.std.proofs.Common.{ℕ, ◌+◌, ◌*◌, ◌≤◌, Bool, true, false, Option, Some, None, arith}
use Rattle.std.specs.Prelude.{nat_eq, nat_lt, if◌then◌else◌}
use Rattle.word_base.specs.declared.arithmetic.Unary.{Unary}
use Rattle.word_base.specs.declared.arithmetic.Unary.TheVariants as one
use Rattle.word_base.specs.declared.arithmetic.Binary.{Binary}
use Rattle.word_base.specs.declared.arithmetic.Binary.TheVariants as two
use Rattle.word_base.specs.declared.arithmetic.Ternary.{Ternary}
use Rattle.word_base.specs.declared.arithmetic.Paired.{Paired}
use Rattle.tpf_decode.specs.declared.argument.Kind.{Kind}
use Rattle.tpf_decode.specs.declared.argument.Kind.TheVariants as kind
use Rattle.tpf_decode.specs.declared.argument.Relative.{Relative}
use Rattle.shader_tree.specs.Costs.{Cost, cost, words_in, ids_in}
use Rattle.shader_tree.specs.declared.node.Space.{Space}
use Rattle.shader_tree.specs.declared.node.Space.TheVariants.{Temps, Indexable, Constant, ImmediateConstant}
use Rattle.shader_tree.specs.Terms.{Term}
use Rattle.shader_tree.specs.Terms as term
use Rattle.shader_tree.specs.Values.{Spaces}
use Rattle.raise_operands.specs.Folding.{literal, added, added_by, unary_of, unary_by, binary_by, ternary_by, insert_by, first_by, second_by, chosen_by}
use Rattle.raise_operands.specs.Laws.{Spends}
use Rattle.raise_operands.specs.Vectors.{Outside, At, Indexed, vectors_in, vector_of, vector_by, word_of, known_word, vector_word, thread_word, named_word, relative_word}

pub spends_more : (x : Term) (w n v m : ℕ) → Spends x w n → w ≤ v → n ≤ m → Spends x v m
spends_more x w n v m h k l = let a = h.in_words in let b = h.in_ids in record { in_words = omega arith; in_ids = omega arith }

pub added_spends : (o : Option ℕ) (a : Term) (k w n : ℕ) → Spends a w n → Spends (added_by o a k) (16 + w) (3 + n)
added_spends (Some v) a k w n h = record { in_words = omega arith; in_ids = omega arith }
added_spends None a k w n h = by_zero (nat_eq k 0)
  where
    by_zero : (b : Bool) → Spends (if b then a else term.Two two.Iadd a (term.Word k)) (16 + w) (3 + n)
    by_zero true = spends_more a w n (16 + w) (3 + n) h (omega arith) (omega arith)
    by_zero false = let x = h.in_words in let y = h.in_ids in record { in_words = omega arith; in_ids = omega arith }

one_spends : (o : Option ℕ) (op : Unary) (a : Term) (w n : ℕ) → Spends a w n → Spends (unary_by o op a) (24 + w) (4 + n)
one_spends (Some v) op a w n h = record { in_words = omega arith; in_ids = omega arith }
one_spends None op a w n h = let x = h.in_words in let y = h.in_ids in record { in_words = omega arith; in_ids = omega arith }

pub unary_spends : (op : Unary) (a : Term) (w n : ℕ) → Spends a w n → Spends (unary_of op a) (24 + w) (4 + n)
unary_spends one.Mov a w n h = spends_more a w n (24 + w) (4 + n) h (omega arith) (omega arith)
unary_spends other a w n h = one_spends (literal a) other a w n h

pub binary_spends : (o q : Option ℕ) (op : Binary) (a b : Term) (w n v m : ℕ) → Spends a w n → Spends b v m → Spends (binary_by o q op a b)
    (12 + (w + v)) (2 + (n + m))
binary_spends (Some i) (Some j) op a b w n v m h k = record { in_words = omega arith; in_ids = omega arith }
binary_spends None q op a b w n v m h k = let x = h.in_words in let y = h.in_ids in let z = k.in_words in let u = k.in_ids in
    record { in_words = omega arith; in_ids = omega arith }
binary_spends (Some i) None op a b w n v m h k = let x = h.in_words in let y = h.in_ids in let z = k.in_words in let u = k.in_ids in
    record { in_words = omega arith; in_ids = omega arith }

three_spends : (op : Ternary) (a b c : Term) (w n v m r s : ℕ) → Spends a w n → Spends b v m → Spends c r s → Spends (term.Three op a b c)
    (30 + (w + (v + r))) (5 + (n + (m + s)))
three_spends op a b c w n v m r s h k l =
    let x = h.in_words in let y = h.in_ids in let z = k.in_words in let u = k.in_ids in let i = l.in_words in let j = l.in_ids in
    record { in_words = omega arith; in_ids = omega arith }

pub ternary_spends : (o q t : Option ℕ) (op : Ternary) (a b c : Term) (w n v m r s : ℕ) → Spends a w n → Spends b v m → Spends c r s
    → Spends (ternary_by o q t op a b c) (30 + (w + (v + r))) (5 + (n + (m + s)))
ternary_spends (Some i) (Some j) (Some z) op a b c w n v m r s h k l = record { in_words = omega arith; in_ids = omega arith }
ternary_spends None q t op a b c w n v m r s h k l = three_spends op a b c w n v m r s h k l
ternary_spends (Some i) None t op a b c w n v m r s h k l = three_spends op a b c w n v m r s h k l
ternary_spends (Some i) (Some j) None op a b c w n v m r s h k l = three_spends op a b c w n v m r s h k l

four_spends : (a b c d : Term) (w n v m r s e f : ℕ) → Spends a w n → Spends b v m → Spends c r s → Spends d e f → Spends (term.Insert a b c d)
    (33 + (w + (v + (r + e)))) (6 + (n + (m + (s + f))))
four_spends a b c d w n v m r s e f h k l g =
    let x = h.in_words in let y = h.in_ids in let z = k.in_words in let u = k.in_ids in let i = l.in_words in let j = l.in_ids in let p =
    g.in_words in let q = g.in_ids in
    record { in_words = omega arith; in_ids = omega arith }

pub insert_spends : (o q t z : Option ℕ) (a b c d : Term) (w n v m r s e f : ℕ) → Spends a w n → Spends b v m → Spends c r s → Spends d e f
    → Spends (insert_by o q t z a b c d) (33 + (w + (v + (r + e)))) (6 + (n + (m + (s + f))))
insert_spends (Some i) (Some j) (Some x) (Some y) a b c d w n v m r s e f h k l g = record { in_words = omega arith; in_ids = omega arith }
insert_spends None q t z a b c d w n v m r s e f h k l g = four_spends a b c d w n v m r s e f h k l g
insert_spends (Some i) None t z a b c d w n v m r s e f h k l g = four_spends a b c d w n v m r s e f h k l g
insert_spends (Some i) (Some j) None z a b c d w n v m r s e f h k l g = four_spends a b c d w n v m r s e f h k l g
insert_spends (Some i) (Some j) (Some x) None a b c d w n v m r s e f h k l g = four_spends a b c d w n v m r s e f h k l g

pub first_spends : (o q : Option ℕ) (op : Paired) (a b : Term) (w n v m : ℕ) → Spends a w n → Spends b v m → Spends (first_by o q op a b)
    (24 + (w + v)) (4 + (n + m))
first_spends (Some i) (Some j) op a b w n v m h k = record { in_words = omega arith; in_ids = omega arith }
first_spends None q op a b w n v m h k = let x = h.in_words in let y = h.in_ids in let z = k.in_words in let u = k.in_ids in
    record { in_words = omega arith; in_ids = omega arith }
first_spends (Some i) None op a b w n v m h k = let x = h.in_words in let y = h.in_ids in let z = k.in_words in let u = k.in_ids in
    record { in_words = omega arith; in_ids = omega arith }

pub second_spends : (o q : Option ℕ) (op : Paired) (a b : Term) (w n v m : ℕ) → Spends a w n → Spends b v m → Spends (second_by o q op a b)
    (24 + (w + v)) (4 + (n + m))
second_spends (Some i) (Some j) op a b w n v m h k = record { in_words = omega arith; in_ids = omega arith }
second_spends None q op a b w n v m h k = let x = h.in_words in let y = h.in_ids in let z = k.in_words in let u = k.in_ids in
    record { in_words = omega arith; in_ids = omega arith }
second_spends (Some i) None op a b w n v m h k = let x = h.in_words in let y = h.in_ids in let z = k.in_words in let u = k.in_ids in
    record { in_words = omega arith; in_ids = omega arith }

pub chosen_spends : (o : Option ℕ) (on a b : Term) (w n v m r s : ℕ) → Spends on w n → Spends a v m → Spends b r s → Spends (chosen_by o on a b)
    (16 + (w + (v + r))) (3 + (n + (m + s)))
chosen_spends (Some i) on a b w n v m r s h k l = by_zero (nat_eq i 0)
  where
    by_zero : (q : Bool) → Spends (if q then a else b) (16 + (w + (v + r))) (3 + (n + (m + s)))
    by_zero true = spends_more a v m _ _ k (omega arith) (omega arith)
    by_zero false = spends_more b r s _ _ l (omega arith) (omega arith)
chosen_spends None on a b w n v m r s h k l =
    let x = h.in_words in let y = h.in_ids in let z = k.in_words in let u = k.in_ids in let i = l.in_words in let j = l.in_ids in
    record { in_words = omega arith; in_ids = omega arith }

-- OPERANDS. What one component of a source costs at most, but for its negation; what an index costs; and the statement that keeps it.
abbrev pub known_cost : Space → Cost
known_cost (Constant slot) = cost 48 10
known_cost other = cost 24 5

abbrev pub indexed_cost : Space → Cost
indexed_cost (Constant slot) = cost 98 20
indexed_cost other = cost 74 15

abbrev pub named_cost : Kind → Bool → Cost
named_cost kind.Indexable true = cost 74 15
named_cost kind.ImmediateConstant true = cost 74 15
named_cost kind.Constant true = cost 98 20
named_cost kind.Constant false = cost 48 10
named_cost other indexed = cost 24 5

abbrev pub Costs : Term → Cost → Type 0
Costs x c = Spends x c.words c.ids

abbrev pub has_relative : Option Relative → Bool
has_relative None = false
has_relative (Some r) = true

module _ (g : Spaces) where
  small : {x : Term} → words_in x ≤ 24 → ids_in x ≤ 5 → Spends x 24 5
  small h k = record { in_words = h; in_ids = k }

  known_spends : (space : Space) (n c : ℕ) → Costs (known_word g space n c) (known_cost space)
  known_spends Temps n c = record { in_words = omega arith; in_ids = omega arith }
  known_spends (Indexable slot) n c = record { in_words = omega arith; in_ids = omega arith }
  known_spends (Constant slot) n c = record { in_words = omega arith; in_ids = omega arith }
  known_spends ImmediateConstant n c = record { in_words = omega arith; in_ids = omega arith }

  pub start_spends : (k c : ℕ) → Spends (word_of k c) 25 5
  start_spends k c = added_spends None (term.Scratch (2 * k + 1)) c 9 2 (record { in_words = omega arith; in_ids = omega arith })

  indexed_spends : (space : Space) (k c : ℕ) → Costs (vector_word g k (Indexed space) c) (indexed_cost space)
  indexed_spends Temps k c = let h = start_spends k c in let x = h.in_words in let y = h.in_ids in
      record { in_words = omega arith; in_ids = omega arith }
  indexed_spends (Indexable slot) k c = let h = start_spends k c in let x = h.in_words in let y = h.in_ids in
      record { in_words = omega arith; in_ids = omega arith }
  indexed_spends (Constant slot) k c = let h = start_spends k c in let x = h.in_words in let y = h.in_ids in
      record { in_words = omega arith; in_ids = omega arith }
  indexed_spends ImmediateConstant k c = let h = start_spends k c in let x = h.in_words in let y = h.in_ids in
      record { in_words = omega arith; in_ids = omega arith }

  word_spends : (w : ℕ) → Spends (term.Word w) 4 1
  word_spends w = record { in_words = omega arith; in_ids = omega arith }

  pub at_spends : (b : Bool) (space : Space) (k n c : ℕ) → Costs (vector_word g k (if b then At space n else Outside) c) (known_cost space)
  at_spends true space k n c = known_spends space n c
  at_spends false Temps k n c = spends_more (term.Word 0) 4 1 _ _ (word_spends 0) (omega arith) (omega arith)
  at_spends false (Indexable slot) k n c = spends_more (term.Word 0) 4 1 _ _ (word_spends 0) (omega arith) (omega arith)
  at_spends false (Constant slot) k n c = spends_more (term.Word 0) 4 1 _ _ (word_spends 0) (omega arith) (omega arith)
  at_spends false ImmediateConstant k n c = spends_more (term.Word 0) 4 1 _ _ (word_spends 0) (omega arith) (omega arith)

  found_spends : (b : Bool) (space : Space) (k c : ℕ) → Costs (vector_word g k (if b then Indexed space else Outside) c) (indexed_cost space)
  found_spends true space k c = indexed_spends space k c
  found_spends false Temps k c = spends_more (term.Word 0) 4 1 _ _ (word_spends 0) (omega arith) (omega arith)
  found_spends false (Indexable slot) k c = spends_more (term.Word 0) 4 1 _ _ (word_spends 0) (omega arith) (omega arith)
  found_spends false (Constant slot) k c = spends_more (term.Word 0) 4 1 _ _ (word_spends 0) (omega arith) (omega arith)
  found_spends false ImmediateConstant k c = spends_more (term.Word 0) 4 1 _ _ (word_spends 0) (omega arith) (omega arith)

  -- an index that is known costs no more than one that is kept
  any_spends : (o : Option ℕ) (space : Space) (k c : ℕ) → Costs (vector_word g k (vector_of g space o) c) (indexed_cost space)
  any_spends (Some n) Temps k c = spends_more _ _ _ _ _ (at_spends (nat_lt n (vectors_in g Temps)) Temps k n c) (omega arith) (omega arith)
  any_spends (Some n) (Indexable slot) k c = spends_more _ _ _ _ _ (at_spends (nat_lt n (vectors_in g (Indexable slot))) (Indexable slot) k n c)
      (omega arith) (omega arith)
  any_spends (Some n) (Constant slot) k c = spends_more _ _ _ _ _ (at_spends (nat_lt n (vectors_in g (Constant slot))) (Constant slot) k n c)
      (omega arith) (omega arith)
  any_spends (Some n) ImmediateConstant k c = spends_more _ _ _ _ _ (at_spends (nat_lt n (vectors_in g ImmediateConstant)) ImmediateConstant k n c)
      (omega arith) (omega arith)
  any_spends None space k c = found_spends (nat_lt 0 (vectors_in g space)) space k c

  thread_spends : (kind : Kind) (c : ℕ) → Spends (thread_word kind c) 24 4
  thread_spends kind c = below (nat_lt c 3)
    where
      below : (b : Bool) → Spends (if b then term.Thread kind c else term.Word 0) 24 4
      below true = record { in_words = omega arith; in_ids = omega arith }
      below false = record { in_words = omega arith; in_ids = omega arith }

  -- by the type of an operand, and its relative operand
  pub named_spends : (kind : Kind) (r : Option Relative) (slot i k c : ℕ)
      → Costs (named_word kind g k (vector_by kind g slot (literal (added (relative_word g r) i))) c) (named_cost kind (has_relative r))
  named_spends kind.Temp r slot i k c = at_spends (nat_lt slot g.temps) Temps k slot c
  named_spends kind.Indexable None slot i k c = at_spends (nat_lt _ (g.elements slot)) (Indexable slot) k _ c
  named_spends kind.Indexable (Some r) slot i k c = any_spends _ (Indexable slot) k c
  named_spends kind.Constant None slot i k c = at_spends (nat_lt _ (g.vectors slot)) (Constant slot) k _ c
  named_spends kind.Constant (Some r) slot i k c = any_spends _ (Constant slot) k c
  named_spends kind.ImmediateConstant None slot i k c = at_spends (nat_lt _ (vectors_in g ImmediateConstant)) ImmediateConstant k _ c
  named_spends kind.ImmediateConstant (Some r) slot i k c = any_spends _ ImmediateConstant k c
  named_spends kind.ThreadId r slot i k c = spends_more _ 24 4 24 5 (thread_spends kind.ThreadId c) (omega arith) (omega arith)
  named_spends kind.GroupId r slot i k c = spends_more _ 24 4 24 5 (thread_spends kind.GroupId c) (omega arith) (omega arith)
  named_spends kind.IdInGroup r slot i k c = spends_more _ 24 4 24 5 (thread_spends kind.IdInGroup c) (omega arith) (omega arith)
  named_spends kind.FlatId r slot i k c = record { in_words = omega arith; in_ids = omega arith }
  named_spends other r slot i k c = record { in_words = omega arith; in_ids = omega arith }
