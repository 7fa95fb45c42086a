-- The sums of an instruction's statement, against the instruction's length.
use Rattle.std.proofs.Common.{◌≡◌, ℕ, ◌+◌, ◌*◌, ◌≤◌, Bool, true, false, List, [], ◌∷◌, ◌++◌, map, Option, Some, None, refl, sym, ap, subst, ◌∙◌, arith}
use Rattle.std.specs.Prelude.{nat_lt, if◌then◌else◌, filter, ◌&&◌, ◌||◌}
use Rattle.std.proofs.lemmas.Bool.{and_right, false≢true}
use Rattle.word_base.specs.declared.arithmetic.Unary.TheVariants as one
use Rattle.tpf_decode.specs.declared.argument.Argument.{Argument}
use Rattle.tpf_decode.specs.declared.argument.Kind.{Kind}
use Rattle.tpf_decode.specs.declared.argument.Kind.TheVariants as kind
use Rattle.tpf_decode.specs.declared.argument.Relative.{Relative}
use Rattle.tpf_decode.specs.declared.argument.Select.{Select}
use Rattle.tpf_decode.specs.declared.meaning.Meaning.{Meaning}
use Rattle.tpf_decode.specs.declared.meaning.Meaning.TheVariants.{One, Two, Three, Inserts, Pair, Swaps}
use Rattle.tpf_program.specs.declared.instruction.Instruction.{Instruction}
use Rattle.tpf_program.specs.Values.{selected}
use Rattle.tpf_program.specs.Writes.{in_mask, written_by}
use Rattle.shader_tree.specs.Costs.{Cost, cost, words_in, ids_in}
use Rattle.shader_tree.specs.declared.node.Space.{Space}
use Rattle.shader_tree.specs.declared.node.Space.TheVariants.{Temps, Indexable, Constant, ImmediateConstant}
use Rattle.shader_tree.specs.Terms.{Term}
use Rattle.shader_tree.specs.Terms as term
use Rattle.shader_tree.specs.Values.{Spaces}
use Rattle.raise_operands.specs.Folding.{literal, added, unary_of}
use Rattle.raise_operands.specs.Raising.{Part, source, source_by, is_nothing, followed, chained_from, computed, computed_second, sources, first_written, second_written, first_waits, second_waits, is_behind, reads, reads_at, above, first_part, second_part, target, target_by, write_by, now, behind}
use Rattle.raise_operands.specs.Vectors.{Vector, Outside, At, Indexed, vectors_in, vector_of, vector_by, relative_word, vector, keeps_by, keeps_index, named_word, vector_word, meets}
use Rattle.raise_operands.specs.Laws.{Spends}
use Rattle.raise_operands.proofs.Sums.{spends_more, Costs, has_relative, named_cost, named_spends, unary_spends, at_spends, added_spends, start_spends, binary_spends, ternary_spends, insert_spends, first_spends, second_spends, chosen_spends}

-- A SOURCE
abbrev pub source_cost : Kind → Option Relative → Bool → Cost
source_cost kind r true = cost (24 + (named_cost kind (has_relative r)).words) (4 + (named_cost kind (has_relative r)).ids)
source_cost kind r false = named_cost kind (has_relative r)

-- AN INDEX, and the statement that keeps it
abbrev pub added_cost : Kind → Cost
added_cost kind.Temp = cost 24 5
added_cost kind.Indexable = cost 24 5
added_cost kind.Constant = cost 48 10
added_cost other = cost 24 4

abbrev pub kept_cost : Option Relative → Cost
kept_cost None = cost 0 0
kept_cost (Some r) = cost (79 + (added_cost r.kind).words) (15 + (added_cost r.kind).ids)

abbrev pub keep_cost : Kind → Option Relative → Cost
keep_cost kind.Indexable r = kept_cost r
keep_cost kind.Constant r = kept_cost r
keep_cost kind.ImmediateConstant r = kept_cost r
keep_cost other r = cost 0 0

-- A WRITE, beside its word
abbrev pub write_cost : Kind → Bool → Cost
write_cost kind.Temp indexed = cost 16 3
write_cost kind.Indexable false = cost 16 3
write_cost kind.Indexable true = cost 70 13
write_cost other indexed = cost 0 0

nothing_spends : Spends term.Nothing 0 0
nothing_spends = record { in_words = omega arith; in_ids = omega arith }

module _ (g : Spaces) where
  source_kind : (kind : Kind) (k c : ℕ) (a : Argument) (w n : ℕ) → Spends (named_word kind g k (vector g a) (selected a.select c)) w n → 4 ≤ w → 1 ≤ n
      → Spends (source_by kind g k a c) w n
  source_kind kind.Immediate k c a w n h l m = record { in_words = omega arith; in_ids = omega arith }
  source_kind other k c a w n h l m = h

  named_least : (kind : Kind) (b : Bool) → (4 ≤ (named_cost kind b).words) × (1 ≤ (named_cost kind b).ids)
  named_least kind.Indexable true = (omega arith, omega arith)
  named_least kind.Indexable false = (omega arith, omega arith)
  named_least kind.Constant true = (omega arith, omega arith)
  named_least kind.Constant false = (omega arith, omega arith)
  named_least kind.ImmediateConstant true = (omega arith, omega arith)
  named_least kind.ImmediateConstant false = (omega arith, omega arith)
  named_least other b = (omega arith, omega arith)

  negated_spends : (b : Bool) (kind : Kind) (r : Option Relative) (x : Term) → Costs x (named_cost kind (has_relative r))
      → Costs (if b then unary_of one.Ineg x else x) (source_cost kind r b)
  negated_spends true kind r x h = unary_spends one.Ineg x (named_cost kind (has_relative r)).words (named_cost kind (has_relative r)).ids h
  negated_spends false kind r x h = h

  pub source_spends : (k c : ℕ) (a : Argument) → Costs (source g k a c) (source_cost a.kind a.relative a.negate)
  source_spends k c a =
      let l = named_least a.kind (has_relative a.relative) in
      negated_spends a.negate a.kind a.relative (source_by a.kind g k a c)
      (source_kind a.kind k c a _ _ (named_spends g a.kind a.relative a.slot a.index k (selected a.select c)) l.0 l.1)

  -- the relative operand
  immediate_spends : (b : Bool) (n c : ℕ) → Spends (vector_word g 0 (if b then At ImmediateConstant n else Outside) c) 24 4
  immediate_spends true n c = record { in_words = omega arith; in_ids = omega arith }
  immediate_spends false n c = record { in_words = omega arith; in_ids = omega arith }

  thread_spends : (kind : Kind) (b : Bool) (c : ℕ) → Spends (if b then term.Thread kind c else term.Word 0) 24 4
  thread_spends kind true c = record { in_words = omega arith; in_ids = omega arith }
  thread_spends kind false c = record { in_words = omega arith; in_ids = omega arith }

  added_kind : (kind : Kind) (slot n c : ℕ) → Costs (named_word kind g 0 (vector_by kind g slot (Some n)) c) (added_cost kind)
  added_kind kind.Temp slot n c = at_spends g (nat_lt slot g.temps) Temps 0 slot c
  added_kind kind.Indexable slot n c = at_spends g (nat_lt n (g.elements slot)) (Indexable slot) 0 n c
  added_kind kind.Constant slot n c = at_spends g (nat_lt n (g.vectors slot)) (Constant slot) 0 n c
  added_kind kind.ImmediateConstant slot n c = immediate_spends (nat_lt n (vectors_in g ImmediateConstant)) n c
  added_kind kind.ThreadId slot n c = thread_spends kind.ThreadId (nat_lt c 3) c
  added_kind kind.GroupId slot n c = thread_spends kind.GroupId (nat_lt c 3) c
  added_kind kind.IdInGroup slot n c = thread_spends kind.IdInGroup (nat_lt c 3) c
  added_kind kind.FlatId slot n c = record { in_words = omega arith; in_ids = omega arith }
  added_kind other slot n c = record { in_words = omega arith; in_ids = omega arith }

  kept_spends : (v : Vector) (k : ℕ) (x : Term) (w n : ℕ) → Spends x w n → Spends (keeps_by v g k x) (63 + w) (12 + n)
  kept_spends Outside k x w n h = spends_more term.Nothing 0 0 _ _ nothing_spends (omega arith) (omega arith)
  kept_spends (At space m) k x w n h = spends_more term.Nothing 0 0 _ _ nothing_spends (omega arith) (omega arith)
  kept_spends (Indexed space) k x w n h = let a = h.in_words in let b = h.in_ids in record { in_words = omega arith; in_ids = omega arith }

  unkept : (b : Bool) (space : Space) (n k : ℕ) (x : Term) → Spends (keeps_by (if b then At space n else Outside) g k x) 0 0
  unkept true space n k x = nothing_spends
  unkept false space n k x = nothing_spends

  keeps_kind : (space : Space) (r : Option Relative) (i k : ℕ) → Costs (keeps_by (vector_of g space (literal (added (relative_word g r) i))) g k
      (added (relative_word g r) i)) (kept_cost r)
  keeps_kind space None i k = unkept (nat_lt _ (vectors_in g space)) space _ k _
  keeps_kind space (Some r) i k =
      spends_more _ (63 + (16 + (added_cost r.kind).words)) (12 + (3 + (added_cost r.kind).ids)) _ _
      (kept_spends (vector_of g space (literal (added (relative_word g (Some r)) i))) k (added (relative_word g (Some r)) i)
      (16 + (added_cost r.kind).words) (3 + (added_cost r.kind).ids)
      (added_spends (literal (relative_word g (Some r))) (relative_word g (Some r)) i (added_cost r.kind).words (added_cost r.kind).ids
      (added_kind r.kind r.slot r.index r.component)))
      (omega arith) (omega arith)

  keeps_by_kind : (kind : Kind) (slot : ℕ) (r : Option Relative) (i k : ℕ)
      → Costs (keeps_by (vector_by kind g slot (literal (added (relative_word g r) i))) g k (added (relative_word g r) i)) (keep_cost kind r)
  keeps_by_kind kind.Temp slot r i k = unkept (nat_lt slot g.temps) Temps slot k _
  keeps_by_kind kind.Indexable slot r i k = keeps_kind (Indexable slot) r i k
  keeps_by_kind kind.Constant slot r i k = keeps_kind (Constant slot) r i k
  keeps_by_kind kind.ImmediateConstant slot r i k = keeps_kind ImmediateConstant r i k
  keeps_by_kind other slot r i k = nothing_spends

  pub keeps_spends : (k : ℕ) (a : Argument) → Costs (keeps_index g k a) (keep_cost a.kind a.relative)
  keeps_spends k a = keeps_by_kind a.kind a.slot a.relative a.index k

  -- writes
  at_write : (b : Bool) (space : Space) (n k c : ℕ) (x : Term) (w m : ℕ) → Spends x w m
      → Spends (write_by (if b then At space n else Outside) g k c x) (16 + w) (3 + m)
  at_write true space n k c x w m h = let a = h.in_words in let b = h.in_ids in record { in_words = omega arith; in_ids = omega arith }
  at_write false space n k c x w m h = spends_more term.Nothing 0 0 _ _ nothing_spends (omega arith) (omega arith)

  found_write : (b : Bool) (space : Space) (k c : ℕ) (x : Term) (w m : ℕ) → Spends x w m
      → Spends (write_by (if b then Indexed space else Outside) g k c x) (70 + w) (13 + m)
  found_write true space k c x w m h =
      let s = start_spends g k c in let a = h.in_words in let b = h.in_ids in let d = s.in_words in let e = s.in_ids in
      record { in_words = omega arith; in_ids = omega arith }
  found_write false space k c x w m h = spends_more term.Nothing 0 0 _ _ nothing_spends (omega arith) (omega arith)

  any_write : (o : Option ℕ) (space : Space) (k c : ℕ) (x : Term) (w m : ℕ) → Spends x w m → Spends (write_by (vector_of g space o) g k c x) (70 + w)
      (13 + m)
  any_write (Some n) space k c x w m h = spends_more _ (16 + w) (3 + m) _ _ (at_write (nat_lt n (vectors_in g space)) space n k c x w m h)
      (omega arith) (omega arith)
  any_write None space k c x w m h = found_write (nat_lt 0 (vectors_in g space)) space k c x w m h

  write_kind : (kind : Kind) (r : Option Relative) (slot i k c : ℕ) (x : Term) (w m : ℕ) → Spends x w m
      → Spends (write_by (target_by kind (vector_by kind g slot (literal (added (relative_word g r) i)))) g k c x)
      ((write_cost kind (has_relative r)).words + w) ((write_cost kind (has_relative r)).ids + m)
  write_kind kind.Temp r slot i k c x w m h = at_write (nat_lt slot g.temps) Temps slot k c x w m h
  write_kind kind.Indexable None slot i k c x w m h = at_write (nat_lt _ (g.elements slot)) (Indexable slot) _ k c x w m h
  write_kind kind.Indexable (Some r) slot i k c x w m h = any_write _ (Indexable slot) k c x w m h
  write_kind other r slot i k c x w m h = spends_more term.Nothing 0 0 _ _ nothing_spends (omega arith) (omega arith)

  pub write_spends : (a : Argument) (k c : ℕ) (x : Term) (w m : ℕ) → Spends x w m
      → Spends (write_by (target g a) g k c x) ((write_cost a.kind (has_relative a.relative)).words + w)
      ((write_cost a.kind (has_relative a.relative)).ids + m)
  write_spends a k c x w m h = write_kind a.kind a.relative a.slot a.index k c x w m h

-- LISTS OF STATEMENTS
unfoldable pub total_words : List Term → ℕ
total_words [] = 0
total_words (x ∷ xs) = words_in x + total_words xs

unfoldable pub total_ids : List Term → ℕ
total_ids [] = 0
total_ids (x ∷ xs) = ids_in x + total_ids xs

pub words_append : (xs ys : List Term) → total_words (xs ++ ys) ≡ total_words xs + total_words ys
unfolding total_words
words_append [] ys = omega arith
words_append (x ∷ xs) ys = let e = words_append xs ys in omega arith

pub ids_append : (xs ys : List Term) → total_ids (xs ++ ys) ≡ total_ids xs + total_ids ys
unfolding total_ids
ids_append [] ys = omega arith
ids_append (x ∷ xs) ys = let e = ids_append xs ys in omega arith

followed_spends : (p q : Bool) (a b : Term) (w n v m : ℕ) → Spends a w n → Spends b v m → Spends (if p then b else if q then a else term.Then a b)
    (w + v) (n + m)
followed_spends true q a b w n v m h k = spends_more b v m _ _ k (omega arith) (omega arith)
followed_spends false true a b w n v m h k = spends_more a w n _ _ h (omega arith) (omega arith)
followed_spends false false a b w n v m h k = let x = h.in_words in let y = h.in_ids in let z = k.in_words in let u = k.in_ids in
    record { in_words = omega arith; in_ids = omega arith }

itself : (a : Term) → Spends a (words_in a) (ids_in a)
itself a = record { in_words = omega arith; in_ids = omega arith }

pub chained_spends : (xs : List Term) (a : Term) → Spends (chained_from a xs) (words_in a + total_words xs) (ids_in a + total_ids xs)
unfolding total_words total_ids
chained_spends [] a = spends_more a _ _ _ _ (itself a) (omega arith) (omega arith)
chained_spends (x ∷ xs) a =
    let f = followed_spends (is_nothing a) (is_nothing x) a x _ _ _ _ (itself a) (itself x) in
    let h = chained_spends xs (followed a x) in
    let y = f.in_words in let z = f.in_ids in
    spends_more _ _ _ _ _ h (omega arith) (omega arith)

-- A COMPONENT, now and behind
pub record Both (x y : Term) (words ids : ℕ) : Type 0 where
  pub in_words : words_in x + words_in y ≤ words
  pub in_ids : ids_in x + ids_in y ≤ ids

both_spend : (b : Bool) (n : ℕ) (x there late : Term) (w m v u : ℕ) → Spends x w m → Spends there (v + w) (u + m) → Spends late (v + 9) (u + 2)
    → Both (if b then term.Set n x else there) (if b then late else term.Nothing) (17 + v + w) (3 + u + m)
both_spend true n x there late w m v u h k l = let p = h.in_words in let q = h.in_ids in let r = l.in_words in let s = l.in_ids in
    record { in_words = omega arith; in_ids = omega arith }
both_spend false n x there late w m v u h k l = let p = k.in_words in let q = k.in_ids in record { in_words = omega arith; in_ids = omega arith }

pub record Total (g : Spaces) (ps : List Part) (words ids : ℕ) : Type 0 where
  pub in_words : total_words (map (now g) ps) + total_words (map (behind g) ps) ≤ words
  pub in_ids : total_ids (map (now g) ps) + total_ids (map (behind g) ps) ≤ ids

-- so much for each component
unfoldable pub spent : List ℕ → ℕ → ℕ
spent [] b = 0
spent (c ∷ cs) b = b + spent cs b

spent_kept : (t : Bool) (c : ℕ) (cs : List ℕ) (b n : ℕ) → spent cs b ≤ n → spent (if t then c ∷ cs else cs) b ≤ b + n
unfolding spent
spent_kept true c cs b n h = omega arith
spent_kept false c cs b n h = omega arith

spent_filter : (t : ℕ → Bool) (cs : List ℕ) (b : ℕ) → spent (filter t cs) b ≤ spent cs b
unfolding spent
spent_filter t [] b = omega arith
spent_filter t (c ∷ cs) b = spent_kept (t c) c (filter t cs) b (spent cs b) (spent_filter t cs b)

spent_mask : (t : ℕ → Bool) (b : ℕ) → spent (filter t (0 ∷ 1 ∷ 2 ∷ 3 ∷ [])) b ≤ 4 * b
unfolding spent
spent_mask t b = let h = spent_filter t (0 ∷ 1 ∷ 2 ∷ 3 ∷ []) b in omega arith

pub spent_written : (kind : Kind) (select : Select) (b : ℕ) → spent (written_by kind select) b ≤ 4 * b
unfolding spent
spent_written kind.Null select b = omega arith
spent_written other select b = spent_mask (in_mask select) b

part_total : (g : Spaces) (p : Part) (ps : List Part) (w n v m : ℕ) → Both (now g p) (behind g p) w n → Total g ps v m → Total g (p ∷ ps) (w + v)
    (n + m)
unfolding total_words total_ids
part_total g p ps w n v m h k = let x = h.in_words in let y = h.in_ids in let z = k.in_words in let u = k.in_ids in
    record { in_words = omega arith; in_ids = omega arith }

pub list_total : (g : Spaces) (f : ℕ → Part) (cs : List ℕ) (ps : List Part) (w n v m : ℕ) → ((c : ℕ) → Both (now g (f c)) (behind g (f c)) w n)
    → Total g ps v m
    → Total g (map f cs ++ ps) (spent cs w + v) (spent cs n + m)
unfolding spent
list_total g f [] ps w n v m h k = let z = k.in_words in let u = k.in_ids in record { in_words = omega arith; in_ids = omega arith }
list_total g f (c ∷ cs) ps w n v m h k =
    let t = part_total g (f c) (map f cs ++ ps) w n _ _ (h c) (list_total g f cs ps w n v m h k) in
    let z = t.in_words in let u = t.in_ids in record { in_words = omega arith; in_ids = omega arith }

pub one_list_total : (g : Spaces) (f : ℕ → Part) (cs : List ℕ) (w n : ℕ) → ((c : ℕ) → Both (now g (f c)) (behind g (f c)) w n) → Total g (map f cs)
    (spent cs w) (spent cs n)
unfolding spent total_words total_ids
one_list_total g f [] w n h = record { in_words = omega arith; in_ids = omega arith }
one_list_total g f (c ∷ cs) w n h = part_total g (f c) (map f cs) w n _ _ (h c) (one_list_total g f cs w n h)

-- A destination of another type than a register is not written, and nothing waits for it.
outside_meets : (v : Vector) (c d : ℕ) → meets v c Outside d ≡ false
outside_meets Outside c d = refl
outside_meets (At space n) c d = refl
outside_meets (Indexed space) c d = refl

reads_nothing : (g : Spaces) (as' : List Argument) (c d : ℕ) → reads_at g as' Outside c d ≡ false
reads_nothing g [] c d = refl
reads_nothing g (a ∷ as') c d = reads_nothing g as' c d

never_read : (g : Spaces) (as' : List Argument) (c : ℕ) (ds : List ℕ) → reads g as' Outside c ds ≡ false
never_read g as' c [] = refl
never_read g as' c (d ∷ ds) = ap (λ b. b || reads g as' Outside c ds) (reads_nothing g as' c d) ∙ never_read g as' c ds

-- THE WORDS THAT ARE COMPUTED
abbrev cost_of : Argument → Cost
cost_of a = source_cost a.kind a.relative a.negate

abbrev pub value_cost : Meaning → Instruction → Cost
value_cost (One op) i = cost (24 + (cost_of i.o1).words) (4 + (cost_of i.o1).ids)
value_cost (Two op) i = cost (12 + ((cost_of i.o1).words + (cost_of i.o2).words)) (2 + ((cost_of i.o1).ids + (cost_of i.o2).ids))
value_cost (Three op) i = cost (30 + ((cost_of i.o1).words + ((cost_of i.o2).words + (cost_of i.o3).words)))
    (5 + ((cost_of i.o1).ids + ((cost_of i.o2).ids + (cost_of i.o3).ids)))
value_cost Inserts i =
    cost (33 + ((cost_of i.o1).words + ((cost_of i.o2).words + ((cost_of i.o3).words + (cost_of i.o4).words))))
    (6 + ((cost_of i.o1).ids + ((cost_of i.o2).ids + ((cost_of i.o3).ids + (cost_of i.o4).ids))))
value_cost (Pair op) i = cost (24 + ((cost_of i.o2).words + (cost_of i.o3).words)) (4 + ((cost_of i.o2).ids + (cost_of i.o3).ids))
value_cost Swaps i = cost (16 + ((cost_of i.o2).words + ((cost_of i.o3).words + (cost_of i.o4).words)))
    (3 + ((cost_of i.o2).ids + ((cost_of i.o3).ids + (cost_of i.o4).ids)))
value_cost other i = cost 4 1

module _ (g : Spaces) (i : Instruction) where
  computed_spends : (m : Meaning) (c : ℕ) → Costs (computed m g i c) (value_cost m i)
  computed_spends (One op) c = unary_spends op (source g 1 i.o1 c) _ _ (source_spends g 1 c i.o1)
  computed_spends (Two op) c = binary_spends (literal (source g 1 i.o1 c)) (literal (source g 2 i.o2 c)) op (source g 1 i.o1 c) (source g 2 i.o2 c) _
      _ _ _ (source_spends g 1 c i.o1) (source_spends g 2 c i.o2)
  computed_spends (Three op) c =
      ternary_spends (literal (source g 1 i.o1 c)) (literal (source g 2 i.o2 c)) (literal (source g 3 i.o3 c)) op (source g 1 i.o1 c)
      (source g 2 i.o2 c) (source g 3 i.o3 c) _ _ _ _ _ _
      (source_spends g 1 c i.o1) (source_spends g 2 c i.o2) (source_spends g 3 c i.o3)
  computed_spends Inserts c =
      insert_spends (literal (source g 1 i.o1 c)) (literal (source g 2 i.o2 c)) (literal (source g 3 i.o3 c)) (literal (source g 4 i.o4 c))
      (source g 1 i.o1 c) (source g 2 i.o2 c) (source g 3 i.o3 c) (source g 4 i.o4 c) _ _ _ _ _ _ _ _
      (source_spends g 1 c i.o1) (source_spends g 2 c i.o2) (source_spends g 3 c i.o3) (source_spends g 4 c i.o4)
  computed_spends (Pair op) c = first_spends (literal (source g 2 i.o2 c)) (literal (source g 3 i.o3 c)) op (source g 2 i.o2 c) (source g 3 i.o3 c) _
      _ _ _ (source_spends g 2 c i.o2) (source_spends g 3 c i.o3)
  computed_spends Swaps c =
      chosen_spends (literal (source g 2 i.o2 c)) (source g 2 i.o2 c) (source g 3 i.o3 c) (source g 4 i.o4 c) _ _ _ _ _ _ (source_spends g 2 c i.o2)
      (source_spends g 3 c i.o3) (source_spends g 4 c i.o4)
  computed_spends other c = record { in_words = omega arith; in_ids = omega arith }

  second_value_spends : (m : Meaning) (c : ℕ) → Costs (computed_second m g i c) (value_cost m i)
  second_value_spends (Pair op) c = second_spends (literal (source g 2 i.o2 c)) (literal (source g 3 i.o3 c)) op (source g 2 i.o2 c)
      (source g 3 i.o3 c) _ _ _ _ (source_spends g 2 c i.o2) (source_spends g 3 c i.o3)
  second_value_spends Swaps c =
      spends_more _ _ _ _ _
      (chosen_spends (literal (source g 2 i.o2 c)) (source g 2 i.o2 c) (source g 4 i.o4 c) (source g 3 i.o3 c) _ _ _ _ _ _ (source_spends g 2 c i.o2)
      (source_spends g 4 c i.o4) (source_spends g 3 c i.o3))
      (omega arith) (omega arith)
  second_value_spends other c = spends_more (term.Word 0) 4 1 _ _ (record { in_words = omega arith; in_ids = omega arith }) (omega arith)
      (omega arith)

-- WHAT A DESTINATION COSTS: a register for each component, another type nothing
abbrev pub is_target : Kind → Bool
is_target kind.Temp = true
is_target kind.Indexable = true
is_target other = false

pub other_target : (kind : Kind) (v : Vector) → is_target kind ≡ false → target_by kind v ≡ Outside
other_target kind.Temp v e = absurd (false≢true (sym e))
other_target kind.Indexable v e = absurd (false≢true (sym e))
other_target other v e = refl

both_none : (g : Spaces) (b : Bool) (v : Vector) (n k c : ℕ) (x : Term) → b ≡ false → v ≡ Outside
    → Both (if b then term.Set n x else write_by v g k c x) (if b then write_by v g k c (term.Scratch n) else term.Nothing) 0 0
both_none g true v n k c x e f = absurd (false≢true (sym e))
both_none g false v n k c x e f = subst (λ w. Both (write_by w g k c x) term.Nothing 0 0) (sym f)
    (record { in_words = omega arith; in_ids = omega arith })

module _ (g : Spaces) (i : Instruction) (m : Meaning) where
  pub first_both : (c : ℕ) → Both (now g (first_part m g i c)) (behind g (first_part m g i c))
      (17 + (write_cost i.o0.kind (has_relative i.o0.relative)).words + (value_cost m i).words)
      (3 + (write_cost i.o0.kind (has_relative i.o0.relative)).ids + (value_cost m i).ids)
  first_both c =
      both_spend (first_waits m g i c) (10 + c) (computed m g i c) (write_by (target g i.o0) g 0 c (computed m g i c))
      (write_by (target g i.o0) g 0 c (term.Scratch (10 + c))) _ _ _ _
      (computed_spends g i m c) (write_spends g i.o0 0 c (computed m g i c) _ _ (computed_spends g i m c))
      (write_spends g i.o0 0 c (term.Scratch (10 + c)) 9 2 (record { in_words = omega arith; in_ids = omega arith }))

  pub second_both : (c : ℕ) → Both (now g (second_part m g i c)) (behind g (second_part m g i c))
      (17 + (write_cost i.o1.kind (has_relative i.o1.relative)).words + (value_cost m i).words)
      (3 + (write_cost i.o1.kind (has_relative i.o1.relative)).ids + (value_cost m i).ids)
  second_both c =
      both_spend (second_waits m g i c) (14 + c) (computed_second m g i c) (write_by (target g i.o1) g 1 c (computed_second m g i c))
      (write_by (target g i.o1) g 1 c (term.Scratch (14 + c))) _ _ _ _
      (second_value_spends g i m c) (write_spends g i.o1 1 c (computed_second m g i c) _ _ (second_value_spends g i m c))
      (write_spends g i.o1 1 c (term.Scratch (14 + c)) 9 2 (record { in_words = omega arith; in_ids = omega arith }))

  pub first_none : is_target i.o0.kind ≡ false → (c : ℕ) → Both (now g (first_part m g i c)) (behind g (first_part m g i c)) 0 0
  first_none e c =
      let o = other_target i.o0.kind (vector g i.o0) e in
      both_none g (first_waits m g i c) (target g i.o0) (10 + c) 0 c (computed m g i c)
      (ap (λ v. reads g (sources m i) v c (above c (first_written m i) ++ second_written m i)) o ∙ never_read g (sources m i) c
      (above c (first_written m i) ++ second_written m i)) o

  pub second_none : is_target i.o1.kind ≡ false → (c : ℕ) → Both (now g (second_part m g i c)) (behind g (second_part m g i c)) 0 0
  second_none e c =
      let o = other_target i.o1.kind (vector g i.o1) e in
      both_none g (second_waits m g i c) (target g i.o1) (14 + c) 1 c (computed_second m g i c)
      (ap (λ b. if b then true else is_behind m g i c) (ap (λ v. reads g (sources m i) v c (above c (second_written m i))) o ∙ never_read g
      (sources m i) c (above c (second_written m i)))
      ∙ (ap (λ v. in_mask i.o0.select c && (first_waits m g i c && meets (target g i.o0) c v c)) o
      ∙ and_right (in_mask i.o0.select c) _ (and_right (first_waits m g i c) _ (outside_meets (target g i.o0) c c)))) o

-- one destination, by its type: what it spends
pub data Dest (slack value keep least : ℕ) : ℕ → Type 0 where
  there : (write : ℕ) → 4 * write + keep + slack ≤ least → Dest slack value keep least (write + value)
  none : keep ≤ least → Dest slack value keep least 0
