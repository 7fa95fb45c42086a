-- The components that wait, by the operands that are begun, are those of the definitions.
use Rattle.std.proofs.Common.{◌≡◌, ℕ, Bool, true, false, List, [], ◌∷◌, ◌++◌, refl, sym, ap, ◌∙◌}
use Rattle.std.specs.Prelude.{nat_lt, if◌then◌else◌, ◌&&◌, ◌||◌, filter}
use Rattle.std.specs.List.{list_any}
use Rattle.std.proofs.lemmas.List.Folds.{list_any-append}
use Rattle.tpf_decode.specs.declared.argument.Select.{Select}
use Rattle.tpf_decode.specs.declared.argument.Argument.{Argument}
use Rattle.tpf_decode.specs.declared.argument.Kind.{Kind}
use Rattle.tpf_decode.specs.declared.argument.Kind.TheVariants as kind
use Rattle.tpf_decode.specs.declared.meaning.Meaning.{Meaning}
use Rattle.tpf_decode.specs.declared.meaning.Meaning.TheVariants.{One, Two, Three, Inserts, Pair, Swaps}
use Rattle.tpf_program.specs.declared.instruction.Instruction.{Instruction}
use Rattle.tpf_program.specs.Values.{selected}
use Rattle.tpf_program.specs.Writes.{in_mask, written_by}
use Rattle.shader_tree.specs.declared.node.Node.{Node}
use Rattle.shader_tree.specs.Values.{Spaces}
use Rattle.raise_operands.specs.declared.operand.Operand.{Operand}
use Rattle.raise_operands.specs.declared.operand.Operands.{Operands}
use Rattle.raise_alu.specs.Computing.{writes_first, writes_second}
use Rattle.raise_alu.specs.Waits.{is_read, are_read, of_four, first_reads, first_is_read, second_reads, second_is_read, stands_behind, second_is_late}
use Rattle.raise_operands.specs.Building.{AreOperands, IsOperandOf, seen, is_written_by, known_target}
use Rattle.raise_operands.specs.Raising.{sources, first_written, second_written, target, reads_at, reads, above, first_waits, is_behind, second_waits}
use Rattle.raise_operands.specs.Laws.{OperandLaws}
use Rattle.raise_operands.specs.Vectors.{Vector, vector, meets}

abbrev pub four : List ℕ
four = 0 ∷ 1 ∷ 2 ∷ 3 ∷ []

-- TESTS OF LISTS THAT ARE FILTERED, one item at a time.
any_if : (b : Bool) (f : ℕ → Bool) (x : ℕ) (xs : List ℕ) → list_any f (if b then x ∷ xs else xs) ≡ ((b && f x) || list_any f xs)
any_if true f x xs = refl
any_if false f x xs = refl

any_of : (f p : ℕ → Bool) (x : ℕ) (xs : List ℕ) → list_any f (filter p (x ∷ xs)) ≡ ((p x && f x) || list_any f (filter p xs))
any_of f p x xs = any_if (p x) f x (filter p xs)

and_true : (a y z : Bool) → ((a && y) || z) ≡ (((a && true) && y) || z)
and_true true y z = refl
and_true false y z = refl

and_false : (a y z : Bool) → z ≡ (((a && false) && y) || z)
and_false true y z = refl
and_false false y z = refl

any_above_if : (b : Bool) (f r : ℕ → Bool) (x : ℕ) (xs : List ℕ)
    → list_any f (filter r (if b then x ∷ xs else xs)) ≡ (((r x && b) && f x) || list_any f (filter r xs))
any_above_if true f r x xs = any_of f r x xs ∙ and_true (r x) (f x) _
any_above_if false f r x xs = and_false (r x) (f x) _

any_above : (f r p : ℕ → Bool) (x : ℕ) (xs : List ℕ)
    → list_any f (filter r (filter p (x ∷ xs))) ≡ (((r x && p x) && f x) || list_any f (filter r (filter p xs)))
any_above f r p x xs = any_above_if (p x) f r x (filter p xs)

or_same : (x y z : Bool) → y ≡ z → (x || y) ≡ (x || z)
or_same x y z e = ap (λ b. x || b) e

or_none : (x : Bool) → (x || false) ≡ x
or_none true = refl
or_none false = refl

any_four : (f p : ℕ → Bool) → list_any f (filter p four) ≡ of_four (λ d. p d && f d)
any_four f p =
    any_of f p 0 (1 ∷ 2 ∷ 3 ∷ [])
    ∙ or_same _ _ _ (any_of f p 1 (2 ∷ 3 ∷ []) ∙ or_same _ _ _ (any_of f p 2 (3 ∷ []) ∙ or_same _ _ _ (any_of f p 3 [] ∙ or_none (p 3 && f 3))))

above_four : (f r p : ℕ → Bool) → list_any f (filter r (filter p four)) ≡ of_four (λ d. (r d && p d) && f d)
above_four f r p =
    any_above f r p 0 (1 ∷ 2 ∷ 3 ∷ [])
    ∙ or_same _ _ _ (any_above f r p 1 (2 ∷ 3 ∷ [])
    ∙ or_same _ _ _ (any_above f r p 2 (3 ∷ []) ∙ or_same _ _ _ (any_above f r p 3 [] ∙ or_none ((r 3 && p 3) && f 3))))

dist : (a q f : Bool) → ((a && f) || (q && f)) ≡ ((a || q) && f)
dist true q true = refl
dist true true false = refl
dist true false false = refl
dist false q f = refl

swap : (x X y Y : Bool) → ((x || X) || (y || Y)) ≡ ((x || y) || (X || Y))
swap true X y Y = refl
swap false true true Y = refl
swap false true false Y = refl
swap false false true Y = refl
swap false false false Y = refl

both_four : (a b : ℕ → Bool) → (of_four a || of_four b) ≡ of_four (λ d. a d || b d)
both_four a b =
    swap (a 0) _ (b 0) _ ∙ or_same _ _ _ (swap (a 1) _ (b 1) _ ∙ or_same _ _ _ (swap (a 2) (a 3) (b 2) (b 3)))

pub four_same : (f g : ℕ → Bool) → ((d : ℕ) → f d ≡ g d) → of_four f ≡ of_four g
four_same f g h =
    ap (λ x. x || (f 1 || (f 2 || f 3))) (h 0)
    ∙ or_same _ _ _ (ap (λ x. x || (f 2 || f 3)) (h 1) ∙ or_same _ _ _ (ap (λ x. x || f 3) (h 2) ∙ or_same _ _ _ (h 3)))

late : (f r p q : ℕ → Bool) → list_any f (filter r (filter p four) ++ filter q four) ≡ of_four (λ d. ((r d && p d) || q d) && f d)
late f r p q =
    list_any-append f (filter r (filter p four)) (filter q four)
    ∙ ap (λ x. x || list_any f (filter q four)) (above_four f r p)
    ∙ or_same _ _ _ (any_four f q)
    ∙ both_four (λ d. (r d && p d) && f d) (λ d. q d && f d)
    ∙ four_same _ (λ d. ((r d && p d) || q d) && f d) (λ d. dist (r d && p d) (q d) (f d))

-- WHAT IS WRITTEN.
written_is : (k : Kind) (s : Select) → written_by k s ≡ filter (is_written_by k s) four
written_is kind.Null s = refl
written_is other s = refl

pub first_written_is : (m : Meaning) (i : Instruction) → first_written m i ≡ filter (writes_first m i) four
first_written_is (One op) i = written_is i.o0.kind i.o0.select
first_written_is (Two op) i = written_is i.o0.kind i.o0.select
first_written_is (Three op) i = written_is i.o0.kind i.o0.select
first_written_is Inserts i = written_is i.o0.kind i.o0.select
first_written_is (Pair op) i = written_is i.o0.kind i.o0.select
first_written_is Swaps i = written_is i.o0.kind i.o0.select
first_written_is other i = refl

pub second_written_is : (m : Meaning) (i : Instruction) → second_written m i ≡ filter (writes_second m i) four
second_written_is (Pair op) i = written_is i.o1.kind i.o1.select
second_written_is Swaps i = written_is i.o1.kind i.o1.select
second_written_is other i = refl

-- WHAT IS READ.
is_same : (nodes : List Node) (g : Spaces) (k : ℕ) (a : Argument) (o : Operand) (to : Vector) (c d : ℕ) → IsOperandOf nodes g k a o
    → is_read to c d o ≡ meets to c (vector g a) (selected a.select d)
is_same nodes g k a o to c d n =
    ap (λ v. meets to c v (selected o.argument.select d)) n.operand.vector
    ∙ ap (λ b. meets to c (vector g b) (selected b.select d)) n.argument

any_same : (x y a b : Bool) → x ≡ y → a ≡ b → (x || a) ≡ (y || b)
any_same x y a b e h = ap (λ z. z || a) e ∙ ap (λ z. y || z) h

pub are_same : (nodes : List Node) (g : Spaces) (m : Meaning) (os : Operands) (to : Vector) (c d : ℕ) → AreOperands nodes g os
    → are_read m os to c d ≡ reads_at g (sources m os.instruction) to c d
are_same nodes g (One op) os to c d n = any_same _ _ _ _ (is_same nodes g 1 _ os.o1 to c d n.o1) refl
are_same nodes g (Two op) os to c d n =
    any_same _ _ _ _ (is_same nodes g 1 _ os.o1 to c d n.o1) (any_same _ _ _ _ (is_same nodes g 2 _ os.o2 to c d n.o2) refl)
are_same nodes g (Three op) os to c d n =
    any_same _ _ _ _ (is_same nodes g 1 _ os.o1 to c d n.o1) (any_same _ _ _ _ (is_same nodes g 2 _ os.o2 to c d n.o2)
    (any_same _ _ _ _ (is_same nodes g 3 _ os.o3 to c d n.o3) refl))
are_same nodes g Inserts os to c d n =
    any_same _ _ _ _ (is_same nodes g 1 _ os.o1 to c d n.o1) (any_same _ _ _ _ (is_same nodes g 2 _ os.o2 to c d n.o2)
    (any_same _ _ _ _ (is_same nodes g 3 _ os.o3 to c d n.o3) (any_same _ _ _ _ (is_same nodes g 4 _ os.o4 to c d n.o4) refl)))
are_same nodes g (Pair op) os to c d n =
    any_same _ _ _ _ (is_same nodes g 2 _ os.o2 to c d n.o2) (any_same _ _ _ _ (is_same nodes g 3 _ os.o3 to c d n.o3) refl)
are_same nodes g Swaps os to c d n =
    any_same _ _ _ _ (is_same nodes g 2 _ os.o2 to c d n.o2) (any_same _ _ _ _ (is_same nodes g 3 _ os.o3 to c d n.o3)
    (any_same _ _ _ _ (is_same nodes g 4 _ os.o4 to c d n.o4) refl))
are_same nodes g other os to c d n = refl

-- WHAT WAITS.
reads_same : (nodes : List Node) (g : Spaces) (m : Meaning) (os : Operands) (to : Vector) (v : Vector) (c d : ℕ) → AreOperands nodes g os → to ≡ v
    → are_read m os to c d ≡ reads_at g (sources m os.instruction) v c d
reads_same nodes g m os to v c d n e = are_same nodes g m os to c d n ∙ ap (λ x. reads_at g (sources m os.instruction) x c d) e

pub first_same : (l : OperandLaws) → (nodes : List Node) (g : Spaces) (m : Meaning) (os : Operands) (c : ℕ) → AreOperands nodes g os
    → first_is_read m os c ≡ first_waits m g os.instruction c
first_same l nodes g m os c n =
    let i = os.instruction in
    let v = target g i.o0 in
    let f = reads_at g (sources m i) v c in
    let p = writes_first m i in
    let q = writes_second m i in
    four_same (first_reads m os c) (λ d. ((nat_lt c d && p d) || q d) && f d)
    (λ d. ap (λ x. ((nat_lt c d && p d) || q d) && x) (reads_same nodes g m os _ v c d n (l.target_same nodes g 0 i.o0 os.o0 n.o0)))
    ∙ sym (late f (λ d. nat_lt c d) p q)
    ∙ ap (λ xs. list_any f (above c xs ++ filter q four)) (sym (first_written_is m i))
    ∙ ap (λ ys. list_any f (above c (first_written m i) ++ ys)) (sym (second_written_is m i))

if_or : (a b : Bool) → (a || b) ≡ (if a then true else b)
if_or true b = refl
if_or false b = refl

second_read_same : (l : OperandLaws) → (nodes : List Node) (g : Spaces) (m : Meaning) (os : Operands) (c : ℕ) → AreOperands nodes g os
    → second_is_read m os c ≡ reads g (sources m os.instruction) (target g os.instruction.o1) c (above c (second_written m os.instruction))
second_read_same l nodes g m os c n =
    let i = os.instruction in
    let v = target g i.o1 in
    let f = reads_at g (sources m i) v c in
    let q = writes_second m i in
    four_same (second_reads m os c) (λ d. (nat_lt c d && q d) && f d)
    (λ d. ap (λ x. (nat_lt c d && q d) && x) (reads_same nodes g m os _ v c d n (l.target_same nodes g 1 i.o1 os.o1 n.o1)))
    ∙ sym (above_four f (λ d. nat_lt c d) q)
    ∙ ap (λ xs. list_any f (above c xs)) (sym (second_written_is m i))

behind_same : (l : OperandLaws) → (nodes : List Node) (g : Spaces) (m : Meaning) (os : Operands) (c : ℕ) → AreOperands nodes g os
    → stands_behind m os c ≡ is_behind m g os.instruction c
behind_same l nodes g m os c n =
    let i = os.instruction in
    let one = seen (known_target os.o0) in
    let other = seen (known_target os.o1) in
    ap (λ w. in_mask i.o0.select c && (w && meets one c other c)) (first_same l nodes g m os c n)
    ∙ ap (λ v. in_mask i.o0.select c && (first_waits m g i c && meets v c other c)) (l.target_same nodes g 0 i.o0 os.o0 n.o0)
    ∙ ap (λ v. in_mask i.o0.select c && (first_waits m g i c && meets (target g i.o0) c v c)) (l.target_same nodes g 1 i.o1 os.o1 n.o1)

pub second_same : (l : OperandLaws) → (nodes : List Node) (g : Spaces) (m : Meaning) (os : Operands) (c : ℕ) → AreOperands nodes g os
    → second_is_late m os c ≡ second_waits m g os.instruction c
second_same l nodes g m os c n =
    any_same _ _ _ _ (second_read_same l nodes g m os c n) (behind_same l nodes g m os c n)
    ∙ if_or (reads g (sources m os.instruction) (target g os.instruction.o1) c (above c (second_written m os.instruction)))
    (is_behind m g os.instruction c)
