-- The nodes of an instruction's statement are at most 16 for each of its words, less two.
use Rattle.std.proofs.Common.{◌≡◌, ℕ, ◌+◌, ◌*◌, ◌≤◌, true, List, Option, Some, None, ap, subst, arith}
use Rattle.std.specs.Prelude.{slice_get}
use Rattle.tpf_decode.specs.declared.argument.Argument.{Argument}
use Rattle.tpf_decode.specs.declared.meaning.Meaning.{Meaning}
use Rattle.tpf_decode.specs.declared.meaning.Meaning.TheVariants.{One, Two, Three, Inserts, Pair, Swaps, Nop}
use Rattle.tpf_program.specs.declared.instruction.Instruction.{Instruction}
use Rattle.tpf_program.specs.Spelling.{nothing}
use Rattle.raise_alu.specs.Waits.{most_nodes}
use Rattle.raise_operands.specs.Building.{begin_nodes, indexed_by, begun_nodes, dest_nodes}
use Rattle.raise_operands.specs.Laws.{CountLaws}
use Rattle.raise_operands.specs.Raises.{IsLong, is_computed}

none_of : (a : Argument) → a ≡ nothing → begun_nodes (indexed_by a) ≡ 0
none_of a e = ap (λ b. begun_nodes (indexed_by b)) e

pub enough : (n : CountLaws) (m : Meaning) (i : Instruction) → is_computed (Some m) ≡ true → IsLong (Some m) i → most_nodes m i + 2 ≤ 16 * i.length
enough n (One op) i c l =
    let z2 = none_of i.o2 (cc (l.others)) in
    let z3 = none_of i.o3 (cc (l.others)) in
    let z4 = none_of i.o4 (cc (l.others)) in
    omega (arith, n.first i.o0, n.source i.o1, z2, z3, z4, l.size)
enough n (Two op) i c l =
    let z3 = none_of i.o3 (cc (l.others)) in
    let z4 = none_of i.o4 (cc (l.others)) in
    omega (arith, n.first i.o0, n.source i.o1, n.source i.o2, z3, z4, l.size)
enough n (Three op) i c l =
    let z4 = none_of i.o4 (cc (l.others)) in
    omega (arith, n.first i.o0, n.source i.o1, n.source i.o2, n.source i.o3, z4, l.size)
enough n Inserts i c l = omega (arith, n.first i.o0, n.source i.o1, n.source i.o2, n.source i.o3, n.source i.o4, l.size)
enough n (Pair op) i c l =
    let z4 = none_of i.o4 (cc (l.others)) in
    omega (arith, n.first i.o0, n.dest i.o1, n.source i.o2, n.source i.o3, z4, l.size)
enough n Swaps i c l = omega (arith, n.first i.o0, n.dest i.o1, n.source i.o2, n.source i.o3, n.source i.o4, l.size)
enough n Nop i c l =
    let e : i.o0 ≡ nothing = cc (l.others) in
    let z0 = ap (λ a. begin_nodes (indexed_by a) None) e in
    let z1 = none_of i.o1 (cc (l.others)) in
    let z2 = none_of i.o2 (cc (l.others)) in
    let z3 = none_of i.o3 (cc (l.others)) in
    let z4 = none_of i.o4 (cc (l.others)) in
    let d0 = ap (λ a. dest_nodes a 0) e in
    let d1 = ap (λ a. dest_nodes a 1) e in
    let d2 = ap (λ a. dest_nodes a 2) e in
    let d3 = ap (λ a. dest_nodes a 3) e in
    omega (arith, z0, z1, z2, z3, z4, d0, d1, d2, d3, l.size)
enough n other i c l = absurd (cc (c))

pub same_item : {X : Type 0} (xs : List X) (n : ℕ) (x y : X) → slice_get xs n ≡ Some x → slice_get xs n ≡ Some y → x ≡ y
same_item xs n x y e h = cc (e, h)

pub enough_of : (l : CountLaws) (o : Option Meaning) (m : Meaning) (i : Instruction) → o ≡ Some m → is_computed o ≡ true → IsLong o i
    → most_nodes m i + 2 ≤ 16 * i.length
enough_of k (Some n) m i e c l = let same : n ≡ m = cc (e) in let P : Meaning → Type 0 = λ x. most_nodes x i + 2 ≤ 16 * i.length in
    subst P same (enough k n i c l)
enough_of k None m i e c l = absurd (cc (e))

pub words_of_it : (o : Option Meaning) (i : Instruction) → IsLong o i → 1 ≤ i.length
words_of_it o i l = omega (arith, l.size)
