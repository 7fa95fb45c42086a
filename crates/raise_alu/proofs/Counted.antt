-- How many nodes the statement of an instruction takes at most, by its operands.
use Rattle.std.proofs.Common.{◌≡◌, ℕ, ◌+◌, ◌≤◌, Bool, true, false, List, Option, Some, None, refl, sym, ap, subst, arith}
use Rattle.std.specs.Prelude.{if◌then◌else◌}
use Rattle.tpf_decode.specs.declared.argument.Argument.{Argument}
use Rattle.tpf_decode.specs.declared.argument.Kind.{Kind}
use Rattle.tpf_decode.specs.declared.argument.Kind.TheVariants as kind
use Rattle.tpf_decode.specs.declared.argument.Relative.{Relative}
use Rattle.tpf_decode.specs.declared.meaning.Meaning.{Meaning}
use Rattle.tpf_decode.specs.declared.meaning.Meaning.TheVariants.{One, Two, Three, Inserts, Pair, Swaps}
use Rattle.shader_tree.specs.declared.node.Node.{Node}
use Rattle.shader_tree.specs.Values.{Spaces}
use Rattle.raise_operands.specs.declared.operand.Operand.{Operand}
use Rattle.raise_operands.specs.declared.operand.Operands.{Operands}
use Rattle.raise_operands.specs.declared.vector.Vector.{Vector as Known}
use Rattle.raise_operands.specs.declared.vector.Vector.TheVariants as known
use Rattle.raise_alu.specs.Computing.{is_double, operation_nodes, sources_nodes}
use Rattle.raise_alu.specs.Waits.{part_most, part_nodes, parts_most, parts_nodes, sources_most, turn_nodes}
use Rattle.raise_operands.specs.Building.{AreOperands, IsOperandOf, begin_nodes, component_nodes, indexed_by, indexed_by_kind, source_nodes, vector_nodes, dest_by, dest_nodes, known_target, known_target_by}

dest_few : (k : Kind) (r : Option Relative) (v : Known) (c : ℕ) → vector_nodes v ≤ component_nodes (indexed_by_kind k r)
    → turn_nodes (known_target_by k v) c ≤ dest_by k r c
dest_few kind.Temp r known.Outside c h = omega arith
dest_few kind.Temp r (known.At space n) c h = omega arith
dest_few kind.Temp r (known.Indexed space) c h = absurd (omega (arith, h))
dest_few kind.Indexable None known.Outside c h = omega arith
dest_few kind.Indexable None (known.At space n) c h = omega arith
dest_few kind.Indexable None (known.Indexed space) c h = absurd (omega (arith, h))
dest_few kind.Indexable (Some r) known.Outside c h = omega arith
dest_few kind.Indexable (Some r) (known.At space n) c h = omega arith
dest_few kind.Indexable (Some r) (known.Indexed space) c h = omega arith
dest_few other r v c h = omega arith

dest_of : (nodes : List Node) (g : Spaces) (k : ℕ) (a : Argument) (o : Operand) (c : ℕ) → IsOperandOf nodes g k a o
    → turn_nodes (known_target o) c ≤ dest_nodes a c
dest_of nodes g k a o c n =
    let P : Argument → Type 0 = λ b. turn_nodes (known_target o) c ≤ dest_nodes b c in
    subst P n.argument (dest_few o.argument.kind o.argument.relative o.place.vector c n.operand.few)

source_is : (nodes : List Node) (g : Spaces) (k : ℕ) (a : Argument) (o : Operand) → IsOperandOf nodes g k a o → source_nodes o.argument ≡ source_nodes
    a
source_is nodes g k a o n = ap source_nodes n.argument

sources_are : (nodes : List Node) (g : Spaces) (m : Meaning) (os : Operands) → AreOperands nodes g os → sources_nodes m os ≡ sources_most m
    os.instruction
sources_are nodes g (One op) os n = source_is nodes g 1 _ os.o1 n.o1
sources_are nodes g (Two op) os n =
    let a = source_is nodes g 1 _ os.o1 n.o1 in let b = source_is nodes g 2 _ os.o2 n.o2 in omega (arith, a, b)
sources_are nodes g (Three op) os n =
    let a = source_is nodes g 1 _ os.o1 n.o1 in let b = source_is nodes g 2 _ os.o2 n.o2 in
    let c = source_is nodes g 3 _ os.o3 n.o3 in omega (arith, a, b, c)
sources_are nodes g Inserts os n =
    let a = source_is nodes g 1 _ os.o1 n.o1 in let b = source_is nodes g 2 _ os.o2 n.o2 in
    let c = source_is nodes g 3 _ os.o3 n.o3 in let d = source_is nodes g 4 _ os.o4 n.o4 in omega (arith, a, b, c, d)
sources_are nodes g (Pair op) os n =
    let b = source_is nodes g 2 _ os.o2 n.o2 in let c = source_is nodes g 3 _ os.o3 n.o3 in omega (arith, b, c)
sources_are nodes g Swaps os n =
    let b = source_is nodes g 2 _ os.o2 n.o2 in let c = source_is nodes g 3 _ os.o3 n.o3 in
    let d = source_is nodes g 4 _ os.o4 n.o4 in omega (arith, b, c, d)
sources_are nodes g other os n = refl

second_few : (b : Bool) (x y : ℕ) → x ≤ y → (if b then x else 0) ≤ (if b then y else 0)
second_few true x y h = h
second_few false x y h = omega arith

part_few : (nodes : List Node) (g : Spaces) (m : Meaning) (os : Operands) (c : ℕ) → AreOperands nodes g os → part_nodes m os c ≤ part_most m
    os.instruction c
part_few nodes g m os c n = add (sources_nodes m os) (operation_nodes m) _ _ _ _ _ (sources_are nodes g m os n) (dest_of nodes g 0 _ os.o0 c n.o0)
    (second_few (is_double m) _ _ (dest_of nodes g 1 _ os.o1 c n.o1)) where
      add : (s o a b t x y : ℕ) → s ≡ t → a ≤ x → b ≤ y → s + o + a + b ≤ t + o + x + y
      add s o a b t x y e h k = omega arith

pub parts_few : (nodes : List Node) (g : Spaces) (m : Meaning) (os : Operands) → AreOperands nodes g os → parts_nodes m os ≤ parts_most m
    os.instruction
parts_few nodes g m os n = four _ _ _ _ _ _ _ _ (part_few nodes g m os 0 n) (part_few nodes g m os 1 n) (part_few nodes g m os 2 n)
    (part_few nodes g m os 3 n) where
      four : (a b c d w x y z : ℕ) → a ≤ w → b ≤ x → c ≤ y → d ≤ z → a + b + (c + d) ≤ w + x + (y + z)
      four a b c d w x y z h i j k = omega arith

-- the number that control flow reads
scalar_by : (r : Option Relative) (n : Bool) → begin_nodes r None + (if n then component_nodes r + 1 else component_nodes r) + 1 + 1 ≤ 21
scalar_by None true = omega arith
scalar_by None false = omega arith
scalar_by (Some r) true = omega arith
scalar_by (Some r) false = omega arith

pub scalar_few : (nodes : List Node) (g : Spaces) (k : ℕ) (a : Argument) (o : Operand) → IsOperandOf nodes g k a o
    → begin_nodes (indexed_by a) None + source_nodes o.argument + 1 + 1 ≤ 21
scalar_few nodes g k a o n =
    let P : Argument → Type 0 = λ b. begin_nodes (indexed_by a) None + source_nodes b + 1 + 1 ≤ 21 in
    subst P (sym n.argument) (scalar_by (indexed_by a) a.negate)
