-- The nodes of operands are at most 16 for each of their words.
use Rattle.std.proofs.Common.{◌≡◌, ℕ, ◌+◌, ◌*◌, ◌≤◌, Bool, true, false, List, Option, Some, None, subst, arith}
use Rattle.std.specs.Prelude.{if◌then◌else◌}
use Rattle.tpf_decode.specs.declared.argument.Argument.{Argument}
use Rattle.tpf_decode.specs.declared.argument.Kind.{Kind}
use Rattle.tpf_decode.specs.declared.argument.Kind.TheVariants as kind
use Rattle.tpf_decode.specs.declared.argument.Relative.{Relative}
use Rattle.shader_tree.specs.declared.node.Space.TheVariants as space
use Rattle.shader_tree.specs.Values.{Spaces}
use Rattle.raise_operands.specs.Building.{AreFew, IsOperandOf, known_target, known_target_by, vector_nodes, begin_nodes, begun_nodes, component_nodes, dest_by, indexed_by, indexed_by_kind, source_nodes}
use Rattle.tpf_decode.specs.Roles.{is_register}
use Rattle.shader_tree.specs.declared.node.Node.{Node}
use Rattle.raise_operands.specs.declared.operand.Operand.{Operand}
use Rattle.raise_operands.specs.declared.vector.Vector.{Vector as Known}
use Rattle.raise_operands.specs.declared.vector.Vector.TheVariants as known
use Rattle.raise_operands.specs.Laws.{dests, writes_nodes}
use Rattle.raise_operands.specs.Raises.{AreSmall, least_added, least_by, least_words}

pub few_of : (g : Spaces) → AreSmall g → AreFew g
few_of g s space.Temps = s.temps
few_of g s (space.Indexable slot) = s.elements slot
few_of g s (space.Constant slot) = s.vectors slot
few_of g s space.ImmediateConstant = omega (arith, s.immediates)

added_least : (k : Kind) → 1 ≤ least_added k
added_least kind.Temp = omega arith
added_least kind.Indexable = omega arith
added_least kind.Constant = omega arith
added_least other = omega arith

-- a source, its index and its four components
source_few : (k : Kind) (r : Option Relative) (n : Bool)
    → begun_nodes (indexed_by_kind k r) + 4 * (if n then component_nodes (indexed_by_kind k r) + 1 else component_nodes (indexed_by_kind k r)) + 1
    ≤ 16 * (if n then 1 + least_by k r else least_by k r)
source_few kind.Temp r true = omega arith
source_few kind.Temp r false = omega arith
source_few kind.Indexable None true = omega arith
source_few kind.Indexable None false = omega arith
source_few kind.Indexable (Some r) true = omega (arith, added_least r.kind)
source_few kind.Indexable (Some r) false = omega (arith, added_least r.kind)
source_few kind.Constant None true = omega arith
source_few kind.Constant None false = omega arith
source_few kind.Constant (Some r) true = omega (arith, added_least r.kind)
source_few kind.Constant (Some r) false = omega (arith, added_least r.kind)
source_few kind.ImmediateConstant None true = omega arith
source_few kind.ImmediateConstant None false = omega arith
source_few kind.ImmediateConstant (Some r) true = omega (arith, added_least r.kind)
source_few kind.ImmediateConstant (Some r) false = omega (arith, added_least r.kind)
source_few kind.Immediate r true = omega arith
source_few kind.Immediate r false = omega arith
source_few other r true = omega arith
source_few other r false = omega arith

pub source_of : (a : Argument) → begun_nodes (indexed_by a) + 4 * source_nodes a + 1 ≤ 16 * least_words a
source_of a = source_few a.kind a.relative a.negate

-- a destination, its index, its four components, and the places of their statements in the chain
dest_few : (k : Kind) (r : Option Relative)
    → begun_nodes (indexed_by_kind k r) + (dest_by k r 0 + dest_by k r 1 + (dest_by k r 2 + dest_by k r 3)) + 11 ≤ 16 * least_by k r
dest_few kind.Temp r = omega arith
dest_few kind.Indexable None = omega arith
dest_few kind.Indexable (Some r) = omega (arith, added_least r.kind)
dest_few kind.Constant None = omega arith
dest_few kind.Constant (Some r) = omega (arith, added_least r.kind)
dest_few kind.ImmediateConstant None = omega arith
dest_few kind.ImmediateConstant (Some r) = omega (arith, added_least r.kind)
dest_few kind.Immediate r = omega arith
dest_few other r = omega arith

least_more : (n : Bool) (k : ℕ) → k ≤ (if n then 1 + k else k)
least_more true k = omega arith
least_more false k = omega arith

pub dest_of : (a : Argument) → begun_nodes (indexed_by a) + dests a + 11 ≤ 16 * least_words a
dest_of a = omega (arith, dest_few a.kind a.relative, least_more a.negate (least_by a.kind a.relative))

-- the first operand has nothing in front of it
first_few : (k : Kind) (r : Option Relative)
    → begin_nodes (indexed_by_kind k r) None + (dest_by k r 0 + dest_by k r 1 + (dest_by k r 2 + dest_by k r 3)) + 12 ≤ 16 * least_by k r
first_few kind.Temp r = omega arith
first_few kind.Indexable None = omega arith
first_few kind.Indexable (Some r) = omega (arith, added_least r.kind)
first_few kind.Constant None = omega arith
first_few kind.Constant (Some r) = omega (arith, added_least r.kind)
first_few kind.ImmediateConstant None = omega arith
first_few kind.ImmediateConstant (Some r) = omega (arith, added_least r.kind)
first_few kind.Immediate r = omega arith
first_few other r = omega arith

pub first_of : (a : Argument) → begin_nodes (indexed_by a) None + dests a + 12 ≤ 16 * least_words a
first_of a = omega (arith, first_few a.kind a.relative, least_more a.negate (least_by a.kind a.relative))

-- a source that is read once, and an index alone
once_by : (k : Kind) (r : Option Relative) (n : Bool)
    → begun_nodes (indexed_by_kind k r) + (if n then component_nodes (indexed_by_kind k r) + 1 else component_nodes (indexed_by_kind k r)) + 13
    ≤ 16 * (if n then 1 + least_by k r else least_by k r)
once_by kind.Temp r true = omega arith
once_by kind.Temp r false = omega arith
once_by kind.Indexable None true = omega arith
once_by kind.Indexable None false = omega arith
once_by kind.Indexable (Some r) true = omega (arith, added_least r.kind)
once_by kind.Indexable (Some r) false = omega (arith, added_least r.kind)
once_by kind.Constant None true = omega arith
once_by kind.Constant None false = omega arith
once_by kind.Constant (Some r) true = omega (arith, added_least r.kind)
once_by kind.Constant (Some r) false = omega (arith, added_least r.kind)
once_by kind.ImmediateConstant None true = omega arith
once_by kind.ImmediateConstant None false = omega arith
once_by kind.ImmediateConstant (Some r) true = omega (arith, added_least r.kind)
once_by kind.ImmediateConstant (Some r) false = omega (arith, added_least r.kind)
once_by other r true = omega arith
once_by other r false = omega arith

pub once_of : (a : Argument) → begun_nodes (indexed_by a) + source_nodes a + 13 ≤ 16 * least_words a
once_of a = once_by a.kind a.relative a.negate

component_least : (r : Option Relative) (n : Bool) → 2 ≤ (if n then component_nodes r + 1 else component_nodes r)
component_least None true = omega arith
component_least None false = omega arith
component_least (Some r) true = omega arith
component_least (Some r) false = omega arith

pub begun_of : (a : Argument) → begun_nodes (indexed_by a) + 3 ≤ 16 * least_words a
begun_of a = let o = once_of a in let c = component_least (indexed_by a) a.negate in omega arith

-- a destination whose components are written once
writes_by : (k : Kind) (r : Option Relative) (v : Known) → vector_nodes v ≤ component_nodes (indexed_by_kind k r)
    → begin_nodes (indexed_by_kind k r) None + writes_nodes (known_target_by k v) + 16 ≤ 16 * least_by k r
writes_by kind.Temp r known.Outside h = omega arith
writes_by kind.Temp r (known.At space n) h = omega arith
writes_by kind.Temp r (known.Indexed space) h = absurd (omega (arith, h))
writes_by kind.Indexable None known.Outside h = omega arith
writes_by kind.Indexable None (known.At space n) h = omega arith
writes_by kind.Indexable None (known.Indexed space) h = absurd (omega (arith, h))
writes_by kind.Indexable (Some r) known.Outside h = omega (arith, added_least r.kind)
writes_by kind.Indexable (Some r) (known.At space n) h = omega (arith, added_least r.kind)
writes_by kind.Indexable (Some r) (known.Indexed space) h = omega (arith, added_least r.kind)
writes_by kind.Constant None v h = omega arith
writes_by kind.Constant (Some r) v h = omega (arith, added_least r.kind)
writes_by kind.ImmediateConstant None v h = omega arith
writes_by kind.ImmediateConstant (Some r) v h = omega (arith, added_least r.kind)
writes_by other r v h = omega arith

register_by : (k : Kind) (r : Option Relative) (v : Known) → vector_nodes v ≤ component_nodes (indexed_by_kind k r) → is_register k ≡ true
    → begin_nodes (indexed_by_kind k r) None + writes_nodes (known_target_by k v) + 20 ≤ 16 * least_by k r
register_by kind.Temp r known.Outside h e = omega arith
register_by kind.Temp r (known.At space n) h e = omega arith
register_by kind.Temp r (known.Indexed space) h e = absurd (omega (arith, h))
register_by kind.Indexable None known.Outside h e = omega arith
register_by kind.Indexable None (known.At space n) h e = omega arith
register_by kind.Indexable None (known.Indexed space) h e = absurd (omega (arith, h))
register_by kind.Indexable (Some r) known.Outside h e = omega (arith, added_least r.kind)
register_by kind.Indexable (Some r) (known.At space n) h e = omega (arith, added_least r.kind)
register_by kind.Indexable (Some r) (known.Indexed space) h e = omega (arith, added_least r.kind)
register_by other r v h e = absurd (cc e)

pub dest_once : (nodes : List Node) (g : Spaces) (a : Argument) (o : Operand) → IsOperandOf nodes g 0 a o
    → begin_nodes (indexed_by a) None + writes_nodes (known_target o) + 16 ≤ 16 * least_words a
dest_once nodes g a o n =
    let P : Argument → Type 0 = λ b. begin_nodes (indexed_by b) None + writes_nodes (known_target o) + 16 ≤ 16 * least_words b in
    subst P n.argument
    (let w = writes_by o.argument.kind o.argument.relative o.place.vector n.operand.few in
    let l = least_more o.argument.negate (least_by o.argument.kind o.argument.relative) in omega arith)

pub register_once : (nodes : List Node) (g : Spaces) (a : Argument) (o : Operand) → IsOperandOf nodes g 0 a o → is_register a.kind ≡ true
    → begin_nodes (indexed_by a) None + writes_nodes (known_target o) + 20 ≤ 16 * least_words a
register_once nodes g a o n e =
    let P : Argument → Type 0 = λ b. is_register b.kind ≡ true → begin_nodes (indexed_by b) None + writes_nodes (known_target o) + 20 ≤ 16 *
    least_words b in
    subst P n.argument
    (λ f. let w = register_by o.argument.kind o.argument.relative o.place.vector n.operand.few f in
    let l = least_more o.argument.negate (least_by o.argument.kind o.argument.relative) in omega arith) e
