-- What stands for a term stands for it in a greater tree too.
use Rattle.std.proofs.Common.{◌≡◌, ℕ, ◌+◌, ◌<◌, ◌≤◌, Bool, true, false, ◌&&◌, IsTrue, List, length, Option, Some, None, refl, sym, ap, subst, arith, ◌∙◌}
use Rattle.std.specs.Prelude.{slice_get}
use Rattle.std.proofs.lemmas.Option.{slice_get_within}
use Rattle.tpf_decode.specs.declared.argument.Argument.{Argument}
use Rattle.shader_tree.specs.declared.node.Node.{Node}
use Rattle.shader_tree.specs.declared.node.Space.{Space}
use Rattle.shader_tree.specs.Nodes.{Sort, AWord, ATruth, AStatement, Name, a_truth, has, is_of_sort}
use Rattle.shader_tree.specs.Terms.{Term, Guard, Write, term_at, Extends}
use Rattle.shader_tree.specs.Trees.{Grown}
use Rattle.shader_tree.specs.Values.{Spaces}
use Rattle.raise_operands.specs.declared.operand.Kept.{Kept}
use Rattle.raise_operands.specs.declared.operand.Operand.{Operand}
use Rattle.raise_operands.specs.declared.operand.Operands.{Operands}
use Rattle.raise_operands.specs.declared.value.Value.{Value}
use Rattle.raise_operands.specs.declared.value.Value.TheVariants as value
use Rattle.raise_operands.specs.declared.vector.Vector.{Vector as Known}
use Rattle.raise_operands.specs.declared.vector.Vector.TheVariants as known'
use Rattle.raise_operands.specs.Building.{AreOperands, CanWrite, Grows, IsKept, IsNode, IsOperand, IsOperandOf, IsStep, KeepsIndex, StandsFor, step_of, term_of, write_at}
use Rattle.raise_operands.specs.Raising.{is_nothing, source}
use Rattle.raise_operands.specs.Vectors.{word_of}

within : (nodes : List Node) (name : Name) (o : Option Node) → slice_get nodes name.id ≡ o → IsTrue (is_of_sort name.sort o) → name.id < length nodes
within nodes name None e h = absurd (cc h)
within nodes name (Some n) e h = slice_get_within nodes name.id n e

-- a name of the tree is below its length
pub below : (nodes : List Node) (s : Sort) (id : ℕ) → IsTrue (has nodes (record { sort = s; id = id })) → id < length nodes
below nodes s id h = within nodes (record { sort = s; id = id }) (slice_get nodes id) refl h

pub node_on : (old new : List Node) (s : Sort) (id : ℕ) (t : Term) → Extends old new → IsNode old s id t → IsNode new s id t
node_on old new s id t e n = record {
  sorted = e.names (record { sort = s; id = id }) n.sorted;
  term = e.terms id (below old s id n.sorted) ∙ n.term;
}

pub node_itself : (nodes : List Node) (s : Sort) (id : ℕ) → IsTrue (has nodes (record { sort = s; id = id })) → IsNode nodes s id (term_at nodes id)
node_itself nodes s id h = record { sorted = h; term = refl }

pub value_on : (old new : List Node) (v : Value) (t : Term) → Extends old new → StandsFor old v t → StandsFor new v t
value_on old new (value.Literal w) t e n = record { sorted = n.sorted; term = n.term; same = n.same }
value_on old new (value.Node id) t e n =
    let k = node_on old new AWord id t e (record { sorted = n.sorted; term = n.term }) in
    record { sorted = k.sorted; term = k.term; same = n.same }

pub step_on : (old new : List Node) (s : Option ℕ) (t : Term) → Extends old new → IsStep old s t → IsStep new s t
step_on old new None t e n = record { sorted = n.sorted; term = n.term; same = n.same }
step_on old new (Some id) t e n =
    let k = node_on old new AStatement id t e (record { sorted = n.sorted; term = n.term }) in
    record { sorted = k.sorted; term = k.term; same = n.same }

pub extends_on : (a b c : List Node) → Extends a b → Extends b c → Extends a c
extends_on a b c x y = record {
  count = omega (arith, x.count, y.count);
  nodes = λ id n e. y.nodes id n (x.nodes id n e);
  names = λ name h. y.names name (x.names name h);
  terms = λ id lt. y.terms id (omega (arith, lt, x.count)) ∙ x.terms id lt;
}

-- what a node with two parts asks for
pub both : (a b : Bool) → IsTrue a → IsTrue b → IsTrue ((a && (b && true)) && true)
both true true h k = refl
both true false h k = absurd (cc k)
both false b h k = absurd (cc h)

pub as_term : (nodes : List Node) (s : Sort) (id : ℕ) (t u : Term) → IsNode nodes s id t → t ≡ u → IsNode nodes s id u
as_term nodes s id t u n e = record { sorted = n.sorted; term = n.term ∙ e }

pub some_step : (nodes : List Node) (id : ℕ) (t : Term) → IsNode nodes AStatement id t → is_nothing t ≡ false → IsStep nodes (Some id) t
some_step nodes id t n e = record { sorted = n.sorted; term = n.term; same = e }

pub grows_on : (a b c : Grown) (m n k : ℕ) → Grows a b m → Grows b c n → m + n ≡ k → Grows a c k
grows_on a b c m n k x y e = record {
  extends = extends_on a.nodes b.nodes c.nodes x.extends y.extends;
  few = omega (arith, x.few, y.few);
  capacity = y.capacity ∙ x.capacity;
  root = y.root ∙ x.root;
}

pub kept_on : (old new : List Node) (g : Spaces) (k : ℕ) (space : Space) (kept : Kept) → Extends old new → IsKept old g k space kept
    → IsKept new g k space kept
kept_on old new g k space kept e n = record {
  inside = node_on old new ATruth kept.inside _ e n.inside;
  start = node_on old new AWord kept.start _ e n.start;
  zero = node_on old new AWord kept.zero _ e n.zero;
}

pub keeps_on : (old new : List Node) (g : Spaces) (k : ℕ) (v : Known) (kept : Kept) → Extends old new → KeepsIndex old g k v kept
    → KeepsIndex new g k v kept
keeps_on old new g k (known'.Indexed space) kept e n = kept_on old new g k space kept e n
keeps_on old new g k other kept e n = tt

pub operand_on : (old new : List Node) (g : Spaces) (o : Operand) → Extends old new → IsOperand old g o → IsOperand new g o
operand_on old new g o e n = record {
  place = record { inside = n.place.inside; kept = keeps_on old new g o.place.number o.place.vector o.place.kept e n.place.kept };
  vector = n.vector;
  few = n.few;
  select = n.select;
}

pub can_write_on : (old new : List Node) (v : Known) (k : ℕ) (kept : Kept) → Extends old new → CanWrite old v k kept → CanWrite new v k kept
can_write_on old new known'.Outside k kept e n = tt
can_write_on old new (known'.At space m) k kept e n = n
can_write_on old new (known'.Indexed space) k kept e n = (e.names (a_truth kept.inside) n.0, node_on old new AWord kept.start _ e n.1)

pub as_step : (nodes : List Node) (s : Option ℕ) (t u : Term) → IsStep nodes s t → t ≡ u → IsStep nodes s u
as_step nodes s t u n e = let P : Term → Type 0 = λ x. IsStep nodes s x in subst P e n

pub step_itself : (nodes : List Node) (s : Option ℕ) (t : Term) → IsStep nodes s t → IsStep nodes s (step_of nodes s)
step_itself nodes s t n = as_step nodes s t (step_of nodes s) n (sym n.term)

pub value_itself : (nodes : List Node) (v : Value) (t : Term) → StandsFor nodes v t → StandsFor nodes v (term_of nodes v)
value_itself nodes v t n = let P : Term → Type 0 = λ x. StandsFor nodes v x in subst P (sym n.term) n

pub step_on_itself : (old new : List Node) (s : Option ℕ) (t : Term) → Extends old new → IsStep old s t → IsStep new s (step_of new s)
step_on_itself old new s t e n = step_itself new s t (step_on old new s t e n)

pub write_at_on : (old new : List Node) (v : Known) (k : ℕ) (kept : Kept) (c : ℕ) (x : Term) → Extends old new → CanWrite old v k kept
    → write_at v (term_at new kept.inside) k c x ≡ write_at v (term_at old kept.inside) k c x
write_at_on old new known'.Outside k kept c x e n = refl
write_at_on old new (known'.At space m) k kept c x e n = refl
write_at_on old new (known'.Indexed space) k kept c x e n =
    ap (λ t. Guard t (Write space (word_of k c) x)) (e.terms kept.inside (below old ATruth kept.inside n.0))

pub write_at_word : (v : Known) (t : Term) (k c : ℕ) (x y : Term) → x ≡ y → write_at v t k c x ≡ write_at v t k c y
write_at_word v t k c x y e = ap (λ z. write_at v t k c z) e

pub operand_of_on : (old new : List Node) (g : Spaces) (k : ℕ) (a : Argument) (o : Operand) → Extends old new → IsOperandOf old g k a o
    → IsOperandOf new g k a o
operand_of_on old new g k a o e n = record { operand = operand_on old new g o e n.operand; number = n.number; argument = n.argument }

pub operands_on : (old new : List Node) (g : Spaces) (os : Operands) → Extends old new → AreOperands old g os → AreOperands new g os
operands_on old new g os e n = record {
  o0 = operand_of_on old new g 0 os.instruction.o0 os.o0 e n.o0;
  o1 = operand_of_on old new g 1 os.instruction.o1 os.o1 e n.o1;
  o2 = operand_of_on old new g 2 os.instruction.o2 os.o2 e n.o2;
  o3 = operand_of_on old new g 3 os.instruction.o3 os.o3 e n.o3;
  o4 = operand_of_on old new g 4 os.instruction.o4 os.o4 e n.o4;
}

-- the source that an operand is
pub source_of : (nodes : List Node) (g : Spaces) (k : ℕ) (a : Argument) (o : Operand) (c : ℕ) → IsOperandOf nodes g k a o
    → source g o.place.number o.argument c ≡ source g k a c
source_of nodes g k a o c n = ap (λ m. source g m o.argument c) n.number ∙ ap (λ b. source g k b c) n.argument

pub extends_itself : (nodes : List Node) → Extends nodes nodes
extends_itself nodes = record { count = omega arith; nodes = λ id n e. e; names = λ name h. h; terms = λ id lt. refl }

pub grows_itself : (a : Grown) → Grows a a 0
grows_itself a = record { extends = extends_itself a.nodes; few = omega arith; capacity = refl; root = refl }

pub grows_more : (a b : Grown) (m n : ℕ) → Grows a b m → m ≤ n → Grows a b n
grows_more a b m n x l = record { extends = x.extends; few = omega (arith, x.few, l); capacity = x.capacity; root = x.root }
