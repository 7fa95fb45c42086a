-- What stands for a term stands for it in a greater tree too, and what statements ask for.
use Rattle.std.proofs.Common.{◌≡◌, ℕ, ◌+◌, ◌*◌, ◌<◌, ◌≤◌, Bool, true, false, ◌&&◌, IsTrue, List, length, Option, Some, None, refl, sym, ap, subst, arith, ◌∙◌}
use Rattle.std.specs.Prelude.{nat_eq, if◌then◌else◌, slice_get}
use Rattle.std.proofs.lemmas.Option.{slice_get_within}
use Rattle.shader_tree.specs.declared.node.Node.{Node}
use Rattle.shader_tree.specs.Nodes.{Sort, AStatement, AWord, Name, has, is_of_sort}
use Rattle.shader_tree.specs.Terms.{Term, Extends, Guard, Set, Then, Word, term_at}
use Rattle.shader_tree.specs.Trees.{Grown}
use Rattle.raise_operands.specs.declared.value.Value.{Value}
use Rattle.raise_operands.specs.declared.value.Value.TheVariants as value
use Rattle.raise_operands.specs.Folding.{literal}
use Rattle.raise_operands.specs.Building.{Grows, IsNode, IsStep, IsValue, StandsFor, known, step_of, term_of}
use Rattle.raise_operands.specs.Raising.{followed}
pub use Rattle.raise_operands.proofs.Growing.{as_step, as_term, below, both, extends_on, node_on, step_itself, step_on, value_on}
use Rattle.raise_views.specs.declared.address.Reach.{Reach}
use Rattle.raise_views.specs.Making.{base_nodes, next_if}
use Rattle.raise_views.specs.Reaching.{answered, is_known, keep, keep_by, test}

pub same_term : (old new : List Node) (s : Sort) (id : ℕ) → Extends old new → IsTrue (has old (record { sort = s; id = id }))
    → term_at new id ≡ term_at old id
same_term old new s id e h = e.terms id (below old s id h)

pub grows_on : (a b c : Grown) (m n k : ℕ) → Grows a b m → Grows b c n → m + n ≤ k → Grows a c k
grows_on a b c m n k x y l = record {
  extends = extends_on a.nodes b.nodes c.nodes x.extends y.extends;
  few = omega (arith, x.few, y.few);
  capacity = y.capacity ∙ x.capacity;
  root = y.root ∙ x.root;
}

-- what a node with three parts asks for
pub three : (a b c : Bool) → IsTrue a → IsTrue b → IsTrue c → IsTrue ((a && (b && (c && true))) && true)
three true true true h k l = refl
three true true false h k l = absurd (cc l)
three true false c h k l = absurd (cc k)
three false b c h k l = absurd (cc h)

pub answered_is : (r : Reach) (c n : ℕ) (a b body : Term) → is_known r c ≡ false → a ≡ Set n (Word 0) → b ≡ Guard (test r c) body
    → Then a b ≡ answered r c n body
answered_is r c n a b body e h k = rw (e, h, k) refl

pub next_is : (b : Bool) (s t x y : Term) → b ≡ true → s ≡ t → x ≡ y → followed s x ≡ next_if b t y
next_is b s t x y e h k = rw (e, h, k) refl

pub next_same : (b : Bool) (s t x : Term) → s ≡ t → next_if b s x ≡ next_if b t x
next_same b s t x e = ap (λ y. next_if b y x) e

pub grows_four : (a b c d e : Grown) (n : ℕ) → Grows a b n → Grows b c n → Grows c d n → Grows d e n → Grows a e (4 * n)
grows_four a b c d e n w x y z =
    grows_on a d e (n + n + n) n (4 * n) (grows_on a c d (n + n) n (n + n + n) (grows_on a b c n n (n + n) w x (omega arith)) y (omega arith)) z
    (omega arith)

pub at_most : (m n : ℕ) → m + n ≤ m + n
at_most m n = omega arith

base_if : (b : Bool) → 1 ≤ (if b then 1 else 3)
base_if true = omega arith
base_if false = omega arith

most_if : (b : Bool) → (if b then 1 else 3) ≤ 3
most_if true = omega arith
most_if false = omega arith

pub base_least : (c : ℕ) → 1 ≤ base_nodes c
base_least c = base_if (nat_eq c 0)

pub base_most : (c : ℕ) → base_nodes c ≤ 3
base_most c = most_if (nat_eq c 0)

pub value_itself : (nodes : List Node) (v : Value) (t : Term) → StandsFor nodes v t → IsValue nodes v
value_itself nodes v t s = record { sorted = s.sorted; term = refl; same = ap literal s.term ∙ s.same }

pub keep_node : (nodes : List Node) (v : Value) (id n : ℕ) → v ≡ value.Node id → IsValue nodes v → keep n (term_of nodes v) ≡ Set n (term_at nodes id)
keep_node nodes v id n e h = ap (λ o. keep_by o n (term_of nodes v)) h.same ∙ ap (λ x. keep_by (known x) n (term_of nodes x)) e

pub grows_same : (a b : Grown) (m n : ℕ) → Grows a b m → n ≡ m → Grows a b n
grows_same a b m n g e = record { extends = g.extends; few = omega (arith, g.few, e); capacity = g.capacity; root = g.root }
