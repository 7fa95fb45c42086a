-- Operands that are begun: which have an index that is kept.
use Rattle.std.proofs.Common.{◌≡◌, ℕ, ◌+◌, ◌%◌, ◌^◌, ◌≤◌, Bool, true, false, List, Option, Some, None, refl, sym, ap, arith, ◌∙◌}
use Rattle.std.specs.Prelude.{nat_lt, if◌then◌else◌}
use Rattle.tpf_decode.specs.declared.argument.Argument.{Argument}
use Rattle.tpf_decode.specs.declared.argument.Kind.{Kind}
use Rattle.tpf_decode.specs.declared.argument.Kind.TheVariants as kind
use Rattle.tpf_decode.specs.declared.argument.Relative.{Relative}
use Rattle.shader_tree.specs.declared.node.Space.{Space}
use Rattle.shader_tree.specs.declared.node.Space.TheVariants as space
use Rattle.shader_tree.specs.declared.node.Node.{Node}
use Rattle.shader_tree.specs.Terms.{Term, Nothing}
use Rattle.shader_tree.specs.Values.{Spaces}
use Rattle.raise_operands.specs.declared.operand.Kept.{Kept}
use Rattle.raise_operands.specs.declared.vector.Vector.{Vector as Known}
use Rattle.raise_operands.specs.declared.vector.Vector.TheVariants as known'
use Rattle.raise_operands.specs.Building.{KeepsIndex, begun_nodes, seen, vector_nodes, component_nodes, begin_nodes}
use Rattle.raise_operands.specs.Folding.{literal}
use Rattle.raise_operands.specs.Raising.{followed}
use Rattle.raise_operands.specs.Vectors.{Vector, Outside, At, Indexed, vectors_in, vector_by, index_word, keeps_by, keeps_index, vector}

-- A vector whose index is not kept.
abbrev pub IsDirect : Vector → Type 0
IsDirect (Indexed space) = ⊥
IsDirect other = Unit {0}

direct_at : (space : Space) (n : ℕ) (b : Bool) → IsDirect (if b then At space n else Outside)
direct_at space n true = tt
direct_at space n false = tt

pub direct : (k : Kind) (g : Spaces) (slot n : ℕ) → IsDirect (vector_by k g slot (Some n))
direct kind.Temp g slot n = direct_at space.Temps slot (nat_lt slot (vectors_in g space.Temps))
direct kind.Indexable g slot n = direct_at (space.Indexable slot) n (nat_lt n (vectors_in g (space.Indexable slot)))
direct kind.Constant g slot n = direct_at (space.Constant slot) n (nat_lt n (vectors_in g (space.Constant slot)))
direct kind.ImmediateConstant g slot n = direct_at space.ImmediateConstant n (nat_lt n (vectors_in g space.ImmediateConstant))
direct other g slot n = tt

pub keeps_none : (nodes : List Node) (g : Spaces) (k : ℕ) (v : Known) (kept : Kept) → IsDirect (seen v) → KeepsIndex nodes g k v kept
keeps_none nodes g k known'.Outside kept d = tt
keeps_none nodes g k (known'.At space n) kept d = tt
keeps_none nodes g k (known'.Indexed space) kept d = absurd d

pub two_nodes : (v : Known) → IsDirect (seen v) → vector_nodes v ≡ 2
two_nodes known'.Outside d = refl
two_nodes (known'.At space n) d = refl
two_nodes (known'.Indexed space) d = absurd d

pub at_least_two : (r : Option Relative) → 2 ≤ component_nodes r
at_least_two None = omega arith
at_least_two (Some r) = omega arith

pub no_keeping : (v : Vector) (g : Spaces) (k : ℕ) (index : Term) → IsDirect v → keeps_by v g k index ≡ Nothing
no_keeping Outside g k index d = refl
no_keeping (At space n) g k index d = refl
no_keeping (Indexed space) g k index d = absurd d

pub followed_by_none : (t : Term) → followed t Nothing ≡ t
followed_by_none Nothing = refl
followed_by_none other = refl

pub then_none : (t k : Term) → k ≡ Nothing → t ≡ followed t k
then_none t k e = sym (followed_by_none t) ∙ ap (λ x. followed t x) (sym e)

pub followed_same : (a b k : Term) → a ≡ b → followed a k ≡ followed b k
followed_same a b k e = ap (λ x. followed x k) e

-- the statement that keeps an index that is no literal, and the one of an index that is
pub keeping : (g : Spaces) (k : ℕ) (a : Argument) (space : Space) → literal (index_word g a) ≡ None → vector_by a.kind g a.slot None ≡ Indexed space
    → keeps_by (Indexed space) g k (index_word g a) ≡ keeps_index g k a
keeping g k a space l v = rw (l, v) refl

pub vector_is : (g : Spaces) (a : Argument) (v : Vector) (o : Option ℕ) → literal (index_word g a) ≡ o → v ≡ vector_by a.kind g a.slot o
    → v ≡ vector g a
vector_is g a v o l e = e ∙ ap (λ x. vector_by a.kind g a.slot x) (sym l)

known_of : (g : Spaces) (a : Argument) → a.relative ≡ None → literal (index_word g a) ≡ Some ((0 + a.index) % 2 ^ 32)
known_of g a e = rw e refl

-- an index that is no literal has a relative operand, so a component takes four nodes
pub many : (g : Spaces) (a : Argument) (r : Option Relative) → a.relative ≡ r → literal (index_word g a) ≡ None → 4 ≤ component_nodes r
many g a (Some s) e h = omega arith
many g a None e h = let k = known_of g a e in absurd (cc (h, k))

pub begun_most : (r : Option Relative) (front : Option ℕ) → begin_nodes r front ≤ begun_nodes r
begun_most None front = omega arith
begun_most (Some r) None = omega arith
begun_most (Some r) (Some front) = omega arith
