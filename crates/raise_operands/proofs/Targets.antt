-- Destinations: what can be written, and the statement that writes.
use Rattle.std.proofs.Common.{◌≡◌, ℕ, List, refl, ap, arith, ◌∙◌}
use Rattle.tpf_decode.specs.declared.argument.Argument.{Argument}
use Rattle.tpf_decode.specs.declared.argument.Kind.{Kind}
use Rattle.tpf_decode.specs.declared.argument.Kind.TheVariants as kind
use Rattle.shader_tree.specs.declared.node.Node.{Node}
use Rattle.shader_tree.specs.Terms.{Term, Guard, Write, term_at}
use Rattle.shader_tree.specs.Values.{Spaces}
use Rattle.raise_operands.specs.declared.operand.Kept.{Kept}
use Rattle.raise_operands.specs.declared.operand.Operand.{Operand}
use Rattle.raise_operands.specs.declared.vector.Vector.{Vector as Known}
use Rattle.raise_operands.specs.declared.vector.Vector.TheVariants as known
use Rattle.raise_operands.specs.Building.{AreFew, CanWrite, IsInside, IsOperandOf, KeepsIndex, known_target, known_target_by, seen, write_at}
use Rattle.raise_operands.specs.Raising.{target, target_by, write_by}
use Rattle.raise_operands.specs.Vectors.{word_of}

seen_target : (k : Kind) (v : Known) → seen (known_target_by k v) ≡ target_by k (seen v)
seen_target kind.Temp v = refl
seen_target kind.Indexable v = refl
seen_target other v = refl

pub target_same : (nodes : List Node) (g : Spaces) (k : ℕ) (a : Argument) (o : Operand) → IsOperandOf nodes g k a o → seen (known_target o) ≡ target g
    a
target_same nodes g k a o n =
    seen_target o.argument.kind o.place.vector ∙ ap (λ v. target_by o.argument.kind v) n.operand.vector ∙ ap (λ b. target g b) n.argument

-- what can be written
pub can_write : (nodes : List Node) (g : Spaces) (kind : Kind) (k : ℕ) (v : Known) (kept : Kept) → AreFew g → IsInside g v
    → KeepsIndex nodes g k v kept
    → CanWrite nodes (known_target_by kind v) k kept
can_write nodes g kind.Temp k v kept few inside keeps = can v inside keeps where
  can : (v : Known) → IsInside g v → KeepsIndex nodes g k v kept → CanWrite nodes v k kept
  can known.Outside i n = tt
  can (known.At space m) i n = omega (arith, few space)
  can (known.Indexed space) i n = (n.inside.sorted, n.start)
can_write nodes g kind.Indexable k v kept few inside keeps = can v inside keeps where
  can : (v : Known) → IsInside g v → KeepsIndex nodes g k v kept → CanWrite nodes v k kept
  can known.Outside i n = tt
  can (known.At space m) i n = omega (arith, few space)
  can (known.Indexed space) i n = (n.inside.sorted, n.start)
can_write nodes g other k v kept few inside keeps = tt

-- the statement that writes
write_seen : (nodes : List Node) (g : Spaces) (k : ℕ) (v : Known) (kept : Kept) (c : ℕ) (x : Term) → KeepsIndex nodes g k v kept
    → write_at v (term_at nodes kept.inside) k c x ≡ write_by (seen v) g k c x
write_seen nodes g k known.Outside kept c x n = refl
write_seen nodes g k (known.At space m) kept c x n = refl
write_seen nodes g k (known.Indexed space) kept c x n = ap (λ t. Guard t (Write space (word_of k c) x)) n.inside.term

keeps_target : (nodes : List Node) (g : Spaces) (kind : Kind) (k : ℕ) (v : Known) (kept : Kept) → KeepsIndex nodes g k v kept
    → KeepsIndex nodes g k (known_target_by kind v) kept
keeps_target nodes g kind.Temp k v kept n = n
keeps_target nodes g kind.Indexable k v kept n = n
keeps_target nodes g other k v kept n = tt

pub write_is : (nodes : List Node) (g : Spaces) (k : ℕ) (a : Argument) (o : Operand) (c : ℕ) (x : Term) → IsOperandOf nodes g k a o
    → write_at (known_target o) (term_at nodes o.place.kept.inside) o.place.number c x ≡ write_by (target g a) g k c x
write_is nodes g k a o c x n =
    write_seen nodes g o.place.number (known_target o) o.place.kept c x
    (keeps_target nodes g o.argument.kind o.place.number o.place.vector o.place.kept n.operand.place.kept)
    ∙ ap (λ v. write_by v g o.place.number c x) (target_same nodes g k a o n)
    ∙ ap (λ m. write_by (target g a) g m c x) n.number
