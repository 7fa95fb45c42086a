-- What a tree that grows by calls of other crates gives, in the words of this crate.
use Rattle.std.proofs.Common.{◌≡◌, ℕ, ◌+◌, ◌≤◌, ◌&&◌, Bool, true, false, IsTrue, List, [], length, Some, refl, ap, subst}
use Rattle.std.specs.Prelude.{slice_get}
use Rattle.tpf_program.specs.declared.instruction.Instruction.{Instruction}
use Rattle.tpf_program.specs.Program.{Shader}
use Rattle.std.specs.List.{list_all}
use Rattle.shader_tree.specs.declared.node.Node.{Node}
use Rattle.shader_tree.specs.declared.node.Node.TheVariants as node
use Rattle.shader_tree.specs.declared.node.Stmt.{Stmt}
use Rattle.shader_tree.specs.Nodes.{fits, has, named}
use Rattle.shader_tree.specs.Terms.{Extends}
use Rattle.shader_tree.specs.Trees.{Grown}
use Rattle.raise_operands.specs.Building.{Grows}
use Rattle.raise_operands.specs.Raises.{OfInstruction}

pub grown_by : (old new : Grown) (n : ℕ) → Extends old.nodes new.nodes → new ≡ record old { nodes = new.nodes }
    → length new.nodes ≤ length old.nodes + n → Grows old new n
grown_by old new n e s f =
    record { extends = e; few = f; capacity = ap (λ (t : Grown). t.capacity) s; root = ap (λ (t : Grown). t.root) s }

-- an instruction with a number is the only one with it
pub of_it : (p : Shader) (i : ℕ) (x : Instruction) (P : Instruction → Type 0) → slice_get p.instructions i ≡ Some x → P x → OfInstruction p i P
of_it p i x P h k = λ y g. let same : x ≡ y = cc (h, g) in subst P same k

-- a statement of two parts fits
pub both : (a b : Bool) → IsTrue a → IsTrue b → IsTrue ((a && (b && true)) && true)
both true true h k = refl
both true false h k = k
both false b h k = h

pub three : (a b c : Bool) → IsTrue a → IsTrue b → IsTrue c → IsTrue ((a && (b && (c && true))) && true)
three true true true h k l = refl
three true true false h k l = l
three true false c h k l = k
three false b c h k l = h

-- a statement that names no other fits
pub fits_bare : (nodes : List Node) (s : Stmt) → named (node.Stmt s) ≡ [] → IsTrue (fits nodes (node.Stmt s))
fits_bare nodes s h = ap (λ names. list_all (has nodes) names && true) h

pub one : (a : Bool) → IsTrue a → IsTrue ((a && true) && true)
one true h = refl
one false h = h
