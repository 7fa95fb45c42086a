-- The statements of components, by the nodes that they name, are those of the definitions.
use Rattle.std.proofs.Common.{◌≡◌, ℕ, ◌+◌, ◌≤◌, Bool, true, false, List, Option, None, refl, ap, arith, ◌∙◌}
use Rattle.std.specs.Prelude.{if◌then◌else◌}
use Rattle.tpf_decode.specs.declared.argument.Argument.{Argument}
use Rattle.tpf_decode.specs.declared.meaning.Meaning.{Meaning}
use Rattle.tpf_program.specs.declared.instruction.Instruction.{Instruction}
use Rattle.shader_tree.specs.declared.node.Node.{Node}
use Rattle.shader_tree.specs.Terms.{Term, Set, Scratch, Nothing, term_at}
use Rattle.shader_tree.specs.Values.{Spaces}
use Rattle.raise_operands.specs.declared.operand.Operand.{Operand}
use Rattle.raise_operands.specs.declared.operand.Operands.{Operands}
use Rattle.raise_alu.specs.Computing.{is_double, writes_first, writes_second}
use Rattle.raise_alu.specs.Waits.{first_is_read, second_is_late, now_of, behind_of, first_now, first_behind, second_now, second_behind}
use Rattle.raise_operands.specs.Building.{AreOperands, IsOperandOf, IsStep, write_at, known_target}
use Rattle.raise_operands.specs.Raising.{computed, computed_second, first_waits, second_waits, target, write_by}
use Rattle.raise_operands.specs.Laws.{GrowingLaws, OperandLaws}
use Rattle.raise_alu.proofs.Same.{first_same, second_same}

now_is : (l : OperandLaws) → (nodes : List Node) (g : Spaces) (k : ℕ) (a : Argument) (o : Operand) (c value scratch : ℕ) (w u : Bool) (x : Term)
    → IsOperandOf nodes g k a o
    → w ≡ u → term_at nodes value ≡ x → now_of nodes o c value scratch w ≡ (if u then Set scratch x else write_by (target g a) g k c x)
now_is l nodes g k a o c value scratch w u x n e t =
    ap (λ b. now_of nodes o c value scratch b) e
    ∙ ap (λ y. if u then Set scratch y else write_at (known_target o) (term_at nodes o.place.kept.inside) o.place.number c y) t
    ∙ ap (λ y. if u then Set scratch x else y) (l.write_is nodes g k a o c x n)

behind_is : (l : OperandLaws) → (nodes : List Node) (g : Spaces) (k : ℕ) (a : Argument) (o : Operand) (c scratch : ℕ) (w u : Bool)
    → IsOperandOf nodes g k a o
    → w ≡ u → behind_of nodes o c scratch w ≡ (if u then write_by (target g a) g k c (Scratch scratch) else Nothing)
behind_is l nodes g k a o c scratch w u n e =
    ap (λ b. behind_of nodes o c scratch b) e ∙ ap (λ y. if u then y else Nothing) (l.write_is nodes g k a o c (Scratch scratch) n)

-- THE FOUR STATEMENTS OF A COMPONENT.
pub first_now_is : (l : OperandLaws) (k : GrowingLaws) → (nodes new : List Node) (g : Spaces) (m : Meaning) (os : Operands) (c value : ℕ)
    (s : Option ℕ) → AreOperands nodes g os
    → term_at nodes value ≡ computed m g os.instruction c
    → IsStep new s (if writes_first m os.instruction c then now_of nodes os.o0 c value (10 + c) (first_is_read m os c) else Nothing)
    → IsStep new s (first_now m g os.instruction c)
first_now_is l k nodes new g m os c value s n t h =
    k.as_step new s _ _ h (ap (λ x. if writes_first m os.instruction c then x else Nothing)
    (now_is l nodes g 0 os.instruction.o0 os.o0 c value (10 + c) _ (first_waits m g os.instruction c) _ n.o0 (first_same l nodes g m os c n) t))

pub first_behind_is : (l : OperandLaws) (k : GrowingLaws) → (nodes new : List Node) (g : Spaces) (m : Meaning) (os : Operands) (c : ℕ) (s : Option ℕ)
    → AreOperands nodes g os
    → IsStep new s (if writes_first m os.instruction c then behind_of nodes os.o0 c (10 + c) (first_is_read m os c) else Nothing)
    → IsStep new s (first_behind m g os.instruction c)
first_behind_is l k nodes new g m os c s n h =
    k.as_step new s _ _ h (ap (λ x. if writes_first m os.instruction c then x else Nothing)
    (behind_is l nodes g 0 os.instruction.o0 os.o0 c (10 + c) _ (first_waits m g os.instruction c) n.o0 (first_same l nodes g m os c n)))

pub second_now_is : (l : OperandLaws) (k : GrowingLaws) → (nodes new : List Node) (g : Spaces) (m : Meaning) (os : Operands) (c value : ℕ)
    (s : Option ℕ) → AreOperands nodes g os
    → term_at nodes value ≡ computed_second m g os.instruction c
    → IsStep new s (if writes_second m os.instruction c then now_of nodes os.o1 c value (14 + c) (second_is_late m os c) else Nothing)
    → IsStep new s (second_now m g os.instruction c)
second_now_is l k nodes new g m os c value s n t h =
    k.as_step new s _ _ h (ap (λ x. if writes_second m os.instruction c then x else Nothing)
    (now_is l nodes g 1 os.instruction.o1 os.o1 c value (14 + c) _ (second_waits m g os.instruction c) _ n.o1 (second_same l nodes g m os c n) t))

pub second_behind_is : (l : OperandLaws) (k : GrowingLaws) → (nodes new : List Node) (g : Spaces) (m : Meaning) (os : Operands) (c : ℕ) (s : Option ℕ)
    → AreOperands nodes g os
    → IsStep new s (if writes_second m os.instruction c then behind_of nodes os.o1 c (14 + c) (second_is_late m os c) else Nothing)
    → IsStep new s (second_behind m g os.instruction c)
second_behind_is l k nodes new g m os c s n h =
    k.as_step new s _ _ h (ap (λ x. if writes_second m os.instruction c then x else Nothing)
    (behind_is l nodes g 1 os.instruction.o1 os.o1 c (14 + c) _ (second_waits m g os.instruction c) n.o1 (second_same l nodes g m os c n)))

-- no second destination
pub no_second_now : (nodes : List Node) (g : Spaces) (m : Meaning) (i : Instruction) (c : ℕ) → is_double m ≡ false → IsStep nodes None
    (second_now m g i c)
no_second_now nodes g m i c e = rw e (record { sorted = refl; term = refl; same = refl })

pub no_second_behind : (nodes : List Node) (g : Spaces) (m : Meaning) (i : Instruction) (c : ℕ) → is_double m ≡ false → IsStep nodes None
    (second_behind m g i c)
no_second_behind nodes g m i c e = rw e (record { sorted = refl; term = refl; same = refl })

pub with_second : (n : ℕ) (m : Meaning) (k : ℕ) → is_double m ≡ true → n + k ≡ n + (if is_double m then k else 0)
with_second n m k e = rw e refl

pub only_first : (n : ℕ) (m : Meaning) (k : ℕ) → is_double m ≡ false → n ≤ n + (if is_double m then k else 0)
only_first n m k e = omega arith
