-- How long an instruction is at least, and which one computes.
use Rattle.std.proofs.Common.{◌≡◌, ◌≤◌, ◌⊎◌, inl, inr, true, false, Option, Some, arith}
use Rattle.tpf_decode.specs.declared.meaning.Meaning.{Meaning}
use Rattle.tpf_decode.specs.declared.meaning.Meaning.TheVariants as meaning
use Rattle.tpf_program.specs.declared.instruction.Instruction.{Instruction}
use Rattle.raise_operands.specs.Laws.{CountLaws}
use Rattle.raise_operands.specs.Raises.{IsLong, is_computed}
use Rattle.raise_views.specs.Guarding.{is_guarded}
use Rattle.raise_program.specs.Walking.{least_length}

pub long_of : (n : CountLaws) (m : Option Meaning) (i : Instruction) → IsLong m i → least_length m ≤ i.length
long_of n (Some meaning.If) i l = omega (arith, n.begun i.o0, l.size)
long_of n (Some meaning.Switch) i l = omega (arith, n.begun i.o0, l.size)
long_of n (Some meaning.BreakIf) i l = omega (arith, n.begun i.o0, l.size)
long_of n (Some meaning.ContinueIf) i l = omega (arith, n.begun i.o0, l.size)
long_of n (Some meaning.ReturnIf) i l = omega (arith, n.begun i.o0, l.size)
long_of n m i l = omega (arith, l.size)

-- what goes on to the next and is not guarded
pub computed_of : (m : Option Meaning) → (is_guarded m ≡ true) ⊎ ((is_guarded m ≡ false) × (is_computed m ≡ true)) → is_guarded m ≡ false
    → is_computed m ≡ true
computed_of m (inl h) n = absurd (cc (h, n))
computed_of m (inr w) n = w.1
