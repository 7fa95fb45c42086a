-- The steps of a lane.
use Rattle.std.proofs.Common.{◌≡◌, Some, IsTrue, slice_get, refl}
use Rattle.spirv_words.specs.Operations.{op_of}
use Rattle.spirv_words.specs.Text.{Instr}
use Rattle.spirv_words.specs.Operands.{is_sorted, is_defined}
use Rattle.spirv_words.specs.Globals.{Machine}
use Rattle.spirv_words.specs.Lane.{State, step, act_of_op}

-- an instruction whose operands have their sorts and definitions does what its number says
pub sorted : (m : Machine) (s : State) (i : Instr) → slice_get m.code s.place ≡ Some i → IsTrue (is_sorted m.code i) → IsTrue (is_defined m.code i)
    → step m s ≡ act_of_op m s (op_of i.op) i.operands
sorted m s i at good known = rw (at, good, known) refl
