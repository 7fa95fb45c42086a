use Rattle.std.proofs.Common.{◌<◌, ◌^◌, refl}
use Rattle.tpf_program.specs.Holding.{IsOfWords}
use Rattle.tpf_decode.specs.declared.argument.Argument.{Argument}
use Rattle.tpf_program.specs.Program.{Shader}
use Rattle.tpf_program.specs.Spelling.{operands}
use Rattle.tpf_program.specs.declared.instruction.Instruction.{Instruction}
use Rattle.shader_tree.specs.Terms as term
use Rattle.shader_tree.specs.Walks.{Each}
use Rattle.raise_operands.specs.Folding.{literal}
use Rattle.raise_operands.specs.Bounds.{IsWithin}
use Rattle.raise_operands.specs.Raises.{InRange, IsInProgram}
use Rattle.raise_operands.proofs.Bounded.{Results, bounded_added, bounded_chained, bounded_keeps, bounded_source, bounded_statement, bounded_write, literal_below}
use Rattle.raise_operands.proofs.WordIndices.{word_indices}
use Rattle.raise_operands.proofs.laws.bound_laws.Goals as goal

within_of : (p : Shader) (i : Instruction) → IsInProgram p i → Each (λ a. a.index < 2 ^ 32) (operands i) → Each (IsWithin p) (operands i)
within_of p i h w = (
  one i.o0 h.range.o0 h.immediates.o0 w.0,
  (
    one i.o1 h.range.o1 h.immediates.o1 w.1.0,
    (
      one i.o2 h.range.o2 h.immediates.o2 w.1.1.0,
      (
        one i.o3 h.range.o3 h.immediates.o3 w.1.1.1.0,
        (one i.o4 h.range.o4 h.immediates.o4 w.1.1.1.1.0, tt),
      ),
    ),
  ),
)
  where
    one : (a : Argument) → InRange a → IsOfWords a → a.index < 2 ^ 32 → IsWithin p a
    one a r q k = record { spaces = h.spaces; constants = h.words; range = r; words = q; index' = k }

pub returns : goal.returns
returns c =
    let r : Results = record {
      unary' = c.result_laws.ensures.unary;
      binary' = c.result_laws.ensures.binary;
      ternary' = c.result_laws.ensures.ternary;
      insert' = c.result_laws.ensures.insert;
      first' = c.result_laws.ensures.first;
      second' = c.result_laws.ensures.second;
    } in
    record {
      within = λ p tokens h k i at. within_of p i (c.program_laws.ensures.in_program p tokens h k i at) (word_indices p tokens h.spelled h.words k i at);
      keeps = λ p k a h l. bounded_keeps r p h.spaces h.constants k a h l;
      source = λ p k d a h l. bounded_source r p h.spaces h.constants k d a h l;
      write = λ p a k d x h l q. bounded_write r p h.spaces h.constants a k d x l q;
      added = λ a n h l. bounded_added (literal a) a n h l;
      known = literal_below;
      chained = λ xs h. bounded_chained xs term.Nothing refl h;
      statement = λ p i d. bounded_statement r p d.0.spaces d.0.constants i d;
    }
