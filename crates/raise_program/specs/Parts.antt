-- WHAT EACH INSTRUCTION OF A PROGRAM IS RAISED TO: one that reads a length, makes an event or synchronises to its
-- guarded statement, by the rooms that are null; any other that goes on to the next to the statement that computes. In
-- front of control flow the index of the scalar is kept. (Shader Model 5 assembly: if, breakc, continuec, retc; the test
-- is `_nz`, that the scalar is not 0, or `_z`, that it is.)
use Rattle.std.specs.Prelude.{◌≡◌, ℕ, ◌^◌, if◌then◌else◌, Bool, false, refl}
use Rattle.word_base.specs.declared.event.Room.{Room}
use Rattle.tpf_decode.specs.Profiles.{Base}
use Rattle.tpf_decode.specs.Opcodes.{meaning_of, opcode_table}
use Rattle.tpf_program.specs.declared.instruction.Instruction.{Instruction}
use Rattle.tpf_program.specs.ExampleParts.{bare, instruction, literal}
use Rattle.tpf_program.specs.Program.{Shader, empty}
use Rattle.tpf_program.specs.Spelling.{nothing}
use Rattle.tpf_program.specs.Writes.{has_bit}
use Rattle.shader_tree.specs.declared.node.Comparison.{Comparison}
use Rattle.shader_tree.specs.declared.node.Comparison.TheVariants.{Equal, Unequal}
use Rattle.shader_tree.specs.Terms.{Term}
use Rattle.shader_tree.specs.Terms as term
use Rattle.raise_operands.specs.Raising.{scalar_front, scalar_word, statement_of}
use Rattle.raise_views.specs.Guarding as guarding
use Rattle.raise_views.specs.Guarding.{is_guarded}
use Rattle.shader_check.specs.Statements.{Plain}
use Rattle.raise_program.specs.Raised.{Parts, raised}

-- the comparison of a test with 0, by bit 18 of the opcode token
abbrev pub comparison_of : Instruction → Comparison
comparison_of i = if has_bit i.controls 18 then Unequal else Equal

abbrev pub truth_of : Shader → Instruction → Term
truth_of p i = term.Compare (comparison_of i) (scalar_word p i) (term.Word 0)

abbrev pub plain_of : (Room → Bool) → Shader → Instruction → Term
plain_of is_null p i =
    if is_guarded (meaning_of Base i.code) then guarding.statement_of is_null p i else statement_of p i

abbrev pub parts_of : (Room → Bool) → Shader → Parts
parts_of is_null p = record {
  plain = plain_of is_null p;
  front = scalar_front p;
  truth = truth_of p;
  word = scalar_word p;
}

-- Examples: `breakc_nz l(7)` leaves where 7 is not 0, `breakc_z` where it is 0; `nop` does nothing.
abbrev pub breakc : ℕ → Instruction
breakc controls = instruction 3 controls (literal 7) nothing nothing nothing

abbrev pub leaves_by : Comparison → Term
leaves_by how = term.Then term.Nothing (term.Guard (term.Compare how (term.Word 7) (term.Word 0)) term.Break)

pub leaves_unless_zero : raised (parts_of (λ room. false) empty) (Plain (breakc (2 ^ 18))) ≡ leaves_by Unequal
unfolding meaning_of opcode_table scalar_front scalar_word
leaves_unless_zero = refl

pub leaves_at_zero : raised (parts_of (λ room. false) empty) (Plain (breakc 0)) ≡ leaves_by Equal
unfolding meaning_of opcode_table scalar_front scalar_word
leaves_at_zero = refl

pub nop_read : raised (parts_of (λ room. false) empty) (Plain (bare 58)) ≡ term.Nothing
unfolding meaning_of opcode_table statement_of
nop_read = refl
