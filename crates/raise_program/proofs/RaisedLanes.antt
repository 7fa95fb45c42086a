-- The lane of a checked program and that of its raised tree, by what the crates below say of its instructions.
use Rattle.std.proofs.Common.{◌≡◌, ℕ, true, List, Some}
use Rattle.std.specs.Prelude.{slice_get}
use Rattle.word_base.specs.declared.event.Event.{Event}
use Rattle.word_base.specs.Lanes.{Makes, SameLanes}
use Rattle.word_base.specs.Registers.{Registers}
use Rattle.word_base.specs.Settings.{Setting, HoldsWords}
use Rattle.word_base.specs.Words.{AreWords}
use Rattle.tpf_decode.specs.Profiles.{Base, Profile}
use Rattle.tpf_decode.specs.Opcodes.{meaning_of}
use Rattle.tpf_program.specs.declared.instruction.Instruction.{Instruction}
use Rattle.tpf_program.specs.Bytecode as bytecode
use Rattle.tpf_program.specs.Bytecode.{result}
use Rattle.tpf_program.specs.Holding.{AreOfWords, HoldWords, IsProgramOfWords}
use Rattle.tpf_program.specs.Program.{Shader}
use Rattle.binding_map.specs.Bindings.{Binding}
use Rattle.binding_map.specs.Fits.{Fits, is_null_in}
use Rattle.shader_check.specs.Checked.{IsChecked as BreaksNoRule}
use Rattle.shader_check.specs.Facts.{AreDeclared}
use Rattle.shader_check.specs.Statements.{IsNested}
use Rattle.shader_tree.specs.Lane as tree
use Rattle.raise_operands.specs.Laws.{ProgramLaws}
use Rattle.raise_operands.specs.Raises.{IsChecked, IsRaisable, IsScalar, Raises, RaisesScalar, is_computed}
use Rattle.raise_operands.specs.Raising.{scalar_front, scalar_word, statement_of}
use Rattle.raise_operands.specs.Vectors.{spaces_of}
use Rattle.raise_views.specs.Guarding as guarding
use Rattle.raise_views.specs.Guarding.{is_guarded}
use Rattle.raise_views.specs.Guards.{Guards, IsGuardable}
use Rattle.word_base.specs.Counted.{Counted, at_count, counted}
use Rattle.raise_program.specs.GoingBack.{times_back}
use Rattle.raise_program.specs.Parts.{parts_of}
use Rattle.raise_program.specs.Raised.{raised}
use Rattle.raise_program.proofs.Owing.{Known, raising}
use Rattle.raise_program.proofs.Strides.{program_of_words}
use Rattle.raise_program.proofs.Together.{Raising, same_counted, same_turns}
use Rattle.word_base.proofs.Uncounted.{first_uncounted}

-- what the crates below say
pub record Laws : Type 0 where
  pub in_program : ProgramLaws
  pub raisable :
      (p : Shader) (tokens : List ℕ) → IsChecked p tokens → (k : ℕ) (i : Instruction) → slice_get p.instructions k ≡ Some i
      → is_computed (meaning_of Base i.code) ≡ true → IsRaisable p i
  pub scalar :
      (p : Shader) (tokens : List ℕ) → IsChecked p tokens → (k : ℕ) (i : Instruction) → slice_get p.instructions k ≡ Some i → IsScalar p i
  pub guardable :
      (p : Shader) (tokens : List ℕ) → IsChecked p tokens → (k : ℕ) (i : Instruction) → slice_get p.instructions k ≡ Some i
      → is_guarded (meaning_of Base i.code) ≡ true → IsGuardable p i
  pub raises : (p : Shader) (i : Instruction) → IsRaisable p i → Raises p i (statement_of p i)
  pub raises_scalar : (p : Shader) (i : Instruction) → IsScalar p i → RaisesScalar p i (scalar_front p i) (scalar_word p i)
  pub guards :
      (bindings : List Binding) (p : Shader) (i : Instruction) → IsGuardable p i
      → Guards (is_null_in bindings) p i (guarding.statement_of (is_null_in bindings) p i)
  pub declared : (p : Shader) → BreaksNoRule p → AreDeclared p
  pub registers :
      (profile : Profile) (p : Shader) (setting : Setting) (r : Registers) (i : Instruction) (answers : List ℕ)
      → IsProgramOfWords p → HoldsWords setting → HoldWords r → AreOfWords i → AreWords answers → HoldWords (result profile p setting r i answers)

module _ (laws : Laws) (p : Shader) (tokens : List ℕ) (bindings : List Binding) (checked : IsChecked p tokens) (sound : BreaksNoRule p) where
  known : Known (is_null_in bindings) p
  known = record {
    computed = λ i at e. laws.raises p i (laws.raisable p tokens checked at.0 i at.1 e);
    guarded = λ i at e. laws.guards bindings p i (laws.guardable p tokens checked at.0 i at.1 e);
    scalars = λ i at. laws.raises_scalar p i (laws.scalar p tokens checked at.0 i at.1);
    registers = λ setting r i answers h k at w.
        let j = laws.in_program.in_program p tokens checked at.0 i at.1 in
        laws.registers Base p setting r i answers (program_of_words p j.words (laws.declared p sound)) h k j.immediates w;
  }

  module _ (nested : IsNested p) (setting : Setting) (fits : Fits p bindings setting) where
    owed : Raising p (spaces_of p) setting (parts_of (is_null_in bindings) p)
    owed = raising (is_null_in bindings) p known setting fits.rooms

    pub same : SameLanes (bytecode.step Base p setting) (tree.step (spaces_of p) setting) bytecode.start
        (tree.start (raised (parts_of (is_null_in bindings) p) nested.front))
    same =
        first_uncounted (bytecode.step Base p setting) times_back (tree.step (spaces_of p) setting) bytecode.start 0
        (tree.start (raised (parts_of (is_null_in bindings) p) nested.front))
        (same_counted p nested (spaces_of p) setting (parts_of (is_null_in bindings) p) owed)

    pub turns : (events : List Event) (answers : List ℕ) (s : Counted bytecode.State) (t : tree.State)
        → Makes (counted (bytecode.step Base p setting) times_back) (at_count bytecode.start 0) events answers s
        → Makes (tree.step (spaces_of p) setting) (tree.start (raised (parts_of (is_null_in bindings) p) nested.front)) events answers t
        → s.count ≡ t.turns
    turns events answers s t h k =
        same_turns p nested (spaces_of p) setting (parts_of (is_null_in bindings) p) owed events answers s t h k
