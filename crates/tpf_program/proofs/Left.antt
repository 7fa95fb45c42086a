-- What an instruction leaves, and what its events carry, are words.
use Rattle.std.proofs.Common.{ℕ, ◌<◌, ◌^◌, List, Option, Some, None, arith}
use Rattle.std.specs.Prelude.{nat_eq}
use Rattle.word_base.specs.declared.arithmetic.Unary.{Unary}
use Rattle.word_base.specs.declared.arithmetic.Binary.{Binary}
use Rattle.word_base.specs.declared.arithmetic.Ternary.{Ternary}
use Rattle.word_base.specs.declared.arithmetic.Paired.{Paired}
use Rattle.word_base.specs.Alu.{unary, binary, ternary, inserted_field, pair}
use Rattle.word_base.specs.Settings.{Setting, HoldsWords}
use Rattle.word_base.specs.Registers.{Registers}
use Rattle.word_base.specs.Words.{AreWords}
use Rattle.tpf_program.specs.declared.instruction.Instruction.{Instruction}
use Rattle.tpf_decode.specs.Profiles.{Profile}
use Rattle.tpf_decode.specs.Opcodes.{meaning_of}
use Rattle.tpf_decode.specs.declared.meaning.Meaning.{Meaning}
use Rattle.tpf_decode.specs.declared.meaning.Meaning.TheVariants.{One, Two, Three, Inserts, Pair, Swaps, LoadRaw, LoadStructured, LoadTyped, StoreRaw, StoreStructured, StoreTyped, Measures, Acts, Compares, Fetches, Exchanges, Allocates, Consumes, Syncs, If, Else, EndIf, Loop, EndLoop, Continue, ContinueIf, Switch, Case, Default, EndSwitch, Break, BreakIf, Return, ReturnIf, Nop}
use Rattle.tpf_program.specs.Program.{Shader}
use Rattle.tpf_program.specs.Values.{Context, context, selected, value}
use Rattle.tpf_program.specs.Writes.{target, written}
use Rattle.tpf_program.specs.Plans.{parts, has_counter}
use Rattle.tpf_program.specs.Results.{outcome}
use Rattle.tpf_program.specs.Bytecode.{result, result_by}
use Rattle.tpf_program.specs.Holding.{HoldWords, AreOfWords, IsProgramOfWords}
use Rattle.tpf_program.proofs.Kept.{WordsIn, value_word, all_set, set_by, answers_are, measure_word, one_of, either}

-- the results of the arithmetic on words are words
pub record Bounded : Type 0 where
  pub unary_word : (op : Unary) (a : ℕ) → a < 2 ^ 32 → unary op a < 2 ^ 32
  pub binary_word : (op : Binary) (a b : ℕ) → a < 2 ^ 32 → b < 2 ^ 32 → binary op a b < 2 ^ 32
  pub ternary_word : (op : Ternary) (a b c : ℕ) → a < 2 ^ 32 → b < 2 ^ 32 → c < 2 ^ 32 → ternary op a b c < 2 ^ 32
  pub insert_word : (w o inserted base : ℕ) → base < 2 ^ 32 → inserted_field w o inserted base < 2 ^ 32
  pub first_word : (op : Paired) (a b : ℕ) → a < 2 ^ 32 → b < 2 ^ 32 → (pair op a b).first < 2 ^ 32
  pub second_word : (op : Paired) (a b : ℕ) → a < 2 ^ 32 → b < 2 ^ 32 → (pair op a b).second < 2 ^ 32

outcome_words : Bounded → (k : Context) → WordsIn k → (m : Meaning) (i : Instruction) → AreOfWords i → (words : List ℕ) → AreWords words → HoldWords (outcome k m i words)
outcome_words b k h (One op) i o ws e = set_by k i.o0 _ _ (λ c. b.unary_word op _ (value_word k h i.o1 o.o1 c)) h.registers
outcome_words b k h (Two op) i o ws e = set_by k i.o0 _ _ (λ c. b.binary_word op _ _ (value_word k h i.o1 o.o1 c) (value_word k h i.o2 o.o2 c)) h.registers
outcome_words b k h (Three op) i o ws e =
    set_by k i.o0 _ _ (λ c. b.ternary_word op _ _ _ (value_word k h i.o1 o.o1 c) (value_word k h i.o2 o.o2 c) (value_word k h i.o3 o.o3 c)) h.registers
outcome_words b k h Inserts i o ws e = set_by k i.o0 _ _ (λ c. b.insert_word _ _ _ _ (value_word k h i.o4 o.o4 c)) h.registers
outcome_words b k h (Pair op) i o ws e =
    set_by k i.o1 _ _ (λ c. b.second_word op _ _ (value_word k h i.o2 o.o2 c) (value_word k h i.o3 o.o3 c))
    (set_by k i.o0 _ _ (λ c. b.first_word op _ _ (value_word k h i.o2 o.o2 c) (value_word k h i.o3 o.o3 c)) h.registers)
outcome_words b k h Swaps i o ws e =
    set_by k i.o1 _ _ (λ c. either (nat_eq (value k i.o2 c) 0) _ _ (value_word k h i.o4 o.o4 c) (value_word k h i.o3 o.o3 c))
    (set_by k i.o0 _ _ (λ c. either (nat_eq (value k i.o2 c) 0) _ _ (value_word k h i.o3 o.o3 c) (value_word k h i.o4 o.o4 c)) h.registers)
outcome_words b k h LoadRaw i o ws e = all_set (target k i.o0) (written i.o0) ws k.registers e h.registers
outcome_words b k h LoadStructured i o ws e = all_set (target k i.o0) (written i.o0) ws k.registers e h.registers
outcome_words b k h LoadTyped i o ws e = set_by k i.o0 _ _ (λ c. one_of _ _ _ _ (selected i.o2.select c) (e 0) (omega arith) (omega arith) (omega arith)) h.registers
outcome_words b k h Measures i o ws e = set_by k i.o0 _ _ (λ c. measure_word k h i.o1 c) h.registers
outcome_words b k h (Fetches kind) i o ws e = set_by k i.o0 _ _ (λ c. e 0) h.registers
outcome_words b k h Exchanges i o ws e = set_by k i.o0 _ _ (λ c. e 0) h.registers
outcome_words b k h Allocates i o ws e = set_by k i.o0 _ _ (λ c. e 0) h.registers
outcome_words b k h Consumes i o ws e = set_by k i.o0 _ _ (λ c. either (has_counter k i.o1) _ _ (omega arith) (omega arith)) h.registers
outcome_words b k h StoreTyped i o ws e = h.registers
outcome_words b k h StoreRaw i o ws e = h.registers
outcome_words b k h StoreStructured i o ws e = h.registers
outcome_words b k h (Acts kind) i o ws e = h.registers
outcome_words b k h Compares i o ws e = h.registers
outcome_words b k h Syncs i o ws e = h.registers
outcome_words b k h If i o ws e = h.registers
outcome_words b k h Else i o ws e = h.registers
outcome_words b k h EndIf i o ws e = h.registers
outcome_words b k h Loop i o ws e = h.registers
outcome_words b k h EndLoop i o ws e = h.registers
outcome_words b k h Continue i o ws e = h.registers
outcome_words b k h ContinueIf i o ws e = h.registers
outcome_words b k h Switch i o ws e = h.registers
outcome_words b k h Case i o ws e = h.registers
outcome_words b k h Default i o ws e = h.registers
outcome_words b k h EndSwitch i o ws e = h.registers
outcome_words b k h Break i o ws e = h.registers
outcome_words b k h BreakIf i o ws e = h.registers
outcome_words b k h Return i o ws e = h.registers
outcome_words b k h ReturnIf i o ws e = h.registers
outcome_words b k h Nop i o ws e = h.registers

left_words : Bounded → (k : Context) → WordsIn k → (m : Option Meaning) (i : Instruction) → AreOfWords i → (answers : List ℕ) → AreWords answers → HoldWords (result_by k m i answers)
left_words b k h None i o answers e = h.registers
left_words b k h (Some m) i o answers e = outcome_words b k h m i o _ (answers_are (parts k m i) answers e)

pub result_words : Bounded → (profile : Profile) (p : Shader) (setting : Setting) (registers : Registers) (i : Instruction) (answers : List ℕ)
    → IsProgramOfWords p → HoldsWords setting → HoldWords registers → AreOfWords i → AreWords answers → HoldWords (result profile p setting registers i answers)
result_words b profile p setting registers i answers h k l o e =
    left_words b (context p setting registers) (record { program = h; setting = k; registers = l }) (meaning_of profile i.code) i o answers e
