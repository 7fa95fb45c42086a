-- What the parts of a run leave: reading the files of a job, and translating their bytes to an output.
use Rattle.std.specs.Prelude.{◌≡◌, ℕ, ◌⊎◌, List, [], Option, Some, None, Result, Ok, Err, take}
use Rattle.word_base.specs.declared.rule.Refusal.{Refusal}
use Rattle.word_base.specs.declared.rule.Halt.{Halt}
use Rattle.word_base.specs.declared.rule.Halt.TheVariants as halt
use Rattle.word_base.specs.Rules.{IsFirst, IsSound}
use Rattle.outside.specs.Causes.{Rose}
use Rattle.outside.specs.Told.{Told, File, file_of}
use Rattle.command_line.specs.Job.{Choice, DefaultMap, TextOf, SignatureOf, Job}
use Rattle.compiler_cli.specs.declared.failure.Failure.{Failure}
use Rattle.compiler_cli.specs.declared.failure.Failure.TheVariants as failure
use Rattle.compiler_cli.specs.Output.{AreTaken, Breaks, BreaksFile, IsModuleOf, IsTooLarge, LacksFile}
use Rattle.compiler_cli.specs.Run.{Delivers, DeliversPart, Outside}
use Rattle.compiler_cli.specs.Streams.{NothingLeft, most_read}

-- Where the files are told, one has the name, and these bytes are those of it that are read.
abbrev pub HasCome : Option (List File) → List ℕ → List ℕ → Type 0
HasCome None name bytes = Unit {0}
HasCome (Some files) name bytes = (file : List ℕ) × (file_of files name ≡ Some file) × (bytes ≡ take most_read file)

abbrev pub HasBindingsCome : Option (List File) → Choice → List ℕ → Type 0
HasBindingsCome files DefaultMap bytes = bytes ≡ []
HasBindingsCome files (TextOf name) bytes = HasCome files name bytes
HasBindingsCome files (SignatureOf name) bytes = HasCome files name bytes

-- The files of a job were read, and no fault was counted.
pub record AreRead (job : Job) (old new : Told) (input file : List ℕ) : Type 0 where
  pub quiet : new.faults ≡ old.faults
  pub input_came : HasCome old.files job.input input
  pub file_came : HasBindingsCome old.files job.choice file

-- They are not too large, and so whole.
pub record Came (job : Job) (old new : Told) (input file : List ℕ) : Type 0 where
  pub read : AreRead job old new input file
  pub taken : AreTaken input file
  pub left : NothingLeft new.left

-- One of them is too large.
pub record ComesTooLong (job : Job) (old new : Told) (r : Refusal) : Type 0 where
  pub input : List ℕ
  pub file : List ℕ
  pub read : AreRead job old new input file
  pub long : IsTooLarge input file r

abbrev pub FailsToCome : Job → Told → Told → Failure → Type 0
FailsToCome job old new (failure.Refused r) = ComesTooLong job old new r
FailsToCome job old new failure.Fault = Rose old.faults new.faults ⊎ LacksFile job old.files
FailsToCome job old new failure.NoMemory = Unit {0}

-- Why no map is made: the first of these rules that is broken, or want of memory.
abbrev pub HindersBy : (Refusal → Type 0) → Failure → Type 0
HindersBy breaks (failure.Refused r) = IsFirst breaks r
HindersBy breaks failure.Fault = ⊥
HindersBy breaks failure.NoMemory = Unit {0}

-- Why a binding file gives none.
abbrev pub IsHindered : Choice → List ℕ → Failure → Type 0
IsHindered choice file = HindersBy (BreaksFile choice file)

-- what stops a reader, as a failure
abbrev pub failure_by : Halt → Failure
failure_by (halt.Refused r) = failure.Refused r
failure_by halt.NoMemory = failure.NoMemory

-- A module of the input breaks no rule, and was written whole.
pub record WritesModule (job : Job) (old new : Outside) (input file : List ℕ) : Type 0 where
  pub output : List ℕ
  pub sound : IsSound (Breaks job.choice input file)
  pub made : IsModuleOf job.choice job.version input file output
  pub written : Delivers job.output old.desk new.desk old.out new.out output
  pub left : new.desk.left ≡ old.desk.left

-- It could not be written whole.
pub record FailsToWrite (job : Job) (old new : Outside) (input file : List ℕ) : Type 0 where
  pub output : List ℕ
  pub sound : IsSound (Breaks job.choice input file)
  pub made : IsModuleOf job.choice job.version input file output
  pub cause : Rose old.desk.faults new.desk.faults ⊎ Rose old.faults new.faults
  pub written : DeliversPart job.output old.desk new.desk old.out new.out output

-- What translating the files of a job to its output leaves.
abbrev pub Translates : Job → Outside → Outside → List ℕ → List ℕ → Result Unit Failure → Type 0
Translates job old new input file (Ok u) = WritesModule job old new input file
Translates job old new input file (Err (failure.Refused r)) = IsFirst (Breaks job.choice input file) r × (new ≡ old)
Translates job old new input file (Err failure.Fault) = FailsToWrite job old new input file
Translates job old new input file (Err failure.NoMemory) = new ≡ old
