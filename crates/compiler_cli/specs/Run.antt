-- What a run of the program leaves: on the desk, on the stream of the output, and on that of errors.
use Rattle.std.specs.Prelude.{◌≡◌, ℕ, ◌<◌, ◌≤◌, ◌⊎◌, true, List, [], ◌∷◌, ◌++◌, length, take}
use Rattle.std.specs.Prelude.{Option, Some, None, Result, Ok, Err}
use Rattle.std.specs.Bool.{MatchBool}
use Rattle.word_base.specs.declared.rule.Refusal.{Refusal}
use Rattle.word_base.specs.Rules.{IsFirst, IsSound}
use Rattle.outside.specs.Causes.{Rose, Gained, GainedPart}
use Rattle.outside.specs.Told.{Told, File, Output}
use Rattle.compiler_cli.specs.declared.failure.Failure.{Failure}
use Rattle.compiler_cli.specs.declared.failure.Failure.TheVariants as failure
use Rattle.compiler_cli.specs.declared.failure.Status.{Status}
use Rattle.compiler_cli.specs.declared.failure.Status.TheVariants as status
use Rattle.command_line.specs.Job.{Job, job_of, is_stream}
use Rattle.compiler_cli.specs.Output.{AreTold, BreaksIn, IsOutput, LacksFile}
use Rattle.compiler_cli.specs.Streams.{NothingLeft}
use Rattle.compiler_cli.specs.Texts.{refusal_line, usage_line, fault_line, memory_line}

-- what is told of a desk and of the stream of the output, with its count of faults
pub record Outside : Type 0 where
  pub desk : Told
  pub out : Option (List ℕ)
  pub faults : ℕ

abbrev pub outside : Told → Option (List ℕ) → ℕ → Outside
outside desk out faults = record { desk = desk; out = out; faults = faults }

-- of the files of a job this is the first broken rule, where the desk tells them
abbrev pub IsFirstIn : Job → Option (List File) → Refusal → Type 0
IsFirstIn job files r = AreTold files → IsFirst (BreaksIn job files) r

-- A JOB CAN BE DONE with these bytes: its files are there, no rule is broken, and the bytes are its whole output, where
-- the desk tells its files.
pub record HasOutput (job : Job) (files : Option (List File)) (bytes : List ℕ) : Type 0 where
  pub there : LacksFile job files → ⊥
  pub sound : IsSound (BreaksIn job files)
  pub output : IsOutput job files bytes

-- Nothing was written to an output, and none was begun.
pub record Untouched (old new : Told) (out out' : Option (List ℕ)) : Type 0 where
  pub outputs : new.outputs ≡ old.outputs
  pub begun : new.begun ≡ old.begun
  pub stream : out' ≡ out

-- these bytes were written to the stream, and nothing to the desk
pub record ToStream (old new : Told) (out out' : Option (List ℕ)) (bytes : List ℕ) : Type 0 where
  pub outputs : new.outputs ≡ old.outputs
  pub begun : new.begun ≡ old.begun
  pub written : Gained out out' bytes

abbrev pub NewOutput : Option (List Output) → Option (List Output) → List ℕ → List ℕ → Type 0
NewOutput None new name bytes = new ≡ None
NewOutput (Some outputs) new name bytes = new ≡ Some (outputs ++ record { name = name; bytes = bytes } ∷ [])

-- these bytes were written to a new output of that name, and nothing to the stream
pub record ToDesk (name : List ℕ) (old new : Told) (out out' : Option (List ℕ)) (bytes : List ℕ) : Type 0 where
  pub outputs : NewOutput old.outputs new.outputs name bytes
  pub begun : new.begun ≡ true
  pub stream : out' ≡ out

-- these bytes were written to the output of that name, and nothing elsewhere
abbrev pub Delivers : List ℕ → Told → Told → Option (List ℕ) → Option (List ℕ) → List ℕ → Type 0
Delivers name old new out out' bytes =
    MatchBool (is_stream name) (ToStream old new out out' bytes) (ToDesk name old new out out' bytes)

-- a front of these bytes was written, or nothing at all
abbrev pub DeliversPart : List ℕ → Told → Told → Option (List ℕ) → Option (List ℕ) → List ℕ → Type 0
DeliversPart name old new out out' bytes =
    Untouched old new out out' ⊎ ((n : ℕ) × (n ≤ length bytes) × Delivers name old new out out' (take n bytes))

-- What writing the bytes of an output leaves.
abbrev pub DeliversBy : {E : Type 0} → List ℕ → Outside → Outside → List ℕ → Result Unit E → Type 0
DeliversBy name old new bytes (Ok u) =
    Delivers name old.desk new.desk old.out new.out bytes × (new.desk.left ≡ old.desk.left)
DeliversBy name old new bytes (Err e) =
    DeliversPart name old.desk new.desk old.out new.out bytes
    × (Rose old.desk.faults new.desk.faults ⊎ Rose old.faults new.faults)

-- How a job ends. Its whole output was written, and nothing elsewhere.
pub record Succeeds (job : Job) (old new : Outside) : Type 0 where
  pub output : List ℕ
  pub made : HasOutput job old.desk.files output
  pub left : NothingLeft new.desk.left
  pub written : Delivers job.output old.desk new.desk old.out new.out output

-- No fault was counted in reading, this is the first broken rule of its files, and nothing was written.
pub record Refuses (job : Job) (old new : Outside) (r : Refusal) : Type 0 where
  pub there : LacksFile job old.desk.files → ⊥
  pub quiet : new.desk.faults ≡ old.desk.faults
  pub first : IsFirstIn job old.desk.files r
  pub untouched : Untouched old.desk new.desk old.out new.out

-- A file could not be read, and nothing was written.
pub record FaultsReading (job : Job) (old new : Outside) : Type 0 where
  pub cause : Rose old.desk.faults new.desk.faults ⊎ LacksFile job old.desk.files
  pub untouched : Untouched old.desk new.desk old.out new.out

-- The output could not be written whole.
pub record FaultsWriting (job : Job) (old new : Outside) : Type 0 where
  pub output : List ℕ
  pub made : HasOutput job old.desk.files output
  pub cause : Rose old.desk.faults new.desk.faults ⊎ Rose old.faults new.faults
  pub written : DeliversPart job.output old.desk new.desk old.out new.out output

abbrev pub Ends : Job → Outside → Outside → Result Unit Failure → Type 0
Ends job old new (Ok u) = Succeeds job old new
Ends job old new (Err (failure.Refused r)) = Refuses job old new r
Ends job old new (Err failure.Fault) = FaultsReading job old new ⊎ FaultsWriting job old new
Ends job old new (Err failure.NoMemory) = Untouched old.desk new.desk old.out new.out

-- What is told of the stream of errors, with its count of faults.
pub record Stream : Type 0 where
  pub written : Option (List ℕ)
  pub faults : ℕ

abbrev pub stream : Option (List ℕ) → ℕ → Stream
stream written faults = record { written = written; faults = faults }

-- a line was written whole, unless a fault was counted, and then a front of it
abbrev pub Reports : Stream → Stream → List ℕ → Type 0
Reports old new line =
    Gained old.written new.written line
    ⊎ (GainedPart old.written new.written line × Rose old.faults new.faults)

-- the status and the line of a failure
abbrev pub status_of : Failure → Status
status_of (failure.Refused r) = status.Refused
status_of failure.Fault = status.Fault
status_of failure.NoMemory = status.NoMemory

abbrev pub line_of : Failure → List ℕ
line_of (failure.Refused r) = refusal_line r
line_of failure.Fault = fault_line
line_of failure.NoMemory = memory_line

-- The answers of a run to words, each with what it left. A job was asked for, and ended so.
pub record Answered (words : List (List ℕ)) (P : Job → Type 0) : Type 0 where
  pub job : Job
  pub asked : job_of words ≡ Some job
  pub ended : P job

abbrev pub RefusedBy : Outside → Outside → Stream → Stream → Job → Type 0
RefusedBy old new err err' job = (r : Refusal) × Refuses job old new r × Reports err err' (refusal_line r)

abbrev pub Answers : List (List ℕ) → Outside → Outside → Stream → Stream → Status → Type 0
Answers words old new err err' status.Ok = Answered words (λ job. Succeeds job old new) × (err'.written ≡ err.written)
Answers words old new err err' status.Refused = Answered words (RefusedBy old new err err')
Answers words old new err err' status.Usage =
    (job_of words ≡ None) × Untouched old.desk new.desk old.out new.out × Reports err err' usage_line
Answers words old new err err' status.Fault =
    Answered words (λ job. FaultsReading job old new ⊎ FaultsWriting job old new) × Reports err err' fault_line
Answers words old new err err' status.NoMemory =
    Untouched old.desk new.desk old.out new.out × Reports err err' memory_line

-- Want of memory may come in place of any answer.
abbrev pub IsOrWantsMemory : Status → Status → Type 0
IsOrWantsMemory s result = (result ≡ s) ⊎ (result ≡ status.NoMemory)

-- Where the words ask for nothing the answer is `Usage`, and it is `Usage` nowhere else.
pub record IsUsage (words : List (List ℕ)) (result : Status) : Type 0 where
  pub only : result ≡ status.Usage → job_of words ≡ None
  pub where_none : job_of words ≡ None → IsOrWantsMemory status.Usage result

-- Where a rule is broken, the run is refused, unless memory or the desk failed.
abbrev pub IsRefused : Outside → Outside → Status → Type 0
IsRefused old new result =
    (result ≡ status.Refused) ⊎ ((result ≡ status.NoMemory) ⊎ Rose old.desk.faults new.desk.faults)

-- Nothing hinders a job: the desk tells its files, they are there, no rule is broken, and no fault was counted.
pub record IsFree (job : Job) (old new : Outside) : Type 0 where
  pub told : AreTold old.desk.files
  pub there : LacksFile job old.desk.files → ⊥
  pub sound : IsSound (BreaksIn job old.desk.files)
  pub desk : Rose old.desk.faults new.desk.faults → ⊥
  pub out : Rose old.faults new.faults → ⊥

-- A desk and a stream of the output that count no faults.
pub record IsQuiet (seen : Outside) : Type 0 where
  pub desk : seen.desk.faults ≡ 0
  pub out : seen.faults ≡ 0

-- the files that the words ask for are there, where the desk tells its files
abbrev pub HasFiles : List (List ℕ) → Told → Type 0
HasFiles words desk = (job : Job) → job_of words ≡ Some job → LacksFile job desk.files → ⊥
