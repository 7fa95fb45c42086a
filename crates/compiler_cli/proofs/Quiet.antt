-- Where no count rises, no answer is a fault.
use Rattle.std.proofs.Common.{◌≡◌, ◌≢◌, ℕ, ◌⊎◌, ⊎_elim, List, subst, subst₂, arith}
use Rattle.outside.specs.Causes.{Rose}
use Rattle.compiler_cli.specs.declared.failure.Status.{Status}
use Rattle.compiler_cli.specs.declared.failure.Status.TheVariants as status
use Rattle.command_line.specs.Job.{Job}
use Rattle.compiler_cli.specs.Output.{LacksFile}
use Rattle.compiler_cli.specs.Run.{Answers, FaultsReading, FaultsWriting, HasFiles, IsQuiet, Outside, Stream}

stays : (before now : ℕ) → before ≡ 0 → now ≡ 0 → Rose before now → ⊥
stays before now a b rose = let r : Rose 0 0 = subst₂ Rose a b rose in omega (arith, r)

none_rose : (old new : Outside) → IsQuiet old → IsQuiet new → (Rose old.desk.faults new.desk.faults ⊎ Rose old.faults new.faults) → ⊥
none_rose old new a b cause = ⊎_elim (stays _ _ a.desk b.desk) (stays _ _ a.out b.out) cause

pub no_fault : (words : List (List ℕ)) (old new : Outside) (err err' : Stream) → IsQuiet old → IsQuiet new → HasFiles words old.desk → Answers words old new err err' status.Fault → ⊥
no_fault words old new err err' a b there answer =
    let job : Job = answer.0.job in
    ⊎_elim
    (λ (reading : FaultsReading job old new). ⊎_elim (stays _ _ a.desk b.desk) (λ (missing : LacksFile job old.desk.files). there job answer.0.asked missing) reading.cause)
    (λ (writing : FaultsWriting job old new). none_rose old new a b writing.cause) answer.0.ended

pub quiet : (words : List (List ℕ)) (old new : Outside) (err err' : Stream) (s : Status) → IsQuiet old → IsQuiet new → HasFiles words old.desk → Answers words old new err err' s → s ≢ status.Fault
quiet words old new err err' s a b there answer is = no_fault words old new err err' a b there (subst (Answers words old new err err') is answer)
