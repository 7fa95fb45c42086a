-- What follows from the answers of a run: when each of them comes.
use Rattle.std.proofs.Common.{◌≡◌, ℕ, ◌⊎◌, inl, inr, ⊎_elim, List, Option, Some, None, refl, sym, ◌∙◌, subst}
use Rattle.word_base.specs.declared.rule.Refusal.{Refusal}
use Rattle.word_base.specs.Rules.{IsFirst}
use Rattle.outside.specs.Causes.{Rose}
use Rattle.outside.specs.Told.{File, IsMissing, file_of}
use Rattle.compiler_cli.specs.declared.failure.Status.{Status}
use Rattle.compiler_cli.specs.declared.failure.Status.TheVariants as status
use Rattle.command_line.specs.Job.{Choice, DefaultMap, TextOf, SignatureOf, Job, job_of}
use Rattle.compiler_cli.specs.Output.{AreTold, BreaksIn, IsBindingFile, IsFile, LacksBindingFile, LacksFile}
use Rattle.compiler_cli.specs.Run.{Answered, Answers, FaultsReading, FaultsWriting, IsFree, IsOrWantsMemory, IsRefused, IsUsage, Outside, RefusedBy, Refuses, Stream, Succeeds}

-- a job was answered where the words ask for one
no_job : (words : List (List ℕ)) (P : Job → Type 0) → Answered words P → job_of words ≡ None → ⊥
no_job words P a e = let s : Some a.job ≡ None = sym a.asked ∙ e in cc

one_job : (words : List (List ℕ)) (P : Job → Type 0) (job : Job) → Answered words P → job_of words ≡ Some job → P job
one_job words P job a e = let s : Some a.job ≡ Some job = sym a.asked ∙ e in let t : a.job ≡ job = cc in subst P t a.ended

some_none : (words : List (List ℕ)) (job : Job) → job_of words ≡ Some job → job_of words ≡ None → ⊥
some_none words job e n = let s : Some job ≡ None = sym e ∙ n in cc

module _ (words : List (List ℕ)) (old new : Outside) (err err' : Stream) where
  usage_none : (s : Status) → Answers words old new err err' s → job_of words ≡ None → IsOrWantsMemory status.Usage s
  usage_none status.Ok a e = absurd (no_job words (λ job. Succeeds job old new) a.0 e)
  usage_none status.Refused a e = absurd (no_job words (RefusedBy old new err err') a e)
  usage_none status.Usage a e = inl refl
  usage_none status.Fault a e = absurd (no_job words (λ job. FaultsReading job old new ⊎ FaultsWriting job old new) a.0 e)
  usage_none status.NoMemory a e = inr refl

  pub usage : (s : Status) → Answers words old new err err' s → IsUsage words s
  usage s a = record {
    only = λ e. let u : Answers words old new err err' status.Usage = subst (Answers words old new err err') e a in u.0;
    where_none = usage_none s a;
  }

  -- a job, one of whose files is not there
  pub missing : (s : Status) (job : Job) → Answers words old new err err' s → job_of words ≡ Some job → LacksFile job old.desk.files
      → IsOrWantsMemory status.Fault s
  missing status.Ok job a e m = absurd (let d : Succeeds job old new = one_job words (λ j. Succeeds j old new) job a.0 e in d.made.there m)
  missing status.Refused job a e m =
      absurd (let d : RefusedBy old new err err' job = one_job words (RefusedBy old new err err') job a e in d.1.there m)
  missing status.Usage job a e m = absurd (some_none words job e a.0)
  missing status.Fault job a e m = inl refl
  missing status.NoMemory job a e m = inr refl

  -- a job of whose files a rule is broken
  there : (files : Option (List File)) (name bytes : List ℕ) → IsFile files name bytes → IsMissing files name → ⊥
  there None name bytes f m = f
  there (Some files) name bytes f m = let e : Some bytes ≡ None = sym f ∙ m in cc

  bindings_there : (files : Option (List File)) (choice : Choice) (bytes : List ℕ) → IsBindingFile files choice bytes
      → LacksBindingFile files choice → ⊥
  bindings_there files DefaultMap bytes f m = m
  bindings_there files (TextOf name) bytes f m = there files name bytes f m
  bindings_there files (SignatureOf name) bytes f m = there files name bytes f m

  both_there : (job : Job) (r : Refusal) → BreaksIn job old.desk.files r → LacksFile job old.desk.files → ⊥
  both_there job r b m =
      ⊎_elim (there old.desk.files job.input b.input b.input_file)
      (bindings_there old.desk.files job.choice b.bindings b.binding_file) m

  refused_fault : (job : Job) (r : Refusal) → FaultsReading job old new ⊎ FaultsWriting job old new → BreaksIn job old.desk.files r
      → Rose old.desk.faults new.desk.faults
  refused_fault job r e b =
      ⊎_elim
      (λ (x : FaultsReading job old new). ⊎_elim (λ z. z)
      (λ (m : LacksFile job old.desk.files). absurd (both_there job r b m)) x.cause)
      (λ (x : FaultsWriting job old new). absurd (x.made.sound r b)) e

  pub refused : (s : Status) (job : Job) (r : Refusal) → Answers words old new err err' s → job_of words ≡ Some job
      → IsFirst (BreaksIn job old.desk.files) r → IsRefused old new s
  refused status.Ok job r a e f =
      absurd (let d : Succeeds job old new = one_job words (λ j. Succeeds j old new) job a.0 e in d.made.sound r f.is_broken)
  refused status.Refused job r a e f = inl refl
  refused status.Usage job r a e f = absurd (some_none words job e a.0)
  refused status.Fault job r a e f =
      inr (inr (refused_fault job r (one_job words (λ j. FaultsReading j old new ⊎ FaultsWriting j old new) job a.0 e) f.is_broken))
  refused status.NoMemory job r a e f = inr (inl refl)

  -- a job that nothing hinders
  free_fault : (job : Job) → FaultsReading job old new ⊎ FaultsWriting job old new → IsFree job old new → ⊥
  free_fault job e f =
      ⊎_elim (λ (x : FaultsReading job old new). ⊎_elim f.desk f.there x.cause)
      (λ (x : FaultsWriting job old new). ⊎_elim f.desk f.out x.cause) e

  pub complete : (s : Status) (job : Job) → Answers words old new err err' s → job_of words ≡ Some job → IsFree job old new
      → IsOrWantsMemory status.Ok s
  complete status.Ok job a e f = inl refl
  complete status.Refused job a e f =
      absurd (let d : RefusedBy old new err err' job = one_job words (RefusedBy old new err err') job a e in
      let first : IsFirst (BreaksIn job old.desk.files) d.0 = d.1.first f.told in f.sound d.0 first.is_broken)
  complete status.Usage job a e f = absurd (some_none words job e a.0)
  complete status.Fault job a e f =
      absurd (free_fault job (one_job words (λ j. FaultsReading j old new ⊎ FaultsWriting j old new) job a.0 e) f)
  complete status.NoMemory job a e f = inr refl
