-- What reading the files of a job and translating their bytes come to.
use Rattle.std.proofs.Common.{◌≡◌, ℕ, ◌<◌, ◌≤◌, ◌⊎◌, inl, inr, ⊎_elim, List, [], length, take, Option, Some, None, Bool}
use Rattle.std.proofs.Common.{true, false, refl, sym, ap, ◌∙◌, subst, subst₂, arith}
use Rattle.std.specs.Prelude.{Result, Ok, Err, IfOk}
use Rattle.std.specs.Bool.{MatchBool}
use Rattle.std.proofs.lemmas.List.{length-take, take_all}
use Rattle.word_base.specs.declared.rule.Refusal.{Refusal}
use Rattle.word_base.specs.declared.rule.Rule.TheVariants.{M1}
use Rattle.word_base.specs.Rules.{refusal, comes_before, IsFirst, IsSound}
use Rattle.outside.specs.Causes.{Rose}
use Rattle.outside.specs.Told.{File, Output, Told, KeepsOutputs, IsMissing, file_of}
use Rattle.command_line.specs.Job.{Choice, DefaultMap, TextOf, SignatureOf, Job, is_stream}
use Rattle.compiler_cli.specs.declared.failure.Failure.{Failure}
use Rattle.compiler_cli.specs.declared.failure.Failure.TheVariants as failure
use Rattle.compiler_cli.specs.Output.{AreTaken, AreTold, Breaks, BreaksIn, IsBindingFile, IsFile, IsModuleOf}
use Rattle.compiler_cli.specs.Output.{IsTooLarge, LacksBindingFile, LacksFile, OfFile, OfInput, OfMap, TooLarge}
use Rattle.compiler_cli.specs.Parts.{AreRead, Came, ComesTooLong, FailsToCome, HasBindingsCome, HasCome, Translates}
use Rattle.compiler_cli.specs.Run.{Delivers, DeliversPart, Ends, HasOutput, IsFirstIn, NewOutput, Outside, outside}
use Rattle.compiler_cli.specs.Run.{ToDesk, ToStream, Untouched}
use Rattle.compiler_cli.specs.Streams.{FileCame, FromFile, NothingLeft, most_read}

-- ---- a file that came

come_from : (file : Option (List ℕ)) (bytes : List ℕ) (left : Option (List ℕ)) → FromFile file bytes left
    → (whole : List ℕ) × (file ≡ Some whole) × (bytes ≡ take most_read whole)
come_from None bytes left c = absurd c
come_from (Some file) bytes left c = (file, refl, c.0)

pub come : (files : Option (List File)) (name bytes : List ℕ) (left : Option (List ℕ)) → FileCame files name bytes left
    → HasCome files name bytes
come None name bytes left c = tt
come (Some files) name bytes left c = come_from (file_of files name) bytes left c

pub came_whole : {V E : Type 0} (items : V → List ℕ) (files : Option (List File)) (name : List ℕ)
    (left : Option (List ℕ))
    (result : Result V E) → IfOk result (λ b. FileCame files name (items b) left)
    → IfOk result (λ b. HasCome files name (items b))
came_whole items files name left (Ok b) h = come files name (items b) left h
came_whole items files name left (Err e) h = tt

not_missing : (files : Option (List File)) (name bytes : List ℕ) → HasCome files name bytes → IsMissing files name → ⊥
not_missing None name bytes c m = m
not_missing (Some files) name bytes c m = let e : Some c.0 ≡ None = sym c.1 ∙ m in cc

came_as : (files : Option (List File)) (name bytes file : List ℕ) → HasCome files name bytes → IsFile files name file
    → bytes ≡ take most_read file
came_as None name bytes file c f = absurd f
came_as (Some files) name bytes file c f =
    let e : Some c.0 ≡ Some file = sym c.1 ∙ f in let s : c.0 ≡ file = cc in c.2 ∙ ap (take most_read) s

-- one that came short is whole, and one that came long is too large
short : (bytes file : List ℕ) → bytes ≡ take most_read file → length bytes ≤ 16777216 → bytes ≡ file
short bytes file e le =
    let l : length file ≤ most_read = omega (arith, ap length e, length-take 16777217 file) in e ∙ take_all most_read
    file l

long : (bytes file : List ℕ) → bytes ≡ take most_read file → 16777216 < length bytes → 16777216 < length file
long bytes file e lt = omega (arith, ap length e, length-take 16777217 file)

-- where the desk tells its files, one came
found : (files : Option (List File)) (name bytes : List ℕ) → AreTold files → HasCome files name bytes
    → (file : List ℕ) × IsFile files name file
found None name bytes told c = absurd told
found (Some files) name bytes told c = (c.0, c.1)

one_file : (files : Option (List File)) (name a b : List ℕ) → IsFile files name a → IsFile files name b → a ≡ b
one_file None name a b f g = absurd f
one_file (Some files) name a b f g = let e : Some a ≡ Some b = sym f ∙ g in cc

-- ---- the file of a binding map

bindings_as : (files : Option (List File)) (choice : Choice) (bytes file : List ℕ) → HasBindingsCome files choice bytes
    → IsBindingFile files choice file → bytes ≡ take most_read file
bindings_as files DefaultMap bytes file c f = c ∙ sym (ap (take most_read) f ∙ take_all most_read [] (omega arith))
bindings_as files (TextOf name) bytes file c f = came_as files name bytes file c f
bindings_as files (SignatureOf name) bytes file c f = came_as files name bytes file c f

bindings_found : (files : Option (List File)) (choice : Choice) (bytes : List ℕ) → AreTold files
    → HasBindingsCome files choice bytes → (file : List ℕ) × IsBindingFile files choice file
bindings_found files DefaultMap bytes told c = ([], refl)
bindings_found files (TextOf name) bytes told c = found files name bytes told c
bindings_found files (SignatureOf name) bytes told c = found files name bytes told c

bindings_there : (files : Option (List File)) (choice : Choice) (bytes : List ℕ) → HasBindingsCome files choice bytes
    → LacksBindingFile files choice → ⊥
bindings_there files DefaultMap bytes c m = m
bindings_there files (TextOf name) bytes c m = not_missing files name bytes c m
bindings_there files (SignatureOf name) bytes c m = not_missing files name bytes c m

one_binding : (files : Option (List File)) (choice : Choice) (a b : List ℕ) → IsBindingFile files choice a
    → IsBindingFile files choice b → a ≡ b
one_binding files DefaultMap a b f g = f ∙ sym g
one_binding files (TextOf name) a b f g = one_file files name a b f g
one_binding files (SignatureOf name) a b f g = one_file files name a b f g

-- ---- rules of the files, and of the job

first_in : (job : Job) (files : Option (List File)) (input file : List ℕ) (r : Refusal) → IsFile files job.input input
    → IsBindingFile files job.choice file → IsFirst (Breaks job.choice input file) r → IsFirst (BreaksIn job files) r
first_in job files input file r i g f = record {
  is_broken = record { input = input; input_file = i; bindings = file; binding_file = g; broken = f.is_broken };
  is_least = λ q b.
      f.is_least q (subst₂ (λ x y. Breaks job.choice x y q) (one_file files job.input b.input input b.input_file i)
      (one_binding files job.choice b.bindings file b.binding_file g) b.broken);
}

too_large_taken : (input file : List ℕ) (r : Refusal) → IsTooLarge input file r → AreTaken input file → ⊥
too_large_taken input file r l t =
    ⊎_elim (λ (i : 16777216 < length input). let s = t.input_size in omega (arith, s, i))
    (λ (f : 16777216 < length file). let s = t.file_size in omega (arith, s, f)) l.size

too_large_least : (choice : Choice) (input file : List ℕ) (r : Refusal) → IsTooLarge input file r → (q : Refusal)
    → Breaks choice input file q → comes_before q r ≡ false
too_large_least choice input file r l q (TooLarge t) =
    subst₂ (λ x y. comes_before x y ≡ false) (sym t.rule) (sym l.rule) refl
too_large_least choice input file r l q (OfInput t b) = absurd (too_large_taken input file r l t)
too_large_least choice input file r l q (OfFile t s b) = absurd (too_large_taken input file r l t)
too_large_least choice input file r l q (OfMap t s b) = absurd (too_large_taken input file r l t)

module _ (job : Job) (old mid : Told) (input file : List ℕ) (read : AreRead job old mid input file) where
  input_as : (i : List ℕ) → IsFile old.files job.input i → input ≡ take most_read i
  input_as i f = came_as old.files job.input input i read.input_came f

  file_as : (b : List ℕ) → IsBindingFile old.files job.choice b → file ≡ take most_read b
  file_as b f = bindings_as old.files job.choice file b read.file_came f

  pub there : LacksFile job old.files → ⊥
  there l =
      ⊎_elim (not_missing old.files job.input input read.input_came)
      (bindings_there old.files job.choice file read.file_came) l

  pub too_large : (r : Refusal) → IsTooLarge input file r → IsFirstIn job old.files r
  too_large r l told =
      let i = found old.files job.input input told read.input_came in
      let b = bindings_found old.files job.choice file told read.file_came in
      let large : IsTooLarge i.0 b.0 r = record {
        size = ⊎_elim (λ (z : 16777216 < length input). inl (long input i.0 (input_as i.0 i.1) z))
            (λ (z : 16777216 < length file). inr (long file b.0 (file_as b.0 b.1) z)) l.size;
        rule = l.rule;
      } in
      first_in job old.files i.0 b.0 r i.1 b.1 (record {
        is_broken = TooLarge large;
        is_least = too_large_least job.choice i.0 b.0 r large;
      })

  module _ (taken : AreTaken input file) where
    pub refused : (r : Refusal) → IsFirst (Breaks job.choice input file) r → IsFirstIn job old.files r
    refused r f told =
        let i = found old.files job.input input told read.input_came in
        let b = bindings_found old.files job.choice file told read.file_came in
        first_in job old.files i.0 b.0 r i.1 b.1
        (subst₂ (λ x y. IsFirst (Breaks job.choice x y) r) (short input i.0 (input_as i.0 i.1) taken.input_size)
        (short file b.0 (file_as b.0 b.1) taken.file_size) f)

    pub has_output : (written : List ℕ) → IsSound (Breaks job.choice input file)
        → IsModuleOf job.choice job.version input file written → HasOutput job old.files written
    has_output written s m = record {
      there = there;
      sound = λ q b. s q (subst₂ (λ x y. Breaks job.choice x y q)
          (sym (short input b.input (input_as b.input b.input_file) taken.input_size))
          (sym (short file b.bindings (file_as b.bindings b.binding_file) taken.file_size)) b.broken);
      output = λ i b f g. subst₂ (λ x y. IsModuleOf job.choice job.version x y written)
          (short input i (input_as i f) taken.input_size) (short file b (file_as b g) taken.file_size) m;
    }

-- ---- What is written after the input was read is written after all.
rose_before : (old mid new : ℕ) → mid ≡ old → Rose mid new → Rose old new
rose_before old mid new e h = subst (λ n. Rose n new) e h

untouched_before : (old mid new : Told) (out out' : Option (List ℕ)) → KeepsOutputs old mid → Untouched mid new out out'
    → Untouched old new out out'
untouched_before old mid new out out' k u =
    record { outputs = u.outputs ∙ k.outputs; begun = u.begun ∙ k.begun; stream = u.stream }

delivers_by : (b : Bool) (name : List ℕ) (old mid new : Told) (out out' : Option (List ℕ)) (bytes : List ℕ)
    → KeepsOutputs old mid
    → MatchBool b (ToStream mid new out out' bytes) (ToDesk name mid new out out' bytes)
    → MatchBool b (ToStream old new out out' bytes) (ToDesk name old new out out' bytes)
delivers_by true name old mid new out out' bytes k d =
    record { outputs = d.outputs ∙ k.outputs; begun = d.begun ∙ k.begun; written = d.written }
delivers_by false name old mid new out out' bytes k d = record {
  outputs = subst (λ (o : Option (List Output)). NewOutput o new.outputs name bytes) k.outputs d.outputs;
  begun = d.begun;
  stream = d.stream;
}

delivers_before : (name : List ℕ) (old mid new : Told) (out out' : Option (List ℕ)) (bytes : List ℕ)
    → KeepsOutputs old mid
    → Delivers name mid new out out' bytes → Delivers name old new out out' bytes
delivers_before name old mid new out out' bytes k d = delivers_by (is_stream name) name old mid new out out' bytes k d

part_before : (name : List ℕ) (old mid new : Told) (out out' : Option (List ℕ)) (bytes : List ℕ) → KeepsOutputs old mid
    → DeliversPart name mid new out out' bytes → DeliversPart name old new out out' bytes
part_before name old mid new out out' bytes k d =
    ⊎_elim (λ u. inl (untouched_before old mid new out out' k u))
    (λ (p : (n : ℕ) × (n ≤ length bytes) × Delivers name mid new out out' (take n bytes)).
    inr (p.0, p.1, delivers_before name old mid new out out' (take p.0 bytes) k p.2)) d

-- ---- how a job ends

read_only : (old mid : Told) (out : Option (List ℕ)) → KeepsOutputs old mid → Untouched old mid out out
read_only old mid out k = record { outputs = k.outputs; begun = k.begun; stream = refl }

-- where its files did not come
pub not_come : (job : Job) (old mid : Told) (out : Option (List ℕ)) (faults : ℕ) (x : Failure) → KeepsOutputs old mid
    → FailsToCome job old mid x → Ends job (outside old out faults) (outside mid out faults) (Err x)
not_come job old mid out faults (failure.Refused r) k f = record {
  there = there job old mid f.input f.file f.read;
  quiet = f.read.quiet;
  first = too_large job old mid f.input f.file f.read r f.long;
  untouched = read_only old mid out k;
}
not_come job old mid out faults failure.Fault k f = inl (record { cause = f; untouched = read_only old mid out k })
not_come job old mid out faults failure.NoMemory k f = read_only old mid out k

-- where they came and the input was translated
module _ (job : Job) (input file : List ℕ) (old mid : Told) (c : Came job old mid input file) (k : KeepsOutputs old mid)
  where
    stays : (new : Outside) (out : Option (List ℕ)) (faults : ℕ) → new ≡ outside mid out faults
        → Untouched old new.desk out new.out
    stays new out faults e =
        subst (λ (n : Outside). Untouched old n.desk out n.out) (sym e) (read_only old mid out k)

    pub ends : (new : Outside) (out : Option (List ℕ)) (faults : ℕ) (result : Result Unit Failure)
        → Translates job (outside mid out faults) new input file result
        → Ends job (outside old out faults) new result
    ends new out faults (Ok u) t = record {
      output = t.output;
      made = has_output job old mid input file c.read c.taken t.output t.sound t.made;
      left = subst NothingLeft (sym t.left) c.left;
      written = delivers_before job.output old mid new.desk out new.out t.output k t.written;
    }
    ends new out faults (Err (failure.Refused r)) t = record {
      there = there job old mid input file c.read;
      quiet = ap (λ (n : Outside). n.desk.faults) t.1 ∙ c.read.quiet;
      first = refused job old mid input file c.read c.taken r t.0;
      untouched = stays new out faults t.1;
    }
    ends new out faults (Err failure.Fault) t = inr (record {
      output = t.output;
      made = has_output job old mid input file c.read c.taken t.output t.sound t.made;
      cause = ⊎_elim (λ r. inl (rose_before old.faults mid.faults new.desk.faults c.read.quiet r)) (λ r. inr r) t.cause;
      written = part_before job.output old mid new.desk out new.out t.output k t.written;
    })
    ends new out faults (Err failure.NoMemory) t = stays new out faults t

-- ---- how reading ends

-- the second file could not be read
pub fails_second : (job : Job) (old mid new : Told) → mid.faults ≡ old.faults → KeepsOutputs old mid
    → Rose mid.faults new.faults ⊎ LacksBindingFile mid.files job.choice
    → Rose old.faults new.faults ⊎ LacksFile job old.files
fails_second job old mid new q k f =
    ⊎_elim (λ r. inl (rose_before old.faults mid.faults new.faults q r))
    (λ (l : LacksBindingFile mid.files job.choice).
    inr (inr (subst (λ (o : Option (List File)). LacksBindingFile o job.choice) k.files l))) f

-- both were read
pub both_read : (job : Job) (old mid new : Told) (input file : List ℕ) (left : Option (List ℕ)) → KeepsOutputs old mid
    → mid.faults ≡ old.faults → new.faults ≡ mid.faults → FileCame old.files job.input input left
    → HasBindingsCome mid.files job.choice file → AreRead job old new input file
both_read job old mid new input file left k q z c b = record {
  quiet = z ∙ q;
  input_came = come old.files job.input input left c;
  file_came = subst (λ (o : Option (List File)). HasBindingsCome o job.choice file) k.files b;
}
