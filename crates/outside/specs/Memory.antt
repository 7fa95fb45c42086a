-- Desks and sinks in memory: which calls fail, and what each call leaves.
use Rattle.std.specs.Prelude.{◌≡◌, ℕ, ◌+◌, ◌-◌, ◌^◌, min, nat_eq, nat_lt, if◌then◌else◌, Bool, true, false, ◌||◌, List, [], ◌∷◌, ◌++◌, Option, Some, is_some, is_none, unwrap_or, option_map, Result, Ok, Err, length, take, drop, refl}
use Rattle.std.specs.List.{list_any}
use Rattle.outside.specs.Told.{File, Output, Told, file_of, is_named, with_last}

-- The numbers of the calls that are to fail, the calls made so far, and the faults among them. Both counts stay at 2 ^ 64 - 1.
pub record Counts : Type 0 where
  pub failing : List ℕ
  pub calls : ℕ
  pub faults : ℕ

abbrev pub no_calls : List ℕ → Counts
no_calls failing = record { failing = failing; calls = 0; faults = 0 }

-- whether the next call is one that is to fail
abbrev pub is_planned : Counts → Bool
is_planned counts = list_any (λ number. nat_eq number (counts.calls + 1)) counts.failing

abbrev pub count_up : ℕ → ℕ
count_up n = min (n + 1) (2 ^ 64 - 1)

-- the counts after a call, which was a fault or was none
abbrev pub after_call : Counts → Bool → Counts
after_call counts fault = record {
  failing = counts.failing;
  calls = count_up counts.calls;
  faults = if fault then count_up counts.faults else counts.faults;
}

-- what was written to a sink, and the bytes that it still has room for
pub record SinkValue : Type 0 where
  pub written : List ℕ
  pub room : ℕ
  pub counts : Counts

-- whether the next write fails
abbrev pub refuses : Counts → ℕ → ℕ → Bool
refuses counts room wanted = is_planned counts || nat_lt room wanted

-- A write takes the whole piece, or fails and is counted.
abbrev pub SinkWrites : {E : Type 0} → SinkValue → List ℕ → Result ℕ E → SinkValue → Type 0
SinkWrites old piece (Ok n) new =
    (refuses old.counts old.room (length piece) ≡ false) × (n ≡ length piece)
    × (new ≡ record { written = old.written ++ piece; room = old.room - length piece; counts = after_call old.counts false })
SinkWrites old piece (Err e) new =
    (refuses old.counts old.room (length piece) ≡ true)
    × (new ≡ record { written = old.written; room = old.room; counts = after_call old.counts true })

-- The files, what is left of the file that was begun to be read last, the outputs, the number of outputs that may still be begun,
-- and the bytes that names and outputs still have room for.
pub record DeskValue : Type 0 where
  pub files : List File
  pub reading : Option (List ℕ)
  pub outputs : List Output
  pub spare : ℕ
  pub room : ℕ
  pub counts : Counts

-- what a desk in memory tells
abbrev pub told_of : DeskValue → Told
told_of desk = record {
  files = Some desk.files;
  left = Some (unwrap_or desk.reading []);
  outputs = Some desk.outputs;
  begun = nat_lt 0 (length desk.outputs);
  reading = is_some desk.reading;
  faults = desk.counts.faults;
}

-- the desk after a call that changes its counts alone
abbrev pub counted : DeskValue → Bool → DeskValue
counted desk fault = record desk { counts = after_call desk.counts fault }

-- Files with these bytes under that name, in the place of those that stood there.
abbrev pub with_file : List File → List ℕ → List ℕ → List File
with_file [] name bytes = record { name = name; bytes = bytes } ∷ []
with_file (file ∷ rest) name bytes =
    if is_named name file then record { name = file.name; bytes = bytes } ∷ rest else file ∷ with_file rest name bytes

-- A desk begins to read where the file is there and the call is not to fail. A missing file is no fault.
abbrev pub DeskBeginsRead : {T E : Type 0} → DeskValue → List ℕ → Result T E → DeskValue → Type 0
DeskBeginsRead old name (Ok u) new =
    (is_planned old.counts ≡ false) × (is_some (file_of old.files name) ≡ true)
    × (new ≡ record old { reading = file_of old.files name; counts = after_call old.counts false })
DeskBeginsRead old name (Err e) new =
    ((is_planned old.counts || is_none (file_of old.files name)) ≡ true) × (new ≡ counted old (is_planned old.counts))

-- A read gives as many bytes as are left and as fit.
abbrev pub DeskReads : {E : Type 0} → DeskValue → List ℕ → Result ℕ E → DeskValue → Type 0
DeskReads old piece (Ok n) new =
    (is_planned old.counts ≡ false) × (n ≡ min (length (unwrap_or old.reading [])) (length piece))
    × (take n piece ≡ take n (unwrap_or old.reading []))
    × (new ≡ record old { reading = option_map (drop n) old.reading; counts = after_call old.counts false })
DeskReads old piece (Err e) new = (is_planned old.counts ≡ true) × (new ≡ counted old true)

-- An output is begun where the call is not to fail, the desk has one to spare, and its name has room.
abbrev pub refuses_output : DeskValue → List ℕ → Bool
refuses_output desk name = is_planned desk.counts || (nat_eq desk.spare 0 || nat_lt desk.room (length name))

abbrev pub DeskBeginsWrite : {T E : Type 0} → DeskValue → List ℕ → Result T E → DeskValue → Type 0
DeskBeginsWrite old name (Ok u) new =
    (refuses_output old name ≡ false)
    × (new ≡ record old { outputs = old.outputs ++ record { name = name; bytes = [] } ∷ []; spare = old.spare - 1; room = old.room - length name; counts = after_call old.counts false })
DeskBeginsWrite old name (Err e) new = (refuses_output old name ≡ true) × (new ≡ counted old true)

-- A write adds the whole piece to the last output, or fails and is counted.
abbrev pub DeskWrites : {E : Type 0} → DeskValue → List ℕ → Result ℕ E → DeskValue → Type 0
DeskWrites old piece (Ok n) new =
    (refuses old.counts old.room (length piece) ≡ false) × (n ≡ length piece)
    × (new ≡ record old { outputs = with_last old.outputs piece; room = old.room - length piece; counts = after_call old.counts false })
DeskWrites old piece (Err e) new = (refuses old.counts old.room (length piece) ≡ true) × (new ≡ counted old true)

-- Examples: the second call is to fail; a file gets new bytes.
pub first_call : is_planned (no_calls (2 ∷ [])) ≡ false
first_call = refl

pub second_call : is_planned (after_call (no_calls (2 ∷ [])) false) ≡ true
second_call = refl

abbrev named : List ℕ → List ℕ → File
named name bytes = record { name = name; bytes = bytes }

pub new_bytes : with_file (named (97 ∷ []) (1 ∷ []) ∷ named (98 ∷ []) (2 ∷ []) ∷ []) (97 ∷ []) (3 ∷ []) ≡ named (97 ∷ []) (3 ∷ []) ∷ named (98 ∷ []) (2 ∷ []) ∷ []
new_bytes = refl
