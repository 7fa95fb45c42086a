-- Files in a list: looked up, and given new bytes.
use Rattle.std.proofs.Common.{◌≡◌, ℕ, zero, suc, ◌+◌, ◌<◌, ◌≤◌, ◌≢◌, List, [], ◌∷◌, ◌++◌, length, drop, Bool, true, false, if◌then◌else◌, refl, sym, ap, ◌∙◌, subst, arith, slice_set, slice_index_or, Option, Some, None, option_map}
use Rattle.std.specs.Prelude.{position}
use Rattle.std.specs.List.{position_or_len}
use Rattle.std.proofs.lemmas.Grind.{common_steps}
use Rattle.std.proofs.lemmas.Bool.Decides.{nat_tests}
use Rattle.outside.specs.Told.{File, is_named, file_of}
use Rattle.outside.specs.Memory.{with_file}
use Rattle.outside.specs.Held.{FilesValue, bytes_at, with_bytes_at, source_of, IsSource, FindsFile}
use Rattle.outside.specs.declared.files.Source.{Source}
use Rattle.outside.specs.declared.files.Source.TheVariants.{Nothing, Listed, Replaced}

-- what stands in the list after a write
pub set_bytes : (files : List File) (place : ℕ) (f : File) (fresh : List ℕ) → place < length files → f ≡ slice_index_or files place f → slice_set files place (record { name = f.name; bytes = fresh }) ≡ with_bytes_at files place fresh
set_bytes [] place f fresh h e = absurd (omega arith)
set_bytes (x ∷ xs) zero f fresh h e = ap (λ (n : List ℕ). record { name = n; bytes = fresh } ∷ xs) (ap (λ (g : File). g.name) e)
set_bytes (x ∷ xs) (suc place) f fresh h e = ap (λ ys. x ∷ ys) (set_bytes xs place f fresh (omega arith) e)

-- what was read there before
pub bytes_read : (files : List File) (place : ℕ) (f : File) → place < length files → f ≡ slice_index_or files place f → bytes_at files place ≡ f.bytes
bytes_read [] place f h e = absurd (omega arith)
bytes_read (x ∷ xs) zero f h e = sym (ap (λ (g : File). g.bytes) e)
bytes_read (x ∷ xs) (suc place) f h e = bytes_read xs place f (omega arith) e

pub bytes_elsewhere : (files : List File) (place other : ℕ) (fresh : List ℕ) → other ≢ place → bytes_at (with_bytes_at files place fresh) other ≡ bytes_at files other
bytes_elsewhere [] place other fresh h = refl
bytes_elsewhere (x ∷ xs) zero zero fresh h = absurd (h refl)
bytes_elsewhere (x ∷ xs) zero (suc other) fresh h = refl
bytes_elsewhere (x ∷ xs) (suc place) zero fresh h = refl
bytes_elsewhere (x ∷ xs) (suc place) (suc other) fresh h = bytes_elsewhere xs place other fresh (λ e. h (ap (λ n. suc n) e))

pub length_with : (files : List File) (place : ℕ) (fresh : List ℕ) → length (with_bytes_at files place fresh) ≡ length files
length_with [] place fresh = refl
length_with (x ∷ xs) zero fresh = refl
length_with (x ∷ xs) (suc place) fresh = ap (λ n. suc n) (length_with xs place fresh)

pub bytes_before : (files more : List File) (place : ℕ) → place < length files → bytes_at (files ++ more) place ≡ bytes_at files place
bytes_before [] more place h = absurd (omega arith)
bytes_before (x ∷ xs) more zero h = refl
bytes_before (x ∷ xs) more (suc place) h = bytes_before xs more place (omega arith)

-- ---- the place of a name, by the number of files before it

head_place : (x : File) (xs : List File) (name fresh : List ℕ) → ((k : ℕ) → position_or_len (is_named name) xs ≡ k → k < length xs → with_file xs name fresh ≡ with_bytes_at xs k fresh) → (b : Bool) → is_named name x ≡ b → (k : ℕ) → position_or_len (is_named name) (x ∷ xs) ≡ k → k < suc (length xs) → with_file (x ∷ xs) name fresh ≡ with_bytes_at (x ∷ xs) k fresh
head_place x xs name fresh tail true t zero e h = rw t refl
head_place x xs name fresh tail true t (suc k) e h = absurd (let z : 0 ≡ suc k = rw t at e in omega (arith, z))
head_place x xs name fresh tail false t zero e h = absurd (let z : 1 + position_or_len (is_named name) xs ≡ 0 = rw t at e in omega (arith, z))
head_place x xs name fresh tail false t (suc k) e h =
    let z : 1 + position_or_len (is_named name) xs ≡ suc k = rw t at e in
    rw t (ap (λ ys. x ∷ ys) (tail k (omega (arith, z)) (omega (arith, h))))

pub at_place : (files : List File) (name fresh : List ℕ) (k : ℕ) → position_or_len (is_named name) files ≡ k → k < length files → with_file files name fresh ≡ with_bytes_at files k fresh
at_place [] name fresh k e h = absurd (omega arith)
at_place (x ∷ xs) name fresh k e h = head_place x xs name fresh (at_place xs name fresh) (is_named name x) refl k e h

head_found : (x : File) (xs : List File) (name : List ℕ) → ((k : ℕ) → position_or_len (is_named name) xs ≡ k → k < length xs → file_of xs name ≡ Some (bytes_at xs k)) → (b : Bool) → is_named name x ≡ b → (k : ℕ) → position_or_len (is_named name) (x ∷ xs) ≡ k → k < suc (length xs) → file_of (x ∷ xs) name ≡ Some (bytes_at (x ∷ xs) k)
head_found x xs name tail true t zero e h = rw t refl
head_found x xs name tail true t (suc k) e h = absurd (let z : 0 ≡ suc k = rw t at e in omega (arith, z))
head_found x xs name tail false t zero e h = absurd (let z : 1 + position_or_len (is_named name) xs ≡ 0 = rw t at e in omega (arith, z))
head_found x xs name tail false t (suc k) e h =
    let z : 1 + position_or_len (is_named name) xs ≡ suc k = rw t at e in
    rw t (tail k (omega (arith, z)) (omega (arith, h)))

pub found_at : (files : List File) (name : List ℕ) (k : ℕ) → position_or_len (is_named name) files ≡ k → k < length files → file_of files name ≡ Some (bytes_at files k)
found_at [] name k e h = absurd (omega arith)
found_at (x ∷ xs) name k e h = head_found x xs name (found_at xs name) (is_named name x) refl k e h

head_missing : (x : File) (xs : List File) (name fresh : List ℕ) → (length xs ≤ position_or_len (is_named name) xs → (file_of xs name ≡ None) × (with_file xs name fresh ≡ xs ++ record { name = name; bytes = fresh } ∷ [])) → (b : Bool) → is_named name x ≡ b → suc (length xs) ≤ position_or_len (is_named name) (x ∷ xs) → (file_of (x ∷ xs) name ≡ None) × (with_file (x ∷ xs) name fresh ≡ x ∷ xs ++ record { name = name; bytes = fresh } ∷ [])
head_missing x xs name fresh tail true t h = absurd (let z : suc (length xs) ≤ 0 = rw t at h in omega (arith, z))
head_missing x xs name fresh tail false t h =
    let z : suc (length xs) ≤ 1 + position_or_len (is_named name) xs = rw t at h in
    let p = tail (omega (arith, z)) in
    rw t (p.0, ap (λ ys. x ∷ ys) p.1)

pub not_found : (files : List File) (name fresh : List ℕ) → length files ≤ position_or_len (is_named name) files → (file_of files name ≡ None) × (with_file files name fresh ≡ files ++ record { name = name; bytes = fresh } ∷ [])
not_found [] name fresh h = (refl, refl)
not_found (x ∷ xs) name fresh h = head_missing x xs name fresh (not_found xs name fresh) (is_named name x) refl h

-- ---- what `position` gives

pub place_is : (files : List File) (name : List ℕ) (k : ℕ) → Some k ≡ position (is_named name) files → (position_or_len (is_named name) files ≡ k) × (k < length files)
place_is files name k e = grind (arith, nat_tests, e)

pub no_place : (files : List File) (name : List ℕ) → None ≡ position (is_named name) files → length files ≤ position_or_len (is_named name) files
no_place files name e = grind (arith, nat_tests, e)

-- ---- new bytes for a file, beside what is being read

abbrev pub values : List File → Option (List ℕ) → FilesValue
values files reading = record { files = files; reading = reading }

-- a file with the name of another, and other bytes
abbrev pub fresh_file : List ℕ → List ℕ → File
fresh_file name bytes = record { name = name; bytes = bytes }

written : (files : List File) (fresh previous n : List ℕ) (place : ℕ) (f : File) → place < length files → f ≡ slice_index_or files place f → fresh_file n previous ≡ f → slice_set files place (fresh_file n fresh) ≡ with_bytes_at files place fresh
written files fresh previous n place f within read inner = ap (λ (g : File). slice_set files place (fresh_file g.name fresh)) inner ∙ set_bytes files place f fresh within read

pub replaced_now : (old : FilesValue) (files : List File) (source : Source) (kept fresh previous n : List ℕ) (at place : ℕ) (f : File)
    → values files (option_map (drop at) (source_of source files kept)) ≡ old → source ≡ Listed place → place < length files → f ≡ slice_index_or files place f → fresh_file n previous ≡ f
    → values (slice_set files place (fresh_file n fresh)) (Some (drop at previous)) ≡ values (with_bytes_at old.files place fresh) old.reading
replaced_now old files source kept fresh previous n at place f view here within read inner =
    let was : source_of source files kept ≡ Some previous = ap (λ s. source_of s files kept) here ∙ ap Some (bytes_read files place f within read ∙ sym (ap (λ (g : File). g.bytes) inner)) in
    subst (λ (v : FilesValue). values (slice_set files place (fresh_file n fresh)) (Some (drop at previous)) ≡ values (with_bytes_at v.files place fresh) v.reading) view
    (rw (written files fresh previous n place f within read inner, was) refl)

pub same_source : (source : Source) (files : List File) (place : ℕ) (fresh kept : List ℕ) → ((r : ℕ) → source ≡ Listed r → r ≢ place) → source_of source (with_bytes_at files place fresh) kept ≡ source_of source files kept
same_source Nothing files place fresh kept h = refl
same_source (Listed r) files place fresh kept h = ap Some (bytes_elsewhere files place r fresh (h r refl))
same_source Replaced files place fresh kept h = refl

pub replaced_other : (old : FilesValue) (files : List File) (source : Source) (kept fresh previous n : List ℕ) (at place : ℕ) (f : File)
    → values files (option_map (drop at) (source_of source files kept)) ≡ old → ((r : ℕ) → source ≡ Listed r → r ≢ place) → place < length files → f ≡ slice_index_or files place f → fresh_file n previous ≡ f
    → values (slice_set files place (fresh_file n fresh)) (option_map (drop at) (source_of source (slice_set files place (fresh_file n fresh)) kept)) ≡ values (with_bytes_at old.files place fresh) old.reading
replaced_other old files source kept fresh previous n at place f view other within read inner =
    subst (λ (v : FilesValue). values (slice_set files place (fresh_file n fresh)) (option_map (drop at) (source_of source (slice_set files place (fresh_file n fresh)) kept)) ≡ values (with_bytes_at v.files place fresh) v.reading) view
    (rw (written files fresh previous n place f within read inner, same_source source files place fresh kept other) refl)

-- ---- one file more

pub source_before : (source : Source) (files more : List File) (kept : List ℕ) (at : ℕ) → IsSource source files kept at → (source_of source (files ++ more) kept ≡ source_of source files kept) × IsSource source (files ++ more) kept at
source_before Nothing files more kept at h = (refl, h)
source_before (Listed place) files more kept at h =
    let e = bytes_before files more place h.0 in
    (ap Some e, (grind (arith, common_steps, h.0), rw e h.1))
source_before Replaced files more kept at h = (refl, h)

pub added : (old : FilesValue) (files : List File) (source : Source) (kept name fresh : List ℕ) (at : ℕ)
    → values files (option_map (drop at) (source_of source files kept)) ≡ old → IsSource source files kept at → None ≡ position (is_named name) old.files
    → values (files ++ fresh_file name fresh ∷ []) (option_map (drop at) (source_of source (files ++ fresh_file name fresh ∷ []) kept)) ≡ values (with_file old.files name fresh) old.reading
added old files source kept name fresh at view there none =
    let e : with_file old.files name fresh ≡ old.files ++ fresh_file name fresh ∷ [] = (not_found old.files name fresh (no_place old.files name none)).1 in
    let s = (source_before source files (fresh_file name fresh ∷ []) kept at there).0 in
    rw (e, s) (subst (λ (v : FilesValue). values (files ++ fresh_file name fresh ∷ []) (option_map (drop at) (source_of source files kept)) ≡ values (v.files ++ fresh_file name fresh ∷ []) v.reading) view refl)

pub source_kept : (b : Bool) (source : Source) (files more now : List File) (kept : List ℕ) (at : ℕ) → IsSource source files kept at → now ≡ (if b then files ++ more else files) → IsSource source now kept at
source_kept true source files more now kept at h e = subst (λ fs. IsSource source fs kept at) (sym e) (source_before source files more kept at h).1
source_kept false source files more now kept at h e = subst (λ fs. IsSource source fs kept at) (sym e) h

-- the list that `push` leaves
pub added_by : (old : FilesValue) (files now : List File) (source : Source) (kept name text fresh bytes : List ℕ) (at : ℕ)
    → values files (option_map (drop at) (source_of source files kept)) ≡ old → IsSource source files kept at → None ≡ position (is_named name) old.files
    → now ≡ files ++ fresh_file text bytes ∷ [] → text ≡ name → bytes ≡ fresh
    → values now (option_map (drop at) (source_of source now kept)) ≡ values (with_file old.files name fresh) old.reading
added_by old files now source kept name text fresh bytes at view there none is_now is_text is_fresh =
    let e : now ≡ files ++ fresh_file name fresh ∷ [] = is_now ∙ ap (λ t. files ++ fresh_file t bytes ∷ []) is_text ∙ ap (λ b. files ++ fresh_file name b ∷ []) is_fresh in
    rw e (added old files source kept name fresh at view there none)

pub finds_file : (files : List File) (name : List ℕ) (place : Option ℕ) → place ≡ position (is_named name) files → FindsFile files name place
finds_file files name None e = (not_found files name [] (no_place files name e)).0
finds_file files name (Some place) e = let p = place_is files name place e in (found_at files name place p.0 p.1, p.1)
