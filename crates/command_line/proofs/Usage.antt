-- The words ask for nothing exactly where one of the causes is there.
use Rattle.std.proofs.Common.{◌≡◌, ◌≢◌, ◌⊎◌, ◌∙◌, List, [], ◌∷◌, Bool, true, false, refl, sym, ap, inl, inr}
use Rattle.std.specs.Prelude.{◌↔◌, ◌&&◌, not, if◌then◌else◌, Option, Some, None, is_some, codes, option_and_then}
use Rattle.std.specs.Str.{bytes_eq}
use Rattle.std.proofs.lemmas.Bool.Decides.{not_from_Decides}
use Rattle.std.proofs.lemmas.Slice.Eq.{bytes_eq-Decides}
use Rattle.clap.specs.Words.{Text, Kinds, matches_of, fault_of}
use Rattle.spirv_words.specs.declared.version.Version.{Version}
use Rattle.spirv_words.specs.declared.version.Version.TheVariants.{V13, V14}
use Rattle.command_line.specs.Command.{Values, command, has_none, values_in, values_of}
use Rattle.command_line.specs.Job.{Choice, DefaultMap, TextOf, SignatureOf, Job, choice_of, is_at_most}
use Rattle.command_line.specs.Job.{is_from_stream, is_stream, job_in, job_of, job_with, name_of}
use Rattle.command_line.specs.Job.{translation_of, version_of}
use Rattle.command_line.specs.Usage.{AsksNothing, IsEmpty, IsOther, IsStandard, OtherSource, OtherTarget}
use Rattle.command_line.specs.Usage.{OtherVersion, BothBindings, OneStreamTwice, Simulation, Sample}

-- ---- from no job to its cause

equal : (a b : Text) → bytes_eq a b ≡ true → a ≡ b
equal a b e = (bytes_eq-Decides a b).0 e

unequal : (a b : Text) → bytes_eq a b ≡ false → a ≢ b
unequal a b e = not_from_Decides (bytes_eq a b) (bytes_eq-Decides a b) e

other : (wanted : Text) (given : Option Text) → is_at_most wanted given ≡ false → IsOther wanted given
other wanted None e = absurd cc
other wanted (Some x) e = (x, refl, unequal x wanted e)

given : (o : Option Text) → is_some o ≡ true → o ≢ None
given None e h = absurd cc
given (Some x) e h = absurd cc

standard : (o : Option Text) → is_stream (name_of o) ≡ true → IsStandard o
standard None e = inl refl
standard (Some x) e = inr (ap Some (equal x (codes "-") e))

abbrev IsUnknown : Option Text → Type 0
IsUnknown o = (n : Text) × (o ≡ Some n) × (n ≢ codes "1.3") × (n ≢ codes "1.4")

abbrev IsKnown : Option Text → Type 0
IsKnown o = (x : Version) × (version_of o ≡ Some x)

abbrev chosen : (a b : Bool) → Option Version
chosen a b = if a then Some V13 else (if b then Some V14 else None)

known : (o : Option Text) → IsKnown o ⊎ IsUnknown o
known None = inl (V13, refl)
known (Some n) = at (bytes_eq n (codes "1.3")) (bytes_eq n (codes "1.4")) refl refl
  where
    at : (a b : Bool) → bytes_eq n (codes "1.3") ≡ a → bytes_eq n (codes "1.4") ≡ b
        → IsKnown (Some n) ⊎ IsUnknown (Some n)
    at true b ea eb = inl (V13, ap (λ x. chosen x (bytes_eq n (codes "1.4"))) ea)
    at false true ea eb =
        inl (V14, ap (λ x. chosen x (bytes_eq n (codes "1.4"))) ea ∙ ap (chosen false) eb)
    at false false ea eb = inr (n, refl, unequal n (codes "1.3") ea, unequal n (codes "1.4") eb)

both_streams : (b c : Bool) (j : Job) → (if b && c then None else Some j) ≡ None → (b ≡ true) × (c ≡ true)
both_streams true true j h = (refl, refl)
both_streams true false j h = absurd cc
both_streams false c j h = absurd cc

-- the bindings come from the stream
abbrev IsStreamed : Values → Type 0
IsStreamed v = (v.bindings ≡ Some (codes "-")) ⊎ (v.root_signature ≡ Some (codes "-"))

by_stream : (v : Values) (x : Version) (choice : Choice) → (is_from_stream choice ≡ true → IsStreamed v)
    → job_with (name_of v.input) (name_of v.output) choice x ≡ None → IsEmpty v
by_stream v x choice f h =
    let b : (is_stream (name_of v.input) ≡ true) × (is_from_stream choice ≡ true) =
    both_streams (is_stream (name_of v.input)) (is_from_stream choice) _ h in
    OneStreamTwice (standard v.input b.0) (f b.1)

abbrev with_version : Values → Choice → Option Version → Option Job
with_version v choice = option_and_then (λ x. job_with (name_of v.input) (name_of v.output) choice x)

by_version : (v : Values) (choice : Choice) → (is_from_stream choice ≡ true → IsStreamed v)
    → with_version v choice (version_of v.spirv_version) ≡ None → IsEmpty v
by_version v choice f h = at (known v.spirv_version)
  where
    at : IsKnown v.spirv_version ⊎ IsUnknown v.spirv_version → IsEmpty v
    at (inl k) = by_stream v k.0 choice f (sym (ap (with_version v choice) k.1) ∙ h)
    at (inr u) = OtherVersion u.0 u.1 u.2 u.3

is_given : (o : Option Text) (x : Text) → o ≡ Some x → o ≢ None
is_given o x e n = absurd cc

by_choice : (v : Values) (b s : Option Text) → v.bindings ≡ b → v.root_signature ≡ s
    → option_and_then (λ choice. with_version v choice (version_of v.spirv_version)) (choice_of b s) ≡ None → IsEmpty v
by_choice v None None eb es h = by_version v DefaultMap (λ e. absurd cc) h
by_choice v (Some t) None eb es h = by_version v (TextOf t) (λ e. inl (eb ∙ ap Some (equal t (codes "-") e))) h
by_choice v None (Some t) eb es h = by_version v (SignatureOf t) (λ e. inr (es ∙ ap Some (equal t (codes "-") e))) h
by_choice v (Some t) (Some u) eb es h = BothBindings (is_given v.bindings t eb) (is_given v.root_signature u es)

cause : (v : Values) → job_in v ≡ None → IsEmpty v
cause v h = at (is_at_most (codes "dxbc-tpf") v.source) (is_at_most (codes "spirv-binary") v.target)
    (is_some v.simulate) (is_some v.sample) refl refl refl refl h
  where
    at : (a b c d : Bool) → is_at_most (codes "dxbc-tpf") v.source ≡ a → is_at_most (codes "spirv-binary") v.target ≡ b
        → is_some v.simulate ≡ c → is_some v.sample ≡ d
        → (if a && (b && (not c && not d)) then translation_of v else None) ≡ None → IsEmpty v
    at false b c d ea eb ec ed h = OtherSource (other (codes "dxbc-tpf") v.source ea)
    at true false c d ea eb ec ed h = OtherTarget (other (codes "spirv-binary") v.target eb)
    at true true true d ea eb ec ed h = Simulation (given v.simulate ec)
    at true true false true ea eb ec ed h = Sample (given v.sample ed)
    at true true false false ea eb ec ed h = by_choice v v.bindings v.root_signature refl refl h

-- ---- from a cause to no job

differ : (a b : Text) → a ≢ b → bytes_eq a b ≡ false
differ a b n = at (bytes_eq a b) refl
  where
    at : (t : Bool) → bytes_eq a b ≡ t → bytes_eq a b ≡ false
    at false e = e
    at true e = absurd (n (equal a b e))

not_at_most : (wanted : Text) (o : Option Text) → IsOther wanted o → is_at_most wanted o ≡ false
not_at_most wanted o h = ap (is_at_most wanted) h.1 ∙ differ h.0 wanted h.2

is_there : (o : Option Text) → o ≢ None → is_some o ≡ true
is_there None n = absurd (n refl)
is_there (Some x) n = refl

abbrev first_test : Bool → Bool → Bool → Bool → Option Job → Option Job
first_test a b c d j = if a && (b && (not c && not d)) then j else None

no_source : (a b c d : Bool) (j : Option Job) → a ≡ false → first_test a b c d j ≡ None
no_source false b c d j e = refl
no_source true b c d j e = absurd cc

no_target : (a b c d : Bool) (j : Option Job) → b ≡ false → first_test a b c d j ≡ None
no_target false b c d j e = refl
no_target true false c d j e = refl
no_target true true c d j e = absurd cc

no_simulation : (a b c d : Bool) (j : Option Job) → c ≡ true → first_test a b c d j ≡ None
no_simulation false b c d j e = refl
no_simulation true false c d j e = refl
no_simulation true true true d j e = refl
no_simulation true true false d j e = absurd cc

no_sample : (a b c d : Bool) (j : Option Job) → d ≡ true → first_test a b c d j ≡ None
no_sample false b c d j e = refl
no_sample true false c d j e = refl
no_sample true true true d j e = refl
no_sample true true false true j e = refl
no_sample true true false false j e = absurd cc

no_translation : (a b c d : Bool) (j : Option Job) → j ≡ None → first_test a b c d j ≡ None
no_translation false b c d j e = refl
no_translation true false c d j e = refl
no_translation true true true d j e = refl
no_translation true true false true j e = refl
no_translation true true false false j e = e

no_version : (v : Values) (c : Option Choice) (o : Option Version) → o ≡ None
    → option_and_then (λ choice. with_version v choice o) c ≡ None
no_version v None o e = refl
no_version v (Some choice) o e = ap (with_version v choice) e

unknown : (n : Text) → n ≢ codes "1.3" → n ≢ codes "1.4" → version_of (Some n) ≡ None
unknown n p q = ap (λ x. chosen x (bytes_eq n (codes "1.4"))) (differ n (codes "1.3") p)
    ∙ ap (chosen false) (differ n (codes "1.4") q)

too_many : (b s : Option Text) → b ≢ None → s ≢ None → choice_of b s ≡ None
too_many None s p q = absurd (p refl)
too_many (Some t) None p q = absurd (q refl)
too_many (Some t) (Some u) p q = refl

is_standard : (o : Option Text) → IsStandard o → is_stream (name_of o) ≡ true
is_standard o (inl e) = ap (λ x. is_stream (name_of x)) e
is_standard o (inr e) = ap (λ x. is_stream (name_of x)) e

some_same : (a b : Text) → Some a ≡ Some b → a ≡ b
some_same a b e = cc

choice_same : (a b : Choice) → Some a ≡ Some b → a ≡ b
choice_same a b e = cc

is_streamed : (b s : Option Text) → (b ≡ Some (codes "-")) ⊎ (s ≡ Some (codes "-")) → (c : Choice)
    → choice_of b s ≡ Some c → is_from_stream c ≡ true
is_streamed None None (inl e) c h = absurd cc
is_streamed None None (inr e) c h = absurd cc
is_streamed (Some t) None (inl e) c h =
    sym (ap is_from_stream (choice_same (TextOf t) c h)) ∙ ap is_stream (some_same t (codes "-") e)
is_streamed (Some t) None (inr e) c h = absurd cc
is_streamed None (Some t) (inl e) c h = absurd cc
is_streamed None (Some t) (inr e) c h =
    sym (ap is_from_stream (choice_same (SignatureOf t) c h)) ∙ ap is_stream (some_same t (codes "-") e)
is_streamed (Some t) (Some u) e c h = absurd cc

twice : (b c : Bool) (j : Job) → b ≡ true → c ≡ true → (if b && c then None else Some j) ≡ None
twice true true j p q = refl
twice true false j p q = absurd cc
twice false c j p q = absurd cc

no_streams : (v : Values) (c : Option Choice) (o : Option Version) → is_stream (name_of v.input) ≡ true
    → ((x : Choice) → c ≡ Some x → is_from_stream x ≡ true)
    → option_and_then (λ choice. with_version v choice o) c ≡ None
no_streams v None o i f = refl
no_streams v (Some x) None i f = refl
no_streams v (Some x) (Some y) i f = twice (is_stream (name_of v.input)) (is_from_stream x) _ i (f x refl)

empty : (v : Values) → IsEmpty v → job_in v ≡ None
empty v e = at (is_at_most (codes "dxbc-tpf") v.source) (is_at_most (codes "spirv-binary") v.target)
    (is_some v.simulate) (is_some v.sample) refl refl refl refl e
  where
    at : (a b c d : Bool) → is_at_most (codes "dxbc-tpf") v.source ≡ a → is_at_most (codes "spirv-binary") v.target ≡ b
        → is_some v.simulate ≡ c → is_some v.sample ≡ d → IsEmpty v → first_test a b c d (translation_of v) ≡ None
    at a b c d ea eb ec ed (OtherSource o) =
        no_source a b c d (translation_of v) (sym ea ∙ not_at_most (codes "dxbc-tpf") v.source o)
    at a b c d ea eb ec ed (OtherTarget o) =
        no_target a b c d (translation_of v) (sym eb ∙ not_at_most (codes "spirv-binary") v.target o)
    at a b c d ea eb ec ed (OtherVersion n h p q) = no_translation a b c d (translation_of v)
        (no_version v (choice_of v.bindings v.root_signature) (version_of v.spirv_version)
        (ap version_of h ∙ unknown n p q))
    at a b c d ea eb ec ed (BothBindings p q) = no_translation a b c d (translation_of v)
        (ap (option_and_then (λ choice. with_version v choice (version_of v.spirv_version)))
        (too_many v.bindings v.root_signature p q))
    at a b c d ea eb ec ed (OneStreamTwice i s) = no_translation a b c d (translation_of v)
        (no_streams v (choice_of v.bindings v.root_signature) (version_of v.spirv_version) (is_standard v.input i)
        (is_streamed v.bindings v.root_signature s))
    at a b c d ea eb ec ed (Simulation n) = no_simulation a b c d (translation_of v) (sym ec ∙ is_there v.simulate n)
    at a b c d ea eb ec ed (Sample n) = no_sample a b c d (translation_of v) (sym ed ∙ is_there v.sample n)

-- ---- words

by_cause : (kinds : Kinds) (v : Values) → kinds ≡ [] → (kinds ≢ []) ⊎ IsEmpty v → job_in v ≡ None
by_cause kinds v e (inl n) = absurd (n e)
by_cause kinds v e (inr h) = empty v h

by_fault : (kinds : Kinds) (v : Values)
    → (option_and_then job_in (if has_none kinds then Some v else None) ≡ None) ↔ ((kinds ≢ []) ⊎ IsEmpty v)
by_fault [] v = (λ h. inr (cause v h), by_cause [] v refl)
by_fault (k ∷ ks) v = (λ h. inl (λ e. absurd cc), λ x. refl)

pub usage : (words : List Text) → (job_of words ≡ None) ↔ AsksNothing words
unfolding values_of
usage words = by_fault (fault_of command words) (values_in (matches_of command words))
