-- The first broken rule of the files of a job, by those of its input, of its binding file and of its map.
use Rattle.std.proofs.Common.{◌≡◌, ℕ, ◌<◌, ⊎_elim, List, [], length, false, refl, sym, ap, ◌∙◌, subst, arith}
use Rattle.std.specs.Prelude.{Contains, Err}
use Rattle.word_base.specs.Rules.{comes_before, IsFirst, IsSound}
use Rattle.word_base.specs.Words.{bytes_of}
use Rattle.word_base.specs.declared.rule.Refusal.{Refusal}
use Rattle.tpf_program.specs.Program.{Shader}
use Rattle.shader_check.specs.Checked.{checked_refusals}
use Rattle.spirv_words.specs.declared.version.Version.{Version}
use Rattle.spirv_words.specs.Versions.{number_of_version}
use Rattle.root_signature.specs.declared.covers.Covers.{Covers}
use Rattle.root_signature.specs.Signatures.{Reads}
use Rattle.binding_map.specs.Bindings.{Binding}
use Rattle.binding_map.specs.Completeness.{binding_refusals}
use Rattle.binding_map.specs.Defaults.{default_map}
use Rattle.binding_map.specs.Roots.{root_map}
use Rattle.command_line.specs.Job.{Choice, DefaultMap, TextOf, SignatureOf, Job}
use Rattle.translator.specs.Input.{BreaksInput}
use Rattle.translator.specs.Input.{HasProgram}
use Rattle.translator.specs.Means.{Means}
use Rattle.compiler_cli.specs.declared.failure.Failure.{Failure}
use Rattle.compiler_cli.specs.declared.failure.Failure.TheVariants as failure
use Rattle.compiler_cli.specs.Parts.{IsHindered, Translates}
use Rattle.compiler_cli.specs.Run.{Outside}
use Rattle.compiler_cli.specs.Output.{AreTaken, Breaks, BreaksFile, BreaksMap, IsMapOf, IsModuleOf, IsTooLarge}
use Rattle.compiler_cli.specs.Output.{TooLarge, OfInput, OfFile, OfMap}

not_in_none : (qs : List Refusal) (r : Refusal) → qs ≡ [] → Contains qs r → ⊥
not_in_none qs r e c = let n : c.0 < length qs = c.1 in let l : length qs ≡ 0 = ap length e in omega (arith, n, l)

-- a program has one map, where a file has one list of entries
one_map : (choice : Choice) (file : List ℕ) (p q : Shader) (a b : List Binding)
    → ((s t : List Covers) → Reads file s → Reads file t → s ≡ t) → p ≡ q
    → IsMapOf choice file p a → IsMapOf choice file q b → a ≡ b
one_map DefaultMap file p q a b single e g h = g ∙ ap default_map e ∙ sym h
one_map (TextOf name) file p q a b single e g h = g ∙ sym h
one_map (SignatureOf name) file p q a b single e g h =
    let s : g.0 ≡ h.0 = single g.0 h.0 g.1 h.1 in
    g.2 ∙ (ap (λ x. root_map x p) s ∙ (ap (root_map h.0) e ∙ sym h.2))

-- of files that are not too large
module _ (choice : Choice) (input file : List ℕ) (taken : AreTaken input file) where
  not_large : (r : Refusal) → IsTooLarge input file r → ⊥
  not_large r t =
      let a = taken.input_size in let b = taken.file_size in
      ⊎_elim (λ (l : 16777216 < length input). omega (arith, l, a))
      (λ (l : 16777216 < length file). omega (arith, l, b)) t.size

  -- where the input breaks a rule
  least_of_input : ((p : Shader) → HasProgram input p → checked_refusals p ≡ [] → IsSound (BreaksInput input))
      → (r : Refusal) → IsFirst (BreaksInput input) r → (q : Refusal) → Breaks choice input file q
      → comes_before q r ≡ false
  least_of_input sound r f q (TooLarge t) = absurd (not_large q t)
  least_of_input sound r f q (OfInput t b) = f.is_least q b
  least_of_input sound r f q (OfFile t s b) = absurd (s r f.is_broken)
  least_of_input sound r f q (OfMap t s m) = absurd (sound m.program m.read m.sound r f.is_broken)

  pub first_of_input : ((p : Shader) → HasProgram input p → checked_refusals p ≡ [] → IsSound (BreaksInput input))
      → (r : Refusal) → IsFirst (BreaksInput input) r → IsFirst (Breaks choice input file) r
  first_of_input sound r f = record { is_broken = OfInput taken f.is_broken; is_least = least_of_input sound r f }

  -- where it breaks none, and the binding file breaks one
  least_of_file : IsSound (BreaksInput input) → (r : Refusal) → IsFirst (BreaksFile choice file) r
      → (q : Refusal) → Breaks choice input file q → comes_before q r ≡ false
  least_of_file sound r f q (TooLarge t) = absurd (not_large q t)
  least_of_file sound r f q (OfInput t b) = absurd (sound q b)
  least_of_file sound r f q (OfFile t s b) = f.is_least q b
  least_of_file sound r f q (OfMap t s m) = absurd (s r f.is_broken)

  pub first_of_file : IsSound (BreaksInput input) → (r : Refusal) → IsFirst (BreaksFile choice file) r
      → IsFirst (Breaks choice input file) r
  first_of_file sound r f = record { is_broken = OfFile taken sound f.is_broken; is_least = least_of_file sound r f }

  -- where neither breaks one, and the program has this map
  module _ (single : (p q : Shader) → HasProgram input p → HasProgram input q → p ≡ q)
      (listed : (s t : List Covers) → Reads file s → Reads file t → s ≡ t)
      (sound : IsSound (BreaksInput input)) (sound_file : IsSound (BreaksFile choice file))
      (p : Shader) (read : HasProgram input p) (checked : checked_refusals p ≡ [])
      (bindings : List Binding) (gives : IsMapOf choice file p bindings) where
    of_this_map : (r : Refusal) → BreaksMap choice input file r → Contains (binding_refusals p bindings) r
    of_this_map r m =
        let e : m.program ≡ p = single m.program p m.read read in
        let f : m.bindings ≡ bindings = one_map choice file m.program p m.bindings bindings listed e m.gives gives in
        subst (λ x. Contains (binding_refusals p x) r) f
        (subst (λ x. Contains (binding_refusals x m.bindings) r) e m.broken)

    this_map : (r : Refusal) → Contains (binding_refusals p bindings) r → BreaksMap choice input file r
    this_map r b = record { program = p; read = read; sound = checked; bindings = bindings; gives = gives; broken = b }

    least_of_map : (r : Refusal) → IsFirst (Contains (binding_refusals p bindings)) r
        → (q : Refusal) → Breaks choice input file q → comes_before q r ≡ false
    least_of_map r f q (TooLarge t) = absurd (not_large q t)
    least_of_map r f q (OfInput t b) = absurd (sound q b)
    least_of_map r f q (OfFile t s b) = absurd (sound_file q b)
    least_of_map r f q (OfMap t s m) = f.is_least q (of_this_map q m)

    pub first_of_map : (r : Refusal) → IsFirst (Contains (binding_refusals p bindings)) r
        → IsFirst (Breaks choice input file) r
    first_of_map r f = record {
      is_broken = OfMap taken sound_file (this_map r f.is_broken);
      is_least = least_of_map r f;
    }

    -- and the map breaks none
    pub none_of_all : binding_refusals p bindings ≡ [] → (q : Refusal) → Breaks choice input file q → ⊥
    none_of_all e q (TooLarge t) = not_large q t
    none_of_all e q (OfInput t b) = sound q b
    none_of_all e q (OfFile t s b) = sound_file q b
    none_of_all e q (OfMap t s m) = not_in_none (binding_refusals p bindings) q e (of_this_map q m)

-- the module of a program that was read
pub module_of : (choice : Choice) (version : Version) (input file : List ℕ) (p : Shader) (bindings : List Binding)
    (target : List ℕ) → HasProgram input p → IsMapOf choice file p bindings
    → Means input bindings (number_of_version version) target
    → IsModuleOf choice version input file (bytes_of target)
module_of choice version input file p bindings target read gives means = record {
  program = p;
  read = read;
  bindings = bindings;
  gives = gives;
  target = target;
  means = means;
  whole = refl;
}

-- what is left where a rule is broken
pub refused : (job : Job) (input file : List ℕ) (seen : Outside) (r : Refusal)
    → IsFirst (Breaks job.choice input file) r
    → Translates job seen seen input file (Err (failure.Refused r))
refused job input file seen r f = (f, refl)

-- what is left where the binding file gives no map
pub not_mapped : (job : Job) (input file : List ℕ) (seen : Outside) (why : Failure) → AreTaken input file
    → IsSound (BreaksInput input) → IsHindered job.choice file why → Translates job seen seen input file (Err why)
not_mapped job input file seen (failure.Refused r) taken sound h =
    (first_of_file job.choice input file taken sound r h, refl)
not_mapped job input file seen failure.Fault taken sound h = absurd h
not_mapped job input file seen failure.NoMemory taken sound h = refl
