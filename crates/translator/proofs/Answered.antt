-- The first broken rule of a translation, and a program that was read.
use Rattle.std.proofs.Common.{◌≡◌, ℕ, ◌<◌, ◌≤◌, false, inl, inr, List, [], ◌∷◌, ◌++◌, length, Some, refl, sym, ◌∙◌, ap, subst, arith, append-nil}
use Rattle.std.specs.Prelude.{Contains, is_some, if◌then◌else◌, slice_index, slice_range}
use Rattle.word_base.specs.Words.{AreWords, words_of}
use Rattle.word_base.specs.declared.rule.Refusal.{Refusal}
use Rattle.word_base.specs.declared.rule.Rule.TheVariants.{M4}
use Rattle.word_base.specs.Rules.{comes_before, first, refusal, IsFirst, IsSound}
use Rattle.dxbc_container.specs.Chunks.{IsShex}
use Rattle.dxbc_container.specs.Refusals.{shex_refusals}
use Rattle.tpf_decode.specs.Profiles.{Base}
use Rattle.tpf_decode.specs.Refusals.{header_faults}
use Rattle.tpf_program.specs.Declarations.{declaration_refusals}
use Rattle.tpf_program.specs.Faults.{body_faults, program_faults}
use Rattle.tpf_program.specs.Nesting.{nesting_refusals}
use Rattle.tpf_program.specs.Program.{Shader}
use Rattle.tpf_program.specs.Spelling.{Spells}
use Rattle.tpf_program.specs.Uses.{use_refusals}
use Rattle.tpf_program.proofs.Reach.{body_orderly}
use Rattle.shader_check.specs.Checked.{checked_refusals, IsChecked}
use Rattle.shader_check.specs.Statements.{IsNested}
use Rattle.binding_map.specs.Bindings.{Binding}
use Rattle.binding_map.specs.Completeness.{binding_refusals}
use Rattle.translator.specs.Accepted.{IsRead}
use Rattle.translator.specs.Input.{IsBroken, HasContent, HasProgram, BreaksRoom, BreaksTokens, BreaksProgram, BreaksBindings}
use Rattle.translator.specs.Lowered.{CanBeLowered}
use Rattle.translator.proofs.AccPhases.{AreLate, behind_room, late_bindings, late_checked, late_in, late_tokens}

not_in_none : (qs : List Refusal) (r : Refusal) → qs ≡ [] → Contains qs r → ⊥
not_in_none qs r e c = let n : c.0 < length qs = c.1 in let l : length qs ≡ 0 = ap length e in omega arith

-- the faults of words whose head breaks a rule, and of others
head_only : (words : List ℕ) (r : Refusal) → first (header_faults words) ≡ Some r → program_faults Base words ≡ header_faults words
unfolding program_faults
head_only words r e =
    ap (λ o. header_faults words ++ (if is_some o then [] else body_faults Base 0 2 (slice_range words 2 (slice_index words 1)))) e
    ∙ append-nil (header_faults words)

behind_head : (words : List ℕ) → header_faults words ≡ []
    → program_faults Base words ≡ body_faults Base 0 2 (slice_range words 2 (slice_index words 1))
unfolding program_faults
behind_head words e =
    ap (λ qs. qs ++ (if is_some (first qs) then [] else body_faults Base 0 2 (slice_range words 2 (slice_index words 1)))) e

pub late_faults : (words : List ℕ) → header_faults words ≡ [] → AreLate (program_faults Base words)
late_faults words e =
    subst AreLate (sym (behind_head words e))
    (late_tokens 2 (body_faults Base 0 2 (slice_range words 2 (slice_index words 1)))
    (body_orderly 0 2 (slice_range words 2 (slice_index words 1))))

nothing_joined : (a b : List Refusal) → a ++ b ≡ [] → (a ≡ []) × (b ≡ [])
nothing_joined [] b e = (refl, e)
nothing_joined (x ∷ a) b e = absurd (cc)

module _ (room : ℕ) (bytes : List ℕ) (map_for : Shader → List Binding) where
  abbrev IsBad : Refusal → Type 0
  IsBad = IsBroken room bytes map_for

  -- THE CONTAINER
  pub refused_container : (r : Refusal) → ((qs : List Refusal) (q : Refusal) → first qs ≡ Some q → IsFirst (Contains qs) q)
      → Some r ≡ first (shex_refusals bytes) → IsFirst IsBad r
  refused_container r some e = record { is_broken = inl f.is_broken; is_least = least }
    where
      f : IsFirst (Contains (shex_refusals bytes)) r
      f = some (shex_refusals bytes) r (sym e)

      gone : (content : List ℕ) → HasContent bytes content → ⊥
      gone content h = not_in_none (shex_refusals bytes) r h.sound f.is_broken

      least : (q : Refusal) → IsBad q → comes_before q r ≡ false
      least q (inl c) = f.is_least q c
      least q (inr (inl t)) = absurd (gone t.content t.container)
      least q (inr (inr (inl t))) = absurd (gone t.content t.container)
      least q (inr (inr (inr (inl t)))) = absurd (gone t.read.content t.read.container)
      least q (inr (inr (inr (inr t)))) = absurd (gone t.read.content t.read.container)

  -- the data of the chunk
  module _ (content : List ℕ) (single : (bytes a b : List ℕ) → IsShex bytes a → IsShex bytes b → a ≡ b)
      (container : shex_refusals bytes ≡ []) (chunk : IsShex bytes content) where
    abbrev words : List ℕ
    words = words_of content

    here : HasContent bytes content
    here = record { sound = container; chunk = chunk }

    same_content : (other : List ℕ) → HasContent bytes other → other ≡ content
    same_content other h = single bytes other content h.chunk chunk

    no_container : (q : Refusal) → Contains (shex_refusals bytes) q → ⊥
    no_container q c = not_in_none (shex_refusals bytes) q container c

    sound_head : (q : Refusal) → BreaksRoom room bytes q → header_faults words ≡ []
    sound_head q t = subst (λ c. header_faults (words_of c) ≡ []) (same_content t.content t.container) t.sound

    is_long : (q : Refusal) → BreaksRoom room bytes q → room < slice_index words 1
    is_long q t = subst (λ c. room < slice_index (words_of c) 1) (same_content t.content t.container) t.long

    token : (q : Refusal) → BreaksTokens bytes q → Contains (program_faults Base words) q
    token q t = subst (λ c. Contains (program_faults Base (words_of c)) q) (same_content t.content t.container) t.broken

    sound_words : (p : Shader) → HasProgram bytes p → program_faults Base words ≡ []
    sound_words p h = subst (λ c. program_faults Base (words_of c) ≡ []) (same_content h.content h.container) h.sound

    -- where a token's rule is broken, and there is room
    by_tokens : (r : Refusal) → ((q : Refusal) → BreaksRoom room bytes q → ⊥)
        → IsFirst (Contains (program_faults Base words)) r → IsFirst IsBad r
    by_tokens r fits f = record {
      is_broken = inr (inr (inl (record { content = content; container = here; broken = f.is_broken })));
      is_least = least;
    } where
      gone : (p : Shader) → HasProgram bytes p → ⊥
      gone p h = not_in_none (program_faults Base words) r (sound_words p h) f.is_broken

      least : (q : Refusal) → IsBad q → comes_before q r ≡ false
      least q (inl c) = absurd (no_container q c)
      least q (inr (inl t)) = absurd (fits q t)
      least q (inr (inr (inl t))) = f.is_least q (token q t)
      least q (inr (inr (inr (inl t)))) = absurd (gone t.program t.read)
      least q (inr (inr (inr (inr t)))) = absurd (gone t.program t.read)

    -- THE HEAD
    pub refused_head : (r : Refusal) → ((qs : List Refusal) (q : Refusal) → first qs ≡ Some q → IsFirst (Contains qs) q)
        → Some r ≡ first (header_faults words) → IsFirst IsBad r
    refused_head r some e = by_tokens r fits (subst (λ qs. IsFirst (Contains qs) r) (sym (head_only words r (sym e))) f)
      where
        f : IsFirst (Contains (header_faults words)) r
        f = some (header_faults words) r (sym e)

        fits : (q : Refusal) → BreaksRoom room bytes q → ⊥
        fits q t = not_in_none (header_faults words) r (sound_head q t) f.is_broken

    -- THE ROOM
    pub refused_room : header_faults words ≡ [] → room < slice_index words 1 → IsFirst IsBad (refusal M4 1)
    refused_room sound long = record {
      is_broken = inr (inl (record { content = content; container = here; sound = sound; long = long; rule = refl }));
      is_least = least;
    } where
      least : (q : Refusal) → IsBad q → comes_before q (refusal M4 1) ≡ false
      least q (inl c) = absurd (no_container q c)
      least q (inr (inl t)) = ap (λ s. comes_before s (refusal M4 1)) t.rule
      least q (inr (inr (inl t))) =
          behind_room q (late_in (program_faults Base words) q (late_faults words sound) (token q t))
      least q (inr (inr (inr (inl t)))) =
          behind_room q (late_in (checked_refusals t.program) q (late_checked t.program) t.broken)
      least q (inr (inr (inr (inr t)))) =
          behind_room q (late_in (binding_refusals t.program (map_for t.program)) q
          (late_bindings t.program (map_for t.program)) t.broken)

    -- there is room
    module _ (short : slice_index words 1 ≤ room) where
      no_room : (q : Refusal) → BreaksRoom room bytes q → ⊥
      no_room q t = let l = is_long q t in omega (arith, l, short)

      -- THE TOKENS
      pub refused_tokens : (r : Refusal) → IsFirst (Contains (program_faults Base words)) r → IsFirst IsBad r
      refused_tokens r f = by_tokens r no_room f

      -- the program that they spell
      module _ (p : Shader)
          (told : (p q : Shader) (tokens : List ℕ) → Spells Base p tokens → Spells Base q tokens → p ≡ q)
          (none : program_faults Base words ≡ []) (spelled : Spells Base p words) where
        read : HasProgram bytes p
        read = record { content = content; container = here; sound = none; spelled = spelled }

        same_program : (q : Shader) → HasProgram bytes q → q ≡ p
        same_program q h =
            told q p words (subst (λ c. Spells Base q (words_of c)) (same_content h.content h.container) h.spelled) spelled

        no_token : (q : Refusal) → BreaksTokens bytes q → ⊥
        no_token q t = not_in_none (program_faults Base words) q none (token q t)

        -- THE PROGRAM
        pub refused_program : (r : Refusal) → IsFirst (Contains (checked_refusals p)) r → IsFirst IsBad r
        refused_program r f = record {
          is_broken = inr (inr (inr (inl (record { program = p; read = read; broken = f.is_broken }))));
          is_least = least;
        } where
          least : (q : Refusal) → IsBad q → comes_before q r ≡ false
          least q (inl c) = absurd (no_container q c)
          least q (inr (inl t)) = absurd (no_room q t)
          least q (inr (inr (inl t))) = absurd (no_token q t)
          least q (inr (inr (inr (inl t)))) =
              f.is_least q (subst (λ s. Contains (checked_refusals s) q) (same_program t.program t.read) t.broken)
          least q (inr (inr (inr (inr t)))) =
              absurd (not_in_none (checked_refusals p) r
              (subst (λ s. checked_refusals s ≡ []) (same_program t.program t.read) t.sound) f.is_broken)

        no_rule : checked_refusals p ≡ [] → (q : Refusal) → BreaksProgram bytes q → ⊥
        no_rule checked q t =
            not_in_none (checked_refusals p) q checked
            (subst (λ s. Contains (checked_refusals s) q) (same_program t.program t.read) t.broken)

        unbound : (q : Refusal) → BreaksBindings bytes map_for q → Contains (binding_refusals p (map_for p)) q
        unbound q t =
            subst (λ s. Contains (binding_refusals s (map_for s)) q) (same_program t.program t.read) t.broken

        -- THE BINDINGS
        pub refused_bindings : (r : Refusal) → checked_refusals p ≡ []
            → IsFirst (Contains (binding_refusals p (map_for p))) r → IsFirst IsBad r
        refused_bindings r checked f = record {
          is_broken = inr (inr (inr (inr (record { program = p; read = read; sound = checked; broken = f.is_broken }))));
          is_least = least;
        } where
          least : (q : Refusal) → IsBad q → comes_before q r ≡ false
          least q (inl c) = absurd (no_container q c)
          least q (inr (inl t)) = absurd (no_room q t)
          least q (inr (inr (inl t))) = absurd (no_token q t)
          least q (inr (inr (inr (inl t)))) = absurd (no_rule checked q t)
          least q (inr (inr (inr (inr t)))) = f.is_least q (unbound q t)

        -- NO RULE IS BROKEN
        pub sound : checked_refusals p ≡ [] → binding_refusals p (map_for p) ≡ [] → IsSound IsBad
        sound checked bound q (inl c) = no_container q c
        sound checked bound q (inr (inl t)) = no_room q t
        sound checked bound q (inr (inr (inl t))) = no_token q t
        sound checked bound q (inr (inr (inr (inl t)))) = no_rule checked q t
        sound checked bound q (inr (inr (inr (inr t)))) =
            not_in_none (binding_refusals p (map_for p)) q bound (unbound q t)

-- its words are the second of those that spell it
pub few : (p : Shader) (tokens : List ℕ) (room : ℕ) → Spells Base p tokens → slice_index tokens 1 ≤ room → p.words ≤ room
few p tokens room s l = subst (λ n. n ≤ room) (ap (λ w. slice_index w 1) s.whole) l

-- A PROGRAM THAT WAS READ.
pub is_read : (room : ℕ) (bytes content : List ℕ) (p : Shader)
    → ((bytes a b : List ℕ) → IsShex bytes a → IsShex bytes b → a ≡ b)
    → ((p q : Shader) (tokens : List ℕ) → Spells Base p tokens → Spells Base q tokens → p ≡ q)
    → shex_refusals bytes ≡ [] → IsShex bytes content → slice_index (words_of content) 1 ≤ room
    → AreWords (words_of content) → program_faults Base (words_of content) ≡ [] → Spells Base p (words_of content)
    → p.words ≤ 65536 → checked_refusals p ≡ [] → IsChecked p → IsNested p → IsRead room bytes p
is_read room bytes content p single told container chunk short words none spelled size checked rules nested =
    let a = nothing_joined (declaration_refusals 0 p) (use_refusals Base p ++ nesting_refusals Base p) checked in
    let b = nothing_joined (use_refusals Base p) (nesting_refusals Base p) a.1 in
    record {
      content = content;
      chunk = chunk;
      spelled = spelled;
      read = record {
        content = content;
        container = record { sound = container; chunk = chunk };
        sound = none;
        spelled = spelled;
      };
      raisable = record {
        tokens = words_of content;
        checked = record { words = words; spelled = spelled; size = size; declared = a.0; used = b.0 };
        nested = nested;
      };
      checked = rules;
      short = few p (words_of content) room spelled short;
      sound = λ map_for bound.
          sound room bytes map_for content single container chunk short p told none spelled checked bound;
      first = λ map_for r f.
          refused_bindings room bytes map_for content single container chunk short p told none spelled r checked f;
    }

-- It can be lowered under a map that binds all.
pub lowerable : (room : ℕ) (bytes : List ℕ) (p : Shader) (bindings : List Binding) → IsRead room bytes p
    → binding_refusals p bindings ≡ [] → CanBeLowered p bindings
lowerable room bytes p bindings r bound = record { raisable = r.raisable; checked = r.checked; bound = bound }
