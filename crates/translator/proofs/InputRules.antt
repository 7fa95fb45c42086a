-- The rules of an input that no binding map is needed for: the first of them, and that there is none where a program is
-- read that breaks none.
use Rattle.std.proofs.Common.{◌≡◌, ℕ, ◌<◌, ◌≤◌, inl, inr, List, [], ◌∷◌, ◌++◌, length, refl, ap, subst, arith}
use Rattle.std.specs.Prelude.{Contains, slice_index}
use Rattle.word_base.specs.Words.{words_of}
use Rattle.word_base.specs.declared.rule.Refusal.{Refusal}
use Rattle.word_base.specs.Rules.{IsFirst}
use Rattle.dxbc_container.specs.Chunks.{IsShex}
use Rattle.dxbc_container.specs.Refusals.{shex_refusals}
use Rattle.tpf_decode.specs.Profiles.{Base}
use Rattle.tpf_program.specs.Declarations.{declaration_refusals}
use Rattle.tpf_program.specs.Faults.{program_faults}
use Rattle.tpf_program.specs.Nesting.{nesting_refusals}
use Rattle.tpf_program.specs.Program.{Shader}
use Rattle.tpf_program.specs.Spelling.{Spells}
use Rattle.tpf_program.specs.Uses.{use_refusals}
use Rattle.shader_check.specs.Checked.{checked_refusals}
use Rattle.binding_map.specs.Completeness.{binding_refusals}
use Rattle.binding_map.specs.Defaults.{default_map}
use Rattle.translator.specs.Input.{BreaksInput, BreaksBindings, BreaksRoom}
use Rattle.translator.specs.Input.{HasContent, HasProgram, IsBroken, NamesWords}

nothing_joined : (a b : List Refusal) → a ++ b ≡ [] → a ≡ []
nothing_joined [] b e = refl
nothing_joined (x ∷ a) b e = cc

not_in_none : (qs : List Refusal) (r : Refusal) → qs ≡ [] → Contains qs r → ⊥
not_in_none qs r e c = let n : c.0 < length qs = c.1 in let l : length qs ≡ 0 = ap length e in omega (arith, n, l)

-- where a chunk has one list of data, and words spell one program
module _ (one_content : (bytes a b : List ℕ) → IsShex bytes a → IsShex bytes b → a ≡ b)
    (told : (p q : Shader) (tokens : List ℕ) → Spells Base p tokens → Spells Base q tokens → p ≡ q)
    (bytes : List ℕ) where
  same_content : (a b : List ℕ) → HasContent bytes a → HasContent bytes b → a ≡ b
  same_content a b h k = one_content bytes a b h.chunk k.chunk

  pub one_program : (p q : Shader) → HasProgram bytes p → HasProgram bytes q → p ≡ q
  one_program p q h k =
      told p q (words_of k.content) (subst (λ c. Spells Base p (words_of c))
      (same_content h.content k.content h.container k.container) h.spelled) k.spelled

  -- a program that is read and breaks no rule
  pub none_broken : (p : Shader) → HasProgram bytes p → checked_refusals p ≡ [] → (r : Refusal) → BreaksInput bytes r → ⊥
  none_broken p h checked r (inl c) = not_in_none (shex_refusals bytes) r h.container.sound c
  none_broken p h checked r (inr (inl t)) =
      not_in_none (program_faults Base (words_of t.content)) r (subst (λ c. program_faults Base (words_of c) ≡ [])
      (same_content h.content t.content h.container t.container) h.sound) t.broken
  none_broken p h checked r (inr (inr b)) =
      not_in_none (checked_refusals b.program) r (subst (λ x. checked_refusals x ≡ [])
      (one_program p b.program h b.read) checked) b.broken

-- where there is room, and default maps owe no binding
module _ (bytes : List ℕ) (room : ℕ)
    (fits : (n : ℕ) → NamesWords bytes n → n ≤ room)
    (bound : (p : Shader) → declaration_refusals 0 p ≡ [] → binding_refusals p (default_map p) ≡ []) where
  has_room : (r : Refusal) → BreaksRoom room bytes r → ⊥
  has_room r b =
      let n = slice_index (words_of b.content) 1 in
      let h : NamesWords bytes n =
      record { content = b.content; container = b.container; sound = b.sound; words = refl } in
      let le = fits n h in
      let lt = b.long in
      omega (arith, le, lt)

  none_unbound : (r : Refusal) → BreaksBindings bytes default_map r → ⊥
  none_unbound r b =
      let declared : declaration_refusals 0 b.program ≡ [] =
      nothing_joined (declaration_refusals 0 b.program)
      (use_refusals Base b.program ++ nesting_refusals Base b.program) b.sound in
      not_in_none (binding_refusals b.program (default_map b.program)) r (bound b.program declared) b.broken

  to_input : (r : Refusal) → IsBroken room bytes default_map r → BreaksInput bytes r
  to_input r (inl c) = inl c
  to_input r (inr (inl b)) = absurd (has_room r b)
  to_input r (inr (inr (inl t))) = inr (inl t)
  to_input r (inr (inr (inr (inl p)))) = inr (inr p)
  to_input r (inr (inr (inr (inr m)))) = absurd (none_unbound r m)

  of_input : (r : Refusal) → BreaksInput bytes r → IsBroken room bytes default_map r
  of_input r (inl c) = inl c
  of_input r (inr (inl t)) = inr (inr (inl t))
  of_input r (inr (inr p)) = inr (inr (inr (inl p)))

  pub first_of_input : (r : Refusal) → IsFirst (IsBroken room bytes default_map) r → IsFirst (BreaksInput bytes) r
  first_of_input r f = record { is_broken = to_input r f.is_broken; is_least = λ q b. f.is_least q (of_input q b) }
