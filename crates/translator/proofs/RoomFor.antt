-- The room for the program of a container.
use Rattle.std.proofs.Common.{◌≡◌, ℕ, ◌≤◌, List, [], Some, None, refl, ap, ◌∙◌, subst, arith}
use Rattle.std.specs.Prelude.{slice_index}
use Rattle.word_base.specs.Words.{words_of}
use Rattle.word_base.specs.declared.rule.Refusal.{Refusal}
use Rattle.word_base.specs.Rules.{first}
use Rattle.dxbc_container.specs.Chunks.{IsShex}
use Rattle.dxbc_container.specs.Refusals.{shex_refusals}
use Rattle.tpf_decode.specs.Refusals.{header_faults}
use Rattle.translator.specs.Input.{HasContent, NamesWords}

-- a head that breaks no rule names few words
pub head_is_short : (words : List ℕ) → header_faults words ≡ [] → slice_index words 1 ≤ 65536
head_is_short words e = grind arith

-- where the container breaks a rule
pub no_content : (bytes : List ℕ) (r : Refusal) → Some r ≡ first (shex_refusals bytes) → (n : ℕ) → NamesWords bytes n → ⊥
no_content bytes r e n h =
    let f : first (shex_refusals bytes) ≡ None = ap first h.container.sound in let b : Some r ≡ None = e ∙ f in cc

-- the data of the chunk
module _ (bytes content : List ℕ) (single : (bytes a b : List ℕ) → IsShex bytes a → IsShex bytes b → a ≡ b)
    (chunk : IsShex bytes content) where
  same_content : (other : List ℕ) → HasContent bytes other → other ≡ content
  same_content other h = single bytes other content h.chunk chunk

  -- where their head breaks a rule
  pub no_head : (r : Refusal) → Some r ≡ first (header_faults (words_of content)) → (n : ℕ) → NamesWords bytes n → ⊥
  no_head r e n h =
      let s : header_faults (words_of content) ≡ [] = subst (λ c. header_faults (words_of c) ≡ [])
      (same_content h.content h.container) h.sound in
      let f : first (header_faults (words_of content)) ≡ None = ap first s in
      let b : Some r ≡ None = e ∙ f in cc

  -- where it names so many words
  pub named : (m : ℕ) → m ≡ slice_index (words_of content) 1 → (n : ℕ) → NamesWords bytes n → m ≡ n
  named m e n h =
      let s : slice_index (words_of h.content) 1 ≡ slice_index (words_of content) 1 =
      ap (λ c. slice_index (words_of c) 1) (same_content h.content h.container) in
      let w = h.words in omega (arith, e, s, w)

-- where neither breaks one, the words are named
pub is_named : (bytes content : List ℕ) → shex_refusals bytes ≡ [] → IsShex bytes content
    → header_faults (words_of content) ≡ [] → ((n : ℕ) → NamesWords bytes n → ⊥) → ⊥
is_named bytes content container chunk sound unnamed =
    unnamed (slice_index (words_of content) 1) (record {
      content = content;
      container = record { sound = container; chunk = chunk };
      sound = sound;
      words = refl;
    })
