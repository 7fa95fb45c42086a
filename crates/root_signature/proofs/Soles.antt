-- The data of the one chunk of a container are determined, and its rules are those of the file.
use Rattle.std.proofs.Common.{◌≡◌, ◌≢◌, ℕ, ◌+◌, inl, inr, ⊎_elim, false, List, [], length, refl, sym, ap, ◌∙◌, subst}
use Rattle.std.specs.Prelude.{slice_range}
use Rattle.word_base.specs.declared.rule.Rule.TheVariants.{G6}
use Rattle.word_base.specs.declared.rule.Refusal.{Refusal}
use Rattle.word_base.specs.Rules.{refusal, comes_before, IsFirst, IsSound}
use Rattle.dxbc_container.specs.Layout.{offset_of, size_of}
use Rattle.dxbc_container.specs.Refusals.{sole_refusals}
use Rattle.dxbc_container.specs.Chunks.{IsChunk, IsSole}
use Rattle.root_signature.specs.declared.covers.Covers.{Covers}
use Rattle.root_signature.specs.Layout.{rts0_tag}
use Rattle.root_signature.specs.Covering.{covers_of}
use Rattle.root_signature.specs.Signatures.{Reads}
use Rattle.root_signature.specs.Refusals.{IsBrokenIn, IsBrokenSignature, IsMissing, IsBroken}
use Rattle.root_signature.proofs.Bests.{itself}

pub same_data : (bytes : List ℕ) (tag s t : ℕ) (a b : List ℕ) → IsSole bytes tag s a → IsSole bytes tag t b → b ≡ a
same_data bytes tag s t a b h k = of_parts k.offset h.offset k.chunk h.chunk offset size where
  number : k.number ≡ h.number
  number = h.only k.number k.offset b k.chunk

  offset : k.offset ≡ h.offset
  offset = k.chunk.begins ∙ (ap (offset_of bytes) number ∙ sym h.chunk.begins)

  size : length b ≡ length a
  size = k.chunk.sized ∙ (ap (size_of bytes) number ∙ sym h.chunk.sized)

  of_parts : (m n : ℕ) → IsChunk bytes k.number m tag b → IsChunk bytes h.number n tag a → m ≡ n → length b ≡ length a → b ≡ a
  of_parts m n x y e f =
      x.holds ∙ (ap (λ o. slice_range bytes (o + 8) (o + 8 + length b)) e ∙ (ap (λ l. slice_range bytes (n + 8) (n + 8 + l)) f ∙ sym y.holds))

module _ (bytes : List ℕ) (holds : (bytes : List ℕ) (tag start : ℕ) (held : List ℕ) → IsSole bytes tag start held → sole_refusals bytes tag ≡ []) where
  pub missing_first : sole_refusals bytes rts0_tag ≢ [] → IsFirst (IsBroken bytes) (refusal G6 0)
  missing_first n = record {
    is_broken = inl (record { missing = n; refused = refl });
    is_least = λ q m. ⊎_elim
        (λ (w : IsMissing bytes q). subst (λ x. comes_before x (refusal G6 0) ≡ false) (sym w.refused) (itself (refusal G6 0)))
        (λ (w : IsBrokenSignature bytes q). absurd (n (holds bytes rts0_tag w.start w.content w.sole))) m;
  }

  module _ (start : ℕ) (content : List ℕ) (sole : IsSole bytes rts0_tag start content) where
    pub in_data : (q : Refusal) → IsBroken bytes q → IsBrokenIn content q
    in_data q (inl w) = absurd (w.missing (holds bytes rts0_tag start content sole))
    in_data q (inr w) = subst (λ d. IsBrokenIn d q) (same_data bytes rts0_tag start w.start content w.content sole w.sole) w.is_broken

    pub sound_file : IsSound (IsBrokenIn content) → IsSound (IsBroken bytes)
    sound_file h = λ q m. h q (in_data q m)

    pub first_of_file : (r : Refusal) → IsFirst (IsBrokenIn content) r → IsFirst (IsBroken bytes) r
    first_of_file r h = record {
      is_broken = inr (record { start = start; content = content; sole = sole; is_broken = h.is_broken });
      is_least = λ q m. h.is_least q (in_data q m);
    }

pub one_list : (bytes : List ℕ) (a b : List Covers) → Reads bytes a → Reads bytes b → a ≡ b
one_list bytes a b h k = h.covers ∙ (ap covers_of (same_data bytes rts0_tag k.start h.start k.content h.content k.sole h.sole) ∙ sym k.covers)
