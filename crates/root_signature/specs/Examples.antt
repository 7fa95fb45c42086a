-- Root signatures as words, with what they cover and what they break.
use Rattle.std.specs.Prelude.{◌≡◌, ℕ, List, [], ◌∷◌, refl}
use Rattle.std.proofs.Common.{arith}
use Rattle.word_base.specs.declared.rule.Rule.TheVariants.{G1, G2, G3, G4, G5}
use Rattle.word_base.specs.Rules.{refusal}
use Rattle.word_base.specs.Words.{bytes_of}
use Rattle.root_signature.specs.declared.covers.Covers.TheVariants.{Constants, Srv, Uav}
use Rattle.root_signature.specs.Layout.{word, words_from}
use Rattle.root_signature.specs.Covering.{covers_of, words_before, spans_of, all_covered}
use Rattle.root_signature.specs.Covers.{span}
use Rattle.root_signature.specs.Refusals.{listed_refusals, IsCoveredTwice}

-- Version 1.1: root constants of two words for c0, a table with t0, and u0, in 29 words.
abbrev pub three_parameters : List ℕ
three_parameters =
    2 ∷ 3 ∷ 24 ∷ 0 ∷ 0 ∷ 0 ∷ 1 ∷ 0 ∷ 60 ∷ 0 ∷ 0 ∷ 72 ∷ 4 ∷ 0 ∷ 104 ∷ 0 ∷ 0 ∷ 2
    ∷ 1 ∷ 80 ∷ 0 ∷ 1 ∷ 0 ∷ 0 ∷ 0 ∷ 0 ∷ 0 ∷ 0 ∷ 0 ∷ []

pub three_covered : covers_of (bytes_of three_parameters) ≡ Constants 0 0 2 ∷ Srv 0 1 ∷ Uav 0 1 ∷ []
unfolding covers_of word words_from words_before
three_covered = refl

pub three_sound : listed_refusals (bytes_of three_parameters) ≡ []
unfolding word words_from words_before
three_sound = refl

-- Version 1.0: a table whose first range reaches from t5 to the end, whose second is a sampler, and whose third has no
-- registers.
pub unbounded_covered : covers_of (bytes_of (1 ∷ 1 ∷ 24 ∷ 0 ∷ 0 ∷ 0 ∷ 0 ∷ 0 ∷ 36 ∷ 3 ∷ 44 ∷ 0 ∷ 0xFFFFFFFF ∷ 5 ∷ 0 ∷ 0
    ∷ 3 ∷ 1 ∷ 0 ∷ 0 ∷ 0 ∷ 2 ∷ 0 ∷ 0 ∷ 0 ∷ 0 ∷ [])) ≡ Srv 5 0xFFFFFFFB ∷ []
unfolding covers_of word words_from words_before
unbounded_covered = refl

-- A header of five words, a parameter of an unknown type, one that is cut behind its first word, and 65 words of root
-- constants.
pub header_cut : listed_refusals (bytes_of (1 ∷ 0 ∷ 24 ∷ 0 ∷ 0 ∷ [])) ≡ refusal G2 20 ∷ []
unfolding word words_from words_before
header_cut = refl

pub type_unknown : listed_refusals (bytes_of (1 ∷ 1 ∷ 24 ∷ 0 ∷ 0 ∷ 0 ∷ 5 ∷ 0 ∷ 0 ∷ [])) ≡ refusal G3 24 ∷ []
unfolding word words_from words_before
type_unknown = refl

pub cut_and_unknown : listed_refusals (bytes_of (1 ∷ 1 ∷ 24 ∷ 0 ∷ 0 ∷ 0 ∷ 5 ∷ [])) ≡ refusal G2 28 ∷ refusal G3 24 ∷ []
unfolding word words_from words_before
cut_and_unknown = refl

pub constants_passed : listed_refusals (bytes_of (1 ∷ 1 ∷ 24 ∷ 0 ∷ 0 ∷ 0 ∷ 1 ∷ 0 ∷ 36 ∷ 0 ∷ 0 ∷ 65 ∷ []))
    ≡ refusal G5 36 ∷ []
unfolding word words_from words_before
constants_passed = refl

pub far_parameters : listed_refusals (bytes_of (3 ∷ 2 ∷ 0xFFFFFFFC ∷ 0 ∷ 0 ∷ 0 ∷ []))
    ≡ refusal G1 0 ∷ refusal G2 4294967292 ∷ refusal G2 4294967295 ∷ []
unfolding word words_from words_before
far_parameters = refl

-- Two descriptors of t3, of which the second has its record first: its place counts.
pub same_register : IsCoveredTwice (spans_of (all_covered (bytes_of
    (1 ∷ 2 ∷ 24 ∷ 0 ∷ 0 ∷ 0 ∷ 3 ∷ 0 ∷ 56 ∷ 3 ∷ 0 ∷ 48 ∷ 3 ∷ 0 ∷ 3 ∷ 0 ∷ [])))) (refusal G4 48)
unfolding word words_from words_before
same_register = record {
  i = 0;
  k = 1;
  earlier = span 56 (Srv 3 1);
  later = span 48 (Srv 3 1);
  order = omega arith;
  earlier_there = refl;
  later_there = refl;
  overlap = refl;
  refused = refl;
}
