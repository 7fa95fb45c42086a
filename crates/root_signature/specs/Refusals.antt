-- The rules of a root signature.
use Rattle.std.specs.Prelude.{◌≡◌, ◌≢◌, ℕ, suc, ◌+◌, ◌*◌, ◌<◌, min, nat_eq, nat_lt, nat_le, ◌&&◌, ◌||◌, ◌⊎◌, not, if◌then◌else◌, Bool, true, List, [], ◌++◌, Some, slice_get, Contains}
use Rattle.word_base.specs.declared.rule.Rule.TheVariants.{G1, G2, G3, G4, G5, G6}
use Rattle.word_base.specs.declared.rule.Refusal.{Refusal}
use Rattle.word_base.specs.Rules.{refusal, broken}
use Rattle.dxbc_container.specs.Refusals.{sole_refusals}
use Rattle.dxbc_container.specs.Chunks.{IsSole}
use Rattle.root_signature.specs.Layout.{rts0_tag, word, words_from, is_whole, has_flags, parameter_count, parameter_at, is_parameter, record_at, record_words, range_words, range_at, range_count, ranges_at}
use Rattle.root_signature.specs.Covers.{Span, overlaps}
use Rattle.root_signature.specs.Covering.{spans_of, each, is_single, words_before, all_covered}

-- a record that lacks words, at the first that is missing
abbrev pub missing : List ℕ → ℕ → ℕ → List Refusal
missing content at words = broken (not (is_whole content at words)) G2 (min (at + 4 * words_from content at) 4294967295)

-- a type that is above the last known one, where its word is there
abbrev pub unknown : List ℕ → ℕ → ℕ → List Refusal
unknown content at last = broken (is_whole content at 1 && nat_lt last (word content at)) G3 at

-- a version that is there, and is neither 1 nor 2
abbrev pub is_wrong_version : List ℕ → Bool
is_wrong_version content = is_whole content 0 1 && not (nat_eq (word content 0) 1 || has_flags content)

abbrev pub wrong_version : List ℕ → List Refusal
wrong_version content = broken (is_wrong_version content) G1 0

abbrev pub range_refusals : List ℕ → ℕ → List Refusal
range_refusals content at = missing content at (range_words content) ++ unknown content at 3

-- what is broken by a parameter, by its record, and by its ranges
abbrev pub parameter_refusals : List ℕ → ℕ → List Refusal
parameter_refusals content i =
    (missing content (parameter_at content i) 3 ++ unknown content (parameter_at content i) 4)
    ++ ((if is_parameter content i then missing content (record_at content i) (record_words content i) else [])
    ++ each (range_count content i) (λ j. range_refusals content (range_at content (ranges_at content i) j)))

-- Root constants are counted in the order of the parameters. The rule is broken once, where the sum first passes 64.
abbrev pub is_passing : List ℕ → ℕ → Bool
is_passing content i =
    is_single content i 1 && (nat_le (words_before content i) 64 && nat_lt 64 (words_before content (suc i)))

abbrev pub push_refusals : List ℕ → ℕ → List Refusal
push_refusals content i = broken (is_passing content i) G5 (record_at content i)

-- the rules G1, G2, G3 and G5
abbrev pub head_refusals : List ℕ → List Refusal
head_refusals content = missing content 0 6 ++ wrong_version content

abbrev pub part_refusals : List ℕ → ℕ → List Refusal
part_refusals content i = parameter_refusals content i ++ push_refusals content i

abbrev pub listed_refusals : List ℕ → List Refusal
listed_refusals content = head_refusals content ++ each (parameter_count content) (part_refusals content)

-- G4: an entry covers a register that an earlier one covers.
pub record IsCoveredTwice (spans : List Span) (r : Refusal) : Type 0 where
  pub i : ℕ
  pub k : ℕ
  pub earlier : Span
  pub later : Span
  pub order : i < k
  pub earlier_there : slice_get spans i ≡ Some earlier
  pub later_there : slice_get spans k ≡ Some later
  pub overlap : overlaps earlier later ≡ true
  pub refused : r ≡ refusal G4 later.place

-- the rules of the data of a root signature
abbrev pub IsBrokenIn : List ℕ → Refusal → Type 0
IsBrokenIn content r = Contains (listed_refusals content) r ⊎ IsCoveredTwice (spans_of (all_covered content)) r

-- the container has one chunk `RTS0`, whose data break that rule
pub record IsBrokenSignature (bytes : List ℕ) (r : Refusal) : Type 0 where
  pub start : ℕ
  pub content : List ℕ
  pub sole : IsSole bytes rts0_tag start content
  pub is_broken : IsBrokenIn content r

-- G6: the container is not sound, or it has no chunk `RTS0`, or a second one
pub record IsMissing (bytes : List ℕ) (r : Refusal) : Type 0 where
  pub missing : sole_refusals bytes rts0_tag ≢ []
  pub refused : r ≡ refusal G6 0

-- the rules of a file with a root signature
abbrev pub IsBroken : List ℕ → Refusal → Type 0
IsBroken bytes r = IsMissing bytes r ⊎ IsBrokenSignature bytes r
