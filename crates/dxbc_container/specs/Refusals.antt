-- The rules of a container, as lists of those that are broken. A rule is tested only where the words that it reads are there: no
-- word where the container is shorter than its header, the offsets where the header is sound, the tags where each chunk is inside.
use Rattle.std.specs.Prelude.{◌≡◌, ℕ, zero, suc, ◌+◌, ◌*◌, ◌%◌, nat_eq, nat_lt, ◌||◌, not, if◌then◌else◌, Bool, List, [], ◌∷◌, ◌++◌, length, Option, Some, None, Result, Ok, Err, refl}
use Rattle.word_base.specs.declared.rule.Rule.TheVariants.{C1, C2, C3, C4, C5, C6, C7, C8, C9}
use Rattle.word_base.specs.declared.rule.Refusal.{Refusal}
use Rattle.word_base.specs.Rules.{refusal, broken, first}
use Rattle.word_base.specs.Words.{word_from}
use Rattle.dxbc_container.specs.Layout.{dxbc, shex_tag, total_of, count_of, place_of, offset_of, tag_of, size_of, container_of}

-- what a call refuses with, if it does
abbrev pub refusal_of : {X : Type 0} → Result X Refusal → Option Refusal
refusal_of (Ok x) = None
refusal_of (Err r) = Some r

-- rules that are tested only where none of the earlier ones is broken
abbrev pub after : List Refusal → List Refusal → List Refusal
after [] later = later
after (a ∷ rest) later = a ∷ rest

-- the rules of the header, whose words are there
abbrev pub word_refusals : List ℕ → List Refusal
word_refusals bytes =
    broken (not (nat_eq (word_from bytes 0) dxbc)) C2 0
    ++ (broken (not (nat_eq (word_from bytes 20) 1)) C3 20
    ++ (broken (nat_lt (total_of bytes) 32 || nat_lt (length bytes) (total_of bytes)) C4 24
    ++ broken (nat_lt (total_of bytes) (32 + 4 * count_of bytes)) C5 28))

abbrev pub header_refusals : List ℕ → List Refusal
header_refusals bytes = after (broken (nat_lt (length bytes) 32) C1 0) (word_refusals bytes)

-- Whether a chunk ends outside the total size, with its tag and its size, or with its data. No sum wraps.
abbrev pub is_outside : List ℕ → ℕ → Bool
is_outside bytes i =
    nat_lt (total_of bytes) (offset_of bytes i + 8) || nat_lt (total_of bytes) (offset_of bytes i + 8 + size_of bytes i)

-- the chunks outside, of those that many from the one with that number on
abbrev pub outside_from : List ℕ → ℕ → ℕ → List Refusal
outside_from bytes i zero = []
outside_from bytes i (suc n) = broken (is_outside bytes i) C6 (place_of i) ++ outside_from bytes (suc i) n

-- the rules C1 to C6: those of the header, and of the place of each chunk
abbrev pub head_refusals : List ℕ → List Refusal
head_refusals bytes = after (header_refusals bytes) (outside_from bytes 0 (count_of bytes))

-- bytes that have a list of chunks
abbrev pub IsContainer : List ℕ → Type 0
IsContainer bytes = head_refusals bytes ≡ []

-- the numbers of the chunks of a tag, in order, of those that many from the one with that number on
abbrev pub tagged_from : List ℕ → ℕ → ℕ → ℕ → List ℕ
tagged_from bytes tag i zero = []
tagged_from bytes tag i (suc n) =
    if nat_eq (tag_of bytes i) tag then i ∷ tagged_from bytes tag (suc i) n else tagged_from bytes tag (suc i) n

abbrev pub tagged : List ℕ → ℕ → List ℕ
tagged bytes tag = tagged_from bytes tag 0 (count_of bytes)

-- a tag that no chunk has, or that a second one has
abbrev pub tag_refusals : List ℕ → List Refusal
tag_refusals [] = refusal C7 28 ∷ []
tag_refusals (i ∷ []) = []
tag_refusals (i ∷ j ∷ rest) = refusal C8 (place_of j) ∷ []

-- the rules C1 to C8, for a tag
abbrev pub sole_refusals : List ℕ → ℕ → List Refusal
sole_refusals bytes tag = after (head_refusals bytes) (tag_refusals (tagged bytes tag))

-- whether no program has that size in bytes: it has its two words of head, and whole words
abbrev pub is_wrong_size : ℕ → Bool
is_wrong_size size = nat_lt size 8 || not (nat_eq (size % 4) 0)

abbrev pub size_refusals : List ℕ → List ℕ → List Refusal
size_refusals bytes [] = []
size_refusals bytes (i ∷ rest) = broken (is_wrong_size (size_of bytes i)) C9 (place_of i)

-- the rules C1 to C9
abbrev pub shex_refusals : List ℕ → List Refusal
shex_refusals bytes = after (sole_refusals bytes shex_tag) (size_refusals bytes (tagged bytes shex_tag))

-- Examples: no bytes at all, a program of one word, and a tag that no chunk has.
pub empty_example : first (shex_refusals []) ≡ Some (refusal C1 0)
empty_example = refl

pub short_example : shex_refusals (container_of (7 ∷ [])) ≡ refusal C9 32 ∷ []
unfolding total_of count_of offset_of tag_of size_of
short_example = refl

pub missing_example : sole_refusals (container_of (7 ∷ 9 ∷ [])) 0x30535452 ≡ refusal C7 28 ∷ []
unfolding total_of count_of offset_of tag_of size_of
missing_example = refl

pub sound_example : shex_refusals (container_of (7 ∷ 9 ∷ [])) ≡ []
unfolding total_of count_of offset_of tag_of size_of
sound_example = refl
