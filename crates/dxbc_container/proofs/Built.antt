-- The container of one chunk meets its rules.
use Rattle.std.proofs.Common.{◌≡◌, ℕ, ◌+◌, ◌-◌, ◌*◌, ◌/◌, ◌%◌, ◌<◌, ◌≤◌, ◌^◌, List, [], ◌∷◌, ◌++◌, length, take, Bool, true, false, not, nat_eq, nat_lt, ◌||◌, refl, sym, ap, ◌∙◌, subst, arith}
use Rattle.std.specs.Prelude.{slice_range}
use Rattle.std.proofs.Math.Seq.{take-length}
use Rattle.std.proofs.lemmas.Bool.Decides.{nat_tests}
use Rattle.word_base.specs.declared.rule.Rule.{Rule}
use Rattle.word_base.specs.declared.rule.Rule.TheVariants.{C1, C2, C3, C4, C5, C9}
use Rattle.word_base.specs.declared.rule.Refusal.{Refusal}
use Rattle.word_base.specs.Rules.{broken}
use Rattle.word_base.specs.Words.{word_from, bytes_of}
use Rattle.dxbc_container.specs.Layout.{dxbc, shex_tag, total_of, count_of, place_of, offset_of, tag_of, size_of, container_of}
use Rattle.dxbc_container.specs.Refusals.{word_refusals, header_refusals, head_refusals, is_outside, outside_from, IsContainer, tagged, tag_refusals, sole_refusals, is_wrong_size, size_refusals, shex_refusals}
use Rattle.dxbc_container.specs.Chunks.{IsShex}
use Rattle.dxbc_container.proofs.Firsts.{both_none, outside_none}
use Rattle.dxbc_container.proofs.Soles.{only}

unbroken : (b : Bool) (r : Rule) (p : ℕ) (rest : List Refusal) → b ≡ false → rest ≡ [] → broken b r p ++ rest ≡ []
unbroken true r p rest e h = cc
unbroken false r p rest e h = h

pub unbroken_last : (b : Bool) (r : Rule) (p : ℕ) → b ≡ false → broken b r p ≡ []
unbroken_last true r p e = cc
unbroken_last false r p e = refl

pub at_least : (a b : ℕ) → b ≤ a → nat_lt a b ≡ false
at_least a b h = grind (arith, nat_tests)

pub same_word : (a b : ℕ) → a ≡ b → not (nat_eq a b) ≡ false
same_word a b h = grind (arith, nat_tests)

pub neither : (a b : Bool) → a ≡ false → b ≡ false → (a || b) ≡ false
neither true b h k = cc
neither false b h k = k

-- what the words of a container with one chunk SHEX are
record HasOne (bytes : List ℕ) (n : ℕ) : Type 0 where
  size : length bytes ≡ 44 + 4 * n
  letters : word_from bytes 0 ≡ dxbc
  version : word_from bytes 20 ≡ 1
  total : total_of bytes ≡ 44 + 4 * n
  count : count_of bytes ≡ 1
  offset : offset_of bytes 0 ≡ 36
  tag : tag_of bytes 0 ≡ shex_tag
  data_size : size_of bytes 0 ≡ 4 * n

header_holds : (bytes : List ℕ) (n : ℕ) → HasOne bytes n → header_refusals bytes ≡ []
header_holds bytes n h =
    both_none (broken (nat_lt (length bytes) 32) C1 0) (word_refusals bytes)
    (unbroken_last _ C1 0 (at_least (length bytes) 32 (omega (arith, h.size))))
    (unbroken (not (nat_eq (word_from bytes 0) dxbc)) C2 0 _ (same_word (word_from bytes 0) dxbc h.letters)
    (unbroken (not (nat_eq (word_from bytes 20) 1)) C3 20 _ (same_word (word_from bytes 20) 1 h.version)
    (unbroken (nat_lt (total_of bytes) 32 || nat_lt (length bytes) (total_of bytes)) C4 24 _
    (neither _ _ (at_least (total_of bytes) 32 (omega (arith, h.total))) (at_least (length bytes) (total_of bytes) (omega (arith, h.total, h.size))))
    (unbroken_last (nat_lt (total_of bytes) (32 + 4 * count_of bytes)) C5 28
    (at_least (total_of bytes) (32 + 4 * count_of bytes) (omega (arith, h.total, h.count)))))))

only_inside : (bytes : List ℕ) (n : ℕ) → HasOne bytes n → (k : ℕ) → k ≡ 0 → is_outside bytes k ≡ false
only_inside bytes n h k e =
    subst (λ j. is_outside bytes j ≡ false) (sym e) (neither _ _
    (at_least (total_of bytes) (offset_of bytes 0 + 8) (omega (arith, h.total, h.offset)))
    (at_least (total_of bytes) (offset_of bytes 0 + 8 + size_of bytes 0) (omega (arith, h.total, h.offset, h.data_size))))

head_holds : (bytes : List ℕ) (n : ℕ) → HasOne bytes n → IsContainer bytes
head_holds bytes n h =
    both_none (header_refusals bytes) (outside_from bytes 0 (count_of bytes)) (header_holds bytes n h)
    (outside_none bytes 0 (count_of bytes) (λ k l. only_inside bytes n h k (omega (arith, h.count))))

equal : (a b : ℕ) → a ≡ b → nat_eq a b ≡ true
equal a b h = grind (arith, nat_tests)

one_tagged : (bytes : List ℕ) (n : ℕ) → HasOne bytes n → tagged bytes shex_tag ≡ 0 ∷ []
one_tagged bytes n h = rw (h.count, equal (tag_of bytes 0) shex_tag h.tag) refl

sole_holds : (bytes : List ℕ) (n : ℕ) → HasOne bytes n → sole_refusals bytes shex_tag ≡ []
sole_holds bytes n h =
    both_none (head_refusals bytes) (tag_refusals (tagged bytes shex_tag)) (head_holds bytes n h) (ap tag_refusals (one_tagged bytes n h))

whole : (a n : ℕ) → a ≡ 4 * n → not (nat_eq (a % 4) 0) ≡ false
whole a n h = same_word (a % 4) 0 (omega arith)

right_size : (a n : ℕ) → a ≡ 4 * n → 2 ≤ n → is_wrong_size a ≡ false
right_size a n h l = neither _ _ (at_least a 8 (omega arith)) (whole a n h)

shex_holds : (bytes : List ℕ) (n : ℕ) → HasOne bytes n → 2 ≤ n → shex_refusals bytes ≡ []
shex_holds bytes n h l =
    both_none (sole_refusals bytes shex_tag) (size_refusals bytes (tagged bytes shex_tag)) (sole_holds bytes n h)
    (ap (size_refusals bytes) (one_tagged bytes n h) ∙ unbroken_last (is_wrong_size (size_of bytes 0)) C9 (place_of 0) (right_size (size_of bytes 0) n h.data_size l))

-- the bytes of a word of four bytes give the word
one_word : (w : ℕ) → w < 2 ^ 32 → w % 256 + 256 * (w / 256 % 256) + 65536 * (w / 65536 % 256) + 16777216 * (w / 16777216 % 256) ≡ w
one_word w h = omega arith

has_one : (tokens : List ℕ) → length (bytes_of tokens) ≡ 4 * length tokens → length tokens ≤ 4194293 → HasOne (container_of tokens) (length tokens)
unfolding total_of count_of offset_of tag_of size_of
has_one tokens e l = record {
  size = omega (arith, e);
  letters = refl;
  version = refl;
  total = one_word (44 + 4 * length tokens) (omega arith);
  count = refl;
  offset = refl;
  tag = refl;
  data_size = one_word (4 * length tokens) (omega arith);
}

all_of : (xs : List ℕ) (n : ℕ) → n ≡ length xs → xs ≡ take n xs
all_of xs n e = sym (ap (λ k. take k xs) e ∙ take-length xs)

holds : (tokens : List ℕ) → bytes_of tokens ≡ slice_range (container_of tokens) 44 (44 + length (bytes_of tokens))
holds tokens = all_of (bytes_of tokens) (44 + length (bytes_of tokens) - 44) (omega arith)

pub built_sole : (bytes tokens : List ℕ) → bytes ≡ container_of tokens → length (bytes_of tokens) ≡ 4 * length tokens → length tokens ≤ 4194293
    → sole_refusals bytes shex_tag ≡ []
built_sole bytes tokens b e l = subst (λ x. sole_refusals x shex_tag ≡ []) (sym b) (sole_holds (container_of tokens) (length tokens) (has_one tokens e l))

pub built_sound : (bytes tokens : List ℕ) → bytes ≡ container_of tokens → length (bytes_of tokens) ≡ 4 * length tokens → length tokens ≤ 4194293
    → 2 ≤ length tokens → shex_refusals bytes ≡ []
built_sound bytes tokens b e l k = subst (λ x. shex_refusals x ≡ []) (sym b) (shex_holds (container_of tokens) (length tokens) (has_one tokens e l) k)

data_of : (bytes content : List ℕ) (n : ℕ) → HasOne bytes n → length content ≡ 4 * n → content ≡ slice_range bytes 44 (44 + length content) → IsShex bytes content
data_of bytes content n h e s = record {
  start = 44;
  sole = record {
    container = head_holds bytes n h;
    number = 0;
    offset = 36;
    behind = refl;
    chunk = record {
      listed = omega (arith, h.count);
      begins = sym h.offset;
      named = sym h.tag;
      sized = e ∙ sym h.data_size;
      inside = omega (arith, h.total);
      holds = s;
    };
    only = only bytes shex_tag 0 (one_tagged bytes n h);
  };
}

pub built_data : (bytes tokens : List ℕ) → bytes ≡ container_of tokens → length (bytes_of tokens) ≡ 4 * length tokens → length tokens ≤ 4194293
    → IsShex bytes (bytes_of tokens)
built_data bytes tokens b e l =
    subst (λ x. IsShex x (bytes_of tokens)) (sym b)
    (data_of (container_of tokens) (bytes_of tokens) (length tokens) (has_one tokens e l) e (holds tokens))
