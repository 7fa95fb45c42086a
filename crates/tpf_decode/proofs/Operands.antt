-- The words behind an operand's tokens.
use Rattle.std.proofs.Common.{◌≡◌, ℕ, ◌+◌, ◌-◌, ◌<◌, ◌≤◌, List, [], ◌∷◌, ◌++◌, length, take, drop, Option, Some, None, Bool, true, false, not, ◌&&◌, refl, sym, ap, ◌∙◌, arith}
use Rattle.std.specs.Prelude.{slice_range, slice_index, nat_lt, if◌then◌else◌}
use Rattle.std.proofs.lemmas.Bool.Decides.{nat_tests}
use Rattle.std.proofs.lemmas.List.{drop-take, drop-drop}
use Rattle.word_base.specs.declared.rule.Rule.TheVariants.{K9, K11}
use Rattle.word_base.specs.Rules.{broken, refusal, first}
use Rattle.tpf_decode.specs.declared.argument.Kind.{Kind}
use Rattle.tpf_decode.specs.declared.argument.Kind.TheVariants.{Temp, Indexable, Constant, ThreadId, GroupId, IdInGroup, FlatId}
use Rattle.tpf_decode.specs.Tokens.{follows, kind_of, Fixed, Literal, Slot, Nothing, fixed_count}
use Rattle.tpf_decode.specs.Roles.{index_count, is_relative, is_relative_by, is_relative_of, is_relative_type}
use Rattle.tpf_decode.specs.Spelling.{SpellsImmediate, SpellsFixed, SpellsPlace}
use Rattle.tpf_decode.specs.Refusals.{Rest, StandsFrom, IsOrderly, behind_words, place_count, relative_faults}
use Rattle.tpf_decode.proofs.Ranges.{range_none, range_cons, range_one, range_split, length-range}
use Rattle.tpf_decode.proofs.Order.{first_broken, behind_place, stands_earlier}

pub range_drop : (words : List ℕ) (at count end : ℕ) → at + count ≤ end → drop count (slice_range words at end) ≡ slice_range words (at + count) end
range_drop words at count end h =
    let e : end - at ≡ count + (end - (at + count)) = omega arith in
    ap (λ n. drop count (take n (drop at words))) e
    ∙ (drop-take count (end - (at + count)) (drop at words) ∙ ap (take (end - (at + count))) (drop-drop count at words))

pub behind_missing : (words : List ℕ) (at end count : ℕ) (rest : Rest) → at ≤ end → end ≤ length words → end - at < count
    → behind_words count rest at (slice_range words at end) ≡ refusal K11 end ∷ []
behind_missing words at end count rest h k l =
    let e = length-range words at end k in
    let t : nat_lt (length (slice_range words at end)) count ≡ true = grind (arith, nat_tests) in
    let f : at + length (slice_range words at end) ≡ end = omega arith in
    ap (λ b. if b then refusal K11 (at + length (slice_range words at end)) ∷ [] else rest (at + count) (drop count (slice_range words at end))) t
    ∙ ap (λ n. refusal K11 n ∷ []) f

pub behind_there : (words : List ℕ) (at end count : ℕ) (rest : Rest) → at + count ≤ end → end ≤ length words
    → behind_words count rest at (slice_range words at end) ≡ rest (at + count) (slice_range words (at + count) end)
behind_there words at end count rest h k =
    let e = length-range words at end k in
    let t : nat_lt (length (slice_range words at end)) count ≡ false = grind (arith, nat_tests) in
    ap (λ b. if b then refusal K11 (at + length (slice_range words at end)) ∷ [] else rest (at + count) (drop count (slice_range words at end))) t
    ∙ ap (rest (at + count)) (range_drop words at count end h)

-- orderly rests stay so
pub words_orderly : (count : ℕ) (rest : Rest) → IsOrderly rest → (words : List ℕ) (at : ℕ) → StandsFrom at (behind_words count rest at words)
words_orderly count rest o words at =
    elim (nat_lt (length words) count) as (λ b. StandsFrom at (if b then refusal K11 (at + length words) ∷ [] else rest (at + count) (drop count words))) [
      | true ↦ (refl, omega arith, tt)
      | false ↦ stands_earlier at (at + count) (rest (at + count) (drop count words)) (omega arith) (o (at + count) (drop count words))
    ]

pub immediate_there : (b : Bool) (words : List ℕ) (at index : ℕ) → b ≡ true → at < length words → index ≡ slice_index words at → SpellsImmediate b index (slice_range words at (at + 1))
immediate_there true words at index h l e = range_one words at l ∙ ap (λ x. x ∷ []) (sym e)
immediate_there false words at index h l e = cc

pub slot_there : (words : List ℕ) (at slot : ℕ) → at + 1 ≤ length words → slot ≡ slice_index words at → slice_range words at (at + 1) ≡ slot ∷ []
slot_there words at slot l e = range_one words at (omega arith) ∙ ap (λ x. x ∷ []) (sym e)

pub two_there : (words : List ℕ) (at x y : ℕ) → at + 2 ≤ length words → x ≡ slice_index words at → y ≡ slice_index words (at + 1) → slice_range words at (at + 2) ≡ x ∷ y ∷ []
two_there words at x y l e f =
    let two : at + 1 + 1 ≡ at + 2 = omega arith in
    range_cons words at (at + 2) (omega arith) l
    ∙ (ap (λ n. slice_index words at ∷ slice_range words (at + 1) n) (sym two)
    ∙ (ap (λ l. slice_index words at ∷ l) (slot_there words (at + 1) y (omega arith) f) ∙ ap (λ a. a ∷ y ∷ []) (sym e)))

pub four_there : (words : List ℕ) (at x y z w : ℕ) → at + 4 ≤ length words → x ≡ slice_index words at → y ≡ slice_index words (at + 1) → z ≡ slice_index words (at + 2) → w ≡ slice_index words (at + 3)
    → slice_range words at (at + 4) ≡ x ∷ y ∷ z ∷ w ∷ []
four_there words at x y z w l e f g h =
    let two : at + 2 + 2 ≡ at + 4 = omega arith in
    let three : at + 2 + 1 ≡ at + 3 = omega arith in
    range_split words at (at + 2) (at + 4) (omega arith) (omega arith)
    ∙ (ap (λ l. l ++ slice_range words (at + 2) (at + 4)) (two_there words at x y (omega arith) e f)
    ∙ (ap (λ n. x ∷ y ∷ slice_range words (at + 2) n) (sym two)
    ∙ ap (λ l. x ∷ y ∷ l) (two_there words (at + 2) z w (omega arith) g (h ∙ ap (slice_index words) (sym three)))))

pub literal_there : (four : Bool) (words : List ℕ) (at x : ℕ) → four ≡ false → at + fixed_count (Literal four) ≤ length words → x ≡ slice_index words at
    → SpellsFixed (Literal four) 0 x x x x (slice_range words at (at + fixed_count (Literal four)))
literal_there false words at x h l e = (refl, (slot_there words at x l e, refl, refl, refl))
literal_there true words at x h l e = cc

pub slot_fixed : (fixed : Fixed) (words : List ℕ) (at slot : ℕ) → fixed ≡ Slot → at + fixed_count fixed ≤ length words → slot ≡ slice_index words at
    → SpellsFixed fixed slot 0 0 0 0 (slice_range words at (at + fixed_count fixed))
slot_fixed (Literal four) words at slot e l h = cc
slot_fixed Slot words at slot e l h = (slot_there words at slot l h, record { x_is = refl; y_is = refl; z_is = refl; w_is = refl })
slot_fixed Nothing words at slot e l h = cc

pub temp_place : (kind : Kind) (words : List ℕ) (at slot : ℕ) → kind ≡ Temp → at + index_count kind ≤ length words → slot ≡ slice_index words at
    → SpellsPlace kind slot 0 (slice_range words at (at + index_count kind))
temp_place Temp words at slot e l h = (slot_there words at slot l h, refl)
temp_place kind words at slot e l h = cc

pub indexable_place : (kind : Kind) (words : List ℕ) (at slot index : ℕ) → kind ≡ Indexable → at + index_count kind ≤ length words → slot ≡ slice_index words at → index ≡ slice_index words (at + 1)
    → SpellsPlace kind slot index (slice_range words at (at + index_count kind))
indexable_place Indexable words at slot index e l h k = two_there words at slot index l h k
indexable_place kind words at slot index e l h k = cc

pub constant_place : (kind : Kind) (words : List ℕ) (at slot index : ℕ) → kind ≡ Constant → at + index_count kind ≤ length words → slot ≡ slice_index words at → index ≡ slice_index words (at + 1)
    → SpellsPlace kind slot index (slice_range words at (at + index_count kind))
constant_place Constant words at slot index e l h k = two_there words at slot index l h k
constant_place kind words at slot index e l h k = cc

-- what a relative operand's type tells
pub relative_some : (token : ℕ) (kind : Kind) → (if is_relative token then kind_of token else None) ≡ Some kind → (is_relative token ≡ true) × (kind_of token ≡ Some kind)
relative_some token kind h = by_test (is_relative token) (kind_of token) h
  where
    by_test : (b : Bool) (o : Option Kind) → (if b then o else None) ≡ Some kind → (b ≡ true) × (o ≡ Some kind)
    by_test true o h = (refl, h)
    by_test false o h = cc

relative_by_none : (token : ℕ) (o : Option Kind) → (if is_relative_by o token then o else None) ≡ None → is_relative_by o token ≡ false
relative_by_none token None h = refl
relative_by_none token (Some kind) h = by_test (is_relative_by (Some kind) token) h
  where
    by_test : (b : Bool) → (if b then Some kind else None) ≡ None → b ≡ false
    by_test true h = cc
    by_test false h = refl

pub relative_none : (token : ℕ) → (if is_relative token then kind_of token else None) ≡ None → is_relative token ≡ false
relative_none token h = relative_by_none token (kind_of token) h

pub type_of_relative : (token : ℕ) (kind : Kind) → is_relative token ≡ true → kind_of token ≡ Some kind → is_relative_type kind ≡ true
type_of_relative token kind h e = by_type kind (ap (λ o. is_relative_by o token) (sym e) ∙ h)
  where
    by_type : (kind : Kind) → (is_relative_of kind token && not (follows token)) ≡ true → is_relative_type kind ≡ true
    by_type Temp h = refl
    by_type Indexable h = refl
    by_type Constant h = refl
    by_type ThreadId h = refl
    by_type GroupId h = refl
    by_type IdInGroup h = refl
    by_type FlatId h = refl
    by_type kind h = cc

-- the refusals of a relative operand, by its token
pub relative_at_end : (words : List ℕ) (at end : ℕ) (rest : Rest) → at ≡ end → relative_faults true rest at (slice_range words at end) ≡ refusal K11 end ∷ []
relative_at_end words at end rest e =
    ap (λ n. relative_faults true rest n (slice_range words n end)) e ∙ ap (relative_faults true rest end) (range_none words end)

pub first_not_relative : (words : List ℕ) (at end token : ℕ) (rest : Rest) → IsOrderly rest → at < end → end ≤ length words → token ≡ slice_index words at → is_relative token ≡ false
    → first (relative_faults true rest at (slice_range words at end)) ≡ Some (refusal K9 at)
first_not_relative words at end token rest o h k e n =
    ap (λ l. first (relative_faults true rest at l)) (range_cons words at end h k ∙ ap (λ t. t ∷ slice_range words (at + 1) end) (sym e))
    ∙ (first_broken (not (is_relative token)) K9 at (behind_words (place_count (kind_of token)) rest (at + 1) (slice_range words (at + 1) end))
    (behind_place K9 at (behind_words (place_count (kind_of token)) rest (at + 1) (slice_range words (at + 1) end)) refl
    (words_orderly (place_count (kind_of token)) rest o (slice_range words (at + 1) end) (at + 1)))
    ∙ ap (λ b. if not b then Some (refusal K9 at) else first (behind_words (place_count (kind_of token)) rest (at + 1) (slice_range words (at + 1) end))) n)

pub relative_passes : (words : List ℕ) (at end token : ℕ) (kind : Kind) (rest : Rest) → at < end → end ≤ length words → token ≡ slice_index words at → is_relative token ≡ true → kind_of token ≡ Some kind
    → relative_faults true rest at (slice_range words at end) ≡ behind_words (index_count kind) rest (at + 1) (slice_range words (at + 1) end)
relative_passes words at end token kind rest h k e r t =
    ap (relative_faults true rest at) (range_cons words at end h k ∙ ap (λ t. t ∷ slice_range words (at + 1) end) (sym e))
    ∙ (ap (λ b. broken (not b) K9 at ++ behind_words (place_count (kind_of token)) rest (at + 1) (slice_range words (at + 1) end)) r
    ∙ ap (λ o. behind_words (place_count o) rest (at + 1) (slice_range words (at + 1) end)) t)

-- what stands behind so many words, by the place
pub behind_place_there : (words : List ℕ) (at end place count : ℕ) (rest : Rest) → place ≡ at + count → place ≤ end → end ≤ length words
    → behind_words count rest at (slice_range words at end) ≡ rest place (slice_range words place end)
behind_place_there words at end place count rest e h k =
    behind_there words at end count rest (omega arith) k ∙ ap (λ n. rest n (slice_range words n end)) (sym e)
