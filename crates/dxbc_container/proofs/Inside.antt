-- What a container's rules say of its table and of its chunks.
use Rattle.std.proofs.Common.{◌≡◌, ℕ, ◌+◌, ◌*◌, ◌<◌, ◌≤◌, List, [], ◌∷◌, ◌++◌, length, Bool, true, false, refl, arith, not, nat_eq, nat_lt, ◌||◌, length-take, length-drop}
use Rattle.std.specs.Prelude.{slice_range}
use Rattle.std.proofs.lemmas.Bool.Decides.{nat_tests}
use Rattle.word_base.specs.declared.rule.Rule.{Rule}
use Rattle.word_base.specs.declared.rule.Rule.TheVariants.{C1, C2, C3, C4, C5}
use Rattle.word_base.specs.declared.rule.Refusal.{Refusal}
use Rattle.word_base.specs.Rules.{broken}
use Rattle.word_base.specs.Words.{word_from}
use Rattle.dxbc_container.specs.Layout.{dxbc, total_of, count_of, offset_of, size_of}
use Rattle.dxbc_container.specs.Refusals.{word_refusals, header_refusals, outside_from, IsContainer}
use Rattle.dxbc_container.specs.Chunks.{HasTable, IsInside}
use Rattle.dxbc_container.proofs.Firsts.{earlier_none, later_none, inside_each}

second_none : (xs ys : List Refusal) → xs ++ ys ≡ [] → ys ≡ []
second_none [] ys h = h
second_none (a ∷ rest) ys h = cc

first_none : (xs ys : List Refusal) → xs ++ ys ≡ [] → xs ≡ []
first_none [] ys h = refl
first_none (a ∷ rest) ys h = cc

kept : (b : Bool) (r : Rule) (p : ℕ) → broken b r p ≡ [] → b ≡ false
kept true r p h = cc
kept false r p h = refl

not_less : (a b : ℕ) → nat_lt a b ≡ false → b ≤ a
not_less a b h = grind (arith, nat_tests)

neither_left : (a b : Bool) → (a || b) ≡ false → a ≡ false
neither_left true b h = cc
neither_left false b h = refl

neither_right : (a b : Bool) → (a || b) ≡ false → b ≡ false
neither_right true b h = cc
neither_right false b h = h

pub table_fits : (bytes : List ℕ) → IsContainer bytes → HasTable bytes
table_fits bytes h =
    let words : word_refusals bytes ≡ [] =
    later_none (broken (nat_lt (length bytes) 32) C1 0) (word_refusals bytes)
    (earlier_none _ (outside_from bytes 0 (count_of bytes)) h) in
    let from_c3 = second_none (broken (not (nat_eq (word_from bytes 0) dxbc)) C2 0) _ words in
    let from_c4 = second_none (broken (not (nat_eq (word_from bytes 20) 1)) C3 20) _ from_c3 in
    let size = kept (nat_lt (total_of bytes) 32 || nat_lt (length bytes) (total_of bytes)) C4 24 (first_none _ _ from_c4) in
    let table = kept (nat_lt (total_of bytes) (32 + 4 * count_of bytes)) C5 28 (second_none _ _ from_c4) in
    record {
      fits = not_less (total_of bytes) (32 + 4 * count_of bytes) table;
      within = not_less (length bytes) (total_of bytes) (neither_right (nat_lt (total_of bytes) 32) _ size);
    }

pub chunk_inside : (bytes : List ℕ) (i : ℕ) → IsContainer bytes → i < count_of bytes → IsInside bytes i
chunk_inside bytes i h l =
    let t = table_fits bytes h in
    let inside = inside_each bytes 0 (count_of bytes) (later_none (header_refusals bytes) _ h) i (omega arith) (omega arith) in
    record {
      place = omega (arith, t.fits);
      head = not_less (total_of bytes) (offset_of bytes i + 8) (neither_left _ _ inside);
      data_end = not_less (total_of bytes) (offset_of bytes i + 8 + size_of bytes i) (neither_right (nat_lt (total_of bytes) (offset_of bytes i + 8)) _ inside);
    }

-- the length of a part that lies in the bytes
pub part_length : (bytes : List ℕ) (s n : ℕ) → s + n ≤ length bytes → length (slice_range bytes s (s + n)) ≡ n
part_length bytes s n h = simp (length-take, length-drop) (omega arith)
