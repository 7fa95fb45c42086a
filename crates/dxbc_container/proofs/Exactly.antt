-- The rules on a tag hold exactly where the container has one chunk of it.
use Rattle.std.proofs.Common.{◌≡◌, ℕ, zero, suc, ◌+◌, ◌%◌, ◌<◌, ◌≤◌, inl, inr, ⊎_elim, List, [], ◌∷◌, length, Bool, true, false, if◌then◌else◌, nat_eq, refl, sym, ap, ◌∙◌, subst, arith}
use Rattle.std.specs.Prelude.{slice_range}
use Rattle.std.proofs.lemmas.Bool.Decides.{nat_tests}
use Rattle.word_base.specs.declared.rule.Rule.TheVariants.{C9}
use Rattle.word_base.specs.Rules.{broken}
use Rattle.dxbc_container.specs.Layout.{shex_tag, count_of, place_of, offset_of, tag_of, size_of}
use Rattle.dxbc_container.specs.Refusals.{head_refusals, IsContainer, tagged_from, tagged, tag_refusals, sole_refusals, is_wrong_size, size_refusals, shex_refusals}
use Rattle.dxbc_container.specs.Chunks.{IsChunk, IsSole, IsShex}
use Rattle.dxbc_container.proofs.Firsts.{both_none, earlier_none, later_none}
use Rattle.dxbc_container.proofs.Inside.{table_fits, chunk_inside, part_length}
use Rattle.dxbc_container.proofs.Tags.{Has, listed, named, sole_named}
use Rattle.dxbc_container.proofs.Soles.{only}
use Rattle.dxbc_container.proofs.Built.{at_least, neither, same_word, unbroken_last}

-- the content of a chunk by its number
abbrev content : List ℕ → ℕ → List ℕ
content bytes i = slice_range bytes (offset_of bytes i + 8) (offset_of bytes i + 8 + size_of bytes i)

content_size : (bytes : List ℕ) (i : ℕ) → IsContainer bytes → i < count_of bytes → length (content bytes i) ≡ size_of bytes i
content_size bytes i h l =
    let k = chunk_inside bytes i h l in
    let t = table_fits bytes h in
    part_length bytes (offset_of bytes i + 8) (size_of bytes i) (omega (arith, k.data_end, t.within))

-- each number below the count is that of a chunk
chunk_at : (bytes : List ℕ) (i tag : ℕ) → IsContainer bytes → i < count_of bytes → tag ≡ tag_of bytes i
    → IsChunk bytes i (offset_of bytes i) tag (content bytes i)
chunk_at bytes i tag h l n =
    let s = content_size bytes i h l in
    let k = chunk_inside bytes i h l in record {
      listed = l;
      begins = refl;
      named = n;
      sized = s;
      inside = omega (arith, s, k.data_end);
      holds = ap (λ m. slice_range bytes (offset_of bytes i + 8) (offset_of bytes i + 8 + m)) (sym s);
    }

-- the numbers in the list of those of the tag are those of chunks
range_step : (b : Bool) (i k n : ℕ) (rest : List ℕ) → (Has rest k → (suc i ≤ k) × (k < suc i + n))
    → Has (if b then i ∷ rest else rest) k → (i ≤ k) × (k < i + suc n)
range_step true i k n rest h m = ⊎_elim (λ (f : i ≡ k). (omega arith, omega arith)) (λ m. let r = h m in (omega (arith, r.0), omega (arith, r.1))) m
range_step false i k n rest h m = let r = h m in (omega (arith, r.0), omega (arith, r.1))

within : (bytes : List ℕ) (tag k i n : ℕ) → Has (tagged_from bytes tag i n) k → (i ≤ k) × (k < i + n)
within bytes tag k i zero m = absurd m
within bytes tag k i (suc n) m =
    range_step (nat_eq (tag_of bytes i) tag) i k n (tagged_from bytes tag (suc i) n) (within bytes tag k (suc i) n) m

-- a list with one number alone
empty : (xs : List ℕ) → ((k : ℕ) → Has xs k → ⊥) → xs ≡ []
empty [] h = refl
empty (a ∷ rest) h = absurd (h a (inl refl))

alone_step : (b : Bool) (i m : ℕ) (rest : List ℕ) → ((k : ℕ) → Has rest k → i < k)
    → (((k : ℕ) → Has rest k → k ≡ m) → Has rest m → rest ≡ m ∷ [])
    → ((k : ℕ) → Has (if b then i ∷ rest else rest) k → k ≡ m) → Has (if b then i ∷ rest else rest) m → (if b then i ∷ rest else rest) ≡ m ∷ []
alone_step true i m rest above ih all here =
    let e : i ≡ m = all i (inl refl) in
    let none : rest ≡ [] = empty rest (λ k h. let l = above k h in let f = all k (inr h) in absurd (omega (arith, l, f, e))) in
    rw (e, none) refl
alone_step false i m rest above ih all here = ih all here

alone : (bytes : List ℕ) (tag m i n : ℕ) → ((k : ℕ) → Has (tagged_from bytes tag i n) k → k ≡ m) → Has (tagged_from bytes tag i n) m
    → tagged_from bytes tag i n ≡ m ∷ []
alone bytes tag m i zero all here = absurd here
alone bytes tag m i (suc n) all here =
    alone_step (nat_eq (tag_of bytes i) tag) i m (tagged_from bytes tag (suc i) n)
    (λ k h. let r = within bytes tag k (suc i) n h in omega (arith, r.0)) (alone bytes tag m (suc i) n) all here

one_number : (bytes : List ℕ) (tag start : ℕ) (held : List ℕ) → (h : IsSole bytes tag start held) → tagged bytes tag ≡ h.number ∷ []
one_number bytes tag start held h =
    alone bytes tag h.number 0 (count_of bytes)
    (λ k m.
    let r = within bytes tag k 0 (count_of bytes) m in
    h.only k (offset_of bytes k) (content bytes k)
    (chunk_at bytes k tag h.container (omega (arith, r.1)) (sym (named bytes tag k 0 (count_of bytes) m))))
    (listed bytes tag h.number 0 (count_of bytes) (omega arith) (omega (arith, h.chunk.listed)) (sym h.chunk.named))

pub sole_holds : (bytes : List ℕ) (tag start : ℕ) (held : List ℕ) → IsSole bytes tag start held → sole_refusals bytes tag ≡ []
sole_holds bytes tag start held h =
    both_none (head_refusals bytes) (tag_refusals (tagged bytes tag)) h.container (ap tag_refusals (one_number bytes tag start held h))

-- and back
the_number : (xs : List ℕ) → tag_refusals xs ≡ [] → (i : ℕ) × (xs ≡ i ∷ [])
the_number [] h = cc
the_number (i ∷ []) h = (i, refl)
the_number (i ∷ j ∷ rest) h = cc

number_listed : (bytes : List ℕ) (tag i : ℕ) → tagged bytes tag ≡ i ∷ [] → i < count_of bytes
number_listed bytes tag i e =
    let m : Has (i ∷ []) i = inl refl in
    let r = within bytes tag i 0 (count_of bytes) (subst (λ l. Has l i) (sym e) m) in
    omega (arith, r.1)

sole_at : (bytes : List ℕ) (tag i : ℕ) → IsContainer bytes → tagged bytes tag ≡ i ∷ [] → IsSole bytes tag (offset_of bytes i + 8) (content bytes i)
sole_at bytes tag i h e = record {
  container = h;
  number = i;
  offset = offset_of bytes i;
  behind = refl;
  chunk = chunk_at bytes i tag h (number_listed bytes tag i e) (sym (sole_named bytes tag i e));
  only = only bytes tag i e;
}

pub sole_found : (bytes : List ℕ) (tag : ℕ) → sole_refusals bytes tag ≡ [] → (start : ℕ) × ((held : List ℕ) × IsSole bytes tag start held)
sole_found bytes tag h =
    let n = the_number (tagged bytes tag) (later_none (head_refusals bytes) _ h) in
    (offset_of bytes n.0 + 8, (content bytes n.0, sole_at bytes tag n.0 (earlier_none (head_refusals bytes) _ h) n.1))

-- the size of the chunk SHEX
right : (a : ℕ) → 8 ≤ a → a % 4 ≡ 0 → is_wrong_size a ≡ false
right a h k = neither _ _ (at_least a 8 h) (same_word (a % 4) 0 k)

pub shex_holds : (bytes held : List ℕ) → IsShex bytes held → 8 ≤ length held → length held % 4 ≡ 0 → shex_refusals bytes ≡ []
shex_holds bytes held h l w =
    let s = h.sole in
    let e : length held ≡ size_of bytes s.number = s.chunk.sized in
    both_none (sole_refusals bytes shex_tag) (size_refusals bytes (tagged bytes shex_tag)) (sole_holds bytes shex_tag h.start held s)
    (ap (size_refusals bytes) (one_number bytes shex_tag h.start held s)
    ∙ unbroken_last (is_wrong_size (size_of bytes s.number)) C9 (place_of s.number)
    (right (size_of bytes s.number) (omega (arith, e, l)) (subst (λ n. n % 4 ≡ 0) e w)))

kept_size : (b : Bool) (p : ℕ) → broken b C9 p ≡ [] → b ≡ false
kept_size true p h = cc
kept_size false p h = refl

not_wrong : (a : ℕ) → is_wrong_size a ≡ false → (8 ≤ a) × (a % 4 ≡ 0)
not_wrong a h = (grind (arith, nat_tests), grind (arith, nat_tests))

pub shex_found : (bytes : List ℕ) → shex_refusals bytes ≡ [] → (held : List ℕ) × (IsShex bytes held × (8 ≤ length held) × (length held % 4 ≡ 0))
shex_found bytes h =
    let s = earlier_none (sole_refusals bytes shex_tag) _ h in
    let container = earlier_none (head_refusals bytes) _ s in
    let n = the_number (tagged bytes shex_tag) (later_none (head_refusals bytes) _ s) in
    let one = sole_at bytes shex_tag n.0 container n.1 in
    let e : length (content bytes n.0) ≡ size_of bytes n.0 = content_size bytes n.0 container (number_listed bytes shex_tag n.0 n.1) in
    let size = kept_size (is_wrong_size (size_of bytes n.0)) (place_of n.0)
    (sym (ap (size_refusals bytes) n.1) ∙ later_none (sole_refusals bytes shex_tag) _ h) in
    let r = not_wrong (size_of bytes n.0) size in
    (content bytes n.0, (record { start = offset_of bytes n.0 + 8; sole = one }, omega (arith, e, r.0), subst (λ k. k % 4 ≡ 0) (sym e) r.1))
