-- The bytes of words, one by one and in pieces.
use Rattle.std.proofs.Common.{◌≡◌, ℕ, zero, suc, ◌+◌, ◌*◌, ◌-◌, ◌/◌, ◌%◌, ◌^◌, ◌<◌, ◌≤◌, ⊎_elim, List, [], ◌∷◌, length, refl, sym, ap, ◌∙◌, arith, take, drop}
use Rattle.std.specs.Prelude.{bit_and, slice_get, slice_index, Some}
use Rattle.std.proofs.lemmas.Bool.{cases_lt}
use Rattle.std.proofs.lemmas.List.{drop-drop}
use Rattle.std.proofs.lemmas.Nat.{and_mask}
use Rattle.std.proofs.lemmas.Option.{get_or_from_slice_get}
use Rattle.word_base.specs.Words.{bytes_of}
use Rattle.translator.specs.Pieces.{byte_of}

first_byte : (w : ℕ) → w % 256 ≡ w / 2 ^ (8 * (0 % 4)) % 256
first_byte w = omega arith

-- four bytes on
next_byte : (w : ℕ) (ws : List ℕ) (j : ℕ) → byte_of (w ∷ ws) (suc (suc (suc (suc j)))) ≡ byte_of ws j
next_byte w ws j =
    let k = suc (suc (suc (suc j))) in
    let q : k / 4 ≡ suc (j / 4) = omega arith in
    let r : k % 4 ≡ j % 4 = omega arith in
    ap (λ n. slice_index (w ∷ ws) n / 2 ^ (8 * (k % 4)) % 256) q
    ∙ ap (λ n. slice_index ws (j / 4) / 2 ^ (8 * n) % 256) r

pub byte_is : (ws : List ℕ) (j : ℕ) → j < 4 * length ws → slice_index (bytes_of ws) j ≡ byte_of ws j
byte_is [] j l = absurd (omega (arith, l))
byte_is (w ∷ ws) zero l = first_byte w
byte_is (w ∷ ws) (suc zero) l = refl
byte_is (w ∷ ws) (suc (suc zero)) l = refl
byte_is (w ∷ ws) (suc (suc (suc zero))) l = refl
byte_is (w ∷ ws) (suc (suc (suc (suc j)))) l = byte_is ws j (omega (arith, l)) ∙ sym (next_byte w ws j)

bytes_long : (ws : List ℕ) → length (bytes_of ws) ≡ 4 * length ws
bytes_long [] = refl
bytes_long (w ∷ ws) = let e = bytes_long ws in omega (arith, e)

same_front : (n : ℕ) (xs ys : List ℕ) → n ≤ length xs → n ≤ length ys
    → ((k : ℕ) → k < n → slice_index xs k ≡ slice_index ys k) → take n xs ≡ take n ys
same_front zero xs ys l m h = refl
same_front (suc n) [] ys l m h = absurd (omega (arith, l))
same_front (suc n) (x ∷ xs) [] l m h = absurd (omega (arith, m))
same_front (suc n) (x ∷ xs) (y ∷ ys) l m h =
    ap (λ z. z ∷ take n xs) (h 0 (omega arith))
    ∙ ap (λ zs. y ∷ zs) (same_front n xs ys (omega (arith, l)) (omega (arith, m)) (λ k k'. h (suc k) (omega (arith, k'))))

index_behind : (at k : ℕ) (xs : List ℕ) → slice_index (drop at xs) k ≡ slice_index xs (at + k)
index_behind zero k xs = ap (slice_index xs) (let e : k ≡ 0 + k = omega arith in e)
index_behind (suc at) k [] = refl
index_behind (suc at) k (x ∷ xs) = index_behind at k xs ∙ ap (slice_index (x ∷ xs)) (let e : suc (at + k) ≡ suc at + k = omega arith in e)

length_behind : (at : ℕ) (xs : List ℕ) → at ≤ length xs → at + length (drop at xs) ≡ length xs
length_behind zero xs l = omega arith
length_behind (suc at) [] l = absurd (omega (arith, l))
length_behind (suc at) (x ∷ xs) l = let e = length_behind at xs (omega (arith, l)) in omega (arith, e)

-- A PIECE of the bytes from a place on, whose bytes are those.
pub filled : (ws piece : List ℕ) (at n : ℕ) → n ≤ length piece → at + n ≤ 4 * length ws
    → ((k : ℕ) → k < n → slice_index piece k ≡ byte_of ws (at + k)) → take n piece ≡ take n (drop at (bytes_of ws))
filled ws piece at n l m h =
    let long = bytes_long ws in
    let behind = length_behind at (bytes_of ws) (omega (arith, long, m)) in
    same_front n piece (drop at (bytes_of ws)) l (omega (arith, behind, long, m))
    (λ k k'. h k k' ∙ (sym (byte_is ws (at + k) (omega (arith, k', m))) ∙ sym (index_behind at k (bytes_of ws))))

-- a word's byte, as it is taken
pub byte_taken : (ws : List ℕ) (place w : ℕ) → slice_get ws (place / 4) ≡ Some w
    → bit_and (w / 2 ^ (8 * (place % 4))) 255 ≡ byte_of ws place
byte_taken ws place w e =
    and_mask (w / 2 ^ (8 * (place % 4))) 8
    ∙ ap (λ x. x / 2 ^ (8 * (place % 4)) % 256) (sym (get_or_from_slice_get ws (place / 4) w 0 e))

-- a word's byte, among those of the words that it is one of
byte_within : (ws : List ℕ) (i w k : ℕ) → slice_get ws i ≡ Some w → k < 4 → byte_of (w ∷ []) k ≡ byte_of ws (4 * i + k)
byte_within ws i w k e l =
    let z : k / 4 ≡ 0 = omega arith in
    let q : (4 * i + k) / 4 ≡ i = omega arith in
    let r : (4 * i + k) % 4 ≡ k % 4 = omega arith in
    ap (λ n. slice_index (w ∷ []) n / 2 ^ (8 * (k % 4)) % 256) z
    ∙ (ap (λ x. x / 2 ^ (8 * (k % 4)) % 256) (sym (get_or_from_slice_get ws i w 0 e))
    ∙ (ap (λ n. slice_index ws n / 2 ^ (8 * (k % 4)) % 256) (sym q)
    ∙ ap (λ n. slice_index ws ((4 * i + k) / 4) / 2 ^ (8 * n) % 256) (sym r)))

-- One word more stands in a piece, behind the words from a FIRST one on.
pub word_more : (ws piece longer : List ℕ) (first i w : ℕ) → first ≤ i → slice_get ws i ≡ Some w
    → ((k : ℕ) → k < 4 * (i - first) → slice_index piece k ≡ byte_of ws (4 * first + k))
    → ((k : ℕ) → k < 4 * (i - first) → slice_index longer k ≡ slice_index piece k)
    → ((k : ℕ) → k < 4 → slice_index longer (4 * (i - first) + k) ≡ byte_of (w ∷ []) k)
    → (k : ℕ) → k < 4 * (i + 1 - first) → slice_index longer k ≡ byte_of ws (4 * first + k)
word_more ws piece longer first i w o e front before bytes k l =
    ⊎_elim (λ (m : k < 4 * (i - first)). before k m ∙ front k m)
    (λ (m : 4 * (i - first) ≤ k).
    let j = k - 4 * (i - first) in
    let s : j < 4 = omega arith in
    let p : k ≡ 4 * (i - first) + j = omega arith in
    let q : 4 * i + j ≡ 4 * first + k = omega arith in
    ap (slice_index longer) p ∙ (bytes j s ∙ (byte_within ws i w j e s ∙ ap (byte_of ws) q)))
    (cases_lt k (4 * (i - first)))

-- and nothing has changed behind it
pub same_behind : (was piece longer : List ℕ) (n m : ℕ) → m ≡ n + 4
    → drop n piece ≡ drop n was → drop (n + 4) longer ≡ drop (n + 4) piece → drop m longer ≡ drop m was
same_behind was piece longer n m e s t =
    ap (λ k. drop k longer) e
    ∙ (t ∙ (sym (drop-drop 4 n piece) ∙ (ap (drop 4) s ∙ (drop-drop 4 n was ∙ ap (λ k. drop k was) (sym e)))))
