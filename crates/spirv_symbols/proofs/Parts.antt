-- The operands of a row, by their places.
use Rattle.std.proofs.Common.{◌≡◌, ℕ, zero, suc, ◌+◌, ◌-◌, ◌<◌, ◌≤◌, List, [], ◌∷◌, ◌++◌, length, take, map, Bool, true, false, Some, refl, ap, ◌∙◌, arith, length-append}
use Rattle.std.specs.Prelude.{slice_get}
use Rattle.spirv_symbols.specs.declared.symbol.Symbol.TheVariants.{Constant}
use Rattle.spirv_symbols.specs.declared.row.Part.{Part}
use Rattle.spirv_symbols.specs.declared.row.Part.TheVariants.{Of}
use Rattle.spirv_symbols.specs.RowValues.{gathered}
use Rattle.spirv_symbols.proofs.EntriesLaws.{get_front}
use Rattle.spirv_symbols.proofs.ContextsLaws.{map_get}

get_take : {X : Type 0} (xs : List X) (n k : ℕ) (x : X) → k < n → slice_get xs k ≡ Some x → slice_get (take n xs) k ≡ Some x
get_take [] n k x lt h = absurd (cc h)
get_take (z ∷ zs) zero k x lt h = absurd (omega (arith, lt))
get_take (z ∷ zs) (suc n) zero x lt h = h
get_take (z ∷ zs) (suc n) (suc k) x lt h = get_take zs n k x (omega (arith, lt)) h

take_length : {X : Type 0} (xs : List X) (n : ℕ) → n ≤ length xs → length (take n xs) ≡ n
take_length xs zero h = refl
take_length [] (suc n) h = absurd (omega (arith, h))
take_length (z ∷ zs) (suc n) h = ap suc (take_length zs n (omega (arith, h)))

get_behind : {X : Type 0} (xs ys : List X) (k : ℕ) → slice_get (xs ++ ys) (length xs + k) ≡ slice_get ys k
get_behind [] ys k = let e : 0 + k ≡ k = omega arith in ap (slice_get ys) e
get_behind (z ∷ zs) ys k =
    let e : suc (length zs) + k ≡ suc (length zs + k) = omega arith in ap (slice_get (z ∷ zs ++ ys)) e ∙ get_behind zs ys k

pub part_front : (parts : List Part) (b : Bool) (ws : List ℕ) (n k : ℕ) (x : Part) → k < n → slice_get parts k ≡ Some x
    → slice_get (take n parts ++ gathered b ws) k ≡ Some x
part_front parts b ws n k x lt h = get_front (take n parts) (gathered b ws) k x (get_take parts n k x lt h)

map_length : {X Y : Type 0} (f : X → Y) (xs : List X) → length (map f xs) ≡ length xs
map_length f [] = refl
map_length f (x ∷ xs) = ap suc (map_length f xs)

pub gathered_length : (b : Bool) (ws : List ℕ) → length (gathered b ws) ≤ length ws
gathered_length true ws = omega (arith, map_length (λ w. Of (Constant w)) ws)
gathered_length false ws = omega arith

pub word_within : (parts : List Part) (b : Bool) (ws : List ℕ) (n k : ℕ) → n ≤ length parts → n ≤ k → k < length (take n parts ++ gathered b ws)
    → k - n < length ws
word_within parts b ws n k le h lt =
    omega (arith, le, h, lt, length-append (take n parts) (gathered b ws), take_length parts n le, gathered_length b ws)

pub part_back : (parts : List Part) (b : Bool) (ws : List ℕ) (n k w : ℕ) → n ≤ length parts → n ≤ k → k < length (take n parts ++ gathered b ws)
    → slice_get ws (k - n) ≡ Some w → slice_get (take n parts ++ gathered b ws) k ≡ Some (Of (Constant w))
part_back parts false ws n k w le h lt i =
    absurd (omega (arith, le, h, lt, length-append (take n parts) [], take_length parts n le))
part_back parts true ws n k w le h lt i =
    let e : k ≡ length (take n parts) + (k - n) = omega (arith, h, take_length parts n le) in
    ap (slice_get (take n parts ++ gathered true ws)) e ∙ get_behind (take n parts) (gathered true ws) (k - n) ∙ map_get (λ w. Of (Constant w)) ws
    (k - n) w i
