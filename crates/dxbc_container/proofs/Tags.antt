-- The chunks of a tag.
use Rattle.std.proofs.Common.{◌≡◌, ℕ, zero, suc, ◌+◌, ◌-◌, ◌<◌, ◌≤◌, ◌⊎◌, inl, inr, ⊎_elim, List, [], ◌∷◌, Bool, true, false, if◌then◌else◌, nat_eq, refl, sym, ap, ◌∙◌, subst, arith}
use Rattle.std.proofs.lemmas.Bool.Decides.{nat_tests}
use Rattle.dxbc_container.specs.Layout.{count_of, tag_of}
use Rattle.dxbc_container.specs.Refusals.{tagged_from, tagged}
use Rattle.dxbc_container.specs.Searches.{tagged_on}

one_more : (bytes : List ℕ) (tag i j n m : ℕ) → n ≡ suc m → j ≡ suc i
    → tagged_from bytes tag i n ≡ (if nat_eq (tag_of bytes i) tag then i ∷ tagged_from bytes tag j m else tagged_from bytes tag j m)
one_more bytes tag i j n m e f = rw (e, f) refl

step_on : (bytes : List ℕ) (tag i : ℕ) → i < count_of bytes
    → tagged_on bytes tag i ≡ (if nat_eq (tag_of bytes i) tag then i ∷ tagged_on bytes tag (i + 1) else tagged_on bytes tag (i + 1))
step_on bytes tag i h = one_more bytes tag i (i + 1) (count_of bytes - i) (count_of bytes - (i + 1)) (omega arith) (omega arith)

chosen : (b : Bool) (i : ℕ) (rest : List ℕ) → b ≡ true → (if b then i ∷ rest else rest) ≡ i ∷ rest
chosen true i rest e = refl
chosen false i rest e = cc

passed : (b : Bool) (i : ℕ) (rest : List ℕ) → b ≡ false → (if b then i ∷ rest else rest) ≡ rest
passed true i rest e = cc
passed false i rest e = refl

is_equal : (a b : ℕ) → a ≡ b → nat_eq a b ≡ true
is_equal a b h = grind (arith, nat_tests)

is_other : (a b : ℕ) → (a ≡ b → ⊥) → nat_eq a b ≡ false
is_other a b h = grind (arith, nat_tests)

-- the search meets a chunk of the tag, one of another, and the end
pub meets : (bytes : List ℕ) (tag i : ℕ) → i < count_of bytes → tag_of bytes i ≡ tag → tagged_on bytes tag i ≡ i ∷ tagged_on bytes tag (i + 1)
meets bytes tag i h e = step_on bytes tag i h ∙ chosen (nat_eq (tag_of bytes i) tag) i (tagged_on bytes tag (i + 1)) (is_equal _ _ e)

pub passes : (bytes : List ℕ) (tag i : ℕ) → i < count_of bytes → (tag_of bytes i ≡ tag → ⊥) → tagged_on bytes tag (i + 1) ≡ tagged_on bytes tag i
passes bytes tag i h e = sym (step_on bytes tag i h ∙ passed (nat_eq (tag_of bytes i) tag) i (tagged_on bytes tag (i + 1)) (is_other _ _ e))

pub ends : (bytes : List ℕ) (tag i : ℕ) → count_of bytes ≤ i → tagged_on bytes tag i ≡ []
ends bytes tag i h = let e : count_of bytes - i ≡ 0 = omega arith in ap (λ n. tagged_from bytes tag i n) e

pub from_start : (bytes : List ℕ) (tag : ℕ) → tagged_on bytes tag 0 ≡ tagged bytes tag
from_start bytes tag = let e : count_of bytes - 0 ≡ count_of bytes = omega arith in ap (λ n. tagged_from bytes tag 0 n) e

-- a number stands in a list
abbrev pub Has : List ℕ → ℕ → Type 0
Has [] k = ⊥
Has (a ∷ rest) k = (a ≡ k) ⊎ Has rest k

has_step : (b : Bool) (i k : ℕ) (rest : List ℕ) → Has rest k → Has (if b then i ∷ rest else rest) k
has_step true i k rest h = inr h
has_step false i k rest h = h

has_here : (b : Bool) (i k : ℕ) (rest : List ℕ) → b ≡ true → i ≡ k → Has (if b then i ∷ rest else rest) k
has_here true i k rest e f = inl f
has_here false i k rest e f = cc

here_or_later : (i j : ℕ) → i ≤ j → (i ≡ j) ⊎ (i < j)
here_or_later i j h = grind arith

-- each chunk of the tag is in the list of those of the tag
pub listed : (bytes : List ℕ) (tag k i n : ℕ) → i ≤ k → k < i + n → tag_of bytes k ≡ tag → Has (tagged_from bytes tag i n) k
listed bytes tag k i zero a b e = absurd (omega arith)
listed bytes tag k i (suc n) a b e = ⊎_elim
    (λ (f : i ≡ k). has_here (nat_eq (tag_of bytes i) tag) i k (tagged_from bytes tag (suc i) n)
    (is_equal (tag_of bytes i) tag (ap (tag_of bytes) f ∙ e)) f)
    (λ (l : i < k). has_step (nat_eq (tag_of bytes i) tag) i k (tagged_from bytes tag (suc i) n)
    (listed bytes tag k (suc i) n (omega arith) (omega arith) e))
    (here_or_later i k a)

-- and a chunk in that list has the tag, and is one of the chunks
equal_is : (a b : ℕ) → nat_eq a b ≡ true → a ≡ b
equal_is a b h = grind (arith, nat_tests)

named_step : (bytes : List ℕ) (tag i k : ℕ) (rest : List ℕ) (b : Bool) → nat_eq (tag_of bytes i) tag ≡ b → (Has rest k → tag_of bytes k ≡ tag)
    → Has (if b then i ∷ rest else rest) k → tag_of bytes k ≡ tag
named_step bytes tag i k rest true e h m = ⊎_elim (λ (f : i ≡ k). ap (tag_of bytes) (sym f) ∙ equal_is _ _ e) h m
named_step bytes tag i k rest false e h m = h m

pub named : (bytes : List ℕ) (tag k i n : ℕ) → Has (tagged_from bytes tag i n) k → tag_of bytes k ≡ tag
named bytes tag k i zero m = absurd m
named bytes tag k i (suc n) m =
    named_step bytes tag i k (tagged_from bytes tag (suc i) n) (nat_eq (tag_of bytes i) tag) refl (named bytes tag k (suc i) n) m

-- a list of one number
pub only_one : (xs : List ℕ) (i k : ℕ) → xs ≡ i ∷ [] → Has xs k → k ≡ i
only_one xs i k e m =
    let h : Has (i ∷ []) k = subst (λ l. Has l k) e m in
    ⊎_elim (λ (f : i ≡ k). sym f) (λ m. absurd m) h

pub sole_named : (bytes : List ℕ) (tag i : ℕ) → tagged bytes tag ≡ i ∷ [] → tag_of bytes i ≡ tag
sole_named bytes tag i e = named bytes tag i 0 (count_of bytes) (let h : Has (i ∷ []) i = inl refl in subst (λ l. Has l i) (sym e) h)
