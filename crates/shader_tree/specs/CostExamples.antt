-- What instructions cost that are dense for their length, as statements of the tree: each stays below 256 words and
-- 48 ids for each of its words.
use Rattle.std.specs.Prelude.{◌≡◌, ℕ, ◌+◌, ◌*◌, nat_le, Bool, true, ◌&&◌, [], ◌∷◌, refl}
use Rattle.word_base.specs.declared.arithmetic.Binary.TheVariants.{Iadd}
use Rattle.word_base.specs.declared.arithmetic.Paired.TheVariants.{Udiv}
use Rattle.word_base.specs.declared.event.Act.TheVariants.{Sub}
use Rattle.word_base.specs.declared.event.Classes.{Classes}
use Rattle.word_base.specs.declared.event.Room.TheVariants.{Resource, Uav, Counter}
use Rattle.word_base.specs.declared.event.Scope.TheVariants.{Device}
use Rattle.shader_tree.specs.declared.node.Comparison.TheVariants.{ULess, Unequal}
use Rattle.shader_tree.specs.declared.node.Space.TheVariants.{Temps, Indexable}
use Rattle.shader_tree.specs.Terms.{Term, Word, Scratch, Read, Length, Two, Insert, First, Second, Quotient, Product, Pick, Compare, Both, Set, Write, Load, Store, Atomic, Sync, Guard, Loop, Case, Break, Then, Nothing}
use Rattle.shader_tree.specs.Costs.{Cost, cost, words_in, ids_in}
use Rattle.shader_tree.specs.ExampleParts.{all, r0}

abbrev pub sums : Term → Cost
sums t = cost (words_in t) (ids_in t)

abbrev pub is_below : ℕ → Term → Bool
is_below length t = nat_le (words_in t) (256 * length) && nat_le (ids_in t) (48 * length)

abbrev pub each : (ℕ → Term) → Term
each f = all (f 0 ∷ f 1 ∷ f 2 ∷ f 3 ∷ [])

-- THE OPERAND x#[r0.x]: its index and the word at which it starts are kept, in two scratch words. Past its end it is
-- 0, and not written.
abbrev pub inside : ℕ → Term
inside n = Compare ULess (Scratch (2 * n)) (Word 4)

abbrev pub found : ℕ → Term
found n = all (Set (2 * n) (r0 0) ∷ Set (2 * n + 1) (Product (Pick (inside n) (Scratch (2 * n)) (Word 0)) 4) ∷ [])

abbrev pub at : ℕ → ℕ → Term
at n c = Two Iadd (Scratch (2 * n + 1)) (Word c)

abbrev pub source : ℕ → ℕ → Term
source n c = Pick (inside n) (Read (Indexable n) (at n c)) (Word 0)

abbrev pub target : ℕ → ℕ → ℕ → Term
target n c scratch = Guard (inside n) (Write (Indexable n) (at n c) (Scratch scratch))

-- swapc x0[r0.x].xyzw, x1[r0.x].xyzw, x2[r0.x].xyzw, x3[r0.x].xyzw, x4[r0.x].xyzw: 21 words
abbrev pub swapped : Term
swapped =
    let first = λ (c : ℕ). Set (20 + c) (Pick (Compare Unequal (source 2 c) (Word 0)) (source 4 c) (source 3 c)) in
    let second = λ (c : ℕ). Set (30 + c) (Pick (Compare Unequal (source 2 c) (Word 0)) (source 3 c) (source 4 c)) in
    all (
    found 0 ∷ found 1 ∷ found 2 ∷ found 3 ∷ found 4 ∷ each first ∷ each second ∷
    each (λ c. target 0 c (20 + c)) ∷ each (λ c. target 1 c (30 + c)) ∷ [])

pub swapped_costs : sums swapped ≡ cost 3035 597
swapped_costs = refl

pub swapped_below : is_below 21 swapped ≡ true
swapped_below = refl

-- udiv x0[r0.x].xyzw, x1[r0.x].xyzw, x2[r0.x].xyzw, x3[r0.x].xyzw: 17 words
abbrev pub divided : Term
divided =
    all (
    found 0 ∷ found 1 ∷ found 2 ∷ found 3 ∷
    each (λ c. Set (20 + c) (First Udiv (source 2 c) (source 3 c))) ∷
    each (λ c. Set (30 + c) (Second Udiv (source 2 c) (source 3 c))) ∷
    each (λ c. target 0 c (20 + c)) ∷ each (λ c. target 1 c (30 + c)) ∷ [])

pub divided_costs : sums divided ≡ cost 2420 468
divided_costs = refl

pub divided_below : is_below 17 divided ≡ true
divided_below = refl

-- bfi r0.xyzw, r0.xyzw, r0.xyzw, r0.xyzw, r0.xyzw: 11 words
abbrev pub written : ℕ → ℕ → Term
written c scratch = Write Temps (Word c) (Scratch scratch)

abbrev pub inserted : Term
inserted = all (each (λ c. Set (20 + c) (Insert (r0 c) (r0 c) (r0 c) (r0 c))) ∷ each (λ c. written c (20 + c)) ∷ [])

pub inserted_costs : sums inserted ≡ cost 648 128
inserted_costs = refl

pub inserted_below : is_below 11 inserted ≡ true
inserted_below = refl

-- A structured view of 32 bytes a structure: the index stands in scratch word 0 and the offset in 1. First the index
-- is tested, and only behind it the product is the word's.
abbrev pub is_there : ℕ → Term
is_there c =
    Both (Compare ULess (Scratch 0) (Quotient (Length (Resource 0)) 8))
    (Compare ULess (Two Iadd (Quotient (Scratch 1) 4) (Word c)) (Word 8))

abbrev pub place : ℕ → Term
place c = Two Iadd (Product (Scratch 0) 8) (Two Iadd (Quotient (Scratch 1) 4) (Word c))

-- ld_structured r0.xyzw, r0.x, r0.y, t0.xyzw: 9 words
abbrev pub loaded : Term
loaded = all (
    Set 0 (r0 0) ∷ Set 1 (r0 1) ∷ each (λ c. Set (20 + c) (Word 0)) ∷
    each (λ c. Guard (is_there c) (Load (20 + c) (Resource 0) (place c))) ∷ each (λ c. written c (20 + c)) ∷ [])

pub loaded_costs : sums loaded ≡ cost 924 176
loaded_costs = refl

pub loaded_below : is_below 9 loaded ≡ true
loaded_below = refl

-- store_structured u0.xyzw, r0.x, r0.y, r0.xyzw: 9 words
abbrev pub stored : Term
stored = all (Set 0 (r0 0) ∷ Set 1 (r0 1) ∷ each (λ c. Guard (is_there c) (Store (Uav 0) (place c) (r0 c))) ∷ [])

pub stored_costs : sums stored ≡ cost 832 160
stored_costs = refl

pub stored_below : is_below 9 stored ≡ true
stored_below = refl

-- imm_atomic_consume r0.x, u0: 5 words
abbrev pub consumed : Term
consumed = all (
    Set 0 (Word 0) ∷ Set 1 (Word 0) ∷
    Guard (Compare ULess (Word 0) (Length (Counter 0))) (Then
    (Atomic 0 (Counter 0) (Word 0) Sub (Word 1) (Word 0)) (Set 1 (Two Iadd (Scratch 0) (Word 4294967295)))) ∷
    written 0 1 ∷ [])

pub consumed_costs : sums consumed ≡ cost 148 26
consumed_costs = refl

pub consumed_below : is_below 5 consumed ≡ true
consumed_below = refl

-- Instructions of one word: sync, break, loop. And a case, of 3 words.
abbrev pub all_memory : Classes
all_memory = record { buffers = true; shared = true }

pub sync_below : is_below 1 (Sync true Device all_memory) ≡ true
sync_below = refl

pub break_below : is_below 1 Break ≡ true
break_below = refl

pub loop_below : is_below 1 (Loop Nothing) ≡ true
loop_below = refl

pub case_below : is_below 3 (Case 7 Nothing) ≡ true
case_below = refl
