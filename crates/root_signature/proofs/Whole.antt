-- Which records are whole, of those that stand one behind the other.
use Rattle.std.proofs.Common.{◌≡◌, ℕ, ◌+◌, ◌-◌, ◌*◌, ◌/◌, ◌<◌, ◌≤◌, Bool, true, false, List, length, refl, arith}
use Rattle.std.proofs.Math.Nat.{mul-le-mul_left, mul-div-le, mul-add, lt-div-mul-add, mul_assoc, mul_comm}
use Rattle.std.proofs.lemmas.Bool.Decides.{nat_tests}
use Rattle.std.specs.Prelude.{◌&&◌, if◌then◌else◌}
use Rattle.root_signature.specs.declared.runs.Test.{Test}
use Rattle.root_signature.specs.declared.runs.Test.TheVariants.{Known, Bare}
use Rattle.root_signature.specs.Layout.{words_from, is_whole, has_flags, range_words}
use Rattle.root_signature.specs.Runs.{passes}

-- a record that is whole ends in the content
pub fits : (content : List ℕ) (at words : ℕ) → 0 < words → is_whole content at words ≡ true → at + 4 * words ≤ length content
unfolding words_from
fits content at words h e = grind (arith, nat_tests)

pub whole : (content : List ℕ) (at words : ℕ) → at + 4 * words ≤ length content → is_whole content at words ≡ true
unfolding words_from
whole content at words h = grind (arith, nat_tests)

-- no record begins behind the end
pub past_end : (content : List ℕ) (at words : ℕ) → 0 < words → length content ≤ at → is_whole content at words ≡ false
unfolding words_from
past_end content at words h l = grind (arith, nat_tests)

pub some_words : (content : List ℕ) → 0 < range_words content
some_words content = at (has_flags content) where
  at : (t : Bool) → 0 < (if t then 6 else 5)
  at true = omega arith
  at false = omega arith

none_passes : (a b : Bool) → a ≡ false → (a && b) ≡ false
none_passes true b e = absurd cc
none_passes false b e = refl

pub passes_past : (test : Test) (content : List ℕ) (at : ℕ) → length content ≤ at → passes test content at ≡ false
passes_past Known content at l = none_passes _ _ (past_end content at (range_words content) (some_words content) l)
passes_past Bare content at l = none_passes _ _ (past_end content at (range_words content) (some_words content) l)

-- Of records one behind the other those are whole whose number is below the quotient of the words that there are.
pub before_end : (content : List ℕ) (at words k : ℕ) → 0 < words → k < words_from content at / words → at + 4 * words * k + 4 * words ≤ length content
unfolding words_from
before_end content at words k p l =
    near (length content) at ((length content - at) / 4) words k ((length content - at) / 4 / words) (omega arith)
    (mul-le-mul_left {m = k + 1} {n = (length content - at) / 4 / words} words (omega arith)) (mul-div-le ((length content - at) / 4) words) (mul-add words k 1) p where
      near : (n at m w k q : ℕ) → m ≡ (n - at) / 4 → w * (k + 1) ≤ w * q → w * q ≤ m → w * (k + 1) ≡ w * k + w * 1 → 0 < w → at + 4 * w * k + 4 * w ≤ n
      near n at m w k q e a b d p = omega (arith, four w k) where
        four : (w k : ℕ) → 4 * w * k ≡ 4 * (w * k)
        four w k = mul_assoc 4 w k

pub behind_end : (content : List ℕ) (at words k : ℕ) → 0 < words → words_from content at / words ≤ k → words_from content (at + 4 * words * k) < words
unfolding words_from
behind_end content at words k p l =
    far (length content) at ((length content - at) / 4) words k ((length content - at) / 4 / words) (omega arith)
    (mul-le-mul_left {m = (length content - at) / 4 / words} {n = k} words l) (lt-div-mul-add {a = (length content - at) / 4} {b = words} p) p where
      far : (n at m w k q : ℕ) → m ≡ (n - at) / 4 → w * q ≤ w * k → m < q * w + w → 0 < w → (n - (at + 4 * w * k)) / 4 < w
      far n at m w k q e a b p = omega (arith, four w k, mul_comm q w) where
        four : (w k : ℕ) → 4 * w * k ≡ 4 * (w * k)
        four w k = mul_assoc 4 w k

pub short : (content : List ℕ) → length content < 12 → is_whole content 0 3 ≡ false
unfolding words_from
short content l = grind (arith, nat_tests)
