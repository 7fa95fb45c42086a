-- Numbers, a digit at a time, and those that are written.
use Rattle.std.proofs.Common.{◌≡◌, ℕ, suc, ◌+◌, ◌-◌, ◌*◌, ◌^◌, ◌<◌, ◌≤◌, Bool, true, false, cond, eqb, nat_lt, nat_le, List, [], ◌∷◌, length, get_or, take, Some, None, refl, sym, ap, ◌∙◌, subst, arith}
use Rattle.std.specs.Prelude.{◌&&◌, not}
use Rattle.std.specs.Char.{is_ascii_digit, digit_value}
use Rattle.std.specs.Fmt.{decimal}
use Rattle.std.specs.List.{list_all}
use Rattle.std.specs.Str.Parse.{AllDigits, digits_value}
use Rattle.std.proofs.Math.Nat.{pow-suc}
use Rattle.std.proofs.lemmas.Fmt.{decimal_is_IsNumeral, length-decimal-le}
use Rattle.std.proofs.lemmas.Int.Digits.{digits_value_more}
use Rattle.std.proofs.lemmas.List.Folds.{list_all_at, list_all_more}
use Rattle.std.proofs.lemmas.Str.{digit_value_digit}
use Rattle.std.proofs.lemmas.Str.Parse.{digits_value_short, numerals_by_value, tells_digits}
use Rattle.text_lines.specs.Lines.{lacks}
use Rattle.text_lines.specs.Numbers.{number_of}
use Rattle.text_lines.specs.Parts.{is_word}

-- READING
pub all_passed : (digits : List ℕ) (i : ℕ) → i < length digits → list_all is_ascii_digit (take i digits) ≡ true
    → is_ascii_digit (get_or digits i 0) ≡ true → list_all is_ascii_digit (take (i + 1) digits) ≡ true
all_passed digits i h before here = list_all_more is_ascii_digit digits i 0 h ∙ cc (before, here)

pub no_number : (digits : List ℕ) (i : ℕ) → i < length digits → is_ascii_digit (get_or digits i 0) ≡ false → number_of digits ≡ None
no_number digits i h no_digit =
    ap (λ t. cond (nat_lt 0 (length digits) && (nat_le (length digits) 10 && t)) (Some (digits_value 10 digits)) None)
    (list_all_at is_ascii_digit digits i 0 h no_digit)
    ∙ none_of (nat_lt 0 (length digits)) (nat_le (length digits) 10)
  where
    none_of : (a b : Bool) → cond (a && (b && false)) (Some (digits_value 10 digits)) None ≡ None
    none_of true true = refl
    none_of true false = refl
    none_of false b = refl

digit_below : (c : ℕ) → is_ascii_digit c ≡ true → (digit_value c ≡ c - 48) × (c - 48 < 10)
digit_below c h =
    let r : (48 ≤ c) × (c ≤ 57) = (omega (arith, within.0), omega (arith, within.1)) in
    let v = digit_value_digit c r in
    (omega (arith, v, r.0), omega (arith, r.1))
  where
    within : (48 ≤ c) × (c ≤ 57)
    within = grind arith

-- one more digit
pub one_more_digit : (digits : List ℕ) (i value : ℕ) → i < length digits → is_ascii_digit (get_or digits i 0) ≡ true
    → value ≡ digits_value 10 (take i digits) → value < 10 ^ i
    → (value * 10 + (get_or digits i 0 - 48) ≡ digits_value 10 (take (i + 1) digits)) × (value * 10 + (get_or digits i 0 - 48) < 10 ^ (i + 1))
one_more_digit digits i value h digit e small =
    let d = digit_below (get_or digits i 0) digit in (
      ap (λ n. n * 10 + (get_or digits i 0 - 48)) e ∙ ap (λ n. digits_value 10 (take i digits) * 10 + n) (sym d.0) ∙ sym (digits_value_more 10 digits i h),
      subst (λ n. value * 10 + (get_or digits i 0 - 48) < n) (sym (ten-suc i)) (omega (arith, small, d.1)),
    )
  where
    ten-suc : (n : ℕ) → 10 ^ (n + 1) ≡ 10 ^ n * 10
    ten-suc n = let e : n + 1 ≡ suc n = omega arith in ap (λ m. 10 ^ m) e ∙ pow-suc 10 n

-- WRITING
digits_pass : (ds : List ℕ) → AllDigits 10 ds → list_all is_ascii_digit ds ≡ true
digits_pass [] h = refl
digits_pass (d ∷ ds) h = rw (passes d h.0, digits_pass ds h.1) refl where
  passes : (c : ℕ) → digit_value c < 10 → is_ascii_digit c ≡ true
  passes c h = grind arith

digits_lack : (ds : List ℕ) → AllDigits 10 ds → lacks 32 ds ≡ true
digits_lack [] h = refl
digits_lack (d ∷ ds) h = rw (other d h.0, digits_lack ds h.1) refl where
  other : (c : ℕ) → digit_value c < 10 → not (eqb c 32) ≡ true
  other c h = grind arith

above : (n : ℕ) → 0 < n → nat_lt 0 n ≡ true
above n h = grind arith

pub number_again : (n : ℕ) → n < 10 ^ 10 → number_of (decimal n) ≡ Some n
number_again n h =
    let d = decimal_is_IsNumeral n (omega (arith, h)) in
    rw (above (length (decimal n)) d.0.0, few (length (decimal n)) (length-decimal-le 10 n (omega arith) h (omega (arith, h))), digits_pass (decimal n) d.0.1, d.1)
    refl
  where
    few : (k : ℕ) → k ≤ 10 → nat_le k 10 ≡ true
    few k h = grind arith

pub decimal_word : (n : ℕ) → n < 2 ^ 64 → is_word (decimal n) ≡ true
decimal_word n h =
    let d = decimal_is_IsNumeral n h in rw (above (length (decimal n)) d.0.0, digits_lack (decimal n) d.0.1) refl

-- what is read
all_digits : (ds : List ℕ) → list_all is_ascii_digit ds ≡ true → AllDigits 10 ds
all_digits [] h = tt
all_digits (d ∷ ds) h = let p = both (is_ascii_digit d) (list_all is_ascii_digit ds) h in (below d p.0, all_digits ds p.1) where
  both : (a b : Bool) → (a && b) ≡ true → (a ≡ true) × (b ≡ true)
  both true b h = (refl, h)
  both false b h = absurd (cc h)

  below : (c : ℕ) → is_ascii_digit c ≡ true → digit_value c < 10
  below c h = let d = digit_below c h in omega (arith, d.0, d.1)

pub number_small : (digits : List ℕ) (n : ℕ) → number_of digits ≡ Some n → n < 10 ^ 10
number_small digits n h =
    let f = found (nat_lt 0 (length digits)) (nat_le (length digits) 10) (list_all is_ascii_digit digits) h in
    subst (λ m. m < 10 ^ 10) f.2
    (digits_value_short (numerals_by_value (AllDigits 10) tells_digits) digits 10 (all_digits digits f.1) (few (length digits) f.0))
  where
    found : (a b c : Bool) → cond (a && (b && c)) (Some (digits_value 10 digits)) None ≡ Some n
        → (b ≡ true) × (c ≡ true) × (digits_value 10 digits ≡ n)
    found true true true e = (refl, refl, cc e)
    found true true false e = absurd (cc e)
    found true false c e = absurd (cc e)
    found false b c e = absurd (cc e)

    few : (k : ℕ) → nat_le k 10 ≡ true → k ≤ 10
    few k h = grind arith
