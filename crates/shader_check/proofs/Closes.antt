-- A sound statement closes what it opens, so the end behind it closes the opening in front of it.
use Rattle.std.proofs.Common.{◌≡◌, ℕ, zero, suc, ◌+◌, ◌-◌, ◌<◌, ◌≤◌, inl, inr, List, [], ◌∷◌, ◌++◌, length, take, drop, Bool, true, false, Option, Some, None, refl, sym, ap, ◌∙◌, subst, arith, append_assoc, length-append}
use Rattle.std.specs.Prelude.{slice_range, sum_by, if◌then◌else◌}
use Rattle.std.proofs.Math.Seq.{drop-append-add}
use Rattle.std.proofs.lemmas.Bool.{cases_lt}
use Rattle.std.proofs.lemmas.Bool.Decides.{nat_tests}
use Rattle.std.proofs.lemmas.List.Sums.{sum_by-append}
use Rattle.tpf_decode.specs.Profiles.{Base}
use Rattle.tpf_decode.specs.Opcodes.{meaning_of}
use Rattle.tpf_decode.specs.declared.meaning.Meaning.{Meaning}
use Rattle.tpf_decode.specs.declared.meaning.Meaning.TheVariants as meaning
use Rattle.tpf_program.specs.declared.instruction.Instruction.{Instruction}
use Rattle.tpf_program.specs.Ends.{Part, Opens, Closes, Within, part_of, opens, closes, has, means, is_if, is_loop, is_switch, is_opening, is_closing, is_else, least, is_even, close}
use Rattle.tpf_program.specs.Nesting.{is_label, is_end_of_switch}
use Rattle.shader_check.specs.Statements.{Statement, Nothing, Then, Plain, If, IfElse, Loop, Switch, Label, flattened, Where, stands, is_end_of_if, is_end_of_loop, IsSound}
use Rattle.shader_check.proofs.Paths.{seam}

abbrev open_by : Option Meaning → ℕ
open_by m = if has is_opening m then 1 else 0

abbrev close_by : Option Meaning → ℕ
close_by m = if has is_closing m then 1 else 0

abbrev opening : Instruction → ℕ
opening i = open_by (meaning_of Base i.code)

abbrev closing : Instruction → ℕ
closing i = close_by (meaning_of Base i.code)

abbrev o : List Instruction → ℕ
o xs = sum_by opening xs

abbrev c : List Instruction → ℕ
c xs = sum_by closing xs

-- with so many open in front, never more are closed; and behind it so many are open
pub record Goes (d e : ℕ) (xs : List Instruction) : Type 0 where
  pub few : (k : ℕ) → c (take k xs) ≤ o (take k xs) + d
  pub whole : c xs + e ≡ o xs + d

goes_none : (d : ℕ) → Goes d d []
goes_none d = record { few = λ k. none k; whole = refl }
  where
    none : (k : ℕ) → c (take k []) ≤ o (take k []) + d
    none zero = omega arith
    none (suc k) = omega arith

sum_front : (f : Instruction → ℕ) (i : Instruction) (xs : List Instruction) → sum_by f (i ∷ xs) ≡ f i + sum_by f xs
sum_front f i xs = sum_by-append f (i ∷ []) xs ∙ omega arith

goes_more : (d e f : ℕ) (i : Instruction) (xs : List Instruction) → closing i + e ≡ opening i + d → Goes e f xs → Goes d f (i ∷ xs)
goes_more d e f i xs k h = record { few = few; whole = omega (arith, k, h.whole, sum_front closing i xs, sum_front opening i xs) }
  where
    few : (n : ℕ) → c (take n (i ∷ xs)) ≤ o (take n (i ∷ xs)) + d
    few zero = omega arith
    few (suc n) = omega (arith, sum_front closing i (take n xs), sum_front opening i (take n xs), h.few n, k)

take_behind : (xs ys : List Instruction) (k : ℕ) → take (length xs + k) (xs ++ ys) ≡ xs ++ take k ys
take_behind [] ys k = let z : 0 + k ≡ k = omega arith in ap (λ n. take n ys) z
take_behind (x ∷ xs) ys k = let z : length (x ∷ xs) + k ≡ suc (length xs + k) = omega arith in ap (λ n. take n (x ∷ (xs ++ ys))) z ∙ ap (λ l. x ∷ l) (take_behind xs ys k)

take_before : (xs ys : List Instruction) (k : ℕ) → k ≤ length xs → take k (xs ++ ys) ≡ take k xs
take_before xs ys zero l = refl
take_before [] ys (suc k) l = absurd (omega (arith, l))
take_before (x ∷ xs) ys (suc k) l = ap (λ l. x ∷ l) (take_before xs ys k (omega (arith, l)))

goes_both : (d e f : ℕ) (xs ys : List Instruction) → Goes d e xs → Goes e f ys → Goes d f (xs ++ ys)
goes_both d e f xs ys h k = record {
  few = λ n. elim (cases_lt n (length xs)) [
    | inl s ↦ omega (arith, ap c (take_before xs ys n (omega (arith, s))), ap o (take_before xs ys n (omega (arith, s))), h.few n)
    | inr s ↦
        let z : n ≡ length xs + (n - length xs) = omega (arith, s) in
        let t = ap (λ n. take n (xs ++ ys)) z ∙ take_behind xs ys (n - length xs) in
        let a = ap c t ∙ sum_by-append closing xs (take (n - length xs) ys) in
        let b = ap o t ∙ sum_by-append opening xs (take (n - length xs) ys) in
        omega (arith, a, b, h.whole, k.few (n - length xs))
  ];
  whole = let a = sum_by-append closing xs ys in let b = sum_by-append opening xs ys in omega (arith, a, b, h.whole, k.whole);
}

one : (d e : ℕ) (i : Instruction) → closing i + e ≡ opening i + d → Goes d e (i ∷ [])
one d e i h = goes_more d e e i [] h (goes_none e)

-- what an instruction opens and closes, by its meaning
by_sort : (sort : Meaning → Bool) (x y : ℕ) → ((m : Meaning) → sort m ≡ true → (open_by (Some m) ≡ x) × (close_by (Some m) ≡ y))
    → (i : Instruction) → means Base sort i ≡ true → (opening i ≡ x) × (closing i ≡ y)
by_sort sort x y f i h = by_meaning (meaning_of Base i.code) h
  where
    by_meaning : (m : Option Meaning) → has sort m ≡ true → (open_by m ≡ x) × (close_by m ≡ y)
    by_meaning None h = absurd (cc)
    by_meaning (Some m) h = f m h

if_opens : (m : Meaning) → is_if m ≡ true → (open_by (Some m) ≡ 1) × (close_by (Some m) ≡ 0)
if_opens meaning.If h = (refl, refl)
if_opens m h = absurd (cc)

loop_opens : (m : Meaning) → is_loop m ≡ true → (open_by (Some m) ≡ 1) × (close_by (Some m) ≡ 0)
loop_opens meaning.Loop h = (refl, refl)
loop_opens m h = absurd (cc)

switch_opens : (m : Meaning) → is_switch m ≡ true → (open_by (Some m) ≡ 1) × (close_by (Some m) ≡ 0)
switch_opens meaning.Switch h = (refl, refl)
switch_opens m h = absurd (cc)

if_closes : (m : Meaning) → is_end_of_if m ≡ true → (open_by (Some m) ≡ 0) × (close_by (Some m) ≡ 1)
if_closes meaning.EndIf h = (refl, refl)
if_closes m h = absurd (cc)

loop_closes : (m : Meaning) → is_end_of_loop m ≡ true → (open_by (Some m) ≡ 0) × (close_by (Some m) ≡ 1)
loop_closes meaning.EndLoop h = (refl, refl)
loop_closes m h = absurd (cc)

switch_closes : (m : Meaning) → is_end_of_switch m ≡ true → (open_by (Some m) ≡ 0) × (close_by (Some m) ≡ 1)
switch_closes meaning.EndSwitch h = (refl, refl)
switch_closes m h = absurd (cc)

else_neither : (m : Meaning) → is_else m ≡ true → (open_by (Some m) ≡ 0) × (close_by (Some m) ≡ 0)
else_neither meaning.Else h = (refl, refl)
else_neither m h = absurd (cc)

label_neither : (m : Meaning) → is_label m ≡ true → (open_by (Some m) ≡ 0) × (close_by (Some m) ≡ 0)
label_neither meaning.Case h = (refl, refl)
label_neither meaning.Default h = (refl, refl)
label_neither m h = absurd (cc)

plain_neither : (w : Where) (m : Option Meaning) → stands w m ≡ true → (open_by m ≡ 0) × (close_by m ≡ 0)
plain_neither w None h = absurd (cc)
plain_neither w (Some meaning.If) h = absurd (cc)
plain_neither w (Some meaning.Loop) h = absurd (cc)
plain_neither w (Some meaning.Switch) h = absurd (cc)
plain_neither w (Some meaning.EndIf) h = absurd (cc)
plain_neither w (Some meaning.EndLoop) h = absurd (cc)
plain_neither w (Some meaning.EndSwitch) h = absurd (cc)
plain_neither w (Some m) h = (refl, refl)

-- in a construct: an opening, what is closed in it, and its end
bracket : (d : ℕ) (i j : Instruction) (xs : List Instruction) → (opening i ≡ 1) × (closing i ≡ 0) → Goes (suc d) (suc d) xs → (opening j ≡ 0) × (closing j ≡ 1) → Goes d d (i ∷ (xs ++ j ∷ []))
bracket d i j xs a h b =
    goes_more d (suc d) d i (xs ++ j ∷ []) (omega (arith, a.0, a.1)) (goes_both (suc d) (suc d) d xs (j ∷ []) h (one (suc d) d j (omega (arith, b.0, b.1))))

goes : (s : Statement) (w : Where) → IsSound w s → (d : ℕ) → Goes d d (flattened s)
goes Nothing w h d = goes_none d
goes (Then first next) w h d = goes_both d d d (flattened first) (flattened next) (goes first w h.0 d) (goes next w h.1 d)
goes (Plain i) w h d = let k = plain_neither w (meaning_of Base i.code) h in one d d i (omega (arith, k.0, k.1))
goes (Label i) w h d = let k = by_sort is_label 0 0 label_neither i h.0 in one d d i (omega (arith, k.0, k.1))
goes (If i body j) w h d =
    bracket d i j (flattened body) (by_sort is_if 1 0 if_opens i h.0) (goes body _ h.3 (suc d)) (by_sort is_end_of_if 0 1 if_closes j h.1)
goes (IfElse i body m other j) w h d =
    let k = by_sort is_else 0 0 else_neither m h.1 in
    subst (Goes d d) (ap (λ l. i ∷ l) (append_assoc (flattened body) (m ∷ flattened other) (j ∷ [])))
    (bracket d i j (flattened body ++ (m ∷ flattened other)) (by_sort is_if 1 0 if_opens i h.0)
    (goes_both (suc d) (suc d) (suc d) (flattened body) (m ∷ flattened other) (goes body _ h.4 (suc d))
    (goes_more (suc d) (suc d) (suc d) m (flattened other) (omega (arith, k.0, k.1)) (goes other _ h.5 (suc d))))
    (by_sort is_end_of_if 0 1 if_closes j h.2))
goes (Loop i body j) w h d =
    bracket d i j (flattened body) (by_sort is_loop 1 0 loop_opens i h.0) (goes body _ h.3 (suc d)) (by_sort is_end_of_loop 0 1 loop_closes j h.1)
goes (Switch i body j) w h d =
    bracket d i j (flattened body) (by_sort is_switch 1 0 switch_opens i h.0) (goes body _ h.3 (suc d)) (by_sort is_end_of_switch 0 1 switch_closes j h.1)

-- the least that a test takes
least_is : (test : ℕ → Bool) (at n x : ℕ) → at ≤ x → x < at + n → ((y : ℕ) → at ≤ y → y < x → test y ≡ false) → test x ≡ true → least test at n ≡ Some x
least_is test at zero x l m f t = absurd (omega (arith, l, m))
least_is test at (suc n) x l m f t = elim (cases_lt at x) [
  | inl s ↦ ap (λ b. if b then Some at else least test (at + 1) n) (f at (omega arith) s)
      ∙ least_is test (at + 1) n x (omega (arith, s)) (omega (arith, m)) (λ y a b. f y (omega (arith, a)) b) t
  | inr s ↦ let z : at ≡ x = omega (arith, l, s) in ap (λ b. if b then Some at else least test (at + 1) n) (ap test z ∙ t) ∙ ap Some z
]

module _ (w : Where) (s : Statement) (sound : IsSound w s) (i j : Instruction) (begins : means Base is_opening i ≡ true) (shut : means Base is_closing i ≡ false)
    (ends : means Base is_closing j ≡ true) (within : means Base is_opening j ≡ false) (before rest : List Instruction) where
  abbrev code : List Instruction
  code = before ++ (i ∷ (flattened s ++ (j ∷ rest)))

  abbrev q : ℕ
  q = length before

  ranged : (k : ℕ) → slice_range code q (q + k + 1) ≡ i ∷ take k (flattened s ++ (j ∷ rest))
  ranged k =
      let z : q + k + 1 - q ≡ suc k = omega arith in
      let y : q + 0 ≡ q = omega arith in
      ap (λ n. take n (drop q code)) z ∙ ap (take (suc k)) (ap (λ n. drop n code) (sym y) ∙ drop-append-add before (i ∷ (flattened s ++ (j ∷ rest))) 0)

  o_i : opening i ≡ 1
  o_i = ap (λ b. if b then 1 else 0) begins

  c_i : closing i ≡ 0
  c_i = ap (λ b. if b then 1 else 0) shut

  uneven : (k : ℕ) → k ≤ length (flattened s) → is_even Base code q (q + k) ≡ false
  uneven k l =
      let t = take_before (flattened s) (j ∷ rest) k l in
      let a : c (slice_range code q (q + k + 1)) ≡ closing i + c (take k (flattened s)) = ap c (ranged k) ∙ (sum_front closing i (take k (flattened s ++ (j ∷ rest))) ∙ ap (λ l. closing i + c l) t) in
      let b : o (slice_range code q (q + k + 1)) ≡ opening i + o (take k (flattened s)) = ap o (ranged k) ∙ (sum_front opening i (take k (flattened s ++ (j ∷ rest))) ∙ ap (λ l. opening i + o l) t) in
      let m = (goes s w sound 0).few k in
      let x : c (slice_range code q (q + k + 1)) < o (slice_range code q (q + k + 1)) = omega (arith, a, b, o_i, c_i, m) in
      grind (arith, nat_tests, x)

  even : is_even Base code q (q + (length (flattened s) + 1)) ≡ true
  even =
      let k = length (flattened s) + 1 in
      let t : take k (flattened s ++ (j ∷ rest)) ≡ flattened s ++ j ∷ [] = take_behind (flattened s) (j ∷ rest) 1 in
      let a : c (slice_range code q (q + k + 1)) ≡ closing i + (c (flattened s) + c (j ∷ [])) = ap c (ranged k) ∙ (sum_front closing i (take k (flattened s ++ (j ∷ rest))) ∙ ap (λ l. closing i + l) (ap c t ∙ sum_by-append closing (flattened s) (j ∷ []))) in
      let b : o (slice_range code q (q + k + 1)) ≡ opening i + (o (flattened s) + o (j ∷ [])) = ap o (ranged k) ∙ (sum_front opening i (take k (flattened s ++ (j ∷ rest))) ∙ ap (λ l. opening i + l) (ap o t ∙ sum_by-append opening (flattened s) (j ∷ []))) in
      let o_j : opening j ≡ 0 = ap (λ b. if b then 1 else 0) within in
      let c_j : closing j ≡ 1 = ap (λ b. if b then 1 else 0) ends in
      let m = (goes s w sound 0).whole in
      let x : c (slice_range code q (q + k + 1)) ≡ o (slice_range code q (q + k + 1)) = omega (arith, a, b, o_i, c_i, o_j, c_j, m, sum_front closing j [], sum_front opening j []) in
      grind (arith, nat_tests, x)

  closes_at : close Base code q ≡ Some (q + 1 + length (flattened s))
  closes_at =
      let len = length-append before (i ∷ (flattened s ++ (j ∷ rest))) in
      let len2 = length-append (flattened s) (j ∷ rest) in
      let z : q + (length (flattened s) + 1) ≡ q + 1 + length (flattened s) = omega arith in
      ap (λ b. if b then least (is_even Base code q) (q + 1) (length code - (q + 1)) else None) (ap (has (means Base is_opening)) (seam code before i (flattened s ++ (j ∷ rest))) ∙ begins)
      ∙ least_is (is_even Base code q) (q + 1) (length code - (q + 1)) (q + 1 + length (flattened s)) (omega arith) (omega (arith, len, len2))
      (λ y a b. let e : q + (y - q) ≡ y = omega (arith, a) in ap (is_even Base code q) (sym e) ∙ uneven (y - q) (omega (arith, a, b)))
      (ap (is_even Base code q) (sym z) ∙ even)

opening_only : (m : Option Meaning) → has is_opening m ≡ true → has is_closing m ≡ false
opening_only None h = refl
opening_only (Some m) h = by_part (part_of m) h
  where
    by_part : (p : Part) → opens p ≡ true → closes p ≡ false
    by_part Opens h = refl
    by_part Closes h = absurd (cc)
    by_part Within h = refl

closing_only : (m : Option Meaning) → has is_closing m ≡ true → has is_opening m ≡ false
closing_only None h = refl
closing_only (Some m) h = by_part (part_of m) h
  where
    by_part : (p : Part) → closes p ≡ true → opens p ≡ false
    by_part Opens h = absurd (cc)
    by_part Closes h = refl
    by_part Within h = refl

pub closes_it : (w : Where) (s : Statement) (opening end : Instruction) (before rest : List Instruction) → IsSound w s → means Base is_opening opening ≡ true → means Base is_closing end ≡ true
    → close Base (before ++ (opening ∷ (flattened s ++ (end ∷ rest)))) (length before) ≡ Some (length before + 1 + length (flattened s))
closes_it w s i j before rest h a b =
    closes_at w s h i j a (opening_only (meaning_of Base i.code) a) b (closing_only (meaning_of Base j.code) b) before rest
