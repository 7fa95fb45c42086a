-- The instructions of a sound statement have as many ends as openings, and no more in front of any place: so the end of a construct is its
-- close.
use Rattle.std.proofs.Common.{◌≡◌, ℕ, zero, suc, ◌+◌, ◌-◌, ◌<◌, ◌≤◌, inl, inr, Bool, true, false, List, [], ◌∷◌, ◌++◌, length, take, drop, Option, Some, None, refl, sym, ap, ◌∙◌, subst, arith, append_assoc, length-append}
use Rattle.std.specs.Prelude.{slice_range, if◌then◌else◌}
use Rattle.std.proofs.Math.Seq.{take-append-add}
use Rattle.std.proofs.lemmas.Bool.{cases_lt}
use Rattle.std.proofs.lemmas.Bool.Decides.{nat_tests}
use Rattle.std.proofs.lemmas.List.{take-append-le}
use Rattle.std.proofs.lemmas.List.Sums.{sum_by-append, sum_by-cons}
use Rattle.tpf_decode.specs.Profiles.{Base}
use Rattle.tpf_decode.specs.Opcodes.{meaning_of}
use Rattle.tpf_decode.specs.declared.meaning.Meaning.{Meaning}
use Rattle.tpf_decode.specs.declared.meaning.Meaning.TheVariants as meaning
use Rattle.tpf_program.specs.declared.instruction.Instruction.{Instruction}
use Rattle.tpf_program.specs.Ends.{has, means, is_opening, is_closing, is_if, is_loop, is_switch, is_else, least, count, is_even, close}
use Rattle.tpf_program.specs.Nesting.{is_label, is_end_of_switch}
use Rattle.shader_check.specs.Statements.{Statement, Nothing, Then, Plain, If, IfElse, Loop, Switch, Label, flattened, Where, in_if, in_loop, in_switch, IsSound, stands, is_end_of_if, is_end_of_loop}
use Rattle.raise_program.proofs.Places.{Holds, first_at, fits_at, least_is}

-- WHAT AN INSTRUCTION of some meaning opens and closes
abbrev pub IsPart : Bool → Bool → Option Meaning → Type 0
IsPart opens closes m = (has is_opening m ≡ opens) × (has is_closing m ≡ closes)

pub of_if : (m : Option Meaning) → has is_if m ≡ true → IsPart true false m
of_if None h = absurd (cc)
of_if (Some meaning.If) h = (refl, refl)
of_if (Some m) h = absurd (cc)

pub of_loop : (m : Option Meaning) → has is_loop m ≡ true → IsPart true false m
of_loop None h = absurd (cc)
of_loop (Some meaning.Loop) h = (refl, refl)
of_loop (Some m) h = absurd (cc)

pub of_switch : (m : Option Meaning) → has is_switch m ≡ true → IsPart true false m
of_switch None h = absurd (cc)
of_switch (Some meaning.Switch) h = (refl, refl)
of_switch (Some m) h = absurd (cc)

pub of_end_if : (m : Option Meaning) → has is_end_of_if m ≡ true → IsPart false true m
of_end_if None h = absurd (cc)
of_end_if (Some meaning.EndIf) h = (refl, refl)
of_end_if (Some m) h = absurd (cc)

pub of_end_loop : (m : Option Meaning) → has is_end_of_loop m ≡ true → IsPart false true m
of_end_loop None h = absurd (cc)
of_end_loop (Some meaning.EndLoop) h = (refl, refl)
of_end_loop (Some m) h = absurd (cc)

pub of_end_switch : (m : Option Meaning) → has is_end_of_switch m ≡ true → IsPart false true m
of_end_switch None h = absurd (cc)
of_end_switch (Some meaning.EndSwitch) h = (refl, refl)
of_end_switch (Some m) h = absurd (cc)

pub of_else : (m : Option Meaning) → has is_else m ≡ true → IsPart false false m
of_else None h = absurd (cc)
of_else (Some meaning.Else) h = (refl, refl)
of_else (Some m) h = absurd (cc)

pub of_label : (m : Option Meaning) → has is_label m ≡ true → IsPart false false m
of_label None h = absurd (cc)
of_label (Some meaning.Case) h = (refl, refl)
of_label (Some meaning.Default) h = (refl, refl)
of_label (Some m) h = absurd (cc)

pub of_plain : (w : Where) (m : Option Meaning) → stands w m ≡ true → IsPart false false m
of_plain w None h = absurd (cc)
of_plain w (Some meaning.If) h = absurd (cc)
of_plain w (Some meaning.Loop) h = absurd (cc)
of_plain w (Some meaning.Switch) h = absurd (cc)
of_plain w (Some meaning.EndIf) h = absurd (cc)
of_plain w (Some meaning.EndLoop) h = absurd (cc)
of_plain w (Some meaning.EndSwitch) h = absurd (cc)
of_plain w (Some m) h = (refl, refl)

-- COUNTS
abbrev opened : List Instruction → ℕ
opened xs = count Base is_opening xs

abbrev closed : List Instruction → ℕ
closed xs = count Base is_closing xs

opened_append : (xs ys : List Instruction) → opened (xs ++ ys) ≡ opened xs + opened ys
opened_append xs ys = sum_by-append (λ i. if means Base is_opening i then 1 else 0) xs ys

closed_append : (xs ys : List Instruction) → closed (xs ++ ys) ≡ closed xs + closed ys
closed_append xs ys = sum_by-append (λ i. if means Base is_closing i then 1 else 0) xs ys

pub record Balanced (xs : List Instruction) : Type 0 where
  pub all : closed xs ≡ opened xs
  pub front : (k : ℕ) → closed (take k xs) ≤ opened (take k xs)

abbrev one : Bool → ℕ
one b = if b then 1 else 0

opened_cons : (i : Instruction) (xs : List Instruction) (b : Bool) → means Base is_opening i ≡ b → opened (i ∷ xs) ≡ one b + opened xs
opened_cons i xs b h = sum_by-cons (λ i. if means Base is_opening i then 1 else 0) i xs ∙ ap (λ b. one b + opened xs) h

closed_cons : (i : Instruction) (xs : List Instruction) (b : Bool) → means Base is_closing i ≡ b → closed (i ∷ xs) ≡ one b + closed xs
closed_cons i xs b h = sum_by-cons (λ i. if means Base is_closing i then 1 else 0) i xs ∙ ap (λ b. one b + closed xs) h

balanced_nil : Balanced []
balanced_nil = record { all = refl; front = by_length }
  where
    by_length : (k : ℕ) → closed (take k []) ≤ opened (take k [])
    by_length zero = omega arith
    by_length (suc k) = omega arith

balanced_one : (i : Instruction) → IsPart false false (meaning_of Base i.code) → Balanced (i ∷ [])
balanced_one i h = record { all = closed_cons i [] false h.1 ∙ sym (opened_cons i [] false h.0); front = by_length }
  where
    by_length : (k : ℕ) → closed (take k (i ∷ [])) ≤ opened (take k (i ∷ []))
    by_length zero = omega arith
    by_length (suc k) = omega (arith, closed_cons i (take k []) false h.1, opened_cons i (take k []) false h.0, balanced_nil.front k)

pub balanced_append : (xs ys : List Instruction) → Balanced xs → Balanced ys → Balanced (xs ++ ys)
balanced_append xs ys h k = record {
  all = closed_append xs ys ∙ (omega (arith, h.all, k.all) ∙ sym (opened_append xs ys));
  front = λ n. elim (cases_lt (length xs) n) [ inl s ↦ above n (n - length xs) (omega (arith, s)) | inr s ↦ below n (omega (arith, s)) ];
}
  where
    below : (n : ℕ) → n ≤ length xs → closed (take n (xs ++ ys)) ≤ opened (take n (xs ++ ys))
    below n l = let e = take-append-le n xs ys l in omega (arith, ap closed e, ap opened e, h.front n)

    above : (n m : ℕ) → n ≡ length xs + m → closed (take n (xs ++ ys)) ≤ opened (take n (xs ++ ys))
    above n m l =
        let e : take n (xs ++ ys) ≡ xs ++ take m ys = ap (λ n. take n (xs ++ ys)) l ∙ take-append-add xs ys m in
        omega (arith, ap closed e, ap opened e, closed_append xs (take m ys), opened_append xs (take m ys), h.all, k.front m)

balanced_wrap : (opening : Instruction) (xs : List Instruction) (end : Instruction) → IsPart true false (meaning_of Base opening.code)
    → IsPart false true (meaning_of Base end.code)
    → Balanced xs → Balanced (opening ∷ (xs ++ end ∷ []))
balanced_wrap opening xs end o e h = record {
  all = omega (
    arith,
    closed_cons opening (xs ++ end ∷ []) false o.1,
    opened_cons opening (xs ++ end ∷ []) true o.0,
    closed_append xs (end ∷ []),
    opened_append xs (end ∷ []),
    closed_cons end [] true e.1,
    opened_cons end [] false e.0,
    h.all,
  );
  front = by_length;
}
  where
    inner : (k : ℕ) → closed (take k (xs ++ end ∷ [])) ≤ opened (take k (xs ++ end ∷ [])) + 1
    inner k = elim (cases_lt (length xs) k) [
      | inl s ↦ above (k - length xs) (omega (arith, s))
      | inr s ↦ let e = take-append-le k xs (end ∷ []) (omega (arith, s)) in omega (arith, ap closed e, ap opened e, h.front k)
    ]
      where
        last : (m : ℕ) → closed (take m (end ∷ [])) ≤ 1
        last zero = omega arith
        last (suc m) = omega (arith, closed_cons end (take m []) true e.1, balanced_nil.front m, none m)
          where
            none : (m : ℕ) → opened (take m []) ≡ 0
            none zero = refl
            none (suc m) = refl

        above : (m : ℕ) → k ≡ length xs + m → closed (take k (xs ++ end ∷ [])) ≤ opened (take k (xs ++ end ∷ [])) + 1
        above m l =
            let z : take k (xs ++ end ∷ []) ≡ xs ++ take m (end ∷ []) = ap (λ n. take n (xs ++ end ∷ [])) l ∙ take-append-add xs (end ∷ []) m in
            omega (arith, ap closed z, ap opened z, closed_append xs (take m (end ∷ [])), opened_append xs (take m (end ∷ [])), h.all, last m)

    by_length : (k : ℕ) → closed (take k (opening ∷ (xs ++ end ∷ []))) ≤ opened (take k (opening ∷ (xs ++ end ∷ [])))
    by_length zero = omega arith
    by_length (suc k) =
        omega (arith, closed_cons opening (take k (xs ++ end ∷ [])) false o.1, opened_cons opening (take k (xs ++ end ∷ [])) true o.0, inner k)

-- what stands between the opening and the end of an if with an else
pub both_bodies : (opening : Instruction) (xs : List Instruction) (middle : Instruction) (ys : List Instruction) (end : Instruction)
    → ◌≡◌ {A = List Instruction} (opening ∷ (xs ++ middle ∷ (ys ++ end ∷ []))) (opening ∷ ((xs ++ middle ∷ ys) ++ end ∷ []))
both_bodies opening xs middle ys end = ap (λ l. opening ∷ l) (sym (append_assoc xs (middle ∷ ys) (end ∷ [])))

between : (body : Statement) (middle : Instruction) (other : Statement) → means Base is_else middle ≡ true → Balanced (flattened body)
    → Balanced (flattened other)
    → Balanced (flattened body ++ (middle ∷ flattened other))
between body middle other m h k =
    balanced_append (flattened body) (middle ∷ flattened other) h
    (balanced_append (middle ∷ []) (flattened other) (balanced_one middle (of_else (meaning_of Base middle.code) m)) k)

pub balanced : (w : Where) (s : Statement) → IsSound w s → Balanced (flattened s)
balanced w Nothing h = balanced_nil
balanced w (Then first next) h = balanced_append (flattened first) (flattened next) (balanced w first h.0) (balanced w next h.1)
balanced w (Plain i) h = balanced_one i (of_plain w (meaning_of Base i.code) h)
balanced w (Label i) h = balanced_one i (of_label (meaning_of Base i.code) h.0)
balanced w (If opening body end) h =
    balanced_wrap opening (flattened body) end (of_if (meaning_of Base opening.code) h.0) (of_end_if (meaning_of Base end.code) h.1)
    (balanced (in_if w) body h.3)
balanced w (Loop opening body end) h =
    balanced_wrap opening (flattened body) end (of_loop (meaning_of Base opening.code) h.0) (of_end_loop (meaning_of Base end.code) h.1)
    (balanced (in_loop w) body h.3)
balanced w (Switch opening body end) h =
    balanced_wrap opening (flattened body) end (of_switch (meaning_of Base opening.code) h.0) (of_end_switch (meaning_of Base end.code) h.1)
    (balanced (in_switch w) body h.3)
balanced w (IfElse opening body middle other end) h =
    subst Balanced (sym (both_bodies opening (flattened body) middle (flattened other) end))
    (balanced_wrap opening (flattened body ++ middle ∷ flattened other) end (of_if (meaning_of Base opening.code) h.0)
    (of_end_if (meaning_of Base end.code) h.2)
    (between body middle other h.1 (balanced (in_if w) body h.4) (balanced (in_if w) other h.5)))

pub balanced_between : (w : Where) (body : Statement) (middle : Instruction) (other : Statement) → means Base is_else middle ≡ true
    → IsSound (in_if w) body → IsSound (in_if w) other
    → Balanced (flattened body ++ (middle ∷ flattened other))
balanced_between w body middle other m h k = between body middle other m (balanced (in_if w) body h) (balanced (in_if w) other k)

-- THE CLOSE
module _ (code : List Instruction) (q : ℕ) (opening : Instruction) (xs : List Instruction) (end : Instruction)
    (h : Holds code q (opening ∷ (xs ++ end ∷ [])))
    (o : IsPart true false (meaning_of Base opening.code)) (e : IsPart false true (meaning_of Base end.code)) (b : Balanced xs) where
  range : (k m : ℕ) → m ≡ q + 1 + k → slice_range code q (m + 1) ≡ opening ∷ take (k + 1) ((xs ++ end ∷ []) ++ h.rest)
  range k m l =
      let z : m + 1 - q ≡ suc (k + 1) = omega (arith, l) in
      ap (λ n. take n (drop q code)) z ∙ ap (take (suc (k + 1))) h.here

  uneven : (m : ℕ) → q + 1 ≤ m → m < q + 1 + length xs → is_even Base code q m ≡ false
  uneven m l u =
      let k = m - (q + 1) in
      let r : slice_range code q (m + 1) ≡ opening ∷ take (k + 1) xs =
      range k m (omega (arith, l))
      ∙ ap (λ l. opening ∷ l) (ap (take (k + 1)) (append_assoc xs (end ∷ []) h.rest) ∙ take-append-le (k + 1) xs (end ∷ h.rest) (omega (arith, l, u)))
      in
      let c = ap closed r ∙ closed_cons opening (take (k + 1) xs) false o.1 in
      let d = ap opened r ∙ opened_cons opening (take (k + 1) xs) true o.0 in
      let f : closed (slice_range code q (m + 1)) < opened (slice_range code q (m + 1)) = omega (arith, c, d, b.front (k + 1)) in
      grind (arith, nat_tests, f)

  even : is_even Base code q (q + 1 + length xs) ≡ true
  even =
      let m = q + 1 + length xs in
      let z : length xs + 1 ≡ length (xs ++ end ∷ []) + 0 = omega (arith, length-append xs (end ∷ [])) in
      let r : slice_range code q (m + 1) ≡ opening ∷ ((xs ++ end ∷ []) ++ []) =
      range (length xs) m refl ∙ ap (λ l. opening ∷ l) (ap (λ n. take n ((xs ++ end ∷ []) ++ h.rest)) z ∙ take-append-add (xs ++ end ∷ []) h.rest 0)
      in
      let c = ap closed r ∙ closed_cons opening ((xs ++ end ∷ []) ++ []) false o.1 in
      let d = ap opened r ∙ opened_cons opening ((xs ++ end ∷ []) ++ []) true o.0 in
      let f : closed (slice_range code q (m + 1)) ≡ opened (slice_range code q (m + 1)) = omega (
        arith,
        c,
        d,
        closed_append (xs ++ end ∷ []) [],
        opened_append (xs ++ end ∷ []) [],
        closed_append xs (end ∷ []),
        opened_append xs (end ∷ []),
        closed_cons end [] true e.1,
        opened_cons end [] false e.0,
        b.all,
      ) in
      grind (arith, nat_tests, f)

  pub closes_at : close Base code q ≡ Some (q + 1 + length xs)
  closes_at =
      let at = first_at code q opening (xs ++ end ∷ []) h in
      let l = fits_at code q (opening ∷ (xs ++ end ∷ [])) (omega arith) h in
      ap (λ b. if b then least (is_even Base code q) (q + 1) (length code - (q + 1)) else None) (ap (has (means Base is_opening)) at ∙ o.0)
      ∙ least_is (is_even Base code q) (q + 1) (length code - (q + 1)) (q + 1 + length xs) (omega arith)
      (omega (arith, l, length-append xs (end ∷ []))) uneven even
