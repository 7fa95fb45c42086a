-- What stands directly in a construct: the else of an if, and the labels of a switch.
use Rattle.std.proofs.Common.{◌≡◌, ℕ, suc, ◌+◌, ◌-◌, ◌<◌, ◌≤◌, inl, inr, Bool, true, false, ◌&&◌, List, [], ◌∷◌, ◌++◌, length, Option, Some, None, refl, sym, ap, ◌∙◌, arith, length-append}
use Rattle.std.specs.Prelude.{slice_get, nat_eq, nat_le, if◌then◌else◌}
use Rattle.std.proofs.lemmas.Bool.{cases_lt}
use Rattle.std.proofs.lemmas.Bool.Decides.{nat_tests}
use Rattle.tpf_decode.specs.Profiles.{Base}
use Rattle.tpf_decode.specs.Opcodes.{meaning_of}
use Rattle.tpf_decode.specs.declared.meaning.Meaning.{Meaning}
use Rattle.tpf_decode.specs.declared.meaning.Meaning.TheVariants as meaning
use Rattle.tpf_program.specs.declared.instruction.Instruction.{Instruction}
use Rattle.tpf_program.specs.Ends.{has, means, is_opening, is_closing, is_if, is_else, is_default, is_case, is_case_of, close, reaches, is_around, last_below, least, innermost, is_same, is_direct, direct, or_else, else_of, case_of}
use Rattle.shader_check.specs.Statements.{Statement, Nothing, Then, Plain, If, IfElse, Loop, Switch, Label, flattened, Where, in_if, in_switch, IsSound, stands}
use Rattle.raise_program.specs.Spots.{Frame, InIf, InThen, InSwitch, place_in, size, opening_of, inside, where_in, first_label, place_of_label}
use Rattle.raise_program.proofs.Places.{Holds, first_at, front_at, back_at, next_at, fits_at, least_past, least_none, last_holds, last_since}
use Rattle.raise_program.proofs.Balanced.{of_if, of_switch, of_end_if, of_end_switch}
use Rattle.raise_program.proofs.Around.{place_more, and_false, opening_at, opens_construct, close_of, passed}
use Rattle.raise_program.proofs.Frames.{innermost_of, inner_in, past, Stood}

-- what a test takes stands by itself nowhere, and opens and closes nothing
pub record Marks (test : Instruction → Bool) : Type 0 where
  pub alone : (w : Where) (i : Instruction) → stands w (meaning_of Base i.code) ≡ true → test i ≡ false
  pub openings : (i : Instruction) → means Base is_opening i ≡ true → test i ≡ false
  pub ends : (i : Instruction) → means Base is_closing i ≡ true → test i ≡ false

or_none : (x : Option ℕ) → or_else x None ≡ x
or_none None = refl
or_none (Some n) = refl

or_or : (x y z : Option ℕ) → or_else (or_else x y) z ≡ or_else x (or_else y z)
or_or None y z = refl
or_or (Some n) y z = refl

module _ (code : List Instruction) (test : Instruction → Bool) (marks : Marks test) (q : ℕ) where
  abbrev direct_in : ℕ → Bool
  direct_in = is_direct Base false test code (Some q)

  abbrev opens_around : ℕ → ℕ → Bool
  opens_around m = is_around Base false is_opening code m

  -- up to so many instructions further, q is the innermost of the openings in front of a place
  abbrev pub Innermost : ℕ → ℕ → Type 0
  Innermost at n = (m : ℕ) → at ≤ m → m ≤ at + n → last_below (opens_around m) at ≡ Some q

  pub at_place : (at : ℕ) (i : Instruction) → slice_get code at ≡ Some i → last_below (opens_around at) at ≡ Some q → direct_in at ≡ test i
  at_place at i h k =
      let z : nat_eq q q ≡ true = grind (arith, nat_tests) in
      ap (λ x. has test x && is_same (innermost Base false is_opening code at) (Some q)) h
      ∙ (ap (λ x. test i && is_same x (Some q)) k ∙ (ap (λ b. test i && b) z ∙ and_true_last (test i)))
    where
      and_true_last : (b : Bool) → (b && true) ≡ b
      and_true_last true = refl
      and_true_last false = refl

  pub not_test : (at : ℕ) (i : Instruction) → slice_get code at ≡ Some i → test i ≡ false → direct_in at ≡ false
  not_test at i h k =
      ap (λ x. has test x && is_same (innermost Base false is_opening code at) (Some q)) h
      ∙ ap (λ b. b && is_same (innermost Base false is_opening code at) (Some q)) k

  pub not_same : (m : ℕ) → ((n : ℕ) → innermost Base false is_opening code m ≡ Some n → n ≡ q → ⊥) → direct_in m ≡ false
  not_same m h = and_false (has test (slice_get code m)) (is_same (innermost Base false is_opening code m) (Some q))
      (by_found (innermost Base false is_opening code m) refl)
    where
      by_found : (x : Option ℕ) → innermost Base false is_opening code m ≡ x → is_same x (Some q) ≡ false
      by_found None e = refl
      by_found (Some n) e = by_test (nat_eq n q) refl
        where
          by_test : (b : Bool) → nat_eq n q ≡ b → nat_eq n q ≡ false
          by_test true k = let z : n ≡ q = grind (arith, nat_tests, k) in absurd (h n e z)
          by_test false k = k

  -- a deeper construct has nothing that stands directly in q
  pub deeper : (w : Where) (at : ℕ) (s : Statement) (o : Instruction) → IsSound w s → Holds code at (flattened s) → opening_of s ≡ Some o
      → size s ≡ length (inside s) + 2 → q < at
      → (m : ℕ) → at ≤ m → m < at + size s → direct_in m ≡ false
  deeper w at s o h k e l b m u v = elim (cases_lt at m) [ inl y ↦ below y | inr y ↦ let z : m ≡ at = omega (arith, u, y) in ap direct_in z ∙ here ]
    where
      here : direct_in at ≡ false
      here = not_test at o (opening_at code at s o k e) (marks.openings o (opens_construct code w s o h e))

      below : at < m → direct_in m ≡ false
      below y =
          let r : nat_le m (at + 1 + length (inside s)) ≡ true = grind (arith, nat_tests, v, l) in
          let t : opens_around m at ≡ true =
          ap (λ x. has (means Base is_opening) x && reaches false m (close Base code at)) (opening_at code at s o k e)
          ∙ (ap (λ x. means Base is_opening o && reaches false m x) (close_of code w at s o h k e) ∙
          (ap (λ b. means Base is_opening o && b) r ∙ ap (λ b. b && true) (opens_construct code w s o h e))) in
          let f = last_since (opens_around m) at m y t in
          not_same m (λ n a c. let z : Some f.n ≡ Some n = sym f.is ∙ a in let x : f.n ≡ n = cc in absurd (omega (arith, f.since, b, c, x)))

  -- THE FIRST that the test takes, directly in q, from a statement on
  pub found_in : (w : Where) (at : ℕ) (s : Statement) → IsSound w s → Holds code at (flattened s) → q < at → Innermost at (size s) → (n : ℕ)
      → least direct_in at (size s + n) ≡ or_else (first_label test at s) (least direct_in (at + size s) n)
  found_in w at Nothing h k b i n =
      let x : 0 + n ≡ n = omega arith in let y : at ≡ at + 0 = omega arith in ap (least direct_in at) x ∙ ap (λ a. least direct_in a n) y
  found_in w at (Then first next) h k b i n =
      let f = front_at code at (flattened first) (flattened next) k in
      let g = back_at code at (flattened first) (flattened next) k in
      let l : size (Then first next) ≡ size first + size next = length-append (flattened first) (flattened next) in
      let x : size (Then first next) + n ≡ size first + (size next + n) = omega (arith, l) in
      let y : at + size first + size next ≡ at + size (Then first next) = omega (arith, l) in
      let p = passed code w at first h.0 f in
      ap (least direct_in at) x
      ∙ (found_in w at first h.0 f b (λ m u v. i m u (omega (arith, v, l))) (size next + n)
      ∙ (ap (or_else (first_label test at first))
      (found_in w (at + size first) next h.1 g (omega (arith, b))
      (λ m u v. past code is_opening m at (size first) p u ∙ i m (omega (arith, u)) (omega (arith, v, l))) n
      ∙ ap (λ a. or_else (first_label test (at + size first) next) (least direct_in a n)) y)
      ∙ sym (or_or (first_label test at first) (first_label test (at + size first) next) (least direct_in (at + size (Then first next)) n))))
  found_in w at (Plain i) h k b c n =
      let d = not_test at i (first_at code at i [] k) (marks.alone w i h) in
      least_past direct_in at n 1 (λ m u v. let z : m ≡ at = omega (arith, u, v) in ap direct_in z ∙ d)
  found_in w at (Label i) h k b c n = by_test (test i) (at_place at i (first_at code at i [] k) (c at (omega arith) (omega arith)))
    where
      by_test : (b : Bool) → direct_in at ≡ b → least direct_in at (1 + n) ≡ or_else (if b then Some at else None) (least direct_in (at + 1) n)
      by_test true e = let x : 1 + n ≡ suc n = omega arith in ap (least direct_in at) x ∙ ap (λ b. if b then Some at else least direct_in (at + 1) n)
          e
      by_test false e = let x : 1 + n ≡ suc n = omega arith in ap (least direct_in at) x ∙ ap (λ b. if b then Some at else least direct_in (at + 1) n)
          e
  found_in w at (If opening body end) h k b c n =
      least_past direct_in at n (size (If opening body end))
      (deeper w at (If opening body end) opening h k refl (omega (arith, length-append (flattened body) (end ∷ []))) b)
  found_in w at (Loop opening body end) h k b c n =
      least_past direct_in at n (size (Loop opening body end))
      (deeper w at (Loop opening body end) opening h k refl (omega (arith, length-append (flattened body) (end ∷ []))) b)
  found_in w at (Switch opening body end) h k b c n =
      least_past direct_in at n (size (Switch opening body end))
      (deeper w at (Switch opening body end) opening h k refl (omega (arith, length-append (flattened body) (end ∷ []))) b)
  found_in w at (IfElse opening body middle other end) h k b c n =
      least_past direct_in at n (size (IfElse opening body middle other end))
      (deeper w at (IfElse opening body middle other end) opening h k refl
      (omega (
        arith,
        length-append (flattened body) (middle ∷ (flattened other ++ end ∷ [])),
        length-append (flattened other) (end ∷ []),
        length-append (flattened body) (middle ∷ flattened other),
      )) b)

  -- nothing behind the end of q stands directly in q
  pub behind_end : (c : ℕ) → close Base code q ≡ Some c → (m : ℕ) → c < m → direct_in m ≡ false
  behind_end c h m l = not_same m (λ n a e. no_longer (last_holds (opens_around m) m q (a ∙ ap Some e)))
    where
      no_longer : opens_around m q ≡ true → ⊥
      no_longer t =
          let r : nat_le m c ≡ false = grind (arith, nat_tests, l) in
          let z : opens_around m q ≡ false = and_false (has (means Base is_opening) (slice_get code q)) (reaches false m (close Base code q))
          (ap (reaches false m) h ∙ r) in
          absurd (cc)

  pub none_behind : (c : ℕ) (end : Instruction) → close Base code q ≡ Some c → slice_get code c ≡ Some end → means Base is_closing end ≡ true
      → (n : ℕ) → least direct_in c n ≡ None
  none_behind c end h k e n = least_none direct_in c n (λ m u. elim (cases_lt c m) [
    | inl s ↦ behind_end c h m s
    | inr s ↦ let z : m ≡ c = omega (arith, u, s) in ap direct_in z ∙ not_test c end k (marks.ends end e)
  ])

  pub found_here : (at : ℕ) (i : Instruction) (n : ℕ) → slice_get code at ≡ Some i → last_below (opens_around at) at ≡ Some q → test i ≡ true
      → least direct_in at (suc n) ≡ Some at
  found_here at i n h k e = ap (λ b. if b then Some at else least direct_in (at + 1) n) (at_place at i h k ∙ e)

  -- from the opening of q on
  pub direct_from : (w : Where) (body : Statement) (n : ℕ) → length code - (q + 1) ≡ size body + n → IsSound w body → Holds code (q + 1)
      (flattened body) → Innermost (q + 1) (size body)
      → direct Base test code q ≡ or_else (first_label test (q + 1) body) (least direct_in (q + 1 + size body) n)
  direct_from w body n l h k i = ap (least direct_in (q + 1)) l ∙ found_in w (q + 1) body h k (omega arith) i n

-- THE ELSE OF AN IF
else_marks : Marks (means Base is_else)
else_marks = record {
  alone = λ w i h. alone w (meaning_of Base i.code) h;
  openings = λ i h. opening (meaning_of Base i.code) h;
  ends = λ i h. ending (meaning_of Base i.code) h;
}
  where
    alone : (w : Where) (m : Option Meaning) → stands w m ≡ true → has is_else m ≡ false
    alone w None h = refl
    alone w (Some meaning.Else) h = absurd (cc)
    alone w (Some m) h = refl

    opening : (m : Option Meaning) → has is_opening m ≡ true → has is_else m ≡ false
    opening None h = refl
    opening (Some meaning.Else) h = absurd (cc)
    opening (Some m) h = refl

    ending : (m : Option Meaning) → has is_closing m ≡ true → has is_else m ≡ false
    ending None h = refl
    ending (Some meaning.Else) h = absurd (cc)
    ending (Some m) h = refl

-- no label stands directly in it
no_labels : (test : Instruction → Bool) (w : Where) (at : ℕ) (s : Statement) → w.direct ≡ false → IsSound w s → first_label test at s ≡ None
no_labels test w at Nothing d h = refl
no_labels test w at (Then first next) d h =
    ap (λ x. or_else x (first_label test (at + size first) next)) (no_labels test w at first d h.0) ∙ no_labels test w (at + size first) next d h.1
no_labels test w at (Plain i) d h = refl
no_labels test w at (Label i) d h = let k = h.1 in absurd (cc)
no_labels test w at (If opening body end) d h = refl
no_labels test w at (IfElse opening body middle other end) d h = refl
no_labels test w at (Loop opening body end) d h = refl
no_labels test w at (Switch opening body end) d h = refl

module _ (code : List Instruction) where
  -- the body of a construct, and what is behind it
  pub body_at : (at : ℕ) (opening : Instruction) (xs ys : List Instruction) → Holds code at (opening ∷ (xs ++ ys)) → Holds code (at + 1) xs
  body_at at opening xs ys h = front_at code (at + 1) xs ys (next_at code at opening (xs ++ ys) h)

  pub behind_at : (at : ℕ) (opening : Instruction) (xs : List Instruction) (i : Instruction) (ys : List Instruction) → Holds code at
      (opening ∷ (xs ++ (i ∷ ys)))
      → slice_get code (at + 1 + length xs) ≡ Some i
  behind_at at opening xs i ys h = first_at code (at + 1 + length xs) i ys
      (back_at code (at + 1) xs (i ∷ ys) (next_at code at opening (xs ++ (i ∷ ys)) h))

  pub left_at : (at : ℕ) (opening : Instruction) (xs : List Instruction) (i : Instruction) (ys : List Instruction) → Holds code at
      (opening ∷ (xs ++ (i ∷ ys)))
      → length code - (at + 1) ≡ length xs + suc (length code - (at + 1) - length xs - 1)
  left_at at opening xs i ys h = omega (arith, fits_at code at (opening ∷ (xs ++ (i ∷ ys))) (omega arith) h, length-append xs (i ∷ ys))

  -- a body in its construct: the construct is the innermost around it
  pub inner_body : (f : Frame) (frames : List Frame) (body : Statement) → place_in (f ∷ frames) ≡ place_in frames + 1 → innermost_of is_opening
      (f ∷ frames) ≡ Some (place_in frames)
      → Stood code (f ∷ frames) body → (m : ℕ) → place_in frames + 1 ≤ m → m ≤ place_in frames + 1 + size body
      → last_below (is_around Base false is_opening code m) (place_in frames + 1) ≡ Some (place_in frames)
  inner_body f frames body e i h m u v =
      ap (last_below (is_around Base false is_opening code m)) (sym e) ∙ (inner_in code is_opening m (f ∷ frames) body h (omega (arith, e, u))
      (omega (arith, e, v)) ∙ i)

  opens_if : (frames : List Frame) (opening : Instruction) → means Base is_if opening ≡ true
      → (if means Base is_opening opening then Some (place_in frames) else innermost_of is_opening frames) ≡ Some (place_in frames)
  opens_if frames opening h = ap (λ b. if b then Some (place_in frames) else innermost_of is_opening frames)
      (of_if (meaning_of Base opening.code) h).0

  pub else_none : (frames : List Frame) (opening : Instruction) (body : Statement) (end : Instruction) → Stood code frames (If opening body end)
      → else_of Base code (place_in frames) ≡ Some (place_in frames + 1 + size body)
  else_none frames opening body end h =
      let q = place_in frames in
      let k = h frames (If opening body end) refl in
      let c = close_of code (where_in frames) q (If opening body end) opening k.sound k.here refl in
      let n = length code - (q + 1) - size body - 1 in
      let d = direct_from code (means Base is_else) else_marks q (in_if (where_in frames)) body (suc n)
      (left_at q opening (flattened body) end [] k.here) k.sound.3
      (body_at q opening (flattened body) (end ∷ []) k.here)
      (inner_body (InIf opening end) frames body (place_more (InIf opening end) frames) (opens_if frames opening k.sound.0) h) in
      let z = none_behind code (means Base is_else) else_marks q (q + 1 + size body) end c (behind_at q opening (flattened body) end [] k.here)
      (of_end_if (meaning_of Base end.code) k.sound.1).1 (suc n) in
      let x = no_labels (means Base is_else) (in_if (where_in frames)) (q + 1) body refl k.sound.3 in
      ap (λ o. or_else o (close Base code q))
      (d ∙ (ap (λ o. or_else o (least (is_direct Base false (means Base is_else) code (Some q)) (q + 1 + size body) (suc n))) x ∙ z)) ∙ c

  pub else_found : (frames : List Frame) (opening : Instruction) (body : Statement) (middle : Instruction) (other : Statement) (end : Instruction)
      → Stood code frames (IfElse opening body middle other end) → else_of Base code (place_in frames) ≡ Some (place_in frames + 1 + size body)
  else_found frames opening body middle other end h =
      let q = place_in frames in
      let f = InThen opening middle other end in
      let k = h frames (IfElse opening body middle other end) refl in
      let n = length code - (q + 1) - size body - 1 in
      let i = inner_body f frames body (place_more f frames) (opens_if frames opening k.sound.0) h in
      let ys = flattened other ++ end ∷ [] in
      let d = direct_from code (means Base is_else) else_marks q (in_if (where_in frames)) body (suc n)
      (left_at q opening (flattened body) middle ys k.here) k.sound.4
      (body_at q opening (flattened body) (middle ∷ ys) k.here) i in
      let p = passed code (in_if (where_in frames)) (q + 1) body k.sound.4 (body_at q opening (flattened body) (middle ∷ ys) k.here) in
      let l = past code is_opening (q + 1 + size body) (q + 1) (size body) p (omega arith) ∙ i (q + 1 + size body) (omega arith) (omega arith) in
      let z = found_here code (means Base is_else) else_marks q (q + 1 + size body) middle n (behind_at q opening (flattened body) middle ys k.here) l
      k.sound.1 in
      let x = no_labels (means Base is_else) (in_if (where_in frames)) (q + 1) body refl k.sound.4 in
      ap (λ o. or_else o (close Base code q))
      (d ∙ (ap (λ o. or_else o (least (is_direct Base false (means Base is_else) code (Some q)) (q + 1 + size body) (suc n))) x ∙ z))

-- THE LABELS OF A SWITCH
default_marks : Marks (means Base is_default)
default_marks = record {
  alone = λ w i h. alone w (meaning_of Base i.code) h;
  openings = λ i h. opening (meaning_of Base i.code) h;
  ends = λ i h. ending (meaning_of Base i.code) h;
}
  where
    alone : (w : Where) (m : Option Meaning) → stands w m ≡ true → has is_default m ≡ false
    alone w None h = refl
    alone w (Some meaning.Default) h = absurd (cc)
    alone w (Some m) h = refl

    opening : (m : Option Meaning) → has is_opening m ≡ true → has is_default m ≡ false
    opening None h = refl
    opening (Some meaning.Default) h = absurd (cc)
    opening (Some m) h = refl

    ending : (m : Option Meaning) → has is_closing m ≡ true → has is_default m ≡ false
    ending None h = refl
    ending (Some meaning.Default) h = absurd (cc)
    ending (Some m) h = refl

case_marks : (v : ℕ) → Marks (is_case_of Base v)
case_marks v = record {
  alone = λ w i h. alone w i.o0.x (meaning_of Base i.code) h;
  openings = λ i h. opening i.o0.x (meaning_of Base i.code) h;
  ends = λ i h. ending i.o0.x (meaning_of Base i.code) h;
}
  where
    alone : (w : Where) (x : ℕ) (m : Option Meaning) → stands w m ≡ true → has (is_case v x) m ≡ false
    alone w x None h = refl
    alone w x (Some meaning.Case) h = absurd (cc)
    alone w x (Some m) h = refl

    opening : (x : ℕ) (m : Option Meaning) → has is_opening m ≡ true → has (is_case v x) m ≡ false
    opening x None h = refl
    opening x (Some meaning.Case) h = absurd (cc)
    opening x (Some m) h = refl

    ending : (x : ℕ) (m : Option Meaning) → has is_closing m ≡ true → has (is_case v x) m ≡ false
    ending x None h = refl
    ending x (Some meaning.Case) h = absurd (cc)
    ending x (Some m) h = refl

module _ (code : List Instruction) (frames : List Frame) (opening : Instruction) (body : Statement) (end : Instruction)
    (h : Stood code frames (Switch opening body end)) where
  abbrev pub q : ℕ
  q = place_in frames

  pub closes : close Base code q ≡ Some (q + 1 + size body)
  closes = let k = h frames (Switch opening body end) refl in close_of code (where_in frames) q (Switch opening body end) opening k.sound k.here refl

  label_direct : (test : Instruction → Bool) → Marks test → direct Base test code q ≡ first_label test (q + 1) body
  label_direct test marks =
      let k = h frames (Switch opening body end) refl in
      let n = length code - (q + 1) - size body - 1 in
      let d = direct_from code test marks q (in_switch (where_in frames)) body (suc n) (left_at code q opening (flattened body) end [] k.here)
      k.sound.3
      (body_at code q opening (flattened body) (end ∷ []) k.here)
      (inner_body code (InSwitch opening end) frames body (place_more (InSwitch opening end) frames)
      (ap (λ b. if b then Some q else innermost_of is_opening frames) (of_switch (meaning_of Base opening.code) k.sound.0).0) h) in
      let z = none_behind code test marks q (q + 1 + size body) end closes (behind_at code q opening (flattened body) end [] k.here)
      (of_end_switch (meaning_of Base end.code) k.sound.1).1 (suc n) in
      d ∙ (ap (or_else (first_label test (q + 1) body)) z ∙ or_none (first_label test (q + 1) body))

  pub label_found : (w : ℕ) → case_of Base code q w ≡ place_of_label w (q + 1) body
  label_found w =
      ap (λ o. or_else o (or_else (direct Base (means Base is_default) code q) (close Base code q))) (label_direct (is_case_of Base w) (case_marks w))
      ∙ ap (or_else (first_label (is_case_of Base w) (q + 1) body))
      (ap (λ o. or_else o (close Base code q)) (label_direct (means Base is_default) default_marks) ∙ ap
      (or_else (first_label (means Base is_default) (q + 1) body)) closes)
