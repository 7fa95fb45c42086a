-- The cases that stand directly in a switch, by counting on the flat list, are those among its labels.
use Rattle.std.proofs.Common.{◌≡◌, ℕ, zero, suc, ◌+◌, ◌-◌, ◌<◌, ◌≤◌, inl, inr, Bool, true, false, List, [], ◌∷◌, ◌++◌, length, Option, Some, None, refl, sym, ap, ◌∙◌, arith, append-nil, length-append}
use Rattle.std.specs.Prelude.{slice_get, if◌then◌else◌, option_map, filter_map}
use Rattle.std.specs.List.{cons_option, range_with_len}
use Rattle.std.proofs.lemmas.Bool.{cases_lt}
use Rattle.std.proofs.lemmas.List.Elements.{filter_map-append}
use Rattle.tpf_decode.specs.Profiles.{Base}
use Rattle.tpf_decode.specs.Opcodes.{meaning_of}
use Rattle.tpf_decode.specs.declared.meaning.Meaning.{Meaning}
use Rattle.tpf_decode.specs.declared.meaning.Meaning.TheVariants as meaning
use Rattle.tpf_program.specs.Cases.{is_any_case}
use Rattle.tpf_program.specs.Ends.{has, means, is_closing, is_default, is_direct, is_opening, close, is_around, last_below}
use Rattle.tpf_program.specs.Nesting.{is_label}
use Rattle.tpf_program.specs.declared.instruction.Instruction.{Instruction}
use Rattle.shader_check.specs.Statements.{Statement, Nothing, Then, Plain, If, IfElse, Loop, Switch, Label, flattened, labels, Where, in_switch, IsSound, stands}
use Rattle.raise_program.specs.ProgramShape.{case_at, case_values}
use Rattle.raise_program.specs.Spots.{Frame, InSwitch, place_in, size, where_in}
use Rattle.raise_program.proofs.Around.{close_of, passed, place_more}
use Rattle.raise_program.proofs.Balanced.{of_end_switch, of_switch}
use Rattle.raise_program.proofs.Frames.{Stood, innermost_of, past}
use Rattle.raise_program.proofs.Labels.{Innermost, Marks, at_place, behind_at, behind_end, body_at, deeper, inner_body, not_same, not_test}
use Rattle.raise_program.proofs.Places.{Holds, back_at, first_at, fits_at, front_at}
use Rattle.raise_program.proofs.Placing.{cases_append, cases_of}

any_case : Marks (means Base is_any_case)
any_case = record {
  alone = λ w i h. alone w (meaning_of Base i.code) h;
  openings = λ i h. opening (meaning_of Base i.code) h;
  ends = λ i h. ending (meaning_of Base i.code) h;
}
  where
    alone : (w : Where) (m : Option Meaning) → stands w m ≡ true → has is_any_case m ≡ false
    alone w None h = refl
    alone w (Some meaning.Case) h = absurd (cc)
    alone w (Some m) h = refl

    opening : (m : Option Meaning) → has is_opening m ≡ true → has is_any_case m ≡ false
    opening None h = refl
    opening (Some meaning.Case) h = absurd (cc)
    opening (Some m) h = refl

    ending : (m : Option Meaning) → has is_closing m ≡ true → has is_any_case m ≡ false
    ending None h = refl
    ending (Some meaning.Case) h = absurd (cc)
    ending (Some m) h = refl

-- a label is a case where it is no default
case_or_default : (m : Option Meaning) → has is_label m ≡ true → (x : ℕ)
    → (if has is_any_case m then x ∷ [] else []) ≡ (if has is_default m then [] else x ∷ [])
case_or_default None h x = absurd (cc)
case_or_default (Some meaning.Case) h x = refl
case_or_default (Some meaning.Default) h x = refl
case_or_default (Some m) h x = absurd (cc)

last_less : (test : ℕ → Bool) (u n : ℕ) → last_below test u ≡ Some n → n < u
last_less test zero n h = absurd (cc)
last_less test (suc u) n h = by_test (test u) h (last_less test u n)
  where
    by_test : (b : Bool) → (if b then Some u else last_below test u) ≡ Some n → (last_below test u ≡ Some n → n < u) → n < suc u
    by_test true e next = let z : u ≡ n = cc in omega (arith, z)
    by_test false e next = omega (arith, next e)

module _ (code : List Instruction) (q : ℕ) where
  abbrev pub collected : ℕ → ℕ → List ℕ
  collected at n = filter_map (case_at Base code q) (range_with_len at n)

  abbrev direct_case : ℕ → Bool
  direct_case n = is_direct Base false (means Base is_any_case) code (Some q) n

  range_split : (at m n : ℕ) → range_with_len at (m + n) ≡ range_with_len at m ++ range_with_len (at + m) n
  range_split at zero n = let a : zero + n ≡ n = omega arith in let b : at ≡ at + zero = omega arith in
      ap (range_with_len at) a ∙ ap (λ k. range_with_len k n) b
  range_split at (suc m) n =
      let a : suc m + n ≡ suc (m + n) = omega arith in let b : at + 1 + m ≡ at + suc m = omega arith in
      ap (range_with_len at) a
      ∙ (ap (λ l. at ∷ l) (range_split (at + 1) m n) ∙ ap (λ k. at ∷ (range_with_len (at + 1) m ++ range_with_len k n)) b)

  collected_split : (at m n : ℕ) → collected at (m + n) ≡ collected at m ++ collected (at + m) n
  collected_split at m n =
      ap (filter_map (case_at Base code q)) (range_split at m n) ∙ filter_map-append (case_at Base code q) (range_with_len at m) (range_with_len (at + m) n)

  none_at : (at : ℕ) → direct_case at ≡ false → case_at Base code q at ≡ None
  none_at at h = ap (λ b. if b then option_map (λ i. i.o0.x) (slice_get code at) else None) h

  pub collected_none : (at n : ℕ) → ((m : ℕ) → at ≤ m → m < at + n → direct_case m ≡ false) → collected at n ≡ []
  collected_none at zero f = refl
  collected_none at (suc n) f =
      ap (λ o. cons_option o (collected (at + 1) n)) (none_at at (f at (omega arith) (omega arith)))
      ∙ collected_none (at + 1) n (λ m l u. f m (omega (arith, l)) (omega (arith, u)))

  one_is : (at : ℕ) (i : Instruction) (b : Bool) → slice_get code at ≡ Some i → direct_case at ≡ b → collected at 1 ≡ (if b then i.o0.x ∷ [] else [])
  one_is at i b h e =
      ap (λ c. cons_option (if c then option_map (λ i. i.o0.x) (slice_get code at) else None) []) e
      ∙ (ap (λ o. cons_option (if b then option_map (λ i. i.o0.x) o else None) []) h ∙ by_test b)
    where
      by_test : (b : Bool) → cons_option (if b then Some i.o0.x else None) [] ≡ (if b then i.o0.x ∷ [] else [])
      by_test true = refl
      by_test false = refl

  -- of a statement behind the opening of q, of which q is the innermost construct
  collected_in : (w : Where) (at : ℕ) (s : Statement) → IsSound w s → Holds code at (flattened s) → q < at
      → Innermost code (means Base is_any_case) any_case q at (size s) → collected at (size s) ≡ cases_of (labels s)
  collected_in w at Nothing h k b i = refl
  collected_in w at (Then first next) h k b i =
      let f = front_at code at (flattened first) (flattened next) k in
      let g = back_at code at (flattened first) (flattened next) k in
      let l : size (Then first next) ≡ size first + size next = length-append (flattened first) (flattened next) in
      let p = passed code w at first h.0 f in
      ap (collected at) l
      ∙ (collected_split at (size first) (size next)
      ∙ (ap (λ l. l ++ collected (at + size first) (size next)) (collected_in w at first h.0 f b (λ m u v. i m u (omega (arith, v, l))))
      ∙ (ap (λ r. cases_of (labels first) ++ r)
      (collected_in w (at + size first) next h.1 g (omega (arith, b))
      (λ m u v. past code is_opening m at (size first) p u ∙ i m (omega (arith, u)) (omega (arith, v, l))))
      ∙ sym (cases_append (labels first) (labels next)))))
  collected_in w at (Plain i) h k b c =
      let d = not_test code (means Base is_any_case) any_case q at i (first_at code at i [] k) (any_case.alone w i h) in
      collected_none at 1 (λ m u v. let z : m ≡ at = omega (arith, u, v) in ap direct_case z ∙ d)
  collected_in w at (Label i) h k b c =
      let e = at_place code (means Base is_any_case) any_case q at i (first_at code at i [] k) (c at (omega arith) (omega arith)) in
      one_is at i (means Base is_any_case i) (first_at code at i [] k) e ∙ case_or_default (meaning_of Base i.code) h.0 i.o0.x
  collected_in w at (If opening body end) h k b c =
      collected_none at (size (If opening body end))
      (deeper code (means Base is_any_case) any_case q w at (If opening body end) opening h k refl (omega (arith, length-append (flattened body) (end ∷ []))) b)
  collected_in w at (Loop opening body end) h k b c =
      collected_none at (size (Loop opening body end))
      (deeper code (means Base is_any_case) any_case q w at (Loop opening body end) opening h k refl (omega (arith, length-append (flattened body) (end ∷ []))) b)
  collected_in w at (Switch opening body end) h k b c =
      collected_none at (size (Switch opening body end))
      (deeper code (means Base is_any_case) any_case q w at (Switch opening body end) opening h k refl
      (omega (arith, length-append (flattened body) (end ∷ []))) b)
  collected_in w at (IfElse opening body middle other end) h k b c =
      collected_none at (size (IfElse opening body middle other end))
      (deeper code (means Base is_any_case) any_case q w at (IfElse opening body middle other end) opening h k refl
      (omega (
        arith,
        length-append (flattened body) (middle ∷ (flattened other ++ end ∷ [])),
        length-append (flattened other) (end ∷ []),
        length-append (flattened body) (middle ∷ flattened other),
      )) b)

  -- in front of the body, and behind it
  none_before : (n : ℕ) → n ≤ q → direct_case n ≡ false
  none_before n l = not_same code (means Base is_any_case) any_case q n
      (λ m e f. let u = last_less (is_around Base false is_opening code n) n m e in absurd (omega (arith, u, f, l)))

  none_after : (c : ℕ) (end : Instruction) → close Base code q ≡ Some c → slice_get code c ≡ Some end → means Base is_closing end ≡ true
      → (n : ℕ) → c ≤ n → direct_case n ≡ false
  none_after c end h k e n u = elim (cases_lt c n) [
    | inl s ↦ behind_end code (means Base is_any_case) any_case q c h n s
    | inr s ↦ let z : n ≡ c = omega (arith, u, s) in ap direct_case z ∙ not_test code (means Base is_any_case) any_case q c end k (any_case.ends end e)
  ]

module _ (code : List Instruction) (frames : List Frame) (opening : Instruction) (body : Statement) (end : Instruction)
    (h : Stood code frames (Switch opening body end)) where
  pub values_are : case_values Base code (place_in frames) ≡ cases_of (labels body)
  values_are =
      let q = place_in frames in
      let k = h frames (Switch opening body end) refl in
      let c = close_of code (where_in frames) q (Switch opening body end) opening k.sound k.here refl in
      let n = length code - (q + 1 + size body) in
      let l = fits_at code q (opening ∷ (flattened body ++ end ∷ [])) (omega arith) k.here in
      let m : length code ≡ q + 1 + (size body + n) = omega (arith, l, length-append (flattened body) (end ∷ [])) in
      let i = inner_body code (InSwitch opening end) frames body (place_more (InSwitch opening end) frames)
      (ap (λ b. if b then Some q else innermost_of is_opening frames) (of_switch (meaning_of Base opening.code) k.sound.0).0) h in
      let a = collected_none code q 0 (q + 1) (λ m u v. none_before code q m (omega (arith, v))) in
      let b = collected_in code q (in_switch (where_in frames)) (q + 1) body k.sound.3
      (body_at code q opening (flattened body) (end ∷ []) k.here) (omega arith) i in
      let d = collected_none code q (q + 1 + size body) n (λ m u v. none_after code q (q + 1 + size body) end c
      (behind_at code q opening (flattened body) end [] k.here) (of_end_switch (meaning_of Base end.code) k.sound.1).1 m u) in
      let z : 0 + (q + 1) ≡ q + 1 = omega arith in
      ap (collected code q 0) m
      ∙ (collected_split code q 0 (q + 1) (size body + n)
      ∙ (ap (λ l. l ++ collected code q (0 + (q + 1)) (size body + n)) a
      ∙ (ap (λ at. collected code q at (size body + n)) z
      ∙ (collected_split code q (q + 1) (size body) n
      ∙ (ap (λ l. l ++ collected code q (q + 1 + size body) n) b
      ∙ (ap (λ r. cases_of (labels body) ++ r) d ∙ append-nil (cases_of (labels body))))))))
