-- What is around a statement in its frames.
use Rattle.std.proofs.Common.{◌≡◌, ℕ, ◌+◌, ◌-◌, ◌<◌, ◌≤◌, inl, inr, Bool, true, false, ◌&&◌, List, [], ◌∷◌, ◌++◌, length, Some, None, refl, sym, ap, ◌∙◌, subst, arith, append_assoc, append-nil, length-append}
use Rattle.std.specs.Prelude.{slice_get, nat_le, if◌then◌else◌}
use Rattle.std.proofs.lemmas.Bool.{cases_lt}
use Rattle.std.proofs.lemmas.Bool.Decides.{nat_tests}
use Rattle.tpf_decode.specs.Profiles.{Base}
use Rattle.tpf_decode.specs.Opcodes.{meaning_of}
use Rattle.tpf_program.specs.declared.instruction.Instruction.{Instruction}
use Rattle.tpf_program.specs.Ends.{has, means, is_opening, is_even, least, close, reaches}
use Rattle.shader_check.specs.Statements.{Statement, Nothing, Then, Plain, If, IfElse, Loop, Switch, Label, flattened, Where, outside_all, in_if, in_loop, in_switch, IsSound}
use Rattle.raise_program.specs.Spots.{Frame, Before, Behind, InIf, InThen, InElse, InLoop, InSwitch, fill, filled, before, after, in_front, behind, place_in, size, opening_of, inside, where_within, where_in}
use Rattle.raise_program.proofs.Places.{Holds, first_at, front_at, back_at, next_at}
use Rattle.raise_program.proofs.Balanced.{IsPart, of_if, of_loop, of_switch, of_end_if, of_end_loop, of_end_switch, of_else, of_label, of_plain, balanced, balanced_between, both_bodies, closes_at}

-- THE INSTRUCTIONS OF A FRAME, around those of what it holds
pub fill_flat : (f : Frame) (s : Statement) → flattened (fill f s) ≡ before f ++ (flattened s ++ after f)
fill_flat (Before next) s = refl
fill_flat (Behind first) s = ap (λ l. flattened first ++ l) (sym (append-nil (flattened s)))
fill_flat (InIf opening end) s = refl
fill_flat (InThen opening middle other end) s = refl
fill_flat (InElse opening body middle end) s = ap (λ l. opening ∷ l) (sym (append_assoc (flattened body) (middle ∷ []) (flattened s ++ end ∷ [])))
fill_flat (InLoop opening end) s = refl
fill_flat (InSwitch opening end) s = refl

pub filled_flat : (frames : List Frame) (s : Statement) → flattened (filled frames s) ≡ in_front frames ++ (flattened s ++ behind frames)
filled_flat [] s = sym (append-nil (flattened s))
filled_flat (f ∷ frames) s =
    filled_flat frames (fill f s)
    ∙ (ap (λ l. in_front frames ++ l)
    (ap (λ l. l ++ behind frames) (fill_flat f s) ∙ (append_assoc (before f) (flattened s ++ after f) (behind frames)
    ∙ ap (λ l. before f ++ l) (append_assoc (flattened s) (after f) (behind frames))))
    ∙ sym (append_assoc (in_front frames) (before f) (flattened s ++ (after f ++ behind frames))))

pub fill_sound : (w : Where) (f : Frame) (s : Statement) → IsSound w (fill f s) → IsSound (where_within f w) s
fill_sound w (Before next) s h = h.0
fill_sound w (Behind first) s h = h.1
fill_sound w (InIf opening end) s h = h.3
fill_sound w (InThen opening middle other end) s h = h.4
fill_sound w (InElse opening body middle end) s h = h.5
fill_sound w (InLoop opening end) s h = h.3
fill_sound w (InSwitch opening end) s h = h.3

pub place_more : (f : Frame) (frames : List Frame) → place_in (f ∷ frames) ≡ place_in frames + length (before f)
place_more f frames = length-append (in_front frames) (before f)

pub size_more : (f : Frame) (s : Statement) → size (fill f s) ≡ length (before f) + size s + length (after f)
size_more f s = ap length (fill_flat f s) ∙ omega (arith, length-append (before f) (flattened s ++ after f), length-append (flattened s) (after f))

pub and_false : (a b : Bool) → b ≡ false → (a && b) ≡ false
and_false true b h = h
and_false false b h = refl

pub and_true : (a b : Bool) → b ≡ true → (a && b) ≡ a
and_true true b h = h
and_true false b h = refl

module _ (code : List Instruction) where
  -- a statement stands there
  pub record Stands (frames : List Frame) (s : Statement) : Type 0 where
    pub sound : IsSound (where_in frames) s
    pub here : Holds code (place_in frames) (flattened s)

  pub in_frame : (f : Frame) (frames : List Frame) (s : Statement) → Stands frames (fill f s) → Stands (f ∷ frames) s
  in_frame f frames s h =
      let k : Holds code (place_in frames) (before f ++ (flattened s ++ after f)) = subst (Holds code (place_in frames)) (fill_flat f s) h.here in
      record {
        sound = fill_sound (where_in frames) f s h.sound;
        here = subst (λ at. Holds code at (flattened s)) (sym (place_more f frames))
            (front_at code (place_in frames + length (before f)) (flattened s) (after f)
            (back_at code (place_in frames) (before f) (flattened s ++ after f) k));
      }

  pub stands_in : (frames : List Frame) (s : Statement) → IsSound outside_all (filled frames s) → Holds code 0 (flattened (filled frames s))
      → Stands frames s
  stands_in [] s h k = record { sound = h; here = k }
  stands_in (f ∷ frames) s h k = in_frame f frames s (stands_in frames (fill f s) h k)

  -- A CONSTRUCT closes at its end, and begins with its opening.
  pub opening_at : (at : ℕ) (s : Statement) (o : Instruction) → Holds code at (flattened s) → opening_of s ≡ Some o → slice_get code at ≡ Some o
  opening_at at Nothing o h k = absurd (cc)
  opening_at at (Then first next) o h k = absurd (cc)
  opening_at at (Plain i) o h k = absurd (cc)
  opening_at at (Label i) o h k = absurd (cc)
  opening_at at (If opening body end) o h k = first_at code at opening (flattened body ++ end ∷ []) h ∙ k
  opening_at at (IfElse opening body middle other end) o h k = first_at code at opening (flattened body ++ (middle ∷ (flattened other ++ end ∷ []))) h
      ∙ k
  opening_at at (Loop opening body end) o h k = first_at code at opening (flattened body ++ end ∷ []) h ∙ k
  opening_at at (Switch opening body end) o h k = first_at code at opening (flattened body ++ end ∷ []) h ∙ k

  pub opens_construct : (w : Where) (s : Statement) (o : Instruction) → IsSound w s → opening_of s ≡ Some o → means Base is_opening o ≡ true
  opens_construct w Nothing o h k = absurd (cc)
  opens_construct w (Then first next) o h k = absurd (cc)
  opens_construct w (Plain i) o h k = absurd (cc)
  opens_construct w (Label i) o h k = absurd (cc)
  opens_construct w (If opening body end) o h k = ap (has (means Base is_opening)) (sym k) ∙ (of_if (meaning_of Base opening.code) h.0).0
  opens_construct w (IfElse opening body middle other end) o h k = ap (has (means Base is_opening)) (sym k) ∙
      (of_if (meaning_of Base opening.code) h.0).0
  opens_construct w (Loop opening body end) o h k = ap (has (means Base is_opening)) (sym k) ∙ (of_loop (meaning_of Base opening.code) h.0).0
  opens_construct w (Switch opening body end) o h k = ap (has (means Base is_opening)) (sym k) ∙ (of_switch (meaning_of Base opening.code) h.0).0

  pub close_of : (w : Where) (at : ℕ) (s : Statement) (o : Instruction) → IsSound w s → Holds code at (flattened s) → opening_of s ≡ Some o
      → close Base code at ≡ Some (at + 1 + length (inside s))
  close_of w at Nothing o h k e = absurd (cc)
  close_of w at (Then first next) o h k e = absurd (cc)
  close_of w at (Plain i) o h k e = absurd (cc)
  close_of w at (Label i) o h k e = absurd (cc)
  close_of w at (If opening body end) o h k e =
      closes_at code at opening (flattened body) end k (of_if (meaning_of Base opening.code) h.0) (of_end_if (meaning_of Base end.code) h.1)
      (balanced (in_if w) body h.3)
  close_of w at (Loop opening body end) o h k e =
      closes_at code at opening (flattened body) end k (of_loop (meaning_of Base opening.code) h.0) (of_end_loop (meaning_of Base end.code) h.1)
      (balanced (in_loop w) body h.3)
  close_of w at (Switch opening body end) o h k e =
      closes_at code at opening (flattened body) end k (of_switch (meaning_of Base opening.code) h.0) (of_end_switch (meaning_of Base end.code) h.1)
      (balanced (in_switch w) body h.3)
  close_of w at (IfElse opening body middle other end) o h k e =
      closes_at code at opening (flattened body ++ middle ∷ flattened other) end
      (subst (Holds code at) (both_bodies opening (flattened body) middle (flattened other) end) k)
      (of_if (meaning_of Base opening.code) h.0) (of_end_if (meaning_of Base end.code) h.2) (balanced_between w body middle other h.1 h.4 h.5)

  -- WHAT IS PASSED: no construct in it reaches to a place behind it.
  abbrev pub Passed : ℕ → ℕ → Type 0
  Passed at n = (m : ℕ) → at ≤ m → m < at + n → (q : ℕ) → at + n ≤ q → reaches false q (close Base code m) ≡ false

  pub passed_one : (at : ℕ) (i : Instruction) (xs : List Instruction) → Holds code at (i ∷ xs) → means Base is_opening i ≡ false → Passed at 1
  passed_one at i xs h k m l u q b =
      let e : m ≡ at = omega (arith, l, u) in
      let f : has (means Base is_opening) (slice_get code at) ≡ false = ap (has (means Base is_opening)) (first_at code at i xs h) ∙ k in
      ap (λ m. reaches false q (close Base code m)) e
      ∙ ap (λ b. reaches false q (if b then least (is_even Base code at) (at + 1) (length code - (at + 1)) else None)) f

  pub passed_join : (at a b n : ℕ) → n ≡ a + b → Passed at a → Passed (at + a) b → Passed at n
  passed_join at a b n e h k m l u q c = elim (cases_lt m (at + a)) [
    | inl s ↦ h m l s q (omega (arith, c, e))
    | inr s ↦ k m (omega (arith, s)) (omega (arith, u, e)) q (omega (arith, c, e))
  ]

  passed_wrap : (at n k c : ℕ) → close Base code at ≡ Some c → k ≡ n + 2 → c ≡ at + 1 + n → Passed (at + 1) n → close Base code (at + 1 + n) ≡ None
      → Passed at k
  passed_wrap at n k c h e f p z m l u q b = elim (cases_lt at m) [
    | inl s ↦ elim (cases_lt m (at + 1 + n)) [
      | inl t ↦ p m (omega (arith, s)) t q (omega (arith, b, e))
      | inr t ↦ let y : m ≡ at + 1 + n = omega (arith, t, u, e) in ap (λ m. reaches false q (close Base code m)) y ∙ ap (reaches false q) z
    ]
    | inr s ↦ let y : m ≡ at = omega (arith, s, l) in
        let x : nat_le q c ≡ false = grind (arith, nat_tests, b, e, f) in
        ap (λ m. reaches false q (close Base code m)) y ∙ (ap (reaches false q) h ∙ x)
  ]

  pub not_closed : (at : ℕ) (i : Instruction) (xs : List Instruction) → Holds code at (i ∷ xs) → means Base is_opening i ≡ false
      → close Base code at ≡ None
  not_closed at i xs h k =
      ap (λ b. if b then least (is_even Base code at) (at + 1) (length code - (at + 1)) else None)
      (ap (has (means Base is_opening)) (first_at code at i xs h) ∙ k)

  wrapped : (w : Where) (at : ℕ) (s : Statement) (o : Instruction) (xs : List Instruction) (end : Instruction) → IsSound w s → Holds code at
      (flattened s) → opening_of s ≡ Some o
      → xs ≡ inside s → flattened s ≡ o ∷ (xs ++ end ∷ []) → means Base is_opening end ≡ false → Passed (at + 1) (length xs) → Passed at (size s)
  wrapped w at s o xs end h k e i f z p =
      let l : size s ≡ length xs + 2 = ap length f ∙ omega (arith, length-append xs (end ∷ [])) in
      let y = next_at code at o (xs ++ end ∷ []) (subst (Holds code at) f k) in
      passed_wrap at (length xs) (size s) (at + 1 + length xs) (close_of w at s o h k e ∙ ap (λ l. Some (at + 1 + length l)) (sym i)) l refl p
      (not_closed (at + 1 + length xs) end [] (back_at code (at + 1) xs (end ∷ []) y) z)

  pub passed_else : (w : Where) (at : ℕ) (body : Statement) (middle : Instruction) (xs : List Instruction) → IsSound w body → IsPart false false
      (meaning_of Base middle.code)
      → Holds code at (flattened body ++ middle ∷ xs) → Passed at (size body) → Passed at (size body + 1)
  passed_else w at body middle xs h m k p =
      passed_join at (size body) 1 (size body + 1) refl p
      (passed_one (at + size body) middle xs (back_at code at (flattened body) (middle ∷ xs) k) m.0)

  pub passed : (w : Where) (at : ℕ) (s : Statement) → IsSound w s → Holds code at (flattened s) → Passed at (size s)
  passed w at Nothing h k = λ m l u q b. absurd (omega (arith, l, u))
  passed w at (Then first next) h k =
      passed_join at (size first) (size next) (size (Then first next)) (length-append (flattened first) (flattened next))
      (passed w at first h.0 (front_at code at (flattened first) (flattened next) k))
      (passed w (at + size first) next h.1 (back_at code at (flattened first) (flattened next) k))
  passed w at (Plain i) h k = passed_one at i [] k (of_plain w (meaning_of Base i.code) h).0
  passed w at (Label i) h k = passed_one at i [] k (of_label (meaning_of Base i.code) h.0).0
  passed w at (If opening body end) h k =
      let y = next_at code at opening (flattened body ++ end ∷ []) k in
      wrapped w at (If opening body end) opening (flattened body) end h k refl refl refl (of_end_if (meaning_of Base end.code) h.1).0
      (passed (in_if w) (at + 1) body h.3 (front_at code (at + 1) (flattened body) (end ∷ []) y))
  passed w at (Loop opening body end) h k =
      let y = next_at code at opening (flattened body ++ end ∷ []) k in
      wrapped w at (Loop opening body end) opening (flattened body) end h k refl refl refl (of_end_loop (meaning_of Base end.code) h.1).0
      (passed (in_loop w) (at + 1) body h.3 (front_at code (at + 1) (flattened body) (end ∷ []) y))
  passed w at (Switch opening body end) h k =
      let y = next_at code at opening (flattened body ++ end ∷ []) k in
      wrapped w at (Switch opening body end) opening (flattened body) end h k refl refl refl (of_end_switch (meaning_of Base end.code) h.1).0
      (passed (in_switch w) (at + 1) body h.3 (front_at code (at + 1) (flattened body) (end ∷ []) y))
  passed w at (IfElse opening body middle other end) h k =
      let y = next_at code at opening (flattened body ++ (middle ∷ (flattened other ++ end ∷ []))) k in
      let z = back_at code (at + 1) (flattened body) (middle ∷ (flattened other ++ end ∷ [])) y in
      let x = next_at code (at + 1 + size body) middle (flattened other ++ end ∷ []) z in
      let e : at + 1 + size body + 1 ≡ at + 1 + (size body + 1) = omega arith in
      let o : Holds code (at + 1 + (size body + 1)) (flattened other) = subst (λ n. Holds code n (flattened other)) e
      (front_at code (at + 1 + size body + 1) (flattened other) (end ∷ []) x) in
      wrapped w at (IfElse opening body middle other end) opening (flattened body ++ middle ∷ flattened other) end h k refl refl
      (both_bodies opening (flattened body) middle (flattened other) end) (of_end_if (meaning_of Base end.code) h.2).0
      (passed_join (at + 1) (size body + 1) (size other) (length (flattened body ++ middle ∷ flattened other))
      (omega (arith, length-append (flattened body) (middle ∷ flattened other)))
      (passed_else (in_if w) (at + 1) body middle (flattened other ++ end ∷ []) h.4 (of_else (meaning_of Base middle.code) h.1) y
      (passed (in_if w) (at + 1) body h.4 (front_at code (at + 1) (flattened body) (middle ∷ (flattened other ++ end ∷ [])) y)))
      (passed (in_if w) (at + 1 + (size body + 1)) other h.5 o))
