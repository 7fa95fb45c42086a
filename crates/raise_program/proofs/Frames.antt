-- The innermost construct around a statement is that of its frames, and so is where a break, a continue and an else lead.
use Rattle.std.proofs.Common.{◌≡◌, ℕ, ◌+◌, ◌≤◌, Bool, true, false, ◌&&◌, List, [], ◌∷◌, ◌++◌, length, Option, Some, None, refl, sym, ap, ◌∙◌, subst, arith, length-append}
use Rattle.std.specs.Prelude.{slice_get, nat_le, if◌then◌else◌, option_and_then}
use Rattle.std.proofs.lemmas.Bool.Decides.{nat_tests}
use Rattle.tpf_decode.specs.Profiles.{Base}
use Rattle.tpf_decode.specs.Opcodes.{meaning_of}
use Rattle.tpf_decode.specs.declared.meaning.Meaning.{Meaning}
use Rattle.tpf_decode.specs.declared.meaning.Meaning.TheVariants as meaning
use Rattle.tpf_program.specs.declared.instruction.Instruction.{Instruction}
use Rattle.tpf_program.specs.Ends.{has, means, is_if, is_loop, is_switch, is_loop_or_switch, close, reaches, is_around, last_below, around, close_around}
use Rattle.shader_check.specs.Statements.{Statement, Then, If, IfElse, Loop, Switch, flattened, Where, outside_all, in_if, IsSound}
use Rattle.raise_program.specs.Spots.{IsSpot, Frame, Before, Behind, InIf, InThen, InElse, InLoop, InSwitch, fill, filled, before, place_in, size, opening_of, inside, where_in, loop_around, leave_around}
use Rattle.raise_program.proofs.Places.{Holds, whole_at, front_at, next_at, last_past, last_next}
use Rattle.raise_program.proofs.Balanced.{of_else}
use Rattle.raise_program.proofs.Around.{place_more, size_more, and_false, and_true, Stands, stands_in, opening_at, close_of, Passed, passed, passed_else}

abbrev pub opening_by : Frame → Option Instruction
opening_by (Before next) = None
opening_by (Behind first) = None
opening_by (InIf opening end) = Some opening
opening_by (InThen opening middle other end) = Some opening
opening_by (InElse opening body middle end) = Some opening
opening_by (InLoop opening end) = Some opening
opening_by (InSwitch opening end) = Some opening

-- the opening of the innermost construct whose meaning the test takes
abbrev pub innermost_of : (Meaning → Bool) → List Frame → Option ℕ
innermost_of sort [] = None
innermost_of sort (f ∷ frames) = if has (means Base sort) (opening_by f) then Some (place_in frames) else innermost_of sort frames

-- WHAT A SORT TAKES of the constructs
no_loop : (m : Option Meaning) → has is_if m ≡ true → has is_loop m ≡ false
no_loop None h = refl
no_loop (Some meaning.If) h = refl
no_loop (Some m) h = absurd (cc)

no_leave : (m : Option Meaning) → has is_if m ≡ true → has is_loop_or_switch m ≡ false
no_leave None h = refl
no_leave (Some meaning.If) h = refl
no_leave (Some m) h = absurd (cc)

switch_no_loop : (m : Option Meaning) → has is_switch m ≡ true → has is_loop m ≡ false
switch_no_loop None h = refl
switch_no_loop (Some meaning.Switch) h = refl
switch_no_loop (Some m) h = absurd (cc)

loop_leaves : (m : Option Meaning) → has is_loop m ≡ true → has is_loop_or_switch m ≡ true
loop_leaves None h = absurd (cc)
loop_leaves (Some meaning.Loop) h = refl
loop_leaves (Some m) h = absurd (cc)

switch_leaves : (m : Option Meaning) → has is_switch m ≡ true → has is_loop_or_switch m ≡ true
switch_leaves None h = absurd (cc)
switch_leaves (Some meaning.Switch) h = refl
switch_leaves (Some m) h = absurd (cc)

module _ (code : List Instruction) where
  module _ (sort : Meaning → Bool) (q : ℕ) where
    abbrev pub test : ℕ → Bool
    test = is_around Base false sort code q

    pub past : (at n : ℕ) → Passed code at n → at + n ≤ q → last_below test (at + n) ≡ last_below test at
    past at n p b = last_past test at n (λ m l u. and_false (has (means Base sort) (slice_get code m)) (reaches false q (close Base code m))
        (p m l u q b))

    -- behind the opening of a construct, and in front of its end
    within : (w : Where) (at : ℕ) (s : Statement) (o : Instruction) (n k : ℕ) → IsSound w s → Holds code at (flattened s) → opening_of s ≡ Some o
        → k ≡ 1 + n → Passed code (at + 1) n
        → at + k ≤ q → q ≤ at + 1 + length (inside s) → last_below test (at + k) ≡ (if means Base sort o then Some at else last_below test at)
    within w at s o n k h y e z p b c =
        let l : at + k ≡ at + 1 + n = omega (arith, z) in
        let r : nat_le q (at + 1 + length (inside s)) ≡ true = grind (arith, nat_tests, c) in
        let t : test at ≡ means Base sort o =
        ap (λ x. has (means Base sort) x && reaches false q (close Base code at)) (opening_at code at s o y e)
        ∙ and_true (means Base sort o) (reaches false q (close Base code at)) (ap (reaches false q) (close_of code w at s o h y e) ∙ r) in
        ap (last_below test) l ∙ (past (at + 1) n p (omega (arith, b, z)) ∙ last_next test at (means Base sort o) t)

    by_frame : (f : Frame) (frames : List Frame) (s : Statement) → Stands code frames (fill f s) → place_in frames + length (before f) ≤ q
        → q ≤ place_in frames + length (before f) + size s
        → last_below test (place_in frames + length (before f)) ≡ (if has (means Base sort) (opening_by f) then Some (place_in frames) else last_below
        test (place_in frames))
    by_frame (Before next) frames s h b c = let e : place_in frames + 0 ≡ place_in frames = omega arith in ap (last_below test) e
    by_frame (Behind first) frames s h b c =
        past (place_in frames) (size first) (passed code (where_in frames) (place_in frames) first h.sound.0
        (front_at code (place_in frames) (flattened first) (flattened s) h.here)) b
    by_frame (InIf opening end) frames s h b c =
        within (where_in frames) (place_in frames) (If opening s end) opening 0 1 h.sound h.here refl refl (λ m l u. absurd (omega (arith, l, u))) b c
    by_frame (InLoop opening end) frames s h b c =
        within (where_in frames) (place_in frames) (Loop opening s end) opening 0 1 h.sound h.here refl refl (λ m l u. absurd (omega (arith, l, u))) b
        c
    by_frame (InSwitch opening end) frames s h b c =
        within (where_in frames) (place_in frames) (Switch opening s end) opening 0 1 h.sound h.here refl refl (λ m l u. absurd (omega (arith, l, u)))
        b c
    by_frame (InThen opening middle other end) frames s h b c =
        within (where_in frames) (place_in frames) (IfElse opening s middle other end) opening 0 1 h.sound h.here refl refl
        (λ m l u. absurd (omega (arith, l, u))) b
        (omega (arith, c, length-append (flattened s) (middle ∷ flattened other)))
    by_frame (InElse opening body middle end) frames s h b c =
        let at = place_in frames in
        let y = next_at code at opening (flattened body ++ (middle ∷ (flattened s ++ end ∷ []))) h.here in
        let z : length (opening ∷ (flattened body ++ middle ∷ [])) ≡ 1 + (size body + 1) = omega (arith, length-append (flattened body) (middle ∷ []))
        in
        within (where_in frames) at (IfElse opening body middle s end) opening (size body + 1) (length (opening ∷ (flattened body ++ middle ∷ [])))
        h.sound h.here refl z
        (passed_else code (in_if (where_in frames)) (at + 1) body middle (flattened s ++ end ∷ []) h.sound.4
        (of_else (meaning_of Base middle.code) h.sound.1) y
        (passed code (in_if (where_in frames)) (at + 1) body h.sound.4 (front_at code (at + 1) (flattened body) (middle ∷ (flattened s ++ end ∷ []))
        y)))
        b (omega (arith, c, z, length-append (flattened body) (middle ∷ flattened s)))

    pub inner_in : (frames : List Frame) (s : Statement) → ((fs : List Frame) (t : Statement) → filled fs t ≡ filled frames s → Stands code fs t)
        → place_in frames ≤ q → q ≤ place_in frames + size s
        → last_below test (place_in frames) ≡ innermost_of sort frames
    inner_in [] s h b c = refl
    inner_in (f ∷ frames) s h b c =
        let e = place_more f frames in
        ap (last_below test) e
        ∙ (by_frame f frames s (h frames (fill f s) refl) (omega (arith, b, e)) (omega (arith, c, e))
        ∙ ap (λ x. if has (means Base sort) (opening_by f) then Some (place_in frames) else x)
        (inner_in frames (fill f s) h (omega (arith, b, e)) (omega (arith, c, e, size_more f s))))

  -- each part of the whole stands where its frames are
  abbrev pub Stood : List Frame → Statement → Type 0
  Stood frames s = (fs : List Frame) (t : Statement) → filled fs t ≡ filled frames s → Stands code fs t

  pub stands : (frames : List Frame) (s : Statement) → Stood frames s → Stands code frames s
  stands frames s h = h frames s refl

  pub stood : (frames : List Frame) (s : Statement) → IsSpot code frames s → Stood frames s
  stood frames s h fs t e =
      stands_in code fs t (subst (IsSound outside_all) (sym e) h.sound)
      (whole_at code (flattened (filled fs t)) h.rest (h.flat ∙ ap (λ x. flattened x ++ h.rest) (sym e)))

  -- what is around its beginning and its end
  pub around_begin : (sort : Meaning → Bool) (frames : List Frame) (s : Statement) → Stood frames s → around Base sort code (place_in frames) ≡
      innermost_of sort frames
  around_begin sort frames s h = inner_in sort (place_in frames) frames s h (omega arith) (omega arith)

  pub around_end : (sort : Meaning → Bool) (frames : List Frame) (s : Statement) (q : ℕ) → Stood frames s → q ≡ place_in frames + size s
      → around Base sort code q ≡ innermost_of sort frames
  around_end sort frames s q h e =
      let k = stands frames s h in
      ap (last_below (is_around Base false sort code q)) e
      ∙ (past sort q (place_in frames) (size s) (passed code (where_in frames) (place_in frames) s k.sound k.here) (omega (arith, e))
      ∙ inner_in sort q frames s h (omega (arith, e)) (omega (arith, e)))

  abbrev turn : Bool → List Frame → Option ℕ
  turn b frames = if b then Some (place_in frames) else innermost_of is_loop frames

  pub loop_is : (frames : List Frame) (s : Statement) → Stood frames s → innermost_of is_loop frames ≡ loop_around frames
  loop_is [] s h = refl
  loop_is (Before next ∷ frames) s h = loop_is frames (Then s next) h
  loop_is (Behind first ∷ frames) s h = loop_is frames (Then first s) h
  loop_is (InIf opening end ∷ frames) s h =
      ap (λ b. turn b frames) (no_loop (meaning_of Base opening.code) (h frames (If opening s end) refl).sound.0) ∙ loop_is frames (If opening s end)
      h
  loop_is (InThen opening middle other end ∷ frames) s h =
      ap (λ b. turn b frames) (no_loop (meaning_of Base opening.code) (h frames (IfElse opening s middle other end) refl).sound.0) ∙ loop_is frames
      (IfElse opening s middle other end) h
  loop_is (InElse opening body middle end ∷ frames) s h =
      ap (λ b. turn b frames) (no_loop (meaning_of Base opening.code) (h frames (IfElse opening body middle s end) refl).sound.0) ∙ loop_is frames
      (IfElse opening body middle s end) h
  loop_is (InLoop opening end ∷ frames) s h = ap (λ b. turn b frames) (h frames (Loop opening s end) refl).sound.0
  loop_is (InSwitch opening end ∷ frames) s h =
      ap (λ b. turn b frames) (switch_no_loop (meaning_of Base opening.code) (h frames (Switch opening s end) refl).sound.0) ∙ loop_is frames
      (Switch opening s end) h

  abbrev leave : Bool → List Frame → Option ℕ
  leave b frames = option_and_then (close Base code) (if b then Some (place_in frames) else innermost_of is_loop_or_switch frames)

  pub leave_is : (frames : List Frame) (s : Statement) → Stood frames s → option_and_then (close Base code) (innermost_of is_loop_or_switch frames) ≡
      leave_around frames s
  leave_is [] s h = refl
  leave_is (Before next ∷ frames) s h = leave_is frames (Then s next) h
  leave_is (Behind first ∷ frames) s h = leave_is frames (Then first s) h
  leave_is (InIf opening end ∷ frames) s h =
      ap (λ b. leave b frames) (no_leave (meaning_of Base opening.code) (h frames (If opening s end) refl).sound.0) ∙ leave_is frames
      (If opening s end) h
  leave_is (InThen opening middle other end ∷ frames) s h =
      ap (λ b. leave b frames) (no_leave (meaning_of Base opening.code) (h frames (IfElse opening s middle other end) refl).sound.0) ∙ leave_is frames
      (IfElse opening s middle other end) h
  leave_is (InElse opening body middle end ∷ frames) s h =
      ap (λ b. leave b frames) (no_leave (meaning_of Base opening.code) (h frames (IfElse opening body middle s end) refl).sound.0) ∙ leave_is frames
      (IfElse opening body middle s end) h
  leave_is (InLoop opening end ∷ frames) s h =
      let k = h frames (Loop opening s end) refl in
      ap (λ b. leave b frames) (loop_leaves (meaning_of Base opening.code) k.sound.0) ∙ close_of code (where_in frames) (place_in frames)
      (Loop opening s end) opening k.sound k.here refl
  leave_is (InSwitch opening end ∷ frames) s h =
      let k = h frames (Switch opening s end) refl in
      ap (λ b. leave b frames) (switch_leaves (meaning_of Base opening.code) k.sound.0) ∙ close_of code (where_in frames) (place_in frames)
      (Switch opening s end) opening k.sound k.here refl

  -- WHERE THEY LEAD
  pub renews : (frames : List Frame) (s : Statement) → Stood frames s → around Base is_loop code (place_in frames) ≡ loop_around frames
  renews frames s h = around_begin is_loop frames s h ∙ loop_is frames s h

  pub leaves : (frames : List Frame) (s : Statement) → Stood frames s → close_around Base is_loop_or_switch code (place_in frames) ≡ leave_around
      frames s
  leaves frames s h = ap (option_and_then (close Base code)) (around_begin is_loop_or_switch frames s h) ∙ leave_is frames s h

  pub turns : (frames : List Frame) (opening : Instruction) (body : Statement) (end : Instruction) → Stood frames (Loop opening body end)
      → around Base is_loop code (place_in frames + 1 + size body) ≡ Some (place_in frames)
  turns frames opening body end h =
      let e : place_in frames + 1 + size body ≡ place_in (InLoop opening end ∷ frames) + size body =
      omega (arith, place_more (InLoop opening end) frames) in
      around_end is_loop (InLoop opening end ∷ frames) body (place_in frames + 1 + size body) h e ∙ loop_is (InLoop opening end ∷ frames) body h

  pub skips : (frames : List Frame) (opening : Instruction) (body : Statement) (middle : Instruction) (other : Statement) (end : Instruction)
      → Stood frames (IfElse opening body middle other end)
      → close_around Base is_if code (place_in frames + 1 + size body) ≡ Some (place_in frames + 1 + size body + 1 + size other)
  skips frames opening body middle other end h =
      let f = InThen opening middle other end in
      let k = h frames (IfElse opening body middle other end) refl in
      let e : place_in frames + 1 + size body ≡ place_in (f ∷ frames) + size body = omega (arith, place_more f frames) in
      let l : place_in frames + 1 + length (flattened body ++ middle ∷ flattened other) ≡ place_in frames + 1 + size body + 1 + size other =
      omega (arith, length-append (flattened body) (middle ∷ flattened other)) in
      ap (option_and_then (close Base code))
      (around_end is_if (f ∷ frames) body (place_in frames + 1 + size body) h e ∙ ap
      (λ b. if b then Some (place_in frames) else innermost_of is_if frames) k.sound.0)
      ∙ (close_of code (where_in frames) (place_in frames) (IfElse opening body middle other end) opening k.sound k.here refl ∙ ap Some l)
