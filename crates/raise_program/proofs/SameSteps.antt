-- A step of the lane in the list of instructions is a turn at the spot where it stands.
use Rattle.std.proofs.Common.{◌≡◌, ℕ, ◌+◌, Bool, true, false, List, [], ◌∷◌, ◌++◌, length, Option, Some, None, refl, sym, ap, ◌∙◌, subst, arith, append-nil, length-append}
use Rattle.std.specs.Prelude.{slice_get, if◌then◌else◌, ⊤}
use Rattle.word_base.specs.declared.event.Event.{Event}
use Rattle.word_base.specs.Lanes.{Turn, Ends}
use Rattle.word_base.specs.Registers.{Registers}
use Rattle.word_base.specs.Settings.{Setting}
use Rattle.tpf_decode.specs.Profiles.{Base}
use Rattle.tpf_decode.specs.Opcodes.{meaning_of}
use Rattle.tpf_decode.specs.declared.meaning.Meaning.{Meaning}
use Rattle.tpf_decode.specs.declared.meaning.Meaning.TheVariants as meaning
use Rattle.tpf_program.specs.declared.instruction.Instruction.{Instruction}
use Rattle.tpf_program.specs.Program.{Shader}
use Rattle.tpf_program.specs.Values.{Context, context, scalar}
use Rattle.tpf_program.specs.Plans.{parts, made}
use Rattle.tpf_program.specs.Nesting.{is_label, is_end_of_switch, is_return}
use Rattle.tpf_program.specs.Ends.{has, means, is_if, is_loop, is_switch, is_else, is_default, is_case_of, is_loop_or_switch, around, close_around, else_of, or_else}
use Rattle.tpf_program.specs.Bytecode.{State, step, turn_at, turn_by, turn_of, onward, goes_to, goes_behind, holds}
use Rattle.shader_check.specs.Statements.{Statement, Nothing, Then, Plain, If, IfElse, Loop, Switch, Label, flattened, Where, IsSound, IsNested, outside_all, stands, is_end_of_if, is_end_of_loop}
use Rattle.raise_program.specs.Spots.{Frame, Before, Behind, InIf, InThen, InElse, InLoop, InSwitch, fill, filled, place_in, size, before, after, loop_around, leave_around, first_label, place_of_label, IsSpot, where_in}
use Rattle.raise_program.specs.SpotLane.{Spot, AtBegin, AtEnd, place_of, whole_of, moved, left_spot, renewed_spot, or_spot, label_spot, switched_spot, SpotState, to_spot, goes_spot, leads_on, asks_or, plain_turn, turn_in, spot_step, at_place, in_list}
use Rattle.raise_program.proofs.Places.{Holds, whole_at, first_at, back_at}
use Rattle.raise_program.proofs.Around.{fill_flat, place_more, size_more, Stands}
use Rattle.raise_program.proofs.Frames.{Stood, stood, renews, leaves, turns, skips}
use Rattle.raise_program.proofs.Labels.{else_none, else_found, label_found}

-- WHERE A PLACE AND A SPOT lead behind is the same
abbrev pub Alike : Option ℕ → Option Spot → Type 0
Alike None None = ⊤
Alike (Some n) (Some x) = place_of x ≡ n + 1
Alike a b = ⊥

alike_goes : (registers : Registers) (a : Option ℕ) (b : Option Spot) → Alike a b → goes_behind registers a ≡ in_list (goes_spot registers b)
alike_goes registers None None h = refl
alike_goes registers (Some n) (Some x) h = ap (goes_to registers) (sym h)
alike_goes registers None (Some x) h = absurd h
alike_goes registers (Some n) None h = absurd h

alike_or : (a c : Option ℕ) (b d : Option Spot) → Alike a b → Alike c d → Alike (or_else a c) (or_spot b d)
alike_or None c None d h k = k
alike_or (Some n) c (Some x) d h k = h
alike_or None c (Some x) d h k = absurd h
alike_or (Some n) c None d h k = absurd h

renew_alike : (frames : List Frame) (s : Statement) → Alike (loop_around frames) (renewed_spot frames s)
renew_alike [] s = tt
renew_alike (Before next ∷ frames) s = renew_alike frames (Then s next)
renew_alike (Behind first ∷ frames) s = renew_alike frames (Then first s)
renew_alike (InIf opening end ∷ frames) s = renew_alike frames (If opening s end)
renew_alike (InThen opening middle other end ∷ frames) s = renew_alike frames (IfElse opening s middle other end)
renew_alike (InElse opening body middle end ∷ frames) s = renew_alike frames (IfElse opening body middle s end)
renew_alike (InLoop opening end ∷ frames) s = place_more (InLoop opening end) frames
renew_alike (InSwitch opening end ∷ frames) s = renew_alike frames (Switch opening s end)

leave_alike : (frames : List Frame) (s : Statement) → Alike (leave_around frames s) (left_spot frames s)
leave_alike [] s = tt
leave_alike (Before next ∷ frames) s = leave_alike frames (Then s next)
leave_alike (Behind first ∷ frames) s = leave_alike frames (Then first s)
leave_alike (InIf opening end ∷ frames) s = leave_alike frames (If opening s end)
leave_alike (InThen opening middle other end ∷ frames) s = leave_alike frames (IfElse opening s middle other end)
leave_alike (InElse opening body middle end ∷ frames) s = leave_alike frames (IfElse opening body middle s end)
leave_alike (InLoop opening end ∷ frames) s = omega (arith, length-append (flattened s) (end ∷ []))
leave_alike (InSwitch opening end ∷ frames) s = omega (arith, length-append (flattened s) (end ∷ []))

label_alike : (test : Instruction → Bool) (frames : List Frame) (at : ℕ) (s : Statement) → place_in frames ≡ at → Alike (first_label test at s)
    (label_spot test frames s)
label_alike test frames at Nothing h = tt
label_alike test frames at (Then first next) h =
    alike_or (first_label test at first) (first_label test (at + size first) next) (label_spot test (Before next ∷ frames) first)
    (label_spot test (Behind first ∷ frames) next)
    (label_alike test (Before next ∷ frames) at first (omega (arith, place_more (Before next) frames, h)))
    (label_alike test (Behind first ∷ frames) (at + size first) next (omega (arith, place_more (Behind first) frames, h)))
label_alike test frames at (Plain i) h = tt
label_alike test frames at (If opening body end) h = tt
label_alike test frames at (IfElse opening body middle other end) h = tt
label_alike test frames at (Loop opening body end) h = tt
label_alike test frames at (Switch opening body end) h = tt
label_alike test frames at (Label i) h = by_test (test i)
  where
    by_test : (b : Bool) → Alike (if b then Some at else None) (if b then Some (AtEnd frames (Label i)) else None)
    by_test true = omega (arith, h)
    by_test false = tt

switch_alike : (w : ℕ) (frames : List Frame) (opening : Instruction) (body : Statement) (end : Instruction)
    → Alike (place_of_label w (place_in frames + 1) body) (switched_spot w frames opening body end)
switch_alike w frames opening body end =
    let at = place_in frames + 1 in
    let f = InSwitch opening end ∷ frames in
    let e : place_in f ≡ at = place_more (InSwitch opening end) frames in
    alike_or (first_label (is_case_of Base w) at body) (or_else (first_label (means Base is_default) at body) (Some (at + size body)))
    (label_spot (is_case_of Base w) f body) (or_spot (label_spot (means Base is_default) f body) (Some (AtEnd frames (Switch opening body end))))
    (label_alike (is_case_of Base w) f at body e)
    (alike_or (first_label (means Base is_default) at body) (Some (at + size body)) (label_spot (means Base is_default) f body)
    (Some (AtEnd frames (Switch opening body end)))
    (label_alike (means Base is_default) f at body e) (omega (arith, length-append (flattened body) (end ∷ []))))

-- THE MEANING of an instruction in its part
if_is : (m : Option Meaning) → has is_if m ≡ true → m ≡ Some meaning.If
if_is None h = absurd (cc)
if_is (Some meaning.If) h = refl
if_is (Some m) h = absurd (cc)

loop_is : (m : Option Meaning) → has is_loop m ≡ true → m ≡ Some meaning.Loop
loop_is None h = absurd (cc)
loop_is (Some meaning.Loop) h = refl
loop_is (Some m) h = absurd (cc)

switch_is : (m : Option Meaning) → has is_switch m ≡ true → m ≡ Some meaning.Switch
switch_is None h = absurd (cc)
switch_is (Some meaning.Switch) h = refl
switch_is (Some m) h = absurd (cc)

else_is : (m : Option Meaning) → has is_else m ≡ true → m ≡ Some meaning.Else
else_is None h = absurd (cc)
else_is (Some meaning.Else) h = refl
else_is (Some m) h = absurd (cc)

end_if_is : (m : Option Meaning) → has is_end_of_if m ≡ true → m ≡ Some meaning.EndIf
end_if_is None h = absurd (cc)
end_if_is (Some meaning.EndIf) h = refl
end_if_is (Some m) h = absurd (cc)

end_loop_is : (m : Option Meaning) → has is_end_of_loop m ≡ true → m ≡ Some meaning.EndLoop
end_loop_is None h = absurd (cc)
end_loop_is (Some meaning.EndLoop) h = refl
end_loop_is (Some m) h = absurd (cc)

end_switch_is : (m : Option Meaning) → has is_end_of_switch m ≡ true → m ≡ Some meaning.EndSwitch
end_switch_is None h = absurd (cc)
end_switch_is (Some meaning.EndSwitch) h = refl
end_switch_is (Some m) h = absurd (cc)

return_is : (m : Option Meaning) → has is_return m ≡ true → m ≡ Some meaning.Return
return_is None h = absurd (cc)
return_is (Some meaning.Return) h = refl
return_is (Some m) h = absurd (cc)

pub is_spot : (p : Shader) (n : IsNested p) (frames : List Frame) (s : Statement) → filled frames s ≡ n.front → IsSpot p.instructions frames s
is_spot p n frames s h = record {
  rest = n.last ∷ [];
  flat = n.flat ∙ ap (λ s. flattened s ++ n.last ∷ []) (sym h);
  sound = subst (IsSound outside_all) (sym h) n.sound;
}

module _ (p : Shader) (n : IsNested p) (setting : Setting) (x : SpotState) where
  abbrev code : List Instruction
  code = p.instructions

  abbrev k : Context
  k = context p setting x.registers

  abbrev turn : ℕ → Option Meaning → Instruction → Turn State
  turn q m i = turn_by Base k (record { place = q; registers = x.registers; answers = x.answers }) m i

  -- the instruction at a place
  read_at : (q : ℕ) (i : Instruction) (m : Option Meaning) → slice_get code q ≡ Some i → meaning_of Base i.code ≡ m
      → turn_at Base p setting (record { place = q; registers = x.registers; answers = x.answers }) (slice_get code q) ≡ turn q m i
  read_at q i m h e = ap (turn_at Base p setting (record { place = q; registers = x.registers; answers = x.answers })) h ∙ ap (λ m. turn q m i) e

  all_stood : (frames : List Frame) (s : Statement) → filled frames s ≡ n.front → Stood code frames s
  all_stood frames s h = stood code frames s (is_spot p n frames s h)

  -- the instruction behind what a frame holds
  after_at : (f : Frame) (frames : List Frame) (s : Statement) (i : Instruction) (xs : List Instruction) → Stands code frames (fill f s)
      → after f ≡ i ∷ xs → slice_get code (place_in (f ∷ frames) + size s) ≡ Some i
  after_at f frames s i xs h e =
      let y : Holds code (place_in frames) (before f ++ (flattened s ++ (i ∷ xs))) =
      subst (λ l. Holds code (place_in frames) (before f ++ (flattened s ++ l))) e (subst (Holds code (place_in frames)) (fill_flat f s) h.here) in
      let z = back_at code (place_in frames) (before f) (flattened s ++ (i ∷ xs)) y in
      ap (λ q. slice_get code (q + size s)) (place_more f frames)
      ∙ first_at code (place_in frames + length (before f) + size s) i xs (back_at code (place_in frames + length (before f)) (flattened s)
      (i ∷ xs) z)

  -- AN INSTRUCTION BY ITSELF
  plain_on : (w : Where) (frames : List Frame) (i : Instruction) (m : Meaning) → stands w (Some m) ≡ true → Stood code frames (Plain i)
      → onward Base k (place_in frames) m i x.answers ≡ in_list (leads_on k frames m i x.answers)
  plain_on w frames i meaning.If h s = absurd (cc)
  plain_on w frames i meaning.Else h s = absurd (cc)
  plain_on w frames i meaning.EndLoop h s = absurd (cc)
  plain_on w frames i meaning.Switch h s = absurd (cc)
  plain_on w frames i meaning.Continue h s =
      ap (goes_behind k.registers) (renews code frames (Plain i) s) ∙ alike_goes k.registers (loop_around frames) (renewed_spot frames (Plain i))
      (renew_alike frames (Plain i))
  plain_on w frames i meaning.ContinueIf h s = by_test (holds k i)
    where
      by_test : (b : Bool) → (if b then goes_behind k.registers (around Base is_loop code (place_in frames)) else goes_to k.registers
          (place_in frames + 1))
          ≡ in_list (if b then goes_spot k.registers (renewed_spot frames (Plain i)) else to_spot k.registers (AtEnd frames (Plain i)))
      by_test true =
          ap (goes_behind k.registers) (renews code frames (Plain i) s) ∙ alike_goes k.registers (loop_around frames) (renewed_spot frames (Plain i))
          (renew_alike frames (Plain i))
      by_test false = refl
  plain_on w frames i meaning.Break h s =
      ap (goes_behind k.registers) (leaves code frames (Plain i) s) ∙ alike_goes k.registers (leave_around frames (Plain i))
      (left_spot frames (Plain i)) (leave_alike frames (Plain i))
  plain_on w frames i meaning.BreakIf h s = by_test (holds k i)
    where
      by_test : (b : Bool) → (if b then goes_behind k.registers (close_around Base is_loop_or_switch code (place_in frames)) else goes_to k.registers
          (place_in frames + 1))
          ≡ in_list (if b then goes_spot k.registers (left_spot frames (Plain i)) else to_spot k.registers (AtEnd frames (Plain i)))
      by_test true =
          ap (goes_behind k.registers) (leaves code frames (Plain i) s) ∙ alike_goes k.registers (leave_around frames (Plain i))
          (left_spot frames (Plain i)) (leave_alike frames (Plain i))
      by_test false = refl
  plain_on w frames i meaning.Return h s = refl
  plain_on w frames i meaning.ReturnIf h s = by_test (holds k i)
    where
      by_test : (b : Bool) → (if b then Ends else goes_to k.registers (place_in frames + 1)) ≡ in_list
          (if b then Ends else to_spot k.registers (AtEnd frames (Plain i)))
      by_test true = refl
      by_test false = refl
  plain_on w frames i m h s = refl

  asks_alike : (s : Spot) (e : Option Event) (way : Turn State) (on : Turn SpotState) → way ≡ in_list on
      → turn_of (record { place = place_of s; registers = x.registers; answers = x.answers }) e way
      ≡ in_list (asks_or (record { spot = s; registers = x.registers; answers = x.answers }) e on)
  asks_alike s None way on h = h
  asks_alike s (Some e) way on h = refl

  plain_same : (frames : List Frame) (i : Instruction) → Stood code frames (Plain i) → (w : Where) → (m : Option Meaning) → stands w m ≡ true
      → turn (place_in frames) m i ≡ in_list (plain_turn k (record { spot = AtBegin frames (Plain i); registers = x.registers; answers = x.answers })
      frames m i)
  plain_same frames i s w None h = absurd (cc)
  plain_same frames i s w (Some m) h =
      asks_alike (AtBegin frames (Plain i)) (slice_get (made (parts k m i)) (length x.answers)) (onward Base k (place_in frames) m i x.answers)
      (leads_on k frames m i x.answers)
      (plain_on w frames i m h s)

  -- A LABEL is passed
  label_same : (frames : List Frame) (i : Instruction) (m : Option Meaning) → has is_label m ≡ true → turn (place_in frames) m i ≡ in_list
      (to_spot k.registers (AtEnd frames (Label i)))
  label_same frames i None h = absurd (cc)
  label_same frames i (Some meaning.Case) h = refl
  label_same frames i (Some meaning.Default) h = refl
  label_same frames i (Some m) h = absurd (cc)

  goes_alike : (q : ℕ) (y : Spot) → q ≡ place_of y → goes_to x.registers q ≡ in_list (to_spot x.registers y)
  goes_alike q y h = ap (goes_to x.registers) h

  -- AN END is passed, but that of a loop
  end_same : (f : Frame) (frames : List Frame) (s : Statement) (end : Instruction) → after f ≡ end ∷ [] → place_in (f ∷ frames) + size s + 1 ≡
      place_in frames + size (fill f s)
  end_same f frames s end h = omega (arith, place_more f frames, size_more f s, ap length h)

  ret_at : (s : Statement) → s ≡ n.front → slice_get code (0 + size s) ≡ Some n.last
  ret_at s h =
      let e : code ≡ (flattened s ++ n.last ∷ []) ++ [] =
      n.flat ∙ (ap (λ s. flattened s ++ n.last ∷ []) (sym h) ∙ sym (append-nil (flattened s ++ n.last ∷ []))) in
      first_at code (0 + size s) n.last [] (back_at code 0 (flattened s) (n.last ∷ []) (whole_at code (flattened s ++ n.last ∷ []) [] e))

  abbrev Same : Spot → Type 0
  Same y = turn_at Base p setting (record { place = place_of y; registers = x.registers; answers = x.answers }) (slice_get code (place_of y))
      ≡ in_list (turn_in k (record { spot = y; registers = x.registers; answers = x.answers }) y)

  if_same : (frames : List Frame) (opening : Instruction) (body : Statement) (end : Instruction) → Stood code frames (If opening body end)
      → Same (AtBegin frames (If opening body end))
  if_same frames opening body end s =
      let h = s frames (If opening body end) refl in
      read_at (place_in frames) opening (Some meaning.If) (first_at code (place_in frames) opening (flattened body ++ end ∷ []) h.here)
      (if_is (meaning_of Base opening.code) h.sound.0)
      ∙ by_test (holds k opening)
    where
      by_test : (b : Bool) → (if b then goes_to x.registers (place_in frames + 1) else goes_behind x.registers (else_of Base code (place_in frames)))
          ≡ in_list (if b then to_spot x.registers (AtBegin (InIf opening end ∷ frames) body) else to_spot x.registers
          (AtEnd frames (If opening body end)))
      by_test true = goes_alike (place_in frames + 1) (AtBegin (InIf opening end ∷ frames) body) (sym (place_more (InIf opening end) frames))
      by_test false =
          ap (goes_behind x.registers) (else_none code frames opening body end s)
          ∙ goes_alike (place_in frames + 1 + size body + 1) (AtEnd frames (If opening body end))
          (omega (arith, length-append (flattened body) (end ∷ [])))

  choice_same : (frames : List Frame) (opening : Instruction) (body : Statement) (middle : Instruction) (other : Statement) (end : Instruction)
      → Stood code frames (IfElse opening body middle other end) → Same (AtBegin frames (IfElse opening body middle other end))
  choice_same frames opening body middle other end s =
      let h = s frames (IfElse opening body middle other end) refl in
      read_at (place_in frames) opening (Some meaning.If)
      (first_at code (place_in frames) opening (flattened body ++ (middle ∷ (flattened other ++ end ∷ []))) h.here)
      (if_is (meaning_of Base opening.code) h.sound.0)
      ∙ by_test (holds k opening)
    where
      by_test : (b : Bool) → (if b then goes_to x.registers (place_in frames + 1) else goes_behind x.registers (else_of Base code (place_in frames)))
          ≡ in_list (if b then to_spot x.registers (AtBegin (InThen opening middle other end ∷ frames) body) else to_spot x.registers
          (AtBegin (InElse opening body middle end ∷ frames) other))
      by_test true = goes_alike (place_in frames + 1) (AtBegin (InThen opening middle other end ∷ frames) body)
          (sym (place_more (InThen opening middle other end) frames))
      by_test false =
          ap (goes_behind x.registers) (else_found code frames opening body middle other end s)
          ∙ goes_alike (place_in frames + 1 + size body + 1) (AtBegin (InElse opening body middle end ∷ frames) other)
          (omega (arith, place_more (InElse opening body middle end) frames, length-append (flattened body) (middle ∷ [])))

  same_in : (y : Spot) → moved y ≡ None → whole_of y ≡ n.front → Same y
  same_in (AtBegin frames Nothing) h e = absurd (cc)
  same_in (AtBegin frames (Then first next)) h e = absurd (cc)
  same_in (AtBegin frames (Plain i)) h e =
      let s = all_stood frames (Plain i) e in
      let l = s frames (Plain i) refl in
      read_at (place_in frames) i (meaning_of Base i.code) (first_at code (place_in frames) i [] l.here) refl
      ∙ plain_same frames i s (where_in frames) (meaning_of Base i.code) l.sound
  same_in (AtBegin frames (Label i)) h e =
      let l = all_stood frames (Label i) e frames (Label i) refl in
      read_at (place_in frames) i (meaning_of Base i.code) (first_at code (place_in frames) i [] l.here) refl ∙ label_same frames i
      (meaning_of Base i.code) l.sound.0
  same_in (AtBegin frames (If opening body end)) h e = if_same frames opening body end (all_stood frames (If opening body end) e)
  same_in (AtBegin frames (IfElse opening body middle other end)) h e =
      choice_same frames opening body middle other end (all_stood frames (IfElse opening body middle other end) e)
  same_in (AtBegin frames (Loop opening body end)) h e =
      let l = all_stood frames (Loop opening body end) e frames (Loop opening body end) refl in
      read_at (place_in frames) opening (Some meaning.Loop) (first_at code (place_in frames) opening (flattened body ++ end ∷ []) l.here)
      (loop_is (meaning_of Base opening.code) l.sound.0)
      ∙ goes_alike (place_in frames + 1) (AtBegin (InLoop opening end ∷ frames) body) (sym (place_more (InLoop opening end) frames))
  same_in (AtBegin frames (Switch opening body end)) h e =
      let s = all_stood frames (Switch opening body end) e in
      let l = s frames (Switch opening body end) refl in
      let w = scalar k opening.o0 in
      read_at (place_in frames) opening (Some meaning.Switch) (first_at code (place_in frames) opening (flattened body ++ end ∷ []) l.here)
      (switch_is (meaning_of Base opening.code) l.sound.0)
      ∙ (ap (goes_behind x.registers) (label_found code frames opening body end s w)
      ∙ alike_goes x.registers (place_of_label w (place_in frames + 1) body) (switched_spot w frames opening body end)
      (switch_alike w frames opening body end))
  same_in (AtEnd [] s) h e = read_at (0 + size s) n.last (Some meaning.Return) (ret_at s e) (return_is (meaning_of Base n.last.code) n.returns)
  same_in (AtEnd (Before next ∷ frames) s) h e = absurd (cc)
  same_in (AtEnd (Behind first ∷ frames) s) h e = absurd (cc)
  same_in (AtEnd (InIf opening end ∷ frames) s) h e =
      let f = InIf opening end in
      let l = all_stood frames (If opening s end) e frames (If opening s end) refl in
      let q = place_in (f ∷ frames) + size s in
      read_at q end (Some meaning.EndIf) (after_at f frames s end [] l refl) (end_if_is (meaning_of Base end.code) l.sound.1)
      ∙ goes_alike (q + 1) (AtEnd frames (If opening s end)) (end_same f frames s end refl)
  same_in (AtEnd (InElse opening body middle end ∷ frames) s) h e =
      let f = InElse opening body middle end in
      let l = all_stood frames (IfElse opening body middle s end) e frames (IfElse opening body middle s end) refl in
      let q = place_in (f ∷ frames) + size s in
      read_at q end (Some meaning.EndIf) (after_at f frames s end [] l refl) (end_if_is (meaning_of Base end.code) l.sound.2)
      ∙ goes_alike (q + 1) (AtEnd frames (IfElse opening body middle s end)) (end_same f frames s end refl)
  same_in (AtEnd (InSwitch opening end ∷ frames) s) h e =
      let f = InSwitch opening end in
      let l = all_stood frames (Switch opening s end) e frames (Switch opening s end) refl in
      let q = place_in (f ∷ frames) + size s in
      read_at q end (Some meaning.EndSwitch) (after_at f frames s end [] l refl) (end_switch_is (meaning_of Base end.code) l.sound.1)
      ∙ goes_alike (q + 1) (AtEnd frames (Switch opening s end)) (end_same f frames s end refl)
  same_in (AtEnd (InLoop opening end ∷ frames) s) h e =
      let f = InLoop opening end in
      let t = all_stood frames (Loop opening s end) e in
      let l = t frames (Loop opening s end) refl in
      let q = place_in (f ∷ frames) + size s in
      let z : q ≡ place_in frames + 1 + size s = ap (λ n. n + size s) (place_more f frames) in
      read_at q end (Some meaning.EndLoop) (after_at f frames s end [] l refl) (end_loop_is (meaning_of Base end.code) l.sound.1)
      ∙ (ap (goes_behind x.registers) (ap (around Base is_loop code) z ∙ turns code frames opening s end t)
      ∙ goes_alike (place_in frames + 1) (AtBegin (f ∷ frames) s) (sym (place_more f frames)))
  same_in (AtEnd (InThen opening middle other end ∷ frames) s) h e =
      let f = InThen opening middle other end in
      let t = all_stood frames (IfElse opening s middle other end) e in
      let l = t frames (IfElse opening s middle other end) refl in
      let q = place_in (f ∷ frames) + size s in
      let z : q ≡ place_in frames + 1 + size s = ap (λ n. n + size s) (place_more f frames) in
      read_at q middle (Some meaning.Else) (after_at f frames s middle (flattened other ++ end ∷ []) l refl)
      (else_is (meaning_of Base middle.code) l.sound.1)
      ∙ (ap (goes_behind x.registers) (ap (close_around Base is_if code) z ∙ skips code frames opening s middle other end t)
      ∙ goes_alike (place_in frames + 1 + size s + 1 + size other + 1) (AtEnd frames (IfElse opening s middle other end))
      (omega (arith, length-append (flattened s) (middle ∷ (flattened other ++ end ∷ [])), length-append (flattened other) (end ∷ []))))

  pub same_step : moved x.spot ≡ None → whole_of x.spot ≡ n.front → step Base p setting (at_place x) ≡ in_list (spot_step p setting x)
  same_step h e = same_in x.spot h e
