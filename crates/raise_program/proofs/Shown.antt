-- The shape of a raised tree is that of its program.
use Rattle.std.proofs.Common.{◌≡◌, ℕ, suc, ◌+◌, Bool, true, false, List, [], ◌∷◌, ◌++◌, length, Option, Some, None, refl, sym, ap, ◌∙◌, arith, append_assoc, append-nil, length-append}
use Rattle.std.specs.Prelude.{if◌then◌else◌}
use Rattle.tpf_decode.specs.Profiles.{Base}
use Rattle.tpf_decode.specs.Opcodes.{meaning_of}
use Rattle.tpf_decode.specs.declared.meaning.Meaning.{Meaning}
use Rattle.tpf_decode.specs.declared.meaning.Meaning.TheVariants as meaning
use Rattle.tpf_program.specs.Ends.{has, is_default, is_else, is_if, is_loop, is_switch, means}
use Rattle.tpf_program.specs.Nesting.{is_end_of_switch, is_label}
use Rattle.tpf_program.specs.declared.instruction.Instruction.{Instruction}
use Rattle.binding_map.specs.Bindings.{Binding}
use Rattle.shader_check.specs.Statements.{Statement, Nothing, Then, Plain, If, IfElse, Loop, Switch, Label, flattened, Where, in_switch, IsSound, is_end_of_if, is_end_of_loop, stands}
use Rattle.shader_tree.specs.Shape.{Item, OpensLoop, OpensSwitch, ClosesIt, cases_in, shape}
use Rattle.shader_tree.specs.Terms.{Term}
use Rattle.shader_tree.specs.Terms as term
use Rattle.shader_tree.specs.Walks.{Each}
use Rattle.raise_program.specs.ProgramShape.{case_values, items_by, items_of}
use Rattle.raise_program.specs.Raised.{Parts, alone, goes_on, raised}
use Rattle.raise_program.specs.Spots.{Frame, Before, Behind, InIf, InThen, InElse, InLoop, InSwitch, place_in, size, where_in}
use Rattle.raise_program.proofs.Around.{place_more}
use Rattle.raise_program.proofs.Collected.{values_are}
use Rattle.raise_program.proofs.Frames.{Stood}
use Rattle.raise_program.proofs.Placing.{Calm, labelled}
use Rattle.raise_program.proofs.Sums.{each_parts}

module _ (bindings : List Binding) (cases : ℕ → List ℕ) where
  abbrev pub items : ℕ → List Instruction → List Item
  items at xs = items_of Base bindings cases at xs

  abbrev pub item : Option Meaning → ℕ → Instruction → List Item
  item m at i = items_by bindings cases m at i

  pub items_append : (at : ℕ) (xs ys : List Instruction) → items at (xs ++ ys) ≡ items at xs ++ items (at + length xs) ys
  items_append at [] ys = let e : at ≡ at + 0 = omega arith in ap (λ k. items k ys) e
  items_append at (i ∷ xs) ys =
      let e : at + 1 + length xs ≡ at + suc (length xs) = omega arith in
      ap (λ l. item (meaning_of Base i.code) at i ++ l) (items_append (at + 1) xs ys)
      ∙ (ap (λ k. item (meaning_of Base i.code) at i ++ (items (at + 1) xs ++ items k ys)) e
      ∙ sym (append_assoc (item (meaning_of Base i.code) at i) (items (at + 1) xs) (items (at + suc (length xs)) ys)))

  -- WHAT AN INSTRUCTION OF CONTROL FLOW shows
  of_if : (m : Option Meaning) (at : ℕ) (i : Instruction) → has is_if m ≡ true → item m at i ≡ []
  of_if None at i h = absurd (cc)
  of_if (Some meaning.If) at i h = refl
  of_if (Some m) at i h = absurd (cc)

  of_else : (m : Option Meaning) (at : ℕ) (i : Instruction) → has is_else m ≡ true → item m at i ≡ []
  of_else None at i h = absurd (cc)
  of_else (Some meaning.Else) at i h = refl
  of_else (Some m) at i h = absurd (cc)

  of_end_if : (m : Option Meaning) (at : ℕ) (i : Instruction) → has is_end_of_if m ≡ true → item m at i ≡ []
  of_end_if None at i h = absurd (cc)
  of_end_if (Some meaning.EndIf) at i h = refl
  of_end_if (Some m) at i h = absurd (cc)

  of_label : (m : Option Meaning) (at : ℕ) (i : Instruction) → has is_label m ≡ true → item m at i ≡ []
  of_label None at i h = absurd (cc)
  of_label (Some meaning.Case) at i h = refl
  of_label (Some meaning.Default) at i h = refl
  of_label (Some m) at i h = absurd (cc)

  of_loop : (m : Option Meaning) (at : ℕ) (i : Instruction) → has is_loop m ≡ true → item m at i ≡ OpensLoop ∷ []
  of_loop None at i h = absurd (cc)
  of_loop (Some meaning.Loop) at i h = refl
  of_loop (Some m) at i h = absurd (cc)

  of_end_loop : (m : Option Meaning) (at : ℕ) (i : Instruction) → has is_end_of_loop m ≡ true → item m at i ≡ ClosesIt ∷ []
  of_end_loop None at i h = absurd (cc)
  of_end_loop (Some meaning.EndLoop) at i h = refl
  of_end_loop (Some m) at i h = absurd (cc)

  of_switch : (m : Option Meaning) (at : ℕ) (i : Instruction) → has is_switch m ≡ true → item m at i ≡ OpensSwitch (cases at) ∷ []
  of_switch None at i h = absurd (cc)
  of_switch (Some meaning.Switch) at i h = refl
  of_switch (Some m) at i h = absurd (cc)

  of_end_switch : (m : Option Meaning) (at : ℕ) (i : Instruction) → has is_end_of_switch m ≡ true → item m at i ≡ ClosesIt ∷ []
  of_end_switch None at i h = absurd (cc)
  of_end_switch (Some meaning.EndSwitch) at i h = refl
  of_end_switch (Some m) at i h = absurd (cc)

  -- what the parts of an instruction show
  pub record PartsShow (parts : Parts) (i : Instruction) : Type 0 where
    pub plain : goes_on (meaning_of Base i.code) ≡ true → (at : ℕ) → shape (parts.plain i) ≡ item (meaning_of Base i.code) at i
    pub front : shape (parts.front i) ≡ []

  module _ (parts : Parts) where
    none_before : (front t : Term) → shape front ≡ [] → shape (term.Then front t) ≡ shape t
    none_before front t h = ap (λ l. l ++ shape t) h

    alone_shown : (m : Option Meaning) (at : ℕ) (i : Instruction) (w : Where) → stands w m ≡ true → shape (parts.front i) ≡ []
        → (goes_on m ≡ true → (at : ℕ) → shape (parts.plain i) ≡ item m at i) → shape (alone parts m i) ≡ item m at i
    alone_shown None at i w s f h = absurd (cc)
    alone_shown (Some meaning.If) at i w s f h = absurd (cc)
    alone_shown (Some meaning.Else) at i w s f h = absurd (cc)
    alone_shown (Some meaning.EndIf) at i w s f h = absurd (cc)
    alone_shown (Some meaning.Loop) at i w s f h = absurd (cc)
    alone_shown (Some meaning.EndLoop) at i w s f h = absurd (cc)
    alone_shown (Some meaning.Switch) at i w s f h = absurd (cc)
    alone_shown (Some meaning.Case) at i w s f h = absurd (cc)
    alone_shown (Some meaning.Default) at i w s f h = absurd (cc)
    alone_shown (Some meaning.EndSwitch) at i w s f h = absurd (cc)
    alone_shown (Some meaning.Break) at i w s f h = refl
    alone_shown (Some meaning.Continue) at i w s f h = refl
    alone_shown (Some meaning.Return) at i w s f h = refl
    alone_shown (Some meaning.BreakIf) at i w s f h = none_before (parts.front i) (term.Guard (parts.truth i) term.Break) f
    alone_shown (Some meaning.ContinueIf) at i w s f h = none_before (parts.front i) (term.Guard (parts.truth i) term.Continue) f
    alone_shown (Some meaning.ReturnIf) at i w s f h = none_before (parts.front i) (term.Guard (parts.truth i) term.Return) f
    alone_shown (Some m) at i w s f h = h refl at

    label_shown : (b : Bool) (i : Instruction) → shape (if b then term.Default term.Nothing else term.Case i.o0.x term.Nothing) ≡ []
    label_shown true i = refl
    label_shown false i = refl

    -- a body between an opening and an end
    around : (at : ℕ) (opening : Instruction) (xs : List Instruction) (end : Instruction) (a b c : List Item)
        → item (meaning_of Base opening.code) at opening ≡ a → items (at + 1) xs ≡ b
        → item (meaning_of Base end.code) (at + 1 + length xs) end ≡ c → a ++ (b ++ c) ≡ items at (opening ∷ (xs ++ end ∷ []))
    around at opening xs end a b c h k l =
        sym (ap (λ x. item (meaning_of Base opening.code) at opening ++ x) (items_append (at + 1) xs (end ∷ []))
        ∙ (ap (λ x. x ++ (items (at + 1) xs ++ (item (meaning_of Base end.code) (at + 1 + length xs) end ++ []))) h
        ∙ (ap (λ x. a ++ (x ++ (item (meaning_of Base end.code) (at + 1 + length xs) end ++ []))) k
        ∙ ap (λ x. a ++ (b ++ x)) (append-nil (item (meaning_of Base end.code) (at + 1 + length xs) end) ∙ l))))

module _ (bindings : List Binding) (code : List Instruction) (parts : Parts) where
  abbrev values : ℕ → List ℕ
  values = case_values Base code

  abbrev Shows : List Instruction → Type 0
  Shows xs = Each (PartsShow bindings values parts) xs

  abbrev Calms : List Instruction → Type 0
  Calms xs = Each (Calm parts) xs

  at_end : (at : ℕ) (body : Statement) (x : ℕ) → x ≡ at → shape (raised parts body) ≡ items bindings values x (flattened body)
      → items bindings values at (flattened body) ≡ shape (raised parts body)
  at_end at body x e h = sym (h ∙ ap (λ n. items bindings values n (flattened body)) e)

  switch_cases : (frames : List Frame) (opening : Instruction) (body : Statement) (end : Instruction) → Stood code frames (Switch opening body end)
      → IsSound (in_switch (where_in frames)) body → Calms (flattened body) → cases_in (raised parts body) ≡ values (place_in frames)
  switch_cases frames opening body end h s k =
      (labelled parts (in_switch (where_in frames)) body s k).cases' ∙ sym (values_are code frames opening body end h)

  pub shown : (frames : List Frame) (s : Statement) → Stood code frames s → Shows (flattened s) → Calms (flattened s)
      → shape (raised parts s) ≡ items bindings values (place_in frames) (flattened s)
  shown frames Nothing h k l = refl
  shown frames (Then first next) h k l =
      let at = place_in frames in
      let q = each_parts (PartsShow bindings values parts) (flattened first) (flattened next) k in
      let r = each_parts (Calm parts) (flattened first) (flattened next) l in
      let e : place_in (Before next ∷ frames) ≡ at = place_more (Before next) frames ∙ omega arith in
      let a = at_end at first (place_in (Before next ∷ frames)) e (shown (Before next ∷ frames) first h q.0 r.0) in
      let b = at_end (at + size first) next (place_in (Behind first ∷ frames)) (place_more (Behind first) frames)
      (shown (Behind first ∷ frames) next h q.1 r.1) in
      sym (items_append bindings values at (flattened first) (flattened next)
      ∙ (ap (λ x. x ++ items bindings values (at + size first) (flattened next)) a ∙ ap (λ x. shape (raised parts first) ++ x) b))
  shown frames (Plain i) h k l =
      let s = (h frames (Plain i) refl).sound in
      alone_shown bindings values parts (meaning_of Base i.code) (place_in frames) i (where_in frames) s k.0.front k.0.plain
      ∙ sym (append-nil (item bindings values (meaning_of Base i.code) (place_in frames) i))
  shown frames (Label i) h k l =
      let s = (h frames (Label i) refl).sound in
      label_shown bindings values parts (means Base is_default i) i
      ∙ sym (append-nil (item bindings values (meaning_of Base i.code) (place_in frames) i)
      ∙ of_label bindings values (meaning_of Base i.code) (place_in frames) i s.0)
  shown frames (If opening body end) h k l =
      let at = place_in frames in
      let s = (h frames (If opening body end) refl).sound in
      let q = each_parts (PartsShow bindings values parts) (flattened body) (end ∷ []) k.1 in
      let r = each_parts (Calm parts) (flattened body) (end ∷ []) l.1 in
      let b = at_end (at + 1) body (place_in (InIf opening end ∷ frames)) (place_more (InIf opening end) frames)
      (shown (InIf opening end ∷ frames) body h q.0 r.0) in
      none_before bindings values parts (parts.front opening) (term.Guard (parts.truth opening) (raised parts body)) k.0.front
      ∙ (sym (append-nil (shape (raised parts body)))
      ∙ around bindings values parts at opening (flattened body) end [] (shape (raised parts body)) []
      (of_if bindings values (meaning_of Base opening.code) at opening s.0) b
      (of_end_if bindings values (meaning_of Base end.code) (at + 1 + size body) end s.1))
  shown frames (Loop opening body end) h k l =
      let at = place_in frames in
      let s = (h frames (Loop opening body end) refl).sound in
      let q = each_parts (PartsShow bindings values parts) (flattened body) (end ∷ []) k.1 in
      let r = each_parts (Calm parts) (flattened body) (end ∷ []) l.1 in
      let b = at_end (at + 1) body (place_in (InLoop opening end ∷ frames)) (place_more (InLoop opening end) frames)
      (shown (InLoop opening end ∷ frames) body h q.0 r.0) in
      around bindings values parts at opening (flattened body) end (OpensLoop ∷ []) (shape (raised parts body)) (ClosesIt ∷ [])
      (of_loop bindings values (meaning_of Base opening.code) at opening s.0) b
      (of_end_loop bindings values (meaning_of Base end.code) (at + 1 + size body) end s.1)
  shown frames (Switch opening body end) h k l =
      let at = place_in frames in
      let s = (h frames (Switch opening body end) refl).sound in
      let q = each_parts (PartsShow bindings values parts) (flattened body) (end ∷ []) k.1 in
      let r = each_parts (Calm parts) (flattened body) (end ∷ []) l.1 in
      let b = at_end (at + 1) body (place_in (InSwitch opening end ∷ frames)) (place_more (InSwitch opening end) frames)
      (shown (InSwitch opening end ∷ frames) body h q.0 r.0) in
      none_before bindings values parts (parts.front opening) (term.Switch (parts.word opening) (raised parts body)) k.0.front
      ∙ (ap (λ vs. OpensSwitch vs ∷ (shape (raised parts body) ++ ClosesIt ∷ [])) (switch_cases frames opening body end h s.3 r.0)
      ∙ around bindings values parts at opening (flattened body) end (OpensSwitch (values at) ∷ []) (shape (raised parts body)) (ClosesIt ∷ [])
      (of_switch bindings values (meaning_of Base opening.code) at opening s.0) b
      (of_end_switch bindings values (meaning_of Base end.code) (at + 1 + size body) end s.1))
  shown frames (IfElse opening body middle other end) h k l =
      let at = place_in frames in
      let s = (h frames (IfElse opening body middle other end) refl).sound in
      let ys = middle ∷ (flattened other ++ end ∷ []) in
      let q = each_parts (PartsShow bindings values parts) (flattened body) ys k.1 in
      let r = each_parts (Calm parts) (flattened body) ys l.1 in
      let q2 = each_parts (PartsShow bindings values parts) (flattened other) (end ∷ []) q.1.1 in
      let r2 = each_parts (Calm parts) (flattened other) (end ∷ []) r.1.1 in
      let f = InThen opening middle other end in
      let g = InElse opening body middle end in
      let b = at_end (at + 1) body (place_in (f ∷ frames)) (place_more f frames) (shown (f ∷ frames) body h q.0 r.0) in
      let e : place_in (g ∷ frames) ≡ at + 1 + size body + 1 = place_more g frames ∙ omega (arith, length-append (flattened body) (middle ∷ [])) in
      let c = at_end (at + 1 + size body + 1) other (place_in (g ∷ frames)) e (shown (g ∷ frames) other h q2.0 r2.0) in
      let d = around bindings values parts (at + 1 + size body) middle (flattened other) end [] (shape (raised parts other)) []
      (of_else bindings values (meaning_of Base middle.code) (at + 1 + size body) middle s.1) c
      (of_end_if bindings values (meaning_of Base end.code) (at + 1 + size body + 1 + size other) end s.2) in
      let x = of_if bindings values (meaning_of Base opening.code) at opening s.0 in
      none_before bindings values parts (parts.front opening) (term.If (parts.truth opening) (raised parts body) (raised parts other)) k.0.front
      ∙ (ap (λ z. shape (raised parts body) ++ z) (sym (append-nil (shape (raised parts other))) ∙ d)
      ∙ sym (ap (λ z. z ++ items bindings values (at + 1) (flattened body ++ ys)) x
      ∙ (items_append bindings values (at + 1) (flattened body) ys
      ∙ ap (λ z. z ++ items bindings values (at + 1 + size body) ys) b)))
