-- The walk back over the instructions of a sound statement gives what the statement is raised to, in front of what was
-- there; and at each of them so many constructs are around that the instruction is allowed.
use Rattle.std.proofs.Common.{if◌then◌else◌, ◌≡◌, true, List, [], ◌∷◌, ◌++◌, Option, Some, None, refl, ap, ◌∙◌}
use Rattle.tpf_decode.specs.Profiles.{Base}
use Rattle.tpf_decode.specs.Opcodes.{meaning_of}
use Rattle.tpf_decode.specs.declared.meaning.Meaning.{Meaning}
use Rattle.tpf_decode.specs.declared.meaning.Meaning.TheVariants as meaning
use Rattle.tpf_program.specs.declared.instruction.Instruction.{Instruction}
use Rattle.tpf_program.specs.Ends.{has, is_if, is_else, is_loop, is_switch, is_default}
use Rattle.tpf_program.specs.Nesting.{is_label, is_end_of_switch}
use Rattle.shader_tree.specs.Terms.{Term}
use Rattle.shader_tree.specs.Terms as term
use Rattle.shader_check.specs.Statements.{Statement, Nothing, Then, Plain, If, IfElse, Loop, Switch, Label, flattened, Where, in_if, in_loop, in_switch, IsSound, stands, is_end_of_if, is_end_of_loop}
use Rattle.raise_program.specs.Raised.{Parts, alone, raised}
use Rattle.raise_program.specs.Walked.{Around, Rest, put, closed, halved, left, inner_other, chosen, visited, walked}
use Rattle.raise_program.proofs.Normal.{normal}

abbrev pub rest : Term → List Around → Rest
rest here around = record { here = here; around = around }

abbrev pub around_of : Term → Option Term → Around
around_of behind other = record { behind = behind; other = other }

module _ (parts : Parts) where
  pub walked_append : (xs ys : List Instruction) (w : Rest) → walked parts (xs ++ ys) w ≡ walked parts xs (walked parts ys w)
  walked_append [] ys w = refl
  walked_append (i ∷ xs) ys w = ap (visited parts (meaning_of Base i.code) i) (walked_append xs ys w)

  -- ONE INSTRUCTION of a statement
  plain_visited : (w : Where) (m : Option Meaning) → stands w m ≡ true → (i : Instruction) (r : Rest) → visited parts m i r ≡ put (alone parts m i) r
  plain_visited w None h i r = refl
  plain_visited w (Some meaning.If) h i r = absurd (cc)
  plain_visited w (Some meaning.Else) h i r = absurd (cc)
  plain_visited w (Some meaning.EndIf) h i r = absurd (cc)
  plain_visited w (Some meaning.Loop) h i r = absurd (cc)
  plain_visited w (Some meaning.EndLoop) h i r = absurd (cc)
  plain_visited w (Some meaning.Switch) h i r = absurd (cc)
  plain_visited w (Some meaning.Case) h i r = absurd (cc)
  plain_visited w (Some meaning.Default) h i r = absurd (cc)
  plain_visited w (Some meaning.EndSwitch) h i r = absurd (cc)
  plain_visited w (Some m) h i r = refl

  label_visited : (m : Option Meaning) → has is_label m ≡ true → (i : Instruction) (r : Rest)
      → visited parts m i r ≡ put (if has is_default m then term.Default term.Nothing else term.Case i.o0.x term.Nothing) r
  label_visited None h i r = absurd (cc)
  label_visited (Some meaning.Case) h i r = refl
  label_visited (Some meaning.Default) h i r = refl
  label_visited (Some m) h i r = absurd (cc)

  if_visited : (m : Option Meaning) → has is_if m ≡ true → (i : Instruction) (r : Rest)
      → visited parts m i r ≡ put (chosen (parts.front i) (parts.truth i) r.here (inner_other r.around)) (left r)
  if_visited None h i r = absurd (cc)
  if_visited (Some meaning.If) h i r = refl
  if_visited (Some m) h i r = absurd (cc)

  pub else_visited : (m : Option Meaning) → has is_else m ≡ true → (i : Instruction) (r : Rest) → visited parts m i r ≡ halved r
  else_visited None h i r = absurd (cc)
  else_visited (Some meaning.Else) h i r = refl
  else_visited (Some m) h i r = absurd (cc)

  loop_visited : (m : Option Meaning) → has is_loop m ≡ true → (i : Instruction) (r : Rest) → visited parts m i r ≡ put (term.Loop r.here) (left r)
  loop_visited None h i r = absurd (cc)
  loop_visited (Some meaning.Loop) h i r = refl
  loop_visited (Some m) h i r = absurd (cc)

  switch_visited : (m : Option Meaning) → has is_switch m ≡ true → (i : Instruction) (r : Rest)
      → visited parts m i r ≡ put (term.Then (parts.front i) (term.Switch (parts.word i) r.here)) (left r)
  switch_visited None h i r = absurd (cc)
  switch_visited (Some meaning.Switch) h i r = refl
  switch_visited (Some m) h i r = absurd (cc)

  pub end_if_visited : (m : Option Meaning) → has is_end_of_if m ≡ true → (i : Instruction) (r : Rest) → visited parts m i r ≡ closed r
  end_if_visited None h i r = absurd (cc)
  end_if_visited (Some meaning.EndIf) h i r = refl
  end_if_visited (Some m) h i r = absurd (cc)

  pub end_loop_visited : (m : Option Meaning) → has is_end_of_loop m ≡ true → (i : Instruction) (r : Rest) → visited parts m i r ≡ closed r
  end_loop_visited None h i r = absurd (cc)
  end_loop_visited (Some meaning.EndLoop) h i r = refl
  end_loop_visited (Some m) h i r = absurd (cc)

  pub end_switch_visited : (m : Option Meaning) → has is_end_of_switch m ≡ true → (i : Instruction) (r : Rest) → visited parts m i r ≡ closed r
  end_switch_visited None h i r = absurd (cc)
  end_switch_visited (Some meaning.EndSwitch) h i r = refl
  end_switch_visited (Some m) h i r = absurd (cc)

  -- A STATEMENT
  abbrev pub Gives : Statement → Type 0
  Gives s = (t : Statement) (around : List Around)
      → walked parts (flattened s) (rest (raised parts t) around) ≡ rest (raised parts (normal s t)) around

  -- the instructions between an opening and its end, in front of that end
  pub body_walked : (body : Statement) (end : Instruction) → Gives body
      → ((r : Rest) → visited parts (meaning_of Base end.code) end r ≡ closed r) → (h : Term) (around : List Around)
      → walked parts (flattened body ++ end ∷ []) (rest h around) ≡ rest (raised parts (normal body Nothing)) (around_of h None ∷ around)
  body_walked body end g e h around =
      walked_append (flattened body) (end ∷ []) (rest h around)
      ∙ ap (walked parts (flattened body)) (e (rest h around)) ∙ g Nothing (around_of h None ∷ around)

  pub halves_walked : (body : Statement) (middle : Instruction) (other : Statement) (end : Instruction) → Gives body → Gives other
      → ((r : Rest) → visited parts (meaning_of Base middle.code) middle r ≡ halved r)
      → ((r : Rest) → visited parts (meaning_of Base end.code) end r ≡ closed r) → (h : Term) (around : List Around)
      → walked parts (flattened body ++ middle ∷ (flattened other ++ end ∷ [])) (rest h around)
      ≡ rest (raised parts (normal body Nothing)) (around_of h (Some (raised parts (normal other Nothing))) ∷ around)
  halves_walked body middle other end g o m e h around =
      let second = body_walked other end o e h around in
      let between = ap (visited parts (meaning_of Base middle.code) middle) second
      ∙ m (rest (raised parts (normal other Nothing)) (around_of h None ∷ around)) in
      walked_append (flattened body) (middle ∷ (flattened other ++ end ∷ [])) (rest h around)
      ∙ ap (walked parts (flattened body)) between
      ∙ g Nothing (around_of h (Some (raised parts (normal other Nothing))) ∷ around)

  pub gives : (w : Where) (s : Statement) → IsSound w s → Gives s
  gives w Nothing h t around = refl
  gives w (Then first next) h t around =
      walked_append (flattened first) (flattened next) (rest (raised parts t) around)
      ∙ ap (walked parts (flattened first)) (gives w next h.1 t around) ∙ gives w first h.0 (normal next t) around
  gives w (Plain i) h t around = plain_visited w (meaning_of Base i.code) h i (rest (raised parts t) around)
  gives w (If opening body end) h t around =
      ap (visited parts (meaning_of Base opening.code) opening)
      (body_walked body end (gives (in_if w) body h.3) (end_if_visited (meaning_of Base end.code) h.1 end) (raised parts t) around)
      ∙ if_visited (meaning_of Base opening.code) h.0 opening
      (rest (raised parts (normal body Nothing)) (around_of (raised parts t) None ∷ around))
  gives w (IfElse opening body middle other end) h t around =
      ap (visited parts (meaning_of Base opening.code) opening)
      (halves_walked body middle other end (gives (in_if w) body h.4) (gives (in_if w) other h.5)
      (else_visited (meaning_of Base middle.code) h.1 middle) (end_if_visited (meaning_of Base end.code) h.2 end) (raised parts t) around)
      ∙ if_visited (meaning_of Base opening.code) h.0 opening
      (rest (raised parts (normal body Nothing)) (around_of (raised parts t) (Some (raised parts (normal other Nothing))) ∷ around))
  gives w (Loop opening body end) h t around =
      ap (visited parts (meaning_of Base opening.code) opening)
      (body_walked body end (gives (in_loop w) body h.3) (end_loop_visited (meaning_of Base end.code) h.1 end) (raised parts t) around)
      ∙ loop_visited (meaning_of Base opening.code) h.0 opening
      (rest (raised parts (normal body Nothing)) (around_of (raised parts t) None ∷ around))
  gives w (Switch opening body end) h t around =
      ap (visited parts (meaning_of Base opening.code) opening)
      (body_walked body end (gives (in_switch w) body h.3) (end_switch_visited (meaning_of Base end.code) h.1 end) (raised parts t) around)
      ∙ switch_visited (meaning_of Base opening.code) h.0 opening
      (rest (raised parts (normal body Nothing)) (around_of (raised parts t) None ∷ around))
  gives w (Label i) h t around = label_visited (meaning_of Base i.code) h.0 i (rest (raised parts t) around)
