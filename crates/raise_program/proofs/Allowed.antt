-- At each instruction of a sound statement so many constructs are around that the walk back allows it.
use Rattle.std.proofs.Common.{◌≡◌, ℕ, ◌+◌, nat_lt, ◌&&◌, Bool, true, List, [], ◌∷◌, ◌++◌, length, Option, Some, None, refl, sym, ap, subst, ◌∙◌, arith}
use Rattle.std.proofs.lemmas.Bool.Decides.{nat_tests}
use Rattle.tpf_decode.specs.Profiles.{Base}
use Rattle.tpf_decode.specs.Opcodes.{meaning_of}
use Rattle.tpf_decode.specs.declared.meaning.Meaning.{Meaning}
use Rattle.tpf_decode.specs.declared.meaning.Meaning.TheVariants as meaning
use Rattle.tpf_program.specs.declared.instruction.Instruction.{Instruction}
use Rattle.tpf_program.specs.Ends.{has, is_if, is_else, is_loop, is_switch}
use Rattle.tpf_program.specs.Nesting.{is_label, is_end_of_switch}
use Rattle.shader_tree.specs.Terms.{Term}
use Rattle.shader_check.specs.Statements.{Statement, Nothing, Then, Plain, If, IfElse, Loop, Switch, Label, flattened, Where, in_if, in_loop, in_switch, IsSound, stands, is_end_of_if, is_end_of_loop}
use Rattle.raise_program.specs.Raised.{Parts, raised}
use Rattle.raise_program.specs.Walked.{Around, Rest, closed, halved, visited, walked, allows}
use Rattle.raise_program.proofs.Normal.{normal}
use Rattle.raise_program.proofs.Backward.{rest, around_of, walked_append, gives, body_walked, halves_walked, else_visited, end_if_visited, end_loop_visited, end_switch_visited}

-- BY MEANING
allows_plain : (w : Where) (m : Option Meaning) → stands w m ≡ true → (n : ℕ) → allows n m ≡ true
allows_plain w None h n = refl
allows_plain w (Some meaning.If) h n = absurd (cc)
allows_plain w (Some meaning.Else) h n = absurd (cc)
allows_plain w (Some meaning.EndIf) h n = absurd (cc)
allows_plain w (Some meaning.Loop) h n = absurd (cc)
allows_plain w (Some meaning.EndLoop) h n = absurd (cc)
allows_plain w (Some meaning.Switch) h n = absurd (cc)
allows_plain w (Some meaning.Case) h n = refl
allows_plain w (Some meaning.Default) h n = refl
allows_plain w (Some meaning.EndSwitch) h n = absurd (cc)
allows_plain w (Some m) h n = refl

allows_label : (m : Option Meaning) → has is_label m ≡ true → (n : ℕ) → allows n m ≡ true
allows_label None h n = absurd (cc)
allows_label (Some meaning.Case) h n = refl
allows_label (Some meaning.Default) h n = refl
allows_label (Some m) h n = absurd (cc)

allows_if : (m : Option Meaning) → has is_if m ≡ true → (n : ℕ) → nat_lt 0 n ≡ true → allows n m ≡ true
allows_if None h n k = absurd (cc)
allows_if (Some meaning.If) h n k = k
allows_if (Some m) h n k = absurd (cc)

both : (a b : Bool) → a ≡ true → b ≡ true → (a && b) ≡ true
both a b h k = cc (h, k)

allows_else : (m : Option Meaning) → has is_else m ≡ true → (n : ℕ) → nat_lt 0 n ≡ true → nat_lt n 65 ≡ true → allows n m ≡ true
allows_else None h n k l = absurd (cc)
allows_else (Some meaning.Else) h n k l = both (nat_lt 0 n) (nat_lt n 65) k l
allows_else (Some m) h n k l = absurd (cc)

allows_loop : (m : Option Meaning) → has is_loop m ≡ true → (n : ℕ) → nat_lt 0 n ≡ true → allows n m ≡ true
allows_loop None h n k = absurd (cc)
allows_loop (Some meaning.Loop) h n k = k
allows_loop (Some m) h n k = absurd (cc)

allows_switch : (m : Option Meaning) → has is_switch m ≡ true → (n : ℕ) → nat_lt 0 n ≡ true → allows n m ≡ true
allows_switch None h n k = absurd (cc)
allows_switch (Some meaning.Switch) h n k = k
allows_switch (Some m) h n k = absurd (cc)

allows_end_if : (m : Option Meaning) → has is_end_of_if m ≡ true → (n : ℕ) → nat_lt n 64 ≡ true → allows n m ≡ true
allows_end_if None h n k = absurd (cc)
allows_end_if (Some meaning.EndIf) h n k = k
allows_end_if (Some m) h n k = absurd (cc)

allows_end_loop : (m : Option Meaning) → has is_end_of_loop m ≡ true → (n : ℕ) → nat_lt n 64 ≡ true → allows n m ≡ true
allows_end_loop None h n k = absurd (cc)
allows_end_loop (Some meaning.EndLoop) h n k = k
allows_end_loop (Some m) h n k = absurd (cc)

allows_end_switch : (m : Option Meaning) → has is_end_of_switch m ≡ true → (n : ℕ) → nat_lt n 64 ≡ true → allows n m ≡ true
allows_end_switch None h n k = absurd (cc)
allows_end_switch (Some meaning.EndSwitch) h n k = k
allows_end_switch (Some m) h n k = absurd (cc)

some_around : (xs : List Around) (x : Around) → nat_lt 0 (length (x ∷ xs)) ≡ true
some_around xs x = grind (arith, nat_tests)

few_around : (xs : List Around) (x : Around) → nat_lt (length xs) 64 ≡ true → nat_lt (length (x ∷ xs)) 65 ≡ true
few_around xs x h = grind (arith, nat_tests, h)

module _ (parts : Parts) where
  -- EACH INSTRUCTION of a list
  abbrev pub Allowed : List Instruction → Rest → Type 0
  Allowed [] r = Unit {0}
  Allowed (i ∷ code) r = (allows (length (walked parts code r).around) (meaning_of Base i.code) ≡ true) × Allowed code r

  allowed_append : (xs ys : List Instruction) (r : Rest) → Allowed xs (walked parts ys r) → Allowed ys r → Allowed (xs ++ ys) r
  allowed_append [] ys r h k = k
  allowed_append (i ∷ xs) ys r h k =
      (ap (λ (s : Rest). allows (length s.around) (meaning_of Base i.code)) (walked_append parts xs ys r) ∙ h.0, allowed_append xs ys r h.1 k)

  abbrev Allows : Where → Statement → Type 0
  Allows w s = (t : Statement) (around : List Around) → w.depth ≡ length around → Allowed (flattened s) (rest (raised parts t) around)

  -- an opening, where what is behind it is known
  opening_allowed : (i : Instruction) (code : List Instruction) (r : Rest) (h : Term) (a : Around) (around : List Around)
      → allows (length (a ∷ around)) (meaning_of Base i.code) ≡ true → walked parts code r ≡ rest h (a ∷ around)
      → allows (length (walked parts code r).around) (meaning_of Base i.code) ≡ true
  opening_allowed i code r h a around k e = ap (λ (s : Rest). allows (length s.around) (meaning_of Base i.code)) e ∙ k

  -- the instructions between an opening and its end, and the end
  body_allowed : (u : Where) (body : Statement) (end : Instruction) → Allows u body
      → ((r : Rest) → visited parts (meaning_of Base end.code) end r ≡ closed r)
      → ((n : ℕ) → nat_lt n 64 ≡ true → allows n (meaning_of Base end.code) ≡ true)
      → (h : Term) (around : List Around) → nat_lt (length around) 64 ≡ true → u.depth ≡ length around + 1
      → Allowed (flattened body ++ end ∷ []) (rest h around)
  body_allowed u body end k e a h around few deep =
      let deeper : u.depth ≡ length (around_of h None ∷ around) = omega (arith, deep) in
      allowed_append (flattened body) (end ∷ []) (rest h around)
      (subst (Allowed (flattened body)) (sym (e (rest h around))) (k Nothing (around_of h None ∷ around) deeper))
      (a (length around) few, tt)

  halves_allowed : (u : Where) (body : Statement) (middle : Instruction) (other : Statement) (end : Instruction) → Allows u body → Allows u other
      → ((r : Rest) → walked parts (flattened other ++ end ∷ []) (rest r.here r.around)
      ≡ rest (raised parts (normal other Nothing)) (around_of r.here None ∷ r.around))
      → ((r : Rest) → visited parts (meaning_of Base middle.code) middle r ≡ halved r)
      → ((r : Rest) → visited parts (meaning_of Base end.code) end r ≡ closed r)
      → ((n : ℕ) → nat_lt 0 n ≡ true → nat_lt n 65 ≡ true → allows n (meaning_of Base middle.code) ≡ true)
      → ((n : ℕ) → nat_lt n 64 ≡ true → allows n (meaning_of Base end.code) ≡ true)
      → (h : Term) (around : List Around) → nat_lt (length around) 64 ≡ true → u.depth ≡ length around + 1
      → Allowed (flattened body ++ middle ∷ (flattened other ++ end ∷ [])) (rest h around)
  halves_allowed u body middle other end k l o m e b a h around few deep =
      let second = o (rest h around) in
      let inner = around_of h (Some (raised parts (normal other Nothing))) in
      let deeper : u.depth ≡ length (inner ∷ around) = omega (arith, deep) in
      let between = ap (visited parts (meaning_of Base middle.code) middle) second
      ∙ m (rest (raised parts (normal other Nothing)) (around_of h None ∷ around)) in
      allowed_append (flattened body) (middle ∷ (flattened other ++ end ∷ [])) (rest h around)
      (subst (Allowed (flattened body)) (sym between) (k Nothing (inner ∷ around) deeper)) (
        opening_allowed middle (flattened other ++ end ∷ []) (rest h around) (raised parts (normal other Nothing)) (around_of h None) around
            (b (length (around_of h None ∷ around)) (some_around around (around_of h None)) (few_around around (around_of h None) few)) second,
        body_allowed u other end l e a h around few deep,
      )

  pub allowed : (w : Where) (s : Statement) → IsSound w s → Allows w s
  allowed w Nothing h t around d = tt
  allowed w (Then first next) h t around d =
      allowed_append (flattened first) (flattened next) (rest (raised parts t) around)
      (subst (Allowed (flattened first)) (sym (gives parts w next h.1 t around)) (allowed w first h.0 (normal next t) around d))
      (allowed w next h.1 t around d)
  allowed w (Plain i) h t around d = (allows_plain w (meaning_of Base i.code) h (length around), tt)
  allowed w (If opening body end) h t around d =
      let few : nat_lt (length around) 64 ≡ true = ap (λ n. nat_lt n 64) (sym d) ∙ h.2 in
      let deep : (in_if w).depth ≡ length around + 1 = ap (λ n. n + 1) d in
      let e = end_if_visited parts (meaning_of Base end.code) h.1 end in (
        opening_allowed opening (flattened body ++ end ∷ []) (rest (raised parts t) around) (raised parts (normal body Nothing))
            (around_of (raised parts t) None) around
            (allows_if (meaning_of Base opening.code) h.0 (length (around_of (raised parts t) None ∷ around))
            (some_around around (around_of (raised parts t) None)))
            (body_walked parts body end (gives parts (in_if w) body h.3) e (raised parts t) around),
        body_allowed (in_if w) body end (allowed (in_if w) body h.3) e (allows_end_if (meaning_of Base end.code) h.1) (raised parts t) around few deep,
      )
  allowed w (IfElse opening body middle other end) h t around d =
      let few : nat_lt (length around) 64 ≡ true = ap (λ n. nat_lt n 64) (sym d) ∙ h.3 in
      let deep : (in_if w).depth ≡ length around + 1 = ap (λ n. n + 1) d in
      let e = end_if_visited parts (meaning_of Base end.code) h.2 end in
      let m = else_visited parts (meaning_of Base middle.code) h.1 middle in (
        opening_allowed opening (flattened body ++ middle ∷ (flattened other ++ end ∷ [])) (rest (raised parts t) around)
            (raised parts (normal body Nothing)) (around_of (raised parts t) (Some (raised parts (normal other Nothing)))) around
            (allows_if (meaning_of Base opening.code) h.0
            (length (around_of (raised parts t) (Some (raised parts (normal other Nothing))) ∷ around))
            (some_around around (around_of (raised parts t) (Some (raised parts (normal other Nothing))))))
            (halves_walked parts body middle other end (gives parts (in_if w) body h.4) (gives parts (in_if w) other h.5) m e (raised parts t) around),
        halves_allowed (in_if w) body middle other end (allowed (in_if w) body h.4) (allowed (in_if w) other h.5)
            (λ r. body_walked parts other end (gives parts (in_if w) other h.5) e r.here r.around) m e
            (allows_else (meaning_of Base middle.code) h.1) (allows_end_if (meaning_of Base end.code) h.2) (raised parts t) around few deep,
      )
  allowed w (Loop opening body end) h t around d =
      let few : nat_lt (length around) 64 ≡ true = ap (λ n. nat_lt n 64) (sym d) ∙ h.2 in
      let deep : (in_loop w).depth ≡ length around + 1 = ap (λ n. n + 1) d in
      let e = end_loop_visited parts (meaning_of Base end.code) h.1 end in (
        opening_allowed opening (flattened body ++ end ∷ []) (rest (raised parts t) around) (raised parts (normal body Nothing))
            (around_of (raised parts t) None) around
            (allows_loop (meaning_of Base opening.code) h.0 (length (around_of (raised parts t) None ∷ around))
            (some_around around (around_of (raised parts t) None)))
            (body_walked parts body end (gives parts (in_loop w) body h.3) e (raised parts t) around),
        body_allowed (in_loop w) body end (allowed (in_loop w) body h.3) e (allows_end_loop (meaning_of Base end.code) h.1) (raised parts t) around few
            deep,
      )
  allowed w (Switch opening body end) h t around d =
      let few : nat_lt (length around) 64 ≡ true = ap (λ n. nat_lt n 64) (sym d) ∙ h.2 in
      let deep : (in_switch w).depth ≡ length around + 1 = ap (λ n. n + 1) d in
      let e = end_switch_visited parts (meaning_of Base end.code) h.1 end in (
        opening_allowed opening (flattened body ++ end ∷ []) (rest (raised parts t) around) (raised parts (normal body Nothing))
            (around_of (raised parts t) None) around
            (allows_switch (meaning_of Base opening.code) h.0 (length (around_of (raised parts t) None ∷ around))
            (some_around around (around_of (raised parts t) None)))
            (body_walked parts body end (gives parts (in_switch w) body h.3) e (raised parts t) around),
        body_allowed (in_switch w) body end (allowed (in_switch w) body h.3) e (allows_end_switch (meaning_of Base end.code) h.1) (raised parts t)
            around few deep,
      )
  allowed w (Label i) h t around d = (allows_label (meaning_of Base i.code) h.0 (length around), tt)
