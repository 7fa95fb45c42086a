-- Where the statements of a raised tree stand: in what a sound statement stands in.
use Rattle.std.proofs.Common.{◌≡◌, ℕ, ◌+◌, ◌*◌, ◌≤◌, Bool, true, false, ◌&&◌, not, List, [], ◌∷◌, ◌++◌, length, Option, Some, None, refl, sym, ap, ◌∙◌, arith, length-append}
use Rattle.std.specs.Prelude.{IsTrue, nat_eq, nat_le, if◌then◌else◌}
use Rattle.std.specs.List.{list_any}
use Rattle.std.proofs.lemmas.Bool.{and_from, le-leb, or_from, or_parts}
use Rattle.std.proofs.lemmas.Bool.Decides.{nat_tests}
use Rattle.tpf_decode.specs.Profiles.{Base}
use Rattle.tpf_decode.specs.Opcodes.{meaning_of}
use Rattle.tpf_decode.specs.declared.meaning.Meaning.{Meaning}
use Rattle.tpf_decode.specs.declared.meaning.Meaning.TheVariants as meaning
use Rattle.tpf_program.specs.Cases.{is_any_case}
use Rattle.tpf_program.specs.Ends.{has, is_case, is_case_of, is_default, means}
use Rattle.tpf_program.specs.Nesting.{is_label}
use Rattle.tpf_program.specs.declared.instruction.Instruction.{Instruction}
use Rattle.shader_check.specs.Statements.{Statement, Nothing, Then, Plain, If, IfElse, Loop, Switch, Label, flattened, labels, Where, in_if, in_loop, in_switch, AreDistinct, IsSound, same_label, stands}
use Rattle.shader_tree.specs.Placed.{are_distinct, defaults_in, is_switch, placed_in}
use Rattle.shader_tree.specs.Shape.{cases_in}
use Rattle.shader_tree.specs.Terms.{Term}
use Rattle.shader_tree.specs.Terms as term
use Rattle.shader_tree.specs.Walks.{Each, holds_no, is_flow}
use Rattle.raise_program.specs.Raised.{Parts, alone, goes_on, raised}
use Rattle.raise_program.specs.TreeOf.{lengths}
use Rattle.raise_program.proofs.Sums.{both_lengths, each_both, each_parts, first_length, wrapped}
use Rattle.raise_program.proofs.Unmarked.{split}

-- WITHOUT CONTROL FLOW but selections a statement may stand anywhere, and has no case and no default.
placed_any : (x : Term) → IsTrue (holds_no is_flow x) → (l e s : Bool) → placed_in l e s x ≡ true
placed_any (term.Guard b x) h l e s =
    let q = split (holds_no is_flow b) (holds_no is_flow x) h in placed_any x q.1 l e false
placed_any (term.If b x y) h l e s =
    let q = split (holds_no is_flow b) (holds_no is_flow x && holds_no is_flow y) h in
    let r = split (holds_no is_flow x) (holds_no is_flow y) q.1 in
    and_from (placed_in l e false x) (placed_in l e false y) (placed_any x r.0 l e false) (placed_any y r.1 l e false)
placed_any (term.Then x y) h l e s =
    let q = split (holds_no is_flow x) (holds_no is_flow y) h in
    and_from (placed_in l e s x) (placed_in l e s y) (placed_any x q.0 l e s) (placed_any y q.1 l e s)
placed_any (term.Loop x) h l e s = absurd (cc)
placed_any (term.Switch on x) h l e s = absurd (cc)
placed_any (term.Case v x) h l e s = absurd (cc)
placed_any (term.Default x) h l e s = absurd (cc)
placed_any term.Break h l e s = absurd (cc)
placed_any term.Continue h l e s = absurd (cc)
placed_any other h l e s = refl

none_from : (xs ys : List ℕ) → xs ≡ [] → ys ≡ [] → xs ++ ys ≡ []
none_from xs ys h k = ap (λ zs. zs ++ ys) h ∙ k

pub no_cases : (x : Term) → IsTrue (holds_no is_flow x) → cases_in x ≡ []
no_cases (term.Then x y) h =
    let q = split (holds_no is_flow x) (holds_no is_flow y) h in none_from (cases_in x) (cases_in y) (no_cases x q.0) (no_cases y q.1)
no_cases (term.Case v x) h = absurd (cc)
no_cases (term.Default x) h = absurd (cc)
no_cases other h = refl

no_defaults : (x : Term) → IsTrue (holds_no is_flow x) → defaults_in x ≡ 0
no_defaults (term.Then x y) h =
    let q = split (holds_no is_flow x) (holds_no is_flow y) h in omega (arith, no_defaults x q.0, no_defaults y q.1)
no_defaults (term.Case v x) h = absurd (cc)
no_defaults (term.Default x) h = absurd (cc)
no_defaults other h = refl

-- what an instruction owes: no control flow in its parts, one word at least, and two where it is a case
pub record Calm (parts : Parts) (i : Instruction) : Type 0 where
  pub plain : goes_on (meaning_of Base i.code) ≡ true → IsTrue (holds_no is_flow (parts.plain i))
  pub front : IsTrue (holds_no is_flow (parts.front i))
  pub case' : means Base is_any_case i ≡ true → 2 ≤ i.length
  pub long : 1 ≤ i.length

-- THE VALUES OF CASES among labels, and how many defaults there are
abbrev pub cases_of : List Instruction → List ℕ
cases_of [] = []
cases_of (i ∷ is) = if means Base is_default i then cases_of is else i.o0.x ∷ cases_of is

abbrev pub defaults_of : List Instruction → ℕ
defaults_of [] = 0
defaults_of (i ∷ is) = if means Base is_default i then defaults_of is + 1 else defaults_of is

pub cases_append : (xs ys : List Instruction) → cases_of (xs ++ ys) ≡ cases_of xs ++ cases_of ys
cases_append [] ys = refl
cases_append (i ∷ xs) ys = by_default (means Base is_default i) (cases_append xs ys)
  where
    by_default : (b : Bool) → cases_of (xs ++ ys) ≡ cases_of xs ++ cases_of ys
        → (if b then cases_of (xs ++ ys) else i.o0.x ∷ cases_of (xs ++ ys)) ≡ (if b then cases_of xs else i.o0.x ∷ cases_of xs) ++ cases_of ys
    by_default true e = e
    by_default false e = ap (λ l. i.o0.x ∷ l) e

defaults_append : (xs ys : List Instruction) → defaults_of (xs ++ ys) ≡ defaults_of xs + defaults_of ys
defaults_append [] ys = omega arith
defaults_append (i ∷ xs) ys = by_default (means Base is_default i) (defaults_append xs ys)
  where
    by_default : (b : Bool) → defaults_of (xs ++ ys) ≡ defaults_of xs + defaults_of ys
        → (if b then defaults_of (xs ++ ys) + 1 else defaults_of (xs ++ ys)) ≡ (if b then defaults_of xs + 1 else defaults_of xs) + defaults_of ys
    by_default true e = omega (arith, e)
    by_default false e = e

-- a label is a case or a default
is_which : (m : Option Meaning) → has is_label m ≡ true → has is_default m ≡ false → m ≡ Some meaning.Case
is_which None h k = absurd (cc)
is_which (Some meaning.Case) h k = refl
is_which (Some meaning.Default) h k = absurd (cc)
is_which (Some m) h k = absurd (cc)

abbrev AreLabels : List Instruction → Type 0
AreLabels is = Each (λ i. means Base is_label i ≡ true) is

are_labels : (w : Where) (s : Statement) → IsSound w s → AreLabels (labels s)
are_labels w (Then first next) h =
    each_both (λ i. means Base is_label i ≡ true) (labels first) (labels next) (are_labels w first h.0) (are_labels w next h.1)
are_labels w (Label i) h = (h.0, tt)
are_labels w Nothing h = tt
are_labels w (Plain i) h = tt
are_labels w (If opening body end) h = tt
are_labels w (IfElse opening body middle other end) h = tt
are_labels w (Loop opening body end) h = tt
are_labels w (Switch opening body end) h = tt

-- DISTINCT LABELS have distinct values, and there is one default of them at most.
other_value : (i j : Instruction) → means Base is_label i ≡ true → means Base is_default i ≡ false → means Base is_label j ≡ true
    → means Base is_default j ≡ false → same_label i j ≡ false → nat_eq i.o0.x j.o0.x ≡ false
other_value i j h d k e s =
    let a = is_which (meaning_of Base i.code) h d in
    let b = is_which (meaning_of Base j.code) k e in
    let t = (or_parts (means Base is_default i && means Base is_default j) (means Base is_any_case i && is_case_of Base i.o0.x j) s).1 in
    let c : means Base is_any_case i ≡ true = ap (has is_any_case) a in
    let u : is_case_of Base i.o0.x j ≡ false = ap (λ b. b && is_case_of Base i.o0.x j) (sym c) ∙ t in
    let v : nat_eq j.o0.x i.o0.x ≡ false = ap (has (is_case i.o0.x j.o0.x)) (sym b) ∙ u in
    grind (arith, nat_tests, v)

values_differ : (i : Instruction) (js : List Instruction) → means Base is_label i ≡ true → means Base is_default i ≡ false → AreLabels js
    → list_any (same_label i) js ≡ false → list_any (nat_eq i.o0.x) (cases_of js) ≡ false
values_differ i [] h d k s = refl
values_differ i (j ∷ js) h d k s =
    let q = or_parts (same_label i j) (list_any (same_label i) js) s in
    by_default (means Base is_default j) refl q.0 (values_differ i js h d k.1 q.1)
  where
    by_default : (b : Bool) → means Base is_default j ≡ b → same_label i j ≡ false → list_any (nat_eq i.o0.x) (cases_of js) ≡ false
        → list_any (nat_eq i.o0.x) (if b then cases_of js else j.o0.x ∷ cases_of js) ≡ false
    by_default true e t r = r
    by_default false e t r = or_from (nat_eq i.o0.x j.o0.x) (list_any (nat_eq i.o0.x) (cases_of js)) (other_value i j h d k.0 e t) r

no_other : (i : Instruction) (js : List Instruction) → means Base is_default i ≡ true → list_any (same_label i) js ≡ false → defaults_of js ≡ 0
no_other i [] d s = refl
no_other i (j ∷ js) d s =
    let q = or_parts (same_label i j) (list_any (same_label i) js) s in
    let r = or_parts (means Base is_default i && means Base is_default j) (means Base is_any_case i && is_case_of Base i.o0.x j) q.0 in
    let t : means Base is_default j ≡ false = ap (λ b. b && means Base is_default j) (sym d) ∙ r.0 in
    ap (λ b. if b then defaults_of js + 1 else defaults_of js) t ∙ no_other i js d q.1

distinct : (js : List Instruction) → AreLabels js → AreDistinct js → are_distinct (cases_of js) ≡ true
distinct [] h k = refl
distinct (i ∷ js) h k = by_default (means Base is_default i) refl (distinct js h.1 k.1)
  where
    by_default : (b : Bool) → means Base is_default i ≡ b → are_distinct (cases_of js) ≡ true
        → are_distinct (if b then cases_of js else i.o0.x ∷ cases_of js) ≡ true
    by_default true e r = r
    by_default false e r =
        and_from (not (list_any (nat_eq i.o0.x) (cases_of js))) (are_distinct (cases_of js)) (ap not (values_differ i js h.0 e h.1 k.0)) r

one_default : (js : List Instruction) → AreDistinct js → defaults_of js ≤ 1
one_default [] k = omega arith
one_default (i ∷ js) k = by_default (means Base is_default i) refl (one_default js k.1)
  where
    by_default : (b : Bool) → means Base is_default i ≡ b → defaults_of js ≤ 1 → (if b then defaults_of js + 1 else defaults_of js) ≤ 1
    by_default true e r = omega (arith, no_other i js e k.0)
    by_default false e r = r

label_long : (i : Instruction) → means Base is_label i ≡ true → (means Base is_any_case i ≡ true → 2 ≤ i.length)
    → 2 * length (cases_of (i ∷ [])) ≤ i.length
label_long i h f = by_default (means Base is_default i) refl
  where
    by_default : (b : Bool) → means Base is_default i ≡ b → 2 * length (if b then [] else i.o0.x ∷ []) ≤ i.length
    by_default true e = omega arith
    by_default false e = let k = f (ap (has is_any_case) (is_which (meaning_of Base i.code) h e)) in omega (arith, k)

none_alone : (parts : Parts) (m : Option Meaning) (i : Instruction) → IsTrue (holds_no is_flow (parts.front i)) → (w : Where) → stands w m ≡ true
    → (goes_on m ≡ true → IsTrue (holds_no is_flow (parts.plain i)))
    → (cases_in (alone parts m i) ≡ []) × (defaults_in (alone parts m i) ≡ 0)
none_alone parts None i f w s p = absurd (cc)
none_alone parts (Some meaning.If) i f w s p = absurd (cc)
none_alone parts (Some meaning.Else) i f w s p = absurd (cc)
none_alone parts (Some meaning.EndIf) i f w s p = absurd (cc)
none_alone parts (Some meaning.Loop) i f w s p = absurd (cc)
none_alone parts (Some meaning.EndLoop) i f w s p = absurd (cc)
none_alone parts (Some meaning.Switch) i f w s p = absurd (cc)
none_alone parts (Some meaning.Case) i f w s p = absurd (cc)
none_alone parts (Some meaning.Default) i f w s p = absurd (cc)
none_alone parts (Some meaning.EndSwitch) i f w s p = absurd (cc)
none_alone parts (Some meaning.Break) i f w s p = (refl, refl)
none_alone parts (Some meaning.Continue) i f w s p = (refl, refl)
none_alone parts (Some meaning.Return) i f w s p = (refl, refl)
none_alone parts (Some meaning.BreakIf) i f w s p =
    (none_from (cases_in (parts.front i)) [] (no_cases (parts.front i) f) refl, omega (arith, no_defaults (parts.front i) f))
none_alone parts (Some meaning.ContinueIf) i f w s p =
    (none_from (cases_in (parts.front i)) [] (no_cases (parts.front i) f) refl, omega (arith, no_defaults (parts.front i) f))
none_alone parts (Some meaning.ReturnIf) i f w s p =
    (none_from (cases_in (parts.front i)) [] (no_cases (parts.front i) f) refl, omega (arith, no_defaults (parts.front i) f))
none_alone parts (Some m) i f w s p = (no_cases (parts.plain i) (p refl), no_defaults (parts.plain i) (p refl))

-- THE CASES AND DEFAULTS of a raised statement are those of its labels.
pub record Labelled (parts : Parts) (s : Statement) : Type 0 where
  pub cases' : cases_in (raised parts s) ≡ cases_of (labels s)
  pub defaults' : defaults_in (raised parts s) ≡ defaults_of (labels s)
  pub long' : 2 * length (cases_of (labels s)) ≤ lengths (flattened s)

module _ (parts : Parts) where
  behind_front : (front t : Term) → IsTrue (holds_no is_flow front) → cases_in t ≡ [] → defaults_in t ≡ 0
      → (cases_in (term.Then front t) ≡ []) × (defaults_in (term.Then front t) ≡ 0)
  behind_front front t f h k = (none_from (cases_in front) (cases_in t) (no_cases front f) h, omega (arith, no_defaults front f, k))

  unlabelled : (s : Statement) → labels s ≡ [] → (cases_in (raised parts s) ≡ []) × (defaults_in (raised parts s) ≡ 0) → Labelled parts s
  unlabelled s e h = record {
    cases' = h.0 ∙ ap cases_of (sym e);
    defaults' = h.1 ∙ ap defaults_of (sym e);
    long' = let l = ap (λ js. length (cases_of js)) e in omega (arith, l);
  }

  of_label : (i : Instruction) → means Base is_label i ≡ true → (means Base is_any_case i ≡ true → 2 ≤ i.length) → Labelled parts (Label i)
  of_label i h f = record {
    cases' = cases_is (means Base is_default i);
    defaults' = defaults_is (means Base is_default i);
    long' = let l = label_long i h f in let k = first_length i [] in omega (arith, l, k);
  }
    where
      cases_is : (b : Bool) → cases_in (if b then term.Default term.Nothing else term.Case i.o0.x term.Nothing) ≡ (if b then [] else i.o0.x ∷ [])
      cases_is true = refl
      cases_is false = refl

      defaults_is : (b : Bool) → defaults_in (if b then term.Default term.Nothing else term.Case i.o0.x term.Nothing) ≡ (if b then 0 + 1 else 0)
      defaults_is true = refl
      defaults_is false = refl

  pub labelled : (w : Where) (s : Statement) → IsSound w s → Each (Calm parts) (flattened s) → Labelled parts s
  labelled w Nothing h k = unlabelled Nothing refl (refl, refl)
  labelled w (Then first next) h k =
      let q = each_parts (Calm parts) (flattened first) (flattened next) k in
      let a = labelled w first h.0 q.0 in let b = labelled w next h.1 q.1 in
      let c = cases_append (labels first) (labels next) in
      record {
        cases' = ap (λ l. l ++ cases_in (raised parts next)) a.cases' ∙ (ap (λ l. cases_of (labels first) ++ l) b.cases' ∙ sym c);
        defaults' = omega (arith, a.defaults', b.defaults', defaults_append (labels first) (labels next));
        long' = let l = ap length c in let a0 = a.long' in let b0 = b.long' in
            omega (arith, a0, b0, l, length-append (cases_of (labels first)) (cases_of (labels next)), both_lengths (flattened first) (flattened next));
      }
  labelled w (Plain i) h k = unlabelled (Plain i) refl (none_alone parts (meaning_of Base i.code) i k.0.front w h k.0.plain)
  labelled w (Label i) h k = of_label i h.0 k.0.case'
  labelled w (If opening body end) h k = unlabelled (If opening body end) refl
      (behind_front (parts.front opening) (term.Guard (parts.truth opening) (raised parts body)) k.0.front refl refl)
  labelled w (IfElse opening body middle other end) h k = unlabelled (IfElse opening body middle other end) refl
      (behind_front (parts.front opening) (term.If (parts.truth opening) (raised parts body) (raised parts other)) k.0.front refl refl)
  labelled w (Loop opening body end) h k = unlabelled (Loop opening body end) refl (refl, refl)
  labelled w (Switch opening body end) h k = unlabelled (Switch opening body end) refl
      (behind_front (parts.front opening) (term.Switch (parts.word opening) (raised parts body)) k.0.front refl refl)

  -- WHERE STATEMENTS STAND
  placed_behind : (l e s : Bool) (front t : Term) → IsTrue (holds_no is_flow front) → placed_in l e s t ≡ true → placed_in l e s (term.Then front t) ≡ true
  placed_behind l e s front t f h = and_from (placed_in l e s front) (placed_in l e s t) (placed_any front f l e s) h

  placed_alone : (m : Option Meaning) (i : Instruction) (w : Where) → stands w m ≡ true → IsTrue (holds_no is_flow (parts.front i))
      → (goes_on m ≡ true → IsTrue (holds_no is_flow (parts.plain i))) → placed_in w.loops w.leaves w.direct (alone parts m i) ≡ true
  placed_alone None i w s f p = absurd (cc)
  placed_alone (Some meaning.If) i w s f p = absurd (cc)
  placed_alone (Some meaning.Else) i w s f p = absurd (cc)
  placed_alone (Some meaning.EndIf) i w s f p = absurd (cc)
  placed_alone (Some meaning.Loop) i w s f p = absurd (cc)
  placed_alone (Some meaning.EndLoop) i w s f p = absurd (cc)
  placed_alone (Some meaning.Switch) i w s f p = absurd (cc)
  placed_alone (Some meaning.Case) i w s f p = absurd (cc)
  placed_alone (Some meaning.Default) i w s f p = absurd (cc)
  placed_alone (Some meaning.EndSwitch) i w s f p = absurd (cc)
  placed_alone (Some meaning.Break) i w s f p = s
  placed_alone (Some meaning.Continue) i w s f p = s
  placed_alone (Some meaning.Return) i w s f p = refl
  placed_alone (Some meaning.BreakIf) i w s f p =
      placed_behind w.loops w.leaves w.direct (parts.front i) (term.Guard (parts.truth i) term.Break) f s
  placed_alone (Some meaning.ContinueIf) i w s f p =
      placed_behind w.loops w.leaves w.direct (parts.front i) (term.Guard (parts.truth i) term.Continue) f s
  placed_alone (Some meaning.ReturnIf) i w s f p =
      placed_behind w.loops w.leaves w.direct (parts.front i) (term.Guard (parts.truth i) term.Return) f refl
  placed_alone (Some m) i w s f p = placed_any (parts.plain i) (p refl) w.loops w.leaves w.direct

  placed_label : (b : Bool) (i : Instruction) (l e d : Bool) → d ≡ true
      → placed_in l e d (if b then term.Default term.Nothing else term.Case i.o0.x term.Nothing) ≡ true
  placed_label true i l e d h = and_from d true h refl
  placed_label false i l e d h = and_from d true h refl

  switch_is : (w : Where) (body : Statement) → IsSound w body → Each (Calm parts) (flattened body) → AreDistinct (labels body)
      → lengths (flattened body) ≤ 65532 → is_switch (raised parts body) ≡ true
  switch_is w body h k d n =
      let l = labelled w body h k in
      let a : are_distinct (cases_in (raised parts body)) ≡ true = ap are_distinct l.cases' ∙ distinct (labels body) (are_labels w body h) d in
      let b0 = l.long' in let b1 = ap length l.cases' in
      let b : length (cases_in (raised parts body)) ≤ 32766 = omega (arith, b0, b1, n) in
      let c : defaults_in (raised parts body) ≤ 1 = omega (arith, l.defaults', one_default (labels body) d) in
      and_from (are_distinct (cases_in (raised parts body))) (nat_le (length (cases_in (raised parts body))) 32766 && nat_le (defaults_in (raised parts body)) 1) a
      (and_from (nat_le (length (cases_in (raised parts body))) 32766) (nat_le (defaults_in (raised parts body)) 1)
      (le-leb (length (cases_in (raised parts body))) 32766 b) (le-leb (defaults_in (raised parts body)) 1 c))

  pub placed : (w : Where) (s : Statement) → IsSound w s → Each (Calm parts) (flattened s) → lengths (flattened s) ≤ 65534
      → placed_in w.loops w.leaves w.direct (raised parts s) ≡ true
  placed w Nothing h k n = refl
  placed w (Then first next) h k n =
      let q = each_parts (Calm parts) (flattened first) (flattened next) k in
      let l = both_lengths (flattened first) (flattened next) in
      and_from (placed_in w.loops w.leaves w.direct (raised parts first)) (placed_in w.loops w.leaves w.direct (raised parts next))
      (placed w first h.0 q.0 (omega (arith, n, l))) (placed w next h.1 q.1 (omega (arith, n, l)))
  placed w (Plain i) h k n = placed_alone (meaning_of Base i.code) i w h k.0.front k.0.plain
  placed w (Label i) h k n = placed_label (means Base is_default i) i w.loops w.leaves w.direct h.1
  placed w (If opening body end) h k n =
      let q = each_parts (Calm parts) (flattened body) (end ∷ []) k.1 in
      let l = wrapped parts opening (flattened body) end in
      placed_behind w.loops w.leaves w.direct (parts.front opening) (term.Guard (parts.truth opening) (raised parts body)) k.0.front
      (placed (in_if w) body h.3 q.0 (omega (arith, n, l)))
  placed w (Loop opening body end) h k n =
      let q = each_parts (Calm parts) (flattened body) (end ∷ []) k.1 in
      let l = wrapped parts opening (flattened body) end in
      placed (in_loop w) body h.3 q.0 (omega (arith, n, l))
  placed w (Switch opening body end) h k n =
      let q = each_parts (Calm parts) (flattened body) (end ∷ []) k.1 in
      let l = wrapped parts opening (flattened body) end in
      placed_behind w.loops w.leaves w.direct (parts.front opening) (term.Switch (parts.word opening) (raised parts body)) k.0.front
      (and_from (is_switch (raised parts body)) (placed_in w.loops true true (raised parts body))
      (switch_is (in_switch w) body h.3 q.0 h.5 (omega (arith, n, l, k.0.long, q.1.0.long))) (placed (in_switch w) body h.3 q.0 (omega (arith, n, l))))
  placed w (IfElse opening body middle other end) h k n =
      let q = each_parts (Calm parts) (flattened body) (middle ∷ (flattened other ++ end ∷ [])) k.1 in
      let r = each_parts (Calm parts) (flattened other) (end ∷ []) q.1.1 in
      let l = first_length opening (flattened body ++ middle ∷ (flattened other ++ end ∷ [])) in
      let m = both_lengths (flattened body) (middle ∷ (flattened other ++ end ∷ [])) in
      let o = wrapped parts middle (flattened other) end in
      placed_behind w.loops w.leaves w.direct (parts.front opening) (term.If (parts.truth opening) (raised parts body) (raised parts other)) k.0.front
      (and_from (placed_in w.loops w.leaves false (raised parts body)) (placed_in w.loops w.leaves false (raised parts other))
      (placed (in_if w) body h.4 q.0 (omega (arith, n, l, m))) (placed (in_if w) other h.5 r.0 (omega (arith, n, l, m, o))))
