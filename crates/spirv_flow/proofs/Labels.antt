-- A branch to a label that stands in code goes there, where each id is defined once.
use Rattle.std.proofs.Common.{◌≡◌, ℕ, zero, suc, ◌+◌, ◌≤◌, List, [], ◌∷◌, Bool, true, false, refl, sym, ap, ◌∙◌, subst, arith, Some}
use Rattle.std.specs.Prelude.{nat_eq, nat_lt, length, cond, IsTrue, slice_get, slice_index}
use Rattle.std.specs.List.{list_all}
use Rattle.std.proofs.lemmas.Bool.Decides.{nat_tests}
use Rattle.std.proofs.lemmas.Option.{same_Some}
use Rattle.spirv_words.specs.Operations.{OpLabel, number_of, op_of, layout_of}
use Rattle.spirv_words.specs.Ids.{ids_of, ids_in, parts_of}
use Rattle.spirv_words.specs.Definitions.{results, are_distinct}
use Rattle.spirv_words.specs.Lane.{is_label, first_from}
use Rattle.spirv_words.specs.Layouts.{fits}
use Rattle.spirv_words.specs.Text.{Instr, is_instr, is_op, fits_op}
use Rattle.spirv_flow.specs.Layout.{label}
use Rattle.spirv_flow.specs.Lowers.{times}
use Rattle.spirv_flow.specs.Pieces.{HasSingleLabels}
use Rattle.spirv_flow.proofs.Composing.{times_append}
use Rattle.spirv_flow.proofs.Members.{first_holds, second_holds, no_truth}
use Rattle.spirv_flow.proofs.Numbers.{once}

is_eq : (x l : ℕ) → nat_eq x l ≡ true → x ≡ l
is_eq x l e = grind (arith, nat_tests)

one_time : (l : ℕ) → times l (l ∷ []) ≡ 1
one_time l = grind (arith, nat_tests)

-- operands that fit a label's row, whose first is that id
one_operand : (os : List ℕ) (l : ℕ) → IsTrue (fits (layout_of OpLabel) os) → nat_eq (slice_index os 0) l ≡ true
    → (ids_in (layout_of OpLabel) os).results ≡ l ∷ []
one_operand [] l f e = absurd (no_truth f)
one_operand (x ∷ []) l f e = ap (λ y. y ∷ []) (is_eq x l e)
one_operand (x ∷ y ∷ r) l f e = absurd (no_truth f)

of_label : (op : ℕ) (os : List ℕ) (l : ℕ) → op ≡ number_of OpLabel → IsTrue (fits_op (op_of op) os) → nat_eq (slice_index os 0) l ≡ true
    → (ids_in (parts_of (op_of op)) os).results ≡ l ∷ []
of_label op os l e f h =
    subst (λ n. (ids_in (parts_of (op_of n)) os).results ≡ l ∷ []) (sym e)
    (one_operand os l (subst (λ n. IsTrue (fits_op (op_of n) os)) e f) h)

defines : (i : Instr) (l : ℕ) → IsTrue (is_instr i) → is_label l i ≡ true → times l (ids_of i).results ≡ 1
defines i l f h =
    let op = is_eq i.op (number_of OpLabel) (first_holds (is_op OpLabel i) (nat_eq (slice_index i.operands 0) l) h) in
    let own = second_holds (is_op OpLabel i) (nat_eq (slice_index i.operands 0) l) h in
    ap (times l) (of_label i.op i.operands l op (first_holds (fits_op (op_of i.op) i.operands) (nat_lt (length i.operands) 65535) f) own) ∙ one_time l

its_label : (l : ℕ) → times l (ids_of (label l)).results ≡ 1
its_label l = one_time l

is_its : (l : ℕ) → is_label l (label l) ≡ true
is_its l = grind (arith, nat_tests)

none_there : (q l : ℕ) → slice_get [] q ≡ Some (label l) → ⊥
none_there q l e = absurd (cc e)

there : (code : List Instr) (l q : ℕ) → slice_get code q ≡ Some (label l) → 1 ≤ times l (results code)
there [] l q e = absurd (none_there q l e)
there (i ∷ is) l zero e =
    let same : i ≡ label l = same_Some i (label l) e in
    let own : times l (ids_of i).results ≡ 1 = ap (λ x. times l (ids_of x).results) same ∙ its_label l in
    let both = times_append l (ids_of i).results (results is) in
    omega (arith, own, both)
there (i ∷ is) l (suc q) e =
    let rest = there is l q e in
    let both = times_append l (ids_of i).results (results is) in
    omega (arith, rest, both)

found_from : (code : List Instr) (l p at : ℕ) → IsTrue (list_all is_instr code) → times l (results code) ≤ 1 → slice_get code p ≡ Some (label l)
    → first_from (is_label l) code at ≡ Some (at + p)
found_from [] l p at f n e = absurd (none_there p l e)
found_from (i ∷ is) l zero at f n e =
    let same : i ≡ label l = same_Some i (label l) e in
    let here : is_label l i ≡ true = ap (is_label l) same ∙ is_its l in
    let at' : at ≡ at + 0 = omega arith in
    rw here (ap Some at')
found_from (i ∷ is) l (suc q) at f n e = by (is_label l i) refl
    (λ few. found_from is l q (at + 1) (second_holds (is_instr i) (list_all is_instr is) f) few e) where
      rest : 1 ≤ times l (results is)
      rest = there is l q e

      both : times l (results (i ∷ is)) ≡ times l (ids_of i).results + times l (results is)
      both = times_append l (ids_of i).results (results is)

      by : (c : Bool) → is_label l i ≡ c → (times l (results is) ≤ 1 → first_from (is_label l) is (at + 1) ≡ Some (at + 1 + q)) → cond c (Some at)
          (first_from (is_label l) is (at + 1)) ≡ Some (at + suc q)
      by true h next =
          let own = defines i l (first_holds (is_instr i) (list_all is_instr is) f) h in
          absurd (omega (arith, own, rest, both, n))
      by false h next =
          let few : times l (results is) ≤ 1 = omega (arith, both, n) in
          let sum : at + 1 + q ≡ at + suc q = omega arith in
          next few ∙ ap Some sum

pub single_labels : (code : List Instr) → IsTrue (list_all is_instr code) → IsTrue (are_distinct (results code)) → HasSingleLabels code
single_labels code f d p l e =
    let zero_first : 0 + p ≡ p = omega arith in
    found_from code l p 0 f (once l (results code) d) e ∙ ap Some zero_first
