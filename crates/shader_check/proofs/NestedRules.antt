-- The rules that an instruction breaks, by what a walk keeps.
use Rattle.std.proofs.Common.{◌≡◌, ℕ, zero, suc, ◌+◌, ◌-◌, ◌<◌, ◌≤◌, inl, inr, Bool, true, false, not, ◌&&◌, ◌||◌, List, [], ◌∷◌, ◌++◌, length, Option, Some, None, refl, sym, ap, ◌∙◌, subst, arith, length-append, append_assoc}
use Rattle.std.specs.Prelude.{slice_get, nat_eq, nat_lt, is_some, if◌then◌else◌, option_and_then}
use Rattle.std.proofs.lemmas.Bool.{cases_lt}
use Rattle.std.proofs.lemmas.Bool.Decides.{nat_tests}
use Rattle.std.proofs.lemmas.Option.{slice_get_within}
use Rattle.word_base.specs.declared.rule.Refusal.{Refusal}
use Rattle.word_base.specs.declared.rule.Rule.{Rule}
use Rattle.word_base.specs.declared.rule.Rule.TheVariants.{S1, S3, S4, S5, S6, S7, S8, M3}
use Rattle.word_base.specs.Rules.{broken, earlier, first, order_of, refusal}
use Rattle.tpf_decode.specs.Profiles.{Base}
use Rattle.tpf_decode.specs.Opcodes.{meaning_of}
use Rattle.tpf_decode.specs.declared.meaning.Meaning.{Meaning}
use Rattle.tpf_decode.specs.declared.meaning.Meaning.TheVariants as meaning
use Rattle.tpf_program.specs.declared.instruction.Instruction.{Instruction}
use Rattle.tpf_program.specs.Cases.{previous_case, last_case, is_case_at, level, is_any_case}
use Rattle.tpf_program.specs.Ends.{has, means, is_opening, is_if, is_loop, is_switch, is_loop_or_switch, is_else, is_default, is_case_of, last_below, is_direct}
use Rattle.tpf_program.specs.Nesting.{inner, inner_is, has_before, depth, is_in, is_label, is_end_of_switch, is_wrong_end, is_wrong_else, is_wrong_leap, is_wrong_label, is_second_case, is_too_early, walk_at}
use Rattle.shader_check.specs.declared.constructs.Sort.{Sort}
use Rattle.shader_check.specs.declared.constructs.Construct.{Construct}
use Rattle.shader_check.specs.Nested.{openings, first_number, sort_of, sort_of_any, meaning_at, construct, outer, ends_wrong, else_wrong, leaps_wrong, is_if_sort, is_loop_sort, is_switch_sort, rule_within, is_behind}
use Rattle.shader_check.specs.Things.{or_later}
use Rattle.shader_check.proofs.NestedCounts.{a, o, c, Counted, counted}
use Rattle.shader_check.proofs.NestedFinds.{inner_is_first, depth_is_length, innermost_is_first, stands, around_less, direct_at, Standing, Innermost, Outer}
use Rattle.shader_check.proofs.NestedKept.{IsLast, last_told, none_before, none_outside}
use Rattle.shader_check.proofs.Orders.{later_number, stays}

-- A CHAIN of rules at one place, by their numbers
abbrev phase_rule : Rule → ℕ
phase_rule r = (order_of r).phase

abbrev number_rule : Rule → ℕ
number_rule r = (order_of r).number

pub record Chain (place n : ℕ) (xs : List Refusal) (found : Option Rule) : Type 0 where
  pub first : first xs ≡ or_later found place None
  pub above : (r : Rule) → found ≡ Some r → (phase_rule r ≡ 7) × (n ≤ number_rule r)
  pub empty : found ≡ None → xs ≡ []

chain_last : (b : Bool) (place : ℕ) → Chain place 10 (broken b M3 place) (if b then Some M3 else None)
chain_last true place = record { first = refl; above = λ r h. let k : M3 ≡ r = cc in (sym (ap phase_rule k), omega (arith, ap number_rule k)); empty = λ h. absurd (cc) }
chain_last false place = record { first = refl; above = λ r h. absurd (cc); empty = λ h. refl }

chain_more : (b : Bool) (rule : Rule) (place n : ℕ) (xs : List Refusal) (o : Option Rule) → phase_rule rule ≡ 7 → number_rule rule ≤ n → Chain place n xs o
    → Chain place (number_rule rule) (broken b rule place ++ xs) (if b then Some rule else o)
chain_more false rule place n xs o p l h = record { first = h.first; above = λ r k. let m = h.above r k in (m.0, omega (arith, l, m.1)); empty = h.empty }
chain_more true rule place n xs o p l h = record {
  first = ap (λ x. Some (earlier (refusal rule place) x)) h.first ∙ by_later o h.above;
  above = λ r k. let e : rule ≡ r = cc in (sym (ap phase_rule e) ∙ p, omega (arith, ap number_rule e));
  empty = λ k. absurd (cc);
}
  where
    by_later : (o : Option Rule) → ((r : Rule) → o ≡ Some r → (phase_rule r ≡ 7) × (n ≤ number_rule r)) → Some (earlier (refusal rule place) (or_later o place None)) ≡ Some (refusal rule place)
    by_later None f = refl
    by_later (Some r) f =
        let k = f r refl in
        stays (refusal rule place) (refusal r place) (later_number (refusal rule place) (refusal r place) 7 (omega arith) p k.0 refl (omega (arith, l, k.1)))

to_right : (a b c d e f g h : List Refusal) → (a ++ b ++ c ++ d ++ e ++ f ++ g ++ h) ≡ (a ++ (b ++ (c ++ (d ++ (e ++ (f ++ (g ++ h)))))))
to_right a b c d e f g h =
    append_assoc (a ++ b ++ c ++ d ++ e ++ f) g h ∙ (append_assoc (a ++ b ++ c ++ d ++ e) f (g ++ h) ∙ (append_assoc (a ++ b ++ c ++ d) e (f ++ (g ++ h))
    ∙ (append_assoc (a ++ b ++ c) d (e ++ (f ++ (g ++ h))) ∙ (append_assoc (a ++ b) c (d ++ (e ++ (f ++ (g ++ h)))) ∙ append_assoc a b (c ++ (d ++ (e ++ (f ++ (g ++ h)))))))))

abbrev all_of : ℕ → Bool → Bool → Bool → Bool → Bool → Bool → Bool → Bool → List Refusal
all_of p s1 s3 s4 s5 s6 s7 s8 m3 =
    broken s1 S1 p ++ broken s3 S3 p ++ broken s4 S4 p ++ broken s5 S5 p ++ broken s6 S6 p ++ broken s7 S7 p ++ broken s8 S8 p ++ broken m3 M3 p

pub chain_all : (p : ℕ) (s1 s3 s4 s5 s6 s7 s8 m3 : Bool) → Chain p 1 (all_of p s1 s3 s4 s5 s6 s7 s8 m3)
    (if s1 then Some S1 else if s3 then Some S3 else if s4 then Some S4 else if s5 then Some S5 else if s6 then Some S6 else if s7 then Some S7 else if s8 then Some S8 else if m3 then Some M3 else None)
chain_all p s1 s3 s4 s5 s6 s7 s8 m3 =
    subst (λ xs. Chain p 1 xs
    (if s1 then Some S1 else if s3 then Some S3 else if s4 then Some S4 else if s5 then Some S5 else if s6 then Some S6 else if s7 then Some S7 else if s8 then Some S8 else if m3 then Some M3 else None))
    (sym (to_right (broken s1 S1 p) (broken s3 S3 p) (broken s4 S4 p) (broken s5 S5 p) (broken s6 S6 p) (broken s7 S7 p) (broken s8 S8 p) (broken m3 M3 p)))
    (chain_more s1 S1 p 3 _ _ refl (omega arith) (chain_more s3 S3 p 4 _ _ refl (omega arith) (chain_more s4 S4 p 5 _ _ refl (omega arith)
    (chain_more s5 S5 p 6 _ _ refl (omega arith) (chain_more s6 S6 p 7 _ _ refl (omega arith) (chain_more s7 S7 p 8 _ _ refl (omega arith)
    (chain_more s8 S8 p 10 _ _ refl (omega arith) (chain_last m3 p))))))))

-- WHAT THE RULES ASK
sort_test : (test : Meaning → Bool) (by : Sort → Bool) → ((m : Meaning) → test m ≡ by (sort_of m)) → by (sort_of_any None) ≡ false
    → (code : List Instruction) (xs : List ℕ) → inner_is Base test code (first_number xs) ≡ by (sort_of_any (option_and_then (meaning_at code) (first_number xs)))
sort_test test by f z code [] = sym z
sort_test test by f z code (n ∷ rest) = by_instruction (slice_get code n)
  where
    by_meaning : (m : Option Meaning) → has test m ≡ by (sort_of_any m)
    by_meaning None = sym z
    by_meaning (Some m) = f m

    by_instruction : (i : Option Instruction) → has (means Base test) i ≡ by (sort_of_any (option_and_then (λ i. meaning_of Base i.code) i))
    by_instruction None = sym z
    by_instruction (Some i) = by_meaning (meaning_of Base i.code)

if_sorted : (m : Meaning) → is_if m ≡ is_if_sort (sort_of m)
if_sorted meaning.If = refl
if_sorted meaning.Loop = refl
if_sorted meaning.Switch = refl
if_sorted m = refl

loop_sorted : (m : Meaning) → is_loop m ≡ is_loop_sort (sort_of m)
loop_sorted meaning.If = refl
loop_sorted meaning.Loop = refl
loop_sorted meaning.Switch = refl
loop_sorted m = refl

switch_sorted : (m : Meaning) → is_switch m ≡ is_switch_sort (sort_of m)
switch_sorted meaning.If = refl
switch_sorted meaning.Loop = refl
switch_sorted meaning.Switch = refl
switch_sorted m = refl

pub loop_opens : (m : Meaning) → is_loop m ≡ true → is_opening m ≡ true
loop_opens meaning.Loop e = refl
loop_opens m e = absurd (cc)

pub leave_opens : (m : Meaning) → is_loop_or_switch m ≡ true → is_opening m ≡ true
leave_opens meaning.Loop e = refl
leave_opens meaning.Switch e = refl
leave_opens m e = absurd (cc)

module _ (code : List Instruction) (q : ℕ) where
  abbrev kept : Construct
  kept = construct code q (openings code q)

  abbrev around : Option ℕ
  around = first_number (openings code q)

  is_if_kept : inner_is Base is_if code around ≡ is_if_sort kept.sort
  is_if_kept = sort_test is_if is_if_sort if_sorted refl code (openings code q)

  is_loop_kept : inner_is Base is_loop code around ≡ is_loop_sort kept.sort
  is_loop_kept = sort_test is_loop is_loop_sort loop_sorted refl code (openings code q)

  is_switch_kept : inner_is Base is_switch code around ≡ is_switch_sort kept.sort
  is_switch_kept = sort_test is_switch is_switch_sort switch_sorted refl code (openings code q)

  in_loop : is_in Base is_loop code q ≡ kept.loops
  in_loop = ap is_some (innermost_is_first code is_loop loop_opens q)

  in_either : is_in Base is_loop_or_switch code q ≡ kept.leaves
  in_either = ap is_some (innermost_is_first code is_loop_or_switch leave_opens q)

  wrong_end : (m : Meaning) → is_wrong_end Base code around m ≡ ends_wrong kept.sort m
  wrong_end meaning.EndIf = ap not is_if_kept
  wrong_end meaning.EndLoop = ap not is_loop_kept
  wrong_end meaning.EndSwitch = ap not is_switch_kept
  wrong_end m = refl

  wrong_else : (m : Meaning) → is_wrong_else Base code q around m ≡ else_wrong kept m
  wrong_else meaning.Else = ap (λ b. not b || has_before Base (means Base is_else) code around q) is_if_kept
  wrong_else m = refl

  wrong_leap : (m : Meaning) → is_wrong_leap Base code q m ≡ leaps_wrong kept m
  wrong_leap meaning.Break = ap not in_either
  wrong_leap meaning.BreakIf = ap not in_either
  wrong_leap meaning.Continue = ap not in_loop
  wrong_leap meaning.ContinueIf = ap not in_loop
  wrong_leap m = refl

  wrong_label : (m : Meaning) → is_wrong_label Base code around m ≡ (is_label m && not (is_switch_sort kept.sort))
  wrong_label m = ap (λ b. is_label m && not b) is_switch_kept

  too_early : (m : Meaning) → is_too_early Base code q around m ≡ (is_switch_sort kept.sort && not (is_label m || is_end_of_switch m) && not kept.has_label)
  too_early m = ap (λ b. b && not (is_label m || is_end_of_switch m) && not kept.has_label) is_switch_kept

  outer_length : (xs : List ℕ) → length (outer code q xs) ≡ length xs
  outer_length [] = refl
  outer_length (n ∷ rest) = length-append (outer code q rest) (construct code q rest ∷ []) ∙ omega (arith, outer_length rest)

  pub depth_kept : depth Base code q ≡ length (outer code q (openings code q))
  depth_kept = depth_is_length code q ∙ sym (outer_length (openings code q))

  -- A CASE AGAIN: the last case before it of its value at its level stands behind the opening of the construct
  module _ (n : ℕ) (inside : inner Base code q ≡ Some n) (rest : List ℕ) (open_here : openings code q ≡ n ∷ rest) (end : q ≤ length code)
      (matched : o code q ≡ c code q + length (openings code q)) (w : ℕ) where
    abbrev in_it : ℕ → Bool
    in_it = is_direct Base true (is_case_of Base w) code (Some n)

    abbrev at_level : ℕ → Bool
    at_level = is_case_at Base code w (level Base code q)

    opens_here : IsLast (a code q) q n
    opens_here = last_told (a code q) q n inside

    count_here : o code q + c code n ≡ o code n + c code q + 0 + 1
    count_here = (subst (Counted code q 0) open_here (counted code q end)).0

    same_level : (m d : ℕ) → o code m + c code n ≡ o code n + c code m + d + 1 → nat_eq d 0 ≡ nat_eq (level Base code m) (level Base code q)
    same_level m d h =
        let len : length (openings code q) ≡ length rest + 1 = ap (length {A = ℕ}) open_here ∙ omega arith in
        let here : o code q - c code q ≡ length rest + 1 = omega (arith, matched, len) in
        let there : o code m - c code m ≡ length rest + 1 + d = omega (arith, h, count_here, matched, len) in
        grind (arith, nat_tests, here, there)

    found_at : (xs : List Instruction) (m : ℕ) → m < length xs → (i : Instruction) × (slice_get xs m ≡ Some i)
    found_at [] m h = absurd (omega (arith, h))
    found_at (i ∷ xs) zero h = (i, refl)
    found_at (i ∷ xs) (suc m) h = found_at xs m (omega (arith, h))

    same_case : (m : ℕ) → n < m → m < q → in_it m ≡ at_level m
    same_case m l k =
        let g = found_at code m (omega (arith, k, end)) in
        by_standing g.0 g.1 (stands code m n l (omega (arith, k, end)) (around_less code m q n (omega (arith, k)) opens_here.holds))
      where
        by_count : (i : Instruction) → slice_get code m ≡ Some i → (d : ℕ) → o code m + c code n ≡ o code n + c code m + d + 1 → in_it m ≡ at_level m
        by_count i at d h =
            direct_at code (is_case_of Base w) n m q d i l (omega (arith, k)) end opens_here.holds at h
            ∙ (ap (λ b. is_case_of Base w i && b) (same_level m d h) ∙ ap (λ x. has (is_case_of Base w) x && nat_eq (level Base code m) (level Base code q)) (sym at))

        by_standing : (i : Instruction) → slice_get code m ≡ Some i → Standing code m n 0 (inner Base code m) → in_it m ≡ at_level m
        by_standing i at (Innermost f g) = by_count i at 0 g
        by_standing i at (Outer f d g) = by_count i at (d + 1) (omega (arith, g))

    not_behind : (u : ℕ) → u ≤ n + 1 → is_behind (Some n) (last_below at_level u) ≡ false
    not_behind u l = by_last (last_below at_level u) refl
      where
        by_last : (x : Option ℕ) → last_below at_level u ≡ x → is_behind (Some n) x ≡ false
        by_last None h = refl
        by_last (Some m) h = let k = (last_told at_level u m h).below in grind (arith, nat_tests, k, l)

    found_both : (u : ℕ) → u ≤ q → is_some (last_below in_it u) ≡ is_behind (Some n) (last_below at_level u)
    found_both zero h = refl
    found_both (suc u) h = elim (cases_lt n u) [
      | inl s ↦ by_test s (at_level u) refl (found_both u (omega (arith, h)))
      | inr s ↦ ap is_some (none_before code (is_case_of Base w) n (suc u) (omega (arith, s))) ∙ sym (not_behind (suc u) (omega (arith, s)))
    ]
      where
        by_test : n < u → (b : Bool) → at_level u ≡ b → is_some (last_below in_it u) ≡ is_behind (Some n) (last_below at_level u)
            → is_some (if in_it u then Some u else last_below in_it u) ≡ is_behind (Some n) (if b then Some u else last_below at_level u)
        by_test s true e k =
            let y : nat_lt n u ≡ true = grind (arith, nat_tests, s) in
            ap (λ b. is_some (if b then Some u else last_below in_it u)) (same_case u s (omega (arith, h)) ∙ e) ∙ sym y
        by_test s false e k = ap (λ b. is_some (if b then Some u else last_below in_it u)) (same_case u s (omega (arith, h)) ∙ e) ∙ k

    pub again_in : has_before Base (is_case_of Base w) code (Some n) q ≡ is_behind (Some n) (last_case Base code w (level Base code q) q)
    again_in = found_both q (omega arith)

  pub case_again : (i : Instruction) → slice_get code q ≡ Some i → (m : Meaning) → meaning_of Base i.code ≡ Some m → o code q ≡ c code q + length (openings code q)
      → is_second_case Base code q around m i.o0.x ≡ is_behind around (previous_case Base code q)
  case_again i at m e matched =
      by_meaning m e ∙ ap (is_behind around) (sym (ap (option_and_then (λ i. if means Base is_any_case i then last_case Base code i.o0.x (level Base code q) q else None)) at))
    where
      inside_code : (xs : List Instruction) (k : ℕ) → slice_get xs k ≡ Some i → k < length xs
      inside_code xs k h = slice_get_within xs k i h

      behind_none : (x : Option ℕ) → is_behind x None ≡ false
      behind_none None = refl
      behind_none (Some n) = refl

      by_openings : (xs : List ℕ) → openings code q ≡ xs
          → has_before Base (is_case_of Base i.o0.x) code (first_number xs) q ≡ is_behind (first_number xs) (last_case Base code i.o0.x (level Base code q) q)
      by_openings [] h = none_outside code (is_case_of Base i.o0.x) q
      by_openings (n ∷ rest) h =
          again_in n (inner_is_first code q ∙ ap first_number h) rest h (omega (arith, inside_code code q at)) matched i.o0.x

      no_case : means Base is_any_case i ≡ false → false ≡ is_behind around (if means Base is_any_case i then last_case Base code i.o0.x (level Base code q) q else None)
      no_case h = sym (ap (λ b. is_behind around (if b then last_case Base code i.o0.x (level Base code q) q else None)) h ∙ behind_none around)

      by_meaning : (m : Meaning) → meaning_of Base i.code ≡ Some m
          → is_second_case Base code q around m i.o0.x ≡ is_behind around (if means Base is_any_case i then last_case Base code i.o0.x (level Base code q) q else None)
      by_meaning meaning.Case e =
          by_openings (openings code q) refl
          ∙ sym (ap (λ x. is_behind around (if has is_any_case x then last_case Base code i.o0.x (level Base code q) q else None)) e)
      by_meaning m e = no_case (ap (has is_any_case) e)

  -- THE FIRST of the rules that are broken there
  pub rules_at : (m : Meaning) (i : Instruction) (again : Bool) → is_second_case Base code q around m i.o0.x ≡ again
      → Chain i.place 1 (walk_at Base code q (inner Base code q) m i) (rule_within kept (length (outer code q (openings code q))) again m)
  rules_at m i again h =
      let p = i.place in
      let s1 = ends_wrong kept.sort m in
      let s3 = else_wrong kept m in
      let s4 = leaps_wrong kept m in
      let s5 = is_label m && not (is_switch_sort kept.sort) in
      let s6 = is_default m && kept.has_default in
      let s8 = is_switch_sort kept.sort && not (is_label m || is_end_of_switch m) && not kept.has_label in
      let m3 = is_opening m && nat_eq (length (outer code q (openings code q))) 64 in
      let t4 = is_wrong_leap Base code q m in
      let t5 = is_wrong_label Base code around m in
      let t7 = is_second_case Base code q around m i.o0.x in
      let t8 = is_too_early Base code q around m in
      let t3 = is_opening m && nat_eq (depth Base code q) 64 in
      subst (λ xs. Chain p 1 xs (rule_within kept (length (outer code q (openings code q))) again m))
      (sym (ap (λ x. walk_at Base code q x m i) (inner_is_first code q)
      ∙ (ap (λ x. all_of p x (is_wrong_else Base code q around m) t4 t5 s6 t7 t8 t3) (wrong_end m)
      ∙ (ap (λ x. all_of p s1 x t4 t5 s6 t7 t8 t3) (wrong_else m)
      ∙ (ap (λ x. all_of p s1 s3 x t5 s6 t7 t8 t3) (wrong_leap m)
      ∙ (ap (λ x. all_of p s1 s3 s4 x s6 t7 t8 t3) (wrong_label m)
      ∙ (ap (λ x. all_of p s1 s3 s4 s5 s6 x t8 t3) h
      ∙ (ap (λ x. all_of p s1 s3 s4 s5 s6 again x t3) (too_early m)
      ∙ ap (λ n. all_of p s1 s3 s4 s5 s6 again s8 (is_opening m && nat_eq n 64)) depth_kept))))))))
      (chain_all p s1 s3 s4 s5 s6 again s8 m3)

-- where an instruction breaks no rule and opens a construct there is room for one more
pub room_left : (k : Construct) (depth : ℕ) (again : Bool) (m : Meaning) → rule_within k depth again m ≡ None → depth ≤ 64 → is_opening m ≡ true → depth < 64
room_left k depth again m h l e =
    by_tests (ends_wrong k.sort m) (else_wrong k m) (leaps_wrong k m) (is_label m && not (is_switch_sort k.sort)) (is_default m && k.has_default) again
    (is_switch_sort k.sort && not (is_label m || is_end_of_switch m) && not k.has_label) (is_opening m) (nat_eq depth 64) refl e h
  where
    by_tests : (s1 s3 s4 s5 s6 s7 s8 o d : Bool) → nat_eq depth 64 ≡ d → o ≡ true
        → (if s1 then Some S1 else if s3 then Some S3 else if s4 then Some S4 else if s5 then Some S5 else if s6 then Some S6 else if s7 then Some S7 else if s8 then Some S8 else if o && d then Some M3 else None) ≡ None
        → depth < 64
    by_tests true s3 s4 s5 s6 s7 s8 o d f g h = absurd (cc)
    by_tests false true s4 s5 s6 s7 s8 o d f g h = absurd (cc)
    by_tests false false true s5 s6 s7 s8 o d f g h = absurd (cc)
    by_tests false false false true s6 s7 s8 o d f g h = absurd (cc)
    by_tests false false false false true s7 s8 o d f g h = absurd (cc)
    by_tests false false false false false true s8 o d f g h = absurd (cc)
    by_tests false false false false false false true o d f g h = absurd (cc)
    by_tests false false false false false false false true true f g h = absurd (cc)
    by_tests false false false false false false false false d f g h = absurd (cc)
    by_tests false false false false false false false true false f g h = grind (arith, nat_tests, f, l)
