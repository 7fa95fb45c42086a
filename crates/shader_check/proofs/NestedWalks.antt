-- The walk over the instructions: the first rule of the structure that is broken.
use Rattle.std.proofs.Common.{◌≡◌, ℕ, zero, suc, ◌+◌, ◌-◌, ◌<◌, ◌≤◌, ◌⊎◌, inl, inr, Bool, true, false, not, ◌&&◌, List, [], ◌∷◌, ◌++◌, length, drop, get_or, Option, Some, None, refl, sym, ap, ◌∙◌, subst, arith, length-append}
use Rattle.std.specs.Prelude.{slice_get, nat_eq, nat_lt, is_none, if◌then◌else◌}
use Rattle.std.proofs.lemmas.Bool.{cases_lt}
use Rattle.std.proofs.lemmas.Bool.Decides.{nat_tests}
use Rattle.std.proofs.lemmas.List.{append-nil, drop_all, get_or_append_left}
use Rattle.std.proofs.lemmas.Option.{slice_get_within}
use Rattle.word_base.specs.declared.rule.Refusal.{Refusal}
use Rattle.word_base.specs.declared.rule.Rule.{Rule}
use Rattle.word_base.specs.declared.rule.Rule.TheVariants.{S1, S2, S3, S4, S5, S6, S7, S8, S9, M3}
use Rattle.word_base.specs.Rules.{broken, first, order_of, refusal}
use Rattle.tpf_decode.specs.Profiles.{Base}
use Rattle.tpf_decode.specs.Opcodes.{meaning_of}
use Rattle.tpf_decode.specs.declared.meaning.Meaning.{Meaning}
use Rattle.tpf_decode.specs.declared.meaning.Meaning.TheVariants as meaning
use Rattle.tpf_program.specs.declared.instruction.Instruction.{Instruction}
use Rattle.tpf_program.specs.Cases.{previous_case}
use Rattle.tpf_program.specs.Ends.{Part, Opens, Closes, Within, part_of, opens, closes, has, means, is_opening}
use Rattle.tpf_program.specs.Nesting.{inner, is_return, nesting_refusals, walk_at, walk_by, walk_from, open_from, last_from, where_none}
use Rattle.tpf_program.specs.Program.{AreInOrder, Shader}
use Rattle.shader_check.specs.declared.constructs.Construct.{Construct}
use Rattle.shader_check.specs.declared.constructs.Nesting.{Nesting}
use Rattle.shader_check.specs.Nested.{openings, first_number, last_number, without_first, part_of_any, passed, construct, outer, outside, outermost_of, rule_within, rule_visited, is_behind, at_end, GoesOn, IsKept, IsPassed}
use Rattle.shader_check.specs.Things.{or_later}
use Rattle.shader_check.proofs.Least.{first_append, joined}
use Rattle.shader_check.proofs.NestedCounts.{o, c, openings_next, more_open, more_closed}
use Rattle.shader_check.proofs.NestedKept.{kept_next, kept_unknown}
use Rattle.shader_check.proofs.NestedRules.{Chain, chain_all, rules_at, case_again}
use Rattle.shader_check.proofs.NestedEnds.{last_is, late_open, one_left}
use Rattle.shader_check.proofs.Orders.{phase_of, Late, late_none, late_less, late_joined, first_wins, later_number, earlier_number, stays, yields}
use Rattle.shader_check.proofs.Walk.{at_index}

-- WHERE the rules of a walk stand
late_chain : (place n : ℕ) (xs : List Refusal) (found : Option Rule) → Chain place n xs found → Late 7 place (first xs)
late_chain place n xs None h = subst (Late 7 place) (sym h.first) (late_none 7 place)
late_chain place n xs (Some r) h =
    subst (Late 7 place) (sym h.first) (record { each = λ q e. let z : refusal r place ≡ q = cc in (sym (ap phase_of z) ∙ (h.above r refl).0, omega (arith, ap (λ x. x.place) z)) })

late_by : (code : List Instruction) (q : ℕ) (m : Option Meaning) (i : Instruction) → Late 7 i.place (first (walk_by Base code q m i))
late_by code q None i = late_none 7 i.place
late_by code q (Some m) i = late_chain i.place 1 (walk_at Base code q (inner Base code q) m i) _ (chain_all i.place _ _ _ _ _ _ _ _)

late_walk : (code : List Instruction) (low q : ℕ) (is : List Instruction) → ((n : ℕ) (i : Instruction) → slice_get is n ≡ Some i → low ≤ i.place) → Late 7 low (first (walk_from Base code q is))
late_walk code low q [] h = late_none 7 low
late_walk code low q (i ∷ is) h =
    subst (Late 7 low) (sym (first_append (walk_by Base code q (meaning_of Base i.code) i) (walk_from Base code (q + 1) is)))
    (late_joined 7 low _ _ (late_less 7 low i.place _ (h 0 i refl) (late_by code q (meaning_of Base i.code) i)) (late_walk code low (q + 1) is (λ n j e. h (suc n) j e)))

-- A RULE at the last instruction
last_rule : (r : Rule) → (order_of r).phase ≡ 7 → ((r ≡ M3) ⊎ ((at_end true r ≡ r) × ((order_of r).number ≤ 9)))
last_rule M3 h = inl refl
last_rule S1 h = inr (refl, omega arith)
last_rule S2 h = inr (refl, omega arith)
last_rule S3 h = inr (refl, omega arith)
last_rule S4 h = inr (refl, omega arith)
last_rule S5 h = inr (refl, omega arith)
last_rule S6 h = inr (refl, omega arith)
last_rule S7 h = inr (refl, omega arith)
last_rule S8 h = inr (refl, omega arith)
last_rule S9 h = inr (refl, omega arith)
last_rule r h = absurd (omega (arith, h))

opens_only : (s1 s3 s4 s5 s6 s7 s8 m d : Bool)
    → (if s1 then Some S1 else if s3 then Some S3 else if s4 then Some S4 else if s5 then Some S5 else if s6 then Some S6 else if s7 then Some S7 else if s8 then Some S8 else if m && d then Some M3 else None) ≡ Some M3
    → m ≡ true
opens_only true s3 s4 s5 s6 s7 s8 m d h = absurd (cc)
opens_only false true s4 s5 s6 s7 s8 m d h = absurd (cc)
opens_only false false true s5 s6 s7 s8 m d h = absurd (cc)
opens_only false false false true s6 s7 s8 m d h = absurd (cc)
opens_only false false false false true s7 s8 m d h = absurd (cc)
opens_only false false false false false true s8 m d h = absurd (cc)
opens_only false false false false false false true m d h = absurd (cc)
opens_only false false false false false false false true d h = refl
opens_only false false false false false false false false d h = absurd (cc)

no_return : (m : Meaning) → is_opening m ≡ true → is_return m ≡ false
no_return meaning.Return h = absurd (cc)
no_return m h = refl

-- what is known before the instruction q
pub record Walked (code : List Instruction) (q : ℕ) (nesting : Nesting) : Type 0 where
  pub kept : IsKept code q nesting
  pub matched : o code q ≡ c code q + length (openings code q)
  pub left : walk_from Base code 0 code ≡ walk_from Base code q (drop q code)

pub walk_start : (code : List Instruction) (nesting : Nesting) → nesting.around ≡ outside → nesting.outer.items ≡ [] → Walked code 0 nesting
walk_start code nesting h k = record { kept = record { around = h; outer = k }; matched = refl; left = refl }

module _ (code : List Instruction) (q : ℕ) (nesting : Nesting) (w : Walked code q nesting) (i : Instruction) (at : slice_get code q ≡ Some i) where
  one : walk_from Base code 0 code ≡ walk_by Base code q (meaning_of Base i.code) i ++ walk_from Base code (q + 1) (drop (q + 1) code)
  one = w.left ∙ ap (walk_from Base code q) (at_index code q i at)

  -- the rules that it breaks
  chain : (m : Meaning) → meaning_of Base i.code ≡ Some m
      → Chain i.place 1 (walk_at Base code q (inner Base code q) m i) (rule_visited nesting (previous_case Base code q) (Some m))
  chain m e =
      subst (Chain i.place 1 (walk_at Base code q (inner Base code q) m i))
      (ap (λ n. rule_within (construct code q (openings code q)) n (is_behind (first_number (openings code q)) (previous_case Base code q)) m) (ap (length {A = Construct}) (sym w.kept.outer))
      ∙ ap (λ x. rule_within x (length nesting.outer.items) (is_behind x.opening (previous_case Base code q)) m) (sym w.kept.around))
      (rules_at code q m i (is_behind (first_number (openings code q)) (previous_case Base code q)) (case_again code q i at m e w.matched))

  -- counts of what is open
  opened_more : (p : Part) → part_of_any (meaning_of Base i.code) ≡ p → (p ≡ Closes → openings code q ≡ [] → ⊥) → o code (q + 1) ≡ c code (q + 1) + length (openings code (q + 1))
  opened_more Opens h f =
      let x = more_open code q i at true (ap opens h) in
      let y = more_closed code q i at false (ap closes h) in
      let z : length (openings code (q + 1)) ≡ length (openings code q) + 1 = ap (length {A = ℕ}) (openings_next code q i at ∙ ap (λ p. passed p q (openings code q)) h) ∙ omega arith in
      omega (arith, w.matched, x, y, z)
  opened_more Within h f =
      let x = more_open code q i at false (ap opens h) in
      let y = more_closed code q i at false (ap closes h) in
      let z : length (openings code (q + 1)) ≡ length (openings code q) = ap (length {A = ℕ}) (openings_next code q i at ∙ ap (λ p. passed p q (openings code q)) h) in
      omega (arith, w.matched, x, y, z)
  opened_more Closes h f =
      let x = more_open code q i at false (ap opens h) in
      let y = more_closed code q i at true (ap closes h) in
      let z : length (openings code (q + 1)) ≡ length (without_first (openings code q)) = ap (length {A = ℕ}) (openings_next code q i at ∙ ap (λ p. passed p q (openings code q)) h) in
      let u = shorter (openings code q) (f refl) in
      omega (arith, w.matched, x, y, z, u)
    where
      shorter : (xs : List ℕ) → (xs ≡ [] → ⊥) → length (without_first xs) + 1 ≡ length xs
      shorter [] f = absurd (f refl)
      shorter (x ∷ xs) f = omega arith

  closes_some : (m : Meaning) → meaning_of Base i.code ≡ Some m → rule_visited nesting (previous_case Base code q) (Some m) ≡ None → part_of m ≡ Closes → openings code q ≡ [] → ⊥
  closes_some m e h k z =
      by_meaning m k (ap (λ x. rule_within x (length nesting.outer.items) (is_behind x.opening (previous_case Base code q)) m) (sym (w.kept.around ∙ ap (construct code q) z)) ∙ h)
    where
      by_meaning : (m : Meaning) → part_of m ≡ Closes → rule_within (construct code q []) (length nesting.outer.items) (is_behind None (previous_case Base code q)) m ≡ None → ⊥
      by_meaning meaning.EndIf k h = absurd (cc)
      by_meaning meaning.EndLoop k h = absurd (cc)
      by_meaning meaning.EndSwitch k h = absurd (cc)
      by_meaning meaning.If k h = absurd (cc)
      by_meaning meaning.Loop k h = absurd (cc)
      by_meaning meaning.Switch k h = absurd (cc)
      by_meaning m k h = absurd (cc)

  -- where it breaks none
  pub walk_more : (new : Nesting) → rule_visited nesting (previous_case Base code q) (meaning_of Base i.code) ≡ None → GoesOn nesting (meaning_of Base i.code) q new → Walked code (q + 1) new
  walk_more new h g = by_meaning (meaning_of Base i.code) refl h g
    where
      by_meaning : (m : Option Meaning) → meaning_of Base i.code ≡ m → rule_visited nesting (previous_case Base code q) m ≡ None → GoesOn nesting m q new → Walked code (q + 1) new
      by_meaning None e h g = record {
        kept = kept_unknown code q i at nesting new w.kept e g.0 g.1;
        matched = opened_more Within (ap part_of_any e) (λ k. absurd (cc));
        left = one ∙ ap (λ m. walk_by Base code q m i ++ walk_from Base code (q + 1) (drop (q + 1) code)) e;
      }
      by_meaning (Some m) e h g = record {
        kept = kept_next code q i at nesting new w.kept m e (length nesting.outer.items) (is_behind nesting.around.opening (previous_case Base code q)) h g.0 g.1;
        matched = opened_more (part_of m) (ap part_of_any e) (λ k. closes_some m e h k);
        left =
            one ∙ (ap (λ m. walk_by Base code q m i ++ walk_from Base code (q + 1) (drop (q + 1) code)) e
            ∙ ap (λ xs. xs ++ walk_from Base code (q + 1) (drop (q + 1) code)) ((chain m e).empty h));
      }

  -- where it breaks one
  module _ (p : Shader) (here : p.instructions ≡ code) (ordered : AreInOrder (λ i. i.place) p.words code) (rule : Rule) where
    after_it : (n : ℕ) (j : Instruction) → slice_get (drop (q + 1) code) n ≡ Some j → i.place + 1 ≤ j.place
    after_it n j k = let m = ordered.ascend q (q + 1 + n) i j (omega arith) at (sym (get_drop code (q + 1) n) ∙ k) in omega (arith, m)
      where
        get_drop : (xs : List Instruction) (m n : ℕ) → slice_get (drop m xs) n ≡ slice_get xs (m + n)
        get_drop xs zero n = let z : n ≡ zero + n = omega arith in ap (slice_get xs) z
        get_drop [] (suc m) n = refl
        get_drop (x ∷ xs) (suc m) n = let z : suc (m + n) ≡ suc m + n = omega arith in get_drop xs m n ∙ ap (slice_get (x ∷ xs)) z

    abbrev behind : List Refusal
    behind = walk_from Base code 0 code

    abbrev rest : List Refusal
    rest = last_from Base p.words code 0 code

    -- all rules, where the walk finds that one first
    whole : first behind ≡ Some (refusal rule i.place) → first (nesting_refusals Base p) ≡ joined (Some (refusal rule i.place)) (first rest)
    whole h =
        ap (λ is. first (walk_from Base is 0 is ++ where_none (walk_from Base is 0 is) (open_from Base is 0 is) ++ last_from Base p.words is 0 is)) here
        ∙ (first_append (behind ++ where_none behind (open_from Base code 0 code)) rest
        ∙ ap (λ x. joined x (first rest)) (ap first (no_more behind h (open_from Base code 0 code)) ∙ h))
      where
        no_more : (xs : List Refusal) → first xs ≡ Some (refusal rule i.place) → (ys : List Refusal) → (xs ++ where_none xs ys) ≡ xs
        no_more [] h ys = absurd (cc)
        no_more (x ∷ xs) h ys = append-nil (x ∷ xs)

    found_walk : (m : Meaning) → meaning_of Base i.code ≡ Some m → rule_visited nesting (previous_case Base code q) (Some m) ≡ Some rule
        → (first behind ≡ Some (refusal rule i.place)) × ((order_of rule).phase ≡ 7)
    found_walk m e h =
        let k = chain m e in
        let six = (k.above rule h).0 in (
          ap first (one ∙ ap (λ m. walk_by Base code q m i ++ walk_from Base code (q + 1) (drop (q + 1) code)) e)
              ∙ (first_append (walk_at Base code q (inner Base code q) m i) (walk_from Base code (q + 1) (drop (q + 1) code))
              ∙ (ap (λ x. joined x (first (walk_from Base code (q + 1) (drop (q + 1) code)))) (k.first ∙ ap (λ x. or_later x i.place None) h)
              ∙ first_wins 7 (refusal rule i.place) (first (walk_from Base code (q + 1) (drop (q + 1) code))) (omega arith) six (late_walk code (i.place + 1) (q + 1) (drop (q + 1) code) after_it))),
          six,
        )

    is_deep : (m : Meaning) → rule_visited nesting (previous_case Base code q) (Some m) ≡ Some M3 → is_opening m ≡ true
    is_deep m h = opens_only _ _ _ _ _ _ _ _ _ h

    last_of : (xs : List Instruction) (x : ℕ) → x < length xs → (j : Instruction) × (slice_get xs (length xs - 1) ≡ Some j)
    last_of [] x l = absurd (omega (arith, l))
    last_of (j ∷ []) x l = (j, refl)
    last_of (j ∷ k ∷ xs) x l =
        let r = last_of (k ∷ xs) 0 (omega arith) in
        let z : length (j ∷ k ∷ xs) - 1 ≡ suc (length (k ∷ xs) - 1) = omega arith in
        (r.0, ap (slice_get (j ∷ k ∷ xs)) z ∙ r.1)

    late_last : (b : Bool) (j : Instruction) → i.place < j.place → Late 7 (i.place + 1) (first (broken b S9 j.place))
    late_last false j l = late_none 7 (i.place + 1)
    late_last true j l = record { each = λ q e. let z : refusal S9 j.place ≡ q = cc in (sym (ap phase_of z), omega (arith, l, ap (λ x. x.place) z)) }

    at_last : (m : Meaning) → meaning_of Base i.code ≡ Some m → rule_visited nesting (previous_case Base code q) (Some m) ≡ Some rule → (order_of rule).phase ≡ 7 → (b : Bool)
        → means Base is_return i ≡ b → (d : Bool) → joined (Some (refusal rule i.place)) (first (broken (not (b && d)) S9 i.place)) ≡ Some (refusal (at_end true rule) i.place)
    at_last m e h six b k d = elim (last_rule rule six) [
      | inl z ↦
          let n : b ≡ false = sym k ∙ (ap (has is_return) e ∙ no_return m (is_deep m (h ∙ ap Some z))) in
          ap (λ b. joined (Some (refusal rule i.place)) (first (broken (not (b && d)) S9 i.place))) n
          ∙ (yields (refusal rule i.place) (refusal S9 i.place) (earlier_number (refusal rule i.place) (refusal S9 i.place) 7 (omega arith) six refl refl
          (let y : (order_of rule).number ≡ 10 = ap (λ r. (order_of r).number) z in omega (arith, y)))
          ∙ sym (ap (λ r. Some (refusal (at_end true r) i.place)) z))
      | inr z ↦ by_broken (not (b && d)) z.1 ∙ sym (ap (λ r. Some (refusal r i.place)) z.0)
    ]
      where
        by_broken : (b : Bool) → (order_of rule).number ≤ 9 → joined (Some (refusal rule i.place)) (first (broken b S9 i.place)) ≡ Some (refusal rule i.place)
        by_broken false l = refl
        by_broken true l = stays (refusal rule i.place) (refusal S9 i.place) (later_number (refusal rule i.place) (refusal S9 i.place) 7 (omega arith) six refl refl l)

    pub walk_stops : rule_visited nesting (previous_case Base code q) (meaning_of Base i.code) ≡ Some rule
        → Some (refusal (at_end (nat_eq (q + 1) (length code)) rule) i.place) ≡ first (nesting_refusals Base p)
    walk_stops h = by_meaning (meaning_of Base i.code) refl h
      where
        by_end : (m : Meaning) → meaning_of Base i.code ≡ Some m → rule_visited nesting (previous_case Base code q) (Some m) ≡ Some rule → (b : Bool) → nat_eq (q + 1) (length code) ≡ b
            → joined (Some (refusal rule i.place)) (first rest) ≡ Some (refusal (at_end b rule) i.place)
        by_end m e h true k =
            let l : q + 1 ≡ length code = grind (arith, nat_tests, k) in
            ap (λ x. joined (Some (refusal rule i.place)) (first x)) (last_is p.words code i q at l)
            ∙ at_last m e h (found_walk m e h).1 (means Base is_return i) refl (is_none (inner Base code q))
        by_end m e h false k =
            let s = slice_get_within code q i at in
            let r = last_of code q s in
            let u : length code - 1 + 1 ≡ length code = omega (arith, s) in
            let v : q < length code - 1 = grind (arith, nat_tests, k, s) in
            ap (λ x. joined (Some (refusal rule i.place)) (first x)) (last_is p.words code r.0 (length code - 1) r.1 u)
            ∙ first_wins 7 (refusal rule i.place) (first (broken (not (means Base is_return r.0 && is_none (inner Base code (length code - 1)))) S9 r.0.place)) (omega arith) (found_walk m e h).1
            (late_last _ r.0 (ordered.ascend q (length code - 1) i r.0 v at r.1))

        by_meaning : (m : Option Meaning) → meaning_of Base i.code ≡ m → rule_visited nesting (previous_case Base code q) m ≡ Some rule
            → Some (refusal (at_end (nat_eq (q + 1) (length code)) rule) i.place) ≡ first (nesting_refusals Base p)
        by_meaning None e h = absurd (cc)
        by_meaning (Some m) e h = sym (whole (found_walk m e h).0 ∙ by_end m e h (nat_eq (q + 1) (length code)) refl)

-- AT THE END
outermost_is : (code : List Instruction) (q : ℕ) (xs : List ℕ) → outermost_of (construct code q xs) (outer code q xs) ≡ last_number xs
outermost_is code q [] = refl
outermost_is code q (n ∷ []) = refl
outermost_is code q (n ∷ m ∷ rest) =
    let l = length-append (outer code q rest ++ construct code q rest ∷ []) (construct code q (m ∷ rest) ∷ []) in
    let k = length-append (outer code q rest) (construct code q rest ∷ []) in
    let b : nat_lt (length (outer code q (n ∷ m ∷ rest))) 2 ≡ false = grind (arith, nat_tests, l, k) in
    ap (λ b. if b then Some n else (get_or (outer code q (n ∷ m ∷ rest)) 1 outside).opening) b ∙ second m rest
  where
    second : (m : ℕ) (rest : List ℕ) → (get_or (outer code q (m ∷ rest) ++ construct code q (m ∷ rest) ∷ []) 1 outside).opening ≡ last_number (m ∷ rest)
    second m [] = refl
    second m (k ∷ rest) =
        let l = length-append (outer code q (k ∷ rest)) (construct code q (k ∷ rest) ∷ []) in
        let n = length-append (outer code q rest) (construct code q rest ∷ []) in
        ap (λ x. x.opening) (get_or_append_left (outer code q (m ∷ k ∷ rest)) (construct code q (m ∷ k ∷ rest) ∷ []) outside 1 (omega (arith, l, n))) ∙ second k rest

pub walk_ends : (code : List Instruction) (q : ℕ) (nesting : Nesting) → Walked code q nesting → q ≡ length code → (outermost : Option ℕ)
    → outermost ≡ outermost_of nesting.around nesting.outer.items → IsPassed code outermost
walk_ends code q nesting w e outermost h = record {
  walked = w.left ∙ ap (walk_from Base code q) (drop_all q code (omega (arith, e)));
  left =
      h ∙ (ap (λ x. outermost_of x nesting.outer.items) w.kept.around ∙ (ap (outermost_of (construct code q (openings code q))) w.kept.outer
      ∙ (outermost_is code q (openings code q) ∙ ap (λ n. last_number (openings code n)) e)));
}

-- ALL RULES, where the walk finds none
module _ (p : Shader) (walked : walk_from Base p.instructions 0 p.instructions ≡ []) where
  abbrev is : List Instruction
  is = p.instructions

  behind_walk : first (nesting_refusals Base p) ≡ joined (first (open_from Base is 0 is)) (first (last_from Base p.words is 0 is))
  behind_walk =
      ap (λ w. first (w ++ where_none w (open_from Base is 0 is) ++ last_from Base p.words is 0 is)) walked
      ∙ first_append (open_from Base is 0 is) (last_from Base p.words is 0 is)

  pub all_closed : open_from Base is 0 is ≡ [] → first (nesting_refusals Base p) ≡ first (last_from Base p.words is 0 is)
  all_closed h = behind_walk ∙ ap (λ x. joined (first x) (first (last_from Base p.words is 0 is))) h

  pub one_open : AreInOrder (λ i. i.place) p.words is → (n : ℕ) (j : Instruction) → last_number (openings is (length is)) ≡ Some n → slice_get is n ≡ Some j
      → first (nesting_refusals Base p) ≡ Some (refusal S2 j.place)
  one_open ordered n j h at =
      let s = slice_get_within is n j at in
      let r = last_of is n s in
      let u : length is - 1 + 1 ≡ length is = omega (arith, s) in
      behind_walk ∙ (ap (λ x. joined x (first (last_from Base p.words is 0 is))) (one_left is p.words ordered n j h at)
      ∙ (ap (λ x. joined (Some (refusal S2 j.place)) (first x)) (last_is p.words is r.0 (length is - 1) r.1 u)
      ∙ by_broken (not (means Base is_return r.0 && is_none (inner Base is (length is - 1)))) r.0 r.1 (cases_lt n (length is - 1))))
    where
      last_of : (xs : List Instruction) (x : ℕ) → x < length xs → (j : Instruction) × (slice_get xs (length xs - 1) ≡ Some j)
      last_of [] x l = absurd (omega (arith, l))
      last_of (j ∷ []) x l = (j, refl)
      last_of (j ∷ k ∷ xs) x l =
          let r = last_of (k ∷ xs) 0 (omega arith) in
          let z : length (j ∷ k ∷ xs) - 1 ≡ suc (length (k ∷ xs) - 1) = omega arith in
          (r.0, ap (slice_get (j ∷ k ∷ xs)) z ∙ r.1)

      by_broken : (b : Bool) (k : Instruction) → slice_get is (length is - 1) ≡ Some k → ((n < length is - 1) ⊎ (length is - 1 ≤ n))
          → joined (Some (refusal S2 j.place)) (first (broken b S9 k.place)) ≡ Some (refusal S2 j.place)
      by_broken false k e l = refl
      by_broken true k e (inl l) =
          first_wins 7 (refusal S2 j.place) (Some (refusal S9 k.place)) (omega arith) refl
          (record { each = λ q y. let z : refusal S9 k.place ≡ q = cc in (sym (ap phase_of z), let m = ordered.ascend n (length is - 1) j k l at e in omega (arith, m, ap (λ x. x.place) z)) })
      by_broken true k e (inr l) =
          let m : n ≡ length is - 1 = let s = slice_get_within is n j at in omega (arith, l, s) in
          let y : Some j ≡ Some k = sym at ∙ (ap (slice_get is) m ∙ e) in
          let z : j ≡ k = cc in
          stays (refusal S2 j.place) (refusal S9 k.place) (later_number (refusal S2 j.place) (refusal S9 k.place) 7 (omega arith) refl refl (ap (λ x. x.place) z) (omega arith))

-- all of them are rules of the structure
pub late_nesting : (p : Shader) → Late 7 0 (first (nesting_refusals Base p))
late_nesting p =
    let is = p.instructions in
    let w = walk_from Base is 0 is in
    let all : first (nesting_refusals Base p) ≡ joined (joined (first w) (first (where_none w (open_from Base is 0 is)))) (first (last_from Base p.words is 0 is)) =
    first_append (w ++ where_none w (open_from Base is 0 is)) (last_from Base p.words is 0 is)
    ∙ ap (λ x. joined x (first (last_from Base p.words is 0 is))) (first_append w (where_none w (open_from Base is 0 is))) in
    subst (Late 7 0) (sym all)
    (late_joined 7 0 _ _ (late_joined 7 0 _ _ (late_walk is 0 0 is (λ n i h. omega arith)) (late_where w (open_from Base is 0 is) (late_open is 0 0 is (λ n i h. omega arith))))
    (late_end 0 is))
  where
    late_where : (w os : List Refusal) → Late 7 0 (first os) → Late 7 0 (first (where_none w os))
    late_where [] os h = h
    late_where (r ∷ w) os h = late_none 7 0

    one_of : (place : ℕ) (b : Bool) → Late 7 0 (first (broken b S9 place))
    one_of place true = record { each = λ q e. let z : refusal S9 place ≡ q = cc in (sym (ap phase_of z), omega arith) }
    one_of place false = late_none 7 0

    late_end : (q : ℕ) (is : List Instruction) → Late 7 0 (first (last_from Base p.words p.instructions q is))
    late_end q [] = one_of p.words true
    late_end q (i ∷ []) = one_of i.place (not (means Base is_return i && is_none (inner Base p.instructions q)))
    late_end q (i ∷ j ∷ is) = late_end (q + 1) (j ∷ is)
