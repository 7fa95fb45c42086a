-- The first broken rule of a part and of those behind it, from the first of the part alone.
use Rattle.std.proofs.Common.{◌≡◌, ℕ, ◌+◌, ◌-◌, ◌<◌, ◌≤◌, ◌⊎◌, inl, inr, List, [], ◌∷◌, ◌++◌, length, take, Some, None, Bool, true, false, not, nat_eq, refl, sym, ap, ◌∙◌, subst, arith}
use Rattle.std.specs.Prelude.{slice_index, slice_range, if◌then◌else◌}
use Rattle.std.proofs.lemmas.Bool.Decides.{nat_tests}
use Rattle.word_base.specs.declared.rule.Rule.{Rule}
use Rattle.word_base.specs.declared.rule.Rule.TheVariants.{K3, K4, K11, K12, K13, K14, K15}
use Rattle.word_base.specs.declared.rule.Refusal.{Refusal}
use Rattle.word_base.specs.Rules.{broken, refusal, first, comes_before}
use Rattle.word_base.proofs.Least as least
use Rattle.tpf_decode.specs.declared.chain.Extended.TheVariants.{Opcode}
use Rattle.tpf_decode.specs.Profiles.{Base}
use Rattle.tpf_decode.specs.Tokens.{opcode_of, length_of, follows}
use Rattle.tpf_decode.specs.Declarations.{is_known}
use Rattle.tpf_decode.specs.Refusals.{breaks, first_rule, chain_faults, is_wrong_length, saturates, has_wrong_sync, has_wrong_flags, head_tests, head_faults, is_custom, is_custom_data, instruction_faults}
use Rattle.tpf_decode.proofs.Order.{NotBefore, behind_place, by_rule, first_of_tests, stands_earlier}
use Rattle.tpf_decode.proofs.Chains.{chain_orderly}
use Rattle.tpf_decode.proofs.Ranges.{range_split, range_cons, range_none, length-range}
use Rattle.tpf_program.specs.Reading.{parts_faults}
use Rattle.tpf_program.specs.Faults.{part_size, body_faults, early_rule}
use Rattle.tpf_program.proofs.Behind.{parts_orderly}
use Rattle.tpf_program.proofs.Bounds.{IsWithin, head_rising, head_bounded, one_within}
use Rattle.tpf_program.proofs.Joined.{front_first, rest_first}
use Rattle.tpf_program.proofs.Reach.{part_and_rest, part_alone, body_orderly}
use Rattle.tpf_program.proofs.Ahead.{early_first, none_early}

-- The part has no length of its own, and is refused at its place; or what is refused stands in its words or at its end.
record HasLength (at : ℕ) (words : List ℕ) (token : ℕ) (r : Refusal) : Type 0 where
  size : part_size words ≡ length_of token
  some : 0 < length_of token
  fits : length_of token ≤ length words
  within : IsWithin (at + length_of token) r

stopped_at : (at token : ℕ) (words : List ℕ) (r : Refusal) → first (instruction_faults Base at (token ∷ words)) ≡ Some r
    → ((part_size (token ∷ words) ≡ 0) × (r.place ≡ at)) ⊎ HasLength at (token ∷ words) token r
stopped_at at token words r h = by_kind (is_custom_data token) refl
  where
    custom : (b : Bool) → b ≡ is_custom token words → is_custom_data token ≡ true → first (broken (not b) K13 at) ≡ Some r → (part_size (token ∷ words) ≡ 0) × (r.place ≡ at)
    custom true e c h = cc
    custom false e c h =
        let q : refusal K13 at ≡ r = cc in (
          ap (λ b. if b then (if is_custom token words then slice_index words 0 else 0) else if is_wrong_length (length words + 1) token then 0 else length_of token) c
              ∙ sym (ap (λ b. if b then slice_index words 0 else 0) e),
          sym (ap (λ x. x.place) q),
        )

    by_length : (b : Bool) → b ≡ is_wrong_length (length words + 1) token → is_custom_data token ≡ false → first (head_faults Base (parts_faults (opcode_of token)) at token words) ≡ Some r
        → ((part_size (token ∷ words) ≡ 0) × (r.place ≡ at)) ⊎ HasLength at (token ∷ words) token r
    by_length true e c h =
        let f : first (head_faults Base (parts_faults (opcode_of token)) at token words) ≡ Some (refusal K3 at) =
        first_of_tests 0 at (head_tests Base (length words + 1) token) (chain_faults Opcode (follows token) (parts_faults (opcode_of token)) (at + 1) (take (length_of token - 1) words)) (head_rising (length words + 1) token)
        (chain_orderly Opcode (follows token) (parts_faults (opcode_of token)) (parts_orderly (opcode_of token)) (take (length_of token - 1) words) (at + 1))
        ∙ sym (ap (λ b. by_rule (first_rule (breaks b K3 ∷ breaks (not (is_known Base (opcode_of token))) K4 ∷ breaks (saturates Base token) K12 ∷ breaks (has_wrong_sync token) K14 ∷ breaks (has_wrong_flags token) K15 ∷ [])) at
        (first (chain_faults Opcode (follows token) (parts_faults (opcode_of token)) (at + 1) (take (length_of token - 1) words)))) e) in
        let g : Some (refusal K3 at) ≡ Some r = sym f ∙ h in
        let q : refusal K3 at ≡ r = cc in
        inl (
          ap (λ b. if b then (if is_custom token words then slice_index words 0 else 0) else if is_wrong_length (length words + 1) token then 0 else length_of token) c
              ∙ sym (ap (λ b. if b then 0 else length_of token) e),
          sym (ap (λ x. x.place) q),
        )
    by_length false e c h =
        let some : 0 < length_of token = grind (arith, nat_tests) in
        let fits : length_of token ≤ length words + 1 = grind (arith, nat_tests) in
        let there = (least.first_some (head_faults Base (parts_faults (opcode_of token)) at token words) r h).is_broken in
        inr (record {
          size = ap (λ b. if b then (if is_custom token words then slice_index words 0 else 0) else if is_wrong_length (length words + 1) token then 0 else length_of token) c
              ∙ sym (ap (λ b. if b then 0 else length_of token) e);
          some = some;
          fits = omega (arith, fits);
          within = one_within (at + length_of token) (head_faults Base (parts_faults (opcode_of token)) at token words) there.0 r (head_bounded at token (opcode_of token) words some fits) there.1 there.2;
        })

    by_kind : (b : Bool) → is_custom_data token ≡ b → ((part_size (token ∷ words) ≡ 0) × (r.place ≡ at)) ⊎ HasLength at (token ∷ words) token r
    by_kind true c =
        inl (custom (is_custom token words) refl c (sym (ap (λ b. first (if b then broken (not (is_custom token words)) K13 at else head_faults Base (parts_faults (opcode_of token)) at token words)) c) ∙ h))
    by_kind false c =
        by_length (is_wrong_length (length words + 1) token) refl c
        (sym (ap (λ b. first (if b then broken (not (is_custom token words)) K13 at else head_faults Base (parts_faults (opcode_of token)) at token words)) c) ∙ h)

stopped_there : (words : List ℕ) (at n : ℕ) (r : Refusal) → at < n → n ≤ length words → first (instruction_faults Base at (slice_range words at n)) ≡ Some r
    → ((part_size (slice_range words at n) ≡ 0) × (r.place ≡ at)) ⊎ HasLength at (slice_range words at n) (slice_index words at) r
stopped_there words at n r h k f =
    let e = range_cons words at n h k in
    subst (λ l. ((part_size l ≡ 0) × (r.place ≡ at)) ⊎ HasLength at l (slice_index words at) r) (sym e)
    (stopped_at at (slice_index words at) (slice_range words (at + 1) n) r (sym (ap (λ l. first (instruction_faults Base at l)) e) ∙ f))

-- the part and those behind it, where it has a length
parts_there : (words : List ℕ) (at n : ℕ) (r : Refusal) → n ≤ length words → at < n → HasLength at (slice_range words at n) (slice_index words at) r
    → body_faults Base 0 at (slice_range words at n) ≡ instruction_faults Base at (slice_range words at n) ++ body_faults Base 0 (at + length_of (slice_index words at)) (slice_range words (at + length_of (slice_index words at)) n)
parts_there words at n r k h l =
    let end = at + length_of (slice_index words at) in
    let within : end ≤ n = omega (arith, l.fits, length-range words at n k) in
    let e = range_split words at end n (omega arith) within in
    let m : length (slice_range words at end) ≡ length_of (slice_index words at) = omega (arith, length-range words at end (omega arith)) in
    let s : part_size (slice_range words at end ++ slice_range words end n) ≡ length (slice_range words at end) = ap part_size (sym e) ∙ (l.size ∙ sym m) in
    ap (body_faults Base 0 at) e
    ∙ (part_and_rest (slice_range words at end) (slice_range words end n) at (omega (arith, m, l.some)) s
    ∙ (ap (λ x. instruction_faults Base at x ++ body_faults Base 0 (at + length (slice_range words at end)) (slice_range words end n)) (sym e)
    ∙ ap (λ x. instruction_faults Base at (slice_range words at n) ++ body_faults Base 0 (at + x) (slice_range words end n)) m))

-- the refusal of the part stays the first
pub stays_first : (words : List ℕ) (at n : ℕ) (r : Refusal) → at < n → n ≤ length words → Some r ≡ first (instruction_faults Base at (slice_range words at n))
    → (r.place ≡ at + length_of (slice_index words at) → at + length_of (slice_index words at) < n → early_rule (slice_range words (at + length_of (slice_index words at)) n) ≡ None)
    → first (body_faults Base 0 at (slice_range words at n)) ≡ Some r
unfolding body_faults
stays_first words at n r h k f early = by_kind (stopped_there words at n r h k (sym f))
  where
    end : ℕ
    end = at + length_of (slice_index words at)

    behind : IsWithin end r → end ≤ n → NotBefore r (body_faults Base 0 end (slice_range words end n))
    behind (phase, inl before) m =
        behind_place r.rule r.place (body_faults Base 0 end (slice_range words end n)) phase
        (stands_earlier (r.place + 1) end (body_faults Base 0 end (slice_range words end n)) (omega (arith, before)) (body_orderly 0 end (slice_range words end n)))
    behind (phase, inr (place, rule)) m = by_end (nat_eq end n) refl
      where
        by_end : (b : Bool) → b ≡ nat_eq end n → NotBefore r (body_faults Base 0 end (slice_range words end n))
        by_end true e =
            let q : end ≡ n = grind (arith, nat_tests) in
            subst (λ m. NotBefore r (body_faults Base 0 end (slice_range words end m))) q (subst (λ l. NotBefore r (body_faults Base 0 end l)) (sym (range_none words end)) tt)
        by_end false e =
            let q : end < n = grind (arith, nat_tests) in
            let s : refusal K11 end ≡ r = ap (λ x. refusal x end) (sym rule) ∙ ap (λ x. refusal r.rule x) (sym place) in
            subst (λ x. NotBefore x (body_faults Base 0 end (slice_range words end n))) s (none_early end (slice_range words end n) (early place q))

    by_kind : ((part_size (slice_range words at n) ≡ 0) × (r.place ≡ at)) ⊎ HasLength at (slice_range words at n) (slice_index words at) r → first (body_faults Base 0 at (slice_range words at n)) ≡ Some r
    by_kind (inl z) = ap first (part_alone (slice_range words at n) at z.0) ∙ sym f
    by_kind (inr l) =
        ap first (parts_there words at n r k h l)
        ∙ front_first (instruction_faults Base at (slice_range words at n)) (body_faults Base 0 end (slice_range words end n)) r (sym f) (behind l.within (omega (arith, l.fits, length-range words at n k)))

rules_early : (a b : Bool) (rule : Rule) → first_rule (breaks a K3 ∷ breaks b K4 ∷ []) ≡ Some rule → (rule ≡ K3) ⊎ (rule ≡ K4)
rules_early true b rule h = let e : K3 ≡ rule = cc in inl (sym e)
rules_early false true rule h = let e : K4 ≡ rule = cc in inr (sym e)
rules_early false false rule h = cc

early_is : (words : List ℕ) (rule : Rule) → early_rule words ≡ Some rule → (rule ≡ K3) ⊎ (rule ≡ K4)
early_is [] rule h = cc
early_is (token ∷ words) rule h = by_test (is_custom_data token) h
  where
    by_test : (b : Bool) → (if b then None else first_rule (breaks (is_wrong_length (length words + 1) token) K3 ∷ breaks (not (is_known Base (opcode_of token))) K4 ∷ [])) ≡ Some rule → (rule ≡ K3) ⊎ (rule ≡ K4)
    by_test true h = cc
    by_test false h = rules_early (is_wrong_length (length words + 1) token) (not (is_known Base (opcode_of token))) rule h

third_before : (end : ℕ) → comes_before (refusal K3 end) (refusal K11 end) ≡ true
third_before end = grind (arith, nat_tests)

fourth_before : (end : ℕ) → comes_before (refusal K4 end) (refusal K11 end) ≡ true
fourth_before end = grind (arith, nat_tests)

-- a rule of the next token comes before a missing word
pub next_first : (words : List ℕ) (at n : ℕ) (r : Refusal) (rule : Rule) → at < n → n ≤ length words → Some r ≡ first (instruction_faults Base at (slice_range words at n))
    → r.place ≡ at + length_of (slice_index words at) → early_rule (slice_range words (at + length_of (slice_index words at)) n) ≡ Some rule
    → first (body_faults Base 0 at (slice_range words at n)) ≡ Some (refusal rule (at + length_of (slice_index words at)))
next_first words at n r rule h k f place early = by_kind (stopped_there words at n r h k (sym f))
  where
    end : ℕ
    end = at + length_of (slice_index words at)

    before : (rule ≡ K3) ⊎ (rule ≡ K4) → comes_before (refusal rule end) (refusal K11 end) ≡ true
    before (inl e) = ap (λ x. comes_before (refusal x end) (refusal K11 end)) e ∙ third_before end
    before (inr e) = ap (λ x. comes_before (refusal x end) (refusal K11 end)) e ∙ fourth_before end

    missing : IsWithin end r → r ≡ refusal K11 end
    missing (phase, inl before) = absurd (omega (arith, before, place))
    missing (phase, inr (there, rule)) = ap (λ x. refusal x r.place) rule ∙ ap (λ x. refusal K11 x) there

    by_kind : ((part_size (slice_range words at n) ≡ 0) × (r.place ≡ at)) ⊎ HasLength at (slice_range words at n) (slice_index words at) r → first (body_faults Base 0 at (slice_range words at n)) ≡ Some (refusal rule end)
    by_kind (inl z) =
        let e : end ≡ at = sym place ∙ z.1 in
        early_first at (slice_range words at n) rule (subst (λ m. early_rule (slice_range words m n) ≡ Some rule) e early) ∙ ap (λ x. Some (refusal rule x)) (sym e)
    by_kind (inr l) =
        ap first (parts_there words at n r k h l)
        ∙ rest_first (instruction_faults Base at (slice_range words at n)) (body_faults Base 0 end (slice_range words end n)) r (refusal rule end) (sym f) (early_first end (slice_range words end n) rule early)
        (ap (comes_before (refusal rule end)) (missing l.within) ∙ before (early_is (slice_range words end n) rule early))
