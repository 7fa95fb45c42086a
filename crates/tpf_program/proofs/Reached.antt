-- The rules of the places that are reached.
use Rattle.std.proofs.Common.{◌≡◌, ℕ, zero, suc, ◌+◌, ◌-◌, ◌<◌, ◌≤◌, ◌⊎◌, inl, inr, Bool, true, false, List, [], ◌∷◌, ◌++◌, length, take, drop, length-drop, refl, sym, ap, ◌∙◌, subst, arith, append-nil}
use Rattle.std.specs.Prelude.{Contains, slice_range, slice_index, nat_eq, is_some, if◌then◌else◌}
use Rattle.std.proofs.lemmas.Bool.{cases_lt}
use Rattle.std.proofs.lemmas.Bool.Decides.{nat_tests}
use Rattle.std.proofs.lemmas.List.{drop-drop, drop-take, length-take}
use Rattle.std.proofs.lemmas.List.Elements.{Contains-append_left, Contains-append_right, Contains-append_cases}
use Rattle.word_base.specs.declared.rule.Refusal.{Refusal}
use Rattle.word_base.specs.Rules.{first}
use Rattle.tpf_decode.specs.Profiles.{Profile}
use Rattle.tpf_decode.specs.Refusals.{header_faults, instruction_faults}
use Rattle.tpf_program.specs.Faults.{part_size, body_faults, program_faults, Leads, IsBrokenInside}

-- what is dropped of a range is not in the range from there
drop_more : (n : ℕ) (xs : List ℕ) → length xs ≤ n → drop n xs ≡ []
drop_more zero [] h = refl
drop_more zero (x ∷ xs) h = absurd (omega (arith, h))
drop_more (suc n) [] h = refl
drop_more (suc n) (x ∷ xs) h = drop_more n xs (omega (arith, h))

range_from : (words : List ℕ) (at n size : ℕ) → drop size (slice_range words at n) ≡ slice_range words (at + size) n
range_from words at n size = elim (cases_lt (n - at) size) [
  | inl b ↦ drop_more size (take (n - at) (drop at words)) (omega (arith, b, length-take (n - at) (drop at words)))
      ∙ ap (λ k. take k (drop (at + size) words)) (let e : 0 ≡ n - (at + size) = omega (arith, b) in e)
  | inr b ↦
      let e : n - at ≡ size + (n - (at + size)) = omega (arith, b) in
      ap (λ k. drop size (take k (drop at words))) e
      ∙ (drop-take size (n - (at + size)) (drop at words) ∙ ap (take (n - (at + size))) (drop-drop size at words))
]

-- the rules behind what is passed over
passed : (profile : Profile) (size at : ℕ) (words : List ℕ) → body_faults profile size at words ≡ body_faults profile 0 (at + size) (drop size words)
unfolding body_faults
passed profile zero at words = let e : at ≡ at + 0 = omega arith in ap (λ n. body_faults profile 0 n words) e
passed profile (suc size) at [] = refl
passed profile (suc size) at (w ∷ words) =
    let e : at + 1 + size ≡ at + suc size = omega arith in
    passed profile size (at + 1) words ∙ ap (λ n. body_faults profile 0 n (drop size words)) e

-- the rules of a part, and those behind it
behind : Profile → ℕ → ℕ → List ℕ → List Refusal
behind profile size at words = if nat_eq size 0 then [] else body_faults profile 0 (at + size) (drop size words)

by_part : (profile : Profile) (at w : ℕ) (words : List ℕ)
    → body_faults profile 0 at (w ∷ words) ≡ instruction_faults profile at (w ∷ words) ++ behind profile (part_size (w ∷ words)) at (w ∷ words)
unfolding body_faults behind
by_part profile at w words = ap (λ l. instruction_faults profile at (w ∷ words) ++ l) (by_size (part_size (w ∷ words)) (nat_eq (part_size (w ∷ words)) 0) refl)
  where
    by_size : (size : ℕ) (b : Bool) → nat_eq size 0 ≡ b
        → (if b then [] else body_faults profile (size - 1) (at + 1) words) ≡ (if b then [] else body_faults profile 0 (at + size) (drop size (w ∷ words)))
    by_size size true e = refl
    by_size size false e =
        let some : suc (size - 1) ≡ size = grind (arith, nat_tests, e) in
        let f : at + 1 + (size - 1) ≡ at + size = omega (arith, some) in
        passed profile (size - 1) (at + 1) words
        ∙ (ap (λ n. body_faults profile 0 n (drop (size - 1) words)) f ∙ ap (λ k. body_faults profile 0 (at + size) (drop k (w ∷ words))) some)

later : (profile : Profile) (size at : ℕ) (ws : List ℕ) (r : Refusal) → Contains (behind profile size at ws) r → (0 < size) × Contains (body_faults profile 0 (at + size) (drop size ws)) r
unfolding behind
later profile size at ws r h = by_test (nat_eq size 0) refl h
  where
    by_test : (b : Bool) → nat_eq size 0 ≡ b → Contains (if b then [] else body_faults profile 0 (at + size) (drop size ws)) r
        → (0 < size) × Contains (body_faults profile 0 (at + size) (drop size ws)) r
    by_test true e h = absurd (omega (arith, h.1))
    by_test false e h = (grind (arith, nat_tests, e), h)

later_there : (profile : Profile) (size at : ℕ) (ws : List ℕ) (r : Refusal) → 0 < size → Contains (body_faults profile 0 (at + size) (drop size ws)) r → Contains (behind profile size at ws) r
unfolding behind
later_there profile size at ws r l h =
    let some : nat_eq size 0 ≡ false = grind (arith, nat_tests, l) in
    subst (λ b. Contains (if b then [] else body_faults profile 0 (at + size) (drop size ws)) r) (sym some) h

-- FROM THE LIST to a place
record Found (profile : Profile) (words : List ℕ) (n at : ℕ) (r : Refusal) : Type 0 where
  place : ℕ
  inside : place < n
  parts : ℕ
  leads : Leads words n parts at place
  there : Contains (instruction_faults profile place (slice_range words place n)) r

nothing_in : {X : Type 0} (x : X) → Contains [] x → ⊥
nothing_in x h = omega (arith, h.1)

-- a place that is found behind a part
found_behind : (profile : Profile) (words : List ℕ) (n at size : ℕ) (r : Refusal) → 0 < size → size ≡ part_size (slice_range words at n) → Found profile words n (at + size) r
    → Found profile words n at r
found_behind profile words n at size r l e f = record {
  place = f.place;
  inside = f.inside;
  parts = suc f.parts;
  leads = (subst (λ k. 0 < k) e l, subst (λ k. Leads words n f.parts (at + k) f.place) e f.leads);
  there = f.there;
}

found_from : (profile : Profile) (words : List ℕ) (n : ℕ) (r : Refusal) (fuel at : ℕ) (ws : List ℕ) → ws ≡ slice_range words at n → length ws ≤ fuel
    → Contains (body_faults profile 0 at ws) r → Found profile words n at r
unfolding body_faults
found_from profile words n r fuel at [] e l h = absurd (nothing_in r h)
found_from profile words n r zero at (w ∷ ws) e l h = absurd (omega (arith, l))
found_from profile words n r (suc fuel) at (w ∷ ws) e l h =
    let size = part_size (w ∷ ws) in
    let inside : at < n = omega (arith, ap length e, length-take (n - at) (drop at words)) in
    elim (Contains-append_cases (instruction_faults profile at (w ∷ ws)) (behind profile size at (w ∷ ws)) r (subst (λ l. Contains l r) (by_part profile at w ws) h)) [
      | inl here ↦ record { place = at; inside = inside; parts = 0; leads = refl; there = subst (λ l. Contains (instruction_faults profile at l) r) e here }
      | inr more ↦
          let m = later profile size at (w ∷ ws) r more in
          let f : drop size (w ∷ ws) ≡ slice_range words (at + size) n = ap (drop size) e ∙ range_from words at n size in
          let fewer : length (drop size (w ∷ ws)) ≤ fuel = omega (arith, l, m.0, length-drop size (w ∷ ws)) in
          found_behind profile words n at size r m.0 (ap part_size e) (found_from profile words n r fuel (at + size) (drop size (w ∷ ws)) f fewer m.1)
    ]

-- FROM A PLACE to the list
here : (profile : Profile) (place : ℕ) (r : Refusal) (ws : List ℕ) → Contains (instruction_faults profile place ws) r → Contains (body_faults profile 0 place ws) r
unfolding body_faults
here profile place r [] there = absurd (nothing_in r there)
here profile place r (w ∷ ws) there =
    subst (λ l. Contains l r) (sym (by_part profile place w ws))
    (Contains-append_left (instruction_faults profile place (w ∷ ws)) (behind profile (part_size (w ∷ ws)) place (w ∷ ws)) r there)

onward : (profile : Profile) (at : ℕ) (r : Refusal) (ws : List ℕ) → 0 < part_size ws → Contains (body_faults profile 0 (at + part_size ws) (drop (part_size ws) ws)) r
    → Contains (body_faults profile 0 at ws) r
onward profile at r [] l h = absurd (omega (arith, l))
onward profile at r (w ∷ ws) l h =
    let size = part_size (w ∷ ws) in
    subst (λ l. Contains l r) (sym (by_part profile at w ws))
    (Contains-append_right (instruction_faults profile at (w ∷ ws)) (behind profile size at (w ∷ ws)) r (later_there profile size at (w ∷ ws) r l h))

back_from : (profile : Profile) (words : List ℕ) (n : ℕ) (r : Refusal) (parts at place : ℕ) → Leads words n parts at place
    → Contains (instruction_faults profile place (slice_range words place n)) r → Contains (body_faults profile 0 at (slice_range words at n)) r
back_from profile words n r zero at place h there =
    subst (λ k. Contains (body_faults profile 0 k (slice_range words k n)) r) (sym h) (here profile place r (slice_range words place n) there)
back_from profile words n r (suc parts) at place h there =
    let ws = slice_range words at n in
    let size = part_size ws in
    let rest = back_from profile words n r parts (at + size) place h.1 there in
    onward profile at r ws h.0 (subst (λ l. Contains (body_faults profile 0 (at + size) l) r) (sym (range_from words at n size)) rest)

-- THE WHOLE
pub told : (profile : Profile) (words : List ℕ) (r : Refusal) → Contains (program_faults profile words) r → Contains (header_faults words) r ⊎ IsBrokenInside profile words r
unfolding program_faults
told profile words r h = by_head (header_faults words) refl h
  where
    by_head : (head : List Refusal) → head ≡ header_faults words
        → Contains (head ++ (if is_some (first head) then [] else body_faults profile 0 2 (slice_range words 2 (slice_index words 1)))) r
        → Contains (header_faults words) r ⊎ IsBrokenInside profile words r
    by_head [] e h =
        let f = found_from profile words (slice_index words 1) r (length (slice_range words 2 (slice_index words 1))) 2 (slice_range words 2 (slice_index words 1)) refl (omega arith) h in
        inr (record { head = sym e; place = f.place; reached = record { inside = f.inside; parts = f.parts; leads = f.leads }; is_broken = f.there })
    by_head (a ∷ head) e h = inl (subst (λ l. Contains l r) (append-nil (a ∷ head) ∙ e) h)

pub found : (profile : Profile) (words : List ℕ) (r : Refusal) → Contains (header_faults words) r ⊎ IsBrokenInside profile words r → Contains (program_faults profile words) r
unfolding program_faults
found profile words r (inl h) = Contains-append_left (header_faults words) _ r h
found profile words r (inr b) =
    let h = back_from profile words (slice_index words 1) r b.reached.parts 2 b.place b.reached.leads b.is_broken in
    subst (λ l. Contains (l ++ (if is_some (first l) then [] else body_faults profile 0 2 (slice_range words 2 (slice_index words 1)))) r) (sym b.head) h
