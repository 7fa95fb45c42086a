-- Cases of a list of instructions, and of one with an instruction more.
use Rattle.std.proofs.Common.{◌≡◌, ℕ, zero, suc, ◌-◌, ◌<◌, ◌≤◌, List, [], ◌∷◌, ◌++◌, length, Bool, true, false, Option, Some, None, refl, sym, ap, ◌∙◌, arith, length-append, inl, inr, ◌⊎◌}
use Rattle.std.specs.Prelude.{slice_get, nat_eq, ◌&&◌, if◌then◌else◌, option_and_then}
use Rattle.std.proofs.lemmas.List.{take-append-le}
use Rattle.std.proofs.lemmas.Bool.Decides.{nat_tests}
use Rattle.tpf_decode.specs.Profiles.{Base}
use Rattle.tpf_program.specs.declared.instruction.Instruction.{Instruction}
use Rattle.tpf_program.specs.Ends.{has, means, count, last_below, is_opening, is_closing, is_case_of}
use Rattle.tpf_program.specs.Cases.{level, is_case_at, last_case, is_any_case, case_before_at, previous_case}
use Rattle.tpf_program.specs.Kept.{ArePrevious}

pub get_front : {X : Type 0} (xs ys : List X) (n : ℕ) → n < length xs → slice_get (xs ++ ys) n ≡ slice_get xs n
get_front [] ys n h = absurd (omega (arith, h))
get_front (x ∷ xs) ys zero h = refl
get_front (x ∷ xs) ys (suc n) h = get_front xs ys n (omega (arith, h))

pub get_last : {X : Type 0} (xs : List X) (x : X) → slice_get (xs ++ x ∷ []) (length xs) ≡ Some x
get_last [] x = refl
get_last (y ∷ xs) x = get_last xs x

-- what stands in a list with one more stands in the list, or is the last
pub last_or : {X : Type 0} (xs : List X) (last x : X) (i : ℕ) → slice_get (xs ++ last ∷ []) i ≡ Some x → (slice_get xs i ≡ Some x) ⊎ ((i ≡ length xs) × (last ≡ x))
last_or [] last x zero e = inr (refl, cc)
last_or [] last x (suc i) e = cc
last_or (y ∷ xs) last x zero e = inl e
last_or (y ∷ xs) last x (suc i) e = next (last_or xs last x i e)
  where
    next : (slice_get xs i ≡ Some x) ⊎ ((i ≡ length xs) × (last ≡ x)) → (slice_get (y ∷ xs) (suc i) ≡ Some x) ⊎ ((suc i ≡ length (y ∷ xs)) × (last ≡ x))
    next (inl h) = inl h
    next (inr h) = inr (omega (arith, h.0), h.1)

pub last_same : (f g : ℕ → Bool) (n : ℕ) → ((k : ℕ) → k < n → f k ≡ g k) → last_below f n ≡ last_below g n
last_same f g zero h = refl
last_same f g (suc n) h =
    ap (λ b. if b then Some n else last_below f n) (h n (omega arith)) ∙ ap (λ o. if g n then Some n else o) (last_same f g n (λ k l. h k (omega (arith, l))))

-- IN FRONT OF ONE MORE nothing changes.
module _ (code : List Instruction) (x : Instruction) where
  pub level_front : (n : ℕ) → n ≤ length code → level Base (code ++ x ∷ []) n ≡ level Base code n
  level_front n h = ap (λ l. count Base is_opening l - count Base is_closing l) (take-append-le n code (x ∷ []) h)

  pub case_front : (w depth n : ℕ) → n < length code → is_case_at Base (code ++ x ∷ []) w depth n ≡ is_case_at Base code w depth n
  case_front w depth n h =
      ap (λ o. has (is_case_of Base w) o && nat_eq (level Base (code ++ x ∷ []) n) depth) (get_front code (x ∷ []) n h)
      ∙ ap (λ l. has (is_case_of Base w) (slice_get code n) && nat_eq l depth) (level_front n (omega (arith, h)))

  pub last_front : (w depth n : ℕ) → n ≤ length code → last_case Base (code ++ x ∷ []) w depth n ≡ last_case Base code w depth n
  last_front w depth n h = last_same (is_case_at Base (code ++ x ∷ []) w depth) (is_case_at Base code w depth) n (λ k l. case_front w depth k (omega (arith, l, h)))

  -- the instruction more is a case of that value at that level
  abbrev pub is_next : ℕ → ℕ → Bool
  is_next w depth = is_case_of Base w x && nat_eq (level Base code (length code)) depth

  next_is : (w depth : ℕ) → is_case_at Base (code ++ x ∷ []) w depth (length code) ≡ is_next w depth
  next_is w depth =
      ap (λ o. has (is_case_of Base w) o && nat_eq (level Base (code ++ x ∷ []) (length code)) depth) (get_last code x)
      ∙ ap (λ l. is_case_of Base w x && nat_eq l depth) (level_front (length code) (omega arith))

  pub last_next : (w depth : ℕ) → last_case Base (code ++ x ∷ []) w depth (length (code ++ x ∷ [])) ≡ (if is_next w depth then Some (length code) else last_case Base code w depth (length code))
  last_next w depth =
      let e : length (code ++ x ∷ []) ≡ suc (length code) = omega (arith, length-append code (x ∷ [])) in
      ap (last_case Base (code ++ x ∷ []) w depth) e
      ∙ (ap (λ b. if b then Some (length code) else last_case Base (code ++ x ∷ []) w depth (length code)) (next_is w depth)
      ∙ ap (λ o. if is_next w depth then Some (length code) else o) (last_front w depth (length code) (omega arith)))

  before_front : (q : ℕ) (i : Instruction) → q ≤ length code → case_before_at Base (code ++ x ∷ []) q i ≡ case_before_at Base code q i
  before_front q i h =
      ap (λ l. if means Base is_any_case i then last_case Base (code ++ x ∷ []) i.o0.x l q else None) (level_front q h)
      ∙ ap (λ o. if means Base is_any_case i then o else None) (last_front i.o0.x (level Base code q) q h)

  pub previous_front : (q : ℕ) → q < length code → previous_case Base (code ++ x ∷ []) q ≡ previous_case Base code q
  previous_front q h = ap (option_and_then (case_before_at Base (code ++ x ∷ []) q)) (get_front code (x ∷ []) q h) ∙ by_one (slice_get code q)
    where
      by_one : (o : Option Instruction) → option_and_then (case_before_at Base (code ++ x ∷ []) q) o ≡ option_and_then (case_before_at Base code q) o
      by_one None = refl
      by_one (Some i) = before_front q i (omega (arith, h))

  pub previous_last : previous_case Base (code ++ x ∷ []) (length code) ≡ case_before_at Base code (length code) x
  previous_last = ap (option_and_then (case_before_at Base (code ++ x ∷ []) (length code))) (get_last code x) ∙ before_front (length code) x (omega arith)

  pub previous_more : (previous : List (Option ℕ)) (o : Option ℕ) → ArePrevious code previous → o ≡ case_before_at Base code (length code) x → ArePrevious (code ++ x ∷ []) (previous ++ o ∷ [])
  previous_more previous o p e = record {
    each = λ q h. at q h (omega (arith, h, length-append code (x ∷ [])));
    all = omega (arith, p.all, length-append previous (o ∷ []), length-append code (x ∷ []));
  } where
    at : (q : ℕ) → q < length (code ++ x ∷ []) → q ≤ length code → slice_get (previous ++ o ∷ []) q ≡ Some (previous_case Base (code ++ x ∷ []) q)
    at q h k = by_place (nat_eq q (length code)) refl
      where
        here : q ≡ length previous → q ≡ length code → slice_get (previous ++ o ∷ []) q ≡ Some (previous_case Base (code ++ x ∷ []) q)
        here a b = ap (slice_get (previous ++ o ∷ [])) a ∙ (get_last previous o ∙ ap Some (e ∙ (sym previous_last ∙ ap (previous_case Base (code ++ x ∷ [])) (sym b))))

        by_place : (b : Bool) → nat_eq q (length code) ≡ b → slice_get (previous ++ o ∷ []) q ≡ Some (previous_case Base (code ++ x ∷ []) q)
        by_place true t =
            let c : q ≡ length code = grind (arith, nat_tests, t) in
            here (omega (arith, c, p.all)) c
        by_place false t =
            let c : q < length code = grind (arith, nat_tests, t, k) in
            get_front previous (o ∷ []) q (omega (arith, c, p.all)) ∙ (p.each q c ∙ ap Some (sym (previous_front q c)))
