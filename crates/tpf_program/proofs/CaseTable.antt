-- The table of the last cases, with a case more.
use Rattle.std.proofs.Common.{◌≡◌, ℕ, zero, suc, ◌+◌, ◌-◌, ◌<◌, ◌≤◌, List, [], ◌∷◌, ◌++◌, length, Bool, true, false, Option, Some, None, refl, sym, ap, ◌∙◌, arith, length-append, inl, inr, ◌⊎◌}
use Rattle.std.specs.Prelude.{slice_get, slice_set, nat_eq, ◌&&◌, if◌then◌else◌, Contains}
use Rattle.std.proofs.lemmas.Bool.Decides.{nat_tests}
use Rattle.std.proofs.lemmas.List.Elements.{Contains-append_left, Contains-append_right}
use Rattle.std.proofs.Math.Seq.{take-length}
use Rattle.std.proofs.lemmas.List.Sums.{sum_by_push, sum_by-cons}
use Rattle.std.proofs.lemmas.Option.{slice_get_within, get_or_from_slice_get}
use Rattle.node_pool.specs.Keys.{AreDistinct}
use Rattle.node_pool.specs.declared.key.Key.{Key}
use Rattle.tpf_decode.specs.Profiles.{Base}
use Rattle.tpf_decode.specs.Opcodes.{meaning_of}
use Rattle.tpf_decode.specs.declared.meaning.Meaning.{Meaning}
use Rattle.tpf_decode.specs.declared.meaning.Meaning.TheVariants.{If, Loop, Switch, Case, EndIf, EndLoop, EndSwitch}
use Rattle.tpf_program.specs.declared.instruction.Instruction.{Instruction}
use Rattle.tpf_program.specs.Ends.{has, means, count, is_opening, is_closing, is_case}
use Rattle.tpf_program.specs.Cases.{level, last_case, is_any_case, case_before_at}
use Rattle.tpf_program.specs.Steps.{step_of}
use Rattle.tpf_program.specs.declared.cases.Step.TheVariants as step
use Rattle.tpf_program.specs.Kept.{AreLast}
use Rattle.tpf_program.proofs.CaseLists.{get_front, get_last, last_or, is_next, last_next}
use Rattle.tpf_program.proofs.Truths.{both}

-- a list with another item in a place
pub set_same : {X : Type 0} (xs : List X) (k : ℕ) (x : X) → k < length xs → slice_get (slice_set xs k x) k ≡ Some x
set_same [] k x h = absurd (omega (arith, h))
set_same (y ∷ xs) zero x h = refl
set_same (y ∷ xs) (suc k) x h = set_same xs k x (omega (arith, h))

pub set_other : {X : Type 0} (xs : List X) (k j : ℕ) (x : X) → (j ≡ k → ⊥) → slice_get (slice_set xs k x) j ≡ slice_get xs j
set_other [] k j x h = refl
set_other (y ∷ xs) zero zero x h = absurd (h refl)
set_other (y ∷ xs) zero (suc j) x h = refl
set_other (y ∷ xs) (suc k) zero x h = refl
set_other (y ∷ xs) (suc k) (suc j) x h = set_other xs k j x (λ e. h (omega (arith, e)))

pub set_length : {X : Type 0} (xs : List X) (k : ℕ) (x : X) → length (slice_set xs k x) ≡ length xs
set_length [] k x = refl
set_length (y ∷ xs) zero x = refl
set_length (y ∷ xs) (suc k) x = ap suc (set_length xs k x)

there : (xs : List Key) (i : ℕ) (x : Key) → slice_get xs i ≡ Some x → Contains xs x
there xs i x e = (i, slice_get_within xs i x e, get_or_from_slice_get xs i x x e)

-- A test of a meaning: what is no case is a case of no value, and a case is one of its own.
no_case : (w l : ℕ) (o : Option Meaning) → has is_any_case o ≡ false → has (is_case w l) o ≡ false
no_case w l None h = refl
no_case w l (Some Case) h = cc
no_case w l (Some other) h = refl

of_value : (w l : ℕ) (o : Option Meaning) → has is_any_case o ≡ true → has (is_case w l) o ≡ nat_eq l w
of_value w l None h = cc
of_value w l (Some Case) h = refl
of_value w l (Some other) h = cc

key_is : (a b : Key) → a.kind ≡ b.kind → a.number ≡ b.number → a ≡ b
key_is a b k n = fields a.kind a.number k n
  where
    fields : (kind number : ℕ) → kind ≡ b.kind → number ≡ b.number → record { kind = kind; number = number } ≡ b
    fields kind number k n = rw (k, n) refl

-- AN INSTRUCTION MORE in a count.
pub counted : (sort : Meaning → Bool) (code : List Instruction) (x : Instruction) → means Base sort x ≡ true → count Base sort code + 1 ≡ count Base sort (code ++ x ∷ [])
counted sort code x h = sym (sum_by_push (λ i. if means Base sort i then 1 else 0) code x ∙ ap (λ b. count Base sort code + (if b then 1 else 0)) h)

pub not_counted : (sort : Meaning → Bool) (code : List Instruction) (x : Instruction) → means Base sort x ≡ false → count Base sort code ≡ count Base sort (code ++ x ∷ [])
not_counted sort code x h = sym (sum_by_push (λ i. if means Base sort i then 1 else 0) code x ∙ (ap (λ b. count Base sort code + (if b then 1 else 0)) h ∙ omega arith))

pub few_counted : (sort : Meaning → Bool) (code : List Instruction) → count Base sort code ≤ length code
few_counted sort [] = omega arith
few_counted sort (i ∷ code) = more (means Base sort i) refl (few_counted sort code)
  where
    more : (b : Bool) → means Base sort i ≡ b → count Base sort code ≤ length code → count Base sort (i ∷ code) ≤ length (i ∷ code)
    more b e h =
        let f : count Base sort (i ∷ code) ≡ (if b then 1 else 0) + count Base sort code =
        sum_by-cons (λ i. if means Base sort i then 1 else 0) i code ∙ ap (λ t. (if t then 1 else 0) + count Base sort code) e in
        omega (arith, f, h, small b)
      where
        small : (b : Bool) → (if b then 1 else 0) ≤ 1
        small true = omega arith
        small false = omega arith

module _ (code : List Instruction) (x : Instruction) (keys : List Key) (last : List ℕ) (t : AreLast code keys last) where
  pub without_case : means Base is_any_case x ≡ false → AreLast (code ++ x ∷ []) keys last
  without_case h = record {
    known = λ k key e. t.known k key e ∙ sym (same key);
    others = λ key a. same key ∙ t.others key a;
    same = t.same;
    few = omega (arith, t.few, not_counted is_any_case code x h);
  } where
    same : (key : Key) → last_case Base (code ++ x ∷ []) key.number key.kind (length (code ++ x ∷ [])) ≡ last_case Base code key.number key.kind (length code)
    same key =
        last_next code x key.number key.kind
        ∙ ap (λ b. if b && nat_eq (level Base code (length code)) key.kind then Some (length code) else last_case Base code key.number key.kind (length code))
        (no_case key.number x.o0.x (meaning_of Base x.code) h)

  -- the case more has the key
  module _ (own : Key) (is : means Base is_any_case x ≡ true) (kind : own.kind ≡ level Base code (length code)) (number : own.number ≡ x.o0.x) where
    test_is : (key : Key) → is_next code x key.number key.kind ≡ (nat_eq own.number key.number && nat_eq own.kind key.kind)
    test_is key =
        ap (λ b. b && nat_eq (level Base code (length code)) key.kind) (of_value key.number x.o0.x (meaning_of Base x.code) is)
        ∙ (ap (λ l. nat_eq x.o0.x key.number && nat_eq l key.kind) (sym kind) ∙ ap (λ w. nat_eq w key.number && nat_eq own.kind key.kind) (sym number))

    abbrev last_of : Key → Option ℕ
    last_of key = last_case Base (code ++ x ∷ []) key.number key.kind (length (code ++ x ∷ []))

    now : (key : Key) → last_of key ≡ (if nat_eq own.number key.number && nat_eq own.kind key.kind then Some (length code) else last_case Base code key.number key.kind (length code))
    now key =
        last_next code x key.number key.kind
        ∙ ap (λ b. if b then Some (length code) else last_case Base code key.number key.kind (length code)) (test_is key)

    own_now : last_of own ≡ Some (length code)
    own_now =
        let a : nat_eq own.number own.number ≡ true = grind (arith, nat_tests) in
        let b : nat_eq own.kind own.kind ≡ true = grind (arith, nat_tests) in
        now own ∙ ap (λ t. if t && nat_eq own.kind own.kind then Some (length code) else last_case Base code own.number own.kind (length code)) a
        ∙ ap (λ t. if t then Some (length code) else last_case Base code own.number own.kind (length code)) b

    -- another key, or the same
    other_now : (key : Key) → (own ≡ key → ⊥) → last_of key ≡ last_case Base code key.number key.kind (length code)
    other_now key differs = now key ∙ ap (λ t. if t then Some (length code) else last_case Base code key.number key.kind (length code)) (unlike (nat_eq own.number key.number && nat_eq own.kind key.kind) refl)
      where
        unlike : (b : Bool) → (nat_eq own.number key.number && nat_eq own.kind key.kind) ≡ b → b ≡ false
        unlike false e = refl
        unlike true e =
            let s = both (nat_eq own.number key.number) (nat_eq own.kind key.kind) e in
            absurd (differs (key_is own key (grind (arith, nat_tests, s.1)) (grind (arith, nat_tests, s.0))))

    pub found : (k : ℕ) → AreDistinct keys → slice_get keys k ≡ Some own → AreLast (code ++ x ∷ []) keys (slice_set last k (length code))
    found k distinct here = record {
      known = λ j key e. at j key e (nat_eq j k) refl;
      others = λ key a. other_now key (λ e. a (there keys k key (here ∙ ap Some e))) ∙ t.others key a;
      same = set_length last k (length code) ∙ t.same;
      few = omega (arith, t.few, counted is_any_case code x is);
    } where
      at : (j : ℕ) (key : Key) → slice_get keys j ≡ Some key → (b : Bool) → nat_eq j k ≡ b → slice_get (slice_set last k (length code)) j ≡ last_of key
      at j key e true s =
          let i : j ≡ k = grind (arith, nat_tests, s) in
          let o : own ≡ key = cc in
          ap (slice_get (slice_set last k (length code))) i
          ∙ (set_same last k (length code) (omega (arith, slice_get_within keys k own here, t.same)) ∙ (sym own_now ∙ ap last_of o))
      at j key e false s =
          let n : j ≡ k → ⊥ = λ i. let z : nat_eq j k ≡ true = grind (arith, nat_tests, i) in cc in
          set_other last k j (length code) n ∙ (t.known j key e ∙ sym (other_now key (λ o. n (distinct j k key e (here ∙ ap Some o)))))

    pub added : (Contains keys own → ⊥) → AreLast (code ++ x ∷ []) (keys ++ own ∷ []) (last ++ length code ∷ [])
    added absent = record {
      known = λ k key e. at k key (last_or keys own key k e);
      others = λ key a. other_now key (λ o. a (Contains-append_right keys (own ∷ []) key (0, omega arith, o)))
          ∙ t.others key (λ c. a (Contains-append_left keys (own ∷ []) key c));
      same = omega (arith, t.same, length-append keys (own ∷ []), length-append last (length code ∷ []));
      few = omega (arith, t.few, length-append keys (own ∷ []), counted is_any_case code x is);
    } where
      at : (k : ℕ) (key : Key) → (slice_get keys k ≡ Some key) ⊎ ((k ≡ length keys) × (own ≡ key)) → slice_get (last ++ length code ∷ []) k ≡ last_of key
      at k key (inl e) =
          get_front last (length code ∷ []) k (omega (arith, slice_get_within keys k key e, t.same))
          ∙ (t.known k key e ∙ sym (other_now key (λ o. absent (there keys k own (e ∙ ap Some (sym o))))))
      at k key (inr e) =
          ap (slice_get (last ++ length code ∷ [])) (e.0 ∙ sym t.same) ∙ (get_last last (length code) ∙ (sym own_now ∙ ap last_of e.1))

-- WHAT AN INSTRUCTION IS adds to the counts.
pub is_case_step : (o : Option Meaning) → step.Case ≡ step_of o → (has is_opening o ≡ false) × (has is_closing o ≡ false) × (has is_any_case o ≡ true)
is_case_step None e = cc
is_case_step (Some Case) e = (refl, refl, refl)
is_case_step (Some other) e = cc

pub opens_step : (o : Option Meaning) → step.Opens ≡ step_of o → (has is_opening o ≡ true) × (has is_closing o ≡ false) × (has is_any_case o ≡ false)
opens_step None e = cc
opens_step (Some If) e = (refl, refl, refl)
opens_step (Some Loop) e = (refl, refl, refl)
opens_step (Some Switch) e = (refl, refl, refl)
opens_step (Some other) e = cc

pub closes_step : (o : Option Meaning) → step.Closes ≡ step_of o → (has is_opening o ≡ false) × (has is_closing o ≡ true) × (has is_any_case o ≡ false)
closes_step None e = cc
closes_step (Some EndIf) e = (refl, refl, refl)
closes_step (Some EndLoop) e = (refl, refl, refl)
closes_step (Some EndSwitch) e = (refl, refl, refl)
closes_step (Some other) e = cc

pub other_step : (o : Option Meaning) → step.Other ≡ step_of o → (has is_opening o ≡ false) × (has is_closing o ≡ false) × (has is_any_case o ≡ false)
other_step None e = (refl, refl, refl)
other_step (Some Case) e = cc
other_step (Some If) e = cc
other_step (Some Loop) e = cc
other_step (Some Switch) e = cc
other_step (Some EndIf) e = cc
other_step (Some EndLoop) e = cc
other_step (Some EndSwitch) e = cc
other_step (Some other) e = (refl, refl, refl)

-- the level behind all of them
pub level_behind : (code : List Instruction) → level Base code (length code) ≡ count Base is_opening code - count Base is_closing code
level_behind code = ap (λ l. count Base is_opening l - count Base is_closing l) (take-length code)

pub no_case_before : (code : List Instruction) (x : Instruction) (q : ℕ) → means Base is_any_case x ≡ false → None ≡ case_before_at Base code q x
no_case_before code x q h = sym (ap (λ b. if b then last_case Base code x.o0.x (level Base code q) q else None) h)

pub case_is_before : (code : List Instruction) (x : Instruction) (q : ℕ) → means Base is_any_case x ≡ true → last_case Base code x.o0.x (level Base code q) q ≡ case_before_at Base code q x
case_is_before code x q h = sym (ap (λ b. if b then last_case Base code x.o0.x (level Base code q) q else None) h)

-- no cases
pub none_last : AreLast [] [] []
none_last = record { known = λ k key e. cc; others = λ key a. refl; same = refl; few = omega arith }
