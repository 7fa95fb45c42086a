-- The walk back over the instructions of a program, from one to the one in front of it, and where it ends.
use Rattle.std.proofs.Common.{◌≡◌, ℕ, zero, suc, ◌+◌, ◌-◌, ◌*◌, ◌<◌, ◌≤◌, Bool, true, List, [], ◌∷◌, ◌++◌, length, take, drop, Some, refl, sym, ap, subst, ◌∙◌, arith, length-append, drop-cons}
use Rattle.std.specs.Prelude.{slice_get}
use Rattle.std.proofs.Math.ListN.{get_or-append}
use Rattle.std.proofs.Math.Seq.{take-append_seam}
use Rattle.std.proofs.lemmas.List.Sums.{sum_by-cons, sum_by-take-drop}
use Rattle.std.proofs.lemmas.Option.{slice_get_within, get_or_from_slice_get, slice_get-get_or}
use Rattle.word_base.specs.declared.event.Room.{Room}
use Rattle.tpf_decode.specs.Profiles.{Base}
use Rattle.tpf_decode.specs.Opcodes.{meaning_of}
use Rattle.tpf_program.specs.declared.instruction.Instruction.{Instruction}
use Rattle.tpf_program.specs.Program.{Shader}
use Rattle.shader_check.specs.Statements.{IsNested, Nothing, flattened, outside_all}
use Rattle.shader_tree.specs.Terms.{term_at}
use Rattle.shader_tree.specs.Trees.{Grown}
use Rattle.raise_operands.specs.Building.{Grows}
use Rattle.raise_operands.specs.Laws.{GrowingLaws}
use Rattle.raise_program.specs.declared.walk.Walk.{Walk}
use Rattle.raise_program.specs.Parts.{parts_of}
use Rattle.raise_program.specs.Raised.{Parts}
use Rattle.raise_program.specs.TreeOf.{lengths}
use Rattle.raise_program.specs.Walked.{Rest, end_of_all, visited, walked, allows}
use Rattle.raise_program.specs.Walking.{IsWalk, StandsAt, fronts, rest_at, stack}
use Rattle.raise_program.specs.Whole.{IsRaisedTo}
use Rattle.raise_program.proofs.Allowed.{Allowed, allowed}
use Rattle.raise_program.proofs.Kept.{as_many, walk_itself}
use Rattle.raise_program.proofs.Normal.{normal_nested}
use Rattle.raise_program.proofs.Backward.{gives}

-- THE INSTRUCTIONS in front of the last
pub front_is : (p : Shader) (nested : IsNested p) → fronts p.instructions ≡ flattened nested.front
front_is p nested =
    let code = flattened nested.front in
    let long = ap length nested.flat ∙ length-append code (nested.last ∷ []) in
    let n : length p.instructions - 1 ≡ length code = omega (arith, long) in
    ap (λ n. take n p.instructions) n ∙ ap (take (length code)) nested.flat ∙ take-append_seam code (nested.last ∷ [])

pub last_is : (p : Shader) → IsNested p → 1 ≤ length p.instructions
last_is p nested = let long = ap length nested.flat ∙ length-append (flattened nested.front) (nested.last ∷ []) in omega (arith, long)

in_front : (code : List Instruction) (last x : Instruction) (k : ℕ) → slice_get (code ++ last ∷ []) k ≡ Some x → k < length code
    → slice_get code k ≡ Some x
in_front code last x k h l =
    slice_get-get_or code k x l
    ∙ ap (λ (y : Instruction). Some y)
    (sym (get_or-append code (last ∷ []) x k l) ∙ get_or_from_slice_get (code ++ last ∷ []) k x x h)

-- one of them, and those behind it
drop_at : (code : List Instruction) (k : ℕ) (x : Instruction) → slice_get code k ≡ Some x → drop k code ≡ x ∷ drop (suc k) code
drop_at code k x h =
    drop-cons code k x (slice_get_within code k x h) ∙ ap (λ (y : Instruction). y ∷ drop (suc k) code) (get_or_from_slice_get code k x x h)

pub next_front : (p : Shader) → IsNested p → (n : ℕ) (x : Instruction) → slice_get p.instructions (n - 1) ≡ Some x → 0 < n
    → n ≤ length p.instructions - 1
    → drop (n - 1) (fronts p.instructions) ≡ x ∷ drop n (fronts p.instructions)
next_front p nested n x h k l =
    let code = flattened nested.front in
    let long = ap length nested.flat ∙ length-append code (nested.last ∷ []) in
    let below : n - 1 < length code = omega (arith, long) in
    let there : slice_get (code ++ nested.last ∷ []) (n - 1) ≡ Some x = ap (λ c. slice_get c (n - 1)) (sym nested.flat) ∙ h in
    let s : suc (n - 1) ≡ n = omega (arith, k) in
    ap (drop (n - 1)) (front_is p nested) ∙ drop_at code (n - 1) x (in_front code nested.last x (n - 1) there below)
    ∙ ap (λ m. x ∷ drop m code) s ∙ ap (λ c. x ∷ drop n c) (sym (front_is p nested))

-- HOW MANY WORDS
pub lengths_from : (p : Shader) (n : ℕ) → lengths (drop n (fronts p.instructions)) ≤ lengths p.instructions
lengths_from p n =
    let f : Instruction → ℕ = λ i. i.length in
    let a = sum_by-take-drop f p.instructions (length p.instructions - 1) in
    let b = sum_by-take-drop f (fronts p.instructions) n in
    omega (arith, a, b)

pub next_lengths : (p : Shader) → IsNested p → (n : ℕ) (x : Instruction) → slice_get p.instructions (n - 1) ≡ Some x → 0 < n
    → n ≤ length p.instructions - 1
    → lengths (drop (n - 1) (fronts p.instructions)) ≡ x.length + lengths (drop n (fronts p.instructions))
next_lengths p nested n x h k l =
    ap lengths (next_front p nested n x h k l) ∙ sum_by-cons (λ (i : Instruction). i.length) x (drop n (fronts p.instructions))

-- EACH IS ALLOWED
allowed_drop : (parts : Parts) (code : List Instruction) (r : Rest) (n : ℕ) → Allowed parts code r → Allowed parts (drop n code) r
allowed_drop parts code r zero h = h
allowed_drop parts [] r (suc n) h = tt
allowed_drop parts (i ∷ code) r (suc n) h = allowed_drop parts code r n h.1

pub next_allowed : (parts : Parts) (p : Shader) → IsNested p → (n : ℕ) (x : Instruction) → slice_get p.instructions (n - 1) ≡ Some x → 0 < n
    → n ≤ length p.instructions - 1
    → allows (length (walked parts (drop n (fronts p.instructions)) end_of_all).around) (meaning_of Base x.code) ≡ true
next_allowed parts p nested n x h k l =
    let all = allowed parts outside_all nested.front nested.sound Nothing [] refl in
    let P : List Instruction → Type 0 = λ code. Allowed parts code end_of_all in
    let q : P (fronts p.instructions) = subst P (sym (front_is p nested)) all in
    let r : P (x ∷ drop n (fronts p.instructions)) =
    subst P (next_front p nested n x h k l) (allowed_drop parts (fronts p.instructions) end_of_all (n - 1) q) in
    r.0

module _ (l : GrowingLaws) (is_null : Room → Bool) (p : Shader) (nested : IsNested p) (old tree : Grown) (walk : Walk) (n : ℕ) where
  pub stands_allowed : StandsAt is_null p old tree walk n → (x : Instruction) → slice_get p.instructions (n - 1) ≡ Some x → 0 < n
      → n ≤ length p.instructions - 1 → allows (length (stack walk)) (meaning_of Base x.code) ≡ true
  stands_allowed s x h k m =
      ap (λ d. allows d (meaning_of Base x.code)) (as_many tree.nodes (stack walk) _ s.walk'.around)
      ∙ next_allowed (parts_of is_null p) p nested n x h k m

  -- ONE INSTRUCTION back
  pub stands_next : StandsAt is_null p old tree walk n → (x : Instruction) → slice_get p.instructions (n - 1) ≡ Some x → 0 < n
      → n ≤ length p.instructions - 1 → (new : Grown) (next : Walk) → Grows tree new (16 * x.length)
      → IsWalk new.nodes next (visited (parts_of is_null p) (meaning_of Base x.code) x (rest_at tree.nodes walk))
      → StandsAt is_null p old new next (n - 1)
  stands_next s x h k m new next g w =
      let parts = parts_of is_null p in
      let e = next_lengths p nested n x h k m in
      let f = next_front p nested n x h k m in
      let P : Rest → Type 0 = λ r. IsWalk new.nodes next (visited parts (meaning_of Base x.code) x r) in
      let Q : List Instruction → Type 0 = λ code. IsWalk new.nodes next (walked parts code end_of_all) in
      record {
        grows = l.grows_on old tree new _ _ _ s.grows g (omega (arith, e));
        walk' = subst Q (sym f) (subst P (walk_itself tree.nodes walk _ s.walk') w);
      }

  -- THE FIRST INSTRUCTION: all of them are raised
  pub stands_first : StandsAt is_null p old tree walk 0 → (new : Grown) → new ≡ record tree { root = Some walk.here } → IsRaisedTo is_null p new
  stands_first s new e =
      let parts = parts_of is_null p in
      let all = gives parts outside_all nested.front nested.sound Nothing [] in
      let whole = ap (λ code. (walked parts code end_of_all).here) (front_is p nested) ∙ ap (λ (r : Rest). r.here) all in
      record {
        nested = normal_nested p nested;
        root = walk.here;
        is_root = ap (λ (t : Grown). t.root) e;
        term = ap (λ (t : Grown). term_at t.nodes walk.here) e ∙ s.walk'.here.term ∙ whole;
      }
