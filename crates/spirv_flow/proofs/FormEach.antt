-- What holds of each instruction of a layout's code, and of what it names.
use Rattle.std.proofs.Common.{◌≡◌, ℕ, List, [], ◌∷◌, ◌++◌, Bool, true, refl}
use Rattle.std.specs.Prelude.{IsTrue}
use Rattle.std.specs.List.{list_all}
use Rattle.shader_tree.specs.Walks.{Each}
use Rattle.spirv_words.specs.Roles.{Plain}
use Rattle.spirv_words.specs.Blocks.{flow_of}
use Rattle.spirv_words.specs.Sections.{Body, section_of}
use Rattle.spirv_words.specs.Text.{Instr}
use Rattle.spirv_flow.specs.Layout.{Layout, Straight, Both, Guarded, Chosen, Looped, Switched, CaseAt, DefaultAt, Breaks, Continues, Returns, label, branch, merge, loop_merge, choose, leave, switch, code_of, ArePlain, Placed}
use Rattle.spirv_flow.proofs.Members.{both, first_holds, second_holds}

pub each_append : {X : Type 0} (P : X → Type 0) (xs ys : List X) → Each P xs → Each P ys → Each P (xs ++ ys)
each_append P [] ys g h = h
each_append P (x ∷ xs) ys g h = (g.0, each_append P xs ys g.1 h)

pub each_mapped : {X : Type 0} (P Q : X → Type 0) (xs : List X) → ((x : X) → P x → Q x) → Each P xs → Each Q xs
each_mapped P Q [] f h = tt
each_mapped P Q (x ∷ xs) f h = (f x h.0, each_mapped P Q xs f h.1)

-- with a test that all pass, and as a test that all pass
pub each_with : {X : Type 0} (test : X → Bool) (P : X → Type 0) (xs : List X) → Each (λ x. IsTrue (test x) → P x) xs → IsTrue (list_all test xs)
    → Each P xs
each_with test P [] h f = tt
each_with test P (x ∷ xs) h f =
    (h.0 (first_holds (test x) (list_all test xs) f), each_with test P xs h.1 (second_holds (test x) (list_all test xs) f))

pub all_tested : {X : Type 0} (test : X → Bool) (xs : List X) → Each (λ x. IsTrue (test x)) xs → IsTrue (list_all test xs)
all_tested test [] h = refl
all_tested test (x ∷ xs) h = both (test x) (list_all test xs) h.0 (all_tested test xs h.1)

-- A property of the instructions of blocks, and of plain ones of a body.
pub record Passes (P : Instr → Type 0) : Type 0 where
  pub plain : (i : Instr) → flow_of i ≡ Plain → section_of i ≡ Body → P i
  pub labels : (l : ℕ) → P (label l)
  pub branches : (l : ℕ) → P (branch l)
  pub merges : (m : ℕ) → P (merge m)
  pub loop_merges : (m c : ℕ) → P (loop_merge m c)
  pub chooses : (t x y : ℕ) → P (choose t x y)
  pub switches : (on m : ℕ) (x : Layout) → P (switch on m x)
  pub leaves : P leave

module _ (P : Instr → Type 0) (h : Passes P) where
  each_plain : (code : List Instr) → ArePlain code → Each P code
  each_plain [] p = tt
  each_plain (i ∷ is) p = (h.plain i p.0.0 p.0.1, each_plain is p.1)

  pub each : (x : Layout) (brk cont : ℕ) (l a : Bool) → Placed x l a → Each P (code_of x brk cont)
  each (Straight code) brk cont l a p = each_plain code p
  each (Both x y) brk cont l a p = each_append P (code_of x brk cont) (code_of y brk cont) (each x brk cont l a p.0) (each y brk cont l a p.1)
  each (Guarded t i m x) brk cont l a p = (
    h.merges m,
    (
      h.chooses t i m,
      (
        h.labels i,
        each_append P (code_of x brk cont) (branch m ∷ label m ∷ []) (each x brk cont l a p) (h.branches m, (h.labels m, tt)),
      ),
    ),
  )
  each (Chosen t y n m x z) brk cont l a p =
      let last = branch m ∷ label m ∷ [] in
      let second = each_append P (code_of z brk cont) last (each z brk cont l a p.1) (h.branches m, (h.labels m, tt)) in
      let first = each_append P (code_of x brk cont) (branch m ∷ label n ∷ (code_of z brk cont ++ last)) (each x brk cont l a p.0)
      (h.branches m, (h.labels n, second)) in
      (h.merges m, (h.chooses t y n, (h.labels y, first)))
  each (Looped b i c m x) brk cont l a p =
      let body = each_append P (code_of x m c) (branch c ∷ label c ∷ branch b ∷ label m ∷ []) (each x m c true true p)
      (h.branches c, (h.labels c, (h.branches b, (h.labels m, tt)))) in
      (h.branches b, (h.labels b, (h.loop_merges m c, (h.branches i, (h.labels i, body)))))
  each (Switched on i m x) brk cont l a p =
      let body = each_append P (code_of x m cont) (branch m ∷ label m ∷ []) (each x m cont l true p) (h.branches m, (h.labels m, tt)) in
      (h.merges m, (h.switches on m x, (h.labels i, body)))
  each (CaseAt v k) brk cont l a p = (h.branches k, (h.labels k, tt))
  each (DefaultAt k) brk cont l a p = (h.branches k, (h.labels k, tt))
  each (Breaks n) brk cont l a p = (h.branches brk, (h.labels n, tt))
  each (Continues n) brk cont l a p = (h.branches cont, (h.labels n, tt))
  each (Returns n) brk cont l a p = (h.leaves, (h.labels n, tt))
