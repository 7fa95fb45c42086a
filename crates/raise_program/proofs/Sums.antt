-- The sums of a raised tree: each instruction pays for its own statement, and one that reads a scalar for what stands
-- around it.
use Rattle.std.proofs.Common.{◌≡◌, ℕ, ◌+◌, ◌*◌, ◌≤◌, Bool, true, false, List, [], ◌∷◌, ◌++◌, Option, Some, None, refl, arith}
use Rattle.std.specs.Prelude.{if◌then◌else◌}
use Rattle.std.proofs.lemmas.List.Sums.{sum_by-append, sum_by-cons}
use Rattle.tpf_decode.specs.Profiles.{Base}
use Rattle.tpf_decode.specs.Opcodes.{meaning_of}
use Rattle.tpf_decode.specs.declared.meaning.Meaning.{Meaning}
use Rattle.tpf_decode.specs.declared.meaning.Meaning.TheVariants as meaning
use Rattle.tpf_program.specs.Ends.{has, is_default, is_if, is_switch, means}
use Rattle.tpf_program.specs.declared.instruction.Instruction.{Instruction}
use Rattle.shader_check.specs.Statements.{Statement, Nothing, Then, Plain, If, IfElse, Loop, Switch, Label, flattened, Where, in_if, in_loop, in_switch, IsSound, stands}
use Rattle.shader_tree.specs.Costs.{Affords, ids_in, words_in}
use Rattle.shader_tree.specs.Terms.{Term}
use Rattle.shader_tree.specs.Terms as term
use Rattle.shader_tree.specs.Walks.{Each}
use Rattle.raise_program.specs.Raised.{Parts, alone, goes_on, raised}
use Rattle.raise_program.specs.TreeOf.{lengths}

-- control flow by a scalar
abbrev pub reads_scalar : Option Meaning → Bool
reads_scalar (Some meaning.If) = true
reads_scalar (Some meaning.Switch) = true
reads_scalar (Some meaning.BreakIf) = true
reads_scalar (Some meaning.ContinueIf) = true
reads_scalar (Some meaning.ReturnIf) = true
reads_scalar other = false

-- what stands in front of a scalar and an expression, with 32 words and 6 ids to spare
pub record Leaves (length : ℕ) (front x : Term) : Type 0 where
  pub words : words_in front + words_in x + 32 ≤ 256 * length
  pub ids : ids_in front + ids_in x + 6 ≤ 48 * length

pub record Spares (parts : Parts) (i : Instruction) : Type 0 where
  pub long : 1 ≤ i.length
  pub plain : goes_on (meaning_of Base i.code) ≡ true → Affords i.length (parts.plain i)
  pub test : reads_scalar (meaning_of Base i.code) ≡ true → Leaves i.length (parts.front i) (parts.truth i)
  pub word : reads_scalar (meaning_of Base i.code) ≡ true → Leaves i.length (parts.front i) (parts.word i)

pub each_both : {X : Type 0} (P : X → Type 0) (xs ys : List X) → Each P xs → Each P ys → Each P (xs ++ ys)
each_both P [] ys h k = k
each_both P (x ∷ xs) ys h k = (h.0, each_both P xs ys h.1 k)

pub each_parts : {X : Type 0} (P : X → Type 0) (xs ys : List X) → Each P (xs ++ ys) → Each P xs × Each P ys
each_parts P [] ys h = (tt, h)
each_parts P (x ∷ xs) ys h = let k = each_parts P xs ys h.1 in ((h.0, k.0), k.1)

pub first_length : (i : Instruction) (xs : List Instruction) → lengths (i ∷ xs) ≡ i.length + lengths xs
first_length i xs = sum_by-cons (λ i. i.length) i xs

pub both_lengths : (xs ys : List Instruction) → lengths (xs ++ ys) ≡ lengths xs + lengths ys
both_lengths xs ys = sum_by-append (λ i. i.length) xs ys

if_reads : (m : Option Meaning) → has is_if m ≡ true → reads_scalar m ≡ true
if_reads None h = absurd (cc)
if_reads (Some meaning.If) h = refl
if_reads (Some m) h = absurd (cc)

switch_reads : (m : Option Meaning) → has is_switch m ≡ true → reads_scalar m ≡ true
switch_reads None h = absurd (cc)
switch_reads (Some meaning.Switch) h = refl
switch_reads (Some m) h = absurd (cc)

-- a branch by itself, and one under a test
branch : (n : ℕ) → 1 ≤ n → (t : Term) → words_in t ≡ 18 → ids_in t ≡ 3 → Affords n t
branch n h t e f = record { words = omega (arith, h, e); ids = omega (arith, h, f) }

under : (n : ℕ) (front b t : Term) → Leaves n front b → words_in t ≡ 18 → ids_in t ≡ 3 → Affords n (term.Then front (term.Guard b t))
under n front b t h e f = let x = h.words in let y = h.ids in record { words = omega (arith, x, e); ids = omega (arith, y, f) }

module _ (parts : Parts) where
  alone_affords : (m : Option Meaning) (i : Instruction) (w : Where) → stands w m ≡ true → 1 ≤ i.length
      → (goes_on m ≡ true → Affords i.length (parts.plain i)) → (reads_scalar m ≡ true → Leaves i.length (parts.front i) (parts.truth i))
      → Affords i.length (alone parts m i)
  alone_affords None i w s l h k = absurd (cc)
  alone_affords (Some meaning.If) i w s l h k = absurd (cc)
  alone_affords (Some meaning.Else) i w s l h k = absurd (cc)
  alone_affords (Some meaning.EndIf) i w s l h k = absurd (cc)
  alone_affords (Some meaning.Loop) i w s l h k = absurd (cc)
  alone_affords (Some meaning.EndLoop) i w s l h k = absurd (cc)
  alone_affords (Some meaning.Switch) i w s l h k = absurd (cc)
  alone_affords (Some meaning.Case) i w s l h k = absurd (cc)
  alone_affords (Some meaning.Default) i w s l h k = absurd (cc)
  alone_affords (Some meaning.EndSwitch) i w s l h k = absurd (cc)
  alone_affords (Some meaning.Break) i w s l h k = branch i.length l term.Break refl refl
  alone_affords (Some meaning.Continue) i w s l h k = branch i.length l term.Continue refl refl
  alone_affords (Some meaning.Return) i w s l h k = branch i.length l term.Return refl refl
  alone_affords (Some meaning.BreakIf) i w s l h k = under i.length (parts.front i) (parts.truth i) term.Break (k refl) refl refl
  alone_affords (Some meaning.ContinueIf) i w s l h k = under i.length (parts.front i) (parts.truth i) term.Continue (k refl) refl refl
  alone_affords (Some meaning.ReturnIf) i w s l h k = under i.length (parts.front i) (parts.truth i) term.Return (k refl) refl refl
  alone_affords (Some m) i w s l h k = h refl

  label_affords : (b : Bool) (i : Instruction) → 1 ≤ i.length → Affords i.length (if b then term.Default term.Nothing else term.Case i.o0.x term.Nothing)
  label_affords true i h = record { words = omega (arith, h); ids = omega (arith, h) }
  label_affords false i h = record { words = omega (arith, h); ids = omega (arith, h) }

  one_affords : (i : Instruction) (t : Term) → Affords i.length t → Affords (lengths (i ∷ [])) t
  one_affords i t h =
      let a = h.words in let b = h.ids in let l = first_length i [] in
      record { words = omega (arith, a, l); ids = omega (arith, b, l) }

  -- a body between an opening and an end
  pub wrapped : (opening : Instruction) (xs : List Instruction) (end : Instruction) → lengths (opening ∷ (xs ++ end ∷ [])) ≡ opening.length +
      (lengths xs + (end.length + 0))
  wrapped opening xs end =
      let a = first_length opening (xs ++ end ∷ []) in let b = both_lengths xs (end ∷ []) in let c = first_length end [] in
      omega (arith, a, b, c)

  abbrev Pays : List Instruction → Type 0
  Pays xs = Each (Spares parts) xs

  pub affords : (w : Where) (s : Statement) → IsSound w s → Pays (flattened s) → Affords (lengths (flattened s)) (raised parts s)
  affords w Nothing h k = record { words = omega arith; ids = omega arith }
  affords w (Then first next) h k =
      let q = each_parts (Spares parts) (flattened first) (flattened next) k in
      let a = affords w first h.0 q.0 in let b = affords w next h.1 q.1 in
      let l = both_lengths (flattened first) (flattened next) in
      let a0 = a.words in let a1 = a.ids in let b0 = b.words in let b1 = b.ids in
      record { words = omega (arith, a0, b0, l); ids = omega (arith, a1, b1, l) }
  affords w (Plain i) h k = one_affords i (alone parts (meaning_of Base i.code) i)
      (alone_affords (meaning_of Base i.code) i w h k.0.long k.0.plain k.0.test)
  affords w (Label i) h k = one_affords i _ (label_affords (means Base is_default i) i k.0.long)
  affords w (If opening body end) h k =
      let q = each_parts (Spares parts) (flattened body) (end ∷ []) k.1 in
      let t = k.0.test (if_reads (meaning_of Base opening.code) h.0) in
      let b = affords (in_if w) body h.3 q.0 in
      let l = wrapped opening (flattened body) end in
      let t0 = t.words in let t1 = t.ids in let b0 = b.words in let b1 = b.ids in
      record { words = omega (arith, t0, b0, l); ids = omega (arith, t1, b1, l) }
  affords w (Loop opening body end) h k =
      let q = each_parts (Spares parts) (flattened body) (end ∷ []) k.1 in
      let b = affords (in_loop w) body h.3 q.0 in
      let l = wrapped opening (flattened body) end in
      let t = k.0.long in let b0 = b.words in let b1 = b.ids in
      record { words = omega (arith, t, b0, l); ids = omega (arith, t, b1, l) }
  affords w (Switch opening body end) h k =
      let q = each_parts (Spares parts) (flattened body) (end ∷ []) k.1 in
      let t = k.0.word (switch_reads (meaning_of Base opening.code) h.0) in
      let b = affords (in_switch w) body h.3 q.0 in
      let l = wrapped opening (flattened body) end in
      let t0 = t.words in let t1 = t.ids in let b0 = b.words in let b1 = b.ids in
      record { words = omega (arith, t0, b0, l); ids = omega (arith, t1, b1, l) }
  affords w (IfElse opening body middle other end) h k =
      let q = each_parts (Spares parts) (flattened body) (middle ∷ (flattened other ++ end ∷ [])) k.1 in
      let r = each_parts (Spares parts) (flattened other) (end ∷ []) q.1.1 in
      let t = k.0.test (if_reads (meaning_of Base opening.code) h.0) in
      let b = affords (in_if w) body h.4 q.0 in
      let c = affords (in_if w) other h.5 r.0 in
      let l = first_length opening (flattened body ++ middle ∷ (flattened other ++ end ∷ [])) in
      let m = both_lengths (flattened body) (middle ∷ (flattened other ++ end ∷ [])) in
      let n = wrapped middle (flattened other) end in
      let t0 = t.words in let t1 = t.ids in let b0 = b.words in let b1 = b.ids in let c0 = c.words in let c1 = c.ids in
      record { words = omega (arith, t0, b0, c0, l, m, n); ids = omega (arith, t1, b1, c1, l, m, n) }
