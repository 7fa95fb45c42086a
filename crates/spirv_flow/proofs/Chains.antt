-- Chains with a statement in front, and how long a lane may run between two blocks.
use Rattle.std.proofs.Common.{◌≡◌, ℕ, ◌+◌, ◌<◌, ◌≤◌, List, [], ◌∷◌, Option, Some, None, Bool, true, false, refl, ap, ◌∙◌, subst, arith}
use Rattle.std.specs.Prelude.{cond}
use Rattle.shader_tree.specs.Chains.{Link, Run, Again, Out, push, left, renewed, or_else, is_case, is_default, behind_mark}
use Rattle.shader_tree.specs.Terms.{Term}
use Rattle.shader_tree.specs.Terms as term

pub left_push : (x : Term) (k : List Link) → left (push x k) ≡ left k
left_push (term.Word a) k = refl
left_push (term.Scratch a) k = refl
left_push (term.Thread a b) k = refl
left_push (term.Read a b) k = refl
left_push (term.Length a) k = refl
left_push (term.One a b) k = refl
left_push (term.Two a b c) k = refl
left_push (term.Three a b c d) k = refl
left_push (term.Insert a b c d) k = refl
left_push (term.First a b c) k = refl
left_push (term.Second a b c) k = refl
left_push (term.Quotient a b) k = refl
left_push (term.Product a b) k = refl
left_push (term.Pick a b c) k = refl
left_push (term.Compare a b c) k = refl
left_push (term.Both a b) k = refl
left_push (term.Set a b) k = refl
left_push (term.Write a b c) k = refl
left_push (term.Load a b c) k = refl
left_push (term.Store a b c) k = refl
left_push (term.Atomic a b c d e f) k = refl
left_push (term.Sync a b c) k = refl
left_push (term.Guard a b) k = refl
left_push (term.If a b c) k = refl
left_push (term.Loop a) k = refl
left_push (term.Switch a b) k = refl
left_push (term.Case a b) k = refl
left_push (term.Default a) k = refl
left_push term.Break k = refl
left_push term.Continue k = refl
left_push term.Return k = refl
left_push (term.Then a b) k = left_push a (push b k) ∙ left_push b k
left_push term.Nothing k = refl

pub renewed_push : (x : Term) (k : List Link) → renewed (push x k) ≡ renewed k
renewed_push (term.Word a) k = refl
renewed_push (term.Scratch a) k = refl
renewed_push (term.Thread a b) k = refl
renewed_push (term.Read a b) k = refl
renewed_push (term.Length a) k = refl
renewed_push (term.One a b) k = refl
renewed_push (term.Two a b c) k = refl
renewed_push (term.Three a b c d) k = refl
renewed_push (term.Insert a b c d) k = refl
renewed_push (term.First a b c) k = refl
renewed_push (term.Second a b c) k = refl
renewed_push (term.Quotient a b) k = refl
renewed_push (term.Product a b) k = refl
renewed_push (term.Pick a b c) k = refl
renewed_push (term.Compare a b c) k = refl
renewed_push (term.Both a b) k = refl
renewed_push (term.Set a b) k = refl
renewed_push (term.Write a b c) k = refl
renewed_push (term.Load a b c) k = refl
renewed_push (term.Store a b c) k = refl
renewed_push (term.Atomic a b c d e f) k = refl
renewed_push (term.Sync a b c) k = refl
renewed_push (term.Guard a b) k = refl
renewed_push (term.If a b c) k = refl
renewed_push (term.Loop a) k = refl
renewed_push (term.Switch a b) k = refl
renewed_push (term.Case a b) k = refl
renewed_push (term.Default a) k = refl
renewed_push term.Break k = refl
renewed_push term.Continue k = refl
renewed_push term.Return k = refl
renewed_push (term.Then a b) k = renewed_push a (push b k) ∙ renewed_push b k
renewed_push term.Nothing k = refl

-- the statements of a statement, each counted, and those of a chain up to the end of the innermost loop's body
abbrev pub size : Term → ℕ
size (term.Guard b x) = size x + 1
size (term.If b x y) = size x + size y + 1
size (term.Loop x) = size x + 1
size (term.Switch on x) = size x + 1
size (term.Case v x) = size x + 1
size (term.Default x) = size x + 1
size (term.Then x y) = size x + size y
size term.Nothing = 0
size x = 1

abbrev pub front : List Link → ℕ
front [] = 0
front (Run x ∷ k) = size x + front k
front (Again x ∷ k) = 0
front (Out ∷ k) = front k

pub front_push : (x : Term) (k : List Link) → front (push x k) ≡ size x + front k
front_push (term.Word a) k = refl
front_push (term.Scratch a) k = refl
front_push (term.Thread a b) k = refl
front_push (term.Read a b) k = refl
front_push (term.Length a) k = refl
front_push (term.One a b) k = refl
front_push (term.Two a b c) k = refl
front_push (term.Three a b c d) k = refl
front_push (term.Insert a b c d) k = refl
front_push (term.First a b c) k = refl
front_push (term.Second a b c) k = refl
front_push (term.Quotient a b) k = refl
front_push (term.Product a b) k = refl
front_push (term.Pick a b c) k = refl
front_push (term.Compare a b c) k = refl
front_push (term.Both a b) k = refl
front_push (term.Set a b) k = refl
front_push (term.Write a b c) k = refl
front_push (term.Load a b c) k = refl
front_push (term.Store a b c) k = refl
front_push (term.Atomic a b c d e f) k = refl
front_push (term.Sync a b c) k = refl
front_push (term.Guard a b) k = refl
front_push (term.If a b c) k = refl
front_push (term.Loop a) k = refl
front_push (term.Switch a b) k = refl
front_push (term.Case a b) k = refl
front_push (term.Default a) k = refl
front_push term.Break k = refl
front_push term.Continue k = refl
front_push term.Return k = refl
front_push (term.Then a b) k = front_push a (push b k) ∙ (ap (λ n. size a + n) (front_push b k) ∙ omega arith)
front_push term.Nothing k = omega arith

-- a chain all of whose statements are few
abbrev pub IsSmall : ℕ → List Link → Type 0
IsSmall n [] = 0 < n
IsSmall n (Run x ∷ k) = (size x + front k < n) × IsSmall n k
IsSmall n (Again x ∷ k) = (size x < n) × IsSmall n k
IsSmall n (Out ∷ k) = IsSmall n k

pub small_front : (n : ℕ) (k : List Link) → IsSmall n k → front k < n
small_front n [] h = h
small_front n (Run x ∷ k) h = h.0
small_front n (Again x ∷ k) h = omega (arith, h.0)
small_front n (Out ∷ k) h = small_front n k h

pub small_push : (n : ℕ) (x : Term) (k : List Link) → size x + front k < n → IsSmall n k → IsSmall n (push x k)
small_push n (term.Word a) k l h = (l, h)
small_push n (term.Scratch a) k l h = (l, h)
small_push n (term.Thread a b) k l h = (l, h)
small_push n (term.Read a b) k l h = (l, h)
small_push n (term.Length a) k l h = (l, h)
small_push n (term.One a b) k l h = (l, h)
small_push n (term.Two a b c) k l h = (l, h)
small_push n (term.Three a b c d) k l h = (l, h)
small_push n (term.Insert a b c d) k l h = (l, h)
small_push n (term.First a b c) k l h = (l, h)
small_push n (term.Second a b c) k l h = (l, h)
small_push n (term.Quotient a b) k l h = (l, h)
small_push n (term.Product a b) k l h = (l, h)
small_push n (term.Pick a b c) k l h = (l, h)
small_push n (term.Compare a b c) k l h = (l, h)
small_push n (term.Both a b) k l h = (l, h)
small_push n (term.Set a b) k l h = (l, h)
small_push n (term.Write a b c) k l h = (l, h)
small_push n (term.Load a b c) k l h = (l, h)
small_push n (term.Store a b c) k l h = (l, h)
small_push n (term.Atomic a b c d e f) k l h = (l, h)
small_push n (term.Sync a b c) k l h = (l, h)
small_push n (term.Guard a b) k l h = (l, h)
small_push n (term.If a b c) k l h = (l, h)
small_push n (term.Loop a) k l h = (l, h)
small_push n (term.Switch a b) k l h = (l, h)
small_push n (term.Case a b) k l h = (l, h)
small_push n (term.Default a) k l h = (l, h)
small_push n term.Break k l h = (l, h)
small_push n term.Continue k l h = (l, h)
small_push n term.Return k l h = (l, h)
small_push n (term.Then a b) k l h =
    let e = front_push b k in
    let s = small_push n b k (omega (arith, l)) h in
    small_push n a (push b k) (omega (arith, l, e)) s
small_push n term.Nothing k l h = h

-- what a switch finds is a part of it
abbrev pub Found : ℕ → Term → List Link → Option (List Link) → Type 0
Found n x k None = Unit {0}
Found n x k (Some j) = (front j ≤ size x + front k) × IsSmall n j

wider : (n : ℕ) (x y : Term) (k l : List Link) (o : Option (List Link)) → size x + front k ≤ size y + front l → Found n x k o → Found n y l o
wider n x y k l None h f = tt
wider n x y k l (Some j) h f = (omega (arith, h, f.0), f.1)

found_if : (n : ℕ) (b : Bool) (x : Term) (k : List Link) (o : Option (List Link)) → size x + front k < n → IsSmall n k → Found n x k o
    → Found n x k (cond b (Some (push x k)) o)
found_if n true x k o l h f = let e = front_push x k in (omega (arith, e), small_push n x k l h)
found_if n false x k o l h f = f

pub found_else : (n : ℕ) (x : Term) (k : List Link) (o u : Option (List Link)) → Found n x k o → Found n x k u → Found n x k (or_else o u)
found_else n x k None u f g = g
found_else n x k (Some j) u f g = f

pub found : (n : ℕ) (mark : Option ℕ) (x : Term) (k : List Link) → size x + front k < n → IsSmall n k → Found n x k (behind_mark mark x k)
found n mark (term.Word a) k l h = tt
found n mark (term.Scratch a) k l h = tt
found n mark (term.Thread a b) k l h = tt
found n mark (term.Read a b) k l h = tt
found n mark (term.Length a) k l h = tt
found n mark (term.One a b) k l h = tt
found n mark (term.Two a b c) k l h = tt
found n mark (term.Three a b c d) k l h = tt
found n mark (term.Insert a b c d) k l h = tt
found n mark (term.First a b c) k l h = tt
found n mark (term.Second a b c) k l h = tt
found n mark (term.Quotient a b) k l h = tt
found n mark (term.Product a b) k l h = tt
found n mark (term.Pick a b c) k l h = tt
found n mark (term.Compare a b c) k l h = tt
found n mark (term.Both a b) k l h = tt
found n mark (term.Set a b) k l h = tt
found n mark (term.Write a b c) k l h = tt
found n mark (term.Load a b c) k l h = tt
found n mark (term.Store a b c) k l h = tt
found n mark (term.Atomic a b c d e f) k l h = tt
found n mark (term.Sync a b c) k l h = tt
found n mark (term.Guard a b) k l h = tt
found n mark (term.If a b c) k l h = tt
found n mark (term.Loop a) k l h = tt
found n mark (term.Switch a b) k l h = tt
found n mark (term.Case v x) k l h =
    wider n x (term.Case v x) k k (cond (is_case mark v) (Some (push x k)) (behind_mark mark x k)) (omega arith)
    (found_if n (is_case mark v) x k (behind_mark mark x k) (omega (arith, l)) h (found n mark x k (omega (arith, l)) h))
found n mark (term.Default x) k l h =
    wider n x (term.Default x) k k (cond (is_default mark) (Some (push x k)) (behind_mark mark x k)) (omega arith)
    (found_if n (is_default mark) x k (behind_mark mark x k) (omega (arith, l)) h (found n mark x k (omega (arith, l)) h))
found n mark term.Break k l h = tt
found n mark term.Continue k l h = tt
found n mark term.Return k l h = tt
found n mark (term.Then x y) k l h =
    let e = front_push y k in
    found_else n (term.Then x y) k (behind_mark mark x (push y k)) (behind_mark mark y k)
    (wider n x (term.Then x y) (push y k) k (behind_mark mark x (push y k)) (omega (arith, e))
    (found n mark x (push y k) (omega (arith, l, e)) (small_push n y k (omega (arith, l)) h)))
    (wider n y (term.Then x y) k k (behind_mark mark y k) (omega arith) (found n mark y k (omega (arith, l)) h))
found n mark term.Nothing k l h = tt

pub small_left : (n : ℕ) (k : List Link) → IsSmall n k → (j : List Link) → left k ≡ Some j → IsSmall n j
small_left n [] h j e = absurd (cc)
small_left n (Run x ∷ k) h j e = small_left n k h.1 j e
small_left n (Again x ∷ k) h j e = let same : k ≡ j = cc in subst (IsSmall n) same h.1
small_left n (Out ∷ k) h j e = let same : k ≡ j = cc in subst (IsSmall n) same h

pub small_renewed : (n : ℕ) (k : List Link) → IsSmall n k → (j : List Link) → renewed k ≡ Some j → IsSmall n j
small_renewed n [] h j e = absurd (cc)
small_renewed n (Run x ∷ k) h j e = small_renewed n k h.1 j e
small_renewed n (Again x ∷ k) h j e = let same : Again x ∷ k ≡ j = cc in subst (IsSmall n) same h
small_renewed n (Out ∷ k) h j e = small_renewed n k h j e
