-- The words of a finished module, from the pieces that were written.
use Rattle.std.proofs.Common.{◌≡◌, ℕ, ◌+◌, List, [], ◌∷◌, ◌++◌, length, take, drop, refl, sym, ap, ◌∙◌, arith}
use Rattle.std.proofs.lemmas.List.{append_assoc, length-append}
use Rattle.spirv_emit.specs.Finished.{text_of}

take_first : (xs ys : List ℕ) → take (length xs) (xs ++ ys) ≡ xs
take_first [] ys = refl
take_first (x ∷ xs) ys = ap (λ l. x ∷ l) (take_first xs ys)

drop_first : (xs ys : List ℕ) → drop (length xs) (xs ++ ys) ≡ ys
drop_first [] ys = refl
drop_first (x ∷ xs) ys = drop_first xs ys

turned : (xs ys : List ℕ) → text_of (length xs) (xs ++ ys) ≡ ys ++ xs
turned xs ys = ap (λ l. l ++ take (length xs) (xs ++ ys)) (drop_first xs ys) ∙ ap (λ l. ys ++ l) (take_first xs ys)

next : (before now after : List ℕ) (x : ℕ) (rest : List ℕ) → after ≡ before ++ x ∷ [] → after ++ rest ≡ before ++ x ∷ rest
next before now after x rest e = ap (λ l. l ++ rest) e ∙ append_assoc before (x ∷ []) rest

pub text_is : (old s1 s2 s3 s4 s5 s6 s7 s8 front head ends body : List ℕ) (end m v b q n : ℕ)
    → s1 ≡ old ++ end ∷ [] → s2 ≡ s1 ++ m ∷ [] → s3 ≡ s2 ++ v ∷ [] → s4 ≡ s3 ++ 0 ∷ [] → s5 ≡ s4 ++ b ∷ [] → s6 ≡ s5 ++ 0 ∷ []
    → s7 ≡ s6 ++ front → s8 ≡ s7 ++ head → n ≡ length s1 → b ≡ q → old ≡ body → ends ≡ front ++ (head ++ (body ++ end ∷ []))
    → text_of n s8 ≡ (m ∷ v ∷ 0 ∷ q ∷ 0 ∷ []) ++ ends
text_is old s1 s2 s3 s4 s5 s6 s7 s8 front head ends body end m v b q n e1 e2 e3 e4 e5 e6 e7 e8 c z o w =
    let rest = front ++ head in
    let a : s8 ≡ s1 ++ (m ∷ v ∷ 0 ∷ b ∷ 0 ∷ rest) =
    e8 ∙ ap (λ l. l ++ head) e7 ∙ append_assoc s6 front head ∙ next s5 s5 s6 0 rest e6 ∙ next s4 s4 s5 b (0 ∷ rest) e5 ∙ next s3 s3 s4 0
    (b ∷ 0 ∷ rest) e4
    ∙ next s2 s2 s3 v (0 ∷ b ∷ 0 ∷ rest) e3 ∙ next s1 s1 s2 m (v ∷ 0 ∷ b ∷ 0 ∷ rest) e2 in
    ap (text_of n) a ∙ ap (λ k. text_of k (s1 ++ (m ∷ v ∷ 0 ∷ b ∷ 0 ∷ rest))) c ∙ turned s1 (m ∷ v ∷ 0 ∷ b ∷ 0 ∷ rest)
    ∙ ap (λ l. m ∷ v ∷ 0 ∷ b ∷ 0 ∷ (rest ++ l)) (e1 ∙ ap (λ l. l ++ end ∷ []) o)
    ∙ ap (λ l. m ∷ v ∷ 0 ∷ b ∷ 0 ∷ l) (append_assoc front head (body ++ end ∷ []) ∙ sym w)
    ∙ ap (λ k. m ∷ v ∷ 0 ∷ k ∷ 0 ∷ ends) z

longer : (xs ys : List ℕ) (x : ℕ) → ys ≡ xs ++ x ∷ [] → length ys ≡ length xs + 1
longer xs ys x e = ap length e ∙ length-append xs (x ∷ [])

pub pushed_six : (old s1 s2 s3 s4 s5 s6 : List ℕ) (a b c d e f : ℕ)
    → s1 ≡ old ++ a ∷ [] → s2 ≡ s1 ++ b ∷ [] → s3 ≡ s2 ++ c ∷ [] → s4 ≡ s3 ++ d ∷ [] → s5 ≡ s4 ++ e ∷ [] → s6 ≡ s5 ++ f ∷ []
    → length s6 ≡ length old + 6
pushed_six old s1 s2 s3 s4 s5 s6 a b c d e f e1 e2 e3 e4 e5 e6 =
    omega (arith, longer old s1 a e1, longer s1 s2 b e2, longer s2 s3 c e3, longer s3 s4 d e4, longer s4 s5 e e5, longer s5 s6 f e6)

-- the room that the pieces ask
pub pieces_fit : (whole front head : List ℕ) (end known : ℕ) → whole ≡ front ++ (head ++ end ∷ []) → length whole ≡ known
    → length front + length head + 1 ≡ known
pieces_fit whole front head end known e w = omega (arith, w, ap length e, length-append front (head ++ end ∷ []), length-append head (end ∷ []))
