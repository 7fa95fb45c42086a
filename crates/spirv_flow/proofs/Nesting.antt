-- The constructs of a layout are in order, and nested or apart.
use Rattle.std.proofs.Common.{ℕ, ◌+◌, ◌<◌, ◌≤◌, ◌⊎◌, inl, inr, ⊎_elim, List, [], ◌∷◌, ◌++◌, refl, sym, subst, arith}
use Rattle.std.specs.Prelude.{nat_eq, nat_lt, nat_le, ◌&&◌, ◌||◌, not, IsTrue, unwrap_or}
use Rattle.std.specs.List.{list_all}
use Rattle.std.proofs.lemmas.Bool.Decides.{nat_tests}
use Rattle.spirv_words.specs.Blocks.{Span, Kind, Selection, Loop, Choice}
use Rattle.spirv_words.specs.Structure.{is_ordered, is_ordered_by, agree, are_apart, holds, keeps_continue, all_agree}
use Rattle.spirv_flow.specs.Layout.{Layout, Straight, Both, Guarded, Chosen, Looped, Switched, CaseAt, DefaultAt, Breaks, Continues, Returns}
use Rattle.spirv_flow.proofs.Members.{Has, has_either, both, each_passes, passes_each, first_holds, second_holds, lt_true}
use Rattle.spirv_flow.proofs.Shape.{blocks, targets, other, span, constructs}

-- a construct that stands in the blocks b to e
abbrev pub HasContinue : ℕ → ℕ → Kind → Type 0
HasContinue h m (Loop c) = (h < c) × (c < m)
HasContinue h m k = Unit {0}

abbrev pub Within : ℕ → ℕ → Span → Type 0
Within b e x = (b ≤ x.header) × (x.header < x.merge) × (x.merge ≤ e) × HasContinue x.header x.merge x.kind

pub widen : (b c d e : ℕ) (x : Span) → b ≤ c → d ≤ e → Within c d x → Within b e x
widen b c d e x p q w = (omega (arith, w.0), w.1, omega (arith, w.2), w.3)

pub within : (x : Layout) (b : ℕ) (s : Span) → Has (constructs x b) s → Within b (b + blocks x) s
within (Straight code) b s i = absurd i
within (CaseAt v l) b s i = absurd i
within (DefaultAt l) b s i = absurd i
within (Breaks n) b s i = absurd i
within (Continues n) b s i = absurd i
within (Returns n) b s i = absurd i
within (Both x y) b s i = ⊎_elim
    (λ j. widen b b (b + blocks x) (b + blocks (Both x y)) s (omega arith) (omega arith) (within x b s j))
    (λ j. widen b (b + blocks x) (b + blocks x + blocks y) (b + blocks (Both x y)) s (omega arith) (omega arith) (within y (b + blocks x) s j))
    (has_either (constructs x b) (constructs y (b + blocks x)) s i)
within (Guarded t j m x) b s (inl e) = subst (Within b (b + blocks (Guarded t j m x))) (sym e) (omega arith, omega arith, omega arith, tt)
within (Guarded t j m x) b s (inr i) =
    widen b (b + 1) (b + 1 + blocks x) (b + blocks (Guarded t j m x)) s (omega arith) (omega arith) (within x (b + 1) s i)
within (Chosen t y n m x z) b s (inl e) = subst (Within b (b + blocks (Chosen t y n m x z))) (sym e) (omega arith, omega arith, omega arith, tt)
within (Chosen t y n m x z) b s (inr i) =
    let c = b + 1 + blocks x + 1 in
    ⊎_elim
    (λ j. widen b (b + 1) (b + 1 + blocks x) (b + blocks (Chosen t y n m x z)) s (omega arith) (omega arith) (within x (b + 1) s j))
    (λ j. widen b c (c + blocks z) (b + blocks (Chosen t y n m x z)) s (omega arith) (omega arith) (within z c s j))
    (has_either (constructs x (b + 1)) (constructs z c) s i)
within (Looped h j c m x) b s (inl e) = subst (Within b (b + blocks (Looped h j c m x))) (sym e)
    (omega arith, omega arith, omega arith, (omega arith, omega arith))
within (Looped h j c m x) b s (inr i) =
    widen b (b + 1 + 1) (b + 1 + 1 + blocks x) (b + blocks (Looped h j c m x)) s (omega arith) (omega arith) (within x (b + 1 + 1) s i)
within (Switched on j m x) b s (inl e) = subst (Within b (b + blocks (Switched on j m x))) (sym e) (omega arith, omega arith, omega arith, tt)
within (Switched on j m x) b s (inr i) =
    widen b (b + 1) (b + 1 + blocks x) (b + blocks (Switched on j m x)) s (omega arith) (omega arith) (within x (b + 1) s i)

-- ORDER.
ordered_by : (h m : ℕ) (k : Kind) → HasContinue h m k → IsTrue (is_ordered_by h m k)
ordered_by h m (Loop c) w = both (nat_lt h c) (nat_lt c m) (lt_true h c w.0) (lt_true c m w.1)
ordered_by h m Selection w = refl
ordered_by h m (Choice d ts) w = refl

ordered : (b e : ℕ) (x : Span) → Within b e x → IsTrue (is_ordered x)
ordered b e x w = both (nat_lt x.header x.merge) (is_ordered_by x.header x.merge x.kind) (lt_true x.header x.merge w.1)
    (ordered_by x.header x.merge x.kind w.3)

pub all_ordered : (x : Layout) (b : ℕ) → IsTrue (list_all is_ordered (constructs x b))
all_ordered x b = each_passes is_ordered (constructs x b) (λ s i. ordered b (b + blocks x) s (within x b s i))

-- NESTING. Of two constructs, by plain numbers:
keeps_by : (h c k m : ℕ) → (k ≤ h) ⊎ ((c ≤ k) ⊎ (m < c)) → IsTrue (not (nat_lt h k && nat_lt k c) || nat_lt m c)
keeps_by h c k m w = grind (arith, nat_tests)

nested_by : (h m k n : ℕ) → (m ≤ k) ⊎ ((h < k) × (n < m))
    → IsTrue ((nat_le m k || nat_le n h) || ((nat_lt h k && nat_lt n m) || (nat_lt k h && nat_lt m n)))
nested_by h m k n w = grind (arith, nat_tests)

differ : (m n : ℕ) → (m < n) ⊎ (n < m) → IsTrue (not (nat_eq m n))
differ m n w = grind (arith, nat_tests)

-- a later construct is clear of an earlier loop's continue block, and an earlier one of a later loop's
abbrev Clear : ℕ → Kind → Span → Type 0
Clear h (Loop c) y = (c ≤ y.header) ⊎ (y.merge < c)
Clear h k y = Unit {0}

clear_of_later : (h : ℕ) (k : Kind) (y : Span) → Clear h k y → IsTrue (keeps_continue h k y)
clear_of_later h (Loop c) y w = keeps_by h c y.header y.merge (inr w)
clear_of_later h Selection y w = refl
clear_of_later h (Choice d ts) y w = refl

clear_of_earlier : (h : ℕ) (k : Kind) (x : Span) → x.header ≤ h → IsTrue (keeps_continue h k x)
clear_of_earlier h (Loop c) x w = keeps_by h c x.header x.merge (inl w)
clear_of_earlier h Selection x w = refl
clear_of_earlier h (Choice d ts) x w = refl

agreed : (x y : Span) → (x.merge < y.merge) ⊎ (y.merge < x.merge) → (x.merge ≤ y.header) ⊎ ((x.header < y.header) × (y.merge < x.merge))
    → Clear x.header x.kind y → x.header ≤ y.header → IsTrue (agree x y)
agreed x y d n c l =
    let clear = keeps_continue x.header x.kind y && keeps_continue y.header y.kind x in
    both (not (nat_eq x.merge y.merge)) ((are_apart x y || (holds x y || holds y x)) && clear) (differ x.merge y.merge d)
    (both (are_apart x y || (holds x y || holds y x)) clear (nested_by x.header x.merge y.header y.merge n)
    (both (keeps_continue x.header x.kind y) (keeps_continue y.header y.kind x)
    (clear_of_later x.header x.kind y c) (clear_of_earlier y.header y.kind x l)))

clear_apart : (h m : ℕ) (k : Kind) (y : Span) → HasContinue h m k → m ≤ y.header → Clear h k y
clear_apart h m (Loop c) y w l = inl (omega (arith, w.1, l))
clear_apart h m Selection y w l = tt
clear_apart h m (Choice d ts) y w l = tt

-- one behind the other, and one in the other
agree_apart : (b e f : ℕ) (x y : Span) → Within b e x → Within e f y → IsTrue (agree x y)
agree_apart b e f x y v w = agreed x y (inl (omega (arith, v.2, w.0, w.1))) (inl (omega (arith, v.2, w.0)))
    (clear_apart x.header x.merge x.kind y v.3 (omega (arith, v.2, w.0))) (omega (arith, v.1, v.2, w.0))

agree_inner : (b e : ℕ) (x y : Span) → x.header < b → e < x.merge → Clear x.header x.kind y → Within b e y → IsTrue (agree x y)
agree_inner b e x y p q c w =
    agreed x y (inr (omega (arith, q, w.2))) (inr (omega (arith, p, w.0), omega (arith, q, w.2))) c (omega (arith, p, w.0))

agree_append : (xs ys : List Span) → IsTrue (all_agree xs) → IsTrue (all_agree ys) → ((x y : Span) → Has xs x → Has ys y → IsTrue (agree x y))
    → IsTrue (all_agree (xs ++ ys))
agree_append [] ys p q h = q
agree_append (x ∷ xs) ys p q h =
    let with_rest = first_holds (list_all (agree x) xs) (all_agree xs) p in
    let among_rest = second_holds (list_all (agree x) xs) (all_agree xs) p in
    both (list_all (agree x) (xs ++ ys)) (all_agree (xs ++ ys))
    (each_passes (agree x) (xs ++ ys) (λ y i. ⊎_elim (λ j. passes_each (agree x) xs with_rest y j) (λ j. h x y (inl refl) j) (has_either xs ys y i)))
    (agree_append xs ys among_rest q (λ z y i j. h z y (inr i) j))

agree_around : (o : Span) (xs : List Span) (b e : ℕ) → o.header < b → e < o.merge → ((y : Span) → Within b e y → Clear o.header o.kind y)
    → ((y : Span) → Has xs y → Within b e y) → IsTrue (all_agree xs) → IsTrue (all_agree (o ∷ xs))
agree_around o xs b e p q c r h =
    both (list_all (agree o) xs) (all_agree xs) (each_passes (agree o) xs (λ y i. agree_inner b e o y p q (c y (r y i)) (r y i))) h

pub agreeing : (x : Layout) (b : ℕ) → IsTrue (all_agree (constructs x b))
agreeing (Straight code) b = refl
agreeing (CaseAt v l) b = refl
agreeing (DefaultAt l) b = refl
agreeing (Breaks n) b = refl
agreeing (Continues n) b = refl
agreeing (Returns n) b = refl
agreeing (Both x y) b = agree_append (constructs x b) (constructs y (b + blocks x)) (agreeing x b) (agreeing y (b + blocks x))
    (λ s t i j. agree_apart b (b + blocks x) (b + blocks x + blocks y) s t (within x b s i) (within y (b + blocks x) t j))
agreeing (Guarded t i m x) b = agree_around (span b (b + 1 + blocks x + 1) Selection) (constructs x (b + 1)) (b + 1) (b + 1 + blocks x)
    (omega arith) (omega arith) (λ y w. tt) (λ y j. within x (b + 1) y j) (agreeing x (b + 1))
agreeing (Switched on i m x) b =
    let e = b + 1 + blocks x + 1 in
    agree_around (span b e (Choice (unwrap_or (other x (b + 1)) e) (targets x (b + 1)))) (constructs x (b + 1)) (b + 1) (b + 1 + blocks x)
    (omega arith) (omega arith) (λ y w. tt) (λ y j. within x (b + 1) y j) (agreeing x (b + 1))
agreeing (Looped h i c m x) b =
    agree_around (span (b + 1) (b + 1 + 1 + blocks x + 1 + 1) (Loop (b + 1 + 1 + blocks x + 1))) (constructs x (b + 1 + 1)) (b + 1 + 1)
    (b + 1 + 1 + blocks x)
    (omega arith) (omega arith) (λ y w. inr (omega (arith, w.2))) (λ y j. within x (b + 1 + 1) y j) (agreeing x (b + 1 + 1))
agreeing (Chosen t y n m x z) b =
    let c = b + 1 + blocks x + 1 in
    let xs = constructs x (b + 1) in
    let zs = constructs z c in
    agree_around (span b (c + blocks z + 1) Selection) (xs ++ zs) (b + 1) (c + blocks z) (omega arith) (omega arith) (λ v w. tt)
    (λ v i. ⊎_elim
    (λ j. widen (b + 1) (b + 1) (b + 1 + blocks x) (c + blocks z) v (omega arith) (omega arith) (within x (b + 1) v j))
    (λ j. widen (b + 1) c (c + blocks z) (c + blocks z) v (omega arith) (omega arith) (within z c v j))
    (has_either xs zs v i))
    (agree_append xs zs (agreeing x (b + 1)) (agreeing z c)
    (λ s u i j. agree_apart (b + 1) c (c + blocks z) s u
    (widen (b + 1) (b + 1) (b + 1 + blocks x) c s (omega arith) (omega arith) (within x (b + 1) s i)) (within z c u j)))
