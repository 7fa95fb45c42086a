-- The branches inside a switch keep to its parts.
use Rattle.std.proofs.Common.{◌≡◌, ℕ, ◌+◌, ◌<◌, ◌≤◌, ◌⊎◌, inl, inr, ⊎_elim, List, [], ◌∷◌, ◌++◌, map, Bool, true, false, refl, sym, ap, subst, arith, Option, Some, None}
use Rattle.std.specs.Prelude.{nat_eq, nat_lt, nat_le, ◌&&◌, not, cond, IsTrue, unwrap_or}
use Rattle.std.specs.List.{list_all}
use Rattle.std.proofs.lemmas.Bool.Decides.{nat_tests}
use Rattle.spirv_words.specs.Blocks.{Edge, edge, Span, Kind, Selection, Loop, Choice}
use Rattle.spirv_words.specs.Structure.{is_around, is_crossed, ascend, cuts, keeps_parts, is_parted}
use Rattle.spirv_flow.specs.Layout.{Layout, Straight, Both, Guarded, Chosen, Looped, Switched, CaseAt, DefaultAt, Breaks, Continues, Returns, Placed}
use Rattle.spirv_flow.proofs.Members.{Has, has_either, has_mapped, le_true, both, either_first, either_second, each_passes, first_holds, second_holds}
use Rattle.spirv_flow.proofs.Shape.{blocks, targets, other, span, constructs, branches}
use Rattle.spirv_flow.proofs.Nesting.{within}
use Rattle.spirv_flow.proofs.Branches.{Target, target_cases, no_target}

-- breaks and continues lead behind block e
pub record Ahead (l a : Bool) (e brk cont : ℕ) : Type 0 where
  pub leave : a ≡ true → e < brk
  pub renew : l ≡ true → e < cont

ahead_to : (l a : Bool) (e f brk cont : ℕ) → f ≤ e → Ahead l a e brk cont → Ahead l a f brk cont
ahead_to l a e f brk cont p w = record { leave = λ t. omega (arith, p, w.leave t); renew = λ t. omega (arith, p, w.renew t) }

abbrev Away : Bool → Bool → ℕ → ℕ → ℕ → Type 0
Away l a brk cont q = ((a ≡ true) × (q ≡ brk)) ⊎ ((l ≡ true) × (q ≡ cont))

-- a branch from one of the blocks b to e, to another of them or away
abbrev Reaches : Bool → Bool → ℕ → ℕ → ℕ → ℕ → Edge → Type 0
Reaches l a b e brk cont x = (b ≤ x.from) × (x.from ≤ e) × (b < x.to) × ((x.to ≤ e) ⊎ Away l a brk cont x.to)

reaches_in : (l a : Bool) (b e brk cont : ℕ) (x y : Edge) → x ≡ y → b ≤ y.from → y.from ≤ e → b < y.to → y.to ≤ e → Reaches l a b e brk cont x
reaches_in l a b e brk cont x y z p q r s = subst (Reaches l a b e brk cont) (sym z) (p, q, r, inl s)

reaches_wider : (l a : Bool) (b e c f brk cont : ℕ) (x : Edge) → b ≤ c → f ≤ e → Reaches l a c f brk cont x → Reaches l a b e brk cont x
reaches_wider l a b e c f brk cont x p q w =
    (omega (arith, w.0, p), omega (arith, w.1, q), omega (arith, w.2, p), ⊎_elim (λ u. inl (omega (arith, u, q))) (λ u. inr u) w.3)

target_range : (x : Layout) (b t : ℕ) → Target x b t → (b < t) × (t ≤ b + blocks x)
target_range (CaseAt v l) b t (inl (inl e)) = (omega (arith, e), omega (arith, e))
target_range (CaseAt v l) b t (inl (inr i)) = absurd i
target_range (CaseAt v l) b t (inr e) = no_target None t refl (inr e)
target_range (DefaultAt l) b t (inl i) = absurd i
target_range (DefaultAt l) b t (inr e) = let f : b + 1 ≡ t = cc in (omega (arith, f), omega (arith, f))
target_range (Both x y) b t m = ⊎_elim
    (λ j. let w = target_range x b t j in (w.0, omega (arith, w.1)))
    (λ j. let w = target_range y (b + blocks x) t j in (omega (arith, w.0), omega (arith, w.1)))
    (target_cases x y b t m)
target_range (Straight code) b t m = no_target None t refl m
target_range (Guarded g i n x) b t m = no_target None t refl m
target_range (Chosen g y n q x z) b t m = no_target None t refl m
target_range (Looped h i c n x) b t m = no_target None t refl m
target_range (Switched on i n x) b t m = no_target None t refl m
target_range (Breaks n) b t m = no_target None t refl m
target_range (Continues n) b t m = no_target None t refl m
target_range (Returns n) b t m = no_target None t refl m

other_range : (b e m : ℕ) (o : Option ℕ) → ((t : ℕ) → o ≡ Some t → (b < t) × (t ≤ e)) → (b < m) × (m ≤ e) → (b < unwrap_or o m) × (unwrap_or o m ≤ e)
other_range b e m None f w = w
other_range b e m (Some t) f w = f t refl

-- breaks and continues of a loop's body, and breaks of a switch's, lead behind it
ahead_loop : (e : ℕ) → Ahead true true e (e + 1 + 1) (e + 1)
ahead_loop e = record { leave = λ t. omega arith; renew = λ t. omega arith }

ahead_switch : (l a : Bool) (n e brk cont : ℕ) → e ≤ n → Ahead l a n brk cont → Ahead l true e (e + 1) cont
ahead_switch l a n e brk cont p w = record { leave = λ t. omega arith; renew = λ t. omega (arith, p, w.renew t) }

pub reaches : (x : Layout) (b brk cont : ℕ) (l a : Bool) → Placed x l a → Ahead l a (b + blocks x) brk cont → (s : Edge) → Has (branches x b brk cont)
    s
    → Reaches l a b (b + blocks x) brk cont s
reaches (Straight code) b brk cont l a p w s i = absurd i
reaches (Returns n) b brk cont l a p w s i = absurd i
reaches (CaseAt v k) b brk cont l a p w s (inl e) = reaches_in l a b (b + 1) brk cont s (edge b (b + 1)) e (omega arith) (omega arith) (omega arith)
    (omega arith)
reaches (CaseAt v k) b brk cont l a p w s (inr i) = absurd i
reaches (DefaultAt k) b brk cont l a p w s (inl e) = reaches_in l a b (b + 1) brk cont s (edge b (b + 1)) e (omega arith) (omega arith) (omega arith)
    (omega arith)
reaches (DefaultAt k) b brk cont l a p w s (inr i) = absurd i
reaches (Breaks n) b brk cont l a p w s (inl e) =
    subst (Reaches l a b (b + 1) brk cont) (sym e) (omega arith, omega arith, omega (arith, w.leave p), inr (inl (p, refl)))
reaches (Breaks n) b brk cont l a p w s (inr i) = absurd i
reaches (Continues n) b brk cont l a p w s (inl e) =
    subst (Reaches l a b (b + 1) brk cont) (sym e) (omega arith, omega arith, omega (arith, w.renew p), inr (inr (p, refl)))
reaches (Continues n) b brk cont l a p w s (inr i) = absurd i
reaches (Both x y) b brk cont l a p w s i =
    let c = b + blocks x in
    let n = b + blocks (Both x y) in
    ⊎_elim
    (λ j. reaches_wider l a b n b c brk cont s (omega arith) (omega arith)
    (reaches x b brk cont l a p.0 (ahead_to l a n c brk cont (omega arith) w) s j))
    (λ j. reaches_wider l a b n c (c + blocks y) brk cont s (omega arith) (omega arith)
    (reaches y c brk cont l a p.1 (ahead_to l a n (c + blocks y) brk cont (omega arith) w) s j))
    (has_either (branches x b brk cont) (branches y c brk cont) s i)
reaches (Guarded t j m x) b brk cont l a p w s i =
    let f = b + 1 + blocks x in
    let n = b + blocks (Guarded t j m x) in
    ⊎_elim (λ e. reaches_in l a b n brk cont s (edge b (b + 1)) e (omega arith) (omega arith) (omega arith) (omega arith))
    (⊎_elim (λ e. reaches_in l a b n brk cont s (edge b (f + 1)) e (omega arith) (omega arith) (omega arith) (omega arith))
    (λ k. ⊎_elim
    (λ u. reaches_wider l a b n (b + 1) f brk cont s (omega arith) (omega arith)
    (reaches x (b + 1) brk cont l a p (ahead_to l a n f brk cont (omega arith) w) s u))
    (⊎_elim (λ e. reaches_in l a b n brk cont s (edge f (f + 1)) e (omega arith) (omega arith) (omega arith) (omega arith)) (λ z. absurd z))
    (has_either (branches x (b + 1) brk cont) (edge f (f + 1) ∷ []) s k))) i
reaches (Chosen t y o m x z) b brk cont l a p w s i =
    let f = b + 1 + blocks x in
    let g = f + 1 + blocks z in
    let n = b + blocks (Chosen t y o m x z) in
    let last = edge g (g + 1) ∷ [] in
    ⊎_elim (λ e. reaches_in l a b n brk cont s (edge b (b + 1)) e (omega arith) (omega arith) (omega arith) (omega arith))
    (⊎_elim (λ e. reaches_in l a b n brk cont s (edge b (f + 1)) e (omega arith) (omega arith) (omega arith) (omega arith))
    (λ k. ⊎_elim
    (λ u. reaches_wider l a b n (b + 1) f brk cont s (omega arith) (omega arith)
    (reaches x (b + 1) brk cont l a p.0 (ahead_to l a n f brk cont (omega arith) w) s u))
    (⊎_elim (λ e. reaches_in l a b n brk cont s (edge f (g + 1)) e (omega arith) (omega arith) (omega arith) (omega arith))
    (λ q. ⊎_elim
    (λ u. reaches_wider l a b n (f + 1) g brk cont s (omega arith) (omega arith)
    (reaches z (f + 1) brk cont l a p.1 (ahead_to l a n g brk cont (omega arith) w) s u))
    (⊎_elim (λ e. reaches_in l a b n brk cont s (edge g (g + 1)) e (omega arith) (omega arith) (omega arith) (omega arith)) (λ v. absurd v))
    (has_either (branches z (f + 1) brk cont) last s q)))
    (has_either (branches x (b + 1) brk cont) (edge f (g + 1) ∷ (branches z (f + 1) brk cont ++ last)) s k))) i
reaches (Looped h j o m x) b brk cont l a p w s i =
    let c = b + 1 + 1 in
    let f = c + blocks x in
    let n = b + blocks (Looped h j o m x) in
    ⊎_elim (λ e. reaches_in l a b n brk cont s (edge b (b + 1)) e (omega arith) (omega arith) (omega arith) (omega arith))
    (⊎_elim (λ e. reaches_in l a b n brk cont s (edge (b + 1) (b + 1 + 1)) e (omega arith) (omega arith) (omega arith) (omega arith))
    (λ k. ⊎_elim
    (λ u. let r = reaches x c (f + 1 + 1) (f + 1) true true p (ahead_loop f) s u in (
      omega (arith, r.0),
      omega (arith, r.1),
      omega (arith, r.2),
      inl (⊎_elim (λ v. omega (arith, v)) (⊎_elim (λ v. omega (arith, v.1)) (λ v. omega (arith, v.1))) r.3),
    ))
    (⊎_elim (λ e. reaches_in l a b n brk cont s (edge f (f + 1)) e (omega arith) (omega arith) (omega arith) (omega arith))
    (⊎_elim (λ e. reaches_in l a b n brk cont s (edge (f + 1) (b + 1)) e (omega arith) (omega arith) (omega arith) (omega arith)) (λ v. absurd v)))
    (has_either (branches x c (f + 1 + 1) (f + 1)) (edge f (f + 1) ∷ edge (f + 1) (b + 1) ∷ []) s k))) i
reaches (Switched on j m x) b brk cont l a p w s i =
    let f = b + 1 + blocks x in
    let n = b + blocks (Switched on j m x) in
    let d = unwrap_or (other x (b + 1)) (f + 1) in
    let r = other_range b n (f + 1) (other x (b + 1))
    (λ t z. let u = target_range x (b + 1) t (inr z) in (omega (arith, u.0), omega (arith, u.1))) (omega arith, omega arith) in
    let ts = map (edge b) (targets x (b + 1)) in
    let es = branches x (b + 1) (f + 1) cont in
    ⊎_elim (λ e. reaches_in l a b n brk cont s (edge b d) e (omega arith) (omega arith) r.0 r.1)
    (λ k. ⊎_elim
    (λ u. let v = has_mapped (edge b) (targets x (b + 1)) s u in
    let t = target_range x (b + 1) v.0 (inl v.1) in
    reaches_in l a b n brk cont s (edge b v.0) v.2 (omega arith) (omega arith) (omega (arith, t.0)) (omega (arith, t.1)))
    (λ u. ⊎_elim
    (λ v. let q = reaches x (b + 1) (f + 1) cont l true p (ahead_switch l a n f brk cont (omega arith) w) s v in (
      omega (arith, q.0),
      omega (arith, q.1),
      omega (arith, q.2),
      ⊎_elim (λ y. inl (omega (arith, y))) (⊎_elim (λ y. inl (omega (arith, y.1))) (λ y. inr (inr y))) q.3,
    ))
    (⊎_elim (λ e. reaches_in l a b n brk cont s (edge f (f + 1)) e (omega arith) (omega arith) (omega arith) (omega arith)) (λ v. absurd v))
    (has_either es (edge f (f + 1) ∷ []) s u))
    (has_either ts (es ++ (edge f (f + 1) ∷ [])) s k)) i

-- A branch within a layout passes over the block of none of its cases.
not_crossed : (p q t : ℕ) → ((t ≤ p) ⊎ (q ≤ t)) × ((t ≤ q) ⊎ (p < t)) → IsTrue (not (is_crossed p q t))
not_crossed p q t w = grind (arith, nat_tests)

outside_numbers : (h m p q : ℕ) → ((p ≤ h) ⊎ (m ≤ p)) ⊎ (m ≤ q) → IsTrue (not ((nat_lt h p && nat_lt p m) && (nat_lt h q && nat_lt q m)))
outside_numbers h m p q w = grind (arith, nat_tests)

kept_outside : (o : Span) (ts : List ℕ) (s : Edge) → ((s.from ≤ o.header) ⊎ (o.merge ≤ s.from)) ⊎ (o.merge ≤ s.to) → IsTrue (keeps_parts o ts s)
kept_outside o ts s w = either_first (not (is_around s.from o && is_around s.to o)) (list_all (λ t. not (is_crossed s.from s.to t)) ts)
    (outside_numbers o.header o.merge s.from s.to w)

far_away : (l a : Bool) (e brk cont q : ℕ) → Ahead l a e brk cont → Away l a brk cont q → e < q
far_away l a e brk cont q w (inl u) = let z = w.leave u.0 in omega (arith, z, u.1)
far_away l a e brk cont q w (inr u) = let z = w.renew u.0 in omega (arith, z, u.1)

not_away : (l a : Bool) (e f brk cont q : ℕ) → Ahead l a e brk cont → q ≤ e → (q ≤ f) ⊎ Away l a brk cont q → q ≤ f
not_away l a e f brk cont q w h (inl u) = u
not_away l a e f brk cont q w h (inr u) = let z = far_away l a e brk cont q w u in absurd (omega (arith, z, h))

uncrossed : (x : Layout) (b brk cont : ℕ) (l a : Bool) → Placed x l a → Ahead l a (b + blocks x) brk cont → (s : Edge) → Has (branches x b brk cont) s
    → s.to ≤ b + blocks x → (t : ℕ) → Target x b t → IsTrue (not (is_crossed s.from s.to t))
uncrossed (CaseAt v k) b brk cont l a p w s i h t m =
    let r = reaches (CaseAt v k) b brk cont l a p w s i in
    let u = target_range (CaseAt v k) b t m in
    not_crossed s.from s.to t (inr (omega (arith, h, u.0)), inl (omega (arith, r.2, u.1)))
uncrossed (DefaultAt k) b brk cont l a p w s i h t m =
    let r = reaches (DefaultAt k) b brk cont l a p w s i in
    let u = target_range (DefaultAt k) b t m in
    not_crossed s.from s.to t (inr (omega (arith, h, u.0)), inl (omega (arith, r.2, u.1)))
uncrossed (Both x y) b brk cont l a p w s i h t m =
    let c = b + blocks x in
    let e = b + blocks (Both x y) in
    let wx = ahead_to l a e c brk cont (omega arith) w in
    let wy = ahead_to l a e (c + blocks y) brk cont (omega arith) w in
    ⊎_elim
    (λ j. let r = reaches x b brk cont l a p.0 wx s j in
    let z = not_away l a e c brk cont s.to w h r.3 in
    ⊎_elim (λ n. uncrossed x b brk cont l a p.0 wx s j z t n)
    (λ n. let v = target_range y c t n in not_crossed s.from s.to t (inr (omega (arith, z, v.0)), inr (omega (arith, r.1, v.0))))
    (target_cases x y b t m))
    (λ j. let r = reaches y c brk cont l a p.1 wy s j in
    ⊎_elim (λ n. let v = target_range x b t n in not_crossed s.from s.to t (inl (omega (arith, r.0, v.1)), inl (omega (arith, r.2, v.1))))
    (λ n. uncrossed y c brk cont l a p.1 wy s j (omega (arith, h)) t n)
    (target_cases x y b t m))
    (has_either (branches x b brk cont) (branches y c brk cont) s i)
uncrossed (Straight code) b brk cont l a p w s i h t m = no_target None t refl m
uncrossed (Guarded g j n x) b brk cont l a p w s i h t m = no_target None t refl m
uncrossed (Chosen g y n q x z) b brk cont l a p w s i h t m = no_target None t refl m
uncrossed (Looped g j n q x) b brk cont l a p w s i h t m = no_target None t refl m
uncrossed (Switched on j n x) b brk cont l a p w s i h t m = no_target None t refl m
uncrossed (Breaks n) b brk cont l a p w s i h t m = no_target None t refl m
uncrossed (Continues n) b brk cont l a p w s i h t m = no_target None t refl m
uncrossed (Returns n) b brk cont l a p w s i h t m = no_target None t refl m

-- THE TARGETS of a switch ascend.
ascend_append : (q r : ℕ) (xs ys : List ℕ) → q ≤ r → IsTrue (ascend q xs) → ((t : ℕ) → Has xs t → t ≤ r) → ((u : ℕ) → u ≤ r → IsTrue (ascend u ys))
    → IsTrue (ascend q (xs ++ ys))
ascend_append q r [] ys l h f g = g q l
ascend_append q r (x ∷ xs) ys l h f g =
    both (nat_le q x) (ascend x (xs ++ ys)) (first_holds (nat_le q x) (ascend x xs) h)
    (ascend_append x r xs ys (f x (inl refl)) (second_holds (nat_le q x) (ascend x xs) h) (λ t i. f t (inr i)) g)

ascending : (x : Layout) (b q : ℕ) → q ≤ b → IsTrue (ascend q (targets x b))
ascending (CaseAt v k) b q l = both (nat_le q (b + 1)) true (le_true q (b + 1) (omega (arith, l))) refl
ascending (Both x y) b q l = ascend_append q (b + blocks x) (targets x b) (targets y (b + blocks x)) (omega (arith, l)) (ascending x b q l)
    (λ t i. (target_range x b t (inl i)).1) (λ u h. ascending y (b + blocks x) u h)
ascending (DefaultAt k) b q l = refl
ascending (Straight code) b q l = refl
ascending (Guarded t i m x) b q l = refl
ascending (Chosen t y n m x z) b q l = refl
ascending (Looped h i c m x) b q l = refl
ascending (Switched on i m x) b q l = refl
ascending (Breaks n) b q l = refl
ascending (Continues n) b q l = refl
ascending (Returns n) b q l = refl

abbrev KindAscends : Kind → Type 0
KindAscends (Choice d ts) = IsTrue (ascend 0 ts)
KindAscends k = Unit {0}

kind_at : (o c : Span) → o ≡ c → KindAscends c.kind → KindAscends o.kind
kind_at o c e h = subst (λ z. KindAscends z.kind) (sym e) h

kinds_ascend : (x : Layout) (b : ℕ) (o : Span) → Has (constructs x b) o → KindAscends o.kind
kinds_ascend (Straight code) b o i = absurd i
kinds_ascend (CaseAt v k) b o i = absurd i
kinds_ascend (DefaultAt k) b o i = absurd i
kinds_ascend (Breaks n) b o i = absurd i
kinds_ascend (Continues n) b o i = absurd i
kinds_ascend (Returns n) b o i = absurd i
kinds_ascend (Both x y) b o i = ⊎_elim (kinds_ascend x b o) (kinds_ascend y (b + blocks x) o)
    (has_either (constructs x b) (constructs y (b + blocks x)) o i)
kinds_ascend (Guarded t j m x) b o i = ⊎_elim (λ e. kind_at o (span b (b + 1 + blocks x + 1) Selection) e tt) (kinds_ascend x (b + 1) o) i
kinds_ascend (Chosen t y n m x z) b o i =
    let c = b + 1 + blocks x + 1 in
    ⊎_elim (λ e. kind_at o (span b (c + blocks z + 1) Selection) e tt)
    (λ j. ⊎_elim (kinds_ascend x (b + 1) o) (kinds_ascend z c o) (has_either (constructs x (b + 1)) (constructs z c) o j)) i
kinds_ascend (Looped h j c m x) b o i =
    ⊎_elim (λ e. kind_at o (span (b + 1) (b + 1 + 1 + blocks x + 1 + 1) (Loop (b + 1 + 1 + blocks x + 1))) e tt) (kinds_ascend x (b + 1 + 1) o) i
kinds_ascend (Switched on j m x) b o i =
    let e = b + 1 + blocks x + 1 in
    ⊎_elim (λ z. kind_at o (span b e (Choice (unwrap_or (other x (b + 1)) e) (targets x (b + 1)))) z (ascending x (b + 1) 0 (omega arith)))
    (kinds_ascend x (b + 1) o) i

-- A branch keeps to the parts of a construct.
abbrev KindKept : Span → Edge → Kind → Type 0
KindKept o s (Choice d ts) = IsTrue (keeps_parts o (cuts o.merge d ++ ts) s)
KindKept o s k = Unit {0}

abbrev Kept : Span → Edge → Type 0
Kept o s = KindKept o s o.kind

kept_kind : (o : Span) (s : Edge) (k : Kind) → (s.from ≤ o.header) ⊎ (o.merge ≤ s.from) → KindKept o s k
kept_kind o s (Choice d ts) w = kept_outside o (cuts o.merge d ++ ts) s (inl w)
kept_kind o s (Loop c) w = tt
kept_kind o s Selection w = tt

kept_apart : (o : Span) (s : Edge) → (s.from ≤ o.header) ⊎ (o.merge ≤ s.from) → Kept o s
kept_apart o s w = kept_kind o s o.kind w

kept_at : (o c : Span) (s : Edge) → o ≡ c → Kept c s → Kept o s
kept_at o c s e h = subst (λ z. Kept z s) (sym e) h

from_of : (s : Edge) (p q : ℕ) → s ≡ edge p q → s.from ≡ p
from_of s p q e = ap (λ y. y.from) e

to_of : (s : Edge) (p q : ℕ) → s ≡ edge p q → s.to ≡ q
to_of s p q e = ap (λ y. y.to) e

-- the parts begin with the blocks of cases
when_other : (b : Bool) (d t : ℕ) → Has (cond b [] (d ∷ [])) t → (b ≡ false) × (t ≡ d)
when_other true d t j = absurd j
when_other false d t (inl z) = (refl, z)
when_other false d t (inr j) = absurd j

no_self : (m : ℕ) → nat_eq m m ≡ false → ⊥
no_self m h = grind (arith, nat_tests)

cut_target : (m t : ℕ) (o : Option ℕ) → Has (cuts m (unwrap_or o m)) t → o ≡ Some t
cut_target m t None j = absurd (no_self m (when_other (nat_eq m m) m t j).0)
cut_target m t (Some d) j = ap Some (sym (when_other (nat_eq d m) d t j).1)

parts_targets : (x : Layout) (c m t : ℕ) → Has (cuts m (unwrap_or (other x c) m) ++ targets x c) t → Target x c t
parts_targets x c m t i = ⊎_elim (λ j. inr (cut_target m t (other x c) j)) (λ j. inl j)
    (has_either (cuts m (unwrap_or (other x c) m)) (targets x c) t i)

kept_inside : (x : Layout) (b m cont : ℕ) (l : Bool) → m ≡ b + 1 + blocks x + 1 → Placed x l true → Ahead l true (b + 1 + blocks x) m cont
    → (s : Edge)
    → Has (branches x (b + 1) m cont) s → Kept (span b m (Choice (unwrap_or (other x (b + 1)) m) (targets x (b + 1)))) s
kept_inside x b m cont l e p w s i =
    let d = unwrap_or (other x (b + 1)) m in
    let ts = targets x (b + 1) in
    let o = span b m (Choice d ts) in
    let r = reaches x (b + 1) m cont l true p w s i in
    let crossed = λ (t : ℕ). not (is_crossed s.from s.to t) in
    ⊎_elim
    (λ h. either_second (not (is_around s.from o && is_around s.to o)) (list_all crossed (cuts m d ++ ts))
    (each_passes crossed (cuts m d ++ ts) (λ t j. uncrossed x (b + 1) m cont l true p w s i h t (parts_targets x (b + 1) m t j))))
    (λ h. let f = far_away l true (b + 1 + blocks x) m cont s.to w h in kept_outside o (cuts m d ++ ts) s (inr (omega (arith, f, e))))
    r.3

pub kept : (x : Layout) (b brk cont : ℕ) (l a : Bool) → Placed x l a → Ahead l a (b + blocks x) brk cont → (o : Span) → Has (constructs x b) o
    → (s : Edge)
    → Has (branches x b brk cont) s → Kept o s
kept (Straight code) b brk cont l a p w o i s j = absurd i
kept (CaseAt v k) b brk cont l a p w o i s j = absurd i
kept (DefaultAt k) b brk cont l a p w o i s j = absurd i
kept (Breaks n) b brk cont l a p w o i s j = absurd i
kept (Continues n) b brk cont l a p w o i s j = absurd i
kept (Returns n) b brk cont l a p w o i s j = absurd i
kept (Both x y) b brk cont l a p w o i s j =
    let c = b + blocks x in
    let e = b + blocks (Both x y) in
    let wx = ahead_to l a e c brk cont (omega arith) w in
    let wy = ahead_to l a e (c + blocks y) brk cont (omega arith) w in
    let es = branches x b brk cont in
    let fs = branches y c brk cont in
    ⊎_elim
    (λ h. let q = within x b o h in
    ⊎_elim (λ k. kept x b brk cont l a p.0 wx o h s k)
    (λ k. let r = reaches y c brk cont l a p.1 wy s k in kept_apart o s (inr (omega (arith, r.0, q.2)))) (has_either es fs s j))
    (λ h. let q = within y c o h in
    ⊎_elim (λ k. let r = reaches x b brk cont l a p.0 wx s k in kept_apart o s (inl (omega (arith, r.1, q.0))))
    (λ k. kept y c brk cont l a p.1 wy o h s k) (has_either es fs s j))
    (has_either (constructs x b) (constructs y c) o i)
kept (Guarded t n m x) b brk cont l a p w o (inl e) s j = kept_at o (span b (b + 1 + blocks x + 1) Selection) s e tt
kept (Guarded t n m x) b brk cont l a p w o (inr i) s j =
    let f = b + 1 + blocks x in
    let q = within x (b + 1) o i in
    ⊎_elim (λ e. kept_apart o s (inl (omega (arith, from_of s b (b + 1) e, q.0))))
    (⊎_elim (λ e. kept_apart o s (inl (omega (arith, from_of s b (f + 1) e, q.0))))
    (λ k. ⊎_elim (λ u. kept x (b + 1) brk cont l a p (ahead_to l a (b + blocks (Guarded t n m x)) f brk cont (omega arith) w) o i s u)
    (⊎_elim (λ e. kept_apart o s (inr (omega (arith, from_of s f (f + 1) e, q.2)))) (λ z. absurd z))
    (has_either (branches x (b + 1) brk cont) (edge f (f + 1) ∷ []) s k))) j
kept (Chosen t y n m x z) b brk cont l a p w o (inl e) s j = kept_at o (span b (b + 1 + blocks x + 1 + blocks z + 1) Selection) s e tt
kept (Chosen t y n m x z) b brk cont l a p w o (inr i) s j =
    let f = b + 1 + blocks x in
    let c = f + 1 in
    let g = c + blocks z in
    let e = b + blocks (Chosen t y n m x z) in
    let wx = ahead_to l a e f brk cont (omega arith) w in
    let wz = ahead_to l a e g brk cont (omega arith) w in
    let es = branches x (b + 1) brk cont in
    let fs = branches z c brk cont in
    let last = edge g (g + 1) ∷ [] in
    ⊎_elim
    (λ h. let q = within x (b + 1) o h in
    ⊎_elim (λ v. kept_apart o s (inl (omega (arith, from_of s b (b + 1) v, q.0))))
    (⊎_elim (λ v. kept_apart o s (inl (omega (arith, from_of s b c v, q.0))))
    (λ k. ⊎_elim (λ u. kept x (b + 1) brk cont l a p.0 wx o h s u)
    (⊎_elim (λ v. kept_apart o s (inr (omega (arith, from_of s f (g + 1) v, q.2))))
    (λ r. ⊎_elim (λ u. let v = reaches z c brk cont l a p.1 wz s u in kept_apart o s (inr (omega (arith, v.0, q.2))))
    (⊎_elim (λ v. kept_apart o s (inr (omega (arith, from_of s g (g + 1) v, q.2)))) (λ v. absurd v))
    (has_either fs last s r)))
    (has_either es (edge f (g + 1) ∷ (fs ++ last)) s k))) j)
    (λ h. let q = within z c o h in
    ⊎_elim (λ v. kept_apart o s (inl (omega (arith, from_of s b (b + 1) v, q.0))))
    (⊎_elim (λ v. kept_apart o s (inl (omega (arith, from_of s b c v, q.0))))
    (λ k. ⊎_elim (λ u. let v = reaches x (b + 1) brk cont l a p.0 wx s u in kept_apart o s (inl (omega (arith, v.1, q.0))))
    (⊎_elim (λ v. kept_apart o s (inl (omega (arith, from_of s f (g + 1) v, q.0))))
    (λ r. ⊎_elim (λ u. kept z c brk cont l a p.1 wz o h s u)
    (⊎_elim (λ v. kept_apart o s (inr (omega (arith, from_of s g (g + 1) v, q.2)))) (λ v. absurd v))
    (has_either fs last s r)))
    (has_either es (edge f (g + 1) ∷ (fs ++ last)) s k))) j)
    (has_either (constructs x (b + 1)) (constructs z c) o i)
kept (Looped h n c m x) b brk cont l a p w o (inl e) s j =
    kept_at o (span (b + 1) (b + 1 + 1 + blocks x + 1 + 1) (Loop (b + 1 + 1 + blocks x + 1))) s e tt
kept (Looped h n v m x) b brk cont l a p w o (inr i) s j =
    let c = b + 1 + 1 in
    let f = c + blocks x in
    let q = within x c o i in
    ⊎_elim (λ e. kept_apart o s (inl (omega (arith, from_of s b (b + 1) e, q.0))))
    (⊎_elim (λ e. kept_apart o s (inl (omega (arith, from_of s (b + 1) c e, q.0))))
    (λ k. ⊎_elim (λ u. kept x c (f + 1 + 1) (f + 1) true true p (ahead_loop f) o i s u)
    (⊎_elim (λ e. kept_apart o s (inr (omega (arith, from_of s f (f + 1) e, q.2))))
    (⊎_elim (λ e. kept_apart o s (inr (omega (arith, from_of s (f + 1) (b + 1) e, q.2)))) (λ z. absurd z)))
    (has_either (branches x c (f + 1 + 1) (f + 1)) (edge f (f + 1) ∷ edge (f + 1) (b + 1) ∷ []) s k))) j
kept (Switched on n v x) b brk cont l a p w o i s j =
    let f = b + 1 + blocks x in
    let m = f + 1 in
    let d = unwrap_or (other x (b + 1)) m in
    let ts = targets x (b + 1) in
    let es = branches x (b + 1) m cont in
    let own = span b m (Choice d ts) in
    let ahead = ahead_switch l a (b + blocks (Switched on n v x)) f brk cont (omega arith) w in
    let low : b ≤ o.header = ⊎_elim (λ e. let h : o.header ≡ b = ap (λ z. z.header) e in omega (arith, h)) (λ h. let q = within x (b + 1) o h in
    omega (arith, q.0)) i in
    ⊎_elim (λ e. kept_apart o s (inl (omega (arith, from_of s b d e, low))))
    (λ k. ⊎_elim (λ u. let r = has_mapped (edge b) ts s u in kept_apart o s (inl (omega (arith, from_of s b r.0 r.2, low))))
    (λ u. ⊎_elim
    (λ z. ⊎_elim (λ e. kept_at o own s e (kept_inside x b m cont l refl p ahead s z)) (λ h. kept x (b + 1) m cont l true p ahead o h s z) i)
    (⊎_elim
    (λ e. ⊎_elim (λ g. kept_at o own s g (kept_outside own (cuts m d ++ ts) s (inr (omega (arith, to_of s f m e)))))
    (λ h. let q = within x (b + 1) o h in kept_apart o s (inr (omega (arith, from_of s f m e, q.2)))) i)
    (λ z. absurd z))
    (has_either es (edge f m ∷ []) s u))
    (has_either (map (edge b) ts) (es ++ (edge f m ∷ [])) s k)) j

kind_parted : (o : Span) (es : List Edge) (k : Kind) → KindAscends k → ((s : Edge) → Has es s → KindKept o s k) → IsTrue (is_parted o es k)
kind_parted o es (Choice d ts) a h = both (ascend 0 ts) (list_all (keeps_parts o (cuts o.merge d ++ ts)) es) a
    (each_passes (keeps_parts o (cuts o.merge d ++ ts)) es h)
kind_parted o es (Loop c) a h = refl
kind_parted o es Selection a h = refl

pub parted : (x : Layout) (b brk cont : ℕ) (l a : Bool) → Placed x l a → Ahead l a (b + blocks x) brk cont
    → IsTrue (list_all (λ o. is_parted o (branches x b brk cont) o.kind) (constructs x b))
parted x b brk cont l a p w = each_passes (λ o. is_parted o (branches x b brk cont) o.kind) (constructs x b)
    (λ o i. kind_parted o (branches x b brk cont) o.kind (kinds_ascend x b o i) (kept x b brk cont l a p w o i))
