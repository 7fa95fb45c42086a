-- What a symbol needs has a lower rank, and is made in front of it.
use Rattle.std.proofs.Common.{◌≡◌, ℕ, zero, suc, ◌+◌, ◌-◌, ◌<◌, ◌≤◌, List, [], ◌∷◌, ◌++◌, length, take, map, Bool, true, false, Some, refl, sym, ap, ◌∙◌, subst, arith, append_assoc}
use Rattle.std.specs.Prelude.{slice_get}
use Rattle.word_base.specs.declared.event.Room.TheVariants.{Resource, Uav, Counter, Shared}
use Rattle.spirv_words.specs.BuiltIn.{LocalInvocationIndex}
use Rattle.std.specs.Prelude.{nat_eq, if◌then◌else◌}
use Rattle.spirv_symbols.specs.declared.symbol.Symbol.{Symbol}
use Rattle.spirv_symbols.specs.declared.symbol.Symbol.TheVariants.{AType, Constant, True, Null, Immediates, Import, Main, FirstLabel, Input, Memory, Uniform, Push, Scratch, Register, Registers, Elements, ImmediateArray}
use Rattle.spirv_symbols.specs.declared.symbol.TypeSymbol.{TypeSymbol}
use Rattle.spirv_symbols.specs.declared.symbol.TypeSymbol.TheVariants.{Void, Procedure, Word, Truth, Triple, Quad, Pair, Words, PushWords, Vectors, RuntimeWords, View, VectorsBlock, PushBlock, WordPointer, TriplePointer, LocalPointer, SharedPointer, ViewPointer, VectorsPointer, PushPointer}
use Rattle.spirv_symbols.specs.declared.row.Part.{Part}
use Rattle.spirv_symbols.specs.declared.row.Part.TheVariants.{Own, Of, Number}
use Rattle.spirv_symbols.specs.Contexts.{Context}
use Rattle.spirv_symbols.specs.Rows.{needs, needs_in, rank, words_of, total, with_needs, most_ids, most_words}
use Rattle.spirv_symbols.specs.Tables.{Table, Entry, entry, Has, Absent, AreThere, Stands, Extends, Makes, Puts, weight}
use Rattle.spirv_symbols.proofs.EntriesLaws.{append_none}
use Rattle.spirv_symbols.proofs.Growing.{there_on, there_append, there_left, there_right, stays}

-- RANKS
abbrev pub AreBelow : List Symbol → ℕ → Type 0
AreBelow [] n = Unit {0}
AreBelow (s ∷ ss) n = (rank s < n) × AreBelow ss n

one : (s : Symbol) (n : ℕ) → rank s < n → AreBelow (s ∷ []) n
one s n h = (h, tt)

constants_below : (ws : List ℕ) → AreBelow (needs_in (map (λ w. Of (Constant w)) ws)) 3
constants_below [] = tt
constants_below (w ∷ ws) = (omega arith, constants_below ws)

input_below : (b : Bool) → rank (AType (if b then WordPointer 1 else TriplePointer)) < 5
input_below true = omega arith
input_below false = omega arith

type_below : (t : TypeSymbol) (context : Context) → AreBelow (needs context (AType t)) (rank (AType t))
type_below Void c = tt
type_below Procedure c = (omega arith, tt)
type_below Word c = tt
type_below Truth c = tt
type_below Triple c = (omega arith, tt)
type_below Quad c = (omega arith, tt)
type_below Pair c = (omega arith, (omega arith, tt))
type_below (Words n) c = (omega arith, (omega arith, tt))
type_below (PushWords n) c = (omega arith, (omega arith, tt))
type_below (Vectors n) c = (omega arith, (omega arith, tt))
type_below RuntimeWords c = (omega arith, tt)
type_below (View access) c = (omega arith, tt)
type_below (VectorsBlock n) c = (omega arith, tt)
type_below (PushBlock n) c = (omega arith, tt)
type_below (WordPointer class) c = (omega arith, tt)
type_below TriplePointer c = (omega arith, tt)
type_below (LocalPointer n) c = (omega arith, tt)
type_below (SharedPointer n) c = (omega arith, tt)
type_below (ViewPointer access) c = (omega arith, tt)
type_below (VectorsPointer n) c = (omega arith, tt)
type_below (PushPointer n) c = (omega arith, tt)

pub ranks : (s : Symbol) (context : Context) → AreBelow (needs context s) (rank s)
ranks (AType t) c = type_below t c
ranks (Constant w) c = (omega arith, tt)
ranks True c = (omega arith, tt)
ranks (Null n) c = (omega arith, tt)
ranks Immediates c = (omega arith, constants_below c.immediates)
ranks Import c = tt
ranks Main c = (omega arith, (omega arith, tt))
ranks FirstLabel c = tt
ranks (Input built_in) c = (input_below (nat_eq built_in LocalInvocationIndex), tt)
ranks (Memory (Resource slot)) c = (omega arith, tt)
ranks (Memory (Uav slot)) c = (omega arith, tt)
ranks (Memory (Counter slot)) c = (omega arith, tt)
ranks (Memory (Shared slot)) c = (omega arith, tt)
ranks (Uniform slot) c = (omega arith, tt)
ranks Push c = (omega arith, tt)
ranks (Scratch n) c = (omega arith, (omega arith, tt))
ranks (Register k) c = (omega arith, (omega arith, tt))
ranks Registers c = (omega arith, (omega arith, tt))
ranks (Elements slot) c = (omega arith, (omega arith, tt))
ranks ImmediateArray c = (omega arith, (omega arith, tt))

-- an operand that is a symbol is one of the needs
pub part_below : (parts : List Part) (k : ℕ) (s : Symbol) (n : ℕ) → AreBelow (needs_in parts) n → slice_get parts k ≡ Some (Of s) → rank s < n
part_below [] k s n b h = absurd (cc h)
part_below (Own ∷ parts) zero s n b h = absurd (cc h)
part_below (Own ∷ parts) (suc k) s n b h = part_below parts k s n b h
part_below (Number m ∷ parts) zero s n b h = absurd (cc h)
part_below (Number m ∷ parts) (suc k) s n b h = part_below parts k s n b h
part_below (Of u ∷ parts) zero s n b h = let e : u ≡ s = cc h in subst (λ z. rank z < n) e b.0
part_below (Of u ∷ parts) (suc k) s n b h = part_below parts k s n b.1 h

-- THE SUMS
module _ (context : Context) (f : Symbol → ℕ) where
  pub total_append : (g : Symbol → ℕ) (ss us : List Symbol) → total g (ss ++ us) ≡ total g ss + total g us
  total_append g [] us = omega arith
  total_append g (s ∷ ss) us = omega (arith, total_append g ss us)

  total_mono : (g h : Symbol → ℕ) → ((s : Symbol) → g s ≤ h s) → (ss : List Symbol) → total g ss ≤ total h ss
  total_mono g h le [] = omega arith
  total_mono g h le (s ∷ ss) = omega (arith, le s, total_mono g h le ss)

  deeper : (d : ℕ) (s : Symbol) → with_needs context f d s ≤ with_needs context f (suc d) s
  deeper zero s = omega arith
  deeper (suc d) s = omega (arith, total_mono (with_needs context f d) (with_needs context f (suc d)) (deeper d) (needs context s))

  far : (j d : ℕ) (s : Symbol) → with_needs context f d s ≤ with_needs context f (j + d) s
  far zero d s = let e : 0 + d ≡ d = omega arith in subst (λ n. with_needs context f d s ≤ with_needs context f n s) (sym e) (omega arith)
  far (suc j) d s =
      let e : suc j + d ≡ suc (j + d) = omega arith in
      subst (λ n. with_needs context f d s ≤ with_needs context f n s) (sym e) (omega (arith, far j d s, deeper (j + d) s))

  within : (d n : ℕ) (s : Symbol) → d ≤ n → with_needs context f d s ≤ with_needs context f n s
  within d n s h = let e : (n - d) + d ≡ n = omega (arith, h) in subst (λ m. with_needs context f d s ≤ with_needs context f m s) e (far (n - d) d s)

  abbrev pub most : Symbol → ℕ
  most s = with_needs context f (rank s) s

  total_below : (ss : List Symbol) (n : ℕ) → AreBelow ss (suc n) → total most ss ≤ total (with_needs context f n) ss
  total_below [] n b = omega arith
  total_below (s ∷ ss) n b = omega (arith, within (rank s) n s (omega (arith, b.0)), total_below ss n b.1)

  pub most_of : (s : Symbol) → f s + total most (needs context s) ≤ most s
  most_of s = by (rank s) refl (ranks s context) where
    none : (ss : List Symbol) → AreBelow ss 0 → total most ss ≡ 0
    none [] b = refl
    none (u ∷ us) b = absurd (omega (arith, b.0))

    by : (n : ℕ) → rank s ≡ n → AreBelow (needs context s) (rank s) → f s + total most (needs context s) ≤ with_needs context f (rank s) s
    by zero e b =
        let z = none (needs context s) (subst (λ n. AreBelow (needs context s) n) e b) in
        subst (λ n. f s + total most (needs context s) ≤ with_needs context f n s) (sym e) (omega (arith, z))
    by (suc n) e b =
        let z = total_below (needs context s) n (subst (λ m. AreBelow (needs context s) m) e b) in
        subst (λ m. f s + total most (needs context s) ≤ with_needs context f m s) (sym e) (omega (arith, z))

-- TABLES THAT GROW
pub extends_on : (a b c : Table) → Extends a b → Extends b c → Extends a c
extends_on a b c x y = record {
  more = x.more ++ y.more;
  list = y.list ∙ ap (λ l. l ++ y.more) x.list ∙ append_assoc a.entries x.more y.more;
  later = λ k e h. laters x.more k e (λ j g i. x.later j g i) h;
  next' = omega (arith, x.next', y.next');
  limit' = y.limit' ∙ x.limit';
} where
  laters : (more : List Entry) (k : ℕ) (e : Entry) → ((j : ℕ) (g : Entry) → slice_get more j ≡ Some g → a.next ≤ g.id)
      → slice_get (more ++ y.more) k ≡ Some e → a.next ≤ e.id
  laters [] k e h i = omega (arith, x.next', y.later k e i)
  laters (m ∷ ms) zero e h i = h 0 e i
  laters (m ∷ ms) (suc k) e h i = laters ms k e (λ j g p. h (suc j) g p) i

-- THE NEEDS ARE MADE, ONE AFTER THE OTHER
pub record Needed (context : Context) (old new : Table) (ss : List Symbol) : Type 0 where
  pub stands : Stands context new
  pub extends : Extends old new
  pub there : AreThere new.entries ss new.next
  pub ids : new.next ≤ old.next + total (most_ids context) ss
  pub words : weight context new.entries ≤ weight context old.entries + total (most_words context) ss
  pub same : AreThere old.entries ss old.next → new ≡ old

module _ (context : Context) where
  pub needed_none : (t : Table) → Stands context t → Needed context t t []
  needed_none t st = record { stands = st; extends = stays t; there = tt; ids = omega arith; words = omega arith; same = λ h. refl }

  pub needed_more : (a b c : Table) (ss : List Symbol) (s : Symbol) (r : ℕ) → Needed context a b ss → Makes context b c s r → Needed context a c
      (ss ++ s ∷ [])
  needed_more a b c ss s r n m = record {
    stands = m.stands;
    extends = extends_on a b c n.extends m.extends;
    there = there_append c.entries ss (s ∷ []) c.next (there_on b c ss b.next c.next m.extends.next' m.extends n.there) ((r, m.here, m.below), tt);
    ids = omega (arith, n.ids, m.ids, total_append context (λ _. 1) (most_ids context) ss (s ∷ []));
    words = omega (arith, n.words, m.words, total_append context (λ _. 1) (most_words context) ss (s ∷ []));
    same = λ h.
        let e = n.same (there_left a.entries ss (s ∷ []) a.next h) in
        let i = (there_right a.entries ss (s ∷ []) a.next h).0 in
        m.same i.0 (subst (λ (t : Table). Has t.entries s i.0) (sym e) i.1) ∙ e;
  }

  -- a symbol behind its needs
  pub made : (a b c : Table) (s : Symbol) (r : ℕ) → Absent a.entries s → Needed context a b (needs context s) → Puts context b c s r
      → Makes context a c s r
  made a b c s r ab n p = record {
    stands = p.stands;
    extends = extends_on a b c n.extends p.extends;
    here = p.here;
    below = p.below;
    ids = omega (arith, n.ids, p.ids, most_of context (λ _. 1) s);
    words = omega (arith, n.words, p.words, most_of context (words_of context) s);
    same = λ id h. absurd (ab id h);
    alone = λ t _.
        let e = n.same t in
        let f = p.alone (subst (λ (x : Table). Absent x.entries s) (sym e) ab) in
        (f.0 ∙ ap (λ (x : Table). x.entries ++ entry s r ∷ []) e, f.1 ∙ ap (λ (x : Table). x.next + 1) e);
  }

  pub found : (a : Table) (s : Symbol) (r : ℕ) → Stands context a → Has a.entries s r → Makes context a a s r
  found a s r st h = record {
    stands = st;
    extends = stays a;
    here = h;
    below = st.table.below h.0 (entry s r) h.1;
    ids = omega arith;
    words = omega arith;
    same = λ id i. refl;
    alone = λ t ab. absurd (ab r h);
  }

-- THE LOOP over operands
needs_append : (ps qs : List Part) → needs_in (ps ++ qs) ≡ needs_in ps ++ needs_in qs
needs_append [] qs = refl
needs_append (Own ∷ ps) qs = needs_append ps qs
needs_append (Of s ∷ ps) qs = ap (λ l. s ∷ l) (needs_append ps qs)
needs_append (Number n ∷ ps) qs = needs_append ps qs

take_suc : {X : Type 0} (xs : List X) (k : ℕ) (x : X) → slice_get xs k ≡ Some x → take (suc k) xs ≡ take k xs ++ x ∷ []
take_suc [] k x h = absurd (cc h)
take_suc (y ∷ ys) zero x h = cc h
take_suc (y ∷ ys) (suc k) x h = ap (λ l. y ∷ l) (take_suc ys k x h)

pub take_next : {X : Type 0} (xs : List X) (k : ℕ) (x : X) → slice_get xs k ≡ Some x → take (k + 1) xs ≡ take k xs ++ x ∷ []
take_next xs k x h = let e : k + 1 ≡ suc k = omega arith in ap (λ n. take n xs) e ∙ take_suc xs k x h

pub needs_next : (parts : List Part) (k : ℕ) (p : Part) → slice_get parts k ≡ Some p → needs_in (take (k + 1) parts) ≡ needs_in (take k parts) ++
    needs_in (p ∷ [])
needs_next parts k p h = ap needs_in (take_next parts k p h) ∙ needs_append (take k parts) (p ∷ [])

no_need : (p : Part) → ((s : Symbol) → p ≡ Of s → ⊥) → needs_in (p ∷ []) ≡ []
no_need Own d = refl
no_need (Of s) d = absurd (d s refl)
no_need (Number n) d = refl

pub needs_pass : (parts : List Part) (k : ℕ) (p : Part) → slice_get parts k ≡ Some p → ((s : Symbol) → p ≡ Of s → ⊥)
    → needs_in (take (k + 1) parts) ≡ needs_in (take k parts)
needs_pass parts k p h d = needs_next parts k p h ∙ ap (λ l. needs_in (take k parts) ++ l) (no_need p d) ∙ append_none (needs_in (take k parts))

take_drop : {X : Type 0} (xs : List X) (k : ℕ) → (ys : List X) × (xs ≡ take k xs ++ ys)
take_drop xs zero = (xs, refl)
take_drop [] (suc k) = ([], refl)
take_drop (x ∷ xs) (suc k) = let r = take_drop xs k in (r.0, ap (λ l. x ∷ l) r.1)

pub room_for : (context : Context) (s u : Symbol) (parts : List Part) (k : ℕ) (a b : Table) → needs_in parts ≡ needs context s
    → slice_get parts k ≡ Some (Of u)
    → Needed context a b (needs_in (take k parts)) → a.next + most_ids context s ≤ a.limit → b.next + most_ids context u ≤ b.limit
room_for context s u parts k a b e h n le =
    let r = take_drop parts (k + 1) in
    let i = total_append context (λ _. 1) (most_ids context) (needs_in (take (k + 1) parts)) (needs_in r.0) in
    let j = total_append context (λ _. 1) (most_ids context) (needs_in (take k parts)) (u ∷ []) in
    let p = ap (total (most_ids context)) (sym e ∙ ap needs_in r.1 ∙ needs_append (take (k + 1) parts) r.0) in
    let q = ap (total (most_ids context)) (needs_next parts k (Of u) h) in
    omega (arith, i, j, p, q, n.ids, n.extends.limit', le, most_of context (λ _. 1) s)

pub room_left : (context : Context) (s : Symbol) (a b : Table) → Needed context a b (needs context s) → a.next + most_ids context s ≤ a.limit
    → b.next < b.limit
room_left context s a b n le = omega (arith, n.ids, n.extends.limit', le, most_of context (λ _. 1) s)

take_all : {X : Type 0} (xs : List X) (k : ℕ) → length xs ≤ k → take k xs ≡ xs
take_all [] zero h = refl
take_all [] (suc k) h = refl
take_all (x ∷ xs) zero h = absurd (omega (arith, h))
take_all (x ∷ xs) (suc k) h = ap (λ l. x ∷ l) (take_all xs k (omega (arith, h)))

pub needed_all : (context : Context) (s : Symbol) (parts : List Part) (k : ℕ) (a b : Table) → needs_in parts ≡ needs context s → length parts ≤ k
    → Needed context a b (needs_in (take k parts)) → Needed context a b (needs context s)
needed_all context s parts k a b e le n = subst (λ ss. Needed context a b ss) (ap needs_in (take_all parts k le) ∙ e) n
