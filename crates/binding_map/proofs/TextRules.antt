-- What two bindings share, and the rules on texts line by line.
use Rattle.std.proofs.Common.{◌≡◌, ℕ, zero, suc, ◌+◌, ◌<◌, ◌≤◌, ◌^◌, ◌⊎◌, ⊎_elim, inl, inr, Bool, true, false, cond, nat_eq, nat_lt, List, [], ◌∷◌, ◌++◌, length, slice_get, Some, None, refl, sym, ap, ◌∙◌, subst, arith, length-append, find}
use Rattle.std.specs.Prelude.{◌&&◌, ◌||◌, ◌==◌, max, min, nat_le, filter_map, map}
use Rattle.std.specs.Option.{option_map, option_to_list}
use Rattle.std.proofs.lemmas.Bool.Decides.{eqb_tells}
use Rattle.std.proofs.lemmas.Option.{slice_get_within}
use Rattle.word_base.specs.declared.rule.Refusal.{Refusal}
use Rattle.word_base.specs.declared.rule.Halt.{Halt}
use Rattle.word_base.specs.declared.rule.Halt.TheVariants.{Refused, NoMemory}
use Rattle.word_base.specs.declared.rule.Rule.TheVariants.{B2, B3}
use Rattle.word_base.specs.Rules.{refusal, comes_before, IsSound, HaltsBy}
use Rattle.binding_map.specs.declared.register.Register.{Register}
use Rattle.binding_map.specs.declared.register.Place.{Place}
use Rattle.binding_map.specs.declared.register.Place.TheVariants.{Bound, Push}
use Rattle.binding_map.specs.Bindings.{Binding, same_register, place_of, is_at, has_word, slot_of, IsPlaceFor}
use Rattle.binding_map.specs.Texts.{Said, Nothing, Unread, Names, said, said_in, named, Shares, register, descriptor, push, is_past, Breaks, again, unread, past}
use Rattle.binding_map.specs.declared.line.Named.{Named}
use Rattle.binding_map.specs.declared.line.Named.TheVariants as name
use Rattle.binding_map.specs.Joins.{MayJoin}
use Rattle.binding_map.specs.Lines.{binding_of, is_common, is_shared, IsNamed, LineBreaks, Adds}
use Rattle.std.specs.Str.Lines.{lines}
use Rattle.binding_map.proofs.Joined.{same_itself, same_number}
use Rattle.binding_map.proofs.Single.{same_is}
use Rattle.binding_map.proofs.LineParts.{is_none}

-- WHAT TWO BINDINGS SHARE
-- two places have a set and binding in common, or a push constant word
data Meets (p q : Place) : Type 0 where
  one : (set number : ℕ) → is_at p set number ≡ true → is_at q set number ≡ true → Meets p q
  word : (w : ℕ) → has_word p w ≡ true → has_word q w ≡ true → Meets p q

meets : (p q : Place) → is_common p q ≡ true → Meets p q
meets (Bound s b) (Bound set number) h =
    one set number h (cc (same_number set, same_number number))
meets (Push f c) (Push first count) h = word (max f first) (low f c first count h) (high f c first count h) where
  low : (f c first count : ℕ) → nat_lt (max f first) (min (f + c) (first + count)) ≡ true → (nat_le f (max f first) && nat_lt (max f first) (f + c)) ≡ true
  low f c first count h = grind arith

  high : (f c first count : ℕ) → nat_lt (max f first) (min (f + c) (first + count)) ≡ true → (nat_le first (max f first) && nat_lt (max f first) (first + count)) ≡ true
  high f c first count h = grind arith
meets (Bound s b) (Push first count) h = absurd (cc h)
meets (Push f c) (Bound set number) h = absurd (cc h)

misses : (p q : Place) → is_common p q ≡ false → Meets p q → ⊥
misses (Bound s b) (Bound set number) h (one x y e d) = grind arith
misses (Bound s b) (Bound set number) h (word w e d) = cc e
misses (Push f c) (Push first count) h (one x y e d) = cc e
misses (Push f c) (Push first count) h (word w e d) = grind arith
misses (Bound s b) (Push first count) h (one x y e d) = cc d
misses (Bound s b) (Push first count) h (word w e d) = cc e
misses (Push f c) (Bound set number) h (one x y e d) = cc e
misses (Push f c) (Bound set number) h (word w e d) = cc d

pub shared : (a b : Binding) → is_shared a b ≡ true → Shares a b
shared a b h = by (same_register a.register b.register) refl h where
  place : Meets a.place b.place → Shares a b
  place (one s n e d) = descriptor s n e d
  place (word w e d) = push w e d

  by : (t : Bool) → same_register a.register b.register ≡ t → cond t true (is_common a.place b.place) ≡ true → Shares a b
  by true e h = register (same_is a.register b.register e)
  by false e h = place (meets a.place b.place h)

pub unshared : (a b : Binding) → is_shared a b ≡ false → Shares a b → ⊥
unshared a b h s = by (same_register a.register b.register) refl h s where
  by : (t : Bool) → same_register a.register b.register ≡ t → cond t true (is_common a.place b.place) ≡ false → Shares a b → ⊥
  by true e h s = absurd (cc h)
  by false e h (register r) = absurd (cc (e, same_itself a.register, ap (same_register a.register) r))
  by false e h (descriptor x y p q) = misses a.place b.place h (one x y p q)
  by false e h (push w p q) = misses a.place b.place h (word w p q)

-- ADDING WHAT A LINE NAMES
pub none_before : (bindings : List Binding) (b : Binding) (i : ℕ) → ((j : ℕ) (a : Binding) → j < i → slice_get bindings j ≡ Some a → Shares a b → ⊥)
    → (c : Binding) → slice_get bindings i ≡ Some c → (Shares c b → ⊥) → (j : ℕ) (a : Binding) → j < i + 1 → slice_get bindings j ≡ Some a → Shares a b → ⊥
none_before bindings b i before c h apart j a lt g shares = ⊎_elim
    (λ e. apart (subst (λ x. Shares x b) (cc (h, g, e.1)) shares))
    (λ d. before j a (omega (arith, lt, d.1)) g shares)
    (eqb_tells j i)

pub not_found : (r : Register) (bindings : List Binding) → ((i : ℕ) (a : Binding) → slice_get bindings i ≡ Some a → a.register ≡ r → ⊥) → place_of bindings r ≡ None
not_found r [] none = refl
not_found r (b ∷ bindings) none = by (same_register r b.register) refl (not_found r bindings (λ i a h. none (suc i) a h)) where
  by : (t : Bool) → same_register r b.register ≡ t → place_of bindings r ≡ None
      → option_map (λ c. c.place) (cond (same_register r b.register) (Some b) (find (λ c. same_register r c.register) bindings)) ≡ None
  by true e rest = absurd (none 0 b refl (sym (same_is r b.register e)))
  by false e rest = ap (λ t. option_map (λ c. c.place) (cond t (Some b) (find (λ c. same_register r c.register) bindings))) e ∙ rest

pub may_join : (bindings : List Binding) (b : Binding) → (IsNamed bindings b → ⊥) → IsPlaceFor b.register b.place → slot_of b.register < 2 ^ 32 → length bindings ≤ 16777216 → MayJoin bindings b.register b.place
may_join bindings b apart suits slot few = record {
  absent = not_found b.register bindings (λ i a h e. apart (record { place = i; a = a; there = h; shares = register e }));
  descriptor = λ i a h set number p q. apart (record { place = i; a = a; there = h; shares = descriptor set number p q });
  push = λ i a h w p q. apart (record { place = i; a = a; there = h; shares = push w p q });
  is_word = slot;
  suits = suits;
  few = omega (arith, few);
}

pub suits : (n : Named) → is_past (binding_of n).place ≡ false → IsPlaceFor (binding_of n).register (binding_of n).place
suits (name.Bound r set number) h = (omega (arith, (within set number h).0), omega (arith, (within set number h).1)) where
  within : (set number : ℕ) → (nat_le 8 set || nat_le 65536 number) ≡ false → (set < 8) × (number < 65536)
  within set number h = grind arith
suits (name.Push slot first count) h = within first count h where
  within : (first count : ℕ) → (nat_eq count 0 || nat_lt 64 (first + count)) ≡ false → first + count ≤ 64
  within first count h = grind arith

pub place_given : (t : Bool) (p q : Place) → Some p ≡ cond t None (Some q) → (t ≡ false) × (p ≡ q)
place_given true p q h = absurd (cc h)
place_given false p q h = (refl, cc h)

-- LINE BY LINE
pub front : {X : Type 0} (xs ys : List X) (i : ℕ) → i < length xs → slice_get (xs ++ ys) i ≡ slice_get xs i
front [] ys i h = absurd (omega (arith, h))
front (x ∷ xs) ys zero h = refl
front (x ∷ xs) ys (suc i) h = front xs ys i (omega (arith, h))

pub here : {X : Type 0} (xs ys : List X) (x : X) → slice_get (xs ++ x ∷ ys) (length xs) ≡ Some x
here [] ys x = refl
here (y ∷ xs) ys x = here xs ys x

either : (i n : ℕ) → (i < n) ⊎ ((i ≡ n) ⊎ (n < i))
either i n = grind arith

-- a named binding is in the map of the lines, and the other way round
in_map : (xs : List Said) (i : ℕ) (a : Binding) → slice_get xs i ≡ Some (Names a) → (j : ℕ) × (slice_get (filter_map named xs) j ≡ Some a)
in_map [] i a h = absurd (cc h)
in_map (Nothing ∷ xs) zero a h = absurd (cc h)
in_map (Nothing ∷ xs) (suc i) a h = in_map xs i a h
in_map (Unread ∷ xs) zero a h = absurd (cc h)
in_map (Unread ∷ xs) (suc i) a h = in_map xs i a h
in_map (Names b ∷ xs) zero a h = (0, cc h)
in_map (Names b ∷ xs) (suc i) a h = let r = in_map xs i a h in (suc r.0, r.1)

in_lines : (xs : List Said) (j : ℕ) (a : Binding) → slice_get (filter_map named xs) j ≡ Some a → (i : ℕ) × (i < length xs) × (slice_get xs i ≡ Some (Names a))
in_lines [] j a h = absurd (cc h)
in_lines (Nothing ∷ xs) j a h = let r = in_lines xs j a h in (suc r.0, omega (arith, r.1), r.2)
in_lines (Unread ∷ xs) j a h = let r = in_lines xs j a h in (suc r.0, omega (arith, r.1), r.2)
in_lines (Names b ∷ xs) zero a h = (0, omega arith, cc h)
in_lines (Names b ∷ xs) (suc j) a h = let r = in_lines xs j a h in (suc r.0, omega (arith, r.1), r.2)

pub map_more : (xs : List Said) (s : Said) → filter_map named (xs ++ s ∷ []) ≡ filter_map named xs ++ option_to_list (named s)
map_more [] Nothing = refl
map_more [] Unread = refl
map_more [] (Names b) = refl
map_more (Nothing ∷ xs) s = map_more xs s
map_more (Unread ∷ xs) s = map_more xs s
map_more (Names b ∷ xs) s = ap (λ l. b ∷ l) (map_more xs s)

pub map_length : (xs : List Said) → length (filter_map named xs) ≤ length xs
map_length [] = omega arith
map_length (Nothing ∷ xs) = omega (arith, map_length xs)
map_length (Unread ∷ xs) = omega (arith, map_length xs)
map_length (Names b ∷ xs) = omega (arith, map_length xs)

-- a rule that is broken behind the first lines
pub data Behind (n most : ℕ) (r : Refusal) : Type 0 where
  twice : (i : ℕ) → n < i → i < most → r ≡ refusal B2 (i + 1) → Behind n most r
  unread' : (i : ℕ) → n < i → i < most → r ≡ refusal B3 (i + 1) → Behind n most r

module _ (xs ys : List Said) (s : Said) where
  at_line : (i : ℕ) (t : Said) → i ≡ length xs → slice_get (xs ++ s ∷ ys) i ≡ Some t → s ≡ t
  at_line i t e h = cc (here xs ys s, ap (slice_get (xs ++ s ∷ ys)) e, h)

  unread_here : (t : Said) (r : Refusal) → s ≡ t → LineBreaks (filter_map named xs) t (length xs + 1) r → LineBreaks (filter_map named xs) s (length xs + 1) r
  unread_here t r e b = subst (λ u. LineBreaks (filter_map named xs) u (length xs + 1) r) (sym e) b

  -- where a rule is broken: in the lines before, in this line, or behind it
  pub where_broken : (r : Refusal) → Breaks (xs ++ s ∷ ys) r → Breaks xs r ⊎ (LineBreaks (filter_map named xs) s (length xs + 1) r ⊎ Behind (length xs) (length (xs ++ s ∷ ys)) r)
  where_broken r (again i n e) = ⊎_elim
      (λ lt. inl (again i (record { before = n.before; earlier = n.earlier; a = n.a; there = sym (front xs (s ∷ ys) n.before (omega (arith, n.earlier, lt))) ∙ n.there; b = n.b; here = sym (front xs (s ∷ ys) i lt) ∙ n.here; shares = n.shares }) e))
      (λ other. inr (⊎_elim
      (λ q.
      let there = sym (front xs (s ∷ ys) n.before (omega (arith, n.earlier, q))) ∙ n.there in
      let m = in_map xs n.before n.a there in
      inl (unread_here (Names n.b) r (at_line i (Names n.b) q n.here) (inl (record { place = m.0; a = n.a; there = m.1; shares = n.shares }, e ∙ ap (λ k. refusal B2 (k + 1)) q))))
      (λ gt. inr (twice i gt (slice_get_within (xs ++ s ∷ ys) i (Names n.b) n.here) e))
      other))
      (either i (length xs))
  where_broken r (unread i h e) = ⊎_elim
      (λ lt. inl (unread i (sym (front xs (s ∷ ys) i lt) ∙ h) e))
      (λ other. inr (⊎_elim
      (λ q. inl (unread_here Unread r (at_line i Unread q h) (e ∙ ap (λ k. refusal B3 (k + 1)) q)))
      (λ gt. inr (unread' i gt (slice_get_within (xs ++ s ∷ ys) i Unread h) e))
      other))
      (either i (length xs))
  where_broken r (past i n e) = ⊎_elim
      (λ lt. inl (past i (record { b = n.b; here = sym (front xs (s ∷ ys) i lt) ∙ n.here; past = n.past }) e))
      (λ other. inr (⊎_elim
      (λ q. inl (unread_here (Names n.b) r (at_line i (Names n.b) q n.here) (inr (n.past, e ∙ ap (λ k. refusal B3 (k + 1)) q))))
      (λ gt. inr (unread' i gt (slice_get_within (xs ++ s ∷ ys) i (Names n.b) n.here) e))
      other))
      (either i (length xs))

-- what this line breaks is broken
broken_here : (xs ys : List Said) (s : Said) (r : Refusal) → LineBreaks (filter_map named xs) s (length xs + 1) r → Breaks (xs ++ s ∷ ys) r
broken_here xs ys Nothing r b = absurd b
broken_here xs ys Unread r b = unread (length xs) (here xs ys Unread) b
broken_here xs ys (Names b) r (inl n) =
    let m = in_lines xs n.0.place n.0.a n.0.there in
    again (length xs) (record { before = m.0; earlier = m.1; a = n.0.a; there = front xs (Names b ∷ ys) m.0 m.1 ∙ m.2; b = b; here = here xs ys (Names b); shares = n.0.shares }) n.1
broken_here xs ys (Names b) r (inr p) = past (length xs) (record { b = b; here = here xs ys (Names b); past = p.0 }) p.1

rule_of : (bindings : List Binding) (s : Said) (line : ℕ) (r : Refusal) → LineBreaks bindings s line r → (r ≡ refusal B2 line) ⊎ (r ≡ refusal B3 line)
rule_of bindings Nothing line r b = absurd b
rule_of bindings Unread line r b = inr b
rule_of bindings (Names c) line r (inl n) = inl n.1
rule_of bindings (Names c) line r (inr p) = inr p.1

later_22 : (m n : ℕ) → n < m → comes_before (refusal B2 m) (refusal B2 n) ≡ false
later_22 m n h = grind arith

later_23 : (m n : ℕ) → n < m → comes_before (refusal B2 m) (refusal B3 n) ≡ false
later_23 m n h = grind arith

later_32 : (m n : ℕ) → n < m → comes_before (refusal B3 m) (refusal B2 n) ≡ false
later_32 m n h = grind arith

later_33 : (m n : ℕ) → n < m → comes_before (refusal B3 m) (refusal B3 n) ≡ false
later_33 m n h = grind arith

behind : (n most : ℕ) (q r : Refusal) → Behind n most q → (r ≡ refusal B2 (n + 1)) ⊎ (r ≡ refusal B3 (n + 1)) → comes_before q r ≡ false
behind n most q r (twice i lt _ e) (inl f) = rw (e, f) (later_22 (i + 1) (n + 1) (omega (arith, lt)))
behind n most q r (twice i lt _ e) (inr f) = rw (e, f) (later_23 (i + 1) (n + 1) (omega (arith, lt)))
behind n most q r (unread' i lt _ e) (inl f) = rw (e, f) (later_32 (i + 1) (n + 1) (omega (arith, lt)))
behind n most q r (unread' i lt _ e) (inr f) = rw (e, f) (later_33 (i + 1) (n + 1) (omega (arith, lt)))

pub sound_more : (xs : List Said) (s : Said) → IsSound (Breaks xs) → IsSound (LineBreaks (filter_map named xs) s (length xs + 1)) → IsSound (Breaks (xs ++ s ∷ []))
sound_more xs s before this q b = ⊎_elim (before q) (⊎_elim (this q) none) (where_broken xs [] s q b) where
  none : Behind (length xs) (length (xs ++ s ∷ [])) q → ⊥
  none (twice i gt lt e) = absurd (omega (arith, gt, lt, length-append xs (s ∷ [])))
  none (unread' i gt lt e) = absurd (omega (arith, gt, lt, length-append xs (s ∷ [])))

pub halts : (xs ys : List Said) (s : Said) (h : Halt) → IsSound (Breaks xs) → HaltsBy (LineBreaks (filter_map named xs) s (length xs + 1)) h → HaltsBy (Breaks (xs ++ s ∷ ys)) h
halts xs ys s NoMemory before this = this
halts xs ys s (Refused r) before this = record {
  is_broken = broken_here xs ys s r this.is_broken;
  is_least = λ q b. ⊎_elim (λ x. absurd (before q x)) (⊎_elim (this.is_least q) (λ x. behind (length xs) (length (xs ++ s ∷ ys)) q r x (rule_of (filter_map named xs) s (length xs + 1) r this.is_broken))) (where_broken xs ys s q b);
}

-- LINES READ SO FAR
pub taken : (bytes rest line behind : List ℕ) (done : List Said) → said_in bytes ≡ done ++ said_in rest → lines rest ≡ line ∷ lines behind → said_in bytes ≡ done ++ said line ∷ said_in behind
taken bytes rest line behind done all first = all ∙ ap (λ l. done ++ map said l) first

pub none_left : (bytes rest : List ℕ) (done : List Said) (r : Bool) → said_in bytes ≡ done ++ said_in rest → r ≡ (length rest == 0) → r ≡ true → said_in bytes ≡ done
none_left bytes rest done r all e h = all ∙ ap (λ x. done ++ said_in x) (is_none rest r e h) ∙ append_none done where
  append_none : (xs : List Said) → xs ++ [] ≡ xs
  append_none [] = refl
  append_none (x ∷ xs) = ap (λ l. x ∷ l) (append_none xs)

pub adds_on : (done : List Said) (s t : Said) (old new : List Binding) (line : ℕ) → t ≡ s → line ≡ length done → old ≡ filter_map named done → IsSound (Breaks done) → Adds old new t (line + 1)
    → (new ≡ filter_map named (done ++ s ∷ [])) × IsSound (Breaks (done ++ s ∷ []))
adds_on done s t old new line e n m sound adds = (
  adds.list ∙ ap (λ l. l ++ option_to_list (named t)) m ∙ ap (λ u. filter_map named done ++ option_to_list (named u)) e ∙ sym (map_more done s),
  sound_more done s sound
      (subst (λ u. IsSound (LineBreaks (filter_map named done) u (length done + 1))) e
      (subst (λ k. IsSound (LineBreaks (filter_map named done) t (k + 1))) n (subst (λ l. IsSound (LineBreaks l t (line + 1))) m adds.sound))),
)

pub halts_on : (all done rest : List Said) (s t : Said) (old : List Binding) (line : ℕ) (h : Halt) → all ≡ done ++ s ∷ rest → t ≡ s → line ≡ length done → old ≡ filter_map named done
    → IsSound (Breaks done) → HaltsBy (LineBreaks old t (line + 1)) h → HaltsBy (Breaks all) h
halts_on all done rest s t old line h a e n m sound this =
    subst (λ l. HaltsBy (Breaks l) h) (sym a)
    (halts done rest s h sound
    (subst (λ u. HaltsBy (LineBreaks (filter_map named done) u (length done + 1)) h) e
    (subst (λ k. HaltsBy (LineBreaks (filter_map named done) t (k + 1)) h) n (subst (λ l. HaltsBy (LineBreaks l t (line + 1)) h) m this))))
