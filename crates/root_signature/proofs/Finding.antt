-- What is found with one more range, and with ranges that were read before.
use Rattle.std.proofs.Common.{◌≡◌, ◌≢◌, ℕ, zero, suc, ◌+◌, ◌*◌, ◌<◌, ◌≤◌, ◌⊎◌, inl, inr, ⊎_elim, Bool, true, false, List, [], ◌∷◌, ◌++◌, length, get_or, set, Option, Some, None, refl, sym, ap, ◌∙◌, subst, arith, length-set, append_assoc}
use Rattle.std.specs.Prelude.{Contains, slice_index, ◌&&◌, nat_le}
use Rattle.std.proofs.Math.Nat.{mul-le-mul_left, mul-add}
use Rattle.std.proofs.lemmas.Bool.Decides.{nat_tests}
use Rattle.std.proofs.lemmas.List.{append-nil, map-append, get_or-set_same, get_or-set_other}
use Rattle.std.proofs.lemmas.List.Elements.{Contains-append_left, Contains-append_right, Contains-push_cases}
use Rattle.word_base.specs.declared.rule.Rule.TheVariants.{G4}
use Rattle.word_base.specs.declared.rule.Refusal.{Refusal}
use Rattle.word_base.specs.Rules.{comes_before, refusal}
use Rattle.root_signature.specs.declared.covers.Entry.{Entry}
use Rattle.root_signature.specs.declared.runs.Test.TheVariants.{Bare}
use Rattle.root_signature.specs.Covers.{Span, lowest, highest, overlaps}
use Rattle.root_signature.specs.Layout.{range_words, range_at}
use Rattle.root_signature.specs.Covering.{span_of, spans_of, range_covered, table_covered}
use Rattle.root_signature.specs.Refusals.{IsCoveredTwice}
use Rattle.root_signature.specs.Bests.{Yields, merged}
use Rattle.root_signature.specs.Runs.{AreRuns, Marks, passes}
use Rattle.root_signature.specs.Thinning.{Thins, IsReady, FindsIn}
use Rattle.root_signature.proofs.Bests.{merged_ninth, neither, one_of, yields_first, yields_second}
use Rattle.root_signature.proofs.Whole.{whole}
use Rattle.root_signature.proofs.Records.{later}
use Rattle.root_signature.proofs.Eachs.{in_each, each_in, each_more, each_same}
use Rattle.root_signature.proofs.Members.{mapped, from_mapped}
use Rattle.root_signature.proofs.Twice.{twice_front, twice_across}
use Rattle.root_signature.proofs.Thinned.{thins_one, thins_more}
use Rattle.root_signature.proofs.Ranges.{covers_none, covers_some, its_place}

same_or_not : (a b : ℕ) → (a ≡ b) ⊎ (a ≢ b)
same_or_not a b = grind (arith, nat_tests)

pub spans_append : (xs ys : List Entry) → spans_of (xs ++ ys) ≡ spans_of xs ++ spans_of ys
spans_append xs ys = map-append span_of xs ys

-- entries that a range or a single record adds: none, or one with registers
abbrev pub IsSmall : List Entry → Type 0
IsSmall more = (more ≡ []) ⊎ ((e : Entry) × ((more ≡ e ∷ []) × (lowest e.covers ≤ highest e.covers)))

pub thins_small : (every kept more : List Entry) (best : Option Refusal) → IsSmall more → Thins (spans_of every) (spans_of kept) best
    → Thins (spans_of (every ++ more)) (spans_of (kept ++ more)) best
thins_small every kept more best (inl e) h =
    subst (λ m. Thins (spans_of (every ++ m)) (spans_of (kept ++ m)) best) (sym e)
    (subst (λ xs. Thins (spans_of xs) (spans_of (kept ++ [])) best) (sym (append-nil every)) (subst (λ xs. Thins (spans_of every) (spans_of xs) best) (sym (append-nil kept)) h))
thins_small every kept more best (inr w) h =
    subst (λ m. Thins (spans_of (every ++ m)) (spans_of (kept ++ m)) best) (sym w.1.0)
    (subst (λ s. Thins s (spans_of (kept ++ w.0 ∷ [])) best) (sym (spans_append every (w.0 ∷ [])))
    (subst (λ s. Thins (spans_of every ++ span_of w.0 ∷ []) s best) (sym (spans_append kept (w.0 ∷ []))) (thins_one (spans_of every) (spans_of kept) best (span_of w.0) h)))

pub some_small : (kept more : List Entry) → IsSmall more → ((e : Entry) → Contains kept e → lowest e.covers ≤ highest e.covers) → (e : Entry) → Contains (kept ++ more) e
    → lowest e.covers ≤ highest e.covers
some_small kept more (inl n) h e c = h e (subst (λ xs. Contains xs e) (ap (λ m. kept ++ m) n ∙ append-nil kept) c)
some_small kept more (inr w) h e c =
    ⊎_elim (λ m. h e m) (λ s. subst (λ x. lowest x.covers ≤ highest x.covers) s w.1.1) (Contains-push_cases kept w.0 e (subst (λ m. Contains (kept ++ m) e) w.1.0 c))

kept_set : (marks : List ℕ) (at x : ℕ) → at < length marks → 0 < get_or marks x 0 → 0 < get_or (set marks at 1) x 0
kept_set marks at x l p = ⊎_elim
    (λ (e : x ≡ at). subst (λ i. 0 < get_or (set marks at 1) i 0) (sym e) (omega (arith, get_or-set_same marks at 1 0 l)))
    (λ d. omega (arith, get_or-set_other marks at x 1 0 d)) (same_or_not x at)

module _ (content marks : List ℕ) (again : Option Refusal) (at : ℕ) (h : IsReady content marks again) (fits : at + 4 * range_words content ≤ length content) (big : 0 < range_words content) where
  inside : at < length marks
  inside = omega (arith, h.size, fits, big)

  at_once : (x k : ℕ) → x ≡ at → k < get_or (set marks at 1) at 0 → 0 < get_or (set marks at 1) (x + 4 * range_words content * k) 0
  at_once x zero s l = subst (λ i. 0 < get_or (set marks at 1) i 0) (sym (place x at (range_words content) s)) (omega (arith, get_or-set_same marks at 1 0 inside)) where
    place : (x at w : ℕ) → x ≡ at → x + 4 * w * 0 ≡ at
    place x at w e = omega (arith, e)
  at_once x (suc k) s l = absurd (omega (arith, get_or-set_same marks at 1 0 inside))

  elsewhere : (x n : ℕ) → x ≢ at → n < get_or (set marks at 1) x 0 → n < get_or marks x 0
  elsewhere x n d l = subst (λ m. n < m) (get_or-set_other marks at x 1 0 d) l

  pub ready_read : IsReady content (set marks at 1) again
  ready_read = record {
    are = λ x k l. ⊎_elim
        (λ (s : x ≡ at). at_once x k s (subst (λ i. k < get_or (set marks at 1) i 0) s l))
        (λ d. kept_set marks at (x + 4 * range_words content * k) inside (h.are x k (elsewhere x k d l)))
        (same_or_not x at);
    whole = λ x p. ⊎_elim
        (λ (q : x ≡ at). subst (λ i. i + 4 * range_words content ≤ length content) (sym q) fits)
        (λ d. h.whole x (elsewhere x 0 d p)) (same_or_not x at);
    size = length-set marks at 1 ∙ h.size;
    phase = h.phase;
  }

pub finds_read : (content : List ℕ) (every : List Entry) (words : ℕ) (entries more : List Entry) (marks : List ℕ) (again : Option Refusal) (at : ℕ)
    → FindsIn content every words entries marks again → at + 4 * range_words content ≤ length content → 0 < range_words content
    → range_covered content at ≡ more → IsSmall more
    → FindsIn content (every ++ range_covered content at) words (entries ++ more) (set marks at 1) again
finds_read content every words entries more marks again at h fits big e small =
    subst (λ m. FindsIn content (every ++ m) words (entries ++ more) (set marks at 1) again) (sym e) (record {
      thins = thins_small every entries more again small h.thins;
      exact = λ n l. ap (λ xs. xs ++ more) (h.exact n l);
      marked = λ x p s c. ⊎_elim
          (λ (q : x ≡ at). subst (λ ss. Contains ss s) (sym (spans_append entries more))
          (Contains-append_right (spans_of entries) (spans_of more) s (subst (λ m. Contains (spans_of m) s) e (subst (λ i. Contains (spans_of (range_covered content i)) s) q c))))
          (λ d. subst (λ ss. Contains ss s) (sym (spans_append entries more))
          (Contains-append_left (spans_of entries) (spans_of more) s (h.marked x (elsewhere content marks again at h.ready fits big x 0 d p) s c)))
          (same_or_not x at);
      some = some_small entries more small h.some;
      ready = ready_read content marks again at h.ready fits big;
    })

module _ (content : List ℕ) (every : List Entry) (words : ℕ) (entries : List Entry) (marks : List ℕ) (again : Option Refusal) (bare : List ℕ) (at run first : ℕ)
    (h : FindsIn content every words entries marks again) (runs : AreRuns (passes Bare content) (4 * range_words content) bare) (f : first ≡ slice_index bare at)
    (marked : (k : ℕ) → k < run → 0 < slice_index marks (range_at content at k)) where
  bare_before : (j : ℕ) → j < first → range_covered content (range_at content at j) ≡ []
  bare_before j l = covers_none content (range_at content at j) (runs.passed at j (subst (λ n. j < n) f l))

  each_none : (n : ℕ) → n ≤ first → table_covered content at n ≡ []
  each_none zero l = refl
  each_none (suc n) l = ap (λ xs. xs ++ range_covered content (range_at content at n)) (each_none n (omega arith)) ∙ bare_before n (omega arith)

  pub finds_bare : run ≤ first → FindsIn content (every ++ table_covered content at run) words entries marks again
  finds_bare l = subst (λ xs. FindsIn content xs words entries marks again) (sym (ap (λ m. every ++ m) (each_none run l) ∙ append-nil every)) h

  from_table : (s : Span) → Contains (spans_of (table_covered content at run)) s → (e : Entry) × ((span_of e ≡ s) × ((j : ℕ) × ((j < run) × Contains (range_covered content (range_at content at j)) e)))
  from_table s c =
      let w : (e : Entry) × (Contains (table_covered content at run) e × (span_of e ≡ s)) = from_mapped span_of (table_covered content at run) s c in
      let v : (j : ℕ) × (j < run) × Contains (range_covered content (range_at content at j)) w.0 = in_each run (λ j. range_covered content (range_at content at j)) w.0 w.1.0 in
      (w.0, (w.1.1, (v.0, (v.1, v.2))))

  held : (s : Span) → Contains (spans_of (table_covered content at run)) s → Contains (spans_of entries) s
  held s c =
      let w : (e : Entry) × ((span_of e ≡ s) × ((j : ℕ) × ((j < run) × Contains (range_covered content (range_at content at j)) e))) = from_table s c in
      subst (Contains (spans_of entries)) w.1.0
      (h.marked (range_at content at w.1.1.0) (marked w.1.1.0 w.1.1.1.0) (span_of w.0) (mapped span_of (range_covered content (range_at content at w.1.1.0)) w.0 w.1.1.1.1))

  cases : (a b : ℕ) → (a < b) ⊎ (b ≤ a)
  cases a b = grind (arith, nat_tests)

  not_earlier : (j : ℕ) (e : Entry) → Contains (range_covered content (range_at content at j)) e → first ≤ j
  not_earlier j e c = ⊎_elim
      (λ (l : j < first). none (subst (λ xs. Contains xs e) (bare_before j l) c))
      (λ l. l) (cases j first) where
        none : Contains [] e → first ≤ j
        none c = absurd (omega (arith, c.1))

  behind_first : (j : ℕ) → first ≤ j → (range_at content at first < range_at content at j) ⊎ ((range_at content at first ≡ range_at content at j) × (4 ≤ 4))
  behind_first j l = order (range_at content at first) (range_at content at j) (omega (arith, mul-le-mul_left {m = first} {n = j} (4 * range_words content) l)) where
    order : (a b : ℕ) → a ≤ b → (a < b) ⊎ ((a ≡ b) × (4 ≤ 4))
    order a b l = grind (arith, nat_tests)

  yields_to : (s : Span) → Contains (spans_of (table_covered content at run)) s → Yields (merged again (Some (refusal G4 (range_at content at first)))) (refusal G4 s.place)
  yields_to s c =
      let w : (e : Entry) × ((span_of e ≡ s) × ((j : ℕ) × ((j < run) × Contains (range_covered content (range_at content at j)) e))) = from_table s c in
      let p : s.place ≡ range_at content at w.1.1.0 = sym (ap (λ x. x.place) w.1.0) ∙ its_place content (range_at content at w.1.1.0) w.0 w.1.1.1.1 in
      yields_second again (Some (refusal G4 (range_at content at first))) (refusal G4 s.place)
      (subst (λ n. comes_before (refusal G4 n) (refusal G4 (range_at content at first)) ≡ false) (sym p)
      (later (refusal G4 (range_at content at first)) (refusal G4 (range_at content at w.1.1.0)) refl refl (behind_first w.1.1.0 (not_earlier w.1.1.0 w.0 w.1.1.1.1))))

  both : (a b : Bool) → a ≡ true → b ≡ true → (a && b) ≡ true
  both true b e f = f
  both false b e f = absurd cc

  itself_overlaps : (s : Span) → s.low ≤ s.high → overlaps s s ≡ true
  itself_overlaps s l = both (nat_le s.low s.high) (nat_le s.low s.high) (test s l) (test s l) where
    test : (s : Span) → s.low ≤ s.high → nat_le s.low s.high ≡ true
    test s l = grind (arith, nat_tests)

  filled : (s : Span) → Contains (spans_of entries) s → s.low ≤ s.high
  filled s c =
      let w : (e : Entry) × (Contains entries e × (span_of e ≡ s)) = from_mapped span_of entries s c in
      subst (λ x. x.low ≤ x.high) w.1.1 (h.some w.0 w.1.0)

  twice_again : (r : Refusal) → first < run → (again ≡ Some r) ⊎ (Some (refusal G4 (range_at content at first)) ≡ Some r) → IsCoveredTwice (spans_of every ++ spans_of (table_covered content at run)) r
  twice_again r l (inl e) = twice_front (spans_of every) (spans_of (table_covered content at run)) r (h.thins.is_broken r e)
  twice_again r l (inr e) =
      let same : refusal G4 (range_at content at first) ≡ r = cc in
      let w : (e : Entry) × Contains (range_covered content (range_at content at first)) e =
      covers_some content (range_at content at first) (whole content (range_at content at first) (range_words content) (h.ready.whole (range_at content at first) (marked first l)))
      (subst (λ n. passes Bare content (at + 4 * range_words content * n) ≡ false) (sym f) (runs.ended at)) in
      let c : Contains (spans_of entries) (span_of w.0) = h.marked (range_at content at first) (marked first l) (span_of w.0) (mapped span_of (range_covered content (range_at content at first)) w.0 w.1) in
      subst (IsCoveredTwice (spans_of every ++ spans_of (table_covered content at run))) (ap (refusal G4) (its_place content (range_at content at first) w.0 w.1) ∙ same)
      (twice_across (spans_of every) (spans_of (table_covered content at run)) (span_of w.0) (span_of w.0) (h.thins.among (span_of w.0) c)
      (mapped span_of (table_covered content at run) w.0 (each_in run (λ j. range_covered content (range_at content at j)) w.0 first l w.1)) (itself_overlaps (span_of w.0) (filled (span_of w.0) c)))

  pub finds_again : first < run → FindsIn content (every ++ table_covered content at run) words entries marks (merged again (Some (refusal G4 (range_at content at first))))
  finds_again l = record {
    thins = subst (λ s. Thins s (spans_of entries) (merged again (Some (refusal G4 (range_at content at first))))) (sym (spans_append every (table_covered content at run)))
        (thins_more (spans_of every) (spans_of entries) (spans_of (table_covered content at run)) again (merged again (Some (refusal G4 (range_at content at first)))) h.thins
        (λ q y. yields_first again (Some (refusal G4 (range_at content at first))) q y) held yields_to
        (λ r e. twice_again r l (one_of again (Some (refusal G4 (range_at content at first))) r e)));
    exact = λ n w. absurd (some_none (neither again (Some (refusal G4 (range_at content at first))) n).1);
    marked = h.marked;
    some = h.some;
    ready = record {
      are = h.ready.are;
      whole = h.ready.whole;
      size = h.ready.size;
      phase = merged_ninth again (Some (refusal G4 (range_at content at first))) h.ready.phase refl;
    };
  } where
    some_none : Some (refusal G4 (range_at content at first)) ≡ None → ⊥
    some_none e = cc

-- ranges that stand behind so many others
pub table_more : (content : List ℕ) (start j n : ℕ) → table_covered content start (j + n) ≡ table_covered content start j ++ table_covered content (range_at content start j) n
table_more content start j n =
    each_more j n (λ k. range_covered content (range_at content start k))
    ∙ ap (λ xs. table_covered content start j ++ xs)
    (each_same n (λ k. range_covered content (range_at content start (j + k))) (λ k. range_covered content (range_at content (range_at content start j) k))
    (λ k l. ap (range_covered content) (further start (4 * range_words content) j k))) where
      further : (a s j k : ℕ) → a + s * (j + k) ≡ a + s * j + s * k
      further a s j k = omega (arith, mul-add s j k)

pub found_more : (content : List ℕ) (every : List Entry) (words : ℕ) (entries : List Entry) (marks : List ℕ) (again : Option Refusal) (start j n : ℕ)
    → FindsIn content ((every ++ table_covered content start j) ++ table_covered content (range_at content start j) n) words entries marks again
    → FindsIn content (every ++ table_covered content start (j + n)) words entries marks again
found_more content every words entries marks again start j n h =
    subst (λ xs. FindsIn content xs words entries marks again)
    (append_assoc every (table_covered content start j) (table_covered content (range_at content start j) n) ∙ ap (λ xs. every ++ xs) (sym (table_more content start j n))) h

module _ (content marks left : List ℕ) (again : Option Refusal) (start count : ℕ) (m : Marks (4 * range_words content) start count marks left)
    (fits : 0 < count → range_at content start count ≤ length content) where
  whole_there : (j : ℕ) → j < count → range_at content start j + 4 * range_words content ≤ length content
  whole_there j l = omega (arith, fits (omega arith), mul-le-mul_left {m = j + 1} {n = count} (4 * range_words content) (omega arith), mul-add (4 * range_words content) j 1)

  pub ready_marked : IsReady content marks again → IsReady content left again
  ready_marked h = record {
    are = m.marks;
    whole = λ at p. ⊎_elim (λ q. h.whole at q) (λ w. subst (λ x. x + 4 * range_words content ≤ length content) (sym w.2) (whole_there w.0 w.1)) (m.only at p);
    size = m.size ∙ h.size;
    phase = h.phase;
  }

  pub finds_marked : (every : List Entry) (words : ℕ) (entries : List Entry) → FindsIn content (every ++ table_covered content start count) words entries marks again
      → FindsIn content (every ++ table_covered content start count) words entries left again
  finds_marked every words entries h = record {
    thins = h.thins;
    exact = h.exact;
    marked = λ at p s c. ⊎_elim
        (λ q. h.marked at q s c)
        (λ w. h.thins.held s (subst (λ ss. Contains ss s) (sym (spans_append every (table_covered content start count)))
        (Contains-append_right (spans_of every) (spans_of (table_covered content start count)) s
        (in_table w.0 w.1 s (subst (λ x. Contains (spans_of (range_covered content x)) s) w.2 c)))))
        (m.only at p);
    some = h.some;
    ready = ready_marked h.ready;
  } where
    in_table : (j : ℕ) → j < count → (s : Span) → Contains (spans_of (range_covered content (range_at content start j))) s → Contains (spans_of (table_covered content start count)) s
    in_table j l s c =
        let w : (e : Entry) × (Contains (range_covered content (range_at content start j)) e × (span_of e ≡ s)) = from_mapped span_of (range_covered content (range_at content start j)) s c in
        subst (Contains (spans_of (table_covered content start count))) w.1.1
        (mapped span_of (table_covered content start count) w.0 (each_in count (λ k. range_covered content (range_at content start k)) w.0 j l w.1.0))

-- one more entry at most that is no range; what it covers is told, and the number of its words where there are few
pub finds_single : (content : List ℕ) (every : List Entry) (words : ℕ) (entries more kept : List Entry) (marks : List ℕ) (again : Option Refusal)
    → FindsIn content every words entries marks again → spans_of kept ≡ spans_of more → (words ≤ 64 → kept ≡ more) → IsSmall kept
    → FindsIn content (every ++ more) words (entries ++ kept) marks again
finds_single content every words entries more kept marks again h same exact small = record {
  thins = subst (λ s. Thins s (spans_of (entries ++ kept)) again)
      (spans_append every kept ∙ (ap (λ s. spans_of every ++ s) same ∙ sym (spans_append every more)))
      (thins_small every entries kept again small h.thins);
  exact = λ n l. ap (λ xs. xs ++ kept) (h.exact n l) ∙ ap (λ xs. every ++ xs) (exact l);
  marked = λ at p s c. subst (λ ss. Contains ss s) (sym (spans_append entries kept)) (Contains-append_left (spans_of entries) (spans_of kept) s (h.marked at p s c));
  some = some_small entries kept small h.some;
  ready = h.ready;
}

-- where there are more words, fewer are exact
pub finds_fewer : (content : List ℕ) (every : List Entry) (words more : ℕ) (entries : List Entry) (marks : List ℕ) (again : Option Refusal)
    → words ≤ more → FindsIn content every words entries marks again → FindsIn content every more entries marks again
finds_fewer content every words more entries marks again l h = record {
  thins = h.thins;
  exact = λ n m. h.exact n (omega arith);
  marked = h.marked;
  some = h.some;
  ready = h.ready;
}
