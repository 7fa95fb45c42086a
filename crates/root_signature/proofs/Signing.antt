-- The entries in the order of covering, where no rule is broken.
use Rattle.std.proofs.Common.{◌≡◌, ℕ, zero, suc, ◌+◌, ◌-◌, ◌<◌, ◌≤◌, ◌⊎◌, inl, inr, ⊎_elim, Bool, true, false, List, [], ◌∷◌, ◌++◌, length, get_or, map, take, Some, None, refl, sym, ap, ◌∙◌, subst, arith}
use Rattle.std.specs.Prelude.{Contains, slice_get, ◌&&◌, nat_le}
use Rattle.std.proofs.Math.Seq.{take-append_seam}
use Rattle.std.proofs.lemmas.Bool.Decides.{nat_tests}
use Rattle.std.proofs.lemmas.List.{map-append, length-map, take-append-le}
use Rattle.std.proofs.lemmas.Option.{slice_get_within}
use Rattle.std.proofs.lemmas.List.Elements.{Contains-append_cases}
use Rattle.word_base.specs.declared.rule.Rule.TheVariants.{G4}
use Rattle.word_base.specs.Rules.{refusal, IsSound}
use Rattle.root_signature.specs.declared.covers.Covers.{Covers}
use Rattle.root_signature.specs.declared.covers.Covers.TheVariants.{Constants}
use Rattle.root_signature.specs.declared.covers.Entry.{Entry}
use Rattle.root_signature.specs.Layout.{parameter_count}
use Rattle.root_signature.specs.Covers.{overlaps, lowest, highest, is_covered}
use Rattle.root_signature.specs.Covering.{span_of, words_before, parameter_covered, covered_below, all_covered, covers_of}
use Rattle.root_signature.specs.Refusals.{IsBrokenIn}
use Rattle.root_signature.specs.Signatures.{words_in, IsEntry, IsSignature}
use Rattle.root_signature.specs.Parts.{AreParts}
use Rattle.root_signature.proofs.Listed.{words_none, words_next}
use Rattle.root_signature.proofs.Twice.{get_front, get_back, of_at}
use Rattle.root_signature.proofs.Members.{from_mapped}
use Rattle.root_signature.proofs.Together.{few}
use Rattle.root_signature.proofs.Signed.{covers, IsAlone, parameter_alone, words_appended}

front_or_back : (n k : ℕ) → (k < n) ⊎ ((j : ℕ) × (k ≡ n + j))
front_or_back n k = ⊎_elim (λ l. inl l) (λ l. inr (k - n, omega (arith, l))) (cases n k) where
  cases : (n k : ℕ) → (k < n) ⊎ (n ≤ k)
  cases n k = grind (arith, nat_tests)

get_mapped : {X Y : Type 0} (f : X → Y) (xs : List X) (k : ℕ) (y : Y) → slice_get (map f xs) k ≡ Some y → (x : X) × ((slice_get xs k ≡ Some x) × (f x ≡ y))
get_mapped f [] k y e = absurd (omega (arith, slice_get_within [] k y e))
get_mapped f (x ∷ xs) zero y e = (x, (refl, cc))
get_mapped f (x ∷ xs) (suc k) y e = get_mapped f xs k y e

get_map : {X Y : Type 0} (f : X → Y) (xs : List X) (k : ℕ) (x : X) → slice_get xs k ≡ Some x → slice_get (map f xs) k ≡ Some (f x)
get_map f [] k x e = absurd (omega (arith, slice_get_within [] k x e))
get_map f (y ∷ xs) zero x e = ap (λ z. Some (f z)) (same e) where
  same : Some y ≡ Some x → y ≡ x
  same e = cc
get_map f (y ∷ xs) (suc k) x e = get_map f xs k x e

module _ (content : List ℕ) (h : (i : ℕ) → get_or content i 0 < 256) where
  -- the entries of the first parameters, with their root constants numbered
  record IsNumbered (n : ℕ) (xs : List Entry) : Type 0 where
    entries : (e : Entry) → Contains xs e → IsEntry e.covers
    words : words_in (map covers xs) ≡ words_before content n
    firsts : (k register first count : ℕ) → slice_get (map covers xs) k ≡ Some (Constants register first count) → first ≡ words_in (take k (map covers xs))

  firsts_more : (n : ℕ) (xs ys : List Entry) → IsNumbered n xs → IsAlone content h n ys → (k r f c : ℕ) → slice_get (map covers xs ++ map covers ys) k ≡ Some (Constants r f c)
      → f ≡ words_in (take k (map covers xs ++ map covers ys))
  firsts_more n xs ys a b k r f c e = ⊎_elim
      (λ l. a.firsts k r f c (sym (get_front (map covers xs) (map covers ys) k l) ∙ e) ∙ ap words_in (sym (take-append-le k (map covers xs) (map covers ys) (omega (arith, l)))))
      (λ w. back w.0 w.1 (b.firsts w.0 r f c (sym (get_back (map covers xs) (map covers ys) w.0) ∙ (ap (λ m. slice_get (map covers xs ++ map covers ys) m) (sym w.1) ∙ e))))
      (front_or_back (length (map covers xs)) k) where
        at_seam : (n k j : ℕ) → k ≡ n + j → j ≡ 0 → k ≡ n
        at_seam n k j e f = omega arith

        back : (j : ℕ) → k ≡ length (map covers xs) + j → (j ≡ 0) × (f ≡ words_before content n) → f ≡ words_in (take k (map covers xs ++ map covers ys))
        back j g v =
            v.1 ∙ (sym a.words ∙ ap words_in (sym (ap (λ m. take m (map covers xs ++ map covers ys)) (at_seam (length (map covers xs)) k j g v.0) ∙ take-append_seam (map covers xs) (map covers ys))))

  numbered : (n : ℕ) → IsNumbered n (covered_below content n)
  numbered zero = record {
    entries = λ e m. absurd (omega (arith, m.1));
    words = sym (words_none content);
    firsts = λ k r f c e. absurd (omega (arith, slice_get_within [] k (Constants r f c) e));
  }
  numbered (suc n) =
      let a : IsNumbered n (covered_below content n) = numbered n in
      let b : IsAlone content h n (parameter_covered content n) = parameter_alone content h n in
      record {
        entries = λ e m. ⊎_elim (λ q. a.entries e q) (λ q. b.entries e q) (Contains-append_cases (covered_below content n) (parameter_covered content n) e m);
        words = ap words_in (map-append covers (covered_below content n) (parameter_covered content n))
            ∙ (words_appended (map covers (covered_below content n)) (map covers (parameter_covered content n))
            ∙ (ap (λ x. x + words_in (map covers (parameter_covered content n))) a.words ∙ (ap (λ x. words_before content n + x) b.words ∙ sym (words_next content n))));
        firsts = λ k r f c e.
            firsts_more n (covered_below content n) (parameter_covered content n) a b k r f c
            (sym (ap (λ xs. slice_get xs k) (map-append covers (covered_below content n) (parameter_covered content n))) ∙ e)
            ∙ ap (λ xs. words_in (take k xs)) (sym (map-append covers (covered_below content n) (parameter_covered content n)));
      }

  both : (a b : Bool) → a ≡ true → b ≡ true → (a && b) ≡ true
  both true b e f = f
  both false b e f = absurd cc

  met : (a b : Entry) (register : ℕ) → is_covered a.covers register ≡ true → is_covered b.covers register ≡ true → overlaps (span_of a) (span_of b) ≡ true
  met a b register e f = both (nat_le (lowest a.covers) (highest b.covers)) (nat_le (lowest b.covers) (highest a.covers)) (left (lowest a.covers) (highest a.covers) (lowest b.covers) (highest b.covers) register e f)
      (left (lowest b.covers) (highest b.covers) (lowest a.covers) (highest a.covers) register f e) where
        left : (a b c d n : ℕ) → (nat_le a n && nat_le n b) ≡ true → (nat_le c n && nat_le n d) ≡ true → nat_le a d ≡ true
        left a b c d n e f = grind (arith, nat_tests)

  module _ (sound : IsSound (IsBrokenIn content)) where
    not_twice : (i j : ℕ) (a b : Covers) → i < j → slice_get (map covers (all_covered content)) i ≡ Some a → slice_get (map covers (all_covered content)) j ≡ Some b
        → (register : ℕ) → is_covered a register ≡ true → is_covered b register ≡ true → ⊥
    not_twice i j a b l e f register p q =
        let v : (x : Entry) × ((slice_get (all_covered content) i ≡ Some x) × (covers x ≡ a)) = get_mapped covers (all_covered content) i a e in
        let w : (x : Entry) × ((slice_get (all_covered content) j ≡ Some x) × (covers x ≡ b)) = get_mapped covers (all_covered content) j b f in
        sound (refusal G4 (span_of w.0).place) (inr (record {
          i = i;
          k = j;
          earlier = span_of v.0;
          later = span_of w.0;
          order = l;
          earlier_there = get_map span_of (all_covered content) i v.0 v.1.0;
          later_there = get_map span_of (all_covered content) j w.0 w.1.0;
          overlap = met v.0 w.0 register (subst (λ c. is_covered c register ≡ true) (sym v.1.1) p) (subst (λ c. is_covered c register ≡ true) (sym w.1.1) q);
          refused = refl;
        }))

    pub signature_of : length (all_covered content) ≤ 33554432 → IsSignature (map covers (all_covered content))
    signature_of room = record {
      distinct = λ i j a b e f register p q. ⊎_elim
          (λ (s : i ≡ j). s)
          (⊎_elim (λ (l : i < j). absurd (not_twice i j a b l e f register p q)) (λ (l : j < i). absurd (not_twice j i b a l f e register q p)))
          (three i j);
      numbered = λ i r f c e. (numbered (parameter_count content)).firsts i r f c e;
      few = subst (λ n. n ≤ 64) (sym (numbered (parameter_count content)).words) (few content (λ q m. sound q (inl m)));
      each = λ i a e.
          let w : (x : Entry) × (Contains (all_covered content) x × (covers x ≡ a)) = from_mapped covers (all_covered content) a (of_at (map covers (all_covered content)) a i e) in
          subst IsEntry w.1.1 ((numbered (parameter_count content)).entries w.0 w.1.0);
      counted = omega (arith, length-map (all_covered content) covers);
    } where
      three : (i j : ℕ) → (i ≡ j) ⊎ ((i < j) ⊎ (j < i))
      three i j = grind (arith, nat_tests)

pub covers_are : (content : List ℕ) → map covers (all_covered content) ≡ covers_of content
unfolding covers_of
covers_are content = refl

-- what was read, where no rule is broken
pub signed : (content : List ℕ) (entries : List Entry) → ((i : ℕ) → get_or content i 0 < 256) → AreParts content entries None → IsSignature (map covers entries) × (map covers entries ≡ covers_of content)
signed content entries h parts =
    let same : entries ≡ all_covered content = parts.exact refl in (
      subst (λ xs. IsSignature (map covers xs)) (sym same) (signature_of content h parts.first (subst (λ xs. length xs ≤ 33554432) same parts.few)),
      ap (map covers) same ∙ covers_are content,
    )
