-- Where no rule is broken, the entries are those of a root signature as callers see it.
use Rattle.std.proofs.Common.{◌≡◌, ℕ, zero, suc, ◌+◌, ◌^◌, ◌<◌, Bool, true, false, List, [], ◌∷◌, ◌++◌, get_or, map, sum, Some, refl, sym, ap, ◌∙◌, subst, arith}
use Rattle.std.specs.Prelude.{Contains, slice_get, ◌&&◌, nat_lt, nat_eq, if◌then◌else◌}
use Rattle.std.proofs.lemmas.Bool.Decides.{nat_tests}
use Rattle.std.proofs.lemmas.List.{map-append}
use Rattle.std.proofs.lemmas.List.Sums.{sum_by-append, sum_by-cons}
use Rattle.std.proofs.lemmas.Option.{slice_get_within}
use Rattle.root_signature.specs.declared.covers.Covers.{Covers}
use Rattle.root_signature.specs.declared.covers.Covers.TheVariants.{Constants, Cbv, Srv, Uav}
use Rattle.root_signature.specs.declared.covers.Entry.{Entry}
use Rattle.root_signature.specs.Layout.{word, is_whole, parameter_at, record_at, range_words, range_at, range_count, ranges_at}
use Rattle.root_signature.specs.Covers.{push_words}
use Rattle.root_signature.specs.Covering.{entry, cut, is_range, is_single, range_covers, range_covered, table_covered, is_visible_table, single_covers, register_at, words_at, words_before, parameter_covered}
use Rattle.root_signature.specs.Signatures.{words_in, IsRun, IsEntry}
use Rattle.root_signature.proofs.Eachs.{in_each}
use Rattle.root_signature.proofs.Parameters.{if_true, if_false}
use Rattle.root_signature.proofs.Twice.{of_at}
use Rattle.root_signature.proofs.Members.{from_mapped}

word_bound : (content : List ℕ) (at : ℕ) → ((i : ℕ) → get_or content i 0 < 256) → word content at < 2 ^ 32
unfolding word
word_bound content at h = omega (arith, h at, h (at + 1), h (at + 2), h (at + 3))

abbrev pub covers : Entry → Covers
covers e = e.covers

-- registers of single entries
run_of : (content : List ℕ) (at count : ℕ) → ((i : ℕ) → get_or content i 0 < 256) → 0 < count → IsRun (word content at) (cut (word content at) count)
run_of content at count h l = (omega (arith, word_bound content at h), omega (arith, word_bound content at h))

one_run : (content : List ℕ) (at : ℕ) → ((i : ℕ) → get_or content i 0 < 256) → IsRun (word content at) 1
one_run content at h = (omega arith, omega (arith, word_bound content at h))

member_of_one : {X : Type 0} (P : X → Type 0) (x y : X) → P x → Contains (x ∷ []) y → P y
member_of_one P x y h c = at c.0 c.1 c.2 where
  at : (k : ℕ) → k < 1 → get_or (x ∷ []) k y ≡ y → P y
  at zero l e = subst P e h
  at (suc k) l e = absurd (omega arith)

member_of_none : {X : Type 0} (P : X → Type 0) (y : X) → Contains [] y → P y
member_of_none P y c = absurd (omega (arith, c.1))

by_test : {X : Type 0} (P : X → Type 0) (t : Bool) (xs ys : List X) (y : X) → (t ≡ true → Contains xs y → P y) → (t ≡ false → Contains ys y → P y) → Contains (if t then xs else ys) y → P y
by_test P true xs ys y f g c = f refl c
by_test P false xs ys y f g c = g refl c

-- what holds of the entries of ranges and of single records
module _ (content : List ℕ) (h : (i : ℕ) → get_or content i 0 < 256) where
  -- no entry of a range has root constants
  pub record IsRanged (c : Covers) : Type 0 where
    pub is_entry : IsEntry c
    pub wordless : push_words c ≡ 0
    pub no_constants : (register first count : ℕ) → c ≡ Constants register first count → ⊥

  srv_apart : (b n r f c : ℕ) → Srv b n ≡ Constants r f c → ⊥
  srv_apart b n r f c e = cc

  uav_apart : (b n r f c : ℕ) → Uav b n ≡ Constants r f c → ⊥
  uav_apart b n r f c e = cc

  cbv_apart : (b n r f c : ℕ) → Cbv b n ≡ Constants r f c → ⊥
  cbv_apart b n r f c e = cc

  in_range : (at : ℕ) (c : Covers) → 0 < word content (at + 4) → Contains (range_covers (word content at) (word content (at + 8)) (word content (at + 4))) c → IsRanged c
  in_range at c l m =
      by_test IsRanged (nat_eq (word content at) 0) _ _ c
      (λ e n. member_of_one IsRanged (Srv (word content (at + 8)) (cut (word content (at + 8)) (word content (at + 4)))) c
      (record { is_entry = run_of content (at + 8) (word content (at + 4)) h l; wordless = refl; no_constants = srv_apart _ _ }) n)
      (λ e n. by_test IsRanged (nat_eq (word content at) 1) _ _ c
      (λ e n. member_of_one IsRanged (Uav (word content (at + 8)) (cut (word content (at + 8)) (word content (at + 4)))) c
      (record { is_entry = run_of content (at + 8) (word content (at + 4)) h l; wordless = refl; no_constants = uav_apart _ _ }) n)
      (λ e n. by_test IsRanged (nat_eq (word content at) 2) _ _ c
      (λ e n. member_of_one IsRanged (Cbv (word content (at + 8)) (cut (word content (at + 8)) (word content (at + 4)))) c
      (record { is_entry = run_of content (at + 8) (word content (at + 4)) h l; wordless = refl; no_constants = cbv_apart _ _ }) n)
      (λ e n. member_of_none IsRanged c n) n) n) m

  some_registers : (at : ℕ) → is_range content at ≡ true → 0 < word content (at + 4)
  some_registers at e = from (is_whole content at (range_words content)) (word content (at + 4)) (nat_eq (word content (at + 12)) 0) e where
    from : (a : Bool) (n : ℕ) (b : Bool) → (a && (nat_lt 0 n && b)) ≡ true → 0 < n
    from true n true e = grind (arith, nat_tests)
    from true n false e = grind (arith, nat_tests)
    from false n b e = absurd cc

  in_covered : (at : ℕ) (e : Entry) → Contains (range_covered content at) e → IsRanged e.covers
  in_covered at e m =
      by_test (λ (x : Entry). IsRanged x.covers) (is_range content at) _ _ e
      (λ t n. let w : (c : Covers) × (Contains (range_covers (word content at) (word content (at + 8)) (word content (at + 4))) c × (entry at c ≡ e)) =
      from_mapped (entry at) (range_covers (word content at) (word content (at + 8)) (word content (at + 4))) e n in
      subst (λ (x : Entry). IsRanged x.covers) w.1.1 (in_range at w.0 (some_registers at t) w.1.0))
      (λ t n. member_of_none (λ (x : Entry). IsRanged x.covers) e n) m

  in_table : (start count : ℕ) (e : Entry) → Contains (table_covered content start count) e → IsRanged e.covers
  in_table start count e m =
      let w : (j : ℕ) × (j < count) × Contains (range_covered content (range_at content start j)) e = in_each count (λ j. range_covered content (range_at content start j)) e m in
      in_covered (range_at content start w.0) e w.2

  -- the entries of one parameter: those of ranges, or one, with its root constants where it has some, or none
  pub record IsAlone (i : ℕ) (xs : List Entry) : Type 0 where
    pub entries : (e : Entry) → Contains xs e → IsEntry e.covers
    pub words : words_in (map covers xs) ≡ words_at content i
    pub firsts : (k register first count : ℕ) → slice_get (map covers xs) k ≡ Some (Constants register first count) → (k ≡ 0) × (first ≡ words_before content i)

pub words_cons : (c : Covers) (cs : List Covers) → words_in (c ∷ cs) ≡ push_words c + words_in cs
words_cons c cs = sum_by-cons (λ x. x) (push_words c) (map push_words cs)

pub words_appended : (xs ys : List Covers) → words_in (xs ++ ys) ≡ words_in xs + words_in ys
words_appended xs ys = ap sum (map-append push_words xs ys) ∙ sum_by-append (λ x. x) (map push_words xs) (map push_words ys)

wordless_sum : (xs : List Entry) → ((e : Entry) → Contains xs e → push_words e.covers ≡ 0) → words_in (map covers xs) ≡ 0
wordless_sum [] f = refl
wordless_sum (e ∷ xs) f = words_cons e.covers (map covers xs) ∙ zero_sum (push_words e.covers) (words_in (map covers xs)) (f e (0, omega arith, refl)) (wordless_sum xs (λ x m. f x (suc m.0, omega (arith, m.1), m.2))) where
  zero_sum : (a b : ℕ) → a ≡ 0 → b ≡ 0 → a + b ≡ 0
  zero_sum a b e f = omega arith

both_left : (a b : Bool) → (a && b) ≡ true → a ≡ true
both_left true b e = refl
both_left false b e = absurd cc

module _ (content : List ℕ) (h : (i : ℕ) → get_or content i 0 < 256) (i : ℕ) where
  -- a visible table has no root constants
  no_words : is_visible_table content i ≡ true → words_at content i ≡ 0
  no_words e = if_false (is_single content i 1) (word content (record_at content i + 8)) 0 (from _ _ (word content (parameter_at content i)) _ e) where
    from : (a b : Bool) (n : ℕ) (d : Bool) → (a && (b && nat_eq n 0)) ≡ true → (a && (b && (nat_eq n 1 && d))) ≡ false
    from true true n d e = grind (arith, nat_tests)
    from true false n d e = refl
    from false b n d e = refl

  table_alone : is_visible_table content i ≡ true → (start count : ℕ) → IsAlone content h i (table_covered content start count)
  table_alone e start count = record {
    entries = λ x m. (in_table content h start count x m).is_entry;
    words = wordless_sum (table_covered content start count) (λ x m. (in_table content h start count x m).wordless) ∙ sym (no_words e);
    firsts = λ k r f c g.
        let w : (x : Entry) × (Contains (table_covered content start count) x × (covers x ≡ Constants r f c)) =
        from_mapped covers (table_covered content start count) (Constants r f c) (of_at (map covers (table_covered content start count)) (Constants r f c) k g) in
        absurd ((in_table content h start count w.0 w.1.0).no_constants r f c w.1.1);
  }

  none_alone : words_at content i ≡ 0 → IsAlone content h i []
  none_alone e = record {
    entries = λ x m. absurd (omega (arith, m.1));
    words = sym e;
    firsts = λ k r f c g. absurd (omega (arith, slice_get_within [] k (Constants r f c) g));
  }

  -- a descriptor
  one_alone : (c : Covers) → IsRanged content h c → words_at content i ≡ 0 → IsAlone content h i (entry (record_at content i) c ∷ [])
  one_alone c r e = record {
    entries = λ x m. member_of_one (λ (y : Entry). IsEntry y.covers) (entry (record_at content i) c) x r.is_entry m;
    words = words_cons c [] ∙ (sum_zero (push_words c) r.wordless ∙ sym e);
    firsts = λ k q f n g. absurd (constants k q f n g);
  } where
    sum_zero : (a : ℕ) → a ≡ 0 → a + 0 ≡ 0
    sum_zero a e = omega arith

    constants : (k q f n : ℕ) → slice_get (c ∷ []) k ≡ Some (Constants q f n) → ⊥
    constants zero q f n g = r.no_constants q f n cc
    constants (suc k) q f n g = cc

  constants_alone : words_at content i ≡ words_at content i → IsAlone content h i (entry (record_at content i) (Constants (register_at content i) (words_before content i) (words_at content i)) ∷ [])
  constants_alone e = record {
    entries = λ x m. member_of_one (λ (y : Entry). IsEntry y.covers) (entry (record_at content i) (Constants (register_at content i) (words_before content i) (words_at content i))) x
        (word_bound content (record_at content i) h) m;
    words = words_cons (Constants (register_at content i) (words_before content i) (words_at content i)) [] ∙ nothing_more (words_at content i);
    firsts = λ k r f c g. first_is k r f c g;
  } where
    nothing_more : (a : ℕ) → a + 0 ≡ a
    nothing_more a = omega arith

    first_is : (k r f c : ℕ) → slice_get (Constants (register_at content i) (words_before content i) (words_at content i) ∷ []) k ≡ Some (Constants r f c) → (k ≡ 0) × (f ≡ words_before content i)
    first_is zero r f c g = (refl, of_constants (register_at content i) (words_before content i) (words_at content i) r f c cc) where
      of_constants : (a b d r f c : ℕ) → Constants a b d ≡ Constants r f c → f ≡ b
      of_constants a b d r f c e = cc
    first_is (suc k) r f c g = absurd cc

  chosen : (P : List Entry → Type 0) (t : Bool) (xs ys : List Covers) → (t ≡ true → P (map (entry (record_at content i)) xs)) → (t ≡ false → P (map (entry (record_at content i)) ys))
      → P (map (entry (record_at content i)) (if t then xs else ys))
  chosen P true xs ys f g = f refl
  chosen P false xs ys f g = g refl

  single_alone : IsAlone content h i (map (entry (record_at content i)) (single_covers content i))
  single_alone =
      chosen (IsAlone content h i) (is_single content i 1) _ _ (λ e. constants_alone refl)
      (λ e. let w : words_at content i ≡ 0 = if_false (is_single content i 1) (word content (record_at content i + 8)) 0 e in
      chosen (IsAlone content h i) (is_single content i 2) _ _
      (λ e. one_alone (Cbv (register_at content i) 1) (record { is_entry = one_run content (record_at content i) h; wordless = refl; no_constants = cbv_apart content h _ _ }) w)
      (λ e. chosen (IsAlone content h i) (is_single content i 3) _ _
      (λ e. one_alone (Srv (register_at content i) 1) (record { is_entry = one_run content (record_at content i) h; wordless = refl; no_constants = srv_apart content h _ _ }) w)
      (λ e. chosen (IsAlone content h i) (is_single content i 4) _ _
      (λ e. one_alone (Uav (register_at content i) 1) (record { is_entry = one_run content (record_at content i) h; wordless = refl; no_constants = uav_apart content h _ _ }) w)
      (λ e. none_alone w))))

  pub parameter_alone : IsAlone content h i (parameter_covered content i)
  parameter_alone = at (is_visible_table content i) refl where
    at : (t : Bool) → is_visible_table content i ≡ t → IsAlone content h i (parameter_covered content i)
    at true e = subst (IsAlone content h i) (sym (if_true (is_visible_table content i) (table_covered content (ranges_at content i) (range_count content i)) (map (entry (record_at content i)) (single_covers content i)) e))
        (table_alone e (ranges_at content i) (range_count content i))
    at false e = subst (IsAlone content h i) (sym (if_false (is_visible_table content i) (table_covered content (ranges_at content i) (range_count content i)) (map (entry (record_at content i)) (single_covers content i)) e))
        single_alone
