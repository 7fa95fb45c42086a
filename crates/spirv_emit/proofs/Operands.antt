-- Expressions by what their parts give.
use Rattle.std.proofs.Common.{◌≡◌, ℕ, ◌<◌, ◌^◌, List, [], ◌∷◌, Option, Some, None, refl, ◌∙◌}
use Rattle.std.specs.Prelude.{Ok, Bool}
use Rattle.shader_tree.specs.declared.node.Node.{Node}
use Rattle.shader_tree.specs.Holding.{AreGiven, HoldWords, OfWords}
use Rattle.shader_tree.specs.Nodes.{a_word, a_truth}
use Rattle.shader_tree.specs.Terms.{Term, term_at}
use Rattle.shader_tree.specs.Values.{Spaces, Words, IsWord, IsTruth, for_word, for_truth, for_two, for_three}
use Rattle.shader_tree.specs.Values as tree
use Rattle.word_base.specs.Settings.{Setting}
use Rattle.spirv_words.specs.Values.{Value, Word, Truth}
use Rattle.spirv_symbols.specs.declared.symbol.TypeSymbol.{TypeSymbol}
use Rattle.spirv_emit.specs.Emission.{Emission, spaces_of}
use Rattle.spirv_emit.specs.Growing.{Completes}
use Rattle.spirv_emit.specs.Joins.{given, joined, only}
use Rattle.spirv_emit.specs.Lanes.{Site}
use Rattle.spirv_emit.specs.Values.{Slot, slot, Meaning, Gives, as_value, got_of, valued}
use Rattle.spirv_emit.specs.Values as value
use Rattle.spirv_emit.proofs.Giving.{then', only_gives, weaker}
use Rattle.spirv_emit.proofs.Parts.{done, all_of, Short}

abbrev pub WordLaw : Type 0
WordLaw = (g : Spaces) (s : Setting) (t : Words) (e : Term) (w : ℕ) → AreGiven g s → HoldWords t → OfWords e → tree.value g s t e ≡ tree.word w
    → w < 2 ^ 32

-- VALUES that an expression takes.
word_value : {X : Type 0} (v : Option tree.Value) (f : ℕ → Option X) (x : X) → for_word v f ≡ Some x → (w : ℕ) × (v ≡ tree.word w) × (f w ≡ Some x)
word_value None f x e = absurd (cc e)
word_value (Some (IsWord w)) f x e = (w, refl, e)
word_value (Some (IsTruth b)) f x e = absurd (cc e)

truth_value : {X : Type 0} (v : Option tree.Value) (f : Bool → Option X) (x : X) → for_truth v f ≡ Some x → (b : Bool) × (v ≡ tree.truth b) ×
    (f b ≡ Some x)
truth_value None f x e = absurd (cc e)
truth_value (Some (IsWord w)) f x e = absurd (cc e)
truth_value (Some (IsTruth b)) f x e = (b, refl, e)

pub got_value : (v : Option tree.Value) (ws : List Value) → got_of v ≡ Ok ws → (x : tree.Value) × (v ≡ Some x) × (got_of (Some x) ≡ Ok ws)
got_value None ws e = absurd (cc e)
got_value (Some v) ws e = (v, refl, e)

one_run : (v0 : Option tree.Value) (x : ℕ) (v : tree.Value) (h : Meaning) (z : Site) (t : Words) (vs : List Value)
    → v0 ≡ tree.word x → h z t (Word x ∷ []) ≡ Ok (as_value v ∷ [])
    → only (0 ∷ []) (joined (joined given [] (λ z t vs. got_of v0)) (0 ∷ []) h) z t vs ≡ Ok (as_value v ∷ [])
one_run v0 x v h z t vs e0 e = rw (e0, e) refl

two_run : (v0 v1 : Option tree.Value) (x : ℕ) (y : ℕ) (v : tree.Value) (h : Meaning) (z : Site) (t : Words) (vs : List Value)
    → v0 ≡ tree.word x → v1 ≡ tree.word y → h z t (Word x ∷ Word y ∷ []) ≡ Ok (as_value v ∷ [])
    → only (0 ∷ []) (joined (joined (joined given [] (λ z t vs. got_of v0)) [] (λ z t vs. got_of v1)) (1 ∷ 0 ∷ []) h) z t vs ≡ Ok (as_value v ∷ [])
two_run v0 v1 x y v h z t vs e0 e1 e = rw (e0, e1, e) refl

three_run : (v0 v1 v2 : Option tree.Value) (x : ℕ) (y : ℕ) (m : ℕ) (v : tree.Value) (h : Meaning) (z : Site) (t : Words) (vs : List Value)
    → v0 ≡ tree.word x → v1 ≡ tree.word y → v2 ≡ tree.word m → h z t (Word x ∷ Word y ∷ Word m ∷ []) ≡ Ok (as_value v ∷ [])
    → only (0 ∷ []) (joined (joined (joined (joined given [] (λ z t vs. got_of v0)) [] (λ z t vs. got_of v1)) [] (λ z t vs. got_of v2))
    (2 ∷ 1 ∷ 0 ∷ []) h) z t vs ≡ Ok (as_value v ∷ [])
three_run v0 v1 v2 x y m v h z t vs e0 e1 e2 e = rw (e0, e1, e2, e) refl

four_run : (v0 v1 v2 v3 : Option tree.Value) (x : ℕ) (y : ℕ) (m : ℕ) (n : ℕ) (v : tree.Value) (h : Meaning) (z : Site) (t : Words) (vs : List Value)
    → v0 ≡ tree.word x → v1 ≡ tree.word y → v2 ≡ tree.word m → v3 ≡ tree.word n → h z t (Word x ∷ Word y ∷ Word m ∷ Word n ∷ []) ≡ Ok
    (as_value v ∷ [])
    → only (0 ∷ []) (joined (joined (joined (joined (joined given [] (λ z t vs. got_of v0)) [] (λ z t vs. got_of v1)) [] (λ z t vs. got_of v2)) []
    (λ z t vs. got_of v3)) (3 ∷ 2 ∷ 1 ∷ 0 ∷ []) h) z t vs ≡ Ok (as_value v ∷ [])
four_run v0 v1 v2 v3 x y m n v h z t vs e0 e1 e2 e3 e = rw (e0, e1, e2, e3, e) refl

picked_run : (v0 v1 v2 : Option tree.Value) (x : Bool) (y : ℕ) (m : ℕ) (v : tree.Value) (h : Meaning) (z : Site) (t : Words) (vs : List Value)
    → v0 ≡ tree.truth x → v1 ≡ tree.word y → v2 ≡ tree.word m → h z t (Truth x ∷ Word y ∷ Word m ∷ []) ≡ Ok (as_value v ∷ [])
    → only (0 ∷ []) (joined (joined (joined (joined given [] (λ z t vs. got_of v0)) [] (λ z t vs. got_of v1)) [] (λ z t vs. got_of v2))
    (2 ∷ 1 ∷ 0 ∷ []) h) z t vs ≡ Ok (as_value v ∷ [])
picked_run v0 v1 v2 x y m v h z t vs e0 e1 e2 e = rw (e0, e1, e2, e) refl

both_run : (v0 v1 : Option tree.Value) (x : Bool) (y : Bool) (v : tree.Value) (h : Meaning) (z : Site) (t : Words) (vs : List Value)
    → v0 ≡ tree.truth x → v1 ≡ tree.truth y → h z t (Truth x ∷ Truth y ∷ []) ≡ Ok (as_value v ∷ [])
    → only (0 ∷ []) (joined (joined (joined given [] (λ z t vs. got_of v0)) [] (λ z t vs. got_of v1)) (1 ∷ 0 ∷ []) h) z t vs ≡ Ok (as_value v ∷ [])
both_run v0 v1 x y v h z t vs e0 e1 e = rw (e0, e1, e) refl

-- ONE PART, two, three and four, by what the code behind them gives on words below 2 ^ 32; a truth and two words, and two truths.
abbrev pub here : Site → Words → Term → Option tree.Value
here z t x = tree.value (spaces_of z.frame) z.machine.setting t x

module _ (laws : WordLaw) (nodes : List Node) (a e f : Emission) (r : ℕ) (type : TypeSymbol) (h : Meaning) where
  short' : (z : Site) (t : Words) (x : Term) (w : ℕ) → Completes f z → HoldWords t → OfWords x → here z t x ≡ tree.word w → w < 2 ^ 32
  short' z t x w comp ht o q = laws (spaces_of z.frame) z.machine.setting t x w comp.whole.fits.given ht o q

  pub one_parts : (i p : ℕ) (v : Site → Words → ℕ → Option tree.Value)
      → Short nodes (done (a_word i) p ∷ []) → Gives a e [] (value.a_word p ∷ []) (all_of nodes (done (a_word i) p ∷ []))
      → Gives e f (value.a_word p ∷ []) (slot r type ∷ []) h
      → ((z : Site) → Completes f z → (t : Words) → (x : ℕ) → (w : tree.Value) → x < 2 ^ 32 → v z t x ≡ Some w → h z t (Word x ∷ []) ≡ Ok
      (as_value w ∷ []))
      → Gives a f [] (slot r type ∷ []) (λ z t vs. got_of (for_word (here z t (term_at nodes i)) (λ x. v z t x)))
  one_parts i p v short front back by =
      weaker a f [] (slot r type ∷ []) (only (0 ∷ []) (joined (all_of nodes (done (a_word i) p ∷ [])) (0 ∷ []) h))
      (λ z t vs. got_of (for_word (here z t (term_at nodes i)) (λ x. v z t x)))
      (λ z comp t ht vs ws o.
      let g = got_value (for_word (here z t (term_at nodes i)) (λ x. v z t x)) ws o in
      let m0 = word_value (here z t (term_at nodes i)) _ g.0 g.1 in
      one_run (here z t (term_at nodes i)) m0.0 g.0 h z t vs m0.1
      (by z comp t m0.0 g.0 (short' z t (term_at nodes i) m0.0 comp ht short.0 m0.1) m0.2) ∙ g.2)
      (only_gives a f [] (slot r type ∷ value.a_word p ∷ []) (slot r type ∷ []) (joined (all_of nodes (done (a_word i) p ∷ [])) (0 ∷ []) h) (0 ∷ [])
      (then' a e f [] (value.a_word p ∷ []) (value.a_word p ∷ []) (slot r type ∷ []) (all_of nodes (done (a_word i) p ∷ [])) h (0 ∷ []) front back
      refl) refl)

  pub two_parts : (i j p q : ℕ) (v : Site → Words → ℕ → ℕ → Option tree.Value)
      → Short nodes (done (a_word j) q ∷ done (a_word i) p ∷ []) → Gives a e [] (value.a_word q ∷ value.a_word p ∷ [])
      (all_of nodes (done (a_word j) q ∷ done (a_word i) p ∷ []))
      → Gives e f (value.a_word p ∷ value.a_word q ∷ []) (slot r type ∷ []) h
      → ((z : Site) → Completes f z → (t : Words) → (x : ℕ) → (y : ℕ) → (w : tree.Value) → x < 2 ^ 32 → y < 2 ^ 32 → v z t x y ≡ Some w
      → h z t (Word x ∷ Word y ∷ []) ≡ Ok (as_value w ∷ []))
      → Gives a f [] (slot r type ∷ [])
      (λ z t vs. got_of (for_word (here z t (term_at nodes i)) (λ x. for_word (here z t (term_at nodes j)) (λ y. v z t x y))))
  two_parts i j p q v short front back by =
      weaker a f [] (slot r type ∷ []) (only (0 ∷ []) (joined (all_of nodes (done (a_word j) q ∷ done (a_word i) p ∷ [])) (1 ∷ 0 ∷ []) h))
      (λ z t vs. got_of (for_word (here z t (term_at nodes i)) (λ x. for_word (here z t (term_at nodes j)) (λ y. v z t x y))))
      (λ z comp t ht vs ws o.
      let g = got_value (for_word (here z t (term_at nodes i)) (λ x. for_word (here z t (term_at nodes j)) (λ y. v z t x y))) ws o in
      let m0 = word_value (here z t (term_at nodes i)) _ g.0 g.1 in
      let m1 = word_value (here z t (term_at nodes j)) _ g.0 m0.2 in
      two_run (here z t (term_at nodes i)) (here z t (term_at nodes j)) m0.0 m1.0 g.0 h z t vs m0.1 m1.1
      (by z comp t m0.0 m1.0 g.0 (short' z t (term_at nodes i) m0.0 comp ht short.1.0 m0.1) (short' z t (term_at nodes j) m1.0 comp ht short.0 m1.1)
      m1.2) ∙ g.2)
      (only_gives a f [] (slot r type ∷ value.a_word q ∷ value.a_word p ∷ []) (slot r type ∷ [])
      (joined (all_of nodes (done (a_word j) q ∷ done (a_word i) p ∷ [])) (1 ∷ 0 ∷ []) h) (0 ∷ [])
      (then' a e f [] (value.a_word q ∷ value.a_word p ∷ []) (value.a_word p ∷ value.a_word q ∷ []) (slot r type ∷ [])
      (all_of nodes (done (a_word j) q ∷ done (a_word i) p ∷ [])) h (1 ∷ 0 ∷ []) front back refl) refl)

  pub three_parts : (i j k p q s : ℕ) (v : Site → Words → ℕ → ℕ → ℕ → Option tree.Value)
      → Short nodes (done (a_word k) s ∷ done (a_word j) q ∷ done (a_word i) p ∷ [])
      → Gives a e [] (value.a_word s ∷ value.a_word q ∷ value.a_word p ∷ [])
      (all_of nodes (done (a_word k) s ∷ done (a_word j) q ∷ done (a_word i) p ∷ []))
      → Gives e f (value.a_word p ∷ value.a_word q ∷ value.a_word s ∷ []) (slot r type ∷ []) h
      → ((z : Site) → Completes f z → (t : Words) → (x : ℕ) → (y : ℕ) → (m : ℕ) → (w : tree.Value) → x < 2 ^ 32 → y < 2 ^ 32 → m < 2 ^ 32
      → v z t x y m ≡ Some w → h z t (Word x ∷ Word y ∷ Word m ∷ []) ≡ Ok (as_value w ∷ []))
      → Gives a f [] (slot r type ∷ [])
      (λ z t vs. got_of (for_word (here z t (term_at nodes i))
      (λ x. for_word (here z t (term_at nodes j)) (λ y. for_word (here z t (term_at nodes k)) (λ m. v z t x y m)))))
  three_parts i j k p q s v short front back by =
      weaker a f [] (slot r type ∷ []) (only (0 ∷ []) (joined (all_of nodes (done (a_word k) s ∷ done (a_word j) q ∷ done (a_word i) p ∷ []))
      (2 ∷ 1 ∷ 0 ∷ []) h)) (λ z t vs. got_of
      (for_word (here z t (term_at nodes i))
      (λ x. for_word (here z t (term_at nodes j)) (λ y. for_word (here z t (term_at nodes k)) (λ m. v z t x y m)))))
      (λ z comp t ht vs ws o.
      let g = got_value (for_word (here z t (term_at nodes i))
      (λ x. for_word (here z t (term_at nodes j)) (λ y. for_word (here z t (term_at nodes k)) (λ m. v z t x y m)))) ws o in
      let m0 = word_value (here z t (term_at nodes i)) _ g.0 g.1 in
      let m1 = word_value (here z t (term_at nodes j)) _ g.0 m0.2 in
      let m2 = word_value (here z t (term_at nodes k)) _ g.0 m1.2 in
      three_run (here z t (term_at nodes i)) (here z t (term_at nodes j)) (here z t (term_at nodes k)) m0.0 m1.0 m2.0 g.0 h z t vs m0.1 m1.1 m2.1
      (by z comp t m0.0 m1.0 m2.0 g.0 (short' z t (term_at nodes i) m0.0 comp ht short.1.1.0 m0.1)
      (short' z t (term_at nodes j) m1.0 comp ht short.1.0 m1.1) (short' z t (term_at nodes k) m2.0 comp ht short.0 m2.1) m2.2) ∙ g.2)
      (only_gives a f [] (slot r type ∷ value.a_word s ∷ value.a_word q ∷ value.a_word p ∷ []) (slot r type ∷ [])
      (joined (all_of nodes (done (a_word k) s ∷ done (a_word j) q ∷ done (a_word i) p ∷ [])) (2 ∷ 1 ∷ 0 ∷ []) h) (0 ∷ [])
      (then' a e f [] (value.a_word s ∷ value.a_word q ∷ value.a_word p ∷ []) (value.a_word p ∷ value.a_word q ∷ value.a_word s ∷ [])
      (slot r type ∷ []) (all_of nodes (done (a_word k) s ∷ done (a_word j) q ∷ done (a_word i) p ∷ [])) h (2 ∷ 1 ∷ 0 ∷ []) front back refl) refl)

  pub four_parts : (i j k l p q s u : ℕ) (v : Site → Words → ℕ → ℕ → ℕ → ℕ → Option tree.Value)
      → Short nodes (done (a_word l) u ∷ done (a_word k) s ∷ done (a_word j) q ∷ done (a_word i) p ∷ [])
      → Gives a e [] (value.a_word u ∷ value.a_word s ∷ value.a_word q ∷ value.a_word p ∷ [])
      (all_of nodes (done (a_word l) u ∷ done (a_word k) s ∷ done (a_word j) q ∷ done (a_word i) p ∷ []))
      → Gives e f (value.a_word p ∷ value.a_word q ∷ value.a_word s ∷ value.a_word u ∷ []) (slot r type ∷ []) h
      → ((z : Site) → Completes f z → (t : Words) → (x : ℕ) → (y : ℕ) → (m : ℕ) → (n : ℕ) → (w : tree.Value) → x < 2 ^ 32 → y < 2 ^ 32 → m < 2 ^ 32
      → n < 2 ^ 32 → v z t x y m n ≡ Some w → h z t (Word x ∷ Word y ∷ Word m ∷ Word n ∷ []) ≡ Ok (as_value w ∷ []))
      → Gives a f [] (slot r type ∷ [])
      (λ z t vs. got_of (for_word (here z t (term_at nodes i))
      (λ x. for_word (here z t (term_at nodes j))
      (λ y. for_word (here z t (term_at nodes k)) (λ m. for_word (here z t (term_at nodes l)) (λ n. v z t x y m n))))))
  four_parts i j k l p q s u v short front back by =
      weaker a f [] (slot r type ∷ [])
      (only (0 ∷ []) (joined (all_of nodes (done (a_word l) u ∷ done (a_word k) s ∷ done (a_word j) q ∷ done (a_word i) p ∷ []))
      (3 ∷ 2 ∷ 1 ∷ 0 ∷ []) h))
      (λ z t vs. got_of (for_word (here z t (term_at nodes i))
      (λ x. for_word (here z t (term_at nodes j))
      (λ y. for_word (here z t (term_at nodes k)) (λ m. for_word (here z t (term_at nodes l)) (λ n. v z t x y m n))))))
      (λ z comp t ht vs ws o.
      let g = got_value (for_word (here z t (term_at nodes i))
      (λ x. for_word (here z t (term_at nodes j))
      (λ y. for_word (here z t (term_at nodes k)) (λ m. for_word (here z t (term_at nodes l)) (λ n. v z t x y m n))))) ws o in
      let m0 = word_value (here z t (term_at nodes i)) _ g.0 g.1 in
      let m1 = word_value (here z t (term_at nodes j)) _ g.0 m0.2 in
      let m2 = word_value (here z t (term_at nodes k)) _ g.0 m1.2 in
      let m3 = word_value (here z t (term_at nodes l)) _ g.0 m2.2 in
      four_run (here z t (term_at nodes i)) (here z t (term_at nodes j)) (here z t (term_at nodes k)) (here z t (term_at nodes l)) m0.0 m1.0 m2.0 m3.0
      g.0 h z t vs m0.1 m1.1 m2.1 m3.1
      (by z comp t m0.0 m1.0 m2.0 m3.0 g.0 (short' z t (term_at nodes i) m0.0 comp ht short.1.1.1.0 m0.1)
      (short' z t (term_at nodes j) m1.0 comp ht short.1.1.0 m1.1) (short' z t (term_at nodes k) m2.0 comp ht short.1.0 m2.1)
      (short' z t (term_at nodes l) m3.0 comp ht short.0 m3.1) m3.2) ∙ g.2)
      (only_gives a f [] (slot r type ∷ value.a_word u ∷ value.a_word s ∷ value.a_word q ∷ value.a_word p ∷ []) (slot r type ∷ [])
      (joined (all_of nodes (done (a_word l) u ∷ done (a_word k) s ∷ done (a_word j) q ∷ done (a_word i) p ∷ [])) (3 ∷ 2 ∷ 1 ∷ 0 ∷ []) h) (0 ∷ [])
      (then' a e f [] (value.a_word u ∷ value.a_word s ∷ value.a_word q ∷ value.a_word p ∷ [])
      (value.a_word p ∷ value.a_word q ∷ value.a_word s ∷ value.a_word u ∷ []) (slot r type ∷ [])
      (all_of nodes (done (a_word l) u ∷ done (a_word k) s ∷ done (a_word j) q ∷ done (a_word i) p ∷ [])) h (3 ∷ 2 ∷ 1 ∷ 0 ∷ []) front back refl)
      refl)

  pub picked_parts : (i j k p q s : ℕ) (v : Site → Words → Bool → ℕ → ℕ → Option tree.Value)
      → Short nodes (done (a_word k) s ∷ done (a_word j) q ∷ done (a_truth i) p ∷ [])
      → Gives a e [] (value.a_word s ∷ value.a_word q ∷ value.a_truth p ∷ [])
      (all_of nodes (done (a_word k) s ∷ done (a_word j) q ∷ done (a_truth i) p ∷ []))
      → Gives e f (value.a_truth p ∷ value.a_word q ∷ value.a_word s ∷ []) (slot r type ∷ []) h
      → ((z : Site) → Completes f z → (t : Words) → (x : Bool) → (y : ℕ) → (m : ℕ) → (w : tree.Value) → v z t x y m ≡ Some w
      → h z t (Truth x ∷ Word y ∷ Word m ∷ []) ≡ Ok (as_value w ∷ []))
      → Gives a f [] (slot r type ∷ [])
      (λ z t vs. got_of (for_truth (here z t (term_at nodes i))
      (λ x. for_word (here z t (term_at nodes j)) (λ y. for_word (here z t (term_at nodes k)) (λ m. v z t x y m)))))
  picked_parts i j k p q s v short front back by =
      weaker a f [] (slot r type ∷ []) (only (0 ∷ []) (joined (all_of nodes (done (a_word k) s ∷ done (a_word j) q ∷ done (a_truth i) p ∷ []))
      (2 ∷ 1 ∷ 0 ∷ []) h)) (λ z t vs. got_of
      (for_truth (here z t (term_at nodes i))
      (λ x. for_word (here z t (term_at nodes j)) (λ y. for_word (here z t (term_at nodes k)) (λ m. v z t x y m)))))
      (λ z comp t ht vs ws o.
      let g = got_value (for_truth (here z t (term_at nodes i))
      (λ x. for_word (here z t (term_at nodes j)) (λ y. for_word (here z t (term_at nodes k)) (λ m. v z t x y m)))) ws o in
      let m0 = truth_value (here z t (term_at nodes i)) _ g.0 g.1 in
      let m1 = word_value (here z t (term_at nodes j)) _ g.0 m0.2 in
      let m2 = word_value (here z t (term_at nodes k)) _ g.0 m1.2 in
      picked_run (here z t (term_at nodes i)) (here z t (term_at nodes j)) (here z t (term_at nodes k)) m0.0 m1.0 m2.0 g.0 h z t vs m0.1 m1.1 m2.1
      (by z comp t m0.0 m1.0 m2.0 g.0 m2.2) ∙ g.2)
      (only_gives a f [] (slot r type ∷ value.a_word s ∷ value.a_word q ∷ value.a_truth p ∷ []) (slot r type ∷ [])
      (joined (all_of nodes (done (a_word k) s ∷ done (a_word j) q ∷ done (a_truth i) p ∷ [])) (2 ∷ 1 ∷ 0 ∷ []) h) (0 ∷ [])
      (then' a e f [] (value.a_word s ∷ value.a_word q ∷ value.a_truth p ∷ []) (value.a_truth p ∷ value.a_word q ∷ value.a_word s ∷ [])
      (slot r type ∷ []) (all_of nodes (done (a_word k) s ∷ done (a_word j) q ∷ done (a_truth i) p ∷ [])) h (2 ∷ 1 ∷ 0 ∷ []) front back refl)
      refl)

  pub both_parts : (i j p q : ℕ) (v : Site → Words → Bool → Bool → Option tree.Value)
      → Short nodes (done (a_truth j) q ∷ done (a_truth i) p ∷ []) → Gives a e [] (value.a_truth q ∷ value.a_truth p ∷ [])
      (all_of nodes (done (a_truth j) q ∷ done (a_truth i) p ∷ []))
      → Gives e f (value.a_truth p ∷ value.a_truth q ∷ []) (slot r type ∷ []) h
      → ((z : Site) → Completes f z → (t : Words) → (x : Bool) → (y : Bool) → (w : tree.Value) → v z t x y ≡ Some w → h z t (Truth x ∷ Truth y ∷ []) ≡
      Ok (as_value w ∷ []))
      → Gives a f [] (slot r type ∷ [])
      (λ z t vs. got_of (for_truth (here z t (term_at nodes i)) (λ x. for_truth (here z t (term_at nodes j)) (λ y. v z t x y))))
  both_parts i j p q v short front back by =
      weaker a f [] (slot r type ∷ []) (only (0 ∷ []) (joined (all_of nodes (done (a_truth j) q ∷ done (a_truth i) p ∷ [])) (1 ∷ 0 ∷ []) h))
      (λ z t vs. got_of (for_truth (here z t (term_at nodes i)) (λ x. for_truth (here z t (term_at nodes j)) (λ y. v z t x y))))
      (λ z comp t ht vs ws o.
      let g = got_value (for_truth (here z t (term_at nodes i)) (λ x. for_truth (here z t (term_at nodes j)) (λ y. v z t x y))) ws o in
      let m0 = truth_value (here z t (term_at nodes i)) _ g.0 g.1 in
      let m1 = truth_value (here z t (term_at nodes j)) _ g.0 m0.2 in
      both_run (here z t (term_at nodes i)) (here z t (term_at nodes j)) m0.0 m1.0 g.0 h z t vs m0.1 m1.1
      (by z comp t m0.0 m1.0 g.0 m1.2) ∙ g.2)
      (only_gives a f [] (slot r type ∷ value.a_truth q ∷ value.a_truth p ∷ []) (slot r type ∷ [])
      (joined (all_of nodes (done (a_truth j) q ∷ done (a_truth i) p ∷ [])) (1 ∷ 0 ∷ []) h) (0 ∷ [])
      (then' a e f [] (value.a_truth q ∷ value.a_truth p ∷ []) (value.a_truth p ∷ value.a_truth q ∷ []) (slot r type ∷ [])
      (all_of nodes (done (a_truth j) q ∷ done (a_truth i) p ∷ [])) h (1 ∷ 0 ∷ []) front back refl) refl)
