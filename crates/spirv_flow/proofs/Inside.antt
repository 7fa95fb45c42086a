-- Where a branch may lead, by the constructs around the block from which it leads and around its target.
use Rattle.std.proofs.Common.{◌≡◌, ℕ, ◌+◌, ◌<◌, ◌≤◌, ◌⊎◌, inl, inr, ⊎_elim, List, Bool, false, refl, sym, ap, ◌∙◌, subst, arith}
use Rattle.std.specs.Prelude.{nat_eq, nat_lt, nat_le, ◌&&◌, ◌||◌, not, IsTrue}
use Rattle.std.specs.Bool.{beq}
use Rattle.std.specs.List.{list_any, list_all}
use Rattle.std.proofs.lemmas.Bool.Decides.{nat_tests}
use Rattle.spirv_words.specs.Blocks.{edge, Span, Kind, Selection, Loop, Choice}
use Rattle.spirv_words.specs.Structure.{is_around, is_loop, is_choice, is_any, is_loop_or_choice, is_innermost, is_same_inside, enters, merges_at, continues_at, continues_before, goes_back, goes_forward, leaves_construct, leaves_loop, leaves_choice, leads_well}
use Rattle.spirv_flow.proofs.Members.{Has, both, first_holds, second_holds, either_first, either_second, by_either, implied, same_test, no_truth, when_true, when_false, each_passes, some_passes, lt_true, le_true, eq_true, is_lt, is_eq}

abbrev pub Around : ℕ → Span → Type 0
Around p x = (x.header < p) × (p < x.merge)

around_true : (p : ℕ) (x : Span) → Around p x → IsTrue (is_around p x)
around_true p x w = both (nat_lt x.header p) (nat_lt p x.merge) (lt_true x.header p w.0) (lt_true p x.merge w.1)

true_around : (p : ℕ) (x : Span) → IsTrue (is_around p x) → Around p x
true_around p x h =
    (is_lt x.header p (first_holds (nat_lt x.header p) (nat_lt p x.merge) h), is_lt p x.merge (second_holds (nat_lt x.header p) (nat_lt p x.merge) h))

-- the constructs of a module
module _ (all : List Span) where
  -- blocks in the same constructs; a block that is in one construct more, which begins with the other
  abbrev pub Same : ℕ → ℕ → Type 0
  Same p q = (x : Span) → Has all x → (Around p x → Around q x) × (Around q x → Around p x)

  abbrev pub Enters : ℕ → ℕ → Span → Type 0
  Enters p q o = (x : Span) → Has all x → (x ≡ o) ⊎ (((x.header < p) ⊎ (p < x.header)) × (Around p x → Around q x) × (Around q x → Around p x))

  -- the construct of some kinds around a block with the last header
  abbrev pub Innermost : (Kind → Bool) → ℕ → Span → Type 0
  Innermost kinds p o =
      Has all o × Around p o × IsTrue (kinds o.kind) × ((x : Span) → Has all x → Around p x → IsTrue (kinds x.kind) → x.header ≤ o.header)

  pub same_on : (p q r : ℕ) → Same p q → Same q r → Same p r
  same_on p q r f g x i = (λ w. (g x i).0 ((f x i).0 w), λ w. (f x i).1 ((g x i).1 w))

  pub enters_on : (p q r : ℕ) (o : Span) → Enters p q o → Same q r → Enters p r o
  enters_on p q r o f g x i = ⊎_elim (λ e. inl e) (λ w. inr (w.0, λ u. (g x i).0 (w.1 u), λ u. w.2 ((g x i).1 u))) (f x i)

  pub innermost_same : (kinds : Kind → Bool) (p q : ℕ) (o : Span) → Same p q → Innermost kinds p o → Innermost kinds q o
  innermost_same kinds p q o f w = (w.0, (f o w.0).0 w.1, w.2, λ x i a k. w.3 x i ((f x i).1 a) k)

  -- into a construct of another kind
  pub innermost_through : (kinds : Kind → Bool) (p q : ℕ) (c o : Span) → Enters p q c → kinds c.kind ≡ false → Innermost kinds p o
      → Innermost kinds q o
  innermost_through kinds p q c o f k w = (
    w.0,
    ⊎_elim (λ e. absurd (other o e w.2)) (λ u. u.1 w.1) (f o w.0),
    w.2,
    λ x i a t. ⊎_elim (λ e. absurd (other x e t)) (λ u. w.3 x i (u.2 a) t) (f x i),
  ) where
    other : (x : Span) → x ≡ c → IsTrue (kinds x.kind) → ⊥
    other x e t = no_truth (sym (ap (λ y. kinds y.kind) e ∙ k) ∙ t)

  pub innermost_entered : (kinds : Kind → Bool) (p q : ℕ) (o : Span) → Enters p q o → Has all o → o.header ≡ p → Around q o → IsTrue (kinds o.kind)
      → Innermost kinds q o
  innermost_entered kinds p q o f i e a k = (i, a, k, λ x j b t. ⊎_elim (λ z. itself x z) (λ u. let w = u.2 b in omega (arith, w.0, e)) (f x j)) where
    itself : (x : Span) → x ≡ o → x.header ≤ o.header
    itself x z = let h : x.header ≡ o.header = ap (λ y. y.header) z in omega (arith, h)

  -- A BRANCH FORWARD.
  not_back : (p q : ℕ) → p < q → nat_le q p ≡ false
  not_back p q h = grind (arith, nat_tests)

  forward : (p q : ℕ) → p < q → IsTrue (goes_forward all p q) → IsTrue (leads_well all (edge p q))
  forward p q l h = when_false (nat_le q p) (goes_back all p q) (goes_forward all p q) (not_back p q l) h

  abbrev near : ℕ → ℕ → Bool
  near p q = is_same_inside all p q || enters all p q

  abbrev far : ℕ → ℕ → Bool
  far p q = leaves_construct all p q || (leaves_loop all p q || leaves_choice all p q)

  pub same_leads : (p q : ℕ) → p < q → Same p q → IsTrue (leads_well all (edge p q))
  same_leads p q l f = forward p q l (either_first (near p q) (far p q) (either_first (is_same_inside all p q) (enters all p q)
      (each_passes (λ s. beq (is_around q s) (is_around p s)) all
      (λ x i. same_test (is_around q x) (is_around p x)
      (λ t. around_true p x ((f x i).1 (true_around q x t))) (λ t. around_true q x ((f x i).0 (true_around p x t)))))))

  no_header : (h p : ℕ) → (h < p) ⊎ (p < h) → h ≡ p → ⊥
  no_header h p w e = grind arith

  pub enters_leads : (p q : ℕ) (o : Span) → p < q → Enters p q o → Has all o → o.header ≡ p → Around q o → IsTrue (leads_well all (edge p q))
  enters_leads p q o l f i e a =
      forward p q l (either_first (near p q) (far p q) (either_second (is_same_inside all p q) (enters all p q)
      (both (list_all (λ s. beq (is_around q s) (is_around p s || nat_eq s.header p)) all) (list_any (λ s. nat_eq s.header p && is_around q s) all)
      (each_passes (λ s. beq (is_around q s) (is_around p s || nat_eq s.header p)) all (λ x j. one x (f x j)))
      (some_passes (λ s. nat_eq s.header p && is_around q s) all o i
      (both (nat_eq o.header p) (is_around q o) (eq_true o.header p e) (around_true q o a)))))) where
        one : (x : Span) → (x ≡ o) ⊎ (((x.header < p) ⊎ (p < x.header)) × (Around p x → Around q x) × (Around q x → Around p x))
            → IsTrue (beq (is_around q x) (is_around p x || nat_eq x.header p))
        one x (inl z) = same_test (is_around q x) (is_around p x || nat_eq x.header p)
            (λ t. either_second (is_around p x) (nat_eq x.header p) (eq_true x.header p (ap (λ y. y.header) z ∙ e)))
            (λ t. around_true q x (subst (Around q) (sym z) a))
        one x (inr u) = same_test (is_around q x) (is_around p x || nat_eq x.header p)
            (λ t. either_first (is_around p x) (nat_eq x.header p) (around_true p x (u.2 (true_around q x t))))
            (λ t. around_true q x (by_either (is_around p x) (nat_eq x.header p) (λ y. u.1 (true_around p x y))
            (λ y. absurd (no_header x.header p u.0 (is_eq x.header p y))) t))

  innermost_true : (kinds : Kind → Bool) (p : ℕ) (o : Span) → Innermost kinds p o → IsTrue (is_innermost kinds all p o)
  innermost_true kinds p o w =
      let last = λ (t : Span). not (is_around p t && kinds t.kind) || nat_le t.header o.header in
      both (is_around p o) (kinds o.kind && list_all last all) (around_true p o w.1)
      (both (kinds o.kind) (list_all last all) w.2
      (each_passes last all (λ x i. implied (is_around p x && kinds x.kind) (nat_le x.header o.header)
      (λ t. le_true x.header o.header
      (w.3 x i (true_around p x (first_holds (is_around p x) (kinds x.kind) t)) (second_holds (is_around p x) (kinds x.kind) t))))))

  pub merge_leads : (p q : ℕ) (o : Span) → p < q → Innermost is_any p o → o.merge ≡ q → IsTrue (leads_well all (edge p q))
  merge_leads p q o l w e = forward p q l (either_second (near p q) (far p q)
      (either_first (leaves_construct all p q) (leaves_loop all p q || leaves_choice all p q)
      (some_passes (λ s. is_innermost is_any all p s && merges_at q s) all o w.0
      (both (is_innermost is_any all p o) (merges_at q o) (innermost_true is_any p o w) (eq_true o.merge q e)))))

  pub loop_leads : (p q : ℕ) (o : Span) → p < q → Innermost is_loop p o → IsTrue (merges_at q o || continues_at q o.kind)
      → IsTrue (leads_well all (edge p q))
  loop_leads p q o l w e = forward p q l (either_second (near p q) (far p q)
      (either_second (leaves_construct all p q) (leaves_loop all p q || leaves_choice all p q)
      (either_first (leaves_loop all p q) (leaves_choice all p q)
      (some_passes (λ s. is_innermost is_loop all p s && (merges_at q s || continues_at q s.kind)) all o w.0
      (both (is_innermost is_loop all p o) (merges_at q o || continues_at q o.kind) (innermost_true is_loop p o w) e)))))

  pub choice_leads : (p q : ℕ) (o : Span) → p < q → Innermost is_loop_or_choice p o → IsTrue (is_choice o.kind) → o.merge ≡ q
      → IsTrue (leads_well all (edge p q))
  choice_leads p q o l w k e = forward p q l (either_second (near p q) (far p q)
      (either_second (leaves_construct all p q) (leaves_loop all p q || leaves_choice all p q)
      (either_second (leaves_loop all p q) (leaves_choice all p q)
      (some_passes (λ s. is_innermost is_loop_or_choice all p s && (is_choice s.kind && merges_at q s)) all o w.0
      (both (is_innermost is_loop_or_choice all p o) (is_choice o.kind && merges_at q o) (innermost_true is_loop_or_choice p o w)
      (both (is_choice o.kind) (merges_at q o) k (eq_true o.merge q e)))))))

  -- A BRANCH BACK.
  pub back_leads : (p q : ℕ) (o : Span) → q ≤ p → Has all o → IsTrue (continues_before p o.kind) → o.header ≡ q → p + 1 ≡ o.merge
      → IsTrue (leads_well all (edge p q))
  back_leads p q o l i k e m = when_true (nat_le q p) (goes_back all p q) (goes_forward all p q) (le_true q p l)
      (some_passes (λ s. continues_before p s.kind && (nat_eq s.header q && nat_eq (p + 1) s.merge)) all o i
      (both (continues_before p o.kind) (nat_eq o.header q && nat_eq (p + 1) o.merge) k
      (both (nat_eq o.header q) (nat_eq (p + 1) o.merge) (eq_true o.header q e) (eq_true (p + 1) o.merge m))))

  -- BREAKS AND CONTINUES.
  abbrev pub BreakAt : ℕ → ℕ → Type 0
  BreakAt p q = (o : Span) × Innermost is_loop_or_choice p o × (o.merge ≡ q)

  abbrev pub ContinueAt : ℕ → ℕ → Type 0
  ContinueAt p q = (o : Span) × Innermost is_loop p o × IsTrue (continues_at q o.kind)

  break_by : (p q : ℕ) (o : Span) (k : Kind) → o.kind ≡ k → p < q → Innermost is_loop_or_choice p o → o.merge ≡ q → IsTrue (leads_well all (edge p q))
  break_by p q o Selection e l w m = absurd (no_truth (sym (ap is_loop_or_choice e) ∙ w.2))
  break_by p q o (Loop c) e l w m =
      loop_leads p q o l (w.0, w.1, ap is_loop e, λ x i a t. w.3 x i a (either_first (is_loop x.kind) (is_choice x.kind) t))
      (either_first (merges_at q o) (continues_at q o.kind) (eq_true o.merge q m))
  break_by p q o (Choice d ts) e l w m = choice_leads p q o l w (ap is_choice e) m

  pub break_leads : (p q : ℕ) → p < q → BreakAt p q → IsTrue (leads_well all (edge p q))
  break_leads p q l w = break_by p q w.0 w.0.kind refl l w.1 w.2

  pub continue_leads : (p q : ℕ) → p < q → ContinueAt p q → IsTrue (leads_well all (edge p q))
  continue_leads p q l w = loop_leads p q w.0 l w.1 (either_second (merges_at q w.0) (continues_at q w.0.kind) w.2)
