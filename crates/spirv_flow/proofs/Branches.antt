-- Each branch of a layout's blocks leads well.
use Rattle.std.proofs.Common.{◌≡◌, ℕ, ◌+◌, ◌<◌, ◌≤◌, ◌⊎◌, inl, inr, ⊎_elim, List, [], ◌∷◌, ◌++◌, map, Bool, true, refl, sym, ap, ◌∙◌, subst, arith, Option, Some, None}
use Rattle.std.specs.Prelude.{IsTrue, unwrap_or}
use Rattle.spirv_words.specs.Blocks.{Edge, edge, Span, Kind, Selection, Loop, Choice}
use Rattle.spirv_words.specs.Structure.{is_any, is_loop, is_loop_or_choice, leads_well}
use Rattle.spirv_flow.specs.Layout.{Layout, Straight, Both, Guarded, Chosen, Looped, Switched, CaseAt, DefaultAt, Breaks, Continues, Returns, first_of, Placed}
use Rattle.spirv_flow.proofs.Members.{Has, has_either, has_left, has_right, has_mapped, le_true, eq_true}
use Rattle.spirv_flow.proofs.Shape.{blocks, targets, other, span, constructs, branches}
use Rattle.spirv_flow.proofs.Nesting.{Within, within}
use Rattle.spirv_flow.proofs.Inside.{Around, Same, Enters, Innermost, BreakAt, ContinueAt, same_on, enters_on, innermost_same, innermost_through, innermost_entered, same_leads, enters_leads, merge_leads, back_leads, break_leads, continue_leads}

-- BY PLAIN NUMBERS: a construct is around the blocks between h and m.
abbrev In : ℕ → ℕ → ℕ → Type 0
In p h m = (h < p) × (p < m)

-- around all of the blocks b to e, or none
abbrev Apart : ℕ → ℕ → ℕ → ℕ → Type 0
Apart b e h m = ((h < b) × (e < m)) ⊎ (((h < m) × (m ≤ b)) ⊎ (e ≤ h))

abbrev Out : ℕ → ℕ → Span → Type 0
Out b e x = Apart b e x.header x.merge

ends_alike : (b e h m : ℕ) → b ≤ e → Apart b e h m → (In b h m → In e h m) × (In e h m → In b h m)
ends_alike b e h m l o = (λ i. grind arith, λ i. grind arith)

part_of : (b e c d h m : ℕ) → b ≤ c → d ≤ e → c ≤ d → Apart b e h m → Apart c d h m
part_of b e c d h m p q r o = grind arith

past_outer : (b e k q h m : ℕ) → b ≤ k → k < q → q < e → Apart b e h m → ((h < k) ⊎ (k < h)) × (In k h m → In q h m) × (In q h m → In k h m)
past_outer b e k q h m l n r o = (grind arith, λ i. grind arith, λ i. grind arith)

past_inner : (k q h m : ℕ) → k < q → (k < h) × ((m ≤ q) ⊎ (q ≤ h)) → ((h < k) ⊎ (k < h)) × (In k h m → In q h m) × (In q h m → In k h m)
past_inner k q h m l c = (inr c.0, λ i. grind arith, λ i. grind arith)

to_header : (b h m : ℕ) → b + 1 ≤ h → (In b h m → In (b + 1) h m) × (In (b + 1) h m → In b h m)
to_header b h m l = (λ i. grind arith, λ i. grind arith)

to_continue : (p h m : ℕ) → (m ≤ p) ⊎ ((h < p) × (p + 1 < m)) → (In p h m → In (p + 1) h m) × (In (p + 1) h m → In p h m)
to_continue p h m l = (λ i. grind arith, λ i. grind arith)

-- THE BLOCKS OF CASES, the default's among them.
abbrev pub Target : Layout → ℕ → ℕ → Type 0
Target x b t = Has (targets x b) t ⊎ (other x b ≡ Some t)

first_cases : (o u : Option ℕ) (t : ℕ) → first_of o u ≡ Some t → (o ≡ Some t) ⊎ (u ≡ Some t)
first_cases None u t e = inr e
first_cases (Some y) u t e = inl e

pub target_cases : (x y : Layout) (b t : ℕ) → Target (Both x y) b t → Target x b t ⊎ Target y (b + blocks x) t
target_cases x y b t (inl i) = ⊎_elim (λ j. inl (inl j)) (λ j. inr (inl j)) (has_either (targets x b) (targets y (b + blocks x)) t i)
target_cases x y b t (inr e) = ⊎_elim (λ j. inl (inr j)) (λ j. inr (inr j)) (first_cases (other x b) (other y (b + blocks x)) t e)

pub no_target : {P : Type 0} (o : Option ℕ) (t : ℕ) → o ≡ None → ⊥ ⊎ (o ≡ Some t) → P
no_target o t e (inl i) = absurd i
no_target o t e (inr f) = absurd (cc)

module _ (all : List Span) where
  -- The constructs of the blocks b to e are these: every other construct is around all of the blocks, or around none.
  abbrev Knows : List Span → ℕ → ℕ → Type 0
  Knows xs b e = (x : Span) → Has all x → Has xs x ⊎ Out b e x

  abbrev Ranges : List Span → ℕ → ℕ → Type 0
  Ranges xs b e = (x : Span) → Has xs x → Within b e x

  pub record Stands (x : Layout) (b : ℕ) : Type 0 where
    pub knows : (s : Span) → Has all s → Has (constructs x b) s ⊎ Out b (b + blocks x) s
    pub contains : (s : Span) → Has (constructs x b) s → Has all s

  same_between : (xs : List Span) (b e : ℕ) → b ≤ e → Knows xs b e → Ranges xs b e → Same all b e
  same_between xs b e l k r x i = ⊎_elim
      (λ j. let w = r x j in (λ a. absurd (omega (arith, w.0, a.0)), λ a. absurd (omega (arith, w.2, a.1))))
      (λ o. ends_alike b e x.header x.merge l o)
      (k x i)

  knows_first : (xs ys : List Span) (b m n e : ℕ) → b ≤ m → m ≤ n → n ≤ e → Knows (xs ++ ys) b e → Ranges ys n e → Knows xs b m
  knows_first xs ys b m n e p q r k w x i = ⊎_elim
      (λ j. ⊎_elim (λ u. inl u) (λ u. let v = w x u in inr (inr (inr (omega (arith, v.0, q))))) (has_either xs ys x j))
      (λ o. inr (part_of b e b m x.header x.merge (omega arith) (omega (arith, q, r)) p o))
      (k x i)

  knows_second : (xs ys : List Span) (b m n e : ℕ) → b ≤ m → m ≤ n → n ≤ e → Knows (xs ++ ys) b e → Ranges xs b m → Knows ys n e
  knows_second xs ys b m n e p q r k w x i = ⊎_elim
      (λ j. ⊎_elim (λ u. let v = w x u in inr (inr (inl (v.1, omega (arith, v.2, q))))) (λ u. inl u) (has_either xs ys x j))
      (λ o. inr (part_of b e n e x.header x.merge (omega (arith, p, q)) (omega arith) r o))
      (k x i)

  -- what stands in a construct o, in the blocks c to f
  knows_in : (o : Span) (ys : List Span) (b e c f : ℕ) → o.header < c → f < o.merge → b ≤ c → f ≤ e → c ≤ f → Knows (o ∷ ys) b e → Knows ys c f
  knows_in o ys b e c f p q r s l k x i = ⊎_elim
      (λ j. ⊎_elim (λ z. inr (subst (Out c f) (sym z) (inl (p, q)))) (λ u. inl u) j)
      (λ z. inr (part_of b e c f x.header x.merge r s l z))
      (k x i)

  enters_in : (o : Span) (ys : List Span) (b e k q : ℕ) → b ≤ k → k < q → q < e
      → ((x : Span) → Has ys x → (k < x.header) × ((x.merge ≤ q) ⊎ (q ≤ x.header)))
      → Knows (o ∷ ys) b e → Enters all k q o
  enters_in o ys b e k q p r s w n x i = ⊎_elim
      (λ j. ⊎_elim (λ z. inl z) (λ u. inr (past_inner k q x.header x.merge r (w x u))) j)
      (λ z. inr (past_outer b e k q x.header x.merge p r s z))
      (n x i)

  knows_to : (xs : List Span) (b e f : ℕ) → e ≡ f → Knows xs b e → Knows xs b f
  knows_to xs b e f z k = subst (λ q. Knows xs b q) z k

  behind : (x : Layout) (c k : ℕ) → k < c → (s : Span) → Has (constructs x c) s → (k < s.header) × ((s.merge ≤ c) ⊎ (c ≤ s.header))
  behind x c k l s i = let w = within x c s i in (omega (arith, w.0, l), inr w.0)

  same_ends : (x : Layout) (b : ℕ) → Stands x b → Same all b (b + blocks x)
  same_ends x b k = same_between (constructs x b) b (b + blocks x) (omega arith) k.knows (within x b)

  -- WHERE BREAKS AND CONTINUES LEAD from the blocks b to e.
  pub record Ways (l a : Bool) (b e brk cont : ℕ) : Type 0 where
    pub leave : a ≡ true → BreakAt all b brk × (e < brk)
    pub renew : l ≡ true → ContinueAt all b cont × (e < cont)

  ways_same : (l a : Bool) (b e c f brk cont : ℕ) → Same all b c → f ≤ e → Ways l a b e brk cont → Ways l a c f brk cont
  ways_same l a b e c f brk cont s p w = record {
    leave = λ h. let u = w.leave h in ((u.0.0, innermost_same all is_loop_or_choice b c u.0.0 s u.0.1, u.0.2), omega (arith, p, u.1));
    renew = λ h. let u = w.renew h in ((u.0.0, innermost_same all is_loop b c u.0.0 s u.0.1, u.0.2), omega (arith, p, u.1));
  }

  ways_selection : (l a : Bool) (b e c f brk cont : ℕ) (o : Span) → Enters all b c o → o.kind ≡ Selection → f ≤ e → Ways l a b e brk cont
      → Ways l a c f brk cont
  ways_selection l a b e c f brk cont o s k p w = record {
    leave = λ t. let u = w.leave t in (
      (u.0.0, innermost_through all is_loop_or_choice b c o u.0.0 s (ap is_loop_or_choice k) u.0.1, u.0.2),
      omega
          (arith, p, u.1),
    );
    renew = λ t. let u = w.renew t in ((u.0.0, innermost_through all is_loop b c o u.0.0 s (ap is_loop k) u.0.1, u.0.2), omega (arith, p, u.1));
  }

  ways_choice : (l a : Bool) (b e c f brk cont m : ℕ) (o : Span) (d : ℕ) (ts : List ℕ) → Enters all b c o → Has all o → Around c o → o.header ≡ b
      → o.merge ≡ m
      → o.kind ≡ Choice d ts → f ≤ e → f < m → Ways l a b e brk cont → Ways l true c f m cont
  ways_choice l a b e c f brk cont m o d ts s i n h z k p q w = record {
    leave = λ t. ((o, innermost_entered all is_loop_or_choice b c o s i h n (ap is_loop_or_choice k), z), q);
    renew = λ t. let u = w.renew t in ((u.0.0, innermost_through all is_loop b c o u.0.0 s (ap is_loop k) u.0.1, u.0.2), omega (arith, p, u.1));
  }

  -- LISTS OF BRANCHES.
  abbrev pub Leads : List Edge → Type 0
  Leads es = (e : Edge) → Has es e → IsTrue (leads_well all e)

  at_edge : (e f : Edge) → IsTrue (leads_well all f) → e ≡ f → IsTrue (leads_well all e)
  at_edge e f h z = subst (λ y. IsTrue (leads_well all y)) (sym z) h

  none_lead : Leads []
  none_lead e i = absurd i

  one_leads : (f : Edge) (es : List Edge) → IsTrue (leads_well all f) → Leads es → Leads (f ∷ es)
  one_leads f es h t e i = ⊎_elim (at_edge e f h) (t e) i

  both_lead : (es fs : List Edge) → Leads es → Leads fs → Leads (es ++ fs)
  both_lead es fs p q e i = ⊎_elim (p e) (q e) (has_either es fs e i)

  mapped_lead : (b : ℕ) (ts : List ℕ) → ((t : ℕ) → Has ts t → IsTrue (leads_well all (edge b t))) → Leads (map (edge b) ts)
  mapped_lead b ts h e i = let r = has_mapped (edge b) ts e i in at_edge e (edge b r.0) (h r.0 r.1) r.2

  -- ONE LAYOUT IN A CONSTRUCT.
  record Wrapped (o : Span) (x : Layout) (c : ℕ) : Type 0 where
    enters : Enters all o.header c o
    body : Stands x c
    same : Same all c (c + blocks x)
    own : Has all o

  wrapped : (o : Span) (x : Layout) (b e c : ℕ) → b ≤ o.header → o.header < c → c + blocks x < o.merge → o.merge ≤ e → Knows (o ∷ constructs x c) b e
      → ((s : Span) → Has (o ∷ constructs x c) s → Has all s) → Wrapped o x c
  wrapped o x b e c p q r t k h =
      let body : Stands x c = record {
        knows = knows_in o (constructs x c) b e c (c + blocks x) q r (omega (arith, p, q)) (omega (arith, r, t)) (omega arith) k;
        contains = λ s i. h s (inr i);
      } in
      record {
        enters = enters_in o (constructs x c) b e o.header c p q (omega (arith, r, t)) (behind x c o.header q) k;
        body = body;
        same = same_ends x c body;
        own = h o (inl refl);
      }

  -- the last block of the layout is in o and in no other construct of it
  innermost_at_end : (o : Span) (x : Layout) (c : ℕ) (kinds : Kind → Bool) → Wrapped o x c → o.header < c → c + blocks x < o.merge
      → IsTrue (kinds o.kind)
      → Innermost all kinds (c + blocks x) o
  innermost_at_end o x c kinds w p q k =
      innermost_same all kinds c (c + blocks x) o w.same (innermost_entered all kinds o.header c o w.enters w.own refl (p, omega (arith, q)) k)

  good_guarded : (t i m : ℕ) (x : Layout) (b brk cont : ℕ) (l a : Bool)
      → (Stands x (b + 1) → Ways l a (b + 1) (b + 1 + blocks x) brk cont → Leads (branches x (b + 1) brk cont))
      → Stands (Guarded t i m x) b → Ways l a b (b + blocks (Guarded t i m x)) brk cont → Leads (branches (Guarded t i m x) b brk cont)
  good_guarded t i m x b brk cont l a inner k w =
      let p = b + 1 + blocks x in
      let o = span b (p + 1) Selection in
      let end : b + blocks (Guarded t i m x) ≡ p + 1 = omega arith in
      let r = wrapped o x b (p + 1) (b + 1) (omega arith) (omega arith) (omega arith) (omega arith)
      (knows_to (o ∷ constructs x (b + 1)) b (b + blocks (Guarded t i m x)) (p + 1) end k.knows) k.contains in
      let over : Same all b (p + 1) = subst (Same all b) end (same_ends (Guarded t i m x) b k) in
      let es = branches x (b + 1) brk cont in
      one_leads (edge b (b + 1)) (edge b (p + 1) ∷ (es ++ (edge p (p + 1) ∷ [])))
      (enters_leads all b (b + 1) o (omega arith) r.enters r.own refl (omega arith, omega arith))
      (one_leads (edge b (p + 1)) (es ++ (edge p (p + 1) ∷ [])) (same_leads all b (p + 1) (omega arith) over)
      (both_lead es (edge p (p + 1) ∷ [])
      (inner r.body (ways_selection l a b (b + blocks (Guarded t i m x)) (b + 1) p brk cont o r.enters refl (omega arith) w))
      (one_leads (edge p (p + 1)) []
      (merge_leads all p (p + 1) o (omega arith) (innermost_at_end o x (b + 1) is_any r (omega arith) (omega arith) refl) refl) none_lead)))

  -- TWO LAYOUTS IN A CONSTRUCT, one behind the other.
  record WrappedTwo (o : Span) (x z : Layout) (c d : ℕ) : Type 0 where
    first : Wrapped o x c
    second : Wrapped o z d

  wrapped_two : (o : Span) (x z : Layout) (b e c d : ℕ) → b ≤ o.header → o.header < c → c + blocks x < d → d + blocks z < o.merge → o.merge ≤ e
      → Knows (o ∷ (constructs x c ++ constructs z d)) b e → ((s : Span) → Has (o ∷ (constructs x c ++ constructs z d)) s → Has all s)
      → WrappedTwo o x z c d
  wrapped_two o x z b e c d p q m r u k h =
      let xs = constructs x c in
      let zs = constructs z d in
      let f = d + blocks z in
      let inside = knows_in o (xs ++ zs) b e c f q r (omega (arith, p, q)) (omega (arith, r, u)) (omega (arith, m)) k in
      let one : Stands x c = record {
        knows = knows_first xs zs c (c + blocks x) d f (omega arith) (omega (arith, m)) (omega arith) inside (within z d);
        contains = λ s i. h s (inr (has_left xs zs s i));
      } in
      let two : Stands z d = record {
        knows = knows_second xs zs c (c + blocks x) d f (omega arith) (omega (arith, m)) (omega arith) inside (within x c);
        contains = λ s i. h s (inr (has_right xs zs s i));
      } in
      record {
        first = record {
          enters = enters_in o (xs ++ zs) b e o.header c p q (omega (arith, m, r, u))
              (λ s i. ⊎_elim (behind x c o.header q s) (λ j. let w = within z d s j in (omega (arith, w.0, m, q), inr (omega (arith, w.0, m))))
              (has_either xs zs s i)) k;
          body = one;
          same = same_ends x c one;
          own = h o (inl refl);
        };
        second = record {
          enters = enters_in o (xs ++ zs) b e o.header d p (omega (arith, q, m)) (omega (arith, m, r, u))
              (λ s i. ⊎_elim (λ j. let w = within x c s j in (omega (arith, w.0, q), inl (omega (arith, w.2, m))))
              (behind z d o.header (omega (arith, q, m)) s) (has_either xs zs s i)) k;
          body = two;
          same = same_ends z d two;
          own = h o (inl refl);
        };
      }

  good_chosen : (t y n m : ℕ) (x z : Layout) (b brk cont : ℕ) (l a : Bool)
      → (Stands x (b + 1) → Ways l a (b + 1) (b + 1 + blocks x) brk cont → Leads (branches x (b + 1) brk cont))
      → (Stands z (b + 1 + blocks x + 1) → Ways l a (b + 1 + blocks x + 1) (b + 1 + blocks x + 1 + blocks z) brk cont
      → Leads (branches z (b + 1 + blocks x + 1) brk cont))
      → Stands (Chosen t y n m x z) b → Ways l a b (b + blocks (Chosen t y n m x z)) brk cont → Leads (branches (Chosen t y n m x z) b brk cont)
  good_chosen t y n m x z b brk cont l a first second k w =
      let p = b + 1 + blocks x in
      let c = p + 1 in
      let q = c + blocks z in
      let o = span b (q + 1) Selection in
      let all_blocks = b + blocks (Chosen t y n m x z) in
      let end : all_blocks ≡ q + 1 = omega arith in
      let two = wrapped_two o x z b (q + 1) (b + 1) c (omega arith) (omega arith) (omega arith) (omega arith) (omega arith)
      (knows_to (o ∷ (constructs x (b + 1) ++ constructs z c)) b all_blocks (q + 1) end k.knows) k.contains in
      let es = branches x (b + 1) brk cont in
      let fs = branches z c brk cont in
      let last = edge q (q + 1) ∷ [] in
      one_leads (edge b (b + 1)) (edge b c ∷ (es ++ (edge p (q + 1) ∷ (fs ++ last))))
      (enters_leads all b (b + 1) o (omega arith) two.first.enters two.first.own refl (omega arith, omega arith))
      (one_leads (edge b c) (es ++ (edge p (q + 1) ∷ (fs ++ last)))
      (enters_leads all b c o (omega arith) two.second.enters two.second.own refl (omega arith, omega arith))
      (both_lead es (edge p (q + 1) ∷ (fs ++ last))
      (first two.first.body (ways_selection l a b all_blocks (b + 1) p brk cont o two.first.enters refl (omega arith) w))
      (one_leads (edge p (q + 1)) (fs ++ last)
      (merge_leads all p (q + 1) o (omega arith) (innermost_at_end o x (b + 1) is_any two.first (omega arith) (omega arith) refl) refl)
      (both_lead fs last
      (second two.second.body (ways_selection l a b all_blocks c q brk cont o two.second.enters refl (omega arith) w))
      (one_leads (edge q (q + 1)) []
      (merge_leads all q (q + 1) o (omega arith) (innermost_at_end o z c is_any two.second (omega arith) (omega arith) refl) refl) none_lead)))))

  same_by : (xs : List Span) (b e p q : ℕ) → b ≤ p → p ≤ q → q ≤ e → Knows xs b e
      → ((x : Span) → Has xs x → (Around p x → Around q x) × (Around q x → Around p x)) → Same all p q
  same_by xs b e p q u v w k f x i = ⊎_elim (f x) (λ o. ends_alike p q x.header x.merge v (part_of b e p q x.header x.merge u w v o)) (k x i)

  good_looped : (h i j m : ℕ) (x : Layout) (b brk cont : ℕ)
      → (Stands x (b + 1 + 1) → Ways true true (b + 1 + 1) (b + 1 + 1 + blocks x) (b + 1 + 1 + blocks x + 1 + 1) (b + 1 + 1 + blocks x + 1)
      → Leads (branches x (b + 1 + 1) (b + 1 + 1 + blocks x + 1 + 1) (b + 1 + 1 + blocks x + 1)))
      → Stands (Looped h i j m x) b → Leads (branches (Looped h i j m x) b brk cont)
  good_looped h i j m x b brk cont inner k =
      let c = b + 1 + 1 in
      let p = c + blocks x in
      let o = span (b + 1) (p + 1 + 1) (Loop (p + 1)) in
      let xs = o ∷ constructs x c in
      let end : b + blocks (Looped h i j m x) ≡ p + 1 + 1 = omega arith in
      let knows : Knows xs b (p + 1 + 1) = knows_to xs b (b + blocks (Looped h i j m x)) (p + 1 + 1) end k.knows in
      let r = wrapped o x b (p + 1 + 1) c (omega arith) (omega arith) (omega arith) (omega arith) knows k.contains in
      let es = branches x c (p + 1 + 1) (p + 1) in
      let header : Same all b (b + 1) = same_by xs b (p + 1 + 1) b (b + 1) (omega arith) (omega arith) (omega arith) knows
      (λ s u. to_header b s.header s.merge (⊎_elim
      (λ z. let e : s.header ≡ b + 1 = ap (λ y. y.header) z in omega (arith, e)) (λ v. let w = within x c s v in omega (arith, w.0)) u)) in
      let back : Same all p (p + 1) = same_by xs b (p + 1 + 1) p (p + 1) (omega arith) (omega arith) (omega arith) knows
      (λ s u. to_continue p s.header s.merge (⊎_elim
      (λ z. let e : s.header ≡ b + 1 = ap (λ y. y.header) z in let f : s.merge ≡ p + 1 + 1 = ap (λ y. y.merge) z in
      inr (omega (arith, e), omega (arith, f)))
      (λ v. let w = within x c s v in inl (omega (arith, w.2))) u)) in
      let ways : Ways true true c p (p + 1 + 1) (p + 1) = record {
        leave = λ t. (
          (o, innermost_entered all is_loop_or_choice (b + 1) c o r.enters r.own refl (omega arith, omega arith) refl, refl),
          omega arith,
        );
        renew = λ t. (
          (
            o,
            innermost_entered all is_loop (b + 1) c o r.enters r.own refl (omega arith, omega arith) refl,
            eq_true (p + 1)
                (p + 1) refl,
          ),
          omega arith,
        );
      } in
      one_leads (edge b (b + 1)) (edge (b + 1) c ∷ (es ++ (edge p (p + 1) ∷ edge (p + 1) (b + 1) ∷ [])))
      (same_leads all b (b + 1) (omega arith) header)
      (one_leads (edge (b + 1) c) (es ++ (edge p (p + 1) ∷ edge (p + 1) (b + 1) ∷ []))
      (enters_leads all (b + 1) c o (omega arith) r.enters r.own refl (omega arith, omega arith))
      (both_lead es (edge p (p + 1) ∷ edge (p + 1) (b + 1) ∷ []) (inner r.body ways)
      (one_leads (edge p (p + 1)) (edge (p + 1) (b + 1) ∷ []) (same_leads all p (p + 1) (omega arith) back)
      (one_leads (edge (p + 1) (b + 1)) []
      (back_leads all (p + 1) (b + 1) o (omega arith) r.own (le_true (p + 1) (p + 1) (omega arith)) refl refl) none_lead))))

  stands_first : (x y : Layout) (b : ℕ) → Stands (Both x y) b → Stands x b
  stands_first x y b k =
      let c = b + blocks x in
      record {
        knows = knows_first (constructs x b) (constructs y c) b c c (c + blocks y) (omega arith) (omega arith) (omega arith)
            (knows_to (constructs (Both x y) b) b (b + blocks (Both x y)) (c + blocks y) (omega arith) k.knows) (within y c);
        contains = λ s i. k.contains s (has_left (constructs x b) (constructs y c) s i);
      }

  stands_second : (x y : Layout) (b : ℕ) → Stands (Both x y) b → Stands y (b + blocks x)
  stands_second x y b k =
      let c = b + blocks x in
      record {
        knows = knows_second (constructs x b) (constructs y c) b c c (c + blocks y) (omega arith) (omega arith) (omega arith)
            (knows_to (constructs (Both x y) b) b (b + blocks (Both x y)) (c + blocks y) (omega arith) k.knows) (within x b);
        contains = λ s i. k.contains s (has_right (constructs x b) (constructs y c) s i);
      }

  -- The block of a case is in the constructs in which the layout begins.
  at_next : (x : Layout) (b t : ℕ) → Stands x b → b + blocks x ≡ b + 1 → t ≡ b + 1 → Same all b t × (b < t) × (t ≤ b + blocks x)
  at_next x b t k e z = (subst (Same all b) (e ∙ sym z) (same_ends x b k), omega (arith, z), omega (arith, e, z))

  next_target : (b t : ℕ) (o : Option ℕ) → o ≡ None → Has ((b + 1) ∷ []) t ⊎ (o ≡ Some t) → t ≡ b + 1
  next_target b t o n (inl (inl e)) = e
  next_target b t o n (inl (inr e)) = absurd e
  next_target b t o n (inr f) = absurd (cc)

  target_same : (x : Layout) (b t : ℕ) → Stands x b → Target x b t → Same all b t × (b < t) × (t ≤ b + blocks x)
  target_same (CaseAt v l) b t k m = at_next (CaseAt v l) b t k refl (next_target b t None refl m)
  target_same (DefaultAt l) b t k (inl i) = absurd i
  target_same (DefaultAt l) b t k (inr e) = at_next (DefaultAt l) b t k refl (let f : b + 1 ≡ t = cc in sym f)
  target_same (Both x y) b t k m = ⊎_elim
      (λ j. let w = target_same x b t (stands_first x y b k) j in (w.0, w.1, omega (arith, w.2)))
      (λ j. let w = target_same y (b + blocks x) t (stands_second x y b k) j in
      (same_on all b (b + blocks x) t (same_ends x b (stands_first x y b k)) w.0, omega (arith, w.1), omega (arith, w.2)))
      (target_cases x y b t m)
  target_same (Straight code) b t k m = no_target None t refl m
  target_same (Guarded g i n x) b t k m = no_target None t refl m
  target_same (Chosen g y n q x z) b t k m = no_target None t refl m
  target_same (Looped h i c n x) b t k m = no_target None t refl m
  target_same (Switched on i n x) b t k m = no_target None t refl m
  target_same (Breaks n) b t k m = no_target None t refl m
  target_same (Continues n) b t k m = no_target None t refl m
  target_same (Returns n) b t k m = no_target None t refl m

  to_other : (b m : ℕ) (o : Option ℕ) → ((t : ℕ) → o ≡ Some t → IsTrue (leads_well all (edge b t))) → IsTrue (leads_well all (edge b m))
      → IsTrue (leads_well all (edge b (unwrap_or o m)))
  to_other b m None f g = g
  to_other b m (Some t) f g = f t refl

  good_switched : (on i m : ℕ) (x : Layout) (b brk cont : ℕ) (l a : Bool)
      → (Stands x (b + 1) → Ways l true (b + 1) (b + 1 + blocks x) (b + 1 + blocks x + 1) cont
      → Leads (branches x (b + 1) (b + 1 + blocks x + 1) cont))
      → Stands (Switched on i m x) b → Ways l a b (b + blocks (Switched on i m x)) brk cont → Leads (branches (Switched on i m x) b brk cont)
  good_switched on i m x b brk cont l a inner k w =
      let p = b + 1 + blocks x in
      let ts = targets x (b + 1) in
      let d = unwrap_or (other x (b + 1)) (p + 1) in
      let o = span b (p + 1) (Choice d ts) in
      let end : b + blocks (Switched on i m x) ≡ p + 1 = omega arith in
      let r = wrapped o x b (p + 1) (b + 1) (omega arith) (omega arith) (omega arith) (omega arith)
      (knows_to (o ∷ constructs x (b + 1)) b (b + blocks (Switched on i m x)) (p + 1) end k.knows) k.contains in
      let over : Same all b (p + 1) = subst (Same all b) end (same_ends (Switched on i m x) b k) in
      let es = branches x (b + 1) (p + 1) cont in
      let last = edge p (p + 1) ∷ [] in
      let enter : (t : ℕ) → Target x (b + 1) t → IsTrue (leads_well all (edge b t)) = λ t j.
      let u = target_same x (b + 1) t r.body j in
      enters_leads all b t o (omega (arith, u.1)) (enters_on all b (b + 1) t o r.enters u.0) r.own refl (omega (arith, u.1), omega (arith, u.2)) in
      one_leads (edge b d) (map (edge b) ts ++ (es ++ last))
      (to_other b (p + 1) (other x (b + 1)) (λ t e. enter t (inr e)) (same_leads all b (p + 1) (omega arith) over))
      (both_lead (map (edge b) ts) (es ++ last) (mapped_lead b ts (λ t j. enter t (inl j)))
      (both_lead es last
      (inner r.body (ways_choice l a b (b + blocks (Switched on i m x)) (b + 1) p brk cont (p + 1) o d ts r.enters r.own
      (omega arith, omega arith) refl refl refl (omega arith) (omega arith) w))
      (one_leads (edge p (p + 1)) []
      (merge_leads all p (p + 1) o (omega arith) (innermost_at_end o x (b + 1) is_any r (omega arith) (omega arith) refl) refl) none_lead)))

  next_leads : (x : Layout) (b : ℕ) → blocks x ≡ 1 → Stands x b → IsTrue (leads_well all (edge b (b + 1)))
  next_leads x b e k = same_leads all b (b + 1) (omega arith) (subst (λ q. Same all b (b + q)) e (same_ends x b k))

  pub good : (x : Layout) (b brk cont : ℕ) (l a : Bool) → Placed x l a → Stands x b → Ways l a b (b + blocks x) brk cont
      → Leads (branches x b brk cont)
  good (Straight code) b brk cont l a p k w = none_lead
  good (Returns n) b brk cont l a p k w = none_lead
  good (CaseAt v j) b brk cont l a p k w = one_leads (edge b (b + 1)) [] (next_leads (CaseAt v j) b refl k) none_lead
  good (DefaultAt j) b brk cont l a p k w = one_leads (edge b (b + 1)) [] (next_leads (DefaultAt j) b refl k) none_lead
  good (Breaks n) b brk cont l a p k w = let u = w.leave p in one_leads (edge b brk) [] (break_leads all b brk (omega (arith, u.1)) u.0) none_lead
  good (Continues n) b brk cont l a p k w = let u = w.renew p in one_leads (edge b cont) [] (continue_leads all b cont (omega (arith, u.1)) u.0)
      none_lead
  good (Guarded t i m x) b brk cont l a p k w = good_guarded t i m x b brk cont l a (λ s v. good x (b + 1) brk cont l a p s v) k w
  good (Chosen t y n m x z) b brk cont l a p k w =
      good_chosen t y n m x z b brk cont l a (λ s v. good x (b + 1) brk cont l a p.0 s v) (λ s v. good z (b + 1 + blocks x + 1) brk cont l a p.1 s v)
      k w
  good (Looped h i c m x) b brk cont l a p k w =
      good_looped h i c m x b brk cont (λ s v. good x (b + 1 + 1) (b + 1 + 1 + blocks x + 1 + 1) (b + 1 + 1 + blocks x + 1) true true p s v) k
  good (Switched on i m x) b brk cont l a p k w = good_switched on i m x b brk cont l a
      (λ s v. good x (b + 1) (b + 1 + blocks x + 1) cont l true p s v) k w
  good (Both x y) b brk cont l a p k w =
      let c = b + blocks x in
      both_lead (branches x b brk cont) (branches y c brk cont)
      (good x b brk cont l a p.0 (stands_first x y b k)
      (ways_same l a b (b + blocks (Both x y)) b c brk cont (λ s i. (λ u. u, λ u. u)) (omega arith) w))
      (good y c brk cont l a p.1 (stands_second x y b k)
      (ways_same l a b (b + blocks (Both x y)) c (c + blocks y) brk cont (same_ends x b (stands_first x y b k)) (omega arith) w))
