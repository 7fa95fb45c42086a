-- Where a switch leads: to the label of the case that the tree's lane finds.
use Rattle.std.proofs.Common.{◌≡◌, ℕ, ◌+◌, ◌<◌, ◌≤◌, List, [], ◌∷◌, ◌++◌, length, Option, Some, None, Bool, true, false, refl, sym, ap, ◌∙◌, subst, arith, length-append, append-nil}
use Rattle.std.specs.Prelude.{nat_eq, cond, unwrap_or}
use Rattle.std.proofs.lemmas.Bool.Decides.{nat_tests}
use Rattle.spirv_words.specs.Globals.{Machine}
use Rattle.spirv_words.specs.Lane.{State, target}
use Rattle.spirv_words.specs.Text.{Instr}
use Rattle.shader_tree.specs.Chains.{Link, push, or_else, behind_mark}
use Rattle.shader_tree.specs.Terms.{Term}
use Rattle.shader_tree.specs.Terms as term
use Rattle.shader_tree.specs.Values.{Spaces, Words}
use Rattle.spirv_flow.specs.Layout.{Layout, Straight, Both, Guarded, Chosen, Looped, Switched, CaseAt, DefaultAt, Breaks, Continues, Returns, label, branch, Case, cases, default, first_of, pairs, code_of}
use Rattle.spirv_emit.specs.Lanes.{HasAt}
use Rattle.spirv_flow.specs.Pieces.{IsSettled, CarriesOver}
use Rattle.spirv_flow.specs.Lowering.{Lowered}
use Rattle.spirv_emit.proofs.Lists.{code_back, code_front}
use Rattle.spirv_flow.proofs.Following.{Follow, Rest, chain_of, BreaksTo, ContinuesTo, Stands, After}
use Rattle.spirv_flow.proofs.Steps.{Labels}

-- the label of the first case with that value
abbrev pub case_label : ℕ → List Case → Option ℕ
case_label w [] = None
case_label w (c ∷ cs) = cond (nat_eq c.value w) (Some c.label) (case_label w cs)

-- the label of the first case with a value, or of the first default
abbrev pub mark_label : Option ℕ → Layout → Option ℕ
mark_label (Some w) l = case_label w (cases l)
mark_label None l = default l

target_if : (b : Bool) (l w other : ℕ) (cs : List Case) → target w other (pairs cs) ≡ unwrap_or (case_label w cs) other
    → cond b l (target w other (pairs cs)) ≡ unwrap_or (cond b (Some l) (case_label w cs)) other
target_if true l w other cs e = refl
target_if false l w other cs e = e

pub target_is : (w other : ℕ) (cs : List Case) → target w other (pairs cs) ≡ unwrap_or (case_label w cs) other
target_is w other [] = refl
target_is w other (c ∷ cs) = target_if (nat_eq c.value w) c.label w other cs (target_is w other cs)

label_append : (w : ℕ) (cs ds : List Case) → case_label w (cs ++ ds) ≡ first_of (case_label w cs) (case_label w ds)
label_append w [] ds = refl
label_append w (c ∷ cs) ds = by_test (nat_eq c.value w) c.label (case_label w (cs ++ ds)) (case_label w cs) (label_append w cs ds) where
  by_test : (b : Bool) (l : ℕ) (x y : Option ℕ) → x ≡ first_of y (case_label w ds) → cond b (Some l) x ≡ first_of (cond b (Some l) y)
      (case_label w ds)
  by_test true l x y e = refl
  by_test false l x y e = e

first_none : (o : Option ℕ) → first_of o None ≡ o
first_none None = refl
first_none (Some l) = refl

-- a layout and straight code behind it
pub label_straight : (mark : Option ℕ) (l : Layout) (code : List Instr) → mark_label mark (Both l (Straight code)) ≡ mark_label mark l
label_straight (Some w) l code = ap (case_label w) (append-nil (cases l))
label_straight None l code = first_none (default l)

no_label : (mark : Option ℕ) (l : Layout) → cases l ≡ [] → default l ≡ None → mark_label mark l ≡ None
no_label (Some w) l e f = ap (case_label w) e
no_label None l e f = f

both_labels : (mark : Option ℕ) (j k : Layout) → mark_label mark (Both j k) ≡ first_of (mark_label mark j) (mark_label mark k)
both_labels (Some w) j k = label_append w (cases j) (cases k)
both_labels None j k = refl

same_test : (v w : ℕ) → nat_eq w v ≡ nat_eq v w
same_test v w = grind (arith, nat_tests)

two_defaults : (c d : Option ℕ) (e : ℕ) → unwrap_or c (unwrap_or d e) ≡ unwrap_or (first_of c d) e
two_defaults None d e = refl
two_defaults (Some l) d e = refl

-- the label to which a switch leads
pub switch_target : (w e : ℕ) (l : Layout) (back : List Instr) → target w (unwrap_or (default (Both l (Straight back))) e)
    (pairs (cases (Both l (Straight back))))
    ≡ unwrap_or (first_of (mark_label (Some w) l) (mark_label None l)) e
switch_target w e l back =
    let c = label_straight (Some w) l back in
    let d = label_straight None l back in
    target_is w (unwrap_or (default (Both l (Straight back))) e) (cases (Both l (Straight back)))
    ∙ (ap (λ o. unwrap_or o (unwrap_or (default (Both l (Straight back))) e)) c
    ∙ (ap (λ o. unwrap_or (case_label w (cases l)) (unwrap_or o e)) d
    ∙ two_defaults (case_label w (cases l)) (default l) e))

module _ (g : Spaces) (m : Machine) (settled : IsSettled m.code) (Table : Type 0) (Holds : Table → State → Words → Type 0)
    (IsClean IsNew : Table → Type 0)
    (carries : CarriesOver Holds IsClean IsNew) where
  abbrev Behind : ℕ → Table → List (Follow Table) → Type 0
  Behind p a k = After g m settled Table Holds IsClean IsNew carries p a k

  pub record IsFound (p to : ℕ) (chain : List Link) : Type 0 where
    pub q : ℕ
    pub labelled : Labels m settled to q
    pub ahead : p < q
    pub begun : Table
    pub is_begun : IsNew begun
    pub items : List (Follow Table)
    pub after : After g m settled Table Holds IsClean IsNew carries q begun items
    pub same : chain ≡ chain_of items

  -- what the tree's lane finds, and the label that the module's lane finds
  abbrev pub Finds : ℕ → Option (List Link) → Option ℕ → Type 0
  Finds p None None = Unit {0}
  Finds p (Some chain) (Some to) = IsFound p to chain
  Finds p None (Some to) = ⊥
  Finds p (Some chain) None = ⊥

  finds_from : (p q : ℕ) (c : Option (List Link)) (o : Option ℕ) → p ≤ q → Finds q c o → Finds p c o
  finds_from p q None None l f = tt
  finds_from p q (Some chain) (Some to) l f = record {
    q = f.q;
    labelled = f.labelled;
    ahead = omega (arith, f.ahead, l);
    begun = f.begun;
    is_begun = f.is_begun;
    items = f.items;
    after = f.after;
    same = f.same;
  }
  finds_from p q None (Some to) l f = f
  finds_from p q (Some chain) None l f = f

  pub finds_either : (p : ℕ) (c d : Option (List Link)) (o u : Option ℕ) → Finds p c o → Finds p d u → Finds p (or_else c d) (first_of o u)
  finds_either p None d None u f h = h
  finds_either p (Some chain) d (Some to) u f h = f
  finds_either p None d (Some to) u f h = absurd f
  finds_either p (Some chain) d None u f h = absurd f

  finds_if : (p : ℕ) (a b : Bool) (chain : List Link) (c : Option (List Link)) (to : ℕ) (o : Option ℕ) → a ≡ b → IsFound p to chain → Finds p c o
      → Finds p (cond a (Some chain) c) (cond b (Some to) o)
  finds_if p true b chain c to o e f h = subst (λ x. Finds p (Some chain) (cond x (Some to) o)) e f
  finds_if p false b chain c to o e f h = subst (λ x. Finds p c (cond x (Some to) o)) e h

  finds_none : (p : ℕ) (mark : Option ℕ) (l j : Layout) → l ≡ j → cases j ≡ [] → default j ≡ None → Finds p None (mark_label mark l)
  finds_none p mark l j e f h = subst (λ y. Finds p None (mark_label mark y)) (sym e) (subst (λ o. Finds p None o) (sym (no_label mark j f h)) tt)

  -- the code behind a case's label
  record IsMark (x : Term) (to : ℕ) (l : Layout) (brk cont p : ℕ) (c z : Table) (k : List (Follow Table)) : Type 0 where
    q : ℕ
    labelled : Labels m settled to q
    ahead : p < q
    after : Behind q c (Rest x l brk cont z ∷ k)

  behind_mark_is : (x : Term) (front : List Instr) (to : ℕ) (l : Layout) (brk cont p : ℕ) (z : Table) (k : List (Follow Table))
      → HasAt m.code p ((front ++ (branch to ∷ label to ∷ [])) ++ code_of l brk cont) → Stands l k brk cont
      → Behind (p + length ((front ++ (branch to ∷ label to ∷ [])) ++ code_of l brk cont)) z k → (c : Table) → Lowered m Holds IsClean IsNew g x l c z
      → IsMark x to l brk cont p c z k
  behind_mark_is x front to l brk cont p z k here stands behind c lowered =
      let code = code_of l brk cont in
      let mark = branch to ∷ label to ∷ [] in
      let at = p + length front in
      let rest = code_back m.code p front mark (code_front m.code p (front ++ mark) code here) in
      let e : p + length (front ++ mark) ≡ at + 1 + 1 = omega (arith, length-append front mark) in
      let v : p + length ((front ++ mark) ++ code) ≡ at + 1 + 1 + length code = omega (arith, length-append (front ++ mark) code, e) in
      record {
        q = at + 1 + 1;
        labelled = (at + 1, rest.1.0, refl);
        ahead = omega arith;
        after = (
          subst (λ q. HasAt m.code q code) e (code_back m.code p (front ++ mark) code here),
          lowered,
          stands,
          subst (λ q. Behind q z k) v
              behind,
        );
      }

  found_at : (x : Term) (to : ℕ) (l : Layout) (brk cont p : ℕ) (c z : Table) (k : List (Follow Table)) → IsNew c → IsMark x to l brk cont p c z k
      → IsFound p to (push x (chain_of k))
  found_at x to l brk cont p c z k begun h = record {
    q = h.q;
    labelled = h.labelled;
    ahead = h.ahead;
    begun = c;
    is_begun = begun;
    items = Rest x l brk cont z ∷ k;
    after = h.after;
    same = refl;
  }

  stands_in : (x y : Layout) (k : List (Follow Table)) (brk cont : ℕ) → Stands (Both x y) k brk cont → Stands y k brk cont
  stands_in x y k brk cont st = record {
    in_loop = st.in_loop;
    in_any = st.in_any;
    placed = st.placed.1;
    breaks = st.breaks;
    continues =
        st.continues;
  }

  stands_first : (x y : Layout) (k j : List (Follow Table)) (brk cont : ℕ) → (BreaksTo k brk → BreaksTo j brk)
      → (ContinuesTo k cont → ContinuesTo j cont)
      → Stands (Both x y) k brk cont → Stands x j brk cont
  stands_first x y k j brk cont f h st = record {
    in_loop = st.in_loop;
    in_any = st.in_any;
    placed = st.placed.0;
    breaks = λ t. f (st.breaks t);
    continues = λ t. h (st.continues t);
  }

  -- two statements in one, one after the other
  pub two_after : (x y : Term) (u v : Layout) (brk cont p : ℕ) (a b z : Table) (k : List (Follow Table)) → HasAt m.code p
      (code_of u brk cont ++ code_of v brk cont)
      → Stands (Both u v) k brk cont → Lowered m Holds IsClean IsNew g x u a b → Lowered m Holds IsClean IsNew g y v b z
      → Behind (p + length (code_of u brk cont ++ code_of v brk cont)) z k → Behind p a (Rest x u brk cont b ∷ Rest y v brk cont z ∷ k)
  two_after x y u v brk cont p a b z k here st first second behind =
      let c = code_of u brk cont in
      let d = code_of v brk cont in
      let e : p + length (c ++ d) ≡ p + length c + length d = omega (arith, length-append c d) in (
        code_front m.code p c d here,
        first,
        stands_first u v k (Rest y v brk cont z ∷ k) brk cont (λ h. h) (λ h. h) st,
        (code_back m.code p c d here, second, stands_in u v k brk cont st, subst (λ q. Behind q z k) e behind),
      )

  pub finds : (x : Term) (l : Layout) (mark : Option ℕ) (brk cont p : ℕ) (a z : Table) (k : List (Follow Table))
      → Behind p a (Rest x l brk cont z ∷ k)
      → Finds p (behind_mark mark x (chain_of k)) (mark_label mark l)
  finds (term.Word a) l mark brk cont p x z i h = absurd h.1
  finds (term.Scratch a) l mark brk cont p x z i h = absurd h.1
  finds (term.Thread a b) l mark brk cont p x z i h = absurd h.1
  finds (term.Read a b) l mark brk cont p x z i h = absurd h.1
  finds (term.Length a) l mark brk cont p x z i h = absurd h.1
  finds (term.One a b) l mark brk cont p x z i h = absurd h.1
  finds (term.Two a b c) l mark brk cont p x z i h = absurd h.1
  finds (term.Three a b c d) l mark brk cont p x z i h = absurd h.1
  finds (term.Insert a b c d) l mark brk cont p x z i h = absurd h.1
  finds (term.First a b c) l mark brk cont p x z i h = absurd h.1
  finds (term.Second a b c) l mark brk cont p x z i h = absurd h.1
  finds (term.Quotient a b) l mark brk cont p x z i h = absurd h.1
  finds (term.Product a b) l mark brk cont p x z i h = absurd h.1
  finds (term.Pick a b c) l mark brk cont p x z i h = absurd h.1
  finds (term.Compare a b c) l mark brk cont p x z i h = absurd h.1
  finds (term.Both a b) l mark brk cont p x z i h = absurd h.1
  finds (term.Set a b) l mark brk cont p x z i h = let u = h.1 in finds_none p mark l (Straight u.0) u.1 refl refl
  finds (term.Write a b c) l mark brk cont p x z i h = let u = h.1 in finds_none p mark l (Straight u.0) u.1 refl refl
  finds (term.Load a b c) l mark brk cont p x z i h = let u = h.1 in finds_none p mark l (Straight u.0) u.1 refl refl
  finds (term.Store a b c) l mark brk cont p x z i h = let u = h.1 in finds_none p mark l (Straight u.0) u.1 refl refl
  finds (term.Atomic a b c d e f) l mark brk cont p x z i h = let u = h.1 in finds_none p mark l (Straight u.0) u.1 refl refl
  finds (term.Sync a b c) l mark brk cont p x z i h = let u = h.1 in finds_none p mark l (Straight u.0) u.1 refl refl
  finds (term.Guard a b) l mark brk cont p x z i h = let u = h.1 in finds_none p mark l
      (Both (Straight u.front) (Guarded u.r u.inside u.merge (Both u.body (Straight u.back)))) u.layout refl refl
  finds (term.If a b c) l mark brk cont p x z i h = let u = h.1 in finds_none p mark l
      (Both (Straight u.front) (Chosen u.r u.first_label u.second_label u.merge (Both u.first (Straight u.first_back))
      (Both u.second (Straight u.second_back)))) u.layout refl refl
  finds (term.Loop a) l mark brk cont p x z i h = let u = h.1 in finds_none p mark l
      (Both (Straight u.front) (Looped u.header u.inside u.continue u.merge (Both u.body (Straight u.back)))) u.layout refl refl
  finds (term.Switch a b) l mark brk cont p x z i h = let u = h.1 in finds_none p mark l
      (Both (Straight u.front) (Switched u.r u.inside u.merge (Both u.body (Straight u.back)))) u.layout refl refl
  finds (term.Case v x) l (Some w) brk cont p a z k h =
      let u = h.1 in
      let f = subst (λ y. Behind p a (Rest (term.Case v x) y brk cont z ∷ k)) u.3 h in
      let here = behind_mark_is x u.0 u.1 u.2 brk cont p z k f.0 (stands_in (Both (Straight u.0) (CaseAt v u.1)) u.2 k brk cont f.2) f.3 u.4.begun
      u.4.lowers in
      let later = finds x u.2 (Some w) brk cont here.q u.4.begun z k here.after in
      subst (λ y. Finds p (behind_mark (Some w) (term.Case v x) (chain_of k)) (mark_label (Some w) y)) (sym u.3)
      (finds_if p (nat_eq w v) (nat_eq v w) (push x (chain_of k)) (behind_mark (Some w) x (chain_of k)) u.1 (case_label w (cases u.2)) (same_test v w)
      (found_at x u.1 u.2 brk cont p u.4.begun z k u.4.is_begun here)
      (finds_from p here.q (behind_mark (Some w) x (chain_of k)) (case_label w (cases u.2)) (omega (arith, here.ahead)) later))
  finds (term.Case v x) l None brk cont p a z k h =
      let u = h.1 in
      let f = subst (λ y. Behind p a (Rest (term.Case v x) y brk cont z ∷ k)) u.3 h in
      let here = behind_mark_is x u.0 u.1 u.2 brk cont p z k f.0 (stands_in (Both (Straight u.0) (CaseAt v u.1)) u.2 k brk cont f.2) f.3 u.4.begun
      u.4.lowers in
      let later = finds x u.2 None brk cont here.q u.4.begun z k here.after in
      subst (λ y. Finds p (behind_mark None (term.Case v x) (chain_of k)) (mark_label None y)) (sym u.3)
      (finds_from p here.q (behind_mark None x (chain_of k)) (default u.2) (omega (arith, here.ahead)) later)
  finds (term.Default x) l (Some w) brk cont p a z k h =
      let u = h.1 in
      let f = subst (λ y. Behind p a (Rest (term.Default x) y brk cont z ∷ k)) u.3 h in
      let here = behind_mark_is x u.0 u.1 u.2 brk cont p z k f.0 (stands_in (Both (Straight u.0) (DefaultAt u.1)) u.2 k brk cont f.2) f.3 u.4.begun
      u.4.lowers in
      let later = finds x u.2 (Some w) brk cont here.q u.4.begun z k here.after in
      subst (λ y. Finds p (behind_mark (Some w) (term.Default x) (chain_of k)) (mark_label (Some w) y)) (sym u.3)
      (finds_from p here.q (behind_mark (Some w) x (chain_of k)) (case_label w (cases u.2)) (omega (arith, here.ahead)) later)
  finds (term.Default x) l None brk cont p a z k h =
      let u = h.1 in
      let f = subst (λ y. Behind p a (Rest (term.Default x) y brk cont z ∷ k)) u.3 h in
      let here = behind_mark_is x u.0 u.1 u.2 brk cont p z k f.0 (stands_in (Both (Straight u.0) (DefaultAt u.1)) u.2 k brk cont f.2) f.3 u.4.begun
      u.4.lowers in
      subst (λ y. Finds p (Some (push x (chain_of k))) (mark_label None y)) (sym u.3) (found_at x u.1 u.2 brk cont p u.4.begun z k u.4.is_begun here)
  finds term.Break l mark brk cont p x z i h = let u = h.1 in finds_none p mark l (Both (Straight u.0) (Guarded u.1 u.2 u.3 (Breaks u.4))) u.5 refl
      refl
  finds term.Continue l mark brk cont p x z i h = let u = h.1 in finds_none p mark l (Both (Straight u.0) (Guarded u.1 u.2 u.3 (Continues u.4))) u.5
      refl refl
  finds term.Return l mark brk cont p x z i h = let u = h.1 in finds_none p mark l (Both (Straight u.0) (Guarded u.1 u.2 u.3 (Returns u.4))) u.5 refl
      refl
  finds (term.Then x y) l mark brk cont p a z k h =
      let u = h.1 in
      let f = subst (λ v. Behind p a (Rest (term.Then x y) v brk cont z ∷ k)) u.3 h in
      let two = two_after x y u.1 u.2 brk cont p a u.0 z k f.0 f.2 u.4 u.5 f.3 in
      let first = finds x u.1 mark brk cont p a u.0 (Rest y u.2 brk cont z ∷ k) two in
      let second = finds y u.2 mark brk cont (p + length (code_of u.1 brk cont)) u.0 z k two.3 in
      subst (λ v. Finds p (behind_mark mark (term.Then x y) (chain_of k)) (mark_label mark v)) (sym u.3)
      (subst (λ o. Finds p (behind_mark mark (term.Then x y) (chain_of k)) o) (sym (both_labels mark u.1 u.2))
      (finds_either p (behind_mark mark x (push y (chain_of k))) (behind_mark mark y (chain_of k)) (mark_label mark u.1) (mark_label mark u.2) first
      (finds_from p (p + length (code_of u.1 brk cont)) (behind_mark mark y (chain_of k)) (mark_label mark u.2) (omega arith) second)))
  finds term.Nothing l mark brk cont p x z i h = let u = h.1 in finds_none p mark l (Straight []) u.0 refl refl
