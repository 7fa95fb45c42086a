-- What the instructions of a layout's code name are labels that stand in it.
use Rattle.std.proofs.Common.{◌≡◌, ℕ, inl, inr, List, [], ◌∷◌, ◌++◌, Option, Some, None, Bool, true, false, refl, sym, ap, ◌∙◌, subst, append_assoc}
use Rattle.std.specs.Prelude.{IsTrue, unwrap_or}
use Rattle.shader_tree.specs.Walks.{Each}
use Rattle.spirv_words.specs.Roles.{seconds}
use Rattle.spirv_words.specs.Blocks.{flow_of}
use Rattle.spirv_words.specs.Ids.{ids_of}
use Rattle.spirv_words.specs.Text.{Instr, is_instr}
use Rattle.spirv_emit.specs.Code.{In}
use Rattle.spirv_flow.specs.Labels.{labels_of, labels_in}
use Rattle.spirv_flow.specs.Layout.{Layout, Straight, Both, Guarded, Chosen, Looped, Switched, CaseAt, DefaultAt, Breaks, Continues, Returns, Case, cases, default, first_of, pairs, label, branch, code_of, ArePlain, Placed}
use Rattle.spirv_flow.proofs.Composing.{in_right}
use Rattle.spirv_flow.proofs.FormEach.{each_append}
use Rattle.spirv_flow.proofs.FormPlain.{plain_names}

pub in_front : {X : Type 0} (xs ys : List X) (x : X) → In xs x → In (xs ++ ys) x
in_front [] ys x h = absurd h
in_front (y ∷ xs) ys x (inl e) = inl e
in_front (y ∷ xs) ys x (inr h) = inr (in_front xs ys x h)

pub labels_append : (x y : List Instr) → labels_in (x ++ y) ≡ labels_in x ++ labels_in y
labels_append [] y = refl
labels_append (i ∷ x) y =
    ap (λ l. labels_of (flow_of i) ++ l) (labels_append x y) ∙ sym (append_assoc (labels_of (flow_of i)) (labels_in x) (labels_in y))

-- labels of the front and of the back
labels_front : (x y : List Instr) (l : ℕ) → In (labels_in x) l → In (labels_in (x ++ y)) l
labels_front x y l h = subst (λ ls. In ls l) (sym (labels_append x y)) (in_front (labels_in x) (labels_in y) l h)

labels_back : (x y : List Instr) (l : ℕ) → In (labels_in y) l → In (labels_in (x ++ y)) l
labels_back x y l h = subst (λ ls. In ls l) (sym (labels_append x y)) (in_right (labels_in x) (labels_in y) l h)

abbrev Holding : (ℕ → Type 0) → Option ℕ → Type 0
Holding P None = Unit {0}
Holding P (Some l) = P l

module _ (P : ℕ → Type 0) where
  abbrev Names : Instr → Type 0
  Names i = IsTrue (is_instr i) → Each P (ids_of i).names

  abbrev Has : List Instr → Type 0
  Has code = (y : ℕ) → In (labels_in code) y → P y

  -- THE CASES of a switch
  cases_have : (x : Layout) (brk cont : ℕ) → Has (code_of x brk cont) → Each (λ (c : Case). P c.label) (cases x)
  cases_have (CaseAt v l) brk cont h = (h l (inl refl), tt)
  cases_have (Both x y) brk cont h =
      each_append (λ (c : Case). P c.label) (cases x) (cases y)
      (cases_have x brk cont (λ l i. h l (labels_front (code_of x brk cont) (code_of y brk cont) l i)))
      (cases_have y brk cont (λ l i. h l (labels_back (code_of x brk cont) (code_of y brk cont) l i)))
  cases_have x brk cont h = tt

  targets_have : (cs : List Case) → Each (λ (c : Case). P c.label) cs → Each P (seconds (pairs cs))
  targets_have [] h = tt
  targets_have (c ∷ cs) h = (h.0, targets_have cs h.1)

  first_has : (a b : Option ℕ) → Holding P a → Holding P b → Holding P (first_of a b)
  first_has None b g h = h
  first_has (Some l) b g h = g

  default_has : (x : Layout) (brk cont : ℕ) → Has (code_of x brk cont) → Holding P (default x)
  default_has (DefaultAt l) brk cont h = h l (inl refl)
  default_has (Both x y) brk cont h =
      first_has (default x) (default y)
      (default_has x brk cont (λ l i. h l (labels_front (code_of x brk cont) (code_of y brk cont) l i)))
      (default_has y brk cont (λ l i. h l (labels_back (code_of x brk cont) (code_of y brk cont) l i)))
  default_has x brk cont h = tt

  other_has : (o : Option ℕ) (m : ℕ) → Holding P o → P m → P (unwrap_or o m)
  other_has None m h p = p
  other_has (Some l) m h p = h

  plain_have : (code : List Instr) → ArePlain code → Each Names code
  plain_have [] p = tt
  plain_have (i ∷ is) p = (λ f. subst (Each P) (sym (plain_names i p.0.0 p.0.1 f)) tt, plain_have is p.1)

  behind : (code back : List Instr) (l : ℕ) → Has (code ++ back) → In (labels_in back) l → P l
  behind code back l h i = h l (labels_back code back l i)

  names_of : (x : Layout) (brk cont : ℕ) (l a : Bool) → Placed x l a → Has (code_of x brk cont) → (a ≡ true → P brk) → (l ≡ true → P cont)
      → Each Names (code_of x brk cont)
  names_of (Straight code) brk cont l a p h b d = plain_have code p
  names_of (Both x y) brk cont l a p h b d =
      each_append Names (code_of x brk cont) (code_of y brk cont)
      (names_of x brk cont l a p.0 (λ k i. h k (labels_front (code_of x brk cont) (code_of y brk cont) k i)) b d)
      (names_of y brk cont l a p.1 (λ k i. h k (labels_back (code_of x brk cont) (code_of y brk cont) k i)) b d)
  names_of (Guarded t i m x) brk cont l a p h b d =
      let code = code_of x brk cont in
      let back = branch m ∷ label m ∷ [] in
      let own : P m = h m (inr (labels_back code back m (inl refl))) in
      let inner = names_of x brk cont l a p (λ k j. h k (inr (labels_front code back k j))) b d in (
        λ f. (own, tt),
        (λ f. (h i (inl refl), (own, tt)), (λ f. tt, each_append Names code back inner (λ f. (own, tt), (λ f. tt, tt)))),
      )
  names_of (Chosen t y n m x z) brk cont l a p h b d =
      let code = code_of x brk cont in
      let second = code_of z brk cont in
      let last = branch m ∷ label m ∷ [] in
      let back = branch m ∷ label n ∷ (second ++ last) in
      let own : P m = h m (inr (labels_back code back m (inr (labels_back second last m (inl refl))))) in
      let other : P n = h n (inr (labels_back code back n (inl refl))) in
      let first = names_of x brk cont l a p.0 (λ k j. h k (inr (labels_front code back k j))) b d in
      let next = names_of z brk cont l a p.1 (λ k j. h k (inr (labels_back code back k (inr (labels_front second last k j))))) b d in (
        λ f. (own, tt),
        (
          λ f. (h y (inl refl), (other, tt)),
          (
            λ f. tt,
            each_append Names code back first
                (λ f. (own, tt), (λ f. tt, each_append Names second last next (λ f. (own, tt), (λ f. tt, tt)))),
          ),
        ),
      )
  names_of (Looped e i c m x) brk cont l a p h b d =
      let code = code_of x m c in
      let back = branch c ∷ label c ∷ branch e ∷ label m ∷ [] in
      let own : P m = h m (inr (inr (labels_back code back m (inr (inl refl))))) in
      let again : P c = h c (inr (inr (labels_back code back c (inl refl)))) in
      let first : P e = h e (inl refl) in
      let inner = names_of x m c true true p (λ k j. h k (inr (inr (labels_front code back k j)))) (λ t. own) (λ t. again) in (
        λ f. (first, tt),
        (
          λ f. tt,
          (
            λ f. (own, (again, tt)),
            (
              λ f. (h i (inr (inl refl)), tt),
              (
                λ f. tt,
                each_append Names code back inner
                    (λ f. (again, tt), (λ f. tt, (λ f. (first, tt), (λ f. tt, tt)))),
              ),
            ),
          ),
        ),
      )
  names_of (Switched on i m x) brk cont l a p h b d =
      let code = code_of x m cont in
      let back = branch m ∷ label m ∷ [] in
      let own : P m = h m (inr (labels_back code back m (inl refl))) in
      let held : Has code = λ k j. h k (inr (labels_front code back k j)) in
      let inner = names_of x m cont l true p held (λ t. own) d in (
        λ f. (own, tt),
        (
          λ f. (other_has (default x) m (default_has x m cont held) own, targets_have (cases x) (cases_have x m cont held)),
          (λ f. tt, each_append Names code back inner (λ f. (own, tt), (λ f. tt, tt))),
        ),
      )
  names_of (CaseAt v k) brk cont l a p h b d = (λ f. (h k (inl refl), tt), (λ f. tt, tt))
  names_of (DefaultAt k) brk cont l a p h b d = (λ f. (h k (inl refl), tt), (λ f. tt, tt))
  names_of (Breaks n) brk cont l a p h b d = (λ f. (b p, tt), (λ f. tt, tt))
  names_of (Continues n) brk cont l a p h b d = (λ f. (d p, tt), (λ f. tt, tt))
  names_of (Returns n) brk cont l a p h b d = (λ f. tt, (λ f. tt, tt))

no_truth_is_false : {P : Type 0} → false ≡ true → P
no_truth_is_false e = absurd (cc)

-- of a whole function, outside of loops and switches
pub names_labels : (x : Layout) (brk cont : ℕ) → Placed x false false
    → Each (λ i. IsTrue (is_instr i) → Each (In (labels_in (code_of x brk cont))) (ids_of i).names) (code_of x brk cont)
names_labels x brk cont p =
    names_of (In (labels_in (code_of x brk cont))) x brk cont false false p (λ y i. i) (λ e. no_truth_is_false e) (λ e. no_truth_is_false e)
