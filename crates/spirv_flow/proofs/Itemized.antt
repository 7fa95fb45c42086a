-- The items of a whole module are those of its statement: of its labels, those of the merge blocks of loops and switches
-- are items, and no others.
use Rattle.std.proofs.Common.{◌≡◌, ℕ, ◌+◌, ◌≤◌, inl, inr, List, [], ◌∷◌, ◌++◌, length, map, Some, Bool, true, false, refl, sym, ap, ◌∙◌, subst, arith, append_assoc, append-nil, length-append}
use Rattle.std.specs.Prelude.{nat_eq, slice_get}
use Rattle.std.specs.List.{list_any}
use Rattle.std.proofs.lemmas.Bool.Decides.{nat_tests}
use Rattle.shader_tree.specs.Shape.{OpensLoop, OpensSwitch, ClosesIt, shape}
use Rattle.shader_tree.specs.Terms.{Term}
use Rattle.spirv_words.specs.Definitions.{results}
use Rattle.spirv_words.specs.Globals.{Places}
use Rattle.spirv_words.specs.Text.{Instr}
use Rattle.spirv_emit.specs.Code.{In}
use Rattle.spirv_emit.specs.declared.emitter.Emitter.{Emitter as Emission}
use Rattle.spirv_emit.specs.Growing.{Completes}
use Rattle.spirv_emit.specs.Lanes.{Site, HasAt}
use Rattle.spirv_emit.specs.Linked.{IsLinked}
use Rattle.spirv_emit.specs.ModuleShape.{Mark, Seen, firsts, flow_at, merge_by, merges_of, shape_of}
use Rattle.spirv_flow.specs.Fronts.{tail, whole}
use Rattle.spirv_flow.specs.Layout.{Layout, Straight, Both, Guarded, Chosen, Looped, Switched, CaseAt, DefaultAt, Breaks, Continues, Returns, Case, cases, pairs, label, branch, merge, loop_merge, switch, code_of, ArePlain, Placed}
use Rattle.spirv_flow.specs.Lowers.{Lowers, times}
use Rattle.spirv_flow.specs.Shapes.{values, shape_in, HasNoItems}
use Rattle.spirv_emit.proofs.Links.{shape_append}
use Rattle.spirv_flow.proofs.Composing.{times_append, times_results}
use Rattle.spirv_flow.proofs.Members.{Has, has_left, has_right, some_passes}
use Rattle.spirv_flow.proofs.Numbers.{once}
use Rattle.spirv_flow.proofs.Shapes.{behind_quiet, before_quiet}

-- THE LABELS of a layout: of the merge blocks of its loops and switches, and its others.
abbrev merges_in : Layout → List ℕ
merges_in (Both a b) = merges_in a ++ merges_in b
merges_in (Guarded t i m x) = merges_in x
merges_in (Chosen t y n m a b) = merges_in a ++ merges_in b
merges_in (Looped h i c m x) = m ∷ merges_in x
merges_in (Switched on i m x) = m ∷ merges_in x
merges_in x = []

abbrev others_in : Layout → List ℕ
others_in (Straight code) = []
others_in (Both a b) = others_in a ++ others_in b
others_in (Guarded t i m x) = i ∷ (others_in x ++ m ∷ [])
others_in (Chosen t y n m a b) = y ∷ (others_in a ++ n ∷ (others_in b ++ m ∷ []))
others_in (Looped h i c m x) = h ∷ i ∷ (others_in x ++ c ∷ [])
others_in (Switched on i m x) = i ∷ others_in x
others_in (CaseAt v l) = l ∷ []
others_in (DefaultAt l) = l ∷ []
others_in (Breaks n) = n ∷ []
others_in (Continues n) = n ∷ []
others_in (Returns n) = n ∷ []

-- the merge labels that its code names
plain_merges : (seg rest : List Instr) → ArePlain seg → merges_of (seg ++ rest) ≡ merges_of rest
plain_merges [] rest p = refl
plain_merges (i ∷ is) rest p =
    ap (λ f. merge_by f (flow_at (is ++ rest)) ++ merges_of (is ++ rest)) p.0.0 ∙ plain_merges is rest p.1

joined : (a b : List ℕ) (c d rest : List Instr) → merges_of (c ++ (d ++ rest)) ≡ a ++ merges_of (d ++ rest)
    → merges_of (d ++ rest) ≡ b ++ merges_of rest → merges_of ((c ++ d) ++ rest) ≡ (a ++ b) ++ merges_of rest
joined a b c d rest g h =
    ap merges_of (append_assoc c d rest) ∙ (g ∙ (ap (λ l. a ++ l) h ∙ sym (append_assoc a b (merges_of rest))))

under : (a : List ℕ) (c back rest : List Instr) → merges_of (c ++ (back ++ rest)) ≡ a ++ merges_of (back ++ rest)
    → merges_of (back ++ rest) ≡ merges_of rest → merges_of ((c ++ back) ++ rest) ≡ a ++ merges_of rest
under a c back rest g h = ap merges_of (append_assoc c back rest) ∙ (g ∙ ap (λ l. a ++ l) h)

merges_read : (x : Layout) (brk cont : ℕ) (l a : Bool) → Placed x l a → (rest : List Instr)
    → merges_of (code_of x brk cont ++ rest) ≡ merges_in x ++ merges_of rest
merges_read (Straight code) brk cont l a p rest = plain_merges code rest p
merges_read (Both x y) brk cont l a p rest =
    joined (merges_in x) (merges_in y) (code_of x brk cont) (code_of y brk cont) rest
    (merges_read x brk cont l a p.0 (code_of y brk cont ++ rest)) (merges_read y brk cont l a p.1 rest)
merges_read (Guarded t i m x) brk cont l a p rest =
    under (merges_in x) (code_of x brk cont) (branch m ∷ label m ∷ []) rest
    (merges_read x brk cont l a p (branch m ∷ label m ∷ rest)) refl
merges_read (Chosen t y n m x z) brk cont l a p rest =
    let back = branch m ∷ label m ∷ [] in
    let d = code_of z brk cont in
    let second = branch m ∷ label n ∷ (d ++ back) in
    joined (merges_in x) (merges_in z) (code_of x brk cont) second rest (merges_read x brk cont l a p.0 (second ++ rest))
    (under (merges_in z) d back rest (merges_read z brk cont l a p.1 (back ++ rest)) refl)
merges_read (Looped h i c m x) brk cont l a p rest =
    let back = branch c ∷ label c ∷ branch h ∷ label m ∷ [] in
    ap (λ k. m ∷ k) (under (merges_in x) (code_of x m c) back rest (merges_read x m c true true p (back ++ rest)) refl)
merges_read (Switched on i m x) brk cont l a p rest =
    let back = branch m ∷ label m ∷ [] in
    ap (λ k. m ∷ k) (under (merges_in x) (code_of x m cont) back rest (merges_read x m cont l true p (back ++ rest)) refl)
merges_read (CaseAt v k) brk cont l a p rest = refl
merges_read (DefaultAt k) brk cont l a p rest = refl
merges_read (Breaks n) brk cont l a p rest = refl
merges_read (Continues n) brk cont l a p rest = refl
merges_read (Returns n) brk cont l a p rest = refl

first_values : (cs : List Case) → firsts (pairs cs) ≡ values cs
first_values [] = refl
first_values (c ∷ cs) = ap (λ l. c.value ∷ l) (first_values cs)

-- WHAT IS READ of a layout's code, where it is known which labels are items.
module _ (code : List Instr) (places : Places) where
  abbrev closes : ℕ → Bool
  closes l = list_any (nat_eq l) (merges_of code)

  label_quiet : (l : ℕ) (rest : List Instr) (s : List Mark) → closes l ≡ false → shape_of code places rest ≡ s
      → shape_of code places (label l ∷ rest) ≡ s
  label_quiet l rest s e h = rw e h

  label_closes : (l : ℕ) → closes l ≡ true → shape_of code places (label l ∷ []) ≡ Seen ClosesIt ∷ []
  label_closes l e = rw e refl

  then_quiet : (c back : List Instr) (s : List Mark) → shape_of code places c ≡ s → shape_of code places back ≡ []
      → shape_of code places (c ++ back) ≡ s
  then_quiet c back s h k = shape_append code places c back ∙ before_quiet (shape_of code places c) (shape_of code places back) s h k

  then_some : (c back : List Instr) (s t : List Mark) → shape_of code places c ≡ s → shape_of code places back ≡ t
      → shape_of code places (c ++ back) ≡ s ++ t
  then_some c back s t h k = shape_append code places c back ∙ (ap (λ l. l ++ shape_of code places back) h ∙ ap (λ l. s ++ l) k)

  opens : (on m : ℕ) (x : Layout) (rest : List Instr) (s : List Mark) → shape_of code places rest ≡ s
      → shape_of code places (merge m ∷ switch on m x ∷ rest) ≡ Seen (OpensSwitch (values (cases x))) ∷ s
  opens on m x rest s e =
      ap (λ vs. Seen (OpensSwitch vs) ∷ shape_of code places rest) (first_values (cases x))
      ∙ ap (λ l. Seen (OpensSwitch (values (cases x))) ∷ l) e

  shape_read : (x : Layout) (brk cont : ℕ) → ((l : ℕ) → Has (merges_in x) l → closes l ≡ true)
      → ((l : ℕ) → Has (others_in x) l → closes l ≡ false) → shape_of code places (code_of x brk cont) ≡ shape_in code places x
  shape_read (Straight seg) brk cont shut open_at = refl
  shape_read (Both a b) brk cont shut open_at =
      then_some (code_of a brk cont) (code_of b brk cont) (shape_in code places a) (shape_in code places b)
      (shape_read a brk cont (λ l h. shut l (has_left (merges_in a) (merges_in b) l h)) (λ l h. open_at l (has_left (others_in a) (others_in b) l h)))
      (shape_read b brk cont (λ l h. shut l (has_right (merges_in a) (merges_in b) l h)) (λ l h. open_at l (has_right (others_in a) (others_in b) l h)))
  shape_read (Guarded t i m x) brk cont shut open_at =
      let c = code_of x brk cont in
      let back = branch m ∷ label m ∷ [] in
      label_quiet i (c ++ back) (shape_in code places x) (open_at i (inl refl))
      (then_quiet c back (shape_in code places x)
      (shape_read x brk cont shut (λ l h. open_at l (inr (has_left (others_in x) (m ∷ []) l h))))
      (label_quiet m [] [] (open_at m (inr (has_right (others_in x) (m ∷ []) m (inl refl)))) refl))
  shape_read (Chosen t y n m a b) brk cont shut open_at =
      let c = code_of a brk cont in
      let d = code_of b brk cont in
      let back = branch m ∷ label m ∷ [] in
      let last = others_in b ++ m ∷ [] in
      let in_second : (l : ℕ) → Has (n ∷ last) l → closes l ≡ false = λ l h. open_at l (inr (has_right (others_in a) (n ∷ last) l h)) in
      label_quiet y (c ++ (branch m ∷ label n ∷ (d ++ back))) (shape_in code places a ++ shape_in code places b) (open_at y (inl refl))
      (then_some c (branch m ∷ label n ∷ (d ++ back)) (shape_in code places a) (shape_in code places b)
      (shape_read a brk cont (λ l h. shut l (has_left (merges_in a) (merges_in b) l h))
      (λ l h. open_at l (inr (has_left (others_in a) (n ∷ last) l h))))
      (label_quiet n (d ++ back) (shape_in code places b) (in_second n (inl refl))
      (then_quiet d back (shape_in code places b)
      (shape_read b brk cont (λ l h. shut l (has_right (merges_in a) (merges_in b) l h))
      (λ l h. in_second l (inr (has_left (others_in b) (m ∷ []) l h))))
      (label_quiet m [] [] (in_second m (inr (has_right (others_in b) (m ∷ []) m (inl refl)))) refl))))
  shape_read (Looped h i c m x) brk cont shut open_at =
      let b = code_of x m c in
      let back = branch c ∷ label c ∷ branch h ∷ label m ∷ [] in
      let all = shape_in code places x ++ Seen ClosesIt ∷ [] in
      label_quiet h (loop_merge m c ∷ branch i ∷ label i ∷ (b ++ back)) (Seen OpensLoop ∷ all) (open_at h (inl refl))
      (ap (λ s. Seen OpensLoop ∷ s)
      (label_quiet i (b ++ back) all (open_at i (inr (inl refl)))
      (then_some b back (shape_in code places x) (Seen ClosesIt ∷ [])
      (shape_read x m c (λ l k. shut l (inr k)) (λ l k. open_at l (inr (inr (has_left (others_in x) (c ∷ []) l k)))))
      (label_quiet c (branch h ∷ label m ∷ []) (Seen ClosesIt ∷ []) (open_at c (inr (inr (has_right (others_in x) (c ∷ []) c (inl refl)))))
      (label_closes m (shut m (inl refl)))))))
  shape_read (Switched on i m x) brk cont shut open_at =
      let b = code_of x m cont in
      let back = branch m ∷ label m ∷ [] in
      let all = shape_in code places x ++ Seen ClosesIt ∷ [] in
      opens on m x (label i ∷ (b ++ back)) all
      (label_quiet i (b ++ back) all (open_at i (inl refl))
      (then_some b back (shape_in code places x) (Seen ClosesIt ∷ [])
      (shape_read x m cont (λ l k. shut l (inr k)) (λ l k. open_at l (inr k))) (label_closes m (shut m (inl refl)))))
  shape_read (CaseAt v k) brk cont shut open_at = label_quiet k [] [] (open_at k (inl refl)) refl
  shape_read (DefaultAt k) brk cont shut open_at = label_quiet k [] [] (open_at k (inl refl)) refl
  shape_read (Breaks n) brk cont shut open_at = label_quiet n [] [] (open_at n (inl refl)) refl
  shape_read (Continues n) brk cont shut open_at = label_quiet n [] [] (open_at n (inl refl)) refl
  shape_read (Returns n) brk cont shut open_at = label_quiet n [] [] (open_at n (inl refl)) refl

-- HOW OFTEN a label is among the results.
counted : (x : Layout) (brk cont l : ℕ) → times l (merges_in x) + times l (others_in x) ≤ times l (results (code_of x brk cont))
counted (Straight code) brk cont l = omega arith
counted (Both a b) brk cont l =
    let p = counted a brk cont l in
    let q = counted b brk cont l in
    let e = times_append l (merges_in a) (merges_in b) in
    let f = times_append l (others_in a) (others_in b) in
    let g = times_results l (code_of a brk cont) (code_of b brk cont) in
    omega (arith, p, q, e, f, g)
counted (Guarded t i m x) brk cont l =
    let p = counted x brk cont l in
    let f = times_append l (others_in x) (m ∷ []) in
    let g = times_results l (code_of x brk cont) (branch m ∷ label m ∷ []) in
    omega (arith, p, f, g)
counted (Chosen t y n m a b) brk cont l =
    let p = counted a brk cont l in
    let q = counted b brk cont l in
    let back = branch m ∷ label m ∷ [] in
    let second = branch m ∷ label n ∷ (code_of b brk cont ++ back) in
    let e = times_append l (merges_in a) (merges_in b) in
    let f = times_append l (others_in a) (n ∷ (others_in b ++ m ∷ [])) in
    let f2 = times_append l (others_in b) (m ∷ []) in
    let g = times_results l (code_of a brk cont) second in
    let g2 = times_results l (code_of b brk cont) back in
    omega (arith, p, q, e, f, f2, g, g2)
counted (Looped h i c m x) brk cont l =
    let p = counted x m c l in
    let f = times_append l (others_in x) (c ∷ []) in
    let g = times_results l (code_of x m c) (branch c ∷ label c ∷ branch h ∷ label m ∷ []) in
    omega (arith, p, f, g)
counted (Switched on i m x) brk cont l =
    let p = counted x m cont l in
    let g = times_results l (code_of x m cont) (branch m ∷ label m ∷ []) in
    omega (arith, p, g)
counted (CaseAt v k) brk cont l = omega arith
counted (DefaultAt k) brk cont l = omega arith
counted (Breaks n) brk cont l = omega arith
counted (Continues n) brk cont l = omega arith
counted (Returns n) brk cont l = omega arith

has_times : (l : ℕ) (xs : List ℕ) → Has xs l → 1 ≤ times l xs
has_times l [] h = absurd h
has_times l (x ∷ xs) (inl e) = grind (arith, nat_tests, e)
has_times l (x ∷ xs) (inr h) = let k = has_times l xs h in omega (arith, k)

in_times : (l : ℕ) (xs : List ℕ) → In xs l → 1 ≤ times l xs
in_times l [] h = absurd h
in_times l (x ∷ xs) (inl e) = grind (arith, nat_tests, e)
in_times l (x ∷ xs) (inr h) = let k = in_times l xs h in omega (arith, k)

none_any : (l : ℕ) (xs : List ℕ) → times l xs ≡ 0 → list_any (nat_eq l) xs ≡ false
none_any l [] e = refl
none_any l (x ∷ xs) e =
    let rest = none_any l xs (omega (arith, e)) in
    let here : nat_eq l x ≡ false = grind (arith, nat_tests, e) in
    rw (here, rest) refl

some_any : (l : ℕ) (xs : List ℕ) → Has xs l → list_any (nat_eq l) xs ≡ true
some_any l xs h = let same : nat_eq l l ≡ true = grind (arith, nat_tests) in some_passes (nat_eq l) xs l h same

-- CODE stands behind what is in front of it.
at_length : (a rest : List Instr) (i : Instr) → slice_get (a ++ i ∷ rest) (length a) ≡ Some i
at_length [] rest i = refl
at_length (j ∷ a) rest i = at_length a rest i

stands_behind : (a code rest : List Instr) → HasAt (a ++ (code ++ rest)) (length a) code
stands_behind a [] rest = tt
stands_behind a (i ∷ is) rest =
    let long : length (a ++ i ∷ []) ≡ length a + 1 = length-append a (i ∷ []) in
    let next = stands_behind (a ++ i ∷ []) is rest in (
      at_length a (is ++ rest) i,
      subst (λ c. HasAt c (length a + 1) is) (append_assoc a (i ∷ []) (is ++ rest))
          (subst (λ n. HasAt ((a ++ i ∷ []) ++ (is ++ rest)) n is) long next),
    )

-- THE WHOLE.
module _ (z : Site) (places : Places) (front : List Instr) (old new : Emission) (x : Term) (h : Lowers old new 0 0 0 false false x)
    (full : Completes new z) (linked : IsLinked z places) (none : HasNoItems front) (whole_is : z.machine.code ≡ whole front h.layout) where
  abbrev body : List Instr
  body = code_of h.layout 0 0

  merges_are : merges_of z.machine.code ≡ merges_in h.layout
  merges_are =
      ap merges_of whole_is ∙ (none.merges (body ++ tail) ∙ (merges_read h.layout 0 0 false false h.placed tail ∙ append-nil (merges_in h.layout)))

  few : (l : ℕ) → times l (results front) + times l (results body) ≤ 1
  few l =
      let d = once l (results z.machine.code) linked.distinct in
      let w : times l (results z.machine.code) ≡ times l (results (whole front h.layout)) = ap (λ c. times l (results c)) whole_is in
      let e = times_results l front (body ++ tail) in
      let f = times_results l body tail in
      omega (arith, d, w, e, f)

  front_is_other : (l : ℕ) → In (results front) l → list_any (nat_eq l) (merges_of z.machine.code) ≡ false
  front_is_other l i =
      let a = few l in
      let b = counted h.layout 0 0 l in
      let c = in_times l (results front) i in
      ap (list_any (nat_eq l)) merges_are ∙ none_any l (merges_in h.layout) (omega (arith, a, b, c))

  other_is_other : (l : ℕ) → Has (others_in h.layout) l → list_any (nat_eq l) (merges_of z.machine.code) ≡ false
  other_is_other l i =
      let a = few l in
      let b = counted h.layout 0 0 l in
      let c = has_times l (others_in h.layout) i in
      ap (list_any (nat_eq l)) merges_are ∙ none_any l (merges_in h.layout) (omega (arith, a, b, c))

  merge_is_merge : (l : ℕ) → Has (merges_in h.layout) l → list_any (nat_eq l) (merges_of z.machine.code) ≡ true
  merge_is_merge l i = ap (list_any (nat_eq l)) merges_are ∙ some_any l (merges_in h.layout) i

  stands : HasAt z.machine.code (length front) body
  stands = subst (λ c. HasAt c (length front) body) (sym whole_is) (stands_behind front body tail)

  body_shape : shape_of z.machine.code places body ≡ map Seen (shape x)
  body_shape =
      shape_read z.machine.code places h.layout 0 0 merge_is_merge other_is_other ∙ h.shows z places full linked (length front, stands)

  pub shown : shape_of z.machine.code places z.machine.code ≡ map Seen (shape x)
  shown =
      let code = z.machine.code in
      ap (shape_of code places) whole_is
      ∙ (shape_append code places front (body ++ tail)
      ∙ behind_quiet (shape_of code places front) (shape_of code places (body ++ tail)) (map Seen (shape x))
      (none.shows code places front_is_other)
      (shape_append code places body tail
      ∙ before_quiet (shape_of code places body) (shape_of code places tail) (map Seen (shape x)) body_shape refl))
