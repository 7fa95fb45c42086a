-- What is read from the code of a layout is its shape by numbers, whatever code stands behind it.
use Rattle.std.proofs.Common.{◌≡◌, ℕ, ◌+◌, List, [], ◌∷◌, ◌++◌, map, Option, Some, None, Bool, true, refl, sym, ap, ◌∙◌, subst, arith, append_assoc}
use Rattle.std.specs.Prelude.{unwrap_or, option_map}
use Rattle.spirv_words.specs.Roles.{seconds}
use Rattle.spirv_words.specs.Blocks.{next_block, edge, edges_from, Selection, spans_from}
use Rattle.spirv_words.specs.Structure.{walk, InBlock, walk_on, follow, NoMerge}
use Rattle.spirv_words.specs.Text.{Instr}
use Rattle.spirv_flow.specs.Layout.{Layout, Straight, Both, Guarded, Chosen, Looped, Switched, CaseAt, DefaultAt, Breaks, Continues, Returns, label, branch, Case, cases, first_of, default, pairs, code_of, ArePlain, Placed}
use Rattle.spirv_flow.specs.Fronts.{Numbered}
use Rattle.spirv_flow.proofs.Shape.{blocks, targets, other, span, constructs, branches}

module _ (number : ℕ → ℕ) where
  abbrev labels_of : List Case → List ℕ
  labels_of cs = map number (seconds (pairs cs))

  -- Behind the layout's code, which began in block b, stands rest, and the code ends in block e.
  pub record ReadTo (x : Layout) (brk cont b e : ℕ) (rest : List Instr) : Type 0 where
    pub numbered : Numbered number rest e
    pub edges : edges_from number (code_of x brk cont ++ rest) b ≡ branches x b (number brk) (number cont) ++ edges_from number rest e
    pub spans : spans_from number (code_of x brk cont ++ rest) b ≡ constructs x b ++ spans_from number rest e
    pub walks : walk InBlock (code_of x brk cont ++ rest) ≡ walk InBlock rest
    pub follows : follow NoMerge (code_of x brk cont ++ rest) ≡ follow NoMerge rest
    pub targets : labels_of (cases x) ≡ targets x b
    pub other : option_map number (default x) ≡ other x b

  abbrev pub Read : (x : Layout) (brk cont b : ℕ) (rest : List Instr) → Type 0
  Read x brk cont b rest = ReadTo x brk cont b (b + blocks x) rest

  abbrev ReadBefore : (x : Layout) (brk cont b : ℕ) → Type 0
  ReadBefore x brk cont b = (rest : List Instr) → Numbered number (code_of x brk cont ++ rest) b → Read x brk cont b rest

  read_guarded : (t i m : ℕ) (x : Layout) (brk cont b : ℕ) → ReadBefore x brk cont (b + 1) → ReadBefore (Guarded t i m x) brk cont b
  read_guarded t i m x brk cont b inner rest h =
      let c = code_of x brk cont in
      let back = branch m ∷ label m ∷ [] in
      let behind = branch m ∷ label m ∷ rest in
      let joined : (c ++ back) ++ rest ≡ c ++ behind = append_assoc c back rest in
      let r = inner behind (subst (λ l. Numbered number l (b + 1)) joined h.1.1.1) in
      let at_merge = r.numbered.1.0 in
      let at_inside = h.1.1.0 in
      let e = b + 1 + blocks x in
      let end : e + 1 ≡ b + blocks (Guarded t i m x) = omega arith in
      let es = branches x (b + 1) (number brk) (number cont) in
      let whole : ReadTo (Guarded t i m x) brk cont b (e + 1) rest = record {
        numbered = r.numbered.1.1;
        edges = rw (joined, r.edges, at_inside, at_merge)
            (ap (λ l. edge b (b + 1) ∷ edge b (e + 1) ∷ l) (sym (append_assoc es (edge e (e + 1) ∷ []) (edges_from number rest (e + 1)))));
        spans = rw (joined, r.spans, at_merge) refl;
        walks = ap (walk InBlock) joined ∙ r.walks;
        follows = ap (follow NoMerge) joined ∙ r.follows;
        targets = refl;
        other = refl;
      } in
      subst (λ q. ReadTo (Guarded t i m x) brk cont b q rest) end whole

  read_chosen : (t y n m : ℕ) (x z : Layout) (brk cont b : ℕ) → ReadBefore x brk cont (b + 1) → ReadBefore z brk cont (b + 1 + blocks x + 1)
      → ReadBefore (Chosen t y n m x z) brk cont b
  read_chosen t y n m x z brk cont b first second rest h =
      let c = code_of x brk cont in
      let d = code_of z brk cont in
      let back = branch m ∷ label m ∷ [] in
      let behind = branch m ∷ label m ∷ rest in
      let joined : (c ++ (branch m ∷ label n ∷ (d ++ back))) ++ rest ≡ c ++ (branch m ∷ label n ∷ (d ++ behind)) =
      append_assoc c (branch m ∷ label n ∷ (d ++ back)) rest ∙ ap (λ l. c ++ (branch m ∷ label n ∷ l)) (append_assoc d back rest) in
      let r = first (branch m ∷ label n ∷ (d ++ behind)) (subst (λ l. Numbered number l (b + 1)) joined h.1.1.1) in
      let s = second behind r.numbered.1.1 in
      let at_first = h.1.1.0 in
      let at_second = r.numbered.1.0 in
      let at_merge = s.numbered.1.0 in
      let e = b + 1 + blocks x in
      let f = e + 1 + blocks z in
      let end : f + 1 ≡ b + blocks (Chosen t y n m x z) = omega arith in
      let es = branches x (b + 1) (number brk) (number cont) in
      let fs = branches z (e + 1) (number brk) (number cont) in
      let whole : ReadTo (Chosen t y n m x z) brk cont b (f + 1) rest = record {
        numbered = s.numbered.1.1;
        edges = rw (joined, r.edges, s.edges, at_first, at_second, at_merge)
            (ap (λ l. edge b (b + 1) ∷ edge b (e + 1) ∷ l)
            (sym (append_assoc es (edge e (f + 1) ∷ (fs ++ (edge f (f + 1) ∷ []))) (edges_from number rest (f + 1))
            ∙ ap (λ l. es ++ (edge e (f + 1) ∷ l)) (append_assoc fs (edge f (f + 1) ∷ []) (edges_from number rest (f + 1))))));
        spans = rw (joined, r.spans, s.spans, at_merge)
            (ap (λ l. span b (f + 1) Selection ∷ l)
            (sym (append_assoc (constructs x (b + 1)) (constructs z (e + 1)) (spans_from number rest (f + 1)))));
        walks = ap (walk InBlock) joined ∙ (r.walks ∙ s.walks);
        follows = ap (follow NoMerge) joined ∙ (r.follows ∙ s.follows);
        targets = refl;
        other = refl;
      } in
      subst (λ q. ReadTo (Chosen t y n m x z) brk cont b q rest) end whole

  read_looped : (h i c m : ℕ) (x : Layout) (brk cont b : ℕ) → ReadBefore x m c (b + 1 + 1) → ReadBefore (Looped h i c m x) brk cont b
  read_looped h i c m x brk cont b inner rest g =
      let body = code_of x m c in
      let back = branch c ∷ label c ∷ branch h ∷ label m ∷ [] in
      let behind = branch c ∷ label c ∷ branch h ∷ label m ∷ rest in
      let joined : (body ++ back) ++ rest ≡ body ++ behind = append_assoc body back rest in
      let r = inner behind (subst (λ l. Numbered number l (b + 1 + 1)) joined g.1.1.1.1.1) in
      let e = b + 1 + 1 + blocks x in
      let at_header = g.1.0 in
      let at_inside = g.1.1.1.1.0 in
      let at_continue = r.numbered.1.0 in
      let at_merge = r.numbered.1.1.1.0 in
      let end : e + 1 + 1 ≡ b + blocks (Looped h i c m x) = omega arith in
      let es = branches x (b + 1 + 1) (e + 1 + 1) (e + 1) in
      let whole : ReadTo (Looped h i c m x) brk cont b (e + 1 + 1) rest = record {
        numbered = r.numbered.1.1.1.1;
        edges = rw (joined, r.edges, at_header, at_inside, at_continue, at_merge)
            (ap (λ l. edge b (b + 1) ∷ edge (b + 1) (b + 1 + 1) ∷ l)
            (sym (append_assoc es (edge e (e + 1) ∷ edge (e + 1) (b + 1) ∷ []) (edges_from number rest (e + 1 + 1)))));
        spans = rw (joined, r.spans, at_continue, at_merge) refl;
        walks = ap (walk InBlock) joined ∙ r.walks;
        follows = ap (follow NoMerge) joined ∙ r.follows;
        targets = refl;
        other = refl;
      } in
      subst (λ q. ReadTo (Looped h i c m x) brk cont b q rest) end whole

  number_or : (o : Option ℕ) (m : ℕ) → number (unwrap_or o m) ≡ unwrap_or (option_map number o) (number m)
  number_or None m = refl
  number_or (Some l) m = refl

  read_switched : (on i m : ℕ) (x : Layout) (brk cont b : ℕ) → ReadBefore x m cont (b + 1) → ReadBefore (Switched on i m x) brk cont b
  read_switched on i m x brk cont b inner rest h =
      let body = code_of x m cont in
      let back = branch m ∷ label m ∷ [] in
      let behind = branch m ∷ label m ∷ rest in
      let joined : (body ++ back) ++ rest ≡ body ++ behind = append_assoc body back rest in
      let r = inner behind (subst (λ l. Numbered number l (b + 1)) joined h.1.1.1) in
      let e = b + 1 + blocks x in
      let at_merge = r.numbered.1.0 in
      let to_other : number (unwrap_or (default x) m) ≡ unwrap_or (other x (b + 1)) (e + 1) =
      number_or (default x) m ∙ (ap (λ o. unwrap_or o (number m)) r.other ∙ ap (unwrap_or (other x (b + 1))) at_merge) in
      let end : e + 1 ≡ b + blocks (Switched on i m x) = omega arith in
      let es = branches x (b + 1) (e + 1) (number cont) in
      let ts = map (edge b) (targets x (b + 1)) in
      let last = edge e (e + 1) ∷ [] in
      let whole : ReadTo (Switched on i m x) brk cont b (e + 1) rest = record {
        numbered = r.numbered.1.1;
        edges = rw (joined, r.edges, to_other, r.targets, at_merge)
            (ap (λ l. edge b (unwrap_or (other x (b + 1)) (e + 1)) ∷ l)
            (sym (append_assoc ts (es ++ last) (edges_from number rest (e + 1)) ∙ ap (λ l. ts ++ l)
            (append_assoc es last (edges_from number rest (e + 1))))));
        spans = rw (joined, r.spans, to_other, r.targets, at_merge) refl;
        walks = ap (walk InBlock) joined ∙ r.walks;
        follows = ap (follow NoMerge) joined ∙ r.follows;
        targets = refl;
        other = refl;
      } in
      subst (λ q. ReadTo (Switched on i m x) brk cont b q rest) end whole

  labels_append : (xs ys : List Case) → labels_of (xs ++ ys) ≡ labels_of xs ++ labels_of ys
  labels_append [] ys = refl
  labels_append (x ∷ xs) ys = ap (λ l. number x.label ∷ l) (labels_append xs ys)

  number_first : (o u : Option ℕ) → option_map number (first_of o u) ≡ first_of (option_map number o) (option_map number u)
  number_first None u = refl
  number_first (Some l) u = refl

  read_both : (x y : Layout) (brk cont b : ℕ) → ReadBefore x brk cont b → ReadBefore y brk cont (b + blocks x) → ReadBefore (Both x y) brk cont b
  read_both x y brk cont b first second rest h =
      let c = code_of x brk cont in
      let d = code_of y brk cont in
      let joined : (c ++ d) ++ rest ≡ c ++ (d ++ rest) = append_assoc c d rest in
      let r = first (d ++ rest) (subst (λ l. Numbered number l b) joined h) in
      let s = second rest r.numbered in
      let e = b + blocks x + blocks y in
      let end : e ≡ b + blocks (Both x y) = omega arith in
      let es = branches x b (number brk) (number cont) in
      let fs = branches y (b + blocks x) (number brk) (number cont) in
      let whole : ReadTo (Both x y) brk cont b e rest = record {
        numbered = s.numbered;
        edges = rw (joined, r.edges, s.edges) (sym (append_assoc es fs (edges_from number rest e)));
        spans = rw (joined, r.spans, s.spans) (sym (append_assoc (constructs x b) (constructs y (b + blocks x)) (spans_from number rest e)));
        walks = ap (walk InBlock) joined ∙ (r.walks ∙ s.walks);
        follows = ap (follow NoMerge) joined ∙ (r.follows ∙ s.follows);
        targets = labels_append (cases x) (cases y) ∙ rw (r.targets, s.targets) refl;
        other = number_first (default x) (default y) ∙ rw (r.other, s.other) refl;
      } in
      subst (λ q. ReadTo (Both x y) brk cont b q rest) end whole

  -- straight code has no part in what is read
  read_straight : (code : List Instr) (brk cont b : ℕ) → ArePlain code → (rest : List Instr) → Numbered number (code ++ rest) b
      → ReadTo (Straight code) brk cont b b rest
  read_straight [] brk cont b p rest h =
      record { numbered = h; edges = refl; spans = refl; walks = refl; follows = refl; targets = refl; other = refl }
  read_straight (i ∷ is) brk cont b p rest h =
      let e = p.0.0 in
      let r = read_straight is brk cont b p.1 rest (subst (λ f. Numbered number (is ++ rest) (next_block b f)) e h.1) in
      record {
        numbered = r.numbered;
        edges = rw e r.edges;
        spans = rw e r.spans;
        walks = ap (λ f. walk (walk_on InBlock f) (is ++ rest)) e ∙ r.walks;
        follows = rw e r.follows;
        targets = refl;
        other = refl;
      }

  pub read : (x : Layout) (brk cont b : ℕ) (l a : Bool) → Placed x l a → ReadBefore x brk cont b
  read (Straight code) brk cont b l a p rest h =
      let end : b ≡ b + blocks (Straight code) = omega arith in
      subst (λ q. ReadTo (Straight code) brk cont b q rest) end (read_straight code brk cont b p rest h)
  read (Both x y) brk cont b l a p rest h =
      read_both x y brk cont b (read x brk cont b l a p.0) (read y brk cont (b + blocks x) l a p.1) rest h
  read (Guarded t i m x) brk cont b l a p rest h = read_guarded t i m x brk cont b (read x brk cont (b + 1) l a p) rest h
  read (Chosen t y n m x z) brk cont b l a p rest h =
      read_chosen t y n m x z brk cont b (read x brk cont (b + 1) l a p.0) (read z brk cont (b + 1 + blocks x + 1) l a p.1) rest h
  read (Looped i j c m x) brk cont b l a p rest h = read_looped i j c m x brk cont b (read x m c (b + 1 + 1) true true p) rest h
  read (Switched on i m x) brk cont b l a p rest h = read_switched on i m x brk cont b (read x m cont (b + 1) l true p) rest h
  read (CaseAt v k) brk cont b l a p rest h =
      record { numbered = h.1.1; edges = rw h.1.0 refl; spans = refl; walks = refl; follows = refl; targets = rw h.1.0 refl; other = refl }
  read (DefaultAt k) brk cont b l a p rest h =
      record { numbered = h.1.1; edges = rw h.1.0 refl; spans = refl; walks = refl; follows = refl; targets = refl; other = ap Some h.1.0 }
  read (Breaks n) brk cont b l a p rest h =
      record { numbered = h.1.1; edges = refl; spans = refl; walks = refl; follows = refl; targets = refl; other = refl }
  read (Continues n) brk cont b l a p rest h =
      record { numbered = h.1.1; edges = refl; spans = refl; walks = refl; follows = refl; targets = refl; other = refl }
  read (Returns n) brk cont b l a p rest h =
      record { numbered = h.1.1; edges = refl; spans = refl; walks = refl; follows = refl; targets = refl; other = refl }
