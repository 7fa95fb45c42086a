-- What the walk back keeps goes on standing for its statements while the tree grows.
use Rattle.std.proofs.Common.{◌≡◌, ℕ, suc, List, [], ◌∷◌, length, map, Option, Some, None, refl, sym, ap, subst, ◌∙◌}
use Rattle.std.specs.Prelude.{option_map}
use Rattle.shader_tree.specs.declared.node.Node.{Node}
use Rattle.shader_tree.specs.Nodes.{Sort, AStatement}
use Rattle.shader_tree.specs.Terms.{Term, term_at, Extends}
use Rattle.raise_operands.specs.Building.{IsNode}
use Rattle.raise_operands.specs.Laws.{GrowingLaws}
use Rattle.raise_program.specs.declared.walk.Construct.{Construct}
use Rattle.raise_program.specs.declared.walk.Walk.{Walk}
use Rattle.raise_program.specs.Walked.{Around, Rest, inner_behind, inner_other, left, outer, put}
use Rattle.raise_program.specs.Walking.{IsOther, IsAround, AreAround, IsWalk, around_at, rest_at, stack}

module _ (l : GrowingLaws) (old new : List Node) (e : Extends old new) where
  pub other_on : (o : Option ℕ) (t : Option Term) → IsOther old o t → IsOther new o t
  other_on None None h = tt
  other_on None (Some t) h = absurd h
  other_on (Some id) None h = absurd h
  other_on (Some id) (Some t) h = l.node_on old new AStatement id t e h

  around_on : (c : Construct) (a : Around) → IsAround old c a → IsAround new c a
  around_on c a h = record {
    behind = l.node_on old new AStatement c.behind a.behind e h.behind;
    other = other_on c.other a.other h.other;
  }

  pub stack_on : (cs : List Construct) (around : List Around) → AreAround old cs around → AreAround new cs around
  stack_on [] [] h = tt
  stack_on [] (a ∷ around) h = absurd h
  stack_on (c ∷ cs) [] h = absurd h
  stack_on (c ∷ cs) (a ∷ around) h = (around_on c a h.0, stack_on cs around h.1)

  pub walk_on : (walk : Walk) (r : Rest) → IsWalk old walk r → IsWalk new walk r
  walk_on walk r h = record {
    here = l.node_on old new AStatement walk.here r.here e h.here;
    around = stack_on (stack walk) r.around h.around;
  }

module _ (nodes : List Node) where
  other_itself : (o : Option ℕ) (t : Option Term) → IsOther nodes o t → option_map (term_at nodes) o ≡ t
  other_itself None None h = refl
  other_itself None (Some t) h = absurd h
  other_itself (Some id) None h = absurd h
  other_itself (Some id) (Some t) h = ap (λ (t : Term). Some t) h.term

  around_same : (a b : Around) → a.behind ≡ b.behind → a.other ≡ b.other → a ≡ b
  around_same a b h k =
      ap (λ (t : Term). record { behind = t; other = a.other }) h ∙ ap (λ (o : Option Term). record { behind = b.behind; other = o }) k

  around_itself : (c : Construct) (a : Around) → IsAround nodes c a → around_at nodes c ≡ a
  around_itself c a h = around_same (around_at nodes c) a h.behind.term (other_itself c.other a.other h.other)

  stack_itself : (cs : List Construct) (around : List Around) → AreAround nodes cs around → map (around_at nodes) cs ≡ around
  stack_itself [] [] h = refl
  stack_itself [] (a ∷ around) h = absurd h
  stack_itself (c ∷ cs) [] h = absurd h
  stack_itself (c ∷ cs) (a ∷ around) h = joined (around_at nodes c) a (map (around_at nodes) cs) around (around_itself c a h.0) (stack_itself cs around h.1)
    where
      joined : (a b : Around) (xs ys : List Around) → a ≡ b → xs ≡ ys → a ∷ xs ≡ b ∷ ys
      joined a b xs ys h k = cc (h, k)

  rest_same : (a b : Rest) → a.here ≡ b.here → a.around ≡ b.around → a ≡ b
  rest_same a b h k =
      ap (λ (t : Term). record { here = t; around = a.around }) h ∙ ap (λ (xs : List Around). record { here = b.here; around = xs }) k

  -- what it stands for
  pub walk_itself : (walk : Walk) (r : Rest) → IsWalk nodes walk r → rest_at nodes walk ≡ r
  walk_itself walk r h = rest_same (rest_at nodes walk) r h.here.term (stack_itself (stack walk) r.around h.around)

  pub as_many : (cs : List Construct) (around : List Around) → AreAround nodes cs around → length cs ≡ length around
  as_many cs around h = sym (length-map-of cs) ∙ ap length (stack_itself cs around h)
    where
      length-map-of : (cs : List Construct) → length (map (around_at nodes) cs) ≡ length cs
      length-map-of [] = refl
      length-map-of (c ∷ cs) = ap suc (length-map-of cs)

module _ (l : GrowingLaws) (old new : List Node) (e : Extends old new) where
  -- A construct that is added, or has its else passed
  pub entered : (cs more : List Construct) (c : Construct) (a : Around) (around : List Around) → IsAround old c a → AreAround old cs around
      → more ≡ c ∷ cs → AreAround new more (a ∷ around)
  entered cs more c a around h k m =
      let P : List Construct → Type 0 = λ cs. AreAround new cs (a ∷ around) in
      subst P (sym m) (around_on l old new e c a h, stack_on l old new e cs around k)

  pub halves : (cs inner more : List Construct) (c : Construct) (id : ℕ) (t : Term) → AreAround old cs (map (around_at old) cs)
      → cs ≡ c ∷ inner → IsNode old AStatement id t → more ≡ record { behind = c.behind; other = Some id } ∷ inner
      → AreAround new more
      (record { behind = inner_behind (map (around_at old) cs); other = Some t } ∷ outer (map (around_at old) cs))
  halves cs inner more c id t h k n m =
      let P : List Construct → Type 0 = λ cs. AreAround old cs (map (around_at old) cs)
      → AreAround new more
      (record { behind = inner_behind (map (around_at old) cs); other = Some t } ∷ outer (map (around_at old) cs)) in
      let p : P (c ∷ inner) =
      λ x. entered inner more (record { behind = c.behind; other = Some id })
      (record { behind = term_at old c.behind; other = Some t }) (map (around_at old) inner)
      (record { behind = x.0.behind; other = n }) x.1 m in
      subst P (sym k) p h

-- LEAVING the innermost construct, which is taken off the stack
pub record Left (nodes : List Node) (old new : Walk) (b : Option ℕ) : Type 0 where
  pub walk' : IsWalk nodes new (left (rest_at nodes old))
  pub other : IsOther nodes b (option_map (term_at nodes) b)
  pub same : option_map (term_at nodes) b ≡ inner_other (rest_at nodes old).around

pub left_walk : (nodes : List Node) (old new : Walk) (b : Option ℕ) → IsWalk nodes old (rest_at nodes old)
    → stack old ≡ record { behind = new.here; other = b } ∷ stack new → Left nodes old new b
left_walk nodes old new b h k =
    let P : List Construct → Type 0 = λ cs. AreAround nodes cs (map (around_at nodes) cs)
    → IsNode nodes AStatement new.here (inner_behind (map (around_at nodes) cs))
    × AreAround nodes (stack new) (outer (map (around_at nodes) cs))
    × IsOther nodes b (option_map (term_at nodes) b)
    × (option_map (term_at nodes) b ≡ inner_other (map (around_at nodes) cs)) in
    let p : P (record { behind = new.here; other = b } ∷ stack new) = λ x. (x.0.behind, x.1, x.0.other, refl) in
    let q = subst P (sym k) p h.around in
    record { walk' = record { here = q.0; around = q.1 }; other = q.2; same = q.3 }

-- what is put in front, in other words
pub put_is : (nodes : List Node) (walk : Walk) (t u : Term) (r s : Rest) → IsWalk nodes walk (put t r) → t ≡ u → r ≡ s → IsWalk nodes walk (put u s)
put_is nodes walk t u r s h k m =
    let P : Term → Type 0 = λ t. IsWalk nodes walk (put t r) in
    let Q : Rest → Type 0 = λ r. IsWalk nodes walk (put u r) in
    subst Q m (subst P k h)

pub node_itself : (nodes : List Node) (s : Sort) (id : ℕ) (t : Term) → IsNode nodes s id t → IsNode nodes s id (term_at nodes id)
node_itself nodes s id t h = record { sorted = h.sorted; term = refl }

pub walk_itself_kept : (nodes : List Node) (walk : Walk) (r : Rest) → IsWalk nodes walk r → IsWalk nodes walk (rest_at nodes walk)
walk_itself_kept nodes walk r h =
    let P : Rest → Type 0 = λ r. IsWalk nodes walk r in subst P (sym (walk_itself nodes walk r h)) h
