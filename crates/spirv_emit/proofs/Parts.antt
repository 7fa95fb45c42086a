-- The parts of an expression, one after the other: what each needs, and what has been written when all of them are.
use Rattle.std.proofs.Common.{◌≡◌, ℕ, ◌+◌, ◌≤◌, ◌⊎◌, ⊎_elim, inl, inr, List, [], ◌∷◌, ◌++◌, Option, Some, None, refl, sym, ap, ◌∙◌, subst, arith}
use Rattle.std.specs.Prelude.{Bool, true, false, not, ◌&&◌, ◌||◌, IsTrue, slice_get}
use Rattle.shader_tree.specs.declared.node.Node.{Node}
use Rattle.shader_tree.specs.declared.node.Node.TheVariants as node
use Rattle.shader_tree.specs.declared.node.Expr.{Expr}
use Rattle.shader_tree.specs.declared.node.Expr.TheVariants as expr
use Rattle.shader_tree.specs.Costs.{words_in, ids_in, node_cost, sum_over}
use Rattle.shader_tree.specs.Holding.{OfWords}
use Rattle.shader_tree.specs.Nodes.{Sort, AWord, ATruth, AStatement, Name, named, has, is_expr, is_of_sort}
use Rattle.shader_tree.specs.Terms.{Term, Nothing, term_by, term_for, term_within, term_at, Stands, AreEarlier}
use Rattle.shader_tree.specs.Walks.{folded, holds_no, Each, spaces_in, rooms_in, threads_in, spaces_at, rooms_at, threads_at}
use Rattle.spirv_symbols.specs.declared.symbol.Symbol.{Symbol}
use Rattle.binding_map.specs.declared.register.Place.{Place}
use Rattle.binding_map.specs.declared.register.Place.TheVariants.{Bound, Push as InPush}
use Rattle.spirv_symbols.specs.declared.symbol.Symbol.TheVariants.{Memory, Input, Uniform, Push, Registers, Elements, ImmediateArray}
use Rattle.word_base.specs.declared.event.Room.{Room}
use Rattle.tpf_decode.specs.declared.argument.Kind.{Kind}
use Rattle.spirv_symbols.specs.declared.symbol.TypeSymbol.{TypeSymbol}
use Rattle.spirv_symbols.specs.declared.symbol.TypeSymbol.TheVariants as symbol
use Rattle.spirv_words.specs.Text.{Instr}
use Rattle.spirv_emit.specs.declared.buffer.ConstantBuffer.{ConstantBuffer}
use Rattle.shader_tree.specs.declared.node.Space.{Space}
use Rattle.shader_tree.specs.declared.node.Space.TheVariants as space
use Rattle.spirv_emit.specs.Begun.{IsBegun, IsThere, IsBufferThere, IsPlaceThere, IsSpaceThere, Names, is_searched, built_in_of}
use Rattle.spirv_emit.specs.Emission.{Emission, Frame, words_left, ids_left, buffer_of}
use Rattle.spirv_emit.specs.Expressions.{May, Did}
use Rattle.spirv_emit.specs.Growing.{Grows}
use Rattle.spirv_emit.specs.Joins.{given, joined}
use Rattle.spirv_emit.specs.Values.{Slot, slot, Meaning, Gives, Emitted, valued, type_of_term}
use Rattle.spirv_emit.proofs.Giving.{then'}
use Rattle.spirv_emit.proofs.Groups.{start}
use Rattle.spirv_emit.proofs.Lists.{and_left, and_right, and_join, each_front, each_back}
use Rattle.spirv_emit.proofs.Staying.{room_there, thread_there, names_stay}

-- P holds of the ids of all names.
abbrev pub All : (ℕ → Type 0) → List Name → Type 0
All P [] = Unit {0}
All P (n ∷ ns) = P n.id × All P ns

pub all_by : (P Q : ℕ → Type 0) → ((id : ℕ) → P id → Q id) → (ns : List Name) → All P ns → All Q ns
all_by P Q f [] h = tt
all_by P Q f (n ∷ ns) h = (f n.id h.0, all_by P Q f ns h.1)

-- WHAT HOLDS OF THE WALK holds of the walks of the parts.
module _ {X : Type 0} (join : X → X → X) (f : Term → X) (Q : X → Type 0) (left : (a b : X) → Q (join a b) → Q a)
    (right : (a b : X) → Q (join a b) → Q b) (g : ℕ → Term) where
  two_parts : (own : X) (a b : ℕ) → Q (join own (join (folded join f (g a)) (folded join f (g b)))) → Q (folded join f (g a)) ×
      (Q (folded join f (g b)) × Unit {0})
  two_parts own a b h =
      let q = right own (join (folded join f (g a)) (folded join f (g b))) h in
      (left (folded join f (g a)) (folded join f (g b)) q, (right (folded join f (g a)) (folded join f (g b)) q, tt))

  three_parts : (own : X) (a b c : ℕ) → Q (join own (join (folded join f (g a)) (join (folded join f (g b)) (folded join f (g c)))))
      → Q (folded join f (g a)) × (Q (folded join f (g b)) × (Q (folded join f (g c)) × Unit {0}))
  three_parts own a b c h =
      let q = right own (join (folded join f (g a)) (join (folded join f (g b)) (folded join f (g c)))) h in
      (left (folded join f (g a)) (join (folded join f (g b)) (folded join f (g c))) q, two_parts (folded join f (g a)) b c q)

  pub parts_hold : (e : Expr) → Q (folded join f (term_by g (node.Expr e))) → All (λ id. Q (folded join f (g id))) (named (node.Expr e))
  parts_hold (expr.Word w) h = tt
  parts_hold (expr.Scratch n) h = tt
  parts_hold (expr.Thread kind c) h = tt
  parts_hold (expr.Read s word) h = (right _ _ h, tt)
  parts_hold (expr.Length room) h = tt
  parts_hold (expr.One op a) h = (right _ _ h, tt)
  parts_hold (expr.Two op a b) h = two_parts _ a b h
  parts_hold (expr.Three op a b c) h = three_parts _ a b c h
  parts_hold (expr.Insert a b c d) h =
      let q = right _ (join (folded join f (g a)) (join (folded join f (g b)) (join (folded join f (g c)) (folded join f (g d))))) h in
      (left (folded join f (g a)) _ q, three_parts (folded join f (g a)) b c d q)
  parts_hold (expr.First op a b) h = two_parts _ a b h
  parts_hold (expr.Second op a b) h = two_parts _ a b h
  parts_hold (expr.Quotient a by') h = (right _ _ h, tt)
  parts_hold (expr.Product a by') h = (right _ _ h, tt)
  parts_hold (expr.Pick a b c) h = three_parts _ a b c h
  parts_hold (expr.Compare how a b) h = two_parts _ a b h
  parts_hold (expr.Both a b) h = two_parts _ a b h

names_gather : (e : Emission) (g : ℕ → Term) (ns : List Name) → All (λ id. Each (IsSpaceThere e) (spaces_in (g id))) ns
    → All (λ id. Each (room_there e) (rooms_in (g id))) ns
    → All (λ id. Each (thread_there e) (threads_in (g id))) ns → (e.frame.separate ≡ true → All (λ id. IsTrue (holds_no is_searched (g id))) ns)
    → All (λ id. Names e (g id)) ns
names_gather e g [] a b c d = tt
names_gather e g (n ∷ ns) a b c d = (
  record { spaces = a.0; rooms = b.0; threads = c.0; direct = λ q. (d q).0 },
  names_gather e g ns a.1 b.1 c.1
      (λ q. (d q).1),
)

pub names_split : (e : Emission) (g : ℕ → Term) (x : Expr) → Names e (term_by g (node.Expr x)) → All (λ id. Names e (g id)) (named (node.Expr x))
names_split e g x h = names_gather e g (named (node.Expr x))
    (parts_hold (λ xs ys. xs ++ ys) spaces_at (Each (IsSpaceThere e)) (each_front (IsSpaceThere e)) (each_back (IsSpaceThere e)) g x h.spaces)
    (parts_hold (λ xs ys. xs ++ ys) rooms_at (Each (room_there e)) (each_front (room_there e)) (each_back (room_there e)) g x h.rooms)
    (parts_hold (λ xs ys. xs ++ ys) threads_at (Each (thread_there e)) (each_front (thread_there e)) (each_back (thread_there e)) g x h.threads)
    (λ q. parts_hold (λ a b. a && b) (λ x. not (is_searched x)) IsTrue and_left and_right g x (h.direct q))

-- THE TYPE of a node's value is that of its sort.
abbrev pub type_of_sort : Sort → TypeSymbol
type_of_sort ATruth = symbol.Truth
type_of_sort other = symbol.Word

sorted_type : (f : ℕ → Term) (s : Sort) (n : Option Node) → IsTrue (is_of_sort s n) → (s ≡ AStatement) ⊎
    (type_of_term (term_for f n) ≡ type_of_sort s)
sorted_type f s None h = absurd (cc h)
sorted_type f AWord (Some (node.Expr (expr.Word w))) h = inr refl
sorted_type f AWord (Some (node.Expr (expr.Scratch n))) h = inr refl
sorted_type f AWord (Some (node.Expr (expr.Thread kind c))) h = inr refl
sorted_type f AWord (Some (node.Expr (expr.Read space word))) h = inr refl
sorted_type f AWord (Some (node.Expr (expr.Length room))) h = inr refl
sorted_type f AWord (Some (node.Expr (expr.One op a))) h = inr refl
sorted_type f AWord (Some (node.Expr (expr.Two op a b))) h = inr refl
sorted_type f AWord (Some (node.Expr (expr.Three op a b c))) h = inr refl
sorted_type f AWord (Some (node.Expr (expr.Insert a b c d))) h = inr refl
sorted_type f AWord (Some (node.Expr (expr.First op a b))) h = inr refl
sorted_type f AWord (Some (node.Expr (expr.Second op a b))) h = inr refl
sorted_type f AWord (Some (node.Expr (expr.Quotient a by'))) h = inr refl
sorted_type f AWord (Some (node.Expr (expr.Product a by'))) h = inr refl
sorted_type f AWord (Some (node.Expr (expr.Pick b a c))) h = inr refl
sorted_type f AWord (Some (node.Expr (expr.Compare how a b))) h = absurd (cc h)
sorted_type f AWord (Some (node.Expr (expr.Both a b))) h = absurd (cc h)
sorted_type f AWord (Some (node.Stmt s)) h = absurd (cc h)
sorted_type f ATruth (Some (node.Expr (expr.Compare how a b))) h = inr refl
sorted_type f ATruth (Some (node.Expr (expr.Both a b))) h = inr refl
sorted_type f ATruth (Some (node.Expr (expr.Word w))) h = absurd (cc h)
sorted_type f ATruth (Some (node.Expr (expr.Scratch n))) h = absurd (cc h)
sorted_type f ATruth (Some (node.Expr (expr.Thread kind c))) h = absurd (cc h)
sorted_type f ATruth (Some (node.Expr (expr.Read space word))) h = absurd (cc h)
sorted_type f ATruth (Some (node.Expr (expr.Length room))) h = absurd (cc h)
sorted_type f ATruth (Some (node.Expr (expr.One op a))) h = absurd (cc h)
sorted_type f ATruth (Some (node.Expr (expr.Two op a b))) h = absurd (cc h)
sorted_type f ATruth (Some (node.Expr (expr.Three op a b c))) h = absurd (cc h)
sorted_type f ATruth (Some (node.Expr (expr.Insert a b c d))) h = absurd (cc h)
sorted_type f ATruth (Some (node.Expr (expr.First op a b))) h = absurd (cc h)
sorted_type f ATruth (Some (node.Expr (expr.Second op a b))) h = absurd (cc h)
sorted_type f ATruth (Some (node.Expr (expr.Quotient a by'))) h = absurd (cc h)
sorted_type f ATruth (Some (node.Expr (expr.Product a by'))) h = absurd (cc h)
sorted_type f ATruth (Some (node.Expr (expr.Pick b a c))) h = absurd (cc h)
sorted_type f ATruth (Some (node.Stmt s)) h = absurd (cc h)
sorted_type f AStatement (Some n) h = inl refl

-- NAMES OF VALUES.
abbrev is_value : Sort → Type 0
is_value AStatement = ⊥
is_value other = Unit {0}

abbrev pub Exist : List Node → List Name → Type 0
Exist nodes [] = Unit {0}
Exist nodes (n ∷ ns) = IsTrue (has nodes n) × (is_value n.sort × Exist nodes ns)

values_exist : (nodes : List Node) (id : ℕ) (x : Expr) → AreEarlier nodes id (named (node.Expr x)) → Exist nodes (named (node.Expr x))
values_exist nodes id (expr.Word w) h = tt
values_exist nodes id (expr.Scratch n) h = tt
values_exist nodes id (expr.Thread kind c) h = tt
values_exist nodes id (expr.Read s word) h = (h.1, (tt, tt))
values_exist nodes id (expr.Length room) h = tt
values_exist nodes id (expr.One op a) h = (h.1, (tt, tt))
values_exist nodes id (expr.Two op a b) h = (h.1, (tt, (h.2.1, (tt, tt))))
values_exist nodes id (expr.Three op a b c) h = (h.1, (tt, (h.2.1, (tt, (h.2.2.1, (tt, tt))))))
values_exist nodes id (expr.Insert a b c d) h = (h.1, (tt, (h.2.1, (tt, (h.2.2.1, (tt, (h.2.2.2.1, (tt, tt))))))))
values_exist nodes id (expr.First op a b) h = (h.1, (tt, (h.2.1, (tt, tt))))
values_exist nodes id (expr.Second op a b) h = (h.1, (tt, (h.2.1, (tt, tt))))
values_exist nodes id (expr.Quotient a by') h = (h.1, (tt, tt))
values_exist nodes id (expr.Product a by') h = (h.1, (tt, tt))
values_exist nodes id (expr.Pick a b c) h = (h.1, (tt, (h.2.1, (tt, (h.2.2.1, (tt, tt))))))
values_exist nodes id (expr.Compare how a b) h = (h.1, (tt, (h.2.1, (tt, tt))))
values_exist nodes id (expr.Both a b) h = (h.1, (tt, (h.2.1, (tt, tt))))

or_left : (b c : Bool) → IsTrue b → IsTrue (b || c)
or_left true c h = refl
or_left false c h = absurd (cc h)

or_right : (b c : Bool) → IsTrue c → IsTrue (b || c)
or_right true c h = refl
or_right false c h = h

is_value_expr : (nodes : List Node) (n : Name) → IsTrue (has nodes n) → is_value n.sort → IsTrue (is_expr nodes n.id)
is_value_expr nodes n h v = by n.sort v h where
  by : (s : Sort) → is_value s → IsTrue (is_of_sort s (slice_get nodes n.id)) → IsTrue (is_expr nodes n.id)
  by AWord v h = or_left (is_of_sort AWord (slice_get nodes n.id)) (is_of_sort ATruth (slice_get nodes n.id)) h
  by ATruth v h = or_right (is_of_sort AWord (slice_get nodes n.id)) (is_of_sort ATruth (slice_get nodes n.id)) h
  by AStatement v h = absurd v

value_type : (nodes : List Node) (n : Name) → IsTrue (has nodes n) → is_value n.sort → type_of_term (term_at nodes n.id) ≡ type_of_sort n.sort
unfolding term_at term_within
value_type nodes n h v = ⊎_elim (λ e. absurd (subst is_value e v)) (λ e. e) (sorted_type (term_within n.id nodes) n.sort (slice_get nodes n.id) h)

-- PARTS THAT ARE DONE, the last first: the names of their nodes, with the ids of their values.
pub record Done : Type 0 where
  pub name : Name
  pub id : ℕ

abbrev pub done : Name → ℕ → Done
done n id = record { name = n; id = id }

abbrev pub slots : List Done → List Slot
slots [] = []
slots (d ∷ ds) = slot d.id (type_of_sort d.name.sort) ∷ slots ds

abbrev pub all_of : List Node → List Done → Meaning
all_of nodes [] = given
all_of nodes (d ∷ ds) = joined (all_of nodes ds) [] (valued (term_at nodes d.name.id))

abbrev pub Short : List Node → List Done → Type 0
Short nodes [] = Unit {0}
Short nodes (d ∷ ds) = OfWords (term_at nodes d.name.id) × Short nodes ds

abbrev word_sum : List Node → List Name → ℕ
word_sum nodes ns = sum_over (λ id. words_in (term_at nodes id)) ns

abbrev id_sum : List Node → List Name → ℕ
id_sum nodes ns = sum_over (λ id. ids_in (term_at nodes id)) ns

-- From a on, where the expression x begins, some parts are done, and others may be: behind them are W words and I ids.
pub record Rest (nodes : List Node) (x : Term) (W I : ℕ) (a e : Emission) (names : List Name) (ds : List Done) : Type 0 where
  pub begun : IsBegun e
  pub exist : Exist nodes names
  pub named : All (λ id. Names e (term_at nodes id)) names
  pub words : W + word_sum nodes names ≤ words_left e
  pub ids : I + id_sum nodes names ≤ ids_left e
  pub spent : words_left a + (W + word_sum nodes names) ≤ words_left e + words_in x
  pub spent_ids : ids_left a + (I + id_sum nodes names) ≤ ids_left e + ids_in x
  pub gives : Gives a e [] (slots ds) (all_of nodes ds)
  pub short : Short nodes ds

abbrev pub WordSums : Type 0
WordSums = (f : ℕ → Term) (n : Node) → words_in (term_by f n) ≡ (node_cost n).words + sum_over (λ id. words_in (f id)) (named n)

abbrev pub IdSums : Type 0
IdSums = (f : ℕ → Term) (n : Node) → ids_in (term_by f n) ≡ (node_cost n).ids + sum_over (λ id. ids_in (f id)) (named n)

pub begins : (nodes : List Node) (id : ℕ) (x : Expr) (a : Emission) → WordSums → IdSums → Stands nodes id (node.Expr x) → May nodes a id
    → Rest nodes (term_at nodes id) (node_cost (node.Expr x)).words (node_cost (node.Expr x)).ids a a (named (node.Expr x)) []
begins nodes id x a ws is st m =
    let w : words_in (term_at nodes id) ≡ (node_cost (node.Expr x)).words + word_sum nodes (named (node.Expr x)) = ap words_in st.term ∙ ws
    (term_at nodes) (node.Expr x) in
    let i : ids_in (term_at nodes id) ≡ (node_cost (node.Expr x)).ids + id_sum nodes (named (node.Expr x)) = ap ids_in st.term ∙ is (term_at nodes)
    (node.Expr x) in
    record {
      begun = m.begun;
      exist = values_exist nodes id x st.names;
      named = names_split a (term_at nodes) x (subst (Names a) st.term m.names);
      words = omega (arith, w, m.words);
      ids = omega (arith, i, m.ids);
      spent = omega (arith, w);
      spent_ids = omega (arith, i);
      gives = start a [];
      short = tt;
    }

module _ (nodes : List Node) (x : Term) (W I : ℕ) (a e : Emission) (n : Name) (ns : List Name) (ds : List Done) (h : Rest nodes x W I a e (n ∷ ns) ds)
  where
    pub may : May nodes e n.id
    may = record {
      expression = is_value_expr nodes n h.exist.0 h.exist.1.0;
      begun = h.begun;
      names = h.named.0;
      words = omega (arith, h.words);
      ids = omega (arith, h.ids);
    }

    pub next : (f : Emission) (r : ℕ) → Did e f (term_at nodes n.id) r → Rest nodes x W I a f ns (done n r ∷ ds)
    next f r d =
        let g = subst (λ t. Gives e f [] (slot r t ∷ []) (valued (term_at nodes n.id))) (value_type nodes n h.exist.0 h.exist.1.0) d.emitted.gives in
        record {
          begun = d.begun;
          exist = h.exist.1.1;
          named = all_by _ _ (λ id k. names_stay e f d.emitted.gives.seg d.emitted.gives.grows (term_at nodes id) k) ns h.named.1;
          words = omega (arith, h.words, d.words);
          ids = omega (arith, h.ids, d.ids);
          spent = omega (arith, h.spent, d.words);
          spent_ids = omega (arith, h.spent_ids, d.ids);
          gives = then' a e f [] (slots ds) [] (slot r (type_of_sort n.sort) ∷ []) (all_of nodes ds) (valued (term_at nodes n.id)) [] h.gives g refl;
          short = (d.emitted.literals, h.short);
        }

-- THE LITERALS of an expression are words when those of its parts are.
module _ (g : ℕ → Term) where
  long : (a b : Bool) → IsTrue a → IsTrue b → IsTrue (a && b)
  long = and_join

  pub literals_join : (x : Expr) → OfWords (term_by (λ id. Nothing) (node.Expr x)) → All (λ id. OfWords (g id)) (named (node.Expr x))
      → OfWords (term_by g (node.Expr x))
  literals_join (expr.Word w) own h = own
  literals_join (expr.Scratch n) own h = refl
  literals_join (expr.Thread kind c) own h = refl
  literals_join (expr.Read s word) own h = h.0
  literals_join (expr.Length room) own h = refl
  literals_join (expr.One op a) own h = h.0
  literals_join (expr.Two op a b) own h = long _ _ h.0 h.1.0
  literals_join (expr.Three op a b c) own h = long _ _ h.0 (long _ _ h.1.0 h.1.1.0)
  literals_join (expr.Insert a b c d) own h = long _ _ h.0 (long _ _ h.1.0 (long _ _ h.1.1.0 h.1.1.1.0))
  literals_join (expr.First op a b) own h = long _ _ h.0 h.1.0
  literals_join (expr.Second op a b) own h = long _ _ h.0 h.1.0
  literals_join (expr.Quotient a by') own h = h.0
  literals_join (expr.Product a by') own h = h.0
  literals_join (expr.Pick a b c) own h = long _ _ h.0 (long _ _ h.1.0 h.1.1.0)
  literals_join (expr.Compare how a b) own h = long _ _ h.0 h.1.0
  literals_join (expr.Both a b) own h = long _ _ h.0 h.1.0

-- THE NODE'S OWN CODE behind its parts.
pub did : (nodes : List Node) (id : ℕ) (x : Expr) (a e f : Emission) (ds : List Done) (r k j : ℕ) → Stands nodes id (node.Expr x)
    → Rest nodes (term_at nodes id) (node_cost (node.Expr x)).words (node_cost (node.Expr x)).ids a e [] ds
    → Gives a f [] (slot r (type_of_term (term_by (term_at nodes) (node.Expr x))) ∷ []) (valued (term_by (term_at nodes) (node.Expr x)))
    → OfWords (term_by (λ id. Nothing) (node.Expr x)) → All (λ id. OfWords (term_at nodes id)) (named (node.Expr x)) → IsBegun f
    → words_left e ≤ words_left f + k → k ≤ (node_cost (node.Expr x)).words → ids_left e ≤ ids_left f + j → j ≤ (node_cost (node.Expr x)).ids
    → Did a f (term_at nodes id) r
did nodes id x a e f ds r k j st h gives own parts begun words le ids li = record {
  emitted = subst (λ t. Emitted a f t r) (sym st.term) (record { gives = gives; literals = literals_join (term_at nodes) x own parts });
  begun = begun;
  words = omega (arith, h.spent, words, le);
  ids = omega (arith, h.spent_ids, ids, li);
}
