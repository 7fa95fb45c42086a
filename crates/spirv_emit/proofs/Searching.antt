-- Where no node of a tree has an index into the registers r# that is no literal, no term of the tree has one.
use Rattle.std.proofs.Common.{◌≡◌, ℕ, zero, suc, ◌+◌, ◌<◌, ◌≤◌, Bool, true, false, List, [], ◌∷◌, ◌++◌, length, take, Some, None, refl, sym, ap, ◌∙◌, subst, arith}
use Rattle.std.specs.Prelude.{slice_get, not, ◌&&◌, IsTrue, Option}
use Rattle.std.specs.List.{list_all}
use Rattle.shader_tree.specs.declared.node.Expr.TheVariants as expr
use Rattle.shader_tree.specs.declared.node.Stmt.TheVariants as stmt
use Rattle.shader_tree.specs.declared.node.Node.{Node}
use Rattle.shader_tree.specs.declared.node.Node.TheVariants as node
use Rattle.shader_tree.specs.declared.node.Space.{Space}
use Rattle.shader_tree.specs.declared.node.Space.TheVariants as space
use Rattle.shader_tree.specs.Nodes.{Name, named, has, are_nodes}
use Rattle.shader_tree.specs.Terms.{Term, term_by, term_at, term_within, AreEarlier, Stands}
use Rattle.shader_tree.specs.Terms as term
use Rattle.shader_tree.specs.Walks.{holds_no}
use Rattle.spirv_emit.specs.Begun.{is_literal, is_searched}
use Rattle.spirv_emit.specs.Naming.{is_word_node, searches, none_searches, Opened}
use Rattle.spirv_emit.specs.Emission.{Emission, words_left, ids_left}
use Rattle.spirv_symbols.specs.Tables.{Extends}

both : (a b : Bool) → a ≡ true → b ≡ true → (a && b) ≡ true
both true b h k = k
both false b h k = absurd (cc h)

-- THE WALK over a node's term: its own, and those of what it names.
abbrev AreFree : (Term → Bool) → (ℕ → Term) → List Name → Type 0
AreFree test f [] = Unit {0}
AreFree test f (n ∷ ns) = (holds_no test (f n.id) ≡ true) × AreFree test f ns

free_by : (test : Term → Bool) (f : ℕ → Term) (n : Node) → not (test (term_by f n)) ≡ true → AreFree test f (named n)
    → holds_no test (term_by f n) ≡ true
free_by test f (node.Expr (expr.Word w)) h p = h
free_by test f (node.Expr (expr.Scratch k)) h p = h
free_by test f (node.Expr (expr.Thread kind c)) h p = h
free_by test f (node.Expr (expr.Read space a)) h p = both _ _ h p.0
free_by test f (node.Expr (expr.Length room)) h p = h
free_by test f (node.Expr (expr.One op a)) h p = both _ _ h p.0
free_by test f (node.Expr (expr.Two op a b)) h p = both _ _ h (both _ _ p.0 p.1.0)
free_by test f (node.Expr (expr.Three op a b c)) h p = both _ _ h (both _ _ p.0 (both _ _ p.1.0 p.1.1.0))
free_by test f (node.Expr (expr.Insert a b c d)) h p = both _ _ h (both _ _ p.0 (both _ _ p.1.0 (both _ _ p.1.1.0 p.1.1.1.0)))
free_by test f (node.Expr (expr.First op a b)) h p = both _ _ h (both _ _ p.0 p.1.0)
free_by test f (node.Expr (expr.Second op a b)) h p = both _ _ h (both _ _ p.0 p.1.0)
free_by test f (node.Expr (expr.Quotient a by)) h p = both _ _ h p.0
free_by test f (node.Expr (expr.Product a by)) h p = both _ _ h p.0
free_by test f (node.Expr (expr.Pick a b c)) h p = both _ _ h (both _ _ p.0 (both _ _ p.1.0 p.1.1.0))
free_by test f (node.Expr (expr.Compare how a b)) h p = both _ _ h (both _ _ p.0 p.1.0)
free_by test f (node.Expr (expr.Both a b)) h p = both _ _ h (both _ _ p.0 p.1.0)
free_by test f (node.Stmt (stmt.Set n a)) h p = both _ _ h p.0
free_by test f (node.Stmt (stmt.Write space a b)) h p = both _ _ h (both _ _ p.0 p.1.0)
free_by test f (node.Stmt (stmt.Load n room a)) h p = both _ _ h p.0
free_by test f (node.Stmt (stmt.Store room a b)) h p = both _ _ h (both _ _ p.0 p.1.0)
free_by test f (node.Stmt (stmt.Atomic n room a kind b c)) h p = both _ _ h (both _ _ p.0 (both _ _ p.1.0 p.1.1.0))
free_by test f (node.Stmt (stmt.Sync threads scope classes)) h p = h
free_by test f (node.Stmt (stmt.Guard a b)) h p = both _ _ h (both _ _ p.0 p.1.0)
free_by test f (node.Stmt (stmt.If a b c)) h p = both _ _ h (both _ _ p.0 (both _ _ p.1.0 p.1.1.0))
free_by test f (node.Stmt (stmt.Loop a)) h p = both _ _ h p.0
free_by test f (node.Stmt (stmt.Switch a b)) h p = both _ _ h (both _ _ p.0 p.1.0)
free_by test f (node.Stmt (stmt.Case v a)) h p = both _ _ h p.0
free_by test f (node.Stmt (stmt.Default a)) h p = both _ _ h p.0
free_by test f (node.Stmt stmt.Break) h p = h
free_by test f (node.Stmt stmt.Continue) h p = h
free_by test f (node.Stmt stmt.Return) h p = h
free_by test f (node.Stmt (stmt.Then a b)) h p = both _ _ h (both _ _ p.0 p.1.0)
free_by test f (node.Stmt stmt.Nothing) h p = h

-- A TERM SEARCHES where its node does: an index is a literal where its node is a word.
module _ (nodes : List Node) (stands : (id : ℕ) (n : Node) → slice_get nodes id ≡ Some n → Stands nodes id n) where
  literal_at : (id : ℕ) → is_word_node (slice_get nodes id) ≡ true → is_literal (term_at nodes id) ≡ true
  literal_at id h = by (slice_get nodes id) refl h where
    by : (o : Option Node) → slice_get nodes id ≡ o → is_word_node o ≡ true → is_literal (term_at nodes id) ≡ true
    by (Some (node.Expr (expr.Word w))) e q = ap is_literal (stands id (node.Expr (expr.Word w)) e).term
    by None e q = absurd (cc q)
    by (Some other) e q = absurd (cc q)

  direct_by : (n : Node) → not (searches nodes n) ≡ true → not (is_searched (term_by (term_at nodes) n)) ≡ true
  direct_by (node.Expr (expr.Read space.Temps word)) h = rw (literal_at word (not_not (is_word_node (slice_get nodes word)) h)) refl where
    not_not : (b : Bool) → not (not b) ≡ true → b ≡ true
    not_not true e = refl
    not_not false e = absurd (cc e)
  direct_by (node.Stmt (stmt.Write space.Temps word value)) h = rw (literal_at word (not_not (is_word_node (slice_get nodes word)) h)) refl where
    not_not : (b : Bool) → not (not b) ≡ true → b ≡ true
    not_not true e = refl
    not_not false e = absurd (cc e)
  direct_by other h = refl

  all_at : (ns : List Node) (k : ℕ) (n : Node) → none_searches nodes ns ≡ true → slice_get ns k ≡ Some n → not (searches nodes n) ≡ true
  all_at [] k n h g = absurd (cc g)
  all_at (x ∷ xs) zero n h g = let e : x ≡ n = cc g in subst (λ m. not (searches nodes m) ≡ true) e (first (not (searches nodes x)) h) where
    first : (b : Bool) → (b && none_searches nodes xs) ≡ true → b ≡ true
    first true e = refl
    first false e = absurd (cc e)
  all_at (x ∷ xs) (suc k) n h g = all_at xs k n (rest (not (searches nodes x)) h) g where
    rest : (b : Bool) → (b && none_searches nodes xs) ≡ true → none_searches nodes xs ≡ true
    rest true e = e
    rest false e = absurd (cc e)

  nothing_at : (id : ℕ) → slice_get nodes id ≡ None → term_at nodes id ≡ term.Nothing
  unfolding term_at term_within
  nothing_at id h = rw h refl

  module _ (none : none_searches nodes nodes ≡ true) where
    free_in : (bound id : ℕ) (ns : List Name) → ((i : ℕ) → i < bound → holds_no is_searched (term_at nodes i) ≡ true) → id ≤ bound
        → AreEarlier nodes id ns → AreFree is_searched (term_at nodes) ns
    free_in bound id [] f le p = tt
    free_in bound id (m ∷ ms) f le p = (f m.id (omega (arith, p.0, le)), free_in bound id ms f le p.2)

    free_at : (bound id : ℕ) → id ≤ bound → ((i : ℕ) → i < bound → holds_no is_searched (term_at nodes i) ≡ true)
        → (o : Option Node) → slice_get nodes id ≡ o → holds_no is_searched (term_at nodes id) ≡ true
    free_at bound id le f None e = subst (λ t. holds_no is_searched t ≡ true) (sym (nothing_at id e)) refl
    free_at bound id le f (Some n) e =
        let st = stands id n e in
        subst (λ t. holds_no is_searched t ≡ true) (sym st.term)
        (free_by is_searched (term_at nodes) n (direct_by n (all_at nodes id n none e)) (free_in bound id (named n) f le st.names))

    below : (bound id : ℕ) → id < bound → holds_no is_searched (term_at nodes id) ≡ true
    below zero id lt = absurd (omega (arith, lt))
    below (suc bound) id lt = free_at bound id (omega (arith, lt)) (λ i. below bound i) (slice_get nodes id) refl

    pub all_direct : (id : ℕ) → IsTrue (holds_no is_searched (term_at nodes id))
    all_direct id = below (suc id) id (omega arith)

-- the nodes that were met
none_suc : (nodes xs : List Node) (k : ℕ) (n : Node) → slice_get xs k ≡ Some n → searches nodes n ≡ false
    → none_searches nodes (take k xs) ≡ true → none_searches nodes (take (suc k) xs) ≡ true
none_suc nodes [] k n q own i = absurd (cc q)
none_suc nodes (x ∷ xs) zero n q own i = let s : searches nodes x ≡ false = ap (searches nodes) (cc q) ∙ own in rw s refl
none_suc nodes (x ∷ xs) (suc k) n q own i = by (not (searches nodes x)) refl i (none_suc nodes xs k n q own) where
  by : (b : Bool) → not (searches nodes x) ≡ b → (b && none_searches nodes (take k xs)) ≡ true
      → (none_searches nodes (take k xs) ≡ true → none_searches nodes (take (suc k) xs) ≡ true)
      → (not (searches nodes x) && none_searches nodes (take (suc k) xs)) ≡ true
  by true e i f = both (not (searches nodes x)) (none_searches nodes (take (suc k) xs)) e (f i)
  by false e i f = absurd (cc i)

pub none_next : (nodes ns : List Node) (k : ℕ) (n : Node) → slice_get ns k ≡ Some n → searches nodes n ≡ false
    → none_searches nodes (take k ns) ≡ true → none_searches nodes (take (k + 1) ns) ≡ true
none_next nodes ns k n g own h =
    let e : k + 1 ≡ suc k = omega arith in subst (λ i. none_searches nodes (take i ns) ≡ true) (sym e) (none_suc nodes ns k n g own h)

pub one_searches : (nodes ns : List Node) (k : ℕ) (n : Node) → slice_get ns k ≡ Some n → searches nodes n ≡ true → none_searches nodes ns ≡ false
one_searches nodes [] k n g h = absurd (cc g)
one_searches nodes (x ∷ xs) zero n g h = let e : x ≡ n = cc g in let s : searches nodes x ≡ true = ap (searches nodes) e ∙ h in rw s refl
one_searches nodes (x ∷ xs) (suc k) n g h = by (not (searches nodes x)) (one_searches nodes xs k n g h) where
  by : (b : Bool) → none_searches nodes xs ≡ false → (b && none_searches nodes xs) ≡ false
  by true e = e
  by false e = refl

-- the index of a node stands in front of it
module _ (nodes : List Node) (id : ℕ) where
  within : (xs : List Node) (k : ℕ) (n : Node) → slice_get xs k ≡ Some n → k < length xs
  within [] k n h = absurd (cc h)
  within (x ∷ xs) zero n h = omega arith
  within (x ∷ xs) (suc k) n h = omega (arith, within xs k n h)

  pub read_below : (s : Space) (word : ℕ) → ((n : Node) → IsTrue (are_nodes nodes) → slice_get nodes id ≡ Some n → Stands nodes id n)
      → IsTrue (are_nodes nodes) → slice_get nodes id ≡ Some (node.Expr (expr.Read s word)) → word < length nodes
  read_below s word stands all e =
      let st = stands (node.Expr (expr.Read s word)) all e in omega (arith, st.names.0, within nodes id (node.Expr (expr.Read s word)) e)

  pub write_below : (s : Space) (word value : ℕ) → ((n : Node) → IsTrue (are_nodes nodes) → slice_get nodes id ≡ Some n → Stands nodes id n)
      → IsTrue (are_nodes nodes) → slice_get nodes id ≡ Some (node.Stmt (stmt.Write s word value)) → word < length nodes
  write_below s word value stands all e =
      let st = stands (node.Stmt (stmt.Write s word value)) all e in
      omega (arith, st.names.0, within nodes id (node.Stmt (stmt.Write s word value)) e)

-- AN EMITTER whose words of r# are variables of their own
abbrev with_separate : Emission → Bool → Emission
with_separate e b = record e { frame = record e.frame { separate = b } }

pub separate_words : (e : Emission) (b : Bool) → words_left (with_separate e b) ≡ words_left e
unfolding words_left
separate_words e b = refl

pub separate_ids : (e : Emission) (b : Bool) → ids_left (with_separate e b) ≡ ids_left e
unfolding ids_left
separate_ids e b = refl

pub all_separate : (nodes : List Node) → ((id : ℕ) (n : Node) → slice_get nodes id ≡ Some n → Stands nodes id n) → (e : Emission) (b : Bool)
    → b ≡ none_searches nodes nodes → b ≡ true → Extends e.symbols e.symbols → Opened e (with_separate e b) nodes
all_separate nodes stands e b is holds x = record {
  rest = refl;
  frame = ap (λ b. record e.frame { separate = b }) is;
  extends = x;
  globals = refl;
  array = λ own. absurd (cc (sym own ∙ holds));
  direct = λ own id. all_direct nodes stands (sym is ∙ holds) id;
}
