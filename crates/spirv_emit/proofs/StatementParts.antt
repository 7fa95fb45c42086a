-- The expressions of statements: what each needs, and what has been written when it was.
use Rattle.std.proofs.Common.{◌≡◌, ℕ, ◌+◌, ◌≤◌, List, [], ◌∷◌, ◌++◌, Option, Some, None, refl, sym, ap, ◌∙◌, subst, arith}
use Rattle.std.specs.Prelude.{true, not, ◌&&◌, ◌||◌, IsTrue, slice_get}
use Rattle.word_base.specs.declared.event.Act.{Act}
use Rattle.word_base.specs.declared.event.Room.{Room}
use Rattle.shader_tree.specs.declared.node.Node.{Node}
use Rattle.shader_tree.specs.declared.node.Node.TheVariants as node
use Rattle.shader_tree.specs.declared.node.Expr.{Expr}
use Rattle.shader_tree.specs.declared.node.Expr.TheVariants as expr
use Rattle.shader_tree.specs.declared.node.Space.{Space}
use Rattle.shader_tree.specs.declared.node.Space.TheVariants as space
use Rattle.shader_tree.specs.Costs.{words_in, ids_in}
use Rattle.shader_tree.specs.Nodes.{AWord, Name, has, is_expr, is_of_sort, sort_of}
use Rattle.shader_tree.specs.Nodes as nodes
use Rattle.shader_tree.specs.Terms.{Term, term_by, term_for, term_within, term_at, Stands}
use Rattle.shader_tree.specs.Terms as term
use Rattle.shader_tree.specs.Walks.{holds_no, spaces_in, rooms_in, threads_in}
use Rattle.spirv_symbols.specs.declared.symbol.Symbol.{Symbol}
use Rattle.binding_map.specs.declared.register.Place.{Place}
use Rattle.binding_map.specs.declared.register.Place.TheVariants.{Bound, Push as InPush}
use Rattle.spirv_symbols.specs.declared.symbol.Symbol.TheVariants.{Memory, Input, Uniform, Push}
use Rattle.spirv_symbols.specs.declared.symbol.TypeSymbol.TheVariants as symbol
use Rattle.spirv_words.specs.Text.{Instr}
use Rattle.spirv_emit.specs.declared.buffer.ConstantBuffer.{ConstantBuffer}
use Rattle.spirv_emit.specs.Begun.{IsBegun, IsThere, IsBufferThere, IsPlaceThere, IsSpaceThere, Names, is_searched, built_in_of}
use Rattle.spirv_emit.specs.Emission.{Emission, Frame, words_left, ids_left, buffer_of}
use Rattle.spirv_emit.specs.Expressions.{May, Did}
use Rattle.spirv_emit.specs.Growing.{Grows}
use Rattle.spirv_emit.specs.Values.{slot, a_word, Gives, Emitted, valued, type_of_term}
use Rattle.spirv_emit.proofs.Lists.{and_left, and_right, each_front, each_back}
use Rattle.spirv_emit.proofs.Staying.{names_stay}

-- an expression that is a word has the type of words
word_sorted : (f : ℕ → Term) (n : Option Node) → IsTrue (is_of_sort AWord n) → type_of_term (term_for f n) ≡ symbol.Word
word_sorted f None h = absurd (cc h)
word_sorted f (Some (node.Stmt s)) h = absurd (cc h)
word_sorted f (Some (node.Expr (expr.Compare o a b))) h = absurd (cc h)
word_sorted f (Some (node.Expr (expr.Both a b))) h = absurd (cc h)
word_sorted f (Some (node.Expr (expr.Word w))) h = refl
word_sorted f (Some (node.Expr (expr.Scratch n))) h = refl
word_sorted f (Some (node.Expr (expr.Thread k c))) h = refl
word_sorted f (Some (node.Expr (expr.Read sp a))) h = refl
word_sorted f (Some (node.Expr (expr.Length r))) h = refl
word_sorted f (Some (node.Expr (expr.One o a))) h = refl
word_sorted f (Some (node.Expr (expr.Two o a b))) h = refl
word_sorted f (Some (node.Expr (expr.Three o a b c))) h = refl
word_sorted f (Some (node.Expr (expr.Insert a b c d))) h = refl
word_sorted f (Some (node.Expr (expr.First o a b))) h = refl
word_sorted f (Some (node.Expr (expr.Second o a b))) h = refl
word_sorted f (Some (node.Expr (expr.Quotient a b))) h = refl
word_sorted f (Some (node.Expr (expr.Product a b))) h = refl
word_sorted f (Some (node.Expr (expr.Pick a b c))) h = refl

pub word_type : (ns : List Node) (id : ℕ) → IsTrue (has ns (nodes.a_word id)) → type_of_term (term_at ns id) ≡ symbol.Word
unfolding term_at term_within
word_type ns id h = word_sorted (term_within id ns) (slice_get ns id) h

pub word_is_expr : (ns : List Node) (id : ℕ) → IsTrue (has ns (nodes.a_word id)) → IsTrue (is_expr ns id)
word_is_expr ns id h = ap (λ b. b || has ns (nodes.a_truth id)) h

pub word_gives : (ns : List Node) (id : ℕ) (a b : Emission) (r : ℕ) → IsTrue (has ns (nodes.a_word id)) → Emitted a b (term_at ns id) r
    → Gives a b [] (a_word r ∷ []) (valued (term_at ns id))
word_gives ns id a b r h d =
    subst (λ t. Gives a b [] (slot r t ∷ []) (valued (term_at ns id))) (word_type ns id h) d.gives

-- WHAT A STATEMENT NAMES its expressions name.
pub set_names : (e : Emission) (n : ℕ) (x : Term) → Names e (term.Set n x) → Names e x
set_names e n x h = record { spaces = h.spaces; rooms = h.rooms; threads = h.threads; direct = h.direct }

pub load_names : (e : Emission) (n : ℕ) (q : Room) (x : Term) → Names e (term.Load n q x) → Names e x
load_names e n q x h = record { spaces = h.spaces; rooms = h.rooms.1; threads = h.threads; direct = h.direct }

module _ (e : Emission) (q : Room) (x y : Term) (h : Names e (term.Store q x y)) where
  pub store_first : Names e x
  store_first = record {
    spaces = each_front (IsSpaceThere e) (spaces_in x) (spaces_in y) h.spaces;
    rooms = each_front (λ r. IsThere e.symbols.entries (Memory r)) (rooms_in x) (rooms_in y) h.rooms.1;
    threads = each_front (λ k. IsThere e.symbols.entries (Input (built_in_of k))) (threads_in x) (threads_in y) h.threads;
    direct = λ s. and_left (holds_no is_searched x) (holds_no is_searched y) (h.direct s);
  }

  pub store_second : Names e y
  store_second = record {
    spaces = each_back (IsSpaceThere e) (spaces_in x) (spaces_in y) h.spaces;
    rooms = each_back (λ r. IsThere e.symbols.entries (Memory r)) (rooms_in x) (rooms_in y) h.rooms.1;
    threads = each_back (λ k. IsThere e.symbols.entries (Input (built_in_of k))) (threads_in x) (threads_in y) h.threads;
    direct = λ s. and_right (holds_no is_searched x) (holds_no is_searched y) (h.direct s);
  }

-- the three of an atomic, as those of a load and a store
pub atomic_names : (e : Emission) (n : ℕ) (q : Room) (x : Term) (kind : Act) (y w : Term) → Names e (term.Atomic n q x kind y w)
    → Names e x × (Names e (term.Store q y w))
atomic_names e n q x kind y w h = (
  record {
    spaces = each_front (IsSpaceThere e) (spaces_in x) (spaces_in y ++ spaces_in w) h.spaces;
    rooms = each_front (λ r. IsThere e.symbols.entries (Memory r)) (rooms_in x) (rooms_in y ++ rooms_in w) h.rooms.1;
    threads = each_front (λ k. IsThere e.symbols.entries (Input (built_in_of k))) (threads_in x) (threads_in y ++ threads_in w) h.threads;
    direct = λ s. and_left (holds_no is_searched x) (holds_no is_searched y && holds_no is_searched w) (h.direct s);
  },
  record {
    spaces = each_back (IsSpaceThere e) (spaces_in x) (spaces_in y ++ spaces_in w) h.spaces;
    rooms = (h.rooms.0, each_back (λ r. IsThere e.symbols.entries (Memory r)) (rooms_in x) (rooms_in y ++ rooms_in w) h.rooms.1);
    threads = each_back (λ k. IsThere e.symbols.entries (Input (built_in_of k))) (threads_in x) (threads_in y ++ threads_in w) h.threads;
    direct = λ s. and_right (holds_no is_searched x) (holds_no is_searched y && holds_no is_searched w) (h.direct s);
  },
)

-- the first and the second of two expressions of a statement with such costs
pub may_first : (ns : List Node) (e : Emission) (id : ℕ) (w i : ℕ) → IsTrue (has ns (nodes.a_word id)) → IsBegun e → Names e (term_at ns id)
    → words_in (term_at ns id) + w ≤ words_left e → ids_in (term_at ns id) + i ≤ ids_left e → May ns e id
may_first ns e id w i h b n words ids = record {
  expression = word_is_expr ns id h;
  begun = b;
  names = n;
  words = omega (arith, words);
  ids = omega (arith, ids);
}

pub may_second : (ns : List Node) (a b : Emission) (one id r : ℕ) (w i : ℕ) → IsTrue (has ns (nodes.a_word id)) → Did a b (term_at ns one) r
    → Names a (term_at ns id)
    → words_in (term_at ns one) + (words_in (term_at ns id) + w) ≤ words_left a → ids_in (term_at ns one) + (ids_in (term_at ns id) + i) ≤ ids_left a
    → May ns b id
may_second ns a b one id r w i h d n words ids =
    let dw = d.words in let di = d.ids in
    record {
      expression = word_is_expr ns id h;
      begun = d.begun;
      names = names_stay a b d.emitted.gives.seg d.emitted.gives.grows (term_at ns id) n;
      words = omega (arith, words, dw);
      ids = omega (arith, ids, di);
    }

pub may_third : (ns : List Node) (a b d : Emission) (one two id r q : ℕ) → IsTrue (has ns (nodes.a_word id)) → Did a b (term_at ns one) r
    → Did b d (term_at ns two) q
    → Names a (term_at ns id) → words_in (term_at ns one) + (words_in (term_at ns two) + words_in (term_at ns id)) ≤ words_left a
    → ids_in (term_at ns one) + (ids_in (term_at ns two) + ids_in (term_at ns id)) ≤ ids_left a → May ns d id
may_third ns a b d one two id r q h x y n words ids =
    let xw = x.words in let xi = x.ids in let yw = y.words in let yi = y.ids in
    record {
      expression = word_is_expr ns id h;
      begun = y.begun;
      names = names_stay b d y.emitted.gives.seg y.emitted.gives.grows (term_at ns id) (names_stay a b x.emitted.gives.seg x.emitted.gives.grows
          (term_at ns id) n);
      words = omega (arith, words, xw, yw);
      ids = omega (arith, ids, xi, yi);
    }

-- the two of a write
module _ (e : Emission) (s : Space) (x y : Term) (h : Names e (term.Write s x y)) where
  direct' : e.frame.separate ≡ true → IsTrue (holds_no is_searched x && holds_no is_searched y)
  direct' q = and_right (not (is_searched (term.Write s x y))) (holds_no is_searched x && holds_no is_searched y) (h.direct q)

  pub write_first : Names e x
  write_first = record {
    spaces = each_front (IsSpaceThere e) (spaces_in x) (spaces_in y) h.spaces.1;
    rooms = each_front (λ r. IsThere e.symbols.entries (Memory r)) (rooms_in x) (rooms_in y) h.rooms;
    threads = each_front (λ k. IsThere e.symbols.entries (Input (built_in_of k))) (threads_in x) (threads_in y) h.threads;
    direct = λ q. and_left (holds_no is_searched x) (holds_no is_searched y) (direct' q);
  }

  pub write_second : Names e y
  write_second = record {
    spaces = each_back (IsSpaceThere e) (spaces_in x) (spaces_in y) h.spaces.1;
    rooms = each_back (λ r. IsThere e.symbols.entries (Memory r)) (rooms_in x) (rooms_in y) h.rooms;
    threads = each_back (λ k. IsThere e.symbols.entries (Input (built_in_of k))) (threads_in x) (threads_in y) h.threads;
    direct = λ q. and_right (holds_no is_searched x) (holds_no is_searched y) (direct' q);
  }

-- a node that is a word
pub literal_at : (ns : List Node) (id k : ℕ) (x : Expr) → Stands ns id (node.Expr x) → x ≡ expr.Word k → term_at ns id ≡ term.Word k
literal_at ns id k x h e = h.term ∙ ap (λ x. term_by (term_at ns) (node.Expr x)) e
