-- What the code of a node's own gives on words.
use Rattle.std.proofs.Common.{◌≡◌, ℕ, ◌+◌, ◌*◌, ◌/◌, ◌%◌, ◌<◌, ◌≤◌, ◌^◌, List, [], ◌∷◌, Some, refl, sym, ap, ◌∙◌, subst, arith}
use Rattle.std.specs.Prelude.{Ok, Err, Bool, true, false, not, nat_lt, if◌then◌else◌}
use Rattle.std.proofs.lemmas.Bool.Decides.{nat_tests}
use Rattle.shader_tree.specs.declared.node.Comparison.{Comparison}
use Rattle.shader_tree.specs.declared.node.Expr.{Expr}
use Rattle.shader_tree.specs.declared.node.Node.{Node}
use Rattle.shader_tree.specs.declared.node.Node.TheVariants as node
use Rattle.shader_tree.specs.declared.node.Space.{Space}
use Rattle.shader_tree.specs.declared.node.Expr.TheVariants as expr
use Rattle.shader_tree.specs.declared.node.Space.TheVariants as space
use Rattle.shader_tree.specs.Holding.{OfWords}
use Rattle.shader_tree.specs.Terms.{Stands, term_at}
use Rattle.shader_tree.specs.Terms as term
use Rattle.kept_values.specs.declared.word.Word.TheVariants as kept
use Rattle.shader_tree.specs.Values.{Words, IsWord, IsTruth, provided, compares, size_of, word_in}
use Rattle.shader_tree.specs.Values as tree
use Rattle.spirv_words.specs.Values.{Value, Word, Truth, Got}
use Rattle.spirv_emit.specs.Begun.{IsBegun, IsSpaceThere, Names}
use Rattle.spirv_emit.specs.Emission.{Emission, spaces_of, words_left, ids_left}
use Rattle.spirv_emit.specs.Expressions.{Did}
use Rattle.spirv_emit.specs.Joins.{given, always, joined, only}
use Rattle.spirv_emit.specs.Lanes.{Site}
use Rattle.spirv_emit.specs.Operations.{short, on_word, on_words, on_three, on_four, calc}
use Rattle.spirv_emit.specs.Reads.{space_word, the_word}
use Rattle.spirv_emit.specs.Values.{a_word, a_truth, Meaning, Gives, as_value, got_of, valued}
use Rattle.spirv_emit.proofs.Giving.{then', only_gives, weaker}
use Rattle.spirv_emit.proofs.Groups.{start}
use Rattle.spirv_emit.proofs.Values.{by_two}

pub stand : (nodes : List Node) (id : ℕ) (r x : Expr) → Stands nodes id (node.Expr r) → r ≡ x → Stands nodes id (node.Expr x)
stand nodes id r x st e = subst (λ x. Stands nodes id (node.Expr x)) e st

-- ON SHORT WORDS.
short_is : (x : ℕ) (g : Got (List Value)) → x < 2 ^ 32 → short x g ≡ g
short_is x g l = let e : nat_lt x (2 ^ 32) ≡ true = grind (arith, nat_tests, l) in ap (λ b. if b then g else Err 0) e

abbrev pub value_got : tree.Value → Got (List Value)
value_got v = Ok (as_value v ∷ [])

pub some_value : (v w : tree.Value) → Some v ≡ Some w → v ≡ w
some_value v w e = cc e

pub wanted : (v w : tree.Value) → Some v ≡ Some w → value_got v ≡ value_got w
wanted v w e = ap value_got (some_value v w e)

pub word_by : (f : ℕ → ℕ) (z : Site) (t : Words) (x : ℕ) (w : tree.Value) → x < 2 ^ 32 → tree.word (f x) ≡ Some w → on_word f z t (Word x ∷ []) ≡ Ok
    (as_value w ∷ [])
word_by f z t x w l e = short_is x _ l ∙ wanted (IsWord (f x)) w e

pub words_by : (g : ℕ → ℕ → tree.Value) (z : Site) (t : Words) (x y : ℕ) (w : tree.Value) → x < 2 ^ 32 → y < 2 ^ 32 → Some (g x y) ≡ Some w
    → on_words (λ x y. as_value (g x y)) z t (Word x ∷ Word y ∷ []) ≡ Ok (as_value w ∷ [])
words_by g z t x y w l k e = short_is x _ l ∙ (short_is y _ k ∙ wanted (g x y) w e)

pub three_by : (f : ℕ → ℕ → ℕ → ℕ) (z : Site) (t : Words) (x y u : ℕ) (w : tree.Value) → x < 2 ^ 32 → y < 2 ^ 32 → u < 2 ^ 32
    → tree.word (f x y u) ≡ Some w
    → on_three f z t (Word x ∷ Word y ∷ Word u ∷ []) ≡ Ok (as_value w ∷ [])
three_by f z t x y u w l k j e = short_is x _ l ∙ (short_is y _ k ∙ (short_is u _ j ∙ wanted (IsWord (f x y u)) w e))

pub four_by : (f : ℕ → ℕ → ℕ → ℕ → ℕ) (z : Site) (t : Words) (x y m n : ℕ) (w : tree.Value) → x < 2 ^ 32 → y < 2 ^ 32 → m < 2 ^ 32 → n < 2 ^ 32
    → tree.word (f x y m n) ≡ Some w → on_four f z t (Word x ∷ Word y ∷ Word m ∷ Word n ∷ []) ≡ Ok (as_value w ∷ [])
four_by f z t x y m n w l k j i e = short_is x _ l ∙ (short_is y _ k ∙ (short_is m _ j ∙ (short_is n _ i ∙ wanted (IsWord (f x y m n)) w e)))

-- A COMPARISON.
pub compare_by : (a b : Emission) (F : Meaning) (x y r : ℕ) (how how' : Comparison) → how ≡ how'
    → ((z : Site) (t : Words) (x y : ℕ) → F z t (Word x ∷ Word y ∷ []) ≡ Ok (Truth (compares how' x y) ∷ []))
    → Gives a b (a_word x ∷ a_word y ∷ []) (a_truth r ∷ []) F → Gives a b (a_word x ∷ a_word y ∷ []) (a_truth r ∷ [])
    (on_words (λ x y. Truth (compares how x y)))
compare_by a b F x y r how how' e f g =
    subst (λ how. Gives a b (a_word x ∷ a_word y ∷ []) (a_truth r ∷ []) (on_words (λ x y. Truth (compares how x y)))) (sym e)
    (weaker a b (a_word x ∷ a_word y ∷ []) (a_truth r ∷ []) F (on_words (λ x y. Truth (compares how' x y)))
    (λ z comp t ht vs ws q. by_two F z t (λ x y. Truth (compares how' x y)) (λ x y l k. f z t x y) vs ws q) g)

-- A WORD AND A NUMBER.
pub number_gives : (a b c : Emission) (op number x k r : ℕ) → Gives a b [] (a_word k ∷ []) (always (Word number))
    → Gives b c (a_word x ∷ a_word k ∷ []) (a_word r ∷ []) (calc op)
    → Gives a c (a_word x ∷ []) (a_word r ∷ []) (only (0 ∷ []) (joined (joined given [] (always (Word number))) (1 ∷ 0 ∷ []) (calc op)))
number_gives a b c op number x k r one two =
    let p = then' _ _ _ _ _ _ _ _ _ [] (start a (a_word x ∷ [])) one refl in
    only_gives _ _ _ _ _ _ (0 ∷ []) (then' _ _ _ _ _ _ _ _ _ (1 ∷ 0 ∷ []) p two refl) refl

abbrev pub with_number : ℕ → ℕ → Meaning
with_number op number = only (0 ∷ []) (joined (joined given [] (always (Word number))) (1 ∷ 0 ∷ []) (calc op))

pub quotient_by : (by : ℕ) (z : Site) (t : Words) (x : ℕ) (w : tree.Value) → provided (nat_lt 0 by) (tree.word (x / by)) ≡ Some w
    → with_number 134 by z t (Word x ∷ []) ≡ Ok (as_value w ∷ [])
quotient_by by z t x w e = case (nat_lt 0 by) refl e where
  case : (b : Bool) → nat_lt 0 by ≡ b → provided b (tree.word (x / by)) ≡ Some w → with_number 134 by z t (Word x ∷ []) ≡ Ok (as_value w ∷ [])
  case true q e = rw q (wanted (IsWord (x / by)) w e)
  case false q e = absurd (cc e)

pub product_by : (by : ℕ) (z : Site) (t : Words) (x : ℕ) (w : tree.Value) → tree.word (x * by % 2 ^ 32) ≡ Some w → with_number 132 by z t
    (Word x ∷ []) ≡ Ok (as_value w ∷ [])
product_by by z t x w e = wanted (IsWord (x * by % 2 ^ 32)) w e

-- A WORD OF A SPACE.
pub space_by : (space : Space) (z : Site) (t : Words) (x : ℕ) (w : tree.Value) → tree.word_at (spaces_of z.frame) z.machine.setting t space x ≡ Some w
    → space_word space z t (Word x ∷ []) ≡ Ok (as_value w ∷ [])
space_by space z t x w e = case (nat_lt x (size_of (spaces_of z.frame) space)) refl e where
  case : (b : Bool) → nat_lt x (size_of (spaces_of z.frame) space) ≡ b
      → provided b (tree.word (word_in (spaces_of z.frame) z.machine.setting t.registers space x)) ≡ Some w → space_word space z t (Word x ∷ []) ≡ Ok
      (as_value w ∷ [])
  case true q e = rw q (wanted (IsWord (word_in (spaces_of z.frame) z.machine.setting t.registers space x)) w e)
  case false q e = absurd (cc e)

pub space_named : (nodes : List Node) (id : ℕ) (e : Emission) (s : Space) (word : ℕ) → Stands nodes id (node.Expr (expr.Read s word))
    → Names e (term_at nodes id) → IsSpaceThere e s
space_named nodes id e s word st h = (subst (Names e) st.term h).spaces.0

-- A LITERAL is a word.
pub literal_short : (w : ℕ) → w < 2 ^ 32 → OfWords (term.Word w)
literal_short w l = let e : nat_lt w (2 ^ 32) ≡ true = grind (arith, nat_tests, l) in ap (λ b. not (not b)) e

-- A REGISTER with a variable of its own.
register_by : (k : ℕ) (z : Site) (t : Words) (ws : List Value) → got_of (tree.word_at (spaces_of z.frame) z.machine.setting t space.Temps k) ≡ Ok ws
    → value_got (IsWord (t.registers.temp (k / 4) (k % 4))) ≡ Ok ws
register_by k z t ws e = case (nat_lt k (size_of (spaces_of z.frame) space.Temps)) e where
  case : (b : Bool) → got_of (provided b (tree.word (t.registers.temp (k / 4) (k % 4)))) ≡ Ok ws
      → value_got (IsWord (t.registers.temp (k / 4) (k % 4))) ≡ Ok ws
  case true e = e
  case false e = absurd (cc e)

pub register_did : (nodes : List Node) (id word k r : ℕ) (a f : Emission) → Stands nodes id (node.Expr (expr.Read space.Temps word))
    → term_at nodes word ≡ term.Word k → k < 2 ^ 32
    → Gives a f [] (a_word r ∷ []) (the_word (kept.Register k)) → IsBegun f → words_left a ≤ words_left f + 9 → ids_left a ≤ ids_left f + 2
    → Did a f (term_at nodes id) r
register_did nodes id word k r a f st lit l g begun w i =
    let e : term_at nodes id ≡ term.Read space.Temps (term.Word k) = st.term ∙ ap (term.Read space.Temps) lit in
    subst (λ t. Did a f t r) (sym e) (record {
      emitted = record {
        gives = weaker a f [] (a_word r ∷ []) (the_word (kept.Register k)) (valued (term.Read space.Temps (term.Word k)))
            (λ z comp t ht vs ws q. register_by k z t ws q) g;
        literals = literal_short k l;
      };
      begun = begun;
      words = omega (arith, w);
      ids = omega (arith, i);
    })
