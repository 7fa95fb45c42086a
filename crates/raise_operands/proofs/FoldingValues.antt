-- The words of folded terms are those of their parts.
use Rattle.std.proofs.Common.{◌≡◌, ℕ, ◌+◌, ◌%◌, ◌<◌, ◌^◌, Bool, true, false, Option, Some, None, refl, ap, ◌∙◌, arith}
use Rattle.std.specs.Prelude.{nat_eq, not, if◌then◌else◌}
use Rattle.std.proofs.lemmas.Bool.{eqb-true}
use Rattle.word_base.specs.declared.arithmetic.Unary.{Unary}
use Rattle.word_base.specs.declared.arithmetic.Unary.TheVariants as one
use Rattle.word_base.specs.declared.arithmetic.Binary.{Binary}
use Rattle.word_base.specs.declared.arithmetic.Binary.TheVariants as two
use Rattle.word_base.specs.declared.arithmetic.Ternary.{Ternary}
use Rattle.word_base.specs.declared.arithmetic.Paired.{Paired}
use Rattle.word_base.specs.Alu.{unary, binary, ternary, inserted_field, pair}
use Rattle.word_base.specs.Settings.{Setting}
use Rattle.shader_tree.specs.Terms.{Term}
use Rattle.shader_tree.specs.Terms as term
use Rattle.shader_tree.specs.Values.{Spaces, Words, value, word, for_word}
use Rattle.raise_operands.specs.Folding.{literal, added, added_by, unary_of, unary_by, binary_of, binary_by, ternary_of, ternary_by, insert_of, insert_by, first_of, first_by, second_of, second_by, chosen, chosen_by}

-- where a word is known, it is that one
abbrev pub Lit : Option ℕ → ℕ → Type 0
Lit (Some w) x = w ≡ x
Lit None x = Unit {0}

word_is : (x y : ℕ) → word x ≡ word y → x ≡ y
word_is x y h = cc

module _ (g : Spaces) (s : Setting) (t : Words) where
  pub lit : (a : Term) (x : ℕ) → value g s t a ≡ word x → Lit (literal a) x
  lit (term.Word w) x h = word_is w x h
  lit other x h = tt

  add_by : (o : Option ℕ) (a : Term) (x n : ℕ) → Lit o x → value g s t a ≡ word x → x < 2 ^ 32 → value g s t (added_by o a n) ≡ word
      ((x + n) % 2 ^ 32)
  add_by (Some w) a x n e h l = ap (λ y. word ((y + n) % 2 ^ 32)) e
  add_by None a x n e h l = none (nat_eq n 0) refl
    where
      none : (b : Bool) → nat_eq n 0 ≡ b → value g s t (if b then a else term.Two two.Iadd a (term.Word n)) ≡ word ((x + n) % 2 ^ 32)
      none true p = h ∙ ap word (let q = eqb-true n 0 p in omega arith)
      none false p = ap (λ v. for_word v (λ y. word ((y + n) % 2 ^ 32))) h

  pub add_value : (a : Term) (x n : ℕ) → value g s t a ≡ word x → x < 2 ^ 32 → value g s t (added a n) ≡ word ((x + n) % 2 ^ 32)
  add_value a x n h l = add_by (literal a) a x n (lit a x h) h l

  one_by : (o : Option ℕ) (op : Unary) (a : Term) (x : ℕ) → Lit o x → value g s t a ≡ word x → value g s t (unary_by o op a) ≡ word (unary op x)
  one_by (Some w) op a x e h = ap (λ y. word (unary op y)) e
  one_by None op a x e h = ap (λ v. for_word v (λ y. word (unary op y))) h

  pub unary_value : (op : Unary) (a : Term) (x : ℕ) → value g s t a ≡ word x → value g s t (unary_of op a) ≡ word (unary op x)
  unary_value one.Mov a x h = h
  unary_value other a x h = one_by (literal a) other a x (lit a x h) h

  two_by : (o p : Option ℕ) (op : Binary) (a b : Term) (x y : ℕ) → Lit o x → Lit p y → value g s t a ≡ word x → value g s t b ≡ word y
      → value g s t (binary_by o p op a b) ≡ word (binary op x y)
  two_by (Some v) (Some w) op a b x y d e h k = ap (λ z. word (binary op z w)) d ∙ ap (λ z. word (binary op x z)) e
  two_by None p op a b x y d e h k = rw (h, k) refl
  two_by (Some v) None op a b x y d e h k = rw (h, k) refl

  pub binary_value : (op : Binary) (a b : Term) (x y : ℕ) → value g s t a ≡ word x → value g s t b ≡ word y → value g s t (binary_of op a b) ≡ word
      (binary op x y)
  binary_value op a b x y h k = two_by (literal a) (literal b) op a b x y (lit a x h) (lit b y k) h k

  three : (op : Ternary) (a b c : Term) (x y z : ℕ) → value g s t a ≡ word x → value g s t b ≡ word y → value g s t c ≡ word z
      → value g s t (term.Three op a b c) ≡ word (ternary op x y z)
  three op a b c x y z h k l = rw (h, k, l) refl

  three_by : (o p q : Option ℕ) (op : Ternary) (a b c : Term) (x y z : ℕ) → Lit o x → Lit p y → Lit q z → value g s t a ≡ word x
      → value g s t b ≡ word y → value g s t c ≡ word z
      → value g s t (ternary_by o p q op a b c) ≡ word (ternary op x y z)
  three_by (Some u) (Some v) (Some w) op a b c x y z d e f h k l =
      ap (λ n. word (ternary op n v w)) d ∙ (ap (λ n. word (ternary op x n w)) e ∙ ap (λ n. word (ternary op x y n)) f)
  three_by None p q op a b c x y z d e f h k l = three op a b c x y z h k l
  three_by (Some u) None q op a b c x y z d e f h k l = three op a b c x y z h k l
  three_by (Some u) (Some v) None op a b c x y z d e f h k l = three op a b c x y z h k l

  pub ternary_value : (op : Ternary) (a b c : Term) (x y z : ℕ) → value g s t a ≡ word x → value g s t b ≡ word y → value g s t c ≡ word z
      → value g s t (ternary_of op a b c) ≡ word (ternary op x y z)
  ternary_value op a b c x y z h k l = three_by (literal a) (literal b) (literal c) op a b c x y z (lit a x h) (lit b y k) (lit c z l) h k l

  four : (a b c d : Term) (x y z w : ℕ) → value g s t a ≡ word x → value g s t b ≡ word y → value g s t c ≡ word z → value g s t d ≡ word w
      → value g s t (term.Insert a b c d) ≡ word (inserted_field x y z w)
  four a b c d x y z w h k l m = rw (h, k, l, m) refl

  four_by : (o p q r : Option ℕ) (a b c d : Term) (x y z w : ℕ) → Lit o x → Lit p y → Lit q z → Lit r w → value g s t a ≡ word x
      → value g s t b ≡ word y → value g s t c ≡ word z → value g s t d ≡ word w
      → value g s t (insert_by o p q r a b c d) ≡ word (inserted_field x y z w)
  four_by (Some u) (Some v) (Some i) (Some j) a b c d x y z w e f m n h k l q =
      ap (λ n. word (inserted_field n v i j)) e ∙
      (ap (λ n. word (inserted_field x n i j)) f ∙ (ap (λ n. word (inserted_field x y n j)) m ∙ ap (λ n. word (inserted_field x y z n)) n))
  four_by None p q r a b c d x y z w e f m n h k l o = four a b c d x y z w h k l o
  four_by (Some u) None q r a b c d x y z w e f m n h k l o = four a b c d x y z w h k l o
  four_by (Some u) (Some v) None r a b c d x y z w e f m n h k l o = four a b c d x y z w h k l o
  four_by (Some u) (Some v) (Some i) None a b c d x y z w e f m n h k l o = four a b c d x y z w h k l o

  pub insert_value : (a b c d : Term) (x y z w : ℕ) → value g s t a ≡ word x → value g s t b ≡ word y → value g s t c ≡ word z
      → value g s t d ≡ word w → value g s t (insert_of a b c d) ≡ word (inserted_field x y z w)
  insert_value a b c d x y z w h k l m =
      four_by (literal a) (literal b) (literal c) (literal d) a b c d x y z w (lit a x h) (lit b y k) (lit c z l) (lit d w m) h k l m

  fst_by : (o p : Option ℕ) (op : Paired) (a b : Term) (x y : ℕ) → Lit o x → Lit p y → value g s t a ≡ word x → value g s t b ≡ word y
      → value g s t (first_by o p op a b) ≡ word (pair op x y).first
  fst_by (Some v) (Some w) op a b x y d e h k = ap (λ z. word (pair op z w).first) d ∙ ap (λ z. word (pair op x z).first) e
  fst_by None p op a b x y d e h k = rw (h, k) refl
  fst_by (Some v) None op a b x y d e h k = rw (h, k) refl

  pub first_value : (op : Paired) (a b : Term) (x y : ℕ) → value g s t a ≡ word x → value g s t b ≡ word y → value g s t (first_of op a b) ≡ word
      (pair op x y).first
  first_value op a b x y h k = fst_by (literal a) (literal b) op a b x y (lit a x h) (lit b y k) h k

  snd_by : (o p : Option ℕ) (op : Paired) (a b : Term) (x y : ℕ) → Lit o x → Lit p y → value g s t a ≡ word x → value g s t b ≡ word y
      → value g s t (second_by o p op a b) ≡ word (pair op x y).second
  snd_by (Some v) (Some w) op a b x y d e h k = ap (λ z. word (pair op z w).second) d ∙ ap (λ z. word (pair op x z).second) e
  snd_by None p op a b x y d e h k = rw (h, k) refl
  snd_by (Some v) None op a b x y d e h k = rw (h, k) refl

  pub second_value : (op : Paired) (a b : Term) (x y : ℕ) → value g s t a ≡ word x → value g s t b ≡ word y → value g s t (second_of op a b) ≡ word
      (pair op x y).second
  second_value op a b x y h k = snd_by (literal a) (literal b) op a b x y (lit a x h) (lit b y k) h k

  picked : (b : Bool) (y z : ℕ) → word (if not b then z else y) ≡ word (if b then y else z)
  picked true y z = refl
  picked false y z = refl

  chosen_value_by : (o : Option ℕ) (on a b : Term) (x y z : ℕ) → Lit o x → value g s t on ≡ word x → value g s t a ≡ word y → value g s t b ≡ word z
      → value g s t (chosen_by o on a b) ≡ word (if nat_eq x 0 then y else z)
  chosen_value_by (Some w) on a b x y z e h k l = literally (nat_eq w 0) ∙ ap (λ n. word (if nat_eq n 0 then y else z)) e
    where
      literally : (c : Bool) → value g s t (if c then a else b) ≡ word (if c then y else z)
      literally true = k
      literally false = l
  chosen_value_by None on a b x y z e h k l = rw (h, k, l) (picked (nat_eq x 0) y z)

  pub chosen_value : (on a b : Term) (x y z : ℕ) → value g s t on ≡ word x → value g s t a ≡ word y → value g s t b ≡ word z
      → value g s t (chosen on a b) ≡ word (if nat_eq x 0 then y else z)
  chosen_value on a b x y z h k l = chosen_value_by (literal on) on a b x y z (lit on x h) h k l
