-- Of words the values are words.
use Rattle.std.proofs.Common.{◌≡◌, ℕ, ◌*◌, ◌/◌, ◌%◌, ◌<◌, ◌^◌, Bool, true, false, IsTrue, Option, Some, None, refl, subst, arith}
use Rattle.std.specs.Prelude.{◌&&◌, nat_lt, nat_eq, not, if◌then◌else◌}
use Rattle.std.proofs.lemmas.Bool.{ltb-true}
use Rattle.std.proofs.Math.Nat.{div-le_self}
use Rattle.word_base.specs.Alu.{unary, binary, ternary, inserted_field, pair}
use Rattle.word_base.specs.declared.arithmetic.Unary.{Unary}
use Rattle.word_base.specs.declared.arithmetic.Binary.{Binary}
use Rattle.word_base.specs.declared.arithmetic.Ternary.{Ternary}
use Rattle.word_base.specs.declared.arithmetic.Paired.{Paired}
use Rattle.word_base.specs.declared.event.Ids.{Ids}
use Rattle.word_base.specs.Settings.{Setting, AreIds}
use Rattle.tpf_decode.specs.declared.argument.Kind.{Kind}
use Rattle.tpf_decode.specs.declared.argument.Kind.TheVariants as kind
use Rattle.shader_tree.specs.declared.node.Space.{Space}
use Rattle.shader_tree.specs.declared.node.Space.TheVariants as space
use Rattle.shader_tree.specs.Holding.{AreGiven, HoldWords, is_long, OfWords}
use Rattle.shader_tree.specs.Terms.{Term}
use Rattle.shader_tree.specs.Terms as term
use Rattle.shader_tree.specs.Values.{Spaces, Words, Value, IsWord, IsTruth, word, for_word, for_truth, provided, of_three, size_of, word_in, thread_word, value}
use Rattle.shader_tree.specs.Walks.{holds_no}
use Rattle.shader_tree.proofs.Truths.{split}

-- a value, if it is there and a word, is below 2 ^ 32
abbrev pub Short : Option Value → Type 0
Short None = Unit {0}
Short (Some (IsTruth b)) = Unit {0}
Short (Some (IsWord w)) = w < 2 ^ 32

for_word_short : (v : Option Value) (f : ℕ → Option Value) → Short v → ((w : ℕ) → w < 2 ^ 32 → Short (f w)) → Short (for_word v f)
for_word_short None f s h = tt
for_word_short (Some (IsTruth b)) f s h = tt
for_word_short (Some (IsWord w)) f s h = h w s

for_truth_short : (v : Option Value) (f : Bool → Option Value) → ((b : Bool) → Short (f b)) → Short (for_truth v f)
for_truth_short None f h = tt
for_truth_short (Some (IsTruth b)) f h = h b
for_truth_short (Some (IsWord w)) f h = tt

provided_short : (b : Bool) (v : Option Value) → Short v → Short (provided b v)
provided_short true v s = s
provided_short false v s = tt

either_short : (b : Bool) (x y : ℕ) → x < 2 ^ 32 → y < 2 ^ 32 → (if b then x else y) < 2 ^ 32
either_short true x y h k = h
either_short false x y h k = k

three_short : (x y z c : ℕ) → x < 2 ^ 32 → y < 2 ^ 32 → z < 2 ^ 32 → Short (of_three x y z c)
three_short x y z c hx hy hz =
    provided_short (nat_lt c 3) (word (if nat_eq c 0 then x else if nat_eq c 1 then y else z))
    (either_short (nat_eq c 0) x (if nat_eq c 1 then y else z) hx (either_short (nat_eq c 1) y z hy hz))

thread_short : (ids : Ids) (k : Kind) (c : ℕ) → AreIds ids → Short (thread_word ids k c)
thread_short ids kind.ThreadId c h = three_short ids.thread_x ids.thread_y ids.thread_z c h.thread_x h.thread_y h.thread_z
thread_short ids kind.GroupId c h = three_short ids.group_x ids.group_y ids.group_z c h.group_x h.group_y h.group_z
thread_short ids kind.IdInGroup c h = three_short ids.x ids.y ids.z c h.x h.y h.z
thread_short ids kind.FlatId c h = h.flat
thread_short ids other c h = tt

word_in_short : (g : Spaces) (s : Setting) (t : Words) (place : Space) (i : ℕ) → AreGiven g s → HoldWords t → word_in g s t.registers place i < 2 ^ 32
word_in_short g s t space.Temps i a h = h.temp (i / 4) (i % 4)
word_in_short g s t (space.Indexable slot) i a h = h.indexable slot (i / 4) (i % 4)
word_in_short g s t (space.Constant slot) i a h = a.setting.constants slot i
word_in_short g s t space.ImmediateConstant i a h = a.immediates i

literal_short : (w : ℕ) (b : Bool) → nat_lt w (2 ^ 32) ≡ b → IsTrue (not (not b)) → w < 2 ^ 32
literal_short w true e h = ltb-true w (2 ^ 32) e
literal_short w false e h = absurd (cc h)

-- what the arithmetic makes of words
pub record AreResults : Type 0 where
  pub unary' : (op : Unary) (a : ℕ) → a < 2 ^ 32 → unary op a < 2 ^ 32
  pub binary' : (op : Binary) (a b : ℕ) → a < 2 ^ 32 → b < 2 ^ 32 → binary op a b < 2 ^ 32
  pub ternary' : (op : Ternary) (a b c : ℕ) → a < 2 ^ 32 → b < 2 ^ 32 → c < 2 ^ 32 → ternary op a b c < 2 ^ 32
  pub insert' : (w o x y : ℕ) → y < 2 ^ 32 → inserted_field w o x y < 2 ^ 32
  pub first' : (op : Paired) (a b : ℕ) → a < 2 ^ 32 → b < 2 ^ 32 → (pair op a b).first < 2 ^ 32
  pub second' : (op : Paired) (a b : ℕ) → a < 2 ^ 32 → b < 2 ^ 32 → (pair op a b).second < 2 ^ 32

pub results_of : ((op : Unary) (a : ℕ) → a < 2 ^ 32 → unary op a < 2 ^ 32) → ((op : Binary) (a b : ℕ) → a < 2 ^ 32 → b < 2 ^ 32 → binary op a b < 2 ^ 32)
    → ((op : Ternary) (a b c : ℕ) → a < 2 ^ 32 → b < 2 ^ 32 → c < 2 ^ 32 → ternary op a b c < 2 ^ 32)
    → ((w o x y : ℕ) → y < 2 ^ 32 → inserted_field w o x y < 2 ^ 32) → ((op : Paired) (a b : ℕ) → a < 2 ^ 32 → b < 2 ^ 32 → (pair op a b).first < 2 ^ 32)
    → ((op : Paired) (a b : ℕ) → a < 2 ^ 32 → b < 2 ^ 32 → (pair op a b).second < 2 ^ 32) → AreResults
results_of u b t i f s = record { unary' = u; binary' = b; ternary' = t; insert' = i; first' = f; second' = s }

quotient_short : (x by : ℕ) → x < 2 ^ 32 → x / by < 2 ^ 32
quotient_short x by h = omega (arith, div-le_self x by, h)

product_short : (x by : ℕ) → x * by % 2 ^ 32 < 2 ^ 32
product_short x by = omega arith

module _ (results : AreResults) (g : Spaces) (s : Setting) (t : Words) (given : AreGiven g s) (holds : HoldWords t) where
  abbrev v : Term → Option Value
  v e = value g s t e

  abbrev Fits : Term → Type 0
  Fits e = Short (v e)

  -- two words, and then a third, where those before it are short
  with_two : (x y : Option Value) (f : ℕ → ℕ → Option Value) → Short x → Short y → ((p q : ℕ) → p < 2 ^ 32 → q < 2 ^ 32 → Short (f p q))
      → Short (for_word x (λ p. for_word y (λ q. f p q)))
  with_two x y f hx hy k = for_word_short x _ hx (λ p hp. for_word_short y _ hy (λ q hq. k p q hp hq))

  pub value_short : (e : Term) → OfWords e → Fits e
  value_short (term.Word w) o = literal_short w (nat_lt w (2 ^ 32)) refl o
  value_short (term.Scratch n) o = holds.scratch n
  value_short (term.Thread k c) o = thread_short s.ids k c given.setting.ids
  value_short (term.Read place at) o =
      for_word_short (v at) _ (value_short at o) (λ i lt. provided_short (nat_lt i (size_of g place)) _ (word_in_short g s t place i given holds))
  value_short (term.Length room) o = given.setting.extent room
  value_short (term.One op x) o = for_word_short (v x) _ (value_short x o) (λ p hp. results.unary' op p hp)
  value_short (term.Two op x y) o =
      let k = split (holds_no is_long x) (holds_no is_long y) o in
      with_two (v x) (v y) _ (value_short x k.0) (value_short y k.1) (λ p q hp hq. results.binary' op p q hp hq)
  value_short (term.Three op x y z) o =
      let k = split (holds_no is_long x) (holds_no is_long y && holds_no is_long z) o in
      let l = split (holds_no is_long y) (holds_no is_long z) k.1 in
      with_two (v x) (v y) _ (value_short x k.0) (value_short y l.0)
      (λ p q hp hq. for_word_short (v z) _ (value_short z l.1) (λ r hr. results.ternary' op p q r hp hq hr))
  value_short (term.Insert w o' x y) o =
      let k = split (holds_no is_long w) (holds_no is_long o' && (holds_no is_long x && holds_no is_long y)) o in
      let l = split (holds_no is_long o') (holds_no is_long x && holds_no is_long y) k.1 in
      let m = split (holds_no is_long x) (holds_no is_long y) l.1 in
      with_two (v w) (v o') _ (value_short w k.0) (value_short o' l.0)
      (λ p q hp hq. with_two (v x) (v y) _ (value_short x m.0) (value_short y m.1) (λ i b hi hb. results.insert' p q i b hb))
  value_short (term.First op x y) o =
      let k = split (holds_no is_long x) (holds_no is_long y) o in
      with_two (v x) (v y) _ (value_short x k.0) (value_short y k.1) (λ p q hp hq. results.first' op p q hp hq)
  value_short (term.Second op x y) o =
      let k = split (holds_no is_long x) (holds_no is_long y) o in
      with_two (v x) (v y) _ (value_short x k.0) (value_short y k.1) (λ p q hp hq. results.second' op p q hp hq)
  value_short (term.Quotient x by) o =
      for_word_short (v x) _ (value_short x o) (λ p hp. provided_short (nat_lt 0 by) (word (p / by)) (quotient_short p by hp))
  value_short (term.Product x by) o = for_word_short (v x) _ (value_short x o) (λ p hp. product_short p by)
  value_short (term.Pick b x y) o =
      let k = split (holds_no is_long b) (holds_no is_long x && holds_no is_long y) o in
      let l = split (holds_no is_long x) (holds_no is_long y) k.1 in
      for_truth_short (v b) _ (λ c. with_two (v x) (v y) _ (value_short x l.0) (value_short y l.1) (λ p q hp hq. either_short c p q hp hq))
  value_short (term.Compare how x y) o =
      let k = split (holds_no is_long x) (holds_no is_long y) o in
      with_two (v x) (v y) _ (value_short x k.0) (value_short y k.1) (λ p q hp hq. tt)
  value_short (term.Both x y) o = for_truth_short (v x) _ (λ p. for_truth_short (v y) _ (λ q. tt))
  value_short statement o = tt

  pub value_word : (e : Term) (w : ℕ) → OfWords e → value g s t e ≡ word w → w < 2 ^ 32
  value_word e w o is = subst Short is (value_short e o)
