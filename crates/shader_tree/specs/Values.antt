-- The values of expressions, by the words that the lane has and the setting that it is given. The arithmetic is that
-- of the instructions.
use Rattle.std.specs.Prelude.{ℕ, ◌*◌, ◌/◌, ◌%◌, ◌^◌, nat_eq, nat_lt, nat_le, not, if◌then◌else◌, Bool, ◌&&◌, List, length, Option, Some, None, slice_index}
use Rattle.word_base.specs.Alu.{lifted, unary, binary, ternary, inserted_field, pair}
use Rattle.word_base.specs.declared.event.Ids.{Ids}
use Rattle.word_base.specs.Registers.{Registers}
use Rattle.word_base.specs.Settings.{Setting}
use Rattle.tpf_decode.specs.declared.argument.Kind.{Kind}
use Rattle.tpf_decode.specs.declared.argument.Kind.TheVariants as kind
use Rattle.shader_tree.specs.declared.node.Comparison.{Comparison}
use Rattle.shader_tree.specs.declared.node.Comparison.TheVariants as compared
use Rattle.shader_tree.specs.declared.node.Space.{Space}
use Rattle.shader_tree.specs.declared.node.Space.TheVariants as space
use Rattle.shader_tree.specs.Terms.{Term}
use Rattle.shader_tree.specs.Terms as term

-- What a lane is given beside its setting: how many registers r#, elements of each x# and vectors of each cb# are
-- declared, and the words of the immediate constant buffer. Where a tree is a program's, they are the program's.
pub record Spaces : Type 0 where
  pub temps : ℕ
  pub elements : ℕ → ℕ
  pub vectors : ℕ → ℕ
  pub immediates : List ℕ

-- The words that a lane changes: its scratch words by their numbers, and its registers.
pub record Words : Type 0 where
  pub scratch : ℕ → ℕ
  pub registers : Registers

abbrev pub words : (ℕ → ℕ) → Registers → Words
words scratch registers = record { scratch = scratch; registers = registers }

-- how many words a space has
abbrev pub size_of : Spaces → Space → ℕ
size_of g space.Temps = 4 * g.temps
size_of g (space.Indexable slot) = 4 * g.elements slot
size_of g (space.Constant slot) = 4 * g.vectors slot
size_of g space.ImmediateConstant = length g.immediates

-- The word of a space at an index: of registers four words each. A constant buffer has the words of the setting, and
-- 0 past them.
abbrev pub word_in : Spaces → Setting → Registers → Space → ℕ → ℕ
word_in g setting r space.Temps i = r.temp (i / 4) (i % 4)
word_in g setting r (space.Indexable slot) i = r.indexable slot (i / 4) (i % 4)
word_in g setting r (space.Constant slot) i = slice_index (setting.constants slot) i
word_in g setting r space.ImmediateConstant i = slice_index g.immediates i

-- A value is a word or a truth.
pub data Value : Type 0 where
  IsWord : (w : ℕ) → Value
  IsTruth : (b : Bool) → Value

abbrev pub word : ℕ → Option Value
word w = Some (IsWord w)

abbrev pub truth : Bool → Option Value
truth b = Some (IsTruth b)

abbrev pub for_word : {X : Type 0} → Option Value → (ℕ → Option X) → Option X
for_word (Some (IsWord w)) f = f w
for_word other f = None

abbrev pub for_truth : {X : Type 0} → Option Value → (Bool → Option X) → Option X
for_truth (Some (IsTruth b)) f = f b
for_truth other f = None

-- a number that has to be below another, or a divisor that has to be above 0
abbrev pub provided : Bool → Option Value → Option Value
provided b v = if b then v else None

-- a component of three numbers
abbrev pub of_three : ℕ → ℕ → ℕ → ℕ → Option Value
of_three x y z c = provided (nat_lt c 3) (word (if nat_eq c 0 then x else if nat_eq c 1 then y else z))

abbrev pub thread_word : Ids → Kind → ℕ → Option Value
thread_word ids kind.ThreadId c = of_three ids.thread_x ids.thread_y ids.thread_z c
thread_word ids kind.GroupId c = of_three ids.group_x ids.group_y ids.group_z c
thread_word ids kind.IdInGroup c = of_three ids.x ids.y ids.z c
thread_word ids kind.FlatId c = word ids.flat
thread_word ids other c = None

abbrev pub compares : Comparison → ℕ → ℕ → Bool
compares compared.Equal a b = nat_eq a b
compares compared.Unequal a b = not (nat_eq a b)
compares compared.ULess a b = nat_lt a b
compares compared.SLess a b = nat_lt (lifted a) (lifted b)
compares compared.UAtLeast a b = nat_le b a
compares compared.SAtLeast a b = nat_le (lifted b) (lifted a)

-- two words, and three
abbrev pub for_two : Option Value → Option Value → (ℕ → ℕ → Option Value) → Option Value
for_two a b f = for_word a (λ x. for_word b (λ y. f x y))

abbrev pub for_three : Option Value → Option Value → Option Value → (ℕ → ℕ → ℕ → Option Value) → Option Value
for_three a b c f = for_word a (λ x. for_two b c (λ y z. f x y z))

-- THE VALUE OF AN EXPRESSION, by the lane's spaces, its setting and its words. Every part must have a value: there is
-- none past the end of a space, by a divisor 0, of an operand that is a truth where it has to be a word or the other
-- way round, and of a statement.
module _ (g : Spaces) (s : Setting) (t : Words) where
  -- the word of a space at an index inside it
  abbrev pub word_at : Space → ℕ → Option Value
  word_at space i = provided (nat_lt i (size_of g space)) (word (word_in g s t.registers space i))

  abbrev pub value : Term → Option Value
  value (term.Word w) = word w
  value (term.Scratch n) = word (t.scratch n)
  value (term.Thread kind c) = thread_word s.ids kind c
  value (term.Read space at) = for_word (value at) (λ i. word_at space i)
  value (term.Length room) = word (s.extent room)
  value (term.One op a) = for_word (value a) (λ x. word (unary op x))
  value (term.Two op a b) = for_two (value a) (value b) (λ x y. word (binary op x y))
  value (term.Three op a b c) = for_three (value a) (value b) (value c) (λ x y z. word (ternary op x y z))
  value (term.Insert width offset inserted base) =
      for_two (value width) (value offset) (λ w o.
      for_two (value inserted) (value base) (λ x y. word (inserted_field w o x y)))
  value (term.First op a b) = for_two (value a) (value b) (λ x y. word (pair op x y).first)
  value (term.Second op a b) = for_two (value a) (value b) (λ x y. word (pair op x y).second)
  value (term.Quotient a by) = for_word (value a) (λ x. provided (nat_lt 0 by) (word (x / by)))
  value (term.Product a by) = for_word (value a) (λ x. word (x * by % 2 ^ 32))
  value (term.Pick b a c) = for_truth (value b) (λ p. for_two (value a) (value c) (λ x y. word (if p then x else y)))
  value (term.Compare how a b) = for_two (value a) (value b) (λ x y. truth (compares how x y))
  value (term.Both a b) = for_truth (value a) (λ p. for_truth (value b) (λ q. truth (p && q)))
  value statement = None
