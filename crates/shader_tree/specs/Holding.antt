-- What a lane holds are words, numbers below 2 ^ 32.
use Rattle.std.specs.Prelude.{ℕ, ◌<◌, ◌^◌, nat_lt, not, Bool, false, IsTrue, List, [], ◌∷◌}
use Rattle.word_base.specs.Lanes.{Turn, Silent, Asks}
use Rattle.word_base.specs.Settings.{Setting, HoldsWords}
use Rattle.word_base.specs.Words.{AreWords}
use Rattle.shader_tree.specs.Chains.{Link, Run, Again, Out}
use Rattle.shader_tree.specs.Lane.{State}
use Rattle.shader_tree.specs.Terms.{Term}
use Rattle.shader_tree.specs.Terms as term
use Rattle.shader_tree.specs.Values.{Spaces, Words}
use Rattle.shader_tree.specs.Walks.{holds_no}

-- what the lane is given
pub record AreGiven (g : Spaces) (s : Setting) : Type 0 where
  pub immediates : AreWords g.immediates
  pub setting : HoldsWords s

-- what it changes
pub record HoldWords (t : Words) : Type 0 where
  pub scratch : (n : ℕ) → t.scratch n < 2 ^ 32
  pub temp : (slot c : ℕ) → t.registers.temp slot c < 2 ^ 32
  pub indexable : (slot element c : ℕ) → t.registers.indexable slot element c < 2 ^ 32

-- the literals of a term are words
abbrev pub is_long : Term → Bool
is_long (term.Word w) = not (nat_lt w (2 ^ 32))
is_long other = false

abbrev pub OfWords : Term → Type 0
OfWords t = IsTrue (holds_no is_long t)

abbrev pub LinksOfWords : List Link → Type 0
LinksOfWords [] = Unit {0}
LinksOfWords (Run s ∷ k) = OfWords s × LinksOfWords k
LinksOfWords (Again body ∷ k) = OfWords body × LinksOfWords k
LinksOfWords (Out ∷ k) = LinksOfWords k

-- a state holds words, and the literals of what is still to be run are words
pub record IsOfWords (x : State) : Type 0 where
  pub chain : LinksOfWords x.chain
  pub words : HoldWords x.words

-- the state behind a step, and behind each answer to an event, is one of words again
abbrev pub Keeps : Turn State → Type 0
Keeps (Silent to) = IsOfWords to
Keeps (Asks e after) = (answer : ℕ) → answer < 2 ^ 32 → IsOfWords (after answer)
Keeps other = Unit {0}
