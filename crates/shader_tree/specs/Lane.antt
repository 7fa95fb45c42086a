-- The lane of a tree: it runs statements one after the other, on its scratch words and its registers.
use Rattle.std.specs.Prelude.{ℕ, ◌+◌, ◌/◌, ◌%◌, nat_eq, nat_lt, if◌then◌else◌, Bool, ◌&&◌, List, [], ◌∷◌, Option, Some, None}
use Rattle.word_base.specs.declared.event.Act.{Act}
use Rattle.word_base.specs.declared.event.Act.TheVariants.{CompareExchange}
use Rattle.word_base.specs.declared.event.Classes.{Classes}
use Rattle.word_base.specs.declared.event.Event.{Event}
use Rattle.word_base.specs.declared.event.Event.TheVariants as event
use Rattle.word_base.specs.declared.event.Scope.{Scope}
use Rattle.word_base.specs.Lanes.{Turn, Silent, Asks, Ends, Wrong}
use Rattle.word_base.specs.Registers.{Registers, zeros}
use Rattle.word_base.specs.Settings.{Setting}
use Rattle.shader_tree.specs.declared.node.Space.{Space}
use Rattle.shader_tree.specs.declared.node.Space.TheVariants as space
use Rattle.shader_tree.specs.Chains.{Link, Run, Again, Out, push, switched, left, renewed}
use Rattle.shader_tree.specs.Terms.{Term}
use Rattle.shader_tree.specs.Terms as term
use Rattle.shader_tree.specs.Values.{Spaces, Words, words, Value, IsWord, IsTruth, size_of, value}

-- The chain that is still to be run, the words, and how often a loop was begun anew.
pub record State : Type 0 where
  pub chain : List Link
  pub words : Words
  pub turns : ℕ

abbrev pub state : List Link → Words → ℕ → State
state chain words turns = record { chain = chain; words = words; turns = turns }

-- all words are 0 at the start
abbrev pub start : Term → State
start root = state (push root []) (words (λ n. 0) zeros) 0

abbrev pub with_scratch : Words → ℕ → ℕ → Words
with_scratch t n w = words (λ k. if nat_eq k n then w else t.scratch k) t.registers

-- the registers with one word of a space changed; constants are not written
abbrev pub with_word : Registers → Space → ℕ → ℕ → Option Registers
with_word r space.Temps i w = Some (record {
  temp = λ slot c. if nat_eq slot (i / 4) && nat_eq c (i % 4) then w else r.temp slot c;
  indexable = r.indexable;
})
with_word r (space.Indexable slot) i w = Some (record {
  temp = r.temp;
  indexable = λ x e c. if nat_eq x slot && (nat_eq e (i / 4) && nat_eq c (i % 4)) then w else r.indexable x e c;
})
with_word r constants i w = None

-- Where a part has no value, a word is not inside its space or room, or a break or continue has no construct around
-- it, the lane is wrong. A tree has no places, and no strict rules are numbered for it: the lane is wrong at 0 by 0.
abbrev pub wrong : Turn State
wrong = Wrong 0 0

abbrev pub on_word : Option Value → (ℕ → Turn State) → Turn State
on_word (Some (IsWord w)) f = f w
on_word other f = wrong

abbrev pub on_truth : Option Value → (Bool → Turn State) → Turn State
on_truth (Some (IsTruth b)) f = f b
on_truth other f = wrong

abbrev pub on_some : {X : Type 0} → Option X → (X → Turn State) → Turn State
on_some None f = wrong
on_some (Some x) f = f x

abbrev pub within : ℕ → ℕ → Turn State → Turn State
within i size turn = if nat_lt i size then turn else wrong

-- an atomic has two operands where it compares, and else one
abbrev pub second_operand : Act → ℕ → ℕ
second_operand CompareExchange b = b
second_operand other b = 0

abbrev pub sync : Bool → Scope → Classes → Event
sync threads scope classes = if threads then event.Barrier scope classes else event.Fence scope classes

-- ONE STATEMENT, in front of the chain k. Two statements in one, and no statement, have no step of their own: a chain
-- never holds them.
module _ (g : Spaces) (s : Setting) (k : List Link) (t : Words) (turns : ℕ) where
  abbrev pub of : Term → Option Value
  of e = value g s t e

  -- on with other words, on with another chain
  abbrev pub onward : Words → State
  onward u = state k u turns

  abbrev pub along : List Link → Turn State
  along chain = Silent (state chain t turns)

  abbrev pub run : Term → Turn State
  run (term.Set n v) = on_word (of v) (λ w. Silent (onward (with_scratch t n w)))
  run (term.Write space at v) =
      on_word (of at) (λ i. on_word (of v) (λ w. within i (size_of g space)
      (on_some (with_word t.registers space i w) (λ r. Silent (onward (words t.scratch r))))))
  run (term.Load n room at) =
      on_word (of at) (λ i. within i (s.extent room)
      (Asks (event.Load room i) (λ answer. onward (with_scratch t n answer))))
  run (term.Store room at v) =
      on_word (of at) (λ i. on_word (of v) (λ w. within i (s.extent room)
      (Asks (event.Store room i w) (λ answer. onward t))))
  run (term.Atomic n room at kind a b) =
      on_word (of at) (λ i. on_word (of a) (λ x. on_word (of b) (λ y. within i (s.extent room)
      (Asks (event.Atomic room i kind x (second_operand kind y)) (λ answer. onward (with_scratch t n answer))))))
  run (term.Sync threads scope classes) = Asks (sync threads scope classes) (λ answer. onward t)
  run (term.Guard b body) = on_truth (of b) (λ holds. along (if holds then push body k else k))
  run (term.If b a c) = on_truth (of b) (λ holds. along (if holds then push a k else push c k))
  run (term.Loop body) = along (push body (Again body ∷ k))
  run (term.Switch on cases) = on_word (of on) (λ w. along (switched w cases k))
  run (term.Case v next) = along (push next k)
  run (term.Default next) = along (push next k)
  run term.Break = on_some (left k) along
  run term.Continue = on_some (renewed k) along
  run term.Return = Ends
  run (term.Then a b) = along (push a (push b k))
  run term.Nothing = along k
  run expression = wrong

-- The end of a loop's body begins it anew, and that is counted. The end of a switch passes on.
abbrev pub turn : Spaces → Setting → List Link → Words → ℕ → Turn State
turn g s [] t turns = Ends
turn g s (Run statement ∷ k) t turns = run g s k t turns statement
turn g s (Again body ∷ k) t turns = Silent (state (push body (Again body ∷ k)) t (turns + 1))
turn g s (Out ∷ k) t turns = Silent (state k t turns)

-- One step. A state with no statement left is the end.
abbrev pub step : Spaces → Setting → State → Turn State
step g s x = turn g s x.chain x.words x.turns
