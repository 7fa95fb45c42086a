-- What an expression reads: lanes in which that is the same, whatever else they have.
use Rattle.std.specs.Prelude.{◌≡◌, ℕ, List}
use Rattle.word_base.specs.declared.event.Room.{Room}
use Rattle.word_base.specs.Settings.{Setting}
use Rattle.tpf_decode.specs.declared.argument.Kind.{Kind}
use Rattle.shader_tree.specs.declared.node.Space.{Space}
use Rattle.shader_tree.specs.Terms.{Term}
use Rattle.shader_tree.specs.Values.{Spaces, Words, size_of, word_in, thread_word}
use Rattle.shader_tree.specs.Walks.{Each, scratch_in, spaces_in, threads_in, rooms_in}

-- What a lane reads from: its spaces, its setting and its words.
pub record Sight : Type 0 where
  pub spaces : Spaces
  pub setting : Setting
  pub words : Words

abbrev pub word_of : Sight → Space → ℕ → ℕ
word_of a space i = word_in a.spaces a.setting a.words.registers space i

-- a space with the same words, as many of them
pub record SameSpace (a b : Sight) (space : Space) : Type 0 where
  pub size : size_of a.spaces space ≡ size_of b.spaces space
  pub word : (i : ℕ) → word_of a space i ≡ word_of b space i

-- These scratch words, spaces, thread ids and lengths of rooms are the same.
pub record SameOf (a b : Sight) (numbers : List ℕ) (places : List Space) (kinds : List Kind) (views : List Room)
    : Type 0 where
  pub scratch : Each (λ n. a.words.scratch n ≡ b.words.scratch n) numbers
  pub spaces : Each (SameSpace a b) places
  pub threads : Each (λ kind. (c : ℕ) → thread_word a.setting.ids kind c ≡ thread_word b.setting.ids kind c) kinds
  pub rooms : Each (λ room. a.setting.extent room ≡ b.setting.extent room) views

-- those that a term names
abbrev pub SameFor : Sight → Sight → Term → Type 0
SameFor a b t = SameOf a b (scratch_in t) (spaces_in t) (threads_in t) (rooms_in t)
