-- The shape of a statement: its loops, its switches and the statements that make events, in order, with what they are
-- in. Items between the opening of a loop or switch and its close are inside it.
use Rattle.std.specs.Prelude.{ℕ, if◌then◌else◌, List, [], ◌∷◌, ◌++◌}
use Rattle.word_base.specs.declared.event.Act.{Act}
use Rattle.word_base.specs.declared.event.Room.{Room}
use Rattle.shader_tree.specs.Terms.{Term}
use Rattle.shader_tree.specs.Terms as term

pub data Item : Type 0 where
  OpensLoop : Item
  OpensSwitch : (cases : List ℕ) → Item
  ClosesIt : Item
  Loads : (room : Room) → Item
  Stores : (room : Room) → Item
  Changes : (room : Room) (kind : Act) → Item
  Fences : Item
  Waits : Item

-- the values of the cases that stand directly in a switch
abbrev pub cases_in : Term → List ℕ
cases_in (term.Case v next) = v ∷ cases_in next
cases_in (term.Default next) = cases_in next
cases_in (term.Then a b) = cases_in a ++ cases_in b
cases_in other = []

abbrev pub shape : Term → List Item
shape (term.Load n room at) = Loads room ∷ []
shape (term.Store room at v) = Stores room ∷ []
shape (term.Atomic n room at kind a b) = Changes room kind ∷ []
shape (term.Sync threads scope classes) = (if threads then Waits else Fences) ∷ []
shape (term.Guard b body) = shape body
shape (term.If b a c) = shape a ++ shape c
shape (term.Loop body) = OpensLoop ∷ (shape body ++ ClosesIt ∷ [])
shape (term.Switch on cases) = OpensSwitch (cases_in cases) ∷ (shape cases ++ ClosesIt ∷ [])
shape (term.Case v next) = shape next
shape (term.Default next) = shape next
shape (term.Then a b) = shape a ++ shape b
shape other = []
