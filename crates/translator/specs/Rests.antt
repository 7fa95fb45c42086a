-- What a workspace is once the view of its module is gone.
use Rattle.std.specs.Prelude.{⊤}
use Rattle.std.specs.Borrow.{follows_so, MutBor, Fml}
use mathlib.Core.Option.{none}
use Rattle.translator.specs.contracts.workspace.Workspace.{the_row}
use Rattle.translator.specs.Held.{Held}

abbrev pub RestsAt : MutBor Held → (Held → Type 0) → Fml
RestsAt s P = follows_so the_row the_row s.ghost_name none (λ _ _. ⊤) P
