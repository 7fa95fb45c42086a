-- The walk over a term: the term, and then the terms of its parts in order, each as often as the walk meets it. What
-- a statement holds, and what it names, are gathered on the walk.
use Rattle.std.specs.Prelude.{ℕ, Bool, true, false, not, ◌&&◌, List, [], ◌∷◌, ◌++◌}
use Rattle.word_base.specs.declared.event.Room.{Room}
use Rattle.tpf_decode.specs.declared.argument.Kind.{Kind}
use Rattle.shader_tree.specs.declared.node.Space.{Space}
use Rattle.shader_tree.specs.Terms.{Term}
use Rattle.shader_tree.specs.Terms as term
pub use Rattle.word_base.specs.Lists.{Each}

-- what f says of each term that the walk meets, joined in the order of the walk
module _ {X : Type 0} (join : X → X → X) (f : Term → X) where
  abbrev pub folded : Term → X
  folded (term.Read space a) = join (f (term.Read space a)) (folded a)
  folded (term.One op a) = join (f (term.One op a)) (folded a)
  folded (term.Two op a b) = join (f (term.Two op a b)) (join (folded a) (folded b))
  folded (term.Three op a b c) = join (f (term.Three op a b c)) (join (folded a) (join (folded b) (folded c)))
  folded (term.Insert a b c d) =
      join (f (term.Insert a b c d)) (join (folded a) (join (folded b) (join (folded c) (folded d))))
  folded (term.First op a b) = join (f (term.First op a b)) (join (folded a) (folded b))
  folded (term.Second op a b) = join (f (term.Second op a b)) (join (folded a) (folded b))
  folded (term.Quotient a by) = join (f (term.Quotient a by)) (folded a)
  folded (term.Product a by) = join (f (term.Product a by)) (folded a)
  folded (term.Pick a b c) = join (f (term.Pick a b c)) (join (folded a) (join (folded b) (folded c)))
  folded (term.Compare how a b) = join (f (term.Compare how a b)) (join (folded a) (folded b))
  folded (term.Both a b) = join (f (term.Both a b)) (join (folded a) (folded b))
  folded (term.Set n a) = join (f (term.Set n a)) (folded a)
  folded (term.Write space a b) = join (f (term.Write space a b)) (join (folded a) (folded b))
  folded (term.Load n room a) = join (f (term.Load n room a)) (folded a)
  folded (term.Store room a b) = join (f (term.Store room a b)) (join (folded a) (folded b))
  folded (term.Atomic n room a kind b c) =
      join (f (term.Atomic n room a kind b c)) (join (folded a) (join (folded b) (folded c)))
  folded (term.Guard a b) = join (f (term.Guard a b)) (join (folded a) (folded b))
  folded (term.If a b c) = join (f (term.If a b c)) (join (folded a) (join (folded b) (folded c)))
  folded (term.Loop a) = join (f (term.Loop a)) (folded a)
  folded (term.Switch a b) = join (f (term.Switch a b)) (join (folded a) (folded b))
  folded (term.Case v a) = join (f (term.Case v a)) (folded a)
  folded (term.Default a) = join (f (term.Default a)) (folded a)
  folded (term.Then a b) = join (f (term.Then a b)) (join (folded a) (folded b))
  folded leaf = f leaf

abbrev pub gathered : {X : Type 0} → (Term → List X) → Term → List X
gathered f t = folded (λ xs ys. xs ++ ys) f t

-- no term that the walk meets passes the test
abbrev pub holds_no : (Term → Bool) → Term → Bool
holds_no test t = folded (λ a b. a && b) (λ x. not (test x)) t

-- WHAT A TERM NAMES: scratch words that are read, thread ids, the spaces that are read or written, those that are
-- written, the rooms, and those that are changed.
abbrev pub scratch_at : Term → List ℕ
scratch_at (term.Scratch n) = n ∷ []
scratch_at other = []

abbrev pub scratch_in : Term → List ℕ
scratch_in t = gathered scratch_at t

abbrev pub threads_at : Term → List Kind
threads_at (term.Thread kind c) = kind ∷ []
threads_at other = []

abbrev pub threads_in : Term → List Kind
threads_in t = gathered threads_at t

abbrev pub spaces_at : Term → List Space
spaces_at (term.Read space a) = space ∷ []
spaces_at (term.Write space a b) = space ∷ []
spaces_at other = []

abbrev pub spaces_in : Term → List Space
spaces_in t = gathered spaces_at t

abbrev pub written_at : Term → List Space
written_at (term.Write space a b) = space ∷ []
written_at other = []

abbrev pub written_in : Term → List Space
written_in t = gathered written_at t

abbrev pub rooms_at : Term → List Room
rooms_at (term.Length room) = room ∷ []
rooms_at (term.Load n room a) = room ∷ []
rooms_at (term.Store room a b) = room ∷ []
rooms_at (term.Atomic n room a kind b c) = room ∷ []
rooms_at other = []

abbrev pub rooms_in : Term → List Room
rooms_in t = gathered rooms_at t

abbrev pub changed_at : Term → List Room
changed_at (term.Store room a b) = room ∷ []
changed_at (term.Atomic n room a kind b c) = room ∷ []
changed_at other = []

abbrev pub changed_in : Term → List Room
changed_in t = gathered changed_at t

-- WHAT A STATEMENT HOLDS: one that makes an event, and one of control flow but selections.
abbrev pub is_event : Term → Bool
is_event (term.Load n room a) = true
is_event (term.Store room a b) = true
is_event (term.Atomic n room a kind b c) = true
is_event (term.Sync threads scope classes) = true
is_event other = false

abbrev pub is_flow : Term → Bool
is_flow (term.Loop body) = true
is_flow (term.Switch on cases) = true
is_flow (term.Case v next) = true
is_flow (term.Default next) = true
is_flow term.Break = true
is_flow term.Continue = true
is_flow term.Return = true
is_flow other = false
