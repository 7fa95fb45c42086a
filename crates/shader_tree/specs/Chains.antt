-- Chains: the statements that are still to be run, in order, with the ends of the loops and switches around them.
use Rattle.std.specs.Prelude.{ℕ, nat_eq, if◌then◌else◌, Bool, true, false, List, [], ◌∷◌, ◌++◌, Option, Some, None, unwrap_or}
use Rattle.shader_tree.specs.Terms.{Term}
use Rattle.shader_tree.specs.Terms as term

pub data Link : Type 0 where
  -- a statement that is run
  Run : (statement : Term) → Link
  -- the end of a loop's body, which is begun anew
  Again : (body : Term) → Link
  -- the end of a switch
  Out : Link

-- The statement in front of a chain: of two in one each stands by itself, and no statement is left out.
abbrev pub push : Term → List Link → List Link
push (term.Then a b) k = push a (push b k)
push term.Nothing k = k
push s k = Run s ∷ k

-- the statements of a statement, one after the other
abbrev pub flattened : Term → List Link
flattened (term.Then a b) = flattened a ++ flattened b
flattened term.Nothing = []
flattened s = Run s ∷ []

abbrev pub or_else : {X : Type 0} → Option X → Option X → Option X
or_else None o = o
or_else (Some x) o = Some x

-- WHERE A SWITCH BEGINS: the chain behind its first case with that value, or behind its first default (where `mark`
-- is none). Cases and defaults of a switch stand in its chain, and in what follows one of them.
abbrev pub is_case : Option ℕ → ℕ → Bool
is_case None value = false
is_case (Some w) value = nat_eq w value

abbrev pub is_default : Option ℕ → Bool
is_default None = true
is_default (Some w) = false

abbrev pub behind_mark : Option ℕ → Term → List Link → Option (List Link)
behind_mark mark (term.Case value next) k = if is_case mark value then Some (push next k) else behind_mark mark next k
behind_mark mark (term.Default next) k = if is_default mark then Some (push next k) else behind_mark mark next k
behind_mark mark (term.Then a b) k = or_else (behind_mark mark a (push b k)) (behind_mark mark b k)
behind_mark mark statement k = None

-- from the first case with the word, else from the default, else not at all
abbrev pub switched : ℕ → Term → List Link → List Link
switched w cases k = unwrap_or (or_else (behind_mark (Some w) cases (Out ∷ k)) (behind_mark None cases (Out ∷ k))) k

-- behind the innermost loop or switch, if there is one
abbrev pub left : List Link → Option (List Link)
left [] = None
left (Run s ∷ k) = left k
left (Again body ∷ k) = Some k
left (Out ∷ k) = Some k

-- at the end of the body of the innermost loop, if there is one
abbrev pub renewed : List Link → Option (List Link)
renewed [] = None
renewed (Run s ∷ k) = renewed k
renewed (Again body ∷ k) = Some (Again body ∷ k)
renewed (Out ∷ k) = renewed k
