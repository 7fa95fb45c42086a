-- What the walk back over the instructions keeps, while the tree grows, and what it asks of an instruction.
use Rattle.std.specs.Prelude.{◌≡◌, ℕ, ◌+◌, ◌-◌, ◌*◌, ◌≤◌, ◌||◌, Bool, true, false, is_some, List}
use Rattle.std.specs.Prelude.{[], ◌∷◌, length, map, reverse, take, drop, Option, Some, None, option_map, slice_get}
use Rattle.word_base.specs.declared.event.Room.{Room}
use Rattle.tpf_decode.specs.Profiles.{Base}
use Rattle.tpf_decode.specs.Opcodes.{meaning_of}
use Rattle.tpf_decode.specs.declared.meaning.Meaning.{Meaning}
use Rattle.tpf_decode.specs.declared.meaning.Meaning.TheVariants as meaning
use Rattle.tpf_program.specs.declared.instruction.Instruction.{Instruction}
use Rattle.tpf_program.specs.Program.{Shader}
use Rattle.shader_tree.specs.declared.node.Node.{Node}
use Rattle.shader_tree.specs.Nodes.{AStatement}
use Rattle.shader_tree.specs.Terms.{Term, term_at}
use Rattle.shader_tree.specs.Trees.{Grown}
use Rattle.raise_operands.specs.Building.{Grows, IsNode}
use Rattle.raise_operands.specs.Raises.{IsRaisable, IsScalar}
use Rattle.raise_views.specs.Guarding.{is_guarded}
use Rattle.raise_views.specs.Guards.{IsGuardable}
use Rattle.raise_program.specs.declared.walk.Construct.{Construct}
use Rattle.raise_program.specs.declared.walk.Walk.{Walk}
use Rattle.raise_program.specs.declared.parts.Numbered.{Numbered}
use Rattle.raise_program.specs.Advances.{leads_away}
use Rattle.raise_program.specs.Parts.{parts_of}
use Rattle.raise_program.specs.Raised.{goes_on}
use Rattle.raise_program.specs.TreeOf.{lengths}
use Rattle.raise_program.specs.Walked.{Around, Rest, end_of_all, walked}

-- A statement that may be none, by its id.
abbrev pub IsOther : List Node → Option ℕ → Option Term → Type 0
IsOther nodes None None = Unit {0}
IsOther nodes (Some id) (Some t) = IsNode nodes AStatement id t
IsOther nodes id t = ⊥

-- THE IDS THAT ARE KEPT stand for the statements of the walk.
pub record IsAround (nodes : List Node) (c : Construct) (a : Around) : Type 0 where
  pub behind : IsNode nodes AStatement c.behind a.behind
  pub other : IsOther nodes c.other a.other

abbrev pub AreAround : List Node → List Construct → List Around → Type 0
AreAround nodes [] [] = Unit {0}
AreAround nodes (c ∷ constructs) (a ∷ around) = IsAround nodes c a × AreAround nodes constructs around
AreAround nodes constructs around = ⊥

-- the constructs, the innermost first
abbrev pub stack : Walk → List Construct
stack walk = reverse walk.around.items

pub record IsWalk (nodes : List Node) (walk : Walk) (rest : Rest) : Type 0 where
  pub here : IsNode nodes AStatement walk.here rest.here
  pub around : AreAround nodes (stack walk) rest.around

-- what they stand for
abbrev pub around_at : List Node → Construct → Around
around_at nodes c = record { behind = term_at nodes c.behind; other = option_map (term_at nodes) c.other }

abbrev pub rest_at : List Node → Walk → Rest
rest_at nodes walk = record { here = term_at nodes walk.here; around = map (around_at nodes) (stack walk) }

-- AN INSTRUCTION THAT IS RAISED: the profile has it, it is raisable by its meaning, and it is as long as its opcode
-- token, and where it reads a scalar as the tokens of both.
abbrev pub is_single : Option Meaning → Bool
is_single m = leads_away m || goes_on m

abbrev pub least_length : Option Meaning → ℕ
least_length (Some meaning.If) = 2
least_length (Some meaning.Switch) = 2
least_length (Some meaning.BreakIf) = 2
least_length (Some meaning.ContinueIf) = 2
least_length (Some meaning.ReturnIf) = 2
least_length m = 1

pub record MayRaise (p : Shader) (i : Instruction) : Type 0 where
  pub known : is_some (meaning_of Base i.code) ≡ true
  pub scalar : IsScalar p i
  pub guardable : is_guarded (meaning_of Base i.code) ≡ true → IsGuardable p i
  pub raisable :
      goes_on (meaning_of Base i.code) ≡ true → is_guarded (meaning_of Base i.code) ≡ false → IsRaisable p i
  pub long : least_length (meaning_of Base i.code) ≤ i.length

-- an instruction of the program, with its number
pub record IsNumbered (p : Shader) (at : Numbered) : Type 0 where
  pub there : slice_get p.instructions at.number ≡ Some at.instruction
  pub may : MayRaise p at.instruction

-- THE INSTRUCTIONS OF A PROGRAM in front of the last
abbrev pub fronts : List Instruction → List Instruction
fronts code = take (length code - 1) code

-- A place at which the walk stands: what is behind it is raised, with at most 16 nodes for each word.
pub record StandsAt (is_null : Room → Bool) (p : Shader) (old new : Grown) (walk : Walk) (at : ℕ) : Type 0 where
  pub grows : Grows old new (1 + 16 * lengths (drop at (fronts p.instructions)))
  pub walk' : IsWalk new.nodes walk (walked (parts_of is_null p) (drop at (fronts p.instructions)) end_of_all)
