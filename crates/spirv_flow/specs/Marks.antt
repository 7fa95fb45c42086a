-- The cases and defaults that stand directly in a switch, and the instruction that branches to them.
use Rattle.std.specs.Prelude.{◌≡◌, ℕ, ◌+◌, ◌*◌, ◌≤◌, ◌<◌, List, ◌∷◌, length, Option, Some, None, unwrap_or, IsTrue}
use Rattle.shader_tree.specs.declared.node.Node.{Node}
use Rattle.shader_tree.specs.Nodes.{has, a_statement}
use Rattle.shader_tree.specs.Shape.{cases_in}
use Rattle.shader_tree.specs.Terms.{Term, term_at}
use Rattle.spirv_words.specs.Operations.{OpSwitch}
use Rattle.spirv_words.specs.Text.{Instr, instruction}
use Rattle.spirv_emit.specs.Begun.{IsBegun}
use Rattle.spirv_emit.specs.Emission.{words_left, ids_left}
use Rattle.spirv_emit.specs.declared.emitter.Emitter.{Emitter as Emission}
use Rattle.spirv_emit.specs.Steps.{Lengthens}
use Rattle.spirv_flow.specs.declared.around.Chain.{Chain}
use Rattle.spirv_flow.specs.declared.marks.Marks.{Marks}
use Rattle.spirv_flow.specs.declared.marks.Uncounted.{Uncounted}
use Rattle.spirv_flow.specs.Layout.{pairs, first_of}
use Rattle.spirv_flow.specs.Lowers.{marks, cases_of, default_of}

-- The branch by a word to the label of the case with its value, of those of a statement from the first label on; to
-- that of the default, or else to the merge block.
abbrev pub choice : ℕ → ℕ → Term → ℕ → Instr
choice on merge x first =
    instruction OpSwitch (on ∷ unwrap_or (default_of x first) merge ∷ pairs (cases_of x first))

-- WHAT IS COUNTED behind what was counted before: the cases, all marks, and how many marks are in front of the first
-- default.
abbrev pub counted : Marks → Term → Marks
counted before x = record {
  cases = before.cases + length (cases_in x);
  all = before.all + marks x;
  other = first_of before.other (default_of x before.all);
}

-- What stands first in a chain was counted: all of the chain, or there is a rest.
abbrev pub CountsOn : List Node → Uncounted → Option Uncounted → Type 0
CountsOn nodes from None = from.marks ≡ counted from.marks (term_at nodes from.id)
CountsOn nodes from (Some to) =
    IsTrue (has nodes (a_statement to.id)) × (to.id < from.id)
    × (counted to.marks (term_at nodes to.id) ≡ counted from.marks (term_at nodes from.id))

-- THE CASES of a statement were added to the instruction, with labels from that one on.
pub record PutsCases (old new : Emission) (mark : ℕ) (x : Term) : Type 0 where
  pub lengthens : Lengthens old new (pairs (cases_of x mark))
  pub begun : IsBegun new
  pub words : words_left old ≤ words_left new + 2 * marks x
  pub ids : ids_left new ≡ ids_left old

-- Those in front of the rest of a statement were added, and the rest can be: with its cases all are there.
pub record Puts (old new : Emission) (mark mark' : ℕ) (x rest : Term) : Type 0 where
  pub begun : IsBegun new
  pub marks' : mark + marks x ≡ mark' + marks rest
  pub words : words_left old + 2 * marks rest ≤ words_left new + 2 * marks x
  pub ids : ids_left new ≡ ids_left old
  pub cases : (e : Emission) → Lengthens new e (pairs (cases_of rest mark'))
      → Lengthens old e (pairs (cases_of x mark))

-- The rest is a chain of a tree.
pub record PutsOn (nodes : List Node) (old new : Emission) (from to : Chain) : Type 0 where
  pub statement : IsTrue (has nodes (a_statement to.id))
  pub puts : Puts old new from.mark to.mark (term_at nodes from.id) (term_at nodes to.id)

abbrev pub PutsFirst : List Node → Emission → Emission → Chain → Option Chain → Type 0
PutsFirst nodes old new from None =
    PutsCases old new from.mark (term_at nodes from.id) × (marks (term_at nodes from.id) ≡ 0)
PutsFirst nodes old new from (Some to) = PutsOn nodes old new from to × (to.id < from.id)
