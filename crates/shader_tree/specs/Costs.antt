-- What a node costs in a module: the words and ids that its instructions take at most, with the constants and
-- variables of its own. The cost depends on the node alone, and the cost of a term is the sum over the walk, each
-- node as often as the walk meets it. What each module has once (types, rooms, buffers, the constants that operations
-- use) is no node's.
use Rattle.std.specs.Prelude.{ℕ, ◌+◌, ◌*◌, ◌≤◌, List, [], ◌∷◌}
use Rattle.shader_tree.specs.declared.node.Node.{Node}
use Rattle.shader_tree.specs.declared.node.Space.{Space}
use Rattle.shader_tree.specs.declared.node.Space.TheVariants as space
use Rattle.shader_tree.specs.Nodes.{Name}
use Rattle.shader_tree.specs.Terms.{Term, term_by}
use Rattle.shader_tree.specs.Terms as term
use Rattle.shader_tree.specs.Walks.{folded}

pub record Cost : Type 0 where
  pub words : ℕ
  pub ids : ℕ

abbrev pub cost : ℕ → ℕ → Cost
cost words ids = record { words = words; ids = ids }

-- Of a constant buffer: the index cut in two, a test against the words that are pushed, a chain of three indices, a load,
-- a selection; of the others: the variable, a chain, a load.
abbrev pub read_cost : Space → Cost
read_cost (space.Constant slot) = cost 44 9
read_cost other = cost 20 4

-- A constant has 4 words; a variable of the function 5; a load 4, a store 3; an access chain 4 and one for each
-- index; arithmetic and comparisons 5, a selection 6, an extended instruction 7; a label 2, a branch 2, a branch on a
-- condition 4, a merge 3 or 4.
abbrev pub cost_at : Term → Cost
-- a constant
cost_at (term.Word w) = cost 4 1
-- the variable, a load
cost_at (term.Scratch n) = cost 9 2
-- the input variable with its decoration and its place in the interface, a chain with the constant of its index, a load
cost_at (term.Thread kind c) = cost 24 4
cost_at (term.Read space at) = read_cost space
cost_at (term.Length room) = cost 6 1
-- the first bit from above: an extended instruction, a difference, a comparison, a selection
cost_at (term.One op a) = cost 24 4
-- a comparison and a selection; a shift and the cut of its amount
cost_at (term.Two op a b) = cost 12 2
-- a bit field: width and offset cut, the rest of the word, the smaller width, the field
cost_at (term.Three op a b c) = cost 30 5
-- no more bits than there are from the offset on: a comparison and a selection beside
cost_at (term.Insert width offset inserted base) = cost 33 6
-- a quotient: a divisor that is not 0 by a comparison and a selection, the quotient, a selection
cost_at (term.First op a b) = cost 24 4
cost_at (term.Second op a b) = cost 24 4
-- the constant, the operation
cost_at (term.Quotient a by) = cost 9 2
cost_at (term.Product a by) = cost 9 2
cost_at (term.Pick b a c) = cost 6 1
cost_at (term.Compare how a b) = cost 6 1
cost_at (term.Both a b) = cost 6 1
-- the variable, a store at the end of the block at the latest
cost_at (term.Set n v) = cost 8 1
-- the variable or a chain, the constant of its index, a store at the end of the block at the latest
cost_at (term.Write space at v) = cost 12 2
-- a chain, a load, and what a Set has
cost_at (term.Load n room at) = cost 20 3
-- a chain, a store
cost_at (term.Store room at v) = cost 10 1
-- a chain, an atomic instruction of up to 9 words, and what a Set has
cost_at (term.Atomic n room at kind a b) = cost 24 3
cost_at (term.Sync threads scope classes) = cost 16 3
-- a merge, a branch on the condition, a label, a branch, a label
cost_at (term.Guard b body) = cost 14 2
cost_at (term.If b a c) = cost 18 3
-- a branch, a label, a merge, a branch, a label, a branch, a label, a branch, a label
cost_at (term.Loop body) = cost 22 4
-- a merge, the switch, a label, a branch, a label
cost_at (term.Switch on cases) = cost 14 2
-- a branch, a label, two words of the switch
cost_at (term.Case v next) = cost 8 1
cost_at (term.Default next) = cost 6 1
-- a branch under a condition that always holds, so that what follows stays reached
cost_at term.Break = cost 18 3
cost_at term.Continue = cost 18 3
cost_at term.Return = cost 18 3
cost_at (term.Then a b) = cost 0 0
cost_at term.Nothing = cost 0 0

abbrev pub words_at : Term → ℕ
words_at t = (cost_at t).words

abbrev pub ids_at : Term → ℕ
ids_at t = (cost_at t).ids

-- THE SUMS OVER THE WALK.
abbrev pub words_in : Term → ℕ
words_in t = folded (λ a b. a + b) words_at t

abbrev pub ids_in : Term → ℕ
ids_in t = folded (λ a b. a + b) ids_at t

-- the cost of a node, whatever stands at the ids that it names
abbrev pub node_cost : Node → Cost
node_cost n = cost_at (term_by (λ id. term.Nothing) n)

-- the numbers of what a node names, added
abbrev pub sum_over : (ℕ → ℕ) → List Name → ℕ
sum_over f [] = 0
sum_over f (name ∷ names) = f name.id + sum_over f names

-- The sums of an instruction of that many words are at most 256 words and 48 ids for each of them.
pub record Affords (length : ℕ) (t : Term) : Type 0 where
  pub words : words_in t ≤ 256 * length
  pub ids : ids_in t ≤ 48 * length
