-- What a statement needs so that its blocks can be written, and what is written then.
use Rattle.std.specs.Prelude.{◌≡◌, ℕ, ◌+◌, ◌*◌, ◌<◌, ◌≤◌, ◌^◌, true, false, List, Option, Some, None, unwrap_or, is_some, Ok, IsTrue}
use Rattle.shader_tree.specs.declared.node.Node.{Node}
use Rattle.shader_tree.specs.declared.node.Space.{Space}
use Rattle.shader_tree.specs.declared.node.Space.TheVariants as space
use Rattle.shader_tree.specs.Costs.{words_in, ids_in}
use Rattle.shader_tree.specs.Holding.{OfWords}
use Rattle.shader_tree.specs.Nodes.{has, a_statement}
use Rattle.shader_tree.specs.Placed.{placed_in}
use Rattle.shader_tree.specs.Terms.{Term, term_at}
use Rattle.shader_tree.specs.Terms as term
use Rattle.shader_tree.specs.Trees.{Grown}
use Rattle.shader_tree.specs.Walks.{Each, spaces_in, rooms_in, threads_in, changed_in}
use Rattle.spirv_words.specs.Memory.{takes_stores}
use Rattle.spirv_symbols.specs.declared.symbol.Symbol.TheVariants.{Input, Memory}
use Rattle.spirv_emit.specs.Begun.{IsBegun, IsThere, IsSpaceThere, Names, built_in_of}
use Rattle.spirv_emit.specs.Blocks.{Ends, leave}
use Rattle.spirv_emit.specs.Emission.{next_of, words_left, ids_left}
use Rattle.spirv_emit.specs.declared.emitter.Emitter.{Emitter as Emission}
use Rattle.spirv_emit.specs.Naming.{Opened}
use Rattle.spirv_flow.specs.declared.around.Around.{Around}
use Rattle.spirv_flow.specs.declared.around.Chain.{Chain}
use Rattle.spirv_flow.specs.Lowers.{Lowers, marks}

-- a statement that stands in one block
abbrev pub IsPlain : Term → Type 0
IsPlain (term.Set n v) = Unit {0}
IsPlain (term.Write space at v) = Unit {0}
IsPlain (term.Load n room at) = Unit {0}
IsPlain (term.Store room at v) = Unit {0}
IsPlain (term.Atomic n room at kind a b) = Unit {0}
IsPlain (term.Sync threads scope classes) = Unit {0}
IsPlain term.Nothing = Unit {0}
IsPlain other = ⊥

-- WHAT A STATEMENT MAY HOLD: what it names is there, it changes no read-only view, and its literals are words.
pub record IsFit (e : Emission) (x : Term) : Type 0 where
  pub names : Names e x
  pub changed : Each (λ room. takes_stores room ≡ Ok 0) (changed_in x)
  pub literals : OfWords x

-- The blocks can be written: the labels of the marks in it were taken before, and so were the words for them in the
-- instruction of the switch.
pub record MayEmit (e : Emission) (around : Around) (mark : ℕ) (x : Term) : Type 0 where
  pub begun : IsBegun e
  pub fit : IsFit e x
  pub placed : IsTrue (placed_in (is_some around.renew) (is_some around.leave) true x)
  pub labels : mark + marks x ≤ next_of e
  pub short : mark + marks x < 2 ^ 32
  pub words : words_in x ≤ words_left e + 2 * marks x
  pub ids : ids_in x ≤ ids_left e + marks x

-- THE BLOCKS WERE WRITTEN, with at most the words and ids that the statement's nodes cost.
abbrev pub LowersIn : Emission → Emission → Around → ℕ → Term → Type 0
LowersIn old new around mark x =
    Lowers old new (unwrap_or around.leave 0) (unwrap_or around.renew 0) mark (is_some around.renew)
    (is_some around.leave) x

pub record DidEmit (old new : Emission) (around : Around) (mark : ℕ) (x : Term) : Type 0 where
  pub lowers : LowersIn old new around mark x
  pub begun : IsBegun new
  pub words : words_left old + 2 * marks x ≤ words_left new + words_in x
  pub ids : ids_left old + marks x ≤ ids_left new + ids_in x

-- What stands in front of the rest of a statement was written, and the rest can be: with its blocks all are there.
pub record Leads (old new : Emission) (around : Around) (mark mark' : ℕ) (x rest : Term) : Type 0 where
  pub may : MayEmit new around mark' rest
  pub marks' : mark + marks x ≡ mark' + marks rest
  pub words : words_left old + 2 * marks x + words_in rest ≤ words_left new + 2 * marks rest + words_in x
  pub ids : ids_left old + marks x + ids_in rest ≤ ids_left new + marks rest + ids_in x
  pub lowers : (e : Emission) → LowersIn new e around mark' rest → LowersIn old e around mark x

-- The rest is a chain of a tree.
pub record LeadsOn (nodes : List Node) (old new : Emission) (around : Around) (from to : Chain) : Type 0 where
  pub statement : IsTrue (has nodes (a_statement to.id))
  pub leads : Leads old new around from.mark to.mark (term_at nodes from.id) (term_at nodes to.id)

-- The first statement of a chain was written: all of the chain, or there is a rest.
abbrev pub EmitsFirst : List Node → Emission → Emission → Around → Chain → Option Chain → Type 0
EmitsFirst nodes old new around from None =
    DidEmit old new around from.mark (term_at nodes from.id) × (marks (term_at nodes from.id) ≡ 0)
EmitsFirst nodes old new around from (Some to) = LeadsOn nodes old new around from to × (to.id < from.id)

-- ALL OF A TREE. Its root, which stands for no statement where none is set.
abbrev pub root_by : List Node → Option ℕ → Term
root_by nodes None = term.Nothing
root_by nodes (Some id) = term_at nodes id

abbrev pub root_of : Grown → Term
root_of tree = root_by tree.nodes tree.root

-- What a tree may hold, before the function is opened for it: the registers r# need not be there.
abbrev pub IsSpaceNamed : Emission → Space → Type 0
IsSpaceNamed e space.Temps = Unit {0}
IsSpaceNamed e other = IsSpaceThere e other

pub record FitsTree (e : Emission) (x : Term) : Type 0 where
  pub spaces : Each (IsSpaceNamed e) (spaces_in x)
  pub rooms : Each (λ room. IsThere e.symbols.entries (Memory room)) (rooms_in x)
  pub threads : Each (λ k. IsThere e.symbols.entries (Input (built_in_of k))) (threads_in x)
  pub changed : Each (λ room. takes_stores room ≡ Ok 0) (changed_in x)

-- The function was opened, the blocks of the root were written, and the last of them ends.
pub record EmitsTree (old new : Emission) (tree : Grown) : Type 0 where
  pub opened : Emission
  pub ended : Emission
  pub opens : Opened old opened tree.nodes
  pub lowers : Lowers opened ended 0 0 0 false false (root_of tree)
  pub leaves : Ends ended new leave
