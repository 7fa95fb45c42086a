-- Symbols that are named before code is written, and trees whose words of the registers r# may have variables of their own.
use Rattle.std.specs.Prelude.{◌≡◌, ◌+◌, ◌≤◌, ◌⊎◌, not, Bool, true, false, List, [], ◌∷◌, ◌++◌, length, Option, Some, None, IsTrue, slice_get, ℕ}
use Rattle.std.specs.List.{list_all}
use Rattle.shader_tree.specs.declared.node.Expr.TheVariants as expr
use Rattle.shader_tree.specs.declared.node.Stmt.TheVariants as stmt
use Rattle.shader_tree.specs.declared.node.Node.{Node}
use Rattle.shader_tree.specs.declared.node.Node.TheVariants as node
use Rattle.shader_tree.specs.declared.node.Space.TheVariants as space
use Rattle.shader_tree.specs.Terms.{term_at}
use Rattle.shader_tree.specs.Walks.{Each, holds_no}
use Rattle.spirv_symbols.specs.declared.symbol.Symbol.{Symbol}
use Rattle.spirv_symbols.specs.declared.symbol.Symbol.TheVariants.{Elements, Input, Memory, Push, Registers, Uniform}
use Rattle.spirv_symbols.specs.declared.entry.Entry.{Entry}
use Rattle.spirv_symbols.specs.Contexts.{Context}
use Rattle.spirv_symbols.specs.Rows.{needs, words_of, total}
use Rattle.spirv_symbols.specs.Tables.{Table, Extends, Stands, weight}
use Rattle.spirv_emit.specs.Begun.{IsThere, is_searched}
use Rattle.spirv_emit.specs.Code.{In}
use Rattle.spirv_emit.specs.Emission.{Emission}
use Rattle.spirv_emit.specs.Growing.{globals_in, is_global}

-- SYMBOLS IN ORDER: each needs only what is there and those in front of it.
abbrev pub AreReady : List Entry → List Symbol → List Symbol → Type 0
AreReady entries front [] = Unit {0}
AreReady entries front (s ∷ ss) = (IsThere entries s ⊎ In front s) × AreReady entries front ss

abbrev pub StandInOrder : List Entry → Context → (front ss : List Symbol) → Type 0
StandInOrder entries c front [] = Unit {0}
StandInOrder entries c front (s ∷ ss) = AreReady entries front (needs c s) × StandInOrder entries c (s ∷ front) ss

abbrev pub AreLocal : List Symbol → Type 0
AreLocal ss = Each (λ s. is_global s ≡ false) ss

-- the variables of a module and of its function that a program declares, but the immediate constant buffer
abbrev pub is_variable : Symbol → Bool
is_variable (Input built_in) = true
is_variable (Memory room) = true
is_variable (Uniform slot) = true
is_variable Push = true
is_variable Registers = true
is_variable (Elements slot) = true
is_variable s = false

-- Symbols that are no global variables are in the new table, which extends the old one by those that were not there.
pub record PutsAll (c : Context) (old new : Table) (ss : List Symbol) : Type 0 where
  pub stands : Stands c new
  pub extends : Extends old new
  pub there : Each (IsThere new.entries) ss
  pub globals : globals_in new.entries ≡ globals_in old.entries
  pub ids : new.next ≤ old.next + length ss
  pub words : weight c new.entries ≤ weight c old.entries + total (words_of c) ss

-- A symbol was named, which is the last of the global variables then if it is one and was not there. Only the table of
-- symbols grew.
pub record Names (old new : Emission) (s : Symbol) : Type 0 where
  pub rest : new ≡ record old { symbols = new.symbols }
  pub extends : Extends old.symbols new.symbols
  pub here : IsThere new.symbols.entries s
  pub local : is_global s ≡ false → globals_in new.symbols.entries ≡ globals_in old.symbols.entries
  pub global : is_global s ≡ true → (In (globals_in old.symbols.entries) s → ⊥)
      → globals_in new.symbols.entries ≡ globals_in old.symbols.entries ++ s ∷ []

-- A NODE THAT SEARCHES reads or writes a word of the registers r# at an index that is no literal.
abbrev pub is_word_node : Option Node → Bool
is_word_node (Some (node.Expr (expr.Word w))) = true
is_word_node other = false

abbrev pub searches : List Node → Node → Bool
searches nodes (node.Expr (expr.Read space.Temps word)) = not (is_word_node (slice_get nodes word))
searches nodes (node.Stmt (stmt.Write space.Temps word value)) = not (is_word_node (slice_get nodes word))
searches nodes other = false

abbrev pub none_searches : List Node → List Node → Bool
none_searches nodes ns = list_all (λ n. not (searches nodes n)) ns

-- The emitter is open for the code of a tree: each word of r# is a variable of its own exactly where no node of the tree
-- searches, and else the array of all is there.
pub record Opened (old new : Emission) (nodes : List Node) : Type 0 where
  pub rest : new ≡ record old { frame = new.frame; symbols = new.symbols }
  pub frame : new.frame ≡ record old.frame { separate = none_searches nodes nodes }
  pub extends : Extends old.symbols new.symbols
  pub globals : globals_in new.symbols.entries ≡ globals_in old.symbols.entries
  pub array : new.frame.separate ≡ false → IsThere new.symbols.entries Registers
  pub direct : new.frame.separate ≡ true → (id : ℕ) → IsTrue (holds_no is_searched (term_at nodes id))
