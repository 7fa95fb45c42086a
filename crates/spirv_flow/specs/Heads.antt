-- What stands around the bodies of constructs: instructions in a row, each of which is there in a finished module.
use Rattle.std.specs.Prelude.{ℕ, [], ◌∷◌}
use Rattle.shader_tree.specs.Terms.{Term}
use Rattle.spirv_symbols.specs.declared.symbol.Symbol.TheVariants.{True}
use Rattle.spirv_emit.specs.declared.emitter.Emitter.{Emitter as Emission}
use Rattle.spirv_emit.specs.Blocks.{Ends, Begins, branch, branch_if, selection_merge, loop_merge}
use Rattle.spirv_emit.specs.Steps.{Takes, TakesRow, Named}
use Rattle.spirv_emit.specs.Values.{Emitted, Flushed}
use Rattle.spirv_flow.specs.Lowers.{marks}
use Rattle.spirv_flow.specs.Marks.{choice}

-- The value of an expression is computed, and then what waits is stored.
pub record Measures (old new : Emission) (x : Term) (r : ℕ) : Type 0 where
  pub mid : Emission
  pub emitted : Emitted old mid x r
  pub flushed : Flushed mid new

-- A block ends by a branch to a label, and a block with a label begins.
pub record Jumps (old new : Emission) (to label : ℕ) : Type 0 where
  pub mid : Emission
  pub ends : Ends old mid (branch to)
  pub begins : Begins mid new label

-- What waits is stored in front of that.
pub record Closes (old new : Emission) (to label : ℕ) : Type 0 where
  pub mid : Emission
  pub flushed : Flushed old mid
  pub jumps : Jumps mid new to label

-- A selection's first block ends by a branch to one of two labels, and the block with the first of them begins.
pub record Chooses (old new : Emission) (truth yes' no' merge : ℕ) : Type 0 where
  pub merged : Emission
  pub chosen : Emission
  pub merges : Ends old merged (selection_merge merge)
  pub chooses : Ends merged chosen (branch_if truth yes' no')
  pub begins : Begins chosen new yes'

-- THE HEADS of constructs.
pub record OpensGuard (old new : Emission) (x : Term) (merge : ℕ) : Type 0 where
  pub truth : ℕ
  pub inside : ℕ
  pub measured : Emission
  pub one : Emission
  pub two : Emission
  pub measures : Measures old measured x truth
  pub takes_inside : Takes measured one inside
  pub takes_merge : Takes one two merge
  pub chooses : Chooses two new truth inside merge merge

pub record OpensChoice (old new : Emission) (x : Term) (second merge : ℕ) : Type 0 where
  pub truth : ℕ
  pub first : ℕ
  pub measured : Emission
  pub one : Emission
  pub two : Emission
  pub three : Emission
  pub measures : Measures old measured x truth
  pub takes_first : Takes measured one first
  pub takes_second : Takes one two second
  pub takes_merge : Takes two three merge
  pub chooses : Chooses three new truth first second merge

pub record OpensLoop (old new : Emission) (header next merge : ℕ) : Type 0 where
  pub inside : ℕ
  pub stored : Emission
  pub one : Emission
  pub two : Emission
  pub three : Emission
  pub four : Emission
  pub entered : Emission
  pub merged : Emission
  pub flushed : Flushed old stored
  pub takes_header : Takes stored one header
  pub takes_inside : Takes one two inside
  pub takes_next : Takes two three next
  pub takes_merge : Takes three four merge
  pub enters : Jumps four entered header header
  pub merges : Ends entered merged (loop_merge merge next)
  pub begins : Jumps merged new inside inside

-- A loop's body goes on to the block that leads back, and the block behind the loop begins.
pub record ClosesLoop (old new : Emission) (header next merge : ℕ) : Type 0 where
  pub mid : Emission
  pub closes : Closes old mid next next
  pub jumps : Jumps mid new header merge

-- The labels of a switch's cases are in a row from the first on.
pub record OpensSwitch (old new : Emission) (x cases : Term) (merge first : ℕ) : Type 0 where
  pub on : ℕ
  pub inside : ℕ
  pub measured : Emission
  pub one : Emission
  pub two : Emission
  pub row : Emission
  pub merged : Emission
  pub chosen : Emission
  pub measures : Measures old measured x on
  pub takes_inside : Takes measured one inside
  pub takes_merge : Takes one two merge
  pub takes_row : TakesRow two row first (marks cases)
  pub merges : Ends row merged (selection_merge merge)
  pub chooses : Ends merged chosen (choice on merge cases first ∷ [])
  pub begins : Begins chosen new inside

-- A branch that always leads away stands in a selection of its own: what stands in front of the branch, and behind it.
pub record OpensAway (old new : Emission) (next merge : ℕ) : Type 0 where
  pub truth : ℕ
  pub inside : ℕ
  pub stored : Emission
  pub found : Emission
  pub one : Emission
  pub two : Emission
  pub three : Emission
  pub flushed : Flushed old stored
  pub holds : Named stored found True truth
  pub takes_inside : Takes found one inside
  pub takes_merge : Takes one two merge
  pub takes_next : Takes two three next
  pub chooses : Chooses three new truth inside merge merge

pub record ClosesAway (old new : Emission) (next merge : ℕ) : Type 0 where
  pub mid : Emission
  pub begins : Begins old mid next
  pub jumps : Jumps mid new merge merge
