-- The blocks of a function, the branches between them and the constructs that merges open (SPIR-V specification, unified1, sections
-- 2.2.5 and 2.11, Structured Control Flow). Blocks are counted from 1 in list order; 0 stands for all that is in front of them, and for
-- a label that no block has.
use Rattle.std.specs.Prelude.{◌≡◌, ℕ, ◌+◌, nat_eq, if◌then◌else◌, List, [], ◌∷◌, ◌++◌, map, Option, Some, None, refl}
pub use Rattle.spirv_words.specs.Roles.{Flow, Plain, Local, Begins, Closes, Label, Merge, LoopMerge, Branch, Choose, Switch, Leave}
use Rattle.spirv_words.specs.Operations.{Op, OpLabel, OpSelectionMerge, OpBranch, OpBranchConditional, OpReturn, row_of, op_of}
use Rattle.spirv_words.specs.Text.{Instr, instruction}

-- what an instruction is to the blocks
abbrev pub flow_of_op : Option Op → List ℕ → Flow
flow_of_op None os = Plain
flow_of_op (Some op) os = (row_of op).flow os

abbrev pub flow_of : Instr → Flow
flow_of i = flow_of_op (op_of i.op) i.operands

-- the number of the block in which what follows stands
abbrev pub next_block : ℕ → Flow → ℕ
next_block b (Label l) = b + 1
next_block b f = b

-- the number of the first block with that label, where b blocks have begun
abbrev pub number_at : Flow → ℕ → ℕ → ℕ → ℕ
number_at (Label k) l b further = if nat_eq k l then b + 1 else further
number_at f l b further = further

abbrev pub block_from : ℕ → List Instr → ℕ → ℕ
block_from l [] b = 0
block_from l (i ∷ is) b = number_at (flow_of i) l b (block_from l is (next_block b (flow_of i)))

abbrev pub block_of : List Instr → ℕ → ℕ
block_of code l = block_from l code 0

-- A branch from one block to another.
pub record Edge : Type 0 where
  pub from : ℕ
  pub to : ℕ

abbrev pub edge : ℕ → ℕ → Edge
edge from to = record { from = from; to = to }

abbrev pub edges_of_flow : (ℕ → ℕ) → ℕ → Flow → List Edge
edges_of_flow number b (Branch l) = edge b (number l) ∷ []
edges_of_flow number b (Choose l k) = edge b (number l) ∷ edge b (number k) ∷ []
edges_of_flow number b (Switch other targets) = edge b (number other) ∷ map (edge b) (map number targets)
edges_of_flow number b f = []

abbrev pub edges_from : (ℕ → ℕ) → List Instr → ℕ → List Edge
edges_from number [] b = []
edges_from number (i ∷ is) b = edges_of_flow number b (flow_of i) ++ edges_from number is (next_block b (flow_of i))

abbrev pub edges : List Instr → List Edge
edges code = edges_from (block_of code) code 0

-- A construct: the block with the merge instruction, the merge block, and what it is.
pub data Kind : Type 0 where
  Selection : Kind
  Loop : (continue : ℕ) → Kind
  Choice : (other : ℕ) (targets : List ℕ) → Kind

pub record Span : Type 0 where
  pub header : ℕ
  pub merge : ℕ
  pub kind : Kind

abbrev pub kind_of_flow : (ℕ → ℕ) → Flow → Kind
kind_of_flow number (Switch other targets) = Choice (number other) (map number targets)
kind_of_flow number f = Selection

abbrev pub kind_behind : (ℕ → ℕ) → List Instr → Kind
kind_behind number [] = Selection
kind_behind number (i ∷ is) = kind_of_flow number (flow_of i)

abbrev pub spans_of_flow : (ℕ → ℕ) → ℕ → Flow → List Instr → List Span
spans_of_flow number b (Merge m) is = record { header = b; merge = number m; kind = kind_behind number is } ∷ []
spans_of_flow number b (LoopMerge m c) is = record { header = b; merge = number m; kind = Loop (number c) } ∷ []
spans_of_flow number b f is = []

abbrev pub spans_from : (ℕ → ℕ) → List Instr → ℕ → List Span
spans_from number [] b = []
spans_from number (i ∷ is) b = spans_of_flow number b (flow_of i) is ++ spans_from number is (next_block b (flow_of i))

abbrev pub spans : List Instr → List Span
spans code = spans_from (block_of code) code 0

-- Example: a selection of one block, by its branches and its construct.
abbrev pub one_choice : List Instr
one_choice =
    instruction OpLabel (10 ∷ []) ∷ instruction OpSelectionMerge (12 ∷ 0 ∷ []) ∷ instruction OpBranchConditional (5 ∷ 11 ∷ 12 ∷ []) ∷
    instruction OpLabel (11 ∷ []) ∷ instruction OpBranch (12 ∷ []) ∷
    instruction OpLabel (12 ∷ []) ∷ instruction OpReturn [] ∷ []

pub choice_edges : edges one_choice ≡ edge 1 2 ∷ edge 1 3 ∷ edge 2 3 ∷ []
choice_edges = refl

pub choice_spans : spans one_choice ≡ record { header = 1; merge = 3; kind = Selection } ∷ []
choice_spans = refl
