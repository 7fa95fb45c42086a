-- Where the blocks of a statement stand in a function: straight code, and the constructs around it with their labels
-- (SPIR-V specification, unified1, section 2.11, Structured Control Flow). Blocks stand in the order of the program.
use Rattle.std.specs.Prelude.{◌≡◌, ℕ, Bool, true, List, [], ◌∷◌, ◌++◌, Option, Some, None, unwrap_or, refl}
use Rattle.spirv_words.specs.Roles.{Plain}
use Rattle.spirv_words.specs.Operations.{OpLabel, OpLoopMerge, OpSelectionMerge, OpBranch, OpBranchConditional, OpSwitch, OpReturn}
use Rattle.spirv_words.specs.Blocks.{flow_of}
use Rattle.spirv_words.specs.Sections.{Body, section_of}
use Rattle.spirv_words.specs.Text.{Instr, instruction}

-- Each label is an id. Behind a break, a continue or a return the code goes on in a block that nothing reaches, with
-- the label `next`; behind a switch's head in the block `inside`, where what stands in front of the first case is.
pub data Layout : Type 0 where
  Straight : (code : List Instr) → Layout
  Both : (first second : Layout) → Layout
  Guarded : (truth inside merge : ℕ) (body : Layout) → Layout
  Chosen : (truth yes no merge : ℕ) (first second : Layout) → Layout
  Looped : (header inside continue merge : ℕ) (body : Layout) → Layout
  Switched : (on inside merge : ℕ) (body : Layout) → Layout
  CaseAt : (value label : ℕ) → Layout
  DefaultAt : (label : ℕ) → Layout
  Breaks : (next : ℕ) → Layout
  Continues : (next : ℕ) → Layout
  Returns : (next : ℕ) → Layout

-- the instructions of blocks; the control of merges is none
abbrev pub label : ℕ → Instr
label l = instruction OpLabel (l ∷ [])

abbrev pub branch : ℕ → Instr
branch l = instruction OpBranch (l ∷ [])

abbrev pub merge : ℕ → Instr
merge m = instruction OpSelectionMerge (m ∷ 0 ∷ [])

abbrev pub loop_merge : ℕ → ℕ → Instr
loop_merge m c = instruction OpLoopMerge (m ∷ c ∷ 0 ∷ [])

abbrev pub choose : ℕ → ℕ → ℕ → Instr
choose truth first second = instruction OpBranchConditional (truth ∷ first ∷ second ∷ [])

abbrev pub leave : Instr
leave = instruction OpReturn []

-- THE CASES that stand directly in a layout, in order, and the first default.
pub record Case : Type 0 where
  pub value : ℕ
  pub label : ℕ

abbrev pub cases : Layout → List Case
cases (CaseAt v l) = record { value = v; label = l } ∷ []
cases (Both a b) = cases a ++ cases b
cases x = []

abbrev pub first_of : Option ℕ → Option ℕ → Option ℕ
first_of None o = o
first_of (Some l) o = Some l

abbrev pub default : Layout → Option ℕ
default (DefaultAt l) = Some l
default (Both a b) = first_of (default a) (default b)
default x = None

abbrev pub pairs : List Case → List ℕ
pairs [] = []
pairs (c ∷ cs) = c.value ∷ c.label ∷ pairs cs

-- a switch leads to its default, or behind itself where it has none
abbrev pub switch : ℕ → ℕ → Layout → Instr
switch on m body = instruction OpSwitch (on ∷ unwrap_or (default body) m ∷ pairs (cases body))

-- THE CODE of a layout, where a break leads to one label and a continue to another.
abbrev pub code_of : Layout → ℕ → ℕ → List Instr
code_of (Straight code) brk cont = code
code_of (Both a b) brk cont = code_of a brk cont ++ code_of b brk cont
code_of (Guarded t i m body) brk cont = merge m ∷ choose t i m ∷ label i ∷
    (code_of body brk cont ++ (branch m ∷ label m ∷ []))
code_of (Chosen t y n m a b) brk cont =
    merge m ∷ choose t y n ∷ label y ∷
    (code_of a brk cont ++ (branch m ∷ label n ∷ (code_of b brk cont ++ (branch m ∷ label m ∷ []))))
code_of (Looped h i c m body) brk cont =
    branch h ∷ label h ∷ loop_merge m c ∷ branch i ∷ label i ∷
    (code_of body m c ++ (branch c ∷ label c ∷ branch h ∷ label m ∷ []))
code_of (Switched on i m body) brk cont =
    merge m ∷ switch on m body ∷ label i ∷ (code_of body m cont ++ (branch m ∷ label m ∷ []))
code_of (CaseAt v l) brk cont = branch l ∷ label l ∷ []
code_of (DefaultAt l) brk cont = branch l ∷ label l ∷ []
code_of (Breaks next) brk cont = branch brk ∷ label next ∷ []
code_of (Continues next) brk cont = branch cont ∷ label next ∷ []
code_of (Returns next) brk cont = leave ∷ label next ∷ []

-- Straight code stands in a function's body and has no part in control flow; breaks stand in a loop or switch,
-- continues in a loop.
abbrev pub ArePlain : List Instr → Type 0
ArePlain [] = Unit {0}
ArePlain (i ∷ is) = ((flow_of i ≡ Plain) × (section_of i ≡ Body)) × ArePlain is

abbrev pub Placed : Layout → (in_loop in_any : Bool) → Type 0
Placed (Straight code) l a = ArePlain code
Placed (Both x y) l a = Placed x l a × Placed y l a
Placed (Guarded t i m x) l a = Placed x l a
Placed (Chosen t y n m x z) l a = Placed x l a × Placed z l a
Placed (Looped h i c m x) l a = Placed x true true
Placed (Switched on i m x) l a = Placed x l true
Placed (Breaks next) l a = a ≡ true
Placed (Continues next) l a = l ≡ true
Placed x l a = Unit {0}

-- Example: a loop that a break under a condition leaves.
abbrev pub left_loop : Layout
left_loop = Looped 20 21 22 23 (Guarded 9 24 25 (Breaks 26))

pub left_loop_code :
    code_of left_loop 0 0 ≡
    branch 20 ∷ label 20 ∷ loop_merge 23 22 ∷ branch 21 ∷ label 21 ∷ merge 25 ∷ choose 9 24 25 ∷ label 24 ∷ branch 23 ∷
    label 26 ∷
    branch 25 ∷ label 25 ∷ branch 22 ∷ label 22 ∷ branch 20 ∷ label 23 ∷ []
left_loop_code = refl
