-- The conditions on blocks, branches and constructs (SPIR-V specification, unified1, sections 2.4 and 2.11). I(p) is the set of the
-- constructs whose header stands in front of block p and whose merge block stands behind it.
use Rattle.std.specs.Prelude.{ℕ, ◌+◌, nat_eq, nat_lt, nat_le, if◌then◌else◌, Bool, true, false, ◌&&◌, ◌||◌, not, List, [], ◌∷◌, ◌++◌}
use Rattle.std.specs.Bool.{beq}
use Rattle.std.specs.List.{list_any, list_all}
use Rattle.spirv_words.specs.Text.{Instr}
use Rattle.spirv_words.specs.Blocks.{Flow, Plain, Local, Begins, Closes, Label, Merge, LoopMerge, Branch, Choose, Switch, Leave, flow_of, Edge, edges, Kind, Loop, Choice, Span, spans}

-- BLOCKS. Every block begins with its label and ends with one branch, switch, return or unreachable, which stands nowhere else.
-- Function variables stand first in the first block. Where a walk over the list stands:
pub data Walk : Type 0 where
  InFront : Walk
  AtFunction : Walk
  AtVariables : Walk
  InBlock : Walk
  BetweenBlocks : Walk
  AtEnd : Walk
  Lost : Walk

abbrev pub in_block : Flow → Walk
in_block Plain = InBlock
in_block (Merge m) = InBlock
in_block (LoopMerge m c) = InBlock
in_block (Branch l) = BetweenBlocks
in_block (Choose l k) = BetweenBlocks
in_block (Switch other targets) = BetweenBlocks
in_block Leave = BetweenBlocks
in_block f = Lost

abbrev pub walk_on : Walk → Flow → Walk
walk_on InFront Plain = InFront
walk_on InFront Begins = AtFunction
walk_on AtFunction (Label l) = AtVariables
walk_on AtVariables Local = AtVariables
walk_on AtVariables f = in_block f
walk_on InBlock f = in_block f
walk_on BetweenBlocks (Label l) = InBlock
walk_on BetweenBlocks Closes = AtEnd
walk_on w f = Lost

abbrev pub walk : Walk → List Instr → Walk
walk w [] = w
walk w (i ∷ is) = walk (walk_on w (flow_of i)) is

abbrev pub is_at_end : Walk → Bool
is_at_end AtEnd = true
is_at_end w = false

abbrev pub has_blocks : List Instr → Bool
has_blocks code = is_at_end (walk InFront code)

-- MERGES. Every conditional branch and every switch directly follows a merge instruction, the switch a selection merge; every loop
-- merge is directly followed by a branch.
pub data Before : Type 0 where
  NoMerge : Before
  SelectionBefore : Before
  LoopBefore : Before

abbrev pub merge_before : Flow → Before
merge_before (Merge m) = SelectionBefore
merge_before (LoopMerge m c) = LoopBefore
merge_before f = NoMerge

abbrev pub is_loop_before : Before → Bool
is_loop_before LoopBefore = true
is_loop_before b = false

abbrev pub is_selection_before : Before → Bool
is_selection_before SelectionBefore = true
is_selection_before b = false

abbrev pub may_follow : Before → Flow → Bool
may_follow b (Branch l) = true
may_follow b (Choose l k) = is_loop_before b || is_selection_before b
may_follow b (Switch other targets) = is_selection_before b
may_follow b f = not (is_loop_before b)

abbrev pub follow : Before → List Instr → Bool
follow b [] = not (is_loop_before b)
follow b (i ∷ is) = may_follow b (flow_of i) && follow (merge_before (flow_of i)) is

-- Merge blocks differ and stand behind their headers, a loop's continue block between them. Constructs are nested or disjoint, and
-- one that begins between a loop's header and its continue block ends in front of that.
abbrev pub is_ordered_by : ℕ → ℕ → Kind → Bool
is_ordered_by h m (Loop c) = nat_lt h c && nat_lt c m
is_ordered_by h m k = true

abbrev pub is_ordered : Span → Bool
is_ordered s = nat_lt s.header s.merge && is_ordered_by s.header s.merge s.kind

abbrev pub are_apart : Span → Span → Bool
are_apart s t = nat_le s.merge t.header || nat_le t.merge s.header

abbrev pub holds : Span → Span → Bool
holds s t = nat_lt s.header t.header && nat_lt t.merge s.merge

abbrev pub keeps_continue : ℕ → Kind → Span → Bool
keeps_continue h (Loop c) t = not (nat_lt h t.header && nat_lt t.header c) || nat_lt t.merge c
keeps_continue h k t = true

abbrev pub agree : Span → Span → Bool
agree s t =
    not (nat_eq s.merge t.merge) &&
    ((are_apart s t || (holds s t || holds t s)) &&
    (keeps_continue s.header s.kind t && keeps_continue t.header t.kind s))

abbrev pub all_agree : List Span → Bool
all_agree [] = true
all_agree (s ∷ rest) = list_all (agree s) rest && all_agree rest

abbrev pub has_merges : List Instr → Bool
has_merges code = follow NoMerge code && (list_all is_ordered (spans code) && all_agree (spans code))

-- BRANCHES. s is in I(p)
abbrev pub is_around : ℕ → Span → Bool
is_around p s = nat_lt s.header p && nat_lt p s.merge

abbrev pub is_loop : Kind → Bool
is_loop (Loop c) = true
is_loop k = false

abbrev pub is_choice : Kind → Bool
is_choice (Choice other targets) = true
is_choice k = false

abbrev pub is_any : Kind → Bool
is_any k = true

abbrev pub is_loop_or_choice : Kind → Bool
is_loop_or_choice k = is_loop k || is_choice k

-- s is the innermost of some kinds in I(p), the one with the last header
abbrev pub is_innermost : (Kind → Bool) → List Span → ℕ → Span → Bool
is_innermost kinds all p s =
    is_around p s && (kinds s.kind && list_all (λ t. not (is_around p t && kinds t.kind) || nat_le t.header s.header) all)

-- I(q) is I(p), and I(q) is I(p) with p itself added
abbrev pub is_same_inside : List Span → ℕ → ℕ → Bool
is_same_inside all p q = list_all (λ s. beq (is_around q s) (is_around p s)) all

abbrev pub enters : List Span → ℕ → ℕ → Bool
enters all p q =
    list_all (λ s. beq (is_around q s) (is_around p s || nat_eq s.header p)) all &&
    list_any (λ s. nat_eq s.header p && is_around q s) all

abbrev pub merges_at : ℕ → Span → Bool
merges_at q s = nat_eq s.merge q

abbrev pub continues_at : ℕ → Kind → Bool
continues_at q (Loop c) = nat_eq c q
continues_at q k = false

-- A branch back belongs to a loop: to its header, from the last block before its merge block, which is not before its continue block.
abbrev pub continues_before : ℕ → Kind → Bool
continues_before p (Loop c) = nat_le c p
continues_before p k = false

abbrev pub goes_back : List Span → ℕ → ℕ → Bool
goes_back all p q = list_any (λ s. continues_before p s.kind && (nat_eq s.header q && nat_eq (p + 1) s.merge)) all

-- Any other goes forward: inside the same constructs, into the one that p opens, to the merge block of the innermost construct, to the
-- merge or continue block of the innermost loop, or to the merge block of the innermost switch where no loop lies between.
abbrev pub leaves_construct : List Span → ℕ → ℕ → Bool
leaves_construct all p q = list_any (λ s. is_innermost is_any all p s && merges_at q s) all

abbrev pub leaves_loop : List Span → ℕ → ℕ → Bool
leaves_loop all p q = list_any (λ s. is_innermost is_loop all p s && (merges_at q s || continues_at q s.kind)) all

abbrev pub leaves_choice : List Span → ℕ → ℕ → Bool
leaves_choice all p q = list_any (λ s. is_innermost is_loop_or_choice all p s && (is_choice s.kind && merges_at q s)) all

abbrev pub goes_forward : List Span → ℕ → ℕ → Bool
goes_forward all p q =
    (is_same_inside all p q || enters all p q) || (leaves_construct all p q || (leaves_loop all p q || leaves_choice all p q))

abbrev pub leads_well : List Span → Edge → Bool
leads_well all e = if nat_le e.to e.from then goes_back all e.from e.to else goes_forward all e.from e.to

abbrev pub has_branches : List Instr → Bool
has_branches code = list_all (leads_well (spans code)) (edges code)

-- SWITCH ORDER. The targets of a switch ascend in the order of its cases, equal ones allowed. With the default, unless that is the
-- merge block, they cut the blocks of the switch into parts; a branch inside the switch leaves a part only to the next target.
abbrev pub ascend : ℕ → List ℕ → Bool
ascend q [] = true
ascend q (t ∷ ts) = nat_le q t && ascend t ts

abbrev pub is_crossed : ℕ → ℕ → ℕ → Bool
is_crossed p q t = (nat_lt p t && nat_lt t q) || (nat_lt q t && nat_le t p)

abbrev pub cuts : ℕ → ℕ → List ℕ
cuts m other = if nat_eq other m then [] else other ∷ []

abbrev pub keeps_parts : Span → List ℕ → Edge → Bool
keeps_parts s ts e = not (is_around e.from s && is_around e.to s) || list_all (λ t. not (is_crossed e.from e.to t)) ts

abbrev pub is_parted : Span → List Edge → Kind → Bool
is_parted s es (Choice other targets) = ascend 0 targets && list_all (keeps_parts s (cuts s.merge other ++ targets)) es
is_parted s es k = true

abbrev pub has_switch_order : List Instr → Bool
has_switch_order code = list_all (λ s. is_parted s (edges code) s.kind) (spans code)
