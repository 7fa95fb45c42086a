-- The lane of a module: what it does, instruction by instruction (SPIR-V specification, unified1, section 3.52). Its events are those of
-- the base crate, and where an instruction breaks rules the lane is wrong at the instruction's number, counted from 0.
use Rattle.std.specs.Prelude.{ℕ, ◌+◌, nat_eq, if◌then◌else◌, Bool, true, false, ◌&&◌, List, [], ◌∷◌, drop, Option, Some, None, Ok, Err, slice_get, slice_index, option_map, option_and_then}
use Rattle.std.specs.Cmp.Lexicographic.{pointwise}
use Rattle.word_base.specs.Lanes.{Turn, Silent, Asks, Ends, Wrong, Standing, started}
use Rattle.word_base.specs.declared.event.Event.{Event}
use Rattle.word_base.specs.declared.event.Event.TheVariants.{Load, Store, Atomic, Fence, Barrier}
use Rattle.word_base.specs.declared.event.Act.{Act}
use Rattle.word_base.specs.declared.event.Act.TheVariants.{CompareExchange}
use Rattle.word_base.specs.declared.event.Scope.{Scope}
use Rattle.word_base.specs.declared.event.Classes.{Classes}
use Rattle.word_base.specs.Settings.{Setting}
use Rattle.word_base.specs.declared.event.Room.{Room}
use Rattle.spirv_words.specs.StorageClass.{Input, Uniform, Function, PushConstant}
use Rattle.spirv_words.specs.Enumerants.{WorkgroupScope, glsl_text}
use Rattle.spirv_words.specs.Operations.{Op, op_of, OpExtInstImport, OpLabel, OpFunctionEnd, OpReturn, OpBranch, OpBranchConditional, OpSwitch, OpSelectionMerge, OpLoopMerge, OpVariable, OpLoad, OpStore, OpAccessChain, OpArrayLength, OpCompositeConstruct, OpCompositeExtract, OpExtInst, OpSelect, OpControlBarrier, OpMemoryBarrier, OpAtomicCompareExchange}
use Rattle.spirv_words.specs.Text.{Instr, Module, is_op}
use Rattle.spirv_words.specs.Ids.{definition, without_late_types}
pub use Rattle.spirv_words.specs.Ids.{entry_function, is_function}
use Rattle.spirv_words.specs.Sorts.{is_words, sort_of, sort_of_value}
use Rattle.spirv_words.specs.Operands.{is_sorted, is_defined}
use Rattle.spirv_words.specs.Values.{Value, Word, Truth, AtLocal, AtRoom, AtConstants, AtPush, AtInput, Got, of_parts, both, and_then, or_rule, word_of, truth_of, words_of_all, values_of_all, extracted, words_in, cells_of}
use Rattle.spirv_words.specs.Meanings.{Class, Unary, Binary, Ternary, Quaternary, OfTruth, OfTruths, Other, class_of, extended}
use Rattle.spirv_words.specs.Globals.{Places, Machine, global, initial_memory, push_word, built_in}
pub use Rattle.spirv_words.specs.Memory.{with_at}
use Rattle.spirv_words.specs.Memory.{InRoom, chained, value_at, with_words, pointer_of, in_room, takes_stores, scope_of, classes_of, act_of}

-- A state: the number of the instruction that comes next, the values of ids, and the words of Function and Private variables.
pub record State : Type 0 where
  pub place : ℕ
  pub values : ℕ → Option Value
  pub memory : ℕ → ℕ → Option ℕ

abbrev pub goes_to : State → ℕ → State
goes_to s place = record { place = place; values = s.values; memory = s.memory }

abbrev pub goes_on : State → Turn State
goes_on s = Silent (goes_to s (s.place + 1))

-- the next place, where the id has the value
abbrev pub with_value : State → ℕ → Value → State
with_value s r v = record { place = s.place + 1; values = with_at s.values r (Some v); memory = s.memory }

abbrev pub sets : State → ℕ → Value → Turn State
sets s r v = Silent (with_value s r v)

abbrev pub with_memory : State → (ℕ → ℕ → Option ℕ) → State
with_memory s memory = record { place = s.place + 1; values = s.values; memory = memory }

-- goes on with what was got
abbrev pub got : {X : Type 0} → State → Got X → (X → Turn State) → Turn State
got s (Ok x) f = f x
got s (Err rule) f = Wrong s.place rule

abbrev pub gives : State → ℕ → Got Value → Turn State
gives s r v = got s v (sets s r)

-- the word that answers the event
abbrev pub asks : State → ℕ → Event → Turn State
asks s r e = Asks e (λ x. with_value s r (Word x))

-- the words and truths of ids
abbrev pub word : State → ℕ → Got ℕ
word s x = word_of (s.values x)

abbrev pub truth : State → ℕ → Got Bool
truth s x = truth_of (s.values x)

abbrev pub pointer : State → ℕ → Got Value
pointer s x = pointer_of (s.values x)

-- A branch goes behind the first label with that id.
abbrev pub is_label : ℕ → Instr → Bool
is_label l i = is_op OpLabel i && nat_eq (slice_index i.operands 0) l

abbrev pub first_from : (Instr → Bool) → List Instr → ℕ → Option ℕ
first_from test [] place = None
first_from test (i ∷ is) place = if test i then Some place else first_from test is (place + 1)

abbrev pub label_place : List Instr → ℕ → Option ℕ
label_place code l = first_from (is_label l) code 0

abbrev pub branches : Machine → State → ℕ → Turn State
branches m s l = got s (or_rule 3 (label_place m.code l)) (λ place. Silent (goes_to s (place + 1)))

-- the label of the first case with that value, else the default
abbrev pub target : ℕ → ℕ → List ℕ → ℕ
target w other (value ∷ label ∷ rest) = if nat_eq value w then label else target w other rest
target w other rest = other

abbrev pub only_where : Bool → ℕ → Got Bool
only_where test rule = if test then Ok test else Err rule

-- Loads of a type: of the lane's own memory, of constant buffers (0 past their words), push constants and inputs any value, of a room one
-- word.
abbrev pub loads : Machine → State → ℕ → ℕ → Value → Turn State
loads m s t r (AtLocal v w) = gives s r (value_at m Function (λ k. or_rule 2 (s.memory v k)) t w)
loads m s t r (AtConstants slot w) = gives s r (value_at m Uniform (λ k. Ok (slice_index (m.setting.constants slot) k)) t w)
loads m s t r (AtPush w) = gives s r (value_at m PushConstant (λ k. Ok (push_word m k)) t w)
loads m s t r (AtInput kind w) = gives s r (value_at m Input (λ k. or_rule 7 (slice_get (built_in m.setting.ids kind) k)) t w)
loads m s t r (AtRoom room w) =
    got s (both (only_where (is_words (sort_of m.code t)) 1) (in_room m (AtRoom room w)))
    (λ q. asks s r (Load q.1.room q.1.word))
loads m s t r v = Wrong s.place 1

-- Stores, of any value in the lane's own memory, which holds its words in order, and of one word in a room.
abbrev pub written : Machine → Room → ℕ → Got InRoom
written m room w = and_then (in_room m (AtRoom room w)) (λ p. and_then (takes_stores p.room) (λ _. Ok p))

abbrev pub stores : Machine → State → Value → Value → Turn State
stores m s (AtLocal v w) x =
    got s (words_in x) (λ xs. Silent (with_memory s (with_at s.memory v (with_words (s.memory v) w xs))))
stores m s (AtRoom room w) x =
    got s (both (word_of (Some x)) (written m room w))
    (λ q. Asks (Store q.1.room q.1.word q.0) (λ _. goes_to s (s.place + 1)))
stores m s v x = Wrong s.place 1

-- a Function variable begins with the words of its initializer, or with none
abbrev pub initial_words : State → List ℕ → Got (List ℕ)
initial_words s [] = Ok []
initial_words s (x ∷ rest) = cells_of (s.values x)

abbrev pub begins : State → ℕ → List ℕ → Turn State
begins s r words =
    Silent (record { place = s.place + 1; values = with_at s.values r (Some (AtLocal r 0)); memory = with_at s.memory r (slice_get words) })

-- the length of a pointer's room, in words
abbrev pub measured : Machine → Value → Got Value
measured m (AtRoom room w) = Ok (Word (m.setting.extent room))
measured m v = Err 1

-- the extended instructions are those of an import of `GLSL.std.450`
abbrev pub is_glsl_import : ℕ → Option Instr → Bool
is_glsl_import set None = false
is_glsl_import set (Some i) = is_op OpExtInstImport i && pointwise nat_eq i.operands (set ∷ glsl_text)

abbrev pub is_glsl : List Instr → ℕ → Bool
is_glsl code set = is_glsl_import set (definition code set)

abbrev pub extended_by : List Instr → ℕ → ℕ → List ℕ → Got Value
extended_by code set n (x ∷ []) = if is_glsl code set then extended n x else Err 8
extended_by code set n xs = Err 8

abbrev pub named : State → ℕ → ℕ → Got (Scope × Classes)
named s scope semantics = and_then (both (word s scope) (word s semantics)) (λ p. both (scope_of p.0) (classes_of p.1))

abbrev pub barrier : State → (Scope → Classes → Event) → Got (Scope × Classes) → Turn State
barrier s event p = got s p (λ q. Asks (event q.0 q.1) (λ _. goes_to s (s.place + 1)))

-- An atomic's place and numbers: of what is broken the lowest rule counts.
abbrev pub atomic_place : Machine → State → ℕ → ℕ → ℕ → Got InRoom
atomic_place m s p scope semantics =
    and_then (both (pointer s p) (both (word s scope) (word s semantics)))
    (λ q. and_then (both (in_room m q.0) (both (scope_of q.1.0) (classes_of q.1.1))) (λ z. Ok z.0))

abbrev pub acts : Machine → State → Act → List ℕ → Turn State
acts m s kind (t ∷ r ∷ p ∷ scope ∷ semantics ∷ x ∷ []) =
    got s (both (atomic_place m s p scope semantics) (word s x)) (λ q. asks s r (Atomic q.0.room q.0.word kind q.1 0))
acts m s kind os = Wrong s.place 8

abbrev pub exchanges : Machine → State → List ℕ → Turn State
exchanges m s (t ∷ r ∷ p ∷ scope ∷ equal ∷ unequal ∷ x ∷ comparator ∷ []) =
    got s (both (both (atomic_place m s p scope equal) (named s scope unequal)) (both (word s comparator) (word s x)))
    (λ q. asks s r (Atomic q.0.0.room q.0.0.word CompareExchange q.1.0 q.1.1))
exchanges m s os = Wrong s.place 8

abbrev pub act_by : Machine → State → Option Act → List ℕ → Turn State
act_by m s None os = Wrong s.place 8
act_by m s (Some kind) os = acts m s kind os

-- the instructions that are not on words and truths alone
abbrev pub act : Machine → State → Op → List ℕ → Turn State
act m s OpLabel os = Wrong s.place 3
act m s OpFunctionEnd os = Wrong s.place 3
act m s OpReturn os = Ends
act m s OpSelectionMerge os = goes_on s
act m s OpLoopMerge os = goes_on s
act m s OpBranch (l ∷ []) = branches m s l
act m s OpBranchConditional (c ∷ l ∷ k ∷ []) = got s (truth s c) (λ b. branches m s (if b then l else k))
act m s OpSwitch (x ∷ other ∷ cases) = got s (word s x) (λ w. branches m s (target w other cases))
act m s OpVariable (t ∷ r ∷ class ∷ rest) =
    got s (both (initial_words s rest) (only_where (nat_eq class Function) 8)) (λ p. begins s r p.0)
act m s OpLoad (t ∷ r ∷ p ∷ rest) = got s (pointer s p) (loads m s t r)
act m s OpStore (p ∷ x ∷ rest) = got s (both (pointer s p) (or_rule 2 (s.values x))) (λ q. stores m s q.0 q.1)
act m s OpAccessChain (t ∷ r ∷ p ∷ xs) =
    gives s r
    (and_then (both (pointer s p) (words_of_all s.values xs)) (λ q. chained m (sort_of_value m.code p) q.0 q.1))
act m s OpArrayLength (t ∷ r ∷ p ∷ k ∷ []) = gives s r (and_then (pointer s p) (measured m))
act m s OpCompositeConstruct (t ∷ r ∷ xs) = gives s r (and_then (values_of_all s.values xs) (λ vs. Ok (of_parts vs)))
act m s OpCompositeExtract (t ∷ r ∷ c ∷ ks) = gives s r (and_then (or_rule 2 (s.values c)) (extracted ks))
act m s OpExtInst (t ∷ r ∷ set ∷ n ∷ xs) = gives s r (and_then (words_of_all s.values xs) (extended_by m.code set n))
act m s OpSelect (t ∷ r ∷ c ∷ a ∷ b ∷ []) =
    gives s r (and_then (both (truth s c) (both (word s a) (word s b))) (λ p. Ok (Word (if p.0 then p.1.0 else p.1.1))))
act m s OpControlBarrier (e ∷ scope ∷ semantics ∷ []) =
    barrier s (λ z c. Barrier z c)
    (and_then (both (and_then (word s e) (λ n. only_where (nat_eq n WorkgroupScope) 8)) (named s scope semantics)) (λ q. Ok q.1))
act m s OpMemoryBarrier (scope ∷ semantics ∷ []) = barrier s (λ z c. Fence z c) (named s scope semantics)
act m s OpAtomicCompareExchange os = exchanges m s os
act m s op os = act_by m s (act_of op) os

-- an instruction by its class
abbrev pub act_in : Machine → State → Class → List ℕ → Turn State
act_in m s (Unary f) (t ∷ r ∷ x ∷ []) = gives s r (and_then (word s x) f)
act_in m s (Binary f) (t ∷ r ∷ x ∷ y ∷ []) = gives s r (and_then (both (word s x) (word s y)) (λ p. f p.0 p.1))
act_in m s (Ternary f) (t ∷ r ∷ x ∷ y ∷ z ∷ []) =
    gives s r (and_then (both (word s x) (both (word s y) (word s z))) (λ p. f p.0 p.1.0 p.1.1))
act_in m s (Quaternary f) (t ∷ r ∷ x ∷ y ∷ z ∷ w ∷ []) =
    gives s r (and_then (both (both (word s x) (word s y)) (both (word s z) (word s w))) (λ p. f p.0.0 p.0.1 p.1.0 p.1.1))
act_in m s (OfTruth f) (t ∷ r ∷ x ∷ []) = gives s r (and_then (truth s x) (λ a. Ok (Truth (f a))))
act_in m s (OfTruths f) (t ∷ r ∷ x ∷ y ∷ []) =
    gives s r (and_then (both (truth s x) (truth s y)) (λ p. Ok (Truth (f p.0 p.1))))
act_in m s (Other op) os = act m s op os
act_in m s class os = Wrong s.place 8

abbrev pub act_of_op : Machine → State → Option Op → List ℕ → Turn State
act_of_op m s None os = Wrong s.place 8
act_of_op m s (Some op) os = act_in m s (class_of op) os

-- An operand of a wrong sort comes first, then one without a definition. A type that is defined behind the declarations has none.
abbrev pub sort_rule : List Instr → Instr → ℕ
sort_rule code i = if is_sorted (without_late_types code) i then 2 else 1

abbrev pub act_sorted : Machine → State → Instr → Bool → Bool → Turn State
act_sorted m s i true true = act_of_op m s (op_of i.op) i.operands
act_sorted m s i true false = Wrong s.place 2
act_sorted m s i false defined = Wrong s.place (sort_rule m.code i)

-- the list ends in no block
abbrev pub act_at : Machine → State → Option Instr → Turn State
act_at m s None = Wrong s.place 3
act_at m s (Some i) = act_sorted m s i (is_sorted m.code i) (is_defined m.code i)

abbrev pub step : Machine → State → Turn State
step m s = act_at m s (slice_get m.code s.place)

-- The lane begins behind the first label of the function that the first entry point names.
abbrev pub behind_label : List Instr → ℕ → Option ℕ
behind_label [] place = None
behind_label (i ∷ is) place =
    if is_op OpLabel i then Some (place + 1) else if is_op OpFunctionEnd i then None else behind_label is (place + 1)

abbrev pub start_place : List Instr → Option ℕ
start_place code =
    option_and_then
    (λ f. option_and_then (λ place. behind_label (drop place code) place) (first_from (is_function f) code 0))
    (entry_function code)

abbrev pub machine : Module → Places → Setting → Machine
machine m places setting = record { code = m.code; places = places; setting = setting }

abbrev pub start : Module → Places → Setting → Standing State
start m places setting =
    let k = machine m places setting in
    option_map (λ place. record { place = place; values = global k; memory = initial_memory k }) (start_place m.code)

-- the lane; where there is no start it is wrong at place 0 by rule 3
abbrev pub lane : Module → Places → Setting → Standing State → Turn (Standing State)
lane m places setting = started 0 3 (step (machine m places setting))
