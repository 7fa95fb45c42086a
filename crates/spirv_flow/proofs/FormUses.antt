-- What an instruction of a body uses are ids of symbols and ids that are known in front of it, and what is known behind it are its
-- results too.
use Rattle.std.proofs.Common.{◌≡◌, ℕ, ◌⊎◌, inl, inr, List, [], ◌∷◌, Option, Some, None, Bool, true, false, refl, sym, ap, subst}
use Rattle.std.specs.Prelude.{◌||◌, cond, IsTrue}
use Rattle.std.proofs.lemmas.Bool.{eq-eqb}
use Rattle.shader_tree.specs.Walks.{Each}
use Rattle.spirv_words.specs.Roles.{Part, ResultType, Result, Use, Name, Literal, Text, OptionalUse, OptionalLiteral, Uses, Names, Literals, Targets, ValueSort, AWord, ATruth, Asks, Makes, Selects, Loads, Stores, Chains, Lengths, Extracts, Extends, Atomics, Defined, AValue}
use Rattle.spirv_words.specs.Operations.{Op, OpCapability, OpExtInstImport, OpMemoryModel, OpEntryPoint, OpExecutionMode, OpDecorate, OpMemberDecorate, OpTypeVoid, OpTypeBool, OpTypeInt, OpTypeVector, OpTypeArray, OpTypeRuntimeArray, OpTypeStruct, OpTypePointer, OpTypeFunction, OpConstantTrue, OpConstantFalse, OpConstant, OpConstantComposite, OpConstantNull, OpCompositeConstruct, OpCompositeExtract, OpFunction, OpFunctionEnd, OpVariable, OpLoad, OpStore, OpAccessChain, OpArrayLength, OpExtInst, OpSelect, OpControlBarrier, OpMemoryBarrier, OpAtomicExchange, OpAtomicCompareExchange, OpAtomicIAdd, OpAtomicISub, OpAtomicSMin, OpAtomicUMin, OpAtomicSMax, OpAtomicUMax, OpAtomicAnd, OpAtomicOr, OpAtomicXor, OpLoopMerge, OpSelectionMerge, OpLabel, OpBranch, OpBranchConditional, OpSwitch, OpReturn, OpUnreachable, row_of, layout_of, op_of}
use Rattle.spirv_words.specs.Ids.{ids_of, ids_in, parts_of, behind_text, contains, defined_by, type_in}
use Rattle.spirv_words.specs.Layouts.{ends_text}
use Rattle.spirv_words.specs.Sections.{is_body, section_of, section_of_op}
use Rattle.spirv_words.specs.Text.{Instr}
use Rattle.spirv_symbols.specs.declared.symbol.Symbol.{Symbol}
use Rattle.spirv_symbols.specs.declared.symbol.TypeSymbol.{TypeSymbol}
use Rattle.spirv_symbols.specs.declared.symbol.TypeSymbol.TheVariants.{Word, TriplePointer, LocalPointer, SharedPointer, ViewPointer, VectorsPointer, PushPointer}
use Rattle.spirv_symbols.specs.declared.entry.Entry.{Entry}
use Rattle.spirv_symbols.specs.Tables.{Has}
use Rattle.spirv_emit.specs.Code as emit
use Rattle.spirv_emit.specs.Code.{Typed, typed, In, asks_by, typed_by, typed_result, IsOf, AreOf, TakesBy, IsTyped}
use Rattle.spirv_flow.proofs.Defined.{behind_two}
use Rattle.spirv_flow.proofs.FormEach.{each_mapped}
use Rattle.spirv_flow.proofs.Members.{no_truth}

-- USES are among the operands; and some instructions use none.
each_behind : (P : ℕ → Type 0) (words : List ℕ) → Each P words → Each P (behind_text words)
each_behind P [] h = tt
each_behind P (w ∷ ws) h = by (ends_text w) h.1 (each_behind P ws h.1) where
  by : (b : Bool) → Each P ws → Each P (behind_text ws) → Each P (cond b ws (behind_text ws))
  by true x y = x
  by false x y = y

among : (P : ℕ → Type 0) (parts : List Part) (words : List ℕ) → Each P words → Each P (ids_in parts words).uses
among P [] words h = tt
among P (ResultType ∷ parts) [] h = tt
among P (ResultType ∷ parts) (w ∷ ws) h = (h.0, among P parts ws h.1)
among P (Result ∷ parts) [] h = tt
among P (Result ∷ parts) (w ∷ ws) h = among P parts ws h.1
among P (Use ∷ parts) [] h = tt
among P (Use ∷ parts) (w ∷ ws) h = (h.0, among P parts ws h.1)
among P (Name ∷ parts) [] h = tt
among P (Name ∷ parts) (w ∷ ws) h = among P parts ws h.1
among P (Literal ∷ parts) [] h = tt
among P (Literal ∷ parts) (w ∷ ws) h = among P parts ws h.1
among P (Text ∷ parts) words h = among P parts (behind_text words) (each_behind P words h)
among P (OptionalUse ∷ parts) [] h = tt
among P (OptionalUse ∷ parts) (w ∷ ws) h = (h.0, among P parts ws h.1)
among P (OptionalLiteral ∷ parts) [] h = tt
among P (OptionalLiteral ∷ parts) (w ∷ ws) h = among P parts ws h.1
among P (Uses ∷ parts) words h = h
among P (Names ∷ parts) words h = tt
among P (Literals ∷ parts) words h = tt
among P (Targets ∷ parts) words h = tt

names_none : (words : List ℕ) → (ids_in (Name ∷ []) words).uses ≡ []
names_none [] = refl
names_none (a ∷ os) = refl

merges_none : (words : List ℕ) → (ids_in (Name ∷ Literal ∷ []) words).uses ≡ []
merges_none [] = refl
merges_none (a ∷ []) = refl
merges_none (a ∷ b ∷ os) = refl

loops_none : (words : List ℕ) → (ids_in (Name ∷ Name ∷ Literal ∷ []) words).uses ≡ []
loops_none [] = refl
loops_none (a ∷ []) = refl
loops_none (a ∷ b ∷ []) = refl
loops_none (a ∷ b ∷ d ∷ os) = refl

labels_none : (words : List ℕ) → (ids_in (Result ∷ []) words).uses ≡ []
labels_none [] = refl
labels_none (a ∷ os) = refl

-- the sorts of an instruction that makes a value of others
abbrev made : Asks → ValueSort
made (Makes result operands) = result
made asks = AWord

abbrev taken : Asks → ValueSort
taken (Makes result operands) = operands
taken asks = AWord

-- the id of a symbol, or one that is known
abbrev pub IsSeen : List Entry → List Typed → ℕ → Type 0
IsSeen names known x = ((s : Symbol) × Has names s x) ⊎ ((t : ℕ) × In known (typed x t))

module _ (names : List Entry) (known : List Typed) where
  abbrev Seen : ℕ → Type 0
  Seen x = IsSeen names known x

  abbrev AllSeen : List ℕ → Type 0
  AllSeen xs = Each Seen xs

  none_seen : (xs : List ℕ) → xs ≡ [] → AllSeen xs
  none_seen xs e = subst AllSeen (sym e) tt

  symbol_seen : (s : Symbol) (x : ℕ) → Has names s x → Seen x
  symbol_seen s x h = inl (s, h)

  known_seen : (y : TypeSymbol) (x : ℕ) → IsOf names known y x → Seen x
  known_seen y x h = inr (h.0, h.2)

  all_seen : (y : TypeSymbol) (xs : List ℕ) → AreOf names known y xs → AllSeen xs
  all_seen y xs h = each_mapped (IsOf names known y) Seen xs (known_seen y) h

  words_seen : (class : ℕ) (pointer : TypeSymbol) (xs : List ℕ) → emit.Leads names known pointer class xs → AllSeen xs
  words_seen class TriplePointer (x ∷ []) l = (known_seen Word x l.1, tt)
  words_seen class (LocalPointer n) (x ∷ []) l = (known_seen Word x l.1, tt)
  words_seen class (SharedPointer n) (x ∷ []) l = (known_seen Word x l.1, tt)
  words_seen class (ViewPointer access) (z ∷ x ∷ []) l = all_seen Word (z ∷ x ∷ []) l.2
  words_seen class (VectorsPointer n) (z ∷ x ∷ y ∷ []) l = all_seen Word (z ∷ x ∷ y ∷ []) l.2
  words_seen class (PushPointer n) (z ∷ x ∷ []) l = all_seen Word (z ∷ x ∷ []) l.2
  words_seen class pointer xs l = absurd l

  -- by what the instruction asks
  makes : (parts : List Part) (result operands : ValueSort) (os : List ℕ)
      → TakesBy names known (Makes result operands) (ids_in (ResultType ∷ Result ∷ parts) os).uses os
      → AllSeen (ids_in (ResultType ∷ Result ∷ parts) os).uses
  makes parts result operands [] h = absurd h
  makes parts result operands (t ∷ []) h = absurd h
  makes parts result operands (t ∷ r ∷ xs) h =
      (symbol_seen _ t h.0, among Seen parts xs (all_seen (emit.type_for operands) xs h.1))

  selects : (parts : List Part) (os : List ℕ) → TakesBy names known Selects (ids_in (ResultType ∷ Result ∷ parts) os).uses os
      → AllSeen (ids_in (ResultType ∷ Result ∷ parts) os).uses
  selects parts (t ∷ r ∷ x ∷ xs) h = (symbol_seen _ t h.0, among Seen parts (x ∷ xs) (known_seen _ x h.1, all_seen Word xs h.2))
  selects parts os h = absurd h

  load : (os : List ℕ) → TakesBy names known Loads (ids_in (layout_of OpLoad) os).uses os → AllSeen (ids_in (layout_of OpLoad) os).uses
  load (t ∷ r ∷ p ∷ []) h = (symbol_seen _ t h.0, (known_seen _ p h.1.1, tt))
  load os h = absurd h

  store : (os : List ℕ) → TakesBy names known Stores (ids_in (layout_of OpStore) os).uses os → AllSeen (ids_in (layout_of OpStore) os).uses
  store (p ∷ x ∷ []) h = (known_seen _ p h.0.1, (known_seen _ x h.1, tt))
  store os h = absurd h

  chain : (os : List ℕ) → TakesBy names known Chains (ids_in (layout_of OpAccessChain) os).uses os
      → AllSeen (ids_in (layout_of OpAccessChain) os).uses
  chain (t ∷ r ∷ p ∷ xs) h = (symbol_seen _ t h.2, (known_seen _ p h.3, words_seen h.0 h.1 xs h.4))
  chain os h = absurd h

  length : (os : List ℕ) → TakesBy names known Lengths (ids_in (layout_of OpArrayLength) os).uses os
      → AllSeen (ids_in (layout_of OpArrayLength) os).uses
  length (t ∷ r ∷ p ∷ n ∷ []) h = (symbol_seen _ t h.0, (known_seen _ p h.1.1, tt))
  length os h = absurd h

  extract : (os : List ℕ) → TakesBy names known Extracts (ids_in (layout_of OpCompositeExtract) os).uses os
      → AllSeen (ids_in (layout_of OpCompositeExtract) os).uses
  extract (t ∷ r ∷ x ∷ n ∷ []) h = (symbol_seen _ t h.0, (known_seen _ x h.1, tt))
  extract os h = absurd h

  extend : (os : List ℕ) → TakesBy names known Extends (ids_in (layout_of OpExtInst) os).uses os → AllSeen (ids_in (layout_of OpExtInst) os).uses
  extend (t ∷ r ∷ set ∷ n ∷ xs) h = (symbol_seen _ t h.0, (symbol_seen _ set h.1, all_seen Word xs h.2))
  extend os h = absurd h

  atomic : (parts : List Part) (os : List ℕ) → TakesBy names known Atomics (ids_in (ResultType ∷ Result ∷ parts) os).uses os
      → AllSeen (ids_in (ResultType ∷ Result ∷ parts) os).uses
  atomic parts (t ∷ r ∷ p ∷ xs) h = (symbol_seen _ t h.0, among Seen parts (p ∷ xs) (known_seen _ p h.1.1, all_seen Word xs h.2))
  atomic parts os h = absurd h

  uses_by : (op : Op) (os : List ℕ) → TakesBy names known (row_of op).asks (ids_in (layout_of op) os).uses os → is_body ((row_of op).section os) ≡ true
      → AllSeen (ids_in (layout_of op) os).uses
  uses_by OpCapability os h b = absurd (no_truth b)
  uses_by OpExtInstImport os h b = absurd (no_truth b)
  uses_by OpMemoryModel os h b = absurd (no_truth b)
  uses_by OpEntryPoint os h b = absurd (no_truth b)
  uses_by OpExecutionMode os h b = absurd (no_truth b)
  uses_by OpDecorate os h b = absurd (no_truth b)
  uses_by OpMemberDecorate os h b = absurd (no_truth b)
  uses_by OpTypeVoid os h b = absurd (no_truth b)
  uses_by OpTypeBool os h b = absurd (no_truth b)
  uses_by OpTypeInt os h b = absurd h
  uses_by OpTypeVector os h b = absurd h
  uses_by OpTypeArray os h b = absurd h
  uses_by OpTypeRuntimeArray os h b = absurd h
  uses_by OpTypeStruct os h b = absurd h
  uses_by OpTypePointer os h b = absurd h
  uses_by OpTypeFunction os h b = absurd h
  uses_by OpConstant os h b = absurd h
  uses_by OpConstantComposite os h b = absurd h
  uses_by OpConstantNull os h b = absurd h
  uses_by OpCompositeConstruct os h b = absurd h
  uses_by OpFunction os h b = absurd h
  uses_by OpFunctionEnd os h b = absurd (no_truth b)
  uses_by OpVariable os h b = absurd h
  uses_by OpCompositeExtract os h b = extract os h
  uses_by OpLoad os h b = load os h
  uses_by OpStore os h b = store os h
  uses_by OpAccessChain os h b = chain os h
  uses_by OpArrayLength os h b = length os h
  uses_by OpExtInst os h b = extend os h
  uses_by OpSelect os h b = selects (behind_two (layout_of OpSelect)) os h
  uses_by OpControlBarrier os h b = all_seen Word (ids_in (layout_of OpControlBarrier) os).uses h
  uses_by OpMemoryBarrier os h b = all_seen Word (ids_in (layout_of OpMemoryBarrier) os).uses h
  uses_by OpAtomicExchange os h b = atomic (behind_two (layout_of OpAtomicExchange)) os h
  uses_by OpAtomicCompareExchange os h b = atomic (behind_two (layout_of OpAtomicCompareExchange)) os h
  uses_by OpAtomicIAdd os h b = atomic (behind_two (layout_of OpAtomicIAdd)) os h
  uses_by OpAtomicISub os h b = atomic (behind_two (layout_of OpAtomicISub)) os h
  uses_by OpAtomicSMin os h b = atomic (behind_two (layout_of OpAtomicSMin)) os h
  uses_by OpAtomicUMin os h b = atomic (behind_two (layout_of OpAtomicUMin)) os h
  uses_by OpAtomicSMax os h b = atomic (behind_two (layout_of OpAtomicSMax)) os h
  uses_by OpAtomicUMax os h b = atomic (behind_two (layout_of OpAtomicUMax)) os h
  uses_by OpAtomicAnd os h b = atomic (behind_two (layout_of OpAtomicAnd)) os h
  uses_by OpAtomicOr os h b = atomic (behind_two (layout_of OpAtomicOr)) os h
  uses_by OpAtomicXor os h b = atomic (behind_two (layout_of OpAtomicXor)) os h
  uses_by OpLoopMerge os h b = none_seen _ (loops_none os)
  uses_by OpSelectionMerge os h b = none_seen _ (merges_none os)
  uses_by OpLabel os h b = none_seen _ (labels_none os)
  uses_by OpBranch os h b = none_seen _ (names_none os)
  uses_by OpBranchConditional os h b = all_seen (emit.type_for ATruth) (ids_in (layout_of OpBranchConditional) os).uses h
  uses_by OpSwitch os h b = all_seen Word (ids_in (layout_of OpSwitch) os).uses h
  uses_by OpReturn os h b = tt
  uses_by OpUnreachable os h b = tt
  uses_by op os h b = makes (behind_two (layout_of op)) (made (row_of op).asks) (taken (row_of op).asks) os h

  uses_of_op : (o : Option Op) (os : List ℕ) → TakesBy names known (asks_by o) (ids_in (parts_of o) os).uses os → is_body (section_of_op o os) ≡ true
      → AllSeen (ids_in (parts_of o) os).uses
  uses_of_op None os h b = tt
  uses_of_op (Some op) os h b = uses_by op os h b

  pub uses_seen : (i : Instr) → IsTyped names known i → IsTrue (is_body (section_of i)) → Each (IsSeen names known) (ids_of i).uses
  uses_seen i h b = uses_of_op (op_of i.op) i.operands h b

-- RESULTS. A typed result is a result, and the instruction says its type.
of_value : (parts : List Part) (os : List ℕ) (x : Typed) → In (typed_by AValue os) x → contains (ids_in (ResultType ∷ Result ∷ parts) os).results x.id ≡ true
of_value parts [] x h = absurd h
of_value parts (t ∷ []) x h = absurd h
of_value parts (t ∷ r ∷ os) x (inl e) =
    subst (λ (y : Typed). contains (ids_in (ResultType ∷ Result ∷ parts) (t ∷ r ∷ os)).results y.id ≡ true) e
    (ap (λ b. b || contains (ids_in parts os).results r) (eq-eqb r r refl))
of_value parts (t ∷ r ∷ os) x (inr h) = absurd h

result_by : (op : Op) (os : List ℕ) (x : Typed) → In (typed_by (row_of op).defines os) x → contains (ids_in (layout_of op) os).results x.id ≡ true
result_by OpCapability os x h = absurd h
result_by OpExtInstImport os x h = absurd h
result_by OpMemoryModel os x h = absurd h
result_by OpEntryPoint os x h = absurd h
result_by OpExecutionMode os x h = absurd h
result_by OpDecorate os x h = absurd h
result_by OpMemberDecorate os x h = absurd h
result_by OpTypeVoid os x h = absurd h
result_by OpTypeBool os x h = absurd h
result_by OpTypeInt os x h = absurd h
result_by OpTypeVector os x h = absurd h
result_by OpTypeArray os x h = absurd h
result_by OpTypeRuntimeArray os x h = absurd h
result_by OpTypeStruct os x h = absurd h
result_by OpTypePointer os x h = absurd h
result_by OpTypeFunction os x h = absurd h
result_by OpConstantTrue os x h = absurd h
result_by OpConstantFalse os x h = absurd h
result_by OpConstant os x h = absurd h
result_by OpConstantComposite os x h = absurd h
result_by OpConstantNull os x h = absurd h
result_by OpFunction os x h = absurd h
result_by OpFunctionEnd os x h = absurd h
result_by OpStore os x h = absurd h
result_by OpControlBarrier os x h = absurd h
result_by OpMemoryBarrier os x h = absurd h
result_by OpLoopMerge os x h = absurd h
result_by OpSelectionMerge os x h = absurd h
result_by OpLabel os x h = absurd h
result_by OpBranch os x h = absurd h
result_by OpBranchConditional os x h = absurd h
result_by OpSwitch os x h = absurd h
result_by OpReturn os x h = absurd h
result_by OpUnreachable os x h = absurd h
result_by op os x h = of_value (behind_two (layout_of op)) os x h

result_of_op : (o : Option Op) (os : List ℕ) (x : Typed) → In (typed_by (defined_by o) os) x → contains (ids_in (parts_of o) os).results x.id ≡ true
result_of_op None os x h = absurd h
result_of_op (Some op) os x h = result_by op os x h

pub typed_is_result : (i : Instr) (x : Typed) → In (typed_result i) x → contains (ids_of i).results x.id ≡ true
typed_is_result i x h = result_of_op (op_of i.op) i.operands x h

type_by : (d : Defined) (os : List ℕ) (x : Typed) → In (typed_by d os) x → type_in d os ≡ Some x.type'
type_by AValue [] x h = absurd h
type_by AValue (t ∷ []) x h = absurd h
type_by AValue (t ∷ r ∷ os) x (inl e) = ap (λ (y : Typed). Some y.type') e
type_by AValue (t ∷ r ∷ os) x (inr h) = absurd h
type_by d os x h = absurd h

pub typed_has_type : (i : Instr) (x : Typed) → In (typed_result i) x → type_in (defined_by (op_of i.op)) i.operands ≡ Some x.type'
typed_has_type i x h = type_by (defined_by (op_of i.op)) i.operands x h
