-- A silent step of an instruction that is nothing to the blocks goes on to the next place.
use Rattle.std.proofs.Common.{◌≡◌, ℕ, ◌+◌, List, [], ◌∷◌, Option, Some, None, true, refl, sym, ◌∙◌, subst}
use Rattle.std.specs.Prelude.{Ok, Err, nat_eq, slice_get}
use Rattle.word_base.specs.declared.event.Act.{Act}
use Rattle.word_base.specs.declared.event.Act.TheVariants.{CompareExchange}
use Rattle.word_base.specs.declared.event.Classes.{Classes}
use Rattle.word_base.specs.declared.event.Event.{Event}
use Rattle.word_base.specs.declared.event.Event.TheVariants.{Load, Store, Atomic, Fence, Barrier}
use Rattle.word_base.specs.declared.event.Scope.{Scope}
use Rattle.word_base.specs.Lanes.{Turn, Silent, Asks}
use Rattle.spirv_words.specs.Roles.{Plain}
use Rattle.spirv_words.specs.Operations.{Op, OpCapability, OpExtInstImport, OpMemoryModel, OpEntryPoint, OpExecutionMode, OpDecorate, OpMemberDecorate, OpTypeVoid, OpTypeBool, OpTypeInt, OpTypeVector, OpTypeArray, OpTypeRuntimeArray, OpTypeStruct, OpTypePointer, OpTypeFunction, OpConstantTrue, OpConstantFalse, OpConstant, OpConstantComposite, OpConstantNull, OpCompositeConstruct, OpCompositeExtract, OpFunction, OpFunctionEnd, OpVariable, OpLoad, OpStore, OpAccessChain, OpArrayLength, OpExtInst, OpIAdd, OpISub, OpIMul, OpUDiv, OpUMod, OpIAddCarry, OpISubBorrow, OpUMulExtended, OpSMulExtended, OpLogicalOr, OpLogicalAnd, OpLogicalNot, OpSelect, OpIEqual, OpINotEqual, OpUGreaterThanEqual, OpSGreaterThanEqual, OpULessThan, OpSLessThan, OpShiftRightLogical, OpShiftRightArithmetic, OpShiftLeftLogical, OpBitwiseOr, OpBitwiseXor, OpBitwiseAnd, OpNot, OpBitFieldInsert, OpBitFieldSExtract, OpBitFieldUExtract, OpBitReverse, OpBitCount, OpControlBarrier, OpMemoryBarrier, OpAtomicExchange, OpAtomicCompareExchange, OpAtomicIAdd, OpAtomicISub, OpAtomicSMin, OpAtomicUMin, OpAtomicSMax, OpAtomicUMax, OpAtomicAnd, OpAtomicOr, OpAtomicXor, OpLoopMerge, OpSelectionMerge, OpLabel, OpBranch, OpBranchConditional, OpSwitch, OpReturn, OpUnreachable, row_of, op_of}
use Rattle.spirv_words.specs.Blocks.{flow_of, flow_of_op}
use Rattle.spirv_words.specs.Enumerants.{WorkgroupScope}
use Rattle.spirv_words.specs.StorageClass as storage
use Rattle.spirv_words.specs.Sorts.{is_words, sort_of}
use Rattle.spirv_words.specs.Operands.{is_sorted, is_defined}
use Rattle.spirv_words.specs.Memory.{with_at, with_words, in_room}
use Rattle.spirv_words.specs.Meanings.{Class, Unary, Binary, Ternary, Quaternary, OfTruth, OfTruths, Other, class_of}
use Rattle.spirv_words.specs.Values.{Value, Word, Truth, NoParts, Part, AtLocal, AtRoom, AtConstants, AtPush, AtInput, Got, both, and_then, or_rule, word_of, words_in}
use Rattle.spirv_words.specs.Globals.{Machine}
use Rattle.spirv_words.specs.Lane.{State, step, goes_to, with_memory, got, gives, asks, word, pointer, only_where, loads, written, stores, initial_words, begins, named, barrier, atomic_place, acts, exchanges, act, act_in, act_of_op}
use Rattle.spirv_words.specs.Text.{Instr}

abbrev Next : State → Turn State → Type 0
Next s (Silent t) = t.place ≡ s.place + 1
Next s turn = Unit {0}

pub record Forward (s : State) (turn : Turn State) : Type 0 where
  pub next : Next s turn

forward_got : {X : Type 0} (s : State) (x : Got X) (f : X → Turn State) → ((y : X) → Forward s (f y)) → Forward s (got s x f)
forward_got s (Ok y) f h = h y
forward_got s (Err rule) f h = record { next = tt }

forward_gives : (s : State) (r : ℕ) (v : Got Value) → Forward s (gives s r v)
forward_gives s r (Ok x) = record { next = refl }
forward_gives s r (Err rule) = record { next = tt }

forward_loads : (m : Machine) (s : State) (t r : ℕ) (v : Value) → Forward s (loads m s t r v)
forward_loads m s t r (AtLocal v w) = forward_gives s r _
forward_loads m s t r (AtConstants slot w) = forward_gives s r _
forward_loads m s t r (AtPush w) = forward_gives s r _
forward_loads m s t r (AtInput kind w) = forward_gives s r _
forward_loads m s t r (AtRoom room w) =
    forward_got s (both (only_where (is_words (sort_of m.code t)) 1) (in_room m (AtRoom room w))) (λ q. asks s r (Load q.1.room q.1.word))
    (λ q. record { next = tt })
forward_loads m s t r (Word w) = record { next = tt }
forward_loads m s t r (Truth b) = record { next = tt }
forward_loads m s t r NoParts = record { next = tt }
forward_loads m s t r (Part v others) = record { next = tt }

forward_stores : (m : Machine) (s : State) (v x : Value) → Forward s (stores m s v x)
forward_stores m s (AtLocal v w) x =
    forward_got s (words_in x) (λ xs. Silent (with_memory s (with_at s.memory v (with_words (s.memory v) w xs)))) (λ xs. record { next = refl })
forward_stores m s (AtRoom room w) x =
    forward_got s (both (word_of (Some x)) (written m room w)) (λ q. Asks (Store q.1.room q.1.word q.0) (λ _. goes_to s (s.place + 1)))
    (λ q. record { next = tt })
forward_stores m s (AtConstants slot w) x = record { next = tt }
forward_stores m s (AtPush w) x = record { next = tt }
forward_stores m s (AtInput kind w) x = record { next = tt }
forward_stores m s (Word w) x = record { next = tt }
forward_stores m s (Truth b) x = record { next = tt }
forward_stores m s NoParts x = record { next = tt }
forward_stores m s (Part v others) x = record { next = tt }

forward_acts : (m : Machine) (s : State) (kind : Act) (os : List ℕ) → Forward s (acts m s kind os)
forward_acts m s kind [] = record { next = tt }
forward_acts m s kind (t ∷ []) = record { next = tt }
forward_acts m s kind (t ∷ r ∷ []) = record { next = tt }
forward_acts m s kind (t ∷ r ∷ p ∷ []) = record { next = tt }
forward_acts m s kind (t ∷ r ∷ p ∷ scope ∷ []) = record { next = tt }
forward_acts m s kind (t ∷ r ∷ p ∷ scope ∷ semantics ∷ []) = record { next = tt }
forward_acts m s kind (t ∷ r ∷ p ∷ scope ∷ semantics ∷ x ∷ []) =
    forward_got s (both (atomic_place m s p scope semantics) (word s x)) (λ q. asks s r (Atomic q.0.room q.0.word kind q.1 0))
    (λ q. record { next = tt })
forward_acts m s kind (t ∷ r ∷ p ∷ scope ∷ semantics ∷ x ∷ y ∷ os) = record { next = tt }

forward_exchanges : (m : Machine) (s : State) (os : List ℕ) → Forward s (exchanges m s os)
forward_exchanges m s [] = record { next = tt }
forward_exchanges m s (t ∷ []) = record { next = tt }
forward_exchanges m s (t ∷ r ∷ []) = record { next = tt }
forward_exchanges m s (t ∷ r ∷ p ∷ []) = record { next = tt }
forward_exchanges m s (t ∷ r ∷ p ∷ scope ∷ []) = record { next = tt }
forward_exchanges m s (t ∷ r ∷ p ∷ scope ∷ equal ∷ []) = record { next = tt }
forward_exchanges m s (t ∷ r ∷ p ∷ scope ∷ equal ∷ unequal ∷ []) = record { next = tt }
forward_exchanges m s (t ∷ r ∷ p ∷ scope ∷ equal ∷ unequal ∷ x ∷ []) = record { next = tt }
forward_exchanges m s (t ∷ r ∷ p ∷ scope ∷ equal ∷ unequal ∷ x ∷ comparator ∷ []) =
    forward_got s (both (both (atomic_place m s p scope equal) (named s scope unequal)) (both (word s comparator) (word s x)))
    (λ q. asks s r (Atomic q.0.0.room q.0.0.word CompareExchange q.1.0 q.1.1)) (λ q. record { next = tt })
forward_exchanges m s (t ∷ r ∷ p ∷ scope ∷ equal ∷ unequal ∷ x ∷ comparator ∷ y ∷ os) = record { next = tt }

forward_barrier : (s : State) (event : Scope → Classes → Event) (p : Got (Scope × Classes)) → Forward s (barrier s event p)
forward_barrier s event p = forward_got s p (λ q. Asks (event q.0 q.1) (λ _. goes_to s (s.place + 1))) (λ q. record { next = tt })

forward_act : (m : Machine) (s : State) (op : Op) (os : List ℕ) → (row_of op).flow os ≡ Plain → Forward s (act m s op os)
forward_act m s OpCapability os p = record { next = tt }
forward_act m s OpExtInstImport os p = record { next = tt }
forward_act m s OpMemoryModel os p = record { next = tt }
forward_act m s OpEntryPoint os p = record { next = tt }
forward_act m s OpExecutionMode os p = record { next = tt }
forward_act m s OpDecorate os p = record { next = tt }
forward_act m s OpMemberDecorate os p = record { next = tt }
forward_act m s OpTypeVoid os p = record { next = tt }
forward_act m s OpTypeBool os p = record { next = tt }
forward_act m s OpTypeInt os p = record { next = tt }
forward_act m s OpTypeVector os p = record { next = tt }
forward_act m s OpTypeArray os p = record { next = tt }
forward_act m s OpTypeRuntimeArray os p = record { next = tt }
forward_act m s OpTypeStruct os p = record { next = tt }
forward_act m s OpTypePointer os p = record { next = tt }
forward_act m s OpTypeFunction os p = record { next = tt }
forward_act m s OpConstantTrue os p = record { next = tt }
forward_act m s OpConstantFalse os p = record { next = tt }
forward_act m s OpConstant os p = record { next = tt }
forward_act m s OpConstantComposite os p = record { next = tt }
forward_act m s OpConstantNull os p = record { next = tt }
forward_act m s OpCompositeConstruct [] p = record { next = tt }
forward_act m s OpCompositeConstruct (t ∷ []) p = record { next = tt }
forward_act m s OpCompositeConstruct (t ∷ r ∷ xs) p = forward_gives s r _
forward_act m s OpCompositeExtract [] p = record { next = tt }
forward_act m s OpCompositeExtract (t ∷ []) p = record { next = tt }
forward_act m s OpCompositeExtract (t ∷ r ∷ []) p = record { next = tt }
forward_act m s OpCompositeExtract (t ∷ r ∷ c ∷ ks) p = forward_gives s r _
forward_act m s OpFunction os p = record { next = tt }
forward_act m s OpFunctionEnd os p = record { next = tt }
forward_act m s OpVariable [] p = record { next = tt }
forward_act m s OpVariable (t ∷ []) p = record { next = tt }
forward_act m s OpVariable (t ∷ r ∷ []) p = record { next = tt }
forward_act m s OpVariable (t ∷ r ∷ class ∷ rest) p =
    forward_got s (both (initial_words s rest) (only_where (nat_eq class storage.Function) 8)) (λ q. begins s r q.0) (λ q. record { next = refl })
forward_act m s OpLoad [] p = record { next = tt }
forward_act m s OpLoad (t ∷ []) p = record { next = tt }
forward_act m s OpLoad (t ∷ r ∷ []) p = record { next = tt }
forward_act m s OpLoad (t ∷ r ∷ q ∷ rest) p = forward_got s (pointer s q) (loads m s t r) (λ v. forward_loads m s t r v)
forward_act m s OpStore [] p = record { next = tt }
forward_act m s OpStore (q ∷ []) p = record { next = tt }
forward_act m s OpStore (q ∷ x ∷ rest) p =
    forward_got s (both (pointer s q) (or_rule 2 (s.values x))) (λ v. stores m s v.0 v.1) (λ v. forward_stores m s v.0 v.1)
forward_act m s OpAccessChain [] p = record { next = tt }
forward_act m s OpAccessChain (t ∷ []) p = record { next = tt }
forward_act m s OpAccessChain (t ∷ r ∷ []) p = record { next = tt }
forward_act m s OpAccessChain (t ∷ r ∷ q ∷ xs) p = forward_gives s r _
forward_act m s OpArrayLength [] p = record { next = tt }
forward_act m s OpArrayLength (t ∷ []) p = record { next = tt }
forward_act m s OpArrayLength (t ∷ r ∷ []) p = record { next = tt }
forward_act m s OpArrayLength (t ∷ r ∷ q ∷ []) p = record { next = tt }
forward_act m s OpArrayLength (t ∷ r ∷ q ∷ k ∷ []) p = forward_gives s r _
forward_act m s OpArrayLength (t ∷ r ∷ q ∷ k ∷ j ∷ os) p = record { next = tt }
forward_act m s OpExtInst [] p = record { next = tt }
forward_act m s OpExtInst (t ∷ []) p = record { next = tt }
forward_act m s OpExtInst (t ∷ r ∷ []) p = record { next = tt }
forward_act m s OpExtInst (t ∷ r ∷ set ∷ []) p = record { next = tt }
forward_act m s OpExtInst (t ∷ r ∷ set ∷ n ∷ xs) p = forward_gives s r _
forward_act m s OpIAdd os p = record { next = tt }
forward_act m s OpISub os p = record { next = tt }
forward_act m s OpIMul os p = record { next = tt }
forward_act m s OpUDiv os p = record { next = tt }
forward_act m s OpUMod os p = record { next = tt }
forward_act m s OpIAddCarry os p = record { next = tt }
forward_act m s OpISubBorrow os p = record { next = tt }
forward_act m s OpUMulExtended os p = record { next = tt }
forward_act m s OpSMulExtended os p = record { next = tt }
forward_act m s OpLogicalOr os p = record { next = tt }
forward_act m s OpLogicalAnd os p = record { next = tt }
forward_act m s OpLogicalNot os p = record { next = tt }
forward_act m s OpSelect [] p = record { next = tt }
forward_act m s OpSelect (t ∷ []) p = record { next = tt }
forward_act m s OpSelect (t ∷ r ∷ []) p = record { next = tt }
forward_act m s OpSelect (t ∷ r ∷ c ∷ []) p = record { next = tt }
forward_act m s OpSelect (t ∷ r ∷ c ∷ a ∷ []) p = record { next = tt }
forward_act m s OpSelect (t ∷ r ∷ c ∷ a ∷ b ∷ []) p = forward_gives s r _
forward_act m s OpSelect (t ∷ r ∷ c ∷ a ∷ b ∷ d ∷ os) p = record { next = tt }
forward_act m s OpIEqual os p = record { next = tt }
forward_act m s OpINotEqual os p = record { next = tt }
forward_act m s OpUGreaterThanEqual os p = record { next = tt }
forward_act m s OpSGreaterThanEqual os p = record { next = tt }
forward_act m s OpULessThan os p = record { next = tt }
forward_act m s OpSLessThan os p = record { next = tt }
forward_act m s OpShiftRightLogical os p = record { next = tt }
forward_act m s OpShiftRightArithmetic os p = record { next = tt }
forward_act m s OpShiftLeftLogical os p = record { next = tt }
forward_act m s OpBitwiseOr os p = record { next = tt }
forward_act m s OpBitwiseXor os p = record { next = tt }
forward_act m s OpBitwiseAnd os p = record { next = tt }
forward_act m s OpNot os p = record { next = tt }
forward_act m s OpBitFieldInsert os p = record { next = tt }
forward_act m s OpBitFieldSExtract os p = record { next = tt }
forward_act m s OpBitFieldUExtract os p = record { next = tt }
forward_act m s OpBitReverse os p = record { next = tt }
forward_act m s OpBitCount os p = record { next = tt }
forward_act m s OpControlBarrier [] p = record { next = tt }
forward_act m s OpControlBarrier (e ∷ []) p = record { next = tt }
forward_act m s OpControlBarrier (e ∷ scope ∷ []) p = record { next = tt }
forward_act m s OpControlBarrier (e ∷ scope ∷ semantics ∷ []) p =
    forward_barrier s (λ z c. Barrier z c)
    (and_then (both (and_then (word s e) (λ n. only_where (nat_eq n WorkgroupScope) 8)) (named s scope semantics)) (λ q. Ok q.1))
forward_act m s OpControlBarrier (e ∷ scope ∷ semantics ∷ x ∷ os) p = record { next = tt }
forward_act m s OpMemoryBarrier [] p = record { next = tt }
forward_act m s OpMemoryBarrier (scope ∷ []) p = record { next = tt }
forward_act m s OpMemoryBarrier (scope ∷ semantics ∷ []) p =
    forward_barrier s (λ z c. Fence z c) (named s scope semantics)
forward_act m s OpMemoryBarrier (scope ∷ semantics ∷ x ∷ os) p = record { next = tt }
forward_act m s OpAtomicExchange os p = forward_acts m s _ os
forward_act m s OpAtomicCompareExchange os p = forward_exchanges m s os
forward_act m s OpAtomicIAdd os p = forward_acts m s _ os
forward_act m s OpAtomicISub os p = forward_acts m s _ os
forward_act m s OpAtomicSMin os p = forward_acts m s _ os
forward_act m s OpAtomicUMin os p = forward_acts m s _ os
forward_act m s OpAtomicSMax os p = forward_acts m s _ os
forward_act m s OpAtomicUMax os p = forward_acts m s _ os
forward_act m s OpAtomicAnd os p = forward_acts m s _ os
forward_act m s OpAtomicOr os p = forward_acts m s _ os
forward_act m s OpAtomicXor os p = forward_acts m s _ os
forward_act m s OpLoopMerge os p = record { next = refl }
forward_act m s OpSelectionMerge os p = record { next = refl }
forward_act m s OpLabel os p = record { next = tt }
forward_act m s OpBranch [] p = record { next = tt }
forward_act m s OpBranch (l ∷ []) p = absurd (cc)
forward_act m s OpBranch (l ∷ k ∷ os) p = record { next = tt }
forward_act m s OpBranchConditional [] p = record { next = tt }
forward_act m s OpBranchConditional (c ∷ []) p = record { next = tt }
forward_act m s OpBranchConditional (c ∷ l ∷ []) p = record { next = tt }
forward_act m s OpBranchConditional (c ∷ l ∷ k ∷ []) p = absurd (cc)
forward_act m s OpBranchConditional (c ∷ l ∷ k ∷ j ∷ os) p = record { next = tt }
forward_act m s OpSwitch [] p = record { next = tt }
forward_act m s OpSwitch (x ∷ []) p = record { next = tt }
forward_act m s OpSwitch (x ∷ other ∷ cases) p = absurd (cc)
forward_act m s OpReturn os p = record { next = tt }
forward_act m s OpUnreachable os p = record { next = tt }

-- instructions by their classes
itself : (op o : Op) → class_of op ≡ Other o → o ≡ op
itself OpCapability o e = cc
itself OpExtInstImport o e = cc
itself OpMemoryModel o e = cc
itself OpEntryPoint o e = cc
itself OpExecutionMode o e = cc
itself OpDecorate o e = cc
itself OpMemberDecorate o e = cc
itself OpTypeVoid o e = cc
itself OpTypeBool o e = cc
itself OpTypeInt o e = cc
itself OpTypeVector o e = cc
itself OpTypeArray o e = cc
itself OpTypeRuntimeArray o e = cc
itself OpTypeStruct o e = cc
itself OpTypePointer o e = cc
itself OpTypeFunction o e = cc
itself OpConstantTrue o e = cc
itself OpConstantFalse o e = cc
itself OpConstant o e = cc
itself OpConstantComposite o e = cc
itself OpConstantNull o e = cc
itself OpCompositeConstruct o e = cc
itself OpCompositeExtract o e = cc
itself OpFunction o e = cc
itself OpFunctionEnd o e = cc
itself OpVariable o e = cc
itself OpLoad o e = cc
itself OpStore o e = cc
itself OpAccessChain o e = cc
itself OpArrayLength o e = cc
itself OpExtInst o e = cc
itself OpIAdd o e = absurd (cc)
itself OpISub o e = absurd (cc)
itself OpIMul o e = absurd (cc)
itself OpUDiv o e = absurd (cc)
itself OpUMod o e = absurd (cc)
itself OpIAddCarry o e = absurd (cc)
itself OpISubBorrow o e = absurd (cc)
itself OpUMulExtended o e = absurd (cc)
itself OpSMulExtended o e = absurd (cc)
itself OpLogicalOr o e = absurd (cc)
itself OpLogicalAnd o e = absurd (cc)
itself OpLogicalNot o e = absurd (cc)
itself OpSelect o e = cc
itself OpIEqual o e = absurd (cc)
itself OpINotEqual o e = absurd (cc)
itself OpUGreaterThanEqual o e = absurd (cc)
itself OpSGreaterThanEqual o e = absurd (cc)
itself OpULessThan o e = absurd (cc)
itself OpSLessThan o e = absurd (cc)
itself OpShiftRightLogical o e = absurd (cc)
itself OpShiftRightArithmetic o e = absurd (cc)
itself OpShiftLeftLogical o e = absurd (cc)
itself OpBitwiseOr o e = absurd (cc)
itself OpBitwiseXor o e = absurd (cc)
itself OpBitwiseAnd o e = absurd (cc)
itself OpNot o e = absurd (cc)
itself OpBitFieldInsert o e = absurd (cc)
itself OpBitFieldSExtract o e = absurd (cc)
itself OpBitFieldUExtract o e = absurd (cc)
itself OpBitReverse o e = absurd (cc)
itself OpBitCount o e = absurd (cc)
itself OpControlBarrier o e = cc
itself OpMemoryBarrier o e = cc
itself OpAtomicExchange o e = cc
itself OpAtomicCompareExchange o e = cc
itself OpAtomicIAdd o e = cc
itself OpAtomicISub o e = cc
itself OpAtomicSMin o e = cc
itself OpAtomicUMin o e = cc
itself OpAtomicSMax o e = cc
itself OpAtomicUMax o e = cc
itself OpAtomicAnd o e = cc
itself OpAtomicOr o e = cc
itself OpAtomicXor o e = cc
itself OpLoopMerge o e = cc
itself OpSelectionMerge o e = cc
itself OpLabel o e = cc
itself OpBranch o e = cc
itself OpBranchConditional o e = cc
itself OpSwitch o e = cc
itself OpReturn o e = cc
itself OpUnreachable o e = cc

forward_in : (m : Machine) (s : State) (op : Op) (c : Class) (os : List ℕ) → (row_of op).flow os ≡ Plain → class_of op ≡ c
    → Forward s (act_in m s c os)
forward_in m s op (Unary f) [] p e = record { next = tt }
forward_in m s op (Unary f) (t ∷ []) p e = record { next = tt }
forward_in m s op (Unary f) (t ∷ r ∷ []) p e = record { next = tt }
forward_in m s op (Unary f) (t ∷ r ∷ x ∷ []) p e = forward_gives s r _
forward_in m s op (Unary f) (t ∷ r ∷ x ∷ v ∷ os) p e = record { next = tt }
forward_in m s op (Binary f) [] p e = record { next = tt }
forward_in m s op (Binary f) (t ∷ []) p e = record { next = tt }
forward_in m s op (Binary f) (t ∷ r ∷ []) p e = record { next = tt }
forward_in m s op (Binary f) (t ∷ r ∷ x ∷ []) p e = record { next = tt }
forward_in m s op (Binary f) (t ∷ r ∷ x ∷ y ∷ []) p e = forward_gives s r _
forward_in m s op (Binary f) (t ∷ r ∷ x ∷ y ∷ v ∷ os) p e = record { next = tt }
forward_in m s op (Ternary f) [] p e = record { next = tt }
forward_in m s op (Ternary f) (t ∷ []) p e = record { next = tt }
forward_in m s op (Ternary f) (t ∷ r ∷ []) p e = record { next = tt }
forward_in m s op (Ternary f) (t ∷ r ∷ x ∷ []) p e = record { next = tt }
forward_in m s op (Ternary f) (t ∷ r ∷ x ∷ y ∷ []) p e = record { next = tt }
forward_in m s op (Ternary f) (t ∷ r ∷ x ∷ y ∷ z ∷ []) p e = forward_gives s r _
forward_in m s op (Ternary f) (t ∷ r ∷ x ∷ y ∷ z ∷ v ∷ os) p e = record { next = tt }
forward_in m s op (Quaternary f) [] p e = record { next = tt }
forward_in m s op (Quaternary f) (t ∷ []) p e = record { next = tt }
forward_in m s op (Quaternary f) (t ∷ r ∷ []) p e = record { next = tt }
forward_in m s op (Quaternary f) (t ∷ r ∷ x ∷ []) p e = record { next = tt }
forward_in m s op (Quaternary f) (t ∷ r ∷ x ∷ y ∷ []) p e = record { next = tt }
forward_in m s op (Quaternary f) (t ∷ r ∷ x ∷ y ∷ z ∷ []) p e = record { next = tt }
forward_in m s op (Quaternary f) (t ∷ r ∷ x ∷ y ∷ z ∷ w ∷ []) p e = forward_gives s r _
forward_in m s op (Quaternary f) (t ∷ r ∷ x ∷ y ∷ z ∷ w ∷ v ∷ os) p e = record { next = tt }
forward_in m s op (OfTruth f) [] p e = record { next = tt }
forward_in m s op (OfTruth f) (t ∷ []) p e = record { next = tt }
forward_in m s op (OfTruth f) (t ∷ r ∷ []) p e = record { next = tt }
forward_in m s op (OfTruth f) (t ∷ r ∷ x ∷ []) p e = forward_gives s r _
forward_in m s op (OfTruth f) (t ∷ r ∷ x ∷ v ∷ os) p e = record { next = tt }
forward_in m s op (OfTruths f) [] p e = record { next = tt }
forward_in m s op (OfTruths f) (t ∷ []) p e = record { next = tt }
forward_in m s op (OfTruths f) (t ∷ r ∷ []) p e = record { next = tt }
forward_in m s op (OfTruths f) (t ∷ r ∷ x ∷ []) p e = record { next = tt }
forward_in m s op (OfTruths f) (t ∷ r ∷ x ∷ y ∷ []) p e = forward_gives s r _
forward_in m s op (OfTruths f) (t ∷ r ∷ x ∷ y ∷ v ∷ os) p e = record { next = tt }
forward_in m s op (Other o) os p e = forward_act m s o os (subst (λ k. (row_of k).flow os ≡ Plain) (sym (itself op o e)) p)

forward_op : (m : Machine) (s : State) (o : Option Op) (os : List ℕ) → flow_of_op o os ≡ Plain → Forward s (act_of_op m s o os)
forward_op m s None os p = record { next = tt }
forward_op m s (Some op) os p = forward_in m s op (class_of op) os p refl

silent_on : (s t : State) (turn : Turn State) → turn ≡ Silent t → Forward s turn → t.place ≡ s.place + 1
silent_on s t turn e f = (subst (λ u. Forward s u) e f).next

-- where its operands are of the right sorts and have definitions
pub goes_on : (m : Machine) (s t : State) (i : Instr) → slice_get m.code s.place ≡ Some i → is_sorted m.code i ≡ true → is_defined m.code i ≡ true
    → flow_of i ≡ Plain → step m s ≡ Silent t → t.place ≡ s.place + 1
goes_on m s t i at sorted defined plain e =
    let whole : step m s ≡ act_of_op m s (op_of i.op) i.operands = rw (at, sorted, defined) refl in
    silent_on s t (act_of_op m s (op_of i.op) i.operands) (sym whole ∙ e) (forward_op m s (op_of i.op) i.operands plain)
