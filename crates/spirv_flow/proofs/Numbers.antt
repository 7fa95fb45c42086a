-- The number of a label is that of its block, where each id is defined once.
use Rattle.std.proofs.Common.{◌≡◌, ℕ, ◌+◌, ◌<◌, ◌≤◌, List, [], ◌∷◌, ◌++◌, Bool, true, false, refl, ◌∙◌, subst, arith, Option, Some, None}
use Rattle.std.specs.Prelude.{nat_eq, ◌||◌, not, cond, IsTrue}
use Rattle.std.proofs.lemmas.Bool.Decides.{nat_tests}
use Rattle.spirv_words.specs.Roles.{Plain, Local, Flow, Label, labels, merges, merges_loop, branches, chooses, switches, variable_flow}
use Rattle.spirv_words.specs.Operations.{Op, OpCapability, OpExtInstImport, OpMemoryModel, OpEntryPoint, OpExecutionMode, OpDecorate, OpMemberDecorate, OpTypeVoid, OpTypeBool, OpTypeInt, OpTypeVector, OpTypeArray, OpTypeRuntimeArray, OpTypeStruct, OpTypePointer, OpTypeFunction, OpConstantTrue, OpConstantFalse, OpConstant, OpConstantComposite, OpConstantNull, OpCompositeConstruct, OpCompositeExtract, OpFunction, OpFunctionEnd, OpVariable, OpLoad, OpStore, OpAccessChain, OpArrayLength, OpExtInst, OpIAdd, OpISub, OpIMul, OpUDiv, OpUMod, OpIAddCarry, OpISubBorrow, OpUMulExtended, OpSMulExtended, OpLogicalOr, OpLogicalAnd, OpLogicalNot, OpSelect, OpIEqual, OpINotEqual, OpUGreaterThanEqual, OpSGreaterThanEqual, OpULessThan, OpSLessThan, OpShiftRightLogical, OpShiftRightArithmetic, OpShiftLeftLogical, OpBitwiseOr, OpBitwiseXor, OpBitwiseAnd, OpNot, OpBitFieldInsert, OpBitFieldSExtract, OpBitFieldUExtract, OpBitReverse, OpBitCount, OpControlBarrier, OpMemoryBarrier, OpAtomicExchange, OpAtomicCompareExchange, OpAtomicIAdd, OpAtomicISub, OpAtomicSMin, OpAtomicUMin, OpAtomicSMax, OpAtomicUMax, OpAtomicAnd, OpAtomicOr, OpAtomicXor, OpLoopMerge, OpSelectionMerge, OpLabel, OpBranch, OpBranchConditional, OpSwitch, OpReturn, OpUnreachable, row_of, op_of}
use Rattle.spirv_words.specs.Ids.{ids_of, ids_in, parts_of, contains}
use Rattle.spirv_words.specs.Definitions.{results, are_distinct}
use Rattle.spirv_words.specs.Blocks.{flow_of, flow_of_op, next_block, number_at, block_from, block_of}
use Rattle.spirv_words.specs.Text.{Instr}
use Rattle.spirv_flow.specs.Fronts.{Numbers, Numbered}
use Rattle.spirv_flow.specs.Lowers.{times}
use Rattle.spirv_flow.proofs.Members.{first_holds, second_holds, no_truth}

-- how often an id is in a list, and how often a label stands in code
abbrev pub is_one : ℕ → ℕ → ℕ
is_one x l = cond (nat_eq x l) 1 0

abbrev pub hit : ℕ → Flow → ℕ
hit l (Label k) = is_one k l
hit l f = 0

abbrev pub label_times : ℕ → List Instr → ℕ
label_times l [] = 0
label_times l (i ∷ is) = hit l (flow_of i) + label_times l is

times_append : (l : ℕ) (xs ys : List ℕ) → times l (xs ++ ys) ≡ times l xs + times l ys
times_append l [] ys = omega arith
times_append l (x ∷ xs) ys = let e = times_append l xs ys in omega (arith, e)

-- no other instruction is a label
no_merge : (l : ℕ) (os : List ℕ) → hit l (merges os) ≡ 0
no_merge l [] = refl
no_merge l (a ∷ []) = refl
no_merge l (a ∷ b ∷ []) = refl
no_merge l (a ∷ b ∷ c ∷ r) = refl

no_loop : (l : ℕ) (os : List ℕ) → hit l (merges_loop os) ≡ 0
no_loop l [] = refl
no_loop l (a ∷ []) = refl
no_loop l (a ∷ b ∷ []) = refl
no_loop l (a ∷ b ∷ c ∷ []) = refl
no_loop l (a ∷ b ∷ c ∷ d ∷ r) = refl

no_branch : (l : ℕ) (os : List ℕ) → hit l (branches os) ≡ 0
no_branch l [] = refl
no_branch l (a ∷ []) = refl
no_branch l (a ∷ b ∷ r) = refl

no_choice : (l : ℕ) (os : List ℕ) → hit l (chooses os) ≡ 0
no_choice l [] = refl
no_choice l (a ∷ []) = refl
no_choice l (a ∷ b ∷ []) = refl
no_choice l (a ∷ b ∷ c ∷ []) = refl
no_choice l (a ∷ b ∷ c ∷ d ∷ r) = refl

no_switch : (l : ℕ) (os : List ℕ) → hit l (switches os) ≡ 0
no_switch l [] = refl
no_switch l (a ∷ []) = refl
no_switch l (a ∷ b ∷ r) = refl

neither : (l : ℕ) (b : Bool) (x y : Flow) → hit l x ≡ 0 → hit l y ≡ 0 → hit l (cond b x y) ≡ 0
neither l true x y p q = p
neither l false x y p q = q

no_variable : (l : ℕ) (os : List ℕ) → hit l (variable_flow os) ≡ 0
no_variable l [] = refl
no_variable l (a ∷ []) = refl
no_variable l (a ∷ b ∷ []) = refl
no_variable l (a ∷ b ∷ c ∷ r) = neither l (nat_eq c 7) Local Plain refl refl

label_result : (l : ℕ) (os : List ℕ) → hit l (labels os) ≤ times l (ids_in (parts_of (Some OpLabel)) os).results
label_result l [] = omega arith
label_result l (k ∷ []) = omega arith
label_result l (k ∷ j ∷ os) = omega arith

label_defined : (l : ℕ) (op : Op) (os : List ℕ) → hit l ((row_of op).flow os) ≤ times l (ids_in (parts_of (Some op)) os).results
label_defined l OpCapability os = omega arith
label_defined l OpExtInstImport os = omega arith
label_defined l OpMemoryModel os = omega arith
label_defined l OpEntryPoint os = omega arith
label_defined l OpExecutionMode os = omega arith
label_defined l OpDecorate os = omega arith
label_defined l OpMemberDecorate os = omega arith
label_defined l OpTypeVoid os = omega arith
label_defined l OpTypeBool os = omega arith
label_defined l OpTypeInt os = omega arith
label_defined l OpTypeVector os = omega arith
label_defined l OpTypeArray os = omega arith
label_defined l OpTypeRuntimeArray os = omega arith
label_defined l OpTypeStruct os = omega arith
label_defined l OpTypePointer os = omega arith
label_defined l OpTypeFunction os = omega arith
label_defined l OpConstantTrue os = omega arith
label_defined l OpConstantFalse os = omega arith
label_defined l OpConstant os = omega arith
label_defined l OpConstantComposite os = omega arith
label_defined l OpConstantNull os = omega arith
label_defined l OpCompositeConstruct os = omega arith
label_defined l OpCompositeExtract os = omega arith
label_defined l OpFunction os = omega arith
label_defined l OpFunctionEnd os = omega arith
label_defined l OpVariable os = let e = no_variable l os in omega (arith, e)
label_defined l OpLoad os = omega arith
label_defined l OpStore os = omega arith
label_defined l OpAccessChain os = omega arith
label_defined l OpArrayLength os = omega arith
label_defined l OpExtInst os = omega arith
label_defined l OpIAdd os = omega arith
label_defined l OpISub os = omega arith
label_defined l OpIMul os = omega arith
label_defined l OpUDiv os = omega arith
label_defined l OpUMod os = omega arith
label_defined l OpIAddCarry os = omega arith
label_defined l OpISubBorrow os = omega arith
label_defined l OpUMulExtended os = omega arith
label_defined l OpSMulExtended os = omega arith
label_defined l OpLogicalOr os = omega arith
label_defined l OpLogicalAnd os = omega arith
label_defined l OpLogicalNot os = omega arith
label_defined l OpSelect os = omega arith
label_defined l OpIEqual os = omega arith
label_defined l OpINotEqual os = omega arith
label_defined l OpUGreaterThanEqual os = omega arith
label_defined l OpSGreaterThanEqual os = omega arith
label_defined l OpULessThan os = omega arith
label_defined l OpSLessThan os = omega arith
label_defined l OpShiftRightLogical os = omega arith
label_defined l OpShiftRightArithmetic os = omega arith
label_defined l OpShiftLeftLogical os = omega arith
label_defined l OpBitwiseOr os = omega arith
label_defined l OpBitwiseXor os = omega arith
label_defined l OpBitwiseAnd os = omega arith
label_defined l OpNot os = omega arith
label_defined l OpBitFieldInsert os = omega arith
label_defined l OpBitFieldSExtract os = omega arith
label_defined l OpBitFieldUExtract os = omega arith
label_defined l OpBitReverse os = omega arith
label_defined l OpBitCount os = omega arith
label_defined l OpControlBarrier os = omega arith
label_defined l OpMemoryBarrier os = omega arith
label_defined l OpAtomicExchange os = omega arith
label_defined l OpAtomicCompareExchange os = omega arith
label_defined l OpAtomicIAdd os = omega arith
label_defined l OpAtomicISub os = omega arith
label_defined l OpAtomicSMin os = omega arith
label_defined l OpAtomicUMin os = omega arith
label_defined l OpAtomicSMax os = omega arith
label_defined l OpAtomicUMax os = omega arith
label_defined l OpAtomicAnd os = omega arith
label_defined l OpAtomicOr os = omega arith
label_defined l OpAtomicXor os = omega arith
label_defined l OpLoopMerge os = let e = no_loop l os in omega (arith, e)
label_defined l OpSelectionMerge os = let e = no_merge l os in omega (arith, e)
label_defined l OpLabel os = label_result l os
label_defined l OpBranch os = let e = no_branch l os in omega (arith, e)
label_defined l OpBranchConditional os = let e = no_choice l os in omega (arith, e)
label_defined l OpSwitch os = let e = no_switch l os in omega (arith, e)
label_defined l OpReturn os = omega arith
label_defined l OpUnreachable os = omega arith

pub hit_defined : (l : ℕ) (o : Option Op) (os : List ℕ) → hit l (flow_of_op o os) ≤ times l (ids_in (parts_of o) os).results
hit_defined l None os = omega arith
hit_defined l (Some op) os = label_defined l op os

labels_defined : (l : ℕ) (code : List Instr) → label_times l code ≤ times l (results code)
labels_defined l [] = omega arith
labels_defined l (i ∷ is) =
    let h = hit_defined l (op_of i.op) i.operands in
    let r = labels_defined l is in
    let e = times_append l (ids_of i).results (results is) in
    omega (arith, h, r, e)

-- in a list of distinct ids each is there once at most
absent_by : (y l n : ℕ) (b : Bool) → (nat_eq y l || b) ≡ false → (b ≡ false → n ≡ 0) → is_one y l + n ≡ 0
absent_by y l n true h f = grind (arith, nat_tests)
absent_by y l n false h f = let e = f refl in grind (arith, nat_tests)

absent : (l : ℕ) (xs : List ℕ) → contains xs l ≡ false → times l xs ≡ 0
absent l [] h = refl
absent l (y ∷ ys) h = absent_by y l (times l ys) (contains ys l) h (absent l ys)

is_false : (b : Bool) → IsTrue (not b) → b ≡ false
is_false true h = absurd (no_truth h)
is_false false h = refl

one_more : (x l n : ℕ) → (x ≡ l → n ≡ 0) → n ≤ 1 → is_one x l + n ≤ 1
one_more x l n f h = grind (arith, nat_tests)

pub once : (l : ℕ) (xs : List ℕ) → IsTrue (are_distinct xs) → times l xs ≤ 1
once l [] h = omega arith
once l (x ∷ xs) h =
    one_more x l (times l xs)
    (λ e. absent l xs (subst (λ y. contains xs y ≡ false) e (is_false (contains xs x) (first_holds (not (contains xs x)) (are_distinct xs) h))))
    (once l xs (second_holds (not (contains xs x)) (are_distinct xs) h))

pub labels_once : (code : List Instr) → IsTrue (are_distinct (results code)) → (l : ℕ) → label_times l code ≤ 1
labels_once code h l = let d = labels_defined l code in let o = once l (results code) h in omega (arith, d, o)

-- A NUMBERING that has the block of each label is right about all of them.
other_label : (k l b x n : ℕ) → is_one k l + n ≤ 1 → 0 < n → cond (nat_eq k l) (b + 1) x ≡ x
other_label k l b x n h p = grind (arith, nat_tests)

own_label : (k b x : ℕ) → cond (nat_eq k k) (b + 1) x ≡ b + 1
own_label k b x = grind (arith, nat_tests)

own_times : (k n : ℕ) → 0 < is_one k k + n
own_times k n = grind (arith, nat_tests)

module _ (number : ℕ → ℕ) where
  Agrees : List Instr → ℕ → Type 0
  Agrees rest b = (l : ℕ) → 0 < label_times l rest → number l ≡ block_from l rest b

  agrees_on : (f : Flow) (is : List Instr) (b : ℕ) → ((l : ℕ) → hit l f + label_times l is ≤ 1)
      → ((l : ℕ) → 0 < hit l f + label_times l is → number l ≡ number_at f l b (block_from l is (next_block b f)))
      → Numbers number f b × ((l : ℕ) → 0 < label_times l is → number l ≡ block_from l is (next_block b f))
  agrees_on (Label k) is b h g = (
    g k (own_times k (label_times k is)) ∙ own_label k b (block_from k is (b + 1)),
    λ l p. g l (omega (arith, p)) ∙ other_label k l b (block_from l is (b + 1)) (label_times l is) (h l) p,
  )
  agrees_on f is b h g = (tt, λ l p. g l (omega (arith, p)))

  numbered_from : (rest : List Instr) (b : ℕ) → ((l : ℕ) → label_times l rest ≤ 1)
      → ((l : ℕ) → 0 < label_times l rest → number l ≡ block_from l rest b)
      → Numbered number rest b
  numbered_from [] b h g = tt
  numbered_from (i ∷ is) b h g =
      let s = agrees_on (flow_of i) is b h g in
      (s.0, numbered_from is (next_block b (flow_of i)) (λ l. omega (arith, h l)) s.1)

pub numbered : (code : List Instr) → IsTrue (are_distinct (results code)) → Numbered (block_of code) code 0
numbered code h = numbered_from (block_of code) code 0 (labels_once code h) (λ l p. refl)
