-- Instructions that stand in a function's body: those that are nothing to its blocks name no ids and are no variables, and what
-- each one defines is a value or a label.
use Rattle.std.proofs.Common.{◌≡◌, ℕ, List, [], ◌∷◌, Option, Some, None, Bool, true, false, refl, subst}
use Rattle.std.specs.Prelude.{nat_lt, length, IsTrue, not, ◌||◌, ◌&&◌, slice_index}
use Rattle.spirv_words.specs.Roles.{Part, ResultType, Result, Use, Name, Literal, Text, OptionalUse, OptionalLiteral, Uses, Names, Literals, Targets, Plain, Body, merges, merges_loop, branches, chooses, switches}
use Rattle.spirv_words.specs.Operations.{Op, OpEntryPoint, OpExecutionMode, OpDecorate, OpMemberDecorate, OpVariable, OpLoopMerge, OpSelectionMerge, OpBranch, OpBranchConditional, OpSwitch, row_of, layout_of, op_of, number_of}
use Rattle.spirv_words.specs.Blocks.{flow_of, flow_of_op}
use Rattle.spirv_words.specs.Sections.{section_of, section_of_op}
use Rattle.spirv_words.specs.Ids.{ids_of, ids_in, parts_of, behind_text}
use Rattle.spirv_words.specs.Layouts.{fits}
use Rattle.spirv_words.specs.Text.{Instr, is_instr, is_op, fits_op}
use Rattle.spirv_words.specs.Variables.{is_class, has_initializer, is_variable_well}
use Rattle.spirv_flow.proofs.Defined.{no_variable}
use Rattle.spirv_flow.proofs.Members.{first_holds, no_truth, is_eq}

abbrev no_name : List Part → Bool
no_name [] = true
no_name (ResultType ∷ parts) = no_name parts
no_name (Result ∷ parts) = no_name parts
no_name (Use ∷ parts) = no_name parts
no_name (Name ∷ parts) = false
no_name (Literal ∷ parts) = no_name parts
no_name (Text ∷ parts) = no_name parts
no_name (OptionalUse ∷ parts) = no_name parts
no_name (OptionalLiteral ∷ parts) = no_name parts
no_name (Uses ∷ parts) = true
no_name (Names ∷ parts) = false
no_name (Literals ∷ parts) = true
no_name (Targets ∷ parts) = false

nothing : (parts : List Part) (words : List ℕ) → IsTrue (no_name parts) → (ids_in parts words).names ≡ []
nothing [] words h = refl
nothing (ResultType ∷ parts) [] h = refl
nothing (ResultType ∷ parts) (w ∷ ws) h = nothing parts ws h
nothing (Result ∷ parts) [] h = refl
nothing (Result ∷ parts) (w ∷ ws) h = nothing parts ws h
nothing (Use ∷ parts) [] h = refl
nothing (Use ∷ parts) (w ∷ ws) h = nothing parts ws h
nothing (Name ∷ parts) words h = absurd (no_truth h)
nothing (Literal ∷ parts) [] h = refl
nothing (Literal ∷ parts) (w ∷ ws) h = nothing parts ws h
nothing (Text ∷ parts) words h = nothing parts (behind_text words) h
nothing (OptionalUse ∷ parts) [] h = refl
nothing (OptionalUse ∷ parts) (w ∷ ws) h = nothing parts ws h
nothing (OptionalLiteral ∷ parts) [] h = refl
nothing (OptionalLiteral ∷ parts) (w ∷ ws) h = nothing parts ws h
nothing (Uses ∷ parts) words h = refl
nothing (Names ∷ parts) words h = absurd (no_truth h)
nothing (Literals ∷ parts) words h = refl
nothing (Targets ∷ parts) words h = absurd (no_truth h)

-- those that lead somewhere are not plain where their operands fit
no_loop : (os : List ℕ) → merges_loop os ≡ Plain → IsTrue (fits (layout_of OpLoopMerge) os) → ⊥
no_loop [] p f = no_truth f
no_loop (a ∷ []) p f = no_truth f
no_loop (a ∷ b ∷ []) p f = no_truth f
no_loop (a ∷ b ∷ c ∷ []) p f = cc
no_loop (a ∷ b ∷ c ∷ d ∷ r) p f = no_truth f

no_merge : (os : List ℕ) → merges os ≡ Plain → IsTrue (fits (layout_of OpSelectionMerge) os) → ⊥
no_merge [] p f = no_truth f
no_merge (a ∷ []) p f = no_truth f
no_merge (a ∷ b ∷ []) p f = cc
no_merge (a ∷ b ∷ c ∷ r) p f = no_truth f

no_branch : (os : List ℕ) → branches os ≡ Plain → IsTrue (fits (layout_of OpBranch) os) → ⊥
no_branch [] p f = no_truth f
no_branch (a ∷ []) p f = cc
no_branch (a ∷ b ∷ r) p f = no_truth f

no_choice : (os : List ℕ) → chooses os ≡ Plain → IsTrue (fits (layout_of OpBranchConditional) os) → ⊥
no_choice [] p f = no_truth f
no_choice (a ∷ []) p f = no_truth f
no_choice (a ∷ b ∷ []) p f = no_truth f
no_choice (a ∷ b ∷ c ∷ []) p f = cc
no_choice (a ∷ b ∷ c ∷ d ∷ r) p f = no_truth f

no_switch : (os : List ℕ) → switches os ≡ Plain → IsTrue (fits (layout_of OpSwitch) os) → ⊥
no_switch [] p f = no_truth f
no_switch (a ∷ []) p f = no_truth f
no_switch (a ∷ b ∷ r) p f = cc

names_by : (op : Op) (os : List ℕ) → (row_of op).flow os ≡ Plain → (row_of op).section os ≡ Body → IsTrue (fits (layout_of op) os)
    → (ids_in (layout_of op) os).names ≡ []
names_by OpEntryPoint os p q f = absurd (cc)
names_by OpExecutionMode os p q f = absurd (cc)
names_by OpDecorate os p q f = absurd (cc)
names_by OpMemberDecorate os p q f = absurd (cc)
names_by OpLoopMerge os p q f = absurd (no_loop os p f)
names_by OpSelectionMerge os p q f = absurd (no_merge os p f)
names_by OpBranch os p q f = absurd (no_branch os p f)
names_by OpBranchConditional os p q f = absurd (no_choice os p f)
names_by OpSwitch os p q f = absurd (no_switch os p f)
names_by op os p q f = nothing (layout_of op) os refl

names_of_op : (o : Option Op) (os : List ℕ) → flow_of_op o os ≡ Plain → section_of_op o os ≡ Body → IsTrue (fits_op o os) → (ids_in (parts_of o) os).names ≡ []
names_of_op None os p q f = refl
names_of_op (Some op) os p q f = names_by op os p q f

pub plain_names : (i : Instr) → flow_of i ≡ Plain → section_of i ≡ Body → IsTrue (is_instr i) → (ids_of i).names ≡ []
plain_names i p q f =
    names_of_op (op_of i.op) i.operands p q (first_holds (fits_op (op_of i.op) i.operands) (nat_lt (length i.operands) 65535) f)

-- VARIABLES. A plain instruction of a body is none.
variable_by : (b : Bool) (rest : Bool) → (b ≡ true → ⊥) → (not b || rest) ≡ true
variable_by true rest h = absurd (h refl)
variable_by false rest h = refl

at_variable : (n : ℕ) (os : List ℕ) → n ≡ number_of OpVariable → flow_of_op (op_of n) os ≡ Plain → section_of_op (op_of n) os ≡ Body → ⊥
at_variable n os e p q =
    no_variable os (subst (λ k. flow_of_op (op_of k) os ≡ Plain) e p) (subst (λ k. section_of_op (op_of k) os ≡ Body) e q)

pub plain_variable : (code : List Instr) (i : Instr) → flow_of i ≡ Plain → section_of i ≡ Body → IsTrue (is_variable_well code i)
plain_variable code i p q =
    variable_by (is_op OpVariable i) (is_class (slice_index i.operands 2) && has_initializer code i.operands)
    (λ e. at_variable i.op i.operands (is_eq i.op (number_of OpVariable) e) p q)
