-- What the roles of the opcode table take: the types of operands, their selections, their indices and their modifiers.
use Rattle.std.specs.Prelude.{ℕ, nat_eq, ◌&&◌, ◌||◌, not, Bool, true, false, Option, Some, None, is_some}
use Rattle.tpf_decode.specs.declared.argument.Kind.{Kind}
use Rattle.tpf_decode.specs.declared.argument.Kind.TheVariants.{Temp, Indexable, Immediate, Resource, Constant, ImmediateConstant, Null, Uav, Shared, ThreadId, GroupId, IdInGroup, FlatId}
use Rattle.tpf_decode.specs.declared.argument.Role.{Role}
use Rattle.tpf_decode.specs.declared.argument.Role.TheVariants.{Dest, Source, Scalar, Pair, ViewRead, ViewWrite, ViewName, Literal, Input}
use Rattle.tpf_decode.specs.declared.declaration.Layout.{Layout}
use Rattle.tpf_decode.specs.declared.opcode.Form.{Form}
use Rattle.tpf_decode.specs.declared.opcode.Form.TheVariants.{Counter}
use Rattle.tpf_decode.specs.Profiles.{Profile}
use Rattle.tpf_decode.specs.Tokens.{has_selection, is_mask, is_one, is_choice, count_of, indices_of, first_of, second_of, kind_of, follows}
use Rattle.tpf_decode.specs.Opcodes.{form_of, is_arithmetic}
use Rattle.tpf_decode.specs.Declarations.{layout_of}
use Rattle.word_base.specs.Words.{field_of}

abbrev pub is_register : Kind → Bool
is_register Temp = true
is_register Indexable = true
is_register kind = false

abbrev pub is_thread_number : Kind → Bool
is_thread_number ThreadId = true
is_thread_number GroupId = true
is_thread_number IdInGroup = true
is_thread_number FlatId = true
is_thread_number kind = false

abbrev pub is_constant : Kind → Bool
is_constant Immediate = true
is_constant Constant = true
is_constant ImmediateConstant = true
is_constant kind = false

abbrev pub is_source : Kind → Bool
is_source kind = is_register kind || (is_constant kind || is_thread_number kind)

abbrev pub is_null : Kind → Bool
is_null Null = true
is_null kind = false

abbrev pub is_immediate : Kind → Bool
is_immediate Immediate = true
is_immediate kind = false

abbrev pub is_flat : Kind → Bool
is_flat FlatId = true
is_flat kind = false

abbrev pub is_resource : Kind → Bool
is_resource Resource = true
is_resource kind = false

abbrev pub is_uav : Kind → Bool
is_uav Uav = true
is_uav kind = false

abbrev pub is_shared : Kind → Bool
is_shared Shared = true
is_shared kind = false

-- Views that an instruction reads: bufinfo no shared memory, ld only resources, ld_uav_typed only views that are written too.
abbrev pub is_read_by : ℕ → Kind → Bool
is_read_by code kind =
    (is_resource kind && not (nat_eq code 163)) || ((is_uav kind && not (nat_eq code 45)) || (is_shared kind && not (nat_eq code 121 || (nat_eq code 45 || nat_eq code 163))))

-- the two are the same of the types that declarations name
abbrev pub is_same : Kind → Kind → Bool
is_same Resource kind = is_resource kind
is_same Uav kind = is_uav kind
is_same Shared kind = is_shared kind
is_same Constant Constant = true
is_same named kind = false

-- Views that an instruction or a declaration names: a declaration the one type of its opcode, a counter a view with one, an atomic
-- any view that is written.
abbrev pub is_named_by : Option Layout → Option Form → Kind → Bool
is_named_by (Some layout) form kind = is_named_type layout.kind kind
  where
    is_named_type : Option Kind → Kind → Bool
    is_named_type None kind = false
    is_named_type (Some named) kind = is_same named kind
is_named_by None (Some Counter) kind = is_uav kind
is_named_by None form kind = is_uav kind || is_shared kind

-- the types that a role takes
abbrev pub is_allowed : Profile → ℕ → Role → Kind → Bool
is_allowed profile code Dest kind = is_register kind || is_null kind
is_allowed profile code Source kind = is_source kind
is_allowed profile code Scalar kind = is_source kind
is_allowed profile code Pair kind = is_source kind
is_allowed profile code ViewRead kind = is_read_by code kind
is_allowed profile code ViewWrite kind = is_uav kind || is_shared kind
is_allowed profile code ViewName kind = is_named_by (layout_of profile code) (form_of profile code) kind
is_allowed profile code Literal kind = is_immediate kind
is_allowed profile code Input kind = is_thread_number kind

-- an immediate of one word or four, the flattened number with any selection, and else a swizzle or one component
abbrev pub is_read_selection : Kind → ℕ → Bool
is_read_selection Immediate token = not (nat_eq (count_of token) 0)
is_read_selection FlatId token = true
is_read_selection kind token = is_choice token

-- The selections that a role takes of a type; store_uav_typed writes all four components.
abbrev pub takes : ℕ → Role → Kind → ℕ → Bool
takes code Dest kind token = is_null kind || is_mask token
takes code Source kind token = is_read_selection kind token
takes code Scalar kind token = is_read_selection kind token
takes code Pair kind token = is_read_selection kind token
takes code ViewRead kind token = is_choice token
takes code ViewWrite kind token = is_mask token && (not (nat_eq code 164) || nat_eq (field_of token 7 4) 15)
takes code ViewName kind token = true
takes code Literal kind token = not (nat_eq (count_of token) 0)
takes code Input kind token = true

-- an index that has an immediate word, a relative operand or both; a declaration's is an immediate
abbrev pub is_index : Bool → ℕ → Bool
is_index declares representation =
    nat_eq representation 0 || (not declares && (nat_eq representation 2 || nat_eq representation 3))

-- How many indices a type has.
abbrev pub index_count : Kind → ℕ
index_count Temp = 1
index_count Indexable = 2
index_count Resource = 1
index_count Constant = 2
index_count ImmediateConstant = 1
index_count Uav = 1
index_count Shared = 1
index_count kind = 0

-- Of one index the register or slot is an immediate; of two only the second may be relative. The immediate constant buffer has
-- no slot.
abbrev pub has_index_forms : Bool → Kind → ℕ → Bool
has_index_forms declares Temp token = nat_eq (first_of token) 0
has_index_forms declares Resource token = nat_eq (first_of token) 0
has_index_forms declares Uav token = nat_eq (first_of token) 0
has_index_forms declares Shared token = nat_eq (first_of token) 0
has_index_forms declares Indexable token = nat_eq (first_of token) 0 && is_index declares (second_of token)
has_index_forms declares Constant token = nat_eq (first_of token) 0 && is_index declares (second_of token)
has_index_forms declares ImmediateConstant token = is_index declares (first_of token)
has_index_forms declares kind token = true

abbrev pub is_declaration : Profile → ℕ → Bool
is_declaration profile code = is_some (layout_of profile code)

abbrev pub has_indices : Bool → Kind → ℕ → Bool
has_indices declares kind token = nat_eq (indices_of token) (index_count kind) && has_index_forms declares kind token

-- A relative operand: one component of a register, of an element or of a vector with immediate indices, or of a thread's number, or
-- the flattened number.
abbrev pub is_relative_type : Kind → Bool
is_relative_type Temp = true
is_relative_type Indexable = true
is_relative_type Constant = true
is_relative_type kind = is_thread_number kind

abbrev pub is_relative_of : Kind → ℕ → Bool
is_relative_of FlatId token = has_selection token && has_indices true FlatId token
is_relative_of kind token = is_relative_type kind && (is_one token && has_indices true kind token)

abbrev pub is_relative_by : Option Kind → ℕ → Bool
is_relative_by None token = false
is_relative_by (Some kind) token = is_relative_of kind token && not (follows token)

abbrev pub is_relative : ℕ → Bool
is_relative token = is_relative_by (kind_of token) token

-- the operands that may be negated: the sources of arithmetic, but for mov and movc
abbrev pub may_negate : Profile → ℕ → Role → Bool
may_negate profile code Source = is_arithmetic (form_of profile code) && not (nat_eq code 54 || nat_eq code 55)
may_negate profile code role = false
