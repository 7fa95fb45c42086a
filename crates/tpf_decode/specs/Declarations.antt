-- The declarations: each with its opcode, its name in assembly text, the role of its operand where it has one, the type that the
-- operand must be of where the opcode fixes it, the number of words behind the operand, and the first profile that has it.
use Rattle.std.specs.Prelude.{ℕ, nat_eq, ◌&&◌, ◌||◌, if◌then◌else◌, Bool, List, [], ◌∷◌, Option, Some, None, is_some, codes, Contains}
use Rattle.tpf_decode.specs.Profiles.{Profile, Base, Typed, includes}
use Rattle.tpf_decode.specs.Opcodes.{roles_of, form_of}
use Rattle.tpf_decode.specs.declared.argument.Role.{Role}
use Rattle.tpf_decode.specs.declared.argument.Role.TheVariants.{ViewName, Input}
use Rattle.tpf_decode.specs.declared.argument.Kind.{Kind}
use Rattle.tpf_decode.specs.declared.argument.Kind.TheVariants.{Resource, Constant, Uav, Shared}
use Rattle.tpf_decode.specs.declared.opcode.Form.{Form}
use Rattle.tpf_decode.specs.declared.declaration.Layout.{Layout}

pub record DeclarationRow : Type 0 where
  pub code : ℕ
  pub name : List ℕ
  pub role : Option Role
  pub kind : Option Kind
  pub words : ℕ
  pub since : Profile

-- a declaration that names a register, one that names a thread's number, and one without operand
abbrev pub naming : ℕ → List ℕ → Kind → ℕ → Profile → DeclarationRow
naming code name kind words since = record { code = code; name = name; role = Some ViewName; kind = Some kind; words = words; since = since }

abbrev pub declaring : ℕ → List ℕ → Option Role → ℕ → DeclarationRow
declaring code name role words = record { code = code; name = name; role = role; kind = None; words = words; since = Base }

unfoldable pub declaration_table : List DeclarationRow
declaration_table =
    naming 89 (codes "dcl_constantbuffer") Constant 0 Base ∷
    declaring 95 (codes "dcl_input") (Some Input) 0 ∷
    declaring 104 (codes "dcl_temps") None 1 ∷
    declaring 105 (codes "dcl_indexableTemp") None 3 ∷
    declaring 106 (codes "dcl_globalFlags") None 0 ∷
    declaring 155 (codes "dcl_thread_group") None 3 ∷
    naming 157 (codes "dcl_uav_raw") Uav 0 Base ∷
    naming 158 (codes "dcl_uav_structured") Uav 1 Base ∷
    naming 159 (codes "dcl_tgsm_raw") Shared 1 Base ∷
    naming 160 (codes "dcl_tgsm_structured") Shared 2 Base ∷
    naming 161 (codes "dcl_resource_raw") Resource 0 Base ∷
    naming 162 (codes "dcl_resource_structured") Resource 1 Base ∷
    naming 88 (codes "dcl_resource") Resource 1 Typed ∷
    naming 156 (codes "dcl_uav_typed") Uav 1 Typed ∷
    []

-- what the row of an opcode says, where the profile has one
abbrev pub layout_in : Profile → ℕ → List DeclarationRow → Option Layout
layout_in profile code [] = None
layout_in profile code (row ∷ rows) =
    if includes profile row.since && nat_eq row.code code then Some (record { role = row.role; kind = row.kind; words = row.words })
    else layout_in profile code rows

-- what follows the opcode's tokens, where the profile has a declaration of it
unfoldable pub layout_of : Profile → ℕ → Option Layout
layout_of profile code = layout_in profile code declaration_table

-- an instruction or a declaration of the profile
abbrev pub is_known : Profile → ℕ → Bool
is_known profile code = is_some (form_of profile code) || is_some (layout_of profile code)

-- the roles of the opcode's operands, in order
abbrev pub roles_by : Option Form → Option Layout → List Role
roles_by (Some form) layout = roles_of form
roles_by None None = []
roles_by None (Some layout) = one_role layout.role
  where
    one_role : Option Role → List Role
    one_role None = []
    one_role (Some role) = role ∷ []

abbrev pub roles_at : Profile → ℕ → List Role
roles_at profile code = roles_by (form_of profile code) (layout_of profile code)

abbrev pub HasRole : Profile → ℕ → Role → Type 0
HasRole profile code role = Contains (roles_at profile code) role
