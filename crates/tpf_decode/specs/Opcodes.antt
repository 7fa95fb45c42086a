-- The opcode table: each instruction with its opcode, its name in assembly text, what it does, and the first profile that has it. Its
-- operands follow from what it does. Declarations and custom data stand beside it. (d3d11TokenizedProgramFormat.hpp:
-- D3D10_SB_OPCODE_TYPE; Shader Model 5 assembly: the instructions of these names.)
use Rattle.std.specs.Prelude.{◌≡◌, ℕ, nat_eq, ◌&&◌, if◌then◌else◌, Bool, true, false, List, [], ◌∷◌, ◌++◌, Option, Some, None, codes, refl}
use Rattle.std.specs.Option.{option_map}
use Rattle.word_base.specs.declared.event.Act.TheVariants as act
use Rattle.word_base.specs.declared.arithmetic.Unary.TheVariants as one
use Rattle.word_base.specs.declared.arithmetic.Binary.TheVariants as two
use Rattle.word_base.specs.declared.arithmetic.Ternary.TheVariants as three
use Rattle.word_base.specs.declared.arithmetic.Paired.TheVariants as paired
use Rattle.tpf_decode.specs.Profiles.{Profile, Base, Typed, includes}
use Rattle.tpf_decode.specs.declared.argument.Role.{Role}
use Rattle.tpf_decode.specs.declared.argument.Role.TheVariants as role
use Rattle.tpf_decode.specs.declared.meaning.Meaning.{Meaning}
use Rattle.tpf_decode.specs.declared.meaning.Meaning.TheVariants.{One, Two, Three, Inserts, Pair, Swaps, LoadRaw, LoadStructured, LoadTyped, StoreRaw, StoreStructured, StoreTyped, Measures, Acts, Compares, Fetches, Exchanges, Allocates, Consumes, Syncs, If, Else, EndIf, Loop, EndLoop, Continue, ContinueIf, Switch, Case, Default, EndSwitch, Break, BreakIf, Return, ReturnIf, Nop}
use Rattle.tpf_decode.specs.declared.opcode.Form.{Form}
use Rattle.tpf_decode.specs.declared.opcode.Form.TheVariants as form

pub record Opcode : Type 0 where
  pub code : ℕ
  pub name : List ℕ
  pub meaning : Meaning
  pub since : Profile

abbrev pub base : ℕ → List ℕ → Meaning → Opcode
base code name meaning = record { code = code; name = name; meaning = meaning; since = Base }

abbrev pub typed : ℕ → List ℕ → Meaning → Opcode
typed code name meaning = record { code = code; name = name; meaning = meaning; since = Typed }

-- arithmetic on words
abbrev pub arithmetic_rows : List Opcode
arithmetic_rows =
    base 54 (codes "mov") (One one.Mov) ∷
    base 59 (codes "not") (One one.Not) ∷
    base 40 (codes "ineg") (One one.Ineg) ∷
    base 141 (codes "bfrev") (One one.Bfrev) ∷
    base 134 (codes "countbits") (One one.Countbits) ∷
    base 135 (codes "firstbit_hi") (One one.FirstbitHi) ∷
    base 136 (codes "firstbit_lo") (One one.FirstbitLo) ∷
    base 137 (codes "firstbit_shi") (One one.FirstbitShi) ∷
    base 30 (codes "iadd") (Two two.Iadd) ∷
    base 1 (codes "and") (Two two.And) ∷
    base 60 (codes "or") (Two two.Or) ∷
    base 87 (codes "xor") (Two two.Xor) ∷
    base 41 (codes "ishl") (Two two.Ishl) ∷
    base 42 (codes "ishr") (Two two.Ishr) ∷
    base 85 (codes "ushr") (Two two.Ushr) ∷
    base 32 (codes "ieq") (Two two.Ieq) ∷
    base 39 (codes "ine") (Two two.Ine) ∷
    base 33 (codes "ige") (Two two.Ige) ∷
    base 34 (codes "ilt") (Two two.Ilt) ∷
    base 80 (codes "uge") (Two two.Uge) ∷
    base 79 (codes "ult") (Two two.Ult) ∷
    base 36 (codes "imax") (Two two.Imax) ∷
    base 37 (codes "imin") (Two two.Imin) ∷
    base 83 (codes "umax") (Two two.Umax) ∷
    base 84 (codes "umin") (Two two.Umin) ∷
    base 35 (codes "imad") (Three three.Imad) ∷
    base 82 (codes "umad") (Three three.Umad) ∷
    base 55 (codes "movc") (Three three.Movc) ∷
    base 138 (codes "ubfe") (Three three.Ubfe) ∷
    base 139 (codes "ibfe") (Three three.Ibfe) ∷
    base 140 (codes "bfi") Inserts ∷
    base 38 (codes "imul") (Pair paired.Imul) ∷
    base 81 (codes "umul") (Pair paired.Umul) ∷
    base 78 (codes "udiv") (Pair paired.Udiv) ∷
    base 132 (codes "uaddc") (Pair paired.Uaddc) ∷
    base 133 (codes "usubb") (Pair paired.Usubb) ∷
    base 142 (codes "swapc") Swaps ∷
    []

-- views, their lengths and counters, shared memory, and its order
abbrev pub memory_rows : List Opcode
memory_rows =
    base 165 (codes "ld_raw") LoadRaw ∷
    base 167 (codes "ld_structured") LoadStructured ∷
    base 166 (codes "store_raw") StoreRaw ∷
    base 168 (codes "store_structured") StoreStructured ∷
    base 121 (codes "bufinfo") Measures ∷
    base 169 (codes "atomic_and") (Acts act.And) ∷
    base 170 (codes "atomic_or") (Acts act.Or) ∷
    base 171 (codes "atomic_xor") (Acts act.Xor) ∷
    base 173 (codes "atomic_iadd") (Acts act.Add) ∷
    base 174 (codes "atomic_imax") (Acts act.SMax) ∷
    base 175 (codes "atomic_imin") (Acts act.SMin) ∷
    base 176 (codes "atomic_umax") (Acts act.UMax) ∷
    base 177 (codes "atomic_umin") (Acts act.UMin) ∷
    base 172 (codes "atomic_cmp_store") Compares ∷
    base 180 (codes "imm_atomic_iadd") (Fetches act.Add) ∷
    base 181 (codes "imm_atomic_and") (Fetches act.And) ∷
    base 182 (codes "imm_atomic_or") (Fetches act.Or) ∷
    base 183 (codes "imm_atomic_xor") (Fetches act.Xor) ∷
    base 184 (codes "imm_atomic_exch") (Fetches act.Exchange) ∷
    base 186 (codes "imm_atomic_imax") (Fetches act.SMax) ∷
    base 187 (codes "imm_atomic_imin") (Fetches act.SMin) ∷
    base 188 (codes "imm_atomic_umax") (Fetches act.UMax) ∷
    base 189 (codes "imm_atomic_umin") (Fetches act.UMin) ∷
    base 185 (codes "imm_atomic_cmp_exch") Exchanges ∷
    base 178 (codes "imm_atomic_alloc") Allocates ∷
    base 179 (codes "imm_atomic_consume") Consumes ∷
    base 190 (codes "sync") Syncs ∷
    []

-- control flow
abbrev pub flow_rows : List Opcode
flow_rows =
    base 31 (codes "if") If ∷
    base 3 (codes "breakc") BreakIf ∷
    base 8 (codes "continuec") ContinueIf ∷
    base 63 (codes "retc") ReturnIf ∷
    base 76 (codes "switch") Switch ∷
    base 6 (codes "case") Case ∷
    base 2 (codes "break") Break ∷
    base 7 (codes "continue") Continue ∷
    base 10 (codes "default") Default ∷
    base 18 (codes "else") Else ∷
    base 21 (codes "endif") EndIf ∷
    base 22 (codes "endloop") EndLoop ∷
    base 23 (codes "endswitch") EndSwitch ∷
    base 48 (codes "loop") Loop ∷
    base 58 (codes "nop") Nop ∷
    base 62 (codes "ret") Return ∷
    []

-- typed views
abbrev pub typed_rows : List Opcode
typed_rows =
    typed 45 (codes "ld") LoadTyped ∷
    typed 163 (codes "ld_uav_typed") LoadTyped ∷
    typed 164 (codes "store_uav_typed") StoreTyped ∷
    []

unfoldable pub opcode_table : List Opcode
opcode_table = arithmetic_rows ++ (memory_rows ++ (flow_rows ++ typed_rows))

-- what the row of an opcode says, where the profile has one
abbrev pub meaning_in : Profile → ℕ → List Opcode → Option Meaning
meaning_in profile code [] = None
meaning_in profile code (row ∷ rows) =
    if includes profile row.since && nat_eq row.code code then Some row.meaning else meaning_in profile code rows

-- what the opcode's instruction does, where the profile has one
unfoldable pub meaning_of : Profile → ℕ → Option Meaning
meaning_of profile code = meaning_in profile code opcode_table

-- which operands it takes
abbrev pub form_of_meaning : Meaning → Form
form_of_meaning (One op) = form.Unary
form_of_meaning (Two op) = form.Binary
form_of_meaning (Three op) = form.Ternary
form_of_meaning Inserts = form.Insert
form_of_meaning (Pair op) = form.Paired
form_of_meaning Swaps = form.Swap
form_of_meaning LoadRaw = form.LoadRaw
form_of_meaning LoadStructured = form.LoadStructured
form_of_meaning LoadTyped = form.LoadRaw
form_of_meaning StoreRaw = form.StoreRaw
form_of_meaning StoreStructured = form.StoreStructured
form_of_meaning StoreTyped = form.StoreRaw
form_of_meaning Measures = form.Size
form_of_meaning (Acts kind) = form.Atomic
form_of_meaning Compares = form.AtomicCompare
form_of_meaning (Fetches kind) = form.ImmediateAtomic
form_of_meaning Exchanges = form.ImmediateCompare
form_of_meaning Allocates = form.Counter
form_of_meaning Consumes = form.Counter
form_of_meaning If = form.Condition
form_of_meaning ContinueIf = form.Condition
form_of_meaning Switch = form.Condition
form_of_meaning BreakIf = form.Condition
form_of_meaning ReturnIf = form.Condition
form_of_meaning Case = form.Case
form_of_meaning meaning = form.Plain

unfoldable pub form_of : Profile → ℕ → Option Form
form_of profile code = option_map form_of_meaning (meaning_of profile code)

-- the roles of an instruction's operands, in the order of its words
abbrev pub roles_of : Form → List Role
roles_of form.Unary = role.Dest ∷ role.Source ∷ []
roles_of form.Binary = role.Dest ∷ role.Source ∷ role.Source ∷ []
roles_of form.Ternary = role.Dest ∷ role.Source ∷ role.Source ∷ role.Source ∷ []
roles_of form.Insert = role.Dest ∷ role.Source ∷ role.Source ∷ role.Source ∷ role.Source ∷ []
roles_of form.Paired = role.Dest ∷ role.Dest ∷ role.Source ∷ role.Source ∷ []
roles_of form.Swap = role.Dest ∷ role.Dest ∷ role.Source ∷ role.Source ∷ role.Source ∷ []
roles_of form.LoadRaw = role.Dest ∷ role.Scalar ∷ role.ViewRead ∷ []
roles_of form.LoadStructured = role.Dest ∷ role.Scalar ∷ role.Scalar ∷ role.ViewRead ∷ []
roles_of form.StoreRaw = role.ViewWrite ∷ role.Scalar ∷ role.Source ∷ []
roles_of form.StoreStructured = role.ViewWrite ∷ role.Scalar ∷ role.Scalar ∷ role.Source ∷ []
roles_of form.Size = role.Dest ∷ role.ViewRead ∷ []
roles_of form.Atomic = role.ViewName ∷ role.Pair ∷ role.Scalar ∷ []
roles_of form.AtomicCompare = role.ViewName ∷ role.Pair ∷ role.Scalar ∷ role.Scalar ∷ []
roles_of form.ImmediateAtomic = role.Dest ∷ role.ViewName ∷ role.Pair ∷ role.Scalar ∷ []
roles_of form.ImmediateCompare = role.Dest ∷ role.ViewName ∷ role.Pair ∷ role.Scalar ∷ role.Scalar ∷ []
roles_of form.Counter = role.Dest ∷ role.ViewName ∷ []
roles_of form.Condition = role.Scalar ∷ []
roles_of form.Case = role.Literal ∷ []
roles_of form.Plain = []

-- The first operand is a destination: arithmetic, loads, bufinfo and all atomics that give the old word.
abbrev pub is_result : Option Form → Bool
is_result (Some form.StoreRaw) = false
is_result (Some form.StoreStructured) = false
is_result (Some form.Atomic) = false
is_result (Some form.AtomicCompare) = false
is_result (Some form.Condition) = false
is_result (Some form.Case) = false
is_result (Some form.Plain) = false
is_result (Some gives) = true
is_result None = false

-- Arithmetic whose sources may be negated, but for moves.
abbrev pub is_arithmetic : Option Form → Bool
is_arithmetic (Some form.Unary) = true
is_arithmetic (Some form.Binary) = true
is_arithmetic (Some form.Ternary) = true
is_arithmetic (Some form.Insert) = true
is_arithmetic (Some form.Paired) = true
is_arithmetic other = false

-- Examples.
pub imad_form : form_of Base 35 ≡ Some form.Ternary
unfolding form_of meaning_of opcode_table
imad_form = refl

pub no_floats : meaning_of Typed 0 ≡ None
unfolding meaning_of opcode_table
no_floats = refl

pub loads_of_typed_views : form_of Typed 45 ≡ Some form.LoadRaw
unfolding form_of meaning_of opcode_table
loads_of_typed_views = refl

pub no_typed_views_in_base : meaning_of Base 45 ≡ None
unfolding meaning_of opcode_table
no_typed_views_in_base = refl
