-- The opcodes as the public header numbers them, and the names of operations, each against the tables: a row's number, name and
-- meaning belong together. (d3d11TokenizedProgramFormat.hpp: D3D10_SB_OPCODE_TYPE, whose values run from 0 in this order.)
use Rattle.std.specs.Prelude.{◌≡◌, ℕ, suc, nat_eq, if◌then◌else◌, List, [], ◌∷◌, ◌++◌, map, Option, Some, None, codes, refl}
use Rattle.word_base.specs.declared.event.Act.{Act}
use Rattle.word_base.specs.declared.event.Act.TheVariants as act
use Rattle.word_base.specs.declared.arithmetic.Unary.{Unary}
use Rattle.word_base.specs.declared.arithmetic.Unary.TheVariants as one
use Rattle.word_base.specs.declared.arithmetic.Binary.{Binary}
use Rattle.word_base.specs.declared.arithmetic.Binary.TheVariants as two
use Rattle.word_base.specs.declared.arithmetic.Ternary.{Ternary}
use Rattle.word_base.specs.declared.arithmetic.Ternary.TheVariants as three
use Rattle.word_base.specs.declared.arithmetic.Paired.{Paired}
use Rattle.word_base.specs.declared.arithmetic.Paired.TheVariants as paired
use Rattle.tpf_decode.specs.Profiles.{Typed}
use Rattle.tpf_decode.specs.declared.meaning.Meaning.{Meaning}
use Rattle.tpf_decode.specs.declared.meaning.Meaning.TheVariants.{One, Two, Three, Inserts, Pair, Swaps, LoadRaw, LoadStructured, LoadTyped, StoreRaw, StoreStructured, StoreTyped, Measures, Acts, Compares, Fetches, Exchanges, Allocates, Consumes, Syncs, If, Else, EndIf, Loop, EndLoop, Continue, ContinueIf, Switch, Case, Default, EndSwitch, Break, BreakIf, Return, ReturnIf, Nop}
use Rattle.tpf_decode.specs.Opcodes.{Opcode, opcode_table, meaning_of}
use Rattle.tpf_decode.specs.Declarations.{DeclarationRow, declaration_table}

-- names of opcodes that follow each other, from a number on
abbrev pub from : ℕ → List (List ℕ) → List (ℕ × List ℕ)
from code [] = []
from code (name ∷ names) = (code, name) ∷ from (suc code) names

-- the header's opcodes that a table names, as assembly text writes them
abbrev pub enumerators : List (ℕ × List ℕ)
enumerators =
    from 1 (codes "and" ∷ codes "break" ∷ codes "breakc" ∷ []) ++
    from 6 (codes "case" ∷ codes "continue" ∷ codes "continuec" ∷ []) ++
    from 10 (codes "default" ∷ []) ++
    from 18 (codes "else" ∷ []) ++
    from 21 (codes "endif" ∷ codes "endloop" ∷ codes "endswitch" ∷ []) ++
    from 30 (codes "iadd" ∷ codes "if" ∷ codes "ieq" ∷ codes "ige" ∷ codes "ilt" ∷ codes "imad" ∷ codes "imax" ∷
    codes "imin" ∷ codes "imul" ∷ codes "ine" ∷ codes "ineg" ∷ codes "ishl" ∷ codes "ishr" ∷ []) ++
    from 45 (codes "ld" ∷ []) ++
    from 48 (codes "loop" ∷ []) ++
    from 54 (codes "mov" ∷ codes "movc" ∷ []) ++
    from 58 (codes "nop" ∷ codes "not" ∷ codes "or" ∷ []) ++
    from 62 (codes "ret" ∷ codes "retc" ∷ []) ++
    from 76 (codes "switch" ∷ []) ++
    from 78 (codes "udiv" ∷ codes "ult" ∷ codes "uge" ∷ codes "umul" ∷ codes "umad" ∷ codes "umax" ∷ codes "umin" ∷
    codes "ushr" ∷ []) ++
    from 87 (codes "xor" ∷ codes "dcl_resource" ∷ codes "dcl_constantbuffer" ∷ []) ++
    from 95 (codes "dcl_input" ∷ []) ++
    from 104 (codes "dcl_temps" ∷ codes "dcl_indexableTemp" ∷ codes "dcl_globalFlags" ∷ []) ++
    from 121 (codes "bufinfo" ∷ []) ++
    from 132 (codes "uaddc" ∷ codes "usubb" ∷ codes "countbits" ∷ codes "firstbit_hi" ∷ codes "firstbit_lo" ∷
    codes "firstbit_shi" ∷ codes "ubfe" ∷ codes "ibfe" ∷ codes "bfi" ∷ codes "bfrev" ∷ codes "swapc" ∷ []) ++
    from 155 (codes "dcl_thread_group" ∷ codes "dcl_uav_typed" ∷ codes "dcl_uav_raw" ∷ codes "dcl_uav_structured" ∷
    codes "dcl_tgsm_raw" ∷ codes "dcl_tgsm_structured" ∷ codes "dcl_resource_raw" ∷
    codes "dcl_resource_structured" ∷ codes "ld_uav_typed" ∷ codes "store_uav_typed" ∷ codes "ld_raw" ∷
    codes "store_raw" ∷ codes "ld_structured" ∷ codes "store_structured" ∷ codes "atomic_and" ∷
    codes "atomic_or" ∷ codes "atomic_xor" ∷ codes "atomic_cmp_store" ∷ codes "atomic_iadd" ∷
    codes "atomic_imax" ∷ codes "atomic_imin" ∷ codes "atomic_umax" ∷ codes "atomic_umin" ∷
    codes "imm_atomic_alloc" ∷ codes "imm_atomic_consume" ∷ codes "imm_atomic_iadd" ∷ codes "imm_atomic_and" ∷
    codes "imm_atomic_or" ∷ codes "imm_atomic_xor" ∷ codes "imm_atomic_exch" ∷ codes "imm_atomic_cmp_exch" ∷
    codes "imm_atomic_imax" ∷ codes "imm_atomic_imin" ∷ codes "imm_atomic_umax" ∷ codes "imm_atomic_umin" ∷
    codes "sync" ∷ [])

abbrev pub enumerator_in : ℕ → List (ℕ × List ℕ) → Option (List ℕ)
enumerator_in code [] = None
enumerator_in code (entry ∷ entries) = if nat_eq entry.0 code then Some entry.1 else enumerator_in code entries

abbrev pub enumerator : ℕ → Option (List ℕ)
enumerator code = enumerator_in code enumerators

-- Every row has the header's number.
pub instructions_are_numbered :
    map (λ (row : Opcode). enumerator row.code) opcode_table ≡ map (λ (row : Opcode). Some row.name) opcode_table
unfolding opcode_table
instructions_are_numbered = refl

pub declarations_are_numbered :
    map (λ (row : DeclarationRow). enumerator row.code) declaration_table ≡ map (λ (row : DeclarationRow). Some row.name) declaration_table
unfolding declaration_table
declarations_are_numbered = refl

-- The names of operations.
abbrev pub unary_name : Unary → List ℕ
unary_name one.Mov = codes "mov"
unary_name one.Not = codes "not"
unary_name one.Ineg = codes "ineg"
unary_name one.Bfrev = codes "bfrev"
unary_name one.Countbits = codes "countbits"
unary_name one.FirstbitHi = codes "firstbit_hi"
unary_name one.FirstbitLo = codes "firstbit_lo"
unary_name one.FirstbitShi = codes "firstbit_shi"

abbrev pub binary_name : Binary → List ℕ
binary_name two.Iadd = codes "iadd"
binary_name two.And = codes "and"
binary_name two.Or = codes "or"
binary_name two.Xor = codes "xor"
binary_name two.Ishl = codes "ishl"
binary_name two.Ishr = codes "ishr"
binary_name two.Ushr = codes "ushr"
binary_name two.Ieq = codes "ieq"
binary_name two.Ine = codes "ine"
binary_name two.Ige = codes "ige"
binary_name two.Ilt = codes "ilt"
binary_name two.Uge = codes "uge"
binary_name two.Ult = codes "ult"
binary_name two.Imax = codes "imax"
binary_name two.Imin = codes "imin"
binary_name two.Umax = codes "umax"
binary_name two.Umin = codes "umin"

abbrev pub ternary_name : Ternary → List ℕ
ternary_name three.Imad = codes "imad"
ternary_name three.Umad = codes "umad"
ternary_name three.Movc = codes "movc"
ternary_name three.Ubfe = codes "ubfe"
ternary_name three.Ibfe = codes "ibfe"

abbrev pub paired_name : Paired → List ℕ
paired_name paired.Imul = codes "imul"
paired_name paired.Umul = codes "umul"
paired_name paired.Udiv = codes "udiv"
paired_name paired.Uaddc = codes "uaddc"
paired_name paired.Usubb = codes "usubb"

-- what an atomic does, in its name; no instruction subtracts
abbrev pub act_name : Act → List ℕ
act_name act.Add = codes "iadd"
act_name act.Sub = codes "isub"
act_name act.And = codes "and"
act_name act.Or = codes "or"
act_name act.Xor = codes "xor"
act_name act.SMax = codes "imax"
act_name act.SMin = codes "imin"
act_name act.UMax = codes "umax"
act_name act.UMin = codes "umin"
act_name act.Exchange = codes "exch"
act_name act.CompareExchange = codes "cmp_exch"

-- the name of the instruction that means it, and of typed loads the one from a view that is only read
abbrev pub name_of : Meaning → List ℕ
name_of (One op) = unary_name op
name_of (Two op) = binary_name op
name_of (Three op) = ternary_name op
name_of Inserts = codes "bfi"
name_of (Pair op) = paired_name op
name_of Swaps = codes "swapc"
name_of LoadRaw = codes "ld_raw"
name_of LoadStructured = codes "ld_structured"
name_of LoadTyped = codes "ld"
name_of StoreRaw = codes "store_raw"
name_of StoreStructured = codes "store_structured"
name_of StoreTyped = codes "store_uav_typed"
name_of Measures = codes "bufinfo"
name_of (Acts kind) = codes "atomic_" ++ act_name kind
name_of Compares = codes "atomic_cmp_store"
name_of (Fetches kind) = codes "imm_atomic_" ++ act_name kind
name_of Exchanges = codes "imm_atomic_cmp_exch"
name_of Allocates = codes "imm_atomic_alloc"
name_of Consumes = codes "imm_atomic_consume"
name_of Syncs = codes "sync"
name_of If = codes "if"
name_of Else = codes "else"
name_of EndIf = codes "endif"
name_of Loop = codes "loop"
name_of EndLoop = codes "endloop"
name_of Continue = codes "continue"
name_of ContinueIf = codes "continuec"
name_of Switch = codes "switch"
name_of Case = codes "case"
name_of Default = codes "default"
name_of EndSwitch = codes "endswitch"
name_of Break = codes "break"
name_of BreakIf = codes "breakc"
name_of Return = codes "ret"
name_of ReturnIf = codes "retc"
name_of Nop = codes "nop"

-- Every row has its meaning's name; `ld_uav_typed` loads as `ld` does, from another view.
abbrev pub name_by : Opcode → List ℕ
name_by row = if nat_eq row.code 163 then codes "ld_uav_typed" else name_of row.meaning

pub meanings_are_named : map name_by opcode_table ≡ map (λ (row : Opcode). row.name) opcode_table
unfolding opcode_table
meanings_are_named = refl

-- No row stands twice: each is what is found by its number.
pub rows_are_single : map (λ (row : Opcode). meaning_of Typed row.code) opcode_table ≡ map (λ (row : Opcode). Some row.meaning) opcode_table
unfolding meaning_of opcode_table
rows_are_single = refl
