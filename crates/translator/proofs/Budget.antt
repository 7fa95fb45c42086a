-- The room of a workspace is enough for what a program declares and for its tree.
use Rattle.std.proofs.Common.{ℕ, ◌+◌, ◌-◌, ◌*◌, ◌≤◌, List, length, arith}
use Rattle.std.specs.Prelude.{map}
use Rattle.std.specs.List.{sum}
use Rattle.tpf_program.specs.Program.{Shader}
use Rattle.binding_map.specs.Bindings.{Binding}
use Rattle.kept_values.specs.Tables.{dirty_in}
use Rattle.spirv_symbols.specs.Tables.{weight}
use Rattle.spirv_emit.specs.Begun.{IsBegun}
use Rattle.spirv_emit.specs.Emission.{waiting_words, words_left}
use Rattle.spirv_emit.specs.declared.emitter.Emitter.{Emitter as Emission}
use Rattle.spirv_setup.specs.Premises.{declared_ids, declared_words}
use Rattle.spirv_setup.specs.Variables.{variables}

-- WHAT IS DECLARED fits, where there are few variables for each declaration.
words_few : (v d c w room : ℕ) → v ≤ 2 * d + 1 → d ≤ w → c ≤ w → 256 * w + 8192 ≤ room
    → 43 * (v + d) + 5 * c + 99 ≤ room
words_few v d c w room a b h k = omega arith

ids_few : (v d c w room : ℕ) → v ≤ 2 * d + 1 → d ≤ w → c ≤ w → 48 * w + 4096 ≤ room → 6 * (v + d) + c + 27 ≤ room
ids_few v d c w room a b h k = omega arith

pub declared_within : (p : Shader) (bindings : List Binding) (room : ℕ)
    → length (variables p bindings) ≤ 2 * length p.declarations + 1 → length p.declarations ≤ p.words
    → length p.constants ≤ p.words → 256 * p.words + 8192 ≤ room → declared_words p bindings ≤ room
declared_within p bindings room few ds cs h =
    words_few (length (variables p bindings)) (length p.declarations) (length p.constants) p.words room few ds cs h

pub named_within : (p : Shader) (bindings : List Binding) (room : ℕ)
    → length (variables p bindings) ≤ 2 * length p.declarations + 1 → length p.declarations ≤ p.words
    → length p.constants ≤ p.words → 48 * p.words + 4096 ≤ room → declared_ids p bindings ≤ room
named_within p bindings room few ds cs h =
    ids_few (length (variables p bindings)) (length p.declarations) (length p.constants) p.words room few ds cs h

-- THE CODE of the tree fits behind what is declared, and the rest of the module behind both: d words are declared, the
-- entry point lists n variables, the instructions have l words of w, and the tree takes t.
pub code_fits : (d n l w left t : ℕ) → d + n + 66 + 256 * l ≤ 256 * w + 8192 → 256 * w + 8192 ≤ left + d
    → t ≤ 256 * l → t + 44 ≤ left
code_fits d n l w left t a b h = omega arith

pub ids_fit : (d l w left t : ℕ) → d + 6 + 48 * l ≤ 48 * w + 4096 → 48 * w + 4096 ≤ left + d → t ≤ 48 * l → t + 6 ≤ left
ids_fit d l w left t a b h = omega arith

pub rest_fits : (d n l w before t behind : ℕ) → d + n + 66 + 256 * l ≤ 256 * w + 8192 → 256 * w + 8192 ≤ before + d
    → t ≤ 256 * l → before ≤ behind + t + 44 → n + 22 ≤ behind
rest_fits d n l w before t behind a b h k = omega arith

room_behind : (c s u n room : ℕ) → c + s + u ≤ room → n + 22 ≤ room - (c + s + u) → c + s + n + 22 ≤ room
room_behind c s u n room a h = omega arith

-- what the code and the table take, and so many words behind them, where they are left
pub finishes : (e : Emission) (n : ℕ) → IsBegun e → n + 22 ≤ words_left e
    → length e.code.list + weight e.frame.context e.symbols.entries + n + 22 ≤ e.code.capacity
unfolding words_left
finishes e n h k =
    room_behind (length e.code.list) (weight e.frame.context e.symbols.entries)
    (sum (map waiting_words (dirty_in e.kept))) n e.code.capacity h.words' k
