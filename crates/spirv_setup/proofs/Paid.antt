-- What is declared, against the words of a program.
use Rattle.std.proofs.Common.{◌≡◌, ℕ, ◌+◌, ◌*◌, ◌≤◌, List, length, ap, arith}
use Rattle.std.specs.Prelude.{sum_by}
use Rattle.tpf_decode.specs.Profiles.{Base}
use Rattle.tpf_program.specs.Program.{Shader}
use Rattle.tpf_program.specs.Spelling.{Spells}
use Rattle.binding_map.specs.Bindings.{Binding, IsMap}
use Rattle.spirv_symbols.specs.declared.entry.Entry.{Entry}
use Rattle.spirv_symbols.specs.Modules.{interface}
use Rattle.spirv_emit.specs.Growing.{globals_in}
use Rattle.spirv_setup.specs.Premises.{IsDeclared, declared_ids, declared_words}
use Rattle.spirv_setup.specs.Variables.{variables}
use Rattle.spirv_setup.proofs.Counted.{parts_few}
use Rattle.spirv_setup.proofs.Few.{two_a_declaration, interface_few}

words_sum : (v d c l w i : ℕ) → v ≤ 2 * d + 1 → i ≤ v → d + c + l + 2 ≤ w
    → 43 * (v + d) + 5 * c + 99 + i + 66 + 256 * l ≤ 256 * w + 8192
words_sum v d c l w i a b h = omega arith

ids_sum : (v d c l w : ℕ) → v ≤ 2 * d + 1 → d + c + l + 2 ≤ w → 6 * (v + d) + c + 27 + 6 + 48 * l ≤ 48 * w + 4096
ids_sum v d c l w a h = omega arith

pub listed_few : (p : Shader) (tokens : List ℕ) → Spells Base p tokens
    → (length p.declarations ≤ p.words) × (length p.constants ≤ p.words)
listed_few p tokens s = let n = parts_few p tokens s in (omega (arith, n), omega (arith, n))

pub words_enough : (p : Shader) (bindings : List Binding) (tokens : List ℕ) (version : ℕ) (entries : List Entry)
    → Spells Base p tokens → IsDeclared p → IsMap bindings → globals_in entries ≡ variables p bindings
    → declared_words p bindings + length (interface version entries) + 66 + 256 * sum_by (λ i. i.length) p.instructions ≤ 256 * p.words + 8192
words_enough p bindings tokens version entries s h map e =
    let n = interface_few version entries in let l = ap length e in
    words_sum (length (variables p bindings)) (length p.declarations) (length p.constants) (sum_by (λ i. i.length) p.instructions) p.words
    (length (interface version entries)) (two_a_declaration p bindings h map) (omega (arith, n, l)) (parts_few p tokens s)

pub ids_enough : (p : Shader) (bindings : List Binding) (tokens : List ℕ) → Spells Base p tokens → IsDeclared p → IsMap bindings
    → declared_ids p bindings + 6 + 48 * sum_by (λ i. i.length) p.instructions ≤ 48 * p.words + 4096
ids_enough p bindings tokens s h map =
    ids_sum (length (variables p bindings)) (length p.declarations) (length p.constants) (sum_by (λ i. i.length) p.instructions) p.words
    (two_a_declaration p bindings h map) (parts_few p tokens s)
