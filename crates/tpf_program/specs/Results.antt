-- The registers that an instruction leaves, from those at its start and the words of its parts. (Shader Model 5 assembly: each
-- instruction.)
use Rattle.std.specs.Prelude.{ℕ, ◌*◌, ◌/◌, ◌%◌, ◌^◌, nat_eq, if◌then◌else◌, List, slice_index}
use Rattle.word_base.specs.declared.arithmetic.Paired.{Paired}
use Rattle.word_base.specs.Alu.{unary, binary, ternary, inserted_field, pair, difference}
use Rattle.word_base.specs.Registers.{Registers}
use Rattle.tpf_decode.specs.declared.argument.Argument.{Argument}
use Rattle.tpf_program.specs.declared.instruction.Instruction.{Instruction}
use Rattle.tpf_decode.specs.declared.meaning.Meaning.{Meaning}
use Rattle.tpf_decode.specs.declared.meaning.Meaning.TheVariants.{One, Two, Three, Inserts, Pair, Swaps, LoadRaw, LoadStructured, LoadTyped, Measures, Fetches, Exchanges, Allocates, Consumes}
use Rattle.tpf_program.specs.Sizes.{Addressing, Bytes, Structures, Words}
use Rattle.tpf_program.specs.Values.{Context, of_four, selected, value}
use Rattle.tpf_program.specs.Writes.{written, target, with_words, writes, writes_two}
use Rattle.tpf_program.specs.Views.{room_of, addressing}
use Rattle.tpf_program.specs.Plans.{has_counter}

-- each component from the same component of every source
abbrev pub arithmetic : Context → Argument → (ℕ → ℕ) → Registers
arithmetic k to word = writes k to word k.registers

abbrev pub pairs : Context → Paired → Instruction → Registers
pairs k op i =
    writes_two k i.o0 (λ c. (pair op (value k i.o2 c) (value k i.o3 c)).first) i.o1 (λ c. (pair op (value k i.o2 c) (value k i.o3 c)).second)

-- swapc: the two values, exchanged where the condition is not 0
abbrev pub swaps : Context → Instruction → Registers
swaps k i =
    writes_two k i.o0 (λ c. if nat_eq (value k i.o2 c) 0 then value k i.o3 c else value k i.o4 c)
    i.o1 (λ c. if nat_eq (value k i.o2 c) 0 then value k i.o4 c else value k i.o3 c)

-- bufinfo: the bytes of a raw view, modulo 2 ^ 32; the structures of a structured view and their bytes; it measures no typed view
abbrev pub measure_by : Addressing → ℕ → ℕ → ℕ
measure_by Bytes extent c = of_four (4 * extent % 2 ^ 32) 0 0 0 c
measure_by (Structures stride) extent c = of_four (extent / (stride / 4)) stride 0 0 c
measure_by Words extent c = 0

abbrev pub measure : Context → Argument → ℕ → ℕ
measure k view c = measure_by (addressing k view) (k.setting.extent (room_of view)) (selected view.select c)

-- what a load leaves, and an atomic: one word in every component
abbrev pub loaded : Context → Argument → List ℕ → Registers
loaded k to words = with_words (target k to) (written to) words k.registers

-- a typed load: its word, 0, 0 and 1, from which the view's selection picks
abbrev pub loaded_typed : Context → Argument → Argument → ℕ → Registers
loaded_typed k to view word = writes k to (λ c. of_four word 0 0 1 (selected view.select c)) k.registers

abbrev pub fetched : Context → Argument → ℕ → Registers
fetched k to word = writes k to (λ c. word) k.registers

-- a counter after a step down
abbrev pub stepped_down : Context → Argument → ℕ → ℕ
stepped_down k view word = if has_counter k view then difference word 1 else 0

abbrev pub outcome : Context → Meaning → Instruction → List ℕ → Registers
outcome k (One op) i words = arithmetic k i.o0 (λ c. unary op (value k i.o1 c))
outcome k (Two op) i words = arithmetic k i.o0 (λ c. binary op (value k i.o1 c) (value k i.o2 c))
outcome k (Three op) i words = arithmetic k i.o0 (λ c. ternary op (value k i.o1 c) (value k i.o2 c) (value k i.o3 c))
outcome k Inserts i words = arithmetic k i.o0 (λ c. inserted_field (value k i.o1 c) (value k i.o2 c) (value k i.o3 c) (value k i.o4 c))
outcome k (Pair op) i words = pairs k op i
outcome k Swaps i words = swaps k i
outcome k LoadRaw i words = loaded k i.o0 words
outcome k LoadStructured i words = loaded k i.o0 words
outcome k LoadTyped i words = loaded_typed k i.o0 i.o2 (slice_index words 0)
outcome k Measures i words = arithmetic k i.o0 (measure k i.o1)
outcome k (Fetches kind) i words = fetched k i.o0 (slice_index words 0)
outcome k Exchanges i words = fetched k i.o0 (slice_index words 0)
outcome k Allocates i words = fetched k i.o0 (slice_index words 0)
outcome k Consumes i words = fetched k i.o0 (stepped_down k i.o1 (slice_index words 0))
outcome k other i words = k.registers
