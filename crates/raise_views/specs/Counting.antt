-- HOW MANY NODES a guarded instruction takes at most, by its operands.
use Rattle.std.specs.Prelude.{ℕ, ◌+◌, ◌*◌, if◌then◌else◌}
use Rattle.tpf_decode.specs.declared.argument.Kind.{Kind}
use Rattle.tpf_decode.specs.declared.argument.Kind.TheVariants as kind
use Rattle.tpf_decode.specs.declared.meaning.Meaning.{Meaning}
use Rattle.tpf_decode.specs.declared.meaning.Meaning.TheVariants.{LoadRaw, LoadStructured, StoreRaw, StoreStructured, Acts, Compares, Fetches, Exchanges, Allocates, Consumes}
use Rattle.raise_operands.specs.declared.operand.Operands.{Operands}
use Rattle.raise_operands.specs.Building.{known_target, source_nodes}
use Rattle.raise_operands.specs.Laws.{writes_nodes}
use Rattle.raise_views.specs.declared.address.Way.{Way}
use Rattle.raise_views.specs.declared.writing.Given.{Given}
use Rattle.raise_views.specs.Giving.{given_nodes}
use Rattle.raise_views.specs.Guarding.{has_result}
use Rattle.raise_views.specs.Making.{more}

-- what is kept of an address
abbrev pub kept_nodes : Meaning → Operands → ℕ
kept_nodes LoadStructured os = source_nodes os.o1.argument + source_nodes os.o2.argument + 5
kept_nodes StoreStructured os = source_nodes os.o1.argument + source_nodes os.o2.argument + 5
kept_nodes (Acts kind) os = source_nodes os.o1.argument + source_nodes os.o1.argument + 5
kept_nodes Compares os = source_nodes os.o1.argument + source_nodes os.o1.argument + 5
kept_nodes (Fetches kind) os = source_nodes os.o2.argument + source_nodes os.o2.argument + 5
kept_nodes Exchanges os = source_nodes os.o2.argument + source_nodes os.o2.argument + 5
kept_nodes other os = source_nodes os.o1.argument + 5

-- what makes its events: nothing is loaded for the null operand
abbrev pub load_nodes : Kind → ℕ → ℕ
load_nodes kind.Null n = 0
load_nodes other n = n

abbrev pub loads_nodes : Way → Operands → ℕ
loads_nodes way os = load_nodes os.o0.argument.kind (4 * (14 + more way))

abbrev pub parts_nodes : Meaning → Way → Operands → ℕ
parts_nodes LoadRaw way os = loads_nodes way os
parts_nodes LoadStructured way os = loads_nodes way os
parts_nodes StoreRaw way os = 4 * (source_nodes os.o2.argument + 11 + more way) + 2
parts_nodes StoreStructured way os = 4 * (source_nodes os.o3.argument + 11 + more way) + 2
parts_nodes (Acts kind) way os = source_nodes os.o2.argument + (16 + more way)
parts_nodes Compares way os = source_nodes os.o2.argument + source_nodes os.o3.argument + (16 + more way)
parts_nodes (Fetches kind) way os = source_nodes os.o3.argument + (16 + more way)
parts_nodes Exchanges way os = source_nodes os.o3.argument + source_nodes os.o4.argument + (16 + more way)
parts_nodes Allocates way os = 5
parts_nodes Consumes way os = 5
parts_nodes other way os = 0

-- what writes its words
abbrev pub results_nodes : Meaning → Given → Operands → ℕ
results_nodes m given os = if has_result m then 4 * (given_nodes given + 1) + writes_nodes (known_target os.o0) else 0

-- how many nodes a word that an instruction gives takes at most: a step down subtracts
abbrev pub given_most : Meaning → ℕ
given_most Consumes = 3
given_most other = 1

-- the work of an instruction whose operands are begun: it keeps its address and makes its events, and writes its words
abbrev pub events_nodes : Meaning → Way → Operands → ℕ
events_nodes m way os = kept_nodes m os + parts_nodes m way os

abbrev pub work_nodes : Meaning → Way → Given → Operands → ℕ
work_nodes m way given os = events_nodes m way os + results_nodes m given os
