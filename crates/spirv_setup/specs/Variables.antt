-- The global variables of a module of a program under its binding map, in their order: one for each register that the
-- program has and that is at a descriptor, the push constants, shared memory by its slots, and the thread ids.
use Rattle.std.specs.Prelude.{ℕ, nat_eq, nat_lt, if◌then◌else◌, Bool, List, ◌++◌, Option, Some, None, option_map}
use Rattle.std.specs.List.{list_any, filter_map, range_with_len}
use Rattle.word_base.specs.declared.event.Room.TheVariants as room
use Rattle.tpf_program.specs.Extents.{is_resource, is_uav, steps_counter}
use Rattle.tpf_program.specs.Program.{Shader}
use Rattle.tpf_program.specs.Sizes.{vectors_of}
use Rattle.binding_map.specs.declared.register.Register.{Register}
use Rattle.binding_map.specs.declared.register.Register.TheVariants.{Constant, Resource, Uav, Counter}
use Rattle.binding_map.specs.declared.register.Place.{Place}
use Rattle.binding_map.specs.declared.register.Place.TheVariants.{Bound, Push as InPush}
use Rattle.binding_map.specs.Bindings.{Binding}
use Rattle.spirv_symbols.specs.declared.symbol.Symbol.{Symbol}
use Rattle.spirv_symbols.specs.declared.symbol.Symbol.TheVariants.{Input, Memory, Uniform, Push}
use Rattle.spirv_setup.specs.Describing.{of_some}
use Rattle.binding_map.specs.SharedSlots.{has_words}
use Rattle.binding_map.specs.Wanted.{declares, input_of, push_words}

abbrev pub where_true : Bool → Symbol → Option Symbol
where_true b s = if b then Some s else None

-- the program has the register
abbrev pub has_register : Shader → Register → Bool
has_register p (Constant slot) = nat_lt 0 (vectors_of slot p.declarations)
has_register p (Resource slot) = declares is_resource p slot
has_register p (Uav slot) = declares is_uav p slot
has_register p (Counter slot) = list_any (steps_counter slot) p.instructions

abbrev pub symbol_of : Register → Symbol
symbol_of (Constant slot) = Uniform slot
symbol_of (Resource slot) = Memory (room.Resource slot)
symbol_of (Uav slot) = Memory (room.Uav slot)
symbol_of (Counter slot) = Memory (room.Counter slot)

abbrev pub variable_at : Shader → Register → Place → Option Symbol
variable_at p register (Bound set binding) = where_true (has_register p register) (symbol_of register)
variable_at p register (InPush first count) = None

abbrev pub bound_variables : Shader → List Binding → List Symbol
bound_variables p bindings = filter_map (λ b. variable_at p b.register b.place) bindings

abbrev pub push_variable : ℕ → Option Symbol
push_variable words = if nat_eq words 0 then None else Some Push

abbrev pub push_variables : ℕ → List Symbol
push_variables words = of_some (push_variable words)

abbrev pub shared_variables : Shader → List Symbol
shared_variables p = filter_map (λ slot. where_true (has_words p slot) (Memory (room.Shared slot))) (range_with_len 0 64)

abbrev pub thread_variables : Shader → List Symbol
thread_variables p = filter_map (λ d. option_map (λ built_in. Input built_in) (input_of d.what)) p.declarations

abbrev pub variables : Shader → List Binding → List Symbol
variables p bindings =
    bound_variables p bindings
    ++ (push_variables (push_words p bindings) ++ (shared_variables p ++ thread_variables p))
