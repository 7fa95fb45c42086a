-- The variables that a program and its binding map want of a module.
use Rattle.std.specs.Prelude.{ℕ, ◌+◌, nat_eq, nat_lt, max, if◌then◌else◌, ◌&&◌, Bool, true, false, List, [], ◌∷◌, map, Option, Some, None}
use Rattle.std.specs.List.{list_any, filter_map}
use Rattle.word_base.specs.Settings.{Axes}
use Rattle.tpf_decode.specs.declared.argument.Kind.{Kind}
use Rattle.tpf_decode.specs.declared.argument.Kind.TheVariants.{ThreadId, GroupId, IdInGroup, FlatId}
use Rattle.tpf_program.specs.declared.declaration.Declaration.{Declaration}
use Rattle.tpf_program.specs.declared.declaration.Declaration.TheVariants.{Uav, Input}
use Rattle.tpf_program.specs.Declarations.{threads_in}
use Rattle.tpf_program.specs.Extents.{is_resource, is_uav, steps_counter, shared_extent}
use Rattle.tpf_program.specs.Program.{Shader}
use Rattle.tpf_program.specs.Sizes.{vectors_of}
use Rattle.spirv_words.specs.BuiltIn.{GlobalInvocationId, WorkgroupId, LocalInvocationId, LocalInvocationIndex}
use Rattle.spirv_words.specs.Variables.{WantedBuffer, WantedUniform, Wanted}
use Rattle.binding_map.specs.declared.register.Register.{Register}
use Rattle.binding_map.specs.declared.register.Register.TheVariants.{Constant, Resource, Uav as uav, Counter}
use Rattle.binding_map.specs.declared.register.Place.{Place}
use Rattle.binding_map.specs.declared.register.Place.TheVariants.{Bound, Push}
use Rattle.binding_map.specs.Bindings.{Binding}
use Rattle.binding_map.specs.SharedSlots.{shared_slots}

-- a u# that is declared as globally coherent
abbrev pub declares_coherent : ℕ → Declaration → Bool
declares_coherent slot (Uav s view coherent ordered) = nat_eq s slot && coherent
declares_coherent slot other = false

abbrev pub declares : (ℕ → Declaration → Bool) → Shader → ℕ → Bool
declares test p slot = list_any (λ d. test slot d.what) p.declarations

abbrev pub buffer_where : Bool → ℕ → ℕ → Bool → Bool → Option WantedBuffer
buffer_where true set binding read_only coherent =
    Some (record { set = set; binding = binding; is_read_only = read_only; is_coherent = coherent })
buffer_where false set binding read_only coherent = None

-- a declared view, or a counter that the program steps, at a descriptor
abbrev pub buffer_of : Shader → Register → Place → Option WantedBuffer
buffer_of p (Resource slot) (Bound set binding) = buffer_where (declares is_resource p slot) set binding true false
buffer_of p (uav slot) (Bound set binding) =
    buffer_where (declares is_uav p slot) set binding false (declares declares_coherent p slot)
buffer_of p (Counter slot) (Bound set binding) =
    buffer_where (list_any (steps_counter slot) p.instructions) set binding false false
buffer_of p register place = None

abbrev pub uniform_where : ℕ → ℕ → ℕ → Option WantedUniform
uniform_where vectors set binding =
    if nat_lt 0 vectors then Some (record { set = set; binding = binding; vectors = vectors }) else None

-- a declared constant buffer at a descriptor
abbrev pub uniform_of : Shader → Register → Place → Option WantedUniform
uniform_of p (Constant slot) (Bound set binding) = uniform_where (vectors_of slot p.declarations) set binding
uniform_of p register place = None

-- the push constant words up to the last of those of declared constant buffers
abbrev pub push_end : Shader → Register → Place → ℕ
push_end p (Constant slot) (Push first count) =
    if nat_lt 0 (vectors_of slot p.declarations) && nat_lt 0 count then first + count else 0
push_end p register place = 0

abbrev pub push_words : Shader → List Binding → ℕ
push_words p [] = 0
push_words p (b ∷ rest) = max (push_end p b.register b.place) (push_words p rest)

abbrev pub some_words : ℕ → Option ℕ
some_words n = if nat_eq n 0 then None else Some n

-- the built-in of a thread id
abbrev pub built_in_of : Kind → Option ℕ
built_in_of ThreadId = Some GlobalInvocationId
built_in_of GroupId = Some WorkgroupId
built_in_of IdInGroup = Some LocalInvocationId
built_in_of FlatId = Some LocalInvocationIndex
built_in_of kind = None

abbrev pub input_of : Declaration → Option ℕ
input_of (Input kind select) = built_in_of kind
input_of other = None

abbrev pub wanted_of : Shader → List Binding → Wanted
wanted_of p bindings = record {
  buffers = filter_map (λ b. buffer_of p b.register b.place) bindings;
  uniforms = filter_map (λ b. uniform_of p b.register b.place) bindings;
  push = some_words (push_words p bindings);
  shared = map (λ slot. shared_extent slot p.declarations) (shared_slots p);
  inputs = filter_map (λ d. input_of d.what) p.declarations;
}

-- the size of a program's thread group
abbrev pub group_of : Shader → Axes
group_of p = threads_in p.declarations
