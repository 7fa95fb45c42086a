-- The variables that a program and its bindings want of a module, computed.
use Rattle.std.specs.Prelude.{◌≡◌, ℕ, true, false, List, [], ◌∷◌, Some, None, refl}
use Rattle.tpf_decode.specs.declared.argument.Kind.TheVariants as kind
use Rattle.tpf_decode.specs.declared.argument.Select.TheVariants.{Bare, Mask}
use Rattle.tpf_program.specs.declared.declaration.Declaration.TheVariants as declaration
use Rattle.tpf_program.specs.declared.declaration.SharedKind.TheVariants as shared
use Rattle.tpf_program.specs.declared.declaration.ViewKind.TheVariants as view
use Rattle.tpf_program.specs.ExampleParts.{slot_of, r0_to, instruction, bare, program_of}
use Rattle.tpf_program.specs.Program.{Shader}
use Rattle.tpf_program.specs.Spelling.{nothing}
use Rattle.spirv_words.specs.BuiltIn.{GlobalInvocationId, LocalInvocationIndex}
use Rattle.spirv_words.specs.Variables.{WantedBuffer}
use Rattle.binding_map.specs.declared.register.Register.{Register}
use Rattle.binding_map.specs.declared.register.Register.TheVariants.{Constant, Resource, Uav, Counter}
use Rattle.binding_map.specs.declared.register.Place.TheVariants.{Bound, Push}
use Rattle.binding_map.specs.Bindings.{Binding}
use Rattle.binding_map.specs.Wanted.{push_words, wanted_of}

abbrev pub bound : Register → ℕ → Binding
bound register binding = record { register = register; place = Bound 0 binding }

abbrev pub pushed : ℕ → ℕ → ℕ → Binding
pushed slot first count = record { register = Constant slot; place = Push first count }

-- A program of two constant buffers, a t#, two u#, the counter of the second, shared memory at the slots 0, 1 and 3, that of slot 1 without
-- words, and two kinds of thread ids.
abbrev pub many : Shader
many = program_of
    (declaration.Constants 0 2 ∷ declaration.Constants 1 1 ∷ declaration.Resource 0 view.Raw ∷
    declaration.Uav 0 (view.Structured 8) true false ∷ declaration.Uav 1 (view.Structured 4) false false ∷
    declaration.Input kind.ThreadId (Mask 1) ∷ declaration.Input kind.FlatId Bare ∷ declaration.Temps 1 ∷
    declaration.Shared 0 (shared.Raw 8) ∷ declaration.Shared 1 (shared.Structured 0 1) ∷ declaration.Shared 3 (shared.Structured 8 2) ∷
    declaration.Group 4 1 1 ∷ [])
    (instruction 178 0 (r0_to 1) (slot_of kind.Uav 1 Bare) nothing nothing ∷ bare 62 ∷ [])  -- imm_atomic_alloc r0.x, u1

-- b0 and the views at descriptors, b1 in the push constant words 4 to 7; of t5, u5, the counter of u0 and b2 the program has nothing
abbrev pub all_bound : List Binding
all_bound =
    bound (Constant 0) 0 ∷ pushed 1 4 4 ∷ bound (Resource 0) 1 ∷ bound (Uav 0) 2 ∷ bound (Uav 1) 3 ∷ bound (Counter 1) 4 ∷
    bound (Resource 5) 5 ∷ bound (Uav 5) 6 ∷ bound (Counter 0) 7 ∷ pushed 2 8 4 ∷ []

abbrev pub buffer_at : ℕ → WantedBuffer
buffer_at binding = record { set = 0; binding = binding; is_read_only = false; is_coherent = false }

pub wanted : wanted_of many all_bound ≡ record {
  buffers =
      record (buffer_at 1) { is_read_only = true } ∷ record (buffer_at 2) { is_coherent = true } ∷ buffer_at 3 ∷ buffer_at 4 ∷ [];
  uniforms = record { set = 0; binding = 0; vectors = 2 } ∷ [];
  push = Some 8;
  shared = 2 ∷ 4 ∷ [];
  inputs = GlobalInvocationId ∷ LocalInvocationIndex ∷ [];
}
wanted = refl

-- Without bindings it wants its shared memory and thread ids alone.
pub unbound : wanted_of many [] ≡ record { buffers = []; uniforms = []; push = None; shared = 2 ∷ 4 ∷ []; inputs = GlobalInvocationId ∷ LocalInvocationIndex ∷ [] }
unbound = refl

-- Push constants reach to the last word of a declared buffer, in whatever order they are bound.
pub to_the_last : push_words many (pushed 1 0 4 ∷ pushed 0 8 8 ∷ pushed 1 4 2 ∷ []) ≡ 16
to_the_last = refl

pub none_pushed : push_words many (pushed 0 4 0 ∷ pushed 2 8 4 ∷ bound (Constant 1) 0 ∷ []) ≡ 0
none_pushed = refl
