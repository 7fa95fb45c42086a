-- Default maps, look-ups, what is broken and null under a map, and where a lane finds what is bound.
use Rattle.std.specs.Prelude.{◌≡◌, ℕ, nat_eq, if◌then◌else◌, true, false, List, [], ◌∷◌, Some, None, refl}
use Rattle.word_base.specs.declared.event.Room.{Room}
use Rattle.word_base.specs.declared.event.Room.TheVariants as room
use Rattle.word_base.specs.declared.rule.Rule.TheVariants.{B1}
use Rattle.word_base.specs.Rules.{first, refusal}
use Rattle.word_base.specs.Settings.{Setting}
use Rattle.tpf_decode.specs.declared.argument.Kind.TheVariants as kind
use Rattle.tpf_decode.specs.declared.argument.Select.TheVariants.{Bare, Mask, One}
use Rattle.tpf_program.specs.declared.declaration.Declaration.{Declaration}
use Rattle.tpf_program.specs.declared.declaration.Declaration.TheVariants as declared
use Rattle.tpf_program.specs.declared.declaration.ViewKind.TheVariants.{Raw, Structured}
use Rattle.tpf_program.specs.declared.instruction.Instruction.{Instruction}
use Rattle.tpf_program.specs.ExampleParts.{slot_of, literal, r0, r0_to, instruction, bare, program_of}
use Rattle.tpf_program.specs.Program.{Shader}
use Rattle.tpf_program.specs.Spelling.{nothing}
use Rattle.binding_map.specs.declared.register.Register.TheVariants.{Constant, Resource, Uav, Counter}
use Rattle.binding_map.specs.declared.register.Place.TheVariants.{Bound, Push}
use Rattle.binding_map.specs.Bindings.{Binding, binding, place_of}
use Rattle.binding_map.specs.Completeness.{binding_refusals}
use Rattle.binding_map.specs.Defaults.{default_map}
use Rattle.binding_map.specs.Fits.{is_null_in}
use Rattle.binding_map.specs.Places.{places_of}

-- u# of structures of four bytes, and of bytes
abbrev pub structured : ℕ → Declaration
structured slot = declared.Uav slot (Structured 4) false false

abbrev pub raw : ℕ → Declaration
raw slot = declared.Uav slot Raw false false

-- imm_atomic_alloc and imm_atomic_consume on the counter of a u#
abbrev pub allocates : ℕ → Instruction
allocates slot = instruction 178 0 (r0_to 1) (slot_of kind.Uav slot Bare) nothing nothing

abbrev pub consumes : ℕ → Instruction
consumes slot = instruction 179 0 (r0_to 1) (slot_of kind.Uav slot Bare) nothing nothing

-- Two u#, of which the first has a counter: u0 at 0, u1 at 1, the counter at 2.
abbrev pub counting : Shader
counting =
    program_of (structured 0 ∷ raw 1 ∷ []) (allocates 0 ∷ consumes 0 ∷ bare 62 ∷ [])

pub of_counters : default_map counting
    ≡ binding (Uav 0) (Bound 0 0) ∷ binding (Uav 1) (Bound 0 1) ∷ binding (Counter 0) (Bound 0 2) ∷ []
of_counters = refl

-- The order of declarations does not count, and gaps between slots are closed.
abbrev pub mixed : Shader
mixed =
    program_of (structured 7 ∷ declared.Constants 3 2 ∷ declared.Resource 100 Raw ∷ declared.Constants 1 4 ∷ declared.Resource 2 Raw ∷ [])
    (consumes 7 ∷ bare 62 ∷ [])

pub of_kinds : default_map mixed
    ≡ binding (Constant 1) (Bound 0 0) ∷ binding (Constant 3) (Bound 0 1) ∷ binding (Resource 2) (Bound 0 2)
    ∷ binding (Resource 100) (Bound 0 3) ∷ binding (Uav 7) (Bound 0 4) ∷ binding (Counter 7) (Bound 0 5) ∷ []
of_kinds = refl

-- A map of a u#, of the counter of another one, and of a constant buffer in push constants.
abbrev pub some_bound : List Binding
some_bound = binding (Uav 1) (Bound 1 4) ∷ binding (Counter 0) (Bound 0 2) ∷ binding (Constant 3) (Push 1 2) ∷ []

pub found : place_of some_bound (Counter 0) ≡ Some (Bound 0 2)
found = refl

pub not_found : place_of some_bound (Uav 0) ≡ None
not_found = refl

-- cb1 has no binding, which is broken at its declaration; the views without one are null.
pub unbound : first (binding_refusals mixed some_bound) ≡ Some (refusal B1 5)
unbound = refl

pub nothing_owed : binding_refusals counting some_bound ≡ []
nothing_owed = refl

pub nulls : is_null_in some_bound (room.Uav 0) ≡ true
nulls = refl

pub bounds : is_null_in some_bound (room.Counter 0) ≡ false
bounds = refl

pub shares : is_null_in [] (room.Shared 0) ≡ false
shares = refl

-- the rooms, and the push words, of that map
pub rooms : (places_of some_bound).rooms
    ≡ record { set = 1; binding = 4; room = room.Uav 1 } ∷ record { set = 0; binding = 2; room = room.Counter 0 } ∷ []
rooms = refl

pub pushes : (places_of some_bound).pushes ≡ record { first = 1; count = 2; slot = 3 } ∷ []
pushes = refl

-- A program whose setting can be given: cb0 at a descriptor, cb1 in push constants, u0 null with its counter bound, and u1 of two
-- words. It steps the counter, stores to u0 at the number that it gets, and then that number and a word of cb1 to u1.
abbrev pub given : Shader
given = program_of
    (declared.Constants 0 1 ∷ declared.Constants 1 2 ∷ structured 0 ∷ raw 1 ∷ declared.Temps 1 ∷ declared.Group 1 1 1 ∷ [])
    (allocates 0 ∷  -- imm_atomic_alloc r0.x, u0
    instruction 168 0 (slot_of kind.Uav 0 (Mask 1)) (r0 0) (literal 0) (literal 9) ∷  -- store_structured u0.x, r0.x, l(0), l(9)
    instruction 166 0 (slot_of kind.Uav 1 (Mask 1)) (literal 0) (r0 0) nothing ∷  -- store_raw u1.x, l(0), r0.x
    instruction 166 0 (slot_of kind.Uav 1 (Mask 1)) (literal 4) (slot_of kind.Constant 1 (One 1)) nothing ∷  -- store_raw u1.x, l(4), cb1[0].y
    bare 62 ∷ [])

abbrev pub given_map : List Binding
given_map =
    binding (Constant 0) (Bound 0 0) ∷ binding (Constant 1) (Push 0 2) ∷ binding (Uav 1) (Bound 0 1)
    ∷ binding (Counter 0) (Bound 0 2) ∷ []

abbrev pub given_extent : Room → ℕ
given_extent (room.Uav slot) = if nat_eq 1 slot then 2 else 0
given_extent (room.Counter slot) = if nat_eq 0 slot then 1 else 0
given_extent other = 0

abbrev pub given_setting : Setting
given_setting = record {
  ids = record { group_x = 0; group_y = 0; group_z = 0; x = 0; y = 0; z = 0; flat = 0; thread_x = 0; thread_y = 0; thread_z = 0 };
  constants = λ slot. if nat_eq 0 slot then 1 ∷ 2 ∷ 3 ∷ 4 ∷ [] else if nat_eq 1 slot then 5 ∷ 6 ∷ [] else [];
  extent = given_extent;
}

-- Its bindings owe nothing. That it fits is a clause of `binding_laws`.
pub owes_nothing : binding_refusals given given_map ≡ []
owes_nothing = refl
