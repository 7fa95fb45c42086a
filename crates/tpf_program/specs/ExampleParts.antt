-- Operands, instructions and programs, for the examples.
use Rattle.std.specs.Prelude.{ℕ, zero, suc, ◌+◌, false, List, [], ◌∷◌, length, Some, None}
use Rattle.word_base.specs.declared.event.Event.{Event}
use Rattle.word_base.specs.declared.event.Ids.{Ids}
use Rattle.word_base.specs.declared.event.Room.{Room}
use Rattle.word_base.specs.Lanes.{Turn, Silent, Asks, Ends, Wrong}
use Rattle.word_base.specs.Settings.{Setting}
use Rattle.tpf_program.specs.declared.declaration.Declaration.{Declaration}
use Rattle.tpf_program.specs.declared.declaration.Declared.{Declared}
use Rattle.tpf_decode.specs.declared.argument.Argument.{Argument}
use Rattle.tpf_program.specs.declared.instruction.Instruction.{Instruction}
use Rattle.tpf_decode.specs.declared.argument.Kind.{Kind}
use Rattle.tpf_decode.specs.declared.argument.Kind.TheVariants as kind
use Rattle.tpf_decode.specs.declared.argument.Select.{Select}
use Rattle.tpf_decode.specs.declared.argument.Select.TheVariants.{Bare, Mask, One}
use Rattle.tpf_program.specs.Program.{Shader}
use Rattle.tpf_program.specs.Spelling.{nothing}

-- a register, view or thread id
abbrev pub slot_of : Kind → ℕ → Select → Argument
slot_of kind slot select = record { kind = kind; select = select; negate = false; slot = slot; index = 0; relative = None; x = 0; y = 0; z = 0; w = 0 }

-- an element of x1 at r0.x plus a number
abbrev pub element : ℕ → ℕ → Argument
element index component = record {
  kind = kind.Indexable;
  select = One component;
  negate = false;
  slot = 1;
  index = index;
  relative = Some (record { kind = kind.Temp; slot = 0; index = 0; component = 0 });
  x = 0;
  y = 0;
  z = 0;
  w = 0;
}

-- one word
abbrev pub literal : ℕ → Argument
literal n = record { kind = kind.Immediate; select = Bare; negate = false; slot = 0; index = 0; relative = None; x = n; y = n; z = n; w = n }

-- components of r0
abbrev pub r0 : ℕ → Argument
r0 component = slot_of kind.Temp 0 (One component)

abbrev pub r0_to : ℕ → Argument
r0_to mask = slot_of kind.Temp 0 (Mask mask)

abbrev pub instruction : ℕ → ℕ → Argument → Argument → Argument → Argument → Instruction
instruction code controls o0 o1 o2 o3 = record {
  place = 0;
  length = 1;
  code = code;
  controls = controls;
  count = 5;
  o0 = o0;
  o1 = o1;
  o2 = o2;
  o3 = o3;
  o4 = nothing;
}

abbrev pub bare : ℕ → Instruction
bare code = instruction code 0 nothing nothing nothing nothing

-- a declaration, and an instruction, at a place
abbrev pub declared : ℕ → Declaration → Declared
declared place what = record { place = place; what = what }

abbrev pub placed : ℕ → Instruction → Instruction
placed place i = record i { place = place }

-- a program of so many words, of declarations and instructions at their places
abbrev pub program_at : ℕ → List Declared → List Instruction → Shader
program_at words declarations instructions =
    record { words = words; declarations = declarations; constants = 1 ∷ 2 ∷ 3 ∷ 4 ∷ []; instructions = instructions; typed = [] }

-- one behind the other from a place on, as if each were one word
abbrev pub declared_from : ℕ → List Declaration → List Declared
declared_from place [] = []
declared_from place (what ∷ rest) = declared place what ∷ declared_from (place + 1) rest

abbrev pub placed_from : ℕ → List Instruction → List Instruction
placed_from place [] = []
placed_from place (i ∷ rest) = placed place i ∷ placed_from (place + 1) rest

-- the same of a program, of which the head is two words and the declarations come first
abbrev pub program_of : List Declaration → List Instruction → Shader
program_of declarations instructions =
    program_at (2 + length declarations + length instructions) (declared_from 2 declarations) (placed_from (2 + length declarations) instructions)

abbrev pub setting_of : Ids → (Room → ℕ) → Setting
setting_of ids extent = record { ids = ids; constants = λ slot. 5 ∷ 6 ∷ []; extent = extent }

-- the events that a lane makes in that many steps where each is answered with 0
abbrev pub events_of : {S : Type 0} → Turn S → (S → List Event) → List Event
events_of (Silent to) go = go to
events_of (Asks e after) go = e ∷ go (after 0)
events_of Ends go = []
events_of (Wrong place rule) go = []

abbrev pub events_in : {S : Type 0} → ℕ → (S → Turn S) → S → List Event
events_in zero step s = []
events_in (suc n) step s = events_of (step s) (events_in n step)
