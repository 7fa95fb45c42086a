-- Registers, operands and programs that hold words alone.
use Rattle.std.specs.Prelude.{◌≡◌, ℕ, ◌<◌, ◌^◌}
use Rattle.word_base.specs.declared.event.Event.{Event}
use Rattle.word_base.specs.declared.event.Event.TheVariants.{Load, Store, Atomic}
use Rattle.word_base.specs.Registers.{Registers}
use Rattle.word_base.specs.Words.{AreWords}
use Rattle.tpf_decode.specs.declared.argument.Argument.{Argument}
use Rattle.tpf_program.specs.declared.instruction.Instruction.{Instruction}
use Rattle.tpf_decode.specs.declared.argument.Kind.{Kind}
use Rattle.tpf_decode.specs.declared.argument.Select.{Select}
use Rattle.tpf_decode.specs.declared.argument.Select.TheVariants.{Bare, Mask, Swizzle, One}
use Rattle.tpf_program.specs.Program.{Shader}
use Rattle.tpf_program.specs.Sizes.{Structures, addressing_of}

pub record HoldWords (registers : Registers) : Type 0 where
  pub temp : (slot c : ℕ) → registers.temp slot c < 2 ^ 32
  pub indexable : (slot index c : ℕ) → registers.indexable slot index c < 2 ^ 32

-- the words of an operand that is immediate
pub record IsOfWords (a : Argument) : Type 0 where
  pub x : a.x < 2 ^ 32
  pub y : a.y < 2 ^ 32
  pub z : a.z < 2 ^ 32
  pub w : a.w < 2 ^ 32

pub record AreOfWords (i : Instruction) : Type 0 where
  pub o0 : IsOfWords i.o0
  pub o1 : IsOfWords i.o1
  pub o2 : IsOfWords i.o2
  pub o3 : IsOfWords i.o3
  pub o4 : IsOfWords i.o4

-- a program's immediate constants and the strides that it declares
pub record IsProgramOfWords (p : Shader) : Type 0 where
  pub constants : AreWords p.constants
  pub strides : (kind : Kind) (slot stride : ℕ) → addressing_of p.typed kind slot p.declarations ≡ Structures stride → stride < 2 ^ 32

-- the words that an event names
abbrev pub IsEventOfWords : Event → Type 0
IsEventOfWords (Load room word) = word < 2 ^ 32
IsEventOfWords (Store room word value) = (word < 2 ^ 32) × (value < 2 ^ 32)
IsEventOfWords (Atomic room word kind a b) = (word < 2 ^ 32) × (a < 2 ^ 32) × (b < 2 ^ 32)
IsEventOfWords other = Unit {0}

-- what an operand may select: a component of four, or a mask or a swizzle of so many bits
abbrev pub SelectsInRange : Select → Type 0
SelectsInRange Bare = Unit {0}
SelectsInRange (Mask mask) = mask < 16
SelectsInRange (Swizzle swizzle) = swizzle < 256
SelectsInRange (One component) = component < 4

-- the operands of a spelled instruction: words where they are immediate, and selections in range
pub record IsWellSpelled (i : Instruction) : Type 0 where
  pub words : AreOfWords i
  pub o0 : SelectsInRange i.o0.select
  pub o1 : SelectsInRange i.o1.select
  pub o2 : SelectsInRange i.o2.select
  pub o3 : SelectsInRange i.o3.select
  pub o4 : SelectsInRange i.o4.select
