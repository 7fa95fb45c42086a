-- What operands stand for. (Shader Model 5 assembly: operand types, swizzles, masks and modifiers; Direct3D 11 functional
-- specification: reads past the end of indexed registers and constant buffers.)
use Rattle.std.specs.Prelude.{ℕ, ◌+◌, ◌*◌, ◌/◌, ◌%◌, ◌^◌, nat_eq, nat_lt, if◌then◌else◌, Option, Some, None, slice_index}
use Rattle.word_base.specs.Registers.{Registers}
use Rattle.word_base.specs.Settings.{Setting}
use Rattle.word_base.specs.Alu.{difference}
use Rattle.tpf_decode.specs.declared.argument.Kind.{Kind}
use Rattle.tpf_decode.specs.declared.argument.Kind.TheVariants as kind
use Rattle.tpf_decode.specs.declared.argument.Select.{Select}
use Rattle.tpf_decode.specs.declared.argument.Select.TheVariants.{Bare, Mask, Swizzle, One}
use Rattle.tpf_decode.specs.declared.argument.Relative.{Relative}
use Rattle.tpf_decode.specs.declared.argument.Argument.{Argument}
use Rattle.tpf_program.specs.Program.{Shader}
use Rattle.tpf_program.specs.Sizes.{temps_of, elements_of, vectors_of}

-- Where operands are read: the program with its declarations, the lane's setting, and the registers as they stand.
pub record Context : Type 0 where
  pub program : Shader
  pub setting : Setting
  pub registers : Registers

abbrev pub context : Shader → Setting → Registers → Context
context p setting registers = record { program = p; setting = setting; registers = registers }

-- Components are 0 for x, 1 for y, 2 for z, 3 for w.
abbrev pub of_four : ℕ → ℕ → ℕ → ℕ → ℕ → ℕ
of_four x y z w c = if nat_eq c 0 then x else if nat_eq c 1 then y else if nat_eq c 2 then z else w

-- the component that an operand selects for a component of its instruction: a swizzle has two bits for each
abbrev pub selected : Select → ℕ → ℕ
selected Bare c = c
selected (Mask bits) c = c
selected (Swizzle bits) c = bits / 4 ^ c % 4
selected (One k) c = k

-- The word of a register, constant or thread id at a component. Past the registers, elements and vectors that are declared, and past
-- the words that are given, it is 0.
abbrev pub named : Context → Kind → ℕ → ℕ → ℕ → ℕ
named k kind.Temp slot index c = if nat_lt slot (temps_of k.program.declarations) then k.registers.temp slot c else 0
named k kind.Indexable slot index c = if nat_lt index (elements_of slot k.program.declarations) then k.registers.indexable slot index c else 0
named k kind.Constant slot index c = if nat_lt index (vectors_of slot k.program.declarations) then slice_index (k.setting.constants slot) (4 * index + c) else 0
named k kind.ImmediateConstant slot index c = slice_index k.program.constants (4 * index + c)
named k kind.ThreadId slot index c = of_four k.setting.ids.thread_x k.setting.ids.thread_y k.setting.ids.thread_z 0 c
named k kind.GroupId slot index c = of_four k.setting.ids.group_x k.setting.ids.group_y k.setting.ids.group_z 0 c
named k kind.IdInGroup slot index c = of_four k.setting.ids.x k.setting.ids.y k.setting.ids.z 0 c
named k kind.FlatId slot index c = k.setting.ids.flat
named k other slot index c = 0

-- an index: its immediate part and its relative scalar, modulo 2 ^ 32
abbrev pub relative_word : Context → Option Relative → ℕ
relative_word k None = 0
relative_word k (Some r) = named k r.kind r.slot r.index r.component

abbrev pub index_of : Context → Argument → ℕ
index_of k a = (a.index + relative_word k a.relative) % 2 ^ 32

abbrev pub word_by : Kind → Context → Argument → ℕ → ℕ
word_by kind.Immediate k a c = of_four a.x a.y a.z a.w c
word_by other k a c = named k other a.slot (index_of k a) (selected a.select c)

-- The value of a source operand at a component; the negation is outermost.
abbrev pub value : Context → Argument → ℕ → ℕ
value k a c = if a.negate then difference 0 (word_by a.kind k a c) else word_by a.kind k a c

-- the value of an operand that is one number: its first component after the selection
abbrev pub scalar : Context → Argument → ℕ
scalar k a = value k a 0
