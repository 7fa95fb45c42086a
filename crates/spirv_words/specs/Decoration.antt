-- The decorations of ids and of members (SPIR-V specification, unified1, section 3.20, Decoration).
use Rattle.std.specs.Prelude.{ℕ}

abbrev pub Block : ℕ
Block = 2

abbrev pub ArrayStride : ℕ
ArrayStride = 6

abbrev pub BuiltIn : ℕ
BuiltIn = 11

abbrev pub Coherent : ℕ
Coherent = 23

abbrev pub NonWritable : ℕ
NonWritable = 24

abbrev pub Binding : ℕ
Binding = 33

abbrev pub DescriptorSet : ℕ
DescriptorSet = 34

abbrev pub Offset : ℕ
Offset = 35
