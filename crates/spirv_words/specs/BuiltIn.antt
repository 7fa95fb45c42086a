-- The built-ins of a compute shader's threads (SPIR-V specification, unified1, section 3.21, BuiltIn).
use Rattle.std.specs.Prelude.{ℕ}

abbrev pub WorkgroupId : ℕ
WorkgroupId = 26

abbrev pub LocalInvocationId : ℕ
LocalInvocationId = 27

abbrev pub GlobalInvocationId : ℕ
GlobalInvocationId = 28

abbrev pub LocalInvocationIndex : ℕ
LocalInvocationIndex = 29
