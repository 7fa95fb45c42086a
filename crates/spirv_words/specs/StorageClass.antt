-- The storage classes of variables and pointers (SPIR-V specification, unified1, section 3.7, Storage Class).
use Rattle.std.specs.Prelude.{ℕ, nat_eq, Bool, ◌||◌}

abbrev pub Input : ℕ
Input = 1

abbrev pub Uniform : ℕ
Uniform = 2

abbrev pub Workgroup : ℕ
Workgroup = 4

abbrev pub Private : ℕ
Private = 6

abbrev pub Function : ℕ
Function = 7

abbrev pub PushConstant : ℕ
PushConstant = 9

abbrev pub StorageBuffer : ℕ
StorageBuffer = 12

-- memory that lanes share, each word of which is read and written by an event
abbrev pub has_events : ℕ → Bool
has_events class = nat_eq class StorageBuffer || nat_eq class Workgroup

-- memory of one lane
abbrev pub is_own : ℕ → Bool
is_own class = nat_eq class Function || nat_eq class Private

-- what a lane only reads
abbrev pub is_given : ℕ → Bool
is_given class = nat_eq class Input || (nat_eq class Uniform || nat_eq class PushConstant)
