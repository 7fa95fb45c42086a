-- Marks by slot: which registers some declarations and instructions name.
use Rattle.std.specs.Prelude.{◌≡◌, ℕ, ◌<◌, nat_eq, ◌||◌, if◌then◌else◌, Bool, true, false, List, length, get_or, replicate, slice_set}
use Rattle.std.specs.List.{list_any}
use Rattle.tpf_program.specs.declared.declaration.Declaration.{Declaration}
use Rattle.tpf_program.specs.declared.declaration.Declaration.TheVariants.{Constants, Resource, Uav}
use Rattle.tpf_program.specs.declared.declaration.Declared.{Declared}
use Rattle.tpf_program.specs.declared.instruction.Instruction.{Instruction}
use Rattle.tpf_program.specs.Extents.{is_resource, is_uav, steps_counter}
use Rattle.binding_map.specs.declared.registers.Registers.{Registers}
use Rattle.binding_map.specs.Defaults.{is_constants}

-- So many marks, and one stands exactly at the slots for which the test holds.
pub record AreMarks (limit : ℕ) (marks : List Bool) (test : ℕ → Bool) : Type 0 where
  pub count : length marks ≡ limit
  pub each : (slot : ℕ) → slot < limit → get_or marks slot false ≡ test slot

pub record HasMarks (r : Registers) (declarations : List Declared) (instructions : List Instruction) : Type 0 where
  pub constants : AreMarks 14 r.constants (λ slot. list_any (λ d. is_constants slot d.what) declarations)
  pub resources : AreMarks 128 r.resources (λ slot. list_any (λ d. is_resource slot d.what) declarations)
  pub uavs : AreMarks 64 r.uavs (λ slot. list_any (λ d. is_uav slot d.what) declarations)
  pub counters : AreMarks 64 r.counters (λ slot. list_any (steps_counter slot) instructions)

-- no marks, and those of one more declaration or instruction
abbrev pub unmarked : Registers
unmarked = record {
  constants = replicate 14 false;
  resources = replicate 128 false;
  uavs = replicate 64 false;
  counters = replicate 64 false;
}

abbrev pub with_declared : Registers → Declaration → Registers
with_declared r (Constants slot size) = record r { constants = slice_set r.constants slot true }
with_declared r (Resource slot view) = record r { resources = slice_set r.resources slot true }
with_declared r (Uav slot view coherent ordered) = record r { uavs = slice_set r.uavs slot true }
with_declared r other = r

abbrev pub with_step : Registers → Instruction → Registers
with_step r i =
    if nat_eq i.code 178 || nat_eq i.code 179 then record r { counters = slice_set r.counters i.o1.slot true }
    else r
