-- What is declared, as a table: each thing that a program may declare within the limits has a number of its own.
use Rattle.std.specs.Prelude.{ℕ, ◌+◌, nat_eq, nat_le, nat_lt, not, ◌&&◌, ◌||◌, if◌then◌else◌, Bool, true, false}
use Rattle.std.specs.Prelude.{List, [], ◌∷◌, Option, Some, None, get_or, slice_set}
use Rattle.std.specs.List.{list_any}
use Rattle.word_base.specs.declared.rule.Refusal.{Refusal}
use Rattle.word_base.specs.declared.rule.Rule.{Rule}
use Rattle.word_base.specs.declared.rule.Rule.TheVariants.{L5, L6, L8}
use Rattle.word_base.specs.Rules.{refusal}
use Rattle.tpf_decode.specs.Opcodes.{meaning_of}
use Rattle.tpf_decode.specs.Profiles.{Base}
use Rattle.tpf_decode.specs.declared.argument.Kind.{Kind}
use Rattle.tpf_decode.specs.declared.argument.Kind.TheVariants as kind
use Rattle.tpf_decode.specs.declared.meaning.Meaning.{Meaning}
use Rattle.tpf_program.specs.declared.declaration.Declaration.{Declaration}
use Rattle.tpf_program.specs.declared.declaration.Declaration.TheVariants.{Flags, Constants, Resource, Uav, Shared}
use Rattle.tpf_program.specs.declared.declaration.Declaration.TheVariants.{Input, Temps, Indexable, Group}
use Rattle.tpf_program.specs.declared.declaration.Declaration.TheVariants.{ImmediateConstants}
use Rattle.tpf_program.specs.declared.instruction.Instruction.{Instruction}
use Rattle.tpf_program.specs.Ends.{has}
use Rattle.tpf_program.specs.Sizes.{Addressing, Bytes, Structures, of_view, of_shared, temps_declared}
use Rattle.tpf_program.specs.Uses.{Use, differs, is_bytes, is_structures, is_temp_of, is_thing, uses}
use Rattle.shader_check.specs.declared.things.Entry.{Entry}
use Rattle.shader_check.specs.declared.things.Things.{Things}
use Rattle.shader_check.specs.declared.things.Faults.{Faults}

-- THE NUMBERS: those of t#, u#, g#, cb# and x# one after the other, then the threads' numbers, and what stands once.
-- What is past its limit has none, which is the number behind all.
abbrev pub from_first : ℕ → ℕ → ℕ → ℕ
from_first first limit slot = if nat_lt slot limit then first + slot else 4374

abbrev pub number_of_id : Kind → ℕ
number_of_id kind.ThreadId = 4366
number_of_id kind.GroupId = 4367
number_of_id kind.IdInGroup = 4368
number_of_id kind.FlatId = 4369
number_of_id other = 4374

abbrev pub number_of : Declaration → ℕ
number_of (Resource slot view) = from_first 0 128 slot
number_of (Uav slot view coherent ordered) = from_first 128 64 slot
number_of (Shared slot kind) = from_first 192 64 slot
number_of (Constants slot size) = from_first 256 14 slot
number_of (Indexable slot count components) = from_first 270 4096 slot
number_of (Input id select) = number_of_id id
number_of (Temps count) = 4370
number_of (Flags bits) = 4371
number_of (Group x y z) = 4372
number_of (ImmediateConstants vectors) = 4373

-- the number of what an operand names
abbrev pub number_named : Kind → ℕ → ℕ
number_named kind.Resource slot = from_first 0 128 slot
number_named kind.Uav slot = from_first 128 64 slot
number_named kind.Shared slot = from_first 192 64 slot
number_named kind.Constant slot = from_first 256 14 slot
number_named kind.Indexable slot = from_first 270 4096 slot
number_named kind.Temp slot = 4370
number_named kind.ImmediateConstant slot = 4373
number_named id slot = number_of_id id

-- WHAT IS KEPT of a thing, and how a declaration adds to it
abbrev pub nothing : Entry
nothing = record { declared = false; bytes = false; structures = false }

-- how a declared view, or shared memory, is reached
abbrev pub way_of : Declaration → Option Addressing
way_of (Resource slot view) = Some (of_view false view)
way_of (Uav slot view coherent ordered) = Some (of_view false view)
way_of (Shared slot kind) = Some (of_shared kind)
way_of other = None

abbrev pub entry_with : Entry → Declaration → Entry
entry_with e what = record {
  declared = true;
  bytes = e.bytes || has is_bytes (way_of what);
  structures = e.structures || has is_structures (way_of what);
}

abbrev pub looked_up : Things → ℕ → Entry
looked_up t n = get_or t.entries n nothing

abbrev pub with_thing : Things → Declaration → Things
with_thing t what = record {
  entries = slice_set t.entries (number_of what) (entry_with (looked_up t (number_of what)) what);
  temps = if nat_eq t.temps 0 then temps_declared what else t.temps;
}

-- THE RULES ON USES, by what is kept
abbrev pub differs_by : Meaning → Entry → Bool
differs_by meaning e = (e.bytes && differs meaning Bytes) || (e.structures && differs meaning (Structures 0))

abbrev pub is_absent : Things → Use → Bool
is_absent t u = is_thing u.kind && not (looked_up t (number_named u.kind u.slot)).declared

abbrev pub is_behind : Things → Use → Bool
is_behind t u = (looked_up t (number_named u.kind u.slot)).declared && is_temp_of t.temps u.kind u.slot

abbrev pub is_other : Things → Meaning → Use → Bool
is_other t meaning u = differs_by meaning (looked_up t (number_named u.kind u.slot))

abbrev pub fault_at : Things → Meaning → Use → Faults
fault_at t meaning u = record { missing = is_absent t u; past = is_behind t u; other = is_other t meaning u }

abbrev pub both_faults : Faults → Faults → Faults
both_faults a b = record { missing = a.missing || b.missing; past = a.past || b.past; other = a.other || b.other }

abbrev pub faults_of : Things → Meaning → List Use → Faults
faults_of t meaning us = record {
  missing = list_any (is_absent t) us;
  past = list_any (is_behind t) us;
  other = list_any (is_other t meaning) us;
}

abbrev pub rule_among : Faults → Option Rule
rule_among f = if f.missing then Some L5 else if f.past then Some L6 else if f.other then Some L8 else None

-- the first rule that an instruction breaks, and the first that those before a place break
abbrev pub rule_with : Things → Instruction → Option Meaning → Option Rule
rule_with t i None = None
rule_with t i (Some meaning) = rule_among (faults_of t meaning (uses meaning i))

abbrev pub rule_using : Things → Instruction → Option Rule
rule_using t i = rule_with t i (meaning_of Base i.code)

abbrev pub or_later : Option Rule → ℕ → Option Refusal → Option Refusal
or_later (Some rule) place later = Some (refusal rule place)
or_later None place later = later

abbrev pub used_before : Things → ℕ → List Instruction → Option Refusal
used_before t end [] = None
used_before t end (i ∷ rest) =
    if nat_le end i.place then None else or_later (rule_using t i) i.place (used_before t end rest)
