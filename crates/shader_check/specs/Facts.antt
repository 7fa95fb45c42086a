-- What a program that breaks no rule declares, and uses.
use Rattle.std.specs.Prelude.{◌≡◌, ℕ, ◌<◌, ◌≤◌, true, false, Some, slice_get, sum_by}
use Rattle.std.specs.List.{list_any}
use Rattle.tpf_decode.specs.Profiles.{Base}
use Rattle.tpf_decode.specs.Opcodes.{meaning_of}
use Rattle.tpf_decode.specs.declared.meaning.Meaning.{Meaning}
use Rattle.tpf_program.specs.declared.declaration.Declared.{Declared}
use Rattle.tpf_program.specs.declared.instruction.Instruction.{Instruction}
use Rattle.tpf_program.specs.Declarations.{declares_group, has_sizes, is_within, register_count, same_thing}
use Rattle.tpf_program.specs.Declarations.{shared_bytes}
use Rattle.tpf_program.specs.Program.{Shader}
use Rattle.tpf_program.specs.Uses.{Use, is_missing, is_other_view, is_past, uses}

-- The declarations: a group, each thing once, in front of all instructions, within the limits, with sizes in whole
-- words.
pub record AreDeclared (p : Shader) : Type 0 where
  pub group : list_any (λ d. declares_group d.what) p.declarations ≡ true
  pub once : (m n : ℕ) (d e : Declared) → m < n
      → slice_get p.declarations m ≡ Some d → slice_get p.declarations n ≡ Some e → same_thing d.what e.what ≡ false
  pub in_front : (m n : ℕ) (d : Declared) (i : Instruction)
      → slice_get p.declarations m ≡ Some d → slice_get p.instructions n ≡ Some i → d.place ≤ i.place
  pub within : (n : ℕ) (d : Declared) → slice_get p.declarations n ≡ Some d → is_within d.what ≡ true
  pub sized : (n : ℕ) (d : Declared) → slice_get p.declarations n ≡ Some d → has_sizes d.what ≡ true
  pub shared : sum_by (λ d. shared_bytes d.what) p.declarations ≤ 32768
  pub registers : sum_by (λ d. register_count d.what) p.declarations ≤ 4096

-- What an instruction uses: it is declared, with its register, as the kind of view that the instruction reaches.
pub record AreUsed (p : Shader) : Type 0 where
  pub each : (n : ℕ) (i : Instruction) (m : Meaning) (k : ℕ) (u : Use)
      → slice_get p.instructions n ≡ Some i → meaning_of Base i.code ≡ Some m → slice_get (uses m i) k ≡ Some u
      → (is_missing p.declarations u ≡ false) × (is_past p.declarations u ≡ false)
      × (is_other_view p.typed p.declarations m u ≡ false)
