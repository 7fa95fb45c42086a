-- What a program keeps of its cases, to find one again in few steps.
use Rattle.std.specs.Prelude.{◌≡◌, ℕ, ◌<◌, ◌≤◌, List, length, Option, Some, None, Contains, slice_get}
use Rattle.node_pool.specs.declared.key.Key.{Key}
use Rattle.tpf_decode.specs.Profiles.{Base}
use Rattle.tpf_program.specs.declared.instruction.Instruction.{Instruction}
use Rattle.tpf_program.specs.Cases.{is_any_case, last_case, previous_case}
use Rattle.tpf_program.specs.Ends.{count}

-- the last case of the level and the value that a key has
abbrev pub last_of_key : List Instruction → Key → Option ℕ
last_of_key code key = last_case Base code key.number key.kind (length code)

-- For each level and value that cases have, by a key, the last of them.
pub record AreLast (code : List Instruction) (keys : List Key) (last : List ℕ) : Type 0 where
  pub known : (k : ℕ) (key : Key) → slice_get keys k ≡ Some key → slice_get last k ≡ last_of_key code key
  pub others : (key : Key) → (Contains keys key → ⊥) → last_of_key code key ≡ None
  pub same : length last ≡ length keys
  pub few : length keys ≤ count Base is_any_case code

-- For each instruction the case before it.
pub record ArePrevious (code : List Instruction) (previous : List (Option ℕ)) : Type 0 where
  pub each : (q : ℕ) → q < length code → slice_get previous q ≡ Some (previous_case Base code q)
  pub all : length previous ≡ length code
