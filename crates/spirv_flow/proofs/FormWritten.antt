-- The code of a statement's blocks is written as its module asks.
use Rattle.std.proofs.Common.{◌≡◌, ℕ, ◌<◌, ◌≤◌, ◌⊎◌, ⊎_elim, List, false, arith}
use Rattle.kept_values.specs.Tables.{Table as Kept, IsEmpty}
use Rattle.shader_tree.specs.Terms.{Term}
use Rattle.spirv_words.specs.Definitions.{results}
use Rattle.spirv_words.specs.Text.{Instr}
use Rattle.spirv_symbols.specs.declared.symbol.Symbol.{Symbol}
use Rattle.spirv_symbols.specs.declared.entry.Entry.{Entry}
use Rattle.spirv_symbols.specs.Tables.{Has}
use Rattle.spirv_emit.specs.Code.{Typed, typed, In, Covers, CoversKept}
use Rattle.spirv_emit.specs.Emission.{next_of}
use Rattle.spirv_emit.specs.declared.emitter.Emitter.{Emitter as Emission}
use Rattle.spirv_emit.specs.Growing.{Completes}
use Rattle.spirv_emit.specs.Lanes.{Site}
use Rattle.spirv_flow.specs.Layout.{code_of}
use Rattle.spirv_flow.specs.Lowers.{Lowers, AtMost, marks, times}
use Rattle.spirv_flow.proofs.FormParts.{IsWritten}
use Rattle.spirv_flow.proofs.FormResults.{in_times, values_or_labels}
use Rattle.spirv_flow.proofs.Taken.{no_mark}

at_most_one : (id low high count n : ℕ) → AtMost id low high 0 count n → n ≤ 1
at_most_one id low high count n h = grind arith

in_between : (id low high count n : ℕ) → count ≡ 0 → 1 ≤ n → AtMost id low high 0 count n → (low ≤ id) × (id < high)
in_between id low high count n e one h =
    ⊎_elim (λ z. absurd (omega (arith, z, one))) (λ s. ⊎_elim (λ b. b) (λ m. absurd (omega (arith, m.1, e))) s.1) h

none_kept : (names : List Entry) (known : List Typed) (table : Kept) → IsEmpty table → CoversKept names table known
none_kept names known table h w id e = let n = h.ids w in absurd (cc)

module _ (old new : Emission) (x : Term) (h : Lowers old new 0 0 0 false false x) (unmarked : marks x ≡ 0) where
  abbrev code : List Instr
  code = code_of h.layout 0 0

  result_between : (id : ℕ) → In (results code) id → (next_of old ≤ id) × (id < next_of new)
  result_between id i =
      in_between id (next_of old) (next_of new) (marks x) (times id (results code)) unmarked (in_times (results code) id i) (h.once id)

  -- a symbol of a table that grew from the emitter's has its id there, or a new one
  result_apart : (names : List Entry)
      → ((s : Symbol) (id : ℕ) → Has names s id → Has new.symbols.entries s id ⊎ (next_of new ≤ id))
      → (s : Symbol) (id : ℕ) → Has names s id → In (results code) id → ⊥
  result_apart names later s id k i =
      ⊎_elim (λ old'. ⊎_elim (λ v. (h.written.grows.fresh id v).2 s old')
      (λ l. (no_mark old new 0 (marks x) id unmarked (h.labels id l)).2 s old')
      (values_or_labels h.layout 0 0 false false h.placed h.written.grows.instructions id i))
      (λ le. let b = result_between id i in omega (arith, le, b.1)) (later s id k)

  pub is_written : (z : Site) → Completes new z → (globals : List Typed) → IsEmpty old.kept → Covers z.names z.frame.context globals
      → ((id t : ℕ) → In globals (typed id t) → (s : Symbol) × Has z.names s id)
      → IsWritten z.names (next_of old) (next_of new) globals h.layout
  is_written z full globals empty covers symbols = record {
    placed = h.placed;
    instructions = h.written.grows.instructions;
    few = λ id. at_most_one id (next_of old) (next_of new) (marks x) (times id (results code)) (h.once id);
    between = result_between;
    apart' = result_apart z.names full.later;
    typed' = (h.written.known z full globals globals covers covers (none_kept z.names globals old.kept empty)).typed;
    symbols = symbols;
  }
