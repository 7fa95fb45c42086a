-- A lane of a finished module where the function's code begins.
use Rattle.std.proofs.Common.{◌≡◌, ℕ, zero, suc, ◌+◌, ◌<◌, List, [], ◌∷◌, length, Some, refl, ap, ◌∙◌, subst, arith}
use Rattle.std.specs.Prelude.{slice_get, slice_index, replicate}
use Rattle.std.proofs.Math.Nat.{mul-div-le}
use Rattle.word_base.specs.Registers.{zeros}
use Rattle.spirv_words.specs.Text.{Instr}
use Rattle.spirv_words.specs.Values.{Value}
use Rattle.spirv_words.specs.Lane.{State}
use Rattle.kept_values.specs.Tables.{Table, IsEmpty, id_in, dirty_in, Among}
use Rattle.kept_values.specs.declared.word.Word.{Word as Kept}
use Rattle.shader_tree.specs.Values.{words}
use Rattle.spirv_symbols.specs.declared.symbol.Symbol.{Symbol}
use Rattle.spirv_symbols.specs.declared.symbol.Symbol.TheVariants.{Constant, True, Input, Memory, Uniform, Push, Scratch, Register, Registers, Elements, ImmediateArray}
use Rattle.spirv_symbols.specs.Contexts as context
use Rattle.spirv_symbols.specs.Tables.{Has}
use Rattle.spirv_symbols.specs.Starts as starts
use Rattle.spirv_emit.specs.Emission.{Frame}
use Rattle.spirv_emit.specs.Lanes.{Site, HasAt, Stands, Holds, meaning}

-- WORDS
zero_at : (n i : ℕ) → i < n → slice_get {X = ℕ} (replicate n 0) i ≡ Some 0
zero_at zero i h = absurd (omega (arith, h))
zero_at (suc n) zero h = refl
zero_at (suc n) (suc i) h = zero_at n i (omega (arith, h))

there : (ws : List ℕ) (i : ℕ) → i < length ws → slice_get ws i ≡ Some (slice_index ws i)
there [] i h = absurd (omega (arith, h))
there (w ∷ ws) zero h = refl
there (w ∷ ws) (suc i) h = there ws i (omega (arith, h))

module _ (z : Site) (table : Table) (to : State) (e : IsEmpty table)
    (at_word : (s : Symbol) (x : ℕ) (ws : List ℕ) → Has z.names s x → starts.initial z.frame.context s ≡ Some ws → to.memory x ≡ slice_get ws) where
  abbrev f : Frame
  f = z.frame

  cell : (s : Symbol) (x : ℕ) (ws : List ℕ) (i : ℕ) → Has z.names s x → starts.initial f.context s ≡ Some ws → to.memory x i ≡ slice_get ws i
  cell s x ws i h q = ap (λ g. g i) (at_word s x ws h q)

  holds : (y : Symbol) (x : ℕ) → Has z.names y x → Holds f (to.memory x) (dirty_in table) (words (λ n. 0) zeros) y
  holds (Scratch n) x h = λ c. cell (Scratch n) x (0 ∷ []) 0 h refl
  holds (Register k) x h = λ u c. cell (Register k) x (0 ∷ []) 0 h refl
  holds Registers x h = λ u i lt c.
      cell Registers x (replicate f.context.registers 0) i h refl
      ∙ zero_at f.context.registers i (omega (arith, lt, mul-div-le f.context.registers 4))
  holds (Elements slot) x h = λ i lt c.
      cell (Elements slot) x (replicate (context.size_of f.context (Elements slot)) 0) i h refl
      ∙ zero_at (context.size_of f.context (Elements slot)) i (omega (arith, lt, mul-div-le (context.size_of f.context (Elements slot)) 4))
  holds ImmediateArray x h = λ i lt. cell ImmediateArray x f.context.immediates i h refl ∙ there f.context.immediates i lt
  holds y x h = tt

  no_id : (w : Kept) (id : ℕ) → id_in table w ≡ Some id → ⊥
  no_id w id h = let q = e.ids w in absurd (cc (h, q))

  none_waits : (w : Kept) → Among (dirty_in table) w → ⊥
  none_waits w h = subst (λ l. Among l w) e.dirty h

  pub stands_first : (seg : List Instr) → starts.HasAt z.machine.code to.place seg
      → ((s : Symbol) (x : ℕ) (v : Value) → Has z.names s x → starts.meaning s x ≡ Some v → to.values x ≡ Some v)
      → Stands z seg table to (words (λ n. 0) zeros)
  stands_first seg h v = record {
    here = h;
    mirrors = record {
      knows = λ s x y g q. v s x y g q;
      ids = λ w id q. absurd (no_id w id q);
      inside = λ w q. absurd (none_waits w q);
      cells = holds;
    };
    words = record { scratch = λ n. omega arith; temp = λ a b. omega arith; indexable = λ a b c. omega arith };
  }
