-- The sizes that a frame says are those of some setting.
use Rattle.std.specs.Prelude.{◌≡◌, ℕ, ◌+◌, ◌<◌, ◌≤◌, ◌^◌, Some}
use Rattle.word_base.specs.Words.{AreWords}
use Rattle.word_base.specs.declared.event.Room.TheVariants.{Shared}
use Rattle.binding_map.specs.declared.register.Place.TheVariants.{Push as InPush}
use Rattle.spirv_symbols.specs.declared.symbol.Symbol.TheVariants.{Memory, Uniform}
use Rattle.spirv_symbols.specs.Contexts.{size_of}
use Rattle.spirv_emit.specs.declared.buffer.ConstantBuffer.{ConstantBuffer}
use Rattle.spirv_emit.specs.Emission.{Frame, buffer_of}

-- The immediate constants are words, sizes are numbers of 32 bits, the block of a constant buffer has its vectors, and
-- the block of push constants has all its words.
pub record IsSized (f : Frame) : Type 0 where
  pub immediates : AreWords f.context.immediates
  pub shared : (slot : ℕ) → size_of f.context (Memory (Shared slot)) < 2 ^ 32
  pub vectors : (slot : ℕ) (b : ConstantBuffer) → buffer_of f.buffers.list slot ≡ Some b
      → b.vectors ≤ size_of f.context (Uniform slot)
  pub few : f.context.pushed < 2 ^ 32
  pub pushed : (slot first count : ℕ) (b : ConstantBuffer) → buffer_of f.buffers.list slot ≡ Some b
      → b.place ≡ InPush first count → (w : ℕ) → w < count → first + w < f.context.pushed
