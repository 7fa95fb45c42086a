-- What is said of variables, one after the other. What was said first of a variable stays.
use Rattle.std.specs.Prelude.{◌≡◌, ◌+◌, ◌≤◌, Bool, List, ◌++◌, find, length, Option, [], ◌∷◌, Some, None}
use Rattle.spirv_symbols.specs.declared.symbol.Symbol.{Symbol}
use Rattle.spirv_symbols.specs.declared.declared.Declared.{Declared}
use Rattle.spirv_symbols.specs.Names.{is_symbol}
use Rattle.spirv_symbols.specs.Contexts.{with_declared}
use Rattle.spirv_emit.specs.declared.emitter.Emitter.{Emitter as Emission}
use Rattle.spirv_emit.specs.declared.buffer.ConstantBuffer.{ConstantBuffer}

abbrev pub is_of : Symbol → Declared → Bool
is_of s d = is_symbol d.variable s

abbrev pub of_some : {X : Type 0} → Option X → List X
of_some None = []
of_some (Some x) = x ∷ []

-- These were said, and these constant buffers added, behind what was there.
pub record Describes (old new : Emission) (ds : List Declared) (bs : List ConstantBuffer) : Type 0 where
  pub rest : new ≡ record old {
    frame = record old.frame {
      context = with_declared old.frame.context new.frame.context.declared;
      buffers = new.frame.buffers;
    };
  }
  pub found : (s : Symbol) → find (is_of s) new.frame.context.declared ≡ find (is_of s) (old.frame.context.declared ++ ds)
  pub count : length new.frame.context.declared ≤ length old.frame.context.declared + length ds
  pub buffers : new.frame.buffers.list ≡ old.frame.buffers.list ++ bs
  pub capacity : new.frame.buffers.capacity ≡ old.frame.buffers.capacity
