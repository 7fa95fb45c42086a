-- Global variables that are named one after the other.
use Rattle.std.specs.Prelude.{◌≡◌, ℕ, ◌+◌, ◌*◌, ◌<◌, ◌≤◌, true, List, ◌++◌, length}
use Rattle.std.specs.List.{list_any}
use Rattle.tpf_decode.specs.declared.argument.Kind.TheVariants as kind
use Rattle.tpf_program.specs.declared.declaration.Declared.{Declared}
use Rattle.tpf_program.specs.Uses.{declares}
use Rattle.spirv_symbols.specs.declared.symbol.Symbol.{Symbol}
use Rattle.spirv_symbols.specs.declared.symbol.Symbol.TheVariants.{Elements, ImmediateArray}
use Rattle.spirv_symbols.specs.Tables.{Extends}
use Rattle.spirv_emit.specs.Begun.{IsBegun, IsThere}
use Rattle.spirv_emit.specs.Emission.{words_left, ids_left}
use Rattle.spirv_emit.specs.declared.emitter.Emitter.{Emitter as Emission}
use Rattle.spirv_emit.specs.Growing.{globals_in}
use Rattle.spirv_setup.specs.Premises.{Apart}

-- There is room for so many variables, and none of them is there.
pub record MayName (e : Emission) (ss : List Symbol) : Type 0 where
  pub begun : IsBegun e
  pub apart : Apart (globals_in e.symbols.entries ++ ss)
  pub words : 43 * length ss ≤ words_left e
  pub ids : 6 * length ss ≤ ids_left e

-- They were named, behind the global variables that were there.
pub record NamesAll (old new : Emission) (ss : List Symbol) : Type 0 where
  pub rest : new ≡ record old { symbols = new.symbols }
  pub extends : Extends old.symbols new.symbols
  pub begun : IsBegun new
  pub globals : globals_in new.symbols.entries ≡ globals_in old.symbols.entries ++ ss
  pub words : words_left old ≤ words_left new + 43 * length ss
  pub ids : ids_left old ≤ ids_left new + 6 * length ss

-- The arrays of indexable registers were named, which are no global variables.
pub record NamesArrays (old new : Emission) (ds : List Declared) : Type 0 where
  pub rest : new ≡ record old { symbols = new.symbols }
  pub extends : Extends old.symbols new.symbols
  pub begun : IsBegun new
  pub globals : globals_in new.symbols.entries ≡ globals_in old.symbols.entries
  pub there : (slot : ℕ) → list_any (λ d. declares d.what kind.Indexable slot) ds ≡ true
      → IsThere new.symbols.entries (Elements slot)
  pub words : words_left old ≤ words_left new + 43 * length ds
  pub ids : ids_left old ≤ ids_left new + 6 * length ds

-- The immediate constant buffer was named, where it has words.
pub record NamesConstants (old new : Emission) (ws : List ℕ) : Type 0 where
  pub rest : new ≡ record old { symbols = new.symbols }
  pub extends : Extends old.symbols new.symbols
  pub begun : IsBegun new
  pub globals : globals_in new.symbols.entries ≡ globals_in old.symbols.entries
  pub there : 0 < length ws → IsThere new.symbols.entries ImmediateArray
  pub words : words_left old ≤ words_left new + (5 * length ws + 20)
  pub ids : ids_left old ≤ ids_left new + (length ws + 5)
