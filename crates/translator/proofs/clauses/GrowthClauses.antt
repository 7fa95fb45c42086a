-- What the clauses of `growth_laws` of spirv_symbols say.
use Rattle.std.specs.Prelude.{ℕ, ◌≤◌, ◌⊎◌}
use Rattle.spirv_symbols.specs.declared.symbol.Symbol.{Symbol}
use Rattle.spirv_symbols.specs.Contexts.{Context}
use Rattle.spirv_symbols.specs.Tables.{Table, Has, Stands, Extends, Takes}

pub record GrowthClauses : Type 0 where
  pub kept : (old new : Table) (s : Symbol) (x : ℕ) → Extends old new → Has old.entries s x
      → Has new.entries s x
  pub later : (old new : Table) (s : Symbol) (x : ℕ) → Extends old new → Has new.entries s x
      → Has old.entries s x ⊎ (old.next ≤ x)
  pub on : (a b c : Table) → Extends a b → Extends b c → Extends a c
  pub itself : (t : Table) → Extends t t
  pub taken : (c : Context) (a b : Table) (r : ℕ) → Takes a b r → Stands c a → Stands c b × Extends a b
