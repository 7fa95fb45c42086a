-- What the clauses of `id_laws` of spirv_symbols say.
use Rattle.std.specs.Prelude.{◌≡◌, ℕ, ◌<◌, length}
use Rattle.spirv_symbols.specs.declared.symbol.Symbol.{Symbol}
use Rattle.spirv_symbols.specs.Contexts.{Context}
use Rattle.spirv_symbols.specs.Rows.{needs}
use Rattle.spirv_symbols.specs.Tables.{Table, Has, AreThere, Stands, empty_table, id_of}

pub record IdClauses : Type 0 where
  pub single : (c : Context) (t : Table) (s : Symbol) (x y : ℕ) → Stands c t → Has t.entries s x
      → Has t.entries s y → x ≡ y
  pub apart : (c : Context) (t : Table) (s u : Symbol) (x : ℕ) → Stands c t → Has t.entries s x
      → Has t.entries u x → s ≡ u
  pub found : (c : Context) (t : Table) (s : Symbol) (x : ℕ) → Stands c t → Has t.entries s x
      → id_of t.entries s ≡ x
  pub bounds : (c : Context) (t : Table) (s : Symbol) (x : ℕ) → Stands c t → Has t.entries s x
      → (0 < x) × (x < t.next)
  pub founded : (c : Context) (t : Table) (s : Symbol) (x : ℕ) → Stands c t → Has t.entries s x
      → AreThere t.entries (needs c s) x
  pub few : (c : Context) (t : Table) → Stands c t → length t.entries < t.next
  pub empty : (c : Context) (limit : ℕ) → Stands c (empty_table limit)
