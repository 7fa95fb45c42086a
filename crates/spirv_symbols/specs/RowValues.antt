-- A row as a value of the code.
use Rattle.std.specs.Prelude.{◌≡◌, ℕ, ◌<◌, ◌≤◌, Bool, true, false, List, [], ◌∷◌, ◌++◌, length, map, take}
use Rattle.spirv_words.specs.Operations.{number_of}
use Rattle.spirv_symbols.specs.declared.symbol.Section.{Section}
use Rattle.spirv_symbols.specs.declared.symbol.Symbol.TheVariants.{Constant}
use Rattle.spirv_symbols.specs.declared.row.Part.{Part}
use Rattle.spirv_symbols.specs.declared.row.Part.TheVariants.{Of, Number}
use Rattle.spirv_symbols.specs.declared.row.Marks.{Marks}
use Rattle.spirv_symbols.specs.declared.row.Row.{Row as RowValue}
use Rattle.spirv_symbols.specs.Contexts.{Context}
use Rattle.spirv_symbols.specs.Rows.{Row}

-- so many operands, and no constants behind them
abbrev pub row_value : Section → ℕ → ℕ → (a b c d e : Part) → Marks → RowValue
row_value section op count a b c d e marks = record {
  section = section;
  op = op;
  parts = a ∷ b ∷ c ∷ d ∷ e ∷ [];
  count = count;
  gathers = false;
  marks = marks;
}

abbrev pub none : Part
none = Number 0

abbrev pub gathered : Bool → List ℕ → List Part
gathered true ws = map (λ w. Of (Constant w)) ws
gathered false ws = []

abbrev pub parts_of : Context → RowValue → List Part
parts_of context v = take v.count v.parts ++ gathered v.gathers context.immediates

pub record IsRow (context : Context) (r : Row) (v : RowValue) : Type 0 where
  pub few : v.count ≤ length v.parts
  pub section : v.section ≡ r.section
  pub op : v.op ≡ number_of r.op
  pub short : v.op < 65536
  pub parts : parts_of context v ≡ r.parts
  pub marks : v.marks ≡ r.marks
