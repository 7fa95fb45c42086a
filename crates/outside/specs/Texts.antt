-- Words as texts.
use Rattle.std.specs.Prelude.{ℕ, List, map, string_bytes}
use Rattle.outside.specs.declared.words.Words.{Words}

abbrev pub texts_of : Words → List (List ℕ)
texts_of words = map string_bytes words.list.items
