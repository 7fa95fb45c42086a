-- A module while its function is written: the symbols with their ids, the words of the function's code, and the ids
-- that the open block has for words of the lane.
use Rattle.std.specs.Prelude.{ℕ, ◌+◌, ◌-◌, ◌/◌, ◌%◌, nat_eq, if◌then◌else◌, List, [], ◌∷◌, length, map, Option, Some, None}
use Rattle.std.specs.List.{sum}
use Rattle.kept_values.specs.declared.word.Word.{Word}
use Rattle.kept_values.specs.declared.word.Word.TheVariants as kept
use Rattle.kept_values.specs.Tables.{dirty_in}
use Rattle.shader_tree.specs.declared.node.Space.{Space}
use Rattle.shader_tree.specs.declared.node.Space.TheVariants as space
use Rattle.shader_tree.specs.Values.{Spaces}
use Rattle.spirv_symbols.specs.declared.symbol.Symbol.TheVariants.{Elements}
use Rattle.spirv_symbols.specs.Contexts.{size_of}
use Rattle.spirv_symbols.specs.Tables.{weight}
use Rattle.spirv_emit.specs.declared.buffer.ConstantBuffer.{ConstantBuffer}
pub use Rattle.spirv_emit.specs.declared.emitter.Frame.{Frame}
pub use Rattle.spirv_emit.specs.declared.emitter.Emitter.{Emitter as Emission}

-- the first id that is free
abbrev pub next_of : Emission → ℕ
next_of e = e.symbols.next

-- THE SIZES of what the program declares. The constant buffer of a slot:
abbrev pub buffer_of : List ConstantBuffer → ℕ → Option ConstantBuffer
buffer_of [] slot = None
buffer_of (b ∷ bs) slot = if nat_eq b.slot slot then Some b else buffer_of bs slot

abbrev pub vectors_in : Option ConstantBuffer → ℕ
vectors_in None = 0
vectors_in (Some b) = b.vectors

-- four words for each register, element and vector
abbrev pub spaces_of : Frame → Spaces
spaces_of f = record {
  temps = f.context.registers / 4;
  elements = λ slot. size_of f.context (Elements slot) / 4;
  vectors = λ slot. vectors_in (buffer_of f.buffers.list slot);
  immediates = f.context.immediates;
}

-- WORDS OF ARRAYS that may be kept as ids are numbered through all arrays, 16,384 for each: those of r# from 0 on, and
-- those of x# behind them by their slots. No array has more words than that.
abbrev pub per_array : ℕ
per_array = 16384

abbrev pub space_of_element : ℕ → Space
space_of_element n = if nat_eq (n / per_array) 0 then space.Temps else space.Indexable (n / per_array - 1)

abbrev pub index_of_element : ℕ → ℕ
index_of_element n = n % per_array

-- WHAT IS COUNTED. Each word that is not in memory yet will take the store of its variable; a scratch word and a
-- register's word the variable too, a word of an array the constant of its index and a chain.
abbrev pub waiting_words : Word → ℕ
waiting_words (kept.Scratch n) = 8
waiting_words (kept.Register k) = 8
waiting_words (kept.Element n) = 12

abbrev pub waiting_ids : Word → ℕ
waiting_ids (kept.Scratch n) = 1
waiting_ids (kept.Register k) = 1
waiting_ids (kept.Element n) = 2

-- the words of the code and of what is declared, and the ids, with those of what waits
abbrev pub words_used : Emission → ℕ
words_used e = length e.code.list + weight e.frame.context e.symbols.entries + sum (map waiting_words (dirty_in e.kept))

abbrev pub ids_used : Emission → ℕ
ids_used e = e.symbols.next + sum (map waiting_ids (dirty_in e.kept))

-- how many words and ids there is room for yet
unfoldable pub words_left : Emission → ℕ
words_left e = e.code.capacity - words_used e

unfoldable pub ids_left : Emission → ℕ
ids_left e = e.symbols.limit - ids_used e
