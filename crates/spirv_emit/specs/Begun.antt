-- What an emitter has from its beginning on, so that code costs no more than its nodes say, and what a tree may name.
use Rattle.std.specs.Prelude.{◌≡◌, ℕ, ◌<◌, ◌≤◌, [], Bool, true, false, not, List, Some, Option, None, IsTrue}
use Rattle.word_base.specs.Alu.{all_ones}
use Rattle.tpf_decode.specs.declared.argument.Kind.{Kind}
use Rattle.tpf_decode.specs.declared.argument.Kind.TheVariants as kind
use Rattle.binding_map.specs.declared.register.Place.{Place}
use Rattle.binding_map.specs.declared.register.Place.TheVariants.{Bound, Push as InPush}
use Rattle.kept_values.specs.declared.word.Word.{Word as Kept}
use Rattle.kept_values.specs.declared.word.Word.TheVariants.{Element}
use Rattle.kept_values.specs.Tables.{id_in, elements_in, IsEmpty}
use Rattle.shader_tree.specs.declared.node.Space.{Space}
use Rattle.shader_tree.specs.declared.node.Space.TheVariants as space
use Rattle.shader_tree.specs.Terms.{Term}
use Rattle.shader_tree.specs.Terms as term
use Rattle.shader_tree.specs.Walks.{Each, holds_no, spaces_in, rooms_in, threads_in}
use Rattle.spirv_words.specs.StorageClass as storage
use Rattle.spirv_words.specs.BuiltIn.{WorkgroupId, LocalInvocationId, GlobalInvocationId, LocalInvocationIndex}
use Rattle.spirv_symbols.specs.declared.symbol.Symbol.{Symbol}
use Rattle.spirv_symbols.specs.declared.symbol.Symbol.TheVariants.{AType, Constant, Main, FirstLabel, True, Import, Input, Memory, Uniform, Push, Registers, Elements, ImmediateArray}
use Rattle.spirv_symbols.specs.declared.symbol.TypeSymbol.TheVariants.{Word, Truth, Pair, WordPointer}
use Rattle.spirv_symbols.specs.declared.entry.Entry.{Entry}
use Rattle.spirv_symbols.specs.Contexts.{empty_context}
use Rattle.spirv_symbols.specs.Tables.{Has, Stands, empty_table}
use Rattle.spirv_emit.specs.declared.buffer.ConstantBuffer.{ConstantBuffer}
use Rattle.spirv_emit.specs.Emission.{Emission, Frame, next_of, buffer_of, words_used, ids_used}

abbrev pub IsThere : List Entry → Symbol → Type 0
IsThere entries s = (id : ℕ) × Has entries s id

-- THE SYMBOLS that count for no node: types of values and of pointers to words, the constants that operations use, the
-- extended instructions, the function and its first label.
pub record AreFixed (entries : List Entry) : Type 0 where
  pub word : IsThere entries (AType Word)
  pub truth : IsThere entries (AType Truth)
  pub pair : IsThere entries (AType Pair)
  pub local : IsThere entries (AType (WordPointer storage.Function))
  pub input : IsThere entries (AType (WordPointer storage.Input))
  pub uniform : IsThere entries (AType (WordPointer storage.Uniform))
  pub pushed : IsThere entries (AType (WordPointer storage.PushConstant))
  pub buffer : IsThere entries (AType (WordPointer storage.StorageBuffer))
  pub shared : IsThere entries (AType (WordPointer storage.Workgroup))
  pub zero' : IsThere entries (Constant 0)
  pub one : IsThere entries (Constant 1)
  pub four : IsThere entries (Constant 4)
  pub thirty_one : IsThere entries (Constant 31)
  pub thirty_two : IsThere entries (Constant 32)
  pub ones : IsThere entries (Constant all_ones)
  pub extended : IsThere entries Import
  pub holds : IsThere entries True
  pub main : IsThere entries Main
  pub label : IsThere entries FirstLabel

-- a word has a variable of its own, where it is no array's
abbrev pub HasVariable : Kept → Type 0
HasVariable (Element n) = ⊥
HasVariable w = Unit {0}

-- The table of symbols stands, the ids of words that are kept are below the first free one, the fixed symbols are
-- there, words of arrays are in memory, and what was used fits in what there is room for.
pub record IsBegun (e : Emission) : Type 0 where
  pub table : Stands e.frame.context e.symbols
  pub kept : (w : Kept) (id : ℕ) → id_in e.kept w ≡ Some id → id < next_of e
  pub fixed : AreFixed e.symbols.entries
  pub stored : elements_in e.kept ≡ []
  pub words' : words_used e ≤ e.code.capacity
  pub ids' : ids_used e ≤ e.symbols.limit

-- NOTHING IS WRITTEN YET; and nothing is said of a program.
pub record IsNew (e : Emission) : Type 0 where
  pub symbols : e.symbols ≡ empty_table e.symbols.limit
  pub code : e.code.list ≡ []
  pub kept : IsEmpty e.kept

pub record IsUnsaid (f : Frame) : Type 0 where
  pub context : f.context ≡ empty_context f.context.capacity f.context.room
  pub buffers : f.buffers.list ≡ []
  pub separate : f.separate ≡ false

-- WHAT A TREE MAY NAME. The variable of a space's words, where all of them have one; that of a constant buffer by its
-- place, but for one of no push constant words; a built-in's.
abbrev pub built_in_of : Kind → ℕ
built_in_of kind.GroupId = WorkgroupId
built_in_of kind.IdInGroup = LocalInvocationId
built_in_of kind.ThreadId = GlobalInvocationId
built_in_of other = LocalInvocationIndex

abbrev pub IsPlaceThere : List Entry → ℕ → Place → Type 0
IsPlaceThere entries slot (Bound set binding) = IsThere entries (Uniform slot)
IsPlaceThere entries slot (InPush first count) = 0 < count → IsThere entries Push

abbrev pub IsBufferThere : List Entry → Option ConstantBuffer → Type 0
IsBufferThere entries None = ⊥
IsBufferThere entries (Some b) = IsPlaceThere entries b.slot b.place

abbrev pub IsSpaceThere : Emission → Space → Type 0
IsSpaceThere e space.Temps = e.frame.separate ≡ false → IsThere e.symbols.entries Registers
IsSpaceThere e (space.Indexable slot) = IsThere e.symbols.entries (Elements slot)
IsSpaceThere e (space.Constant slot) = IsBufferThere e.symbols.entries (buffer_of e.frame.buffers.list slot)
IsSpaceThere e space.ImmediateConstant = IsThere e.symbols.entries ImmediateArray

-- A word of the registers r# at an index that is no literal: where each word has a variable of its own there is none.
abbrev pub is_literal : Term → Bool
is_literal (term.Word w) = true
is_literal other = false

abbrev pub is_searched : Term → Bool
is_searched (term.Read space.Temps at) = not (is_literal at)
is_searched (term.Write space.Temps at v) = not (is_literal at)
is_searched other = false

pub record Names (e : Emission) (x : Term) : Type 0 where
  pub spaces : Each (IsSpaceThere e) (spaces_in x)
  pub rooms : Each (λ room. IsThere e.symbols.entries (Memory room)) (rooms_in x)
  pub threads : Each (λ k. IsThere e.symbols.entries (Input (built_in_of k))) (threads_in x)
  pub direct : e.frame.separate ≡ true → IsTrue (holds_no is_searched x)
