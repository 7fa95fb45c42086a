-- A symbol as a pair of words, by which it is found: one number for each sort of symbols, and the number inside the
-- symbol.
use Rattle.std.specs.Prelude.{ℕ, nat_eq, nat_lt, ◌&&◌, if◌then◌else◌, Bool}
use Rattle.word_base.specs.declared.event.Room.TheVariants.{Resource, Uav, Counter, Shared}
use Rattle.node_pool.specs.declared.key.Key.{Key}
use Rattle.spirv_symbols.specs.declared.symbol.Access.{Access}
use Rattle.spirv_symbols.specs.declared.symbol.Access.TheVariants.{Plain, ReadOnly, Coherent}
use Rattle.spirv_symbols.specs.declared.symbol.Symbol.{Symbol}
use Rattle.spirv_symbols.specs.declared.symbol.Symbol.TheVariants.{AType, Constant, True, Null, Immediates, Import, Main, FirstLabel, Input, Memory, Uniform, Push, Scratch, Register, Registers, Elements, ImmediateArray}
use Rattle.spirv_symbols.specs.declared.symbol.TypeSymbol.{TypeSymbol}
use Rattle.spirv_symbols.specs.declared.symbol.TypeSymbol.TheVariants.{Void, Procedure, Word, Truth, Triple, Quad, Pair, Words, PushWords, Vectors, RuntimeWords, View, VectorsBlock, PushBlock, WordPointer, TriplePointer, LocalPointer, SharedPointer, ViewPointer, VectorsPointer, PushPointer}

abbrev pub key : ℕ → ℕ → Key
key kind number = record { kind = kind; number = number }

abbrev pub number_of_access : Access → ℕ
number_of_access Plain = 0
number_of_access ReadOnly = 1
number_of_access Coherent = 2

abbrev pub key_of_type : TypeSymbol → Key
key_of_type Void = key 0 0
key_of_type Procedure = key 1 0
key_of_type Word = key 2 0
key_of_type Truth = key 3 0
key_of_type Triple = key 4 0
key_of_type Quad = key 5 0
key_of_type Pair = key 6 0
key_of_type (Words n) = key 7 n
key_of_type (PushWords n) = key 8 n
key_of_type (Vectors n) = key 9 n
key_of_type RuntimeWords = key 10 0
key_of_type (View access) = key 11 (number_of_access access)
key_of_type (VectorsBlock n) = key 12 n
key_of_type (PushBlock n) = key 13 n
key_of_type (WordPointer class) = key 14 class
key_of_type TriplePointer = key 15 0
key_of_type (LocalPointer n) = key 16 n
key_of_type (SharedPointer n) = key 17 n
key_of_type (ViewPointer access) = key 18 (number_of_access access)
key_of_type (VectorsPointer n) = key 19 n
key_of_type (PushPointer n) = key 20 n

abbrev pub key_of : Symbol → Key
key_of (AType t) = key_of_type t
key_of (Constant w) = key 21 w
key_of True = key 22 0
key_of (Null n) = key 23 n
key_of Immediates = key 24 0
key_of Import = key 25 0
key_of Main = key 26 0
key_of FirstLabel = key 27 0
key_of (Input built_in) = key 28 built_in
key_of (Memory (Resource slot)) = key 29 slot
key_of (Memory (Uav slot)) = key 30 slot
key_of (Memory (Counter slot)) = key 31 slot
key_of (Memory (Shared slot)) = key 32 slot
key_of (Uniform slot) = key 33 slot
key_of Push = key 34 0
key_of (Scratch n) = key 35 n
key_of (Register k) = key 36 k
key_of Registers = key 37 0
key_of (Elements slot) = key 38 slot
key_of ImmediateArray = key 39 0

-- two symbols are one where their pairs are
abbrev pub is_symbol : Symbol → Symbol → Bool
is_symbol a b = nat_eq (key_of a).kind (key_of b).kind && nat_eq (key_of a).number (key_of b).number

-- the symbol of a pair; of pairs that are no symbol's, some symbol
abbrev pub access_at : ℕ → Access
access_at n = if nat_eq n 1 then ReadOnly else if nat_eq n 2 then Coherent else Plain

abbrev pub type_by : ℕ → ℕ → TypeSymbol
type_by kind n =
    if nat_eq kind 0 then Void else if nat_eq kind 1 then Procedure else
    if nat_eq kind 2 then Word else if nat_eq kind 3 then Truth else
    if nat_eq kind 4 then Triple else if nat_eq kind 5 then Quad else
    if nat_eq kind 6 then Pair else if nat_eq kind 7 then Words n else
    if nat_eq kind 8 then PushWords n else if nat_eq kind 9 then Vectors n else
    if nat_eq kind 10 then RuntimeWords else if nat_eq kind 11 then View (access_at n) else
    if nat_eq kind 12 then VectorsBlock n else if nat_eq kind 13 then PushBlock n else
    if nat_eq kind 14 then WordPointer n else if nat_eq kind 15 then TriplePointer else
    if nat_eq kind 16 then LocalPointer n else if nat_eq kind 17 then SharedPointer n else
    if nat_eq kind 18 then ViewPointer (access_at n) else if nat_eq kind 19 then VectorsPointer n else
    PushPointer n

abbrev pub other_by : ℕ → ℕ → Symbol
other_by kind n =
    if nat_eq kind 21 then Constant n else
    if nat_eq kind 22 then True else if nat_eq kind 23 then Null n else
    if nat_eq kind 24 then Immediates else if nat_eq kind 25 then Import else
    if nat_eq kind 26 then Main else if nat_eq kind 27 then FirstLabel else
    if nat_eq kind 28 then Input n else if nat_eq kind 29 then Memory (Resource n) else
    if nat_eq kind 30 then Memory (Uav n) else if nat_eq kind 31 then Memory (Counter n) else
    if nat_eq kind 32 then Memory (Shared n) else if nat_eq kind 33 then Uniform n else
    if nat_eq kind 34 then Push else if nat_eq kind 35 then Scratch n else
    if nat_eq kind 36 then Register n else if nat_eq kind 37 then Registers else
    if nat_eq kind 38 then Elements n else ImmediateArray

abbrev pub symbol_by : ℕ → ℕ → Symbol
symbol_by kind n = if nat_lt kind 21 then AType (type_by kind n) else other_by kind n

abbrev pub symbol_at : Key → Symbol
symbol_at k = symbol_by k.kind k.number
