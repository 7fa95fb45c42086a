-- What chains point to and loads give, by the values of their operands.
use Rattle.std.specs.Prelude.{ℕ, ◌+◌, ◌*◌, nat_eq, nat_lt, ◌&&◌, if◌then◌else◌, Bool, [], List, ◌∷◌, Option, Some, None, Ok, Err, slice_get, slice_index}
use Rattle.word_base.specs.declared.event.Room.{Room}
use Rattle.word_base.specs.declared.event.Room.TheVariants as room
use Rattle.kept_values.specs.declared.word.Word.{Word as Kept}
use Rattle.kept_values.specs.declared.word.Word.TheVariants as kept
use Rattle.tpf_decode.specs.declared.argument.Kind.{Kind}
use Rattle.shader_tree.specs.declared.node.Space.{Space}
use Rattle.shader_tree.specs.declared.node.Space.TheVariants as space
use Rattle.shader_tree.specs.Values.{Words, size_of, word_in, thread_word}
use Rattle.spirv_words.specs.BuiltIn.{LocalInvocationIndex}
use Rattle.spirv_words.specs.Values.{Value, Word, AtLocal, AtConstants, AtPush, AtInput, Got, both, and_then, or_rule, word_of}
use Rattle.spirv_words.specs.Globals.{Machine, built_in, push_word}
use Rattle.spirv_symbols.specs.declared.symbol.Symbol.{Symbol}
use Rattle.spirv_symbols.specs.declared.symbol.Symbol.TheVariants.{Scratch, Register, Registers, Elements, ImmediateArray}
use Rattle.spirv_emit.specs.Emission.{spaces_of}
use Rattle.spirv_emit.specs.Lanes.{Site, word_of as lane_word}
use Rattle.spirv_emit.specs.Values.{Meaning, got_of}

-- a word of the lane
abbrev pub the_word : Kept → Meaning
the_word w z t vs = Ok (Word (lane_word t w) ∷ [])

-- A CHAIN from a variable with an index below a size: of an array or a vector, and of the array in a block, whose
-- member is the constant 0.
abbrev pub inside : Bool → Value → Got Value
inside test v = if test then Ok v else Err 7

abbrev pub within : ℕ → (ℕ → Value) → ℕ → Got Value
within size at i = inside (nat_lt i size) (at i)

abbrev pub points : (Site → ℕ) → (ℕ → Value) → Meaning
points size at z t (v ∷ x ∷ []) = and_then (word_of (Some x)) (λ i. and_then (within (size z) at i) (λ p. Ok (p ∷ [])))
points size at z t vs = Err 8

abbrev pub points_inside : (Site → ℕ) → (ℕ → Value) → Meaning
points_inside size at z t (v ∷ n ∷ x ∷ []) =
    and_then (word_of (Some x)) (λ i. and_then (within (size z) at i) (λ p. Ok (p ∷ [])))
points_inside size at z t vs = Err 8

-- with a second index into a vector of four words
abbrev pub within_vector : ℕ → (ℕ → Value) → ℕ → ℕ → Got Value
within_vector size at i j = inside (nat_lt i size && nat_lt j 4) (at (i * 4 + j))

abbrev pub points_in_vector : (Site → ℕ) → (ℕ → Value) → Meaning
points_in_vector size at z t (v ∷ n ∷ x ∷ y ∷ []) =
    and_then (both (word_of (Some x)) (word_of (Some y)))
    (λ p. and_then (within_vector (size z) at p.0 p.1) (λ q. Ok (q ∷ [])))
points_in_vector size at z t vs = Err 8

-- A LOAD of what the lane is given: of an input, a constant buffer, the push constants.
abbrev pub given_at : Machine → Value → Got ℕ
given_at m (AtInput kind w) = or_rule 7 (slice_get (built_in m.setting.ids kind) w)
given_at m (AtConstants slot w) = Ok (slice_index (m.setting.constants slot) w)
given_at m (AtPush w) = Ok (push_word m w)
given_at m v = Err 1

abbrev pub given_word : Meaning
given_word z t (v ∷ []) = and_then (given_at z.machine v) (λ w. Ok (Word w ∷ []))
given_word z t vs = Err 8

-- A load of a word of the array of that variable, by the place that the pointer has.
abbrev pub local_at : ℕ → Value → Got ℕ
local_at p (AtLocal v w) = if nat_eq v p then Ok w else Err 1
local_at p v = Err 1

-- the word of a space at an index
abbrev pub word_at : Site → Words → Space → ℕ → Got (List Value)
word_at z t space i =
    and_then (inside (nat_lt i (size_of (spaces_of z.frame) space))
    (Word (word_in (spaces_of z.frame) z.machine.setting t.registers space i)))
    (λ w. Ok (w ∷ []))

abbrev pub array_word : ℕ → Space → Meaning
array_word p space z t (v ∷ []) = and_then (local_at p v) (word_at z t space)
array_word p space z t vs = Err 8

-- the length of a room
abbrev pub extent_of : Room → Meaning
extent_of room z t vs = Ok (Word (z.machine.setting.extent room) ∷ [])

-- THE VARIABLE of a word that has one of its own, and of the words of a space.
abbrev pub variable_of : Kept → Option Symbol
variable_of (kept.Scratch n) = Some (Scratch n)
variable_of (kept.Register k) = Some (Register k)
variable_of (kept.Element n) = None

abbrev pub array_of : Space → Option Symbol
array_of space.Temps = Some Registers
array_of (space.Indexable slot) = Some (Elements slot)
array_of space.ImmediateConstant = Some ImmediateArray
array_of (space.Constant slot) = None

-- the word of a space at an index, which is a word
abbrev pub space_word : Space → Meaning
space_word space z t (x ∷ []) = and_then (word_of (Some x)) (word_at z t space)
space_word space z t vs = Err 8

-- a view of buffers
abbrev pub IsView : Room → Type 0
IsView (room.Resource slot) = Unit {0}
IsView (room.Uav slot) = Unit {0}
IsView other = ⊥

-- a component of a thread id
abbrev pub thread_of : Kind → ℕ → Meaning
thread_of kind c z t vs = got_of (thread_word z.machine.setting.ids kind c)

-- a word of a built-in, by its number
abbrev pub input_word : ℕ → ℕ → Meaning
input_word kind k z t vs =
    and_then (or_rule 7 (slice_get (built_in z.machine.setting.ids kind) k)) (λ w. Ok (Word w ∷ []))

abbrev pub flat_word : Meaning
flat_word z t vs = input_word LocalInvocationIndex 0 z t vs

-- the array that words of a space are written to
abbrev pub written_array : Space → Option Symbol
written_array space.Temps = Some Registers
written_array (space.Indexable slot) = Some (Elements slot)
written_array constants = None
