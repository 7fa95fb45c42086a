-- Where an instruction reaches a room, as terms: what is kept of its address, whether a component lies in range, and at
-- which word. (Shader Model 5 assembly: ld_raw, ld_structured, store_raw, store_structured, the atomic instructions.)
use Rattle.std.specs.Prelude.{ℕ, ◌+◌, ◌/◌, nat_eq, nat_lt, not, if◌then◌else◌, Bool, true, false, ◌&&◌, List, [], ◌∷◌, ◌++◌, map, Option, Some, None}
use Rattle.word_base.specs.declared.arithmetic.Binary.TheVariants.{Iadd}
use Rattle.word_base.specs.declared.event.Act.{Act}
use Rattle.word_base.specs.declared.event.Room.{Room}
use Rattle.tpf_decode.specs.declared.argument.Argument.{Argument}
use Rattle.tpf_program.specs.Sizes.{Addressing}
use Rattle.tpf_program.specs.Sizes as sizes
use Rattle.shader_tree.specs.declared.node.Comparison.TheVariants.{ULess}
use Rattle.shader_tree.specs.Terms.{Term, Word, Scratch, Length, Two, Quotient, Product, Compare, Both, Set, Load, Store, Atomic, Guard, Then, Nothing}
use Rattle.shader_tree.specs.Values.{Spaces}
use Rattle.raise_operands.specs.Folding.{literal, added}
use Rattle.raise_operands.specs.Raising.{chained, source}
use Rattle.raise_views.specs.declared.address.Address.{Address}
use Rattle.raise_views.specs.declared.address.Reach.{Reach}
use Rattle.raise_views.specs.declared.address.Way.{Way}
use Rattle.raise_views.specs.declared.address.Way.TheVariants.{Bytes, Structures, Words}

-- THE SCRATCH WORDS behind those of indices: the word of an address, the index of its structure, and the answer for
-- each component.
abbrev pub word_scratch : ℕ
word_scratch = 10

abbrev pub structure_scratch : ℕ
structure_scratch = 11

abbrev pub answer_scratch : ℕ → ℕ
answer_scratch c = 12 + c

-- WHAT IS KEPT: a literal stays one, another word is taken when the instruction begins.
abbrev pub keep_by : Option ℕ → ℕ → Term → Term
keep_by (Some w) n t = Nothing
keep_by None n t = Set n t

abbrev pub keep : ℕ → Term → Term
keep n t = keep_by (literal t) n t

abbrev pub known_or : ℕ → Option ℕ → Term
known_or n (Some w) = Word w
known_or n None = Scratch n

-- an offset counts bytes, whose low two bits count for nothing
abbrev pub quarter_by : Option ℕ → Term → Term
quarter_by (Some w) t = Word (w / 4)
quarter_by None t = Quotient t 4

abbrev pub quarter : Term → Term
quarter t = quarter_by (literal t) t

-- AN ADDRESS by the terms of its operands: by bytes, by the structures of a view that have that many words, or by
-- words.
pub record At : Type 0 where
  pub way : Way
  pub word : Term
  pub index : Term

abbrev pub at_byte : Term → At
at_byte offset = record { way = Bytes; word = quarter offset; index = Word 0 }

abbrev pub in_structure : ℕ → Term → Term → At
in_structure words index offset = record { way = Structures words; word = quarter offset; index = index }

abbrev pub at_word : Term → At
at_word index = record { way = Words; word = index; index = Word 0 }

abbrev pub keeps : At → List Term
keeps at = keep word_scratch at.word ∷ keep structure_scratch at.index ∷ []

abbrev pub address_of : At → Address
address_of at = record { way = at.way; word = literal at.word; index = literal at.index }

-- an atomic's address: on a structured view the first component is the index and the second the offset
abbrev pub paired_by : Addressing → Spaces → ℕ → Argument → At
paired_by sizes.Bytes g k a = at_byte (source g k a 0)
paired_by (sizes.Structures stride) g k a = in_structure (stride / 4) (source g k a 0) (source g k a 1)
paired_by sizes.Words g k a = at_word (source g k a 0)

-- A COMPONENT of what is reached: its word in the structure, or in the room.
abbrev pub word_of : Address → ℕ → Term
word_of a c = added (known_or word_scratch a.word) c

abbrev pub index_of : Address → Term
index_of a = known_or structure_scratch a.index

-- how many structures of so many words a room has
abbrev pub structures : ℕ → Room → Term
structures words room = if nat_eq words 0 then Word 0 else Quotient (Length room) words

-- whether it lies in range; of a word that is known to lie in its structure the index alone is tested
abbrev pub index_test : ℕ → Room → Term → Term
index_test words room index = Compare ULess index (structures words room)

abbrev pub structure_test : ℕ → Room → Term → Term → Term
structure_test words room index word = Both (index_test words room index) (Compare ULess word (Word words))

abbrev pub structure_by : Option ℕ → ℕ → Room → Term → Term → Term
structure_by (Some w) words room index word = if nat_lt w words then index_test words room index else structure_test
    words room index word
structure_by None words room index word = structure_test words room index word

abbrev pub test_by : Way → Room → Address → ℕ → Term
test_by Bytes room a c = Compare ULess (word_of a c) (Length room)
test_by (Structures words) room a c = structure_by (literal (word_of a c)) words room (index_of a) (word_of a c)
test_by Words room a c = Compare ULess (known_or word_scratch a.word) (Length room)

-- its word in the room
abbrev pub sum_by : Option ℕ → Term → Term → Term
sum_by (Some w) x word = added x w
sum_by None x word = Two Iadd x word

abbrev pub place_by : Way → Address → ℕ → Term
place_by Bytes a c = word_of a c
place_by (Structures words) a c = sum_by (literal (word_of a c)) (Product (index_of a) words) (word_of a c)
place_by Words a c = known_or word_scratch a.word

abbrev pub test : Reach → ℕ → Term
test r c = test_by r.address.way r.room r.address c

abbrev pub place : Reach → ℕ → Term
place r c = place_by r.address.way r.address c

-- Where the room has so many words in any setting, a literal address needs no test.
abbrev pub is_known_by : Way → ℕ → Option ℕ → Option ℕ → ℕ → Bool
is_known_by Bytes known (Some w) index c = nat_lt (w + c) known
is_known_by (Structures words) known (Some w) (Some i) c = nat_lt i (known / words) && nat_lt (w + c) words
is_known_by Words known (Some w) index c = nat_lt w known
is_known_by way known word index c = false

abbrev pub is_known : Reach → ℕ → Bool
is_known r c = is_known_by r.address.way r.known r.address.word r.address.index c

-- A STATEMENT THAT MAKES AN EVENT stands under its test; where it gives a word, that word is 0 out of range.
abbrev pub guarded : Reach → ℕ → Term → Term
guarded r c body = if is_known r c then body else Guard (test r c) body

abbrev pub answered : Reach → ℕ → ℕ → Term → Term
answered r c n body = if is_known r c then body else Then (Set n (Word 0)) (Guard (test r c) body)

abbrev pub load_part : Reach → ℕ → ℕ → Term
load_part r d c = answered r c (answer_scratch d) (Load (answer_scratch d) r.room (place r c))

abbrev pub store_part : Reach → ℕ → Term → Term
store_part r c value = guarded r c (Store r.room (place r c) value)

abbrev pub change : Reach → Act → Term → Term → Term
change r kind a b = Atomic (answer_scratch 0) r.room (place r 0) kind a b

abbrev pub atomic_part : Reach → Act → Term → Term → Bool → Term
atomic_part r kind a b answers = if answers then answered r 0 (answer_scratch 0) (change r kind a b) else guarded r 0
    (change r kind a b)

-- COMPONENTS THAT STAND UNDER ONE GUARD: of a structure at a literal offset, where the word of each is known to lie in
-- it, and the index is not known to be in range.
abbrev pub are_inside : ℕ → ℕ → List ℕ → Bool
are_inside words w [] = true
are_inside words w (c ∷ cs) = nat_lt (w + c) words && are_inside words w cs

abbrev pub is_index_known : ℕ → ℕ → Option ℕ → Bool
is_index_known words known (Some i) = nat_lt i (known / words)
is_index_known words known None = false

abbrev pub are_joined : Way → ℕ → Option ℕ → Option ℕ → List ℕ → Bool
are_joined (Structures words) known (Some w) index cs = are_inside words w cs && not (is_index_known words known index)
are_joined way known word index cs = false

abbrev pub stand_together : Reach → List ℕ → Bool
stand_together r [] = false
stand_together r (c ∷ cs) = are_joined r.address.way r.known r.address.word r.address.index (c ∷ cs)

abbrev pub words_of : Way → ℕ
words_of (Structures words) = words
words_of other = 0

abbrev pub together : Reach → List Term → Term
together r body = Guard (index_test (words_of r.address.way) r.room (index_of r.address)) (chained body)

abbrev pub zero_of : ℕ → Term
zero_of d = Set (answer_scratch d) (Word 0)

abbrev pub load_of : Reach → ℕ → ℕ → Term
load_of r d c = Load (answer_scratch d) r.room (place r c)

-- the loads of components: each destination component with the component that it takes
abbrev pub loads : Reach → List ℕ → (ℕ → ℕ) → List Term
loads r ds select =
    if stand_together r (map select ds) then map zero_of ds ++ together r (map (λ d. load_of r d (select d)) ds) ∷ []
    else map (λ d. load_part r d (select d)) ds

-- the stores of components
abbrev pub store_of : Reach → (ℕ → Term) → ℕ → Term
store_of r value c = Store r.room (place r c) (value c)

abbrev pub stores : Reach → List ℕ → (ℕ → Term) → List Term
stores r cs value =
    if stand_together r cs then together r (map (store_of r value) cs) ∷ []
    else map (λ c. store_part r c (value c)) cs
