-- What the nodes of addresses stand for while a tree grows.
use Rattle.std.specs.Prelude.{◌≡◌, ℕ, ◌/◌, nat_eq, if◌then◌else◌, Bool, List}
use Rattle.word_base.specs.declared.event.Room.{Room}
use Rattle.tpf_decode.specs.declared.meaning.Meaning.{Meaning}
use Rattle.tpf_decode.specs.declared.meaning.Meaning.TheVariants.{Allocates, Consumes}
use Rattle.tpf_program.specs.Program.{Shader}
use Rattle.tpf_program.specs.Sizes.{Addressing}
use Rattle.tpf_program.specs.Sizes as sizes
use Rattle.tpf_program.specs.declared.instruction.Instruction.{Instruction}
use Rattle.shader_tree.specs.declared.node.Node.{Node}
use Rattle.shader_tree.specs.Nodes.{AWord}
use Rattle.shader_tree.specs.Terms.{Term, Length, Product, Word}
use Rattle.raise_operands.specs.Building.{IsNode}
use Rattle.raise_operands.specs.Raising.{followed}
use Rattle.raise_views.specs.declared.address.Address.{Address}
use Rattle.raise_views.specs.declared.address.Reach.{Reach}
use Rattle.raise_views.specs.declared.address.Way.{Way}
use Rattle.raise_views.specs.declared.address.Way.TheVariants.{Structures, Words}
use Rattle.raise_views.specs.Guarding.{reach_of, room_by}
use Rattle.raise_views.specs.Reaching.{At, address_of, known_or, structures, word_of, word_scratch}

-- the word from which the test of a component and its place are made
abbrev pub base_by : Way → Address → ℕ → Term
base_by Words a c = known_or word_scratch a.word
base_by other a c = word_of a c

abbrev pub base_of : Address → ℕ → Term
base_of a c = base_by a.way a c

abbrev pub IsWordOf : List Node → Address → ℕ → ℕ → Type 0
IsWordOf nodes a c word = IsNode nodes AWord word (base_of a c)

-- the nodes that a test in structures takes beyond those of another
abbrev pub more : Way → ℕ
more (Structures words) = 5
more other = 0

-- the nodes of the word of a component
abbrev pub base_nodes : ℕ → ℕ
base_nodes c = if nat_eq c 0 then 1 else 3

-- a statement behind another where a test holds, and four components behind each other
abbrev pub next_if : Bool → Term → Term → Term
next_if b s x = if b then followed s x else s

abbrev pub four_of : (ℕ → Bool) → (ℕ → Term) → Term → Term
four_of t f s = next_if (t 3) (next_if (t 2) (next_if (t 1) (next_if (t 0) s (f 0)) (f 1)) (f 2)) (f 3)

-- The address of an instruction, by its terms. A counter is one word, and needs none.
abbrev pub IsAddressOf : Meaning → At → Address → Type 0
IsAddressOf Allocates at a = Unit {0}
IsAddressOf Consumes at a = Unit {0}
IsAddressOf other at a = a ≡ address_of at

-- where an instruction reaches its room; of a counter the room alone counts
abbrev pub IsReachOf : Meaning → Shader → Instruction → Reach → Type 0
IsReachOf Allocates p i r = r.room ≡ room_by Allocates i
IsReachOf Consumes p i r = r.room ≡ room_by Consumes i
IsReachOf other p i r = r ≡ reach_of other p i

-- what bufinfo says of the length of a view: bytes, or structures
abbrev pub length_of : Addressing → Room → Term
length_of sizes.Bytes room = Product (Length room) 4
length_of (sizes.Structures stride) room = structures (stride / 4) room
length_of sizes.Words room = Word 0
