-- What ids stand for while a lane runs, and the strict rules that an instruction may break:
--   1 an operand has a wrong type            5 a division or rest by 0
--   2 an id has no value                     6 a bit field past 32 bits
--   3 a branch to no block, a block unended  7 an access past the end
--   4 a shift by 32 or more                  8 an instruction that cannot stand where the lane meets it
-- Where several are broken at once the lowest counts.
use Rattle.std.specs.Prelude.{ℕ, zero, suc, min, if◌then◌else◌, Bool, List, [], ◌∷◌, ◌++◌, map, Option, Some, None, Result, Ok, Err, option_and_then, option_map}
use Rattle.word_base.specs.declared.event.Room.{Room}

-- A composite is a list of parts: `Part` puts one in front of the others, which end in `NoParts`. By the sorts that instructions ask, its parts
-- are words, truths and composites. A pointer is the place of a word: in a variable of the lane, a room, a constant buffer, the push
-- constants or an input.
pub data Value : Type 0 where
  Word : (word : ℕ) → Value
  Truth : (truth : Bool) → Value
  NoParts : Value
  Part : (value others : Value) → Value
  AtLocal : (variable word : ℕ) → Value
  AtRoom : (room : Room) (word : ℕ) → Value
  AtConstants : (slot word : ℕ) → Value
  AtPush : (word : ℕ) → Value
  AtInput : (built_in word : ℕ) → Value

-- the composite of these parts, and of these words
abbrev pub of_parts : List Value → Value
of_parts [] = NoParts
of_parts (v ∷ vs) = Part v (of_parts vs)

abbrev pub of_words : List ℕ → Value
of_words ws = of_parts (map (λ w. Word w) ws)

-- values that are all there
abbrev pub all_there : List (Option Value) → Option (List Value)
all_there [] = Some []
all_there (v ∷ vs) = option_and_then (λ x. option_map (λ xs. x ∷ xs) (all_there vs)) v

-- something, or the lowest rule that is broken
abbrev pub Got : Type 0 → Type 0
Got X = Result X ℕ

abbrev pub both : {X Y : Type 0} → Got X → Got Y → Got (X × Y)
both (Ok x) (Ok y) = Ok (x, y)
both (Ok x) (Err r) = Err r
both (Err r) (Ok y) = Err r
both (Err r) (Err q) = Err (min r q)

abbrev pub and_then : {X Y : Type 0} → Got X → (X → Got Y) → Got Y
and_then (Ok x) f = f x
and_then (Err r) f = Err r

abbrev pub or_rule : {X : Type 0} → ℕ → Option X → Got X
or_rule rule None = Err rule
or_rule rule (Some x) = Ok x

-- the value of an id, as a word or as a truth
abbrev pub word_of : Option Value → Got ℕ
word_of None = Err 2
word_of (Some (Word w)) = Ok w
word_of (Some v) = Err 1

abbrev pub truth_of : Option Value → Got Bool
truth_of None = Err 2
truth_of (Some (Truth b)) = Ok b
truth_of (Some v) = Err 1

abbrev pub words_of_all : (ℕ → Option Value) → List ℕ → Got (List ℕ)
words_of_all values [] = Ok []
words_of_all values (x ∷ xs) = and_then (both (word_of (values x)) (words_of_all values xs)) (λ p. Ok (p.0 ∷ p.1))

-- what is got of each one, in order
abbrev pub all_of : {X : Type 0} → List (Got X) → Got (List X)
all_of [] = Ok []
all_of (x ∷ xs) = and_then (both x (all_of xs)) (λ p. Ok (p.0 ∷ p.1))

abbrev pub values_of_all : (ℕ → Option Value) → List ℕ → Got (List Value)
values_of_all values [] = Ok []
values_of_all values (x ∷ xs) = and_then (both (or_rule 2 (values x)) (values_of_all values xs)) (λ p. Ok (p.0 ∷ p.1))

-- the part of a composite with that number, counted from 0, and the value that so many numbers lead to
abbrev pub part_of : Value → ℕ → Got Value
part_of (Part v others) zero = Ok v
part_of (Part v others) (suc k) = part_of others k
part_of NoParts k = Err 7
part_of v k = Err 1

abbrev pub extracted : List ℕ → Value → Got Value
extracted [] v = Ok v
extracted (k ∷ ks) v = and_then (part_of v k) (extracted ks)

-- The words of a value in order, as a variable holds them. A truth has the place of one word.
abbrev pub words_in : Value → Got (List ℕ)
words_in (Word w) = Ok (w ∷ [])
words_in (Truth b) = Ok ((if b then 1 else 0) ∷ [])
words_in NoParts = Ok []
words_in (Part v others) = and_then (both (words_in v) (words_in others)) (λ p. Ok (p.0 ++ p.1))
words_in v = Err 8

-- the words that a variable with this initializer holds
abbrev pub cells_of : Option Value → Got (List ℕ)
cells_of v = and_then (or_rule 2 v) words_in
