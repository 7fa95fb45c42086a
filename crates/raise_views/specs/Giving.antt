-- The words that an instruction gives, and where components stand under one guard, while a tree grows.
use Rattle.std.specs.Prelude.{ℕ, ◌+◌, ◌-◌, ◌^◌, nat_eq, nat_lt, true, ◌&&◌, ◌||◌, is_some, if◌then◌else◌, Bool, List, [], ◌∷◌, Option, Some, None}
use Rattle.word_base.specs.declared.arithmetic.Binary.TheVariants.{Iadd}
use Rattle.tpf_program.specs.Values.{selected}
use Rattle.shader_tree.specs.Terms.{Term, Word, Scratch, Two}
use Rattle.raise_views.specs.declared.writing.Given.{Given}
use Rattle.raise_views.specs.declared.writing.Given.TheVariants.{Answers, Answer, Less, Zero, Measure}
use Rattle.raise_views.specs.declared.address.Way.{Way}
use Rattle.raise_views.specs.Reaching.{At, answer_scratch, quarter}

abbrev pub measured_word : Bool → ℕ → ℕ → Term
measured_word first second c =
    if nat_eq c 0 then (if first then Scratch (answer_scratch 0) else Word 0) else if nat_eq c 1 then Word second else
    Word 0

abbrev pub given_word : Given → ℕ → Term
given_word Answers c = Scratch (answer_scratch c)
given_word Answer c = Scratch (answer_scratch 0)
given_word Less c = Two Iadd (Scratch (answer_scratch 0)) (Word (2 ^ 32 - 1))
given_word Zero c = Word 0
given_word (Measure select first second) c = measured_word first second (selected select c)

abbrev pub given_nodes : Given → ℕ
given_nodes Less = 3
given_nodes other = 1

-- the components that are there of four
abbrev pub taken : Option ℕ → List ℕ → List ℕ
taken None cs = cs
taken (Some c) cs = c ∷ cs

abbrev pub four_taken : Option ℕ → Option ℕ → Option ℕ → Option ℕ → List ℕ
four_taken x y z w = taken x (taken y (taken z (taken w [])))

-- a component that is there lies in its structure
abbrev pub inside : ℕ → ℕ → Option ℕ → Bool
inside words word None = true
inside words word (Some c) = nat_lt (word + c) words

abbrev pub is_any : Option ℕ → Option ℕ → Option ℕ → Option ℕ → Bool
is_any x y z w = is_some x || (is_some y || (is_some z || is_some w))

abbrev pub are_all : ℕ → ℕ → Option ℕ → Option ℕ → Option ℕ → Option ℕ → Bool
are_all words word x y z w = inside words word x &&
    (inside words word y && (inside words word z && inside words word w))

-- an address by the terms of an offset and of an index
abbrev pub at_terms : Way → Term → Term → At
at_terms way offset index = record { way = way; word = quarter offset; index = index }
