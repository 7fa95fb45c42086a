-- What a root signature covers, in the order of covering: parameters in order, ranges in order. A parameter whose
-- visibility is not 0 covers nothing, and so does what is of a space other than 0, a range of no registers, a sampler, and
-- a record whose words are not all there.
use Rattle.std.specs.Prelude.{ℕ, zero, suc, ◌+◌, ◌-◌, ◌^◌, min, nat_eq, nat_lt, if◌then◌else◌, ◌&&◌, Bool, List, [], ◌∷◌, ◌++◌, map}
use Rattle.root_signature.specs.declared.covers.Covers.{Covers}
use Rattle.root_signature.specs.declared.covers.Entry.{Entry}
use Rattle.root_signature.specs.declared.covers.Covers.TheVariants.{Constants, Cbv, Srv, Uav}
use Rattle.root_signature.specs.Covers.{Span, span}
use Rattle.root_signature.specs.Layout.{word, is_whole, parameter_count, parameter_type, is_visible, record_at, has_record, range_words, range_at, range_count, ranges_at}

-- An entry is what is covered, with the byte of the record that says so.
abbrev pub entry : ℕ → Covers → Entry
entry place covers = record { place = place; covers = covers }

abbrev pub span_of : Entry → Span
span_of e = span e.place e.covers

abbrev pub spans_of : List Entry → List Span
spans_of entries = map span_of entries

-- the lists of the numbers below n, one after the other
abbrev pub each : {X : Type 0} → ℕ → (ℕ → List X) → List X
each zero f = []
each (suc n) f = each n f ++ f n

-- the registers from the base on, as many as there are up to the last one
abbrev pub cut : ℕ → ℕ → ℕ
cut base count = min count (2 ^ 32 - base)

abbrev pub range_covers : ℕ → ℕ → ℕ → List Covers
range_covers type base count =
    if nat_eq type 0 then Srv base (cut base count) ∷ []
    else if nat_eq type 1 then Uav base (cut base count) ∷ []
    else if nat_eq type 2 then Cbv base (cut base count) ∷ []
    else []

-- whether the range in that byte is there, has registers, and is of space 0
abbrev pub is_range : List ℕ → ℕ → Bool
is_range content at =
    is_whole content at (range_words content) && (nat_lt 0 (word content (at + 4)) && nat_eq (word content (at + 12)) 0)

-- what the range in that byte covers
abbrev pub range_covered : List ℕ → ℕ → List Entry
range_covered content at =
    if is_range content at
    then map (entry at) (range_covers (word content at) (word content (at + 8)) (word content (at + 4)))
    else []

-- a visible parameter with a record, of that type; of the types other than tables it is of space 0
abbrev pub is_visible_table : List ℕ → ℕ → Bool
is_visible_table content i = has_record content i && (is_visible content i && nat_eq (parameter_type content i) 0)

abbrev pub is_single : List ℕ → ℕ → ℕ → Bool
is_single content i type =
    has_record content i
    && (is_visible content i
    && (nat_eq (parameter_type content i) type && nat_eq (word content (record_at content i + 4)) 0))

-- the root constants of a parameter in words, and those of all parameters before it
abbrev pub words_at : List ℕ → ℕ → ℕ
words_at content i = if is_single content i 1 then word content (record_at content i + 8) else 0

unfoldable pub words_before : List ℕ → ℕ → ℕ
words_before content zero = 0
words_before content (suc i) = words_before content i + words_at content i

abbrev pub register_at : List ℕ → ℕ → ℕ
register_at content i = word content (record_at content i)

abbrev pub single_covers : List ℕ → ℕ → List Covers
single_covers content i =
    if is_single content i 1 then Constants (register_at content i) (words_before content i) (words_at content i) ∷ []
    else if is_single content i 2 then Cbv (register_at content i) 1 ∷ []
    else if is_single content i 3 then Srv (register_at content i) 1 ∷ []
    else if is_single content i 4 then Uav (register_at content i) 1 ∷ []
    else []

-- what the first so many ranges from a byte on cover
abbrev pub table_covered : List ℕ → ℕ → ℕ → List Entry
table_covered content start count = each count (λ j. range_covered content (range_at content start j))

abbrev pub parameter_covered : List ℕ → ℕ → List Entry
parameter_covered content i =
    if is_visible_table content i then table_covered content (ranges_at content i) (range_count content i)
    else map (entry (record_at content i)) (single_covers content i)

-- the entries of the first so many parameters, and of all
abbrev pub covered_below : List ℕ → ℕ → List Entry
covered_below content n = each n (parameter_covered content)

abbrev pub all_covered : List ℕ → List Entry
all_covered content = covered_below content (parameter_count content)

-- the root constants of all parameters, in words
abbrev pub all_words : List ℕ → ℕ
all_words content = words_before content (parameter_count content)

-- what a root signature covers, in the order of covering
unfoldable pub covers_of : List ℕ → List Covers
covers_of content = map (λ e. e.covers) (all_covered content)
