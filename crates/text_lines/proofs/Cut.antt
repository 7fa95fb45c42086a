-- A text is cut at its first LF, and a line at its first space.
use Rattle.std.proofs.Common.{◌≡◌, ℕ, zero, suc, ◌+◌, ◌-◌, ◌<◌, ◌≤◌, ⊎_elim, Bool, true, false, cond, eqb, nat_lt, List, [], ◌∷◌, length, get_or, take, drop, filter, refl, sym, ap, ◌∙◌, subst, arith, length-drop}
use Rattle.std.specs.Prelude.{◌≢◌, not}
use Rattle.std.specs.List.{All, position_or_len, slice_split, before_first, after_first}
use Rattle.std.specs.Str.Lines.{lines, lines_of_parts, strip_carriage_return}
use Rattle.std.proofs.lemmas.Bool.Decides.{eqb_tells}
use Rattle.std.proofs.lemmas.List.{drop_more, take_all}
use Rattle.std.proofs.lemmas.List.Elements.{All-from_get_or}
use Rattle.std.proofs.lemmas.List.Splits.{slice_split_none, slice_split_first, slice_split-cons_yes, length-slice_split}
use Rattle.std.proofs.lemmas.List.Sums.{fails_before_first, position_or_len_is}
use Rattle.text_lines.specs.Parts.{parts, unspaced}

abbrev pub is_byte : ℕ → ℕ → Bool
is_byte c = λ b. eqb b c

none_passes : (p : ℕ → Bool) (xs : List ℕ) → position_or_len p xs ≡ length xs → All (λ x. p x ≡ false) xs
none_passes p xs h = All-from_get_or (λ x. p x ≡ false) xs 0 (λ i lt. fails_before_first p xs i 0 (omega (arith, lt, h)))

past_all : (xs : List ℕ) → drop (length xs) xs ≡ []
past_all [] = refl
past_all (x ∷ xs) = past_all xs

-- the rest of a list, as code takes it
pub rest_of : (xs : List ℕ) (n : ℕ) → take (length xs - n) (drop n xs) ≡ drop n xs
rest_of xs n = take_all (length xs - n) (drop n xs) (omega (arith, length-drop n xs))

-- LINES
pub line_in_front : (p : ℕ → Bool) (line xs : List ℕ)
    → lines_of_parts (line ∷ slice_split p xs) ≡ strip_carriage_return line ∷ lines_of_parts (slice_split p xs)
line_in_front p line xs = more (slice_split p xs) (omega (arith, length-slice_split p xs)) where
  more : (others : List (List ℕ)) → 0 < length others → lines_of_parts (line ∷ others) ≡ strip_carriage_return line ∷ lines_of_parts others
  more [] h = absurd (omega (arith, h))
  more (other ∷ others) h = refl

pub one_line : (bytes : List ℕ) → 0 < length bytes → lines_of_parts (bytes ∷ []) ≡ bytes ∷ []
one_line [] h = absurd (omega (arith, h))
one_line (b ∷ bytes) h = ap (λ t. cond t [] ((b ∷ bytes) ∷ [])) (not_zero (length (b ∷ bytes)) h) where
  not_zero : (n : ℕ) → 0 < n → eqb n 0 ≡ false
  not_zero n h = grind arith

pub last_line : (bytes : List ℕ) → 0 < length bytes → position_or_len (is_byte 10) bytes ≡ length bytes
    → lines bytes ≡ bytes ∷ lines (drop (length bytes) bytes)
last_line bytes some h =
    ap lines_of_parts (slice_split_none (is_byte 10) bytes (none_passes (is_byte 10) bytes h)) ∙ one_line bytes some
    ∙ ap (λ rest. bytes ∷ lines rest) (sym (past_all bytes))

pub next_line : (bytes : List ℕ) (end : ℕ) → end ≡ position_or_len (is_byte 10) bytes → end < length bytes
    → lines bytes ≡ strip_carriage_return (take end bytes) ∷ lines (drop (end + 1) bytes)
next_line bytes end e h =
    let lt : position_or_len (is_byte 10) bytes < length bytes = omega (arith, e, h) in
    ap lines_of_parts (slice_split_first (is_byte 10) bytes 0 lt)
    ∙ line_in_front (is_byte 10) (before_first (is_byte 10) bytes) (after_first (is_byte 10) bytes)
    ∙ ap (λ n. strip_carriage_return (take n bytes) ∷ lines (drop (n + 1) bytes)) (sym e)

-- PARTS
abbrev pub has_bytes : List ℕ → Bool
has_bytes part = nat_lt 0 (length part)

pub kept_part : (part : List ℕ) (others : List (List ℕ)) → 0 < length part → filter has_bytes (part ∷ others) ≡ part ∷ filter has_bytes others
kept_part part others h = ap (λ t. cond t (part ∷ filter has_bytes others) (filter has_bytes others)) (above_zero (length part) h) where
  above_zero : (n : ℕ) → 0 < n → nat_lt 0 n ≡ true
  above_zero n h = grind arith

pub last_part : (line : List ℕ) → 0 < length line → position_or_len (is_byte 32) line ≡ length line
    → parts line ≡ line ∷ parts (drop (length line) line)
last_part line some h =
    ap (filter has_bytes) (slice_split_none (is_byte 32) line (none_passes (is_byte 32) line h)) ∙ kept_part line [] some
    ∙ ap (λ rest. line ∷ parts rest) (sym (past_all line))

begins_with_none : (line : List ℕ) → get_or line 0 0 ≢ 32 → 0 < length line → 0 < position_or_len (is_byte 32) line
begins_with_none [] h some = absurd (omega (arith, some))
begins_with_none (b ∷ line) h some =
    ⊎_elim (λ e. absurd (h e.1)) (λ e. subst (λ t. 0 < cond (not t) (1 + position_or_len (is_byte 32) line) 0) (sym e.0) (omega arith)) (eqb_tells b 32)

some_taken : (line : List ℕ) (n : ℕ) → 0 < n → n < length line → 0 < length (take n line)
some_taken line zero h lt = absurd (omega (arith, h))
some_taken [] (suc n) h lt = absurd (omega (arith, lt))
some_taken (b ∷ line) (suc n) h lt = omega arith

pub first_part : (line : List ℕ) (end : ℕ) → get_or line 0 0 ≢ 32 → end ≡ position_or_len (is_byte 32) line → end < length line
    → parts line ≡ take end line ∷ parts (drop (end + 1) line)
first_part line end begins e h =
    let lt : position_or_len (is_byte 32) line < length line = omega (arith, e, h) in
    let some : 0 < length (before_first (is_byte 32) line) =
    some_taken line (position_or_len (is_byte 32) line) (begins_with_none line begins (omega (arith, h))) lt in
    ap (filter has_bytes) (slice_split_first (is_byte 32) line 0 lt)
    ∙ kept_part (before_first (is_byte 32) line) (slice_split (is_byte 32) (after_first (is_byte 32) line)) some
    ∙ ap (λ n. take n line ∷ parts (drop (n + 1) line)) (sym e)

-- a space in front of a line does not count
pub behind_space : (line : List ℕ) (i : ℕ) → i < length line → get_or line i 0 ≡ 32 → parts (drop (i + 1) line) ≡ parts (drop i line)
behind_space line i h space =
    let split = slice_split-cons_yes (is_byte 32) (get_or line i 0) (drop (i + 1) line) (ap (λ b. eqb b 32) space) in
    sym (ap parts (drop_more line i 0 h) ∙ ap (filter has_bytes) split)

pub behind_the_spaces : (line : List ℕ) (i : ℕ) → i ≤ length line → ((k : ℕ) → k < i → get_or line k 0 ≡ 32) → (i < length line → get_or line i 0 ≢ 32)
    → take (length line - i) (drop i line) ≡ unspaced line
behind_the_spaces line i h spaces other =
    let place = position_or_len_is (λ b. not (eqb b 32)) line i 0 h (λ k lt. passed (get_or line k 0) (spaces k lt)) (λ lt. stays (get_or line i 0) (other lt)) in
    rest_of line i ∙ ap (λ n. drop n line) (sym place)
  where
    passed : (b : ℕ) → b ≡ 32 → not (eqb b 32) ≡ false
    passed b e = grind arith

    stays : (b : ℕ) → b ≢ 32 → not (eqb b 32) ≡ true
    stays b n = ⊎_elim (λ e. absurd (n e.1)) (λ e. ap not e.0) (eqb_tells b 32)
