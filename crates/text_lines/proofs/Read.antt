-- What is written is read again: joined lines, and words with a space between two.
use Rattle.std.proofs.Common.{◌≡◌, ℕ, zero, suc, ◌+◌, ◌-◌, ◌<◌, Bool, true, false, cond, eqb, nat_lt, List, [], ◌∷◌, ◌++◌, length, get_or, drop, take, filter, refl, sym, ap, ◌∙◌, arith, append_assoc, append-nil, length-append}
use Rattle.std.specs.Prelude.{◌&&◌, ◌||◌, not}
use Rattle.std.specs.List.{join_with_byte, list_all, slice_split}
use Rattle.std.specs.Str.Lines.{lines, lines_of_parts, strip_carriage_return}
use Rattle.std.proofs.lemmas.List.Folds.{list_all-append}
use Rattle.std.proofs.lemmas.List.Splits.{slice_split-cons_no, slice_split-cons_yes}
use Rattle.text_lines.specs.Lines.{ended, has_outer_space, is_line, joined, lacks}
use Rattle.text_lines.specs.Parts.{is_word, parts}
use Rattle.text_lines.proofs.Cut.{has_bytes, is_byte, kept_part, line_in_front, one_line}

both : (a b : Bool) → (a && b) ≡ true → (a ≡ true) × (b ≡ true)
both true b h = (refl, h)
both false b h = absurd (cc h)

differs : (t : Bool) → not t ≡ true → t ≡ false
differs true h = absurd (cc h)
differs false h = refl

same : (b : ℕ) → eqb b b ≡ true
same b = grind arith

-- a list is cut behind bytes that lack the one at which it is cut
split_at : (b : ℕ) (w rest : List ℕ) → lacks b w ≡ true → slice_split (is_byte b) (w ++ b ∷ rest) ≡ w ∷ slice_split (is_byte b) rest
split_at b [] rest h = slice_split-cons_yes (is_byte b) b rest (same b)
split_at b (x ∷ w) rest h =
    let p = both (not (eqb x b)) (lacks b w) h in
    slice_split-cons_no (is_byte b) x (w ++ b ∷ rest) (differs (eqb x b) p.0) ∙ rw (split_at b w rest p.1) refl

no_split : (b : ℕ) (w : List ℕ) → lacks b w ≡ true → slice_split (is_byte b) w ≡ w ∷ []
no_split b [] h = refl
no_split b (x ∷ w) h =
    let p = both (not (eqb x b)) (lacks b w) h in
    slice_split-cons_no (is_byte b) x w (differs (eqb x b) p.0) ∙ rw (no_split b w p.1) refl

-- LINES
pub first_of_lines : (line rest : List ℕ) → lacks 10 line ≡ true → lines (line ++ 10 ∷ rest) ≡ strip_carriage_return line ∷ lines rest
first_of_lines line rest h = ap lines_of_parts (split_at 10 line rest h) ∙ line_in_front (is_byte 10) line rest

pub last_of_lines : (line : List ℕ) → 0 < length line → lacks 10 line ≡ true → lines line ≡ line ∷ []
last_of_lines line some h = ap lines_of_parts (no_split 10 line h) ∙ one_line line some

no_return : (line : List ℕ) → not (eqb (get_or line (length line - 1) 0) 13) ≡ true → strip_carriage_return line ≡ line
no_return line h = ap (λ t. cond t (take (length line - 1) line) line) (differs (eqb (get_or line (length line - 1) 0) 13) h)

pub joined_in_front : (ls : List (List ℕ)) (rest : List ℕ) → list_all is_line ls ≡ true → lines (joined ls ++ rest) ≡ ls ++ lines rest
joined_in_front [] rest h = refl
joined_in_front (line ∷ ls) rest h =
    let p = both (is_line line) (list_all is_line ls) h in
    let q = both (lacks 10 line) (not (eqb (get_or line (length line - 1) 0) 13)) p.0 in
    ap lines (append_assoc (ended line) (joined ls) rest ∙ append_assoc line (10 ∷ []) (joined ls ++ rest))
    ∙ first_of_lines line (joined ls ++ rest) q.0
    ∙ rw (no_return line q.1, joined_in_front ls rest p.1) refl

pub joined_lines : (ls : List (List ℕ)) → list_all is_line ls ≡ true → lines (joined ls) ≡ ls
joined_lines ls h = ap lines (sym (append-nil (joined ls))) ∙ joined_in_front ls [] h ∙ append-nil ls

-- PARTS
some_bytes : (w : List ℕ) → is_word w ≡ true → 0 < length w
some_bytes [] h = absurd (cc h)
some_bytes (b ∷ w) h = omega arith

no_space : (w : List ℕ) → is_word w ≡ true → lacks 32 w ≡ true
no_space w h = (both (has_bytes w) (lacks 32 w) h).1

pub first_of_parts : (w rest : List ℕ) → is_word w ≡ true → parts (w ++ 32 ∷ rest) ≡ w ∷ parts rest
first_of_parts w rest h =
    ap (filter has_bytes) (split_at 32 w rest (no_space w h)) ∙ kept_part w (slice_split (is_byte 32) rest) (some_bytes w h)

pub only_part : (w : List ℕ) → is_word w ≡ true → parts w ≡ w ∷ []
only_part w h = ap (filter has_bytes) (no_split 32 w (no_space w h)) ∙ kept_part w [] (some_bytes w h)

pub joined_parts : (ws : List (List ℕ)) → list_all is_word ws ≡ true → parts (join_with_byte 32 ws) ≡ ws
joined_parts [] h = refl
joined_parts (w ∷ []) h = only_part w (both (is_word w) true h).0
joined_parts (w ∷ v ∷ ws) h =
    let p = both (is_word w) (list_all is_word (v ∷ ws)) h in
    first_of_parts w (join_with_byte 32 (v ∷ ws)) p.0 ∙ rw (joined_parts (v ∷ ws) p.1) refl

-- no byte of a word is a space
byte_of : (w : List ℕ) (i : ℕ) → lacks 32 w ≡ true → eqb (get_or w i 0) 32 ≡ false
byte_of [] i h = refl
byte_of (b ∷ w) zero h = differs (eqb b 32) (both (not (eqb b 32)) (lacks 32 w) h).0
byte_of (b ∷ w) (suc i) h = byte_of w i (both (not (eqb b 32)) (lacks 32 w) h).1

pub no_outer_space : (w : List ℕ) → is_word w ≡ true → has_outer_space w ≡ false
no_outer_space w h = rw (byte_of w 0 (no_space w h), byte_of w (length w - 1) (no_space w h)) refl

-- A word is longer by bytes in front of it.
pub longer_word : (front w : List ℕ) → lacks 32 front ≡ true → is_word w ≡ true → is_word (front ++ w) ≡ true
longer_word front w f h =
    let some : nat_lt 0 (length (front ++ w)) ≡ true = above (length (front ++ w)) (omega (arith, length-append front w, some_bytes w h)) in
    rw (some, list_all-append (λ b. not (eqb b 32)) front w, f, no_space w h) refl
  where
    above : (n : ℕ) → 0 < n → nat_lt 0 n ≡ true
    above n h = grind arith
