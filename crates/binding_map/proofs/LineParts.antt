-- What lines of three and four parts say.
use Rattle.std.proofs.Common.{◌≡◌, ℕ, suc, ◌<◌, ◌≤◌, ◌⊎◌, ⊎_elim, inl, inr, Bool, true, false, cond, eqb, List, [], ◌∷◌, length, get_or, Option, Some, None, refl, sym, ap, ◌∙◌, arith}
use Rattle.std.specs.Prelude.{◌≢◌, not, bytes_eq, codes}
use Rattle.std.specs.List.{position_or_len}
use Rattle.std.proofs.lemmas.Bool.Decides.{eqb_tells}
use Rattle.std.proofs.lemmas.List.Sums.{prefix_len-le-length}
use Rattle.text_lines.specs.Numbers.{number_of}
use Rattle.text_lines.specs.Parts.{parts}
use Rattle.text_lines.proofs.Cut.{is_byte, first_part, last_part}
use Rattle.binding_map.specs.declared.register.Register.{Register}
use Rattle.binding_map.specs.Names.{register_named}
use Rattle.binding_map.specs.Texts.{bound, pushed, said_by, Unread}

pub is_none : (xs : List ℕ) (r : Bool) → r ≡ eqb (length xs) 0 → r ≡ true → xs ≡ []
is_none [] r e h = refl
is_none (x ∷ xs) r e h = absurd (cc (not_zero (suc (length xs)) (omega arith), e, h)) where
  not_zero : (n : ℕ) → 0 < n → eqb n 0 ≡ false
  not_zero n h = grind arith

pub is_some : (xs : List ℕ) (r : Bool) → r ≡ eqb (length xs) 0 → r ≡ false → 0 < length xs
is_some [] r e h = absurd (cc (e, h))
is_some (x ∷ xs) r e h = omega arith

empty_or_not : (xs : List ℕ) → (xs ≡ []) ⊎ (0 < length xs)
empty_or_not [] = inl refl
empty_or_not (x ∷ xs) = inr (omega arith)

-- a part was taken off the front of a line, if it has one
pub record Takes (line part rest : List ℕ) : Type 0 where
  pub some : 0 < length line → parts line ≡ part ∷ parts rest
  pub none : line ≡ [] → (part ≡ []) × (rest ≡ [])

-- what a part that a line does not have says
none_said : (register : Option Register) (set : Option ℕ) → bound register set None ≡ Unread
none_said None set = refl
none_said (Some r) None = refl
none_said (Some r) (Some s) = refl

pub three_parts : (line name second third : List ℕ) (a b c : List ℕ) → Takes line name a → Takes a second b → Takes b third c → c ≡ []
    → bound (register_named name) (number_of second) (number_of third) ≡ said_by (parts line)
three_parts line name second third a b c x y z e = ⊎_elim none one (empty_or_not line) where
  unread : third ≡ [] → (ps : List (List ℕ)) → parts line ≡ ps → said_by ps ≡ Unread → bound (register_named name) (number_of second) (number_of third) ≡ said_by (parts line)
  unread t ps p u = ap (λ d. bound (register_named name) (number_of second) (number_of d)) t ∙ none_said (register_named name) (number_of second) ∙ sym (ap said_by p ∙ u)

  none : line ≡ [] → bound (register_named name) (number_of second) (number_of third) ≡ said_by (parts line)
  none n = unread (z.none (y.none (x.none n).1).1).0 [] (ap parts n) refl

  three : 0 < length line → 0 < length a → 0 < length b → bound (register_named name) (number_of second) (number_of third) ≡ said_by (parts line)
  three l m n = sym (ap said_by (x.some l ∙ ap (λ ps. name ∷ ps) (y.some m ∙ ap (λ ps. second ∷ ps) (z.some n ∙ ap (λ rest. third ∷ parts rest) e))))

  two : 0 < length line → 0 < length a → bound (register_named name) (number_of second) (number_of third) ≡ said_by (parts line)
  two l m = ⊎_elim
      (λ n. unread (z.none n).0 (name ∷ second ∷ []) (x.some l ∙ ap (λ ps. name ∷ ps) (y.some m ∙ ap (λ rest. second ∷ parts rest) n)) refl)
      (three l m)
      (empty_or_not b)

  one : 0 < length line → bound (register_named name) (number_of second) (number_of third) ≡ said_by (parts line)
  one l = ⊎_elim
      (λ n. unread (z.none (y.none n).1).0 (name ∷ []) (x.some l ∙ ap (λ rest. name ∷ parts rest) n) refl)
      (two l)
      (empty_or_not a)

some_before : (line part rest : List ℕ) → Takes line part rest → 0 < length rest → 0 < length line
some_before line part rest x h = ⊎_elim (λ e. absurd (omega (arith, h, ap length (x.none e).1))) (λ l. l) (empty_or_not line)

all_parts : (line name second third fourth : List ℕ) (a b c d : List ℕ) → Takes line name a → Takes a second b → Takes b third c → Takes c fourth d → 0 < length c
    → parts line ≡ name ∷ second ∷ third ∷ fourth ∷ parts d
all_parts line name second third fourth a b c d x y z w h =
    let m = some_before b third c z h in
    let l = some_before a second b y m in
    x.some (some_before line name a x l) ∙ ap (λ ps. name ∷ ps) (y.some l ∙ ap (λ ps. second ∷ ps) (z.some m ∙ ap (λ ps. third ∷ ps) (w.some h)))

pub four_parts : (line name second third fourth : List ℕ) (a b c d : List ℕ) → Takes line name a → Takes a second b → Takes b third c → Takes c fourth d → 0 < length c
    → d ≡ [] → bytes_eq second (codes "push") ≡ true → pushed (register_named name) (number_of third) (number_of fourth) ≡ said_by (parts line)
four_parts line name second third fourth a b c d x y z w h e push =
    sym (ap said_by (all_parts line name second third fourth a b c d x y z w h ∙ ap (λ rest. name ∷ second ∷ third ∷ fourth ∷ parts rest) e)
    ∙ ap (λ t. cond t (pushed (register_named name) (number_of third) (number_of fourth)) Unread) push)

pub not_push : (line name second third fourth : List ℕ) (a b c d : List ℕ) → Takes line name a → Takes a second b → Takes b third c → Takes c fourth d → 0 < length c
    → d ≡ [] → bytes_eq second (codes "push") ≡ false → Unread ≡ said_by (parts line)
not_push line name second third fourth a b c d x y z w h e push =
    sym (ap said_by (all_parts line name second third fourth a b c d x y z w h ∙ ap (λ rest. name ∷ second ∷ third ∷ fourth ∷ parts rest) e)
    ∙ ap (λ t. cond t (pushed (register_named name) (number_of third) (number_of fourth)) Unread) push)

pub more_parts : (line name second third fourth : List ℕ) (a b c d : List ℕ) → Takes line name a → Takes a second b → Takes b third c → Takes c fourth d → 0 < length c
    → 0 < length d → get_or d 0 0 ≢ 32 → Unread ≡ said_by (parts line)
more_parts line name second third fourth a b c d x y z w h some begins = sym (ap said_by (all_parts line name second third fourth a b c d x y z w h) ∙ five (parts d) (some_part d begins some)) where
  five : (ps : List (List ℕ)) → 0 < length ps → said_by (name ∷ second ∷ third ∷ fourth ∷ ps) ≡ Unread
  five [] n = absurd (omega (arith, n))
  five (p ∷ ps) n = refl

  within : (xs : List ℕ) → position_or_len (is_byte 32) xs ≤ length xs
  within xs = prefix_len-le-length (λ b. not (is_byte 32 b)) xs

  some_part : (xs : List ℕ) → get_or xs 0 0 ≢ 32 → 0 < length xs → 0 < length (parts xs)
  some_part xs b n = ⊎_elim
      (λ e. omega (arith, ap length (last_part xs n e.1)))
      (λ e. let lt : position_or_len (is_byte 32) xs < length xs = omega (arith, within xs, e.1) in omega (arith, ap length (first_part xs (position_or_len (is_byte 32) xs) b refl lt)))
      (eqb_tells (position_or_len (is_byte 32) xs) (length xs))
