-- The first of several things by a key.
use Rattle.std.specs.Prelude.{◌≡◌, ℕ, nat_eq, nat_lt, ◌&&◌, ◌||◌, if◌then◌else◌, Bool, false, List, [], ◌∷◌, Option, Some, None, refl}

-- What things are ordered by, one number after the other: for refusals the phase first; for those that have none, 0, the place
-- and the number.
pub record Key : Type 0 where
  pub phase : ℕ
  pub first : ℕ
  pub second : ℕ

abbrev pub is_below : Key → Key → Bool
is_below a b =
    nat_lt a.phase b.phase || (nat_eq a.phase b.phase &&
    (nat_lt a.first b.first || (nat_eq a.first b.first && nat_lt a.second b.second)))

abbrev pub comes_before_by : {A : Type 0} → (A → Key) → A → A → Bool
comes_before_by key a b = is_below (key a) (key b)

-- Of the things for which this holds none comes before this one.
pub record IsFirstBy {A : Type 0} (key : A → Key) (Holds : A → Type 0) (a : A) : Type 0 where
  pub holds : Holds a
  pub is_least : (b : A) → Holds b → comes_before_by key b a ≡ false

-- the first of a list; of several with one key the one that stands first
abbrev pub earlier_by : {A : Type 0} → (A → Key) → A → Option A → A
earlier_by key a None = a
earlier_by key a (Some b) = if comes_before_by key b a then b else a

abbrev pub first_by : {A : Type 0} → (A → Key) → List A → Option A
first_by key [] = None
first_by key (a ∷ rest) = Some (earlier_by key a (first_by key rest))

-- Example: lines of a text by their numbers.
abbrev pub by_line : ℕ → Key
by_line line = record { phase = 0; first = line; second = 0 }

pub least_line : first_by by_line (7 ∷ 3 ∷ 5 ∷ []) ≡ Some 3
least_line = refl
