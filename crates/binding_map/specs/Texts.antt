-- The text of a binding map: what its lines say, which of them break a rule, and the map that they give. (This project's
-- own format.)
use Rattle.std.specs.Prelude.{◌≡◌, ℕ, ◌+◌, ◌<◌, nat_eq, nat_lt, nat_le, ◌||◌, if◌then◌else◌, Bool, true, List, [], ◌∷◌, map, filter_map, Option, Some, None, slice_get, bytes_eq, codes}
use Rattle.std.specs.Str.Lines.{lines}
use Rattle.text_lines.specs.Lines.{is_passed, has_outer_space}
use Rattle.text_lines.specs.Numbers.{number_of}
use Rattle.text_lines.specs.Parts.{parts}
use Rattle.word_base.specs.declared.rule.Refusal.{Refusal}
use Rattle.word_base.specs.declared.rule.Rule.TheVariants.{B2, B3}
use Rattle.word_base.specs.Rules.{refusal}
use Rattle.binding_map.specs.declared.register.Register.{Register}
use Rattle.binding_map.specs.declared.register.Register.TheVariants.{Constant}
use Rattle.binding_map.specs.declared.register.Place.{Place}
use Rattle.binding_map.specs.declared.register.Place.TheVariants.{Bound, Push}
use Rattle.binding_map.specs.Bindings.{Binding, binding, is_at, has_word}
use Rattle.binding_map.specs.Names.{register_named}

-- A line says nothing, or is not of the form, or names a register and its place, whatever the limits of numbers.
pub data Said : Type 0 where
  Nothing : Said
  Unread : Said
  Names : (b : Binding) → Said

abbrev pub bound : Option Register → Option ℕ → Option ℕ → Said
bound (Some register) (Some set) (Some number) = Names (binding register (Bound set number))
bound register set number = Unread

-- push constants are for constant buffers alone
abbrev pub pushed : Option Register → Option ℕ → Option ℕ → Said
pushed (Some (Constant slot)) (Some first) (Some count) = Names (binding (Constant slot) (Push first count))
pushed register first count = Unread

-- NAME SET BINDING, or NAME push FIRST COUNT
abbrev pub said_by : List (List ℕ) → Said
said_by (name ∷ set ∷ number ∷ []) = bound (register_named name) (number_of set) (number_of number)
said_by (name ∷ push ∷ first ∷ count ∷ []) =
    if bytes_eq push (codes "push") then pushed (register_named name) (number_of first) (number_of count) else Unread
said_by other = Unread

-- Empty lines and lines that begin with `#` are passed over. No space stands at the begin or at the end.
abbrev pub said : List ℕ → Said
said line =
    if is_passed line 35 then Nothing else if has_outer_space line then Unread else said_by (parts line)

-- What the lines of a text say, one after the other. A line ends with an LF, and a CR before it is dropped; the last LF may
-- be missing.
abbrev pub said_in : List ℕ → List Said
said_in bytes = map said (lines bytes)

abbrev pub named : Said → Option Binding
named (Names b) = Some b
named other = None

-- the map of a text, in the order of its lines
abbrev pub text_map : List ℕ → List Binding
text_map bytes = filter_map named (said_in bytes)

-- Two bindings have a register, a set and binding, or a push constant word in common.
pub data Shares (a b : Binding) : Type 0 where
  register : a.register ≡ b.register → Shares a b
  descriptor : (set number : ℕ) → is_at a.place set number ≡ true → is_at b.place set number ≡ true → Shares a b
  push : (word : ℕ) → has_word a.place word ≡ true → has_word b.place word ≡ true → Shares a b

-- Sets are below 8 and bindings below 65536. There are 64 push constant words, and a buffer has one of them at least.
abbrev pub is_past : Place → Bool
is_past (Bound set number) = nat_le 8 set || nat_le 65536 number
is_past (Push first count) = nat_eq count 0 || nat_lt 64 (first + count)

-- a line names again what an earlier one names
pub record NamesAgain (lines : List Said) (i : ℕ) : Type 0 where
  pub before : ℕ
  pub earlier : before < i
  pub a : Binding
  pub there : slice_get lines before ≡ Some (Names a)
  pub b : Binding
  pub here : slice_get lines i ≡ Some (Names b)
  pub shares : Shares a b

-- a line names what is past a limit
pub record IsPast (lines : List Said) (i : ℕ) : Type 0 where
  pub b : Binding
  pub here : slice_get lines i ≡ Some (Names b)
  pub past : is_past b.place ≡ true

-- The rules on texts. A place is the number of a line, counted from 1.
pub data Breaks (lines : List Said) (r : Refusal) : Type 0 where
  again : (i : ℕ) → NamesAgain lines i → r ≡ refusal B2 (i + 1) → Breaks lines r
  unread : (i : ℕ) → slice_get lines i ≡ Some Unread → r ≡ refusal B3 (i + 1) → Breaks lines r
  past : (i : ℕ) → IsPast lines i → r ≡ refusal B3 (i + 1) → Breaks lines r

abbrev pub TextBreaks : List ℕ → Refusal → Type 0
TextBreaks bytes = Breaks (said_in bytes)
