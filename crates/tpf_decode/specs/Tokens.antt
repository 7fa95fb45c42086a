-- The fields of tokens. Bits are named from the highest to the lowest, as in the token format's text.
use Rattle.std.specs.Prelude.{◌≡◌, ℕ, ◌*◌, nat_eq, ◌&&◌, ◌||◌, not, if◌then◌else◌, Bool, true, Option, Some, None, refl}
use Rattle.word_base.specs.Words.{field_of}
use Rattle.tpf_decode.specs.declared.argument.Kind.{Kind}
use Rattle.tpf_decode.specs.declared.argument.Kind.TheVariants.{Temp, Indexable, Immediate, Resource, Constant, ImmediateConstant, Null, Uav, Shared, ThreadId, GroupId, IdInGroup, FlatId}
use Rattle.tpf_decode.specs.declared.argument.Select.{Select}
use Rattle.tpf_decode.specs.declared.argument.Select.TheVariants.{Bare, Mask, Swizzle, One}

-- Opcode tokens: the opcode, bits 23:11 where they stand, and the length in words.
abbrev pub opcode_of : ℕ → ℕ
opcode_of token = field_of token 10 0

abbrev pub controls_of : ℕ → ℕ
controls_of token = field_of token 23 11 * 2048

abbrev pub length_of : ℕ → ℕ
length_of token = field_of token 30 24

-- the class of custom data, which has no length and no controls in its token
abbrev pub class_of : ℕ → ℕ
class_of token = field_of token 31 11

-- an extended token follows, of opcode tokens, of operand tokens and of extended tokens
abbrev pub follows : ℕ → Bool
follows token = nat_eq (field_of token 31 31) 1

abbrev pub has_flag : ℕ → ℕ → Bool
has_flag word bit = nat_eq (field_of word bit bit) 1

-- extended opcode tokens: empty, a resource's dimension, a return type
abbrev pub is_opcode_extension : ℕ → Bool
is_opcode_extension token = nat_eq (field_of token 5 0) 0 || (nat_eq (field_of token 5 0) 2 || nat_eq (field_of token 5 0) 3)

-- Operand tokens: how many components (0 none, 1 one, 2 four), how they are selected, the number of indices and the representations
-- of the first and the second.
abbrev pub count_of : ℕ → ℕ
count_of token = field_of token 1 0

abbrev pub mode_of : ℕ → ℕ
mode_of token = field_of token 3 2

abbrev pub indices_of : ℕ → ℕ
indices_of token = field_of token 21 20

abbrev pub first_of : ℕ → ℕ
first_of token = field_of token 24 22

abbrev pub second_of : ℕ → ℕ
second_of token = field_of token 27 25

-- the operand's type
abbrev pub kind_of_number : ℕ → Option Kind
kind_of_number n =
    if nat_eq n 0 then Some Temp
    else if nat_eq n 3 then Some Indexable
    else if nat_eq n 4 then Some Immediate
    else if nat_eq n 7 then Some Resource
    else if nat_eq n 8 then Some Constant
    else if nat_eq n 9 then Some ImmediateConstant
    else if nat_eq n 13 then Some Null
    else if nat_eq n 30 then Some Uav
    else if nat_eq n 31 then Some Shared
    else if nat_eq n 32 then Some ThreadId
    else if nat_eq n 33 then Some GroupId
    else if nat_eq n 34 then Some IdInGroup
    else if nat_eq n 36 then Some FlatId
    else None

abbrev pub kind_of : ℕ → Option Kind
kind_of token = kind_of_number (field_of token 19 12)

-- every selection but a count of 3, and mode 3 of four components
abbrev pub has_selection : ℕ → Bool
has_selection token = not (nat_eq (count_of token) 3) && not (nat_eq (count_of token) 2 && nat_eq (mode_of token) 3)

abbrev pub is_mask : ℕ → Bool
is_mask token = nat_eq (count_of token) 2 && nat_eq (mode_of token) 0

abbrev pub is_one : ℕ → Bool
is_one token = nat_eq (count_of token) 2 && nat_eq (mode_of token) 2

-- a swizzle or one component, of four
abbrev pub is_choice : ℕ → Bool
is_choice token = nat_eq (count_of token) 2 && (nat_eq (mode_of token) 1 || nat_eq (mode_of token) 2)

abbrev pub selection_by : ℕ → ℕ → Select
selection_by mode token =
    if nat_eq mode 0 then Mask (field_of token 7 4)
    else if nat_eq mode 1 then Swizzle (field_of token 11 4)
    else One (field_of token 5 4)

-- what a token that has a selection selects; an immediate's own selection is ignored
abbrev pub select_of : Kind → ℕ → Select
select_of Immediate token = if nat_eq (count_of token) 2 then Swizzle 228 else Bare
select_of kind token = if nat_eq (count_of token) 2 then selection_by (mode_of token) token else Bare

-- What stands directly behind an operand's tokens: one word of an immediate or four, the word of a register or slot, or nothing.
pub data Fixed : Type 0 where
  Literal : (four : Bool) → Fixed
  Slot : Fixed
  Nothing : Fixed

abbrev pub fixed_of : Kind → ℕ → Fixed
fixed_of Immediate token = Literal (nat_eq (count_of token) 2)
fixed_of Temp token = Slot
fixed_of Indexable token = Slot
fixed_of Resource token = Slot
fixed_of Constant token = Slot
fixed_of Uav token = Slot
fixed_of Shared token = Slot
fixed_of kind token = Nothing

abbrev pub fixed_count : Fixed → ℕ
fixed_count (Literal four) = if four then 4 else 1
fixed_count Slot = 1
fixed_count Nothing = 0

-- the representation of the index behind that, where the type has one
abbrev pub element_of : Kind → ℕ → Option ℕ
element_of Indexable token = Some (second_of token)
element_of Constant token = Some (second_of token)
element_of ImmediateConstant token = Some (first_of token)
element_of kind token = None

-- An index has an immediate word and a relative operand by its representation.
abbrev pub has_immediate : ℕ → Bool
has_immediate representation = nat_eq representation 0 || nat_eq representation 3

abbrev pub immediate_count : ℕ → ℕ
immediate_count representation = if has_immediate representation then 1 else 0

abbrev pub has_relative : ℕ → Bool
has_relative representation = nat_eq representation 2 || nat_eq representation 3

-- Extended operand tokens: empty, or a modifier that negates where that is allowed, and no minimum precision.
abbrev pub is_modifier : Bool → ℕ → Bool
is_modifier negatable token =
    nat_eq (field_of token 5 0) 0
    || (nat_eq (field_of token 5 0) 1 && (nat_eq (field_of token 13 6) 0 || (negatable && nat_eq (field_of token 13 6) 1)) && nat_eq (field_of token 16 14) 0)

abbrev pub is_negation : ℕ → Bool
is_negation token = nat_eq (field_of token 5 0) 1 && nat_eq (field_of token 13 6) 1

-- Examples: the tokens of `mov x1[r0.x + 3].x` and of a negated `r0.y`.
pub indexed_kind : kind_of 0x0620300A ≡ Some Indexable
indexed_kind = refl

pub indexed_representation : second_of 0x0620300A ≡ 3
indexed_representation = refl

pub indexed_selection : select_of Indexable 0x0620300A ≡ One 0
indexed_selection = refl

pub negated_follows : follows 0x8010001A ≡ true
negated_follows = refl

pub negated : is_negation 0x41 ≡ true
negated = refl

pub saturated : has_flag 0x0700201E 13 ≡ true
saturated = refl
