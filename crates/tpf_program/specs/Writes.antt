-- What instructions write. (Shader Model 5 assembly: destination operands and write masks.)
use Rattle.std.specs.Prelude.{ℕ, ◌/◌, ◌%◌, ◌^◌, nat_eq, nat_lt, if◌then◌else◌, Bool, false, ◌&&◌, List, [], ◌∷◌, filter, map}
use Rattle.word_base.specs.Registers.{Registers}
use Rattle.tpf_decode.specs.declared.argument.Kind.{Kind}
use Rattle.tpf_decode.specs.declared.argument.Kind.TheVariants as kind
use Rattle.tpf_decode.specs.declared.argument.Select.{Select}
use Rattle.tpf_decode.specs.declared.argument.Select.TheVariants.{Mask}
use Rattle.tpf_decode.specs.declared.argument.Argument.{Argument}
use Rattle.tpf_program.specs.Sizes.{temps_of, elements_of}
use Rattle.tpf_program.specs.Values.{Context, index_of}

-- the bit of a word with that number
abbrev pub has_bit : ℕ → ℕ → Bool
has_bit word n = nat_eq (word / 2 ^ n % 2) 1

-- the components of a mask, in the order x, y, z, w
abbrev pub in_mask : Select → ℕ → Bool
in_mask (Mask bits) c = has_bit bits c
in_mask other c = false

abbrev pub masked : Select → List ℕ
masked select = filter (in_mask select) (0 ∷ 1 ∷ 2 ∷ 3 ∷ [])

-- The components of a destination that are written: the null operand has none.
abbrev pub written_by : Kind → Select → List ℕ
written_by kind.Null select = []
written_by other select = masked select

abbrev pub written : Argument → List ℕ
written a = written_by a.kind a.select

-- Where a destination stands: a register r# or an element of x#, in range, or nowhere.
pub data Target : Type 0 where
  InTemp : (slot : ℕ) → Target
  InElement : (slot index : ℕ) → Target
  Nowhere : Target

abbrev pub target_by : Kind → Context → Argument → Target
target_by kind.Temp k a = if nat_lt a.slot (temps_of k.program.declarations) then InTemp a.slot else Nowhere
target_by kind.Indexable k a = if nat_lt (index_of k a) (elements_of a.slot k.program.declarations) then InElement a.slot (index_of k a) else Nowhere
target_by other k a = Nowhere

abbrev pub target : Context → Argument → Target
target k a = target_by a.kind k a

-- the registers with one word changed
abbrev pub with_temp : Registers → ℕ → ℕ → ℕ → Registers
with_temp r slot c w = record {
  temp = λ s d. if nat_eq s slot && nat_eq d c then w else r.temp s d;
  indexable = r.indexable;
}

abbrev pub with_element : Registers → ℕ → ℕ → ℕ → ℕ → Registers
with_element r slot index c w = record {
  temp = r.temp;
  indexable = λ s i d. if nat_eq s slot && (nat_eq i index && nat_eq d c) then w else r.indexable s i d;
}

abbrev pub with_word : Target → ℕ → ℕ → Registers → Registers
with_word (InTemp slot) c w r = with_temp r slot c w
with_word (InElement slot index) c w r = with_element r slot index c w
with_word Nowhere c w r = r

-- the registers with words for components of a target
abbrev pub with_words : Target → List ℕ → List ℕ → Registers → Registers
with_words t [] ws r = r
with_words t (c ∷ cs) [] r = r
with_words t (c ∷ cs) (w ∷ ws) r = with_words t cs ws (with_word t c w r)

-- What an instruction leaves that writes to a destination a word for each component: where the destination stands is read at the
-- instruction's start.
abbrev pub writes : Context → Argument → (ℕ → ℕ) → Registers → Registers
writes k a word r = with_words (target k a) (written a) (map word (written a)) r

-- Of two destinations the first is written and then the second.
abbrev pub writes_two : Context → Argument → (ℕ → ℕ) → Argument → (ℕ → ℕ) → Registers
writes_two k a word b other = writes k b other (writes k a word k.registers)
