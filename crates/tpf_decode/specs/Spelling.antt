-- Which words spell an operand, an instruction, a declaration and a block of custom data. Bits that no case names are free.
use Rattle.std.specs.Prelude.{◌≡◌, ℕ, ◌+◌, ◌%◌, ◌≤◌, nat_eq, nat_le, ◌&&◌, not, Bool, true, false, List, [], ◌∷◌, ◌++◌, length, slice_range, Option, Some, None, refl}
use Rattle.std.specs.List.{list_any, list_all}
use Rattle.tpf_decode.specs.declared.argument.Kind.{Kind}
use Rattle.tpf_decode.specs.declared.argument.Kind.TheVariants.{Temp, Indexable, Constant, FlatId}
use Rattle.tpf_decode.specs.declared.argument.Role.{Role}
use Rattle.tpf_decode.specs.declared.argument.Argument.{Argument}
use Rattle.tpf_decode.specs.declared.argument.Relative.{Relative}
use Rattle.tpf_decode.specs.declared.declaration.Layout.{Layout}
use Rattle.tpf_decode.specs.Profiles.{Profile}
use Rattle.tpf_decode.specs.Tokens.{opcode_of, controls_of, length_of, class_of, follows, is_opcode_extension, kind_of, has_selection, select_of, Fixed, Literal, Slot, Nothing, fixed_of, element_of, has_immediate, has_relative, is_modifier, is_negation}
use Rattle.tpf_decode.specs.Declarations.{is_known, layout_of, roles_at}
use Rattle.tpf_decode.specs.Roles.{is_allowed, takes, is_declaration, has_indices, is_relative, may_negate}
use Rattle.word_base.specs.Words.{field_of, words_of}

-- the words of bytes from one place to another
abbrev pub words_between : List ℕ → ℕ → ℕ → List ℕ
words_between bytes start end = slice_range (words_of bytes) start end

-- Extended tokens, each but the last saying that another follows; none where the token before them says that none does.
abbrev pub IsChain : Bool → List ℕ → Type 0
IsChain false [] = Unit {0}
IsChain false (token ∷ tokens) = ⊥
IsChain true [] = ⊥
IsChain true (token ∷ tokens) = IsChain (follows token) tokens

-- the words of the indices of a relative operand: a slot, and an element or a vector
abbrev pub SpellsPlace : Kind → ℕ → ℕ → List ℕ → Type 0
SpellsPlace Temp slot index words = (words ≡ slot ∷ []) × (index ≡ 0)
SpellsPlace Indexable slot index words = words ≡ slot ∷ index ∷ []
SpellsPlace Constant slot index words = words ≡ slot ∷ index ∷ []
SpellsPlace kind slot index words = (words ≡ []) × (slot ≡ 0) × (index ≡ 0)

abbrev pub component_of : Kind → ℕ → ℕ
component_of FlatId token = 0
component_of kind token = field_of token 5 4

-- A relative operand: its token, and the words of its indices.
pub record SpellsRelative (relative : Relative) (words : List ℕ) : Type 0 where
  pub token : ℕ
  pub place : List ℕ
  pub parts : words ≡ token ∷ place
  pub form : is_relative token ≡ true
  pub kind : kind_of token ≡ Some relative.kind
  pub component : relative.component ≡ component_of relative.kind token
  pub indices : SpellsPlace relative.kind relative.slot relative.index place

-- the immediate word of an index that has one
abbrev pub SpellsImmediate : Bool → ℕ → List ℕ → Type 0
SpellsImmediate true index words = words ≡ index ∷ []
SpellsImmediate false index words = (words ≡ []) × (index ≡ 0)

-- the relative operand of an index that has one
abbrev pub SpellsAddend : Bool → Option Relative → List ℕ → Type 0
SpellsAddend false relative words = (words ≡ []) × (relative ≡ None)
SpellsAddend true None words = ⊥
SpellsAddend true (Some relative) words = SpellsRelative relative words

-- An index: its immediate word, if it has one, and then its relative operand, if it has one.
pub record SpellsIndex (representation index : ℕ) (relative : Option Relative) (words : List ℕ) : Type 0 where
  pub front : List ℕ
  pub back : List ℕ
  pub parts : words ≡ front ++ back
  pub immediate : SpellsImmediate (has_immediate representation) index front
  pub addend : SpellsAddend (has_relative representation) relative back

-- the index behind the slot, by its representation where the type has one
abbrev pub SpellsElement : Option ℕ → ℕ → Option Relative → List ℕ → Type 0
SpellsElement None index relative words = (words ≡ []) × (index ≡ 0) × (relative ≡ None)
SpellsElement (Some representation) index relative words = SpellsIndex representation index relative words

-- the words of an immediate: four, or one that stands for each
abbrev pub SpellsLiteral : Bool → ℕ → ℕ → ℕ → ℕ → List ℕ → Type 0
SpellsLiteral true x y z w words = words ≡ x ∷ y ∷ z ∷ w ∷ []
SpellsLiteral false x y z w words = (words ≡ x ∷ []) × (y ≡ x) × (z ≡ x) × (w ≡ x)

pub record IsBlank (x y z w : ℕ) : Type 0 where
  pub x_is : x ≡ 0
  pub y_is : y ≡ 0
  pub z_is : z ≡ 0
  pub w_is : w ≡ 0

-- the words of an immediate, or the word of the register or slot
abbrev pub SpellsFixed : Fixed → ℕ → ℕ → ℕ → ℕ → ℕ → List ℕ → Type 0
SpellsFixed (Literal four) slot x y z w words = (slot ≡ 0) × SpellsLiteral four x y z w words
SpellsFixed Slot slot x y z w words = (words ≡ slot ∷ []) × IsBlank x y z w
SpellsFixed Nothing slot x y z w words = (words ≡ []) × (slot ≡ 0) × IsBlank x y z w

-- What stands behind an operand's tokens: the words of an immediate or the slot, and the index, each where the type has it.
pub record SpellsBehind (token : ℕ) (a : Argument) (words : List ℕ) : Type 0 where
  pub fixed : List ℕ
  pub element : List ℕ
  pub parts : words ≡ fixed ++ element
  pub fixed_is : SpellsFixed (fixed_of a.kind token) a.slot a.x a.y a.z a.w fixed
  pub element_is : SpellsElement (element_of a.kind token) a.index a.relative element

-- An operand's token alone, in a role of an opcode.
pub record SpellsToken (profile : Profile) (code : ℕ) (role : Role) (a : Argument) (token : ℕ) : Type 0 where
  pub kind : kind_of token ≡ Some a.kind
  pub allowed : is_allowed profile code role a.kind ≡ true
  pub selection : has_selection token ≡ true
  pub taken : takes code role a.kind token ≡ true
  pub select : a.select ≡ select_of a.kind token
  pub indices : has_indices (is_declaration profile code) a.kind token ≡ true

-- An operand in a role of an opcode: its token, its extended tokens, and what stands behind them. It is negated where one of the
-- extended tokens says so.
pub record SpellsOperand (profile : Profile) (code : ℕ) (role : Role) (a : Argument) (words : List ℕ) : Type 0 where
  pub token : ℕ
  pub extended : List ℕ
  pub behind : List ℕ
  pub parts : words ≡ token ∷ (extended ++ behind)
  pub head : SpellsToken profile code role a token
  pub chain : IsChain (follows token) extended
  pub modifiers : list_all (is_modifier (may_negate profile code role)) extended ≡ true
  pub negate : a.negate ≡ list_any is_negation extended
  pub rest : SpellsBehind token a behind

-- operands in these roles, one after the other
abbrev pub SpellsOperands : Profile → ℕ → List Role → List Argument → List ℕ → Type 0
SpellsOperands profile code [] [] words = words ≡ []
SpellsOperands profile code [] (a ∷ arguments) words = ⊥
SpellsOperands profile code (role ∷ roles) [] words = ⊥
SpellsOperands profile code (role ∷ roles) (a ∷ arguments) words =
    (front : List ℕ) × (back : List ℕ) × (words ≡ front ++ back) × SpellsOperand profile code role a front × SpellsOperands profile code roles arguments back

-- An opcode's tokens: the one with the opcode, the controls and the length, and its extended tokens.
pub record SpellsHead (profile : Profile) (code controls size : ℕ) (words : List ℕ) : Type 0 where
  pub token : ℕ
  pub extended : List ℕ
  pub parts : words ≡ token ∷ extended
  pub code_is : opcode_of token ≡ code
  pub known : is_known profile code ≡ true
  pub controls_are : controls_of token ≡ controls
  pub size_is : length_of token ≡ size
  pub chain : IsChain (follows token) extended
  pub types : list_all is_opcode_extension extended ≡ true

-- how many words stand behind the operands
abbrev pub further_words : Option Layout → ℕ
further_words None = 0
further_words (Some layout) = layout.words

-- An instruction or a declaration: the tokens of its opcode with its own length, an operand for each role, and a declaration's
-- further words.
pub record Spells (profile : Profile) (code controls : ℕ) (arguments : List Argument) (further words : List ℕ) : Type 0 where
  pub head : List ℕ
  pub operands : List ℕ
  pub parts : words ≡ head ++ (operands ++ further)
  pub tokens : SpellsHead profile code controls (length words) head
  pub roles : SpellsOperands profile code (roles_at profile code) arguments operands
  pub rest : length further ≡ further_words (layout_of profile code)

-- the words of vectors of the immediate constant buffer, at least one and at most 4,096
abbrev pub is_vectors : ℕ → Bool
is_vectors count = nat_eq (count % 4) 0 && (not (nat_eq count 0) && nat_le count 16384)

pub most_vectors : is_vectors 16384 ≡ true
most_vectors = refl

pub too_many_vectors : is_vectors 16388 ≡ false
too_many_vectors = refl

pub half_vectors : is_vectors 6 ≡ false
half_vectors = refl

pub no_vectors : is_vectors 0 ≡ false
no_vectors = refl

-- A block of custom data of a class, with its data: its token, its length, and the data.
pub record SpellsCustom (kind : ℕ) (values words : List ℕ) : Type 0 where
  pub token : ℕ
  pub parts : words ≡ token ∷ (length values + 2) ∷ values
  pub code : opcode_of token ≡ 53
  pub kind_is : class_of token ≡ kind
  pub known : kind ≤ 3
  pub vectors : kind ≡ 3 → is_vectors (length values) ≡ true
