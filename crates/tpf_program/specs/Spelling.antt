-- The words that spell a program. (d3d11TokenizedProgramFormat.hpp: the version token, the length token, and the opcode tokens.)
use Rattle.std.specs.Prelude.{◌≡◌, ℕ, ◌+◌, ◌/◌, ◌≤◌, ◌<◌, true, false, List, [], ◌∷◌, ◌++◌, length, take, drop, slice_index, None, is_some}
use Rattle.tpf_program.specs.declared.declaration.ViewKind.TheVariants as view
use Rattle.tpf_program.specs.declared.declaration.SharedKind.TheVariants as shared
use Rattle.tpf_program.specs.declared.declaration.Declaration.{Declaration}
use Rattle.tpf_program.specs.declared.declaration.Declaration.TheVariants.{Flags, Constants, Resource, Uav, Shared, Input, Temps, Indexable, Group, ImmediateConstants}
use Rattle.tpf_program.specs.declared.declaration.Declared.{Declared}
use Rattle.tpf_program.specs.declared.instruction.Instruction.{Instruction}
use Rattle.tpf_program.specs.Program.{Shader}
use Rattle.tpf_decode.specs.declared.argument.Argument.{Argument}
use Rattle.tpf_decode.specs.declared.argument.Kind.TheVariants.{Null}
use Rattle.tpf_decode.specs.declared.argument.Select.TheVariants.{Bare}
use Rattle.tpf_decode.specs.Profiles.{Profile}
use Rattle.word_base.specs.declared.event.Room.{Room}
use Rattle.word_base.specs.declared.event.Room.TheVariants as room
use Rattle.tpf_decode.specs.Tokens.{has_flag}
use Rattle.tpf_decode.specs.Opcodes.{form_of}
use Rattle.tpf_decode.specs.Spelling.{SpellsCustom}
use Rattle.tpf_decode.specs.Spelling as token

-- the operand that names nothing, which stands in the place of those that an instruction has not
abbrev pub nothing : Argument
nothing = record { kind = Null; select = Bare; negate = false; slot = 0; index = 0; relative = None; x = 0; y = 0; z = 0; w = 0 }

-- the operand of a declaration, if it has one
abbrev pub named : List Argument → Argument
named [] = nothing
named (a ∷ arguments) = a

-- What an opcode of a declaration with these controls, this operand and these further words declares.
abbrev pub IsDeclaredBy : Declaration → ℕ → ℕ → Argument → List ℕ → Type 0
IsDeclaredBy (Flags flags) code controls a further = (code ≡ 106) × (flags ≡ controls)
IsDeclaredBy (Constants slot size) code controls a further = (code ≡ 89) × (slot ≡ a.slot) × (size ≡ a.index)
IsDeclaredBy (Resource slot view.Raw) code controls a further = (code ≡ 161) × (slot ≡ a.slot)
IsDeclaredBy (Resource slot (view.Structured stride)) code controls a further =
    (code ≡ 162) × (slot ≡ a.slot) × (stride ≡ slice_index further 0)
IsDeclaredBy (Uav slot view.Raw coherent ordered) code controls a further =
    (code ≡ 157) × (slot ≡ a.slot) × (coherent ≡ has_flag controls 16) × (ordered ≡ false)
IsDeclaredBy (Uav slot (view.Structured stride) coherent ordered) code controls a further =
    (code ≡ 158) × (slot ≡ a.slot) × (coherent ≡ has_flag controls 16) × (ordered ≡ has_flag controls 23) × (stride ≡ slice_index further 0)
IsDeclaredBy (Shared slot (shared.Raw bytes)) code controls a further =
    (code ≡ 159) × (slot ≡ a.slot) × (bytes ≡ slice_index further 0)
IsDeclaredBy (Shared slot (shared.Structured stride count)) code controls a further =
    (code ≡ 160) × (slot ≡ a.slot) × (stride ≡ slice_index further 0) × (count ≡ slice_index further 1)
IsDeclaredBy (Input kind select) code controls a further = (code ≡ 95) × (kind ≡ a.kind) × (select ≡ a.select)
IsDeclaredBy (Temps count) code controls a further = (code ≡ 104) × (count ≡ slice_index further 0)
IsDeclaredBy (Indexable slot count components) code controls a further =
    (code ≡ 105) × (slot ≡ slice_index further 0) × (count ≡ slice_index further 1) × (components ≡ slice_index further 2)
IsDeclaredBy (Group x y z) code controls a further =
    (code ≡ 155) × (x ≡ slice_index further 0) × (y ≡ slice_index further 1) × (z ≡ slice_index further 2)
IsDeclaredBy (ImmediateConstants vectors) code controls a further = ⊥

-- a declaration's words: the tokens of its opcode, its operand, and its further words
pub record SpellsDeclaration (profile : Profile) (what : Declaration) (words : List ℕ) : Type 0 where
  pub code : ℕ
  pub controls : ℕ
  pub arguments : List Argument
  pub further : List ℕ
  pub spelled : token.Spells profile code controls arguments further words
  pub declared : IsDeclaredBy what code controls (named arguments) further

-- A typed view counts as one of structures of one word. (dcl_resource, dcl_uav_typed)
abbrev pub IsTypedBy : Declaration → Room → ℕ → ℕ → Argument → Type 0
IsTypedBy (Resource slot (view.Structured stride)) view code controls a =
    (code ≡ 88) × (slot ≡ a.slot) × (stride ≡ 4) × (view ≡ room.Resource slot)
IsTypedBy (Uav slot (view.Structured stride) coherent ordered) view code controls a =
    (code ≡ 156) × (slot ≡ a.slot) × (stride ≡ 4) × (coherent ≡ has_flag controls 16) × (ordered ≡ false) × (view ≡ room.Uav slot)
IsTypedBy what view code controls a = ⊥

-- the words of its declaration, of which the last says the type of its elements
pub record SpellsTyped (profile : Profile) (what : Declaration) (view : Room) (words : List ℕ) : Type 0 where
  pub code : ℕ
  pub controls : ℕ
  pub arguments : List Argument
  pub further : List ℕ
  pub spelled : token.Spells profile code controls arguments further words
  pub declared : IsTypedBy what view code controls (named arguments)

-- the five operands of an instruction, and those of them that it has
abbrev pub operands : Instruction → List Argument
operands i = i.o0 ∷ i.o1 ∷ i.o2 ∷ i.o3 ∷ i.o4 ∷ []

abbrev pub arguments : Instruction → List Argument
arguments i = take i.count (operands i)

abbrev pub nothings : List Argument
nothings = nothing ∷ nothing ∷ nothing ∷ nothing ∷ nothing ∷ []

-- An instruction's words: the tokens of its opcode, and then its operands. The operands that it has not are the null operand.
pub record SpellsInstruction (profile : Profile) (i : Instruction) (words : List ℕ) : Type 0 where
  pub spelled : token.Spells profile i.code i.controls (arguments i) [] words
  pub form : is_some (form_of profile i.code) ≡ true
  pub size : i.length ≡ length words
  pub count : i.count ≤ 5
  pub others : drop i.count (operands i) ≡ drop i.count nothings

-- A part of a program: a declaration, that of a typed view, or an instruction, each with its place, the words of an immediate constant
-- buffer with its place, or other custom data.
pub data Item : Type 0 where
  Declares : (declared : Declared) → Item
  Types : (declared : Declared) (view : Room) → Item
  Does : (instruction : Instruction) → Item
  Lists : (place : ℕ) (values : List ℕ) → Item
  Skips : (kind : ℕ) (values : List ℕ) → Item

abbrev pub SpellsItem : Profile → ℕ → Item → List ℕ → Type 0
SpellsItem profile at (Declares d) words = (d.place ≡ at) × SpellsDeclaration profile d.what words
SpellsItem profile at (Types d view) words = (d.place ≡ at) × SpellsTyped profile d.what view words
SpellsItem profile at (Does i) words = (i.place ≡ at) × SpellsInstruction profile i words
SpellsItem profile at (Lists place values) words = (place ≡ at) × SpellsCustom 3 values words
SpellsItem profile at (Skips kind values) words = (kind < 3) × SpellsCustom kind values words

-- the words from a place on are the spellings of the parts, one after the other
abbrev pub SpellsItems : Profile → ℕ → List Item → List ℕ → Type 0
SpellsItems profile at [] words = words ≡ []
SpellsItems profile at (x ∷ xs) words =
    (front : List ℕ) × (rest : List ℕ) × (words ≡ front ++ rest) × SpellsItem profile at x front × SpellsItems profile (at + length front) xs rest

-- an immediate constant buffer counts as a declaration of its vectors
abbrev pub listed : ℕ → List ℕ → Declared
listed place values = record { place = place; what = ImmediateConstants (length values / 4) }

abbrev pub declarations_in : List Item → List Declared
declarations_in [] = []
declarations_in (Declares d ∷ xs) = d ∷ declarations_in xs
declarations_in (Types d view ∷ xs) = d ∷ declarations_in xs
declarations_in (Does i ∷ xs) = declarations_in xs
declarations_in (Lists place values ∷ xs) = listed place values ∷ declarations_in xs
declarations_in (Skips kind values ∷ xs) = declarations_in xs

abbrev pub instructions_in : List Item → List Instruction
instructions_in [] = []
instructions_in (Declares d ∷ xs) = instructions_in xs
instructions_in (Types d view ∷ xs) = instructions_in xs
instructions_in (Does i ∷ xs) = i ∷ instructions_in xs
instructions_in (Lists place values ∷ xs) = instructions_in xs
instructions_in (Skips kind values ∷ xs) = instructions_in xs

abbrev pub constants_in : List Item → List ℕ
constants_in [] = []
constants_in (Declares d ∷ xs) = constants_in xs
constants_in (Types d view ∷ xs) = constants_in xs
constants_in (Does i ∷ xs) = constants_in xs
constants_in (Lists place values ∷ xs) = values ++ constants_in xs
constants_in (Skips kind values ∷ xs) = constants_in xs

abbrev pub typed_in : List Item → List Room
typed_in [] = []
typed_in (Declares d ∷ xs) = typed_in xs
typed_in (Types d view ∷ xs) = view ∷ typed_in xs
typed_in (Does i ∷ xs) = typed_in xs
typed_in (Lists place values ∷ xs) = typed_in xs
typed_in (Skips kind values ∷ xs) = typed_in xs

-- The words of a chunk spell a program: the version token of cs_5_0, the number of words, and then the parts. Words past that number
-- are ignored.
pub record Spells (profile : Profile) (p : Shader) (tokens : List ℕ) : Type 0 where
  pub items : List Item
  pub body : List ℕ
  pub ignored : List ℕ
  pub whole : tokens ≡ 0x00050050 ∷ p.words ∷ (body ++ ignored)
  pub count : length body + 2 ≡ p.words
  pub parts : SpellsItems profile 2 items body
  pub declarations : p.declarations ≡ declarations_in items
  pub instructions : p.instructions ≡ instructions_in items
  pub constants : p.constants ≡ constants_in items
  pub typed : p.typed ≡ typed_in items
