-- What a raised instruction owes, and what has to hold of it and of its program.
use Rattle.std.specs.Prelude.{◌≡◌, ℕ, ◌+◌, ◌%◌, ◌<◌, ◌≤◌, ◌^◌, if◌then◌else◌, take, drop, sum_by, IsTrue, Bool, true, false, List, [], ◌∷◌, length, Option, Some, None, slice_get}
use Rattle.word_base.specs.Registers.{Registers}
use Rattle.word_base.specs.Settings.{Setting, HoldsWords}
use Rattle.word_base.specs.Words.{AreWords}
use Rattle.tpf_decode.specs.Profiles.{Base}
use Rattle.tpf_decode.specs.Opcodes.{meaning_of, form_of_meaning, roles_of}
use Rattle.tpf_decode.specs.declared.argument.Kind.TheVariants as kind
use Rattle.tpf_program.specs.Spelling.{Spells, operands, nothings}
use Rattle.tpf_program.specs.Uses.{is_missing, operand_uses, use_refusals}
use Rattle.tpf_program.specs.Values.{context, scalar}
use Rattle.shader_tree.specs.Costs.{Affords}
use Rattle.tpf_decode.specs.declared.meaning.Meaning.{Meaning}
use Rattle.tpf_decode.specs.declared.meaning.Meaning.TheVariants.{One, Two, Three, Inserts, Pair, Swaps, Nop}
use Rattle.tpf_decode.specs.declared.argument.Argument.{Argument}
use Rattle.tpf_decode.specs.declared.argument.Relative.{Relative}
use Rattle.tpf_decode.specs.declared.argument.Role.{Role}
use Rattle.tpf_decode.specs.Roles.{is_allowed}
use Rattle.tpf_program.specs.declared.instruction.Instruction.{Instruction}
use Rattle.tpf_program.specs.Bytecode.{result}
use Rattle.tpf_program.specs.Holding.{AreOfWords, HoldWords, SelectsInRange}
use Rattle.tpf_program.specs.Program.{Shader}
use Rattle.word_base.specs.Lanes.{Goes}
use Rattle.shader_tree.specs.declared.node.Space.{Space}
use Rattle.shader_tree.specs.declared.node.Space.TheVariants.{Temps, Indexable}
use Rattle.shader_tree.specs.Chains.{Link, push}
use Rattle.shader_tree.specs.Lane.{state, step}
use Rattle.shader_tree.specs.Plans.{Performs}
use Rattle.shader_tree.specs.Walks.{Each}
use Rattle.shader_tree.specs.Walks.{holds_no, is_event, is_flow, rooms_in, threads_in, spaces_in, written_in}
use Rattle.tpf_decode.specs.declared.argument.Kind.{Kind}
use Rattle.tpf_program.specs.declared.declaration.Declaration.{Declaration}
use Rattle.tpf_program.specs.declared.declaration.Declaration.TheVariants.{Input}
use Rattle.tpf_program.specs.Declarations.{same_id, declaration_refusals}
use Rattle.std.specs.List.{list_any}
use Rattle.shader_tree.specs.Terms.{Term}
use Rattle.shader_tree.specs.Values.{Spaces, words, value, word, size_of}
use Rattle.raise_operands.specs.Vectors.{spaces_of}

-- Spaces whose words have indices that are words: so few vectors are declared. Immediate constants are whole vectors.
pub record AreSmall (g : Spaces) : Type 0 where
  pub temps : g.temps < 2 ^ 30
  pub elements : (slot : ℕ) → g.elements slot < 2 ^ 30
  pub vectors : (slot : ℕ) → g.vectors slot < 2 ^ 30
  pub immediates : length g.immediates < 2 ^ 32
  pub whole : length g.immediates % 4 ≡ 0

-- an operand that selects components of vectors, and so does what is added to its index
abbrev pub AddsInRange : Option Relative → Type 0
AddsInRange None = Unit {0}
AddsInRange (Some r) = r.component < 4

pub record InRange (a : Argument) : Type 0 where
  pub select : SelectsInRange a.select
  pub relative : AddsInRange a.relative

pub record AreInRange (i : Instruction) : Type 0 where
  pub o0 : InRange i.o0
  pub o1 : InRange i.o1
  pub o2 : InRange i.o2
  pub o3 : InRange i.o3
  pub o4 : InRange i.o4

-- an instruction that computes, or does nothing
abbrev pub is_computed : Option Meaning → Bool
is_computed (Some (One op)) = true
is_computed (Some (Two op)) = true
is_computed (Some (Three op)) = true
is_computed (Some Inserts) = true
is_computed (Some (Pair op)) = true
is_computed (Some Swaps) = true
is_computed (Some Nop) = true
is_computed other = false

-- The fewest words of an operand: its token, an extended token where it is negated, its slot or its words, and what is
-- added to its index.
abbrev pub least_added : Kind → ℕ
least_added kind.Temp = 2
least_added kind.Indexable = 3
least_added kind.Constant = 3
least_added other = 1

abbrev pub least_index : Option Relative → ℕ
least_index None = 0
least_index (Some r) = least_added r.kind

abbrev pub least_by : Kind → Option Relative → ℕ
least_by kind.Temp r = 2
least_by kind.Indexable r = 2 + least_index r
least_by kind.Constant r = 2 + least_index r
least_by kind.ImmediateConstant r = 1 + least_index r
least_by kind.Immediate r = 2
least_by kind.Resource r = 2
least_by kind.Uav r = 2
least_by kind.Shared r = 2
least_by other r = 1

abbrev pub least_words : Argument → ℕ
least_words a = if a.negate then 1 + least_by a.kind a.relative else least_by a.kind a.relative

-- how many operands an instruction has
abbrev pub arity : Option Meaning → ℕ
arity None = 0
arity (Some m) = length (roles_of (form_of_meaning m))

-- An instruction is as long as its opcode and its operands at least, and those that it has not are the null operand.
pub record IsLong (meaning : Option Meaning) (i : Instruction) : Type 0 where
  pub size : 1 + sum_by least_words (take (arity meaning) (operands i)) ≤ i.length
  pub others : drop (arity meaning) (operands i) ≡ drop (arity meaning) nothings

-- WHAT A SPELLED INSTRUCTION OF A PROGRAM IS.
pub record IsRaisable (p : Shader) (i : Instruction) : Type 0 where
  pub computes : is_computed (meaning_of Base i.code) ≡ true
  pub long : IsLong (meaning_of Base i.code) i
  pub names : Each (λ a. list_any (is_missing p.declarations) (operand_uses a) ≡ false) (operands i)
  pub spaces : AreSmall (spaces_of p)
  pub words : AreWords p.constants
  pub o0 : InRange i.o0
  pub o1 : InRange i.o1
  pub o2 : InRange i.o2
  pub o3 : InRange i.o3
  pub o4 : InRange i.o4

-- each operand is of a type that its role takes
abbrev pub roles_in : Option Meaning → List Role
roles_in None = []
roles_in (Some m) = roles_of (form_of_meaning m)

abbrev pub Take : ℕ → List Role → List Argument → Type 0
Take code [] arguments = Unit {0}
Take code (role ∷ roles) [] = ⊥
Take code (role ∷ roles) (a ∷ arguments) = (is_allowed Base code role a.kind ≡ true) × Take code roles arguments

-- Any instruction of a program that breaks no rule: it is as long as its operands, what they name is declared, and they
-- are in range.
pub record IsInProgram (p : Shader) (i : Instruction) : Type 0 where
  pub long : IsLong (meaning_of Base i.code) i
  pub names : Each (λ a. list_any (is_missing p.declarations) (operand_uses a) ≡ false) (operands i)
  pub spaces : AreSmall (spaces_of p)
  pub words : AreWords p.constants
  pub range : AreInRange i
  pub types : Take i.code (roles_in (meaning_of Base i.code)) (operands i)
  pub immediates : AreOfWords i
  pub typed : p.typed ≡ []
  pub number : ℕ
  pub there : slice_get p.instructions number ≡ Some i

-- and one whose first operand control flow reads
pub record IsScalar (p : Shader) (i : Instruction) : Type 0 where
  pub names : list_any (is_missing p.declarations) (operand_uses i.o0) ≡ false
  pub spaces : AreSmall (spaces_of p)
  pub words : AreWords p.constants
  pub o0 : InRange i.o0

-- A program that words spell and that breaks no rule on declarations and on uses. Each of its instructions that
-- computes is raisable, and what control flow reads.
pub record IsChecked (p : Shader) (tokens : List ℕ) : Type 0 where
  pub words : AreWords tokens
  pub spelled : Spells Base p tokens
  pub size : p.words ≤ 65536
  pub declared : declaration_refusals 0 p ≡ []
  pub used : use_refusals Base p ≡ []

-- From these registers, whatever chain follows and whatever the scratch words are, a statement makes no event and
-- leaves the registers, and behind it an expression has that word.
abbrev pub Gives : Spaces → Setting → Term → Term → Registers → ℕ → Type 0
Gives g setting front x registers w =
    (k : List Link) (scratch : ℕ → ℕ) (turns : ℕ)
    → (n : ℕ) × (left : ℕ → ℕ)
    × Goes (step g setting) n (state (push front k) (words scratch registers) turns)
    (state k (words left registers) turns)
    × (value g setting (words left registers) x ≡ word w)

-- WHAT A STATEMENT HOLDS AND NAMES. No event, no control flow but selections, no room; thread ids and spaces that the
-- program has; and registers alone are written.
abbrev pub is_register : Space → Bool
is_register Temps = true
is_register (Indexable slot) = true
is_register other = false

abbrev pub is_input : Kind → Declaration → Bool
is_input kind (Input id select) = same_id id kind
is_input kind other = false

abbrev pub HasThread : Shader → Kind → Type 0
HasThread p kind = IsTrue (list_any (λ d. is_input kind d.what) p.declarations)

pub record IsPlain (p : Shader) (x : Term) : Type 0 where
  pub no_events : IsTrue (holds_no is_event x)
  pub no_flow : IsTrue (holds_no is_flow x)
  pub no_rooms : rooms_in x ≡ []
  pub threads : Each (HasThread p) (threads_in x)
  pub spaces : Each (λ space. 0 < size_of (spaces_of p) space) (spaces_in x)
  pub written : Each (λ space. IsTrue (is_register space)) (written_in x)

-- WHAT A RAISED INSTRUCTION OWES. Its statement makes no event and leaves the registers that the instruction leaves,
-- whatever follows it; it is plain, and the sums of its walk are at most 256 words and 48 ids for each word of the
-- instruction.
pub record Raises (p : Shader) (i : Instruction) (x : Term) : Type 0 where
  pub performs :
      (setting : Setting) (r : Registers) → HoldsWords setting → HoldWords r
      → Performs (spaces_of p) setting x r [] (λ answers. result Base p setting r i [])
  pub plain : IsPlain p x
  pub affords : Affords i.length x

-- What the number that control flow reads owes: the statement in front of it, and its word.
pub record RaisesScalar (p : Shader) (i : Instruction) (front x : Term) : Type 0 where
  pub gives :
      (setting : Setting) (r : Registers) → HoldsWords setting → HoldWords r
      → Gives (spaces_of p) setting front x r (scalar (context p setting r) i.o0)
  pub front' : IsPlain p front
  pub word' : IsPlain p x

-- what holds of the instruction of a program with that number
abbrev pub OfInstruction : Shader → ℕ → (Instruction → Type 0) → Type 0
OfInstruction p i P = (x : Instruction) → slice_get p.instructions i ≡ Some x → P x
