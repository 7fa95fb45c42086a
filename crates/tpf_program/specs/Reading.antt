-- What the calls of the reader give.
use Rattle.std.specs.Prelude.{◌≡◌, ℕ, ◌+◌, ◌*◌, ◌≤◌, List, ◌++◌, length, drop, slice_range}
use Rattle.tpf_decode.specs.declared.argument.Argument.{Argument}
use Rattle.tpf_decode.specs.declared.argument.Role.{Role}
use Rattle.tpf_decode.specs.Profiles.{Base}
use Rattle.tpf_decode.specs.Declarations.{layout_of, roles_at}
use Rattle.tpf_decode.specs.Spelling.{SpellsOperands, further_words}
use Rattle.tpf_decode.specs.Refusals.{Rest, no_more, behind_words, operands_faults}
use Rattle.tpf_program.specs.declared.item.Piece.{Piece}
use Rattle.tpf_program.specs.declared.item.Piece.TheVariants as piece
use Rattle.tpf_program.specs.Program.{Shader, AreBefore}
use Rattle.tpf_program.specs.Cases.{is_any_case}
use Rattle.tpf_program.specs.Ends.{count}
use Rattle.tpf_program.specs.Faults.{body_faults}
use Rattle.tpf_program.specs.Spelling.{nothings, Item, Declares, Does, Lists, Skips, SpellsItem, SpellsItems, declarations_in, instructions_in, constants_in, typed_in}

-- Words spell operands in these roles, which stand first in the five places; the other places have the null operand.
pub record HasOperands (code : ℕ) (roles : List Role) (places : List Argument) (words : List ℕ) : Type 0 where
  pub arguments : List Argument
  pub places_are : places ≡ arguments ++ drop (length arguments) nothings
  pub spelled : SpellsOperands Base code roles arguments words

-- the broken rules behind an opcode's tokens
abbrev pub parts_faults : ℕ → Rest
parts_faults code = operands_faults Base code (roles_at Base code) (behind_words (further_words (layout_of Base code)) no_more)

-- the part of a program that a piece is, with the words of its data
abbrev pub IsPiece : List ℕ → ℕ → ℕ → Piece → Type 0
IsPiece words at end (piece.Declaration d) = SpellsItem Base at (Declares d) (slice_range words at end)
IsPiece words at end (piece.Instruction i) = SpellsItem Base at (Does i) (slice_range words at end)
IsPiece words at end piece.Constants = SpellsItem Base at (Lists at (slice_range words (at + 2) end)) (slice_range words at end)
IsPiece words at end piece.Nothing = (kind : ℕ) × (values : List ℕ) × SpellsItem Base at (Skips kind values) (slice_range words at end)

-- The program up to a place: its parts are those of the words up to there, stand there, and break no rule. No list has more entries
-- than there are words, and a case has three of them.
pub record IsReadTo (words : List ℕ) (at : ℕ) (p : Shader) : Type 0 where
  pub items : List Item
  pub parts : SpellsItems Base 2 items (slice_range words 2 at)
  pub declarations : p.declarations ≡ declarations_in items
  pub instructions : p.instructions ≡ instructions_in items
  pub constants : p.constants ≡ constants_in items
  pub typed : p.typed ≡ typed_in items
  pub few_declarations : length p.declarations ≤ at
  pub few_instructions : length p.instructions ≤ at
  pub few_constants : length p.constants ≤ at
  pub few_cases : 3 * count Base is_any_case p.instructions ≤ at
  pub declared : AreBefore (λ d. d.place) p.declarations at
  pub done : AreBefore (λ i. i.place) p.instructions at
  pub faults : body_faults Base 0 2 (slice_range words 2 p.words) ≡ body_faults Base 0 at (slice_range words at p.words)
