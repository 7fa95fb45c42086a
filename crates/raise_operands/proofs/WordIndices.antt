-- The indices of spelled operands are words.
use Rattle.std.proofs.Common.{◌≡◌, ℕ, zero, suc, ◌+◌, ◌<◌, ◌^◌, Bool, true, false, List, [], ◌∷◌, ◌++◌, length, Option, Some, None, sym, ap, subst, ◌∙◌, arith}
use Rattle.std.specs.Prelude.{slice_get}
use Rattle.word_base.specs.Words.{AreWords}
use Rattle.tpf_decode.specs.Declarations.{roles_at}
use Rattle.tpf_decode.specs.Profiles.{Base}
use Rattle.tpf_decode.specs.Spelling.{SpellsElement, SpellsImmediate, SpellsOperand, SpellsOperands}
use Rattle.tpf_decode.specs.Tokens.{element_of, has_immediate}
use Rattle.tpf_decode.specs.declared.argument.Argument.{Argument}
use Rattle.tpf_decode.specs.declared.argument.Relative.{Relative}
use Rattle.tpf_decode.specs.declared.argument.Role.{Role}
use Rattle.tpf_program.specs.Program.{Shader}
use Rattle.tpf_program.specs.Spelling.{Item, Declares, Types, Does, Lists, Skips, SpellsItems, Spells, SpellsInstruction, arguments, instructions_in, operands}
use Rattle.tpf_program.specs.declared.instruction.Instruction.{Instruction}
use Rattle.shader_tree.specs.Walks.{Each}
use Rattle.raise_operands.proofs.Lengths.{each_operand}
use Rattle.raise_operands.proofs.Raisable.{Below, below, below_left, below_right}

immediate_word : (b : Bool) (index : ℕ) (words : List ℕ) → SpellsImmediate b index words → Below words → index < 2 ^ 32
immediate_word true index words h b = (subst Below h b).0
immediate_word false index words h b = omega (arith, h.1)

element_word : (o : Option ℕ) (index : ℕ) (r : Option Relative) (words : List ℕ) → SpellsElement o index r words → Below words → index < 2 ^ 32
element_word None index r words h b = omega (arith, h.1)
element_word (Some representation) index r words h b =
    immediate_word (has_immediate representation) index h.front h.immediate (below_left h.front h.back (subst Below h.parts b))

operand_word : (role : Role) (code : ℕ) (a : Argument) (words : List ℕ) → SpellsOperand Base code role a words → Below words → a.index < 2 ^ 32
operand_word role code a words h b =
    let c = below_right h.extended h.behind (subst Below h.parts b).1 in
    element_word (element_of a.kind h.token) a.index a.relative h.rest.element h.rest.element_is
    (below_right h.rest.fixed h.rest.element (subst Below h.rest.parts c))

operands_words : (code : ℕ) (roles : List Role) (as' : List Argument) (words : List ℕ) → SpellsOperands Base code roles as' words → Below words
    → Each (λ a. a.index < 2 ^ 32) as'
operands_words code [] [] words h b = tt
operands_words code [] (a ∷ as') words h b = absurd h
operands_words code (role ∷ roles) [] words h b = absurd h
operands_words code (role ∷ roles) (a ∷ as') words h b =
    let c = subst Below h.2 b in
    (operand_word role code a h.0 h.3 (below_left h.0 h.1 c), operands_words code roles as' h.1 h.4 (below_right h.0 h.1 c))

instruction_words : (i : Instruction) (words : List ℕ) → SpellsInstruction Base i words → Below words → Each (λ a. a.index < 2 ^ 32) (operands i)
instruction_words i words h b =
    let c = below_left h.spelled.operands [] (below_right h.spelled.head (h.spelled.operands ++ []) (subst Below h.spelled.parts b)) in
    each_operand (λ a. a.index < 2 ^ 32) i h.others (omega arith)
    (operands_words i.code (roles_at Base i.code) (arguments i) h.spelled.operands h.spelled.roles c)

found_words : (at : ℕ) (items : List Item) (words : List ℕ) → SpellsItems Base at items words → Below words → (k : ℕ) (i : Instruction)
    → slice_get (instructions_in items) k ≡ Some i → Each (λ a. a.index < 2 ^ 32) (operands i)
found_words at [] words h b k i e = absurd (cc e)
found_words at (Declares d ∷ xs) words h b k i e = found_words (at + length h.0) xs h.1 h.4 (below_right h.0 h.1 (subst Below h.2 b)) k i e
found_words at (Types d view ∷ xs) words h b k i e = found_words (at + length h.0) xs h.1 h.4 (below_right h.0 h.1 (subst Below h.2 b)) k i e
found_words at (Lists place values ∷ xs) words h b k i e = found_words (at + length h.0) xs h.1 h.4 (below_right h.0 h.1 (subst Below h.2 b)) k i e
found_words at (Skips kind values ∷ xs) words h b k i e = found_words (at + length h.0) xs h.1 h.4 (below_right h.0 h.1 (subst Below h.2 b)) k i e
found_words at (Does j ∷ xs) words h b zero i e =
    let same : j ≡ i = cc e in
    subst (λ x. Each (λ a. a.index < 2 ^ 32) (operands x)) same (instruction_words j h.0 h.3.1 (below_left h.0 h.1 (subst Below h.2 b)))
found_words at (Does j ∷ xs) words h b (suc k) i e = found_words (at + length h.0) xs h.1 h.4 (below_right h.0 h.1 (subst Below h.2 b)) k i e

pub word_indices : (p : Shader) (tokens : List ℕ) → Spells Base p tokens → AreWords tokens → (k : ℕ) (i : Instruction)
    → slice_get p.instructions k ≡ Some i → Each (λ a. a.index < 2 ^ 32) (operands i)
word_indices p tokens h w k i e =
    let b = subst Below h.whole (below tokens w) in
    found_words 2 h.items h.body h.parts (below_left h.body h.ignored b.1.1) k i (ap (λ is. slice_get is k) (sym h.instructions) ∙ e)
