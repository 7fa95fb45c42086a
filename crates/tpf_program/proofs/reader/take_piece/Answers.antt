use Rattle.std.proofs.Common.{◌≡◌, ◌≤◌, ◌+◌, ◌++◌, length, refl, sym, ap, ◌∙◌, subst, append-nil, arith}
use Rattle.std.specs.Prelude.{slice_range}
use Rattle.word_base.specs.Words.{words_of}
use Rattle.word_base.specs.Rules.{first}
use Rattle.tpf_decode.specs.Profiles.{Base}
use Rattle.tpf_decode.specs.Refusals.{instruction_faults}
use Rattle.tpf_program.specs.Spelling.{Declares, Does, Lists, Skips}
use Rattle.tpf_program.specs.Reading.{IsPiece}
use Rattle.tpf_decode.proofs.Ranges.{length-range}
use Rattle.tpf_program.proofs.CaseWords.{case_words}
use Rattle.tpf_program.proofs.Walk.{Adds, part_read}
use Rattle.tpf_program.proofs.reader.take_piece.Goals as goal

pub returns-in-Declaration-clause-read : goal.returns-in-Declaration-clause-read
returns-in-Declaration-clause-read c =
    let w = words_of c.args.bytes.now in
    let p = c.args.program.now.shader in
    let at = c.args.at in
    let end = c.in-Ok.found.1 in
    let words = ap (λ s. s.shader.words) c.program.view_is in
    let inside : end ≤ p.words = omega (arith, c.in-Ok.ensures.within.1, words) in
    let sound = c.in-Ok.ensures.refused ∙ ap (λ n. first (instruction_faults Base at (slice_range w at n))) words in
    let fits : end ≤ length w = omega (arith, inside, c.requires.words) in
    let adds : Adds (Declares c.in-Declaration.declared) p c.add_declaration.new.program.shader = record {
      words = ap (λ s. s.shader.words) c.add_declaration.ensures;
      declarations = ap (λ s. s.shader.declarations) c.add_declaration.ensures;
      instructions = ap (λ s. s.shader.instructions) c.add_declaration.ensures ∙ sym (append-nil p.instructions);
      constants = ap (λ s. s.shader.constants) c.add_declaration.ensures ∙ sym (append-nil p.constants);
      typed = ap (λ s. s.shader.typed) c.add_declaration.ensures ∙ sym (append-nil p.typed);
    } in
    part_read w at end (Declares c.in-Declaration.declared) p c.add_declaration.new.program.shader c.requires.head c.in-Ok.ensures.within.0 fits c.requires.read
    (subst (λ x. IsPiece w at end x) c.in-Declaration.is c.in-Ok.ensures.spelled) adds inside c.requires.words sound

pub returns-in-Instruction-clause-read : goal.returns-in-Instruction-clause-read
returns-in-Instruction-clause-read c =
    let w = words_of c.args.bytes.now in
    let p = c.args.program.now.shader in
    let at = c.args.at in
    let end = c.in-Ok.found.1 in
    let words = ap (λ s. s.shader.words) c.program.view_is in
    let inside : end ≤ p.words = omega (arith, c.in-Ok.ensures.within.1, words) in
    let sound = c.in-Ok.ensures.refused ∙ ap (λ n. first (instruction_faults Base at (slice_range w at n))) words in
    let fits : end ≤ length w = omega (arith, inside, c.requires.words) in
    let adds : Adds (Does c.in-Instruction.instruction) p c.add_instruction.new.program.shader = record {
      words = ap (λ s. s.shader.words) c.add_instruction.ensures;
      declarations = ap (λ s. s.shader.declarations) c.add_instruction.ensures ∙ sym (append-nil p.declarations);
      instructions = ap (λ s. s.shader.instructions) c.add_instruction.ensures;
      constants = ap (λ s. s.shader.constants) c.add_instruction.ensures ∙ sym (append-nil p.constants);
      typed = ap (λ s. s.shader.typed) c.add_instruction.ensures ∙ sym (append-nil p.typed);
    } in
    part_read w at end (Does c.in-Instruction.instruction) p c.add_instruction.new.program.shader c.requires.head c.in-Ok.ensures.within.0 fits c.requires.read
    (subst (λ x. IsPiece w at end x) c.in-Instruction.is c.in-Ok.ensures.spelled) adds inside c.requires.words sound

pub returns-in-Constants-clause-read : goal.returns-in-Constants-clause-read
returns-in-Constants-clause-read c =
    let w = words_of c.args.bytes.now in
    let p = c.args.program.now.shader in
    let at = c.args.at in
    let end = c.in-Ok.found.1 in
    let values = slice_range w (at + 2) end in
    let words = ap (λ s. s.shader.words) c.program.view_is in
    let inside : end ≤ p.words = omega (arith, c.in-Ok.ensures.within.1, words) in
    let sound = c.in-Ok.ensures.refused ∙ ap (λ n. first (instruction_faults Base at (slice_range w at n))) words in
    let fits : end ≤ length w = omega (arith, inside, c.requires.words) in
    let adds : Adds (Lists at values) p c.add_constants.new.program.shader = record {
      words = ap (λ s. s.shader.words) c.add_constants.ensures;
      declarations = ap (λ s. s.shader.declarations) c.add_constants.ensures;
      instructions = ap (λ s. s.shader.instructions) c.add_constants.ensures ∙ sym (append-nil p.instructions);
      constants = ap (λ s. s.shader.constants) c.add_constants.ensures ∙ ap (λ l. p.constants ++ l) (sym (append-nil values));
      typed = ap (λ s. s.shader.typed) c.add_constants.ensures ∙ sym (append-nil p.typed);
    } in
    part_read w at end (Lists at values) p c.add_constants.new.program.shader c.requires.head c.in-Ok.ensures.within.0 fits c.requires.read
    (subst (λ x. IsPiece w at end x) c.in-Constants.is c.in-Ok.ensures.spelled) adds inside c.requires.words sound

pub returns-in-Nothing-clause-read : goal.returns-in-Nothing-clause-read
returns-in-Nothing-clause-read c =
    let w = words_of c.args.bytes.now in
    let p = c.args.program.now.shader in
    let at = c.args.at in
    let end = c.in-Ok.found.1 in
    let s = subst (λ x. IsPiece w at end x) c.in-Nothing.is c.in-Ok.ensures.spelled in
    let words = ap (λ s. s.shader.words) c.program.view_is in
    let inside : end ≤ p.words = omega (arith, c.in-Ok.ensures.within.1, words) in
    let sound = c.in-Ok.ensures.refused ∙ ap (λ n. first (instruction_faults Base at (slice_range w at n))) words in
    let fits : end ≤ length w = omega (arith, inside, c.requires.words) in
    let adds : Adds (Skips s.0 s.1) p p = record {
      words = refl;
      declarations = sym (append-nil p.declarations);
      instructions = sym (append-nil p.instructions);
      constants = sym (append-nil p.constants);
      typed = sym (append-nil p.typed);
    } in
    part_read w at end (Skips s.0 s.1) p p c.requires.head c.in-Ok.ensures.within.0 fits c.requires.read
    s.2 adds inside c.requires.words sound

-- an instruction stands behind those that are read, and there is room for its case
pub add_instruction-requires-clause-place : goal.add_instruction-requires-clause-place
add_instruction-requires-clause-place c =
    let w = words_of c.args.bytes.now in
    let s = subst (λ x. IsPiece w c.args.at c.in-Ok.found.1 x) c.in-Instruction.is c.in-Ok.ensures.spelled in
    let place : c.in-Instruction.instruction.place ≡ c.args.at = s.0 in
    record {
      declared = λ k d e. omega (arith, c.requires.read.declared k d e, place);
      done = λ k i e. omega (arith, c.requires.read.done k i e, place);
      behind = omega (arith, place, c.requires.head);
      inside = omega (arith, place, c.requires.inside);
    }

pub add_instruction-requires-clause-cases : goal.add_instruction-requires-clause-cases
add_instruction-requires-clause-cases c =
    let w = words_of c.args.bytes.now in
    let end = c.in-Ok.found.1 in
    let s = subst (λ x. IsPiece w c.args.at end x) c.in-Instruction.is c.in-Ok.ensures.spelled in
    let inside : end ≤ c.args.program.now.shader.words = omega (arith, c.in-Ok.ensures.within.1, ap (λ s. s.shader.words) c.program.view_is) in
    let fits : end ≤ length w = omega (arith, inside, c.requires.words) in
    let size : c.args.at + length (slice_range w c.args.at end) ≡ end = omega (arith, length-range w c.args.at end fits, c.in-Ok.ensures.within.0) in
    λ h. omega (arith, case_words c.in-Instruction.instruction (slice_range w c.args.at end) s.1 h, size, inside, c.requires.room, c.requires.read.few_cases)
