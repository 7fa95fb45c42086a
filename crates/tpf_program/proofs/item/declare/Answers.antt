use Rattle.std.proofs.Common.{◌≡◌, refl, sym, subst, arith}
use Rattle.std.proofs.lemmas.Bool.Decides.{nat_tests}
use Rattle.tpf_decode.specs.Spelling.{words_between}
use Rattle.tpf_program.specs.Spelling.{IsDeclaredBy}
use Rattle.tpf_program.proofs.Tables.{declared_code}
use Rattle.tpf_program.proofs.item.declare.Goals as goal

pub returns-in_default : goal.returns-in_default
returns-in_default c =
    let known = declared_code c.args.code c.requires.code in
    let last : c.args.code ≡ 162 = grind (arith, nat_tests, known) in
    subst (λ d. IsDeclaredBy d c.args.code c.args.controls c.args.named (words_between c.args.bytes.now c.args.place c.args.end)) (sym c.resource-in_default.ensures)
    (last, refl, c.further_word-first.ensures)
