use Rattle.std.proofs.Common.{◌≡◌, length, take, arith, sym, ap, ◌∙◌}
use Rattle.std.specs.Prelude.{flat_map}
use Rattle.tpf_decode.specs.Opcodes.{form_of_meaning, roles_of}
use Rattle.tpf_program.specs.Spelling.{operands}
use Rattle.tpf_program.specs.Uses.{operand_uses}
use Rattle.shader_check.specs.Things.{both_faults, faults_of}
use Rattle.shader_check.proofs.Faults.{more_faults}
use Rattle.shader_check.proofs.Walk.{flat_more}
use Rattle.shader_check.proofs.uses.instruction_faults.Goals as goal

pub loop-i-preserved : goal.loop-i-preserved
loop-i-preserved c =
    let t = c.args.things.now in
    let os = operands c.args.instruction in
    let before = flat_map operand_uses (take c.loop-i.i os) in
    c.joined-faults.ensures
    ∙ (ap (λ f. both_faults f c.operand_faults.result) c.loop-i.invariant
    ∙ (ap (both_faults (faults_of t c.args.meaning before)) c.operand_faults.ensures
    ∙ (more_faults t c.args.meaning before (operand_uses c.operand_at-operand.result)
    ∙ ap (faults_of t c.args.meaning) (sym (flat_more operand_uses os c.loop-i.i c.operand_at-operand.result c.operand_at-operand.ensures)))))

pub returns : goal.returns
returns c =
    let t = c.args.things.now in
    let all : c.loop-i.i ≡ length (roles_of (form_of_meaning c.args.meaning)) = omega (arith, c.loop-i-test.false, c.loop-i.auto.i-end, c.operand_count-i-end.ensures.count) in
    c.loop-i.invariant ∙ ap (λ n. faults_of t c.args.meaning (flat_map operand_uses (take n (operands c.args.instruction)))) all
