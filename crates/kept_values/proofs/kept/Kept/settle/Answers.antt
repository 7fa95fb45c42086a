use Rattle.std.proofs.Common.{◌≤◌, ◌<◌, length, sym, subst, arith}
use Rattle.kept_values.specs.Tables.{table, Pops}
use Rattle.kept_values.proofs.Waits.{pops_scratch, pops_register, pops_element, popped}
use Rattle.kept_values.proofs.kept.Kept.settle.Goals as goal

pub returns-then-waiting-gt0-clause-pops : goal.returns-then-waiting-gt0-clause-pops
returns-then-waiting-gt0-clause-pops c =
    let p = c.self.inside in let some : 0 < length p.elements.waiting = omega (arith, c.waiting.ensures, c.if-waiting-gt0.true) in
    popped c.args.self.now (table p.scratch p.registers p.elements) (table p.scratch p.registers c.settle.new.self) c.self.view_is
    (λ k id l. subst (λ s. Pops (table p.scratch p.registers p.elements) (table p.scratch p.registers s) k id) (sym c.settle.ensures)
    (pops_element p.scratch p.registers p.elements some k id l))

pub returns-then-waiting-gt0-2-clause-pops : goal.returns-then-waiting-gt0-2-clause-pops
returns-then-waiting-gt0-2-clause-pops c =
    let p = c.self.inside in let none : length p.elements.waiting ≤ 0 = omega (arith, c.waiting.ensures, c.if-waiting-gt0.false) in
    let some : 0 < length p.registers.waiting = omega (arith, c.waiting-else-waiting-gt0.ensures, c.if-waiting-gt0-2.true) in
    popped c.args.self.now (table p.scratch p.registers p.elements) (table p.scratch c.settle-then-waiting-gt0-2.new.self p.elements) c.self.view_is
    (λ k id l. subst (λ s. Pops (table p.scratch p.registers p.elements) (table p.scratch s p.elements) k id) (sym c.settle-then-waiting-gt0-2.ensures)
    (pops_register p.scratch p.registers p.elements none some k id l))

pub returns-else-waiting-gt0-2-clause-pops : goal.returns-else-waiting-gt0-2-clause-pops
returns-else-waiting-gt0-2-clause-pops c =
    let p = c.self.inside in let none : length p.elements.waiting ≤ 0 = omega (arith, c.waiting.ensures, c.if-waiting-gt0.false) in
    let nothing : length p.registers.waiting ≤ 0 = omega (arith, c.waiting-else-waiting-gt0.ensures, c.if-waiting-gt0-2.false) in
    popped c.args.self.now (table p.scratch p.registers p.elements) (table c.settle-else-waiting-gt0-2.new.self p.registers p.elements) c.self.view_is
    (λ k id l. subst (λ s. Pops (table p.scratch p.registers p.elements) (table s p.registers p.elements) k id) (sym c.settle-else-waiting-gt0-2.ensures)
    (pops_scratch p.scratch p.registers p.elements none nothing k id l))
