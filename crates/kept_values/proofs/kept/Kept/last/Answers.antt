use Rattle.std.proofs.Common.{subst, rules}
use Rattle.kept_values.specs.declared.word.Word.TheVariants.{Scratch, Register, Element}
use Rattle.kept_values.specs.Tables.{Table, table, IsLast}
use Rattle.kept_values.proofs.Waits.{last_scratch, last_register, last_element}
use Rattle.kept_values.proofs.kept.Kept.last.Goals as goal

pub returns-in-Some-clause-last : goal.returns-in-Some-clause-last
returns-in-Some-clause-last c =
    let p = c.self.inside in let w = c.in-Some in
    subst (λ (t : Table). IsLast t (Element w.number) w.id) c.self.view_is
    (last_element (table p.scratch p.registers p.elements) w.number w.id w.ensures.last w.ensures.id)

pub returns-in-Some-last-clause-last : goal.returns-in-Some-last-clause-last
returns-in-Some-last-clause-last c =
    let p = c.self.inside in let w = c.in-Some-last in
    subst (λ (t : Table). IsLast t (Register w.number) w.id) c.self.view_is
    (last_register (table p.scratch p.registers p.elements) w.number w.id (search rules) w.ensures.last w.ensures.id)

pub returns-in-Some-last-2-clause-last : goal.returns-in-Some-last-2-clause-last
returns-in-Some-last-2-clause-last c =
    let p = c.self.inside in let w = c.in-Some-last-2 in
    subst (λ (t : Table). IsLast t (Scratch w.number) w.id) c.self.view_is
    (last_scratch (table p.scratch p.registers p.elements) w.number w.id (search rules) (search rules) w.ensures.last w.ensures.id)
