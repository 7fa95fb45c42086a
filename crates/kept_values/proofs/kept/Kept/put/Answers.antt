use Rattle.std.proofs.Common.{ap, sym, subst, ◌<◌, length}
use Rattle.kept_values.specs.declared.word.Word.TheVariants.{Scratch, Register, Element}
use Rattle.kept_values.specs.Tables.{Table, table}
use Rattle.kept_values.proofs.Waits.{given, puts_scratch, puts_register, puts_element, put_in, held_scratch, held_register, held_element}
use Rattle.kept_values.proofs.kept.Kept.put.Goals as goal

pub returns-in-Scratch-clause-puts : goal.returns-in-Scratch-clause-puts
returns-in-Scratch-clause-puts c =
    let p = c.self.inside in let n = c.in-Scratch.n in
    let lt : n < length p.scratch.ids = subst (λ (t : Table). n < length t.scratch.ids) (sym c.self.view_is) (held_scratch c.args.self.now c.args.word n c.requires c.in-Scratch.is) in
    put_in c.args.self.now (table p.scratch p.registers p.elements) (table c.put.new.self p.registers p.elements) (table (given p.scratch n c.args.id) p.registers p.elements)
    c.args.word (Scratch n) c.args.id c.self.view_is (ap (λ s. table s p.registers p.elements) (sym c.put.ensures)) c.in-Scratch.is
    (puts_scratch p.scratch p.registers p.elements n c.args.id lt)

pub returns-in-Register-clause-puts : goal.returns-in-Register-clause-puts
returns-in-Register-clause-puts c =
    let p = c.self.inside in let n = c.in-Register.n in
    let lt : n < length p.registers.ids = subst (λ (t : Table). n < length t.registers.ids) (sym c.self.view_is) (held_register c.args.self.now c.args.word n c.requires c.in-Register.is) in
    put_in c.args.self.now (table p.scratch p.registers p.elements) (table p.scratch c.put-in-Register.new.self p.elements) (table p.scratch (given p.registers n c.args.id) p.elements)
    c.args.word (Register n) c.args.id c.self.view_is (ap (λ s. table p.scratch s p.elements) (sym c.put-in-Register.ensures)) c.in-Register.is
    (puts_register p.scratch p.registers p.elements n c.args.id lt)

pub returns-in-Element-clause-puts : goal.returns-in-Element-clause-puts
returns-in-Element-clause-puts c =
    let p = c.self.inside in let n = c.in-Element.n in
    let lt : n < length p.elements.ids = subst (λ (t : Table). n < length t.elements.ids) (sym c.self.view_is) (held_element c.args.self.now c.args.word n c.requires c.in-Element.is) in
    put_in c.args.self.now (table p.scratch p.registers p.elements) (table p.scratch p.registers c.put-in-Element.new.self) (table p.scratch p.registers (given p.elements n c.args.id))
    c.args.word (Element n) c.args.id c.self.view_is (ap (λ s. table p.scratch p.registers s) (sym c.put-in-Element.ensures)) c.in-Element.is
    (puts_element p.scratch p.registers p.elements n c.args.id lt)
