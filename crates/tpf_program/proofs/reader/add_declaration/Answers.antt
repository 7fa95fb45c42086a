use Rattle.std.proofs.Common.{◌≡◌, ◌++◌, ◌∷◌, [], sym, ap, ◌∙◌, subst}
use Rattle.tpf_program.specs.KeptCases.{IsOfRoom}
use Rattle.tpf_program.specs.Program.{AreApart, AreInOrder, IsBehind}
use Rattle.tpf_program.proofs.Ordered.{declared_apart, in_order_more}
use Rattle.tpf_program.proofs.reader.add_declaration.Goals as goal

pub invariant_of-program : goal.invariant_of-program
invariant_of-program c =
    let p = c.program.inside in
    let list : c.push.new.self.list ≡ p.declarations.list ++ c.args.declared ∷ [] = c.push.ensures.list in
    let now = ap (λ k. k.shader) c.program.view_is in
    let place = subst (λ s. IsBehind s c.args.declared.place) (sym now) c.requires.place in
    record {
      constants_room = c.program.invariant.constants_room ∙ sym c.push.ensures.capacity;
      instructions_room = c.program.invariant.instructions_room ∙ sym c.push.ensures.capacity;
      cases_room = subst (λ n. IsOfRoom n p.cases) (sym c.push.ensures.capacity) c.program.invariant.cases_room;
      few_instructions = c.program.invariant.few_instructions;
      declarations_in_order = subst (λ l. AreInOrder (λ d. d.place) p.words l) (sym list)
          (in_order_more (λ d. d.place) p.words p.declarations.list c.args.declared c.program.invariant.declarations_in_order place.declared place.behind place.inside);
      instructions_in_order = c.program.invariant.instructions_in_order;
      apart = subst (λ l. AreApart l p.instructions.list) (sym list)
          (declared_apart p.declarations.list p.instructions.list c.args.declared c.program.invariant.apart place.done);
      cases = c.program.invariant.cases;
    }
