use Rattle.std.proofs.Common.{◌≡◌, ◌++◌, ◌∷◌, [], length, sym, ap, ◌∙◌, subst, arith, length-append}
use Rattle.tpf_program.specs.KeptCases.{AreCases, IsOfRoom}
use Rattle.tpf_program.specs.Program.{AreApart, AreInOrder, IsBehind}
use Rattle.tpf_program.proofs.Ordered.{done_apart, in_order_more}
use Rattle.tpf_program.proofs.reader.add_instruction.Goals as goal

pub invariant_of-program : goal.invariant_of-program
invariant_of-program c =
    let p = c.program.inside in
    let list : c.push.new.self.list ≡ p.instructions.list ++ c.args.instruction ∷ [] = c.push.ensures.list in
    let now = ap (λ k. k.shader) c.program.view_is in
    let place = subst (λ s. IsBehind s c.args.instruction.place) (sym now) c.requires.place in
    record {
      constants_room = c.program.invariant.constants_room;
      instructions_room = c.push.ensures.capacity ∙ c.program.invariant.instructions_room;
      cases_room = subst (λ n. IsOfRoom n c.add.new.self) c.program.invariant.instructions_room c.add.ensures.room;
      few_instructions = omega (arith, ap length list, length-append p.instructions.list (c.args.instruction ∷ []), ap (λ s. length s.instructions) now, c.requires.few);
      declarations_in_order = c.program.invariant.declarations_in_order;
      instructions_in_order = subst (λ l. AreInOrder (λ i. i.place) p.words l) (sym list)
          (in_order_more (λ i. i.place) p.words p.instructions.list c.args.instruction c.program.invariant.instructions_in_order place.done place.behind place.inside);
      apart = subst (λ l. AreApart p.declarations.list l) (sym list)
          (done_apart p.declarations.list p.instructions.list c.args.instruction c.program.invariant.apart place.declared);
      cases = subst (λ l. AreCases l c.add.new.self) (sym list) c.add.ensures.stands;
    }
