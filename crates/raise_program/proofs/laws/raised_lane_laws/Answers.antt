use Rattle.raise_program.proofs.RaisedLanes.{Laws, same, turns}
use Rattle.raise_program.proofs.laws.raised_lane_laws.Goals as goal

pub returns : goal.returns
returns c =
    let laws : Laws = record {
      in_program = c.program_laws.ensures;
      raisable = c.raisable_laws.ensures.statement;
      scalar = c.raisable_laws.ensures.scalar;
      guardable = c.guardable_laws.ensures;
      raises = c.raised_laws.ensures.statement;
      raises_scalar = c.raised_laws.ensures.scalar;
      guards = c.guarded_laws.ensures;
      declared = c.checked_laws.ensures.declared;
      registers = c.bytecode_laws.ensures.registers;
    } in
    record {
      same = λ p tokens bindings nested setting h s f. same laws p tokens bindings h s nested setting f;
      turns = λ p tokens bindings nested setting h s f. turns laws p tokens bindings h s nested setting f;
    }
