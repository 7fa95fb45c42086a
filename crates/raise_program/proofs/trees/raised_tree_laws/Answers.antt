use Rattle.raise_program.proofs.Instructions.{Laws}
use Rattle.raise_program.proofs.WholeTree.{tree_of}
use Rattle.raise_program.proofs.trees.raised_tree_laws.Goals as goal

pub returns : goal.returns
returns c p tokens bindings nested checked sound =
    let laws : Laws = record {
      in_program = c.program_laws.ensures.in_program;
      raisable = c.raisable_laws.ensures.statement;
      scalar = c.raisable_laws.ensures.scalar;
      guardable = c.guardable_laws.ensures;
      raises = c.raised_laws.ensures.statement;
      raises_scalar = c.raised_laws.ensures.scalar;
      guards = c.guarded_laws.ensures;
      costs = c.operand_cost_laws.ensures;
      bounds = c.bound_laws.ensures;
      guarded_bounds = c.guarded_bound_laws.ensures;
      declared = c.checked_laws.ensures.declared;
      changed = c.quiet_laws.ensures.changed;
      shown = c.quiet_laws.ensures.shown;
    } in
    tree_of laws p tokens checked sound bindings nested
