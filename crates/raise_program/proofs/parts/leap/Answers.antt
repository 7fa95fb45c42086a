use Rattle.std.proofs.Common.{ap}
use Rattle.shader_tree.specs.Terms.{Term, Then, Guard}
use Rattle.raise_operands.specs.Raising.{scalar_front}
use Rattle.raise_program.specs.Parts.{truth_of}
use Rattle.raise_program.proofs.Grown.{fits_bare}
use Rattle.raise_program.proofs.Kept.{node_itself}
use Rattle.raise_program.proofs.parts.leap.Goals as goal

pub stmt-body-requires-clause-fits : goal.stmt-body-requires-clause-fits
stmt-body-requires-clause-fits c = fits_bare c.args.tree.now.nodes c.args.leap c.requires.bare

pub guard-requires-clause-body : goal.guard-requires-clause-body
guard-requires-clause-body c = node_itself _ _ _ _ c.stmt-body.ensures.makes

pub returns-clause-makes : goal.returns-clause-makes
returns-clause-makes c =
    let p = c.args.program.now.shader in
    let i = c.args.at.instruction in
    c.growing_laws.ensures.as_term _ _ _ _ _ c.guard.ensures.makes
    (ap (λ (t : Term). Then (scalar_front p i) (Guard (truth_of p i) t)) c.stmt-body.ensures.makes.term)
