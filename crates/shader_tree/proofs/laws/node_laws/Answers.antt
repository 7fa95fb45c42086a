use Rattle.shader_tree.proofs.ExtendLemmas.{extends, extends_itself, extends_on, makes_on, makes_after}
use Rattle.shader_tree.proofs.TermLemmas.{stands}
use Rattle.shader_tree.proofs.laws.node_laws.Goals as goal

pub returns-clause-stands : goal.returns-clause-stands
returns-clause-stands c = stands

pub returns-clause-extends : goal.returns-clause-extends
returns-clause-extends c = extends

pub returns-clause-itself : goal.returns-clause-itself
returns-clause-itself c = extends_itself

pub returns-clause-on : goal.returns-clause-on
returns-clause-on c = extends_on

pub returns-clause-makes_on : goal.returns-clause-makes_on
returns-clause-makes_on c = makes_on

pub returns-clause-makes_after : goal.returns-clause-makes_after
returns-clause-makes_after c = makes_after
