use Rattle.shader_tree.specs.Nodes.{AWord}
use Rattle.raise_views.proofs.Growing.{node_on}
use Rattle.raise_views.proofs.parts.store_part.Goals as goal

pub store_of-body-requires-clause-from : goal.store_of-body-requires-clause-from
store_of-body-requires-clause-from c = c.operand_laws.ensures.operand_on _ _ _ _ c.base-word.ensures.grows.extends c.requires.from

pub guarded-requires-clause-word : goal.guarded-requires-clause-word
guarded-requires-clause-word c = node_on _ _ AWord _ _ c.store_of-body.ensures.grows.extends c.base-word.ensures.makes
