use Rattle.text_lines.proofs.Cut.{rest_of}
use Rattle.text_lines.proofs.Read.{first_of_parts, joined_parts, longer_word, no_outer_space, only_part}
use Rattle.text_lines.proofs.laws.part_laws.Goals as goal

pub returns-clause-joined : goal.returns-clause-joined
returns-clause-joined c = joined_parts

pub returns-clause-first : goal.returns-clause-first
returns-clause-first c = first_of_parts

pub returns-clause-only : goal.returns-clause-only
returns-clause-only c = only_part

pub returns-clause-inner : goal.returns-clause-inner
returns-clause-inner c = no_outer_space

pub returns-clause-longer : goal.returns-clause-longer
returns-clause-longer c = longer_word

pub returns-clause-rest : goal.returns-clause-rest
returns-clause-rest c = rest_of
