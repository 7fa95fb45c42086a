use Rattle.text_lines.proofs.Read.{first_of_lines, joined_in_front, joined_lines, last_of_lines}
use Rattle.text_lines.proofs.laws.line_laws.Goals as goal

pub returns-clause-joined : goal.returns-clause-joined
returns-clause-joined c = joined_lines

pub returns-clause-in_front : goal.returns-clause-in_front
returns-clause-in_front c = joined_in_front

pub returns-clause-first : goal.returns-clause-first
returns-clause-first c = first_of_lines

pub returns-clause-last : goal.returns-clause-last
returns-clause-last c = last_of_lines
