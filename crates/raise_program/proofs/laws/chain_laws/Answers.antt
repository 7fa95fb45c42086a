use Rattle.raise_program.proofs.Chained.{move_chained, left_chained, renewed_chained, switch_chained}
use Rattle.raise_program.proofs.Frames.{stood}
use Rattle.shader_check.specs.Statements.{Switch}
use Rattle.raise_program.proofs.laws.chain_laws.Goals as goal

pub returns-clause-moves : goal.returns-clause-moves
returns-clause-moves c = move_chained

pub returns-clause-breaks : goal.returns-clause-breaks
returns-clause-breaks c = left_chained

pub returns-clause-continues : goal.returns-clause-continues
returns-clause-continues c = λ parts last frames s y h. let r = renewed_chained parts last frames s y h in (r.body, r.k, r.found, r.anew)

pub returns-clause-switches : goal.returns-clause-switches
returns-clause-switches c = λ parts last w code frames opening body end u h.
    switch_chained parts last code u w frames opening body end (stood code frames (Switch opening body end) h)
