use Rattle.raise_program.proofs.Places.{get_at}
use Rattle.raise_program.proofs.Around.{filled_flat, close_of}
use Rattle.raise_program.proofs.Frames.{stood, stands, renews, leaves, turns, skips}
use Rattle.raise_program.proofs.Labels.{else_none, else_found, label_found}
use Rattle.shader_check.specs.Statements.{If, IfElse, Loop, Switch, flattened}
use Rattle.raise_program.specs.Spots.{place_in, where_in}
use Rattle.raise_program.proofs.laws.leap_laws.Goals as goal

pub returns-clause-flat : goal.returns-clause-flat
returns-clause-flat c = filled_flat

pub returns-clause-sound : goal.returns-clause-sound
returns-clause-sound c = λ code frames s h. (stands code frames s (stood code frames s h)).sound

pub returns-clause-reads : goal.returns-clause-reads
returns-clause-reads c = λ code frames s h k i e. get_at code (place_in frames) (flattened s) k i (stands code frames s (stood code frames s h)).here
    e

pub returns-clause-closes : goal.returns-clause-closes
returns-clause-closes c = λ code frames s h o e.
    let k = stands code frames s (stood code frames s h) in close_of code (where_in frames) (place_in frames) s o k.sound k.here e

pub returns-clause-if_goes : goal.returns-clause-if_goes
returns-clause-if_goes c = λ code frames opening body end h. else_none code frames opening body end (stood code frames (If opening body end) h)

pub returns-clause-choice_goes : goal.returns-clause-choice_goes
returns-clause-choice_goes c = λ code frames opening body middle other end h.
    else_found code frames opening body middle other end (stood code frames (IfElse opening body middle other end) h)

pub returns-clause-else_goes : goal.returns-clause-else_goes
returns-clause-else_goes c = λ code frames opening body middle other end h.
    skips code frames opening body middle other end (stood code frames (IfElse opening body middle other end) h)

pub returns-clause-switch_goes : goal.returns-clause-switch_goes
returns-clause-switch_goes c = λ code frames opening body end h w. label_found code frames opening body end
    (stood code frames (Switch opening body end) h) w

pub returns-clause-loop_goes : goal.returns-clause-loop_goes
returns-clause-loop_goes c = λ code frames opening body end h. turns code frames opening body end (stood code frames (Loop opening body end) h)

pub returns-clause-continue_goes : goal.returns-clause-continue_goes
returns-clause-continue_goes c = λ code frames s h. renews code frames s (stood code frames s h)

pub returns-clause-break_goes : goal.returns-clause-break_goes
returns-clause-break_goes c = λ code frames s h. leaves code frames s (stood code frames s h)
