use Rattle.compiler_cli.proofs.translating.map_for.Goals as goal

pub returns-in-Text-clause-sound : goal.returns-in-Text-clause-sound
returns-in-Text-clause-sound c = rw c.in-Text.is c.map_by_text.ensures.sound

pub returns-in-Text-clause-hindered : goal.returns-in-Text-clause-hindered
returns-in-Text-clause-hindered c = rw c.in-Text.is c.map_by_text.ensures.hindered
