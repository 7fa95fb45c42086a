use Rattle.raise_views.proofs.laws.guardable_laws.Goals as goal

pub returns : goal.returns
returns c p tokens h k i at guards = record { guards = guards; there = c.program_laws.ensures.in_program p tokens h k i at }
