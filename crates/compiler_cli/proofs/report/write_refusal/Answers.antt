use Rattle.compiler_cli.proofs.report.write_refusal.Goals as goal

pub returns-clause-bytes : goal.returns-clause-bytes
returns-clause-bytes g c = rw (← c.name.ensures, ← c.text.ensures, ← c.format-place.ensures.text) c.write_parts.ensures.bytes
