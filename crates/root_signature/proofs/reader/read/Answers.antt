use Rattle.std.proofs.Common.{subst}
use Rattle.root_signature.specs.Parts.{AreParts}
use Rattle.root_signature.proofs.Signing.{signed}
use Rattle.root_signature.proofs.reader.read.Goals as goal

pub invariant_of-result : goal.invariant_of-result
invariant_of-result c =
    (signed c.args.content.now c.in-Ok-default-None.entries.items c.byte_laws.ensures.bytes
    (subst (AreParts c.args.content.now c.in-Ok-default-None.entries.items) c.in-Ok-default-None.field-0-1-is c.in-Ok-default-None.ensures)).0

pub returns-in-Ok-default-None-clause-read : goal.returns-in-Ok-default-None-clause-read
returns-in-Ok-default-None-clause-read c =
    (signed c.args.content.now c.in-Ok-default-None.entries.items c.byte_laws.ensures.bytes
    (subst (AreParts c.args.content.now c.in-Ok-default-None.entries.items) c.in-Ok-default-None.field-0-1-is c.in-Ok-default-None.ensures)).1
