use Rattle.raise_operands.proofs.Affording.{affords_all}
use Rattle.raise_operands.proofs.Plain.{plain_all, plain_scalar}
use Rattle.raise_operands.proofs.Raised.{performs_all, scalar_gives}
use Rattle.raise_operands.proofs.laws.raised_laws.Goals as goal

pub returns-clause-statement : goal.returns-clause-statement
returns-clause-statement c p i h = record {
  performs = performs_all p i h;
  plain = plain_all p i h.names;
  affords = affords_all p i h.computes h.long;
}

pub returns-clause-scalar : goal.returns-clause-scalar
returns-clause-scalar c p i h =
    let l = plain_scalar p i h.names in
    record { gives = scalar_gives p i h; front' = l.0; word' = l.1 }
