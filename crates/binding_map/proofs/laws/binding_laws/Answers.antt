use Rattle.binding_map.proofs.DefaultBound.{default_bound}
use Rattle.binding_map.proofs.Single.{found, listed, missing, room_found, slot_found, push_found}
use Rattle.binding_map.proofs.laws.binding_laws.Goals as goal

pub returns-clause-looks_up : goal.returns-clause-looks_up
returns-clause-looks_up c bindings = record { found = found bindings; missing = missing bindings }

pub returns-clause-finds_each : goal.returns-clause-finds_each
returns-clause-finds_each c bindings m = record {
  registers = λ i b. listed bindings i b m;
  rooms = λ i b p. room_found bindings i b p m;
  slots = λ i b p. slot_found bindings i b p m;
  pushes = λ i b p w. push_found bindings i b p w m;
}

pub returns-clause-default_bound : goal.returns-clause-default_bound
returns-clause-default_bound c = default_bound
