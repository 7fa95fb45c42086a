use Rattle.outside.proofs.Lasting as lasting
use Rattle.outside.proofs.LastBytes as last_bytes
use Rattle.outside.proofs.laws.outside_laws.Goals as goal

pub returns-clause-gained_twice : goal.returns-clause-gained_twice
returns-clause-gained_twice c = lasting.gained_twice

pub returns-clause-last_twice : goal.returns-clause-last_twice
returns-clause-last_twice c = lasting.last_twice

pub returns-clause-gains_twice : goal.returns-clause-gains_twice
returns-clause-gains_twice c = lasting.gains_twice

pub returns-clause-last_gained : goal.returns-clause-last_gained
returns-clause-last_gained c = last_bytes.last_gained

pub returns-clause-last_is_new : goal.returns-clause-last_is_new
returns-clause-last_is_new c = lasting.last_is_new

pub returns-clause-file_added : goal.returns-clause-file_added
returns-clause-file_added c = lasting.file_added
