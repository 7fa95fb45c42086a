use Rattle.spirv_symbols.proofs.RoomFacts.{slots}
use Rattle.spirv_symbols.proofs.laws.room_laws.Goals as goal

pub returns-clause-slot : goal.returns-clause-slot
returns-clause-slot x = λ c kind t cs body slot x r b h. slots c kind t cs body slot x r b h
