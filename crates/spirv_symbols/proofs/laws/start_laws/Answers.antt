use Rattle.spirv_symbols.proofs.StartsWhole.{starts}
use Rattle.spirv_symbols.proofs.laws.start_laws.Goals as goal

pub returns : goal.returns
returns x = λ c kind t cs body bound places setting r b p. starts c kind t cs r body b places setting bound p
