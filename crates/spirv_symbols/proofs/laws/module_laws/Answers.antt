use Rattle.spirv_symbols.proofs.StartsWhole.{defines}
use Rattle.spirv_symbols.proofs.ModuleFacts.{sorts, strides, offsets}
use Rattle.spirv_symbols.proofs.laws.module_laws.Goals as goal

pub returns-clause-defines : goal.returns-clause-defines
returns-clause-defines x = λ c kind t cs body r b. defines c kind t cs r body b

pub returns-clause-strides : goal.returns-clause-strides
returns-clause-strides x = λ c kind t cs body s x bytes r b h e. strides c kind t cs body s x r b h bytes e

pub returns-clause-offsets : goal.returns-clause-offsets
returns-clause-offsets x = λ c kind t cs body s x access r b h e. offsets c kind t cs body s x r b h access e

pub returns-clause-sorts : goal.returns-clause-sorts
returns-clause-sorts x = sorts
