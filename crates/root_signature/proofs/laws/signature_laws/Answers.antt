use Rattle.std.proofs.Common.{inr}
use Rattle.root_signature.proofs.Soles.{in_data, one_list}
use Rattle.root_signature.proofs.laws.signature_laws.Goals as goal

pub returns-clause-single : goal.returns-clause-single
returns-clause-single c = one_list

pub returns-clause-inside : goal.returns-clause-inside
returns-clause-inside c = λ bytes start content r sole h. in_data bytes c.container_laws.ensures.sole_holds start content sole r h

pub returns-clause-outside : goal.returns-clause-outside
returns-clause-outside c = λ bytes start content r sole h. inr (record { start = start; content = content; sole = sole; is_broken = h })
