use Rattle.std.proofs.Common.{sym, ap, subst}
use Rattle.tpf_program.specs.Program.{IsBehind}
use Rattle.tpf_program.proofs.reader.add_constants.Goals as goal

pub add_declaration-requires-clause-place : goal.add_declaration-requires-clause-place
add_declaration-requires-clause-place c =
    let place = subst (λ s. IsBehind s c.args.at) (sym (ap (λ k. k.shader) c.program.view_is)) c.requires.place in
    record { declared = place.declared; done = place.done; behind = place.behind; inside = place.inside }
