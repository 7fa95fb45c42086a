use Rattle.std.proofs.Common.{ap, ◌∙◌}
use Rattle.binding_map.specs.Bindings.{place_of}
use Rattle.binding_map.proofs.Lookups.{looked_up}
use Rattle.binding_map.proofs.bindings.Bindings.place_of.Goals as goal

pub returns : goal.returns
returns c =
    c.copied.ensures ∙ (c.get.ensures.value ∙ (looked_up c.args.register c.self.inside.map.entries
    ∙ ap (λ bindings. place_of bindings c.args.register) c.self.view_is))
