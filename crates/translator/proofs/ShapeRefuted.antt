-- A module whose store is hidden has not the shape of a program.
use Rattle.tpf_decode.specs.Profiles.{Base}
use Rattle.std.proofs.Common.{◌≡◌, [], ◌∷◌, map, sym, ap, ◌∙◌}
use Rattle.word_base.specs.declared.event.Room.TheVariants.{Uav}
use Rattle.shader_tree.specs.Shape.{Stores}
use Rattle.spirv_emit.specs.ModuleShape.{Seen, Hidden}
use Rattle.translator.specs.Shape.{HasShape}
use Rattle.dispatch_machine.specs.RunExamples.{u0_bound}
use Rattle.translator.specs.ShapeExamples.{storing, hiding, of_storing, of_hiding}

pub refuted : HasShape Base storing u0_bound hiding → ⊥
refuted h =
    let e : Hidden ∷ Seen (Stores (Uav 0)) ∷ [] ≡ Seen (Stores (Uav 0)) ∷ [] = sym of_hiding ∙ (h.items ∙ ap (map Seen) of_storing) in
    cc
