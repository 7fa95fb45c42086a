use Rattle.std.proofs.Common.{refl, subst, sym, None}
use Rattle.std.specs.Prelude.{◌≡◌}
use Rattle.shader_tree.specs.Lane.{with_word}
use Rattle.shader_tree.specs.Terms.{term_at}
use Rattle.spirv_emit.proofs.LaneWrites.{never_alters}
use Rattle.spirv_emit.proofs.emitter.Emitter.write.Goals as goal

pub returns-in-Constant-clause-alters : goal.returns-in-Constant-clause-alters
returns-in-Constant-clause-alters c =
    let ns = c.args.tree.now.nodes in
    never_alters c.args.self.now c.args.space (term_at ns c.args.index) (term_at ns c.args.value)
    (λ r i w. subst (λ s. with_word r s i w ≡ None) (sym c.in-Constant.is) refl)

pub returns-in-ImmediateConstant-clause-alters : goal.returns-in-ImmediateConstant-clause-alters
returns-in-ImmediateConstant-clause-alters c =
    let ns = c.args.tree.now.nodes in
    never_alters c.args.self.now c.args.space (term_at ns c.args.index) (term_at ns c.args.value)
    (λ r i w. subst (λ s. with_word r s i w ≡ None) (sym c.in-ImmediateConstant.is) refl)
