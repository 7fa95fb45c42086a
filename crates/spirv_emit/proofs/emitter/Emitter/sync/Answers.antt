use Rattle.std.proofs.Common.{ℕ, [], ◌∷◌, subst, sym}
use Rattle.std.specs.Prelude.{Bool, if◌then◌else◌}
use Rattle.shader_tree.specs.Shape.{Waits, Fences}
use Rattle.spirv_words.specs.Values.{Word as AWord}
use Rattle.spirv_emit.specs.Joins.{always}
use Rattle.spirv_emit.specs.Blocks.{Meets, Syncs}
use Rattle.spirv_emit.specs.Values.{Gives, a_word}
use Rattle.spirv_emit.proofs.Fences.{barrier_meets, fence_meets}
use Rattle.spirv_emit.proofs.emitter.Emitter.sync.Goals as goal

pub returns-then-threads-clause-meets : goal.returns-then-threads-clause-meets
returns-then-threads-clause-meets c =
    let a = c.args.self.now in let p = c.constant-group in let q = c.constant-scope in let r = c.constant-semantics in
    subst (λ (b : Bool). Meets a c.act.new.self (if b then Waits else Fences) (Syncs b c.args.order c.args.classes)) (sym c.if-threads.true)
    (barrier_meets a p.new.self q.new.self r.new.self c.act.new.self p.result q.result r.result c.args.order c.args.classes p.ensures.gives
    (subst (λ (n : ℕ). Gives p.new.self q.new.self [] (a_word q.result ∷ []) (always (AWord n))) c.scope_number.ensures q.ensures.gives)
    (subst (λ (n : ℕ). Gives q.new.self r.new.self [] (a_word r.result ∷ []) (always (AWord n))) c.semantics_number.ensures r.ensures.gives)
    c.act.ensures.acts)

pub returns-else-threads-clause-meets : goal.returns-else-threads-clause-meets
returns-else-threads-clause-meets c =
    let a = c.args.self.now in let q = c.constant-scope-else-threads in let r = c.constant-semantics-else-threads in let k = c.act-else-threads in
    subst (λ (b : Bool). Meets a k.new.self (if b then Waits else Fences) (Syncs b c.args.order c.args.classes)) (sym c.if-threads.false)
    (fence_meets a q.new.self r.new.self k.new.self q.result r.result c.args.order c.args.classes
    (subst (λ (n : ℕ). Gives a q.new.self [] (a_word q.result ∷ []) (always (AWord n))) c.scope_number-else-threads.ensures q.ensures.gives)
    (subst (λ (n : ℕ). Gives q.new.self r.new.self [] (a_word r.result ∷ []) (always (AWord n))) c.semantics_number-else-threads.ensures
    r.ensures.gives) k.ensures.acts)
