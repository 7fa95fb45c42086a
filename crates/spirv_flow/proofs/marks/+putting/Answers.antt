use Rattle.shader_tree.specs.declared.node.Stmt.TheVariants as stmt
use Rattle.shader_tree.specs.Terms.{term_at}
use Rattle.spirv_flow.specs.Marks.{Puts}
use Rattle.spirv_flow.proofs.Marked.{then_puts}
use Rattle.spirv_flow.proofs.Standing.{stand, by_node}
use Rattle.spirv_flow.proofs.marks.+putting.Goals as goal

pub put_first-returns-in-Then : goal.put_first-returns-in-Then
put_first-returns-in-Then t c =
    let ns = c.args.tree.now.nodes in
    let s = stmt.Then c.in-Then.first c.in-Then.next in
    let st = stand ns c.args.from.id _ s c.stmt_at.ensures c.in-Then.is in
    let p = c.put_cases-mark in (
      record {
        statement = st.names.2.1;
        puts = by_node ns c.args.from.id s (λ x. Puts c.args.emitter.now p.new.emitter c.args.from.mark p.result x (term_at ns c.in-Then.next)) st
            (then_puts c.args.emitter.now p.new.emitter c.args.from.mark p.result (term_at ns c.in-Then.first) (term_at ns c.in-Then.next)
            p.ensures.puts p.ensures.next);
      },
      st.names.2.0,
    )
