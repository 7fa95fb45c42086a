use Rattle.std.proofs.Common.{◌+◌, sym, subst, arith}
use Rattle.shader_tree.specs.declared.node.Stmt.TheVariants as stmt
use Rattle.shader_tree.specs.Terms.{term_at, Then}
use Rattle.spirv_flow.specs.Emitting.{MayEmit, Leads}
use Rattle.spirv_flow.proofs.Emits.{growth_of, truth_type, word_type, guard_part, guard_did, first_part, second_part, choice_did, loop_part, loop_did, switch_part, switch_did, then_part, then_leads, case_leads, default_leads}
use Rattle.spirv_flow.proofs.Fits.{guard_fit, choice_fit, switch_fit}
use Rattle.spirv_flow.proofs.Marked.{paid_words, paid_ids}
use Rattle.spirv_flow.proofs.Standing.{stand, by_node, to_node}
use Rattle.spirv_flow.proofs.emit.+emitting.Goals as goal

-- A GUARD.
pub emit_guard-open_guard-merge-requires-clause-names : goal.emit_guard-open_guard-merge-requires-clause-names
emit_guard-open_guard-merge-requires-clause-names t c =
    let ns = c.args.tree.now.nodes in
    (guard_fit c.args.emitter.now (term_at ns c.args.truth) (term_at ns c.args.body.id) c.requires.may.fit).0.names

pub emit_guard-emit-requires : goal.emit_guard-emit-requires
emit_guard-emit-requires t c =
    let ns = c.args.tree.now.nodes in
    let e = c.emit_laws.ensures in
    let o = c.open_guard-merge in (
      omega (arith, c.decreases),
      (
        c.requires.body,
        guard_part (growth_of e.on e.back e.takes e.takes_row) c.args.emitter.now o.new.emitter c.args.around c.args.body.mark
            (term_at ns c.args.truth) (term_at ns c.args.body.id) o.result c.requires.may o.ensures.opens o.ensures.begun o.ensures.words
            o.ensures.ids,
      ),
    )

pub emit_guard-returns : goal.emit_guard-returns
emit_guard-returns t c =
    let ns = c.args.tree.now.nodes in
    let e = c.emit_laws.ensures in
    let o = c.open_guard-merge in
    let k = c.close in
    guard_did (growth_of e.on e.back e.takes e.takes_row) c.args.emitter.now o.new.emitter c.emit.new.emitter k.new.emitter c.args.around
    c.args.body.mark (term_at ns c.args.truth) (term_at ns c.args.body.id) o.result (truth_type ns c.args.truth c.requires.truth) c.requires.may
    o.ensures.opens o.ensures.words o.ensures.ids c.emit.ensures.did k.ensures.closes k.ensures.begun k.ensures.words k.ensures.ids

-- A CHOICE.
pub emit_choice-open_choice-choice-requires-clause-names : goal.emit_choice-open_choice-choice-requires-clause-names
emit_choice-open_choice-choice-requires-clause-names t c =
    let ns = c.args.tree.now.nodes in
    (choice_fit c.args.emitter.now (term_at ns c.args.truth) (term_at ns c.args.yes.id) (term_at ns c.args.no) c.requires.may.fit).0.names

pub emit_choice-emit-requires : goal.emit_choice-emit-requires
emit_choice-emit-requires t c =
    let ns = c.args.tree.now.nodes in
    let e = c.emit_laws.ensures in
    let o = c.open_choice-choice in (
      omega (arith, c.decreases),
      (
        c.requires.yes,
        first_part (growth_of e.on e.back e.takes e.takes_row) c.args.emitter.now o.new.emitter c.args.around c.args.yes.mark
            (term_at ns c.args.truth) (term_at ns c.args.yes.id) (term_at ns c.args.no) o.result.second o.result.merge c.requires.may
            o.ensures.opens o.ensures.begun o.ensures.words o.ensures.ids,
      ),
    )

pub emit_choice-emit-requires-2 : goal.emit_choice-emit-requires-2
emit_choice-emit-requires-2 t c =
    let ns = c.args.tree.now.nodes in
    let e = c.emit_laws.ensures in
    let o = c.open_choice-choice in
    let k = c.close in (
      omega (arith, c.decreases),
      (
        c.requires.no,
        second_part (growth_of e.on e.back e.takes e.takes_row) c.args.emitter.now o.new.emitter c.emit.new.emitter k.new.emitter c.args.around
            c.args.yes.mark
            (term_at ns c.args.truth) (term_at ns c.args.yes.id) (term_at ns c.args.no) o.result.second o.result.merge c.requires.may
            o.ensures.opens o.ensures.words o.ensures.ids c.emit.ensures.did k.ensures.closes k.ensures.begun k.ensures.words k.ensures.ids,
      ),
    )

pub emit_choice-returns : goal.emit_choice-returns
emit_choice-returns t c =
    let ns = c.args.tree.now.nodes in
    let e = c.emit_laws.ensures in
    let o = c.open_choice-choice in
    let k = c.close in
    let j = c.close-2 in
    choice_did (growth_of e.on e.back e.takes e.takes_row) c.args.emitter.now o.new.emitter c.emit.new.emitter k.new.emitter c.emit-2.new.emitter
    j.new.emitter c.args.around c.args.yes.mark (term_at ns c.args.truth) (term_at ns c.args.yes.id) (term_at ns c.args.no) o.result.second
    o.result.merge (truth_type ns c.args.truth c.requires.truth) c.requires.may
    o.ensures.opens o.ensures.words o.ensures.ids c.emit.ensures.did k.ensures.closes k.ensures.words k.ensures.ids c.emit-2.ensures.did
    j.ensures.closes j.ensures.begun j.ensures.words j.ensures.ids

-- A LOOP.
pub emit_loop-emit-requires : goal.emit_loop-emit-requires
emit_loop-emit-requires t c =
    let ns = c.args.tree.now.nodes in
    let e = c.emit_laws.ensures in
    let o = c.open_loop-turns in (
      omega (arith, c.decreases),
      (
        c.requires.body,
        loop_part (growth_of e.on e.back e.takes e.takes_row) c.args.emitter.now o.new.emitter c.args.around c.args.body.mark
            (term_at ns c.args.body.id) o.result.header o.result.next o.result.merge c.requires.may o.ensures.opens o.ensures.begun
            o.ensures.words o.ensures.ids,
      ),
    )

pub emit_loop-returns : goal.emit_loop-returns
emit_loop-returns t c =
    let ns = c.args.tree.now.nodes in
    let e = c.emit_laws.ensures in
    let o = c.open_loop-turns in
    let k = c.close_loop in
    loop_did (growth_of e.on e.back e.takes e.takes_row) c.args.emitter.now o.new.emitter c.emit.new.emitter k.new.emitter c.args.around
    c.args.body.mark (term_at ns c.args.body.id) o.result.header o.result.next o.result.merge c.requires.may
    o.ensures.opens o.ensures.words o.ensures.ids c.emit.ensures.did k.ensures.closes k.ensures.begun k.ensures.words k.ensures.ids

-- A SWITCH.
pub emit_switch-open_switch-labels-requires-clause-names : goal.emit_switch-open_switch-labels-requires-clause-names
emit_switch-open_switch-labels-requires-clause-names t c =
    let ns = c.args.tree.now.nodes in
    (switch_fit c.args.emitter.now (term_at ns c.args.on) (term_at ns c.args.cases) c.requires.may.fit).0.names

pub emit_switch-open_switch-labels-requires-clause-words : goal.emit_switch-open_switch-labels-requires-clause-words
emit_switch-open_switch-labels-requires-clause-words t c =
    let p = paid_words (term_at c.args.tree.now.nodes c.args.cases) in let w = c.requires.may.words in omega (arith, p, w)

pub emit_switch-open_switch-labels-requires-clause-ids : goal.emit_switch-open_switch-labels-requires-clause-ids
emit_switch-open_switch-labels-requires-clause-ids t c =
    let p = paid_ids (term_at c.args.tree.now.nodes c.args.cases) in let i = c.requires.may.ids in omega (arith, p, i)

pub emit_switch-emit-requires : goal.emit_switch-emit-requires
emit_switch-emit-requires t c =
    let ns = c.args.tree.now.nodes in
    let e = c.emit_laws.ensures in
    let o = c.open_switch-labels in (
      omega (arith, c.decreases),
      (
        c.requires.cases,
        switch_part (growth_of e.on e.back e.takes e.takes_row) c.args.emitter.now o.new.emitter c.args.around c.args.mark
            (term_at ns c.args.on) (term_at ns c.args.cases) o.result.merge o.result.first c.requires.may o.ensures.opens o.ensures.short
            o.ensures.begun o.ensures.words o.ensures.ids,
      ),
    )

pub emit_switch-returns : goal.emit_switch-returns
emit_switch-returns t c =
    let ns = c.args.tree.now.nodes in
    let e = c.emit_laws.ensures in
    let o = c.open_switch-labels in
    let k = c.close in
    switch_did (growth_of e.on e.back e.takes e.takes_row) c.args.emitter.now o.new.emitter c.emit.new.emitter k.new.emitter c.args.around
    c.args.mark (term_at ns c.args.on) (term_at ns c.args.cases) o.result.merge o.result.first (word_type ns c.args.on c.requires.on)
    c.requires.may
    o.ensures.opens o.ensures.words o.ensures.ids c.emit.ensures.did k.ensures.closes k.ensures.begun k.ensures.words k.ensures.ids

-- CHAINS.
pub emit_first-emit-mark-requires : goal.emit_first-emit-mark-requires
emit_first-emit-mark-requires t c =
    let ns = c.args.tree.now.nodes in
    let e = c.emit_laws.ensures in
    let s = stmt.Then c.in-Then.first c.in-Then.next in
    let st = stand ns c.args.from.id _ s c.stmt_at.ensures c.in-Then.is in (
      omega (arith, st.names.0, c.decreases),
      (
        st.names.1,
        then_part (growth_of e.on e.back e.takes e.takes_row) c.args.emitter.now c.args.around c.args.from.mark (term_at ns c.in-Then.first) (term_at ns c.in-Then.next)
            (to_node ns c.args.from.id s (λ x. MayEmit c.args.emitter.now c.args.around c.args.from.mark x) st c.requires.may),
      ),
    )

pub emit_first-close-requires-clause-words : goal.emit_first-close-requires-clause-words
emit_first-close-requires-clause-words t c =
    let ns = c.args.tree.now.nodes in
    let s = stmt.Case c.in-Case.value c.in-Case.next in
    let st = stand ns c.args.from.id _ s c.stmt_at.ensures c.in-Case.is in
    let may = to_node ns c.args.from.id s (λ x. MayEmit c.args.emitter.now c.args.around c.args.from.mark x) st c.requires.may in
    let p = paid_words (term_at ns c.in-Case.next) in let w = may.words in omega (arith, p, w)

pub emit_first-close-requires-in-Default-clause-words : goal.emit_first-close-requires-in-Default-clause-words
emit_first-close-requires-in-Default-clause-words t c =
    let ns = c.args.tree.now.nodes in
    let s = stmt.Default c.in-Default.next in
    let st = stand ns c.args.from.id _ s c.stmt_at.ensures c.in-Default.is in
    let may = to_node ns c.args.from.id s (λ x. MayEmit c.args.emitter.now c.args.around c.args.from.mark x) st c.requires.may in
    let p = paid_words (term_at ns c.in-Default.next) in let w = may.words in omega (arith, p, w)

pub emit_first-returns-in-Then : goal.emit_first-returns-in-Then
emit_first-returns-in-Then t c =
    let ns = c.args.tree.now.nodes in
    let e = c.emit_laws.ensures in
    let s = stmt.Then c.in-Then.first c.in-Then.next in
    let st = stand ns c.args.from.id _ s c.stmt_at.ensures c.in-Then.is in
    let d = c.emit-mark in
    let a = c.args.emitter.now in
    let mark = c.args.from.mark in
    let may = to_node ns c.args.from.id s (λ x. MayEmit a c.args.around mark x) st c.requires.may in (
      record {
        statement = st.names.2.1;
        leads = by_node ns c.args.from.id s (λ x. Leads a d.new.emitter c.args.around mark d.result x (term_at ns c.in-Then.next)) st
            (subst (λ k. Leads a d.new.emitter c.args.around mark k (Then (term_at ns c.in-Then.first) (term_at ns c.in-Then.next)) (term_at ns c.in-Then.next))
            (sym d.ensures.next)
            (then_leads (growth_of e.on e.back e.takes e.takes_row) a d.new.emitter c.args.around mark (term_at ns c.in-Then.first)
            (term_at ns c.in-Then.next) may d.ensures.did));
      },
      st.names.2.0,
    )

pub emit_first-returns-in-Case : goal.emit_first-returns-in-Case
emit_first-returns-in-Case t c =
    let ns = c.args.tree.now.nodes in
    let e = c.emit_laws.ensures in
    let s = stmt.Case c.in-Case.value c.in-Case.next in
    let st = stand ns c.args.from.id _ s c.stmt_at.ensures c.in-Case.is in
    let k = c.close in
    let a = c.args.emitter.now in
    let mark = c.args.from.mark in
    let may = to_node ns c.args.from.id s (λ x. MayEmit a c.args.around mark x) st c.requires.may in (
      record {
        statement = st.names.1;
        leads = by_node ns c.args.from.id s (λ x. Leads a k.new.emitter c.args.around mark (mark + 1) x (term_at ns c.in-Case.next)) st
            (case_leads (growth_of e.on e.back e.takes e.takes_row) a k.new.emitter c.args.around mark c.in-Case.value
            (term_at ns c.in-Case.next) may k.ensures.closes k.ensures.begun k.ensures.words k.ensures.ids);
      },
      st.names.0,
    )

pub emit_first-returns-in-Default : goal.emit_first-returns-in-Default
emit_first-returns-in-Default t c =
    let ns = c.args.tree.now.nodes in
    let e = c.emit_laws.ensures in
    let s = stmt.Default c.in-Default.next in
    let st = stand ns c.args.from.id _ s c.stmt_at.ensures c.in-Default.is in
    let k = c.close-in-Default in
    let a = c.args.emitter.now in
    let mark = c.args.from.mark in
    let may = to_node ns c.args.from.id s (λ x. MayEmit a c.args.around mark x) st c.requires.may in (
      record {
        statement = st.names.1;
        leads = by_node ns c.args.from.id s (λ x. Leads a k.new.emitter c.args.around mark (mark + 1) x (term_at ns c.in-Default.next)) st
            (default_leads (growth_of e.on e.back e.takes e.takes_row) a k.new.emitter c.args.around mark
            (term_at ns c.in-Default.next) may k.ensures.closes k.ensures.begun k.ensures.words k.ensures.ids);
      },
      st.names.0,
    )
