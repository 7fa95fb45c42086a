use Rattle.spirv_flow.proofs.Emits.{growth_of, break_did}
use Rattle.spirv_flow.proofs.statements.emit_break.Goals as goal

pub returns : goal.returns
returns c =
    let e = c.emit_laws.ensures in
    let laws = growth_of e.on e.back e.takes e.takes_row in
    let o = c.open_away-away in
    break_did laws c.args.emitter.now o.new.emitter c.branch-emitter.new.self c.close_away.new.emitter c.args.around c.args.mark c.in-Some.label
    o.result.next o.result.merge c.in-Some.is c.requires o.ensures.opens o.ensures.words o.ensures.ids c.branch-emitter.ensures.ends
    c.branch-emitter.ensures.words c.branch-emitter.ensures.ids c.close_away.ensures.closes c.close_away.ensures.begun c.close_away.ensures.words
    c.close_away.ensures.ids
