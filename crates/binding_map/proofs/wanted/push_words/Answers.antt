use Rattle.std.proofs.Common.{sym, ap, ◌∙◌, take}
use Rattle.std.specs.Prelude.{max}
use Rattle.binding_map.specs.Bindings.{binding}
use Rattle.binding_map.specs.Wanted.{push_words}
use Rattle.binding_map.proofs.PushWords.{words_next}
use Rattle.binding_map.proofs.wanted.push_words.Goals as goal

pub loop-i-preserved : goal.loop-i-preserved
loop-i-preserved c =
    let b = binding c.at-register.result.0 c.at-register.result.1 in
    c.greater-next.ensures ∙ ap (λ n. max n c.push_end-end.result) c.loop-i.invariant
    ∙ ap (λ n. max (push_words c.args.program.now.shader (take c.loop-i.i c.args.bindings.now)) n) c.push_end-end.ensures ∙ sym (words_next c.args.program.now.shader c.args.bindings.now c.loop-i.i b c.at-register.ensures)
