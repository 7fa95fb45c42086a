use Rattle.std.proofs.lemmas.Result.{err_from_is_err_and}
use Rattle.std.proofs.Common.{◌++◌, ◌∷◌, [], length, ap, sym, subst, ◌∙◌, arith, append_assoc, length-append}
use Rattle.word_base.specs.Rules.{IsSound}
use Rattle.binding_map.specs.Lines.{shown}
use Rattle.binding_map.specs.Texts.{said, said_in, Breaks}
use Rattle.binding_map.proofs.TextRules.{map_length, taken, none_left, adds_on, halts_on}
use Rattle.binding_map.proofs.text.from_text.Goals as goal

pub bind-requires : goal.bind-requires
bind-requires c = omega (arith, c.loop-rest.invariant.few, ap length c.loop-rest.invariant.map, map_length c.loop-rest.invariant.done, c.loop-rest.invariant.line)

pub loop-rest-preserved : goal.loop-rest-preserved
loop-rest-preserved c =
    let inv = c.loop-rest.invariant in
    let all = taken c.args.bytes.now c.loop-rest.rest.now c.first_line.result.0.now c.first_line.result.1.now inv.done inv.all c.first_line.ensures.lines in
    let on =
    adds_on inv.done (said c.first_line.result.0.now) (shown c.read_line.result) c.loop-rest.bindings c.bind.new.bindings c.loop-rest.line
    c.read_line.ensures inv.line inv.map inv.sound c.in_ok-bind.ensures.ok in
    record {
      done = inv.done ++ said c.first_line.result.0.now ∷ [];
      all = all ∙ sym (append_assoc inv.done (said c.first_line.result.0.now ∷ []) (said_in c.first_line.result.1.now));
      line = omega (arith, inv.line, length-append inv.done (said c.first_line.result.0.now ∷ []));
      map = on.0;
      sound = on.1;
      few = omega (arith, inv.few, c.first_line.ensures.shorter);
    }

pub returns-in_err-bind-clause-halted : goal.returns-in_err-bind-clause-halted
returns-in_err-bind-clause-halted c =
    let inv = c.loop-rest.invariant in
    let all = taken c.args.bytes.now c.loop-rest.rest.now c.first_line.result.0.now c.first_line.result.1.now inv.done inv.all c.first_line.ensures.lines in
    let p = err_from_is_err_and c.from_residual.result c.from_residual.ensures.1 in
    rw (p.1, p.2)
    (halts_on (said_in c.args.bytes.now) inv.done (said_in c.first_line.result.1.now) (said c.first_line.result.0.now) (shown c.read_line.result)
    c.loop-rest.bindings c.loop-rest.line c.in_err-bind.field-0.0 all c.read_line.ensures inv.line inv.map inv.sound c.in_err-bind.ensures.halted)

pub returns-clause-sound : goal.returns-clause-sound
returns-clause-sound c = subst (λ l. IsSound (Breaks l)) (sym (none_left c.args.bytes.now c.loop-rest.rest.now c.loop-rest.invariant.done c.is_empty.result c.loop-rest.invariant.all c.is_empty.ensures c.loop-rest-test.false)) c.loop-rest.invariant.sound
