use Rattle.std.proofs.Common.{◌≡◌, ◌<◌, ◌+◌, ◌∷◌, Some, Ok, true, sym, ap, ◌∙◌, subst, arith}
use Rattle.std.specs.Prelude.{slice_range}
use Rattle.std.specs.List.{list_all}
use Rattle.std.proofs.lemmas.Result.{err_from_is_err_and}
use Rattle.word_base.specs.Words.{words_of}
use Rattle.word_base.specs.Rules.{first, refusal}
use Rattle.tpf_decode.specs.declared.chain.Extended.TheVariants.{Operand}
use Rattle.tpf_decode.specs.Profiles.{Base}
use Rattle.tpf_decode.specs.Tokens.{follows, kind_of}
use Rattle.tpf_decode.specs.Roles.{may_negate}
use Rattle.tpf_decode.specs.Spelling.{IsChain}
use Rattle.tpf_decode.specs.Refusals.{refusal_of, nothing, is_taken, chain_faults, behind_faults}
use Rattle.tpf_decode.proofs.Ranges.{range_split, range_cons}
use Rattle.tpf_decode.proofs.Order.{by_rule}
use Rattle.tpf_decode.proofs.Chains.{nothing_orderly}
use Rattle.tpf_decode.proofs.Wholes.{behind_orderly, first_in_operand, behind_sound_token, refused_chain, passed_chain, token_spelled}
use Rattle.tpf_decode.proofs.Read.{answer_read, refusal_read}
use Rattle.tpf_decode.proofs.reading.operand.Goals as goal

pub returns-in-Err-clause-refused : goal.returns-in-Err-clause-refused
returns-in-Err-clause-refused c =
    let w = words_of c.args.bytes.now in
    let t = c.word-token.result in
    let l : c.args.at < c.args.end = omega arith in
    ap refusal_of c.refuse-in-Err.ensures
    ∙ sym (first_in_operand Base c.args.code c.args.role nothing w c.args.at c.args.end t nothing_orderly l c.requires.words c.word-token.ensures
    ∙ ap (λ o. by_rule o c.args.at (first (chain_faults (Operand (may_negate Base c.args.code c.args.role)) (follows t) (behind_faults (kind_of t) t nothing) (c.args.at + 1) (slice_range w (c.args.at + 1) c.args.end)))) c.in-Err.ensures.broken)

pub returns-in_err-place-clause-refused : goal.returns-in_err-place-clause-refused
returns-in_err-place-clause-refused c =
    let w = words_of c.args.bytes.now in
    let t = c.word-token.result in
    let k = c.in-Ok.kind in
    let m = may_negate Base c.args.code c.args.role in
    let l : c.args.at < c.args.end = omega arith in
    let p = err_from_is_err_and c.from_residual.result c.from_residual.ensures.1 in
    let r = c.in_err-place.field-0.0 in
    let h : Some r ≡ first (chain_faults (Operand m) (follows t) nothing (c.args.at + 1) (slice_range w (c.args.at + 1) c.args.end)) =
    c.in_err-place.ensures.refused
    ∙ (ap (λ b. first (chain_faults (Operand b) c.is_set.result nothing (c.args.at + 1) (slice_range w (c.args.at + 1) c.args.end))) c.is_negatable.ensures
    ∙ ap (λ b. first (chain_faults (Operand m) b nothing (c.args.at + 1) (slice_range w (c.args.at + 1) c.args.end))) c.is_set.ensures) in
    rw (p.1, p.2)
    (sym (behind_sound_token Base c.args.code c.args.role nothing w c.args.at c.args.end t k nothing_orderly l c.requires.words c.word-token.ensures c.in-Ok.ensures.kind c.in-Ok.ensures.sound
    ∙ refused_chain (Operand m) (follows t) (behind_faults (Some k) t nothing) (behind_orderly (Some k) t nothing nothing_orderly) (slice_range w (c.args.at + 1) c.args.end) (c.args.at + 1) r h))

pub returns-in_err-argument-clause-refused : goal.returns-in_err-argument-clause-refused
returns-in_err-argument-clause-refused c =
    let w = words_of c.args.bytes.now in
    let t = c.word-token.result in
    let k = c.in-Ok.kind in
    let m = may_negate Base c.args.code c.args.role in
    let l : c.args.at < c.args.end = omega arith in
    let p = err_from_is_err_and c.from_residual-in_err-argument.result c.from_residual-in_err-argument.ensures.1 in
    let chain = subst (λ b. IsChain b (slice_range w (c.args.at + 1) c.in_ok-place.place)) c.is_set.ensures c.in_ok-place.ensures.chain in
    let taken = subst (λ b. list_all (is_taken (Operand b)) (slice_range w (c.args.at + 1) c.in_ok-place.place) ≡ true) c.is_negatable.ensures c.in_ok-place.ensures.taken in
    rw (p.1, p.2)
    (c.in_err-argument.ensures.refused
    ∙ sym (behind_sound_token Base c.args.code c.args.role nothing w c.args.at c.args.end t k nothing_orderly l c.requires.words c.word-token.ensures c.in-Ok.ensures.kind c.in-Ok.ensures.sound
    ∙ ap first (passed_chain (Operand m) (follows t) (behind_faults (Some k) t nothing) w (c.args.at + 1) c.in_ok-place.place c.args.end c.in_ok-place.ensures.within.0 c.in_ok-place.ensures.within.1 c.requires.words chain taken)))

pub returns-clause-refused : goal.returns-clause-refused
returns-clause-refused c =
    let w = words_of c.args.bytes.now in
    let t = c.word-token.result in
    let k = c.in-Ok.kind in
    let m = may_negate Base c.args.code c.args.role in
    let l : c.args.at < c.args.end = omega arith in
    let chain = subst (λ b. IsChain b (slice_range w (c.args.at + 1) c.in_ok-place.place)) c.is_set.ensures c.in_ok-place.ensures.chain in
    let taken = subst (λ b. list_all (is_taken (Operand b)) (slice_range w (c.args.at + 1) c.in_ok-place.place) ≡ true) c.is_negatable.ensures c.in_ok-place.ensures.taken in
    c.in_ok-argument.ensures.refused
    ∙ sym (behind_sound_token Base c.args.code c.args.role nothing w c.args.at c.args.end t k nothing_orderly l c.requires.words c.word-token.ensures c.in-Ok.ensures.kind c.in-Ok.ensures.sound
    ∙ ap first (passed_chain (Operand m) (follows t) (behind_faults (Some k) t nothing) w (c.args.at + 1) c.in_ok-place.place c.args.end c.in_ok-place.ensures.within.0 c.in_ok-place.ensures.within.1 c.requires.words chain taken))

pub returns-clause-spelled : goal.returns-clause-spelled
returns-clause-spelled c =
    let w = words_of c.args.bytes.now in
    let t = c.word-token.result in
    let k = c.in-Ok.kind in
    let m = may_negate Base c.args.code c.args.role in
    let l : c.args.at < c.args.end = omega arith in
    let chain = subst (λ b. IsChain b (slice_range w (c.args.at + 1) c.in_ok-place.place)) c.is_set.ensures c.in_ok-place.ensures.chain in
    let taken = subst (λ b. list_all (is_taken (Operand b)) (slice_range w (c.args.at + 1) c.in_ok-place.place) ≡ true) c.is_negatable.ensures c.in_ok-place.ensures.taken in
    let a = c.in_ok-argument.argument in
    let place = c.in_ok-place.place in
    let next = c.in_ok-argument.next in
    let head = c.in_ok-argument.ensures.head in
    let within = c.in_ok-argument.ensures.within in
    record {
      token = t;
      extended = slice_range w (c.args.at + 1) place;
      behind = slice_range w place next;
      parts = range_cons w c.args.at next (omega (arith, within.0, c.in_ok-place.ensures.within.0)) (omega (arith, within.1))
          ∙ (ap (λ x. x ∷ slice_range w (c.args.at + 1) next) (sym c.word-token.ensures)
          ∙ ap (λ l. t ∷ l) (range_split w (c.args.at + 1) place next c.in_ok-place.ensures.within.0 within.0));
      head = token_spelled Base c.args.code c.args.role t k a c.in-Ok.ensures.kind c.in-Ok.ensures.sound head.0 (head.1 ∙ c.selection.ensures);
      chain = chain;
      modifiers = taken;
      negate = head.2 ∙ c.has_negation.ensures;
      rest = c.in_ok-argument.ensures.spelled;
    }

pub returns-in-Err-clause-read : goal.returns-in-Err-clause-read
returns-in-Err-clause-read c =
    refusal_read Base c.args.code c.args.role (words_of c.args.bytes.now) c.args.at c.args.end c.refuse-in-Err.result (refusal c.in-Err.rule c.args.at) c.refuse-in-Err.ensures (returns-in-Err-clause-refused c)

pub returns-in_err-place-clause-read : goal.returns-in_err-place-clause-read
returns-in_err-place-clause-read c =
    let p = err_from_is_err_and c.from_residual.result c.from_residual.ensures.1 in
    refusal_read Base c.args.code c.args.role (words_of c.args.bytes.now) c.args.at c.args.end c.from_residual.result p.0 p.1 (returns-in_err-place-clause-refused c)

pub returns-in_err-argument-clause-read : goal.returns-in_err-argument-clause-read
returns-in_err-argument-clause-read c =
    let p = err_from_is_err_and c.from_residual-in_err-argument.result c.from_residual-in_err-argument.ensures.1 in
    refusal_read Base c.args.code c.args.role (words_of c.args.bytes.now) c.args.at c.args.end c.from_residual-in_err-argument.result p.0 p.1 (returns-in_err-argument-clause-refused c)

pub returns-clause-read : goal.returns-clause-read
returns-clause-read c =
    let within = c.in_ok-argument.ensures.within in
    answer_read Base c.args.code c.args.role (words_of c.args.bytes.now) c.args.at c.args.end (Ok (c.in_ok-argument.argument, c.in_ok-argument.next)) c.requires.words
    (returns-clause-refused c) (omega (arith, within.0, c.in_ok-place.ensures.within.0), within.1) (returns-clause-spelled c)
