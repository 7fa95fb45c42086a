use Rattle.std.proofs.Common.{◌≤◌, ◌+◌, sym, ◌∙◌, subst, arith}
use Rattle.spirv_emit.specs.Emission.{words_left, ids_left}
use Rattle.spirv_emit.proofs.Searching.{separate_words, separate_ids, all_separate}
use Rattle.spirv_emit.proofs.emitter.Emitter.open.Goals as goal

pub name-requires-clause-words : goal.name-requires-clause-words
name-requires-clause-words c = subst (λ n. 43 ≤ n) (sym (separate_words c.args.self.now c.none_searches-self.result)) c.requires.words

pub name-requires-clause-ids : goal.name-requires-clause-ids
name-requires-clause-ids c = subst (λ n. 6 ≤ n) (sym (separate_ids c.args.self.now c.none_searches-self.result)) c.requires.ids

pub returns-then-not-self-clause-words : goal.returns-then-not-self-clause-words
returns-then-not-self-clause-words c =
    subst (λ n. n ≤ words_left c.name.new.self + 43) (separate_words c.args.self.now c.none_searches-self.result) c.name.ensures.words

pub returns-then-not-self-clause-ids : goal.returns-then-not-self-clause-ids
returns-then-not-self-clause-ids c =
    subst (λ n. n ≤ ids_left c.name.new.self + 6) (separate_ids c.args.self.now c.none_searches-self.result) c.name.ensures.ids

pub returns-else-not-self-clause-opened : goal.returns-else-not-self-clause-opened
returns-else-not-self-clause-opened c =
    all_separate c.args.tree.now.nodes (λ id n. c.node_laws.ensures.stands c.args.tree.now.nodes id n c.none_searches-self.ensures.earlier) c.args.self.now
    c.none_searches-self.result c.none_searches-self.ensures.none c.if-not-self.false (c.growth_laws.ensures.itself c.args.self.now.symbols)

pub returns-else-not-self-clause-words : goal.returns-else-not-self-clause-words
returns-else-not-self-clause-words c =
    let e = separate_words c.args.self.now c.none_searches-self.result in
    subst (λ n. words_left c.args.self.now ≤ n + 43) (sym e) (omega arith)

pub returns-else-not-self-clause-ids : goal.returns-else-not-self-clause-ids
returns-else-not-self-clause-ids c =
    let e = separate_ids c.args.self.now c.none_searches-self.result in
    subst (λ n. ids_left c.args.self.now ≤ n + 6) (sym e) (omega arith)
