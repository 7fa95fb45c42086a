use Rattle.std.proofs.Common.{refl}
use Rattle.shader_tree.specs.Nodes.{AWord, a_word}
use Rattle.raise_operands.specs.Vectors.{spaces_of}
use Rattle.raise_alu.proofs.Steps.{first_now_is, first_behind_is, second_now_is, second_behind_is, no_second_now, no_second_behind, only_first, with_second}
use Rattle.raise_alu.proofs.raising.written.Goals as goal

pub first_turn-first-requires-clause-place : goal.first_turn-first-requires-clause-place
first_turn-first-requires-clause-place c =
    let o = c.requires.operands.o0.operand.place in
    c.operand_laws.ensures.can_write_on _ _ _ _ _ c.words-word.ensures.grows.extends
    (c.operand_laws.ensures.can_write _ _ c.args.operands.now.o0.argument.kind _ _ _ c.requires.few o.inside o.kept)

pub second_turn-second-requires-clause-place : goal.second_turn-second-requires-clause-place
second_turn-second-requires-clause-place c =
    let o = c.requires.operands.o1.operand.place in
    let later = c.growing_laws.ensures.extends_on _ _ _ c.words-word.ensures.grows.extends c.first_turn-first.ensures.grows.extends in
    c.operand_laws.ensures.can_write_on _ _ _ _ _ later (c.operand_laws.ensures.can_write _ _
    c.args.operands.now.o1.argument.kind _ _ _ c.requires.few
    o.inside o.kept)

pub second_turn-second-requires-clause-value : goal.second_turn-second-requires-clause-value
second_turn-second-requires-clause-value c =
    let second = rw c.in-Some.is at c.words-word.ensures.second in
    c.first_turn-first.ensures.grows.extends.names (a_word c.in-Some.other) second.1.sorted

pub returns-in-Some-clause-grows : goal.returns-in-Some-clause-grows
returns-in-Some-clause-grows c =
    let second = rw c.in-Some.is at c.words-word.ensures.second in
    let two = c.growing_laws.ensures.grows_on _ _ _ _ _ _ c.words-word.ensures.grows c.first_turn-first.ensures.grows refl in
    c.growing_laws.ensures.grows_on _ _ _ _ _ _ two c.second_turn-second.ensures.grows (with_second _ c.args.meaning _ second.0)

pub returns-in-Some-clause-component : goal.returns-in-Some-clause-component
returns-in-Some-clause-component c =
    let second = rw c.in-Some.is at c.words-word.ensures.second in
    let there = c.operand_laws.ensures.operands_on _ _ _ c.args.operands.now c.words-word.ensures.grows.extends
    c.requires.operands in
    let later = c.operand_laws.ensures.operands_on _ _ _ c.args.operands.now c.first_turn-first.ensures.grows.extends
    there in
    let other = c.growing_laws.ensures.node_on _ _ AWord _ _ c.first_turn-first.ensures.grows.extends second.1 in
    let e = c.second_turn-second.ensures.grows.extends in
    let first = c.first_turn-first.ensures in
    record {
      first_now' = c.growing_laws.ensures.step_on _ _ _ _ e (first_now_is c.operand_laws.ensures c.growing_laws.ensures _ _ _ c.args.meaning
          c.args.operands.now c.args.c _ _ there c.words-word.ensures.first.term first.now);
      first_behind' = c.growing_laws.ensures.step_on _ _ _ _ e (first_behind_is c.operand_laws.ensures c.growing_laws.ensures _ _ _ c.args.meaning
          c.args.operands.now c.args.c _ there first.behind);
      second_now' = second_now_is c.operand_laws.ensures c.growing_laws.ensures _ _ _ c.args.meaning
          c.args.operands.now c.args.c _ _ later other.term
          c.second_turn-second.ensures.now;
      second_behind' = second_behind_is c.operand_laws.ensures c.growing_laws.ensures _ _ _ c.args.meaning
          c.args.operands.now c.args.c _ later
          c.second_turn-second.ensures.behind;
    }

pub returns-in-None-clause-grows : goal.returns-in-None-clause-grows
returns-in-None-clause-grows c =
    let single = rw c.in-None.is at c.words-word.ensures.second in
    let two = c.growing_laws.ensures.grows_on _ _ _ _ _ _ c.words-word.ensures.grows c.first_turn-first.ensures.grows refl in
    c.growing_laws.ensures.grows_more _ _ _ _ two (only_first _ c.args.meaning _ single)

pub returns-in-None-clause-component : goal.returns-in-None-clause-component
returns-in-None-clause-component c =
    let single = rw c.in-None.is at c.words-word.ensures.second in
    let there = c.operand_laws.ensures.operands_on _ _ _ c.args.operands.now c.words-word.ensures.grows.extends
    c.requires.operands in
    let first = c.first_turn-first.ensures in
    record {
      first_now' = first_now_is c.operand_laws.ensures c.growing_laws.ensures _ _ _ c.args.meaning
          c.args.operands.now c.args.c _ _ there
          c.words-word.ensures.first.term first.now;
      first_behind' = first_behind_is c.operand_laws.ensures c.growing_laws.ensures _ _ _ c.args.meaning
          c.args.operands.now c.args.c _ there
          first.behind;
      second_now' = no_second_now _ (spaces_of c.args.program.now.shader) c.args.meaning
          c.args.operands.now.instruction c.args.c single;
      second_behind' = no_second_behind _ (spaces_of c.args.program.now.shader) c.args.meaning
          c.args.operands.now.instruction c.args.c single;
    }
