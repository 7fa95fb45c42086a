use Rattle.tpf_program.proofs.Carried.{plan_words}
use Rattle.tpf_program.proofs.Left.{Bounded, result_words}
use Rattle.tpf_program.proofs.laws.bytecode_laws.Goals as goal

pub returns-clause-registers : goal.returns-clause-registers
returns-clause-registers c =
    let b : Bounded = record {
      unary_word = c.result_laws.ensures.unary;
      binary_word = c.result_laws.ensures.binary;
      ternary_word = c.result_laws.ensures.ternary;
      insert_word = c.result_laws.ensures.insert;
      first_word = c.result_laws.ensures.first;
      second_word = c.result_laws.ensures.second;
    } in
    result_words b

pub returns-clause-events : goal.returns-clause-events
returns-clause-events c = plan_words
