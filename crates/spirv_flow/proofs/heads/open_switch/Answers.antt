use Rattle.std.proofs.Common.{◌≡◌, ap, subst, arith}
use Rattle.shader_tree.specs.Terms.{term_at}
use Rattle.spirv_emit.specs.Steps.{TakesRow}
use Rattle.spirv_flow.specs.Lowers.{marks}
use Rattle.spirv_flow.proofs.Marked.{few_marks}
use Rattle.spirv_flow.proofs.heads.open_switch.Goals as goal

pub count-marks-requires-clause-all : goal.count-marks-requires-clause-all
count-marks-requires-clause-all c = let f = few_marks (term_at c.args.tree.now.nodes c.args.cases) c.requires.few in omega (arith, f)

pub returns-clause-opens : goal.returns-clause-opens
returns-clause-opens c =
    let x = term_at c.args.tree.now.nodes c.args.cases in
    let all : c.count-marks.result.all ≡ marks x = let q = ap (λ m. m.all) c.count-marks.ensures in omega (arith, q) in
    let row = c.fresh_labels-first in
    record {
      on = c.measure-id.result;
      inside = c.fresh_label-inside.result;
      measured = c.measure-id.new.emitter;
      one = c.fresh_label-inside.new.self;
      two = c.fresh_label-merge.new.self;
      row = row.new.self;
      merged = c.selection_merge.new.self;
      chosen = c.put_choice.new.emitter;
      measures = c.measure-id.ensures.measures;
      takes_inside = c.fresh_label-inside.ensures.takes;
      takes_merge = c.fresh_label-merge.ensures.takes;
      takes_row = subst (λ n. TakesRow c.fresh_label-merge.new.self row.new.self row.result n) all row.ensures.takes;
      merges = c.selection_merge.ensures.ends;
      chooses = c.put_choice.ensures.ends;
      begins = c.label.ensures.begins;
    }
