use Rattle.std.proofs.Common.{refl, ◌∙◌, arith}
use Rattle.spirv_emit.proofs.Growth.{same_on}
use Rattle.spirv_emit.proofs.Room.{has_below}
use Rattle.spirv_emit.proofs.emitter.Emitter.fresh_labels.Goals as goal

pub loop-init : goal.loop-init
loop-init c = (
  record {
    same = record { frame = refl; limit = refl; capacity = refl; limits = refl };
    code = refl;
    entries = refl;
    next = omega arith;
    result = refl;
    kept = refl;
    symbols_below = λ s id h. has_below c.args.self.now.frame.context c.args.self.now.symbols s id c.requires.begun.table h;
  },
  c.requires.begun,
  refl,
  omega arith,
)

pub fresh-requires-clause-ids : goal.fresh-requires-clause-ids
fresh-requires-clause-ids c = let i = c.loop.invariant.3 in let t = c.loop-test.true in let r = c.requires.ids in omega (arith, i, t, r)

pub loop-preserved : goal.loop-preserved
loop-preserved c =
    let i = c.loop.invariant in let f = c.fresh.ensures in (
      record {
        same = same_on c.args.self.now c.loop.self c.fresh.new.self i.0.same f.takes.same;
        code = f.takes.code ∙ i.0.code;
        entries = f.takes.entries ∙ i.0.entries;
        next = let a = i.0.next in let b = f.takes.next in omega (arith, a, b);
        result = i.0.result;
        kept = f.takes.kept ∙ i.0.kept;
        symbols_below = i.0.symbols_below;
      },
      f.begun,
      f.words ∙ i.2,
      let a = i.3 in let b = f.ids in omega (arith, a, b),
    )
