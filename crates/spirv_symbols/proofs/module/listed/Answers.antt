use Rattle.std.proofs.Common.{ap, sym, ◌∙◌, arith, length, ◌∷◌, []}
use Rattle.std.proofs.lemmas.List.{length-append}
use Rattle.spirv_symbols.specs.Modules.{interface}
use Rattle.std.proofs.Common.{take}
use Rattle.spirv_symbols.proofs.Listing.{listed_next, listed_not}
use Rattle.spirv_symbols.proofs.module.listed.Goals.{then-is_listed, else-is_listed}
use Rattle.spirv_symbols.proofs.module.listed.Goals as goal

pub loop-k-preserved : goal.loop-k-preserved
loop-k-preserved c = elim c.if-is_listed.branch [
  | then-is_listed w ↦
      let n = ap length (listed_next c.args.version c.args.symbols.now.entries c.loop-k.k c.entry.result c.entry.ensures
      (sym c.is_listed.ensures ∙ w.if-is_listed.true)) in
      record {
        count = omega (
          arith,
          n,
          w.count-is,
          c.loop-k.invariant.count,
          length-append
              (interface c.args.version (take c.loop-k.k c.args.symbols.now.entries)) (c.entry.result.id ∷ []),
        );
        few = omega (arith, w.count-is, c.loop-k.invariant.few);
      }
  | else-is_listed w ↦
      let n = ap length (listed_not c.args.version c.args.symbols.now.entries c.loop-k.k c.entry.result c.entry.ensures
      (sym c.is_listed.ensures ∙ w.if-is_listed.false)) in
      record {
        count = omega (arith, n, w.count-is, c.loop-k.invariant.count);
        few = omega (arith, w.count-is, c.loop-k.invariant.few);
      }
]
