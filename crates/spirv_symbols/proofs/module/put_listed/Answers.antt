use Rattle.std.proofs.Common.{ℕ, ap, sym, ◌∙◌, ◌++◌, arith, length, take}
use Rattle.std.proofs.lemmas.List.{length-append}
use Rattle.node_pool.specs.Pools.{Pooled}
use Rattle.spirv_symbols.specs.Modules.{interface}
use Rattle.spirv_symbols.proofs.Listing.{listed_on, listed_not, listed_room}
use Rattle.spirv_symbols.proofs.module.put_listed.Goals.{then-is_listed, else-is_listed}
use Rattle.spirv_symbols.proofs.module.put_listed.Goals as goal

pub push-requires : goal.push-requires
push-requires c =
    let es = c.args.symbols.now.entries in
    let n = listed_room c.args.version es c.loop-k.k c.entry-entry.result c.entry-entry.ensures (sym c.is_listed.ensures ∙ c.if-is_listed.true) in
    omega (
      arith,
      c.requires.room,
      n,
      ap length c.loop-k.invariant.list,
      c.loop-k.invariant.capacity,
      length-append c.args.words.now.list (interface c.args.version (take c.loop-k.k es)),
    )

pub loop-k-preserved : goal.loop-k-preserved
loop-k-preserved c = elim c.if-is_listed.branch [
  | then-is_listed w ↦
      let t = sym c.is_listed.ensures ∙ w.if-is_listed.true in
      record {
        list = listed_on c.args.version c.args.symbols.now.entries c.loop-k.k c.entry-entry.result c.entry-entry.ensures c.args.words.now.list
            c.loop-k.words.list c.if-is_listed.words.list t c.loop-k.invariant.list (ap (λ (p : Pooled ℕ). p.list) w.words-is ∙ w.push.ensures.list);
        capacity = ap (λ (p : Pooled ℕ). p.capacity) w.words-is ∙ w.push.ensures.capacity ∙ c.loop-k.invariant.capacity;
      }
  | else-is_listed w ↦
      let t = sym c.is_listed.ensures ∙ w.if-is_listed.false in
      record {
        list = ap (λ (p : Pooled ℕ). p.list) w.words-is ∙ c.loop-k.invariant.list
            ∙ ap (λ l. c.args.words.now.list ++ l)
            (sym (listed_not c.args.version c.args.symbols.now.entries c.loop-k.k c.entry-entry.result c.entry-entry.ensures t));
        capacity = ap (λ (p : Pooled ℕ). p.capacity) w.words-is ∙ c.loop-k.invariant.capacity;
      }
]
