use Rattle.std.proofs.Common.{ℕ, ap, sym, ◌∙◌, arith}
use Rattle.node_pool.specs.Pools.{Pooled}
use Rattle.spirv_symbols.proofs.Puts.{section_in, section_out, section_room}
use Rattle.spirv_symbols.proofs.table.Symbols.put_section.Goals.{then-is_in, else-is_in}
use Rattle.spirv_symbols.proofs.table.Symbols.put_section.Goals as goal

pub put_instruction-requires-clause-room : goal.put_instruction-requires-clause-room
put_instruction-requires-clause-room c =
    section_room c.args.context.now c.args.section c.args.self.now.entries c.loop-k.k c.loop-k.words.capacity c.entry-entry.result
    c.args.words.now.list c.loop-k.words.list c.entry-entry.ensures (sym (c.is_in.ensures c.args.context.now) ∙ c.if-is_in.true)
    c.loop-k.invariant.list (omega (arith, c.requires.room, c.loop-k.invariant.capacity))

pub loop-k-preserved : goal.loop-k-preserved
loop-k-preserved c = elim c.if-is_in.branch [
  | then-is_in w ↦
      let t = sym (c.is_in.ensures c.args.context.now) ∙ w.if-is_in.true in
      record {
        list = section_in c.args.context.now c.args.section c.args.self.now.entries c.loop-k.k c.entry-entry.result c.args.words.now.list
            c.loop-k.words.list c.if-is_in.words.list c.entry-entry.ensures t c.loop-k.invariant.list
            (ap (λ (p : Pooled ℕ). p.list) w.words-is ∙ w.put_instruction.ensures.list);
        capacity = ap (λ (p : Pooled ℕ). p.capacity) w.words-is ∙ w.put_instruction.ensures.capacity ∙ c.loop-k.invariant.capacity;
      }
  | else-is_in w ↦
      let t = sym (c.is_in.ensures c.args.context.now) ∙ w.if-is_in.false in
      let l = ap (λ (p : Pooled ℕ). p.list) w.words-is in
      record {
        list = section_out c.args.context.now c.args.section c.args.self.now.entries c.loop-k.k c.entry-entry.result c.args.words.now.list
            c.if-is_in.words.list c.entry-entry.ensures t (l ∙ c.loop-k.invariant.list);
        capacity = ap (λ (p : Pooled ℕ). p.capacity) w.words-is ∙ c.loop-k.invariant.capacity;
      }
]
