-- The room of a workspace stays.
use Rattle.std.proofs.Common.{◌≡◌, ◌+◌, ◌*◌, ◌≤◌, ℕ, sym, ap, ◌∙◌, subst}
use Rattle.tpf_program.specs.Program.{Shader}
use Rattle.node_pool.specs.Pools.{Pooled}
use Rattle.raise_operands.specs.Bounds.{scratch_words}
use Rattle.shader_tree.specs.Trees.{Grown}
use Rattle.spirv_symbols.specs.declared.numbered.Numbered.{Numbered}
use Rattle.spirv_emit.specs.declared.emitter.Emitter.{Emitter}
use Rattle.translator.specs.Held.{HasRooms, Held, SameRooms}
use Rattle.translator.specs.Lowered.{HasRoomFor, KeepsRoom}
use Rattle.translator.specs.Showing.{held}

pub same_rooms : (h : Held) (words : ℕ) (p : Shader) (old new : Grown) (e f : Emitter) (cs ds : Pooled Numbered)
    (body end : ℕ) → held words p old e body ≡ h → KeepsRoom old new e f cs ds
    → SameRooms h (held words p new f end)
same_rooms h words p old new e f cs ds body end is k = record {
  words = ap (λ x. x.words) is;
  nodes = k.nodes ∙ ap (λ x. x.nodes) is;
  ids = k.ids ∙ ap (λ x. x.ids) is;
  output = k.code ∙ ap (λ x. x.output) is;
}

pub keeps_rooms : (words : ℕ) (p : Shader) (old new : Grown) (e f : Emitter) (cs ds : Pooled Numbered) (body end : ℕ)
    → KeepsRoom old new e f cs ds → HasRooms words (held words p old e body) → HasRooms words (held words p new f end)
keeps_rooms words p old new e f cs ds body end k h = record {
  words' = h.words';
  short = h.short;
  nodes = subst (λ n. n ≤ 16 * words + 256) (sym k.nodes) h.nodes;
  ids = subst (λ n. n ≤ 48 * words + 4096) (sym k.ids) h.ids;
  output = subst (λ n. n ≤ 256 * words + 8192) (sym k.code) h.output;
}

pub keeps_fit : (words : ℕ) (old new : Grown) (e f : Emitter) (cs ds : Pooled Numbered)
    → KeepsRoom old new e f cs ds → HasRoomFor words old e cs → HasRoomFor words new f ds
keeps_fit words old new e f cs ds k h = record {
  nodes = subst (λ n. 16 * words + 256 ≤ n) (sym k.nodes) h.nodes;
  code = subst (λ n. 256 * words + 8192 ≤ n) (sym k.code) h.code;
  ids = subst (λ n. 48 * words + 4096 ≤ n) (sym k.ids) h.ids;
  declared = subst (λ n. 2 * words ≤ n) (sym k.declared) h.declared;
  immediates = subst (λ n. words ≤ n) (sym k.immediates) h.immediates;
  buffers = subst (λ n. words ≤ n) (sym k.buffers) h.buffers;
  scratch = subst (λ l. scratch_words ≤ l.scratch) (sym k.kept) h.scratch;
  constants = subst (λ n. n ≤ ds.capacity) (sym k.ids) (subst (λ n. e.symbols.limit ≤ n) (sym k.constants) h.constants);
}
