-- The function is open for a tree: what the tree may hold then.
use Rattle.std.proofs.Common.{ℕ, List, Option, Some, None, sym, subst}
use Rattle.shader_tree.specs.declared.node.Node.{Node}
use Rattle.shader_tree.specs.declared.node.Space.{Space}
use Rattle.shader_tree.specs.declared.node.Space.TheVariants as space
use Rattle.shader_tree.specs.Holding.{OfWords}
use Rattle.shader_tree.specs.Terms.{term_at}
use Rattle.shader_tree.specs.Walks.{spaces_in, rooms_in, threads_in}
use Rattle.spirv_symbols.specs.declared.symbol.Symbol.{Symbol}
use Rattle.spirv_symbols.specs.declared.symbol.Symbol.TheVariants.{Memory, Input, Elements, ImmediateArray, Uniform, Push}
use Rattle.spirv_symbols.specs.Tables.{Has, Table, Extends}
use Rattle.binding_map.specs.declared.register.Place.{Place}
use Rattle.binding_map.specs.declared.register.Place.TheVariants.{Bound, Push as InPush}
use Rattle.spirv_emit.specs.declared.buffer.ConstantBuffer.{ConstantBuffer}
use Rattle.spirv_emit.specs.Begun.{IsThere, IsBufferThere, IsSpaceThere, IsPlaceThere, built_in_of}
use Rattle.spirv_emit.specs.declared.emitter.Emitter.{Emitter as Emission}
use Rattle.spirv_emit.specs.declared.emitter.Frame.{Frame}
use Rattle.spirv_emit.specs.Emission.{buffer_of}
use Rattle.spirv_emit.specs.Naming.{Opened}
use Rattle.spirv_flow.specs.Emitting.{IsFit, FitsTree, IsSpaceNamed}
use Rattle.spirv_emit.proofs.Lists.{each_by}

-- symbols keep their ids in tables that grow
abbrev pub AreKept : Type 0
AreKept = (old new : Table) (s : Symbol) (x : ℕ) → Extends old new → Has old.entries s x → Has new.entries s x

module _ (kept : AreKept) (a b : Emission) (nodes : List Node) (o : Opened a b nodes) where
  there_opened : (s : Symbol) → IsThere a.symbols.entries s → IsThere b.symbols.entries s
  there_opened s h = (h.0, kept a.symbols b.symbols s h.0 o.extends h.1)

  place_opened : (slot : ℕ) (place : Place) → IsPlaceThere a.symbols.entries slot place → IsPlaceThere b.symbols.entries slot place
  place_opened slot (Bound set binding) h = there_opened (Uniform slot) h
  place_opened slot (InPush first count) h = λ lt. there_opened Push (h lt)

  buffer_opened : (x : Option ConstantBuffer) → IsBufferThere a.symbols.entries x → IsBufferThere b.symbols.entries x
  buffer_opened None h = h
  buffer_opened (Some x) h = place_opened x.slot x.place h

  space_opened : (s : Space) → IsSpaceNamed a s → IsSpaceThere b s
  space_opened space.Temps h = o.array
  space_opened (space.Indexable slot) h = there_opened (Elements slot) h
  space_opened (space.Constant slot) h =
      subst (λ (f : Frame). IsBufferThere b.symbols.entries (buffer_of f.buffers.list slot)) (sym o.frame)
      (buffer_opened (buffer_of a.frame.buffers.list slot) h)
  space_opened space.ImmediateConstant h = there_opened ImmediateArray h

  pub opened_fit : (id : ℕ) → FitsTree a (term_at nodes id) → OfWords (term_at nodes id) → IsFit b (term_at nodes id)
  opened_fit id h words =
      let x = term_at nodes id in
      record {
        names = record {
          spaces = each_by (IsSpaceNamed a) (IsSpaceThere b) (spaces_in x) space_opened h.spaces;
          rooms = each_by (λ room. IsThere a.symbols.entries (Memory room)) (λ room. IsThere b.symbols.entries (Memory room)) (rooms_in x)
              (λ r. there_opened (Memory r)) h.rooms;
          threads = each_by (λ k. IsThere a.symbols.entries (Input (built_in_of k))) (λ k. IsThere b.symbols.entries (Input (built_in_of k)))
              (threads_in x) (λ k. there_opened (Input (built_in_of k))) h.threads;
          direct = λ q. o.direct q id;
        };
        changed = h.changed;
        literals = words;
      }
