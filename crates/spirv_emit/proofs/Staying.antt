-- What may be named stays so while code is added.
use Rattle.std.proofs.Common.{◌≡◌, ℕ, List, Option, Some, None, sym, ap, ◌∙◌, subst}
use Rattle.word_base.specs.declared.event.Room.{Room}
use Rattle.tpf_decode.specs.declared.argument.Kind.{Kind}
use Rattle.binding_map.specs.declared.register.Place.{Place}
use Rattle.binding_map.specs.declared.register.Place.TheVariants.{Bound, Push as InPush}
use Rattle.shader_tree.specs.declared.node.Space.{Space}
use Rattle.shader_tree.specs.declared.node.Space.TheVariants as space
use Rattle.shader_tree.specs.Terms.{Term}
use Rattle.shader_tree.specs.Walks.{spaces_in, rooms_in, threads_in}
use Rattle.spirv_words.specs.Text.{Instr}
use Rattle.spirv_symbols.specs.declared.symbol.Symbol.{Symbol}
use Rattle.spirv_symbols.specs.declared.symbol.Symbol.TheVariants.{Memory, Input, Uniform, Push, Registers, Elements, ImmediateArray}
use Rattle.spirv_emit.specs.declared.buffer.ConstantBuffer.{ConstantBuffer}
use Rattle.spirv_emit.specs.Begun.{IsThere, IsBufferThere, IsPlaceThere, IsSpaceThere, Names, built_in_of}
use Rattle.spirv_emit.specs.Emission.{Emission, Frame, buffer_of}
use Rattle.spirv_emit.specs.Growing.{Grows}
use Rattle.spirv_emit.proofs.Lists.{each_by}

abbrev pub room_there : Emission → Room → Type 0
room_there e room = IsThere e.symbols.entries (Memory room)

abbrev pub thread_there : Emission → Kind → Type 0
thread_there e k = IsThere e.symbols.entries (Input (built_in_of k))

module _ (a b : Emission) (seg : List Instr) (g : Grows a b seg) where
  pub there_stays : (s : Symbol) → IsThere a.symbols.entries s → IsThere b.symbols.entries s
  there_stays s h = (h.0, g.has s h.0 h.1)

  place_stays : (slot : ℕ) (place : Place) → IsPlaceThere a.symbols.entries slot place → IsPlaceThere b.symbols.entries slot place
  place_stays slot (Bound set binding) h = there_stays (Uniform slot) h
  place_stays slot (InPush first count) h = λ lt. there_stays Push (h lt)

  buffer_stays : (x : Option ConstantBuffer) → IsBufferThere a.symbols.entries x → IsBufferThere b.symbols.entries x
  buffer_stays None h = h
  buffer_stays (Some x) h = place_stays x.slot x.place h

  pub space_stays : (s : Space) → IsSpaceThere a s → IsSpaceThere b s
  space_stays space.Temps h = λ q. there_stays Registers (h (ap (λ f. f.separate) (sym g.same.frame) ∙ q))
  space_stays (space.Indexable slot) h = there_stays (Elements slot) h
  space_stays (space.Constant slot) h =
      subst (λ (f : Frame). IsBufferThere b.symbols.entries (buffer_of f.buffers.list slot)) (sym g.same.frame)
      (buffer_stays (buffer_of a.frame.buffers.list slot) h)
  space_stays space.ImmediateConstant h = there_stays ImmediateArray h

  pub names_stay : (x : Term) → Names a x → Names b x
  names_stay x h = record {
    spaces = each_by (IsSpaceThere a) (IsSpaceThere b) (spaces_in x) space_stays h.spaces;
    rooms = each_by (room_there a) (room_there b) (rooms_in x) (λ r. there_stays (Memory r)) h.rooms;
    threads = each_by (thread_there a) (thread_there b) (threads_in x) (λ k. there_stays (Input (built_in_of k))) h.threads;
    direct = λ q. h.direct (ap (λ f. f.separate) (sym g.same.frame) ∙ q);
  }
