-- What a statement may hold: so may its parts, and so it may while code is added.
use Rattle.std.proofs.Common.{◌≡◌, ℕ, List, [], ◌∷◌, ◌++◌, Option, Some, None, Bool, true, false, refl, sym, ap, ◌∙◌, subst}
use Rattle.std.specs.Prelude.{◌&&◌, Ok, IsTrue}
use Rattle.shader_tree.specs.declared.node.Space.{Space}
use Rattle.shader_tree.specs.declared.node.Space.TheVariants as space
use Rattle.shader_tree.specs.Holding.{is_long}
use Rattle.shader_tree.specs.Terms.{Term}
use Rattle.shader_tree.specs.Terms as term
use Rattle.shader_tree.specs.Walks.{Each, holds_no, spaces_in, rooms_in, threads_in, changed_in}
use Rattle.tpf_decode.specs.declared.argument.Kind.{Kind}
use Rattle.word_base.specs.declared.event.Room.{Room}
use Rattle.spirv_words.specs.Memory.{takes_stores}
use Rattle.spirv_words.specs.Text.{Instr}
use Rattle.spirv_symbols.specs.declared.symbol.Symbol.{Symbol}
use Rattle.spirv_symbols.specs.declared.symbol.Symbol.TheVariants.{Memory, Input, Registers, Elements, ImmediateArray, Uniform, Push}
use Rattle.binding_map.specs.declared.register.Place.{Place}
use Rattle.binding_map.specs.declared.register.Place.TheVariants.{Bound, Push as InPush}
use Rattle.spirv_emit.specs.declared.buffer.ConstantBuffer.{ConstantBuffer}
use Rattle.spirv_emit.specs.Begun.{IsThere, IsBufferThere, IsSpaceThere, is_searched, IsPlaceThere, built_in_of}
use Rattle.spirv_emit.specs.Emission.{buffer_of}
use Rattle.spirv_emit.specs.declared.emitter.Emitter.{Emitter as Emission}
use Rattle.spirv_emit.specs.declared.emitter.Frame.{Frame}
use Rattle.spirv_emit.specs.Growing.{Grows}
use Rattle.spirv_emit.proofs.Lists.{and_left, and_right, each_front, each_back}
use Rattle.spirv_emit.proofs.Staying.{room_there, thread_there, names_stay}
use Rattle.spirv_flow.specs.Emitting.{IsFit}

-- WHAT THE WALK GATHERS, in parts.
abbrev takes : Room → Type 0
takes room = takes_stores room ≡ Ok 0

record Facts (e : Emission) (spaces : List Space) (rooms : List Room) (threads : List Kind) (direct : Bool) (changed : List Room)
    (short : Bool) : Type 0 where
  pub spaces' : Each (IsSpaceThere e) spaces
  pub rooms' : Each (room_there e) rooms
  pub threads' : Each (thread_there e) threads
  pub direct' : e.frame.separate ≡ true → IsTrue direct
  pub changed' : Each takes changed
  pub short' : IsTrue short

abbrev FactsOf : Emission → Term → Type 0
FactsOf e x = Facts e (spaces_in x) (rooms_in x) (threads_in x) (holds_no is_searched x) (changed_in x) (holds_no is_long x)

facts : (e : Emission) (x : Term) → IsFit e x → FactsOf e x
facts e x h = record {
  spaces' = h.names.spaces;
  rooms' = h.names.rooms;
  threads' = h.names.threads;
  direct' = h.names.direct;
  changed' = h.changed;
  short' = h.literals;
}

fit : (e : Emission) (x : Term) → FactsOf e x → IsFit e x
fit e x h = record {
  names = record { spaces = h.spaces'; rooms = h.rooms'; threads = h.threads'; direct = h.direct' };
  changed = h.changed';
  literals = h.short';
}

front : (e : Emission) (s s' : List Space) (r r' : List Room) (t t' : List Kind) (d d' : Bool) (c c' : List Room) (w w' : Bool)
    → Facts e (s ++ s') (r ++ r') (t ++ t') (d && d') (c ++ c') (w && w') → Facts e s r t d c w
front e s s' r r' t t' d d' c c' w w' f = record {
  spaces' = each_front (IsSpaceThere e) s s' f.spaces';
  rooms' = each_front (room_there e) r r' f.rooms';
  threads' = each_front (thread_there e) t t' f.threads';
  direct' = λ q. and_left d d' (f.direct' q);
  changed' = each_front takes c c' f.changed';
  short' = and_left w w' f.short';
}

back : (e : Emission) (s s' : List Space) (r r' : List Room) (t t' : List Kind) (d d' : Bool) (c c' : List Room) (w w' : Bool)
    → Facts e (s ++ s') (r ++ r') (t ++ t') (d && d') (c ++ c') (w && w') → Facts e s' r' t' d' c' w'
back e s s' r r' t t' d d' c c' w w' f = record {
  spaces' = each_back (IsSpaceThere e) s s' f.spaces';
  rooms' = each_back (room_there e) r r' f.rooms';
  threads' = each_back (thread_there e) t t' f.threads';
  direct' = λ q. and_right d d' (f.direct' q);
  changed' = each_back takes c c' f.changed';
  short' = and_right w w' f.short';
}

module _ (e : Emission) where
  -- two parts, one behind the other
  both : (a b : Term) → Facts e (spaces_in a ++ spaces_in b) (rooms_in a ++ rooms_in b) (threads_in a ++ threads_in b)
      (holds_no is_searched a && holds_no is_searched b) (changed_in a ++ changed_in b) (holds_no is_long a && holds_no is_long b) → IsFit e a × IsFit e b
  both a b f = (
    fit e a (front e (spaces_in a) (spaces_in b) (rooms_in a) (rooms_in b) (threads_in a) (threads_in b) (holds_no is_searched a)
        (holds_no is_searched b) (changed_in a) (changed_in b) (holds_no is_long a) (holds_no is_long b) f),
    fit e b (back e (spaces_in a) (spaces_in b) (rooms_in a) (rooms_in b) (threads_in a) (threads_in b) (holds_no is_searched a)
        (holds_no is_searched b) (changed_in a) (changed_in b) (holds_no is_long a) (holds_no is_long b) f),
  )

  pub guard_fit : (b x : Term) → IsFit e (term.Guard b x) → IsFit e b × IsFit e x
  guard_fit b x h = both b x (facts e (term.Guard b x) h)

  pub then_fit : (a b : Term) → IsFit e (term.Then a b) → IsFit e a × IsFit e b
  then_fit a b h = both a b (facts e (term.Then a b) h)

  pub switch_fit : (on x : Term) → IsFit e (term.Switch on x) → IsFit e on × IsFit e x
  switch_fit on x h = both on x (facts e (term.Switch on x) h)

  pub loop_fit : (x : Term) → IsFit e (term.Loop x) → IsFit e x
  loop_fit x h = fit e x (facts e (term.Loop x) h)

  pub case_fit : (v : ℕ) (x : Term) → IsFit e (term.Case v x) → IsFit e x
  case_fit v x h = fit e x (facts e (term.Case v x) h)

  pub default_fit : (x : Term) → IsFit e (term.Default x) → IsFit e x
  default_fit x h = fit e x (facts e (term.Default x) h)

  -- a choice is its truth in front of what the two statements are together
  pub choice_fit : (b x y : Term) → IsFit e (term.If b x y) → IsFit e b × (IsFit e x × IsFit e y)
  choice_fit b x y h =
      let q = both b (term.Then x y) (facts e (term.If b x y) h) in (q.0, then_fit x y q.1)

-- WHILE CODE IS ADDED.
module _ (a b : Emission) (seg : List Instr) (g : Grows a b seg) where
  pub fit_stays : (x : Term) → IsFit a x → IsFit b x
  fit_stays x h = record {
    names = names_stay a b seg g x h.names;
    changed = h.changed;
    literals = h.literals;
  }
