-- A setting that fits a frame: constant buffers without words, counters of one word, shared memory of its size, and no other room.
use Rattle.std.proofs.Common.{ℕ, ◌<◌, ◌^◌, List, [], refl, arith}
use Rattle.word_base.specs.declared.event.Ids.{Ids}
use Rattle.word_base.specs.declared.event.Room.{Room}
use Rattle.word_base.specs.declared.event.Room.TheVariants.{Resource, Uav, Counter, Shared}
use Rattle.word_base.specs.Settings.{Setting, HoldsWords}
use Rattle.spirv_words.specs.Globals.{Places}
use Rattle.spirv_symbols.specs.declared.symbol.Symbol.TheVariants.{Memory}
use Rattle.spirv_symbols.specs.declared.entry.Entry.{Entry}
use Rattle.spirv_symbols.specs.Contexts.{size_of}
use Rattle.spirv_words.specs.Lane.{machine}
use Rattle.spirv_words.specs.Text.{Module}
use Rattle.spirv_emit.specs.declared.emitter.Frame.{Frame}
use Rattle.spirv_emit.specs.Lanes.{FitsSetting}
use Rattle.spirv_emit.specs.Sized.{IsSized}
use Rattle.spirv_flow.specs.Formed.{IsFitted}

abbrev pub no_ids : Ids
no_ids = record {
  group_x = 0;
  group_y = 0;
  group_z = 0;
  x = 0;
  y = 0;
  z = 0;
  flat = 0;
  thread_x = 0;
  thread_y = 0;
  thread_z = 0;
}

abbrev pub no_places : Places
no_places = record { rooms = []; slots = []; pushes = []; shared = [] }

abbrev pub extent_of : Frame → Room → ℕ
extent_of f (Counter slot) = 1
extent_of f (Shared slot) = size_of f.context (Memory (Shared slot))
extent_of f room = 0

abbrev pub setting_of : Frame → Setting
setting_of f = record { ids = no_ids; constants = λ slot. []; extent = extent_of f }

module _ (f : Frame) (h : IsSized f) where
  short : (room : Room) → extent_of f room < 2 ^ 32
  short (Counter slot) = omega arith
  short (Shared slot) = h.shared slot
  short (Resource slot) = omega arith
  short (Uav slot) = omega arith

  holds : HoldsWords (setting_of f)
  holds = record {
    ids = record {
      group_x = omega arith;
      group_y = omega arith;
      group_z = omega arith;
      x = omega arith;
      y = omega arith;
      z = omega arith;
      flat = omega arith;
      thread_x = omega arith;
      thread_y = omega arith;
      thread_z = omega arith;
    };
    constants = λ slot k. omega arith;
    extent = short;
  }

  fits : (names : List Entry) (m : Module) → FitsSetting f names (machine m no_places (setting_of f))
  fits names m = record {
    given = record { immediates = h.immediates; setting = holds };
    counters = λ slot id k. refl;
    shared = λ slot. refl;
    vectors = h.vectors;
    few = h.few;
    pushed = λ slot first count b k p w lt. (h.pushed slot first count b k p w lt, refl);
    past = λ slot first count b k p w le. refl;
  }

  pub fitted : IsFitted f
  fitted = record { places = no_places; setting = setting_of f; fits = fits }
