-- A tree whose blocks were written, beside a lane that runs them in a finished module.
use Rattle.std.proofs.Common.{◌≡◌, ℕ, suc, List, [], ◌∷◌, ◌++◌, false, arith}
use Rattle.kept_values.specs.Tables.{Table, IsEmpty}
use Rattle.word_base.specs.declared.event.Event.{Event}
use Rattle.word_base.specs.Lanes.{Makes, NeverWrong, SameLanes}
use Rattle.shader_tree.specs.Chains.{push}
use Rattle.shader_tree.specs.Terms.{Term}
use Rattle.shader_tree.specs.Values.{Words}
use Rattle.shader_tree.specs.Lane as tree
use Rattle.spirv_words.specs.Lane.{State, step}
use Rattle.spirv_emit.specs.Emission.{spaces_of}
use Rattle.spirv_emit.specs.declared.emitter.Emitter.{Emitter as Emission}
use Rattle.spirv_emit.specs.Growing.{Completes}
use Rattle.spirv_emit.specs.Lanes.{Site, IsWhole, HasAt}
use Rattle.word_base.specs.Counted.{Counted, at_count, counted}
use Rattle.spirv_flow.specs.GoingBack.{goes_back}
use Rattle.spirv_flow.specs.Layout.{code_of, leave}
use Rattle.spirv_flow.specs.Lowers as flow
use Rattle.spirv_flow.specs.Lowers.{IsClean, Lowers}
use Rattle.spirv_flow.specs.Pieces.{IsSettled, HasSingleLabels}
use Rattle.spirv_flow.proofs.Carried.{carried}
use Rattle.spirv_flow.proofs.Chains.{size}
use Rattle.spirv_flow.proofs.Followed as followed
use Rattle.word_base.proofs.Uncounted.{second_uncounted}

settled_of : (z : Site) → IsWhole z → HasSingleLabels z.machine.code → IsSettled z.machine.code
settled_of z h k = record {
  sorted = h.sorted;
  defined = h.defined;
  single = k;
}

module _ (z : Site) (old new : Emission) (x : Term) (h : Lowers old new 0 0 0 false false x) (s : State) (w : Words) (full : Completes new z)
    (single : HasSingleLabels z.machine.code) (here : HasAt z.machine.code s.place (code_of h.layout 0 0 ++ leave ∷ []))
    (holds : flow.Holds z old.kept s w)
    (sound : NeverWrong (tree.step (spaces_of z.frame) z.machine.setting) (tree.state (push x []) w 0)) where
  settled : IsSettled z.machine.code
  settled = settled_of z full.whole single

  side : followed.Same (spaces_of z.frame) z.machine settled Table (flow.Holds z) IsClean IsEmpty (carried z) (suc (size x))
      (tree.state (push x []) w 0) (at_count s 0)
  side = followed.begins (spaces_of z.frame) z.machine settled Table (flow.Holds z) IsClean IsEmpty (carried z) (suc (size x)) x h.layout s old.kept
      new.kept w
      (omega arith) here (h.law z full) h.placed holds sound

  pub same : SameLanes (tree.step (spaces_of z.frame) z.machine.setting) (step z.machine) (tree.state (push x []) w 0) s
  same = second_uncounted (step z.machine) goes_back (tree.step (spaces_of z.frame) z.machine.setting) (tree.state (push x []) w 0) s 0
      (followed.same_events (spaces_of z.frame) z.machine settled Table (flow.Holds z) IsClean IsEmpty (carried z) (suc (size x))
      (tree.state (push x []) w 0) (at_count s 0) side)

  pub turns : (events : List Event) (answers : List ℕ) (u : tree.State) (d : Counted State)
      → Makes (tree.step (spaces_of z.frame) z.machine.setting) (tree.state (push x []) w 0) events answers u
      → Makes (counted (step z.machine) goes_back) (at_count s 0) events answers d → u.turns ≡ d.count
  turns events answers u d =
      followed.same_turns (spaces_of z.frame) z.machine settled Table (flow.Holds z) IsClean IsEmpty (carried z) (suc (size x)) events answers
      (tree.state (push x []) w 0) u (at_count s 0) d side
