-- What the clauses of `lane_laws` of spirv_flow say.
use Rattle.std.specs.Prelude.{◌≡◌, ◌++◌, ◌∷◌, [], ℕ, List, IsTrue, false}
use Rattle.word_base.specs.declared.event.Event.{Event}
use Rattle.word_base.specs.Lanes.{Makes, NeverWrong, SameLanes}
use Rattle.std.specs.List.{list_all}
use Rattle.spirv_words.specs.Text.{Instr, is_instr}
use Rattle.spirv_words.specs.Definitions.{results, are_distinct}
use Rattle.spirv_words.specs.Lane.{State, step}
use Rattle.shader_tree.specs.Chains.{push}
use Rattle.shader_tree.specs.Terms.{Term}
use Rattle.shader_tree.specs.Values.{Words}
use Rattle.shader_tree.specs.Lane.{State as TreeState, state, step as tree_step}
use Rattle.spirv_emit.specs.Emission.{spaces_of}
use Rattle.spirv_emit.specs.declared.emitter.Emitter.{Emitter as Emission}
use Rattle.spirv_emit.specs.Growing.{Completes}
use Rattle.spirv_emit.specs.Lanes.{Site, HasAt}
use Rattle.word_base.specs.Counted.{Counted, at_count, counted}
use Rattle.spirv_flow.specs.GoingBack.{goes_back}
use Rattle.spirv_flow.specs.Layout.{code_of, leave}
use Rattle.spirv_flow.specs.Lowers.{Holds, Lowers}
use Rattle.spirv_flow.specs.Pieces.{HasSingleLabels}

pub record LaneClauses : Type 0 where
  pub labels : (code : List Instr) → IsTrue (list_all is_instr code) → IsTrue (are_distinct (results code))
      → HasSingleLabels code
  pub same : (z : Site) (old new : Emission) (x : Term) (h : Lowers old new 0 0 0 false false x) (s : State) (w : Words)
      → Completes new z → HasSingleLabels z.machine.code
      → HasAt z.machine.code s.place (code_of h.layout 0 0 ++ leave ∷ []) → Holds z old.kept s w
      → NeverWrong (tree_step (spaces_of z.frame) z.machine.setting) (state (push x []) w 0)
      → SameLanes (tree_step (spaces_of z.frame) z.machine.setting) (step z.machine) (state (push x []) w 0) s
  pub turns : (z : Site) (old new : Emission) (x : Term) (h : Lowers old new 0 0 0 false false x) (s : State) (w : Words)
      → Completes new z → HasSingleLabels z.machine.code
      → HasAt z.machine.code s.place (code_of h.layout 0 0 ++ leave ∷ []) → Holds z old.kept s w
      → NeverWrong (tree_step (spaces_of z.frame) z.machine.setting) (state (push x []) w 0)
      → (events : List Event) (answers : List ℕ) (u : TreeState) (d : Counted State)
      → Makes (tree_step (spaces_of z.frame) z.machine.setting) (state (push x []) w 0) events answers u
      → Makes (counted (step z.machine) goes_back) (at_count s 0) events answers d → u.turns ≡ d.count
