-- From lanes that are the same under every setting to the same runs of every dispatch.
use Rattle.tpf_decode.specs.Profiles.{Base}
use Rattle.std.proofs.Common.{◌≡◌, ℕ, ◌<◌, List, [], ◌∷◌, Some}
use Rattle.std.specs.Prelude.{slice_get}
use Rattle.word_base.specs.Lanes.{SameLanes}
use Rattle.word_base.specs.Settings.{Setting, Axes}
use Rattle.tpf_program.specs.declared.instruction.Instruction.{Instruction}
use Rattle.tpf_program.specs.Bytecode as bytecode
use Rattle.tpf_program.specs.Declarations.{threads_in}
use Rattle.tpf_program.specs.Holding.{AreOfWords, IsProgramOfWords, IsEventOfWords}
use Rattle.tpf_program.specs.Program.{Shader}
use Rattle.spirv_words.specs.Lane as lane
use Rattle.spirv_words.specs.Text.{Module}
use Rattle.binding_map.specs.Bindings.{Binding}
use Rattle.binding_map.specs.Fits.{Fits}
use Rattle.binding_map.specs.Places.{places_of}
use Rattle.dispatch_machine.specs.Dispatch.{Dispatch, AreLanes, lanes_of, setting_of, at_start, shared_machine}
use Rattle.dispatch_machine.specs.SameRuns.{SameRuns}
use Rattle.dispatch_machine.proofs.DispatchWords.{HoldsWords, keeps_words}
use Rattle.dispatch_machine.proofs.ProgramWords.{makes_words}
use Rattle.dispatch_machine.proofs.WordLaws.{LeavesWords, MakesWords, ActsOnWords}
use Rattle.dispatch_machine.proofs.SameValues.{Each, same_value_within}

each_lane : (t : Axes) (d : Dispatch) (picks : List ℕ) → AreLanes t d picks → Each (λ l. l < lanes_of t d) picks
each_lane t d [] h = tt
each_lane t d (l ∷ picks) h = (h.0, each_lane t d picks h.1)

pub same_dispatches : LeavesWords → MakesWords → ActsOnWords → (p : Shader) (bindings : List Binding) (m : Module) → IsProgramOfWords p
    → ((n : ℕ) (i : Instruction) → slice_get p.instructions n ≡ Some i → AreOfWords i)
    → ((setting : Setting) → Fits p bindings setting
    → SameLanes (bytecode.step Base p setting) (lane.lane m (places_of bindings) setting) bytecode.start (lane.start m (places_of bindings) setting))
    → SameRuns Base p bindings m
same_dispatches leaves makes acts p bindings m words instructions same = record {
  same = λ d picks value is_dispatch are_lanes.
      same_value_within (shared_machine (threads_in p.declarations)) (λ c. HoldsWords c.memory) IsEventOfWords (keeps_words acts (threads_in p.declarations))
      (λ l. l < lanes_of (threads_in p.declarations) d)
      (λ l. bytecode.step Base p (setting_of (threads_in p.declarations) d l)) (λ l. lane.lane m (places_of bindings) (setting_of (threads_in p.declarations) d l))
      (λ l. bytecode.start) (λ l. lane.start m (places_of bindings) (setting_of (threads_in p.declarations) d l)) (at_start d) value picks
      (each_lane (threads_in p.declarations) d picks are_lanes) (record { views = is_dispatch.views; shared = is_dispatch.shared })
      (λ l i. same (setting_of (threads_in p.declarations) d l) (is_dispatch.settings l i))
      (λ l i. makes_words leaves makes p (setting_of (threads_in p.declarations) d l) words instructions (is_dispatch.settings l i).rooms.words);
  never_wrong = λ setting fits. (same setting fits).never_wrong;
}
