-- Lanes of a program and of a module that are the same, and the runs of both.
use Rattle.std.specs.Prelude.{ℕ, ◌↔◌, List}
use Rattle.word_base.specs.Lanes.{Turn, NeverWrong, SameLanes}
use Rattle.word_base.specs.Settings.{Setting, Axes}
use Rattle.tpf_decode.specs.Profiles.{Profile}
use Rattle.tpf_program.specs.Declarations.{threads_in}
use Rattle.tpf_program.specs.Program.{Shader}
use Rattle.tpf_program.specs.Bytecode as bytecode
use Rattle.spirv_words.specs.Text.{Module}
use Rattle.spirv_words.specs.Globals.{Places}
use Rattle.spirv_words.specs.Lane as lane
use Rattle.binding_map.specs.Bindings.{Binding}
use Rattle.binding_map.specs.Fits.{Fits}
use Rattle.binding_map.specs.Places.{places_of}
use Rattle.dispatch_machine.specs.Dispatch.{Dispatch, IsDispatch, AreLanes, Shares, setting_of, at_start, shared_machine}
use Rattle.dispatch_machine.specs.Runs.{HasValue}

-- Under one setting nobody can tell the module's lane from the program's: under every list of answers both make the same events in the same
-- order, end together and spin together, and the module's is never wrong.
abbrev pub FollowsIn : Profile → Shader → List Binding → Module → Setting → Type 0
FollowsIn profile p bindings m setting =
    SameLanes (bytecode.step profile p setting) (lane.lane m (places_of bindings) setting) bytecode.start (lane.start m (places_of bindings) setting)

-- The run over these picks has this value. It is the run of a dispatch to groups of threads whose lanes, each under its setting, start so
-- and make such steps.
abbrev pub RunsTo : {S : Type 0} → Axes → (Setting → S → Turn S) → (Setting → S) → Dispatch → List ℕ → Shares → Type 0
RunsTo threads step start d picks value =
    HasValue (shared_machine threads) (λ l. step (setting_of threads d l)) (λ l. start (setting_of threads d l)) (at_start d) picks value

-- of a program's lanes, and of a module's over the same dispatch
abbrev pub ProgramRuns : Profile → Shader → Dispatch → List ℕ → Shares → Type 0
ProgramRuns profile p d picks value = RunsTo (threads_in p.declarations) (bytecode.step profile p) (λ setting. bytecode.start) d picks value

abbrev pub ModuleRuns : Axes → Places → Module → Dispatch → List ℕ → Shares → Type 0
ModuleRuns threads places m d picks value = RunsTo threads (lane.lane m places) (lane.start m places) d picks value

-- For each dispatch and list of picks the two runs have the same values, so that one has a value exactly when the other has; and under
-- no list of answers is a lane of the module wrong.
pub record SameRuns (profile : Profile) (p : Shader) (bindings : List Binding) (m : Module) : Type 0 where
  pub same : (d : Dispatch) (picks : List ℕ) (value : Shares)
      → IsDispatch (threads_in p.declarations) (Fits p bindings) d → AreLanes (threads_in p.declarations) d picks
      → ProgramRuns profile p d picks value ↔ ModuleRuns (threads_in p.declarations) (places_of bindings) m d picks value
  pub never_wrong : (setting : Setting) → Fits p bindings setting
      → NeverWrong (lane.lane m (places_of bindings) setting) (lane.start m (places_of bindings) setting)
