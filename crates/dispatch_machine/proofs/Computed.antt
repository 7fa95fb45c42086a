-- A run that is found by computation has its value.
use Rattle.tpf_decode.specs.Profiles.{Base}
use Rattle.std.proofs.Common.{◌≡◌, ℕ, zero, suc, Bool, true, false, List, [], ◌∷◌, Option, Some, None, inl, inr, refl, sym, ap}
use Rattle.word_base.specs.Lanes.{Turn, Silent, Asks, Ends, Wrong, Meets}
use Rattle.word_base.specs.Lanes.{Standing}
use Rattle.word_base.specs.Settings.{Setting, Axes}
use Rattle.tpf_program.specs.Bytecode as bytecode
use Rattle.tpf_program.specs.Declarations.{threads_in}
use Rattle.tpf_program.specs.Program.{Shader}
use Rattle.spirv_words.specs.Text.{Module}
use Rattle.spirv_words.specs.Globals.{Places}
use Rattle.spirv_words.specs.Lane as lane
use Rattle.dispatch_machine.specs.Dispatch.{Dispatch, Shares}
use Rattle.dispatch_machine.specs.SameRuns.{ProgramRuns, ModuleRuns}
use Rattle.dispatch_machine.specs.WrongExamples.{loud_or, loud_in}
use Rattle.dispatch_machine.specs.Runs.{Machine, Picked, HasValue, moved}
use Rattle.dispatch_machine.specs.RunExamples.{stop_of, next_in, Stand, stand, taken, picked, run_on, run_in, run_by}

-- one silent step more
further : {S : Type 0} (step : S → Turn S) (s to : S) (turn : Turn S) → step s ≡ Silent to → Meets step to turn → Meets step s turn
further step s to turn e h = (suc h.0, (h.1.0, (to, e, h.1.1), h.1.2))

by_turn : {S : Type 0} (step : S → Turn S) (n : ℕ) (s : S) (turn t : Turn S) → step s ≡ t
    → ((to : S) → next_in n step to ≡ Some turn → Meets step to turn)
    → stop_of t (next_in n step) ≡ Some turn → Meets step s turn
by_turn step n s turn (Silent to) e ih h = further step s to turn e (ih to h)
by_turn step n s turn (Asks event after) e ih h = (0, (s, refl, cc))
by_turn step n s turn Ends e ih h = (0, (s, refl, cc))
by_turn step n s turn (Wrong place rule) e ih h = absurd (cc)

met : {S : Type 0} (step : S → Turn S) (n : ℕ) (s : S) (turn : Turn S) → next_in n step s ≡ Some turn → Meets step s turn
met step zero s turn h = absurd (cc)
met step (suc n) s turn h = by_turn step n s turn (step s) refl (λ to. met step n to turn) h

by_stop : {C S : Type 0} (m : Machine C) (step : ℕ → S → Turn S) (s t : Stand C S) (lane : ℕ) (o : Option (Turn S))
    → ((turn : Turn S) → o ≡ Some turn → Meets (step lane) (s.at lane) turn)
    → taken m s lane o ≡ Some t → Picked false m step s.at s.shared lane t.at t.shared
by_stop m step s t lane None k h = absurd (cc)
by_stop m step s t lane (Some (Silent to)) k h = absurd (cc)
by_stop m step s t lane (Some (Wrong place rule)) k h = absurd (cc)
by_stop m step s t lane (Some Ends) k h =
    let e : stand s.at (m.ended s.shared lane) ≡ t = cc in
    inr (record { meets = k Ends refl; lanes = ap (λ x. x.at) (sym e); shared = ap (λ x. x.shared) (sym e) })
by_stop m step s t lane (Some (Asks event after)) k h =
    let e : stand (moved s.at lane (after (m.answer s.shared lane event))) (m.happens s.shared lane event) ≡ t = cc in
    inl (record { event = event; after = after; meets = k (Asks event after) refl; lanes = ap (λ x. x.at) (sym e); shared = ap (λ x. x.shared) (sym e) })

by_idle : {C S : Type 0} (m : Machine C) (bound : ℕ) (step : ℕ → S → Turn S) (s t : Stand C S) (lane : ℕ) (b : Bool)
    → picked b m bound step s lane ≡ Some t → Picked b m step s.at s.shared lane t.at t.shared
by_idle m bound step s t lane true h = let e : s ≡ t = cc in (ap (λ x. x.at) (sym e), ap (λ x. x.shared) (sym e))
by_idle m bound step s t lane false h = by_stop m step s t lane (next_in bound (step lane) (s.at lane)) (λ turn. met (step lane) bound (s.at lane) turn) h

by_pick : {C S : Type 0} (m : Machine C) (step : ℕ → S → Turn S) (s : Stand C S) (lane : ℕ) (picks : List ℕ) (value : C) (go : Stand C S → Option C) (o : Option (Stand C S))
    → ((t : Stand C S) → o ≡ Some t → Picked (m.is_idle s.shared lane) m step s.at s.shared lane t.at t.shared)
    → ((t : Stand C S) → go t ≡ Some value → HasValue m step t.at t.shared picks value)
    → run_on go o ≡ Some value → HasValue m step s.at s.shared (lane ∷ picks) value
by_pick m step s lane picks value go None k ih h = absurd (cc)
by_pick m step s lane picks value go (Some t) k ih h = (t.at, t.shared, k t refl, ih t h)

pub has_value : {C S : Type 0} (m : Machine C) (bound : ℕ) (step : ℕ → S → Turn S) (picks : List ℕ) (s : Stand C S) (value : C)
    → run_in m bound step picks s ≡ Some value → HasValue m step s.at s.shared picks value
has_value m bound step [] s value h = sym (cc)
has_value m bound step (lane ∷ picks) s value h =
    by_pick m step s lane picks value (run_in m bound step picks) (picked (m.is_idle s.shared lane) m bound step s lane)
    (λ t. by_idle m bound step s t lane (m.is_idle s.shared lane)) (λ t. has_value m bound step picks t value) h

-- a turn that is found by computation, wrong or not, is met
by_loud : {S : Type 0} (step : S → Turn S) (n : ℕ) (s : S) (turn t : Turn S) → step s ≡ t
    → ((to : S) → loud_in n step to ≡ Some turn → Meets step to turn)
    → loud_or t (loud_in n step) ≡ Some turn → Meets step s turn
by_loud step n s turn (Silent to) e ih h = further step s to turn e (ih to h)
by_loud step n s turn (Asks event after) e ih h = (0, (s, refl, cc))
by_loud step n s turn Ends e ih h = (0, (s, refl, cc))
by_loud step n s turn (Wrong place rule) e ih h = (0, (s, refl, cc))

pub loud : {S : Type 0} (step : S → Turn S) (n : ℕ) (s : S) (turn : Turn S) → loud_in n step s ≡ Some turn → Meets step s turn
loud step zero s turn h = absurd (cc)
loud step (suc n) s turn h = by_loud step n s turn (step s) refl (λ to. loud step n to turn) h

-- the same of modules
pub loud_module : (m : Module) (places : Places) (setting : Setting) (n : ℕ) (turn : Turn (Standing lane.State))
    → loud_in n (lane.lane m places setting) (lane.start m places setting) ≡ Some turn → Meets (lane.lane m places setting) (lane.start m places setting) turn
loud_module m places setting n turn h = loud (lane.lane m places setting) n (lane.start m places setting) turn h

pub run_of_module : (threads : Axes) (places : Places) (m : Module) (d : Dispatch) (n : ℕ) (picks : List ℕ) (value : Shares)
    → run_by threads (lane.lane m places) (lane.start m places) d n picks ≡ Some value → ModuleRuns threads places m d picks value
run_of_module threads places m d n picks value h = has_value _ n _ picks _ value h

pub run_of_program : (p : Shader) (d : Dispatch) (n : ℕ) (picks : List ℕ) (value : Shares)
    → run_by (threads_in p.declarations) (bytecode.step Base p) (λ setting. bytecode.start) d n picks ≡ Some value → ProgramRuns Base p d picks value
run_of_program p d n picks value h = has_value _ n _ picks _ value h
