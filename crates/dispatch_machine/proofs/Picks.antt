-- Runs over lists of picks that are joined, runs over picks of waiting lanes, and runs of lanes that end at once.
use Rattle.tpf_decode.specs.Profiles.{Base}
use Rattle.std.proofs.Common.{◌≡◌, ℕ, Bool, true, false, List, [], ◌∷◌, ◌++◌, inl, inr, refl, subst}
use Rattle.std.specs.Prelude.{IsTrue}
use Rattle.word_base.specs.Lanes.{Turn, Ends}
use Rattle.tpf_program.specs.declared.instruction.Instruction.{Instruction}
use Rattle.tpf_program.specs.Declarations.{threads_in}
use Rattle.tpf_program.specs.Program.{Shader}
use Rattle.dispatch_machine.specs.RunExamples.{returns}
use Rattle.spirv_words.specs.Smallest.{smallest}
use Rattle.binding_map.specs.Bindings.{Binding}
use Rattle.dispatch_machine.specs.Dispatch.{setting_of}
use Rattle.dispatch_machine.specs.Runs.{Machine, Picked, HasValue, Leads}
use Rattle.dispatch_machine.specs.SameRuns.{SameRuns}
use Rattle.dispatch_machine.proofs.Ends.{no_event, never_wrong}
use Rattle.dispatch_machine.proofs.Follows.{left_ends, right_ends}

pub join : {C S : Type 0} (m : Machine C) (step : ℕ → S → Turn S) (at : ℕ → S) (c : C) (picks more : List ℕ) (at' : ℕ → S) (c' value : C)
    → Leads m step at c picks at' c' → HasValue m step at' c' more value → HasValue m step at c (picks ++ more) value
join m step at c [] more at' c' value l h =
    subst (λ x. HasValue m step x c more value) l.0 (subst (λ x. HasValue m step at' x more value) l.1 h)
join m step at c (lane ∷ picks) more at' c' value l h = (l.0, l.1, l.2, join m step l.0 l.1 picks more at' c' value l.3 h)

pub split : {C S : Type 0} (m : Machine C) (step : ℕ → S → Turn S) (at : ℕ → S) (c : C) (picks more : List ℕ) (value : C)
    → HasValue m step at c (picks ++ more) value → (at' : ℕ → S) × (c' : C) × Leads m step at c picks at' c' × HasValue m step at' c' more value
split m step at c [] more value h = (at, c, (refl, refl), h)
split m step at c (lane ∷ picks) more value h =
    let k = split m step h.0 h.1 picks more value h.3 in
    (k.0, k.1, (h.0, h.1, h.2, k.2), k.3)

-- a pick of a lane that is idle makes nothing
idle_by : {C S : Type 0} (m : Machine C) (step : ℕ → S → Turn S) (at : ℕ → S) (c : C) (lane : ℕ) (at' : ℕ → S) (c' : C) (b : Bool) → IsTrue b
    → Picked b m step at c lane at' c' → (at' ≡ at) × (c' ≡ c)
idle_by m step at c lane at' c' true e h = h
idle_by m step at c lane at' c' false e h = absurd (cc)

pub idle : {C S : Type 0} (m : Machine C) (step : ℕ → S → Turn S) (at : ℕ → S) (c : C) (lane : ℕ) (picks : List ℕ) (value : C) → IsTrue (m.is_idle c lane)
    → HasValue m step at c (lane ∷ picks) value → HasValue m step at c picks value
idle m step at c lane picks value e h =
    let k = idle_by m step at c lane h.0 h.1 (m.is_idle c lane) e h.2 in
    subst (λ x. HasValue m step x c picks value) k.0 (subst (λ x. HasValue m step h.0 x picks value) k.1 h.3)

-- Lanes that end at once have the runs of other lanes that do.
by_end : {C A B : Type 0} (m : Machine C) (left : ℕ → A → Turn A) (right : ℕ → B → Turn B) (a : ℕ → A) (b : ℕ → B) (c : C) (lane : ℕ) (a' : ℕ → A) (c' : C)
    (idle : Bool) → left lane (a lane) ≡ Ends → right lane (b lane) ≡ Ends → Picked idle m left a c lane a' c' → (a' ≡ a) × Picked idle m right b c lane b c'
by_end m left right a b c lane a' c' true e f h = (h.0, (refl, h.1))
by_end m left right a b c lane a' c' false e f (inl t) = absurd (no_event (left lane) (a lane) t.event t.after e t.meets)
by_end m left right a b c lane a' c' false e f (inr t) = (t.lanes, inr (record { meets = (0, (b lane, refl, f)); lanes = refl; shared = t.shared }))

at_end : {C A B : Type 0} (m : Machine C) (left : ℕ → A → Turn A) (right : ℕ → B → Turn B) (a : ℕ → A) (b : ℕ → B)
    → ((lane : ℕ) → left lane (a lane) ≡ Ends) → ((lane : ℕ) → right lane (b lane) ≡ Ends)
    → (picks : List ℕ) (c value : C) → HasValue m left a c picks value → HasValue m right b c picks value
at_end m left right a b e f [] c value h = h
at_end m left right a b e f (lane ∷ picks) c value h =
    let k = by_end m left right a b c lane h.0 h.1 (m.is_idle c lane) (e lane) (f lane) h.2 in
    (b, h.1, k.1, at_end m left right a b e f picks h.1 value (subst (λ x. HasValue m left x h.1 picks value) k.0 h.3))

pub same_runs : (x y z : ℕ) (p : Shader) (bindings : List Binding) (i : Instruction) → p.instructions ≡ i ∷ [] → IsTrue (returns i)
    → SameRuns Base p bindings (smallest 0x00010300 x y z)
same_runs x y z p bindings i h r = record {
  same = λ d picks value is_dispatch are_lanes. (
    at_end _ _ _ _ _ (λ l. left_ends p (setting_of (threads_in p.declarations) d l) i h r) (λ l. right_ends x y z p bindings (setting_of (threads_in p.declarations) d l)) picks _ value,
    at_end _ _ _ _ _ (λ l. right_ends x y z p bindings (setting_of (threads_in p.declarations) d l)) (λ l. left_ends p (setting_of (threads_in p.declarations) d l) i h r) picks _ value,
  );
  never_wrong = λ setting fits. never_wrong _ _ (right_ends x y z p bindings setting);
}
