-- The step of each statement whose parts have values.
use Rattle.std.proofs.Common.{◌≡◌, ℕ, ◌<◌, Bool, List, ◌∷◌, Some, refl}
use Rattle.std.specs.Prelude.{if◌then◌else◌}
use Rattle.std.proofs.lemmas.Bool.{lt-ltb}
use Rattle.word_base.specs.declared.event.Act.{Act}
use Rattle.word_base.specs.declared.event.Event.TheVariants as event
use Rattle.word_base.specs.declared.event.Room.{Room}
use Rattle.word_base.specs.Lanes.{Silent, Asks}
use Rattle.word_base.specs.Registers.{Registers}
use Rattle.word_base.specs.Settings.{Setting}
use Rattle.shader_tree.specs.declared.node.Space.{Space}
use Rattle.shader_tree.specs.Chains.{Link, Run, push, switched}
use Rattle.shader_tree.specs.Lane.{State, state, with_scratch, with_word, second_operand, step}
use Rattle.shader_tree.specs.Terms.{Term, Set, Write, Load, Store, Atomic, Guard, If, Switch}
use Rattle.shader_tree.specs.Values.{Spaces, Words, words, word, truth, size_of, value}

module _ (g : Spaces) (s : Setting) (k : List Link) (t : Words) (n : ℕ) where
  abbrev at : Term → State
  at x = state (Run x ∷ k) t n

  pub set_step : (m : ℕ) (v : Term) (w : ℕ) → value g s t v ≡ word w → step g s (at (Set m v)) ≡ Silent (state k (with_scratch t m w) n)
  set_step m v w e = rw (e) refl

  pub write_step : (place : Space) (x v : Term) (i w : ℕ) (r : Registers) → value g s t x ≡ word i → value g s t v ≡ word w → i < size_of g place
      → with_word t.registers place i w ≡ Some r → step g s (at (Write place x v)) ≡ Silent (state k (words t.scratch r) n)
  write_step place x v i w r e f lt h = rw (e, f, lt-ltb i (size_of g place) lt, h) refl

  pub load_step : (m : ℕ) (room : Room) (x : Term) (i : ℕ) → value g s t x ≡ word i → i < s.extent room
      → step g s (at (Load m room x)) ≡ Asks (event.Load room i) (λ answer. state k (with_scratch t m answer) n)
  load_step m room x i e lt = rw (e, lt-ltb i (s.extent room) lt) refl

  pub store_step : (room : Room) (x v : Term) (i w : ℕ) → value g s t x ≡ word i → value g s t v ≡ word w → i < s.extent room
      → step g s (at (Store room x v)) ≡ Asks (event.Store room i w) (λ answer. state k t n)
  store_step room x v i w e f lt = rw (e, f, lt-ltb i (s.extent room) lt) refl

  pub atomic_step : (m : ℕ) (room : Room) (x : Term) (kind : Act) (a b : Term) (i y z : ℕ) → value g s t x ≡ word i → value g s t a ≡ word y
      → value g s t b ≡ word z → i < s.extent room
      → step g s (at (Atomic m room x kind a b)) ≡ Asks (event.Atomic room i kind y (second_operand kind z)) (λ answer. state k (with_scratch t m answer) n)
  atomic_step m room x kind a b i y z e f h lt = rw (e, f, h, lt-ltb i (s.extent room) lt) refl

  pub guard_step : (b body : Term) (holds : Bool) → value g s t b ≡ truth holds
      → step g s (at (Guard b body)) ≡ Silent (state (if holds then push body k else k) t n)
  guard_step b body holds e = rw (e) refl

  pub if_step : (b x y : Term) (holds : Bool) → value g s t b ≡ truth holds
      → step g s (at (If b x y)) ≡ Silent (state (if holds then push x k else push y k) t n)
  if_step b x y holds e = rw (e) refl

  pub switch_step : (on cases : Term) (w : ℕ) → value g s t on ≡ word w → step g s (at (Switch on cases)) ≡ Silent (state (switched w cases k) t n)
  switch_step on cases w e = rw (e) refl
