-- What a statement owes to the instruction that it was raised from.
use Rattle.std.specs.Prelude.{◌≡◌, ℕ, ◌<◌, ◌^◌, List, [], ◌∷◌}
use Rattle.word_base.specs.declared.event.Event.{Event}
use Rattle.word_base.specs.Lanes.{Turn, Goes, Asks}
use Rattle.word_base.specs.Registers.{Registers}
use Rattle.word_base.specs.Settings.{Setting}
use Rattle.shader_tree.specs.Chains.{Link, push}
use Rattle.shader_tree.specs.Lane.{State, state, step}
use Rattle.shader_tree.specs.Terms.{Term}
use Rattle.shader_tree.specs.Values.{Spaces, words}

-- The lane makes exactly these events under each list of answers, and comes to states where Q holds of the answers.
abbrev pub Plans : {S : Type 0} → (S → Turn S) → S → List Event → (List ℕ → S → Type 0) → Type 0
Plans {S} step s [] Q = (n : ℕ) × (t : S) × Goes step n s t × Q [] t
Plans {S} step s (e ∷ es) Q =
    (n : ℕ) × (t : S) × (after : ℕ → S) × Goes step n s t × (step t ≡ Asks e after)
    × ((a : ℕ) → a < 2 ^ 32 → Plans step (after a) es (λ answers u. Q (a ∷ answers) u))

-- Silent steps lead to a state where Q holds.
abbrev pub Reaches : {S : Type 0} → (S → Turn S) → S → (S → Type 0) → Type 0
Reaches {S} step s Q = (n : ℕ) × (t : S) × Goes step n s t × Q t

-- The lane is behind a statement, with these registers; no loop around it was begun anew, and scratch words may be any.
pub record Left (k : List Link) (r : Registers) (n : ℕ) (u : State) : Type 0 where
  pub chain : u.chain ≡ k
  pub registers : u.words.registers ≡ r
  pub turns : u.turns ≡ n

-- WHAT A STATEMENT DOES. From these registers, whatever chain follows it and whatever the scratch words are, it makes
-- these events under each list of answers, leaves the registers that belong to the answers, and goes on behind
-- itself.
abbrev pub Performs : Spaces → Setting → Term → Registers → List Event → (List ℕ → Registers) → Type 0
Performs g setting x registers events after =
    (k : List Link) (scratch : ℕ → ℕ) (turns : ℕ)
    → Plans (step g setting) (state (push x k) (words scratch registers) turns) events
    (λ answers u. Left k (after answers) turns u)
