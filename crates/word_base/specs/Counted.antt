-- Lanes that count what their silent steps cost.
use Rattle.std.specs.Prelude.{ℕ, ◌+◌, Some, None, nat_le, if◌then◌else◌}
use Rattle.word_base.specs.Lanes.{Turn, Silent, Asks, Ends, Wrong, Standing}

pub record Counted (S : Type 0) : Type 0 where
  pub state : S
  pub count : ℕ

abbrev pub at_count : {S : Type 0} → S → ℕ → Counted S
at_count s n = record { state = s; count = n }

abbrev pub with_count : {S : Type 0} → (S → S → ℕ) → S → ℕ → Turn S → Turn (Counted S)
with_count cost s n (Silent to) = Silent (at_count to (n + cost s to))
with_count cost s n (Asks e after) = Asks e (λ a. at_count (after a) n)
with_count cost s n Ends = Ends
with_count cost s n (Wrong place rule) = Wrong place rule

abbrev pub counted : {S : Type 0} → (S → Turn S) → (S → S → ℕ) → Counted S → Turn (Counted S)
counted step cost x = with_count cost x.state x.count (step x.state)

-- a step goes back where its place does not rise
abbrev pub back_by : {S : Type 0} → (S → ℕ) → S → S → ℕ
back_by place s t = if nat_le (place t) (place s) then 1 else 0

-- the cost of a machine whose start may be missing
abbrev pub standing_cost : {S : Type 0} → (S → S → ℕ) → Standing S → Standing S → ℕ
standing_cost cost (Some s) (Some t) = cost s t
standing_cost cost (Some s) None = 0
standing_cost cost None t = 0
