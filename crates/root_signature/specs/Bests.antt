-- The least of the broken rules that are known so far.
use Rattle.std.specs.Prelude.{◌≡◌, false, if◌then◌else◌, Option, Some, None}
use Rattle.word_base.specs.declared.rule.Refusal.{Refusal}
use Rattle.word_base.specs.Rules.{order_of, comes_before, IsFirst, IsSound}

-- The refusal is of the phase of root signatures, and of those that are broken it comes first.
pub record IsLeast (broken : Refusal → Type 0) (r : Refusal) : Type 0 where
  pub phase : (order_of r.rule).phase ≡ 9
  pub first : IsFirst broken r

-- no rule is broken, or this one comes first
abbrev pub IsBest : (Refusal → Type 0) → Option Refusal → Type 0
IsBest broken None = IsSound broken
IsBest broken (Some r) = IsLeast broken r

-- there is a refusal that this one does not come before
abbrev pub Yields : Option Refusal → Refusal → Type 0
Yields None q = ⊥
Yields (Some r) q = comes_before q r ≡ false

-- the one of two that comes first
abbrev pub merged : Option Refusal → Option Refusal → Option Refusal
merged None b = b
merged (Some a) None = Some a
merged (Some a) (Some b) = if comes_before b a then Some b else Some a

-- refusals of the phase of root signatures alone
abbrev pub AreNinth : Option Refusal → Type 0
AreNinth None = Unit {0}
AreNinth (Some r) = (order_of r.rule).phase ≡ 9
