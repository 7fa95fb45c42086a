use Rattle.std.proofs.Common.{◌≡◌, ℕ, ◌<◌, Some, slice_get}
use Rattle.binding_map.specs.Bindings.{Binding}
use Rattle.binding_map.specs.Texts.{Shares}
use Rattle.binding_map.specs.Lines.{binding_of}
use Rattle.binding_map.proofs.text.is_named.Given as goal

abbrev pub invariant-loop-i : goal.invariant-loop-i
invariant-loop-i l = (j : ℕ) (a : Binding) → j < l.i → slice_get l.bindings j ≡ Some a → Shares a (binding_of l.named) → ⊥
