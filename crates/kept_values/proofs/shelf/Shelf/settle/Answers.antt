use Rattle.std.proofs.Common.{◌-◌, length, ◌∙◌, sym, ap}
use Rattle.kept_values.specs.Numbers.{has}
use Rattle.kept_values.proofs.Indexed.{has_take}
use Rattle.kept_values.proofs.shelf.Shelf.settle.Goals as goal

pub invariant_of-self : goal.invariant_of-self
invariant_of-self c =
    let is = c.self.invariant in let list = c.drop_last.ensures.list in let xs = c.self.inside.waiting.list in
    (is.0, c.drop_last.ensures.capacity ∙ is.1, λ n h. is.2 n (has_take (length xs - 1) xs n (sym (ap (λ l. has l n) list) ∙ h)))
