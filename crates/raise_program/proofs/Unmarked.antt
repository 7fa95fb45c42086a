-- A statement without control flow but selections holds no label.
use Rattle.std.proofs.Common.{◌≡◌, ℕ, Bool, true, false, List, Option, None, refl, ap, ◌∙◌}
use Rattle.std.specs.Prelude.{IsTrue, ◌&&◌}
use Rattle.shader_tree.specs.Chains.{Link, behind_mark, or_else, push}
use Rattle.shader_tree.specs.Terms.{Term}
use Rattle.shader_tree.specs.Terms as term
use Rattle.shader_tree.specs.Walks.{holds_no, is_flow}

pub split : (a b : Bool) → (a && b) ≡ true → (a ≡ true) × (b ≡ true)
split true b h = (refl, h)
split false b h = absurd (cc)

pub unmarked : (x : Term) → IsTrue (holds_no is_flow x) → (mark : Option ℕ) (k : List Link) → behind_mark mark x k ≡ None
unmarked (term.Case v next) h mark k = absurd (cc)
unmarked (term.Default next) h mark k = absurd (cc)
unmarked (term.Then a b) h mark k =
    let s = split (holds_no is_flow a) (holds_no is_flow b) h in
    ap (λ o. or_else o (behind_mark mark b k)) (unmarked a s.0 mark (push b k)) ∙ unmarked b s.1 mark k
unmarked other h mark k = refl
