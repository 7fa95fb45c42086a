-- A chain is its flattening.
use Rattle.std.proofs.Common.{◌≡◌, List, ◌++◌, refl, sym, ap, ◌∙◌}
use Rattle.std.proofs.lemmas.List.{append_assoc}
use Rattle.shader_tree.specs.Chains.{Link, push, flattened}
use Rattle.shader_tree.specs.Terms.{Term, Then, Nothing}

pub push-flattened : (t : Term) (k : List Link) → push t k ≡ flattened t ++ k
push-flattened (Then a b) k =
    push-flattened a (push b k) ∙ ap (λ l. flattened a ++ l) (push-flattened b k) ∙ sym (append_assoc (flattened a) (flattened b) k)
push-flattened Nothing k = refl
push-flattened other k = refl

-- a statement behind a chain
pub push-append : (t : Term) (k l : List Link) → push t (k ++ l) ≡ push t k ++ l
push-append t k l = push-flattened t (k ++ l) ∙ sym (append_assoc (flattened t) k l) ∙ ap (λ x. x ++ l) (sym (push-flattened t k))
