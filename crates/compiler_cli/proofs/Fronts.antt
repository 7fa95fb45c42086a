-- Bytes that are gained one part after the other.
use Rattle.std.proofs.Common.{◌≡◌, ℕ, zero, suc, ◌+◌, ◌<◌, get_or, drop-cons, List, [], ◌∷◌, ◌++◌, length, take, drop, Option, refl, sym, ap, ◌∙◌, subst, arith, append_assoc}
use Rattle.std.proofs.Math.Seq.{take-append-add}
use Rattle.std.proofs.lemmas.List.{take-append-le}
use Rattle.std.proofs.lemmas.Grind.{common_steps}
use Rattle.std.specs.Borrow.{Bor}
use Rattle.outside.specs.Causes.{Gained, GainedPart}
use Rattle.outside.proofs.Lasting.{gained_twice}
use Rattle.compiler_cli.specs.Texts.{joined}

-- What was written of one part is a front of it and others behind it.
pub part_before : (old new : Option (List ℕ)) (a b : List ℕ) → GainedPart old new a → GainedPart old new (a ++ b)
part_before old new a b h = (h.0, let k = h.1 in grind (arith, common_steps), subst (Gained old new) (sym (take-append-le h.0 a b h.1)) h.2)

pub part_behind : (old mid new : Option (List ℕ)) (a b : List ℕ) → Gained old mid a → GainedPart mid new b → GainedPart old new (a ++ b)
part_behind old mid new a b g h =
    (length a + h.0, let k = h.1 in grind (arith, common_steps), subst (Gained old new) (sym (take-append-add a b h.0)) (gained_twice old mid new a (take h.0 b) g h.2))

-- the parts of a line
joined_split : (parts : List (Bor (List ℕ))) (i : ℕ) → joined parts ≡ joined (take i parts) ++ joined (drop i parts)
joined_split [] zero = refl
joined_split [] (suc i) = refl
joined_split (x ∷ parts) zero = refl
joined_split (x ∷ parts) (suc i) = ap (λ t. x.now ++ t) (joined_split parts i) ∙ sym (append_assoc x.now (joined (take i parts)) (joined (drop i parts)))

pub parts_part : (old mid new : Option (List ℕ)) (parts : List (Bor (List ℕ))) (i : ℕ) (d : Bor (List ℕ)) → i < length parts → Gained old mid (joined (take i parts))
    → GainedPart mid new (get_or parts i d).now → GainedPart old new (joined parts)
parts_part old mid new parts i d lt g h =
    let s : joined parts ≡ joined (take i parts) ++ ((get_or parts i d).now ++ joined (drop (suc i) parts)) =
    joined_split parts i ∙ ap (λ l. joined (take i parts) ++ joined l) (drop-cons parts i d lt) in
    subst (GainedPart old new) (sym s)
    (part_behind old mid new (joined (take i parts)) ((get_or parts i d).now ++ joined (drop (suc i) parts)) g
    (part_before mid new (get_or parts i d).now (joined (drop (suc i) parts)) h))
