-- The items of pieces of code and of layouts, and those of statements.
use Rattle.std.proofs.Common.{◌≡◌, ℕ, ◌+◌, List, [], ◌∷◌, ◌++◌, length, map, refl, sym, ap, ◌∙◌, append_assoc, append-nil}
use Rattle.shader_tree.specs.Shape.{Item, ClosesIt, cases_in}
use Rattle.shader_tree.specs.Terms.{Term}
use Rattle.shader_tree.specs.Terms as term
use Rattle.spirv_words.specs.Globals.{Places}
use Rattle.spirv_words.specs.Text.{Instr}
use Rattle.spirv_emit.specs.Lanes.{Site}
use Rattle.spirv_emit.specs.Linked.{StandsIn}
use Rattle.spirv_emit.specs.ModuleShape.{Mark, Seen, marks_of, shape_of}
use Rattle.spirv_flow.specs.Layout.{Layout, Straight, Both, Case, cases}
use Rattle.spirv_flow.specs.Lowers.{cases_of, marks}
use Rattle.spirv_flow.specs.Shapes.{values}
use Rattle.spirv_emit.proofs.Lists.{code_back, code_front}

-- CODE that stands in a module.
pub in_front : (z : Site) (x y : List Instr) → StandsIn z (x ++ y) → StandsIn z x
in_front z x y h = (h.0, code_front z.machine.code h.0 x y h.1)

pub behind : (z : Site) (x y : List Instr) → StandsIn z (x ++ y) → StandsIn z y
behind z x y h = (h.0 + length x, code_back z.machine.code h.0 x y h.1)

-- between other pieces
pub between : (z : Site) (a b x y : List Instr) → StandsIn z (a ++ (b ++ (x ++ y))) → StandsIn z x
between z a b x y h = in_front z x y (behind z b (x ++ y) (behind z a (b ++ (x ++ y)) h))

-- quiet code in front of a layout, and behind it
pub behind_quiet : (front rest all : List Mark) → front ≡ [] → rest ≡ all → front ++ rest ≡ all
behind_quiet front rest all f r = ap (λ l. l ++ rest) f ∙ r

pub before_quiet : (first back all : List Mark) → first ≡ all → back ≡ [] → first ++ back ≡ all
before_quiet first back all f b = ap (λ l. first ++ l) b ∙ (append-nil first ∙ f)

pub seen_append : (x y : List Item) → map Seen (x ++ y) ≡ map Seen x ++ map Seen y
seen_append [] y = refl
seen_append (i ∷ x) y = ap (λ l. Seen i ∷ l) (seen_append x y)

pub both_seen : (a b : List Mark) (x y : List Item) → a ≡ map Seen x → b ≡ map Seen y → a ++ b ≡ map Seen (x ++ y)
both_seen a b x y e f = ap (λ l. l ++ b) e ∙ (ap (λ l. map Seen x ++ l) f ∙ sym (seen_append x y))

-- what is opened and closed
pub closed : (open' : Item) (a : List Mark) (x : List Item) → a ≡ map Seen x
    → Seen open' ∷ (a ++ Seen ClosesIt ∷ []) ≡ map Seen (open' ∷ (x ++ ClosesIt ∷ []))
closed open' a x e = ap (λ l. Seen open' ∷ l) (both_seen a (Seen ClosesIt ∷ []) x (ClosesIt ∷ []) e refl)

-- THE VALUES of the cases of a switch
values_append : (a b : List Case) → values (a ++ b) ≡ values a ++ values b
values_append [] b = refl
values_append (c ∷ a) b = ap (λ l. c.value ∷ l) (values_append a b)

pub case_values : (x : Term) (k : ℕ) → values (cases_of x k) ≡ cases_in x
case_values (term.Case v next) k = ap (λ l. v ∷ l) (case_values next (k + 1))
case_values (term.Default next) k = case_values next (k + 1)
case_values (term.Then x y) k =
    values_append (cases_of x k) (cases_of y (k + marks x))
    ∙ (ap (λ l. l ++ values (cases_of y (k + marks x))) (case_values x k) ∙ ap (λ l. cases_in x ++ l) (case_values y (k + marks x)))
case_values x k = refl

pub switch_values : (l : Layout) (back : List Instr) (x : Term) (k : ℕ) → cases l ≡ cases_of x k → values (cases (Both l (Straight back))) ≡ cases_in x
switch_values l back x k e = ap values (append-nil (cases l)) ∙ (ap values e ∙ case_values x k)
