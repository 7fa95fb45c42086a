-- What holds of a tree with one more node, and of one without nodes.
use Rattle.std.proofs.Common.{◌<◌, ◌≡◌, ℕ, IsTrue, List, [], ◌∷◌, ◌++◌, length, Option, Some, None, refl, sym, subst, ◌∙◌}
use Rattle.std.specs.Prelude.{slice_get}
use Rattle.shader_tree.specs.declared.node.Node.{Node}
use Rattle.shader_tree.specs.Nodes.{Sort, AWord, ATruth, AStatement, named, sort_of, same_sort, has, is_of_sort, is_short, fits, are_nodes, are_short, a_statement}
use Rattle.shader_tree.specs.Terms.{term_by, term_at, Adds}
use Rattle.shader_tree.specs.Trees.{is_root}
use Rattle.shader_tree.proofs.Earlier.{pushed, earlier}
use Rattle.shader_tree.proofs.LiteralLemmas.{none_short, short_more}
use Rattle.shader_tree.proofs.TermLemmas.{alike, alike_below, term_here, extended}
use Rattle.shader_tree.proofs.Truths.{get_last}

sort_itself : (s : Sort) → IsTrue (same_sort s s)
sort_itself AWord = refl
sort_itself ATruth = refl
sort_itself AStatement = refl

-- the node that was added is there
is_last : (old : List Node) (n : Node) → IsTrue (has (old ++ n ∷ []) (record { sort = sort_of n; id = length old }))
is_last old n = subst (λ o. IsTrue (is_of_sort (sort_of n) o)) (sym (get_last old n)) (sort_itself (sort_of n))

-- its term names terms of old nodes alone
term_of_last : (old : List Node) (n : Node) → IsTrue (are_nodes old) → IsTrue (fits old n)
    → term_at (old ++ n ∷ []) (length old) ≡ term_by (term_at old) n
term_of_last old n are f =
    let new : List Node = old ++ n ∷ [] in
    let more : IsTrue (are_nodes new) = pushed old n are f in
    let here : slice_get new (length old) ≡ Some n = get_last old n in
    let kept : (i : ℕ) → i < length old → term_at new i ≡ term_at old i = (extended old n are).terms in
    let names = earlier new (length old) n more here in
    term_here new (length old) n more here
    ∙ alike (term_at new) (term_at old) n (alike_below new (length old) (term_at new) (term_at old) (named n) kept names)

added_last : (old : List Node) (n : Node) → IsTrue (are_nodes old) → IsTrue (fits old n) → Adds old (old ++ n ∷ []) n (length old)
added_last old n are f =
    record { extends = extended old n are; sorted = is_last old n; term = term_of_last old n are f }

pub adds : (old new : List Node) (n : Node) (id : ℕ) → IsTrue (are_nodes old) → IsTrue (fits old n) → new ≡ old ++ n ∷ [] → id ≡ length old → Adds old new n id
adds old new n id are f e i =
    let last = added_last old n are f in
    subst (λ l. Adds old l n id) (sym e) (subst (λ k. Adds old (old ++ n ∷ []) n k) (sym i) last)

root_kept : (old : List Node) (n : Node) (root : Option ℕ) → IsTrue (are_nodes old) → IsTrue (is_root old root) → IsTrue (is_root (old ++ n ∷ []) root)
root_kept old n None are h = refl
root_kept old n (Some id) are h = (extended old n are).names (a_statement id) h

-- the invariant of a tree
abbrev pub IsInvariant : List Node → Option ℕ → Type 0
IsInvariant nodes root = IsTrue (are_nodes nodes) × IsTrue (is_root nodes root) × IsTrue (are_short nodes)

-- with one more node
pub added : (old new : List Node) (n : Node) (root : Option ℕ) → IsTrue (are_nodes old) × IsTrue (is_root old root) × IsTrue (are_short old)
    → IsTrue (fits old n) → IsTrue (is_short n) → new ≡ old ++ n ∷ [] → IsInvariant new root
added old new n root inv f s e =
    subst (λ l. IsInvariant l root) (sym e) (pushed old n inv.0 f, root_kept old n root inv.0 inv.1, short_more old n inv.2 s)

-- and without nodes
pub none : IsInvariant [] None
unfolding are_nodes
none = (refl, refl, none_short)
