-- Each node names earlier ones: this is kept when a node is added that fits, and tells of each node in the list what
-- it names.
use Rattle.std.proofs.Common.{◌≡◌, ℕ, zero, suc, ◌<◌, true, IsTrue, List, [], ◌∷◌, ◌++◌, Option, Some, None, refl, sym, subst}
use Rattle.std.specs.Prelude.{take, slice_get}
use Rattle.std.specs.List.{list_all}
use Rattle.std.proofs.lemmas.List.{append_assoc, append-nil}
use Rattle.shader_tree.specs.declared.node.Node.{Node}
use Rattle.shader_tree.specs.Nodes.{Name, named, has, is_of_sort, is_proper, fits, fit_behind, are_nodes}
use Rattle.shader_tree.specs.Terms.{AreEarlier}
use Rattle.shader_tree.proofs.Truths.{split, join, get_before}

push_behind : (before xs : List Node) (n : Node) → IsTrue (fit_behind before xs) → IsTrue (fits (before ++ xs) n) → IsTrue (fit_behind before (xs ++ n ∷ []))
push_behind before [] n h f = join (fits before n) true (subst (λ l. IsTrue (fits l n)) (append-nil before) f) refl
push_behind before (x ∷ xs) n h f =
    let p = split (fits before x) (fit_behind (before ++ x ∷ []) xs) h in
    join (fits before x) _ p.0 (push_behind (before ++ x ∷ []) xs n p.1 (subst (λ l. IsTrue (fits l n)) (sym (append_assoc before (x ∷ []) xs)) f))

-- one more node that fits
pub pushed : (nodes : List Node) (n : Node) → IsTrue (are_nodes nodes) → IsTrue (fits nodes n) → IsTrue (are_nodes (nodes ++ n ∷ []))
unfolding are_nodes
pushed nodes n are f = push_behind [] nodes n are f

fits_behind : (before xs : List Node) (k : ℕ) (n : Node) → IsTrue (fit_behind before xs) → slice_get xs k ≡ Some n → IsTrue (fits (before ++ take k xs) n)
fits_behind before [] k n h e = absurd (cc e)
fits_behind before (x ∷ xs) zero n h e =
    let p = split (fits before x) (fit_behind (before ++ x ∷ []) xs) h in
    subst (λ l. IsTrue (fits l n)) (sym (append-nil before)) (let same : x ≡ n = cc e in subst (λ m. IsTrue (fits before m)) same p.0)
fits_behind before (x ∷ xs) (suc k) n h e =
    let p = split (fits before x) (fit_behind (before ++ x ∷ []) xs) h in
    subst (λ l. IsTrue (fits l n)) (append_assoc before (x ∷ []) (take k xs)) (fits_behind (before ++ x ∷ []) xs k n p.1 e)

fits_at : (nodes : List Node) (k : ℕ) (n : Node) → IsTrue (are_nodes nodes) → slice_get nodes k ≡ Some n → IsTrue (fits (take k nodes) n)
unfolding are_nodes
fits_at nodes k n are e = fits_behind [] nodes k n are e

-- what is there in front of a place
has_before : (nodes : List Node) (k : ℕ) (name : Name) (o : Option Node) → slice_get (take k nodes) name.id ≡ o → IsTrue (is_of_sort name.sort o)
    → (name.id < k) × IsTrue (has nodes name)
has_before nodes k name None e h = absurd (cc h)
has_before nodes k name (Some n) e h =
    let g = get_before nodes k name.id n e in
    (g.0, subst (λ o. IsTrue (is_of_sort name.sort o)) (sym g.1) h)

all_before : (nodes : List Node) (k : ℕ) (names : List Name) → IsTrue (list_all (has (take k nodes)) names) → AreEarlier nodes k names
all_before nodes k [] h = tt
all_before nodes k (name ∷ names) h =
    let p = split (has (take k nodes) name) (list_all (has (take k nodes)) names) h in
    let g = has_before nodes k name (slice_get (take k nodes) name.id) refl p.0 in
    (g.0, g.1, all_before nodes k names p.1)

pub earlier : (nodes : List Node) (k : ℕ) (n : Node) → IsTrue (are_nodes nodes) → slice_get nodes k ≡ Some n → AreEarlier nodes k (named n)
earlier nodes k n are e = all_before nodes k (named n) (split (list_all (has (take k nodes)) (named n)) (is_proper n) (fits_at nodes k n are e)).0

pub proper : (nodes : List Node) (k : ℕ) (n : Node) → IsTrue (are_nodes nodes) → slice_get nodes k ≡ Some n → IsTrue (is_proper n)
proper nodes k n are e = (split (list_all (has (take k nodes)) (named n)) (is_proper n) (fits_at nodes k n are e)).1
