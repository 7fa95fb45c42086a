-- The declaration of a view is the first one of its kind and slot.
use Rattle.std.proofs.Common.{◌≡◌, ℕ, ◌+◌, false, List, [], ◌∷◌, drop, Option, Some, None, sym, ap, ◌∙◌}
use Rattle.std.specs.Prelude.{slice_get, option_map}
use Rattle.std.proofs.lemmas.List.{drop_more}
use Rattle.std.proofs.lemmas.Option.{slice_get_within, get_or_from_slice_get}
use Rattle.tpf_decode.specs.declared.argument.Kind.{Kind}
use Rattle.tpf_program.specs.declared.declaration.Declared.{Declared}
use Rattle.tpf_program.specs.declared.declaration.ViewKind.{ViewKind}
use Rattle.tpf_program.specs.Sizes.{addressing_declared, addressing_of, of_view, or_addressing}

at_index : {X : Type 0} (xs : List X) (i : ℕ) (x : X) → slice_get xs i ≡ Some x → drop i xs ≡ x ∷ drop (i + 1) xs
at_index xs i x h = drop_more xs i x (slice_get_within xs i x h) ∙ ap (λ y. y ∷ drop (i + 1) xs) (get_or_from_slice_get xs i x x h)

unfolded : (k : Kind) (slot : ℕ) (ds : List Declared) (i : ℕ) (d : Declared) → slice_get ds i ≡ Some d → addressing_of [] k slot
    (drop i ds) ≡ addressing_of [] k slot ds
    → or_addressing (addressing_declared [] k slot d.what) (addressing_of [] k slot (drop (i + 1) ds)) ≡ addressing_of [] k slot ds
unfolded k slot ds i d h e = sym (ap (addressing_of [] k slot) (at_index ds i d h)) ∙ e

pub here : (k : Kind) (slot : ℕ) (ds : List Declared) (i : ℕ) (d : Declared) (v : ViewKind) (o : Option ViewKind) → slice_get ds i ≡ Some d
    → option_map (of_view false) o ≡ addressing_declared [] k slot d.what → o ≡ Some v
    → addressing_of [] k slot (drop i ds) ≡ addressing_of [] k slot ds → of_view false v ≡ addressing_of [] k slot ds
here k slot ds i d v o h q s e =
    let f : addressing_declared [] k slot d.what ≡ Some (of_view false v) = sym q ∙ ap (option_map (of_view false)) s in
    sym (ap (λ x. or_addressing x (addressing_of [] k slot (drop (i + 1) ds))) f) ∙ unfolded k slot ds i d h e

pub later : (k : Kind) (slot : ℕ) (ds : List Declared) (i : ℕ) (d : Declared) (o : Option ViewKind) → slice_get ds i ≡ Some d
    → option_map (of_view false) o ≡ addressing_declared [] k slot d.what → o ≡ None
    → addressing_of [] k slot (drop i ds) ≡ addressing_of [] k slot ds → addressing_of [] k slot (drop (i + 1) ds) ≡ addressing_of [] k slot ds
later k slot ds i d o h q s e =
    let f : addressing_declared [] k slot d.what ≡ None = sym q ∙ ap (option_map (of_view false)) s in
    sym (ap (λ x. or_addressing x (addressing_of [] k slot (drop (i + 1) ds))) f) ∙ unfolded k slot ds i d h e
