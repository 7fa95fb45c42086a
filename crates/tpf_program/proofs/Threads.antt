-- The threads of the first group declared.
use Rattle.std.proofs.Common.{◌≡◌, ℕ, ◌+◌, List, drop, Some, refl, sym, ap, ◌∙◌}
use Rattle.std.specs.Prelude.{slice_get}
use Rattle.tpf_program.specs.declared.declaration.Declaration.{Declaration}
use Rattle.tpf_program.specs.declared.declaration.Declaration.TheVariants.{Flags, Constants, Resource, Uav, Shared, Input, Temps, Indexable, Group, ImmediateConstants}
use Rattle.tpf_program.specs.declared.declaration.Declared.{Declared}
use Rattle.tpf_program.specs.Declarations.{threads_in, threads_declared}
use Rattle.word_base.specs.Settings.{Axes, axes}
use Rattle.tpf_program.proofs.Each.{at_index}

pub at_group : (ds : List Declared) (i : ℕ) (d : Declared) (x y z : ℕ) → slice_get ds i ≡ Some d → d.what ≡ Group x y z → threads_in (drop i ds) ≡ threads_in ds
    → axes x y z ≡ threads_in ds
at_group ds i d x y z h g k = sym (ap (λ w. threads_declared w (threads_in (drop (i + 1) ds))) g) ∙ (sym (ap threads_in (at_index ds i d h)) ∙ k)

no_group : (w : Declaration) (others : Axes) → ((x y z : ℕ) → w ≡ Group x y z → ⊥) → threads_declared w others ≡ others
no_group (Flags a) others h = refl
no_group (Constants a b) others h = refl
no_group (Resource a b) others h = refl
no_group (Uav a b c d) others h = refl
no_group (Shared a b) others h = refl
no_group (Input a b) others h = refl
no_group (Temps a) others h = refl
no_group (Indexable a b c) others h = refl
no_group (Group x y z) others h = absurd (h x y z refl)
no_group (ImmediateConstants a) others h = refl

pub at_other : (ds : List Declared) (i : ℕ) (d : Declared) → slice_get ds i ≡ Some d → ((x y z : ℕ) → d.what ≡ Group x y z → ⊥) → threads_in (drop i ds) ≡ threads_in ds
    → threads_in (drop (i + 1) ds) ≡ threads_in ds
at_other ds i d h g k = sym (no_group d.what (threads_in (drop (i + 1) ds)) g) ∙ (sym (ap threads_in (at_index ds i d h)) ∙ k)
