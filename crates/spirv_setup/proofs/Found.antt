-- What the context says of each variable of a program.
use Rattle.std.proofs.Common.{◌≡◌, ℕ, suc, Bool, true, false, List, [], ◌∷◌, Some, None, refl, sym, ap, ◌∙◌}
use Rattle.std.specs.Prelude.{slice_get, Option, find, flat_map, ◌||◌, if◌then◌else◌}
use Rattle.std.specs.Option.{option_or}
use Rattle.std.specs.List.{list_any}
use Rattle.std.proofs.lemmas.List.Folds.{find-append}
use Rattle.tpf_program.specs.declared.declaration.Declaration.{Declaration}
use Rattle.tpf_program.specs.declared.declaration.Declared.{Declared as Item}
use Rattle.spirv_symbols.specs.declared.symbol.Symbol.{Symbol}
use Rattle.spirv_symbols.specs.declared.declared.Declared.{Declared}
use Rattle.spirv_setup.specs.Describing.{is_of}

abbrev pub found_by : Bool → Declared → Option Declared
found_by b v = if b then Some v else None

-- THE FIRST of the declarations that say something of a variable, which all say the same.
module _ (s : Symbol) (g : Declaration → List Declared) (test : Declaration → Bool) (v : Declaration → Declared)
    (one : (d : Declaration) → find (is_of s) (g d) ≡ found_by (test d) (v d)) where
  abbrev all_said : List Item → List Declared
  all_said ds = flat_map (λ d. g d.what) ds

  first_said : (d : Item) (ds : List Item) → find (is_of s) (all_said (d ∷ ds)) ≡ option_or (found_by (test d.what) (v d.what)) (find (is_of s) (all_said ds))
  first_said d ds = find-append (is_of s) (g d.what) (all_said ds) ∙ ap (λ o. option_or o (find (is_of s) (all_said ds))) (one d.what)

  pub none_said : (ds : List Item) → list_any (λ d. test d.what) ds ≡ false → find (is_of s) (all_said ds) ≡ None
  none_said [] h = refl
  none_said (d ∷ ds) h = by (test d.what) refl h (none_said ds) where
    by : (b : Bool) → test d.what ≡ b → list_any (λ d. test d.what) (d ∷ ds) ≡ false
        → (list_any (λ d. test d.what) ds ≡ false → find (is_of s) (all_said ds) ≡ None) → find (is_of s) (all_said (d ∷ ds)) ≡ None
    by true e h f = absurd (cc (sym (ap (λ b. b || list_any (λ d. test d.what) ds) e) ∙ h))
    by false e h f =
        first_said d ds ∙ ap (λ b. option_or (found_by b (v d.what)) (find (is_of s) (all_said ds))) e
        ∙ f (sym (ap (λ b. b || list_any (λ d. test d.what) ds) e) ∙ h)

  -- what it says
  pub some_said : (ds : List Item) → list_any (λ d. test d.what) ds ≡ true
      → (k : ℕ) × (d : Item) × (slice_get ds k ≡ Some d) × (test d.what ≡ true) × (find (is_of s) (all_said ds) ≡ Some (v d.what))
  some_said [] h = absurd (cc h)
  some_said (d ∷ ds) h = by (test d.what) refl h (some_said ds) where
    by : (b : Bool) → test d.what ≡ b → list_any (λ d. test d.what) (d ∷ ds) ≡ true
        → (list_any (λ d. test d.what) ds ≡ true
        → (k : ℕ) × (e : Item) × (slice_get ds k ≡ Some e) × (test e.what ≡ true) × (find (is_of s) (all_said ds) ≡ Some (v e.what)))
        → (k : ℕ) × (e : Item) × (slice_get (d ∷ ds) k ≡ Some e) × (test e.what ≡ true) × (find (is_of s) (all_said (d ∷ ds)) ≡ Some (v e.what))
    by true e h f = (0, d, refl, e, first_said d ds ∙ ap (λ b. option_or (found_by b (v d.what)) (find (is_of s) (all_said ds))) e)
    by false e h f =
        let r = f (sym (ap (λ b. b || list_any (λ d. test d.what) ds) e) ∙ h) in
        (suc r.0, r.1, r.2, r.3, first_said d ds ∙ ap (λ b. option_or (found_by b (v d.what)) (find (is_of s) (all_said ds))) e ∙ r.4)
