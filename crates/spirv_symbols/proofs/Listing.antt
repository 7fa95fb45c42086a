-- The ids that the entry point lists, entry by entry.
use Rattle.std.proofs.Common.{◌≡◌, ℕ, ◌+◌, ◌<◌, Bool, true, false, List, [], ◌∷◌, ◌++◌, map, take, Some, sym, ap, ◌∙◌, arith}
use Rattle.std.specs.Prelude.{length, slice_get, filter}
use Rattle.std.proofs.lemmas.List.{length-map, append_assoc, map-append}
use Rattle.spirv_words.specs.Sections.{listed_classes}
use Rattle.spirv_symbols.specs.Tables.{Entry}
use Rattle.spirv_symbols.specs.Modules.{is_global, interface}
use Rattle.spirv_symbols.proofs.Members.{picked, passed_by, room_for_one}

module _ (version : ℕ) (es : List Entry) (k : ℕ) (e : Entry) (h : slice_get es k ≡ Some e) where
  abbrev listed : Entry → Bool
  listed = is_global (listed_classes version)

  pub listed_next : listed e ≡ true → interface version (take (k + 1) es) ≡ interface version (take k es) ++ e.id ∷ []
  listed_next t = ap (map (λ (f : Entry). f.id)) (picked listed es k e h t) ∙ map-append (λ (f : Entry). f.id) (filter listed (take k es)) (e ∷ [])

  pub listed_not : listed e ≡ false → interface version (take (k + 1) es) ≡ interface version (take k es)
  listed_not t = ap (map (λ (f : Entry). f.id)) (passed_by listed es k e h t)

  pub listed_room : listed e ≡ true → length (interface version (take k es)) < length (interface version es)
  listed_room t = omega (
    arith,
    room_for_one listed es k e h t,
    length-map (filter listed (take k es)) (λ (f : Entry). f.id),
    length-map
        (filter listed es) (λ (f : Entry). f.id),
  )

  pub listed_on : (before now after : List ℕ) → listed e ≡ true → now ≡ before ++ interface version (take k es) → after ≡ now ++ e.id ∷ []
      → after ≡ before ++ interface version (take (k + 1) es)
  listed_on before now after t p q =
      q ∙ ap (λ l. l ++ e.id ∷ []) p ∙ append_assoc before (interface version (take k es)) (e.id ∷ []) ∙ ap (λ l. before ++ l) (sym (listed_next t))
