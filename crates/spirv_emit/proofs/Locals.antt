-- A symbol that is put into a table adds no other global variable.
use Rattle.std.proofs.Common.{◌≡◌, ℕ, false, List, [], ◌∷◌, ◌++◌, refl, sym, ap, ◌∙◌, append-nil}
use Rattle.std.proofs.lemmas.List.{append_cancel_left, map-append}
use Rattle.std.proofs.lemmas.List.Elements.{filter-append}
use Rattle.std.specs.Prelude.{Some, filter, map}
use Rattle.kept_values.specs.declared.word.Word.{Word as Kept}
use Rattle.kept_values.specs.declared.word.Word.TheVariants as kept
use Rattle.spirv_symbols.specs.declared.symbol.Symbol.{Symbol}
use Rattle.spirv_symbols.specs.declared.entry.Entry.{Entry}
use Rattle.spirv_symbols.specs.Contexts.{Context}
use Rattle.spirv_symbols.specs.Tables.{Table, Has, Absent, Extends, Puts, entry}
use Rattle.spirv_emit.specs.Growing.{is_global, globals_in}
use Rattle.spirv_emit.specs.Reads.{variable_of}

pub globals_append : (xs ys : List Entry) → globals_in (xs ++ ys) ≡ globals_in xs ++ globals_in ys
globals_append xs ys =
    ap (filter is_global) (map-append (λ (e : Entry). e.symbol) xs ys)
    ∙ filter-append is_global (map (λ (e : Entry). e.symbol) xs) (map (λ (e : Entry). e.symbol) ys)

-- A table to which nothing was added where the symbol was there, and else the symbol alone.
module _ (a b : Table) (s : Symbol) (r : ℕ) (x : Extends a b) (same : (id : ℕ) → Has a.entries s id → b ≡ a)
    (alone : Absent a.entries s → b.entries ≡ a.entries ++ entry s r ∷ []) where
  globals_more : globals_in b.entries ≡ globals_in a.entries ++ globals_in x.more
  globals_more = ap globals_in x.list ∙ globals_append a.entries x.more

  -- a variable among what was added makes the symbol new
  absent : (y : Symbol) (ys : List Symbol) → globals_in x.more ≡ y ∷ ys → Absent a.entries s
  absent y ys e id h =
      let none : a.entries ++ x.more ≡ a.entries ++ [] =
      sym x.list ∙ ap (λ (t : Table). t.entries) (same id h) ∙ sym (append-nil a.entries) in
      absurd (cc (sym e ∙ ap globals_in (append_cancel_left a.entries x.more [] none)))

  only : Absent a.entries s → x.more ≡ entry s r ∷ []
  only h = append_cancel_left a.entries x.more (entry s r ∷ []) (sym x.list ∙ alone h)

  pub one_global : Absent a.entries s → globals_in b.entries ≡ globals_in a.entries ++ filter is_global (s ∷ [])
  one_global h = globals_more ∙ ap (λ l. globals_in a.entries ++ globals_in l) (only h)

  none_one : is_global s ≡ false → globals_in (entry s r ∷ []) ≡ []
  none_one own = rw own refl

  none : is_global s ≡ false → (ys : List Symbol) → globals_in x.more ≡ ys → globals_in x.more ≡ []
  none own [] e = e
  none own (y ∷ ys) e = ap globals_in (only (absent y ys e)) ∙ none_one own

  pub no_global : is_global s ≡ false → globals_in b.entries ≡ globals_in a.entries
  no_global own =
      globals_more ∙ (ap (λ l. globals_in a.entries ++ l) (none own (globals_in x.more) refl) ∙ append-nil (globals_in a.entries))

module _ (c : Context) (a b : Table) (s : Symbol) (r : ℕ) where
  pub put_global : Puts c a b s r → Absent a.entries s → globals_in b.entries ≡ globals_in a.entries ++ filter is_global (s ∷ [])
  put_global p = one_global a b s r p.extends p.same (λ h. (p.alone h).0)

  pub put_local : Puts c a b s r → is_global s ≡ false → globals_in b.entries ≡ globals_in a.entries
  put_local p = no_global a b s r p.extends p.same (λ h. (p.alone h).0)

-- the variables of words that are kept are none
pub own_variable : (w : Kept) (s : Symbol) → variable_of w ≡ Some s → is_global s ≡ false
own_variable (kept.Scratch n) s e = cc e
own_variable (kept.Register k) s e = cc e
own_variable (kept.Element n) s e = absurd (cc e)
