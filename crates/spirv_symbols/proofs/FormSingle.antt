-- Each id of a module is defined once, and in front of its uses.
use Rattle.std.proofs.Common.{◌≡◌, ℕ, ◌+◌, ◌<◌, ◌≤◌, ◌⊎◌, ⊎_elim, inl, inr, Bool, true, false, List, [], ◌∷◌, ◌++◌, length, map, Some, refl, sym, ap, ◌∙◌, subst, arith, append_assoc}
use Rattle.std.specs.Prelude.{◌≢◌, slice_get, ◌&&◌, ◌||◌, nat_eq, nat_lt, nat_le, not, if◌then◌else◌, cond}
use Rattle.std.specs.List.{list_all}
use Rattle.std.proofs.lemmas.List.Folds.{list_any-append}
use Rattle.std.proofs.lemmas.Bool.{and_from, and_parts, eq-eqb}
use Rattle.std.proofs.lemmas.Bool.Decides.{eqb_tells, nat_tests}
use Rattle.word_base.specs.declared.event.Room.TheVariants.{Shared}
use Rattle.spirv_words.specs.BuiltIn.{LocalInvocationIndex}
use Rattle.spirv_words.specs.Text.{Instr}
use Rattle.spirv_words.specs.Ids.{Ids, ids_of, contains}
use Rattle.spirv_words.specs.Definitions.{results, are_distinct, uses_follow}
use Rattle.spirv_symbols.specs.declared.symbol.Access.TheVariants.{Plain, ReadOnly, Coherent}
use Rattle.spirv_symbols.specs.declared.symbol.Section.{Section}
use Rattle.spirv_symbols.specs.declared.symbol.Section.TheVariants.{Imports, Types, Constants, Declarations, Heads, Labels, Locals}
use Rattle.spirv_symbols.specs.declared.symbol.Symbol.{Symbol}
use Rattle.spirv_symbols.specs.declared.symbol.Symbol.TheVariants.{AType, Constant, Immediates, Input, Memory}
use Rattle.spirv_symbols.specs.declared.symbol.TypeSymbol.{TypeSymbol}
use Rattle.spirv_symbols.specs.declared.symbol.TypeSymbol.TheVariants.{Void, Word, WordPointer, TriplePointer}
use Rattle.spirv_symbols.specs.declared.row.Part.TheVariants.{Of}
use Rattle.spirv_symbols.specs.declared.row.Marks.{Marks}
use Rattle.spirv_symbols.specs.declared.row.Marks.TheVariants.{Nothing, Stride, Block, Bound, BuiltIn}
use Rattle.spirv_symbols.specs.declared.numbered.Numbered.{Numbered}
use Rattle.spirv_symbols.specs.Contexts.{Context}
use Rattle.spirv_symbols.specs.Rows.{row_of, type_row, needs, needs_in, section_of, decorations_by, decorations_for}
use Rattle.spirv_symbols.specs.Tables.{Entry, entry, Has, AreThere, IsTable, id_of}
use Rattle.spirv_symbols.specs.Sections.{order, in_section, part_of, code_of, section_code, decorations_of}
use Rattle.spirv_symbols.specs.Orders.{Among, Each, Ordered, Sorts, Ascends, words_of_all, entry_for}
use Rattle.spirv_symbols.proofs.Members.{among_either, among_filter, among_kept, among_get, get_among, each_of, each_at, each_append, ordered_kept, ordered_append}
use Rattle.spirv_symbols.proofs.EntriesLaws.{get_split}
use Rattle.spirv_symbols.proofs.EachSymbol.{ids_here}
use Rattle.spirv_symbols.proofs.Ids.{found_id}
use Rattle.spirv_symbols.proofs.Lookups.{alike, constant_there, constant_among, equal_tells}
use Rattle.spirv_symbols.proofs.Interfaces.{apart_entries, contains_here}

-- WHAT EACH SYMBOL NEEDS stands in earlier sections, or in its own; a constant's in an earlier one.
abbrev stands_behind : Context → ℕ → Symbol → Bool
stands_behind c n u = nat_le (order (section_of c u)) n

constants_behind : (c : Context) (ws : List ℕ) → list_all (stands_behind c 3) (needs_in (map (λ w. Of (Constant w)) ws)) ≡ true
constants_behind c [] = refl
constants_behind c (w ∷ ws) = constants_behind c ws

type_earlier : (c : Context) (t : TypeSymbol) → list_all (stands_behind c (order (type_row t).section)) (needs c (AType t)) ≡ true
type_earlier c Void = refl
type_earlier c t = refl

input_earlier : (c : Context) (b : Bool) → (stands_behind c 3 (AType (if b then WordPointer 1 else TriplePointer)) && true) ≡ true
input_earlier c true = refl
input_earlier c false = refl

earlier : (c : Context) (s : Symbol) → list_all (stands_behind c (order (section_of c s))) (needs c s) ≡ true
earlier c (AType t) = type_earlier c t
earlier c Immediates = constants_behind c c.immediates
earlier c (Memory (Shared slot)) = refl
earlier c (Memory room) = refl
earlier c (Input b) = input_earlier c (nat_eq b LocalInvocationIndex)
earlier c s = refl

-- RESULTS
pub results_append : (a b : List Instr) → results (a ++ b) ≡ results a ++ results b
results_append [] b = refl
results_append (i ∷ a) b = ap (λ l. (ids_of i).results ++ l) (results_append a b) ∙ sym (append_assoc (ids_of i).results (results a) (results b))

abbrev pub ids_in : List Entry → List ℕ
ids_in es = map (λ (e : Entry). e.id) es

pub code_results : (c : Context) (entries es : List Entry) → results (code_of c entries es) ≡ ids_in es
code_results c entries [] = refl
code_results c entries (e ∷ es) =
    ap (λ (i : Ids). i.results ++ results (code_of c entries es)) (ids_here c (id_of entries) e.symbol e.id) ∙ ap (λ l. e.id ∷ l)
    (code_results c entries es)

marks_results : (own : ℕ) (marks : Marks) → results (decorations_by own marks) ≡ []
marks_results own Nothing = refl
marks_results own (Stride bytes) = refl
marks_results own (Block Plain) = refl
marks_results own (Block ReadOnly) = refl
marks_results own (Block Coherent) = refl
marks_results own (Bound set binding) = refl
marks_results own (BuiltIn built_in) = refl

pub decorations_results : (c : Context) (es : List Entry) → results (decorations_of c es) ≡ []
decorations_results c [] = refl
decorations_results c (e ∷ es) =
    results_append (decorations_for c e.symbol e.id) (decorations_of c es) ∙ ap (λ l. l ++ results (decorations_of c es))
    (marks_results e.id (row_of c e.symbol).marks)
    ∙ decorations_results c es

-- CONTAINED NUMBERS
or_right : (a b : Bool) → b ≡ true → (a || b) ≡ true
or_right true b e = refl
or_right false b e = e

or_left : (a b : Bool) → a ≡ true → (a || b) ≡ true
or_left true b e = refl
or_left false b e = absurd (cc e)

contains_append : (xs ys : List ℕ) (x : ℕ) → contains (xs ++ ys) x ≡ (contains xs x || contains ys x)
contains_append xs ys x = list_any-append (λ y. nat_eq y x) xs ys

pub in_left : (xs ys : List ℕ) (x : ℕ) → contains xs x ≡ true → contains (xs ++ ys) x ≡ true
in_left xs ys x h = contains_append xs ys x ∙ or_left (contains xs x) (contains ys x) h

pub in_right : (xs ys : List ℕ) (x : ℕ) → contains ys x ≡ true → contains (xs ++ ys) x ≡ true
in_right xs ys x h = contains_append xs ys x ∙ or_right (contains xs x) (contains ys x) h

among_ids : (es : List Entry) (e : Entry) → Among es e → Among (ids_in es) e.id
among_ids [] e h = absurd h
among_ids (f ∷ fs) e (inl q) = inl (ap (λ (g : Entry). g.id) q)
among_ids (f ∷ fs) e (inr i) = inr (among_ids fs e i)

pub id_contained : (es : List Entry) (e : Entry) → Among es e → contains (ids_in es) e.id ≡ true
id_contained es e h = contains_here (ids_in es) e.id (among_ids es e h)

-- DISTINCT
pub distinct_append : (xs ys : List ℕ) → Ordered (λ x y. x ≢ y) xs → Each (λ x. contains ys x ≡ false) xs → are_distinct ys ≡ true
    → are_distinct (xs ++ ys) ≡ true
distinct_append [] ys a b d = d
distinct_append (x ∷ xs) ys a b d =
    ap (λ q. not q && are_distinct (xs ++ ys)) (contains_append xs ys x ∙ ap (λ q. q || contains ys x) (absent xs a.0) ∙ b.0)
    ∙ distinct_append xs ys a.1 b.1 d where
      absent : (zs : List ℕ) → Each (λ y. x ≢ y) zs → contains zs x ≡ false
      absent [] h = refl
      absent (z ∷ zs) h = ap (λ q. q || contains zs x) (⊎_elim (λ e. absurd (h.0 (sym e.1))) (λ e. e.0) (eqb_tells z x)) ∙ absent zs h.1

-- USES
abbrev pub behind : List ℕ → List Instr → List ℕ
behind seen [] = seen
behind seen (i ∷ is) = behind ((ids_of i).results ++ seen) is

pub follow_append : (seen : List ℕ) (a b : List Instr) → uses_follow seen a ≡ true → uses_follow (behind seen a) b ≡ true → uses_follow seen
    (a ++ b) ≡ true
follow_append seen [] b h k = k
follow_append seen (i ∷ a) b h k =
    let p = and_parts (list_all (contains seen) (ids_of i).uses) (uses_follow ((ids_of i).results ++ seen) a) h in
    and_from (list_all (contains seen) (ids_of i).uses) (uses_follow ((ids_of i).results ++ seen) (a ++ b)) p.0
    (follow_append ((ids_of i).results ++ seen) a b p.1 k)

pub still_seen : (seen : List ℕ) (a : List Instr) (x : ℕ) → contains seen x ≡ true → contains (behind seen a) x ≡ true
still_seen seen [] x h = h
still_seen seen (i ∷ a) x h = still_seen ((ids_of i).results ++ seen) a x (in_right (ids_of i).results seen x h)

pub now_seen : (seen : List ℕ) (a : List Instr) (x : ℕ) → contains (results a) x ≡ true → contains (behind seen a) x ≡ true
now_seen seen [] x h = absurd (cc h)
now_seen seen (i ∷ a) x h = by (contains (ids_of i).results x) refl (now_seen ((ids_of i).results ++ seen) a x) where
  by : (b : Bool) → contains (ids_of i).results x ≡ b → (contains (results a) x ≡ true → contains (behind ((ids_of i).results ++ seen) a) x ≡ true)
      → contains (behind ((ids_of i).results ++ seen) a) x ≡ true
  by true e f = still_seen ((ids_of i).results ++ seen) a x (in_left (ids_of i).results seen x e)
  by false e f = f (sym (contains_append (ids_of i).results (results a) x ∙ ap (λ b. b || contains (results a) x) e) ∙ h)

-- what uses nothing
marks_follow : (seen : List ℕ) (own : ℕ) (marks : Marks) → uses_follow seen (decorations_by own marks) ≡ true
marks_follow seen own Nothing = refl
marks_follow seen own (Stride bytes) = refl
marks_follow seen own (Block Plain) = refl
marks_follow seen own (Block ReadOnly) = refl
marks_follow seen own (Block Coherent) = refl
marks_follow seen own (Bound set binding) = refl
marks_follow seen own (BuiltIn built_in) = refl

pub decorations_follow : (c : Context) (seen : List ℕ) (es : List Entry) → uses_follow seen (decorations_of c es) ≡ true
decorations_follow c seen [] = refl
decorations_follow c seen (e ∷ es) =
    follow_append seen (decorations_for c e.symbol e.id) (decorations_of c es) (marks_follow seen e.id (row_of c e.symbol).marks)
    (decorations_follow c (behind seen (decorations_for c e.symbol e.id)) es)

seam : (before : List Entry) (e : Entry) (es : List Entry) → slice_get (before ++ e ∷ es) (length before) ≡ Some e
seam [] e es = refl
seam (f ∷ before) e es = seam before e es

not_behind : (j k a b : ℕ) → (k < j → b < a) → (j ≡ k → a ≡ b) → k ≤ j → a < b → ⊥
not_behind j k a b f g le lt = grind arith

module _ (c : Context) (entries : List Entry) (next : ℕ) (tb : IsTable c entries next) where
  abbrev place : Symbol → ℕ
  place s = order (section_of c s)

  -- all symbols of earlier sections were seen
  abbrev Low : ℕ → List ℕ → Type 0
  Low n seen = (u : Symbol) (y : ℕ) → Has entries u y → place u < n → contains seen y ≡ true

  -- SEGMENTS: entries of sections from one on, with different ids
  pub record Segment (n : ℕ) (es : List Entry) : Type 0 where
    pub each : Each (λ e. Among entries e × (n ≤ place e.symbol)) es
    pub apart : Ordered (λ e f. e.id ≢ f.id) es

  abbrev InPlace : ℕ → List Entry → Type 0
  InPlace n es = Each (λ e. Among entries e × (place e.symbol ≡ n)) es

  segment_join : (n : ℕ) (a b : List Entry) → InPlace n a → Ordered (λ e f. e.id ≢ f.id) a → Segment (n + 1) b → Segment n (a ++ b)
  segment_join n a b i o s = record {
    each = each_append (λ e. Among entries e × (n ≤ place e.symbol)) a b
        (each_of (λ e. Among entries e × (n ≤ place e.symbol)) a (λ e h. let q = each_at (λ e. Among entries e × (place e.symbol ≡ n)) a e i h in
        (q.0, omega (arith, q.1))))
        (each_of (λ e. Among entries e × (n ≤ place e.symbol)) b (λ e h. let q = each_at (λ e. Among entries e × (n + 1 ≤ place e.symbol)) b e s.each
        h in (q.0, omega (arith, q.1))));
    apart = ordered_append (λ e f. e.id ≢ f.id) a b o s.apart
        (each_of (λ e. Each (λ f. e.id ≢ f.id) b) a (λ e h. each_of (λ f. e.id ≢ f.id) b (λ f k q.
        let x = each_at (λ e. Among entries e × (place e.symbol ≡ n)) a e i h in
        let y = each_at (λ e. Among entries e × (n + 1 ≤ place e.symbol)) b f s.each k in
        let z = ap (λ (g : Entry). place g.symbol) (alike c entries next tb f e y.0 x.0 q) in
        omega (arith, x.1, y.1, z))));
  }

  section_place : (section : Section) → InPlace (order section) (part_of c section entries)
  section_place section = each_of (λ e. Among entries e × (place e.symbol ≡ order section)) (part_of c section entries) (λ e h.
      let r = among_filter (in_section c section) entries e h in
      (r.0, ⊎_elim (λ y. y.1) (λ y. absurd (cc (r.1, y.0))) (eqb_tells (place e.symbol) (order section))))

  section_apart : (section : Section) → Ordered (λ e f. e.id ≢ f.id) (part_of c section entries)
  section_apart section = ordered_kept (λ e f. e.id ≢ f.id) (λ e f. e.id ≢ f.id) (in_section c section) (λ e f _ _ n. n) entries
      (apart_entries entries tb.rises)

  module _ (cs : List Numbered) (so : Sorts entries cs) where
    constants_place : InPlace 2 (map entry_for cs)
    constants_place = each_of (λ e. Among entries e × (place e.symbol ≡ 2)) (map entry_for cs) (λ e h. constant_there c entries next tb cs so e h)

    abbrev word_in : Symbol → ℕ
    word_in (Constant w) = w
    word_in s = 0

    constants_apart : (ps : List Numbered) → InPlace 2 (map entry_for ps) → Ascends (words_of_all ps) → Ordered (λ e f. e.id ≢ f.id)
        (map entry_for ps)
    constants_apart [] i a = tt
    constants_apart (p ∷ ps) i a = (row ps i.1 a.0, constants_apart ps i.1 a.1) where
      row : (qs : List Numbered) → InPlace 2 (map entry_for qs) → Each (λ w. p.word < w) (words_of_all qs) → Each (λ (f : Entry). p.id ≢ f.id)
          (map entry_for qs)
      row [] j b = tt
      row (q ∷ qs) j b = (
        λ d. let z = ap (λ (g : Entry). word_in g.symbol) (alike c entries next tb (entry_for q) (entry_for p) j.0.0 i.0.0 d) in
            absurd (omega (arith, b.0, z)),
        row qs j.1 b.1,
      )

    -- all entries as they are written
    abbrev pub written : List Entry
    written =
        part_of c Imports entries ++ (part_of c Types entries ++ (map entry_for cs ++ (part_of c Declarations entries ++
        (part_of c Heads entries ++ (part_of c Labels entries ++ part_of c Locals entries)))))

    last_segment : Segment 6 (part_of c Locals entries)
    last_segment = record {
      each = each_of (λ e. Among entries e × (6 ≤ place e.symbol)) (part_of c Locals entries) (λ e h.
          let q = each_at (λ e. Among entries e × (place e.symbol ≡ 6)) (part_of c Locals entries) e (section_place Locals) h in
          (q.0, omega (arith, q.1)));
      apart = section_apart Locals;
    }

    pub segments : Segment 0 written
    segments =
        segment_join 0 (part_of c Imports entries) _ (section_place Imports) (section_apart Imports)
        (segment_join 1 (part_of c Types entries) _ (section_place Types) (section_apart Types)
        (segment_join 2 (map entry_for cs) _ constants_place (constants_apart cs constants_place so.ascends)
        (segment_join 3 (part_of c Declarations entries) _ (section_place Declarations) (section_apart Declarations)
        (segment_join 4 (part_of c Heads entries) _ (section_place Heads) (section_apart Heads)
        (segment_join 5 (part_of c Labels entries) _ (section_place Labels) (section_apart Labels) last_segment)))))

  -- USES, section by section
  module _ (n : ℕ) (section : Section) (here : order section ≡ n) where
    uses_seen : (seen : List ℕ) (before es : List Entry) (e : Entry) → entries ≡ before ++ e ∷ es → Low n seen
        → ((f : Entry) → Among before f → place f.symbol ≡ n → contains seen f.id ≡ true) → (ss : List Symbol) → AreThere entries ss e.id
        → list_all (stands_behind c n) ss ≡ true → list_all (contains seen) (map (id_of entries) ss) ≡ true
    uses_seen seen before es e eq low own [] t h = refl
    uses_seen seen before es e eq low own (u ∷ us) t h =
        let p = and_parts (stands_behind c n u) (list_all (stands_behind c n) us) h in
        let y = t.0.0 in
        let found : contains seen y ≡ true = by (nat_lt (place u) n) refl p.0 in
        and_from (contains seen (id_of entries u)) (list_all (contains seen) (map (id_of entries) us))
        (subst (λ x. contains seen x ≡ true) (sym (found_id c entries next u y tb t.0.1)) found) (uses_seen seen before es e eq low own us t.1 p.1)
      where
        at_place : place u ≡ n → (slice_get before t.0.1.0 ≡ Some (entry u t.0.0)) ⊎
            ((j : ℕ) × (t.0.1.0 ≡ length before + j) × (slice_get (e ∷ es) j ≡ Some (entry u t.0.0)))
            → contains seen t.0.0 ≡ true
        at_place d (inl i) = own (entry u t.0.0) (get_among before t.0.1.0 (entry u t.0.0) i) d
        at_place d (inr j) =
            let mine : slice_get entries (length before) ≡ Some e = subst (λ l. slice_get l (length before) ≡ Some e) (sym eq) (seam before e es) in
            absurd (not_behind t.0.1.0 (length before) (entry u t.0.0).id e.id (λ lt. tb.rises (length before) t.0.1.0 e (entry u t.0.0) lt mine
            t.0.1.1)
            (λ d. let q : entry u t.0.0 ≡ e = cc (t.0.1.1, mine, d) in ap (λ (g : Entry). g.id) q) (omega (arith, j.1)) t.0.2)

        by : (b : Bool) → nat_lt (place u) n ≡ b → stands_behind c n u ≡ true → contains seen t.0.0 ≡ true
        by true d le = low u t.0.0 t.0.1 (grind (arith, nat_tests, d))
        by false d le =
            at_place (grind (arith, nat_tests, d, le)) (get_split before (e ∷ es) t.0.1.0 (entry u t.0.0)
            (subst (λ l. slice_get l t.0.1.0 ≡ Some (entry u t.0.0)) eq t.0.1.1))

    follow_one : (seen : List ℕ) (e : Entry) (fs : List Entry) → list_all (contains seen) (map (id_of entries) (needs c e.symbol)) ≡ true
        → uses_follow (e.id ∷ seen) (code_of c entries fs) ≡ true → uses_follow seen (code_of c entries (e ∷ fs)) ≡ true
    follow_one seen e fs h k =
        ap (λ (i : Ids). list_all (contains seen) i.uses && uses_follow (i.results ++ seen) (code_of c entries fs))
        (ids_here c (id_of entries) e.symbol e.id)
        ∙ and_from (list_all (contains seen) (map (id_of entries) (needs c e.symbol))) (uses_follow (e.id ∷ seen) (code_of c entries fs)) h k

    low_on : (x : ℕ) (seen : List ℕ) → Low n seen → Low n (x ∷ seen)
    low_on x seen low u y h lt = or_right (nat_eq x y) (contains seen y) (low u y h lt)

    walk : (before es : List Entry) (seen : List ℕ) → entries ≡ before ++ es → Low n seen
        → ((f : Entry) → Among before f → place f.symbol ≡ n → contains seen f.id ≡ true) → uses_follow seen
        (code_of c entries (part_of c section es)) ≡ true
    walk before [] seen eq low own = refl
    walk before (e ∷ es) seen eq low own =
        by (in_section c section e) refl (eqb_tells (place e.symbol) (order section))
        (λ d. walk (before ++ e ∷ []) es (e.id ∷ seen) (eq ∙ sym (append_assoc before (e ∷ []) es)) (low_on e.id seen low) (with_own d))
        (λ d. walk (before ++ e ∷ []) es seen (eq ∙ sym (append_assoc before (e ∷ []) es)) low (without d)) where
          with_own : place e.symbol ≡ n → (f : Entry) → Among (before ++ e ∷ []) f → place f.symbol ≡ n → contains (e.id ∷ seen) f.id ≡ true
          with_own d f h q = ⊎_elim (λ i. or_right (nat_eq e.id f.id) (contains seen f.id) (own f i q))
              (λ i. ⊎_elim (λ z. or_left (nat_eq e.id f.id) (contains seen f.id) (eq-eqb e.id f.id (ap (λ (g : Entry). g.id) z))) (λ z. absurd z) i)
              (among_either before (e ∷ []) f h)

          without : (place e.symbol ≡ n → ⊥) → (f : Entry) → Among (before ++ e ∷ []) f → place f.symbol ≡ n → contains seen f.id ≡ true
          without d f h q = ⊎_elim (λ i. own f i q) (λ i. ⊎_elim (λ z. absurd (d (ap (λ (g : Entry). place g.symbol) z ∙ q))) (λ z. absurd z) i)
              (among_either before (e ∷ []) f h)

          there : AreThere entries (needs c e.symbol) e.id
          there = tb.founded (length before) e (subst (λ l. slice_get l (length before) ≡ Some e) (sym eq) (seam before e es))

          by : (b : Bool) → in_section c section e ≡ b → ((nat_eq (place e.symbol) (order section) ≡ true) × (place e.symbol ≡ order section))
              ⊎ ((nat_eq (place e.symbol) (order section) ≡ false) × (place e.symbol ≢ order section))
              → (place e.symbol ≡ n → uses_follow (e.id ∷ seen) (code_of c entries (part_of c section es)) ≡ true)
              → ((place e.symbol ≡ n → ⊥) → uses_follow seen (code_of c entries (part_of c section es)) ≡ true)
              → uses_follow seen (code_of c entries (cond (in_section c section e) (e ∷ part_of c section es) (part_of c section es))) ≡ true
          by b d (inl p) f g =
              let q : place e.symbol ≡ n = p.1 ∙ here in
              ap (λ x. uses_follow seen (code_of c entries (cond x (e ∷ part_of c section es) (part_of c section es)))) p.0
              ∙ follow_one seen e (part_of c section es)
              (uses_seen seen before es e eq low own (needs c e.symbol) there (subst (λ m. list_all (stands_behind c m) (needs c e.symbol) ≡ true) q
              (earlier c e.symbol))) (f q)
          by b d (inr p) f g =
              ap (λ x. uses_follow seen (code_of c entries (cond x (e ∷ part_of c section es) (part_of c section es)))) p.0 ∙ g
              (λ q. p.1 (q ∙ sym here))

    pub section_follows : (seen : List ℕ) → Low n seen → uses_follow seen (section_code c section entries) ≡ true
    section_follows seen low = walk [] entries seen refl low (λ f h d. absurd h)

    -- behind it all symbols of the section were seen
    pub section_low : (seen : List ℕ) → Low n seen → Low (n + 1) (behind seen (section_code c section entries))
    section_low seen low u y h lt = by (nat_lt (place u) n) refl where
      by : (b : Bool) → nat_lt (place u) n ≡ b → contains (behind seen (section_code c section entries)) y ≡ true
      by true d = still_seen seen (section_code c section entries) y (low u y h (grind (arith, nat_tests, d)))
      by false d =
          let q : place u ≡ n = grind (arith, nat_tests, d, lt) in
          let a = among_kept (in_section c section) entries (entry u y) (get_among entries h.0 (entry u y) h.1)
          (equal_tells (place u) (order section) (q ∙ sym here)) in
          now_seen seen (section_code c section entries) y (ap (λ l. contains l y) (code_results c entries (part_of c section entries)) ∙ id_contained
          (part_of c section entries) (entry u y) a)

  module _ (cs : List Numbered) (so : Sorts entries cs) where
    constants_follow_in : (ps : List Numbered) (seen : List ℕ) → ((e : Entry) → Among (map entry_for ps) e → Among entries e) → Low 2 seen
        → uses_follow seen (code_of c entries (map entry_for ps)) ≡ true
    constants_follow_in [] seen a low = refl
    constants_follow_in (p ∷ ps) seen a low =
        let g = among_get entries (entry_for p) (a (entry_for p) (inl refl)) in
        let t = tb.founded g.0 (entry_for p) g.1 in
        follow_one 2 Constants refl seen (entry_for p) (map entry_for ps)
        (and_from (contains seen (id_of entries (AType Word))) true
        (subst (λ x. contains seen x ≡ true) (sym (found_id c entries next (AType Word) t.0.0 tb t.0.1)) (low (AType Word) t.0.0 t.0.1 (omega arith)))
        refl)
        (constants_follow_in ps (p.id ∷ seen) (λ e h. a e (inr h)) (λ u y h lt. or_right (nat_eq p.id y) (contains seen y) (low u y h lt)))

    pub constants_follow : (seen : List ℕ) → Low 2 seen → uses_follow seen (code_of c entries (map entry_for cs)) ≡ true
    constants_follow seen low = constants_follow_in cs seen (λ e h. (constant_there c entries next tb cs so e h).0) low

    pub constants_low : (seen : List ℕ) → Low 2 seen → Low 3 (behind seen (code_of c entries (map entry_for cs)))
    constants_low seen low u y h lt = by (nat_lt (place u) 2) refl where
      by : (b : Bool) → nat_lt (place u) 2 ≡ b → contains (behind seen (code_of c entries (map entry_for cs))) y ≡ true
      by true d = still_seen seen (code_of c entries (map entry_for cs)) y (low u y h (grind (arith, nat_tests, d)))
      by false d =
          let q : place u ≡ 2 = grind (arith, nat_tests, d, lt) in
          now_seen seen (code_of c entries (map entry_for cs)) y
          (ap (λ l. contains l y) (code_results c entries (map entry_for cs)) ∙ id_contained (map entry_for cs) (entry u y)
          (constant_among c entries next tb cs so u y h q))
